-- What is told of a filter that is set or cleared; one that breaks no rule is one that its sheet can have.
use Rattle.std.proofs.Common.{◌≡◌, ℕ, List, [], ◌∷◌, Bool, true, false, Bor, refl, sym, ap, subst, ◌∙◌}
use Rattle.std.specs.Prelude.{not, Option, None, Some, Result, Ok, Err, IfSome, IsSomeAnd}
use Rattle.std.specs.Option.{is_none, is_some, option_copied, option_map_or}
use Rattle.std.proofs.lemmas.Bool.{false≢true}
use Rattle.basic_filter.specs.declared.types.Criterion.{Criterion}
use Rattle.basic_filter.specs.declared.types.Filter.{Filter}
use Rattle.grid_range.specs.declared.area.Area.{Area}
use Rattle.world_model.specs.Book.{PlaceBook}
use Rattle.world_model.specs.BookChange.{AreChanges, BookChange}
use Rattle.world_model.specs.Sheet.{PlaceSheet}
use Rattle.world_model.specs.Sound.{IsFilterOf, place_sheet_with}
use Rattle.dimension_ops.specs.Broken.{first_broken, judged_by, unbroken}
use Rattle.dimension_ops.specs.declared.rule.Rule.{Rule}
use Rattle.dimension_ops.specs.declared.rule.Rule.TheVariants as rule
use Rattle.sheets_json.specs.declared.spreadsheet.Reply.{Reply}
use Rattle.sheets_json.specs.declared.spreadsheet.Reply.TheVariants as reply
use Rattle.request_kinds.specs.ClearBasicFilter.{basic_filter_cleared}
use Rattle.request_kinds.specs.Telling.{IsDoneTo}
use Rattle.request_kinds.specs.Rows.{cut_on}
use Rattle.request_kinds.specs.SetBasicFilter.{basic_filter_set, broken_by_filter, put_on}

-- ---- setBasicFilter

abbrev an_area : Area → Result Area Rule
an_area area = Ok area

abbrev a_rule : Rule → Result Area Rule
a_rule broken = Err broken

same_area : (one other : Area) → an_area one ≡ an_area other → one ≡ other
same_area one other e = cc

same_rule : (one other : Rule) → a_rule one ≡ a_rule other → one ≡ other
same_rule one other e = cc

not_both : (area : Area) (broken : Rule) → an_area area ≡ a_rule broken → ⊥
not_both area broken e = cc

abbrev as_judged : {A : Type 0} → Option Rule → A → Result A Rule
as_judged first told = option_map_or Err first (Ok told)

-- what is told of a filter
abbrev as_told : Reply × List BookChange → Result (Reply × List BookChange) Rule
as_told one = Ok one

abbrev as_refused : Rule → Result (Reply × List BookChange) Rule
as_refused broken = Err broken

-- whose range was cut, or that breaks a rule
cut_told : (first : Option Rule) (cut area : Area) (asked : Filter) → an_area area ≡ as_judged first cut
    → as_told (put_on asked area) ≡ as_judged first (put_on asked cut)
cut_told None cut area asked is = ap (λ one. as_told (put_on asked one)) (same_area area cut is)
cut_told (Some broken) cut area asked is = absurd (not_both area broken is)

rule_told : (first : Option Rule) (cut : Area) (broken : Rule) (asked : Filter) → a_rule broken ≡ as_judged first cut
    → as_refused broken ≡ as_judged first (put_on asked cut)
rule_told None cut broken asked is = absurd (not_both cut broken (sym is))
rule_told (Some first) cut broken asked is = ap as_refused (same_rule broken first is)

module _ (asked : Filter) (sheets : List PlaceSheet) where
  abbrev its_sheet : Option PlaceSheet
  its_sheet = place_sheet_with asked.area.sheet sheets

  pub filter_told : (area : Area) → an_area area
      ≡ judged_by (broken_by_filter its_sheet asked) (cut_on its_sheet asked.area)
      → as_told (put_on asked area) ≡ basic_filter_set asked sheets
  filter_told area is =
      cut_told (first_broken (broken_by_filter its_sheet asked)) (cut_on its_sheet asked.area) area asked is

  pub filter_refused : (broken : Rule)
      → a_rule broken ≡ judged_by (broken_by_filter its_sheet asked) (cut_on its_sheet asked.area)
      → as_refused broken ≡ basic_filter_set asked sheets
  filter_refused broken is =
      rule_told (first_broken (broken_by_filter its_sheet asked)) (cut_on its_sheet asked.area) broken asked is

-- where no sheet has the id of its range
pub no_sheet_told : (found : Option PlaceSheet) (asked : Filter) → None ≡ found
    → a_rule rule.NoSheet ≡ judged_by (broken_by_filter found asked) (cut_on found asked.area)
no_sheet_told found asked none =
    subst (λ found. a_rule rule.NoSheet ≡ judged_by (broken_by_filter found asked) (cut_on found asked.area)) none refl

abbrev pub with_criteria : Area → List Criterion → Filter
with_criteria area criteria = record { area = area; criteria = criteria }

-- it is put with its criteria copied
module _ (asked : Filter) (area : Area) (criteria : List Criterion) (same : criteria ≡ asked.criteria) where
  pub can_be_put : (found : Option PlaceSheet)
      → IsSomeAnd found (λ sheet. IsFilterOf sheet (with_criteria area asked.criteria))
      → IsSomeAnd found (λ sheet. IfSome (Some (with_criteria area criteria)) (IsFilterOf sheet))
  can_be_put found of =
      subst (λ one. IsSomeAnd found (λ sheet. IsFilterOf sheet (with_criteria area one))) (sym same) of

  pub filter_put : (before after : PlaceBook)
      → AreChanges (BookChange.FilterSet asked.area.sheet (Some (with_criteria area criteria)) ∷ []) before after
      → IsDoneTo (λ told. told ≡ as_told (put_on asked area)) before after (Ok reply.Empty)
  filter_put before after changes = (
    BookChange.FilterSet asked.area.sheet (Some (with_criteria area asked.criteria)) ∷ [],
    refl,
    subst (λ one. AreChanges (BookChange.FilterSet asked.area.sheet (Some (with_criteria area one)) ∷ []) before after)
        same changes,
  )

-- ---- clearBasicFilter

copied_none : {A : Type 0} (lent : Option (Bor A)) → is_none lent ≡ is_none (option_copied lent)
copied_none None = refl
copied_none (Some one) = refl

opposite : (x b : Bool) → x ≡ not b → not x ≡ b
opposite x true is = ap not is
opposite x false is = ap not is

-- whether the sheet was found
pub missing : (lent : Option (Bor PlaceSheet)) (found : Option PlaceSheet) (b : Bool) → option_copied lent ≡ found
    → is_some lent ≡ not b → is_none found ≡ b
missing lent found b is test = ap is_none (sym is) ∙ sym (copied_none lent) ∙ opposite (is_some lent) b test

pub can_be_cleared : (found : Option PlaceSheet) → is_none found ≡ false
    → IsSomeAnd found (λ sheet. IfSome None (IsFilterOf sheet))
can_be_cleared None there = absurd (false≢true (sym there))
can_be_cleared (Some sheet) there = tt

abbrev cleared_if : Bool → ℕ → Result (Reply × List BookChange) Rule
cleared_if none sheet =
    judged_by (record unbroken { no_sheet = none }) (reply.Empty, BookChange.FilterSet sheet None ∷ [])

pub clearing_refused : (sheet : ℕ) (sheets : List PlaceSheet) → is_none (place_sheet_with sheet sheets) ≡ true
    → as_refused rule.NoSheet ≡ basic_filter_cleared sheet sheets
clearing_refused sheet sheets none = ap (λ none. cleared_if none sheet) (sym none)

pub filter_cleared : (sheet : ℕ) (before after : PlaceBook) → is_none (place_sheet_with sheet before.sheets) ≡ false
    → AreChanges (BookChange.FilterSet sheet None ∷ []) before after
    → IsDoneTo (λ told. told ≡ basic_filter_cleared sheet before.sheets) before after (Ok reply.Empty)
filter_cleared sheet before after there changes =
    (BookChange.FilterSet sheet None ∷ [], ap (λ none. cleared_if none sheet) (sym there), changes)
