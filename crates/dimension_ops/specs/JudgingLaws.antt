-- Laws of what is judged: what is known where no rule is broken, or a rule is the first that is.
use Rattle.std.proofs.Common.{◌≡◌, refl, sym, ap, Bool, true, false, cond}
use Rattle.std.specs.Prelude.{None, Option, Result, Some, Ok, Err}
use Rattle.std.specs.Option.{option_map_or}
use Rattle.std.proofs.lemmas.Option.{none-some}
use Rattle.dimension_ops.specs.Broken.{Broken, Passes, broken_behind, first_broken, first_passed}
use Rattle.dimension_ops.specs.declared.rule.Limit.{Limit}
use Rattle.dimension_ops.specs.declared.rule.Limit.TheVariants as limit
use Rattle.dimension_ops.specs.declared.rule.Rule.{Rule}
use Rattle.dimension_ops.specs.declared.rule.Rule.TheVariants as rule

-- where none is there, the first is not, and none of the rest
pub not_first : {A : Type 0} (b : Bool) (one : A) (rest : Option A) → cond b (Some one) rest ≡ None
    → (b ≡ false) × (rest ≡ None)
not_first true one rest none = absurd (none-some one (sym none))
not_first false one rest none = (refl, none)

module _ {A : Type 0} where
  wrong_or_right : (result : Result A Rule) (one : Rule) (told : A) → result ≡ Err one → result ≡ Ok told → ⊥
  wrong_or_right result one told wrong right = cc

  same_wrong : (result : Result A Rule) (one other : Rule) → result ≡ Err one → result ≡ Err other → one ≡ other
  same_wrong result one other is same = cc

  -- what is told to be broken is the first rule that is
  pub judged_wrong : (result : Result A Rule) (one : Rule) (told : A) (broken : Option Rule) → result ≡ Err one
      → result ≡ option_map_or Err broken (Ok told) → broken ≡ Some one
  judged_wrong result one told None wrong is = absurd (wrong_or_right result one told wrong is)
  judged_wrong result one told (Some other) wrong is = ap Some (sym (same_wrong result one other wrong is))

-- no rule up to the limits is broken
pub record BreaksNone (broken : Broken) : Type 0 where
  pub bad_shape : broken.bad_shape ≡ false
  pub no_sheet : broken.no_sheet ≡ false
  pub bad_range : broken.bad_range ≡ false
  pub outside_grid : broken.outside_grid ≡ false
  pub no_id : broken.no_id ≡ false
  pub id_taken : broken.id_taken ≡ false
  pub bad_name : broken.bad_name ≡ false
  pub name_taken : broken.name_taken ≡ false
  pub last_line : broken.last_line ≡ false
  pub last_sheet : broken.last_sheet ≡ false
  pub past_limit : broken.past_limit ≡ None

no_limit : (passed : Option Limit) (behind : Option Rule)
    → option_map_or (λ one. Some (rule.PastLimit one)) passed behind ≡ None → passed ≡ None
no_limit None behind none = refl
no_limit (Some one) behind none = absurd (none-some (rule.PastLimit one) (sym none))

-- so it is where none is the first that is broken
pub breaks_none : (broken : Broken) → first_broken broken ≡ None → BreaksNone broken
breaks_none broken none =
    let behind = option_map_or (λ one. Some (rule.PastLimit one)) broken.past_limit (broken_behind broken) in
    let last_sheet = cond broken.last_sheet (Some rule.LastSheet) behind in
    let last_line = cond broken.last_line (Some rule.LastLine) last_sheet in
    let inherit = cond broken.inherit_at_zero (Some rule.InheritAtZero) last_line in
    let name_taken = cond broken.name_taken (Some rule.NameTaken) inherit in
    let bad_name = cond broken.bad_name (Some rule.BadName) name_taken in
    let id_taken = cond broken.id_taken (Some rule.IdTaken) bad_name in
    let no_id = cond broken.no_id (Some rule.NoId) id_taken in
    let outside = cond broken.outside_grid (Some rule.OutsideGrid) no_id in
    let bad_range = cond broken.bad_range (Some rule.BadRange) outside in
    let no_sheet = cond broken.no_sheet (Some rule.NoSheet) bad_range in
    let shape = not_first broken.bad_shape rule.BadShape no_sheet none in
    let sheet = not_first broken.no_sheet rule.NoSheet bad_range shape.1 in
    let range = not_first broken.bad_range rule.BadRange outside sheet.1 in
    let grid = not_first broken.outside_grid rule.OutsideGrid no_id range.1 in
    let id = not_first broken.no_id rule.NoId id_taken grid.1 in
    let taken = not_first broken.id_taken rule.IdTaken bad_name id.1 in
    let name = not_first broken.bad_name rule.BadName name_taken taken.1 in
    let other = not_first broken.name_taken rule.NameTaken inherit name.1 in
    let inherits = not_first broken.inherit_at_zero rule.InheritAtZero last_line other.1 in
    let line = not_first broken.last_line rule.LastLine last_sheet inherits.1 in
    let last = not_first broken.last_sheet rule.LastSheet behind line.1 in
    record {
      bad_shape = shape.0;
      no_sheet = sheet.0;
      bad_range = range.0;
      outside_grid = grid.0;
      no_id = id.0;
      id_taken = taken.0;
      bad_name = name.0;
      name_taken = other.0;
      last_line = line.0;
      last_sheet = last.0;
      past_limit = no_limit broken.past_limit (broken_behind broken) last.1;
    }

-- no limit on sheets and their sizes is passed
pub record PassesNone (passes : Passes) : Type 0 where
  pub sheets : passes limit.Sheets ≡ false
  pub rows : passes limit.Rows ≡ false
  pub cols : passes limit.Columns ≡ false
  pub cells : passes limit.Cells ≡ false

-- so it is where none is the first that is passed
pub passes_none : (passes : Passes) → first_passed passes ≡ None → PassesNone passes
passes_none passes none =
    let books = not_first (passes limit.Books) limit.Books _ none in
    let sheets = not_first (passes limit.Sheets) limit.Sheets _ books.1 in
    let rows = not_first (passes limit.Rows) limit.Rows _ sheets.1 in
    let cols = not_first (passes limit.Columns) limit.Columns _ rows.1 in
    let cells = not_first (passes limit.Cells) limit.Cells _ cols.1 in
    record { sheets = sheets.0; rows = rows.0; cols = cols.0; cells = cells.0 }
