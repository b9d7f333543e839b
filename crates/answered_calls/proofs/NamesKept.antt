-- Named ranges of which no two have one id or one name stay so where they follow lines, where some of them are lost,
-- and where one is updated.
use Rattle.std.proofs.Common.{◌≡◌, ◌≢◌, ℕ, suc, List, [], ◌∷◌, get_or, map, refl, sym, ap, subst, ◌∙◌, cond, Bool, true, false, not, ◌&&◌, arith}
use Rattle.std.specs.Prelude.{Option, None, Some, Contains, IfOk, Result, Ok, Err, ◌==◌, unwrap_or}
use Rattle.std.specs.List.{All, cons_option, filter_map}
use Rattle.std.specs.Option.{option_map}
use Rattle.std.specs.Str.{bytes_eq, str_to_ascii_lowercase}
use Rattle.std.proofs.lemmas.Bool.{and_from}
use Rattle.std.proofs.lemmas.List.Elements.{Contains-get_or}
use Rattle.std.proofs.lemmas.List.Folds.{list_any_at}
use Rattle.std.proofs.lemmas.List.Kept.{AllPairs-cons, AllPairs-filter}
use Rattle.std.proofs.lemmas.Option.{none-some, same_Some}
use Rattle.std.proofs.lemmas.Slice.Eq.{bytes_eq-Decides}
use Rattle.cell_value.specs.Elements.{Contains-cons, Contains-filter_map_from, Contains-head, Contains-map_from}
use Rattle.grid_range.specs.Tracking.{area_followed}
use Rattle.grid_range.specs.declared.area.Area.{Area}
use Rattle.grid_range.specs.declared.axis.Axis.{Axis}
use Rattle.grid_range.specs.declared.change.Change.{Change}
use Rattle.named_ranges.specs.Following.{range_followed, ranges_elsewhere}
use Rattle.named_ranges.specs.Given.{given_range}
use Rattle.named_ranges.specs.Listed.{AreApart, AreNames, IsBadName, IsTakenName, is_same_name, with_changed}
use Rattle.named_ranges.specs.declared.range.NamedRange.{NamedRange}
use Rattle.world_model.specs.Book.{PlaceBook}
use Rattle.world_model.specs.BookChange.{AreChanges, BookChange}
use Rattle.dimension_ops.specs.declared.rule.Rule.{Rule}
use Rattle.batch_engine.specs.MadeLaws.{CanBeMade}

-- what is made of a spreadsheet keeps that no two of its named ranges have one id or one name
abbrev pub KeepsNames : PlaceBook → PlaceBook → Type 0
KeepsNames book after = AreNames book.ranges → AreNames after.ranges

-- what is told can be made, and keeps that
abbrev pub CanBeMadeNamed : {A : Type 0} → PlaceBook → Result (A × List BookChange) Rule → Type 0
CanBeMadeNamed book told =
    IfOk told (λ done. (after : PlaceBook) × AreChanges done.1 book after × KeepsNames book after)

pub can_be_made : {A : Type 0} (book : PlaceBook) (told : Result (A × List BookChange) Rule) → CanBeMadeNamed book told
    → CanBeMade book told
can_be_made book (Ok done) (after, changes, keeps) = (after, changes)
can_be_made book (Err broken) can = tt

-- ---- the first range, and the others

first_apart : (first : NamedRange) (rest : List NamedRange) → AreNames (first ∷ rest) → (other : NamedRange)
    → Contains rest other → AreApart first other
first_apart first rest apart other (k, there, at) =
    subst (AreApart first) at (apart 0 (suc k) other (omega arith) (omega (arith, there)))

rest_apart : (first : NamedRange) (rest : List NamedRange) → AreNames (first ∷ rest) → AreNames rest
rest_apart first rest apart i j d less there =
    apart (suc i) (suc j) d (omega (arith, less)) (omega (arith, there))

all_from : (P : NamedRange → Type 0) (ranges : List NamedRange)
    → ((range : NamedRange) → Contains ranges range → P range) → All P ranges
all_from P ranges holds k d there = holds (get_or ranges k d) (Contains-get_or ranges k d there)

-- ---- ranges that follow, and those of other sheets

abbrev IsAlike : NamedRange → NamedRange → Type 0
IsAlike one other = (other.id ≡ one.id) × (other.name ≡ one.name)

apart_as : (one other one' other' : NamedRange) → IsAlike one one' → IsAlike other other' → AreApart one other
    → AreApart one' other'
apart_as one other one' other' alike alike' apart = record {
  ids = λ same. apart.ids (sym alike.0 ∙ same ∙ alike'.0);
  names = λ same.
      apart.names (ap str_to_ascii_lowercase (sym alike.1) ∙ same ∙ ap str_to_ascii_lowercase alike'.1);
}

module _ (follow : NamedRange → Option NamedRange)
    (alike : (one other : NamedRange) → follow one ≡ Some other → IsAlike one other) where
  first_left : (first : NamedRange) (rest : List NamedRange) → AreNames (first ∷ rest)
      → AreNames (filter_map follow rest) → (becomes : Option NamedRange) → follow first ≡ becomes
      → AreNames (cons_option becomes (filter_map follow rest))
  first_left first rest apart left None is = left
  first_left first rest apart left (Some one) is =
      AllPairs-cons AreApart one (filter_map follow rest)
      (all_from (AreApart one) (filter_map follow rest) (λ other has.
      let (from, there, went) = Contains-filter_map_from follow rest other has in
      apart_as first from one other (alike first one is) (alike from other went)
      (first_apart first rest apart from there))) left

  left_apart : (ranges : List NamedRange) → AreNames ranges → AreNames (filter_map follow ranges)
  left_apart [] apart = apart
  left_apart (first ∷ rest) apart =
      first_left first rest apart (left_apart rest (rest_apart first rest apart)) (follow first) refl

followed_alike : (one other : NamedRange) (area : Option Area)
    → option_map (λ area. record one { area = area }) area ≡ Some other → IsAlike one other
followed_alike one other None is = absurd (none-some other is)
followed_alike one other (Some area) is =
    let same : record one { area = area } ≡ other = same_Some (record one { area = area }) other is in
    (ap (λ (range : NamedRange). range.id) (sym same), ap (λ (range : NamedRange). range.name) (sym same))

pub names_follow : (id : ℕ) (axis : Axis) (count : ℕ) (change : Change) (ranges : List NamedRange) → AreNames ranges
    → AreNames (filter_map (range_followed id axis count change) ranges)
names_follow id axis count change ranges =
    left_apart (range_followed id axis count change)
    (λ one other. followed_alike one other (area_followed id axis count change one.area)) ranges

pub names_elsewhere : (id : ℕ) (ranges : List NamedRange) → AreNames ranges → AreNames (ranges_elsewhere id ranges)
names_elsewhere id ranges = AllPairs-filter AreApart (λ range. not (range.area.sheet == id)) ranges

-- ---- a range that is updated

module _ (id : List ℕ) (name : Option (List ℕ)) (area : Option Area) (ranges : List NamedRange)
    (good : ¬ (IsBadName name)) (free : ¬ (IsTakenName id name ranges)) where
  abbrev changed : NamedRange → NamedRange
  changed range = cond (bytes_eq id range.id) (given_range name area range) range

  abbrev lower : List ℕ → List ℕ
  lower = str_to_ascii_lowercase

  -- another range hasn't the name that is given
  given_apart : (given : Option (List ℕ)) → ¬ (IsBadName given) → ¬ (IsTakenName id given ranges)
      → (own : List ℕ) (other : NamedRange) → Contains ranges other → bytes_eq id other.id ≡ false
      → lower own ≢ lower other.name → lower (unwrap_or given own) ≢ lower other.name
  given_apart None good free own other (k, there, at) else apart = apart
  given_apart (Some new) good free own other (k, there, at) else apart = λ same.
      good (λ is_name. free (
        is_name,
        list_any_at
            (λ range. is_same_name new range.name && not (bytes_eq id range.id)) ranges k other there
            (ap (λ (range : NamedRange). is_same_name new range.name && not (bytes_eq id range.id)) at
            ∙ and_from (is_same_name new other.name) (not (bytes_eq id other.id))
            ((bytes_eq-Decides (lower new) (lower other.name)).1 same) (ap not else)),
      ))

  both_apart : (one other : NamedRange) → Contains ranges one → Contains ranges other → AreApart one other
      → (a b : Bool) → bytes_eq id one.id ≡ a → bytes_eq id other.id ≡ b
      → AreApart (cond a (given_range name area one) one) (cond b (given_range name area other) other)
  both_apart one other has has' apart true true is is' =
      absurd (apart.ids (sym ((bytes_eq-Decides id one.id).0 is) ∙ (bytes_eq-Decides id other.id).0 is'))
  both_apart one other has has' apart true false is is' = record {
    ids = apart.ids;
    names = given_apart name good free one.name other has' is' apart.names;
  }
  both_apart one other has has' apart false true is is' = record {
    ids = apart.ids;
    names = λ same. given_apart name good free other.name one has is (λ e. apart.names (sym e)) (sym same);
  }
  both_apart one other has has' apart false false is is' = apart

  all_apart : (some : List NamedRange) → ((range : NamedRange) → Contains some range → Contains ranges range)
      → AreNames some → AreNames (map changed some)
  all_apart [] among apart = apart
  all_apart (first ∷ rest) among apart =
      AllPairs-cons AreApart (changed first) (map changed rest)
      (all_from (AreApart (changed first)) (map changed rest) (λ other has.
      let (from, there, is) = Contains-map_from changed rest other has in
      subst (AreApart (changed first)) is
      (both_apart first from (among first (Contains-head first rest)) (among from (Contains-cons first from rest there))
      (first_apart first rest apart from there) (bytes_eq id first.id) (bytes_eq id from.id) refl refl)))
      (all_apart rest (λ range has. among range (Contains-cons first range rest has)) (rest_apart first rest apart))

  pub names_changed : AreNames ranges → AreNames (with_changed id (given_range name area) ranges)
  names_changed = all_apart ranges (λ range has. has)
