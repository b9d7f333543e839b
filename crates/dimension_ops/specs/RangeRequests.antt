-- What requests that add, change or delete a named range answer, and what they make of a spreadsheet (Google Sheets
-- API v4 reference, AddNamedRangeRequest, UpdateNamedRangeRequest, DeleteNamedRangeRequest). A range that is renamed
-- has its name changed in formulas, too. How many ranges there may be is the caller's to say.
use Rattle.std.specs.Prelude.{◌≡◌, ◌↔◌, ◌⊎◌, ℕ, true, false, List, [], ◌∷◌, Option, None, is_some, Result, Err, IfOk, IfErr, OnOk, OnErr, option_and_then}
use Rattle.std.specs.Option.{IsSome, option_map, option_map_or}
use Rattle.cell_value.specs.Ids.{IsNewId, is_taken}
use Rattle.grid_range.specs.declared.area.Area.{Area}
use Rattle.named_ranges.specs.Given.{given_range}
use Rattle.named_ranges.specs.Listed.{IsBadName, IsFirstUnused, IsTakenName, has_id, with_changed, with_id, with_name}
use Rattle.named_ranges.specs.NameRule.{IsName}
use Rattle.named_ranges.specs.declared.range.NameFault.{NameFault}
use Rattle.named_ranges.specs.declared.range.NameFault.TheVariants.{NoId, IdTaken, BadName, NameTaken, NoMemory}
use Rattle.named_ranges.specs.declared.range.NamedRange.{NamedRange}
use Rattle.world_model.specs.Book.{PlaceBook}
use Rattle.world_model.specs.BookChange.{AreChanges, BookChange}
use Rattle.world_model.specs.RangeChange.{place_range_added, place_range_deleted}
use Rattle.dimension_ops.specs.declared.rule.Rule.{Rule}
use Rattle.dimension_ops.specs.declared.rule.Rule.TheVariants as rule
use Rattle.dimension_ops.specs.declared.rule.RuleOr.{RuleOr}
use Rattle.dimension_ops.specs.declared.rule.RuleOr.TheVariants as refusal

-- ---- a range is added

abbrev pub range_of : List ℕ → List ℕ → Area → NamedRange
range_of id name area = record { id = id; name = name; area = area }

-- the answer to a range that is to be added: its id, which is the one that is asked for or else the first of nr1, nr2
-- and so on that none has, or the rule that it breaks, and then the spreadsheet is as it was
pub record IsRangeAdded (id : Option (List ℕ)) (name : List ℕ) (area : Area) (before after : PlaceBook)
    (answer : Result (List ℕ) Rule) : Type 0 where
  pub id_taken : (answer ≡ Err rule.IdTaken) ↔ (is_taken (has_id before.ranges) id ≡ true)
  pub bad_name : (answer ≡ Err rule.BadName) ↔ ((is_taken (has_id before.ranges) id ≡ false) × ¬ (IsName name))
  pub name_taken : (answer ≡ Err rule.NameTaken)
      ↔ ((is_taken (has_id before.ranges) id ≡ false) × IsName name × (is_some (with_name name before.ranges) ≡ true))
  pub no_other : IfErr answer (λ broken. (broken ≡ rule.IdTaken) ⊎ (broken ≡ rule.BadName) ⊎ (broken ≡ rule.NameTaken))
  pub new_id : IfOk answer (IsNewId (IsFirstUnused before.ranges) id)
  pub added : IfOk answer (λ new. after ≡ place_range_added (range_of new name area) before)
  pub names : IfOk answer (λ new. AreChanges (BookChange.RangeAdded (range_of new name area) ∷ []) before after)
  pub unchanged : OnErr answer (after ≡ before)

-- ---- a range is changed

-- the changes: the range gets what is given, and each word that is its name becomes the name that is given
abbrev pub range_set : Option (List ℕ) → Option Area → NamedRange → List BookChange
range_set name area range =
    BookChange.RangeChanged (given_range name area range)
    ∷ option_map_or (λ given. BookChange.WordsRenamed range.name given ∷ []) name []

abbrev pub range_updates : List ℕ → Option (List ℕ) → Option Area → List NamedRange → List BookChange
range_updates id name area ranges = option_map_or (range_set name area) (with_id id ranges) []

-- the answer to what is given of the range with the id: the rule that it breaks, and then the spreadsheet is as it was,
-- or else the changes
pub record IsRangeUpdated (id : List ℕ) (name : Option (List ℕ)) (area : Option Area) (before after : PlaceBook)
    (answer : Result (Unit {0}) Rule) : Type 0 where
  pub no_id : (answer ≡ Err rule.NoId) ↔ (with_id id before.ranges ≡ None)
  pub bad_name : (answer ≡ Err rule.BadName) ↔ (IsSome (with_id id before.ranges) × IsBadName name)
  pub name_taken : (answer ≡ Err rule.NameTaken)
      ↔ (IsSome (with_id id before.ranges) × IsTakenName id name before.ranges)
  pub no_other : IfErr answer (λ broken. (broken ≡ rule.NoId) ⊎ (broken ≡ rule.BadName) ⊎ (broken ≡ rule.NameTaken))
  pub ranges : OnOk answer (after.ranges ≡ with_changed id (given_range name area) before.ranges)
  pub names : OnOk answer (AreChanges (range_updates id name area before.ranges) before after)
  pub unchanged : OnErr answer (after ≡ before)

-- ---- a range is deleted

-- the answer to the deletion of the range with the id: whether there is none, and then the spreadsheet is as it was, or
-- else it is gone
pub record IsRangeDropped (id : List ℕ) (before after : PlaceBook) (answer : Result (Unit {0}) Rule) : Type 0 where
  pub no_id : (answer ≡ Err rule.NoId) ↔ (with_id id before.ranges ≡ None)
  pub no_other : IfErr answer (λ broken. broken ≡ rule.NoId)
  pub dropped : OnOk answer (after ≡ place_range_deleted id before)
  pub names : OnOk answer (AreChanges (BookChange.RangeDeleted id ∷ []) before after)
  pub unchanged : OnErr answer (after ≡ before)

-- ---- what the private functions hand to one another

-- what a fault of the list of ranges is to a request
abbrev pub refusal_of : NameFault → RuleOr
refusal_of NoId = refusal.Rule rule.NoId
refusal_of IdTaken = refusal.Rule rule.IdTaken
refusal_of BadName = refusal.Rule rule.BadName
refusal_of NameTaken = refusal.Rule rule.NameTaken
refusal_of NoMemory = refusal.NoMemory

-- the name of the range and the one that is given in its place
abbrev pub words_given : Option (List ℕ) → Option NamedRange → Option (List ℕ × List ℕ)
words_given name range = option_and_then (λ found. option_map (λ given. (found.name, given)) name) range
