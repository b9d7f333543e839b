-- What calls on named ranges answer, from what the list of ranges answers, and the changes that they make.
use Rattle.std.proofs.Common.{◌≡◌, ℕ, refl, sym, ap, subst, ◌∙◌, List, [], ◌∷◌, true, false, inl, inr}
use Rattle.std.specs.Prelude.{◌↔◌, ◌≢◌, Option, None, Some, Result, Ok, Err, IfErr, IfSome, MatchOption, OnErr, OnOk, is_some}
use Rattle.std.specs.Option.{IsSome, option_map_or}
use Rattle.cell_value.specs.Ids.{IsNewId, is_taken}
use Rattle.grid_range.specs.declared.area.Area.{Area}
use Rattle.named_ranges.specs.Given.{given_range}
use Rattle.named_ranges.specs.Listed.{AreNames, IsBadName, IsFirstUnused, IsTakenName, has_id, with_changed, with_id, with_name}
use Rattle.named_ranges.specs.NameRule.{IsName}
use Rattle.named_ranges.specs.declared.range.NameFault.{NameFault}
use Rattle.named_ranges.specs.declared.range.NameFault.TheVariants as fault
use Rattle.named_ranges.specs.declared.range.NamedRange.{NamedRange}
use Rattle.world_model.specs.Book.{PlaceBook}
use Rattle.world_model.specs.BookChange.{AreChanges, BookChange}
use Rattle.world_model.specs.ChangingLaws.{ChangesInTurn}
use Rattle.world_model.specs.RangeChange.{PlaceWordsRenamed, place_range_added, place_range_changed, place_range_deleted, with_place_ranges}
use Rattle.world_model.specs.RangeLaws.{RangesChanged, RangesDeleted, WordsAreRenamed}
use Rattle.world_model.specs.Sound.{IsOnSheet, IsSound}
use Rattle.dimension_ops.specs.RangeLaws.{changed_as, found_on, given_on, has_its_id, only_one}
use Rattle.dimension_ops.specs.RangeRequests.{IsRangeAdded, IsRangeDropped, IsRangeUpdated, range_of, range_set, range_updates, refusal_of, words_given}
use Rattle.dimension_ops.specs.Rules.{IsUnlessNoMemory}
use Rattle.dimension_ops.specs.declared.rule.Rule.{Rule}
use Rattle.dimension_ops.specs.declared.rule.Rule.TheVariants as rule

-- ---- refusals

-- both hold, or neither does
both : {A B T : Type 0} → A → B → (B ↔ T) → A ↔ T
both a b same = (λ _. same.0 b, λ _. a)

neither : {A B T : Type 0} → (A → ⊥) → (B → ⊥) → (B ↔ T) → A ↔ T
neither no_a no_b same = (λ a. absurd (no_a a), λ t. absurd (no_b (same.1 t)))

no_error : {A E : Type 0} (value : A) (error : E) → Ok value ≡ Err error → ⊥
no_error value error same = cc

module _ (id : Option (List ℕ)) (name : List ℕ) (area : Area) (before after : PlaceBook) where
  abbrev Taken : Type 0
  Taken = is_taken (has_id before.ranges) id ≡ true

  abbrev Bad : Type 0
  Bad = (is_taken (has_id before.ranges) id ≡ false) × ¬ (IsName name)

  abbrev Named : Type 0
  Named = (is_taken (has_id before.ranges) id ≡ false) × IsName name × (is_some (with_name name before.ranges) ≡ true)

  abbrev Answer : Type 0
  Answer = Result (List ℕ) NameFault

  pub range_refused : (broken : NameFault) → (◌≡◌ {A = Answer} (Err broken) (Err fault.IdTaken)) ↔ Taken
      → (◌≡◌ {A = Answer} (Err broken) (Err fault.BadName)) ↔ Bad
      → (◌≡◌ {A = Answer} (Err broken) (Err fault.NameTaken)) ↔ Named
      → ◌≢◌ {A = Answer} (Err broken) (Err fault.NoId) → after ≡ before
      → IsUnlessNoMemory (IsRangeAdded id name area before after) (Err (refusal_of broken))
  range_refused fault.NoId taken bad named no_other same = absurd (no_other refl)
  range_refused fault.IdTaken taken bad named no_other same = record {
    id_taken = both refl refl taken;
    bad_name = neither (λ e. cc) (λ e. cc) bad;
    name_taken = neither (λ e. cc) (λ e. cc) named;
    no_other = inl refl;
    new_id = tt;
    added = tt;
    names = tt;
    unchanged = same;
  }
  range_refused fault.BadName taken bad named no_other same = record {
    id_taken = neither (λ e. cc) (λ e. cc) taken;
    bad_name = both refl refl bad;
    name_taken = neither (λ e. cc) (λ e. cc) named;
    no_other = inr (inl refl);
    new_id = tt;
    added = tt;
    names = tt;
    unchanged = same;
  }
  range_refused fault.NameTaken taken bad named no_other same = record {
    id_taken = neither (λ e. cc) (λ e. cc) taken;
    bad_name = neither (λ e. cc) (λ e. cc) bad;
    name_taken = both refl refl named;
    no_other = inr (inr refl);
    new_id = tt;
    added = tt;
    names = tt;
    unchanged = same;
  }
  range_refused fault.NoMemory taken bad named no_other same = tt

  pub range_added : (new : List ℕ) → (◌≡◌ {A = Answer} (Ok new) (Err fault.IdTaken)) ↔ Taken
      → (◌≡◌ {A = Answer} (Ok new) (Err fault.BadName)) ↔ Bad
      → (◌≡◌ {A = Answer} (Ok new) (Err fault.NameTaken)) ↔ Named
      → IsNewId (IsFirstUnused before.ranges) id new
      → after ≡ place_range_added (range_of new name area) before
      → AreChanges (BookChange.RangeAdded (range_of new name area) ∷ []) before
      (place_range_added (range_of new name area) before)
      → IsRangeAdded id name area before after (Ok new)
  range_added new taken bad named is_new made changes = record {
    id_taken = neither (λ e. cc) (λ e. cc) taken;
    bad_name = neither (λ e. cc) (λ e. cc) bad;
    name_taken = neither (λ e. cc) (λ e. cc) named;
    no_other = tt;
    new_id = is_new;
    added = made;
    names = subst (AreChanges (BookChange.RangeAdded (range_of new name area) ∷ []) before) (sym made) changes;
    unchanged = tt;
  }

module _ (id : List ℕ) (name : Option (List ℕ)) (area : Option Area) (before after : PlaceBook) where
  abbrev There : Type 0
  There = IsSome (with_id id before.ranges)

  abbrev Outcome : Type 0
  Outcome = Result (Unit {0}) NameFault

  pub update_refused : (broken : NameFault)
      → (◌≡◌ {A = Outcome} (Err broken) (Err fault.NoId)) ↔ (with_id id before.ranges ≡ None)
      → (◌≡◌ {A = Outcome} (Err broken) (Err fault.BadName)) ↔ (There × IsBadName name)
      → (◌≡◌ {A = Outcome} (Err broken) (Err fault.NameTaken)) ↔ (There × IsTakenName id name before.ranges)
      → ◌≢◌ {A = Outcome} (Err broken) (Err fault.IdTaken) → after ≡ before
      → IsUnlessNoMemory (IsRangeUpdated id name area before after) (Err (refusal_of broken))
  update_refused fault.NoId none bad taken no_other same = record {
    no_id = both refl refl none;
    bad_name = neither (λ e. cc) (λ e. cc) bad;
    name_taken = neither (λ e. cc) (λ e. cc) taken;
    no_other = inl refl;
    ranges = tt;
    names = tt;
    unchanged = same;
  }
  update_refused fault.IdTaken none bad taken no_other same = absurd (no_other refl)
  update_refused fault.BadName none bad taken no_other same = record {
    no_id = neither (λ e. cc) (λ e. cc) none;
    bad_name = both refl refl bad;
    name_taken = neither (λ e. cc) (λ e. cc) taken;
    no_other = inr (inl refl);
    ranges = tt;
    names = tt;
    unchanged = same;
  }
  update_refused fault.NameTaken none bad taken no_other same = record {
    no_id = neither (λ e. cc) (λ e. cc) none;
    bad_name = neither (λ e. cc) (λ e. cc) bad;
    name_taken = both refl refl taken;
    no_other = inr (inr refl);
    ranges = tt;
    names = tt;
    unchanged = same;
  }
  update_refused fault.NoMemory none bad taken no_other same = tt

  pub range_updated : (◌≡◌ {A = Outcome} (Ok tt) (Err fault.NoId)) ↔ (with_id id before.ranges ≡ None)
      → (◌≡◌ {A = Outcome} (Ok tt) (Err fault.BadName)) ↔ (There × IsBadName name)
      → (◌≡◌ {A = Outcome} (Ok tt) (Err fault.NameTaken)) ↔ (There × IsTakenName id name before.ranges)
      → after.ranges ≡ with_changed id (given_range name area) before.ranges
      → AreChanges (range_updates id name area before.ranges) before after
      → IsRangeUpdated id name area before after (Ok tt)
  range_updated none bad taken made changes = record {
    no_id = neither (λ e. cc) (λ e. cc) none;
    bad_name = neither (λ e. cc) (λ e. cc) bad;
    name_taken = neither (λ e. cc) (λ e. cc) taken;
    no_other = tt;
    ranges = made;
    names = changes;
    unchanged = tt;
  }

-- ---- the changes

module _ (in_turn : ChangesInTurn) (changing : RangesChanged) (renaming : WordsAreRenamed) (id : List ℕ)
    (name : Option (List ℕ)) (area : Option Area) (before between after : PlaceBook) (apart : AreNames before.ranges)
    (sound : IsSound before) (on : IfSome area (IsOnSheet before.sheets))
    (made : between ≡ with_place_ranges (with_changed id (given_range name area) before.ranges) before) where
  module _ (range : NamedRange) (found : with_id id before.ranges ≡ Some range) where
    abbrev now : NamedRange
    now = given_range name area range

    between_is : place_range_changed now before ≡ between
    between_is =
        sym (made ∙ ap (λ ranges. with_place_ranges ranges before)
        (changed_as id name area range (has_its_id id before.ranges range found) before.ranges
        (only_one id before.ranges range apart found)))

    range_changes : AreChanges (BookChange.RangeChanged now ∷ []) before between
    range_changes = subst (AreChanges (BookChange.RangeChanged now ∷ []) before) between_is
        (changing.changes before now
        (given_on before.sheets name area range on
        (found_on id (λ one. IsOnSheet before.sheets one.area) before.ranges range found sound.ranges)))

    then_words : (name : Option (List ℕ))
        → AreChanges (BookChange.RangeChanged now ∷ []) before between
        → MatchOption (words_given name (Some range)) (after ≡ between)
        (λ both. PlaceWordsRenamed both.0 both.1 between after)
        → AreChanges (BookChange.RangeChanged now
        ∷ option_map_or (λ new. BookChange.WordsRenamed range.name new ∷ []) name []) before after
    then_words None first renamed =
        subst (AreChanges (BookChange.RangeChanged now ∷ []) before) (sym renamed) first
    then_words (Some new) first renamed =
        in_turn.both (BookChange.RangeChanged now ∷ []) (BookChange.WordsRenamed range.name new ∷ []) before
        between after
        first (renaming.changes between after range.name new renamed)

  some_changes : (found : Option NamedRange) → with_id id before.ranges ≡ found → (found ≡ None → ⊥)
      → MatchOption (words_given name found) (after ≡ between) (λ both. PlaceWordsRenamed both.0 both.1 between after)
      → AreChanges (option_map_or (range_set name area) found []) before after
  some_changes None is there renamed = absurd (there refl)
  some_changes (Some range) is there renamed = then_words range is name (range_changes range is) renamed

  pub all_changes : (with_id id before.ranges ≡ None → ⊥) → (words : Option (List ℕ × List ℕ))
      → words ≡ words_given name (with_id id before.ranges)
      → MatchOption words (after ≡ between) (λ both. PlaceWordsRenamed both.0 both.1 between after)
      → AreChanges (range_updates id name area before.ranges) before after
  all_changes there words are renamed =
      some_changes (with_id id before.ranges) refl there
      (subst (λ words. MatchOption words (after ≡ between) (λ both. PlaceWordsRenamed both.0 both.1 between after)) are
      renamed)

  -- the ranges aren't touched by the words
  pub ranges_made : (words : Option (List ℕ × List ℕ))
      → MatchOption words (after ≡ between) (λ both. PlaceWordsRenamed both.0 both.1 between after)
      → after.ranges ≡ with_changed id (given_range name area) before.ranges
  ranges_made None same = ap (λ (book : PlaceBook). book.ranges) (same ∙ made)
  ranges_made (Some words) renamed = renamed.ranges ∙ ap (λ (book : PlaceBook). book.ranges) made

-- the answer of the whole call, once the range is changed and the words are renamed
pub update_done : ChangesInTurn → RangesChanged → WordsAreRenamed → (id : List ℕ) (name : Option (List ℕ))
    (area : Option Area) (before between after : PlaceBook) → AreNames before.ranges → IsSound before
    → IfSome area (IsOnSheet before.sheets)
    → (answer : Result (Unit {0}) NameFault) → ((broken : NameFault) → answer ≡ Err broken → ⊥)
    → (answer ≡ Err fault.NoId) ↔ (with_id id before.ranges ≡ None)
    → (answer ≡ Err fault.BadName) ↔ (IsSome (with_id id before.ranges) × IsBadName name)
    → (answer ≡ Err fault.NameTaken) ↔ (IsSome (with_id id before.ranges) × IsTakenName id name before.ranges)
    → OnOk answer (between ≡ with_place_ranges (with_changed id (given_range name area) before.ranges) before)
    → (words : Option (List ℕ × List ℕ)) → words ≡ words_given name (with_id id before.ranges)
    → MatchOption words (after ≡ between) (λ both. PlaceWordsRenamed both.0 both.1 between after)
    → IsRangeUpdated id name area before after (Ok tt)
update_done in_turn changing renaming id name area before between after apart sound on (Err broken) never none bad taken
    made words are renamed = absurd (never broken refl)
update_done in_turn changing renaming id name area before between after apart sound on (Ok done) never none bad taken
    made words are renamed =
    range_updated id name area before after none bad taken
    (ranges_made in_turn changing renaming id name area before between after apart sound on made words renamed)
    (all_changes in_turn changing renaming id name area before between after apart sound on made
    (λ there. never fault.NoId (none.1 there)) words are renamed)

-- ---- a range is deleted

abbrev pub dropped_of : Result NamedRange NameFault → Result (Unit {0}) Rule
dropped_of (Ok range) = Ok tt
dropped_of (Err broken) = Err rule.NoId

pub range_dropped : RangesDeleted → (id : List ℕ) (before after : PlaceBook) (answer : Result NamedRange NameFault)
    → (answer ≡ Err fault.NoId) ↔ (with_id id before.ranges ≡ None) → IfErr answer (λ broken. broken ≡ fault.NoId)
    → OnOk answer (after ≡ place_range_deleted id before) → OnErr answer (after ≡ before)
    → IsRangeDropped id before after (dropped_of answer)
range_dropped law id before after (Ok range) none only left kept = record {
  no_id = neither (λ e. cc) (λ e. cc) none;
  no_other = tt;
  dropped = left;
  names = subst (AreChanges (BookChange.RangeDeleted id ∷ []) before) (sym left) (law.changes before id);
  unchanged = tt;
}
range_dropped law id before after (Err broken) none only left kept = record {
  no_id = both refl (ap Err only) none;
  no_other = refl;
  dropped = tt;
  names = tt;
  unchanged = kept;
}
