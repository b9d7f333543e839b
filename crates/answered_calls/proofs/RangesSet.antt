-- An update of a named range is told something where no two ranges have one id or one name, and what is told can be
-- made.
use Rattle.std.proofs.Common.{◌≡◌, ℕ, List, [], ◌∷◌, refl, sym, subst, ◌∙◌, inl, inr}
use Rattle.std.specs.Prelude.{◌↔◌, Option, None, Some, Result, Ok, Err, IfOk, IfSome, MatchResult}
use Rattle.std.specs.Option.{IsSome, option_map_or}
use Rattle.std.proofs.lemmas.Bool.{false≢true}
use Rattle.grid_range.specs.declared.area.Area.{Area}
use Rattle.named_ranges.specs.Given.{given_range}
use Rattle.named_ranges.specs.Listed.{AreNames, IsBadName, IsTakenName, with_changed, with_id}
use Rattle.named_ranges.specs.declared.range.NamedRange.{NamedRange}
use Rattle.world_model.specs.Book.{PlaceBook}
use Rattle.world_model.specs.BookChange.{AreChanges, BookChange}
use Rattle.world_model.specs.ChangingLaws.{ChangesInTurn}
use Rattle.world_model.specs.RangeChange.{place_range_changed}
use Rattle.world_model.specs.RangeLaws.{RangesChanged, WordsAreRenamed}
use Rattle.world_model.specs.Sheet.{PlaceSheet}
use Rattle.world_model.specs.Sound.{IsOnSheet, IsSound}
use Rattle.dimension_ops.specs.RangeLaws.{changed_as, found_on, given_on, has_its_id, only_one}
use Rattle.dimension_ops.specs.RangeRequests.{IsRangeUpdated, range_set, range_updates}
use Rattle.dimension_ops.specs.declared.rule.Rule.{Rule}
use Rattle.dimension_ops.specs.declared.rule.Rule.TheVariants as rule
use Rattle.sheets_json.specs.declared.spreadsheet.Reply.{Reply}
use Rattle.sheets_json.specs.declared.spreadsheet.Reply.TheVariants as reply
use Rattle.request_kinds.specs.Rows.{OnArea, area_or_broken}
use Rattle.request_kinds.specs.UpdateNamedRange.{IsRangeSet, IsUpdateNamedRange}
use Rattle.batch_engine.specs.MadeLaws.{CanBeMade}
use Rattle.answered_calls.proofs.NamesKept.{CanBeMadeNamed, KeepsNames, can_be_made, names_changed}
use Rattle.answered_calls.proofs.AreasWithin.{judged_within}
use Rattle.answered_calls.proofs.WordsRenamed.{book_renamed, words_renamed}

-- ---- what is told can be made

module _ (id : List ℕ) (name : Option (List ℕ)) (book : PlaceBook) (told : Result (Reply × List BookChange) Rule) where
  -- where something is made the range is there, and the name that is given is a good one
  keeps_names : (area : Option Area) (after : PlaceBook) → IsRangeUpdated id name area book after (Ok tt)
      → KeepsNames book after
  keeps_names area after is apart =
      subst AreNames (sym is.ranges)
      (names_changed id name area book.ranges (λ bad. refuse (is.bad_name.1 (there (with_id id book.ranges) refl, bad)))
      (λ taken. refuse (is.name_taken.1 (there (with_id id book.ranges) refl, taken))) apart)
    where
      refuse : {broken : Rule} → ◌≡◌ {A = Result (Unit {0}) Rule} (Ok tt) (Err broken) → ⊥
      refuse e = cc

      there : (found : Option NamedRange) → with_id id book.ranges ≡ found → IsSome (with_id id book.ranges)
      there None none = absurd (refuse (is.no_id.1 none))
      there (Some range) some = subst IsSome (sym some) refl

  by_answer : (area : Option Area) (after : PlaceBook) (updated : Result (Unit {0}) Rule)
      → IsRangeUpdated id name area book after updated
      → MatchResult updated (λ done. told ≡ Ok (reply.Empty, range_updates id name area book.ranges))
      (λ broken. told ≡ Err broken) → CanBeMadeNamed book told
  by_answer area after (Ok done) updates is =
      subst (CanBeMadeNamed book) (sym is) (after, updates.names, keeps_names area after updates)
  by_answer area after (Err broken) updates is = subst (CanBeMadeNamed book) (sym is) tt

  set_named : (area : Option Area) → IsRangeSet id name book area told → CanBeMadeNamed book told
  set_named area is = by_answer area is.after is.updated is.updates is.tells

  by_area : (one : Result Area Rule) → OnArea one (λ area. IsRangeSet id name book (Some area)) told
      → CanBeMadeNamed book told
  by_area (Ok area) is = set_named (Some area) is
  by_area (Err broken) is = subst (CanBeMadeNamed book) (sym is) tt

  pub update_range_named : (area : Option Area) → IsUpdateNamedRange id name area book told → CanBeMadeNamed book told
  update_range_named None is = set_named None is
  update_range_named (Some area) is = by_area (area_or_broken book.sheets area) is

  pub can_update_range : (area : Option Area) → IsUpdateNamedRange id name area book told → CanBeMade book told
  can_update_range area is = can_be_made book told (update_range_named area is)

-- ---- refusals

-- both hold, or neither does
both : {A B : Type 0} → A → B → A ↔ B
both a b = (λ _. b, λ _. a)

neither : {A B : Type 0} → (A → ⊥) → (B → ⊥) → A ↔ B
neither no_a no_b = (λ a. absurd (no_a a), λ b. absurd (no_b b))

module _ (id : List ℕ) (name : Option (List ℕ)) (area : Option Area) (book : PlaceBook) where
  abbrev There : Type 0
  There = IsSome (with_id id book.ranges)

  -- what is found is there
  is_there : (found : Option NamedRange) → found ≡ None → ¬ (IsSome found)
  is_there found is there = false≢true (subst IsSome is there)

  refused_id : with_id id book.ranges ≡ None → IsRangeUpdated id name area book book (Err rule.NoId)
  refused_id none = record {
    no_id = both refl none;
    bad_name = neither (λ e. cc) (λ b. is_there (with_id id book.ranges) none b.0);
    name_taken = neither (λ e. cc) (λ b. is_there (with_id id book.ranges) none b.0);
    no_other = inl refl;
    ranges = tt;
    names = tt;
    unchanged = refl;
  }

  not_none : There → with_id id book.ranges ≡ None → ⊥
  not_none there none = is_there (with_id id book.ranges) none there

  refused_name : There → IsBadName name → IsRangeUpdated id name area book book (Err rule.BadName)
  refused_name there bad = record {
    no_id = neither (λ e. cc) (not_none there);
    bad_name = both refl (there, bad);
    name_taken = neither (λ e. cc) (λ b. good name bad b.1);
    no_other = inr (inl refl);
    ranges = tt;
    names = tt;
    unchanged = refl;
  }
    where
      good : (name : Option (List ℕ)) → IsBadName name → ¬ (IsTakenName id name book.ranges)
      good None bad taken = bad
      good (Some one) bad taken = bad taken.0

  refused_taken : There → ¬ (IsBadName name) → IsTakenName id name book.ranges
      → IsRangeUpdated id name area book book (Err rule.NameTaken)
  refused_taken there good taken = record {
    no_id = neither (λ e. cc) (not_none there);
    bad_name = neither (λ e. cc) (λ b. good b.1);
    name_taken = both refl (there, taken);
    no_other = inr (inr refl);
    ranges = tt;
    names = tt;
    unchanged = refl;
  }

  updated : (after : PlaceBook) → There → ¬ (IsBadName name) → ¬ (IsTakenName id name book.ranges)
      → after.ranges ≡ with_changed id (given_range name area) book.ranges
      → AreChanges (range_updates id name area book.ranges) book after
      → IsRangeUpdated id name area book after (Ok tt)
  updated after there good free made changes = record {
    no_id = neither (λ e. cc) (not_none there);
    bad_name = neither (λ e. cc) (λ b. good b.1);
    name_taken = neither (λ e. cc) (λ b. free b.1);
    no_other = tt;
    ranges = made;
    names = changes;
    unchanged = tt;
  }

-- ---- the area

-- an area that breaks no rule is, cut at the grid, on its sheet
area_on : (sheets : List PlaceSheet) (area : Area) → IfOk (area_or_broken sheets area) (IsOnSheet sheets)
area_on sheets area = by_cut (area_or_broken sheets area) refl
  where
    by_cut : (cut : Result Area Rule) → area_or_broken sheets area ≡ cut → IfOk cut (IsOnSheet sheets)
    by_cut (Ok one) is = judged_within sheets area one is
    by_cut (Err broken) is = tt

-- ---- something is told

-- the laws by which a named range is changed
pub record RangeLaws : Type 0 where
  pub turns : ChangesInTurn
  pub changed : RangesChanged
  pub renamed : WordsAreRenamed

module _ (laws : RangeLaws) (id : List ℕ) (name : Option (List ℕ)) (book : PlaceBook) (sound : IsSound book)
    (apart : AreNames book.ranges) where
  module _ (area : Option Area) (on : IfSome area (IsOnSheet book.sheets)) (range : NamedRange)
      (found : with_id id book.ranges ≡ Some range) where
    abbrev now : NamedRange
    now = given_range name area range

    -- the ranges, and then the words
    abbrev between : PlaceBook
    between = place_range_changed now book

    abbrev with_words : Option (List ℕ) → PlaceBook
    with_words given = option_map_or (λ new. book_renamed range.name new between) given between

    ranges_are : between.ranges ≡ with_changed id (given_range name area) book.ranges
    ranges_are = sym (changed_as id name area range (has_its_id id book.ranges range found) book.ranges
        (only_one id book.ranges range apart found))

    first_changes : AreChanges (BookChange.RangeChanged now ∷ []) book between
    first_changes = laws.changed.changes book now
        (given_on book.sheets name area range on
        (found_on id (λ one. IsOnSheet book.sheets one.area) book.ranges range found sound.ranges))

    then_words : (given : Option (List ℕ)) → AreChanges (BookChange.RangeChanged now
        ∷ option_map_or (λ new. BookChange.WordsRenamed range.name new ∷ []) given []) book (with_words given)
    then_words None = first_changes
    then_words (Some new) =
        laws.turns.both (BookChange.RangeChanged now ∷ []) (BookChange.WordsRenamed range.name new ∷ []) book between
        (book_renamed range.name new between) first_changes
        (laws.renamed.changes between (book_renamed range.name new between) range.name new
        (words_renamed range.name new between))

    same_ranges : (given : Option (List ℕ)) → (with_words given).ranges ≡ between.ranges
    same_ranges None = refl
    same_ranges (Some new) = refl

    all_changes : AreChanges (range_updates id name area book.ranges) book (with_words name)
    all_changes = subst (λ one. AreChanges (option_map_or (range_set name area) one []) book (with_words name))
        (sym found) (then_words name)

    range_set_so : ¬ (IsBadName name) → ¬ (IsTakenName id name book.ranges)
        → IsRangeSet id name book area (Ok (reply.Empty, range_updates id name area book.ranges))
    range_set_so good free = record {
      after = with_words name;
      updated = Ok tt;
      updates = updated id name area book (with_words name) (subst IsSome (sym found) refl) good free
          (same_ranges name ∙ ranges_are) all_changes;
      tells = refl;
    }

  some_set : (area : Option Area) → IfSome area (IsOnSheet book.sheets)
      → ¬ ((told : Result (Reply × List BookChange) Rule) → ¬ (IsRangeSet id name book area told))
  some_set area on none = at_range (with_id id book.ranges) refl
    where
      at_range : (found : Option NamedRange) → with_id id book.ranges ≡ found → ⊥
      at_range None is = none (Err rule.NoId) (record {
        after = book;
        updated = Err rule.NoId;
        updates = refused_id id name area book is;
        tells = refl;
      })
      at_range (Some range) is =
          let there : IsSome (with_id id book.ranges) = subst IsSome (sym is) refl in
          let good : ¬ (IsBadName name) = λ bad. none (Err rule.BadName) (record {
            after = book;
            updated = Err rule.BadName;
            updates = refused_name id name area book there bad;
            tells = refl;
          }) in
          let free : ¬ (IsTakenName id name book.ranges) = λ taken. none (Err rule.NameTaken) (record {
            after = book;
            updated = Err rule.NameTaken;
            updates = refused_taken id name area book there good taken;
            tells = refl;
          }) in
          none (Ok (reply.Empty, range_updates id name area book.ranges)) (range_set_so area on range is good free)

  on_area : (one : Result Area Rule) → IfOk one (IsOnSheet book.sheets)
      → ¬ ((told : Result (Reply × List BookChange) Rule)
      → ¬ (OnArea one (λ area. IsRangeSet id name book (Some area)) told))
  on_area (Ok area) on none = some_set (Some area) on none
  on_area (Err broken) on none = none (Err broken) refl

  pub some_update_range : (area : Option Area)
      → ¬ ((told : Result (Reply × List BookChange) Rule) → ¬ (IsUpdateNamedRange id name area book told))
  some_update_range None none = some_set None tt none
  some_update_range (Some area) none = on_area (area_or_broken book.sheets area) (area_on book.sheets area) none
