-- addNamedRange and deleteNamedRange: a named range that is asked for breaks a rule, or can be put behind the others.
-- Its id can be found where named ranges are so few that a number is left for it: a text has the last 64 digits of a
-- number.
use Rattle.std.proofs.Common.{◌≡◌, ℕ, ◌+◌, ◌^◌, ◌<◌, refl, sym, ◌∙◌, List, [], ◌∷◌, length, Bool, true, false, arith, inl, inr}
use Rattle.std.specs.Prelude.{◌↔◌, ◌⊎◌, Option, None, Some, Result, Ok, Err, is_some, codes}
use Rattle.std.specs.Fmt.{decimal}
use Rattle.std.specs.Str.{bytes_eq}
use Rattle.std.proofs.lemmas.Bool.{both_ways}
use Rattle.std.proofs.lemmas.Fmt.{decimal_injective}
use Rattle.std.proofs.lemmas.List.{append_cancel_left}
use Rattle.std.proofs.lemmas.Slice.Eq.{bytes_eq-Decides}
use Rattle.cell_value.specs.Ids.{IsNewId, is_taken}
use Rattle.grid_range.specs.declared.area.Area.{Area}
use Rattle.named_ranges.specs.Listed.{IsFirstUnused, has_id, numbered_id, with_name}
use Rattle.named_ranges.specs.NameRule.{IsName}
use Rattle.named_ranges.specs.declared.range.NamedRange.{NamedRange}
use Rattle.world_model.specs.Book.{PlaceBook}
use Rattle.world_model.specs.BookChange.{BookChange}
use Rattle.world_model.specs.RangeChange.{place_range_added, place_range_deleted}
use Rattle.world_model.specs.RangeLaws.{RangesAdded, RangesDeleted}
use Rattle.world_model.specs.Sound.{IsOnSheet}
use Rattle.dimension_ops.specs.Broken.{judged_by}
use Rattle.dimension_ops.specs.RangeRequests.{IsRangeAdded, range_of}
use Rattle.dimension_ops.specs.declared.rule.Rule.{Rule}
use Rattle.dimension_ops.specs.declared.rule.Rule.TheVariants as rule
use Rattle.json_requests.specs.declared.request.NewNamedRange.{NewNamedRange}
use Rattle.sheets_json.specs.declared.spreadsheet.Reply.TheVariants as reply
use Rattle.request_kinds.specs.AddNamedRange.{IsAddNamedRange, IsRangePut, names_broken, put_behind}
use Rattle.request_kinds.specs.DeleteNamedRange.{range_deleted, range_deleted_broken}
use Rattle.request_kinds.specs.Rows.{area_or_broken}
use Rattle.answered_calls.proofs.AreasWithin.{judged_within}
use Rattle.answered_calls.proofs.Telling.{IsMadeSome, judged_made, judged_made_some, on_area_made}
use Rattle.answered_calls.proofs.UnusedNumbers.{some_unused}

-- it can't be that something neither holds nor doesn't
undecided : {P : Type 0} → ¬ (¬ (P ⊎ ¬ P))
undecided none = none (inr (λ holds. none (inl holds)))

both : {A B : Type 0} → A → B → A ↔ B
both a b = (λ _. b, λ _. a)

neither : {A B : Type 0} → (A → ⊥) → (B → ⊥) → A ↔ B
neither no_a no_b = (λ a. absurd (no_a a), λ b. absurd (no_b b))

-- ---- an id

-- an id is that of one number
id_of_one : (id : List ℕ) (m n : ℕ) → m < 2 ^ 64 → n < 2 ^ 64 → bytes_eq (numbered_id m) id ≡ true
    → bytes_eq (numbered_id n) id ≡ true → m ≡ n
id_of_one id m n few few' is is' =
    decimal_injective m n few few' (append_cancel_left (codes "nr") (decimal m) (decimal n)
    ((bytes_eq-Decides (numbered_id m) id).0 is ∙ sym ((bytes_eq-Decides (numbered_id n) id).0 is')))

-- named ranges are so few that a number is left for one more
abbrev pub HasFewRanges : PlaceBook → Type 0
HasFewRanges book = length book.ranges + 1 < 2 ^ 64

first_unused : (book : PlaceBook) → HasFewRanges book → (id : List ℕ) × IsFirstUnused book.ranges id
first_unused book few =
    let (number, least) =
    some_unused (λ (range : NamedRange) number. bytes_eq (numbered_id number) range.id) book.ranges
    (λ range m n from from' to to'.
    id_of_one range.id m n (omega (arith, few, to)) (omega (arith, few, to'))) in
    (numbered_id number, (number, refl, least))

id_asked : (book : PlaceBook) → HasFewRanges book → (given : Option (List ℕ))
    → (id : List ℕ) × IsNewId (IsFirstUnused book.ranges) given id
id_asked book few None = first_unused book few
id_asked book few (Some id) = (id, refl)

-- ---- addNamedRange

module _ (law : RangesAdded) (asked : NewNamedRange) (book : PlaceBook) (area : Area)
    (on : IsOnSheet book.sheets area) where
  abbrev taken : Bool
  taken = is_taken (has_id book.ranges) asked.named_range_id

  abbrev named : Bool
  named = is_some (with_name asked.name book.ranges)

  abbrev Adds : Result (List ℕ) Rule → Type 0
  Adds added = IsRangeAdded asked.named_range_id asked.name area book book added

  refused : (broken : Rule) → Adds (Err broken) → IsMadeSome book (IsRangePut asked book area)
  refused broken adds none =
      none (Err broken) (record { after = book; added = Err broken; adds = adds; tells = refl }) tt

  put_taken : taken ≡ true → IsMadeSome book (IsRangePut asked book area)
  put_taken is = refused rule.IdTaken (record {
    id_taken = both refl is;
    bad_name = neither (λ e. cc) (λ other. both_ways taken other.0 is);
    name_taken = neither (λ e. cc) (λ other. both_ways taken other.0 is);
    no_other = inl refl;
    new_id = tt;
    added = tt;
    names = tt;
    unchanged = refl;
  })

  put_badly : taken ≡ false → ¬ (IsName asked.name) → IsMadeSome book (IsRangePut asked book area)
  put_badly free bad = refused rule.BadName (record {
    id_taken = neither (λ e. cc) (λ is. both_ways taken free is);
    bad_name = both refl (free, bad);
    name_taken = neither (λ e. cc) (λ other. bad other.1);
    no_other = inr (inl refl);
    new_id = tt;
    added = tt;
    names = tt;
    unchanged = refl;
  })

  put_named : taken ≡ false → IsName asked.name → named ≡ true → IsMadeSome book (IsRangePut asked book area)
  put_named free good is = refused rule.NameTaken (record {
    id_taken = neither (λ e. cc) (λ is. both_ways taken free is);
    bad_name = neither (λ e. cc) (λ other. other.1 good);
    name_taken = both refl (free, good, is);
    no_other = inr (inr refl);
    new_id = tt;
    added = tt;
    names = tt;
    unchanged = refl;
  })

  put : taken ≡ false → IsName asked.name → named ≡ false → (new : List ℕ)
      → IsNewId (IsFirstUnused book.ranges) asked.named_range_id new → IsMadeSome book (IsRangePut asked book area)
  put free good other new is_new none =
      let range = range_of new asked.name area in
      let after = place_range_added range book in
      let changes = law.changes book range on in
      let broken = names_broken (length book.ranges + 1) in
      none (judged_by broken (put_behind range)) (record {
        after = after;
        added = Ok new;
        adds = record {
          id_taken = neither (λ e. cc) (λ is. both_ways taken free is);
          bad_name = neither (λ e. cc) (λ bad. bad.1 good);
          name_taken = neither (λ e. cc) (λ is. both_ways named other is.2);
          no_other = tt;
          new_id = is_new;
          added = refl;
          names = changes;
          unchanged = tt;
        };
        tells = refl;
      }) (judged_made book broken (put_behind range) (λ within. (after, changes)))

  some_put : HasFewRanges book → IsMadeSome book (IsRangePut asked book area)
  some_put few = by_id taken refl
    where
      by_name : taken ≡ false → IsName asked.name → (b : Bool) → named ≡ b
          → IsMadeSome book (IsRangePut asked book area)
      by_name free good true is = put_named free good is
      by_name free good false is =
          let (new, is_new) = id_asked book few asked.named_range_id in put free good is new is_new

      by_rule : taken ≡ false → IsName asked.name ⊎ ¬ (IsName asked.name)
          → IsMadeSome book (IsRangePut asked book area)
      by_rule free (inl good) = by_name free good named refl
      by_rule free (inr bad) = put_badly free bad

      by_id : (b : Bool) → taken ≡ b → IsMadeSome book (IsRangePut asked book area)
      by_id true is = put_taken is
      by_id false free = λ none. undecided (λ either. by_rule free either none)

pub add_range_made : RangesAdded → (book : PlaceBook) → HasFewRanges book → (asked : NewNamedRange)
    → IsMadeSome book (IsAddNamedRange asked book)
add_range_made law book few asked =
    on_area_made book (area_or_broken book.sheets asked.range) (IsRangePut asked book) (λ area is.
    some_put law asked book area (judged_within book.sheets asked.range area is) few)

-- ---- deleteNamedRange

pub delete_range_made : RangesDeleted → (book : PlaceBook) (id : List ℕ)
    → IsMadeSome book (λ told. told ≡ range_deleted id book.ranges)
delete_range_made law book id =
    judged_made_some book (range_deleted_broken id book.ranges) (reply.Empty, BookChange.RangeDeleted id ∷ [])
    (λ none. (place_range_deleted id book, law.changes book id))
