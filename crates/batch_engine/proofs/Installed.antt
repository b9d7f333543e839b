-- A call on a spreadsheet that is there, from its answer and from what takes its place.
use Rattle.std.proofs.Common.{◌≡◌, ℕ, refl, sym, subst, ◌∙◌, List, ap}
use Rattle.std.specs.Prelude.{Bool, false, Option, Some, None, IsSomeAnd, IfOk, unwrap_or, Result, Ok, Err}
use Rattle.std.specs.Option.{IsSome}
use Rattle.world_model.specs.Book.{PlaceBook}
use Rattle.world_model.specs.BookChange.{BookChange}
use Rattle.dimension_ops.specs.ByName.{ReplacesByName}
use Rattle.dimension_ops.specs.Rules.{IsUnlessNoMemory}
use Rattle.dimension_ops.specs.World.{book_with}
use Rattle.dimension_ops.specs.declared.rule.Rule.{Rule}
use Rattle.sheets_json.specs.declared.answer.Answer.{Answer}
use Rattle.sheets_json.specs.declared.answer.Answer.TheVariants as answer
use Rattle.sheets_json.specs.declared.spreadsheet.Spreadsheet.{Spreadsheet}
use Rattle.dimension_ops.specs.declared.rule.RuleOr.{RuleOr}
use Rattle.grid_range.specs.declared.axis.Axis.{Axis}
use Rattle.cell_value.specs.declared.cell.Render.{Render}
use Rattle.cell_value.specs.declared.entered.Mode.{Mode}
use Rattle.json_requests.specs.declared.request.DataFilter.{DataFilter}
use Rattle.json_requests.specs.declared.request.MetadataLookup.{MetadataLookup}
use Rattle.json_shapes.specs.Reading.{Reading}
use Rattle.sheets_json.specs.declared.call.Call.{Call}
use Rattle.sheets_json.specs.declared.call.Call.TheVariants as call
use Rattle.sheets_json.specs.declared.call.NewSpreadsheet.{NewSpreadsheet}
use Rattle.sheets_json.specs.declared.call.ValueRange.{ValueRange}
use Rattle.sheets_json.specs.declared.place.Place.TheVariants as place
use Rattle.batch_engine.specs.Effects.{Effect, Becomes, IsNext}
use Rattle.batch_engine.specs.Effects.Effect.{Nothing, Changes}
use Rattle.batch_engine.specs.Calls.{OnBook, IsAlone, IsAnswered, IsApplied, IsChange, IsInstalled, Refusal, alone, as_told, told_as, AreNext, IsMaking}
use Rattle.batch_engine.specs.Create.{IsCreateOf}
use Rattle.batch_engine.specs.Looks.{IsSpreadsheetShown}
use Rattle.batch_engine.specs.Calls.{IsLookOf, IsClearOf, IsReadOf, IsReadManyOf, IsWriteOf, IsItemOf, IsReadFilteredOf, IsSearchOf}
use Rattle.batch_engine.specs.Searches.{item_told}
use Rattle.batch_engine.specs.declared.calls.Caller.{Caller}
use Rattle.batch_engine.specs.declared.calls.Outcome.{Outcome}
use Rattle.batch_engine.proofs.Becoming.{found_has_id, becomes_changed}
use Rattle.batch_engine.proofs.Judged.{judged_so}

-- what replaces the spreadsheet is there, and so are the spreadsheets after
is_next : (books : List PlaceBook) (id : List ℕ) (changes : List BookChange) (after : PlaceBook)
    (next : Option (List PlaceBook))
    → ((one : List PlaceBook) → ReplacesByName after books one → Becomes (Changes id changes) books one)
    → IsSomeAnd next (ReplacesByName after books) → IsNext books (Changes id changes) next
is_next books id changes after None becomes replaced = absurd replaced
is_next books id changes after (Some one) becomes replaced = becomes one replaced

none_next : (books : List PlaceBook) (next : Option (List PlaceBook)) → next ≡ None → IsNext books Nothing next
none_next books next is = subst (IsNext books Nothing) (sym is) tt

-- a call that makes nothing of the spreadsheets
pub applied_unchanged : (caller : Caller) (called : Call) (books : List PlaceBook) (told : Result Answer Refusal)
    (outcome : Outcome)
    (next : Option (List PlaceBook)) → IsAnswered caller called books told Nothing → outcome ≡ told_as told
    → next ≡ None
    → IsApplied caller called books outcome next
applied_unchanged caller called books told outcome next answered is none = record {
  judged = told;
  effect = Nothing;
  answered = answered;
  told_is = is;
  next_is = none_next books next none;
}

module _ (caller : Caller) (called : Call) (id : List ℕ) (books : List PlaceBook)
    (Answered : PlaceBook → Result Answer Refusal → Effect → Type 0)
    (is_answered : (told : Result Answer Refusal) (effect : Effect)
    → OnBook id books (λ book. Answered book told effect) → IsAnswered caller called books told effect)
    (book : PlaceBook) (found : book_with id books ≡ Some book) where
  on_book : (told : Result Answer Refusal) (effect : Effect) → Answered book told effect
      → IsAnswered caller called books told effect
  on_book told effect holds =
      is_answered told effect
      (subst (λ one. IsSomeAnd one (λ (b : PlaceBook). Answered b told effect)) (sym found) holds)

  own_id : book.id ≡ id
  own_id = found_has_id id books book found

  pub change_there : (judged : Result (Answer × PlaceBook) Refusal) → IsChange (Answered book) book judged
      → IfOk judged (λ done. IsSome (book_with done.1.id books))
  change_there (Ok (told, after)) change =
      let (changes, answered, changed) = change in
      subst (λ key. IsSome (book_with key books)) (sym (changed.id ∙ own_id)) (subst IsSome (sym found) refl)
  change_there (Err broken) change = tt

  pub applied_change : (judged : Result (Answer × PlaceBook) Refusal) (outcome : Outcome)
      (next : Option (List PlaceBook))
      → IsChange (Answered book) book judged → IsInstalled books judged outcome next
      → IsApplied caller called books outcome next
  applied_change (Ok (told, after)) outcome next change installed =
      let (changes, answered, changed) = change in
      record {
        judged = Ok told;
        effect = Changes book.id changes;
        answered = on_book (Ok told) (Changes book.id changes) answered;
        told_is = installed.0;
        next_is =
            is_next books book.id changes after next
            (λ one replaced. becomes_changed book.id changes books one book after
            (subst (λ key. book_with key books ≡ Some book) (sym own_id) found) changed replaced)
            installed.1;
      }
  applied_change (Err (at, broken)) outcome next change installed = record {
    judged = Err (at, broken);
    effect = Nothing;
    answered = on_book (Err (at, broken)) Nothing change;
    told_is = installed.0;
    next_is = none_next books next installed.1;
  }

  pub applied_read : (told : Result Answer Refusal) (outcome : Outcome) (next : Option (List PlaceBook))
      → Answered book told Nothing → outcome ≡ told_as told → next ≡ None → IsApplied caller called books outcome next
  applied_read told outcome next holds is none =
      applied_unchanged caller called books told outcome next (on_book told Nothing holds) is none

-- a call without members
alone_change : (Answered : Result Answer Rule → Effect → Type 0) (book : PlaceBook)
    (judged : Result (Answer × PlaceBook) Rule) → IsChange Answered book judged
    → IsChange (IsAlone Answered) book (alone judged)
alone_change Answered book (Ok (told, after)) change =
    let (changes, answered, changed) = change in
    (changes, record { judged = Ok told; answered = answered; told_is = refl }, changed)
alone_change Answered book (Err broken) change = record { judged = Err broken; answered = change; told_is = refl }

-- what holds of a good result
pub if_ok : {A E : Type 0} (P Q : A → Type 0) (result : Result A E) → ((value : A) → P value → Q value)
    → IfOk result P → IfOk result Q
if_ok P Q (Ok value) then holds = then value holds
if_ok P Q (Err error) then holds = tt

-- ---- a write and a clear

module _ (id range : List ℕ) (mode : Mode) (values : Reading ValueRange) (books : List PlaceBook) (book : PlaceBook)
    (caller : Caller) (called : Call) (called_is : called ≡ call.Write id range mode values)
    (found : book_with id books ≡ Some book)
    (told : Result (Answer × PlaceBook) RuleOr) (judged : Result (Answer × PlaceBook) Rule)
    (change : IsUnlessNoMemory (IsChange (IsWriteOf caller.user range values book) book) told)
    (told_is : told ≡ as_told judged)
  where
    abbrev Writes : PlaceBook → Result Answer Refusal → Effect → Type 0
    Writes one = IsAlone (IsWriteOf caller.user range values one)

    write_change : IsChange (Writes book) book (alone judged)
    write_change = alone_change (IsWriteOf caller.user range values book) book judged
        (judged_so (IsChange (IsWriteOf caller.user range values book) book) judged
        (subst (IsUnlessNoMemory (IsChange (IsWriteOf caller.user range values book) book)) told_is change))

    write_answered : (answered : Result Answer Refusal) (effect : Effect)
        → OnBook id books (λ book. Writes book answered effect) → IsAnswered caller called books answered effect
    write_answered answered effect holds =
        subst (λ one. IsAnswered caller one books answered effect) (sym called_is) holds

    pub write_there : IfOk (alone judged) (λ done. IsSome (book_with done.1.id books))
    write_there = change_there caller called id books Writes write_answered book found (alone judged) write_change

    pub write_applied : (outcome : Outcome) (next : Option (List PlaceBook))
        → IsInstalled books (alone judged) outcome next
        → IsApplied caller called books outcome next
    write_applied outcome next installed =
        applied_change caller called id books Writes write_answered book found (alone judged) outcome next
        write_change installed

module _ (id range : List ℕ) (books : List PlaceBook) (book : PlaceBook) (caller : Caller) (called : Call)
    (called_is : called ≡ call.Clear id range) (found : book_with id books ≡ Some book)
    (told : Result (Answer × PlaceBook) RuleOr) (judged : Result (Answer × PlaceBook) Rule)
    (change : IsUnlessNoMemory (IsChange (IsClearOf caller.user range book) book) told)
    (told_is : told ≡ as_told judged) where
  abbrev Clears : PlaceBook → Result Answer Refusal → Effect → Type 0
  Clears one = IsAlone (IsClearOf caller.user range one)

  clear_change : IsChange (Clears book) book (alone judged)
  clear_change = alone_change (IsClearOf caller.user range book) book judged
      (judged_so (IsChange (IsClearOf caller.user range book) book) judged
      (subst (IsUnlessNoMemory (IsChange (IsClearOf caller.user range book) book)) told_is change))

  clear_answered : (answered : Result Answer Refusal) (effect : Effect)
      → OnBook id books (λ book. Clears book answered effect) → IsAnswered caller called books answered effect
  clear_answered answered effect holds =
      subst (λ one. IsAnswered caller one books answered effect) (sym called_is) holds

  pub clear_there : IfOk (alone judged) (λ done. IsSome (book_with done.1.id books))
  clear_there = change_there caller called id books Clears clear_answered book found (alone judged) clear_change

  pub clear_applied : (outcome : Outcome) (next : Option (List PlaceBook))
      → IsInstalled books (alone judged) outcome next
      → IsApplied caller called books outcome next
  clear_applied outcome next installed =
      applied_change caller called id books Clears clear_answered book found (alone judged) outcome next
      clear_change installed

-- ---- another change that has no members

module _ (id : List ℕ) (books : List PlaceBook) (book : PlaceBook) (caller : Caller) (called : Call)
    (Answered : PlaceBook → Result Answer Rule → Effect → Type 0)
    (is_answered : (told : Result Answer Refusal) (effect : Effect)
    → OnBook id books (λ one. IsAlone (Answered one) told effect) → IsAnswered caller called books told effect)
    (found : book_with id books ≡ Some book) (told : Result (Answer × PlaceBook) RuleOr)
    (judged : Result (Answer × PlaceBook) Rule) (change : IsUnlessNoMemory (IsChange (Answered book) book) told)
    (told_is : told ≡ as_told judged) where
  lone_change : IsChange (IsAlone (Answered book)) book (alone judged)
  lone_change = alone_change (Answered book) book judged
      (judged_so (IsChange (Answered book) book) judged
      (subst (IsUnlessNoMemory (IsChange (Answered book) book)) told_is change))

  pub lone_there : IfOk (alone judged) (λ done. IsSome (book_with done.1.id books))
  lone_there =
      change_there caller called id books (λ one. IsAlone (Answered one)) is_answered book found
      (alone judged) lone_change

  pub lone_applied : (outcome : Outcome) (next : Option (List PlaceBook))
      → IsInstalled books (alone judged) outcome next
      → IsApplied caller called books outcome next
  lone_applied outcome next installed =
      applied_change caller called id books (λ one. IsAlone (Answered one)) is_answered book found (alone judged)
      outcome next
      lone_change installed

-- ---- reads

pub read_judged : (range : List ℕ) (dimension : Option Axis) (render : Option Render) (book : PlaceBook)
    (told : Result Answer RuleOr) (judged : Result Answer Rule)
    → IsUnlessNoMemory (λ told. IsReadOf range dimension render book told Nothing) told → told ≡ as_told judged
    → IsReadOf range dimension render book judged Nothing
read_judged range dimension render book told judged is told_is =
    judged_so (λ told. IsReadOf range dimension render book told Nothing) judged
    (subst (IsUnlessNoMemory (λ told. IsReadOf range dimension render book told Nothing)) told_is is)

module _ (books : List PlaceBook) (book : PlaceBook) (caller : Caller) (called : Call) (outcome : Outcome)
    (next : Option (List PlaceBook))
    (none : next ≡ None) where
  pub read_applied : (id range : List ℕ) (dimension : Option Axis) (render : Option Render)
      → called ≡ call.Read id range dimension render → book_with id books ≡ Some book → (told : Result Answer Rule)
      → IsReadOf range dimension render book told Nothing → outcome ≡ told_as (alone told)
      → IsApplied caller called books outcome next
  read_applied id range dimension render called_is found told holds is =
      applied_read caller called id books (λ one. IsAlone (IsReadOf range dimension render one))
      (λ answered effect on. subst (λ one. IsAnswered caller one books answered effect) (sym called_is) on) book found
      (alone told)
      outcome next (record { judged = told; answered = holds; told_is = refl }) is none

  pub look_applied : (id : List ℕ) (grids : Option Bool) → called ≡ call.Get id grids
      → book_with id books ≡ Some book → (shown : Spreadsheet)
      → IsSpreadsheetShown caller.user (unwrap_or grids false) book shown
      → outcome ≡ told_as (Ok (answer.Get shown)) → IsApplied caller called books outcome next
  look_applied id grids called_is found shown holds is =
      applied_read caller called id books (IsLookOf caller.user grids)
      (λ answered effect on. subst (λ one. IsAnswered caller one books answered effect) (sym called_is) on) book found
      (Ok (answer.Get shown)) outcome next (record { shown = shown; is = holds; told_is = refl; nothing = refl }) is
      none

  pub read_many_applied : (id : List ℕ) (ranges : List (List ℕ)) (dimension : Option Axis) (render : Option Render)
      → called ≡ call.ReadMany id ranges dimension render → book_with id books ≡ Some book
      → (told : Result Answer Refusal) → IsReadManyOf ranges dimension render book told Nothing → outcome ≡ told_as told
      → IsApplied caller called books outcome next
  read_many_applied id ranges dimension render called_is found told holds is =
      applied_unchanged caller called books told outcome next
      (subst (λ one. IsAnswered caller one books told Nothing) (sym called_is)
      (subst (λ one. IsSomeAnd one (λ (b : PlaceBook). IsReadManyOf ranges dimension render b told Nothing)) (sym found)
      holds)) is none

  -- looks at metadata
  pub item_applied : (id : List ℕ) (item : ℕ) → called ≡ call.Item id item → book_with id books ≡ Some book
      → (told : Result Answer Rule) → told ≡ item_told caller.project item book → outcome ≡ told_as (alone told)
      → IsApplied caller called books outcome next
  item_applied id item called_is found told holds is =
      applied_read caller called id books (IsItemOf caller.project item)
      (λ answered effect on. subst (λ one. IsAnswered caller one books answered effect) (sym called_is) on) book found
      (alone told) outcome next (ap alone holds, refl) is none

  pub search_applied : (id : List ℕ) (filters : List (Reading MetadataLookup)) → called ≡ call.Search id filters
      → book_with id books ≡ Some book → (told : Result Answer Refusal)
      → IsSearchOf caller.project filters book told Nothing → outcome ≡ told_as told
      → IsApplied caller called books outcome next
  search_applied id filters called_is found told holds is =
      applied_read caller called id books (IsSearchOf caller.project filters)
      (λ answered effect on. subst (λ one. IsAnswered caller one books answered effect) (sym called_is) on) book found
      told outcome next holds is none

  pub read_filtered_applied : (id : List ℕ) (filters : List (Reading DataFilter)) (dimension : Option Axis)
      (render : Option Render) → called ≡ call.ReadFiltered id filters dimension render
      → book_with id books ≡ Some book → (told : Result Answer Refusal)
      → IsReadFilteredOf caller.project filters (record { dimension = dimension; render = render }) book told Nothing
      → outcome ≡ told_as told → IsApplied caller called books outcome next
  read_filtered_applied id filters dimension render called_is found told holds is =
      applied_read caller called id books
      (IsReadFilteredOf caller.project filters (record { dimension = dimension; render = render }))
      (λ answered effect on. subst (λ one. IsAnswered caller one books answered effect) (sym called_is) on) book found
      told outcome next holds is none

-- what is told of an item for which memory didn't run out
pub item_judged : (project : List ℕ) (item : ℕ) (book : PlaceBook) (told : Result Answer RuleOr)
    (judged : Result Answer Rule) → IsUnlessNoMemory (λ told. told ≡ item_told project item book) told
    → told ≡ as_told judged → judged ≡ item_told project item book
item_judged project item book told judged is told_is =
    judged_so (λ told. told ≡ item_told project item book) judged
    (subst (IsUnlessNoMemory (λ told. told ≡ item_told project item book)) told_is is)

-- ---- a spreadsheet that is made

pub making_judged : (owner : List ℕ) (spreadsheet : Reading NewSpreadsheet) (books : List PlaceBook)
    (told : Result (Answer × List PlaceBook) RuleOr) (judged : Result (Answer × List PlaceBook) Rule)
    → IsUnlessNoMemory (IsMaking (IsCreateOf owner spreadsheet books) books) told → told ≡ as_told judged
    → IsMaking (IsCreateOf owner spreadsheet books) books judged
making_judged owner spreadsheet books told judged is told_is =
    judged_so (IsMaking (IsCreateOf owner spreadsheet books) books) judged
    (subst (IsUnlessNoMemory (IsMaking (IsCreateOf owner spreadsheet books) books)) told_is is)

pub made_applied : (caller : Caller) (called : Call) (books : List PlaceBook) (spreadsheet : Reading NewSpreadsheet)
    → called ≡ call.Create spreadsheet → (told : Result (Answer × List PlaceBook) Rule)
    → IsMaking (IsCreateOf caller.user spreadsheet books) books told → (outcome : Outcome)
    (next : Option (List PlaceBook)) → AreNext (alone told) outcome next → IsApplied caller called books outcome next
made_applied caller called books spreadsheet called_is (Ok (answered, after)) (effect, is, is_next) outcome next there =
    record {
      judged = Ok answered;
      effect = effect;
      answered =
          subst (λ one. IsAnswered caller one books (Ok answered) effect) (sym called_is)
          (record { judged = Ok answered; answered = is; told_is = refl });
      told_is = there.0;
      next_is = subst (IsNext books effect) (sym there.1) is_next;
    }
made_applied caller called books spreadsheet called_is (Err broken) is outcome next there = record {
  judged = Err (place.Alone, broken);
  effect = Nothing;
  answered =
      subst (λ one. IsAnswered caller one books (Err (place.Alone, broken)) Nothing) (sym called_is)
      (record { judged = Err broken; answered = is; told_is = refl });
  told_is = there.0;
  next_is = none_next books next there.1;
}
