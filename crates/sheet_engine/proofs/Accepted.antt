-- A call makes something of the spreadsheets exactly where it writes and is answered.
use Rattle.std.proofs.Common.{◌≡◌, ℕ, Bool, true, false, ◌&&◌, List, length, Option, Some, None, Result, Ok, Err, refl}
use Rattle.std.proofs.Common.{sym, ap, ◌∙◌}
use Rattle.std.specs.Prelude.{is_ok, is_some, IsSomeAnd}
use Rattle.world_model.specs.Book.{PlaceBook}
use Rattle.world_model.specs.BookChange.{BookChange}
use Rattle.dimension_ops.specs.World.{book_with}
use Rattle.dimension_ops.specs.declared.rule.Rule.{Rule}
use Rattle.sheets_json.specs.declared.answer.Answer.{Answer}
use Rattle.sheets_json.specs.declared.call.Call.{Call}
use Rattle.sheets_json.specs.declared.call.Call.TheVariants as call
use Rattle.sheets_json.specs.declared.call.NewSpreadsheet.{NewSpreadsheet}
use Rattle.json_shapes.specs.Reading.{Reading}
use Rattle.sheets_json.specs.declared.place.Place.{Place}
use Rattle.batch_engine.specs.Calls.{IsAnswered, IsAlone, IsMade, AreMade, Refusal, alone, answered_at, answered_by}
use Rattle.batch_engine.specs.Calls.{effect_of, effect_on, told_of}
use Rattle.batch_engine.specs.Create.{IsCreateOf, makes_book, unless_broken}
use Rattle.batch_engine.specs.Effects.{Effect, Becomes, IsNext}
use Rattle.batch_engine.specs.Effects.Effect.{Nothing, Changes, Makes}
use Rattle.batch_engine.specs.Members.{ToldOfAll}
use Rattle.batch_engine.specs.Values.{rule_of}
use Rattle.batch_engine.specs.declared.calls.Caller.{Caller}
use Rattle.sheet_engine.specs.Answers.{Ends, as_fault, is_accepted, is_writing}
use Rattle.sheet_engine.specs.declared.fault.Fault.{Fault}

-- it makes something
abbrev makes : Effect → Bool
makes Nothing = false
makes (Changes id changes) = true
makes (Makes bare changes) = true

-- what is told of a call that reads, and of one that writes
abbrev Reads : Result Answer Refusal → Effect → Type 0
Reads told effect = makes effect ≡ (is_ok told && false)

abbrev Writes : Result Answer Refusal → Effect → Type 0
Writes told effect = makes effect ≡ (is_ok told && true)

reads : (told : Result Answer Refusal) (effect : Effect) → effect ≡ Nothing → Reads told effect
reads (Ok shown) effect is = ap makes is
reads (Err broken) effect is = ap makes is

writes : (told told' : Result Answer Refusal) (effect effect' : Effect) → Writes told' effect' → told ≡ told'
    → effect ≡ effect' → Writes told effect
writes told told' effect effect' is same made = ap makes made ∙ is ∙ sym (ap (λ t. is_ok t && true) same)

-- one thing is done
one_made : {A : Type 0} (Is : Result (A × List BookChange) Rule → Type 0) (answer_of : A → Answer) (book : PlaceBook)
    (told : Result Answer Refusal) (effect : Effect) → IsAlone (IsMade Is answer_of book) told effect
    → Writes told effect
one_made {A} Is answer_of book told effect is = go is.answered.one is.answered.told_is is.answered.effect_is
  where
    go : (one : Result (A × List BookChange) Rule) → is.judged ≡ answered_by answer_of (told_of one)
        → effect ≡ effect_on book one → Writes told effect
    go (Ok (one, changes)) judged made =
        writes told (Ok (answer_of one)) effect (Changes book.id changes) refl (is.told_is ∙ ap alone judged) made
    go (Err broken) judged made =
        writes told (alone (Err broken)) effect Nothing refl (is.told_is ∙ ap alone judged) made

-- members are
all_made : {M A : Type 0} (Is : PlaceBook → M → Result (A × List BookChange) Rule → Type 0) (members : List M)
    (at : ℕ → Place) (answer_of : List A → Answer) (book : PlaceBook) (told : Result Answer Refusal) (effect : Effect)
    → AreMade Is members at answer_of book told effect → Writes told effect
all_made {M} {A} Is members at answer_of book told effect is = go is.all is.told_is is.effect_is
  where
    go : (all : ToldOfAll A) → told ≡ answered_at at answer_of all → effect ≡ effect_of book all is.changes
        → Writes told effect
    go (Ok all) same made = writes told (Ok (answer_of all)) effect (Changes book.id is.changes) refl same made
    go (Err (number, broken)) same made = writes told (Err (at number, broken)) effect Nothing refl same made

-- a spreadsheet is made
created : (owner : List ℕ) (asked : Reading NewSpreadsheet) (books : List PlaceBook) (told : Result Answer Refusal)
    (effect : Effect) → IsAlone (IsCreateOf owner asked books) told effect → Writes told effect
created owner (Ok asked) books told effect is = go is.judged refl
  where
    made : Effect
    made = makes_book owner asked (length books) is.answered.placed

    go : (judged : Result Answer Rule) → is.judged ≡ judged → Writes told effect
    go (Ok shown) same =
        writes told (Ok shown) effect made refl (is.told_is ∙ ap alone same)
        (is.answered.effect_is ∙ ap (λ one. unless_broken one made) same)
    go (Err broken) same =
        writes told (alone (Err broken)) effect Nothing refl (is.told_is ∙ ap alone same)
        (is.answered.effect_is ∙ ap (λ one. unless_broken one made) same)
created owner (Err shape) books told effect is =
    writes told (alone (Err (rule_of shape))) effect Nothing refl (is.told_is ∙ ap alone is.answered.0) is.answered.1

-- what holds of the spreadsheet that is found
on_book : {X : Type 0} (found : Option PlaceBook) (Holds : PlaceBook → Type 0) → IsSomeAnd found Holds
    → ((book : PlaceBook) → Holds book → X) → X
on_book None Holds is each = absurd is
on_book (Some book) Holds is each = each book is

pub call_makes : (caller : Caller) (called : Call) (books : List PlaceBook) (told : Result Answer Refusal)
    (effect : Effect) → IsAnswered caller called books told effect → makes effect ≡ (is_ok told && is_writing called)
call_makes caller (call.Create spreadsheet) books told effect is = created caller.user spreadsheet books told effect is
call_makes caller (call.Get id grids) books told effect is =
    on_book (book_with id books) _ is (λ book seen. reads told effect seen.nothing)
call_makes caller (call.Batch id requests) books told effect is =
    on_book (book_with id books) _ is (λ book made. all_made _ _ _ _ book told effect made)
call_makes caller (call.Read id range dimension render) books told effect is =
    on_book (book_with id books) _ is (λ book seen. reads told effect seen.answered.nothing)
call_makes caller (call.Write id range mode values) books told effect is =
    on_book (book_with id books) _ is (λ book made. one_made _ _ book told effect made)
call_makes caller (call.Append id range mode option values) books told effect is =
    on_book (book_with id books) _ is (λ book made. one_made _ _ book told effect made)
call_makes caller (call.Clear id range) books told effect is =
    on_book (book_with id books) _ is (λ book made. one_made _ _ book told effect made)
call_makes caller (call.ReadMany id ranges dimension render) books told effect is =
    on_book (book_with id books) _ is (λ book seen. reads told effect seen.nothing)
call_makes caller (call.WriteMany id mode blocks) books told effect is =
    on_book (book_with id books) _ is (λ book made. all_made _ _ _ _ book told effect made)
call_makes caller (call.ClearMany id ranges) books told effect is =
    on_book (book_with id books) _ is (λ book made. all_made _ _ _ _ book told effect made)
call_makes caller (call.ReadFiltered id filters dimension render) books told effect is =
    on_book (book_with id books) _ is (λ book seen. reads told effect seen.nothing)
call_makes caller (call.Item id item) books told effect is =
    on_book (book_with id books) _ is (λ book look. reads told effect look.1)
call_makes caller (call.Search id filters) books told effect is =
    on_book (book_with id books) _ is (λ book seen. reads told effect seen.nothing)

-- ---- what comes next

next_made : (books : List PlaceBook) (effect : Effect) (next : Option (List PlaceBook)) → IsNext books effect next
    → is_some next ≡ makes effect
next_made books Nothing None is = refl
next_made books Nothing (Some after) is = absurd is
next_made books (Changes id changes) None is = absurd is
next_made books (Changes id changes) (Some after) is = refl
next_made books (Makes bare changes) None is = absurd is
next_made books (Makes bare changes) (Some after) is = refl

accepted_as : (caller : Caller) (called : Call) (told : Result Answer Refusal)
    → is_accepted (Ok (caller, called)) (as_fault told) ≡ (is_ok told && is_writing called)
accepted_as caller called (Ok shown) = refl
accepted_as caller called (Err (at, broken)) = refl

-- spreadsheets come next exactly where the ask is accepted
pub accepted_next : (books : List PlaceBook) (asked : Result (Caller × Call) Fault) (told : Result Answer Fault)
    (effect : Effect) (next : Option (List PlaceBook)) → Ends books asked told effect → IsNext books effect next
    → is_accepted asked told ≡ is_some next
accepted_next books (Ok (caller, called)) told effect next ends is =
    ap (is_accepted (Ok (caller, called))) ends.told_is ∙ accepted_as caller called ends.answer
    ∙ sym (call_makes caller called books ends.answer effect ends.answered) ∙ sym (next_made books effect next is)
accepted_next books (Err found) told effect next ends is = sym (next_made books effect next is ∙ ap makes ends.1)

-- they stand for what it makes
pub becomes_next : (books after : List PlaceBook) (effect : Effect) → IsNext books effect (Some after)
    → Becomes effect books after
becomes_next books after Nothing is = absurd is
becomes_next books after (Changes id changes) is = is
becomes_next books after (Makes bare changes) is = is
