-- Laws for the proofs of this crate and of those above it: that what is told can be made, and that members that are
-- done one after another have an answer where each has one that can be made, and so has one alone.
use Rattle.std.proofs.Common.{ℕ, ◌+◌, List, [], ◌∷◌, ◌++◌, refl}
use Rattle.std.specs.Prelude.{◌≡◌, Option, Some, None, Result, Ok, Err, IfOk, IsSomeAnd}
use Rattle.protection.specs.Denial.{Cells}
use Rattle.world_model.specs.Book.{PlaceBook}
use Rattle.world_model.specs.BookChange.{AreChanges, BookChange}
use Rattle.world_model.specs.ChangingLaws.{ChangesInTurn}
use Rattle.world_model.specs.Sheet.{PlaceSheet}
use Rattle.world_model.specs.Sound.{IsSound, place_sheet_with}
use Rattle.dimension_ops.specs.declared.rule.Rule.{Rule}
use Rattle.values_api.specs.DenialLaws.{some_denial}
use Rattle.values_api.specs.Denials.{IsUnlessDenied, unless_denied}
use Rattle.values_api.specs.Ranges.{FoundArea}
use Rattle.sheets_json.specs.declared.answer.Answer.{Answer}
use Rattle.sheets_json.specs.declared.place.Place.{Place}
use Rattle.batch_engine.specs.Answered.{HasNoAnswer}
use Rattle.batch_engine.specs.Calls.{AreMade, IsAlone, IsMade, alone, answered_at, answered_by, effect_of, effect_on, told_of}
use Rattle.batch_engine.specs.Effects.{Effect}
use Rattle.batch_engine.specs.Members.{InTurn, ToldOfAll, with_first}
use Rattle.batch_engine.specs.Values.{OnRange, done, refused}

-- there is a spreadsheet after the told changes
abbrev pub CanBeMade : {A : Type 0} → PlaceBook → Result (A × List BookChange) Rule → Type 0
CanBeMade book told = IfOk told (λ done. (after : PlaceBook) × AreChanges done.1 book after)

-- nothing is told that can be made
abbrev pub CanTellNone : {A : Type 0} → PlaceBook → (Result (A × List BookChange) Rule → Type 0) → Type 0
CanTellNone {A} book Is = (told : Result (A × List BookChange) Rule) → Is told → ¬ (CanBeMade book told)

-- ---- what holds of the spreadsheet then

-- what is told can be made, and that holds of the spreadsheet after it
abbrev pub CanBecome : {A : Type 0} → (PlaceBook → Type 0) → PlaceBook → Result (A × List BookChange) Rule → Type 0
CanBecome Holds book told = IfOk told (λ done. (after : PlaceBook) × AreChanges done.1 book after × Holds after)

-- nothing is told that can be made so
abbrev pub CannotBecome : {A : Type 0} → (PlaceBook → Type 0) → PlaceBook
    → (Result (A × List BookChange) Rule → Type 0) → Type 0
CannotBecome {A} Holds book Is =
    (told : Result (A × List BookChange) Rule) → Is told → ¬ (CanBecome Holds book told)

pub is_made : {A : Type 0} (Holds : PlaceBook → Type 0) (book : PlaceBook) (told : Result (A × List BookChange) Rule)
    → CanBecome Holds book told → CanBeMade book told
is_made Holds book (Ok one) (after, changed, holds) = (after, changed)
is_made Holds book (Err broken) can = tt

-- ---- denials

-- what can be made can be where a cell is denied: then nothing is
denied_becomes : {A : Type 0} (Holds : PlaceBook → Type 0) (book : PlaceBook) (denied : Option ℕ)
    (told : Result (A × List BookChange) Rule) → CanBecome Holds book told
    → CanBecome Holds book (unless_denied denied told)
denied_becomes Holds book None (Ok one) can = can
denied_becomes Holds book (Some id) (Ok one) can = tt
denied_becomes Holds book denied (Err broken) can = tt

-- something is told unless a cell is denied, as the protected ranges are at a time
pub some_unless_denied : {A : Type 0} (Holds : PlaceBook → Type 0) (user : List ℕ) (at book : PlaceBook) (cells : Cells)
    (Is : Result (A × List BookChange) Rule → Type 0) → ¬ (CannotBecome Holds book Is)
    → ¬ (CannotBecome Holds book (IsUnlessDenied user at cells Is))
some_unless_denied Holds user at book cells Is some none =
    some (λ told is can. some_denial user at cells (λ denied is_denied. none (unless_denied denied told) (record {
      denied = denied;
      is_denied = is_denied;
      done = told;
      is = is;
      told_is = refl;
    }) (denied_becomes Holds book denied told can)))

-- ---- ranges

-- what is on a range, and what holds of it
module _ {A : Type 0} (Found : Result FoundArea Rule → Type 0) (sheets : List PlaceSheet)
    (IsDone : FoundArea → PlaceSheet → Result A Rule → Type 0) (Holds : Result A Rule → Type 0)
    (Fits : FoundArea → PlaceSheet → Type 0) (finds : ¬ ((one : Result FoundArea Rule) → ¬ (Found one)))
    (there : (one : FoundArea) → Found (Ok one) → IsSomeAnd (place_sheet_with one.0.sheet sheets) (Fits one))
    (refuses : (broken : Rule) → Holds (Err broken))
    (each : (one : FoundArea) (sheet : PlaceSheet) → place_sheet_with one.0.sheet sheets ≡ Some sheet → Fits one sheet
    → ¬ ((told : Result A Rule) → IsDone one sheet told → ¬ (Holds told)))
    (none : (told : Result A Rule) → OnRange Found sheets IsDone told → ¬ (Holds told)) where
  no_sheet : (one : FoundArea) → Found (Ok one) → (sheet : Option PlaceSheet)
      → place_sheet_with one.0.sheet sheets ≡ sheet → ¬ (IsSomeAnd sheet (Fits one))
  no_sheet one is None at fits = fits
  no_sheet one is (Some sheet) at fits =
      each one sheet at fits (λ told does holds. none told (done one sheet is at does) holds)

  no_range : (one : Result FoundArea Rule) → ¬ (Found one)
  no_range (Ok one) is = no_sheet one is (place_sheet_with one.0.sheet sheets) refl (there one is)
  no_range (Err broken) is = none (Err broken) (refused broken is refl) (refuses broken)

  pub no_on_range : ⊥
  no_on_range = finds no_range

-- ---- calls

-- what is told of one thing that is done, and of a call on one spreadsheet
pub some_alone : (Answered : Result Answer Rule → Effect → Type 0) → ¬ (HasNoAnswer Answered)
    → ¬ (HasNoAnswer (IsAlone Answered))
some_alone Answered some none = some (λ judged effect is.
    none (alone judged) effect (record { judged = judged; answered = is; told_is = refl }))

pub some_made_alone : {A : Type 0} (Is : Result (A × List BookChange) Rule → Type 0) (answer_of : A → Answer)
    (book : PlaceBook) → ¬ (CanTellNone book Is) → ¬ (HasNoAnswer (IsMade Is answer_of book))
some_made_alone Is answer_of book some none = some (λ one is can.
    none (answered_by answer_of (told_of one)) (effect_on book one)
    (record { one = one; is = is; told_is = refl; effect_is = refl }))

-- what is made of a sound spreadsheet is sound
stays_sound : {A : Type 0} (turns : ChangesInTurn) (book : PlaceBook) → IsSound book
    → (told : Result (A × List BookChange) Rule) → CanBeMade book told → CanBecome IsSound book told
stays_sound turns book sound (Ok one) (after, changed) =
    (after, changed, turns.sound one.1 book after sound changed)
stays_sound turns book sound (Err broken) can = tt

pub some_sound : {A : Type 0} (turns : ChangesInTurn) (book : PlaceBook) → IsSound book
    → (Is : Result (A × List BookChange) Rule → Type 0) → ¬ (CanTellNone book Is)
    → ¬ (CannotBecome IsSound book Is)
some_sound turns book sound Is some none =
    some (λ told is can. none told is (stays_sound turns book sound told can))

-- ---- members

-- one after another, where something holds of the spreadsheet before each and after it
module _ {M A : Type 0} (Holds : PlaceBook → Type 0) (Is : PlaceBook → M → Result (A × List BookChange) Rule → Type 0)
    (each : (book : PlaceBook) → Holds book → (member : M) → ¬ (CannotBecome Holds book (Is book member))) where
  -- nothing that is told of members and made by them is possible
  abbrev HasNoTurn : ℕ → List M → PlaceBook → Type 0
  HasNoTurn at members book =
      (told : ToldOfAll A) (changes : List BookChange) → ¬ (InTurn Is at members book told changes)

  some_before : (at : ℕ) (member : M) (members : List M) (book : PlaceBook)
      → ((after : PlaceBook) → Holds after → ¬ (HasNoTurn (at + 1) members after))
      → HasNoTurn at (member ∷ members) book → (one : Result (A × List BookChange) Rule) → Is book member one
      → ¬ (CanBecome Holds book one)
  some_before at member members book later none (Ok (first, made)) is (after, changed, still) =
      later after still (λ rest others are.
      none (with_first first rest) (made ++ others)
      (Ok (first, made), is, (after, rest, others, changed, are, refl, refl)))
  some_before at member members book later none (Err broken) is can =
      none (Err (at, broken)) [] (Err broken, is, (refl, refl))

  some_in_turn : (at : ℕ) (members : List M) (book : PlaceBook) → Holds book → ¬ (HasNoTurn at members book)
  some_in_turn at [] book holds none = none (Ok []) [] (refl, refl)
  some_in_turn at (member ∷ members) book holds none =
      each book holds member
      (some_before at member members book (λ after still. some_in_turn (at + 1) members after still) none)

  pub some_made : (members : List M) (at : ℕ → Place) (answer_of : List A → Answer) (book : PlaceBook) → Holds book
      → ¬ (HasNoAnswer (AreMade Is members at answer_of book))
  some_made members at answer_of book holds none = some_in_turn 0 members book holds (λ all changes each.
      none (answered_at at answer_of all) (effect_of book all changes) (record {
        all = all;
        changes = changes;
        each = each;
        told_is = refl;
        effect_is = refl;
      }))
