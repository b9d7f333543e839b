-- The sheet that is added is one, and is found by its id.
use Rattle.std.proofs.Common.{◌≡◌, ℕ, refl, sym, ap, ◌∙◌, List, [], ◌∷◌, ◌++◌, Bool, true, false, inl, inr}
use Rattle.std.specs.Prelude.{None, Option, Some, ◌==◌, take, drop}
use Rattle.std.proofs.lemmas.Bool.{cases_order, cond-false, cond-true, eq-eqb, false≢true}
use Rattle.std.proofs.lemmas.List.{take-append-drop}
use Rattle.cell_value.specs.Ids.{IsLeastUnused, IsNewId}
use Rattle.cell_value.specs.declared.cell.SheetProperties.{SheetProperties}
use Rattle.world_model.specs.Book.{PlaceBook}
use Rattle.world_model.specs.BookChange.{NewSheet}
use Rattle.world_model.specs.Sheet.{PlaceSheet}
use Rattle.world_model.specs.SheetChange.{new_place_sheet, place_sheet_added}
use Rattle.world_model.specs.Sound.{place_sheet_with}
use Rattle.dimension_ops.specs.JudgingLaws.{not_first}
use Rattle.dimension_ops.specs.SheetRequests.{IsFirstTitle, IsLeastId, IsNewSheet, has_id, has_title, numbered_title}

-- ---- one sheet

-- no number is both
not_both : (b : Bool) → b ≡ true → b ≡ false → ⊥
not_both b is fails = false≢true (sym fails ∙ is)

least_id_once : (sheets : List PlaceSheet) (one other : ℕ) → IsLeastId sheets one → IsLeastId sheets other → one ≡ other
least_id_once sheets one other is is' = elim (cases_order one other) [
  | inl same ↦ same
  | inr which ↦ elim which [
    | inl below ↦ absurd (not_both (has_id sheets one) (is'.least one below) is.unused)
    | inr above ↦ absurd (not_both (has_id sheets other) (is.least other above) is'.unused)
  ]
]

least_unused_once : (is_used : ℕ → Bool) (one other : ℕ) → IsLeastUnused is_used one → IsLeastUnused is_used other
    → one ≡ other
least_unused_once is_used one other is is' = elim (cases_order one other) [
  | inl same ↦ same
  | inr which ↦ elim which [
    | inl below ↦ absurd (not_both (is_used one) (is'.least one is.positive below) is.unused)
    | inr above ↦ absurd (not_both (is_used other) (is.least other is'.positive above) is'.unused)
  ]
]

first_title_once : (sheets : List PlaceSheet) (one other : List ℕ) → IsFirstTitle sheets one → IsFirstTitle sheets other
    → one ≡ other
first_title_once sheets one other (number, is, first) (number', is', first') =
    is
    ∙ ap numbered_title
    (least_unused_once (λ number. has_title sheets (numbered_title number)) number number' first first')
    ∙ sym is'

new_id_once : {A : Type 0} (IsChosen : A → Type 0) → ((one other : A) → IsChosen one → IsChosen other → one ≡ other)
    → (given : Option A) (one other : A) → IsNewId IsChosen given one → IsNewId IsChosen given other → one ≡ other
new_id_once IsChosen once None one other is is' = once one other is is'
new_id_once IsChosen once (Some asked) one other is is' = is ∙ sym is'

abbrev as_new : ℕ → List ℕ → Bool → ℕ → ℕ → NewSheet
as_new id title hidden rows cols = record { id = id; title = title; hidden = hidden; rows = rows; cols = cols }

pub new_sheet_once : (properties : SheetProperties) (sheets : List PlaceSheet) (one other : NewSheet)
    → IsNewSheet properties sheets one → IsNewSheet properties sheets other → one ≡ other
new_sheet_once properties sheets one other is is' =
    ap (λ id. as_new id one.title one.hidden one.rows one.cols)
    (new_id_once (IsLeastId sheets) (least_id_once sheets) properties.id one.id other.id is.id is'.id)
    ∙ ap (λ title. as_new other.id title one.hidden one.rows one.cols)
    (new_id_once (IsFirstTitle sheets) (first_title_once sheets) properties.title one.title other.title
    is.title is'.title)
    ∙ ap (λ hidden. as_new other.id other.title hidden one.rows one.cols) (is.hidden ∙ sym is'.hidden)
    ∙ ap (λ rows. as_new other.id other.title other.hidden rows one.cols) (is.rows ∙ sym is'.rows)
    ∙ ap (λ cols. as_new other.id other.title other.hidden other.rows cols) (is.cols ∙ sym is'.cols)

-- ---- where it stands

found_between : (id : ℕ) (new : PlaceSheet) (ones others : List PlaceSheet) → (new.id == id) ≡ true
    → place_sheet_with id (ones ++ others) ≡ None → place_sheet_with id (ones ++ new ∷ others) ≡ Some new
found_between id new [] others is none = cond-true (new.id == id) (Some new) (place_sheet_with id others) is
found_between id new (s ∷ ss) others is none =
    let away = not_first (s.id == id) s (place_sheet_with id (ss ++ others)) none in
    cond-false (s.id == id) (Some s) (place_sheet_with id (ss ++ new ∷ others)) away.0
    ∙ found_between id new ss others is away.1

pub found_added : (book : PlaceBook) (at : ℕ) (new : NewSheet) → place_sheet_with new.id book.sheets ≡ None
    → place_sheet_with new.id (place_sheet_added at (new_place_sheet new) book).sheets ≡ Some (new_place_sheet new)
found_added book at new none =
    found_between new.id (new_place_sheet new) (take at book.sheets) (drop at book.sheets) (eq-eqb new.id new.id refl)
    (ap (place_sheet_with new.id) (take-append-drop at book.sheets) ∙ none)
