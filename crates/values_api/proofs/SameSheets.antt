-- A spreadsheet whose cells are updated has the same sheets for its formulas.
use Rattle.std.proofs.Common.{◌≡◌, ℕ, List, [], ◌∷◌, refl, ap, ◌∙◌, cond, Bool, true, false}
use Rattle.std.specs.Prelude.{Option, Some, ◌==◌}
use Rattle.std.specs.List.{AllZip, find}
use Rattle.std.specs.Option.{option_map}
use Rattle.std.specs.Str.{bytes_eq, str_to_ascii_lowercase}
use Rattle.std.proofs.Math.Path.{fun_ext}
use Rattle.formula_reader.specs.Sheets.{Sheets}
use Rattle.world_model.specs.Book.{PlaceBook}
use Rattle.world_model.specs.Sheet.{PlaceSheet}
use Rattle.world_model.specs.Updating.{Updates, BookUpdated, SheetUpdated}
use Rattle.values_api.specs.Sheets.{formula_sheets}

-- what is told of the sheet that is found, of one that tells the same
module _ {A : Type 0} (Keeps : PlaceSheet → PlaceSheet → Type 0) (test : PlaceSheet → Bool) (tell : PlaceSheet → A)
    (same : (one other : PlaceSheet) → Keeps one other → (test other ≡ test one) × (tell other ≡ tell one)) where
  head_same : (b c : Bool) (one other : PlaceSheet) (rest rest' : Option PlaceSheet) → c ≡ b → tell other ≡ tell one
      → option_map tell rest' ≡ option_map tell rest
      → option_map tell (cond c (Some other) rest') ≡ option_map tell (cond b (Some one) rest)
  head_same true true one other rest rest' is tells later = ap (λ x. Some x) tells
  head_same false false one other rest rest' is tells later = later
  head_same true false one other rest rest' is tells later = absurd (differ is)
    where
      differ : false ≡ true → ⊥
      differ e = cc
  head_same false true one other rest rest' is tells later = absurd (differ is)
    where
      differ : true ≡ false → ⊥
      differ e = cc

  found_same : (ones others : List PlaceSheet) → AllZip Keeps ones others
      → option_map tell (find test others) ≡ option_map tell (find test ones)
  found_same [] [] all = refl
  found_same [] (y ∷ ys) all = absurd all
  found_same (x ∷ xs) [] all = absurd all
  found_same (x ∷ xs) (y ∷ ys) all =
      let (tests, tells) = same x y all.0 in
      head_same (test x) (test y) x y (find test xs) (find test ys) tests tells (found_same xs ys all.1)

abbrev sheets_as : (List ℕ → Option ℕ) → (ℕ → Option (ℕ × ℕ)) → (ℕ → Option (List ℕ)) → Sheets
sheets_as named size title = record { named = named; size = size; title = title }

pub same_sheets : (id : ℕ) (updates : Updates) (before after : PlaceBook) → BookUpdated id updates before after
    → formula_sheets after.sheets ≡ formula_sheets before.sheets
same_sheets id updates before after updated =
    let was = formula_sheets before.sheets in
    let is = formula_sheets after.sheets in
    let Keeps : PlaceSheet → PlaceSheet → Type 0 = SheetUpdated id updates in
    ap (λ named. sheets_as named is.size is.title) (fun_ext (λ title.
    found_same Keeps (λ sheet. bytes_eq (str_to_ascii_lowercase sheet.title) title) (λ sheet. sheet.id)
    (λ one other kept. (ap (λ own. bytes_eq (str_to_ascii_lowercase own) title) kept.title, kept.id))
    before.sheets after.sheets updated.sheets))
    ∙ ap (λ size. sheets_as was.named size is.title) (fun_ext (λ wanted.
    found_same Keeps (λ sheet. sheet.id == wanted) (λ sheet. (sheet.table.rows, sheet.table.cols))
    (λ one other kept. (
      ap (λ own. own == wanted) kept.id,
      ap (λ rows. (rows, other.table.cols)) kept.rows ∙ ap (λ cols. (one.table.rows, cols)) kept.cols,
    )) before.sheets after.sheets updated.sheets))
    ∙ ap (λ title. sheets_as was.named was.size title) (fun_ext (λ wanted.
    found_same Keeps (λ sheet. sheet.id == wanted) (λ sheet. sheet.title)
    (λ one other kept. (ap (λ own. own == wanted) kept.id, kept.title)) before.sheets after.sheets updated.sheets))
