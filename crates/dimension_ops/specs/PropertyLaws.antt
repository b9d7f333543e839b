-- Laws of a title and a mark that are set: sheets keep their sizes, the title is free where no other sheet has it, and
-- not all sheets are hidden.
use Rattle.std.proofs.Common.{◌≡◌, ◌≢◌, ℕ, zero, suc, ◌+◌, ◌*◌, refl, sym, ap, ◌∙◌, List, [], ◌∷◌, cond, Bool, true, false, not, arith, inl, inr, ◌&&◌}
use Rattle.std.specs.Prelude.{Option, None, Some, is_some, map, unwrap_or, ◌==◌}
use Rattle.std.specs.List.{All, list_all}
use Rattle.std.specs.Option.{IsSome, option_map}
use Rattle.std.specs.Str.{str_eq_ignore_ascii_case}
use Rattle.std.proofs.lemmas.Bool.{cases_Bool, eqb-true, false≢true}
use Rattle.std.proofs.lemmas.List.Sums.{sum_by-cons}
use Rattle.std.proofs.lemmas.Option.{none-some}
use Rattle.cell_store.specs.Table.{Table}
use Rattle.ref_rewrite.specs.declared.cell_content.Content.{Content}
use Rattle.world_model.specs.Book.{PlaceBook}
use Rattle.world_model.specs.Counts.{grid_places}
use Rattle.world_model.specs.Laws.{size_of}
use Rattle.world_model.specs.Sheet.{PlaceSheet}
use Rattle.world_model.specs.SheetChange.{on_place_sheet, other_sheets, place_marked_hidden}
use Rattle.world_model.specs.Sound.{place_sheet_with}
use Rattle.dimension_ops.specs.SetProperties.{IsMarkFor, KeepsSize}
use Rattle.dimension_ops.specs.SheetRequests.{has_title}
use Rattle.dimension_ops.specs.Titles.{sheet_titled}

-- ---- another title or mark keeps sizes

module _ (id : ℕ) (change : PlaceSheet → PlaceSheet) (keeps_id : (sheet : PlaceSheet) → (change sheet).id ≡ sheet.id)
    (keeps_table : (sheet : PlaceSheet) → (change sheet).table ≡ sheet.table) where
  abbrev changed : PlaceSheet → PlaceSheet
  changed sheet = cond (sheet.id == id) (change sheet) sheet

  others_same : (sheets : List PlaceSheet) → other_sheets id (map changed sheets) ≡ other_sheets id sheets
  others_same [] = refl
  others_same (s ∷ ss) =
      ap (λ rest. cond (not ((changed s).id == id)) (changed s ∷ rest) rest) (others_same ss)
      ∙ either (s.id == id) refl
    where
      either : (b : Bool) → (s.id == id) ≡ b
          → cond (not ((cond b (change s) s).id == id)) (cond b (change s) s ∷ other_sheets id ss) (other_sheets id ss)
          ≡ cond (not b) (s ∷ other_sheets id ss) (other_sheets id ss)
      either true is =
          ap (λ n. cond (not (n == id)) (change s ∷ other_sheets id ss) (other_sheets id ss)) (keeps_id s)
          ∙ ap (λ b. cond (not b) (change s ∷ other_sheets id ss) (other_sheets id ss)) is
      either false is = ap (λ b. cond (not b) (s ∷ other_sheets id ss) (other_sheets id ss)) is

  size_same : (sheets : List PlaceSheet) → option_map size_of (place_sheet_with id (map changed sheets))
      ≡ option_map size_of (place_sheet_with id sheets)
  size_same [] = refl
  size_same (s ∷ ss) = either (s.id == id) refl (size_same ss)
    where
      rest : Option PlaceSheet
      rest = place_sheet_with id (map changed ss)

      either : (b : Bool) → (s.id == id) ≡ b
          → option_map size_of rest ≡ option_map size_of (place_sheet_with id ss)
          → option_map size_of (cond ((cond b (change s) s).id == id) (Some (cond b (change s) s)) rest)
          ≡ option_map size_of (cond b (Some s) (place_sheet_with id ss))
      either true is behind =
          ap (λ n. option_map size_of (cond (n == id) (Some (change s)) rest)) (keeps_id s)
          ∙ ap (λ b. option_map size_of (cond b (Some (change s)) rest)) is
          ∙ ap (λ (table : Table Content). Some (table.rows, table.cols)) (keeps_table s)
      either false is behind = ap (λ b. option_map size_of (cond b (Some s) rest)) is ∙ behind

  abbrev places : PlaceSheet → ℕ
  places sheet = sheet.table.rows * sheet.table.cols

  places_same : (sheets : List PlaceSheet) → grid_places (map changed sheets) ≡ grid_places sheets
  places_same [] = refl
  places_same (s ∷ ss) =
      sum_by-cons places (changed s) (map changed ss)
      ∙ ap (λ n. n + grid_places (map changed ss)) (either (s.id == id))
      ∙ ap (λ n. places s + n) (places_same ss)
      ∙ sym (sum_by-cons places s ss)
    where
      either : (b : Bool) → places (cond b (change s) s) ≡ places s
      either true = ap (λ (table : Table Content). table.rows * table.cols) (keeps_table s)
      either false = refl

  -- so it is with any change of one sheet that leaves it its id and its table
  pub size_kept : (sheets : List PlaceSheet) → KeepsSize id sheets (map changed sheets)
  size_kept sheets = record { others = others_same sheets; size = size_same sheets; places = places_same sheets }

-- and with none
pub all_kept : (id : ℕ) (sheets : List PlaceSheet) → KeepsSize id sheets sheets
all_kept id sheets = record { others = refl; size = refl; places = refl }

still_there : (one other : Option PlaceSheet) → option_map size_of other ≡ option_map size_of one → IsSome one
    → IsSome other
still_there None other same there = absurd (false≢true there)
still_there (Some sheet) None same there = absurd (none-some (size_of sheet) same)
still_there (Some sheet) (Some other) same there = refl

-- a mark can be set as before
pub mark_still : (id : ℕ) (given : Option Bool) (before after : List PlaceSheet) → KeepsSize id before after
    → IsMarkFor id given before → IsMarkFor id given after
mark_still id given before after kept is = record {
  there = still_there (place_sheet_with id before) (place_sheet_with id after) kept.size is.there;
  visible = ap (λ others. unwrap_or given false && list_all (λ (sheet : PlaceSheet). sheet.hidden) others) kept.others
      ∙ is.visible;
}

-- ---- titles

abbrev IsFree : ℕ → List ℕ → PlaceSheet → Type 0
IsFree id title other = other.id ≢ id → str_eq_ignore_ascii_case other.title title ≡ false

one_more_free : (id : ℕ) (title : List ℕ) (s : PlaceSheet) (ss : List PlaceSheet) → IsFree id title s
    → All (IsFree id title) ss → All (IsFree id title) (s ∷ ss)
one_more_free id title s ss one rest zero d there = one
one_more_free id title s ss one rest (suc k) d there = rest k d (omega (arith, there))

first_free : (b : Bool) (s : PlaceSheet) (rest : Option PlaceSheet) → is_some (cond b (Some s) rest) ≡ false
    → (b ≡ false) × (is_some rest ≡ false)
first_free true s rest taken = absurd (false≢true (sym taken))
first_free false s rest taken = (refl, taken)

-- the title is free on all sheets but the one with the id
pub others_free : (id : ℕ) (title : List ℕ) (sheets : List PlaceSheet)
    → has_title (other_sheets id sheets) title ≡ false
    → All (IsFree id title) sheets
others_free id title [] is = λ k d there. absurd (omega (arith, there))
others_free id title (s ∷ ss) is = elim (cases_Bool (s.id == id)) [
  | inl here ↦ one_more_free id title s ss (λ apart. absurd (apart (eqb-true s.id id here)))
      (others_free id title ss
      (sym (ap (λ b. has_title (cond (not b) (s ∷ other_sheets id ss) (other_sheets id ss)) title) here) ∙ is))
  | inr away ↦
      let both = first_free (str_eq_ignore_ascii_case s.title title) s (sheet_titled title (other_sheets id ss))
      (sym (ap (λ b. has_title (cond (not b) (s ∷ other_sheets id ss) (other_sheets id ss)) title) away) ∙ is) in
      one_more_free id title s ss (λ apart. both.0) (others_free id title ss both.1)
]

-- ---- marks

and_false : (b : Bool) → (b && false) ≡ false
and_false true = refl
and_false false = refl

abbrev is_hidden : PlaceSheet → Bool
is_hidden sheet = sheet.hidden

abbrev marked : ℕ → Bool → PlaceSheet → PlaceSheet
marked id hidden sheet = cond (sheet.id == id) (place_marked_hidden hidden sheet) sheet

hidden_left : (id : ℕ) (sheets : List PlaceSheet)
    → list_all is_hidden (map (marked id true) sheets) ≡ list_all is_hidden (other_sheets id sheets)
hidden_left id [] = refl
hidden_left id (s ∷ ss) =
    ap (λ b. is_hidden (marked id true s) && b) (hidden_left id ss) ∙ either (s.id == id)
  where
    either : (b : Bool)
        → (is_hidden (cond b (place_marked_hidden true s) s) && list_all is_hidden (other_sheets id ss))
        ≡ list_all is_hidden (cond (not b) (s ∷ other_sheets id ss) (other_sheets id ss))
    either true = refl
    either false = refl

shown_left : (id : ℕ) (sheets : List PlaceSheet) → IsSome (place_sheet_with id sheets)
    → list_all is_hidden (map (marked id false) sheets) ≡ false
shown_left id [] there = absurd (false≢true there)
shown_left id (s ∷ ss) there = either (s.id == id) there (shown_left id ss)
  where
    either : (b : Bool) → IsSome (cond b (Some s) (place_sheet_with id ss))
        → (IsSome (place_sheet_with id ss) → list_all is_hidden (map (marked id false) ss) ≡ false)
        → (is_hidden (cond b (place_marked_hidden false s) s) && list_all is_hidden (map (marked id false) ss)) ≡ false
    either true there behind = refl
    either false there behind = ap (λ b. s.hidden && b) (behind there) ∙ and_false s.hidden

-- not all are hidden once the mark is set
pub one_visible : (id : ℕ) (hidden : Bool) (book : PlaceBook) → IsMarkFor id (Some hidden) book.sheets
    → list_all (λ other. other.hidden) (on_place_sheet id (place_marked_hidden hidden) book).sheets ≡ false
one_visible id true book is = hidden_left id book.sheets ∙ is.visible
one_visible id false book is = shown_left id book.sheets is.there
