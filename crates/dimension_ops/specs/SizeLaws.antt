-- Laws of the sizes of sheets: how many places there are once a sheet has others, and what the sizes are after a
-- change of the lines of one.
use Rattle.std.proofs.Common.{◌≡◌, ◌≢◌, ℕ, suc, ◌+◌, ◌*◌, ◌<◌, refl, sym, ap, subst, ◌∙◌, List, [], ◌∷◌, cond, Bool, true, false, length, get_or, arith, inl, inr}
use Rattle.std.specs.Prelude.{Option, None, Some, ◌==◌}
use Rattle.std.specs.List.{AllPairs, AllZip, sum_by}
use Rattle.std.specs.Option.{option_map}
use Rattle.std.proofs.lemmas.Bool.{cases_Bool, cond-true, cond-false, eqb-true, eq-eqb, false≢true, false_from_ne_true}
use Rattle.std.proofs.lemmas.List.Sums.{sum_by-cons}
use Rattle.std.proofs.lemmas.Option.{none-some, same_Some}
use Rattle.grid_range.specs.declared.axis.Axis.{Axis}
use Rattle.grid_range.specs.declared.change.Change.{Change}
use Rattle.cell_store.specs.Moved.{size_after}
use Rattle.cell_store.specs.Table.{Table}
use Rattle.ref_rewrite.specs.declared.cell_content.Content.{Content}
use Rattle.world_model.specs.Book.{PlaceBook}
use Rattle.world_model.specs.Counts.{grid_places}
use Rattle.world_model.specs.Laws.{size_of}
use Rattle.world_model.specs.PlaceChange.{BookChanged, SheetChanged}
use Rattle.world_model.specs.Sheet.{PlaceSheet}
use Rattle.world_model.specs.Sound.{place_sheet_with}
use Rattle.dimension_ops.specs.Lines.{HasSizesChanged, places_changed, size_changed}
use Rattle.dimension_ops.specs.SetProperties.{IsSized, places_with}

abbrev places_of : ℕ × ℕ → ℕ
places_of size = size.0 * size.1

-- ---- how many places there are

abbrev was : PlaceSheet → ℕ
was sheet = sheet.table.rows * sheet.table.cols

-- the sheet has others, and each other sheet as many as before
module _ (id : ℕ) (now made : PlaceSheet → ℕ)
    (here : (sheet : PlaceSheet) → (sheet.id == id) ≡ true → now sheet ≡ made sheet)
    (elsewhere : (sheet : PlaceSheet) → (sheet.id == id) ≡ false → now sheet ≡ was sheet) where
  others_stay : (sheets : List PlaceSheet)
      → ((k : ℕ) (d : PlaceSheet) → k < length sheets → (get_or sheets k d).id ≢ id)
      → sum_by now sheets ≡ sum_by was sheets
  others_stay [] other = refl
  others_stay (s ∷ ss) other =
      sum_by-cons now s ss
      ∙ ap (λ n. n + sum_by now ss)
      (elsewhere s (false_from_ne_true (s.id == id) (λ is. other 0 s (omega arith) (eqb-true s.id id is))))
      ∙ ap (λ n. was s + n) (others_stay ss (λ k d there. other (suc k) d (omega arith)))
      ∙ sym (sum_by-cons was s ss)

  -- of all places, those of the sheet are others
  all_replaced : (sheets : List PlaceSheet) (found : PlaceSheet)
      → AllPairs (λ one other. one.id ≢ other.id) sheets
      → place_sheet_with id sheets ≡ Some found
      → sum_by now sheets + was found ≡ grid_places sheets + made found
  all_replaced [] found distinct is = absurd (none-some found is)
  all_replaced (s ∷ ss) found distinct is = elim (cases_Bool (s.id == id)) [
    | inl own ↦
        let same : s ≡ found =
        same_Some s found (sym (cond-true (s.id == id) (Some s) (place_sheet_with id ss) own) ∙ is) in
        let rest = others_stay ss (λ k d there also. distinct 0 (suc k) d (omega arith) (omega arith)
        (eqb-true s.id id own ∙ sym also)) in
        let first = sum_by-cons now s ss in
        let first' = sum_by-cons was s ss in
        let changed = here s own in
        let as_was : was s ≡ was found = ap was same in
        let as_made : made s ≡ made found = ap made same in
        omega (arith, rest, first, first', changed, as_was, as_made)
    | inr away ↦
        let behind = all_replaced ss found
        (λ i j e below inside. distinct (suc i) (suc j) e (omega arith) (omega arith))
        (sym (cond-false (s.id == id) (Some s) (place_sheet_with id ss) away) ∙ is) in
        let first = sum_by-cons now s ss in
        let first' = sum_by-cons was s ss in
        let stays = elsewhere s away in
        omega (arith, behind, first, first', stays)
  ]

-- so it is after a change of its lines
module _ (id : ℕ) (axis : Axis) (change : Change) where
  abbrev now_if : PlaceSheet → Bool → ℕ
  now_if sheet b = places_of (cond b (size_after axis change sheet.table.rows sheet.table.cols) (size_of sheet))

  pub places_replaced : (sheets : List PlaceSheet) (found : PlaceSheet)
      → AllPairs (λ one other. one.id ≢ other.id) sheets
      → place_sheet_with id sheets ≡ Some found
      → places_changed id axis change sheets + was found
      ≡ grid_places sheets + places_of (size_after axis change found.table.rows found.table.cols)
  places_replaced =
      all_replaced id (λ sheet. places_of (size_changed id axis change sheet))
      (λ sheet. places_of (size_after axis change sheet.table.rows sheet.table.cols)) (λ sheet is. ap (now_if sheet) is)
      (λ sheet is. ap (now_if sheet) is)

-- ---- sizes after a change of the lines of a sheet

module _ (id : ℕ) (axis : Axis) (count : ℕ) (change : Change) where
  abbrev Goes : PlaceSheet → PlaceSheet → Type 0
  Goes = SheetChanged id axis count change

  -- a sheet has its size after the change
  pub size_goes : (one other : PlaceSheet) → Goes one other → size_of other ≡ size_changed id axis change one
  size_goes one other goes = elim (cases_Bool (one.id == id)) [
    | inl here ↦ followed ∙ (goes.goes (eqb-true one.id id here)).size
        ∙ sym (cond-true (one.id == id) (size_after axis change one.table.rows one.table.cols) (size_of one) here)
    | inr away ↦ followed
        ∙ ap (λ (table : Table Content). (table.rows, table.cols))
        (goes.stays (λ same. false≢true (sym away ∙ eq-eqb one.id id same)))
        ∙ sym (cond-false (one.id == id) (size_after axis change one.table.rows one.table.cols) (size_of one) away)
  ]
    where
      followed : size_of other ≡ (goes.moved.rows, goes.moved.cols)
      followed = ap (λ n. (n, other.table.cols)) goes.followed.rows
          ∙ ap (λ n. (goes.moved.rows, n)) goes.followed.cols

  first_size : (b b' : Bool) (one other : PlaceSheet) (rest rest' : Option PlaceSheet) → b' ≡ b → Goes one other
      → option_map size_of rest' ≡ option_map (size_changed id axis change) rest
      → option_map size_of (cond b' (Some other) rest')
      ≡ option_map (size_changed id axis change) (cond b (Some one) rest)
  first_size true true one other rest rest' same goes behind = ap Some (size_goes one other goes)
  first_size true false one other rest rest' same goes behind = absurd (false≢true same)
  first_size false true one other rest rest' same goes behind = absurd (false≢true (sym same))
  first_size false false one other rest rest' same goes behind = behind

  sizes_go : (n : ℕ) (ones others : List PlaceSheet) → AllZip Goes ones others
      → option_map size_of (place_sheet_with n others)
      ≡ option_map (size_changed id axis change) (place_sheet_with n ones)
  sizes_go n [] [] all = refl
  sizes_go n [] (o ∷ os) all = absurd all
  sizes_go n (s ∷ ss) [] all = absurd all
  sizes_go n (s ∷ ss) (o ∷ os) all =
      first_size (s.id == n) (o.id == n) s o (place_sheet_with n ss) (place_sheet_with n os)
      (ap (λ m. m == n) all.0.id) all.0 (sizes_go n ss os all.1)

  -- so has each that is found
  pub has_sizes : (before after : PlaceBook) → BookChanged id axis count change before after
      → HasSizesChanged id axis change before after
  has_sizes before after changed other = sizes_go other before.sheets after.sheets changed.sheets

  -- and all have so many places
  pub has_places : (ones others : List PlaceSheet) → AllZip Goes ones others
      → grid_places others ≡ places_changed id axis change ones
  has_places [] [] all = refl
  has_places [] (o ∷ os) all = absurd all
  has_places (s ∷ ss) [] all = absurd all
  has_places (s ∷ ss) (o ∷ os) all =
      sum_by-cons (λ (sheet : PlaceSheet). places_of (size_of sheet)) o os
      ∙ ap (λ size. places_of size + grid_places os) (size_goes s o all.0)
      ∙ ap (λ n. places_of (size_changed id axis change s) + n) (has_places ss os all.1)
      ∙ sym (sum_by-cons (λ (sheet : PlaceSheet). places_of (size_changed id axis change sheet)) s ss)

-- ---- a sheet whose size is known, and that gets another

found_passes : (id : ℕ) (sheets : List PlaceSheet) (sheet : PlaceSheet) → place_sheet_with id sheets ≡ Some sheet
    → (sheet.id == id) ≡ true
found_passes id [] sheet is = absurd (none-some sheet is)
found_passes id (s ∷ ss) sheet is = elim (cases_Bool (s.id == id)) [
  | inl here ↦ subst (λ (one : PlaceSheet). (one.id == id) ≡ true)
      (same_Some s sheet (sym (cond-true (s.id == id) (Some s) (place_sheet_with id ss) here) ∙ is)) here
  | inr away ↦ found_passes id ss sheet (sym (cond-false (s.id == id) (Some s) (place_sheet_with id ss) away) ∙ is)
]

module _ (id : ℕ) (given : ℕ × ℕ) where
  abbrev given_if : PlaceSheet → Bool → ℕ
  given_if sheet b = let size = cond b given (size_of sheet) in size.0 * size.1

  -- how many places there are with the size that is given
  pub places_given : (sheets : List PlaceSheet) (found : PlaceSheet) → AllPairs (λ one other. one.id ≢ other.id) sheets
      → place_sheet_with id sheets ≡ Some found
      → places_with id given sheets + found.table.rows * found.table.cols ≡ grid_places sheets + given.0 * given.1
  places_given =
      all_replaced id (λ sheet. given_if sheet (sheet.id == id)) (λ sheet. given.0 * given.1)
      (λ sheet is. ap (given_if sheet) is) (λ sheet is. ap (given_if sheet) is)

module _ (id : ℕ) (axis : Axis) (change : Change) where
  -- how many there are after a change of its lines
  pub places_then : (size : ℕ × ℕ) (others : ℕ) (sheets : List PlaceSheet) (found : PlaceSheet)
      → AllPairs (λ one other. one.id ≢ other.id) sheets → place_sheet_with id sheets ≡ Some found
      → IsSized id size others sheets
      → let then = size_after axis change size.0 size.1 in
      places_changed id axis change sheets ≡ others + then.0 * then.1
  places_then size others sheets found distinct at sized =
      let same : size_of found ≡ size =
      same_Some (size_of found) size (sym (ap (option_map size_of) at) ∙ sized.held) in
      let all = places_replaced id axis change sheets found distinct at in
      let was : found.table.rows * found.table.cols ≡ size.0 * size.1 = ap (λ (size : ℕ × ℕ). size.0 * size.1) same in
      let then = ap (λ (size : ℕ × ℕ). let then = size_after axis change size.0 size.1 in then.0 * then.1) same in
      let before = sized.places in
      omega (arith, all, was, then, before)

  -- and what its size is then
  pub then_sized : (count : ℕ) (before after : PlaceBook) (size : ℕ × ℕ) (others : ℕ) (found : Option PlaceSheet)
      → place_sheet_with id before.sheets ≡ found
      → AllPairs (λ one other. one.id ≢ other.id) before.sheets → BookChanged id axis count change before after
      → IsSized id size others before.sheets
      → let then = size_after axis change size.0 size.1 in IsSized id then others after.sheets
  then_sized count before after size others None at distinct changed sized =
      absurd (none-some size (sym (ap (option_map size_of) at) ∙ sized.held))
  then_sized count before after size others (Some found) at distinct changed sized = record {
    held = has_sizes id axis count change before after changed id
        ∙ ap (option_map (size_changed id axis change)) at
        ∙ ap (λ b. Some (cond b (size_after axis change found.table.rows found.table.cols) (size_of found)))
        (found_passes id before.sheets found at)
        ∙ ap (λ (size : ℕ × ℕ). Some (size_after axis change size.0 size.1))
        (same_Some (size_of found) size (sym (ap (option_map size_of) at) ∙ sized.held));
    places = has_places id axis count change before.sheets after.sheets changed.sheets
        ∙ places_then size others before.sheets found distinct at sized;
  }
