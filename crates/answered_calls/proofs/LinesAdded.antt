-- Rows and then columns can be added to a sheet as far as the limits go: none, or some behind any of its lines.
use Rattle.std.proofs.Common.{◌≡◌, ℕ, zero, suc, ◌+◌, ◌*◌, ◌≤◌, List, [], ◌∷◌, ◌++◌, refl, sym, ap, subst, ◌∙◌, cond, Bool, true, false, arith}
use Rattle.std.specs.Prelude.{Option, None, Some, ◌==◌, if◌then◌else◌}
use Rattle.std.specs.List.{AllZip, list_any, sum_by}
use Rattle.std.proofs.lemmas.Bool.{eqb-true, false≢true, ne_eqb}
use Rattle.std.proofs.lemmas.List.Sums.{sum_by-cons}
use Rattle.std.proofs.lemmas.Nat.{mul-le}
use Rattle.std.proofs.lemmas.Option.{none-some, same_Some}
use Rattle.grid_range.specs.declared.area.Area.{Area}
use Rattle.grid_range.specs.declared.axis.Axis.{Axis}
use Rattle.grid_range.specs.declared.axis.Axis.TheVariants.{Rows, Columns}
use Rattle.grid_range.specs.declared.change.Change.TheVariants.{Insert}
use Rattle.cell_store.specs.Moved.{size_after}
use Rattle.merge_ranges.specs.Tests.{tears_merge}
use Rattle.world_model.specs.Book.{PlaceBook}
use Rattle.world_model.specs.BookChange.{AreChanges, BookChange}
use Rattle.world_model.specs.ChangingLaws.{ChangesInTurn}
use Rattle.world_model.specs.Laws.{size_of}
use Rattle.world_model.specs.PlaceChange.{SheetChanged}
use Rattle.world_model.specs.Sheet.{PlaceSheet}
use Rattle.world_model.specs.Sound.{IsSound, most_on, most_places, place_sheet_with}
use Rattle.dimension_ops.specs.Broken.{first_passed}
use Rattle.dimension_ops.specs.Lines.{passes_size, lines_of_sheet, places_changed, size_changed}
use Rattle.dimension_ops.specs.SizeLaws.{size_goes}
use Rattle.answered_calls.proofs.LinesMade.{LinesChange, changed_book, lines_changed, lines_made}
use Rattle.answered_calls.proofs.NamesKept.{KeepsNames, names_follow}
use Rattle.answered_calls.proofs.Unbroken.{HasItsLines, IsWithin, Keeps, is_within}

-- so many lines are inserted, which may be none
abbrev pub adding : ℕ → Axis → ℕ → ℕ → List BookChange
adding id axis at count = if count == 0 then [] else BookChange.LinesChanged id axis (Insert at count) ∷ []

-- how many places all sheets have with so many rows and columns more of one
abbrev pub places_more : ℕ → ℕ → ℕ → List PlaceSheet → ℕ
places_more id rows cols sheets = sum_by (λ sheet.
    let size = if sheet.id == id then (sheet.table.rows + rows, sheet.table.cols + cols) else size_of sheet in
    size.0 * size.1) sheets

abbrev places_of : ℕ × ℕ → ℕ
places_of size = size.0 * size.1

-- ---- a list

none_tears : (axis : Axis) (count at inserted : ℕ) (merges : List Area)
    → list_any (tears_merge axis count (Insert at inserted)) merges ≡ false
none_tears axis count at inserted [] = refl
none_tears axis count at inserted (merge ∷ merges) = none_tears axis count at inserted merges

sum_le : {A : Type 0} (f g : A → ℕ) → ((x : A) → f x ≤ g x) → (xs : List A) → sum_by f xs ≤ sum_by g xs
sum_le f g each [] = omega arith
sum_le f g each (x ∷ xs) =
    let first = each x in
    let rest = sum_le f g each xs in
    let one = sum_by-cons f x xs in
    let other = sum_by-cons g x xs in
    omega (arith, first, rest, one, other)

-- ---- lines of one axis

module _ (id : ℕ) (Sizes : PlaceSheet → ℕ × ℕ) where
  -- each sheet has that size
  abbrev Sized : PlaceSheet → PlaceSheet → Type 0
  Sized one other = (other.id ≡ one.id) × (size_of other ≡ Sizes one)

  first_found : (b b' : Bool) (one other found : PlaceSheet) (rest rest' : Option PlaceSheet) → b' ≡ b → Sized one other
      → (rest ≡ Some found → (own : PlaceSheet) × (rest' ≡ Some own) × (size_of own ≡ Sizes found))
      → cond b (Some one) rest ≡ Some found
      → (own : PlaceSheet) × (cond b' (Some other) rest' ≡ Some own) × (size_of own ≡ Sizes found)
  first_found true true one other found rest rest' same sized behind is =
      (other, refl, sized.1 ∙ ap Sizes (same_Some one found is))
  first_found true false one other found rest rest' same sized behind is = absurd (false≢true same)
  first_found false true one other found rest rest' same sized behind is = absurd (false≢true (sym same))
  first_found false false one other found rest rest' same sized behind is = behind is

  -- and so has the one that is found
  found_sized : (ones others : List PlaceSheet) → AllZip Sized ones others → (found : PlaceSheet)
      → place_sheet_with id ones ≡ Some found
      → (own : PlaceSheet) × (place_sheet_with id others ≡ Some own) × (size_of own ≡ Sizes found)
  found_sized [] [] all found is = absurd (none-some found is)
  found_sized [] (o ∷ os) all found is = absurd all
  found_sized (s ∷ ss) [] all found is = absurd all
  found_sized (s ∷ ss) (o ∷ os) all found is =
      first_found (s.id == id) (o.id == id) s o found (place_sheet_with id ss) (place_sheet_with id os)
      (ap (λ n. n == id) all.0.0) all.0 (λ there. found_sized ss os all.1 found there) is

-- a sheet that is found has the id
test_first : (id : ℕ) (b : Bool) (one found : PlaceSheet) (rest : Option PlaceSheet) → (one.id == id) ≡ b
    → (rest ≡ Some found → (found.id == id) ≡ true) → cond b (Some one) rest ≡ Some found → (found.id == id) ≡ true
test_first id true one found rest here behind is =
    ap (λ (sheet : PlaceSheet). sheet.id == id) (sym (same_Some one found is)) ∙ here
test_first id false one found rest here behind is = behind is

pub found_test : (id : ℕ) (sheets : List PlaceSheet) (found : PlaceSheet) → place_sheet_with id sheets ≡ Some found
    → (found.id == id) ≡ true
found_test id [] found is = absurd (none-some found is)
found_test id (sheet ∷ sheets) found is =
    test_first id (sheet.id == id) sheet found (place_sheet_with id sheets) refl
    (λ there. found_test id sheets found there) is

module _ (laws : LinesChange) (turns : ChangesInTurn) (id : ℕ) where
  -- a spreadsheet with so many lines more on the axis
  record AddedOn (axis : Axis) (at count : ℕ) (book : PlaceBook) : Type 0 where
    after : PlaceBook
    made : AreChanges (adding id axis at count) book after
    sizes : AllZip (Sized id (size_changed id axis (Insert at count))) book.sheets after.sheets
    names : KeepsNames book after

  not_none : (n : ℕ) → (suc n == 0) ≡ false
  not_none n = ne_eqb (suc n) 0 (λ e. absurd (let no : ⊥ = omega (arith, e) in no))

  more_none : (n : ℕ) → n ≡ n + 0
  more_none n = omega arith

  no_size : (axis : Axis) (at : ℕ) (sheet : PlaceSheet) (b : Bool) → size_of sheet
      ≡ cond b (size_after axis (Insert at 0) sheet.table.rows sheet.table.cols) (size_of sheet)
  no_size Rows at sheet true = ap (λ (n : ℕ). (n, sheet.table.cols)) (more_none sheet.table.rows)
  no_size Columns at sheet true = ap (λ (n : ℕ). (sheet.table.rows, n)) (more_none sheet.table.cols)
  no_size Rows at sheet false = refl
  no_size Columns at sheet false = refl

  all_stay : (axis : Axis) (at : ℕ) (sheets : List PlaceSheet)
      → AllZip (Sized id (size_changed id axis (Insert at 0))) sheets sheets
  all_stay axis at [] = tt
  all_stay axis at (sheet ∷ sheets) = ((refl, no_size axis at sheet (sheet.id == id)), all_stay axis at sheets)

  all_sized : (axis : Axis) (count at inserted : ℕ) (ones others : List PlaceSheet)
      → AllZip (SheetChanged id axis count (Insert at inserted)) ones others
      → AllZip (Sized id (size_changed id axis (Insert at inserted))) ones others
  all_sized axis count at inserted [] [] all = tt
  all_sized axis count at inserted [] (o ∷ os) all = absurd all
  all_sized axis count at inserted (s ∷ ss) [] all = absurd all
  all_sized axis count at inserted (s ∷ ss) (o ∷ os) all = (
    (all.0.id, size_goes id axis count (Insert at inserted) s o all.0),
    all_sized axis count at inserted ss os all.1,
  )

  module _ (book : PlaceBook) (sound : IsSound book) (found : PlaceSheet)
      (is : place_sheet_with id book.sheets ≡ Some found) where
    added_on : (axis : Axis) (at count : ℕ) → at ≤ lines_of_sheet axis found
        → lines_of_sheet axis found + count ≤ most_on axis
        → places_changed id axis (Insert at count) book.sheets ≤ most_places → AddedOn axis at count book
    added_on axis at zero below room few = record {
      after = book;
      made = turns.none book;
      sizes = all_stay axis at book.sheets;
      names = λ apart. apart;
    }
    added_on axis at (suc more) below room few =
        let has : HasItsLines (Insert at (suc more)) (lines_of_sheet axis found) = (below, omega arith) in
        let kept : Keeps id axis (Insert at (suc more)) book.sheets found = record {
          room = (omega arith, room);
          few = few;
          untorn = none_tears axis (lines_of_sheet axis found) at (suc more) found.merges;
        } in
        record {
          after = changed_book laws book sound id axis (Insert at (suc more)) found is has kept;
          made = subst (λ b. AreChanges (cond b [] (BookChange.LinesChanged id axis (Insert at (suc more)) ∷ [])) book
              (changed_book laws book sound id axis (Insert at (suc more)) found is has kept)) (sym (not_none more))
              (lines_made laws book sound id axis (Insert at (suc more)) found is has kept);
          sizes = all_sized axis (lines_of_sheet axis found) at (suc more) book.sheets
              (changed_book laws book sound id axis (Insert at (suc more)) found is has kept).sheets
              (lines_changed laws book sound id axis (Insert at (suc more)) found is has kept).sheets;
          names = names_follow id axis (lines_of_sheet axis found) (Insert at (suc more)) book.ranges;
        }

-- ---- rows and columns

-- a spreadsheet with the lines, and the sheet that has them
pub record Added (id : ℕ) (size : ℕ × ℕ) (changes : List BookChange) (book : PlaceBook) : Type 0 where
  pub after : PlaceBook
  pub made : AreChanges changes book after
  pub still : IsSound after
  pub sheet : PlaceSheet
  pub there : place_sheet_with id after.sheets ≡ Some sheet
  pub size_is : size_of sheet ≡ size
  pub names : KeepsNames book after

-- lines of one axis
pub axis_added : LinesChange → ChangesInTurn → (id : ℕ) (axis : Axis) (at count : ℕ) (book : PlaceBook) → IsSound book
    → (found : PlaceSheet) → place_sheet_with id book.sheets ≡ Some found → at ≤ lines_of_sheet axis found
    → lines_of_sheet axis found + count ≤ most_on axis
    → places_changed id axis (Insert at count) book.sheets ≤ most_places
    → Added id (size_after axis (Insert at count) found.table.rows found.table.cols) (adding id axis at count) book
axis_added laws turns id axis at count book sound found is below room few =
    let one : AddedOn laws turns id axis at count book =
    added_on laws turns id book sound found is axis at count below room few in
    let (own, there, size) = found_sized id (size_changed id axis (Insert at count)) book.sheets one.after.sheets
    one.sizes found is in
    record {
      after = one.after;
      made = one.made;
      still = turns.sound (adding id axis at count) book one.after sound one.made;
      sheet = own;
      there = there;
      size_is = size ∙ ap (λ b. cond b (size_after axis (Insert at count) found.table.rows found.table.cols)
          (size_of found)) (found_test id book.sheets found is);
      names = one.names;
    }

module _ (id at rows at' cols : ℕ) where
  -- what the columns make of sizes that the rows made
  abbrev wider : Bool → ℕ × ℕ → ℕ × ℕ
  wider b size = cond b (size.0, size.1 + cols) size

  both_more : (b : Bool) (r c : ℕ) → wider b (cond b (r + rows, c) (r, c)) ≡ cond b (r + rows, c + cols) (r, c)
  both_more true r c = refl
  both_more false r c = refl

  -- with the rows alone there are no more places
  rows_fewer : (b : Bool) (r c : ℕ) → places_of (cond b (r + rows, c) (r, c))
      ≤ places_of (cond b (r + rows, c + cols) (r, c))
  rows_fewer true r c = mul-le (r + rows) c (r + rows) (c + cols) (omega arith) (omega arith)
  rows_fewer false r c = omega arith

  -- the sizes with both
  abbrev larger : PlaceSheet → ℕ × ℕ
  larger sheet = cond (sheet.id == id) (sheet.table.rows + rows, sheet.table.cols + cols) (size_of sheet)

  first_few : (sheets : List PlaceSheet)
      → places_changed id Rows (Insert at rows) sheets ≤ places_more id rows cols sheets
  first_few sheets =
      sum_le (λ sheet. places_of (size_changed id Rows (Insert at rows) sheet)) (λ sheet. places_of (larger sheet))
      (λ sheet. rows_fewer (sheet.id == id) sheet.table.rows sheet.table.cols) sheets

  one_wider : (one other : PlaceSheet) → Sized id (size_changed id Rows (Insert at rows)) one other
      → size_changed id Columns (Insert at' cols) other ≡ larger one
  one_wider one other sized =
      ap (λ n. wider (n == id) (size_of other)) sized.0 ∙ ap (wider (one.id == id)) sized.1
      ∙ both_more (one.id == id) one.table.rows one.table.cols

  then_as_many : (ones others : List PlaceSheet) → AllZip (Sized id (size_changed id Rows (Insert at rows))) ones others
      → places_changed id Columns (Insert at' cols) others ≡ places_more id rows cols ones
  then_as_many [] [] all = refl
  then_as_many [] (o ∷ os) all = absurd all
  then_as_many (s ∷ ss) [] all = absurd all
  then_as_many (s ∷ ss) (o ∷ os) all =
      sum_by-cons (λ sheet. places_of (size_changed id Columns (Insert at' cols) sheet)) o os
      ∙ ap (λ size. places_of size + places_changed id Columns (Insert at' cols) os) (one_wider s o all.0)
      ∙ ap (λ n. places_of (larger s) + n) (then_as_many ss os all.1)
      ∙ sym (sum_by-cons (λ sheet. places_of (larger sheet)) s ss)

  size_both : (own own' : PlaceSheet) (r c : ℕ) → (own.id == id) ≡ true
      → size_of own' ≡ size_changed id Columns (Insert at' cols) own → size_of own ≡ (r + rows, c)
      → size_of own' ≡ (r + rows, c + cols)
  size_both own own' r c here size taller = size ∙ ap (λ b. wider b (size_of own)) here ∙ ap (wider true) taller

  pub lines_added : LinesChange → ChangesInTurn → (book : PlaceBook) → IsSound book → (found : PlaceSheet)
      → place_sheet_with id book.sheets ≡ Some found → at ≤ found.table.rows → at' ≤ found.table.cols
      → IsWithin (found.table.rows + rows, found.table.cols + cols) (places_more id rows cols book.sheets)
      → Added id (found.table.rows + rows, found.table.cols + cols)
      (adding id Rows at rows ++ adding id Columns at' cols) book
  lines_added laws turns book sound found is below below' within =
      let few = first_few book.sheets in
      let all = within.cells in
      let first : AddedOn laws turns id Rows at rows book =
      added_on laws turns id book sound found is Rows at rows below within.rows (omega (arith, few, all)) in
      let between : PlaceBook = first.after in
      let still = turns.sound (adding id Rows at rows) book between sound first.made in
      let (own, there, size) = found_sized id (size_changed id Rows (Insert at rows)) book.sheets between.sheets
      first.sizes found is in
      let taller : size_of own ≡ (found.table.rows + rows, found.table.cols) =
      size ∙ ap (λ b. cond b (found.table.rows + rows, found.table.cols) (size_of found))
      (found_test id book.sheets found is) in
      let across : own.table.cols ≡ found.table.cols = ap (λ (p : ℕ × ℕ). p.1) taller in
      let room = within.cols in
      let second : AddedOn laws turns id Columns at' cols between =
      added_on laws turns id between still own there Columns at' cols (omega (arith, across, below'))
      (omega (arith, across, room))
      (subst (λ n. n ≤ most_places) (sym (then_as_many book.sheets between.sheets first.sizes)) within.cells) in
      let (own', there', size') = found_sized id (size_changed id Columns (Insert at' cols)) between.sheets
      second.after.sheets second.sizes own there in
      let made = turns.both (adding id Rows at rows) (adding id Columns at' cols) book between second.after first.made
      second.made in
      record {
        after = second.after;
        made = made;
        still = turns.sound (adding id Rows at rows ++ adding id Columns at' cols) book second.after sound made;
        sheet = own';
        there = there';
        size_is = size_both own own' found.table.rows found.table.cols (found_test id between.sheets own there) size'
            taller;
        names = λ apart. second.names (first.names apart);
      }

  -- the same where no limit is passed
  pub lines_added_unless : LinesChange → ChangesInTurn → (book : PlaceBook) → IsSound book → (found : PlaceSheet)
      → place_sheet_with id book.sheets ≡ Some found → at ≤ found.table.rows → at' ≤ found.table.cols
      → first_passed (passes_size (found.table.rows + rows, found.table.cols + cols)
      (places_more found.id rows cols book.sheets)) ≡ None
      → Added id (found.table.rows + rows, found.table.cols + cols)
      (adding id Rows at rows ++ adding id Columns at' cols) book
  lines_added_unless laws turns book sound found is below below' none =
      let size : ℕ × ℕ = (found.table.rows + rows, found.table.cols + cols) in
      lines_added laws turns book sound found is below below'
      (subst (λ n. IsWithin size (places_more n rows cols book.sheets))
      (eqb-true found.id id (found_test id book.sheets found is))
      (is_within size (places_more found.id rows cols book.sheets) none))
