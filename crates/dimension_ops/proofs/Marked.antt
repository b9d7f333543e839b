-- The marks of the formulas of a sheet: what is written, moved or followed keeps them, and which are taken.
use Rattle.std.proofs.Common.{◌≡◌, ℕ, ◌<◌, Bool, true, false, cond, refl, sym, ap, subst, ◌∙◌, arith}
use Rattle.std.specs.Prelude.{Option, None, Some, Result, Ok, Err, OnErr, OnOk, is_some}
use Rattle.std.specs.Option.{IsSome, option_map_or}
use Rattle.std.specs.Cmp.{eq_by_cmp_equiv}
use Rattle.std.specs.FinMap as finite
use Rattle.std.proofs.lemmas.Bool.{false≢true}
use Rattle.grid_range.specs.Area.{by_rows}
use Rattle.grid_range.specs.ByRows.{by_rows_total, same_cell}
use Rattle.grid_range.specs.declared.axis.Axis.{Axis}
use Rattle.grid_range.specs.declared.change.Change.{Change}
use Rattle.cell_store.specs.Moved.{GoesWithLines, size_after}
use Rattle.cell_store.specs.Table.{Table, item_at, empty_table, with_item, without_item}
use Rattle.ref_rewrite.specs.declared.cell_content.Content.{Content}
use Rattle.world_model.specs.Counts.{is_formula, formulas_at, formulas_in}
use Rattle.world_model.specs.Writing.{table_written}
use Rattle.dimension_ops.specs.References.{AreMarked, KeepsFormulas, is_formula_at}
use Rattle.dimension_ops.proofs.Places.{same}

-- a formula is held
abbrev holds_formula : Option Content → Bool
holds_formula held = option_map_or is_formula held false

-- ---- formulas that stay

pub keeps_itself : (table : Table Content) → KeepsFormulas table table
keeps_itself table = record { rows = refl; cols = refl; each = λ row col. refl; count = refl }

pub keeps_on : (one two three : Table Content) → KeepsFormulas one two → KeepsFormulas two three
    → KeepsFormulas one three
keeps_on one two three first then = record {
  rows = then.rows ∙ first.rows;
  cols = then.cols ∙ first.cols;
  each = λ row col. then.each row col ∙ first.each row col;
  count = then.count ∙ first.count;
}

pub keeps_at : (table after : Table Content) (row col : ℕ) (old new : Content) → after ≡ with_item table row col new
    → item_at table row col ≡ Some old → is_formula new ≡ is_formula old → formulas_in after ≡ formulas_in table
    → KeepsFormulas table after
keeps_at table after row col old new is held alike counted = record {
  rows = ap (λ t. t.rows) is;
  cols = ap (λ t. t.cols) is;
  each = λ r c.
      ap (λ t. is_formula_at t (r, c)) is
      ∙ ap holds_formula (finite.get-insert by_rows_total table.cells (row, col) new (r, c))
      ∙ chosen (same (r, c) (row, col)) (item_at table r c)
      (λ there. ap (λ (p : ℕ × ℕ). item_at table p.0 p.1) (same_cell (r, c) (row, col) there) ∙ held);
  count = counted;
}
  where
    chosen : (b : Bool) (found : Option Content) → (b ≡ true → found ≡ Some old)
        → holds_formula (cond b (Some new) found) ≡ holds_formula found
    chosen true found there = alike ∙ sym (ap holds_formula (there refl))
    chosen false found there = refl

-- what is written is no formula
pub none_written : (table after : Table Content) (row col : ℕ) (item : Option Content)
    → after ≡ table_written row col item table → formulas_at item ≡ 0 → is_formula_at after (row, col) ≡ false
none_written table after row col None is none =
    ap (λ t. is_formula_at t (row, col)) is
    ∙ ap holds_formula (finite.get-remove by_rows_total table.cells (row, col) (row, col)
    ∙ ap (λ b. cond b None (item_at table row col)) ((eq_by_cmp_equiv by_rows_total).refl (row, col)))
none_written table after row col (Some item) is none =
    ap (λ t. is_formula_at t (row, col)) is
    ∙ ap holds_formula (finite.get-insert by_rows_total table.cells (row, col) item (row, col)
    ∙ ap (λ b. cond b (Some item) (item_at table row col)) ((eq_by_cmp_equiv by_rows_total).refl (row, col)))
    ∙ no_formula (is_formula item) none
  where
    no_formula : (b : Bool) → ◌≡◌ {A = ℕ} (cond b 1 0) 0 → b ≡ false
    no_formula true one = absurd (omega (arith, one))
    no_formula false one = refl

-- ---- marks that stay

module _ {M : Type 0} where
  pub none_marked : (rows cols : ℕ) (table : Table Content) (marks : Table M) → table ≡ empty_table rows cols
      → marks ≡ empty_table rows cols → AreMarked table marks
  none_marked rows cols table marks is empty = record {
    rows = ap (λ t. t.rows) empty ∙ sym (ap (λ t. t.rows) is);
    cols = ap (λ t. t.cols) empty ∙ sym (ap (λ t. t.cols) is);
    each = λ row col held. absurd (false≢true (sym (ap (λ t. is_formula_at t (row, col)) is
        ∙ ap holds_formula (finite.get-empty by_rows (row, col))) ∙ held));
  }

  pub kept_marked : (before after : Table Content) (marks : Table M) → KeepsFormulas before after
      → AreMarked before marks
      → AreMarked after marks
  kept_marked before after marks keeps marked = record {
    rows = marked.rows ∙ sym keeps.rows;
    cols = marked.cols ∙ sym keeps.cols;
    each = λ row col is. marked.each row col (sym (keeps.each row col) ∙ is);
  }

  -- one mark more
  pub more_marked : (table : Table Content) (marks after : Table M) (row col : ℕ) (mark : M)
      → after ≡ with_item marks row col mark → AreMarked table marks → AreMarked table after
  more_marked table marks after row col mark is marked = record {
    rows = ap (λ t. t.rows) is ∙ marked.rows;
    cols = ap (λ t. t.cols) is ∙ marked.cols;
    each = λ r c held.
        subst IsSome (sym (ap (λ t. item_at t r c) is
        ∙ finite.get-insert by_rows_total marks.cells (row, col) mark (r, c)))
        (either (same (r, c) (row, col)) (item_at marks r c) (marked.each r c held));
  }
    where
      either : (b : Bool) (found : Option M) → IsSome found → IsSome (cond b (Some mark) found)
      either true found some = refl
      either false found some = some

  pub mark_there : (marks after : Table M) (row col : ℕ) (mark : M) → after ≡ with_item marks row col mark
      → IsSome (item_at after row col)
  mark_there marks after row col mark is =
      subst IsSome (sym (ap (λ t. item_at t row col) is
      ∙ finite.get-insert by_rows_total marks.cells (row, col) mark (row, col)
      ∙ ap (λ b. cond b (Some mark) (item_at marks row col)) ((eq_by_cmp_equiv by_rows_total).refl (row, col)))) refl

  -- the mark of a place without a formula is taken
  pub unmarked : (table : Table Content) (marks after : Table M) (row col : ℕ) → after ≡ without_item marks row col
      → is_formula_at table (row, col) ≡ false → AreMarked table marks → AreMarked table after
  unmarked table marks after row col is none marked = record {
    rows = ap (λ t. t.rows) is ∙ marked.rows;
    cols = ap (λ t. t.cols) is ∙ marked.cols;
    each = λ r c held.
        subst IsSome (sym (ap (λ t. item_at t r c) is
        ∙ finite.get-remove by_rows_total marks.cells (row, col) (r, c)))
        (other (same (r, c) (row, col)) (item_at marks r c)
        (λ there. false≢true (sym none ∙ sym (ap (is_formula_at table) (same_cell (r, c) (row, col) there)) ∙ held))
        (marked.each r c held));
  }
    where
      other : (b : Bool) (found : Option M) → (b ≡ true → ⊥) → IsSome found → IsSome (cond b None found)
      other true found not some = absurd (not refl)
      other false found not some = some

  -- it is taken, or memory ran out and it stays
  pub taken_marked : {A E : Type 0} (answer : Result A E) (table : Table Content) (marks after : Table M) (row col : ℕ)
      → OnOk answer (after ≡ without_item marks row col) → OnErr answer (after ≡ marks)
      → is_formula_at table (row, col) ≡ false → AreMarked table marks → AreMarked table after
  taken_marked (Ok item) table marks after row col taken stays none marked =
      unmarked table marks after row col taken none marked
  taken_marked (Err fault) table marks after row col taken stays none marked =
      subst (AreMarked table) (sym stays) marked

  -- a write where a mark stands, or of no formula
  pub written_marked : (table after : Table Content) (marks : Table M) (row col : ℕ) (item : Option Content)
      → after ≡ table_written row col item table → (0 < formulas_at item → IsSome (item_at marks row col))
      → AreMarked table marks → AreMarked after marks
  written_marked table after marks row col None is there marked = record {
    rows = marked.rows ∙ sym (ap (λ t. t.rows) is);
    cols = marked.cols ∙ sym (ap (λ t. t.cols) is);
    each = λ r c held. marked.each r c (left (same (r, c) (row, col)) (item_at table r c)
        (sym (ap (λ t. is_formula_at t (r, c)) is
        ∙ ap holds_formula (finite.get-remove by_rows_total table.cells (row, col) (r, c))) ∙ held));
  }
    where
      left : (b : Bool) (found : Option Content) → holds_formula (cond b None found) ≡ true → holds_formula found ≡ true
      left true found held = absurd (false≢true held)
      left false found held = held
  written_marked table after marks row col (Some item) is there marked = record {
    rows = marked.rows ∙ sym (ap (λ t. t.rows) is);
    cols = marked.cols ∙ sym (ap (λ t. t.cols) is);
    each = λ r c held. either (same (r, c) (row, col)) (item_at table r c) (item_at marks r c)
        (λ one. subst (λ (p : ℕ × ℕ). 0 < formulas_at (Some item) → IsSome (item_at marks p.0 p.1))
        (sym (same_cell (r, c) (row, col) one)) there)
        (marked.each r c)
        (sym (ap (λ t. is_formula_at t (r, c)) is
        ∙ ap holds_formula (finite.get-insert by_rows_total table.cells (row, col) item (r, c))) ∙ held);
  }
    where
      some_formula : is_formula item ≡ true → 0 < formulas_at (Some item)
      some_formula formula =
          let one : formulas_at (Some item) ≡ 1 = ap (λ b. cond b 1 0) formula in omega (arith, one)

      either : (b : Bool) (found : Option Content) (mark : Option M)
          → (b ≡ true → 0 < formulas_at (Some item) → IsSome mark)
          → (holds_formula found ≡ true → IsSome mark) → holds_formula (cond b (Some item) found) ≡ true → IsSome mark
      either true found mark here others held = here refl (some_formula held)
      either false found mark here others held = others held

  -- marks go with the lines of their formulas
  pub moved_marked : (axis : Axis) (change : Change) (before moved : Table Content) (marks after : Table M)
      → GoesWithLines axis change before moved → GoesWithLines axis change marks after → AreMarked before marks
      → AreMarked moved after
  moved_marked axis change before moved marks after goes follow marked =
      let size : (after.rows, after.cols) ≡ (moved.rows, moved.cols) =
      follow.size ∙ ap (λ (n : ℕ). size_after axis change n marks.cols) marked.rows
      ∙ ap (size_after axis change before.rows) marked.cols ∙ sym goes.size in
      record {
        rows = ap (λ (p : ℕ × ℕ). p.0) size;
        cols = ap (λ (p : ℕ × ℕ). p.1) size;
        each = λ row col is. came row col (item_at moved row col) refl is;
      }
    where
      marked_there : (row col old_row old_col : ℕ) (found : Option M) → item_at marks old_row old_col ≡ found
          → IsSome found
          → Rattle.cell_store.specs.Moved.place_after axis change old_row old_col ≡ Some (row, col)
          → IsSome (item_at after row col)
      marked_there row col old_row old_col None held some way = absurd (false≢true some)
      marked_there row col old_row old_col (Some mark) held some way =
          ap is_some ((follow.items row col mark).1
          (record { old_row = old_row; old_col = old_col; goes = way; held = held }))

      came : (row col : ℕ) (found : Option Content) → item_at moved row col ≡ found → holds_formula found ≡ true
          → IsSome (item_at after row col)
      came row col None held is = absurd (false≢true is)
      came row col (Some item) held is =
          let from = (goes.items row col item).0 held in
          marked_there row col from.old_row from.old_col (item_at marks from.old_row from.old_col) refl
          (marked.each from.old_row from.old_col (ap holds_formula from.held ∙ is)) from.goes
