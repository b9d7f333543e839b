-- What a sheet holds at its places, where the cells of its lists are known.
use Rattle.std.proofs.Common.{◌≡◌, ◌≢◌, inl, inr, ℕ, ◌<◌, ◌≤◌, List, [], ◌∷◌, false, cond, get_or, length, map, refl}
use Rattle.std.proofs.Common.{sym, ap, subst, ◌∙◌, arith}
use Rattle.std.specs.Prelude.{Option, Some, None, Contains, ◌↔◌, nat_eq}
use Rattle.std.specs.Ordering.{eq_by_cmp}
use Rattle.std.specs.List.{IsDistinct, range_with_len}
use Rattle.std.specs.List.Sorted.{IsPermutation}
use Rattle.std.proofs.lemmas.Bool.{cases_Bool, eq-eqb, false≢true}
use Rattle.std.proofs.lemmas.Cmp.{eq_by_cmp_equiv}
use Rattle.std.proofs.lemmas.Map.Keys.{IsDistinct-head, IsDistinct-tail}
use Rattle.std.proofs.lemmas.Map.Views.{tells_apart}
use Rattle.cell_value.specs.Elements.{Contains-cons_cases, from_each, Contains-map}
use Rattle.grid_range.specs.Area.{by_rows}
use Rattle.grid_range.specs.ByRows.{by_rows_total, by_rows_exact}
use Rattle.cell_store.specs.Entries.{entry_at}
use Rattle.link_store.specs.declared.cells.Cell.{Cell}
use Rattle.link_store.specs.declared.cells.Cells.{Cells}
use Rattle.link_store.specs.declared.lines.Lines.{Lines}
use Rattle.link_store.specs.Lists.{entries_of}
use Rattle.link_store.specs.Lines.{AreLines, list_of}
use Rattle.link_store.specs.Crossings.{IsGrid, IsCellAt, ChangesAt, HasSameItems, sheet_items}
use Rattle.cell_value.specs.Elements.{nothing_in}
use Rattle.link_store.proofs.LineLists.{same_line}
use Rattle.link_store.proofs.Sheets.{item_from, cell_from}

-- options that hold the same
pub same_option : {X : Type 0} (a b : Option X) → ((x : X) → (a ≡ Some x) ↔ (b ≡ Some x)) → a ≡ b
same_option None None same = refl
same_option None (Some y) same = (same y).1 refl
same_option (Some x) b same = sym ((same x).0 refl)

-- no entry
pub empty_from : {X : Type 0} (xs : List X) → ((x : X) → Contains xs x → ⊥) → xs ≡ []
empty_from [] none = refl
empty_from (x ∷ xs) none = absurd (none x (0, omega arith, refl))

-- lines whose lists are the same, and whose other lists stay empty
pub lines_kept : {E : Type 0} (before after : Lines E) → AreLines before → after.lists.items ≡ before.lists.items
    → after.count ≡ before.count
    → length after.links ≡ length before.links
    → ((index : ℕ) (entry : ℕ × E) → before.count ≤ index → index < length before.lists.items
    → Contains (entries_of after.links (list_of before index)) entry → ⊥)
    → AreLines after
lines_kept before after are lists count long none = record {
  count = omega (arith, are.count, count, ap length lists);
  most = omega (arith, are.most, ap length lists);
  each_list = subst (λ xs. IsPermutation (range_with_len 0 (length after.links)) xs) (sym lists)
      (subst (λ n. IsPermutation (range_with_len 0 n) before.lists.items) (sym long) are.each_list);
  spare = λ index past inside.
      ap (λ xs. entries_of after.links (get_or xs index 0)) lists
      ∙ empty_from (entries_of after.links (list_of before index))
      (λ entry. none index entry (omega (arith, count)) (omega (arith, ap length lists)));
}

module _ {T : Type 0} where
  -- one of a row's cells is in a column
  pub one_cell : (found : List (ℕ × Cell T)) (one two : ℕ × Cell T)
      → IsDistinct nat_eq (map (λ (e : ℕ × Cell T). e.1.column) found)
      → Contains found one → Contains found two → one.1.column ≡ two.1.column → one ≡ two
  one_cell [] one two apart first second same = absurd (nothing_in one first)
  one_cell (entry ∷ rest) one two apart first second same =
      let head = IsDistinct-head nat_eq entry.1.column (map (λ (e : ℕ × Cell T). e.1.column) rest) apart in
      elim (Contains-cons_cases entry one rest first) [
        | inl here ↦ elim (Contains-cons_cases entry two rest second) [
          | inl there ↦ sym here ∙ there
          | inr later ↦ absurd (false≢true (sym (from_each (λ k. nat_eq entry.1.column k ≡ false)
              (map (λ (e : ℕ × Cell T). e.1.column) rest) head two.1.column
              (Contains-map (λ (e : ℕ × Cell T). e.1.column) rest two later))
              ∙ eq-eqb entry.1.column two.1.column (ap (λ (e : ℕ × Cell T). e.1.column) here ∙ same)))
        ]
        | inr other ↦ elim (Contains-cons_cases entry two rest second) [
          | inl there ↦ absurd (false≢true (sym (from_each (λ k. nat_eq entry.1.column k ≡ false)
              (map (λ (e : ℕ × Cell T). e.1.column) rest) head one.1.column
              (Contains-map (λ (e : ℕ × Cell T). e.1.column) rest one other))
              ∙ eq-eqb entry.1.column one.1.column (ap (λ (e : ℕ × Cell T). e.1.column) there ∙ sym same)))
          | inr later ↦ one_cell rest one two (IsDistinct-tail nat_eq entry.1.column
              (map (λ (e : ℕ × Cell T). e.1.column) rest) apart) other later same
        ]
      ]

  -- a cell with that item is at the place
  abbrev pub HoldsAt : Cells T → ℕ × ℕ → T → Type 0
  HoldsAt cells place item = (node : ℕ) × (cell : Cell T) × IsCellAt cells place.0 place.1 node
      cell × (cell.item ≡ item)

  pub holds_iff : (cells : Cells T) → IsGrid cells → (place : ℕ × ℕ) (item : T)
      → (entry_at (sheet_items cells) place ≡ Some item) ↔ HoldsAt cells place item
  holds_iff cells are place item = (
    cell_from cells are place.0 place.1 item,
    (λ held. item_from cells are place.0 place.1 held.0 held.1 held.2 ∙ ap Some held.3),
  )

  pub same_items : (before after : Cells T) → IsGrid before → IsGrid after
      → ((place : ℕ × ℕ) (item : T) → HoldsAt after place item ↔ HoldsAt before place item) → HasSameItems before after
  same_items before after one two same place =
      same_option (entry_at (sheet_items after) place) (entry_at (sheet_items before) place) (λ item. (
        (λ is. (holds_iff before one place item).1 ((same place item).0 ((holds_iff after two place item).0 is))),
        (λ is. (holds_iff after two place item).1 ((same place item).1 ((holds_iff before one place item).0 is))),
      ))

  -- what is held changes at one place
  pub changes_at : (before after : Cells T) (place : ℕ × ℕ) (is : Option T) → IsGrid before → IsGrid after
      → ((item : T) → HoldsAt after place item ↔ (is ≡ Some item))
      → ((other : ℕ × ℕ) (item : T) → other ≢ place → HoldsAt after other item ↔ HoldsAt before other item)
      → ChangesAt (sheet_items before) (sheet_items after) place is
  changes_at before after place is one two here elsewhere other = elim (cases_Bool (eq_by_cmp by_rows place other)) [
    | inl same ↦
        let equal : place ≡ other = tells_apart by_rows_exact place other same in
        ap (entry_at (sheet_items after)) (sym equal)
        ∙ same_option (entry_at (sheet_items after) place) is (λ item. (
          (λ held. (here item).0 ((holds_iff after two place item).0 held)),
          (λ some. (holds_iff after two place item).1 ((here item).1 some)),
        ))
        ∙ ap (λ b. cond b is (entry_at (sheet_items before) other)) (sym same)
    | inr apart ↦
        let differs : other ≢ place = λ equal. false≢true
        (sym apart ∙ ap (eq_by_cmp by_rows place) equal ∙ (eq_by_cmp_equiv by_rows_total).refl place) in
        same_option (entry_at (sheet_items after) other) (entry_at (sheet_items before) other) (λ item. (
          (λ held. (holds_iff before one other item).1
              ((elsewhere other item differs).0 ((holds_iff after two other item).0 held))),
          (λ held. (holds_iff after two other item).1
              ((elsewhere other item differs).1 ((holds_iff before one other item).0 held))),
        ))
        ∙ ap (λ b. cond b is (entry_at (sheet_items before) other)) (sym apart)
  ]

  -- two cells in one list and in one column are at one place
  pub one_cell_place : (cells : Cells T) → IsGrid cells
      → (row column other_row other_column node other : ℕ) (one two : Cell T)
      → IsCellAt cells row column node one → IsCellAt cells other_row other_column other two
      → list_of cells.rows row ≡ list_of cells.rows other_row → one.column ≡ two.column
      → ◌≡◌ {A = ℕ × ℕ} (row, column) (other_row, other_column)
  one_cell_place cells are row column other_row other_column node other one two first second lists columns =
      let same_row = same_line cells.rows are.rows_are row other_row
      (omega (arith, first.there.0, are.rows_are.count)) (omega (arith, second.there.0, are.rows_are.count))
      lists in
      let same_column = same_line cells.columns are.columns_are column other_column
      (omega (arith, first.there.1, are.columns_are.count)) (omega (arith, second.there.1, are.columns_are.count))
      (sym first.column_is ∙ columns ∙ second.column_is) in
      λ i. (same_row i, same_column i)
