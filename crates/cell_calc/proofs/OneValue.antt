-- A place has one value at most: there is a spreadsheet whose formulas are the trees of those that are stored, and
-- its formulas can be listed.
use Rattle.std.proofs.Common.{◌≡◌, ◌≢◌, ◌⊎◌, inl, inr, ℤ, pos, ℕ, ◌<◌, ◌==◌, Bool, true, false, cond, List, [], ◌∷◌, length, map, Contains, Option, Some, None, refl, ap, sym, subst, ◌∙◌, arith}
use Rattle.std.specs.Prelude.{flat_map, unwrap_or, IsSomeAnd, if◌then◌else◌}
use Rattle.std.specs.Option.{IsSome}
use Rattle.std.specs.List.{AllPairs, range_with_len}
use Rattle.std.specs.Bool.{Decides, beq}
use Rattle.std.specs.Cmp.{booleans_Decides}
use Rattle.std.specs.Ordering.{int_eq}
use Rattle.std.specs.Str.{bytes_eq}
use Rattle.std.proofs.lemmas.Bool.{false≢true}
use Rattle.std.proofs.lemmas.Bool.Decides.{Decides-eqb, Decides-int_eq}
use Rattle.std.proofs.lemmas.List.Elements.{All-from_recursion, Contains-append_left, Contains-append_right}
use Rattle.std.proofs.lemmas.List.Kept.{AllPairs-cons}
use Rattle.std.proofs.lemmas.Slice.Eq.{bytes_eq-Decides}
use Rattle.cell_value.specs.declared.cell.Kind.{Kind}
use Rattle.cell_value.specs.declared.cell.Kind.TheVariants as kind
use Rattle.cell_value.specs.declared.cell.Value.{Value}
use Rattle.cell_value.specs.declared.cell.Value.TheVariants.{Blank, Number, Text, Truth, Error}
use Rattle.cell_value.specs.Elements.{nothing_in, Contains-head, Contains-cons, Contains-cons_cases, Contains-map, each_from}
use Rattle.ref_rewrite.specs.declared.cell_content.Content.{Content}
use Rattle.ref_rewrite.specs.declared.cell_content.Content.TheVariants as content
use Rattle.formula_reader.specs.Laws.{HasOneTree}
use Rattle.cell_calc.specs.Book.{Book, Place, Cell, stored, formula, IsFormula}
use Rattle.cell_calc.specs.Contents.{Contents, AreOf, AreSound, HasPlace, IsCell}
use Rattle.cell_calc.specs.Calculated.{IsValueIn, ValuesOnce}
use Rattle.cell_calc.specs.CellValue.{AreFormulas, Walks}
use Rattle.cell_calc.specs.Marks.{is_place, keyed_place}
use Rattle.cell_calc.proofs.Marking.{same_place, is_itself}
use Rattle.cell_calc.proofs.Rectangle.{by_row, cells_have, range_has}

-- it can't be that there is none
abbrev pub NotNone : Type 0 → Type 0
NotNone A = (A → ⊥) → ⊥

-- a cell that is a formula is stored
some_stored : (found : Option Content) (cell : Cell) → IsCell found cell → IsFormula cell → IsSome found
some_stored None cell is formed = absurd (subst IsFormula is formed)
some_stored (Some found) cell is formed = refl

-- what is stored is some cell
some_cell : HasOneTree → (found : Option Content) → NotNone ((cell : Cell) × IsCell found cell)
some_cell one None none = none (stored Blank, refl)
some_cell one (Some (content.Number n)) none = none (stored (Number n), refl)
some_cell one (Some (content.Text t)) none = none (stored (Text t), refl)
some_cell one (Some (content.Truth b)) none = none (stored (Truth b), refl)
some_cell one (Some (content.Formula text)) none =
    none (
      formula None,
      (
        None,
        (λ tree is.
            none (formula (Some tree), (Some tree, (is, λ other is'. one text other tree is'.1 is.1), refl))),
        refl,
      ),
    )

module _ (contents : Contents) (one : HasOneTree) where
  -- the cells of some places
  abbrev AreCells : List Place → (Place → Cell) → Type 0
  AreCells places cells = (place : Place) → Contains places place → IsCell (contents.content place) (cells place)

  -- one cell more
  abbrev with_cell : Place → Cell → (Place → Cell) → Place → Cell
  with_cell place cell cells other = cond (is_place place other) cell (cells other)

  one_more : (place : Place) (places : List Place) (cell : Cell) (cells : Place → Cell)
      → IsCell (contents.content place) cell → AreCells places cells
      → AreCells (place ∷ places) (with_cell place cell cells)
  one_more place places cell cells is are other has =
      by_test (is_place place other) refl
    where
      later : is_place place other ≡ false → Contains places other
      later apart = elim (Contains-cons_cases place other places has) [
        | inl same ↦
            absurd (false≢true (sym apart ∙ ap (is_place place) (sym same) ∙ is_itself place))
        | inr there ↦ there
      ]

      by_test : (test : Bool) → is_place place other ≡ test
          → IsCell (contents.content other) (cond test cell (cells other))
      by_test true same = subst (λ p. IsCell (contents.content p) cell) (same_place place other same) is
      by_test false apart = are other (later apart)

  some_cells : (places : List Place) → NotNone ((cells : Place → Cell) × AreCells places cells)
  some_cells [] none = none ((λ place. stored Blank), λ place has. absurd (nothing_in place has))
  some_cells (place ∷ places) none =
      some_cells places (λ (cells, are).
      some_cell one (contents.content place) (λ (cell, is).
      none (with_cell place cell cells, one_more place places cell cells is are)))

  -- the places of a sheet, and of sheets
  abbrev places_on : ℕ → List Place
  places_on sheet =
      let size = unwrap_or (contents.size sheet) (0, 0) in
      map (λ cell. keyed_place (sheet, cell.0, cell.1)) (by_row (range_with_len 0 size.0) (range_with_len 0 size.1))

  abbrev all_places : List ℕ → List Place
  all_places sheets = flat_map places_on sheets

  within_size : (size : Option (ℕ × ℕ)) (row column : ℕ) → IsSomeAnd size (λ s. (row < s.0) × (column < s.1))
      → IsSome size × (row < (unwrap_or size (0, 0)).0) × (column < (unwrap_or size (0, 0)).1)
  within_size None row column within = absurd within
  within_size (Some size) row column within = (refl, within.0, within.1)

  on_sheet : (place : Place) → HasPlace contents place → Contains (places_on place.sheet) place
  on_sheet place has =
      let within = within_size (contents.size place.sheet) place.row place.column has in
      let size = unwrap_or (contents.size place.sheet) (0, 0) in
      Contains-map (λ (cell : ℕ × ℕ). keyed_place (place.sheet, cell.0, cell.1))
      (by_row (range_with_len 0 size.0) (range_with_len 0 size.1)) (place.row, place.column)
      (cells_have (range_with_len 0 size.0) (range_with_len 0 size.1) place.row place.column
      (range_has 0 size.0 place.row (omega arith) (omega (arith, within.1)))
      (range_has 0 size.1 place.column (omega arith) (omega (arith, within.2))))

  among_all : (sheets : List ℕ) (place : Place) → Contains sheets place.sheet → HasPlace contents place
      → Contains (all_places sheets) place
  among_all [] place listed has = absurd (nothing_in place.sheet listed)
  among_all (sheet ∷ sheets) place listed has = elim (Contains-cons_cases sheet place.sheet sheets listed) [
    | inl same ↦ Contains-append_left (places_on sheet) (all_places sheets) place
        (subst (λ s. Contains (places_on s) place) (sym same) (on_sheet place has))
    | inr later ↦ Contains-append_right (places_on sheet) (all_places sheets) place
        (among_all sheets place later has)
  ]

  module _ (sound : AreSound contents) where
    stored_among : (place : Place) → IsSome (contents.content place) → Contains (all_places contents.sheets) place
    stored_among place some =
        let has = sound.inside place some in
        among_all contents.sheets place
        ((sound.sized place.sheet).0 (within_size (contents.size place.sheet) place.row place.column has).0) has

    -- blank where nothing is stored
    abbrev blank_else : Option Content → Cell → Cell
    blank_else None cell = stored Blank
    blank_else (Some found) cell = cell

    all_cells : (cells : Place → Cell) → AreCells (all_places contents.sheets) cells → (place : Place)
        (found : Option Content) → contents.content place ≡ found
        → IsCell found (blank_else found (cells place))
    all_cells cells are place None is = refl
    all_cells cells are place (Some found) is =
        subst (λ o. IsCell o (cells place)) is
        (are place (stored_among place (subst IsSome (sym is) refl)))

    pub some_book : NotNone ((book : Book) × AreOf contents book)
    some_book none = some_cells (all_places contents.sheets) (λ (cells, are).
        none (
          record {
            cells = λ place. blank_else (contents.content place) (cells place);
            size = λ sheet. unwrap_or (contents.size sheet) (0, 0);
            named = contents.named;
          },
          record {
            cells = λ place. all_cells cells are place (contents.content place) refl;
            size = λ sheet. refl;
            named = λ word. refl;
          },
        ))

    module _ (book : Book) (are : AreOf contents book) where
      -- the formulas among some places, none twice
      record Listed (places listed : List Place) : Type 0 where
        all : (place : Place) → Contains places place → IsFormula (book.cells place) → Contains listed place
        only : (place : Place) → Contains listed place → IsFormula (book.cells place)
        once : AllPairs (λ one other. one ≢ other) listed

      is_listed : (place : Place) (listed : List Place) → Contains listed place ⊎ (Contains listed place → ⊥)
      is_listed place [] = inr (nothing_in place)
      is_listed place (first ∷ later) = by_test (is_place first place) refl (is_listed place later)
        where
          by_test : (test : Bool) → is_place first place ≡ test → Contains later place ⊎ (Contains later place → ⊥)
              → Contains (first ∷ later) place ⊎ (Contains (first ∷ later) place → ⊥)
          by_test true same rest =
              inl (subst (Contains (first ∷ later)) (same_place first place same) (Contains-head first later))
          by_test false apart (inl there) = inl (Contains-cons first place later there)
          by_test false apart (inr nowhere) = inr (λ has. elim (Contains-cons_cases first place later has) [
            | inl is ↦ false≢true (sym apart ∙ ap (is_place first) (sym is) ∙ is_itself first)
            | inr there ↦ nowhere there
          ])

      passed_over : (place : Place) (places listed : List Place) → Listed places listed
          → (IsFormula (book.cells place) → Contains listed place) → Listed (place ∷ places) listed
      passed_over place places listed l has = record {
        all = λ other there is. elim (Contains-cons_cases place other places there) [
          | inl same ↦ subst (Contains listed) same (has (subst (λ p. IsFormula (book.cells p)) (sym same) is))
          | inr later ↦ l.all other later is
        ];
        only = l.only;
        once = l.once;
      }

      put_first : (place : Place) (places listed : List Place) → Listed places listed → IsFormula (book.cells place)
          → (Contains listed place → ⊥) → Listed (place ∷ places) (place ∷ listed)
      put_first place places listed l is new = record {
        all = λ other there formed. elim (Contains-cons_cases place other places there) [
          | inl same ↦ subst (Contains (place ∷ listed)) same (Contains-head place listed)
          | inr later ↦ Contains-cons place other listed (l.all other later formed)
        ];
        only = λ other there. elim (Contains-cons_cases place other listed there) [
          | inl same ↦ subst (λ p. IsFormula (book.cells p)) same is
          | inr later ↦ l.only other later
        ];
        once = AllPairs-cons (λ a b. a ≢ b) place listed
            (All-from_recursion (λ b. place ≢ b) listed
            (each_from (λ b. place ≢ b) listed (λ b has same. new (subst (Contains listed) (sym same) has)))) l.once;
      }

      one_listed : (place : Place) (places listed : List Place) → Listed places listed
          → (cell : Cell) → book.cells place ≡ cell → (more : List Place) × Listed (place ∷ places) more
      one_listed place places listed l (stored value) is =
          (listed, passed_over place places listed l (λ formed. absurd (subst IsFormula is formed)))
      one_listed place places listed l (formula tree) is = elim (is_listed place listed) [
        | inl has ↦ (listed, passed_over place places listed l (λ formed. has))
        | inr new ↦ (place ∷ listed, put_first place places listed l (subst IsFormula (sym is) tt) new)
      ]

      all_listed : (places : List Place) → (listed : List Place) × Listed places listed
      all_listed [] = (
        [],
        record {
          all = λ place has is. absurd (nothing_in place has);
          only = λ place has. absurd (nothing_in place has);
          once = λ i j d less within. absurd (omega (arith, within));
        },
      )
      all_listed (place ∷ places) =
          let (listed, l) = all_listed places in
          one_listed place places listed l (book.cells place) refl

      formula_among : (place : Place) → IsFormula (book.cells place) → Contains (all_places contents.sheets) place
      formula_among place is =
          stored_among place (some_stored (contents.content place) (book.cells place) (are.cells place) is)

      pub formulas_of : (listed : List Place) × AreFormulas book listed
      formulas_of =
          let (listed, l) = all_listed (all_places contents.sheets) in (
            listed,
            record {
              all = λ place is. l.all place (formula_among place is) is;
              only = l.only;
              once = l.once;
            },
          )

    not_apart : (place : Place) (value other : Value) → IsValueIn contents place value → IsValueIn contents place other
        → NotNone (value ≡ other)
    not_apart place value other is is' apart = some_book (λ (book, are).
        let (listed, formulas) = formulas_of book are in
        let has = is book are listed formulas in
        let has' = is' book are listed formulas in
        let ends : Walks book (length listed) place → ⊥ =
        λ walks. apart (has.endless walks ∙ sym (has'.endless walks)) in
        apart (has.ends ends ∙ sym (has'.ends ends)))

-- values that can't be apart are one
abbrev number_code : Value → ℤ
number_code (Number n) = n
number_code value = pos 0

abbrev text_code : Value → List ℕ
text_code (Text t) = t
text_code value = []

abbrev truth_code : Value → Bool
truth_code (Truth b) = b
truth_code value = false

abbrev kind_code : Kind → ℕ
kind_code kind.Ref = 0
kind_code kind.Div0 = 1
kind_code kind.Value = 2
kind_code kind.Name = 3
kind_code kind.Num = 4
kind_code kind.Na = 5
kind_code kind.Error = 6

abbrev kind_of : ℕ → Kind
kind_of n =
    if n == 0 then kind.Ref
    else if n == 1 then kind.Div0
    else if n == 2 then kind.Value
    else if n == 3 then kind.Name
    else if n == 4 then kind.Num
    else if n == 5 then kind.Na
    else kind.Error

abbrev error_code : Value → ℕ
error_code (Error k) = kind_code k
error_code value = 0

abbrev variant : Value → ℕ
variant Blank = 0
variant (Number n) = 1
variant (Text t) = 2
variant (Truth b) = 3
variant (Error k) = 4

abbrev decoded : ℕ → ℤ → List ℕ → Bool → ℕ → Value
decoded variant n t b k =
    if variant == 0 then Blank
    else if variant == 1 then Number n
    else if variant == 2 then Text t
    else if variant == 3 then Truth b
    else Error (kind_of k)

kind_back : (k : Kind) → kind_of (kind_code k) ≡ k
kind_back kind.Ref = refl
kind_back kind.Div0 = refl
kind_back kind.Value = refl
kind_back kind.Name = refl
kind_back kind.Num = refl
kind_back kind.Na = refl
kind_back kind.Error = refl

abbrev decode : Value → Value
decode v = decoded (variant v) (number_code v) (text_code v) (truth_code v) (error_code v)

back : (v : Value) → decode v ≡ v
back Blank = refl
back (Number n) = refl
back (Text t) = refl
back (Truth b) = refl
back (Error k) = ap Error (kind_back k)

-- what is decided and can't be apart is one
same_by : {A : Type 0} (test : Bool) (x y : A) → Decides test (x ≡ y) → NotNone (x ≡ y) → x ≡ y
same_by true x y decides none = decides.0 refl
same_by false x y decides none = absurd (none (λ is. false≢true (decides.1 is)))

part_same : {A : Type 0} (f : Value → A) (v w : Value) → NotNone (v ≡ w) → NotNone (f v ≡ f w)
part_same f v w none apart = none (λ is. apart (ap f is))

one_value : (v w : Value) → NotNone (v ≡ w) → v ≡ w
one_value v w none =
    sym (back v)
    ∙ ap (λ n. decoded n (number_code v) (text_code v) (truth_code v) (error_code v))
    (same_by (variant v == variant w) (variant v) (variant w) (Decides-eqb (variant v) (variant w))
    (part_same variant v w none))
    ∙ ap (λ n. decoded (variant w) n (text_code v) (truth_code v) (error_code v))
    (same_by (int_eq (number_code v) (number_code w)) (number_code v) (number_code w)
    (Decides-int_eq (number_code v) (number_code w)) (part_same number_code v w none))
    ∙ ap (λ t. decoded (variant w) (number_code w) t (truth_code v) (error_code v))
    (same_by (bytes_eq (text_code v) (text_code w)) (text_code v) (text_code w)
    (bytes_eq-Decides (text_code v) (text_code w)) (part_same text_code v w none))
    ∙ ap (λ b. decoded (variant w) (number_code w) (text_code w) b (error_code v))
    (same_by (beq (truth_code v) (truth_code w)) (truth_code v) (truth_code w)
    (booleans_Decides (truth_code v) (truth_code w)) (part_same truth_code v w none))
    ∙ ap (λ k. decoded (variant w) (number_code w) (text_code w) (truth_code w) k)
    (same_by (error_code v == error_code w) (error_code v) (error_code w) (Decides-eqb (error_code v) (error_code w))
    (part_same error_code v w none))
    ∙ back w

pub values_once : HasOneTree → ValuesOnce
values_once one contents sound place value other is is' =
    one_value value other (not_apart contents one sound place value other is is')
