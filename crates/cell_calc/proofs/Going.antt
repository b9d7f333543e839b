-- What the functions of the walk do, by its steps.
use Rattle.std.proofs.Common.{◌≡◌, ◌⊎◌, ℕ, true, List, [], ◌∷◌, ◌++◌, Contains, Option, Some, None, refl, ap, sym, subst, ◌∙◌, inl, inr}
use Rattle.std.specs.Option.{IsSome}
use Rattle.std.proofs.Math.Path.{fun_ext}
use Rattle.std.proofs.lemmas.List.Elements.{Contains-append_cases, Contains-append_left, Contains-append_right}
use Rattle.cell_value.specs.declared.cell.Kind.TheVariants as kind
use Rattle.cell_value.specs.declared.cell.Value.{Value}
use Rattle.cell_value.specs.declared.cell.Value.TheVariants.{Error}
use Rattle.cell_value.specs.Elements.{nothing_in, Contains-head, Contains-cons_cases, Contains-map_from}
use Rattle.grid_range.specs.declared.area.Area.{Area}
use Rattle.ref_rewrite.specs.declared.cell_content.Content.{Content}
use Rattle.ref_rewrite.specs.declared.cell_content.Content.TheVariants.{Number, Text, Truth, Formula}
use Rattle.formula_reader.specs.Only.{IsOnly}
use Rattle.formula_reader.specs.declared.tree.Tree.{Tree}
use Rattle.formula_reader.specs.Tree.{Expression, expression_of}
use Rattle.cell_calc.specs.declared.cells.StoredCell.{StoredCell}
use Rattle.cell_calc.specs.declared.mark.Mark.{Mark}
use Rattle.cell_calc.specs.declared.mark.Mark.TheVariants.{Open, Endless, Known}
use Rattle.cell_calc.specs.declared.mark.Found.TheVariants.{Circular, Settled}
use Rattle.cell_calc.specs.declared.walk.Frame.{Frame}
use Rattle.cell_calc.specs.Book.{Book, Place, Cell, formula, IsFormula, HoldsPlace}
use Rattle.cell_calc.specs.Contents.{Contents, AreOf, AreStoredCells, AreStoredPlaces, IsCell, IsStoredFormula, IsTreeWithin, cell_place}
use Rattle.cell_calc.specs.CellValue.{areas_of, Reads}
use Rattle.cell_calc.specs.FormulaValue.{value_of_cell}
use Rattle.cell_calc.specs.Known.{book_read, value_read}
use Rattle.cell_calc.specs.Marks.{keyed_place, IsMarked, IsKnown, value_told, found_by}
use Rattle.cell_calc.specs.Walk.{HeldBy, place_at, Waits, Holds, Stay, Goes, Passes, Meets, Closes, IsCut, IsTreeAt, is_settled_by, AreSettled, IsAreaSettled, AreAreasSettled}
use Rattle.cell_calc.proofs.OneAnswer.{one_answer}
use Rattle.cell_calc.proofs.Marking.{some_is, here, mark_stays, value_known_of}
use Rattle.cell_calc.proofs.Steps.{learn, leave, wait_on, enter}
use Rattle.cell_calc.proofs.Closing.{found_settled, found_circular, is_known_found, closed_cases, close}

-- what is stored where a formula stands is a formula
pub formula_stored : (found : Option Content) (cell : Cell) → IsCell found cell → IsFormula cell → IsStoredFormula found
formula_stored None cell is formed = subst IsFormula is formed
formula_stored (Some (Number number)) cell is formed = subst IsFormula is formed
formula_stored (Some (Text text)) cell is formed = subst IsFormula is formed
formula_stored (Some (Truth truth)) cell is formed = subst IsFormula is formed
formula_stored (Some (Formula text)) cell is formed = tt

pub settled_known : (mark : Option Mark) (content : Content) → IsStoredFormula (Some content)
    → is_settled_by mark content ≡ true → IsKnown mark
settled_known mark (Number number) formed is = absurd formed
settled_known mark (Text text) formed is = absurd formed
settled_known mark (Truth truth) formed is = absurd formed
settled_known mark (Formula text) formed is = is_known_found mark is

pub formula_is_some : (content : Option Content) → IsStoredFormula content → IsSome content
formula_is_some None is = absurd is
formula_is_some (Some content) is = refl

module _ (contents : Contents) where
  pub goes_nowhere : (marks : Place → Option Mark) (path : List Frame) → Goes contents marks path marks path
  goes_nowhere marks path = record { right = λ book are h. h; stay = λ place some. some }

  pub goes_on : (one : Place → Option Mark) (first : List Frame) (two : Place → Option Mark) (second : List Frame)
      (three : Place → Option Mark) (third : List Frame)
      → Goes contents one first two second → Goes contents two second three third → Goes contents one first three third
  goes_on one first two second three third goes more = record {
    right = λ book are h. more.right book are (goes.right book are h);
    stay = λ place some. more.stay place (goes.stay place some);
  }

  pub meets_on : (place : Place) (one : Place → Option Mark) (first : List Frame) (two : Place → Option Mark)
      (second : List Frame) (three : Place → Option Mark) (third : List Frame)
      → Meets contents place one first two second → Goes contents two second three third
      → Meets contents place one first three third
  meets_on place one first two second three third meets more = record {
    right = λ book are reads h. more.right book are (meets.right book are reads h);
    stay = λ other some. more.stay other (meets.stay other some);
    met = more.stay place meets.met;
  }

  pub meets_alone : (place : Place) (one two : Place → Option Mark) → Meets contents place one [] two []
      → Goes contents one [] two []
  meets_alone place one two meets = record {
    right = λ book are h. meets.right book are tt h;
    stay = meets.stay;
  }

  abbrev value_by : (Place → Option Mark) → Cell → Value
  value_by marks cell =
      value_of_cell (book_read contents (λ place. value_told (marks place)))
      (value_read contents (λ place. value_told (marks place))) cell

  -- a formula that waits for nothing leaves the path with its value
  pub finished : (before : Place → Option Mark) (frame : Frame) (below : List Frame) → frame.rest.items ≡ []
      → (value : Value) → value ≡ value_by before (formula (Some (expression_of frame.tree)))
      → (after : Place → Option Mark) → IsMarked before (place_at frame) (Known value) after
      → Goes contents before (frame ∷ below) after below
  finished before frame below none value is after marked = record {
    right = right;
    stay = mark_stays before (place_at frame) (Known value) after marked;
  }
    where
      right : (book : Book) → AreOf contents book → Holds book before (frame ∷ below) → Holds book after below
      right book are h =
          let wait = h.waits.0 in
          leave contents book are after frame below
          (learn contents book are before (frame ∷ below) h (place_at frame) value (subst IsFormula (sym wait.is) tt)
          (λ next reads formed. elim (wait.covers next reads formed) [
            | inl known ↦ known
            | inr (area, has, holds) ↦ absurd (nothing_in area (subst (λ l. Contains l area) none has))
          ])
          (is ∙ ap (value_by before) (sym wait.is)) after marked)
          (λ waiting. let known = here before (place_at frame) (Known value) after marked in let no : ⊥ = cc in no)

  -- the same by the formula's place and tree
  pub finished_by : (before : Place → Option Mark) (frame : Frame) (below : List Frame) (key : ℕ × ℕ × ℕ) (tree : Tree)
      → frame.place ≡ key → frame.tree ≡ tree → frame.rest.items ≡ [] → (value : Value)
      → value ≡ value_by before (formula (Some (expression_of tree)))
      → (after : Place → Option Mark) → IsMarked before (keyed_place key) (Known value) after
      → Goes contents before (frame ∷ below) after below
  finished_by before frame below key tree at same none value is after marked =
      finished before frame below none value
      (subst (λ t. value ≡ value_by before (formula (Some (expression_of t)))) (sym same) is) after
      (subst (λ k. IsMarked before (keyed_place k) (Known value) after) (sym at) marked)

  -- a formula whose areas hold known formulas alone is known at once
  pub known_at_once : (place : Place) (before : Place → Option Mark) (path : List Frame) (tree : Option Expression)
      (value : Value)
      → ((book : Book) → AreOf contents book → (next : Place) → Reads book.named (formula tree) next
      → IsStoredFormula (contents.content next) → IsKnown (before next))
      → value ≡ value_by before (formula tree) → IsTreeAt contents place tree
      → (after : Place → Option Mark) → IsMarked before place (Known value) after
      → Meets contents place before path after path
  known_at_once place before path tree value settled is at after marked = record {
    right = λ book are reads h.
        learn contents book are before path h place value (subst IsFormula (sym (at book are)) tt)
        (λ next read formed.
        settled book are next (subst (λ c. Reads book.named c next) (at book are) read)
        (formula_stored (contents.content next) (book.cells next) (are.cells next) formed))
        (is ∙ ap (value_by before) (sym (at book are))) after marked;
    stay = mark_stays before place (Known value) after marked;
    met = some_is (after place) (Known value) (here before place (Known value) after marked);
  }

  -- what is stored is that cell
  pub cell_at : (place : Place) (found : Option Content) → contents.content place ≡ found → (book : Book)
      → AreOf contents book → IsCell found (book.cells place)
  cell_at place found is book are = subst (λ o. IsCell o (book.cells place)) is (are.cells place)

  pub tree_at : (place : Place) (text : _) (tree : Option Expression) → contents.content place ≡ Some (Formula text)
      → IsOnly (IsTreeWithin text) tree → IsTreeAt contents place tree
  tree_at place text tree at only book are =
      let is = cell_at place (Some (Formula text)) at book are in
      is.2 ∙ ap formula (one_answer (IsTreeWithin text) is.0 tree is.1 only)

  pub treeless_at_once : (place : Place) (before : Place → Option Mark) (path : List Frame)
      → IsTreeAt contents place None
      → (after : Place → Option Mark) → IsMarked before place (Known (Error kind.Error)) after
      → Meets contents place before path after path
  treeless_at_once place before path at after marked =
      known_at_once place before path None (Error kind.Error) (λ book are next reads. absurd reads) refl at after marked

  same_areas : (book : Book) → AreOf contents book → (tree : Expression)
      → areas_of contents.named tree ≡ areas_of book.named tree
  same_areas book are tree = ap (λ named. areas_of named tree) (sym (fun_ext are.named))

  -- a formula that waits for none comes to be known
  pub evaluated : (place : Place) (before : Place → Option Mark) (path : List Frame) (tree : Expression)
      (areas : List Area)
      (value : Value) → AreAreasSettled contents before areas → areas ≡ areas_of contents.named tree
      → value ≡ value_by before (formula (Some tree)) → IsTreeAt contents place (Some tree)
      → (after : Place → Option Mark) → IsMarked before place (Known value) after
      → Meets contents place before path after path
  evaluated place before path tree areas value settled all is at after marked =
      known_at_once place before path (Some tree) value
      (λ book are next reads formed.
      settled reads.0 (subst (λ l. Contains l reads.0) (sym (all ∙ same_areas book are tree)) reads.1) next
      reads.2 formed)
      is at after marked

  pub entered : (before : Place → Option Mark) (path : List Frame) (frame : Frame)
      → IsTreeAt contents (place_at frame) (Some (expression_of frame.tree)) → before (place_at frame) ≡ None
      → frame.rest.items ≡ areas_of contents.named (expression_of frame.tree) → frame.noted.items ≡ []
      → (after : Place → Option Mark) → IsMarked before (place_at frame) Open after
      → Meets contents (place_at frame) before path after (frame ∷ path)
  entered before path frame at none all nothing after marked = record {
    right = λ book are reads h.
        enter contents book are before path h frame reads none (at book are)
        (all ∙ same_areas book are (expression_of frame.tree)) nothing after marked;
    stay = mark_stays before (place_at frame) Open after marked;
    met = some_is (after (place_at frame)) Open (here before (place_at frame) Open after marked);
  }

  pub settled : (place : Place) (marks : Place → Option Mark) (path : List Frame) → found_by (marks place) ≡ Settled
      → Meets contents place marks path marks path
  settled place marks path is = record {
    right = λ book are reads h. h;
    stay = λ other some. some;
    met = (let (value, known) = value_known_of (marks place) (found_settled (marks place) is) in
        some_is (marks place) (Known value) known);
  }

  pub closed : (place : Place) (before : Place → Option Mark) (path : List Frame) → found_by (before place) ≡ Circular
      → (after : Place → Option Mark) → Closes before path after → Meets contents place before path after []
  closed place before path is after closes = record {
    right = λ book are reads h. close book before path h place reads (found_circular (before place) is) after closes;
    stay = stay;
    met = stay place (elim (found_circular (before place) is) [
      | inl waits ↦ some_is (before place) Open waits
      | inr endless ↦ some_is (before place) Endless endless
    ]);
  }
    where
      stay : Stay before after
      stay other some = elim (closed_cases before path after closes other) [
        | inl (on, now) ↦ some_is (after other) Endless now
        | inr same ↦ subst IsSome (sym same) some
      ]

  -- a formula waits with other areas
  waits_with : (book : Book) (marks : Place → Option Mark) (whole frame : Frame) → Waits book marks whole
      → place_at frame ≡ place_at whole → frame.tree ≡ whole.tree
      → ((place : Place) → HeldBy frame.rest.items place → HeldBy whole.rest.items place)
      → ((place : Place) → HeldBy whole.rest.items place → IsFormula (book.cells place)
      → IsKnown (marks place) ⊎ HeldBy frame.rest.items place)
      → ((key : ℕ × ℕ × ℕ) → Contains frame.noted.items key
      → Reads book.named (book.cells (place_at whole)) (keyed_place key))
      → Waits book marks frame
  waits_with book marks whole frame wait at tree fewer left notes = record {
    is = same ∙ wait.is ∙ ap (λ t. formula (Some (expression_of t))) (sym tree);
    within =
        λ place held. subst (λ cell. Reads book.named cell place) (sym same) (wait.within place (fewer place held));
    covers = λ place reads formed.
        elim (wait.covers place (subst (λ cell. Reads book.named cell place) same reads) formed) [
          | inl known ↦ inl known
          | inr held ↦ left place held formed
        ];
    noted = λ key has. subst (λ cell. Reads book.named cell (keyed_place key)) (sym same) (notes key has);
  }
    where
      same : book.cells (place_at frame) ≡ book.cells (place_at whole)
      same = ap book.cells at

  module _ (whole frame : Frame) (area : Area) (cut : IsCut whole frame area) where
    held_more : (place : Place) → HeldBy frame.rest.items place → HeldBy whole.rest.items place
    held_more place (one, has, holds) = (
      one,
      subst (λ l. Contains l one) (sym cut.rest)
          (Contains-append_left frame.rest.items (area ∷ []) one has),
      holds,
    )

    held_last : (place : Place) → HoldsPlace area place → HeldBy whole.rest.items place
    held_last place holds = (
      area,
      subst (λ l. Contains l area) (sym cut.rest)
          (Contains-append_right frame.rest.items (area ∷ []) area (Contains-head area [])),
      holds,
    )

    held_cases : (place : Place) → HeldBy whole.rest.items place → HoldsPlace area place ⊎ HeldBy frame.rest.items place
    held_cases place (one, has, holds) =
        elim (Contains-append_cases frame.rest.items (area ∷ []) one (subst (λ l. Contains l one) cut.rest has)) [
          | inl front ↦ inr (one, front, holds)
          | inr last ↦ elim (Contains-cons_cases area one [] last) [
            | inl same ↦ inl (subst (λ a. HoldsPlace a place) (sym same) holds)
            | inr never ↦ absurd (nothing_in one never)
          ]
        ]

    -- the formula waits no more for an area whose formulas are known
    pub dropped : (marks : Place → Option Mark) (below : List Frame) → whole.noted.items ≡ frame.noted.items
        → IsAreaSettled contents marks area
        → Goes contents marks (whole ∷ below) marks (frame ∷ below)
    dropped marks below noted settled = record {
      right = λ book are h.
          wait_on contents book are marks whole frame below h (ap keyed_place (sym cut.place))
          (waits_with book marks whole frame h.waits.0 (ap keyed_place (sym cut.place)) (sym cut.tree) held_more
          (λ place held formed. elim (held_cases place held) [
            | inl holds ↦
                inl (settled place holds
                (formula_stored (contents.content place) (book.cells place) (are.cells place) formed))
            | inr left ↦ inr left
          ])
          (λ key has. h.waits.0.noted key (subst (λ l. Contains l key) (sym noted) has)));
      stay = λ place some. some;
    }

    -- the formula goes on waiting, with cells of the area that it noted
    pub put_back : (next : Frame) → IsCut next frame area
        → ((key : ℕ × ℕ × ℕ) → Contains next.noted.items key → HoldsPlace area (keyed_place key))
        → (marks : Place → Option Mark) (below : List Frame) → Goes contents marks (whole ∷ below) marks (next ∷ below)
    put_back next other holds marks below = record {
      right = λ book are h.
          wait_on contents book are marks whole next below h at
          (waits_with book marks whole next h.waits.0 at (other.tree ∙ sym cut.tree)
          (λ place held. subst (λ l. HeldBy l place) rest held)
          (λ place held formed. inr (subst (λ l. HeldBy l place) (sym rest) held))
          (λ key has. h.waits.0.within (keyed_place key) (held_last (keyed_place key) (holds key has))));
      stay = λ place some. some;
    }
      where
        at : place_at next ≡ place_at whole
        at = ap keyed_place (other.place ∙ sym cut.place)

        rest : next.rest.items ≡ whole.rest.items
        rest = other.rest ∙ sym cut.rest

  -- the formula goes on with the last cell that it noted
  pub went_on : (whole frame : Frame) (key : ℕ × ℕ × ℕ) → frame.place ≡ whole.place → frame.tree ≡ whole.tree
      → frame.rest.items ≡ whole.rest.items → whole.noted.items ≡ frame.noted.items ++ key ∷ []
      → (before : Place → Option Mark) (below : List Frame) (after : Place → Option Mark) (next : List Frame)
      → Passes contents (keyed_place key) before (frame ∷ below) after next
      → Goes contents before (whole ∷ below) after next
  went_on whole frame key place tree rest noted before below after next passes = record {
    right = right;
    stay = passes.stay;
  }
    where
      at : place_at frame ≡ place_at whole
      at = ap keyed_place place

      right : (book : Book) → AreOf contents book → Holds book before (whole ∷ below) → Holds book after next
      right book are h =
          let wait = waits_with book before whole frame h.waits.0 at tree
          (λ p held. subst (λ l. HeldBy l p) rest held)
          (λ p held formed. inr (subst (λ l. HeldBy l p) (sym rest) held))
          (λ k has. h.waits.0.noted k
          (subst (λ l. Contains l k) (sym noted) (Contains-append_left frame.noted.items (key ∷ []) k has))) in
          let reads = h.waits.0.noted key
          (subst (λ l. Contains l key) (sym noted)
          (Contains-append_right frame.noted.items (key ∷ []) key (Contains-head key []))) in
          passes.right book are
          (subst (λ p. Reads book.named (book.cells p) (keyed_place key)) (sym at) reads)
          (wait_on contents book are before whole frame below h at wait)

  -- the formula goes on with fewer cells noted
  pub as_well : (whole frame : Frame) → frame.place ≡ whole.place → frame.tree ≡ whole.tree
      → frame.rest.items ≡ whole.rest.items
      → ((key : ℕ × ℕ × ℕ) → Contains frame.noted.items key → Contains whole.noted.items key)
      → (before : Place → Option Mark) (below : List Frame) (after : Place → Option Mark) (next : List Frame)
      → Goes contents before (frame ∷ below) after next → Goes contents before (whole ∷ below) after next
  as_well whole frame place tree rest fewer before below after next goes = record {
    right = λ book are h.
        goes.right book are
        (wait_on contents book are before whole frame below h (ap keyed_place place)
        (waits_with book before whole frame h.waits.0 (ap keyed_place place) tree
        (λ p held. subst (λ l. HeldBy l p) rest held)
        (λ p held formed. inr (subst (λ l. HeldBy l p) (sym rest) held))
        (λ key has. h.waits.0.noted key (fewer key has))));
    stay = goes.stay;
  }

  -- where each formula in the cells of an area is known
  module _ (marks : Place → Option Mark) (area : Area) (cells : List StoredCell)
      (stored : AreStoredCells contents area cells)
      (settled : AreSettled marks area.sheet cells) where
    pub all_known : IsAreaSettled contents marks area
    all_known place holds formed =
        let at : keyed_place (area.sheet, place.row, place.column) ≡ place =
        ap (λ s. keyed_place (s, place.row, place.column)) holds.0 in
        let here = subst (λ p. IsStoredFormula (contents.content p)) (sym at) formed in
        let has = (stored.places.exactly place.row place.column).1
        (holds.1, formula_is_some (contents.content (keyed_place (area.sheet, place.row, place.column))) here) in
        let (cell, among, same) = Contains-map_from cell_place cells (place.row, place.column) has in
        let there : keyed_place (area.sheet, cell.row, cell.column)
        ≡ keyed_place (area.sheet, place.row, place.column) =
        ap (λ c. keyed_place (area.sheet, c.0, c.1)) same in
        let content = stored.content cell among in
        let known = settled_known (marks (keyed_place (area.sheet, cell.row, cell.column))) cell.content.now
        (subst IsStoredFormula (sym (ap contents.content there) ∙ content) here) (settled cell among) in
        subst (λ p. IsKnown (marks p)) (there ∙ at) known

  -- what is stored in an area lies in it
  pub held_place : (area : Area) (places : List (ℕ × ℕ)) → AreStoredPlaces contents area places
      → (key : ℕ × ℕ × ℕ) → key.0 ≡ area.sheet → Contains places (key.1, key.2) → HoldsPlace area (keyed_place key)
  held_place area places filled key sheet has = (sym sheet, ((filled.exactly key.1 key.2).0 has).0)

  -- a formula that is met is passed
  pub passed : (place : Place) (before : Place → Option Mark) (path : List Frame) (after : Place → Option Mark)
      (next : List Frame) → Meets contents place before path after next → Passes contents place before path after next
  passed place before path after next meets = record { right = meets.right; stay = meets.stay }

  -- a cell without a formula is passed
  pub passed_over : (place : Place) (marks : Place → Option Mark) (path : List Frame)
      → Passes contents place marks path marks path
  passed_over place marks path = record { right = λ book are reads h. h; stay = λ other some. some }

  -- a formula that was put on the path waits there
  pub entered_by : (before : Place → Option Mark) (path : List Frame) (key : ℕ × ℕ × ℕ) (tree : Tree)
      → IsTreeAt contents (keyed_place key) (Some (expression_of tree)) → before (keyed_place key) ≡ None
      → {areas : List Area} → areas ≡ areas_of contents.named (expression_of tree)
      → (after : Place → Option Mark) (next : List Frame)
      → (frame : Frame) × (frame.place ≡ key) × (frame.tree ≡ tree) × (frame.rest.items ≡ areas)
      × (frame.noted.items ≡ [])
      × IsMarked before (keyed_place key) Open after × (next ≡ frame ∷ path)
      → Meets contents (keyed_place key) before path after next
  entered_by before path key tree at none all after next (frame, place, same, rest, noted, marked, put) =
      subst (λ k. Meets contents (keyed_place k) before path after next) place
      (subst (Meets contents (place_at frame) before path after) (sym put)
      (entered before path frame
      (subst (λ k. IsTreeAt contents (keyed_place k) (Some (expression_of frame.tree))) (sym place)
      (subst (λ t. IsTreeAt contents (keyed_place key) (Some (expression_of t))) (sym same) at))
      (subst (λ k. before (keyed_place k) ≡ None) (sym place) none)
      (rest ∙ all ∙ ap (λ t. areas_of contents.named (expression_of t)) (sym same)) noted after
      (subst (λ k. IsMarked before (keyed_place k) Open after) (sym place) marked)))
