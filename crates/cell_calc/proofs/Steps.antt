-- The steps of the walk keep what holds of marks and path.
use Rattle.std.proofs.Common.{◌≡◌, ℕ, zero, suc, List, [], ◌∷◌, Contains, Option, Some, None, refl, ap, sym, subst, ◌∙◌, inl, inr, unwrap_or}
use Rattle.std.specs.Option.{IsSome}
use Rattle.std.specs.List.{AllByRecursion}
use Rattle.cell_value.specs.declared.cell.Value.{Value}
use Rattle.cell_value.specs.declared.cell.Kind.TheVariants as kind
use Rattle.cell_value.specs.declared.cell.Value.TheVariants as value
use Rattle.cell_value.specs.declared.cell.Value.TheVariants.{Error}
use Rattle.cell_value.specs.Elements.{nothing_in}
use Rattle.ref_rewrite.specs.declared.cell_content.Content.{Content}
use Rattle.ref_rewrite.specs.declared.cell_content.Content.TheVariants.{Number, Text, Truth, Formula}
use Rattle.formula_reader.specs.Tree.{expression_of}
use Rattle.cell_calc.specs.declared.mark.Mark.{Mark}
use Rattle.cell_calc.specs.declared.mark.Mark.TheVariants.{Open, Endless, Known}
use Rattle.cell_calc.specs.declared.walk.Frame.{Frame}
use Rattle.cell_calc.specs.Book.{Book, Place, stored, formula, IsFormula}
use Rattle.cell_calc.specs.Contents.{Contents, AreOf, IsCell}
use Rattle.cell_calc.specs.CellValue.{areas_of, Reads, Walks, value_in, IsValueOf}
use Rattle.cell_calc.specs.FormulaValue.{value_of_cell}
use Rattle.cell_calc.specs.Known.{book_read, value_known, value_read, value_stored}
use Rattle.cell_calc.specs.Marks.{IsMarked, IsKnown, value_told}
use Rattle.cell_calc.specs.Walk.{HeldBy, place_at, OnPath, Waits, IsReadBy, Holds}
use Rattle.cell_calc.proofs.Endless.{shorter}
use Rattle.cell_calc.proofs.ReadsDecide.{reads_decide}
use Rattle.cell_calc.proofs.Depth.{read_at, as_cell, same_at, known_is_value, endless_is_value}
use Rattle.cell_calc.proofs.Marking.{cases, known_stays, known_apart, value_known_of}

pub each_waits : (book : Book) (before after : Place → Option Mark)
    → ((place : Place) → IsKnown (before place) → IsKnown (after place)) → (path : List Frame)
    → AllByRecursion (Waits book before) path → AllByRecursion (Waits book after) path
each_waits book before after still [] waits = tt
each_waits book before after still (frame ∷ below) (wait, waits) = (
  record {
    is = wait.is;
    within = wait.within;
    covers = λ place reads formed. elim (wait.covers place reads formed) [
      | inl known ↦ inl (still place known)
      | inr held ↦ inr held
    ];
    noted = wait.noted;
  },
  each_waits book before after still below waits,
)

module _ (contents : Contents) (book : Book) (are : AreOf contents book) (marks : Place → Option Mark) where
  abbrev KnownAt : ℕ → Type 0
  KnownAt depth = (place : Place) (value : Value) → marks place ≡ Some (Known value)
      → (Walks book depth place → ⊥) × (value_in book depth place ≡ value)

  -- the formulas that the cell in the place reads are known
  abbrev pub ReadsAreKnown : Place → Type 0
  ReadsAreKnown place = (next : Place) → Reads book.named (book.cells place) next → IsFormula (book.cells next)
      → IsKnown (marks next)

  abbrev told : Place → Option Value
  told place = value_told (marks place)

  -- the value of a cell by what is known
  abbrev pub value_by_marks : Place → Value
  value_by_marks place = value_of_cell (book_read contents told) (value_read contents told) (book.cells place)

  stored_value : (depth : ℕ) (place : Place) (value : Value) → book.cells place ≡ stored value
      → value_in book depth place ≡ value
  stored_value depth place value is = as_cell book depth place ∙ ap (value_of_cell book (read_at book depth)) is

  walk_formula : (steps : ℕ) (place : Place) → Walks book steps place → IsFormula (book.cells place)
  walk_formula zero place walk = walk
  walk_formula (suc steps) place walk = walk_formula steps place (shorter book steps place walk)

  read_value : (depth : ℕ) → KnownAt depth → (place : Place) → (IsFormula (book.cells place) → IsKnown (marks place))
      → (found : Option Content) → IsCell found (book.cells place)
      → value_in book depth place ≡ value_stored found (value_known told place)
  read_value depth known place covers None is = stored_value depth place value.Blank is
  read_value depth known place covers (Some (Number number)) is = stored_value depth place (value.Number number) is
  read_value depth known place covers (Some (Text text)) is = stored_value depth place (value.Text text) is
  read_value depth known place covers (Some (Truth truth)) is = stored_value depth place (value.Truth truth) is
  read_value depth known place covers (Some (Formula text)) is =
      let (v, marked) = value_known_of (marks place) (covers (subst IsFormula (sym is.2) tt)) in
      (known place v marked).1 ∙ sym (ap (λ m. unwrap_or (value_told m) value.Blank) marked)

  evaluated : (depth : ℕ) → KnownAt depth → (place : Place) → ReadsAreKnown place
      → (Walks book (suc depth) place → ⊥) × (value_in book (suc depth) place ≡ value_by_marks place)
  evaluated depth known place covers = (none, value)
    where
      none : Walks book (suc depth) place → ⊥
      none (next, reads, walk) =
          let (v, marked) = value_known_of (marks next) (covers next reads (walk_formula depth next walk)) in
          (known next v marked).0 walk

      value : value_in book (suc depth) place ≡ value_by_marks place
      value = reads_decide book (book_read contents told) (value_in book depth) (value_read contents told)
          (book.cells place) are.size are.named
          (λ next reads. read_value depth known next (covers next reads) (contents.content next) (are.cells next))

  -- one more mark of a formula leaves marks of formulas alone
  formulas_after : ((other : Place) → IsSome (marks other) → IsFormula (book.cells other))
      → (place : Place) (mark : Mark)
      → IsFormula (book.cells place) → (after : Place → Option Mark) → IsMarked marks place mark after
      → (other : Place) → IsSome (after other) → IsFormula (book.cells other)
  formulas_after formulas place mark formed after marked other some = elim (cases marks place mark after marked other) [
    | inl (same, is) ↦ subst (λ p. IsFormula (book.cells p)) same formed
    | inr same ↦ formulas other (subst IsSome same some)
  ]

  -- a formula whose reads are known is known
  pub learn : (path : List Frame) → Holds book marks path → (place : Place) (value : Value)
      → IsFormula (book.cells place) → ReadsAreKnown place → value ≡ value_by_marks place
      → (after : Place → Option Mark) → IsMarked marks place (Known value) after
      → Holds book after path
  learn path h place value formed covers is after marked = record {
    depth = suc h.depth;
    formulas = formulas_after h.formulas place (Known value) formed after marked;
    known = known_after;
    endless = endless_after;
    opened = opened_after;
    linked = h.linked;
    waits = each_waits book marks after (known_stays marks place (Known value) after marked tt) path h.waits;
  }
    where
      done : (Walks book (suc h.depth) place → ⊥) × (value_in book (suc h.depth) place ≡ value_by_marks place)
      done = evaluated h.depth h.known place covers

      known_after : (other : Place) (v : Value) → after other ≡ Some (Known v)
          → (Walks book (suc h.depth) other → ⊥) × (value_in book (suc h.depth) other ≡ v)
      known_after other v now = elim (cases marks place (Known value) after marked other) [
        | inl (same, new) ↦
            let equal : value ≡ v = cc in
            subst (λ p. (Walks book (suc h.depth) p → ⊥) × (value_in book (suc h.depth) p ≡ v)) same
            (done.0, done.1 ∙ sym is ∙ equal)
        | inr stays ↦
            let (none, had) = h.known other v (sym stays ∙ now) in
            let longer = λ (walk : Walks book (suc h.depth) other). none (shorter book h.depth other walk) in
            (longer, sym (same_at book h.depth (suc h.depth) other none longer) ∙ had)
      ]

      endless_after : (other : Place) → after other ≡ Some Endless → (steps : ℕ) → Walks book steps other
      endless_after other now = elim (cases marks place (Known value) after marked other) [
        | inl (same, new) ↦ let no : ⊥ = cc in absurd no
        | inr stays ↦ h.endless other (sym stays ∙ now)
      ]

      opened_after : (other : Place) → after other ≡ Some Open → OnPath path other
      opened_after other now = elim (cases marks place (Known value) after marked other) [
        | inl (same, new) ↦ let no : ⊥ = cc in absurd no
        | inr stays ↦ h.opened other (sym stays ∙ now)
      ]

  -- a formula that isn't open may leave the path
  pub leave : (frame : Frame) (below : List Frame) → Holds book marks (frame ∷ below)
      → (marks (place_at frame) ≡ Some Open → ⊥) → Holds book marks below
  leave frame below h closed = record {
    depth = h.depth;
    formulas = h.formulas;
    known = h.known;
    endless = h.endless;
    opened = λ place is. elim (h.opened place is) [
      | inl same ↦ absurd (closed (ap marks same ∙ is))
      | inr later ↦ later
    ];
    linked = h.linked.1;
    waits = h.waits.1;
  }

  -- the first formula may wait with other areas
  pub wait_on : (frame next : Frame) (below : List Frame) → Holds book marks (frame ∷ below)
      → place_at next ≡ place_at frame → Waits book marks next → Holds book marks (next ∷ below)
  wait_on frame next below h same wait = record {
    depth = h.depth;
    formulas = h.formulas;
    known = h.known;
    endless = h.endless;
    opened = λ place is. elim (h.opened place is) [
      | inl first ↦ inl (same ∙ first)
      | inr later ↦ inr later
    ];
    linked = (subst (IsReadBy book below) (sym same) h.linked.0, h.linked.1);
    waits = (wait, h.waits.1);
  }

  -- a new formula waits with all its areas
  pub enter : (path : List Frame) → Holds book marks path → (frame : Frame)
      → IsReadBy book path (place_at frame) → marks (place_at frame) ≡ None
      → book.cells (place_at frame) ≡ formula (Some (expression_of frame.tree))
      → frame.rest.items ≡ areas_of book.named (expression_of frame.tree) → frame.noted.items ≡ []
      → (after : Place → Option Mark) → IsMarked marks (place_at frame) Open after
      → Holds book after (frame ∷ path)
  enter path h frame reads none is all nothing after marked = record {
    depth = h.depth;
    formulas = formulas_after h.formulas (place_at frame) Open (subst IsFormula (sym is) tt) after marked;
    known = λ other v now. elim (cases marks (place_at frame) Open after marked other) [
      | inl (same, new) ↦ let no : ⊥ = cc in absurd no
      | inr stays ↦ h.known other v (sym stays ∙ now)
    ];
    endless = λ other now. elim (cases marks (place_at frame) Open after marked other) [
      | inl (same, new) ↦ let no : ⊥ = cc in absurd no
      | inr stays ↦ h.endless other (sym stays ∙ now)
    ];
    opened = λ other now. elim (cases marks (place_at frame) Open after marked other) [
      | inl (same, new) ↦ inl same
      | inr stays ↦ inr (h.opened other (sym stays ∙ now))
    ];
    linked = (reads, h.linked);
    waits = (
      record {
        is = is;
        within =
            λ place held. subst (λ cell. Reads book.named cell place) (sym is) (subst (λ l. HeldBy l place) all held);
        covers = λ place read formed. inr
            (subst (λ l. HeldBy l place) (sym all) (subst (λ cell. Reads book.named cell place) is read));
        noted = λ key has. absurd (nothing_in key (subst (λ l. Contains l key) nothing has));
      },
      each_waits book marks after (known_apart marks (place_at frame) Open after marked none) path h.waits,
    );
  }

  -- a value is told of formulas alone
  pub told_of_formula : (path : List Frame) → Holds book marks path → (place : Place) → IsSome (told place)
      → IsFormula (book.cells place)
  told_of_formula path h place some = h.formulas place (marked (marks place) some)
    where
      marked : (mark : Option Mark) → IsSome (value_told mark) → IsSome mark
      marked None some = some
      marked (Some mark) some = refl

  -- at the end each value that is told is that of its cell
  pub told_is_value : Holds book marks [] → (place : Place) (value : Value) → told place ≡ Some value
      → IsValueOf book place value
  told_is_value h place value is = by_mark (marks place) refl is
    where
      by_mark : (mark : Option Mark) → marks place ≡ mark → value_told mark ≡ Some value → IsValueOf book place value
      by_mark None marked is = let no : ⊥ = cc in absurd no
      by_mark (Some Open) marked is = absurd (h.opened place marked)
      by_mark (Some Endless) marked is =
          subst (IsValueOf book place) (let e : Error kind.Ref ≡ value = cc in e)
          (endless_is_value book place (h.endless place marked))
      by_mark (Some (Known v)) marked is =
          let (none, had) = h.known place v marked in
          let same : v ≡ value = cc in
          known_is_value book h.depth place value none (had ∙ same)
