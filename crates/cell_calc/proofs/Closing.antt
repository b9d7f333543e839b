-- A path that meets a cycle: from each of its cells walks have no end.
use Rattle.std.proofs.Common.{◌≡◌, ◌⊎◌, ℕ, zero, suc, true, List, [], ◌∷◌, Option, Some, None, refl, ap, sym, subst, ◌∙◌, inl, inr}
use Rattle.std.specs.Option.{IsSome}
use Rattle.std.specs.List.{AllByRecursion}
use Rattle.std.proofs.lemmas.Bool.{false≢true}
use Rattle.cell_calc.specs.declared.mark.Mark.{Mark}
use Rattle.cell_calc.specs.declared.mark.Mark.TheVariants.{Open, Endless, Known}
use Rattle.cell_calc.specs.declared.mark.Found.TheVariants.{New, Circular, Settled}
use Rattle.cell_calc.specs.declared.walk.Frame.{Frame}
use Rattle.cell_calc.specs.Book.{Book, Place, IsFormula}
use Rattle.cell_calc.specs.CellValue.{Reads, Walks}
use Rattle.cell_calc.specs.Marks.{IsKnown, found_by, is_known}
use Rattle.cell_calc.specs.Walk.{place_at, OnPath, Waits, IsReadBy, IsLinked, Holds, Closes}
use Rattle.cell_calc.proofs.Marking.{here, cases}

pub found_new : (mark : Option Mark) → found_by mark ≡ New → mark ≡ None
found_new None is = refl
found_new (Some Open) is = let no : ⊥ = cc in absurd no
found_new (Some Endless) is = let no : ⊥ = cc in absurd no
found_new (Some (Known value)) is = let no : ⊥ = cc in absurd no

pub found_settled : (mark : Option Mark) → found_by mark ≡ Settled → IsKnown mark
found_settled None is = let no : ⊥ = cc in absurd no
found_settled (Some Open) is = let no : ⊥ = cc in absurd no
found_settled (Some Endless) is = let no : ⊥ = cc in absurd no
found_settled (Some (Known value)) is = tt

pub found_circular : (mark : Option Mark) → found_by mark ≡ Circular → (mark ≡ Some Open) ⊎ (mark ≡ Some Endless)
found_circular None is = let no : ⊥ = cc in absurd no
found_circular (Some Open) is = inl refl
found_circular (Some Endless) is = inr refl
found_circular (Some (Known value)) is = let no : ⊥ = cc in absurd no

pub is_known_found : (mark : Option Mark) → is_known mark ≡ true → IsKnown mark
is_known_found None is = false≢true is
is_known_found (Some Open) is = false≢true is
is_known_found (Some Endless) is = false≢true is
is_known_found (Some (Known value)) is = tt

-- a place is one of the path, or keeps its mark
pub closed_cases : (before : Place → Option Mark) (path : List Frame) (after : Place → Option Mark)
    → Closes before path after
    → (place : Place) → (OnPath path place × (after place ≡ Some Endless)) ⊎ (after place ≡ before place)
closed_cases before [] after closes place = inr (closes place)
closed_cases before (frame ∷ later) after (next, marked, closes) place =
    elim (closed_cases next later after closes place) [
      | inl (on, is) ↦ inl (inr on, is)
      | inr same ↦ elim (cases before (place_at frame) Endless next marked place) [
        | inl (at, is) ↦ inl (inl at, same ∙ is)
        | inr stays ↦ inr (same ∙ stays)
      ]
    ]

stays_endless : (before : Place → Option Mark) (path : List Frame) (after : Place → Option Mark)
    → Closes before path after
    → (place : Place) → before place ≡ Some Endless → after place ≡ Some Endless
stays_endless before path after closes place was = elim (closed_cases before path after closes place) [
  | inl (on, is) ↦ is
  | inr same ↦ same ∙ was
]

all_closed : (before : Place → Option Mark) (path : List Frame) (after : Place → Option Mark) → Closes before path after
    → (place : Place) → OnPath path place → after place ≡ Some Endless
all_closed before [] after closes place on = absurd on
all_closed before (frame ∷ later) after (next, marked, closes) place (inl at) =
    stays_endless next later after closes place
    (ap next (sym at) ∙ here before (place_at frame) Endless next marked)
all_closed before (frame ∷ later) after (next, marked, closes) place (inr on) =
    all_closed next later after closes place on

module _ (book : Book) where
  -- each cell of the path reads one of it, or the place
  onward : (path : List Frame) (place : Place) → IsReadBy book path place → IsLinked book path → (Q : Place → Type 0)
      → Q place → ((other : Place) → OnPath path other → Q other) → (other : Place) → OnPath path other
      → (next : Place) × Reads book.named (book.cells other) next × Q next
  onward [] place reads linked Q has all other on = absurd on
  onward (frame ∷ below) place reads linked Q has all other (inl at) =
      subst (λ p. (next : Place) × Reads book.named (book.cells p) next × Q next) at (place, reads, has)
  onward (frame ∷ below) place reads linked Q has all other (inr on) =
      onward below (place_at frame) linked.0 linked.1 Q (all (place_at frame) (inl refl))
      (λ p here. all p (inr here)) other on

  path_walks : (path : List Frame) (place : Place) → IsReadBy book path place → IsLinked book path
      → ((other : Place) → OnPath path other → IsFormula (book.cells other))
      → ((steps : ℕ) → ((other : Place) → OnPath path other → Walks book steps other) → Walks book steps place)
      → (steps : ℕ) (other : Place) → OnPath path other → Walks book steps other
  path_walks path place reads linked formulas goes zero other on = formulas other on
  path_walks path place reads linked formulas goes (suc steps) other on =
      onward path place reads linked (Walks book steps)
      (goes steps (path_walks path place reads linked formulas goes steps))
      (path_walks path place reads linked formulas goes steps) other on

  formulas_on : (marks : Place → Option Mark) (path : List Frame)
      → AllByRecursion (Waits book marks) path → (place : Place) → OnPath path place → IsFormula (book.cells place)
  formulas_on marks [] waits place on = absurd on
  formulas_on marks (frame ∷ below) (wait, waits) place (inl at) =
      subst (λ p. IsFormula (book.cells p)) at (subst IsFormula (sym wait.is) tt)
  formulas_on marks (frame ∷ below) (wait, waits) place (inr on) =
      formulas_on marks below waits place on

  pub close : (marks : Place → Option Mark) (path : List Frame) → Holds book marks path
      → (place : Place) → IsReadBy book path place → (marks place ≡ Some Open) ⊎ (marks place ≡ Some Endless)
      → (after : Place → Option Mark) → Closes marks path after → Holds book after []
  close marks path h place reads circular after closes = record {
    depth = h.depth;
    formulas = λ other some. elim (closed_cases marks path after closes other) [
      | inl (on, is) ↦ formulas_on marks path h.waits other on
      | inr same ↦ h.formulas other (subst IsSome same some)
    ];
    known = λ other v now. elim (closed_cases marks path after closes other) [
      | inl (on, is) ↦ let no : ⊥ = cc in absurd no
      | inr same ↦ h.known other v (sym same ∙ now)
    ];
    endless = λ other now. elim (closed_cases marks path after closes other) [
      | inl (on, is) ↦ λ steps. walks steps other on
      | inr same ↦ h.endless other (sym same ∙ now)
    ];
    opened = λ other now. elim (closed_cases marks path after closes other) [
      | inl (on, is) ↦ let no : ⊥ = cc in absurd no
      | inr same ↦
          let is = all_closed marks path after closes other (h.opened other (sym same ∙ now)) in
          let no : ⊥ = cc in absurd no
    ];
    linked = tt;
    waits = tt;
  }
    where
      goes : (steps : ℕ) → ((other : Place) → OnPath path other → Walks book steps other) → Walks book steps place
      goes steps all = elim circular [
        | inl waits ↦ all place (h.opened place waits)
        | inr endless ↦ h.endless place endless steps
      ]

      walks : (steps : ℕ) (other : Place) → OnPath path other → Walks book steps other
      walks = path_walks path place reads h.linked (formulas_on marks path h.waits) goes
