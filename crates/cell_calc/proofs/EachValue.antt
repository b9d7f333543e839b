-- Each place has a value: of the cells of a spreadsheet those are told from which walks have no end, and each other one
-- has the value that a recursion finds.
use Rattle.std.proofs.Common.{◌≡◌, ℕ, zero, suc, Bool, true, false, ◌||◌, cond, List, [], ◌∷◌, length, Contains, Option, Some, None, refl, ap, sym, subst, ◌∙◌, arith, inl, inr}
use Rattle.std.proofs.Math.Path.{fun_ext}
use Rattle.std.proofs.lemmas.Bool.{false≢true}
use Rattle.cell_value.specs.declared.cell.Kind.TheVariants as kind
use Rattle.cell_value.specs.declared.cell.Value.{Value}
use Rattle.cell_value.specs.declared.cell.Value.TheVariants.{Error}
use Rattle.cell_value.specs.Elements.{nothing_in, Contains-cons_cases}
use Rattle.ref_rewrite.specs.declared.cell_content.Content.{Content}
use Rattle.ref_rewrite.specs.declared.cell_content.Content.TheVariants.{Number, Text, Truth, Formula}
use Rattle.formula_reader.specs.Laws.{HasOneTree}
use Rattle.cell_calc.specs.Book.{Book, Place, Cell, formula, IsFormula}
use Rattle.cell_calc.specs.Contents.{Contents, AreOf, IsCell, IsTreeWithin}
use Rattle.cell_calc.specs.Calculated.{HasValues}
use Rattle.cell_calc.specs.CellValue.{AreFormulas, HasValue, IsValueOf, Walks, value_in}
use Rattle.cell_calc.specs.Marks.{is_place}
use Rattle.cell_calc.proofs.Depth.{known_is_value, endless_is_value}
use Rattle.cell_calc.proofs.Endless.{shorter, endless, counts_are_bounds}
use Rattle.cell_calc.proofs.Marking.{same_place, is_itself}
use Rattle.cell_calc.proofs.OneAnswer.{one_answer}
use Rattle.cell_calc.proofs.OneValue.{NotNone, some_book, formulas_of}

-- ---- one spreadsheet is stored

same_cell : (found : Option Content) (one other : Cell) → IsCell found one → IsCell found other → one ≡ other
same_cell None one other is is' = is ∙ sym is'
same_cell (Some (Number n)) one other is is' = is ∙ sym is'
same_cell (Some (Text t)) one other is is' = is ∙ sym is'
same_cell (Some (Truth b)) one other is is' = is ∙ sym is'
same_cell (Some (Formula text)) one other is is' =
    is.2 ∙ ap formula (one_answer (IsTreeWithin text) is.0 is'.0 is.1 is'.1) ∙ sym is'.2

same_book : (contents : Contents) (one other : Book) → AreOf contents one → AreOf contents other → one ≡ other
same_book contents one other are are' =
    ap (λ cells. record one { cells = cells })
    (fun_ext (λ place. same_cell (contents.content place) (one.cells place) (other.cells place) (are.cells place)
    (are'.cells place)))
    ∙ ap (λ size. record one { cells = other.cells; size = size })
    (fun_ext (λ sheet. are.size sheet ∙ sym (are'.size sheet)))
    ∙ ap (λ named. record other { named = named }) (fun_ext (λ word. are.named word ∙ sym (are'.named word)))

-- ---- which walks have no end

-- of these places those are told from which a walk of so many steps starts
record Tells (book : Book) (steps : ℕ) (places : List Place) (test : Place → Bool) : Type 0 where
  walks : (place : Place) → test place ≡ true → Walks book steps place
  ends : (place : Place) → Contains places place → test place ≡ false → ¬ (Walks book steps place)

module _ (book : Book) (steps : ℕ) where
  one_walks : (first : Place) (places : List Place) (test : Place → Bool) → Tells book steps places test
      → Walks book steps first → Tells book steps (first ∷ places) (λ place. is_place first place || test place)
  one_walks first places test tells walk = record {
    walks = λ place told. either place (is_place first place) refl told;
    ends = λ place has told. elim (Contains-cons_cases first place places has) [
      | inl same ↦ absurd (false≢true (sym told
          ∙ ap (λ b. b || test place) (ap (is_place first) (sym same) ∙ is_itself first)))
      | inr later ↦ tells.ends place later (or_false (is_place first place) (test place) told)
    ];
  }
    where
      either : (place : Place) (same : Bool) → is_place first place ≡ same → (same || test place) ≡ true
          → Walks book steps place
      either place true same told = subst (Walks book steps) (same_place first place same) walk
      either place false same told = tells.walks place told

      or_false : (a b : Bool) → (a || b) ≡ false → b ≡ false
      or_false true b is = absurd (false≢true (sym is))
      or_false false b is = is

  one_ends : (first : Place) (places : List Place) (test : Place → Bool) → Tells book steps places test
      → ¬ (Walks book steps first) → Tells book steps (first ∷ places) test
  one_ends first places test tells none = record {
    walks = tells.walks;
    ends = λ place has told. elim (Contains-cons_cases first place places has) [
      | inl same ↦ subst (λ p. ¬ (Walks book steps p)) same none
      | inr later ↦ tells.ends place later told
    ];
  }

  some_test : (places : List Place) → NotNone ((test : Place → Bool) × Tells book steps places test)
  some_test [] none = none (
    λ place. false,
    record {
      walks = λ place told. absurd (false≢true told);
      ends = λ place has. absurd (nothing_in place has);
    },
  )
  some_test (first ∷ places) none = some_test places (λ (test, tells).
      none (
        test,
        one_ends first places test tells (λ walk.
            none ((λ place. is_place first place || test place), one_walks first places test tells walk)),
      ))

-- ---- values

-- a walk starts at a formula
starts : (book : Book) (steps : ℕ) (place : Place) → Walks book steps place → IsFormula (book.cells place)
starts book zero place walk = walk
starts book (suc steps) place walk = starts book steps place (shorter book steps place walk)

module _ (book : Book) (places : List Place) (are : AreFormulas book places) (test : Place → Bool)
    (tells : Tells book (length places) places test) where
  -- the value in each place
  abbrev value_at : Place → Value
  value_at place = cond (test place) (Error kind.Ref) (value_in book (length places) place)

  is_value : (place : Place) → IsValueOf book place (value_at place)
  is_value place = by_test (test place) refl
    where
      by_test : (told : Bool) → test place ≡ told
          → IsValueOf book place (cond told (Error kind.Ref) (value_in book (length places) place))
      by_test true told =
          endless_is_value book place
          (endless (length places) book places are.all (omega arith) place (tells.walks place told))
      by_test false told =
          known_is_value book (length places) place (value_in book (length places) place)
          (λ walk. tells.ends place (are.all place (starts book (length places) place walk)) told walk) refl

pub has_values : HasOneTree → HasValues
has_values one contents sound none = some_book contents one sound (λ (book, are).
    let (places, formulas) = formulas_of contents one sound book are in
    some_test book (length places) places (λ (test, tells).
    none (value_at book places formulas test tells) (λ place other are'.
    subst (λ b. HasValue b place (value_at book places formulas test tells place))
    (same_book contents book other are are')
    (counts_are_bounds book place (value_at book places formulas test tells place)
    (is_value book places formulas test tells place)))))
