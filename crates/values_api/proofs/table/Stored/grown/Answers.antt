use Rattle.std.proofs.Common.{ℕ, subst, sym, ◌∙◌, arith, List}
use Rattle.std.proofs.lemmas.Bool.{false≢true}
use Rattle.values_api.specs.Tables.{HasBefore, HasNear}
use Rattle.values_api.proofs.Growing.{grown_up, grown_down, grown_left, grown_right, row_fits, col_fits, none_beside}
use Rattle.values_api.proofs.table.Stored.grown.Goals as goal

pub returns-then-has_before-clause-grown : goal.returns-then-has_before-clause-grown
returns-then-has_before-clause-grown c =
    let rectangle = c.args.rectangle in
    grown_up c.args.self.now c.requires.stored rectangle c.requires.cells
    (subst (λ (places : List (ℕ × ℕ)). HasBefore places rectangle.top rectangle.left rectangle.right)
    c.as_slice-rows.ensures (c.has_before.ensures.0 c.if-has_before.true))

pub overflow_add-bottom : goal.overflow_add-bottom
overflow_add-bottom c =
    let rectangle = c.args.rectangle in
    let fits = row_fits c.args.self.now c.requires.stored rectangle c.requires.cells
    (subst (λ (places : List (ℕ × ℕ)). HasNear places rectangle.bottom rectangle.left rectangle.right)
    c.as_slice-rows.ensures (c.has_near.ensures.0 c.if-has_near.true)) in
    omega arith

pub returns-then-has_near-clause-grown : goal.returns-then-has_near-clause-grown
returns-then-has_near-clause-grown c =
    let rectangle = c.args.rectangle in
    grown_down c.args.self.now c.requires.stored rectangle c.requires.cells
    (subst (λ (places : List (ℕ × ℕ)). HasNear places rectangle.bottom rectangle.left rectangle.right)
    c.as_slice-rows.ensures (c.has_near.ensures.0 c.if-has_near.true))

pub returns-then-has_before-2-clause-grown : goal.returns-then-has_before-2-clause-grown
returns-then-has_before-2-clause-grown c =
    let rectangle = c.args.rectangle in
    grown_left c.args.self.now c.requires.stored rectangle c.requires.cells
    (subst (λ (places : List (ℕ × ℕ)). HasBefore places rectangle.left rectangle.top rectangle.bottom)
    c.as_slice-cols.ensures (c.has_before-2.ensures.0 c.if-has_before-2.true))

pub overflow_add-right : goal.overflow_add-right
overflow_add-right c =
    let rectangle = c.args.rectangle in
    let fits = col_fits c.args.self.now c.requires.stored rectangle c.requires.cells
    (subst (λ (places : List (ℕ × ℕ)). HasNear places rectangle.right rectangle.top rectangle.bottom)
    c.as_slice-cols.ensures (c.has_near-2.ensures.0 c.if-has_near-2.true)) in
    omega arith

pub returns-then-has_near-2-clause-grown : goal.returns-then-has_near-2-clause-grown
returns-then-has_near-2-clause-grown c =
    let rectangle = c.args.rectangle in
    grown_right c.args.self.now c.requires.stored rectangle c.requires.cells
    (subst (λ (places : List (ℕ × ℕ)). HasNear places rectangle.right rectangle.top rectangle.bottom)
    c.as_slice-cols.ensures (c.has_near-2.ensures.0 c.if-has_near-2.true))

pub returns-clause-closed : goal.returns-clause-closed
returns-clause-closed c = λ _.
    let rectangle = c.args.rectangle in
    let rows = sym c.as_slice-rows.ensures in
    let cols = sym c.as_slice-cols.ensures in
    none_beside c.args.self.now c.requires.stored rectangle c.requires.cells
    (λ has. false≢true (sym c.if-has_before.false ∙ c.has_before.ensures.1
    (subst (λ (places : List (ℕ × ℕ)). HasBefore places rectangle.top rectangle.left rectangle.right) rows has)))
    (λ has. false≢true (sym c.if-has_near.false ∙ c.has_near.ensures.1
    (subst (λ (places : List (ℕ × ℕ)). HasNear places rectangle.bottom rectangle.left rectangle.right) rows has)))
    (λ has. false≢true (sym c.if-has_before-2.false ∙ c.has_before-2.ensures.1
    (subst (λ (places : List (ℕ × ℕ)). HasBefore places rectangle.left rectangle.top rectangle.bottom) cols has)))
    (λ has. false≢true (sym c.if-has_near-2.false ∙ c.has_near-2.ensures.1
    (subst (λ (places : List (ℕ × ℕ)). HasNear places rectangle.right rectangle.top rectangle.bottom) cols has)))
