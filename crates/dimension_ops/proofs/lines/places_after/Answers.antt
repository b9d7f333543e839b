use Rattle.std.proofs.Common.{◌≡◌, ℕ, ap, sym, ◌∙◌, ◌*◌, arith}
use Rattle.cell_store.specs.Moved.{size_after}
use Rattle.dimension_ops.specs.SizeLaws.{places_replaced}
use Rattle.dimension_ops.proofs.lines.places_after.Goals as goal

product : (places : ℕ) (one other : ℕ × ℕ) → places ≡ one.0 * one.1 → one ≡ other → places ≡ other.0 * other.1
product places one other is same = is ∙ ap (λ (size : ℕ × ℕ). size.0 * size.1) same

same_size : (rows rows' cols cols' : ℕ) → rows ≡ rows' → cols ≡ cols'
    → ◌≡◌ {A = ℕ × ℕ} (rows, cols) (rows', cols')
same_size rows rows' cols cols' is is' = ap (λ n. (n, cols)) is ∙ ap (λ n. (rows', n)) is'

pub overflow_sub-result : goal.overflow_sub-result
overflow_sub-result c =
    let found = c.in-Some.found.now in
    let here = same_size c.rows-rows.result found.table.rows c.cols-cols.result found.table.cols c.rows-rows.ensures
    c.cols-cols.ensures in
    let all = places_replaced c.args.sheet c.args.axis c.args.change.now c.args.book.now.sheets found
    c.stays_sound.ensures.distinct (sym c.in-Some.ensures) in
    let was = product c.places_of-2.result (c.rows-rows.result, c.cols-cols.result) (found.table.rows, found.table.cols)
    c.places_of-2.ensures.places here in
    let now = product c.places_of.result c.size_after-size.result
    (size_after c.args.axis c.args.change.now found.table.rows found.table.cols) c.places_of.ensures.places
    (c.size_after-size.ensures
    ∙ ap (λ (size : ℕ × ℕ). size_after c.args.axis c.args.change.now size.0 size.1) here) in
    let total = c.grid_places.ensures.places in
    omega (arith, all, was, now, total)

pub returns : goal.returns
returns c =
    let found = c.in-Some.found.now in
    let here = same_size c.rows-rows.result found.table.rows c.cols-cols.result found.table.cols c.rows-rows.ensures
    c.cols-cols.ensures in
    let all = places_replaced c.args.sheet c.args.axis c.args.change.now c.args.book.now.sheets found
    c.stays_sound.ensures.distinct (sym c.in-Some.ensures) in
    let was = product c.places_of-2.result (c.rows-rows.result, c.cols-cols.result) (found.table.rows, found.table.cols)
    c.places_of-2.ensures.places here in
    let now = product c.places_of.result c.size_after-size.result
    (size_after c.args.axis c.args.change.now found.table.rows found.table.cols) c.places_of.ensures.places
    (c.size_after-size.ensures
    ∙ ap (λ (size : ℕ × ℕ). size_after c.args.axis c.args.change.now size.0 size.1) here) in
    let total = c.grid_places.ensures.places in
    omega (arith, all, was, now, total)
