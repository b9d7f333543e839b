use Rattle.std.proofs.Common.{◌≡◌, ℕ, ap, sym, ◌∙◌, ◌*◌, arith}
use Rattle.dimension_ops.specs.SizeLaws.{places_given}
use Rattle.dimension_ops.proofs.properties.places_with.Goals as goal

product : (places one other one' other' : ℕ) → places ≡ one * other → one ≡ one' → other ≡ other' → places
    ≡ one' * other'
product places one other one' other' is same same' = is ∙ ap (λ n. n * other) same ∙ ap (λ n. one' * n) same'

pub overflow_sub-result : goal.overflow_sub-result
overflow_sub-result c =
    let found = c.in-Some.found.now in
    let all = places_given c.args.sheet c.args.size c.args.book.now.sheets found c.stays_sound.ensures.distinct
    (sym c.in-Some.ensures) in
    let was = product c.places_of-2.result c.rows.result c.cols.result found.table.rows found.table.cols
    c.places_of-2.ensures.places c.rows.ensures c.cols.ensures in
    let now = c.places_of.ensures.places in
    let total = c.grid_places.ensures.places in
    omega (arith, all, was, now, total)

pub returns : goal.returns
returns c =
    let found = c.in-Some.found.now in
    let all = places_given c.args.sheet c.args.size c.args.book.now.sheets found c.stays_sound.ensures.distinct
    (sym c.in-Some.ensures) in
    let was = product c.places_of-2.result c.rows.result c.cols.result found.table.rows found.table.cols
    c.places_of-2.ensures.places c.rows.ensures c.cols.ensures in
    let now = c.places_of.ensures.places in
    let total = c.grid_places.ensures.places in
    omega (arith, all, was, now, total)
