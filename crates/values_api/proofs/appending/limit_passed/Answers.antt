use Rattle.std.proofs.Common.{◌≡◌, ◌+◌, ◌*◌, sym, ap, ◌∙◌, arith}
use Rattle.values_api.specs.Appends.{places_added, size_added}
use Rattle.values_api.specs.FoundLaws.{sound_sheet}
use Rattle.values_api.proofs.Sizes.{cells_told, cols_told, none_passed, places_swapped}
use Rattle.values_api.proofs.appending.limit_passed.Goals as goal

pub overflow_sub-rows : goal.overflow_sub-rows
overflow_sub-rows c =
    let own = sound_sheet c.args.book.now c.stays_sound.ensures c.args.sheet.now.id c.args.sheet.now c.requires.there in
    omega (arith, own.rows.1, c.rows-rows.ensures)

pub overflow_sub-cols : goal.overflow_sub-cols
overflow_sub-cols c =
    let own = sound_sheet c.args.book.now c.stays_sound.ensures c.args.sheet.now.id c.args.sheet.now c.requires.there in
    omega (arith, own.cols.1, c.cols-cols.ensures)

pub returns-then-added-cols : goal.returns-then-added-cols
returns-then-added-cols c =
    let own = sound_sheet c.args.book.now c.stays_sound.ensures c.args.sheet.now.id c.args.sheet.now c.requires.there in
    cols_told (size_added c.args.added.now c.args.sheet.now)
    (places_added c.args.sheet.now.id c.args.added.now c.args.book.now.sheets)
    (omega (arith, own.rows.1, c.rows-rows.ensures)) (omega (arith, own.cols.1, c.cols-cols.ensures))

pub overflow_sub-grid_places : goal.overflow_sub-grid_places
overflow_sub-grid_places c =
    let own = c.args.sheet.now in
    let swapped = places_swapped own.id c.args.added.now c.args.book.now.sheets own c.stays_sound.ensures.distinct
    c.requires.there in
    let before : c.from.result * c.from-2.result ≡ own.table.rows * own.table.cols =
    ap (λ n. n * c.from-2.result) (c.from.ensures ∙ c.rows-rows.ensures)
    ∙ ap (λ n. own.table.rows * n) (c.from-2.ensures ∙ c.cols-cols.ensures) in
    let after : (c.rows-rows.result + c.args.added.now.rows) * (c.cols-cols.result + c.args.added.now.cols)
    ≡ (own.table.rows + c.args.added.now.rows) * (own.table.cols + c.args.added.now.cols) =
    ap (λ n. (n + c.args.added.now.rows) * (c.cols-cols.result + c.args.added.now.cols)) c.rows-rows.ensures
    ∙ ap (λ n. (own.table.rows + c.args.added.now.rows) * (n + c.args.added.now.cols)) c.cols-cols.ensures in
    omega (arith, swapped, before, after, c.grid_places.ensures.places)

pub returns-then-grid_places-after-gt-MOST_PLACES : goal.returns-then-grid_places-after-gt-MOST_PLACES
returns-then-grid_places-after-gt-MOST_PLACES c =
    let own = c.args.sheet.now in
    let sound = sound_sheet c.args.book.now c.stays_sound.ensures own.id own c.requires.there in
    let swapped = places_swapped own.id c.args.added.now c.args.book.now.sheets own c.stays_sound.ensures.distinct
    c.requires.there in
    let before : c.from.result * c.from-2.result ≡ own.table.rows * own.table.cols =
    ap (λ n. n * c.from-2.result) (c.from.ensures ∙ c.rows-rows.ensures)
    ∙ ap (λ n. own.table.rows * n) (c.from-2.ensures ∙ c.cols-cols.ensures) in
    let after : (c.rows-rows.result + c.args.added.now.rows) * (c.cols-cols.result + c.args.added.now.cols)
    ≡ (own.table.rows + c.args.added.now.rows) * (own.table.cols + c.args.added.now.cols) =
    ap (λ n. (n + c.args.added.now.rows) * (c.cols-cols.result + c.args.added.now.cols)) c.rows-rows.ensures
    ∙ ap (λ n. (own.table.rows + c.args.added.now.rows) * (n + c.args.added.now.cols)) c.cols-cols.ensures in
    cells_told (size_added c.args.added.now own) (places_added own.id c.args.added.now c.args.book.now.sheets)
    (omega (arith, sound.rows.1, c.rows-rows.ensures)) (omega (arith, sound.cols.1, c.cols-cols.ensures))
    (omega (arith, swapped, before, after, c.grid_places.ensures.places))

pub returns : goal.returns
returns c =
    let own = c.args.sheet.now in
    let sound = sound_sheet c.args.book.now c.stays_sound.ensures own.id own c.requires.there in
    let swapped = places_swapped own.id c.args.added.now c.args.book.now.sheets own c.stays_sound.ensures.distinct
    c.requires.there in
    let before : c.from.result * c.from-2.result ≡ own.table.rows * own.table.cols =
    ap (λ n. n * c.from-2.result) (c.from.ensures ∙ c.rows-rows.ensures)
    ∙ ap (λ n. own.table.rows * n) (c.from-2.ensures ∙ c.cols-cols.ensures) in
    let after : (c.rows-rows.result + c.args.added.now.rows) * (c.cols-cols.result + c.args.added.now.cols)
    ≡ (own.table.rows + c.args.added.now.rows) * (own.table.cols + c.args.added.now.cols) =
    ap (λ n. (n + c.args.added.now.rows) * (c.cols-cols.result + c.args.added.now.cols)) c.rows-rows.ensures
    ∙ ap (λ n. (own.table.rows + c.args.added.now.rows) * (n + c.args.added.now.cols)) c.cols-cols.ensures in
    sym (none_passed (size_added c.args.added.now own) (places_added own.id c.args.added.now c.args.book.now.sheets)
    (record {
      rows = omega (arith, sound.rows.1, c.rows-rows.ensures);
      cols = omega (arith, sound.cols.1, c.cols-cols.ensures);
      cells = omega (arith, swapped, before, after, c.grid_places.ensures.places);
    }))
