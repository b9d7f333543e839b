use Rattle.std.proofs.Common.{◌<◌, ◌++◌, ◌∙◌, ap, length, subst}
use Rattle.std.proofs.lemmas.List.{length-map}
use Rattle.world_model.specs.Sheet.{PlaceSheet}
use Rattle.sheet_engine.specs.Dump.{IsLine, look_at, owner_of, read_of}
use Rattle.sheet_engine.proofs.Dumping.{next_sheet, one_line}
use Rattle.sheet_engine.proofs.dump.push_book.Goals as goal

pub loop-at-init : goal.loop-at-init
loop-at-init c =
    let book = c.args.book.now in
    one_line c.args.world.now (owner_of book, look_at book) c.in_ok-look.look c.args.text.now
    c.extend_from_slice.new.self
    c.in_ok-look.ensures
    (c.in_ok-extend_from_slice.ensures.ok ∙ ap (λ more. c.args.text.now ++ more) c.as_slice.ensures)

pub loop-at-preserved : goal.loop-at-preserved
loop-at-preserved c =
    let books = c.args.world.now in
    let book = c.args.book.now in
    let at = c.loop-at.at in
    let d = c.sheet_at.result.now in
    let there = subst (λ count. at < count)
    (ap length (c.as_slice-at-end.ensures ∙ c.sheets.ensures)
    ∙ length-map book.sheets (λ (sheet : PlaceSheet). sheet.id))
    c.loop-at-test.true in
    next_sheet books book book.sheets at d c.args.text.now c.loop-at.text c.extend_from_slice-in-loop-at.new.self
    c.in_ok-read.read there c.loop-at.invariant
    (subst (λ sheet. IsLine books (owner_of book, read_of book sheet) c.in_ok-read.read) (c.sheet_at.ensures d)
    c.in_ok-read.ensures)
    (c.in_ok-extend_from_slice-2.ensures.ok ∙ ap (λ more. c.loop-at.text ++ more) c.as_slice-in-loop-at.ensures)
