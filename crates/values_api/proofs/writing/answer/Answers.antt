use Rattle.std.proofs.Common.{length, refl, sym, ap, ◌∙◌}
use Rattle.values_api.specs.Blocks.{broken_by_write}
use Rattle.values_api.proofs.Told.{told}
use Rattle.values_api.proofs.writing.answer.Goals as goal

pub returns : goal.returns
returns c =
    told c.args.given.now c.args.cells.now c.args.limit c.args.book.now (record {
      area = c.rectangle.result;
      rows = c.in_ok-lines_on.field-0;
      cols = c.in_ok-lines_on-2.field-0;
      cells = length c.args.cells.now;
    }) c.requires.cells
    (ap (λ fit. broken_by_write c.args.limit fit c.args.book.now) (sym c.fits.ensures) ∙ sym c.broken.ensures
    ∙ c.in_default.is)
    c.rectangle.ensures c.in_ok-lines_on.ensures c.in_ok-lines_on-2.ensures refl
