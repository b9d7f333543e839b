use Rattle.sheets_http.proofs.RouteLemmas.{plain_fits}
use Rattle.sheets_http.proofs.routing.fits_segment.Goals as goal

pub returns-then-plain : goal.returns-then-plain
returns-then-plain c =
    plain_fits c.args.segment c.args.raw.now c.fits.result (c.requires c.if-plain.true) c.utf8.raw c.fits.ensures
