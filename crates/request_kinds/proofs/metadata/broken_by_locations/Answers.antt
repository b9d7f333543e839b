use Rattle.request_kinds.specs.LocationsWithin.{spots_within}
use Rattle.request_kinds.proofs.metadata.broken_by_locations.Goals as goal

pub returns-clause-within : goal.returns-clause-within
returns-clause-within c = λ none. spots_within c.args.book.now.sheets c.args.locations.now (cc) (cc) (cc)
