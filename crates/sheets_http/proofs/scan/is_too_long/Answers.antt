use Rattle.std.proofs.Common.{le-leb}
use Rattle.std.proofs.lemmas.Bool.{lt-leb}
use Rattle.sheets_http.specs.Heads.{is_too_long}
use Rattle.sheets_http.proofs.scan.is_too_long.Goals as goal

pub returns-then-read-ge-HEAD_LIMIT : goal.returns-then-read-ge-HEAD_LIMIT
unfolding is_too_long
returns-then-read-ge-HEAD_LIMIT c = rw (le-leb 16384 c.args.read c.if-read-ge-HEAD_LIMIT.true)

pub returns-else-read-ge-HEAD_LIMIT : goal.returns-else-read-ge-HEAD_LIMIT
unfolding is_too_long
returns-else-read-ge-HEAD_LIMIT c = rw (lt-leb 16384 c.args.read c.if-read-ge-HEAD_LIMIT.false)
