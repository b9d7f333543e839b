use Rattle.users_file.proofs.Bytes.{lost, read_more}
use Rattle.users_file.proofs.reading.read_to_end.Goals as goal

pub returns-in_err-extend_from_slice-clause-left : goal.returns-in_err-extend_from_slice-clause-left
returns-in_err-extend_from_slice-clause-left g c =
    lost (g.S.Source.left c.args.file.now) (g.S.Source.left c.read.new.self) _
    (read_more (g.S.Source.left c.args.file.now) (g.S.Source.left c.loop-piece.file) (g.S.Source.left c.read.new.self)
    c.loop-piece.bytes _ c.loop-piece.invariant.read c.in_ok-count.ensures.bytes)
