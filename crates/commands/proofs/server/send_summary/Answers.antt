use Rattle.std.proofs.Common.{◌++◌, codes}
use Rattle.commands.specs.Finish.{count_line}
use Rattle.commands.proofs.SendLemmas.{Sends-then, Sends-cut-so}
use Rattle.commands.proofs.server.send_summary.Goals as goal

pub returns-in_err-send_line-clause-sends : goal.returns-in_err-send_line-clause-sends
returns-in_err-send_line-clause-sends g c =
    let all = c.args.summary in
    Sends-cut-so _ _ (count_line (codes "accepted ") all.accepted)
    (count_line (codes "cells ") all.cells ++ count_line (codes "history ") all.bytes)
    c.in_err-send_line.field-0.0 c.from_residual.result c.from_residual.ensures.0 c.in_err-send_line.ensures.sends

pub returns-in_err-send_line-2-clause-sends : goal.returns-in_err-send_line-2-clause-sends
returns-in_err-send_line-2-clause-sends g c =
    let all = c.args.summary in
    Sends-then _ _ _ (count_line (codes "accepted ") all.accepted)
    (count_line (codes "cells ") all.cells ++ count_line (codes "history ") all.bytes) c.in_ok-send_line.field-0 _
    c.in_ok-send_line.ensures.sends
    (Sends-cut-so _ _ (count_line (codes "cells ") all.cells) (count_line (codes "history ") all.bytes)
    c.in_err-send_line-2.field-0.0 c.from_residual-in_err-send_line-2.result
    c.from_residual-in_err-send_line-2.ensures.0 c.in_err-send_line-2.ensures.sends)

pub returns-clause-sends : goal.returns-clause-sends
returns-clause-sends g c =
    let all = c.args.summary in
    Sends-then _ _ _ (count_line (codes "accepted ") all.accepted)
    (count_line (codes "cells ") all.cells ++ count_line (codes "history ") all.bytes) c.in_ok-send_line.field-0 _
    c.in_ok-send_line.ensures.sends
    (Sends-then _ _ _ (count_line (codes "cells ") all.cells) (count_line (codes "history ") all.bytes)
    c.in_ok-send_line-2.field-0 _ c.in_ok-send_line-2.ensures.sends c.send_line-3.ensures.sends)
