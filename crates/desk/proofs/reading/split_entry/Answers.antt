use Rattle.desk.proofs.Splits.{torn_project, torn_target, torn_body}
use Rattle.desk.proofs.reading.split_entry.Goals as goal

pub returns-in_err-project : goal.returns-in_err-project
returns-in_err-project c =
    rw c.from_residual-in_err-project.ensures
    (torn_project c.args.bytes.now c.in_ok-caller.rest.now c.in_ok-caller.caller c.in_ok-caller.ensures
    c.in_ok-user.rest.now c.in_ok-user.user.now c.in_ok-user.ensures c.in_err-project.ensures)

pub returns-in_err-target : goal.returns-in_err-target
returns-in_err-target c =
    rw c.from_residual-in_err-target.ensures
    (torn_target c.args.bytes.now c.in_ok-caller.rest.now c.in_ok-caller.caller c.in_ok-caller.ensures
    c.in_ok-user.rest.now c.in_ok-user.user.now c.in_ok-user.ensures
    c.in_ok-project.rest.now c.in_ok-project.project.now c.in_ok-project.ensures c.in_err-target.ensures)

pub returns-in_err-body : goal.returns-in_err-body
returns-in_err-body c =
    rw c.from_residual-in_err-body.ensures
    (torn_body c.args.bytes.now c.in_ok-caller.rest.now c.in_ok-caller.caller c.in_ok-caller.ensures
    c.in_ok-user.rest.now c.in_ok-user.user.now c.in_ok-user.ensures
    c.in_ok-project.rest.now c.in_ok-project.project.now c.in_ok-project.ensures
    c.in_ok-target.rest.now c.in_ok-target.target.now c.in_ok-target.ensures c.in_err-body.ensures)
