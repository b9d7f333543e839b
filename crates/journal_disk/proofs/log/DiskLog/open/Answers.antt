use Rattle.journal_disk.proofs.Pieces.{one_list, closed_gate_ends}
use Rattle.journal_disk.proofs.log.DiskLog.open.Goals as goal

pub returns-in-Ok-clause-one_list : goal.returns-in-Ok-clause-one_list
returns-in-Ok-clause-one_list g c = one_list

pub returns-in-Ok-clause-closed_gate : goal.returns-in-Ok-clause-closed_gate
returns-in-Ok-clause-closed_gate g c = closed_gate_ends

pub returns-in-Err-clause-one_list : goal.returns-in-Err-clause-one_list
returns-in-Err-clause-one_list g c = one_list

pub returns-in-Err-clause-closed_gate : goal.returns-in-Err-clause-closed_gate
returns-in-Err-clause-closed_gate g c = closed_gate_ends
