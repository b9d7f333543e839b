use Rattle.users_file.proofs.TableLaws.{bad_is_none, one_bad_row, one_table}
use Rattle.users_file.proofs.laws.table_laws.Goals as goal

pub returns-clause-one_table : goal.returns-clause-one_table
returns-clause-one_table c = one_table

pub returns-clause-bad_is_none : goal.returns-clause-bad_is_none
returns-clause-bad_is_none c = bad_is_none

pub returns-clause-one_bad_row : goal.returns-clause-one_bad_row
returns-clause-one_bad_row c = one_bad_row
