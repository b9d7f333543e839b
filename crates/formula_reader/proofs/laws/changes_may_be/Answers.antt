use Rattle.formula_reader.proofs.Becoming as becoming
use Rattle.formula_reader.proofs.laws.changes_may_be.Goals as goal

pub returns-clause-follow : goal.returns-clause-follow
returns-clause-follow c = becoming.may_follow

pub returns-clause-lose_sheet : goal.returns-clause-lose_sheet
returns-clause-lose_sheet c = becoming.may_lose_sheet

pub returns-clause-rename : goal.returns-clause-rename
returns-clause-rename c = becoming.may_be_renamed
