use Rattle.sheets_http.proofs.LawLemmas.{one_next, one_talk, longer}
use Rattle.sheets_http.proofs.PartLemmas.{has_talk, parts, whole}
use Rattle.sheets_http.proofs.laws.conversation_laws.Goals as goal

pub returns-clause-one_next : goal.returns-clause-one_next
returns-clause-one_next c = one_next

pub returns-clause-one_talk : goal.returns-clause-one_talk
returns-clause-one_talk c = one_talk

pub returns-clause-has_talk : goal.returns-clause-has_talk
returns-clause-has_talk c = has_talk

pub returns-clause-longer : goal.returns-clause-longer
returns-clause-longer c = longer

pub returns-clause-parts : goal.returns-clause-parts
returns-clause-parts c = parts

pub returns-clause-whole : goal.returns-clause-whole
returns-clause-whole c = whole
