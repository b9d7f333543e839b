use Rattle.a1_notation.proofs.Areas.{capped_room, between_answer}
use Rattle.a1_notation.proofs.area.read_between.Goals as goal

pub area_between-requires-clause-one : goal.area_between-requires-clause-one
area_between-requires-clause-one c = capped_room c.args.first.now c.in_ok-one.one c.in_ok-one.ensures.corner

pub area_between-requires-clause-other : goal.area_between-requires-clause-other
area_between-requires-clause-other c = capped_room c.args.second.now c.in_ok-other.other c.in_ok-other.ensures.corner

pub returns-clause-area : goal.returns-clause-area
returns-clause-area c =
    (between_answer c.args.first.now c.args.second.now c.in_ok-one.one c.in_ok-other.other c.area_between.result
    c.in_ok-one.ensures.corner c.in_ok-other.ensures.corner c.area_between.ensures).0

pub returns-clause-none : goal.returns-clause-none
returns-clause-none c =
    (between_answer c.args.first.now c.args.second.now c.in_ok-one.one c.in_ok-other.other c.area_between.result
    c.in_ok-one.ensures.corner c.in_ok-other.ensures.corner c.area_between.ensures).1
