use Rattle.std.proofs.Common.{◌∙◌, ap}
use Rattle.std.specs.Prelude.{is_some}
use Rattle.cell_value.specs.Ids.{is_taken}
use Rattle.protection.specs.Listed.{has_id}
use Rattle.protection.proofs.Edits.{is_some-slice_get, with_id_none_has}
use Rattle.protection.proofs.ids.new_id.Goals as goal

pub returns-in-None-clause-unused : goal.returns-in-None-clause-unused
returns-in-None-clause-unused c =
    with_id_none_has c.least_unused.result c.args.protections.now c.least_unused.ensures.unused

pub returns-in-Some-position_of-clause-taken : goal.returns-in-Some-position_of-clause-taken
returns-in-Some-position_of-clause-taken c =
    ap (is_taken (has_id c.args.protections.now)) c.in-Some.is
    ∙ ap is_some c.in-Some-position_of.ensures.found
    ∙ is_some-slice_get _ _ c.in-Some-position_of.ensures.there
