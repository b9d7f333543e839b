-- The place in the list of shared sheets is that among what they are.
use Rattle.std.proofs.Common.{rules, tests, ◌∙◌, ℕ, Bool}
use Rattle.std.specs.Prelude.{◌==◌}
use Rattle.std.specs.Arc.{arc_value}
use Rattle.std.proofs.lemmas.Iterator.{YieldsList-from_slice}
use Rattle.std.proofs.lemmas.Iterator.Search.{position_from_yields_List}
use Rattle.std.proofs.lemmas.Iterator.Adapters.{position_from-zero}
use Rattle.world_model.specs.Sheet.{PlaceSheet}
use Rattle.dimension_ops.proofs.Finding.{position_from-map}
use Rattle.dimension_ops.proofs.book.sheet_place.Goals as goal

-- the sheet has the id
abbrev has_id : ℕ → PlaceSheet → Bool
has_id id sheet = sheet.id == id

pub returns : goal.returns
returns c =
    position_from_yields_List (λ sheet. has_id c.args.id (arc_value sheet)) _ _ c.position.result
    c.position.ensures.ran (YieldsList-from_slice _ c.iter.ensures.rest) (λ x b q k. search (rules, tests))
    ∙ position_from-zero (λ sheet. has_id c.args.id (arc_value sheet)) c.args.sheets.now
    ∙ position_from-map (has_id c.args.id) arc_value c.args.sheets.now 0
