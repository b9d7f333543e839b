use Rattle.std.proofs.Common.{List, ◌∷◌, [], refl, sym, subst}
use Rattle.std.specs.Prelude.{None, Option, Some, IsSomeAnd}
use Rattle.std.specs.Option.{IsSome}
use Rattle.std.proofs.lemmas.Result.{on_ok_weaker}
use Rattle.grid_range.specs.declared.area.Area.{Area}
use Rattle.merge_ranges.specs.Merges.{AreMerges}
use Rattle.world_model.specs.BookChange.{AreChanges, BookChange}
use Rattle.world_model.specs.Sheet.{PlaceSheet}
use Rattle.world_model.specs.Sound.{AreMergesOf, place_sheet_with}
use Rattle.dimension_ops.specs.MergeRequests.{AreOfSheet}
use Rattle.dimension_ops.proofs.book.Book.set_merges.Goals as goal

-- the sheet can have the merges, and is there
can_have : (merges : List Area) (found : Option PlaceSheet) → AreMerges merges
    → IsSomeAnd found (λ sheet. AreOfSheet sheet merges) → IsSomeAnd found (λ sheet. AreMergesOf sheet merges)
can_have merges None are of = absurd of
can_have merges (Some sheet) are of = (are, of)

is_there : (merges : List Area) (found : Option PlaceSheet) → IsSomeAnd found (λ sheet. AreOfSheet sheet merges)
    → IsSome found
is_there merges None of = absurd of
is_there merges (Some sheet) of = refl

pub set-requires-clause-there : goal.set-requires-clause-there
set-requires-clause-there c =
    is_there c.args.merges (place_sheet_with c.args.sheet c.args.self.now.sheets) c.requires

pub set-requires-clause-sound : goal.set-requires-clause-sound
set-requires-clause-sound c =
    c.merges_are_set.ensures.stays c.args.self.now c.args.sheet c.args.merges c.stays_sound.ensures
    (can_have c.args.merges (place_sheet_with c.args.sheet c.args.self.now.sheets)
    c.list-listed.ensures.merges c.requires)

pub returns-clause-names : goal.returns-clause-names
returns-clause-names c =
    on_ok_weaker c.set.result
    (λ after. subst (AreChanges (BookChange.MergesSet c.args.sheet c.args.merges ∷ []) c.args.self.now)
    (sym after)
    (c.merges_are_set.ensures.changes c.args.self.now c.args.sheet c.args.merges (can_have c.args.merges
    (place_sheet_with c.args.sheet c.args.self.now.sheets) c.list-listed.ensures.merges c.requires)))
    c.set.ensures.set
