use Rattle.std.proofs.Common.{◌∷◌, [], refl, sym, subst}
use Rattle.std.specs.Prelude.{None, Option, Some, IfSome, IsSomeAnd}
use Rattle.std.specs.Option.{IsSome}
use Rattle.std.proofs.lemmas.Result.{on_ok_weaker}
use Rattle.basic_filter.specs.declared.types.Filter.{Filter}
use Rattle.world_model.specs.BookChange.{AreChanges, BookChange}
use Rattle.world_model.specs.Sheet.{PlaceSheet}
use Rattle.world_model.specs.Sound.{IsFilterOf, place_sheet_with}
use Rattle.dimension_ops.proofs.book.Book.set_filter.Goals as goal

-- the sheet that can have the filter is there
is_there : (filter : Option Filter) (found : Option PlaceSheet)
    → IsSomeAnd found (λ sheet. IfSome filter (IsFilterOf sheet)) → IsSome found
is_there filter None of = absurd of
is_there filter (Some sheet) of = refl

pub set-requires-clause-there : goal.set-requires-clause-there
set-requires-clause-there c =
    is_there c.args.filter (place_sheet_with c.args.sheet c.args.self.now.sheets) c.requires

pub set-requires-clause-sound : goal.set-requires-clause-sound
set-requires-clause-sound c =
    c.filter_is_set.ensures.stays c.args.self.now c.args.sheet c.args.filter c.stays_sound.ensures c.requires

pub returns-clause-names : goal.returns-clause-names
returns-clause-names c =
    on_ok_weaker c.set.result (λ after. subst
    (AreChanges (BookChange.FilterSet c.args.sheet c.args.filter ∷ []) c.args.self.now) (sym after)
    (c.filter_is_set.ensures.changes c.args.self.now c.args.sheet c.args.filter c.requires))
    c.set.ensures.set
