use Rattle.std.proofs.Common.{ap, subst, sym, ◌∙◌}
use Rattle.std.specs.Option.{option_copied}
use Rattle.std.specs.Str.{str_eq_ignore_ascii_case}
use Rattle.named_ranges.specs.Listed.{with_name}
use Rattle.world_model.specs.Sheet.{PlaceSheet}
use Rattle.values_api.specs.FoundLaws.{range_there}
use Rattle.values_api.specs.Ranges.{FoundArea, IsThere}
use Rattle.values_api.proofs.Finding.{answer_there}
use Rattle.values_api.proofs.ranges.part_called.Goals as goal

pub returns-in-Some-clause-there : goal.returns-in-Some-clause-there
returns-in-Some-clause-there c =
    subst (λ (found : FoundArea). IsThere c.args.book.now.sheets found.0) (sym c.of_range.ensures)
    (range_there c.args.book.now c.stays_sound.ensures c.args.word.now c.in-Some.range.now
    (ap (with_name c.args.word.now) (sym c.names.ensures) ∙ sym c.find.ensures ∙ ap option_copied c.in-Some.is))

pub returns-in-None-clause-there : goal.returns-in-None-clause-there
returns-in-None-clause-there c =
    answer_there (λ (sheet : PlaceSheet). str_eq_ignore_ascii_case sheet.title c.args.word.now) c.args.book.now.sheets
    _ c.on_found.result (c.ids_find.ensures.finds c.args.book.now c.stays_sound.ensures) c.titled.ensures
    c.on_found.ensures.there
