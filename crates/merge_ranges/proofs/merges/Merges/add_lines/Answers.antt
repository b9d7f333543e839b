use Rattle.std.proofs.Common.{sym, subst, ◌∙◌}
use Rattle.std.proofs.lemmas.Bool.{false≢true}
use Rattle.merge_ranges.specs.Calls.{AreParts, IsLeftOrPart, ListsJust}
use Rattle.merge_ranges.proofs.Merging.{lines_are_parts}
use Rattle.merge_ranges.proofs.merges.Merges.add_lines.Goals as goal

pub put_in-requires-clause-whole : goal.put_in-requires-clause-whole
put_in-requires-clause-whole c cut = false≢true (sym c.if-are_cut_by.false ∙ c.are_cut_by.ensures.1 cut)

pub put_in-requires-clause-parts : goal.put_in-requires-clause-parts
put_in-requires-clause-parts c =
    subst (AreParts c.args.area.now) (sym (c.as_slice.ensures.value ∙ c.in_ok-lines.ensures))
    (lines_are_parts c.args.axis c.args.area.now c.requires)

pub returns-clause-added : goal.returns-clause-added
returns-clause-added c =
    subst (λ parts. ListsJust (IsLeftOrPart c.args.area.now c.args.self.now parts) c.put_in.new.self)
    (c.as_slice.ensures.value ∙ c.in_ok-lines.ensures) c.in_ok-put_in.ensures.put
