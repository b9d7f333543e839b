use Rattle.std.proofs.Common.{sym, ap, subst, cond}
use Rattle.std.proofs.lemmas.Bool.{lt-ltb}
use Rattle.cell_store.specs.Moved.{size_after}
use Rattle.grid_range.specs.declared.change.Change.TheVariants.{Delete}
use Rattle.dimension_ops.specs.SetProperties.{IsSized}
use Rattle.dimension_ops.proofs.Setting.{cut_count, cut_places, on_ok}
use Rattle.dimension_ops.proofs.properties.cut.Goals as goal

pub make-requires-clause-room : goal.make-requires-clause-room
make-requires-clause-room c =
    cut_count c.args.sheet c.args.axis c.args.lines c.args.given c.args.book.now c.stays_sound.ensures c.requires.there
    c.requires.some c.if-given-lines.true

pub make-requires-clause-few : goal.make-requires-clause-few
make-requires-clause-few c =
    cut_places c.args.sheet c.args.axis c.args.lines c.args.given c.args.book.now c.stays_sound.ensures c.requires.there

pub returns-then-given-lines-clause-sized : goal.returns-then-given-lines-clause-sized
returns-then-given-lines-clause-sized c =
    on_ok c.make.result _ _
    (λ gets size others sized. subst (λ now. IsSized c.args.sheet now others c.make.new.book.sheets)
    (sym (ap (λ b. cond b (size_after c.args.axis (Delete c.args.given c.args.lines) size.0 size.1) size)
    (lt-ltb c.args.given c.args.lines c.if-given-lines.true)))
    (gets size others sized))
    c.make.ensures.sized
