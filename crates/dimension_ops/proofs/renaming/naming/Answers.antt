use Rattle.std.proofs.Common.{rules, sym, subst}
use Rattle.std.proofs.lemmas.Fn.{filter_same}
use Rattle.dimension_ops.specs.Renaming.{AreNaming, has_word, has_word_at}
use Rattle.dimension_ops.proofs.Becoming.{such_marked}
use Rattle.dimension_ops.proofs.RenamedWords.{formula_then}
use Rattle.dimension_ops.proofs.renaming.naming.Goals as goal

pub returns : goal.returns
returns c =
    subst (AreNaming c.args.word.now c.args.cells.now.table)
    (sym (filter_same _ (has_word_at c.args.word.now c.args.cells.now.table) _
    (λ x b f' k. (search rules, search rules)) _ _
    c.retain.ensures.filtered))
    (such_marked (has_word c.args.word.now) (formula_then c.args.word.now) c.args.cells.now.table c.args.marks.now.table
    c.in_ok-places.places.items c.requires c.in_ok-places.ensures)
