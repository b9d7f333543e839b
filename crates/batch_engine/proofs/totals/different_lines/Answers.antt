use Rattle.std.proofs.Common.{◌∙◌, ap, length}
use Rattle.std.proofs.lemmas.List.Filters.{dedup_is}
use Rattle.batch_engine.proofs.Counting.{lines_counted}
use Rattle.batch_engine.proofs.totals.different_lines.Goals as goal

pub returns : goal.returns
returns c =
    c.len.ensures ∙ c.dedup.new.self.ok.0 ∙ ap length (dedup_is _ _ _ c.dedup.ensures.filtered)
    ∙ lines_counted c.args.lines.items c.sort_unstable.new.self.items c.sort_unstable.ensures.permutation
    c.sort_unstable.ensures.sorted
