use Rattle.std.proofs.Common.{rules, ◌≡◌, ◌++◌, length, sym, ap, ◌∙◌, arith, subst}
use Rattle.std.specs.Vec.Iter.{into_iter_items}
use Rattle.std.proofs.lemmas.Str.{IsCharBoundary-start}
use Rattle.formula_reader.specs.Cuts.{Cuts}
use Rattle.formula_reader.proofs.Cutting.{cuts_skipped, pieces_skipped}
use Rattle.formula_reader.proofs.pieces.pieces_of.Goals as goal

pub loop-placed-init : goal.loop-placed-init
loop-placed-init g c =
    let whole : into_iter_items c.into_iter-placed-iterator.result ≡ c.args.tokens = search rules in (
      search rules,
      IsCharBoundary-start c.args.text.now c.utf8.text,
      subst (Cuts c.args.text.now 0) (sym whole) c.requires,
      search rules,
    )

pub loop-placed-preserved : goal.loop-placed-preserved
loop-placed-preserved g c =
    let steps = c.in-Some.ensures.steps in
    let items = ap length steps.0 in
    let text = c.args.text.now in (
      omega arith,
      c.loop-placed.invariant.1,
      cuts_skipped text c.loop-placed.from _ _ c.in-Some.placed steps.0 c.loop-placed.invariant.2,
      ap (λ pieces. c.loop-placed.pieces.items ++ pieces)
          (pieces_skipped (g.S.SheetNames.sheets c.args.names.now) c.args.here text c.loop-placed.from _ _
          c.in-Some.placed c.piece_of.result steps.0 c.piece_of.ensures c.in_default.is)
          ∙ c.loop-placed.invariant.3,
    )
