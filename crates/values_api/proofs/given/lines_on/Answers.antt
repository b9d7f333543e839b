use Rattle.std.proofs.Common.{◌≡◌, map, sym, subst, ap, ◌∙◌}
use Rattle.std.specs.Prelude.{Contains}
use Rattle.std.proofs.lemmas.List.{take_all}
use Rattle.std.proofs.lemmas.List.Filters.{dedup_is}
use Rattle.std.proofs.lemmas.List.Kept.{AllPairs-from_increasing, Contains-dedup_nat, Contains-from_dedup}
use Rattle.std.proofs.lemmas.List.Sorted.{Contains-permutation, IsPermutation-sym}
use Rattle.std.proofs.lemmas.Map.Keys.{IsStrictlyIncreasing-dedup}
use Rattle.values_api.specs.Blocks.{AreLines}
use Rattle.values_api.specs.Given.{line_on}
use Rattle.values_api.proofs.given.lines_on.Goals as goal

pub returns : goal.returns
returns c =
    let lines = map (line_on c.args.axis) c.args.cells.now in
    let all : c.loop-cell.lines.items ≡ lines =
    c.loop-cell.invariant
    ∙ ap (map (line_on c.args.axis)) (take_all c.loop-cell.cell-index c.args.cells.now c.loop-cell-test.false) in
    let is = dedup_is _ _ _ c.dedup.ensures.filtered in
    let moved = c.sort_unstable.ensures.permutation in
    subst (AreLines (Contains lines)) (sym c.of.ensures) (record {
      in_order = rw is (AllPairs-from_increasing _ (IsStrictlyIncreasing-dedup _ c.sort_unstable.ensures.sorted));
      exactly = λ line. (
        (λ has.
            subst (λ list. Contains list line) all
            (Contains-permutation _ _ line (IsPermutation-sym _ _ moved)
            (Contains-from_dedup _ _ line (rw is at has)))),
        (λ has.
            rw is (Contains-dedup_nat _ line (Contains-permutation _ _ line moved
            (subst (λ list. Contains list line) (sym all) has)))),
      );
    })
