use Rattle.std.proofs.Common.{◌≡◌, sym, ap, subst, ◌∙◌}
use Rattle.std.specs.List.{list_any}
use Rattle.merge_ranges.specs.Merges.{AreMerges}
use Rattle.merge_ranges.specs.Tests.{cuts}
use Rattle.merge_ranges.proofs.Merging.{cut_some, from_cut_some}
use Rattle.merge_ranges.proofs.merges.Merges.are_cut_by.Goals as goal

pub returns : goal.returns
returns c =
    let are : AreMerges c.args.self.now = subst AreMerges c.self.view_is c.self.invariant in
    let same : c.is_cutting.result ≡ list_any (cuts c.args.area.now) c.args.self.now =
    c.is_cutting.ensures ∙ ap (list_any (cuts c.args.area.now)) (c.as_slice.ensures ∙ c.self.view_is) in (
      (λ is. cut_some c.args.area.now c.args.self.now are.each (sym same ∙ is)),
      (λ cut. same ∙ from_cut_some c.args.area.now c.args.self.now are.each cut),
    )
