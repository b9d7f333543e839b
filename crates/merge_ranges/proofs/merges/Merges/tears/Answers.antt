use Rattle.std.proofs.Common.{◌≡◌, ap, ◌∙◌, sym}
use Rattle.std.specs.List.{list_any}
use Rattle.merge_ranges.specs.Tests.{tears_merge}
use Rattle.merge_ranges.proofs.Changing.{tears_some, some_tear}
use Rattle.merge_ranges.proofs.merges.Merges.tears.Goals as goal

pub returns-clause-torn : goal.returns-clause-torn
returns-clause-torn c =
    let same : c.is_tearing.result
    ≡ list_any (tears_merge c.args.axis c.args.count c.args.change.now) c.args.self.now =
    c.is_tearing.ensures
    ∙ ap (list_any (tears_merge c.args.axis c.args.count c.args.change.now)) (c.as_slice.ensures ∙ c.self.view_is) in (
      (λ is. tears_some c.args.axis c.args.count c.args.change.now c.requires.fits c.tears_where_torn.ensures
          c.args.self.now c.requires.within (sym same ∙ is)),
      (λ torn. same ∙ some_tear c.args.axis c.args.count c.args.change.now c.requires.fits c.tears_where_torn.ensures
          c.args.self.now c.requires.within torn),
    )
