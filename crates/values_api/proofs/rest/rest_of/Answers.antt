use Rattle.std.proofs.Common.{◌≡◌, ◌++◌, ◌∷◌, [], ◌<◌, length, get_or, ap, ◌∙◌, arith, Vec, Global}
use Rattle.std.proofs.lemmas.List.{get_or_read}
use Rattle.grid_range.specs.declared.area.Area.{Area}
use Rattle.values_api.proofs.Resting.{all_behind, are_rest, line_added, line_full}
use Rattle.values_api.proofs.rest.rest_of.Goals.{then-length-places+in_ok-push, else-length-places}
use Rattle.values_api.proofs.rest.rest_of.Goals as goal

pub loop-line-preserved : goal.loop-line-preserved
loop-line-preserved c =
    let so_far = c.loop-line.invariant in
    let line = c.loop-line.line in
    let block = c.args.block.now in
    let sheet = c.args.area.now.sheet in
    let there : line < length c.as_slice-values.result.now =
    omega (arith, c.loop-line-test.true, c.min-count.ensures) in
    let long : length c.as_slice-length.result.now ≡ length (get_or block.values line []) =
    ap length (c.as_slice-length.ensures
    ∙ get_or_read c.as_slice-values.result.now line c.index-values-line.result there c.index-values-line.is []
    ∙ ap (λ list. get_or list line []) c.as_slice-values.ensures) in
    record {
      lines = so_far.lines;
      places = so_far.places;
      behind = elim c.if-length-places.branch [
        | then-length-places+in_ok-push w ↦
            line_added block.columns_first sheet block.values _ _ line c.loop-line.rest.items
            so_far.behind (length c.as_slice-length.result.now) c.if-length-places.rest.items long
            (ap (λ (vec : Vec Area Global). vec.items) w.rest-is ∙ w.in_ok-push.ensures.items
            ∙ ap (λ one. c.loop-line.rest.items ++ one ∷ []) w.rest_area.ensures)
        | else-length-places w ↦ line_full block.columns_first sheet block.values _ _ line c.loop-line.rest.items
            so_far.behind c.if-length-places.rest.items (ap (λ (vec : Vec Area Global). vec.items) w.rest-is)
            (omega (arith, w.if-length-places.false, long))
      ];
    }

pub returns : goal.returns
returns c =
    let so_far = c.loop-line.invariant in
    let block = c.args.block.now in
    let long = ap length c.as_slice-values.ensures in
    are_rest c.args.sheet.now c.args.area.now block _ _ c.push-2.new.self.items so_far.lines so_far.places
    (all_behind block.columns_first c.args.area.now.sheet block.values _ _ c.loop-line.line c.loop-line.rest.items
    so_far.behind c.min-count.result c.push-2.new.self.items
    (omega (arith, c.loop-line-test.false, c.loop-line.auto.line-end))
    (omega (arith, c.loop-line-test.false, c.loop-line.auto.line-end, c.min-count.ensures, long))
    (c.in_ok-push-2.ensures.items ∙ ap (λ one. c.loop-line.rest.items ++ one ∷ []) c.rest_area-2.ensures))
