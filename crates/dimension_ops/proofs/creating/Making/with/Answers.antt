use Rattle.std.proofs.Common.{◌≡◌, sym, ap, subst, ◌∙◌, List, [], ◌∷◌, ◌++◌}
use Rattle.std.specs.Str.{str_to_ascii_lowercase}
use Rattle.std.specs.String.{string_bytes}
use Rattle.world_model.specs.Making.{Placed}
use Rattle.world_model.specs.Sheet.{PlaceSheet}
use Rattle.dimension_ops.specs.Creating.{AreIdsBelow, AreTitlesBelow, HasIdsOf, HasTitlesOf, sheets_made, sheets_with}
use Rattle.dimension_ops.proofs.Making.{ids_below_more, ids_more, made_more, titles_below_more, titles_more}
use Rattle.dimension_ops.proofs.creating.Making.with.Goals as goal

pub invariant_of-result : goal.invariant_of-result
invariant_of-result c =
    let one : Placed = (
      c.place_of_new-at.result,
      record {
        id = c.in_ok-id.id;
        title = c.in_ok-title.title;
        hidden = c.unwrap_or.result;
        rows = c.new_rows.result;
        cols = c.new_cols.result;
      },
    ) in
    let before : List PlaceSheet = sheets_made c.args.self in
    let more : sheets_made c.push.new.self.items ≡ sheets_with before one =
    ap sheets_made (c.in_ok-push.ensures.items ∙ ap (λ (list : List Placed). list ++ one ∷ []) c.self.view_is)
    ∙ made_more c.args.self one in
    let has_ids = subst (λ (list : List Placed). HasIdsOf (sheets_made list) c.self.inside.ids) c.self.view_is
    c.self.invariant.0 in
    let has_titles = subst (λ (list : List Placed). HasTitlesOf (sheets_made list) c.self.inside.titles) c.self.view_is
    c.self.invariant.2 in
    let lowered : string_bytes c.in_ok-lowered.lowered ≡ str_to_ascii_lowercase c.in_ok-title.title =
    c.in_ok-lowered.ensures.ok ∙ ap str_to_ascii_lowercase c.as_str.ensures in (
      subst (λ (sheets : List PlaceSheet). HasIdsOf sheets c.in_ok-ids.ids) (sym more)
          (ids_more before one c.self.inside.ids c.in_ok-ids.ids has_ids c.in_ok-ids.ensures),
      subst (λ (sheets : List PlaceSheet). AreIdsBelow sheets c.in_ok-id.least) (sym more)
          (ids_below_more before one c.in_ok-id.least c.in_ok-id.ensures.below),
      subst (λ (sheets : List PlaceSheet). HasTitlesOf sheets c.in_ok-titles.titles) (sym more)
          (titles_more before one c.self.inside.titles c.in_ok-titles.titles
          (string_bytes c.in_ok-lowered.lowered) has_titles
          lowered c.in_ok-titles.ensures),
      subst (λ (sheets : List PlaceSheet). AreTitlesBelow sheets c.in_ok-title.number) (sym more)
          (titles_below_more before one c.in_ok-title.number c.in_ok-title.ensures.below),
    )
