use Rattle.std.proofs.Common.{◌≡◌, refl, cond, Bool, true, false, not}
use Rattle.std.specs.Prelude.{None, Some, ◌&&◌}
use Rattle.std.specs.Option.{option_map}
use Rattle.dev_metadata.specs.Following.{is_changed}
use Rattle.grid_range.specs.Order.{is_among}
use Rattle.grid_range.specs.declared.axis.Axis.TheVariants.{Columns}
use Rattle.world_model.proofs.filters.criteria_follow_columns.Goals as goal

kept_or_lost : {A B : Type 0} (b : Bool) (one : A) (other : B)
    → cond b None (Some one) ≡ option_map (λ still. one) (cond b None (Some other))
kept_or_lost true one other = refl
kept_or_lost false one other = refl

pub returns : goal.returns
returns c = record {
  follows = λ to sheet criterion. kept_or_lost
      (is_changed to.sheet to.axis sheet Columns && not (is_among to.order criterion.column)) criterion _;
}
