-- What the writing of rows keeps of a spreadsheet's named ranges: they stay as they are, or follow lines.
use Rattle.std.specs.Prelude.{◌≡◌, ℕ}
use Rattle.grid_range.specs.declared.axis.Axis.{Axis}
use Rattle.grid_range.specs.declared.change.Change.{Change}
use Rattle.world_model.specs.Book.{PlaceBook}
use Rattle.world_model.specs.PlaceChange.{BookChanged}

-- something is kept where the ranges stay, where lines are changed, and by one change behind another
pub record IsKeptByRows (Keeps : PlaceBook → PlaceBook → Type 0) : Type 0 where
  pub same : (before after : PlaceBook) → after.ranges ≡ before.ranges → Keeps before after
  pub lines : (id : ℕ) (axis : Axis) (count : ℕ) (change : Change) (before after : PlaceBook)
      → BookChanged id axis count change before after → Keeps before after
  pub both : (before between after : PlaceBook) → Keeps before between → Keeps between after → Keeps before after

-- nothing in particular is
pub none_kept : IsKeptByRows (λ before after. Unit {0})
none_kept = record {
  same = λ before after ranges. tt;
  lines = λ id axis count change before after changed. tt;
  both = λ before between after first later. tt;
}
