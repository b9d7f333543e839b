-- Lines can be inserted, and added on both axes, as writes take it.
use Rattle.std.proofs.Common.{◌≡◌, sym, subst}
use Rattle.std.specs.Prelude.{IsSomeAnd}
use Rattle.grid_range.specs.declared.change.Change.TheVariants.{Insert}
use Rattle.world_model.specs.ChangingLaws.{ChangesInTurn}
use Rattle.world_model.specs.Laws.{size_of}
use Rattle.world_model.specs.Sheet.{PlaceSheet}
use Rattle.dimension_ops.specs.Lines.{lines_of_sheet}
use Rattle.values_api.specs.Appends.{size_added}
use Rattle.answered_calls.proofs.LinesAdded.{lines_added}
use Rattle.answered_calls.proofs.LinesInserted.{LinesInsert}
use Rattle.answered_calls.proofs.LinesMade.{LinesChange, changed_book, lines_changed, lines_made}
use Rattle.answered_calls.proofs.Unbroken.{HasItsLines, keeps}
use Rattle.answered_calls.proofs.ValuesAppended.{LinesAdd}

pub lines_insert : LinesChange → LinesInsert
lines_insert laws book sound id own there axis at count low some unbroken =
    let has : HasItsLines (Insert at count) (lines_of_sheet axis own) = (low, some) in
    let kept = keeps id axis (Insert at count) book.sheets own there unbroken in (
      changed_book laws book sound id axis (Insert at count) own there has kept,
      record {
        changes = lines_made laws book sound id axis (Insert at count) own there has kept;
        places = lines_changed laws book sound id axis (Insert at count) own there has kept;
      },
    )

pub lines_add : LinesChange → ChangesInTurn → LinesAdd
lines_add laws turns book sound id added own there can =
    let made = lines_added id added.row added.rows added.col added.cols laws turns book sound own there can.row can.col
    (record { rows = can.rows; cols = can.cols; cells = can.places }) in (
      made.after,
      record {
        changes = made.made;
        size = subst (λ found. IsSomeAnd found (λ (one : PlaceSheet). size_of one ≡ size_added added own))
            (sym made.there) made.size_is;
      },
    )
