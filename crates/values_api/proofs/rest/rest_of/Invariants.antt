use Rattle.std.proofs.Common.{◌≡◌}
use Rattle.values_api.proofs.Resting.{AreBehind, line_ends, place_ends}
use Rattle.values_api.proofs.rest.rest_of.Given as goal

-- so far the places behind the values of the lines before this one
abbrev pub invariant-loop-line : goal.invariant-loop-line
invariant-loop-line l = record {
  lines : l.lines ≡ line_ends l.block.columns_first l.area l.sheet.table.rows l.sheet.table.cols;
  places : l.places ≡ place_ends l.block.columns_first l.area l.sheet.table.rows l.sheet.table.cols;
  behind : AreBehind l.block.columns_first l.area.sheet l.block.values l.lines l.places l.line l.rest.items;
}
