use Rattle.values_api.specs.Denials.{AreaCells}
use Rattle.values_api.specs.Updates.{cleared}
use Rattle.request_kinds.specs.Telling.{cells_updated}
use Rattle.kept_cells.proofs.ProtectedParts.{appended_parts, no_parts, one_part, parts_joined, request_parts, write_parts}
use Rattle.kept_cells.proofs.laws.protected_cells_keep.Goals as goal

pub returns : goal.returns
returns c =
    let keep = c.untouched_cells_keep.ensures in
    let stays = c.left_cells_stay.ensures in
    let denials = c.denials_by_name.ensures in
    record {
      request = λ user. request_parts keep stays denials user;
      write = write_parts keep denials;
      clear = λ user book area none.
          one_part denials user book (AreaCells book.sheets area) (cells_updated area.sheet (cleared area)) none
          (keep.clear book area);
      append = λ user. appended_parts denials user stays;
      nothing = no_parts;
      both = parts_joined;
    }
