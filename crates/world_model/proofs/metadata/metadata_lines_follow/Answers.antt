use Rattle.world_model.proofs.LineAlone.{alone, line_follows}
use Rattle.world_model.proofs.metadata.metadata_lines_follow.Goals as goal

pub returns : goal.returns
returns c = record {
  follows = line_follows c.bands_stay.ensures c.lost_where_gone.ensures;
  alone = alone c.bands_stay.ensures c.lost_where_gone.ensures;
}
