use Rattle.world_model.specs.Making.{additions, bare_book, bare_names, made_by_name, with_all_placed}
use Rattle.world_model.proofs.Made.{added_behind, made_sound, made_stands, next_of_made}
use Rattle.world_model.proofs.sheets.books_made.Goals as goal

pub returns : goal.returns
returns c = record {
  sound = made_sound c.tables_by_items.ensures.empty;
  names = made_stands c.tables_by_items.ensures.empty;
  added = λ books world id title owner placed stands can.
      added_behind books world (with_all_placed (bare_book id title owner) placed)
      (made_by_name (bare_names id title owner) (additions placed) world.next) stands
      (made_stands c.tables_by_items.ensures.empty id title owner placed world.next can)
      (next_of_made id title owner placed world.next);
}
