use Rattle.std.proofs.Common.{◌≡◌, ◌≤◌, ◌+◌, sym, ap, subst, ◌∙◌, map}
use Rattle.std.specs.Prelude.{IfOk}
use Rattle.std.specs.Arc.{arc_value}
use Rattle.std.specs.List.{All}
use Rattle.world_model.specs.Book.{PlaceBook}
use Rattle.world_model.specs.Making.{Placed}
use Rattle.world_model.specs.Sound.{IsSound}
use Rattle.dimension_ops.specs.Creating.{HavePlaces, book_id, sheets_made}
use Rattle.dimension_ops.proofs.Making.{few_lines_made, same_book}
use Rattle.dimension_ops.proofs.world.made_book.Goals as goal

pub put_in-requires-clause-places : goal.put_in-requires-clause-places
put_in-requires-clause-places c = subst HavePlaces (sym c.placed.ensures) c.requires.places

pub put_in-requires-clause-lines : goal.put_in-requires-clause-lines
put_in-requires-clause-lines c =
    subst (All (λ (one : Placed). one.1.rows + one.1.cols ≤ 2000000000)) (sym c.placed.ensures)
    (few_lines_made (book_id c.args.others) c.args.title.now c.args.owner.now c.args.making.now c.requires.can)

pub with_sheets-requires : goal.with_sheets-requires
with_sheets-requires c =
    subst IsSound
    (sym (same_book (book_id c.args.others) c.args.title.now c.args.owner.now c.args.making.now c.in_ok-id.id
    c.in_ok-called.called c.in_ok-owned.owned (map arc_value c.in_ok-sheets.sheets.items) c.in_ok-id.ensures
    c.in_ok-called.ensures c.in_ok-owned.ensures (c.in_ok-sheets.ensures ∙ ap sheets_made c.placed.ensures)))
    (c.books_made.ensures.sound (book_id c.args.others) c.args.title.now c.args.owner.now c.args.making.now
    c.requires.can)

pub returns : goal.returns
returns c =
    subst (λ (seen : PlaceBook). IfOk c.with_sheets.result (λ book. book ≡ seen))
    (same_book (book_id c.args.others) c.args.title.now c.args.owner.now c.args.making.now c.in_ok-id.id
    c.in_ok-called.called c.in_ok-owned.owned (map arc_value c.in_ok-sheets.sheets.items) c.in_ok-id.ensures
    c.in_ok-called.ensures c.in_ok-owned.ensures (c.in_ok-sheets.ensures ∙ ap sheets_made c.placed.ensures))
    c.with_sheets.ensures
