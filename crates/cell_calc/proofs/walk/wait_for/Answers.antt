use Rattle.std.proofs.Common.{◌∷◌, Contains, subst, sym, ◌∙◌, arith}
use Rattle.std.proofs.lemmas.Result.{on_ok_weaker}
use Rattle.cell_calc.specs.Marks.{marks_of}
use Rattle.cell_calc.specs.Walk.{Goes, Notes}
use Rattle.cell_calc.proofs.Popped.{no_rest, is_nought}
use Rattle.cell_calc.proofs.Going.{put_back, dropped, all_known, held_place}
use Rattle.cell_calc.proofs.walk.wait_for.Goals as goal

pub returns-then-is_empty : goal.returns-then-is_empty
returns-then-is_empty g c = λ whole cut same.
    let contents = g.C.CellsOf.contents c.args.cells.now in
    let marks = marks_of c.args.table.now in
    let below = c.args.path.now.items in
    let stored = c.in_ok-stored.stored in
    let notes = subst (λ l. Notes marks c.args.area.sheet l l c.in_ok-noted.noted.items) c.as_slice.ensures.value
    c.in_ok-noted.ensures in
    let nought = is_nought _ (sym c.is_empty.ensures ∙ c.if-is_empty.true) in
    let none = no_rest c.in_ok-noted.noted.items (omega (arith, c.in_ok-noted.noted.ok, nought)) in
    subst (Goes contents marks (whole ∷ below) marks) (sym c.in_ok-push_front.ensures.items)
    (dropped contents whole c.args.frame c.args.area cut marks below same
    (all_known contents marks c.args.area stored.items c.in_ok-stored.ensures (notes.settled none)))

pub returns : goal.returns
returns g c = λ whole cut same.
    let contents = g.C.CellsOf.contents c.args.cells.now in
    let marks = marks_of c.args.table.now in
    let below = c.args.path.now.items in
    let stored = c.in_ok-stored.stored in
    let notes = subst (λ l. Notes marks c.args.area.sheet l l c.in_ok-noted.noted.items) c.as_slice.ensures.value
    c.in_ok-noted.ensures in
    on_ok_weaker c.put_back.result
    (λ found. subst (Goes contents marks (whole ∷ below) marks) (sym found.3)
    (put_back contents whole c.args.frame c.args.area cut found.0 found.1
    (λ key has.
    let among = notes.among key (subst (λ l. Contains l key) found.2 has) in
    held_place contents c.args.area _ c.in_ok-stored.ensures.places key among.0 among.1)
    marks below))
    c.put_back.ensures
