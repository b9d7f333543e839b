use Rattle.std.proofs.Common.{◌++◌, [], Contains, refl, ap, subst, sym, ◌∙◌}
use Rattle.std.specs.Option.{option_to_list}
use Rattle.std.proofs.lemmas.List.Elements.{Contains-append_left}
use Rattle.std.proofs.lemmas.Result.{on_ok_weaker}
use Rattle.cell_calc.specs.declared.walk.Frame.{Frame}
use Rattle.cell_calc.specs.Marks.{keyed_place, marks_of}
use Rattle.cell_calc.specs.Walk.{Passes}
use Rattle.cell_calc.proofs.Popped.{cut_off}
use Rattle.cell_calc.proofs.Going.{went_on, as_well}
use Rattle.cell_calc.proofs.walk.step.Goals as goal

pub returns-in_ok-push_front-in-Some : goal.returns-in_ok-push_front-in-Some
returns-in_ok-push_front-in-Some g c =
    let contents = g.C.CellsOf.contents c.args.cells.now in
    let key = c.in-Some.place in
    let left : Frame =
    record {
      place = c.args.frame.place;
      tree = c.args.frame.tree;
      rest = c.args.frame.rest;
      noted =
          c.pop.new.self;
    } in
    on_ok_weaker c.meet.result
    (λ passes. went_on contents c.args.frame left key refl refl refl
    (cut_off _ _ c.pop.result key c.pop.ensures.items c.in-Some.is)
    (marks_of c.args.table.now) c.args.path.now.items (marks_of c.meet.new.table) c.meet.new.path.items
    (subst (λ l. Passes contents (keyed_place key) (marks_of c.args.table.now) l (marks_of c.meet.new.table)
    c.meet.new.path.items)
    c.in_ok-push_front-in-Some.ensures.items passes))
    c.meet.ensures

pub returns-in-None : goal.returns-in-None
returns-in-None g c =
    let contents = g.C.CellsOf.contents c.args.cells.now in
    let left : Frame =
    record {
      place = c.args.frame.place;
      tree = c.args.frame.tree;
      rest = c.args.frame.rest;
      noted =
          c.pop.new.self;
    } in
    let items = c.pop.ensures.items ∙ ap (λ o. c.pop.new.self.items ++ option_to_list o) c.in-None.is in
    on_ok_weaker c.look_on.result
    (λ goes. as_well contents c.args.frame left refl refl refl
    (λ key has. subst (λ l. Contains l key) (sym items) (Contains-append_left c.pop.new.self.items [] key has))
    (marks_of c.args.table.now) c.args.path.now.items (marks_of c.look_on.new.table) c.look_on.new.path.items goes)
    c.look_on.ensures
