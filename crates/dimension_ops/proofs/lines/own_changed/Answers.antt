use Rattle.std.proofs.Common.{sym, subst, ◌∙◌}
use Rattle.merge_ranges.specs.Calls.{ListsJust}
use Rattle.merge_ranges.specs.Following.{CameFrom}
use Rattle.dimension_ops.specs.References.{AreReferring}
use Rattle.dimension_ops.proofs.Formulas.{moved_within}
use Rattle.dimension_ops.proofs.Unmoved.{nothing_follows}
use Rattle.dimension_ops.proofs.lines.own_changed.Goals as goal

pub follow-requires-clause-within : goal.follow-requires-clause-within
follow-requires-clause-within c =
    moved_within c.args.by.now.sheet c.args.by.now.axis c.args.by.now.count c.args.by.now.change.now c.args.sheet.table
    c.in_ok-moved.moved.table c.in_ok-moved.ensures.goes c.requires.ready.within

pub follow-requires-clause-places : goal.follow-requires-clause-places
follow-requires-clause-places c =
    subst (AreReferring c.args.by.now.sheet c.in_ok-moved.moved.table) (sym c.deref.ensures.value)
    c.in_ok-places.ensures

pub returns-then-keeps_places : goal.returns-then-keeps_places
returns-then-keeps_places c = record {
  id = c.in_ok-moved.ensures.id;
  title = c.in_ok-moved.ensures.title;
  hidden = c.in_ok-moved.ensures.hidden;
  moved = c.in_ok-moved.moved.table;
  goes = λ _. c.in_ok-moved.ensures.goes;
  stays = λ other. absurd (other c.requires.own);
  whole = λ _. c.in_ok-moved.ensures.whole;
  merges_follow = λ _. c.in_ok-moved.ensures.merges;
  merges_stay = λ other. absurd (other c.requires.own);
  filter_follows = λ _. c.in_ok-moved.ensures.filter;
  filter_stays = λ other. absurd (other c.requires.own);
  followed = nothing_follows c.args.by.now.sheet c.args.by.now.axis c.args.by.now.count c.args.by.now.change.now
      (sym c.keeps_places.ensures ∙ c.if-keeps_places.true) c.in_ok-moved.moved.table
      (moved_within c.args.by.now.sheet c.args.by.now.axis c.args.by.now.count c.args.by.now.change.now
      c.args.sheet.table c.in_ok-moved.moved.table c.in_ok-moved.ensures.goes c.requires.ready.within);
}

pub returns : goal.returns
returns c = record {
  id = c.in_ok-follow.ensures.id ∙ c.in_ok-moved.ensures.id;
  title = c.in_ok-follow.ensures.title ∙ c.in_ok-moved.ensures.title;
  hidden = c.in_ok-follow.ensures.hidden ∙ c.in_ok-moved.ensures.hidden;
  moved = c.in_ok-moved.moved.table;
  goes = λ _. c.in_ok-moved.ensures.goes;
  stays = λ other. absurd (other c.requires.own);
  whole = λ _. c.in_ok-moved.ensures.whole;
  merges_follow = λ _. subst (ListsJust (CameFrom c.args.by.now.axis c.args.by.now.count c.args.by.now.change.now
      c.args.sheet.merges)) (sym c.in_ok-follow.ensures.merges) c.in_ok-moved.ensures.merges;
  merges_stay = λ other. absurd (other c.requires.own);
  filter_follows = λ _. c.in_ok-follow.ensures.filter ∙ c.in_ok-moved.ensures.filter;
  filter_stays = λ other. absurd (other c.requires.own);
  followed = c.in_ok-follow.ensures.followed;
}
