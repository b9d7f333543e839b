use Rattle.std.proofs.Common.{rules, ◌∷◌, Some, drop, length, sym, ap, ◌∙◌, subst}
use Rattle.atomic_table.specs.Table.{rest}
use Rattle.history_lock.specs.History.{StartsWith, AllOf, AreSilent}
use Rattle.history_lock.specs.Steps.{the_view, held_list}
use Rattle.history_lock.specs.Passes.{opened_with, taken_by}
use Rattle.history_lock.proofs.Histories.{starts_through}
use Rattle.history_lock.proofs.Turns.{leaves_at}
use Rattle.history_lock.proofs.lock.Lock.leave.Goals as goal

pub store-requires : goal.store-requires
store-requires g c =
    let put = c.exchange.ensures in
    let turn = c.requires.turn in
    let value = c.args.value in
    let seen = ap (λ m. m.0.seen) put.3 in
    let number = ap (λ m. m.0.number) put.3 ∙ turn.number_is in (
      search rules,
      search rules,
      leaves_at _ _ _ _ _ _ _ c.exchange.new.seat.me value
          (ap (λ m. m.1) put.3 ∙ ap (λ slots. (0, Some value) ∷ rest slots) turn.slot_is)
          (ap (λ m. m.0.stage) put.3 ∙ turn.stage_is)
          (ap (λ m. m.0.numbered) put.3 ∙ turn.numbered)
          (subst (StartsWith (g.T.Told.list value)) (sym seen) c.requires.list)
          (subst (λ l. AllOf g.T.Told.caller c.exchange.new.seat.me.0.number (drop (length l) (g.T.Told.list value)))
          (sym seen)
          (subst (λ n. AllOf g.T.Told.caller n (drop (length c.args.turn.seat.me.0.seen) (g.T.Told.list value)))
          (sym number) c.requires.own))
          (c.requires.pair ∙ sym (ap (λ m. m.0.pair) put.3 ∙ turn.view_is.pair_is)),
    )

pub returns-clause-pass : goal.returns-clause-pass
returns-clause-pass g c =
    let left = c.store.ensures.2 in
    let turn = c.requires.turn in
    let view = ap the_view c.into_badge.ensures.2 ∙ ap (λ m. m.0) left.0 in
    let seen = ap (λ v. v.seen) view ∙ ap (λ m. held_list g.T.Told.list m.1) c.exchange.ensures.3 in
    record {
      table_is = search rules;
      view_is = search rules;
      begins = subst (λ l. StartsWith l (g.T.Told.list (opened_with c.args.self.now))) (sym seen)
          (starts_through (g.T.Told.list c.args.value) (taken_by c.args.turn)
          (g.T.Told.list (opened_with c.args.self.now)) c.requires.list turn.begins);
      done = subst (λ v. AreSilent g.T.Told.caller v.met v.seen) (sym view) left.1;
    }
