use Rattle.std.proofs.Common.{rules, ◌<◌, ◌∷◌, Some, drop, length, sym, ap, ◌∙◌, subst}
use Rattle.std.specs.Prelude.{All}
use Rattle.atomic_table.specs.Table.{rest}
use Rattle.std.proofs.lemmas.List.Elements.{All-nil}
use Rattle.std.proofs.Math.Seq.{drop-length}
use Rattle.history_lock.specs.History.{StartsWith, NoneOf, AllOf, AreSilent}
use Rattle.history_lock.specs.Steps.{held_list}
use Rattle.history_lock.specs.Passes.{seen_by, number_of, met_by, opened_with, callers_of, count_of}
use Rattle.history_lock.proofs.Histories.{starts_whole}
use Rattle.history_lock.proofs.Turns.{readies_at, closes_full, closes_with}
use Rattle.history_lock.proofs.lock.Lock.close.Goals as goal

pub load-requires : goal.load-requires
load-requires g c =
    let put = c.exchange.ensures in
    let turn = c.take-turn.ensures.turn in
    let value = c.take-turn.result.1 in
    let seen = ap (λ m. m.0.seen) put.3 ∙ c.take-turn.ensures.taken in (
      search rules,
      search rules,
      readies_at _ _ _ _ _ _ _ c.exchange.new.seat.me value
          (ap (λ m. m.1) put.3 ∙ ap (λ slots. (0, Some value) ∷ rest slots) turn.slot_is)
          (ap (λ m. m.0.stage) put.3 ∙ turn.stage_is)
          (ap (λ m. m.0.numbered) put.3 ∙ turn.numbered)
          (subst (StartsWith (g.T.Told.list value)) (sym seen) (starts_whole (g.T.Told.list value)))
          (subst (λ l. AllOf g.T.Told.caller c.exchange.new.seat.me.0.number (drop (length l) (g.T.Told.list value)))
          (sym seen)
          (subst (AllOf g.T.Told.caller c.exchange.new.seat.me.0.number) (sym (drop-length (g.T.Told.list value)))
          (All-nil _)))
          (c.take-turn.ensures.pair ∙ sym (ap (λ m. m.0.pair) put.3 ∙ turn.view_is.pair_is)),
    )

pub unwrap-last-requires : goal.unwrap-last-requires
unwrap-last-requires g c = closes_full _ _ _ _ _ _ c.load.new.seat.me.0 _ _ c.take.result (ap
    (λ m. m.0.stage) c.load.ensures.2) c.close_with-closed.ensures.values.2 c.take.ensures.value

pub returns-clause-list : goal.returns-clause-list
returns-clause-list g c =
    let put = c.exchange.ensures in
    let readied = c.load.ensures.2 in
    let last = closes_with _ _ _ _ _ _ c.load.new.seat.me.0 _ _ c.take.result c.unwrap-last.result
    (ap (λ m. m.0.stage) readied) c.close_with-closed.ensures.values.2 c.take.ensures.value c.unwrap-last.ensures in
    let same = last.0 ∙ ap (λ m. m.0.seen) readied ∙ ap (λ m. held_list g.T.Told.list m.1) put.3 in
    subst (λ l. StartsWith l (seen_by c.args.pass)) (sym same) c.take-turn.ensures.list

pub returns-clause-own : goal.returns-clause-own
returns-clause-own g c =
    let put = c.exchange.ensures in
    let readied = c.load.ensures.2 in
    let last = closes_with _ _ _ _ _ _ c.load.new.seat.me.0 _ _ c.take.result c.unwrap-last.result
    (ap (λ m. m.0.stage) readied) c.close_with-closed.ensures.values.2 c.take.ensures.value c.unwrap-last.ensures in
    let same = last.0 ∙ ap (λ m. m.0.seen) readied ∙ ap (λ m. held_list g.T.Told.list m.1) put.3 in
    subst (λ l. NoneOf g.T.Told.caller (number_of c.args.pass) (drop (length (seen_by c.args.pass)) l))
    (sym same) c.take-turn.ensures.own

pub returns-clause-done : goal.returns-clause-done
returns-clause-done g c =
    let put = c.exchange.ensures in
    let readied = c.load.ensures.2 in
    let last = closes_with _ _ _ _ _ _ c.load.new.seat.me.0 _ _ c.take.result c.unwrap-last.result
    (ap (λ m. m.0.stage) readied) c.close_with-closed.ensures.values.2 c.take.ensures.value c.unwrap-last.ensures in
    let same = last.0 ∙ ap (λ m. m.0.seen) readied ∙ ap (λ m. held_list g.T.Told.list m.1) put.3 in
    subst (AreSilent g.T.Told.caller (met_by c.args.pass)) (sym same) c.take-turn.ensures.done

pub returns-clause-callers : goal.returns-clause-callers
returns-clause-callers g c =
    let put = c.exchange.ensures in
    let readied = c.load.ensures.2 in
    let last = closes_with _ _ _ _ _ _ c.load.new.seat.me.0 _ _ c.take.result c.unwrap-last.result
    (ap (λ m. m.0.stage) readied) c.close_with-closed.ensures.values.2 c.take.ensures.value c.unwrap-last.ensures in
    let same = last.0 ∙ ap (λ m. m.0.seen) readied ∙ ap (λ m. held_list g.T.Told.list m.1) put.3 in
    subst (λ l. All (λ entry. g.T.Told.caller entry < callers_of c.args.self)
    (drop (length (g.T.Told.list (opened_with c.args.self))) l)) (sym same) c.take-turn.ensures.callers

pub returns-clause-alone : goal.returns-clause-alone
returns-clause-alone g c =
    let put = c.exchange.ensures in
    let readied = c.load.ensures.2 in
    let last = closes_with _ _ _ _ _ _ c.load.new.seat.me.0 _ _ c.take.result c.unwrap-last.result
    (ap (λ m. m.0.stage) readied) c.close_with-closed.ensures.values.2 c.take.ensures.value c.unwrap-last.ensures in
    let same = last.0 ∙ ap (λ m. m.0.seen) readied ∙ ap (λ m. held_list g.T.Told.list m.1) put.3 in
    λ alone. subst (λ l. All (λ entry. g.T.Told.caller entry < count_of c.args.pass)
    (drop (length (g.T.Told.list (opened_with c.args.self))) l)) (sym same) (c.take-turn.ensures.alone alone)

pub returns-clause-pair : goal.returns-clause-pair
returns-clause-pair g c =
    let put = c.exchange.ensures in
    let readied = c.load.ensures.2 in
    let last = closes_with _ _ _ _ _ _ c.load.new.seat.me.0 _ _ c.take.result c.unwrap-last.result
    (ap (λ m. m.0.stage) readied) c.close_with-closed.ensures.values.2 c.take.ensures.value c.unwrap-last.ensures in
    last.1 ∙ ap (λ m. m.0.pair) readied ∙ ap (λ m. m.0.pair) put.3 ∙ c.take-turn.ensures.turn.view_is.pair_is
