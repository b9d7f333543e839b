use Rattle.std.proofs.Common.{ℕ, List, length, drop, sym, subst, ◌∙◌}
use Rattle.history_lock.specs.History.{StartsWith, AllOf}
use Rattle.history_lock.specs.Passes.{seen_by, number_of, turn_number_of}
use Rattle.desk.specs.declared.entry.Noted.{Noted}
use Rattle.desk.specs.Desks.{list_at, pair_at, callers_at}
use Rattle.desk.specs.Points.{caller_of, Happens}
use Rattle.desk.proofs.Places.{happens_begins, happens_own, others_behind}
use Rattle.desk.proofs.desk.Desk.call.Goals as goal

pub leave-requires-clause-list : goal.leave-requires-clause-list
leave-requires-clause-list g c =
    let state = c.take-turn.result.1 in let after = c.step-reply.new.self.list in
    subst (λ (l : List Noted). StartsWith after l) (sym c.take-turn.ensures.taken)
    (happens_begins g.E.Engine.plain state.pair c.number-caller.result c.args.ask.now state.list after
    c.step-reply.result
    c.step-reply.ensures.happens)

pub leave-requires-clause-own : goal.leave-requires-clause-own
leave-requires-clause-own g c =
    let state = c.take-turn.result.1 in let after = c.step-reply.new.self.list in
    subst (λ (l : List Noted). AllOf caller_of (turn_number_of c.take-turn.result.0) (drop (length l) after))
    (sym c.take-turn.ensures.taken)
    (subst (λ (n : ℕ). AllOf caller_of n (drop (length state.list) after))
    (c.number-caller.ensures ∙ sym c.take-turn.ensures.number)
    (happens_own g.E.Engine.plain state.pair c.number-caller.result c.args.ask.now state.list after
    c.step-reply.result c.step-reply.ensures.happens))

-- the call happens behind the list that was taken
pub returns-clause-call : goal.returns-clause-call
returns-clause-call g c =
    let desk = c.args.self.now in let pass = c.args.pass in let ask = c.args.ask.now in
    let state = c.take-turn.result.1 in let after = c.step-reply.new.self.list in let reply = c.step-reply.result in
    record {
      told = state.list;
      begins = c.take-turn.ensures.list;
      others =
          others_behind (callers_at desk) (number_of pass) (list_at desk) (seen_by pass) state.list c.requires.begins
          c.take-turn.ensures.own c.take-turn.ensures.callers;
      happens = subst
          (λ (l : List Noted). Happens g.E.Engine.plain (pair_at desk) (number_of pass) ask state.list l reply)
          (sym c.leave.ensures.seen)
          (subst (λ (n : ℕ). Happens g.E.Engine.plain (pair_at desk) n ask state.list after reply)
          c.number-caller.ensures
          (subst (λ (p : ℕ × ℕ). Happens g.E.Engine.plain p c.number-caller.result ask state.list after reply)
          c.take-turn.ensures.pair c.step-reply.ensures.happens));
    }
