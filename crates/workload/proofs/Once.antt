-- So many calls make one history, of which one thing is told.
use Rattle.std.specs.Prelude.{◌≡◌, ℕ, zero, suc, ◌+◌, ◌≤◌, Bool, true, false, List, [], ◌∷◌, ◌++◌, length}
use Rattle.std.specs.Prelude.{if◌then◌else◌}
use Rattle.std.proofs.Common.{sym, ◌∙◌, ap, subst, arith, length-append}
use Rattle.desk.specs.declared.entry.Entry.{Entry}
use Rattle.desk.specs.declared.entry.Ask.{Ask}
use Rattle.desk.specs.Steps.{Outcome, StepsOnce, HasOneCount}
use Rattle.desk.specs.Journal.{journal_text}
use Rattle.workload.specs.declared.calls.WorkSummary.{WorkSummary}
use Rattle.workload.specs.Work.{ask_number, entry_number, IsMade, IsWork, Tells}

-- a history that may be one entry longer
length_entered : (history : List Entry) (e : Entry) (accepts : Bool)
    → length (if accepts then history ++ e ∷ [] else history) ≤ length history + 1
length_entered history e true = omega (arith, length-append history (e ∷ []))
length_entered history e false = omega arith

-- what is told of the same numbers is the same
same_told : (told other : WorkSummary) → told.calls ≡ other.calls → told.accepted ≡ other.accepted
    → told.refused ≡ other.refused → told.cells ≡ other.cells → told.history ≡ other.history → told ≡ other
same_told told other calls accepted refused cells history =
    let one : WorkSummary = record {
      calls = told.calls;
      accepted = told.accepted;
      refused = told.refused;
      cells = told.cells;
      history = told.history;
    } in
    let two : WorkSummary = record {
      calls = other.calls;
      accepted = other.accepted;
      refused = other.refused;
      cells = other.cells;
      history = other.history;
    } in
    let same : one ≡ two = cc in same

module _ (plain : List Entry → Ask → Outcome → Type 0) (limit : ℕ) where
  -- a history has no more entries than calls were made
  pub length_work : (calls : ℕ) (history : List Entry) → IsWork plain limit calls history → length history ≤ calls
  length_work zero history work = omega (arith, ap length work)
  length_work (suc i) history work =
      omega (
        arith,
        length_work i work.0 work.1,
        ap length work.2.history_is,
        length_entered work.0 (entry_number i) work.2.outcome.accepts,
      )

  module _ (once : StepsOnce plain) where
    -- behind one history a call leaves one
    made_once : (i : ℕ) (before after other : List Entry) → IsMade plain limit i before after
        → IsMade plain limit i before other → after ≡ other
    made_once i before after other made made' =
        made.history_is ∙ ap (λ (o : Outcome). if o.accepts then before ++ entry_number i ∷ [] else before)
        (once limit before (ask_number i) made.outcome made'.outcome made.steps made'.steps)
        ∙ sym made'.history_is

    pub one_work : (calls : ℕ) (history other : List Entry) → IsWork plain limit calls history
        → IsWork plain limit calls other → history ≡ other
    one_work zero history other work work' = work ∙ sym work'
    one_work (suc i) history other work work' =
        made_once i work.0 history other work.2
        (subst (λ (before : List Entry). IsMade plain limit i before other)
        (one_work i work'.0 work.0 work'.1 work.1)
        work'.2)

    pub tells_once : (cells : List Entry → ℕ → Type 0) → HasOneCount cells → (calls : ℕ) (told other : WorkSummary)
        → Tells plain limit cells calls told → Tells plain limit cells calls other → told ≡ other
    tells_once cells counts calls told other tells tells' =
        let same : tells.history ≡ tells'.history =
        one_work calls tells.history tells'.history tells.work tells'.work in
        let cells_are : told.cells ≡ other.cells =
        counts tells.history told.cells other.cells tells.cells_are
        (subst (λ (history : List Entry). cells history other.cells) (sym same) tells'.cells_are) in
        let accepted_are : told.accepted ≡ other.accepted =
        tells.accepted_are ∙ ap length same ∙ sym tells'.accepted_are in
        let bytes_are : told.history ≡ other.history =
        tells.bytes_are ∙ ap (λ (history : List Entry). length (journal_text history)) same
        ∙ sym tells'.bytes_are in
        let calls_are : told.calls ≡ other.calls = tells.calls_are ∙ sym tells'.calls_are in
        let refused_are : told.refused ≡ other.refused = omega (arith, tells.refused_are, tells'.refused_are) in
        same_told told other calls_are accepted_are refused_are cells_are bytes_are
