-- Replies of calls at a point.
use Rattle.std.proofs.Common.{◌≡◌, inl, inr, ℕ, ◌<◌, Bool, true, false, List, [], ◌∷◌, ◌++◌, length, refl, sym, ap, subst, ◌∙◌, arith, rules}
use Rattle.std.specs.Prelude.{Option, Some, None, MatchOption, ◌==◌, ◌&&◌, if◌then◌else◌, IsTrue}
use Rattle.std.specs.List.{list_any}
use Rattle.cell_value.specs.FaultCount.{Rose}
use Rattle.desk.specs.declared.engine.Answered.{Answered}
use Rattle.desk.specs.declared.entry.Entry.{Entry}
use Rattle.desk.specs.declared.entry.Ask.{Ask}
use Rattle.desk.specs.declared.entry.Reply.{Reply}
use Rattle.desk.specs.declared.entry.Noted.{Noted}
use Rattle.desk.specs.declared.entry.Noted.TheVariants as noted
use Rattle.desk.specs.Steps.{Outcome, Answers, IsServed, served, entry_of, is_full, within_limit, StepsTo, StepsOnce, history_full, unavailable_body}
use Rattle.desk.specs.Points.{as_one_thread, as_unavailable, entries_of, last_counted, AreCountsOf, IsAnswered, Happens}
use Rattle.desk.specs.Entries.{entries_mark}

module _ (limit : ℕ) (es : List Entry) (ask : Ask) (o : Outcome) where
  pub within_refused : o.accepts ≡ false → o ≡ within_limit limit es ask o
  within_refused refused = sym (ap (λ (b : Bool). if b && is_full limit es (entry_of 0 ask) then history_full else o)
      refused)

  pub within_full : o.accepts ≡ true → is_full limit es (entry_of 0 ask) ≡ true
      → history_full ≡ within_limit limit es ask o
  within_full accepted full = sym (
      ap (λ (b : Bool). if b && is_full limit es (entry_of 0 ask) then history_full else o) accepted
      ∙ ap (λ (b : Bool). if true && b then history_full else o) full)

  pub within_room : is_full limit es (entry_of 0 ask) ≡ false → o ≡ within_limit limit es ask o
  within_room room = sym (ap (λ (b : Bool). if o.accepts && b then history_full else o) room ∙ never o.accepts)
    where
      never : (b : Bool) → (if b && false then history_full else o) ≡ o
      never true = refl
      never false = refl

-- ---- one outcome, and its status

pub one_step : (plain : List Entry → Ask → Outcome → Type 0)
    → ((entries : List Entry) (ask : Ask) (outcome other : Outcome) → plain entries ask outcome
    → plain entries ask other → outcome ≡ other) → StepsOnce plain
one_step plain once limit es ask outcome other (o, plainly, is) (p, also, too) =
    is ∙ ap (within_limit limit es ask) (once es ask o p plainly also) ∙ sym too

pub served_not : (ask : Ask) (o : Outcome) → IsServed ask o → o.status ≡ 503 → ⊥
served_not ask o is unavailable =
    let told : IsTrue (list_any (λ status. status == 503) served) = subst (λ (s : ℕ). IsTrue (list_any (λ status. status
    == s) served)) unavailable is.status_is in search (rules, told)

-- no one thread's answer is 503
pub steps_not_503 : (plain : List Entry → Ask → Outcome → Type 0)
    → ((entries : List Entry) (ask : Ask) (outcome : Outcome) → plain entries ask outcome → IsServed ask outcome)
    → (limit : ℕ) (es : List Entry) (ask : Ask) (o : Outcome) → StepsTo plain limit es ask o → o.status ≡ 503 → ⊥
steps_not_503 plain is_served limit es ask o (plainly, made, is) unavailable =
    cases (plainly.accepts && is_full limit es (entry_of 0 ask)) (sym (ap (λ (p : Outcome). p.status) is) ∙ unavailable)
  where
    cases : (b : Bool) → (if b then history_full else plainly).status ≡ 503 → ⊥
    cases true full = omega (arith, full)
    cases false same = served_not ask plainly (is_served es ask plainly made) same

module _ (plain : List Entry → Ask → Outcome → Type 0) (pair : ℕ × ℕ) (caller : ℕ) (ask : Ask) (told after : List Noted)
    (reply : Reply) where
  pub stepped : (o : Outcome) → StepsTo plain pair.0 (entries_of told) ask o
      → reply.at ≡ length (entries_of told) → reply.status ≡ o.status → reply.body ≡ Some o.body
      → after ≡ (if o.accepts then told ++ noted.Entry (entry_of caller ask) ∷ [] else told)
      → reply.faults ≡ (last_counted pair.1 told, last_counted pair.1 told)
      → IsAnswered plain pair caller ask told after reply
  stepped o steps at status body item counts = record {
    at_is = at;
    one_of = inl (record {
      outcome = o;
      steps = steps;
      status_is = status;
      body_is = body;
      item = item;
      counts_are = counts;
    });
  }

  pub marked : (o : Outcome) (e : Entry) (before end : ℕ) → e ≡ entry_of caller ask
      → StepsTo plain pair.0 (entries_of told) ask o → o.accepts ≡ true
      → reply.at ≡ length (entries_of told) → reply.status ≡ 503 → reply.body ≡ Some unavailable_body
      → reply.faults ≡ (before, end) → after ≡ told ++ noted.Mark e before end ∷ []
      → before ≡ last_counted pair.1 told → Rose before end
      → IsAnswered plain pair caller ask told after reply
  marked o e before end entry steps accepts at status body faults item since rose = record {
    at_is = at;
    one_of = inr (record {
      outcome = o;
      steps = steps;
      accepts = accepts;
      status_is = status;
      body_is = body;
      item = item ∙ ap (λ (x : Entry). told ++ noted.Mark x before end ∷ []) entry
          ∙ ap (λ (p : ℕ × ℕ). told ++ noted.Mark (entry_of caller ask) p.0 p.1 ∷ []) (sym faults);
      since = ap (λ (p : ℕ × ℕ). p.0) faults ∙ since;
      rose = subst (λ (p : ℕ × ℕ). Rose p.0 p.1) (sym faults) rose;
    });
  }

  pub answered_happens : IsAnswered plain pair caller ask told after reply → Happens plain pair caller ask told
      after reply
  answered_happens answered = record {
    at_is = answered.at_is;
    comes_to = elim answered.one_of [
      | inl is ↦ as_one_thread is
      | inr is ↦ as_unavailable is
    ];
  }

  -- only a keeper that failed makes a call unavailable
  pub answered_cause : {K : Type 0} (failures : K → ℕ) (steady : K → Bool) (before end : K)
      → ((entries : List Entry) (ask : Ask) (outcome : Outcome) → plain entries ask outcome → IsServed ask outcome)
      → AreCountsOf failures steady reply.faults before end → IsAnswered plain pair caller ask told after reply
      → reply.status ≡ 503 → Rose (failures before) (failures end)
  answered_cause {K} failures steady before end is_served counts answered unavailable = elim answered.one_of [
    | inl is ↦ absurd (steps_not_503 plain is_served pair.0 (entries_of told) ask is.outcome is.steps
        (sym is.status_is ∙ unavailable))
    | inr is ↦ subst (λ (n : ℕ). Rose n (failures end)) counts.before_is
        (subst (λ (n : ℕ). Rose reply.faults.0 n) counts.after_is is.rose)
  ]

-- a list that stayed has no more entries
pub no_growth : {A : Type 0} (list list' : List Noted) → list' ≡ list
    → length (entries_of list) < length (entries_of list') → A
no_growth list list' same more =
    let k = ap (λ (l : List Noted). length (entries_of l)) same in absurd (omega (arith, more, k))

pub no_growth_mark : {A : Type 0} (list list' : List Noted) (e : Entry) (b a : ℕ) → list' ≡ list ++ noted.Mark
    e b a ∷ []
    → length (entries_of list) < length (entries_of list') → A
no_growth_mark list list' e b a marked more =
    let k = ap (λ (l : List Noted). length (entries_of l)) marked
    ∙ ap (λ (l : List Entry). length l) (entries_mark list e b a) in absurd (omega (arith, more, k))

-- ---- what an engine answers

abbrev outcome : ℕ → List ℕ → Bool → Outcome
outcome s b a = record { status = s; body = b; accepts = a }

module _ {W : Type 0} (plain : List Entry → Ask → Outcome → Type 0) (stands : W → List Entry → Type 0) (es : List Entry)
    (ask : Ask)
    (answered : Answered W) (answers : Answers plain stands es ask answered) where
  pub answers_none : answered.next ≡ None → answers.outcome.accepts ≡ false
  answers_none none =
      subst (λ (o : Option W). MatchOption o (answers.outcome.accepts ≡ false)
      (λ world. (answers.outcome.accepts ≡ true) × ((caller : ℕ) → stands world (es ++ entry_of caller ask ∷ []))))
      none answers.next_is

  pub answers_some : (world : W) → answered.next ≡ Some world
      → (answers.outcome.accepts ≡ true) × ((caller : ℕ) → stands world (es ++ entry_of caller ask ∷ []))
  answers_some world some =
      subst (λ (o : Option W). MatchOption o (answers.outcome.accepts ≡ false)
      (λ world. (answers.outcome.accepts ≡ true) × ((caller : ℕ) → stands world (es ++ entry_of caller ask ∷ []))))
      some answers.next_is

  pub answers_plain : (world : W) → answered.next ≡ Some world
      → plain es ask (outcome answered.status answered.body true)
  answers_plain world some = subst (plain es ask) (outcome_is answers.outcome answered.status answered.body
      answers.status_is answers.body_is (answers_some world some).0) answers.plainly
    where
      outcome_is : (o : Outcome) (s : ℕ) (b : List ℕ) → s ≡ o.status → b ≡ o.body → o.accepts ≡ true
          → o ≡ outcome s b true
      outcome_is o s b status body accepts =
          ap (λ x. outcome o.status o.body x) accepts ∙ ap (λ x. outcome x o.body true) (sym status)
          ∙ ap (λ x. outcome s x true) (sym body)
