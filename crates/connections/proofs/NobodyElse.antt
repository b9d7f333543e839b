-- At a desk of one caller nobody else adds anything: a conversation there is one behind a history of its own.
use Rattle.std.proofs.Common.{◌≡◌, inl, inr, ℕ, ◌<◌, Bool, true, false, List, [], ◌∷◌, ◌++◌, length, drop, refl, sym, ap, subst, ◌∙◌, arith}
use Rattle.std.specs.Prelude.{Option, IfSome, ◌≢◌, if◌then◌else◌}
use Rattle.std.specs.Option.{option_map_or}
use Rattle.std.proofs.Math.Seq.{drop-append_seam}
use Rattle.std.proofs.lemmas.List.{append-nil}
use Rattle.std.proofs.lemmas.List.Elements.{All-head}
use Rattle.cell_value.specs.FaultCount.{Rose}
use Rattle.history_lock.specs.History.{StartsWith}
use Rattle.sheets_http.specs.Responses.{text_of_response}
use Rattle.sheets_http.specs.declared.request.Wire.{Wire}
use Rattle.desk.specs.declared.desk.Desk.{Desk}
use Rattle.desk.specs.declared.entry.Ask.{Ask}
use Rattle.desk.specs.declared.entry.Entry.{Entry}
use Rattle.desk.specs.declared.entry.Noted.{Noted}
use Rattle.desk.specs.declared.entry.Noted.TheVariants as noted
use Rattle.desk.specs.declared.state.TheConstants.{LONGEST_JOURNAL}
use Rattle.desk.specs.Steps.{Outcome, StepsTo, StepsOnce, entry_of}
use Rattle.desk.specs.Points.{as_one_thread, as_out_of_memory, as_unavailable, AreOthers, AreCountsOf, caller_of, entries_of}
use Rattle.desk.specs.Entries.{entries_entry}
use Rattle.desk.specs.Desks.{pair_at, callers_at}
use Rattle.conversation.specs.declared.ended.Ended.{Ended}
use Rattle.conversation.specs.Conversation.{Moment, at_moment, IsConversation}
use Rattle.conversation.specs.Responses.{no_memory_text}
use Rattle.conversation.specs.Seen.{moment_seen, conversation_of}
use Rattle.connections.specs.Calls.{UserTable, IsAnswer, ask_of}
use Rattle.connections.specs.Alone.{IsReply, IsResponse, replied, refused_for_memory, HasOneReply}
use Rattle.connections.proofs.Responding.{told_text}

-- ---- nobody else

-- of one caller, whose number is 0, nobody is another
no_others : (items : List Noted) → AreOthers 1 0 items → items ≡ []
no_others [] others = refl
no_others (item ∷ items) others =
    let own = All-head (λ i. caller_of i ≢ 0) item items others.not_own in
    let below = All-head (λ i. caller_of i < 1) item items others.numbered in
    absurd (own (omega (arith, below)))

-- so nothing was added to what the caller had seen
nothing_added : (before told : List Noted) → StartsWith told before → AreOthers 1 0 (drop (length before) told)
    → told ≡ before
nothing_added before told (rest, parts) others =
    let nothing : rest ≡ [] =
    sym (ap (λ (l : List Noted). drop (length before) l) parts ∙ drop-append_seam before rest)
    ∙ no_others (drop (length before) told) others in
    parts ∙ ap (λ (l : List Noted). before ++ l) nothing ∙ append-nil before

-- a count that stays at 0 hasn't risen
stays_low : (before after : ℕ) → before ≡ 0 → after ≡ 0 → Rose before after → ⊥
stays_low before after low low' (inl more) = omega (arith, low, low', more)
stays_low before after low low' (inr last) = omega (arith, low', last)

-- ---- a call's answer as a reply

added : (told : List Noted) (b : Bool) (e : Entry)
    → entries_of (if b then told ++ noted.Entry e ∷ [] else told)
    ≡ (if b then entries_of told ++ e ∷ [] else entries_of told)
added told true e = entries_entry told e
added told false e = refl

module _ {E K W A : Type 0} (plain : List Entry → Ask → Outcome → Type 0) (failures : K → ℕ) (steady : K → Bool)
    (desk : Desk E K W A) (users : UserTable) (one_caller : callers_at desk ≡ 1)
    (opened : pair_at desk ≡ (LONGEST_JOURNAL, 0)) (never : (keeper : K) → failures keeper ≡ 0) where
  answer_alone : (before : List Noted) (wire : Wire) (after : List Noted) (response : List ℕ)
      → IsAnswer plain failures steady desk users 0 before wire after response
      → IsResponse (IsReply plain users) (entries_of before) wire (entries_of after) response
  answer_alone before wire after response answer =
      let call = answer.call in
      let ask = ask_of users wire in
      let same : call.told ≡ before =
      nothing_added before call.told call.begins
      (subst (λ (n : ℕ). AreOthers n 0 (drop (length before) call.told)) one_caller call.others) in
      elim call.happens.comes_to [
        | as_one_thread is ↦ replied (record {
          outcome = is.outcome;
          steps = subst (λ (l : List Noted). StepsTo plain LONGEST_JOURNAL (entries_of l) ask is.outcome) same
              (subst (λ (p : ℕ × ℕ). StepsTo plain p.0 (entries_of call.told) ask is.outcome) opened is.steps);
          history_is = ap entries_of is.item ∙ added call.told is.outcome.accepts (entry_of 0 ask)
              ∙ ap (λ (l : List Noted). if is.outcome.accepts then entries_of l ++ entry_of 0 ask ∷ []
              else entries_of l) same;
          response_is = answer.response_is
              ∙ sym (told_text wire.close answer.reply is.outcome.body is.outcome.body _ is.body_is refl refl)
              ∙ ap (λ (s : ℕ). text_of_response s wire.close is.outcome.body) is.status_is;
        })
        | as_unavailable is ↦
            let (earlier, later, are) = subst (λ (o : Option (List ℕ)). IfSome o (λ _. (earlier : K) × (later : K)
            × AreCountsOf failures steady answer.reply.faults earlier later)) is.body_is answer.counts in
            absurd (stays_low answer.reply.faults.0 answer.reply.faults.1 (are.before_is ∙ never earlier)
            (are.after_is ∙ never later) is.rose)
        | as_out_of_memory is ↦ refused_for_memory (ap entries_of (is.item ∙ same))
            (answer.response_is ∙ ap (λ (o : Option (List ℕ)). option_map_or
            (λ b. text_of_response answer.reply.status wire.close b) o (no_memory_text wire.close)) is.body_is)
      ]

  -- a conversation that begins with an empty list is one that begins with an empty history
  pub served_alone : (caller : ℕ) (seen : List Noted) (room : ℕ) (stream written : Option (List ℕ)) (shortages : ℕ)
      (after : Moment (List Noted)) (end : Ended) → caller ≡ 0 → seen ≡ []
      → IsConversation (IsAnswer plain failures steady desk users caller) room stream (at_moment seen written shortages)
      after end
      → IsConversation (IsResponse (IsReply plain users)) room stream (at_moment [] written shortages)
      (moment_seen entries_of after) end
  served_alone caller seen room stream written shortages after end first empty served =
      conversation_of entries_of (IsAnswer plain failures steady desk users 0) (IsResponse (IsReply plain users))
      answer_alone room stream (at_moment [] written shortages) after end
      (subst (λ (l : List Noted). IsConversation (IsAnswer plain failures steady desk users 0) room stream
      (at_moment l written shortages) after end) empty
      (subst (λ (n : ℕ). IsConversation (IsAnswer plain failures steady desk users n) room stream
      (at_moment seen written shortages) after end) first served))

-- ---- one reply

pub one_reply : (plain : List Entry → Ask → Outcome → Type 0) → StepsOnce plain → HasOneReply plain
one_reply plain once users history one other request response another is is' =
    let ask = ask_of users request in
    let same : is.outcome ≡ is'.outcome =
    once LONGEST_JOURNAL history ask is.outcome is'.outcome is.steps is'.steps in (
      is.history_is
          ∙ ap (λ (o : Outcome). if o.accepts then history ++ entry_of 0 ask ∷ [] else history) same
          ∙ sym is'.history_is,
      is.response_is ∙ ap (λ (o : Outcome). text_of_response o.status request.close o.body) same
          ∙ sym is'.response_is,
    )
