use Rattle.std.proofs.Common.{◌≡◌, ℕ, ◌+◌, List, length, drop, Ok, sym, ap, subst, ◌∙◌, arith, length-append}
use Rattle.std.proofs.lemmas.Bool.{false≢true}
use Rattle.std.proofs.lemmas.Bool.Decides.{Decides-eqb}
use Rattle.std.proofs.lemmas.Slice.Eq.{starts_is, strip_prefix_is}
use Rattle.desk.specs.declared.entry.Entry.{Entry}
use Rattle.desk.specs.Journal.{heading, journal_text, entry_text}
use Rattle.desk.specs.Histories.{AreAccepted, IsHistory, IsBadAt}
use Rattle.desk.specs.Replaying.{entry_in}
use Rattle.desk.proofs.Lists.{few_entries, entry_length}
use Rattle.desk.proofs.Accepts.{short_history, no_journal, bad_entry, read_more, read_history, accepted_more}
use Rattle.desk.proofs.replay.replay_journal.Goals as goal

pub returns-then-starts_with-clause-history : goal.returns-then-starts_with-clause-history
returns-then-starts_with-clause-history g c =
    let bytes = c.args.bytes.now in
    subst (IsHistory g.E.Engine.plain bytes) (sym c.in_ok-replay.ensures)
    (short_history g.E.Engine.plain bytes (drop (length bytes) heading)
    ((starts_is Decides-eqb heading bytes c.starts_with.result c.starts_with.ensures.value).0 c.if-starts_with.true))

pub returns-else-starts_with-clause-bad : goal.returns-else-starts_with-clause-bad
returns-else-starts_with-clause-bad g c number same =
    let bytes = c.args.bytes.now in let zero_is : 0 ≡ number = cc in
    subst (IsBadAt g.E.Engine.plain bytes) zero_is
    (no_journal g.E.Engine.plain bytes
    (rw c.in_default.is at (strip_prefix_is Decides-eqb bytes heading c.strip_prefix.result
    c.strip_prefix.ensures.cases))
    (λ behind short. false≢true (sym c.if-starts_with.false
    ∙ (starts_is Decides-eqb heading bytes c.starts_with.result c.starts_with.ensures.value).1 behind short)))

pub overflow_add-result : goal.overflow_add-result
overflow_add-result g c =
    let replay = c.loop-entry.replay in
    let stays : c.accept.new.self ≡ replay = (c.in_ok-accept.ensures.refused (ap Ok c.if-not-branch.true)).0 in
    let counted : c.count.result ≡ length replay =
    c.count.ensures ∙ ap (λ (l : List Entry). length l) stays in
    let few = few_entries replay in
    let whole = ap (λ (l : List ℕ). length l) c.loop-entry.invariant.parts
    ∙ length-append (journal_text replay) c.loop-entry.rest.now in
    let next = ap (λ (l : List ℕ). length l) c.in-Some-split_entry.ensures
    ∙ length-append (entry_text (entry_in c.in-Some-split_entry.entry)) c.in-Some-split_entry.behind.now in
    let size = entry_length (entry_in c.in-Some-split_entry.entry) in
    omega (arith, counted, few, whole, next, size)

pub returns-then-not-branch-clause-bad : goal.returns-then-not-branch-clause-bad
returns-then-not-branch-clause-bad g c number same =
    let bytes = c.args.bytes.now in let next : c.count.result + 1 ≡ number = cc in
    let refused = c.in_ok-accept.ensures.refused (ap Ok c.if-not-branch.true) in
    subst (IsBadAt g.E.Engine.plain bytes) next
    (bad_entry g.E.Engine.plain bytes c.loop-entry.rest.now c.in-Some-split_entry.behind.now c.loop-entry.replay
    (entry_in c.in-Some-split_entry.entry) (c.count.result + 1) c.loop-entry.invariant.parts
    c.in-Some-split_entry.ensures
    (ap (λ (n : ℕ). n + 1) (c.count.ensures ∙ ap (λ (l : List Entry). length l) refused.0))
    c.loop-entry.invariant.accepted refused.1)

pub loop-entry-preserved : goal.loop-entry-preserved
loop-entry-preserved g c =
    let accepted = c.in_ok-accept.ensures.accepted (ap Ok c.if-not-branch.false) in
    record {
      parts = read_more c.args.bytes.now c.loop-entry.rest.now c.in-Some-split_entry.behind.now c.loop-entry.replay
          c.accept.new.self (entry_in c.in-Some-split_entry.entry) c.loop-entry.invariant.parts
          c.in-Some-split_entry.ensures accepted.0;
      accepted = subst (AreAccepted g.E.Engine.plain) (sym accepted.0)
          (accepted_more g.E.Engine.plain c.loop-entry.replay (entry_in c.in-Some-split_entry.entry)
          c.loop-entry.invariant.accepted accepted.1);
    }

pub returns-clause-history : goal.returns-clause-history
returns-clause-history g c =
    read_history g.E.Engine.plain c.args.bytes.now c.loop-entry.replay c.loop-entry.rest.now
    c.loop-entry.invariant.parts (rw c.in_default-split_entry.is at c.split_entry.ensures)
    c.loop-entry.invariant.accepted
