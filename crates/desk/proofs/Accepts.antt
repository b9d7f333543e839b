-- Histories that journals tell, one entry longer, and that they tell one.
use Rattle.std.proofs.Common.{◌≡◌, ◌⊎◌, inl, inr, ℕ, zero, suc, ◌+◌, true, false, List, [], ◌∷◌, ◌++◌, length, map, refl, sym, ap, subst, ◌∙◌, append_assoc, arith, length-append}
use Rattle.std.specs.Prelude.{◌≢◌, get_or, drop}
use Rattle.std.proofs.lemmas.Bool.{false≢true}
use Rattle.std.proofs.lemmas.List.{append_cancel_left, nil_from_length, map_push}
use Rattle.desk.specs.declared.entry.Entry.{Entry}
use Rattle.desk.specs.declared.entry.Ask.{Ask}
use Rattle.desk.specs.declared.entry.Noted.{Noted}
use Rattle.desk.specs.declared.entry.Noted.TheVariants as noted
use Rattle.desk.specs.Journal.{heading, entry_text, entries_text, journal_text, IsTorn, IsReading, IsJournalOf, cut_short, whole}
use Rattle.desk.specs.Steps.{Outcome, HasOneOutcome, AreServed, entry_of}
use Rattle.desk.specs.Points.{entries_of}
use Rattle.desk.specs.Entries.{entries_entry, asks_again}
use Rattle.desk.specs.Histories.{asked_again, AreTexts, IsAcceptedBehind, AreAccepted, IsHistory, BreaksBehind, IsBadAt, HasOneHistory, IsNowhereBad}
use Rattle.desk.specs.Replaying.{IsMadeAgain, IsReplayed}
use Rattle.desk.proofs.Lists.{entry_length, journal_entry, journal_length}
use Rattle.desk.proofs.Readings.{one_reading, entry_front}

-- ---- one journal

-- no entries stand in no bytes
no_entries : (entries : List Entry) (rest : List ℕ) → [] ≡ entries_text entries ++ rest → (entries ≡ []) × (rest ≡ [])
no_entries [] rest is = (refl, sym is)
no_entries (e ∷ entries) rest is =
    let long = ap (λ (l : List ℕ). length l) is ∙ length-append (entry_text e ++ entries_text entries) rest in
    let first = length-append (entry_text e) (entries_text entries) in
    let more = entry_length e in
    absurd (omega (arith, long, first, more))

-- a journal that is a beginning of the heading and whole has nothing behind that
short_whole : (bytes behind body : List ℕ) → heading ≡ bytes ++ behind → bytes ≡ heading ++ body → body ≡ []
short_whole bytes behind body short parts =
    let one = ap (λ (l : List ℕ). length l) short ∙ length-append bytes behind in
    let other = ap (λ (l : List ℕ). length l) parts ∙ length-append heading body in
    nil_from_length body (omega (arith, one, other))

one_of_both : (bytes behind body : List ℕ) (entries : List Entry) (rest : List ℕ) → heading ≡ bytes ++ behind
    → bytes ≡ heading ++ body → IsReading body entries rest → entries ≡ []
one_of_both bytes behind body entries rest short parts reads =
    (no_entries entries rest (sym (short_whole bytes behind body short parts) ∙ reads.parts)).0

one_journal : (bytes : List ℕ) (entries others : List Entry) (rest other : List ℕ) → IsJournalOf bytes entries rest
    → IsJournalOf bytes others other → entries ≡ others
one_journal bytes entries others rest other (cut_short b s none nothing) (cut_short c t also too) = none ∙ sym also
one_journal bytes entries others rest other (cut_short b s none nothing) (whole body parts reads) =
    none ∙ sym (one_of_both bytes b body others other s parts reads)
one_journal bytes entries others rest other (whole body parts reads) (cut_short b s none nothing) =
    one_of_both bytes b body entries rest s parts reads ∙ sym none
one_journal bytes entries others rest other (whole body parts reads) (whole body' parts' reads') =
    (one_reading body entries others rest other reads
    (subst (λ (l : List ℕ). IsReading l others other)
    (append_cancel_left heading body' body (sym parts' ∙ parts)) reads')).0

-- ---- entries that are accepted

-- a place among the entries and one more is that of the last, or is among them
split_last : (es : List Entry) (e : Entry) (before : List Entry) (entry : Entry) (behind : List Entry)
    → es ++ e ∷ [] ≡ before ++ entry ∷ behind
    → ((before ≡ es) × (entry ≡ e)) ⊎ ((more : List Entry) × (es ≡ before ++ entry ∷ more))
split_last [] e [] entry behind is = inl (refl, ap (λ (l : List Entry). get_or l 0 entry) (sym is))
split_last [] e (b ∷ before) entry behind is =
    let long = ap (λ (l : List Entry). length l) is ∙ length-append (b ∷ before) (entry ∷ behind) in
    absurd (omega (arith, long))
split_last (x ∷ es) e [] entry behind is =
    inr (es, ap (λ (h : Entry). h ∷ es) (ap (λ (l : List Entry). get_or l 0 x) is))
split_last (x ∷ es) e (b ∷ before) entry behind is =
    let same : x ≡ b = ap (λ (l : List Entry). get_or l 0 x) is in
    elim (split_last es e before entry behind (ap (λ (l : List Entry). drop 1 l) is)) [
      | inl (all, last) ↦ inl (ap (λ (l : List Entry). b ∷ l) all ∙ ap (λ (h : Entry). h ∷ es) (sym same), last)
      | inr (more, parts) ↦ inr (
        more,
        ap (λ (l : List Entry). x ∷ l) parts
            ∙ ap (λ (h : Entry). h ∷ (before ++ entry ∷ more)) same,
      )
    ]

-- the bytes begin with the journal of one entry more
pub read_more : (bytes rest behind : List ℕ) (es new : List Entry) (e : Entry) → bytes ≡ journal_text es ++ rest
    → rest ≡ entry_text e ++ behind → new ≡ es ++ e ∷ [] → bytes ≡ journal_text new ++ behind
read_more bytes rest behind es new e parts next more =
    parts ∙ ap (λ (l : List ℕ). journal_text es ++ l) next
    ∙ sym (append_assoc (journal_text es) (entry_text e) behind)
    ∙ ap (λ (l : List ℕ). l ++ behind) (sym (journal_entry es e))
    ∙ ap (λ (l : List Entry). journal_text l ++ behind) (sym more)

-- an entry was pushed behind room for it
pub pushed : (before room after : List Noted) (entry : Entry) → room ≡ before → after ≡ room ++ noted.Entry entry ∷ []
    → after ≡ before ++ noted.Entry entry ∷ []
pushed before room after entry same more = more ∙ ap (λ (l : List Noted). l ++ noted.Entry entry ∷ []) same

module _ (plain : List Entry → Ask → Outcome → Type 0) where
  pub accepted_none : AreAccepted plain []
  accepted_none before entry behind is =
      let long = ap (λ (l : List Entry). length l) is ∙ length-append before (entry ∷ behind) in
      absurd (omega (arith, long))

  pub accepted_more : (es : List Entry) (e : Entry) → AreAccepted plain es → IsAcceptedBehind plain es e
      → AreAccepted plain (es ++ e ∷ [])
  accepted_more es e accepted also before entry behind is = elim (split_last es e before entry behind is) [
    | inl (all, last) ↦ subst (λ (b : List Entry). IsAcceptedBehind plain b entry) (sym all)
        (subst (λ (x : Entry). IsAcceptedBehind plain es x) (sym last) also)
    | inr (more, parts) ↦ accepted before entry more parts
  ]

  -- the entry of an accepted call
  pub accepted_entry : AreServed plain → (es : List Entry) (caller : ℕ) (ask : Ask) (outcome : Outcome)
      → AreTexts (entry_of caller ask) → plain es ask outcome → outcome.accepts ≡ true
      → IsAcceptedBehind plain es (entry_of caller ask)
  accepted_entry served es caller ask outcome texts plainly accepts =
      let whole = (served es ask outcome plainly).accepted accepts in
      record {
        texts = texts;
        outcome = outcome;
        plainly = subst (λ (a : Ask). plain es a outcome) (asks_again caller ask whole.1 whole.2) plainly;
        accepts = accepts;
      }

  -- no bytes, or a beginning of the heading
  pub short_history : (bytes behind : List ℕ) → heading ≡ bytes ++ behind → IsHistory plain bytes []
  short_history bytes behind short = ([], cut_short behind short refl refl, accepted_none)

  -- the entries that were read, and a torn rest
  pub read_history : (bytes : List ℕ) (entries : List Entry) (rest : List ℕ) → bytes ≡ journal_text entries ++ rest
      → IsTorn rest → AreAccepted plain entries → IsHistory plain bytes entries
  read_history bytes entries rest parts torn accepted = (
    rest,
    whole (entries_text entries ++ rest) (parts ∙ append_assoc heading (entries_text entries) rest)
        (record { parts = refl; torn = torn }),
    accepted,
  )

  -- bytes that neither begin with the heading nor are a beginning of it
  pub no_journal : (bytes : List ℕ) → ((body : List ℕ) → bytes ≢ heading ++ body)
      → ((behind : List ℕ) → heading ≢ bytes ++ behind) → IsBadAt plain bytes 0
  no_journal bytes unheaded uncut entries rest (cut_short behind short none nothing) = uncut behind short
  no_journal bytes unheaded uncut entries rest (whole body parts reads) = unheaded body parts

  -- an entry that isn't accepted
  pub bad_entry : (bytes rest behind : List ℕ) (before : List Entry) (entry : Entry) (number : ℕ)
      → bytes ≡ journal_text before ++ rest → rest ≡ entry_text entry ++ behind → number ≡ length before + 1
      → AreAccepted plain before → ¬ IsAcceptedBehind plain before entry → IsBadAt plain bytes number
  bad_entry bytes rest behind before entry number parts next is accepted refused =
      let after : number ≡ suc (length before) = omega (arith, is) in
      subst (IsBadAt plain bytes) (sym after)
      (record {
        before = before;
        entry = entry;
        behind = behind;
        begins = parts ∙ ap (λ (l : List ℕ). journal_text before ++ l) next
            ∙ sym (append_assoc (journal_text before) (entry_text entry) behind)
            ∙ ap (λ (l : List ℕ). l ++ behind) (sym (journal_entry before entry));
        count_is = refl;
        accepted = accepted;
        refused = refused;
      })

  -- an entry that isn't of texts, or whose call has an outcome that doesn't accept
  pub no_texts : (before : List Entry) (entry : Entry) → ¬ AreTexts entry → ¬ IsAcceptedBehind plain before entry
  no_texts before entry none accepted = none accepted.texts

  pub not_accepted : HasOneOutcome plain → (before : List Entry) (entry : Entry) (outcome : Outcome)
      → plain before (asked_again entry) outcome → outcome.accepts ≡ false → ¬ IsAcceptedBehind plain before entry
  not_accepted once before entry outcome plainly refused accepted =
      false≢true (sym refused
      ∙ ap (λ (o : Outcome). o.accepts) (once before (asked_again entry) outcome accepted.outcome plainly
      accepted.plainly) ∙ accepted.accepts)

  -- an entry whose call is accepted, and what it leaves
  pub made_again : {W : Type 0} (stands : W → List Entry → Type 0) (before : List Entry)
      (read entry : Entry) (ask : Ask)
      (world : W) (outcome : Outcome) → AreTexts read → ask ≡ asked_again read → entry ≡ entry_of read.caller ask
      → plain before ask outcome
      → (outcome.accepts ≡ true) × ((caller : ℕ) → stands world (before ++ entry_of caller ask ∷ []))
      → IsMadeAgain plain stands before read entry world
  made_again stands before read entry ask world outcome texts ask_is entry_is plainly (accepts, follows) = record {
    entry_is = entry_is ∙ ap (λ (a : Ask). entry_of read.caller a) ask_is;
    accepted = record {
      texts = texts;
      outcome = outcome;
      plainly = subst (λ (a : Ask). plain before a outcome) ask_is plainly;
      accepts = accepts;
    };
    world_is = subst (λ (a : Ask). stands world (before ++ entry_of read.caller a ∷ [])) ask_is (follows read.caller);
  }

  -- the list is one entry longer
  pub entries_more : {W : Type 0} (stands : W → List Entry → Type 0) (list list' : List Noted) (read entry : Entry)
      (world : W) → IsMadeAgain plain stands (entries_of list) read entry world → list' ≡ list ++ noted.Entry entry ∷ []
      → entries_of list' ≡ entries_of list ++ read ∷ []
  entries_more stands list list' read entry world made longer =
      ap (λ (l : List Noted). entries_of l) longer ∙ entries_entry list entry
      ∙ ap (λ (e : Entry). entries_of list ++ e ∷ []) made.entry_is

  pub replayed_more : {W : Type 0} (stands : W → List Entry → Type 0) (world next : W) (list list' : List Noted)
      (bytes size : ℕ) (read entry : Entry) → IsReplayed stands world list bytes
      → IsMadeAgain plain stands (entries_of list) read entry next → list' ≡ list ++ noted.Entry entry ∷ []
      → size ≡ length (entry_text read) → IsReplayed stands next list' (bytes + size)
  replayed_more stands world next list list' bytes size read entry replayed made longer size_is =
      let es = entries_of list in
      let more = entries_more stands list list' read entry next made longer in
      record {
        world_is = subst (stands next) (sym more) made.world_is;
        list_is = longer ∙ ap (λ (l : List Noted). l ++ noted.Entry entry ∷ []) replayed.list_is
            ∙ sym (map_push noted.Entry es entry)
            ∙ ap (λ (e : Entry). map noted.Entry (es ++ e ∷ [])) made.entry_is
            ∙ ap (λ (l : List Entry). map noted.Entry l) (sym more);
        bytes_is = (let long = journal_length es read in
            let sum : bytes + size ≡ length (journal_text (es ++ read ∷ [])) =
            omega (arith, replayed.bytes_is, size_is, long) in sum)
            ∙ ap (λ (l : List Entry). length (journal_text l)) (sym more);
      }

  -- ---- one history

  pub one_history : HasOneHistory plain
  one_history bytes entries others (rest, journal, accepted) (other, also, too) =
      one_journal bytes entries others rest other journal also

  -- entries behind one another, and a rest behind which nothing more can be read
  further : (before entries : List Entry) (entry : Entry) (behind rest : List ℕ)
      → entries_text before ++ (entry_text entry ++ behind) ≡ entries_text entries ++ rest → IsTorn rest
      → (more : List Entry) × (entries ≡ before ++ entry ∷ more)
  further [] [] entry behind rest is torn = absurd (torn entry behind (sym is))
  further [] (e ∷ entries) entry behind rest is torn = (
    entries,
    ap (λ (h : Entry). h ∷ entries)
        (entry_front e entry (entries_text entries ++ rest) behind
        (sym (append_assoc (entry_text e) (entries_text entries) rest) ∙ sym is)).0,
  )
  further (b ∷ before) [] entry behind rest is torn =
      absurd (torn b (entries_text before ++ (entry_text entry ++ behind))
      (sym is ∙ append_assoc (entry_text b) (entries_text before) (entry_text entry ++ behind)))
  further (b ∷ before) (e ∷ entries) entry behind rest is torn =
      let (same, later) = entry_front b e (entries_text before ++ (entry_text entry ++ behind))
      (entries_text entries ++ rest)
      (sym (append_assoc (entry_text b) (entries_text before) (entry_text entry ++ behind)) ∙ is
      ∙ append_assoc (entry_text e) (entries_text entries) rest) in
      let (more, parts) = further before entries entry behind rest later torn in
      (more, ap (λ (l : List Entry). e ∷ l) parts ∙ ap (λ (h : Entry). h ∷ (before ++ entry ∷ more)) (sym same))

  -- the text of a journal behind the heading
  behind_heading : (before : List Entry) (entry : Entry) (behind : List ℕ)
      → journal_text (before ++ entry ∷ []) ++ behind
      ≡ heading ++ (entries_text before ++ (entry_text entry ++ behind))
  behind_heading before entry behind =
      ap (λ (l : List ℕ). l ++ behind) (journal_entry before entry)
      ∙ append_assoc (journal_text before) (entry_text entry) behind
      ∙ append_assoc heading (entries_text before) (entry_text entry ++ behind)

  breaks_nowhere : (bytes : List ℕ) (entries : List Entry) (rest : List ℕ) (count : ℕ) → IsJournalOf bytes entries rest
      → AreAccepted plain entries → ¬ BreaksBehind plain bytes count
  breaks_nowhere bytes entries rest count (cut_short b s none nothing) accepted breaks =
      let long = ap (λ (l : List ℕ). length l)
      (breaks.begins ∙ behind_heading breaks.before breaks.entry breaks.behind) in
      let parts = length-append (entries_text breaks.before) (entry_text breaks.entry ++ breaks.behind) in
      let more = length-append (entry_text breaks.entry) breaks.behind in
      let size = entry_length breaks.entry in
      let short = ap (λ (l : List ℕ). length l) s ∙ length-append bytes b in
      omega (arith, long, parts, more, size, short)
  breaks_nowhere bytes entries rest count (whole body parts reads) accepted breaks =
      let (more, split) = further breaks.before entries breaks.entry breaks.behind rest
      (append_cancel_left heading (entries_text breaks.before ++ (entry_text breaks.entry ++ breaks.behind))
      (entries_text entries ++ rest)
      (sym (behind_heading breaks.before breaks.entry breaks.behind) ∙ sym breaks.begins ∙ parts
      ∙ ap (λ (l : List ℕ). heading ++ l) reads.parts)) reads.torn in
      breaks.refused (accepted breaks.before breaks.entry more split)

  pub nowhere_bad : IsNowhereBad plain
  nowhere_bad bytes entries zero (rest, journal, accepted) bad = bad entries rest journal
  nowhere_bad bytes entries (suc count) (rest, journal, accepted) bad =
      breaks_nowhere bytes entries rest count journal accepted bad
