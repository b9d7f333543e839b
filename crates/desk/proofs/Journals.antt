-- What is kept is a journal, after a put and after a put that failed.
use Rattle.std.proofs.Common.{◌≡◌, inl, inr, ⊎_elim, ℕ, suc, ◌+◌, ◌-◌, ◌<◌, ◌≤◌, List, [], ◌∷◌, ◌++◌, length, take, drop, refl, sym, ap, subst, ◌∙◌, append_assoc, arith, length-append}
use Rattle.std.specs.Prelude.{Option, Some, None, IfSome}
use Rattle.std.specs.Option.{option_map}
use Rattle.std.specs.List.{Contains}
use Rattle.std.proofs.lemmas.Bool.{cases_lt}
use Rattle.std.proofs.lemmas.List.{append-nil, take-append-drop, take-append-le, take_all, length-take, length-take-le}
use Rattle.std.proofs.lemmas.List.Elements.{Contains-append_left, Contains-append_right}
use Rattle.desk.specs.declared.entry.Ask.{Ask}
use Rattle.desk.specs.declared.entry.Entry.{Entry}
use Rattle.desk.specs.declared.entry.Noted.{Noted}
use Rattle.desk.specs.Journal.{heading, entry_text, entries_text, journal_text, IsTorn, IsJournalOf, cut_short, whole}
use Rattle.desk.specs.Keeping.{with_piece, IsTornPut}
use Rattle.desk.specs.Noting.{piece_of, is_first, journal_end}
use Rattle.desk.specs.Steps.{Outcome}
use Rattle.desk.specs.Histories.{IsAcceptedBehind, AreAccepted, IsHistory}
use Rattle.desk.specs.Points.{entries_of, marked_last, AreOneMore, Keeps}
use Rattle.desk.proofs.Lists.{entry_length, journal_entry, journal_length}
use Rattle.desk.proofs.Accepts.{accepted_none, accepted_more, short_history}
use Rattle.desk.proofs.Readings.{entry_front}

-- ---- what is torn

pub torn_nothing : IsTorn []
torn_nothing entry behind is =
    let long = ap (λ (l : List ℕ). length l) is ∙ length-append (entry_text entry) behind in
    let more = entry_length entry in
    omega (arith, long, more)

-- fewer bytes of an entry than it has
pub torn_part : (e : Entry) (count : ℕ) → count < length (entry_text e) → IsTorn (take count (entry_text e))
torn_part e count less entry behind is =
    let text = entry_text e in
    let (same, none) = entry_front entry e (behind ++ drop count text) []
    (sym (append_assoc (entry_text entry) behind (drop count text))
    ∙ ap (λ (l : List ℕ). l ++ drop count text) (sym is) ∙ take-append-drop count text ∙ sym (append-nil text)) in
    let long = ap (λ (l : List ℕ). length l) (take-append-drop count text)
    ∙ refl in
    let parts = length-append (take count text) (drop count text) in
    let taken = length-take-le count text (omega (arith, less)) in
    let nothing = ap (λ (l : List ℕ). length l) none in
    let behind_none = length-append behind (drop count text) in
    omega (arith, less, long, parts, taken, nothing, behind_none)

-- ---- journals

-- a journal is one of just these entries
pub just_journal : (es : List Entry) → IsJournalOf (journal_text es) es []
just_journal es = whole (entries_text es) refl
    (record { parts = sym (append-nil (entries_text es)); torn = torn_nothing })

-- a journal with an entry has its text at the front
journal_front : (bytes rest : List ℕ) (e : Entry) (es : List Entry) → IsJournalOf bytes (e ∷ es) rest
    → bytes ≡ journal_text (e ∷ es) ++ rest
journal_front bytes rest e es (cut_short behind parts none nothing) =
    let k = ap (λ (l : List Entry). length l) none in absurd (omega (arith, k))
journal_front bytes rest e es (whole body parts reads) =
    parts ∙ ap (λ (l : List ℕ). heading ++ l) reads.parts
    ∙ sym (append_assoc heading (entries_text (e ∷ es)) rest)

-- the bytes are the journal of a history, of these entries, or of these and one more, which has one of the marks
abbrev pub Fits : (List Entry → Ask → Outcome → Type 0) → List Entry → List Entry → List ℕ → Type 0
Fits plain es marks bytes = (entries : List Entry) × IsHistory plain bytes entries × AreOneMore es marks entries

abbrev pub IsShort : ℕ → List ℕ → Type 0
IsShort limit bytes = length bytes ≤ limit

-- what is kept is of both kinds
module _ (plain : List Entry → Ask → Outcome → Type 0) (limit : ℕ) (list : List Noted) where
  pub kept_fits : (kept : Option (List ℕ)) → Keeps plain limit kept list
      → IfSome kept (Fits plain (entries_of list) (marked_last [] list))
  kept_fits None keeps = tt
  kept_fits (Some bytes) keeps = (keeps.entries, keeps.history, keeps.one_of)

  pub kept_short : (kept : Option (List ℕ)) → Keeps plain limit kept list → IfSome kept (IsShort limit)
  kept_short None keeps = tt
  kept_short (Some bytes) keeps = keeps.short

  pub fits_kept : (kept : Option (List ℕ)) → IfSome kept (Fits plain (entries_of list) (marked_last [] list))
      → IfSome kept (IsShort limit) → Keeps plain limit kept list
  fits_kept None fits short = tt
  fits_kept (Some bytes) (entries, history, one_of) short = record {
    short = short;
    entries = entries;
    history = history;
    one_of = one_of;
  }

taken_front : (front rest : List ℕ) → take (length front) (front ++ rest) ≡ front
taken_front front rest = take-append-le (length front) front rest (omega arith) ∙ take_all (length front) front
    (omega arith)

-- the first bytes and some behind them
take_behind : (front text : List ℕ) (more : ℕ) → take (length front + more) (front ++ text) ≡ front ++ take more text
take_behind [] text more = ap (λ (n : ℕ). take n text) (let none : 0 + more ≡ more = omega arith in none)
take_behind (x ∷ front) text more =
    ap (λ (n : ℕ). take n (x ∷ (front ++ text)))
    (let next : suc (length front) + more ≡ suc (length front + more) = omega arith in next)
    ∙ ap (λ (l : List ℕ). x ∷ l) (take_behind front text more)

module _ (plain : List Entry → Ask → Outcome → Type 0) where
  -- the journal of the entries and a beginning of the text of one more, which has one of the marks
  journal_part : (es marks : List Entry) (e : Entry) (count : ℕ) → AreAccepted plain es → IsAcceptedBehind plain es e
      → Contains marks e → Fits plain es marks (journal_text es ++ take count (entry_text e))
  journal_part es marks e count accepted also marked = ⊎_elim
      (λ (less : count < length (entry_text e)). (
        es,
        (
          take count (entry_text e),
          whole (entries_text es ++ take count (entry_text e))
              (append_assoc heading (entries_text es) (take count (entry_text e)))
              (record { parts = refl; torn = torn_part e count less }),
          accepted,
        ),
        inl refl,
      ))
      (λ (more : length (entry_text e) ≤ count). (
        es ++ e ∷ [],
        (
          [],
          whole (entries_text (es ++ e ∷ []))
              (ap (λ (l : List ℕ). journal_text es ++ l) (take_all count (entry_text e) (omega (arith, more)))
              ∙ sym (journal_entry es e))
              (record { parts = sym (append-nil (entries_text (es ++ e ∷ []))); torn = torn_nothing }),
          accepted_more plain es e accepted also,
        ),
        inr (e, marked, refl),
      ))
      (cases_lt count (length (entry_text e)))

  -- what has a journal of one entry at least has its text at the front
  kept_front : (e : Entry) (es marks : List Entry) (bytes : List ℕ) → Fits plain (e ∷ es) marks bytes
      → (rest : List ℕ) × (bytes ≡ journal_text (e ∷ es) ++ rest)
  kept_front e es marks bytes (entries, (rest, journal, accepted), inl same) =
      (rest, journal_front bytes rest e es (subst (λ (l : List Entry). IsJournalOf bytes l rest) same journal))
  kept_front e es marks bytes (entries, (rest, journal, accepted), inr (more, marked, same)) = (
    entry_text more ++ rest,
    journal_front bytes rest e (es ++ more ∷ []) (subst (λ (l : List Entry). IsJournalOf bytes l rest) same journal)
        ∙ ap (λ (l : List ℕ). l ++ rest) (journal_entry (e ∷ es) more)
        ∙ append_assoc (journal_text (e ∷ es)) (entry_text more) rest,
  )

  pub place_within : (limit : ℕ) (kept : Option (List ℕ)) (list : List Noted) → Keeps plain limit kept list
      → IfSome kept (λ bytes. journal_end (entries_of list) ≤ length bytes)
  place_within limit None list keeps = tt
  place_within limit (Some bytes) list keeps =
      by_entries (entries_of list) (kept_fits plain limit list (Some bytes) keeps)
    where
      by_entries : (es : List Entry) → Fits plain es (marked_last [] list) bytes → journal_end es ≤ length bytes
      by_entries [] fits = omega arith
      by_entries (e ∷ es) fits =
          let (rest, parts) = kept_front e es (marked_last [] list) bytes fits in
          let long = ap (λ (l : List ℕ). length l) parts ∙ length-append (journal_text (e ∷ es)) rest in
          omega (arith, long)

  -- ---- a put

  pub put_keeps : (kept kept' : Option (List ℕ)) (es marks : List Entry) (e : Entry) → IfSome kept (Fits plain es marks)
      → kept' ≡ option_map (with_piece (journal_end es) (piece_of (is_first es) e)) kept
      → IfSome kept' (λ bytes. bytes ≡ journal_text (es ++ e ∷ []))
  put_keeps None kept' es marks e keeps put =
      subst (λ (k : Option (List ℕ)). IfSome k (λ bytes. bytes ≡ journal_text (es ++ e ∷ []))) (sym put) tt
  put_keeps (Some bytes) kept' [] marks e keeps put =
      subst (λ (k : Option (List ℕ)). IfSome k (λ bytes. bytes ≡ journal_text (e ∷ []))) (sym put)
      (ap (λ (l : List ℕ). heading ++ l) (sym (append-nil (entry_text e))))
  put_keeps (Some bytes) kept' (first ∷ es) marks e keeps put =
      subst (λ (k : Option (List ℕ)). IfSome k (λ bytes. bytes ≡ journal_text ((first ∷ es) ++ e ∷ []))) (sym put)
      (let (rest, parts) = kept_front first es marks bytes keeps in
      ap (λ (l : List ℕ). take (length (journal_text (first ∷ es))) l ++ entry_text e) parts
      ∙ ap (λ (l : List ℕ). l ++ entry_text e) (taken_front (journal_text (first ∷ es)) rest)
      ∙ sym (journal_entry (first ∷ es) e))

  fits_more : (es marks : List Entry) (e : Entry) (bytes : List ℕ) → Fits plain es marks bytes
      → Fits plain es (marks ++ e ∷ []) bytes
  fits_more es marks e bytes (entries, history, inl same) = (entries, history, inl same)
  fits_more es marks e bytes (entries, history, inr (more, marked, same)) =
      (entries, history, inr (more, Contains-append_left marks (e ∷ []) more marked, same))

  -- a beginning of the first piece
  first_part : (marks : List Entry) (e : Entry) (count : ℕ) → IsAcceptedBehind plain [] e → Contains marks e
      → Fits plain [] marks (take count (heading ++ entry_text e))
  first_part marks e count also marked = ⊎_elim
      (λ (few : count < 8). (
        [],
        short_history plain (take count (heading ++ entry_text e)) (drop count heading)
            (sym (take-append-drop count heading)
            ∙ ap (λ (l : List ℕ). l ++ drop count heading) (sym (take-append-le count heading (entry_text e)
            (let eight : length heading ≡ 8 = refl in omega (arith, few, eight))))),
        inl refl,
      ))
      (λ (more : 8 ≤ count). let eight : 8 + (count - 8) ≡ count = omega (arith, more) in
      subst (λ (n : ℕ). Fits plain [] marks (take n (heading ++ entry_text e))) eight
      (subst (Fits plain [] marks) (sym (take_behind heading (entry_text e) (count - 8)))
      (journal_part [] marks e (count - 8) (accepted_none plain) also marked)))
      (cases_lt count 8)

  -- the piece of one entry more was torn
  pub torn_keeps : (kept kept' : Option (List ℕ)) (es marks : List Entry) (e : Entry) → AreAccepted plain es
      → IsAcceptedBehind plain es e → IfSome kept (Fits plain es marks)
      → IsTornPut kept kept' (journal_end es) (piece_of (is_first es) e)
      → IfSome kept' (Fits plain es (marks ++ e ∷ []))
  torn_keeps None kept' es marks e accepted also keeps (inl same) =
      subst (λ (k : Option (List ℕ)). IfSome k (Fits plain es (marks ++ e ∷ []))) (sym same) tt
  torn_keeps (Some bytes) kept' es marks e accepted also keeps (inl same) =
      subst (λ (k : Option (List ℕ)). IfSome k (Fits plain es (marks ++ e ∷ []))) (sym same)
      (fits_more es marks e bytes keeps)
  torn_keeps None kept' es marks e accepted also keeps (inr (count, torn)) =
      subst (λ (k : Option (List ℕ)). IfSome k (Fits plain es (marks ++ e ∷ []))) (sym torn) tt
  torn_keeps (Some bytes) kept' [] marks e accepted also keeps (inr (count, torn)) =
      subst (λ (k : Option (List ℕ)). IfSome k (Fits plain [] (marks ++ e ∷ []))) (sym torn)
      (first_part (marks ++ e ∷ []) e count also (Contains-append_right marks (e ∷ []) e (0, omega arith, refl)))
  torn_keeps (Some bytes) kept' (first ∷ es) marks e accepted also keeps (inr (count, torn)) =
      subst (λ (k : Option (List ℕ)). IfSome k (Fits plain (first ∷ es) (marks ++ e ∷ []))) (sym torn)
      (let (rest, parts) = kept_front first es marks bytes keeps in
      subst (Fits plain (first ∷ es) (marks ++ e ∷ []))
      (ap (λ (l : List ℕ). l ++ take count (entry_text e)) (sym (taken_front (journal_text (first ∷ es)) rest))
      ∙ ap (λ (l : List ℕ). take (length (journal_text (first ∷ es))) l ++ take count (entry_text e)) (sym parts))
      (journal_part (first ∷ es) (marks ++ e ∷ []) e count accepted also
      (Contains-append_right marks (e ∷ []) e (0, omega arith, refl))))

-- the piece of one entry more ends where the journal with it ends
piece_ends : (es : List Entry) (e : Entry)
    → journal_end es + length (piece_of (is_first es) e) ≡ length (journal_text (es ++ e ∷ []))
piece_ends [] e =
    let same = ap (λ (l : List ℕ). length (heading ++ l)) (append-nil (entry_text e)) in omega (arith, same)
piece_ends (first ∷ es) e = sym (journal_length (first ∷ es) e)

-- where that is within the limit, so is what is left of a put that failed
pub torn_short : (limit : ℕ) (kept kept' : Option (List ℕ)) (es : List Entry) (e : Entry)
    → length (journal_text (es ++ e ∷ [])) ≤ limit → IfSome kept (IsShort limit)
    → IsTornPut kept kept' (journal_end es) (piece_of (is_first es) e) → IfSome kept' (IsShort limit)
torn_short limit kept kept' es e room short (inl same) =
    subst (λ (k : Option (List ℕ)). IfSome k (IsShort limit)) (sym same) short
torn_short limit None kept' es e room short (inr (count, torn)) =
    subst (λ (k : Option (List ℕ)). IfSome k (IsShort limit)) (sym torn) tt
torn_short limit (Some bytes) kept' es e room short (inr (count, torn)) =
    subst (λ (k : Option (List ℕ)). IfSome k (IsShort limit)) (sym torn)
    (let piece = piece_of (is_first es) e in
    let both = length-append (take (journal_end es) bytes) (take count piece) in
    let front = length-take (journal_end es) bytes in
    let behind = length-take count piece in
    let ends = piece_ends es e in
    omega (arith, both, front, behind, ends, room))
