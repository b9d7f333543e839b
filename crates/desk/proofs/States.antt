-- What a state keeps, after a call that is refused, kept or marked.
use Rattle.std.proofs.Common.{◌≡◌, ◌≢◌, inl, refl, ℕ, ◌+◌, ◌<◌, ◌≤◌, true, false, List, [], ◌∷◌, ◌++◌, length, sym, ap, subst, ◌∙◌, arith, min, length-append}
use Rattle.std.specs.Prelude.{Option, Some, None, IfSome, nat_eq}
use Rattle.std.specs.Option.{option_map}
use Rattle.std.proofs.lemmas.Bool.{lt-ltb, le-ltb}
use Rattle.std.proofs.Math.Dec.{eqb-suc-zero}
use Rattle.cell_value.specs.FaultCount.{last_count}
use Rattle.desk.specs.declared.entry.Entry.{Entry}
use Rattle.desk.specs.declared.entry.Ask.{Ask}
use Rattle.desk.specs.declared.entry.Noted.{Noted}
use Rattle.desk.specs.declared.entry.Noted.TheVariants as noted
use Rattle.desk.specs.declared.state.TheConstants.{LONGEST_JOURNAL}
use Rattle.desk.specs.Journal.{entry_text, journal_text, FieldsFit, IsJournalOf}
use Rattle.desk.specs.Keeping.{with_piece, IsTornPut}
use Rattle.desk.specs.Noting.{piece_of, is_first, journal_end, IsTornBehind, IsKept, IsMarked, IsNoted}
use Rattle.desk.specs.declared.noting.Noting.{Noting}
use Rattle.desk.specs.declared.noting.Noting.TheVariants as noting
use Rattle.desk.specs.Steps.{Outcome, entry_of, is_full}
use Rattle.desk.specs.Histories.{IsAcceptedBehind, AreAccepted}
use Rattle.desk.specs.Points.{entries_of, last_counted, marked_last, Keeps, IsSound}
use Rattle.desk.specs.Entries.{entries_entry, entries_mark}
use Rattle.desk.proofs.Lists.{counted_entry, counted_mark, journal_length, few_entries, marked_more, entry_length, size_same}
use Rattle.desk.proofs.Accepts.{accepted_more}
use Rattle.desk.proofs.Journals.{Fits, kept_fits, kept_short, fits_kept, just_journal, put_keeps, torn_keeps, torn_short}

-- ---- the world, the counts and what is kept

module _ {W : Type 0} (plain : List Entry → Ask → Outcome → Type 0) (stands : W → List Entry → Type 0) where
  -- where nothing of that changed
  pub sound_same : (world : W) (list list' : List Noted) (entries bytes limit opened failures failures' : ℕ)
      (kept kept' : Option (List ℕ)) → IsSound plain stands world list entries bytes limit opened failures kept
      → list' ≡ list → failures' ≡ failures → kept' ≡ kept
      → IsSound plain stands world list' entries bytes limit opened failures' kept'
  sound_same world list list' entries bytes limit opened failures failures' kept kept' sound lists counts keeps =
      subst (λ (l : List Noted). IsSound plain stands world l entries bytes limit opened failures' kept') (sym lists)
      (subst (λ (n : ℕ). IsSound plain stands world list entries bytes limit opened n kept') (sym counts)
      (subst (λ (k : Option (List ℕ)). IsSound plain stands world list entries bytes limit opened failures k) (sym
      keeps) sound))

  -- where an entry was added
  pub sound_entry : (world next : W) (list list' : List Noted) (entries bytes total limit opened failures failures' : ℕ)
      (kept kept' : Option (List ℕ)) (e : Entry) (piece : List ℕ) (at : ℕ)
      → IsSound plain stands world list entries bytes limit opened failures kept
      → stands next (entries_of list ++ e ∷ []) → IsAcceptedBehind plain (entries_of list) e
      → total ≡ length (journal_text (entries_of list ++ e ∷ [])) → total ≤ limit
      → piece ≡ piece_of (is_first (entries_of list)) e → at ≡ journal_end (entries_of list)
      → IsKept e at piece list list' kept kept' failures failures'
      → IsSound plain stands next list' (entries + 1) total limit opened failures' kept'
      × IfSome kept' (λ b. b ≡ journal_text (entries_of list'))
  sound_entry world next list list' entries bytes total limit opened failures failures' kept kept' e piece at
      sound next_is also total_is room piece_is at_is put =
      let more = ap entries_of put.list_is ∙ entries_entry list e in
      let kept_is = put_keeps plain kept kept' (entries_of list) (marked_last [] list) e
      (kept_fits plain limit list kept sound.keeps)
      (put.kept_is ∙ ap (λ (p : List ℕ). option_map (with_piece at p) kept) piece_is
      ∙ ap (λ (n : ℕ). option_map (with_piece n (piece_of (is_first (entries_of list)) e)) kept) at_is) in
      let kept_now = subst (λ (l : List Entry). IfSome kept' (λ b. b ≡ journal_text l)) (sym more) kept_is in
      let accepted = subst (AreAccepted plain) (sym more)
      (accepted_more plain (entries_of list) e sound.accepted also) in
      let size = ap (λ (l : List Entry). length (journal_text l)) more in (
        record {
          world_is = subst (stands next) (sym more) next_is;
          accepted = accepted;
          entries_is = ap (λ (n : ℕ). n + 1) sound.entries_is ∙ sym (length-append (entries_of list) (e ∷ []))
              ∙ ap (λ (es : List Entry). length es) (sym more);
          bytes_is = total_is ∙ ap (λ (l : List Entry). length (journal_text l)) (sym more);
          limit_is = sound.limit_is;
          failures_is = put.failures_are ∙ sound.failures_is ∙ sym (counted_entry opened list e)
              ∙ ap (last_counted opened) (sym put.list_is);
          keeps = whole_keeps accepted (omega (arith, size, total_is, room)) kept' kept_now;
        },
        kept_now,
      )
    where
      whole_keeps : AreAccepted plain (entries_of list') → length (journal_text (entries_of list')) ≤ limit
          → (k : Option (List ℕ)) → IfSome k (λ b. b ≡ journal_text (entries_of list')) → Keeps plain limit k list'
      whole_keeps accepted short None whole = tt
      whole_keeps accepted short (Some b) whole = record {
        short = subst (λ (l : List ℕ). length l ≤ limit) (sym whole) short;
        entries = entries_of list';
        history = (
          [],
          subst (λ (l : List ℕ). IsJournalOf l (entries_of list') []) (sym whole) (just_journal (entries_of list')),
          accepted,
        );
        one_of = inl refl;
      }

  -- where a mark was added
  pub sound_mark : (world : W) (list list' : List Noted) (entries bytes limit opened failures failures' : ℕ)
      (kept kept' : Option (List ℕ)) (e : Entry) (before after : ℕ) (piece : List ℕ) (at : ℕ)
      → IsSound plain stands world list entries bytes limit opened failures kept
      → IsAcceptedBehind plain (entries_of list) e → length (journal_text (entries_of list ++ e ∷ [])) ≤ limit
      → at ≡ journal_end (entries_of list) → piece ≡ piece_of (is_first (entries_of list)) e
      → IsMarked e before after at piece list list' kept kept' failures failures'
      → IsSound plain stands world list' entries bytes limit opened failures' kept'
  sound_mark world list list' entries bytes limit opened failures failures' kept kept' e before after piece at
      sound also room at_is piece_is put =
      let same = ap entries_of put.list_is ∙ entries_mark list e before after in
      let torn = subst (λ (p : List ℕ). IsTornPut kept kept' (journal_end (entries_of list)) p) piece_is
      (subst (λ (n : ℕ). IsTornPut kept kept' n piece) at_is put.kept_is) in
      record {
        world_is = subst (stands world) (sym same) sound.world_is;
        accepted = subst (AreAccepted plain) (sym same) sound.accepted;
        entries_is = sound.entries_is ∙ ap (λ (es : List Entry). length es) (sym same);
        bytes_is = sound.bytes_is ∙ ap (λ (l : List Entry). length (journal_text l)) (sym same);
        limit_is = sound.limit_is;
        failures_is = sym put.after_is ∙ sym (counted_mark opened list e before after)
            ∙ ap (last_counted opened) (sym put.list_is);
        keeps = subst (λ (l : List Noted). Keeps plain limit kept' l) (sym put.list_is)
            (fits_kept plain limit (list ++ noted.Mark e before after ∷ []) kept'
            (subst (λ (es : List Entry). IfSome kept' (Fits plain es (marked_last [] (list ++ noted.Mark e before after
            ∷ [])))) (sym (entries_mark list e before after))
            (subst (λ (marks : List Entry). IfSome kept' (Fits plain (entries_of list) marks))
            (sym (marked_more [] list e before after))
            (torn_keeps plain kept kept' (entries_of list) (marked_last [] list) e sound.accepted also
            (kept_fits plain limit list kept sound.keeps) torn)))
            (torn_short limit kept kept' (entries_of list) e room (kept_short plain limit list kept sound.keeps) torn));
      }

-- ---- the limit

-- the journal's bytes, those of the entry and their sum, as counts of 64 bits, which stand still at the last
module _ (limit bytes size total : ℕ) (es : List Entry) (ask : Ask) (bytes_is : bytes ≡ length (journal_text es))
    (size_is : size ≡ min (length (entry_text (entry_of 0 ask))) last_count) (sum : total ≡ min (bytes + size)
    last_count)
    (small : limit ≤ LONGEST_JOURNAL) where
  pub full_journal : limit < total → is_full limit es (entry_of 0 ask) ≡ true
  full_journal over =
      lt-ltb limit _ (let long = journal_length es (entry_of 0 ask) in
      omega (arith, bytes_is, size_is, sum, small, over, long))

  pub room_journal : total ≤ limit → is_full limit es (entry_of 0 ask) ≡ false
  room_journal within =
      le-ltb limit _ (let long = journal_length es (entry_of 0 ask) in
      omega (arith, bytes_is, size_is, sum, small, within, long))

  pub total_journal : (number : ℕ) → total ≤ limit → total ≡ length (journal_text (es ++ entry_of number ask ∷ []))
  total_journal number within =
      let long = journal_length es (entry_of number ask) in
      let same = size_same number 0 ask in
      omega (arith, bytes_is, size_is, sum, small, within, long, same)

  -- the fields of an entry that has so few bytes
  pub fields_fit : (number : ℕ) → total ≤ limit → FieldsFit (entry_of number ask)
  fields_fit number within =
      let e = entry_of 0 ask in
      let whole : length (entry_text e) ≤ LONGEST_JOURNAL = omega (arith, bytes_is, size_is, sum, small, within) in
      let long = entry_length e in
      record {
        user = omega (arith, whole, long);
        project = omega (arith, whole, long);
        target = omega (arith, whole, long);
        body = omega (arith, whole, long);
      }

  -- one entry more is counted in 64 bits
  pub counts_fit : (entries : ℕ) → entries ≡ length es → total ≤ limit → entries + 1 < last_count
  counts_fit entries counted within =
      let few = few_entries es in omega (arith, bytes_is, size_is, sum, small, counted, within, few)

-- ---- where a piece goes, and what it is

pub first_of : (entries : ℕ) (es : List Entry) → entries ≡ length es → nat_eq entries 0 ≡ is_first es
first_of entries [] counted = ap (λ (n : ℕ). nat_eq n 0) counted
first_of entries (e ∷ es) counted = ap (λ (n : ℕ). nat_eq n 0) counted ∙ eqb-suc-zero (length es)

pub place_first : (entries at : ℕ) (es : List Entry) → entries ≡ length es → entries ≡ 0 → at ≡ 0 → at ≡ journal_end es
place_first entries at [] counted none at_is = at_is
place_first entries at (e ∷ es) counted none at_is = absurd (omega (arith, counted, none))

pub place_later : (entries at bytes : ℕ) (es : List Entry) → entries ≡ length es → entries ≢ 0 → at ≡ bytes
    → bytes ≡ length (journal_text es) → at ≡ journal_end es
place_later entries at bytes [] counted some at_is bytes_is = absurd (some counted)
place_later entries at bytes (e ∷ es) counted some at_is bytes_is = at_is ∙ bytes_is

-- ---- what a put comes to

pub noted_kept : {e : Entry} {at : ℕ} {piece : List ℕ} {list list' : List Noted} {kept kept' : Option (List ℕ)}
    {failures failures' : ℕ} (n : Noting) → n ≡ noting.Kept
    → IsNoted e at piece list list' kept kept' failures failures' n
    → IsKept e at piece list list' kept kept' failures failures'
noted_kept {e} {at} {piece} {list} {list'} {kept} {kept'} {failures} {failures'} n is put =
    subst (IsNoted e at piece list list' kept kept' failures failures') is put

pub noted_marked : {e : Entry} {at : ℕ} {piece : List ℕ} {list list' : List Noted} {kept kept' : Option (List ℕ)}
    {failures failures' : ℕ} (n : Noting) (before after : ℕ) → n ≡ noting.Marked before after
    → IsNoted e at piece list list' kept kept' failures failures' n
    → IsMarked e before after at piece list list' kept kept' failures failures'
noted_marked {e} {at} {piece} {list} {list'} {kept} {kept'} {failures} {failures'} n before after is put =
    subst (IsNoted e at piece list list' kept kept' failures failures') is put

-- the piece of a mark's entry, which was torn
pub torn_behind : {e : Entry} {before after : ℕ} {at : ℕ} {piece : List ℕ} {list list' : List Noted}
    {kept kept' : Option (List ℕ)} {failures failures' : ℕ} (es : List Entry) (entry : Entry)
    → at ≡ journal_end es → piece ≡ piece_of (is_first es) entry
    → IsMarked e before after at piece list list' kept kept' failures failures' → IsTornBehind es entry kept kept'
torn_behind {e} {before} {after} {at} {piece} {list} {list'} {kept} {kept'} {failures} {failures'} es entry
    at_is piece_is
    put =
    subst (λ (n : ℕ). IsTornPut kept kept' n (piece_of (is_first es) entry)) at_is
    (subst (λ (p : List ℕ). IsTornPut kept kept' at p) piece_is put.kept_is)
