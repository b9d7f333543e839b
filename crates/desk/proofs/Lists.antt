-- Told lists, their entries and journals, one item longer.
use Rattle.std.proofs.Common.{◌≡◌, ℕ, ◌+◌, ◌≤◌, List, [], ◌∷◌, ◌++◌, length, refl, sym, ap, ◌∙◌, append_assoc, arith, length-append}
use Rattle.std.proofs.lemmas.List.{append-nil}
use Rattle.desk.specs.declared.entry.Entry.{Entry}
use Rattle.desk.specs.declared.entry.Ask.{Ask}
use Rattle.desk.specs.declared.entry.Noted.{Noted}
use Rattle.desk.specs.declared.entry.Noted.TheVariants as noted
use Rattle.desk.specs.Journal.{heading, field_text, entry_text, entries_text, journal_text}
use Rattle.desk.specs.Steps.{entry_of}
use Rattle.desk.specs.Points.{last_counted, marked_last}

pub counted_entry : (count : ℕ) (list : List Noted) (e : Entry)
    → last_counted count (list ++ noted.Entry e ∷ []) ≡ last_counted count list
counted_entry count [] e = refl
counted_entry count (noted.Entry first ∷ list) e = counted_entry count list e
counted_entry count (noted.Mark first before after ∷ list) e = counted_entry after list e

pub counted_mark : (count : ℕ) (list : List Noted) (e : Entry) (b a : ℕ)
    → last_counted count (list ++ noted.Mark e b a ∷ []) ≡ a
counted_mark count [] e b a = refl
counted_mark count (noted.Entry first ∷ list) e b a = counted_mark count list e b a
counted_mark count (noted.Mark first before after ∷ list) e b a = counted_mark after list e b a

pub text_entry : (es : List Entry) (e : Entry) → entries_text (es ++ e ∷ []) ≡ entries_text es ++ entry_text e
text_entry [] e = append-nil (entry_text e)
text_entry (first ∷ es) e =
    ap (λ (l : List ℕ). entry_text first ++ l) (text_entry es e)
    ∙ sym (append_assoc (entry_text first) (entries_text es) (entry_text e))

pub journal_entry : (es : List Entry) (e : Entry) → journal_text (es ++ e ∷ []) ≡ journal_text es ++ entry_text e
journal_entry es e = ap (λ (l : List ℕ). heading ++ l) (text_entry es e)

pub journal_length : (es : List Entry) (e : Entry)
    → length (journal_text (es ++ e ∷ [])) ≡ length (journal_text es) + length (entry_text e)
journal_length es e = ap (λ (l : List ℕ). length l) (journal_entry es e) ∙ length-append (journal_text es)
    (entry_text e)

-- how many bytes an entry has
pub entry_length : (e : Entry)
    → length (entry_text e) ≡ 20 + length e.user + length e.project + length e.target + length e.body
entry_length e =
    let a = length-append e.user (field_text e.project ++ (field_text e.target ++ field_text e.body)) in
    let b = length-append e.project (field_text e.target ++ field_text e.body) in
    let c = length-append e.target (field_text e.body) in
    omega (arith, a, b, c)

-- the caller's number doesn't change the length of an entry
pub size_same : (number other : ℕ) (ask : Ask)
    → length (entry_text (entry_of number ask)) ≡ length (entry_text (entry_of other ask))
size_same number other ask = refl

-- an entry has bytes
pub few_entries : (es : List Entry) → length es ≤ length (entries_text es)
few_entries [] = omega arith
few_entries (e ∷ es) =
    let more = few_entries es in
    let long = length-append (entry_text e) (entries_text es) in
    omega (arith, more, long)

-- a mark more
pub marked_more : (marks : List Entry) (list : List Noted) (e : Entry) (b a : ℕ)
    → marked_last marks (list ++ noted.Mark e b a ∷ []) ≡ marked_last marks list ++ e ∷ []
marked_more marks [] e b a = refl
marked_more marks (noted.Entry first ∷ list) e b a = marked_more [] list e b a
marked_more marks (noted.Mark first before after ∷ list) e b a = marked_more (marks ++ first ∷ []) list e b a
