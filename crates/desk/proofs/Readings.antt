-- A list of bytes has at most one reading as whole entries and a torn rest.
use Rattle.std.proofs.Common.{◌≡◌, ℕ, List, [], ◌∷◌, ◌++◌, length, get_or, drop, refl, sym, ap, ◌∙◌, append_assoc, arith}
use Rattle.desk.specs.Journal.{four, field_text, entry_text, entries_text, HasOneReading}
use Rattle.desk.specs.declared.entry.Entry.{Entry}

pub four_front : (n m : ℕ) (x y : List ℕ) → four n ++ x ≡ four m ++ y → (n ≡ m) × (x ≡ y)
four_front n m x y same =
    let a = ap (λ (l : List ℕ). get_or l 0 0) same in
    let b = ap (λ (l : List ℕ). get_or l 1 0) same in
    let c = ap (λ (l : List ℕ). get_or l 2 0) same in
    let d = ap (λ (l : List ℕ). get_or l 3 0) same in
    (omega (arith, a, b, c, d), ap (λ (l : List ℕ). drop 4 l) same)

parts_same : (a b x y : List ℕ) → length a ≡ length b → a ++ x ≡ b ++ y → (a ≡ b) × (x ≡ y)
parts_same [] [] x y long same = (refl, same)
parts_same [] (q ∷ b) x y long same = absurd (omega (arith, long))
parts_same (p ∷ a) [] x y long same = absurd (omega (arith, long))
parts_same (p ∷ a) (q ∷ b) x y long same =
    let rest = parts_same a b x y (omega (arith, long)) (ap (λ (l : List ℕ). drop 1 l) same) in
    (ap (λ (h : ℕ). h ∷ a) (ap (λ (l : List ℕ). get_or l 0 0) same) ∙ ap (λ (l : List ℕ). q ∷ l) rest.0, rest.1)

pub field_front : (a b x y : List ℕ) → field_text a ++ x ≡ field_text b ++ y → (a ≡ b) × (x ≡ y)
field_front a b x y same =
    let front = four_front (length a) (length b) (a ++ x) (b ++ y) same in
    parts_same a b x y front.0 front.1

pub text_before : (entry : Entry) (x : List ℕ)
    → entry_text entry ++ x ≡ four entry.caller ++ (field_text entry.user ++ (field_text entry.project
    ++ (field_text entry.target ++ (field_text entry.body ++ x))))
text_before entry x =
    append_assoc (four entry.caller) (field_text entry.user ++ (field_text entry.project ++ (field_text entry.target
    ++ field_text entry.body))) x
    ∙ ap (λ (l : List ℕ). four entry.caller ++ l) (append_assoc (field_text entry.user) (field_text
    entry.project ++ (field_text entry.target
    ++ field_text entry.body)) x
    ∙ ap (λ (l : List ℕ). field_text entry.user ++ l) (append_assoc (field_text entry.project) (field_text
    entry.target ++ field_text entry.body) x
    ∙ ap (λ (l : List ℕ). field_text entry.project ++ l)
    (append_assoc (field_text entry.target) (field_text entry.body) x)))

abbrev entry_with : ℕ → List ℕ → List ℕ → List ℕ → List ℕ → Entry
entry_with caller user project target body = record {
  caller = caller;
  user = user;
  project = project;
  target = target;
  body = body;
}

same_entry : {c d : ℕ} {u v p q t r b s : List ℕ} → c ≡ d → u ≡ v → p ≡ q → t ≡ r → b ≡ s
    → entry_with c u p t b ≡ entry_with d v q r s
same_entry {c} {d} {u} {v} {p} {q} {t} {r} {b} {s} caller user project target body =
    ap (λ x. entry_with x u p t b) caller ∙ ap (λ x. entry_with d x p t b) user ∙ ap (λ x. entry_with d v x t b) project
    ∙ ap (λ x. entry_with d v q x b) target ∙ ap (λ x. entry_with d v q r x) body

-- two entries before two rests
pub entry_front : (entry other : Entry) (x y : List ℕ) → entry_text entry ++ x ≡ entry_text other ++ y
    → (entry ≡ other) × (x ≡ y)
entry_front entry other x y same =
    let (caller, later) = four_front entry.caller other.caller _ _
    (sym (text_before entry x) ∙ same ∙ text_before other y) in
    let (user, more) = field_front entry.user other.user _ _ later in
    let (project, others) = field_front entry.project other.project _ _ more in
    let (target, last) = field_front entry.target other.target _ _ others in
    let (body, rest) = field_front entry.body other.body x y last in
    (same_entry caller user project target body, rest)

pub one_reading : HasOneReading
one_reading bytes [] [] rest other reads too = (refl, sym reads.parts ∙ too.parts)
one_reading bytes [] (entry ∷ others) rest other reads too =
    absurd (reads.torn entry (entries_text others ++ other)
    (sym reads.parts ∙ too.parts ∙ append_assoc (entry_text entry) (entries_text others) other))
one_reading bytes (entry ∷ entries) [] rest other reads too =
    absurd (too.torn entry (entries_text entries ++ rest)
    (sym too.parts ∙ reads.parts ∙ append_assoc (entry_text entry) (entries_text entries) rest))
one_reading bytes (entry ∷ entries) (first ∷ others) rest other reads too =
    let (same, behind) = entry_front entry first (entries_text entries ++ rest) (entries_text others ++ other)
    (sym (append_assoc (entry_text entry) (entries_text entries) rest) ∙ sym reads.parts ∙ too.parts
    ∙ append_assoc (entry_text first) (entries_text others) other) in
    let (entries_same, rest_same) = one_reading (entries_text entries ++ rest) entries others rest other
    (record { parts = refl; torn = reads.torn }) (record { parts = behind; torn = too.torn }) in
    (ap (λ (e : Entry). e ∷ entries) same ∙ ap (λ (l : List Entry). first ∷ l) entries_same, rest_same)
