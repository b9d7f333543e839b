-- Numbers, fields and entries at the front of bytes.
use Rattle.std.proofs.Common.{◌≡◌, ℕ, ◌/◌, ◌%◌, ◌<◌, ◌≤◌, ◌^◌, List, [], ◌∷◌, ◌++◌, length, get_or, take, drop, sym, ap, subst, ⊎_elim, ◌∙◌, arith, length-append}
use Rattle.std.specs.Prelude.{◌≢◌}
use Rattle.std.specs.Int.{w32, from_be_bytes}
use Rattle.std.proofs.lemmas.Nat.{be_bytes_4}
use Rattle.std.proofs.lemmas.List.{take-append-drop, get_or-take, get_or_past, length-take-le}
use Rattle.std.proofs.lemmas.Bool.{cases_lt}
use Rattle.desk.specs.declared.entry.Entry.{Entry}
use Rattle.desk.specs.Journal.{four, field_text, entry_text, IsTorn}
use Rattle.desk.proofs.Readings.{four_front, field_front, text_before}

-- the number that four bytes are
pub four_of : (bytes : List ℕ) (number : ℕ) → length bytes ≡ 4 → ((i : ℕ) → get_or bytes i 0 < 256)
    → number ≡ from_be_bytes w32 bytes → number < 2 ^ 32 → four number ≡ bytes
four_of bytes number long small is fits =
    ap (λ (first : ℕ). first ∷ number / 65536 % 256 ∷ number / 256 % 256 ∷ number % 256 ∷ [])
    (let first : number / 16777216 ≡ number / 16777216 % 256 = omega arith in first)
    ∙ be_bytes_4 bytes number long small is

-- the first four bytes are their number's, and the others stand behind them
pub number_parts : (bytes front back : List ℕ) (number : ℕ) → 4 ≤ length bytes → ((i : ℕ) → get_or bytes i 0 < 256)
    → front ≡ take 4 bytes → back ≡ drop 4 bytes → number ≡ from_be_bytes w32 front → number < 2 ^ 32
    → bytes ≡ four number ++ back
number_parts bytes front back number long small front_is back_is is fits =
    sym (take-append-drop 4 bytes)
    ∙ ap (λ (l : List ℕ). l ++ drop 4 bytes) (sym (four_of (take 4 bytes) number (length-take-le 4 bytes long) each
    (is ∙ ap (λ (l : List ℕ). from_be_bytes w32 l) front_is) fits))
    ∙ ap (λ (l : List ℕ). four number ++ l) (sym back_is)
  where
    each : (i : ℕ) → get_or (take 4 bytes) i 0 < 256
    each i = ⊎_elim
        (λ (less : i < 4). subst (λ (n : ℕ). n < 256) (sym (get_or-take 4 bytes i 0 less)) (small i))
        (λ (more : 4 ≤ i). subst (λ (n : ℕ). n < 256)
        (sym (get_or_past (take 4 bytes) i 0 (let four_long = length-take-le 4 bytes long in
        omega (arith, more, four_long))))
        (omega arith))
        (cases_lt i 4)

-- bytes that are too few for a number
pub too_few : (bytes : List ℕ) → length bytes < 4 → (number : ℕ) (behind : List ℕ) → bytes ≢ four number ++ behind
too_few bytes few number behind is =
    let long = ap (λ (l : List ℕ). length l) is in omega (arith, few, long)

-- a length, and fewer bytes behind it
pub field_cut : (bytes rest : List ℕ) (number : ℕ) → bytes ≡ four number ++ rest → length rest < number
    → (field : List ℕ) (behind : List ℕ) → bytes ≢ field_text field ++ behind
field_cut bytes rest number is few field behind other =
    let (same, later) = four_front number (length field) rest (field ++ behind) (sym is ∙ other) in
    let long = ap (λ (l : List ℕ). length l) later ∙ length-append field behind in
    omega (arith, few, same, long)

-- a length, and so many bytes behind it
pub field_whole : (bytes rest front back : List ℕ) (number : ℕ) → bytes ≡ four number ++ rest → front ≡ take number rest
    → back ≡ drop number rest → length front ≡ number → bytes ≡ field_text front ++ back
field_whole bytes rest front back number is front_is back_is long =
    is ∙ ap (λ (n : ℕ). four n ++ rest) (sym long)
    ∙ ap (λ (l : List ℕ). four (length front) ++ l) (sym (take-append-drop number rest)
    ∙ ap (λ (l : List ℕ). l ++ drop number rest) (sym front_is) ∙ ap (λ (l : List ℕ). front ++ l) (sym back_is))

-- ---- an entry, one part after another

-- what stands behind the caller, the user, the project and the target of an entry
abbrev behind_target : Entry → List ℕ → List ℕ
behind_target entry behind = field_text entry.body ++ behind

abbrev behind_project : Entry → List ℕ → List ℕ
behind_project entry behind = field_text entry.target ++ behind_target entry behind

abbrev behind_user : Entry → List ℕ → List ℕ
behind_user entry behind = field_text entry.project ++ behind_project entry behind

abbrev behind_caller : Entry → List ℕ → List ℕ
behind_caller entry behind = field_text entry.user ++ behind_user entry behind

after_caller : (bytes rest : List ℕ) (caller : ℕ) → bytes ≡ four caller ++ rest → (entry : Entry) (behind : List ℕ)
    → bytes ≡ entry_text entry ++ behind → rest ≡ behind_caller entry behind
after_caller bytes rest caller is entry behind other =
    (four_front caller entry.caller rest (behind_caller entry behind) (sym is ∙ other ∙ text_before entry behind)).1

after_field : (bytes rest field other behind : List ℕ) → bytes ≡ field_text field ++ rest
    → bytes ≡ field_text other ++ behind → rest ≡ behind
after_field bytes rest field other behind is also = (field_front field other rest behind (sym is ∙ also)).1

-- no field stands there
abbrev NoField : List ℕ → Type 0
NoField bytes = (field : List ℕ) (behind : List ℕ) → bytes ≢ field_text field ++ behind

pub torn_caller : (bytes : List ℕ) → ((number : ℕ) (behind : List ℕ) → bytes ≢ four number ++ behind) → IsTorn bytes
torn_caller bytes none entry behind is = none entry.caller (behind_caller entry behind) (is ∙ text_before entry behind)

module _ (bytes r : List ℕ) (caller : ℕ) (caller_is : bytes ≡ four caller ++ r) where
  pub torn_user : NoField r → IsTorn bytes
  torn_user none entry behind is =
      none entry.user (behind_user entry behind) (after_caller bytes r caller caller_is entry behind is)

  module _ (s user : List ℕ) (user_is : r ≡ field_text user ++ s) where
    after_user : (entry : Entry) (behind : List ℕ) → bytes ≡ entry_text entry ++ behind → s ≡ behind_user entry behind
    after_user entry behind is = after_field r s user entry.user (behind_user entry behind) user_is
        (after_caller bytes r caller caller_is entry behind is)

    pub torn_project : NoField s → IsTorn bytes
    torn_project none entry behind is =
        none entry.project (behind_project entry behind) (after_user entry behind is)

    module _ (t project : List ℕ) (project_is : s ≡ field_text project ++ t) where
      after_project : (entry : Entry) (behind : List ℕ) → bytes ≡ entry_text entry ++ behind
          → t ≡ behind_project entry behind
      after_project entry behind is = after_field s t project entry.project (behind_project entry behind) project_is
          (after_user entry behind is)

      pub torn_target : NoField t → IsTorn bytes
      torn_target none entry behind is =
          none entry.target (behind_target entry behind) (after_project entry behind is)

      module _ (u target : List ℕ) (target_is : t ≡ field_text target ++ u) where
        pub torn_body : NoField u → IsTorn bytes
        torn_body none entry behind is =
            none entry.body behind (after_field t u target entry.target (behind_target entry behind) target_is
            (after_project entry behind is))

        -- the whole entry
        pub whole_entry : (v body : List ℕ) → u ≡ field_text body ++ v → (entry : Entry)
            → entry ≡ record { caller = caller; user = user; project = project; target = target; body = body }
            → bytes ≡ entry_text entry ++ v
        whole_entry v body body_is entry entry_is =
            caller_is ∙ ap (λ (l : List ℕ). four caller ++ l) (user_is
            ∙ ap (λ (l : List ℕ). field_text user ++ l) (project_is
            ∙ ap (λ (l : List ℕ). field_text project ++ l) (target_is
            ∙ ap (λ (l : List ℕ). field_text target ++ l) body_is)))
            ∙ sym (text_before the_entry v) ∙ ap (λ (e : Entry). entry_text e ++ v) (sym entry_is)
          where
            the_entry : Entry
            the_entry = record { caller = caller; user = user; project = project; target = target; body = body }
