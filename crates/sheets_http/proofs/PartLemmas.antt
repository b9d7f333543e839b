-- Each stream has a talk, and its requests are the stream's first bytes.
use Rattle.std.proofs.Common.{◌≡◌, ℕ, zero, suc, ◌+◌, ◌-◌, ◌<◌, ◌≤◌, ◌⊎◌, inl, inr, Bool, true, false, List, [], ◌∷◌, ◌++◌, length, take, drop, refl, sym, ap, ◌∙◌, subst, arith, append_assoc}
use Rattle.std.specs.Prelude.{Result, Ok, Err, nat_le, if◌then◌else◌, MatchBool}
use Rattle.std.proofs.lemmas.Bool.{leb-true, cases_lt}
use Rattle.std.proofs.lemmas.List.{length-append, length-take, take-append-drop}
use Rattle.httparse.specs.Grammar.{RequestHead, ReadsRequest}
use Rattle.sheets_http.specs.declared.request.Wire.{Wire}
use Rattle.sheets_http.specs.declared.request.HeadFault.{HeadFault}
use Rattle.sheets_http.specs.declared.request.HeadFault.TheVariants.{HeadLong, BadHead}
use Rattle.sheets_http.specs.declared.scan.HeadState.{HeadState}
use Rattle.sheets_http.specs.declared.scan.HeadState.TheVariants.{Growing, Whole, TooLong}
use Rattle.sheets_http.specs.Heads.{is_break, skip_breaks, is_too_long, head_state, SettledAt, IsNoHead}
use Rattle.sheets_http.specs.BodyLengths.{body_length_of}
use Rattle.sheets_http.specs.Framing.{FirstMessage, complete_message, refused_message, incomplete_message, wire_of, with_body, of_head, of_no_head, BeginsWith, growing, too_long, whole_head, End, asked, StreamNext, request_and_rest, talk_end, next_of, IsNext, Talk}
use Rattle.sheets_http.proofs.LawLemmas.{request_is_no_end}
use Rattle.sheets_http.specs.Laws.{HasTalk, IsRequestText, TakesBytes, AreRequestTexts, EndsTalk, by_request, by_stream, HoldsRequests}

-- ---- a part of the stream

-- a whole request is no other beginning
whole_is_not_refused : {wire : Wire} {rest : List ℕ} {fault : HeadFault}
    → complete_message wire rest ≡ refused_message fault → ⊥
whole_is_not_refused e = cc

whole_is_finished : {wire : Wire} {rest : List ℕ} → complete_message wire rest ≡ incomplete_message → ⊥
whole_is_finished e = cc

-- behind a head stand the body of its request and the rest
abbrev BodyStands : Result ℕ HeadFault → RequestHead → List ℕ → List ℕ → Wire → Type 0
BodyStands size_or h after rest wire =
    (body : List ℕ) × (size_or ≡ Ok (length body)) × (wire ≡ wire_of h body) × (after ≡ body ++ rest)

body_stands : (size_or : Result ℕ HeadFault) (h : RequestHead) (after rest : List ℕ) (wire : Wire)
    → complete_message wire rest ≡ with_body size_or h after → BodyStands size_or h after rest wire
body_stands (Err fault) h after rest wire e = absurd (whole_is_not_refused e)
body_stands (Ok size) h after rest wire e = go (nat_le size (length after)) refl e
  where
    go : (x : Bool) → nat_le size (length after) ≡ x → complete_message wire rest
        ≡ (if x then complete_message (wire_of h (take size after)) (drop size after) else incomplete_message)
        → BodyStands (Ok size) h after rest wire
    go true fits e =
        let near : size ≤ length after = leb-true size (length after) fits in
        let count : length (take size after) ≡ size = omega (arith, length-take size after, near) in
        let same : complete_message wire rest ≡ complete_message (wire_of h (take size after)) (drop size after) = e in
        let behind_it : drop size after ≡ rest = cc in (
          take size after,
          ap Ok (sym count),
          cc,
          sym (take-append-drop size after) ∙ ap (λ (t : List ℕ). take size after ++ t) behind_it,
        )
    go false fits e = absurd (whole_is_finished e)

-- the breaks that are passed over
passed_over : (bytes : List ℕ) → (breaks : List ℕ) × (skip_breaks breaks ≡ []) × (bytes ≡ breaks ++ skip_breaks bytes)
passed_over [] = ([], refl, refl)
passed_over (b ∷ bytes) = go (is_break b) refl (passed_over bytes)
  where
    go : (x : Bool) → is_break b ≡ x
        → (breaks : List ℕ) × (skip_breaks breaks ≡ []) × (bytes ≡ breaks ++ skip_breaks bytes)
        → (breaks : List ℕ) × (skip_breaks breaks ≡ []) × (b ∷ bytes ≡ breaks ++ skip_breaks (b ∷ bytes))
    go true e (breaks, only, is) =
        (b ∷ breaks, rw e only, rw e (ap (λ (t : List ℕ). b ∷ t) is))
    go false e found = ([], refl, rw e refl)

-- a whole head has bytes
pub whole_has_bytes : (bytes : List ℕ) → head_state bytes ≡ Whole → 0 < length bytes
unfolding is_too_long
whole_has_bytes [] e = let wrong : Growing ≡ Whole = e in cc
whole_has_bytes (b ∷ bytes) e = omega arith

-- what a list is, of which both parts are made of two
in_four : (near part after breaks read body rest : List ℕ) → near ≡ part ++ after → part ≡ breaks ++ read
    → after ≡ body ++ rest → near ≡ (breaks ++ (read ++ body)) ++ rest
in_four near part after breaks read body rest e f g = rw (e, f, g) (simp append_assoc)

-- the parts of a request's bytes
request_text : (wire : Wire) (h : RequestHead) (breaks read body : List ℕ) → skip_breaks breaks ≡ []
    → ReadsRequest read h [] → body_length_of h ≡ Ok (length body) → wire ≡ wire_of h body
    → IsRequestText wire (breaks ++ (read ++ body))
request_text wire h breaks read body only reads size is =
    subst (λ (w : Wire). IsRequestText w (breaks ++ (read ++ body))) (sym is) (record {
      breaks = breaks;
      head_text = read;
      head = h;
      only_breaks = only;
      reads = reads;
      length_is = size;
      wire_is = refl;
      text_is = refl;
    })

front_text : (near rest : List ℕ) (wire : Wire) → BeginsWith near (complete_message wire rest)
    → (text : List ℕ) × IsRequestText wire text × (0 < length text) × (near ≡ text ++ rest)
front_text near rest wire (growing none e) = absurd (whole_is_finished e)
front_text near rest wire (too_long n s e) = absurd (whole_is_not_refused e)
front_text near rest wire (whole_head n s (of_no_head none e)) = absurd (whole_is_not_refused e)
front_text near rest wire (whole_head n s (of_head h reads e)) =
    let part = take n near in
    let read = skip_breaks part in
    let (body, size, is, after) = body_stands (body_length_of h) h (drop n near) rest wire e in
    let (breaks, only, part_is) = passed_over part in
    let some = whole_has_bytes part s.here in
    let long : length part ≡ length breaks + length read = ap length part_is ∙ length-append breaks read in (
      breaks ++ (read ++ body),
      request_text wire h breaks read body only reads size is,
      omega (arith, some, long, length-append breaks (read ++ body), length-append read body),
      in_four near part (drop n near) breaks read body rest (sym (take-append-drop n near)) part_is after,
    )

pub parts : TakesBytes
parts room bytes rest wire (complete_message w r, is, told) =
    let found = front_text (take room bytes) r w is in
    let same : w ≡ wire = cc in
    let behind_it : rest ≡ r ++ drop room bytes = cc in (
      found.0,
      subst (λ (w : Wire). IsRequestText w found.0) same found.1,
      found.2,
      sym (take-append-drop room bytes)
          ∙ ap (λ (t : List ℕ). t ++ drop room bytes) found.3
          ∙ append_assoc found.0 r (drop room bytes)
          ∙ ap (λ (t : List ℕ). found.0 ++ t) (sym behind_it),
    )
parts room bytes rest wire (refused_message fault, is, told) = absurd (request_is_no_end told)
parts room bytes rest wire (incomplete_message, is, told) = absurd (request_is_no_end told)

-- ---- the whole stream

-- what is said of a stream that holds the requests
abbrev Holds : ℕ → List ℕ → List Wire → End → Type 0
Holds room bytes wires end =
    (text left : List ℕ) × AreRequestTexts wires text × (bytes ≡ text ++ left)
    × EndsTalk (room - length text) left end

first_and_others : (room : ℕ) (bytes rest text : List ℕ) (wire : Wire) (wires : List Wire) (end : End)
    → IsRequestText wire text → bytes ≡ text ++ rest → Holds (room - (length bytes - length rest)) rest wires end
    → Holds room bytes (wire ∷ wires) end
first_and_others room bytes rest text wire wires end first is (others, left, texts, behind_it, ends) = (
  text ++ others,
  left,
  (text, others, first, texts, refl),
  is ∙ ap (λ (t : List ℕ). text ++ t) behind_it ∙ sym (append_assoc text others left),
  subst (λ n. EndsTalk n left end) bound ends,
)
  where
    bound : (room - (length bytes - length rest)) - length others ≡ room - length (text ++ others)
    bound = omega (arith, ap length is, length-append text rest, length-append text others)

-- behind a request that closes there is nothing, and else the others
others_hold : (close : Bool) (room : ℕ) (rest : List ℕ) (wires : List Wire) (end : End)
    → MatchBool close ((wires ≡ []) × (end ≡ asked)) (Talk room rest wires end)
    → (Talk room rest wires end → Holds room rest wires end) → Holds room rest wires end
others_hold true room rest wires end (none, is) holds = ([], rest, rw none refl, refl, by_request is)
others_hold false room rest wires end talk holds = holds talk

pub whole : HoldsRequests
whole room bytes [] end next =
    let all : room ≡ room - 0 = omega arith in
    ([], bytes, refl, refl, by_stream (subst (λ n. IsNext n bytes (talk_end end)) all next))
whole room bytes (wire ∷ wires) end (rest, is, talk) =
    let (text, first, some, cut) = parts room bytes rest wire is in
    let left : ℕ = room - (length bytes - length rest) in
    first_and_others room bytes rest text wire wires end first cut
    (others_hold wire.close left rest wires end talk (λ t. whole left rest wires end t))

-- ---- a stream has a talk

-- the bytes settle somewhere how a head stands
abbrev Settles : List ℕ → Type 0
Settles bytes = ((n : ℕ) × SettledAt bytes n Whole) ⊎ ((n : ℕ) × SettledAt bytes n TooLong)

-- none of the first parts settles it
abbrev IsOpenTo : ℕ → List ℕ → Type 0
IsOpenTo end bytes = (m : ℕ) → m ≤ end → head_state (take m bytes) ≡ Growing

settles_or_open : (bytes : List ℕ) (end : ℕ) → end ≤ length bytes → Settles bytes ⊎ IsOpenTo end bytes
unfolding is_too_long
settles_or_open bytes zero near = inr (λ m below. let none : m ≡ 0 = omega arith in rw none refl)
settles_or_open bytes (suc end) near = next (settles_or_open bytes end (omega (arith, near)))
  where
    here : (how : HeadState) → head_state (take (suc end) bytes) ≡ how → IsOpenTo end bytes
        → Settles bytes ⊎ IsOpenTo (suc end) bytes
    here Growing e unsettled = inr (λ m below. elim (cases_lt m (suc end)) [
      | inl less ↦ unsettled m (omega (arith, less))
      | inr more ↦ let same : m ≡ suc end = omega arith in rw same e
    ])
    here Whole e unsettled =
        inl (inl (suc end, record { within = near; before = λ m below. unsettled m (omega (arith, below)); here = e }))
    here TooLong e unsettled =
        inl (inr (suc end, record { within = near; before = λ m below. unsettled m (omega (arith, below)); here = e }))

    next : Settles bytes ⊎ IsOpenTo end bytes → Settles bytes ⊎ IsOpenTo (suc end) bytes
    next (inl settled) = inl settled
    next (inr unsettled) = here (head_state (take (suc end) bytes)) refl unsettled

-- bytes begin with something
has_front : (bytes : List ℕ) → ¬ ((front : FirstMessage) → ¬ (BeginsWith bytes front))
has_front bytes none = go (settles_or_open bytes (length bytes) (omega arith))
  where
    go : Settles bytes ⊎ IsOpenTo (length bytes) bytes → ⊥
    go (inr unsettled) = none incomplete_message (growing unsettled refl)
    go (inl (inr (n, stands))) = none (refused_message HeadLong) (too_long n stands refl)
    go (inl (inl (n, stands))) =
        let no_head : IsNoHead (skip_breaks (take n bytes)) =
        λ h reads. none (with_body (body_length_of h) h (drop n bytes)) (whole_head n stands (of_head h reads refl)) in
        none (refused_message BadHead) (whole_head n stands (of_no_head no_head refl))

-- no talk of the stream
abbrev HasNone : ℕ → List ℕ → Type 0
HasNone room bytes = (wires : List Wire) → (end : End) → ¬ (Talk room bytes wires end)

-- nothing goes on behind a request, though what stands behind it has a talk
none_behind : (close : Bool) (room : ℕ) (rest : List ℕ)
    → ((wires : List Wire) → (end : End) → ¬ (MatchBool close ((wires ≡ []) × (end ≡ asked))
    (Talk room rest wires end)))
    → ¬ (HasNone room rest) → ⊥
none_behind true room rest none has = none [] asked (refl, refl)
none_behind false room rest none has = has none

next_has_none : (size room : ℕ) (bytes : List ℕ) (told : StreamNext) → length bytes < suc size
    → ((room : ℕ) (rest : List ℕ) → length rest < size → ¬ (HasNone room rest))
    → HasNone room bytes → IsNext room bytes told → ⊥
next_has_none size room bytes (talk_end end) short has none is = none [] end is
next_has_none size room bytes (request_and_rest wire rest) short has none is =
    let (text, first, some, cut) = parts room bytes rest wire is in
    let shorter : length rest < size = omega (arith, short, some, ap length cut, length-append text rest) in
    let left : ℕ = room - (length bytes - length rest) in
    none_behind wire.close left rest (λ wires end talk. none (wire ∷ wires) end (rest, is, talk))
    (has left rest shorter)

has_talk_within : (size room : ℕ) (bytes : List ℕ) → length bytes < size → ¬ (HasNone room bytes)
has_talk_within zero room bytes short none = absurd (omega (arith, short))
has_talk_within (suc size) room bytes short none =
    has_front (take room bytes)
    (λ front is. next_has_none size room bytes (next_of room bytes front) short
    (λ room rest. has_talk_within size room rest) none (front, is, refl))

pub has_talk : HasTalk
has_talk room bytes = has_talk_within (suc (length bytes)) room bytes (omega arith)
