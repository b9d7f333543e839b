-- The laws of a conversation.
use Rattle.std.proofs.Common.{◌≡◌, ◌≢◌, ℕ, ◌-◌, inl, inr, Bool, true, false, List, [], ◌∷◌, ◌++◌, length, take, drop, refl, sym, ap, ◌∙◌, subst, arith, append-nil, append_assoc}
use Rattle.std.specs.Prelude.{MatchBool}
use Rattle.std.proofs.lemmas.Bool.{cases_lt}
use Rattle.std.proofs.lemmas.List.{length-append, take-append-drop, drop_all}
use Rattle.httparse.specs.Grammar.{RequestHead}
use Rattle.httparse.proofs.GrammarLemmas.{request_unique}
use Rattle.sheets_http.specs.declared.request.Wire.{Wire}
use Rattle.sheets_http.specs.declared.scan.HeadState.{HeadState}
use Rattle.sheets_http.specs.declared.scan.HeadState.TheVariants.{Growing, Whole, TooLong}
use Rattle.sheets_http.specs.Heads.{skip_breaks, head_state, SettledAt, IsUnsettled}
use Rattle.sheets_http.specs.BodyLengths.{body_length_of}
use Rattle.sheets_http.specs.Framing.{FirstMessage, complete_message, refused_message, incomplete_message, with_body, IsMessage, of_head, of_no_head, BeginsWith, growing, too_long, whole_head, End, asked, request_and_rest, talk_end, next_of, IsNext, Talk}
use Rattle.sheets_http.specs.Laws.{HasOneNext, HasOneTalk, KeepsRequests}
use Rattle.sheets_http.proofs.ListLemmas.{drop-append}
use Rattle.sheets_http.proofs.TalkLemmas.{settled_next}
use Rattle.sheets_http.proofs.ScanLemmas.{whole_settles, too_long_settles}

-- ---- one front

-- bytes that settle how a head stands don't leave it open
settled_somewhere : (bytes : List ℕ) (n : ℕ) (how : HeadState) → how ≢ Growing → SettledAt bytes n how
    → IsUnsettled bytes → ⊥
settled_somewhere bytes n how settles s none = settles (sym s.here ∙ none n s.within)

-- and they settle it at one place
one_place : (bytes : List ℕ) (n m : ℕ) (how who : HeadState) → how ≢ Growing → who ≢ Growing
    → SettledAt bytes n how → SettledAt bytes m who → n ≡ m
one_place bytes n m how who settles settles' s t =
    elim (cases_lt n m) [
      | inl less ↦ absurd (settles (sym s.here ∙ t.before n less))
      | inr more ↦ elim (cases_lt m n) [
        | inl less ↦ absurd (settles' (sym t.here ∙ s.before m less))
        | inr same ↦ omega arith
      ]
    ]

too_long_is_not_whole : TooLong ≢ Whole
too_long_is_not_whole e = cc

one_message : (read after : List ℕ) (f g : FirstMessage) → IsMessage read after f → IsMessage read after g → f ≡ g
one_message read after f g (of_head h reads is) (of_head k reads' is') =
    let same = (request_unique read h k [] [] reads reads').0 in
    is ∙ ap (λ (h : RequestHead). with_body (body_length_of h) h after) same ∙ sym is'
one_message read after f g (of_head h reads is) (of_no_head none is') = absurd (none h reads)
one_message read after f g (of_no_head none is) (of_head k reads' is') = absurd (none k reads')
one_message read after f g (of_no_head none is) (of_no_head none' is') = is ∙ sym is'

pub one_first : (bytes : List ℕ) (f g : FirstMessage) → BeginsWith bytes f → BeginsWith bytes g → f ≡ g
one_first bytes f g (growing none is) (growing none' is') = is ∙ sym is'
one_first bytes f g (growing none is) (too_long m t is') =
    absurd (settled_somewhere bytes m TooLong too_long_settles t none)
one_first bytes f g (growing none is) (whole_head m t behind_it) =
    absurd (settled_somewhere bytes m Whole whole_settles t none)
one_first bytes f g (too_long n s is) (growing none is') =
    absurd (settled_somewhere bytes n TooLong too_long_settles s none)
one_first bytes f g (too_long n s is) (too_long m t is') = is ∙ sym is'
one_first bytes f g (too_long n s is) (whole_head m t behind_it) =
    let same = one_place bytes n m TooLong Whole too_long_settles whole_settles s t in
    absurd (too_long_is_not_whole (sym s.here ∙ ap (λ k. head_state (take k bytes)) same ∙ t.here))
one_first bytes f g (whole_head n s behind_it) (growing none is') =
    absurd (settled_somewhere bytes n Whole whole_settles s none)
one_first bytes f g (whole_head n s behind_it) (too_long m t is') =
    let same = one_place bytes m n TooLong Whole too_long_settles whole_settles t s in
    absurd (too_long_is_not_whole (sym t.here ∙ ap (λ k. head_state (take k bytes)) same ∙ s.here))
one_first bytes f g (whole_head n s behind_it) (whole_head m t behind_it') =
    let same = one_place bytes n m Whole Whole whole_settles whole_settles s t in
    one_message (skip_breaks (take m bytes)) (drop m bytes) f g
    (subst (λ k. IsMessage (skip_breaks (take k bytes)) (drop k bytes) f) same behind_it) behind_it'

pub one_next : HasOneNext
one_next room bytes t u (f, is, told) (g, is', told') =
    told ∙ ap (next_of room bytes) (one_first (take room bytes) f g is is') ∙ sym told'

-- a request is no end
pub request_is_no_end : {wire : Wire} {rest : List ℕ} {end : End} → request_and_rest wire rest ≡ talk_end end → ⊥
request_is_no_end e = cc

-- ---- one talk

-- behind a request that closes there is nothing, and else what goes on behind it
goes_on : (close : Bool) (room : ℕ) (rest : List ℕ) (wires others : List Wire) (end other : End)
    → MatchBool close ((wires ≡ []) × (end ≡ asked)) (Talk room rest wires end)
    → MatchBool close ((others ≡ []) × (other ≡ asked)) (Talk room rest others other)
    → (Talk room rest wires end → Talk room rest others other → (wires ≡ others) × (end ≡ other))
    → (wires ≡ others) × (end ≡ other)
goes_on true room rest wires others end other (none, e) (none', e') same = (none ∙ sym none', e ∙ sym e')
goes_on false room rest wires others end other t u same = same t u

pub one_talk : HasOneTalk
one_talk room bytes [] [] end other t u =
    let same : talk_end end ≡ talk_end other = one_next room bytes (talk_end end) (talk_end other) t u in
    (refl, cc)
one_talk room bytes [] (w ∷ others) end other t (rest, is, u) =
    absurd (request_is_no_end (one_next room bytes (request_and_rest w rest) (talk_end end) is t))
one_talk room bytes (w ∷ wires) [] end other (rest, is, t) u =
    absurd (request_is_no_end (one_next room bytes (request_and_rest w rest) (talk_end other) is u))
one_talk room bytes (w ∷ wires) (v ∷ others) end other (rest, is, t) (rest', is', u) =
    let same : request_and_rest v rest' ≡ request_and_rest w rest =
    one_next room bytes (request_and_rest v rest') (request_and_rest w rest) is' is in
    let wire : v ≡ w = cc in
    let behind_it : rest' ≡ rest = cc in
    let near = subst (λ (r : List ℕ). MatchBool v.close ((others ≡ []) × (other ≡ asked))
    (Talk (room - (length bytes - length r)) r others other)) behind_it u in
    let moved = subst (λ (x : Wire). MatchBool x.close ((others ≡ []) × (other ≡ asked))
    (Talk (room - (length bytes - length rest)) rest others other)) wire near in
    let left : ℕ = room - (length bytes - length rest) in
    let rests = goes_on w.close left rest wires others end other t moved
    (λ t u. one_talk left rest wires others end other t u) in
    let first : wires ≡ others = rests.0 in
    (cc, rests.1)

-- ---- a longer stream

-- the rest behind a request goes on in a longer stream
rest_goes_on : (room : ℕ) (bytes more near : List ℕ)
    → (near ++ take (room - length bytes) more) ++ drop room (bytes ++ more) ≡ (near ++ drop room bytes) ++ more
rest_goes_on room bytes more near =
    rw (drop-append room bytes more) (
    elim (cases_lt room (length bytes)) [
      | inl inside ↦
          let none : room - length bytes ≡ 0 = omega arith in
          rw none (simp (append_assoc, append-nil))
      | inr past ↦
          rw (drop_all room bytes past) (simp (append_assoc, append-nil)
          (ap (λ (t : List ℕ). near ++ t) (take-append-drop (room - length bytes) more)))
    ]
    )

request_stays : (room : ℕ) (bytes more rest : List ℕ) (wire : Wire) → IsNext room bytes (request_and_rest wire rest)
    → IsNext room (bytes ++ more) (request_and_rest wire (rest ++ more))
request_stays room bytes more rest wire (complete_message w r, is, told) =
    let same : wire ≡ w = cc in
    let behind_it : rest ≡ r ++ drop room bytes = cc in
    rw (same, behind_it) (
    subst (λ (t : List ℕ). IsNext room (bytes ++ more) (request_and_rest w t)) (rest_goes_on room bytes more r)
    (settled_next room bytes more (complete_message w r) tt is)
    )
request_stays room bytes more rest wire (refused_message fault, is, told) = absurd (request_is_no_end told)
request_stays room bytes more rest wire (incomplete_message, is, told) = absurd (request_is_no_end told)

keeps_on : (close : Bool) (room : ℕ) (rest more : List ℕ) (wires others : List Wire) (end other : End)
    → MatchBool close ((wires ≡ []) × (end ≡ asked)) (Talk room rest wires end)
    → MatchBool close ((others ≡ []) × (other ≡ asked)) (Talk room (rest ++ more) others other)
    → (Talk room rest wires end → Talk room (rest ++ more) others other
    → (later : List Wire) × (others ≡ wires ++ later))
    → (later : List Wire) × (others ≡ wires ++ later)
keeps_on true room rest more wires others end other (none, e) (none', e') keeps =
    ([], none' ∙ sym (ap (λ (w : List Wire). w ++ []) none))
keeps_on false room rest more wires others end other t u keeps = keeps t u

pub longer : KeepsRequests
longer room bytes more [] others end other t u = (others, refl)
longer room bytes more (w ∷ wires) [] end other (rest, is, t) u =
    let stays = request_stays room bytes more rest w is in
    absurd (request_is_no_end (one_next room (bytes ++ more) (request_and_rest w (rest ++ more)) (talk_end other)
    stays u))
longer room bytes more (w ∷ wires) (v ∷ others) end other (rest, is, t) (rest', is', u) =
    let stays = request_stays room bytes more rest w is in
    let same : request_and_rest v rest' ≡ request_and_rest w (rest ++ more) =
    one_next room (bytes ++ more) (request_and_rest v rest') (request_and_rest w (rest ++ more)) is' stays in
    let wire : v ≡ w = cc in
    let behind_it : rest' ≡ rest ++ more = cc in
    let near = subst (λ (r : List ℕ). MatchBool v.close ((others ≡ []) × (other ≡ asked))
    (Talk (room - (length (bytes ++ more) - length r)) r others other)) behind_it u in
    let moved = subst (λ (x : Wire). MatchBool x.close ((others ≡ []) × (other ≡ asked))
    (Talk (room - (length (bytes ++ more) - length (rest ++ more))) (rest ++ more) others other)) wire near in
    let left : ℕ = room - (length bytes - length rest) in
    let bound : room - (length (bytes ++ more) - length (rest ++ more)) ≡ left =
    omega (arith, length-append bytes more, length-append rest more) in
    let level = subst (λ n. MatchBool w.close ((others ≡ []) × (other ≡ asked))
    (Talk n (rest ++ more) others other)) bound moved in
    let rests = keeps_on w.close left rest more wires others end other t level
    (λ t u. longer left rest more wires others end other t u) in
    let later : others ≡ wires ++ rests.0 = rests.1 in
    (rests.0, cc)
