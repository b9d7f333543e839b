-- What is left of a stream whose first bytes are taken.
use Rattle.std.proofs.Common.{◌≡◌, ℕ, List, [], ◌++◌, Option, None, Some, IfSome, refl, sym, ◌∙◌, ap, subst, append_assoc}
use Rattle.sheets_http.specs.declared.request.Next.{Next}
use Rattle.sheets_http.specs.declared.request.Next.TheVariants as next
use Rattle.sheets_http.specs.Laws.{TakesBytes}
use Rattle.sheets_http.specs.Requests.{Buffered, stream_of, IsRequest, IsAnswer}
use Rattle.conversation.specs.Conversation.{LosesFirst}
use Rattle.conversation.specs.Idle.{left_alone}

-- some bytes are taken, and then others
pub left_twice : (stream middle stream' : Option (List ℕ)) → LosesFirst stream middle → LosesFirst middle stream'
    → LosesFirst stream stream'
left_twice None middle stream' first then = tt
left_twice (Some bytes) middle stream' first then =
    let on = subst (λ (s : Option (List ℕ)). LosesFirst s stream') first.2 then in (
      first.0 ++ on.0,
      on.1,
      on.2,
      first.3 ∙ ap (λ (rest : List ℕ). first.0 ++ rest) on.3 ∙ sym (append_assoc first.0 on.0 on.1),
    )

-- a stream that stays
unmoved : (bytes : List ℕ) (stream' : Option (List ℕ)) → Some bytes ≡ stream' → LosesFirst (Some bytes) stream'
unmoved bytes stream' same = subst (λ (s : Option (List ℕ)). LosesFirst (Some bytes) s) same (left_alone (Some bytes))

-- an answer takes the bytes of its request, and without one nothing
pub next_left : TakesBytes → (room room' : ℕ) (stream stream' : Option (List ℕ)) (next : Next)
    → IfSome stream (λ bytes. IsAnswer room bytes room' stream' next) → (¬ (IsRequest next) → stream ≡ stream')
    → LosesFirst stream stream'
next_left parts room room' None stream' next answer same = tt
next_left parts room room' (Some bytes) stream' (next.Request wire) answer same =
    let cut = parts room bytes answer.0 wire answer.1 in (cut.0, answer.0, answer.2, cut.3)
next_left parts room room' (Some bytes) stream' next.End answer same = unmoved bytes stream' (same (λ no. no))
next_left parts room room' (Some bytes) stream' (next.Closed fault) answer same =
    unmoved bytes stream' (same (λ no. no))
next_left parts room room' (Some bytes) stream' (next.Truncated count) answer same =
    unmoved bytes stream' (same (λ no. no))
next_left parts room room' (Some bytes) stream' next.LongTalk answer same = unmoved bytes stream' (same (λ no. no))
next_left parts room room' (Some bytes) stream' next.ReadFault answer same = unmoved bytes stream' (same (λ no. no))
next_left parts room room' (Some bytes) stream' next.NoMemory answer same = unmoved bytes stream' (same (λ no. no))

-- what is held at the end was taken, too
taken_too : (held' : Buffered) (bytes : List ℕ) (left' : Option (List ℕ))
    → LosesFirst (Some bytes) (stream_of held' left')
    → LosesFirst (Some bytes) left'
taken_too held' bytes None loses = let wrong : None ≡ Some loses.1 = loses.2 in cc
taken_too held' bytes (Some rest) loses =
    let is : Some (held'.pending ++ rest) ≡ Some loses.1 = loses.2 in
    let same : held'.pending ++ rest ≡ loses.1 = cc in (
      loses.0 ++ held'.pending,
      rest,
      refl,
      loses.3 ∙ ap (λ (behind : List ℕ). loses.0 ++ behind) (sym same) ∙ sym (append_assoc loses.0 held'.pending rest),
    )

-- what is taken behind an empty buffer is taken of the whole
pub left_of : (held held' : Buffered) (left left' : Option (List ℕ)) → held ≡ record { pending = []; used = 0 }
    → LosesFirst (stream_of held left) (stream_of held' left') → LosesFirst left left'
left_of held held' None left' held_is loses = tt
left_of held held' (Some bytes) left' held_is loses =
    taken_too held' bytes left'
    (subst (λ (h : Buffered). LosesFirst (stream_of h (Some bytes)) (stream_of held' left')) held_is loses)
