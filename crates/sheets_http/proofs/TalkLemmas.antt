-- What a stream begins with stays so when more bytes follow, and there is one such thing.
use Rattle.std.proofs.Common.{◌≡◌, ℕ, ◌+◌, ◌-◌, ◌<◌, ◌≤◌, Bool, true, false, List, [], ◌++◌, length, take, drop, refl, sym, ap, ◌∙◌, subst, arith}
use Rattle.std.specs.Prelude.{Result, Ok, Err, nat_le, ⊤, if◌then◌else◌}
use Rattle.std.proofs.lemmas.Bool.{le-leb, leb-true, lt-leb}
use Rattle.std.proofs.lemmas.List.{length-take, length-drop, take-take, drop-drop, take-append-le, drop-append-le, length-append, take-append-drop}
use Rattle.httparse.specs.Grammar.{RequestHead, ReadsRequest}
use Rattle.sheets_http.specs.declared.request.HeadFault.{HeadFault}
use Rattle.sheets_http.specs.declared.scan.HeadState.{HeadState}
use Rattle.sheets_http.specs.declared.scan.HeadState.TheVariants.{Whole, TooLong}
use Rattle.sheets_http.specs.Heads.{skip_breaks, SettledAt}
use Rattle.sheets_http.specs.BodyLengths.{body_length_of}
use Rattle.sheets_http.specs.Framing.{FirstMessage, complete_message, refused_message, incomplete_message, wire_of, with_body, IsMessage, of_head, of_no_head, BeginsWith, growing, too_long, whole_head, closed, long_talk, end_of, request_and_rest, talk_end, next_of, IsNext}
use Rattle.sheets_http.proofs.ListLemmas.{take-append}

-- ---- more bytes

-- what the bytes begin with settles what comes next
abbrev pub IsSettled : FirstMessage → Type 0
IsSettled (complete_message wire rest) = ⊤
IsSettled (refused_message fault) = ⊤
IsSettled incomplete_message = ⊥

-- the same with more bytes behind
abbrev pub message_with : FirstMessage → List ℕ → FirstMessage
message_with (complete_message wire rest) more = complete_message wire (rest ++ more)
message_with (refused_message fault) more = refused_message fault
message_with incomplete_message more = incomplete_message

stands-append : (bytes more : List ℕ) (n : ℕ) (how : HeadState) → SettledAt bytes n how
    → SettledAt (bytes ++ more) n how
stands-append bytes more n how s = record {
  within = omega (arith, s.within, length-append bytes more);
  before = λ m below. rw (take-append-le m bytes more (omega (arith, s.within, below))) (s.before m below);
  here = rw (take-append-le n bytes more s.within) s.here;
}

with_body-append : (length_or : Result ℕ HeadFault) (h : RequestHead) (after more : List ℕ)
    → IsSettled (with_body length_or h after)
    → with_body length_or h (after ++ more) ≡ message_with (with_body length_or h after) more
with_body-append (Err fault) h after more settled = refl
with_body-append (Ok size) h after more settled =
    go (nat_le size (length after)) refl settled
  where
    go : (x : Bool) → nat_le size (length after) ≡ x
        → IsSettled (if x then complete_message (wire_of h (take size after)) (drop size after) else incomplete_message)
        → with_body (Ok size) h (after ++ more)
        ≡ message_with (if x then complete_message (wire_of h (take size after)) (drop size after)
        else incomplete_message) more
    go true fits s =
        let some : size ≤ length after = leb-true size (length after) fits in
        rw (
          le-leb size (length (after ++ more)) (omega (arith, length-append after more, some)),
          take-append-le size after more some,
          drop-append-le size after more some,
        )
    go false fits s = absurd s

message-append : (read after more : List ℕ) (message : FirstMessage) → IsSettled message
    → IsMessage read after message → IsMessage read (after ++ more) (message_with message more)
message-append read after more message settled (of_head h reads is) =
    of_head h reads (ap (λ f. message_with f more) is
    ∙ sym (with_body-append (body_length_of h) h after more (subst IsSettled is settled)))
message-append read after more message settled (of_no_head none is) =
    of_no_head none (ap (λ f. message_with f more) is)

-- what is settled by the first bytes of a stream stays, however the reads cut it
pub begins-append : (bytes more : List ℕ) (message : FirstMessage) → IsSettled message → BeginsWith bytes message
    → BeginsWith (bytes ++ more) (message_with message more)
begins-append bytes more message settled (growing none is) = absurd (subst IsSettled is settled)
begins-append bytes more message settled (too_long n stands is) =
    too_long n (stands-append bytes more n TooLong stands) (ap (λ f. message_with f more) is)
begins-append bytes more message settled (whole_head n stands behind_it) =
    whole_head n (stands-append bytes more n Whole stands)
    (rw (take-append-le n bytes more stands.within, drop-append-le n bytes more stands.within)
    (message-append (skip_breaks (take n bytes)) (drop n bytes) more message settled behind_it))

-- the first bytes of a stream settle what comes next in it
pub settled_next : (room : ℕ) (pending rest : List ℕ) (message : FirstMessage) → IsSettled message
    → BeginsWith (take room pending) message
    → IsNext room (pending ++ rest)
    (next_of room (pending ++ rest) (message_with message (take (room - length pending) rest)))
settled_next room pending rest message settled is =
    let more = take (room - length pending) rest in (
      message_with message more,
      subst (λ (t : List ℕ). BeginsWith t (message_with message more)) (sym (take-append room pending rest))
          (begins-append (take room pending) more message settled is),
      refl,
    )

-- ---- what comes next

pub next_refused : (room : ℕ) (pending rest : List ℕ) (fault : HeadFault)
    → BeginsWith (take room pending) (refused_message fault) → IsNext room (pending ++ rest) (talk_end (closed fault))
next_refused room pending rest fault is = settled_next room pending rest (refused_message fault) tt is

-- the bytes behind the request, put together again
rest_is : (room : ℕ) (pending rest : List ℕ) (n : ℕ) → n ≤ length (take room pending)
    → (drop n (take room pending) ++ take (room - length pending) rest) ++ drop room (pending ++ rest)
    ≡ drop n pending ++ rest
rest_is room pending rest n near =
    let short : n ≤ length pending = omega (arith, near, length-take room pending) in
    let inside : n ≤ length (take room (pending ++ rest)) =
    omega (arith, near, length-take room pending, length-take room (pending ++ rest), length-append pending rest) in
    ap (λ (t : List ℕ). t ++ drop room (pending ++ rest))
    (sym (drop-append-le n (take room pending) (take (room - length pending) rest) near)
    ∙ ap (drop n) (sym (take-append room pending rest)))
    ∙ sym (drop-append-le n (take room (pending ++ rest)) (drop room (pending ++ rest)) inside)
    ∙ ap (drop n) (take-append-drop room (pending ++ rest))
    ∙ drop-append-le n pending rest short

pub next_whole : (room : ℕ) (pending rest : List ℕ) (n size : ℕ) (h : RequestHead)
    → SettledAt (take room pending) n Whole → ReadsRequest (skip_breaks (take n (take room pending))) h []
    → body_length_of h ≡ Ok size → n + size ≤ length (take room pending)
    → IsNext room (pending ++ rest)
    (request_and_rest (wire_of h (take size (drop n (take room pending)))) (drop (n + size) pending ++ rest))
next_whole room pending rest n size h stands reads says fits =
    let after = drop n (take room pending) in
    let inside : size ≤ length after = omega (arith, length-drop n (take room pending), fits) in
    let is : complete_message (wire_of h (take size after)) (drop size after) ≡ with_body (body_length_of h) h after =
    rw (says, le-leb size (length after) inside) in
    let message = whole_head n stands (of_head h reads is) in
    let wire = wire_of h (take size after) in
    subst (λ (t : List ℕ). IsNext room (pending ++ rest) (request_and_rest wire t))
    (rest_is room pending rest (n + size) fits)
    (subst (λ (t : List ℕ). IsNext room (pending ++ rest)
    (request_and_rest wire ((t ++ take (room - length pending) rest) ++ drop room (pending ++ rest))))
    (drop-drop size n (take room pending))
    (settled_next room pending rest (complete_message wire (drop size after)) tt message))

-- a body that isn't whole in the bytes at hand
pub unfinished_body : (near : List ℕ) (n size : ℕ) (h : RequestHead)
    → SettledAt near n Whole → ReadsRequest (skip_breaks (take n near)) h [] → body_length_of h ≡ Ok size
    → length near < n + size → BeginsWith near incomplete_message
unfinished_body near n size h stands reads says short =
    let after = drop n near in
    let past : length after < size = omega (arith, length-drop n near, stands.within, short) in
    whole_head n stands (of_head h reads (rw (says, lt-leb size (length after) past)))

pub next_long : (room : ℕ) (pending rest : List ℕ) → BeginsWith (take room pending) incomplete_message
    → room ≤ length pending
    → IsNext room (pending ++ rest) (talk_end long_talk)
next_long room pending rest is long = (
  incomplete_message,
  subst (λ (t : List ℕ). BeginsWith t incomplete_message) (sym (take-append-le room pending rest long)) is,
  rw (le-leb room (length (pending ++ rest)) (omega (arith, length-append pending rest, long))),
)

pub next_end : (room : ℕ) (pending : List ℕ) → BeginsWith (take room pending) incomplete_message → length pending < room
    → IsNext room pending (talk_end (end_of (skip_breaks pending)))
next_end room pending is short = (incomplete_message, is, rw (lt-leb room (length pending) short))

-- more bytes leave a head that was read as it was
pub stands_with_more : (room : ℕ) (old new : List ℕ) (n : ℕ) (how : HeadState)
    → take (length old) new ≡ old → SettledAt (take room old) n how
    → SettledAt (take room new) n how × (take n (take room new) ≡ take n (take room old))
stands_with_more room old new n how kept s =
    let near : n ≤ room = omega (arith, s.within, length-take room old) in
    let inside : n ≤ length old = omega (arith, s.within, length-take room old) in
    let long : length old ≤ length new = omega (arith, ap length kept, length-take (length old) new) in (
      record {
        within = omega (arith, length-take room new, near, inside, long);
        before = λ m below.
            rw (same m (omega (arith, below, near)) (omega (arith, below, inside))) (s.before m below);
        here = rw (same n near inside) s.here;
      },
      same n near inside,
    )
  where
    same : (m : ℕ) → m ≤ room → m ≤ length old → take m (take room new) ≡ take m (take room old)
    same m near inside =
        take-take m room new near ∙ sym (take-take m (length old) new inside)
        ∙ ap (take m) kept ∙ sym (take-take m room old near)
