-- What a progress of reading answers is what comes next in the stream.
use Rattle.std.proofs.Common.{◌≡◌, ℕ, ◌+◌, ◌-◌, ◌<◌, ◌≤◌, inl, inr, Bool, true, false, List, [], ◌∷◌, ◌++◌, length, take, drop, refl, sym, ap, ◌∙◌, subst, arith, append-nil}
use Rattle.std.specs.Prelude.{min, Option, Some, None, Result, Ok, Err, IfSome, is_none, unwrap_or, nat_lt, ◌||◌, ◌&&◌, if◌then◌else◌, codes}
use Rattle.std.proofs.lemmas.Bool.{ltb-false}
use Rattle.std.proofs.lemmas.List.{length-append, length-drop, length-take, take-take, drop-take}
use Rattle.httparse.specs.Grammar.{ReadsRequest}
use Rattle.sheets_http.specs.declared.request.Wire.{Wire}
use Rattle.sheets_http.specs.declared.request.HeadFault.{HeadFault}
use Rattle.sheets_http.specs.declared.request.HeadFault.TheVariants.{NoLength, BodyLong}
use Rattle.sheets_http.specs.declared.request.Next.TheVariants as next
use Rattle.sheets_http.specs.declared.summary.HeadSummary.{HeadSummary}
use Rattle.sheets_http.specs.declared.scanned.Scanned.TheVariants as scanned
use Rattle.cell_value.specs.FaultCount.{last_count, Rose}
use Rattle.sheets_http.specs.Heads.{head_limit, skip_breaks}
use Rattle.sheets_http.specs.Fields.{Fields, fields_of, has_field}
use Rattle.sheets_http.specs.BodyLengths.{sends_body, content_length, body_limit, framed, body_length}
use Rattle.sheets_http.specs.declared.request.Next.{Next}
use Rattle.sheets_http.specs.declared.scan.HeadState.TheVariants.{Whole}
use Rattle.sheets_http.specs.Framing.{refused_message, incomplete_message, BeginsWith, wire_of, end_of, ended, closed, truncated, long_talk, IsNext, StreamNext, request_and_rest, talk_end}
use Rattle.sheets_http.specs.Requests.{Buffered, room_of, stream_of, HoldsMessage, IsAnswer, IsAnswerOf, IsExact, answers, no_memory, source_failed}
use Rattle.sheets_http.specs.Buffering.{IsScanned, end_answer}
use Rattle.sheets_http.proofs.HeadLemmas.{settled_early}
use Rattle.sheets_http.proofs.LawLemmas.{one_first, one_next}
use Rattle.sheets_http.proofs.TalkLemmas.{next_refused, next_whole, unfinished_body, next_long, next_end, stands_with_more}

-- what is answered, where the source tells
abbrev pub Answers : ℕ → Buffered → Option (List ℕ) → ℕ → Option (List ℕ) → Next → Type 0
Answers most held left room_after stream_after answer =
    IfSome (stream_of held left) (λ bytes. IsAnswer (room_of most held) bytes room_after stream_after answer)

-- the bound as the code counts what is left of it
pub room_is : (most room used : ℕ) (held : Buffered) → room ≡ most - used → used ≡ held.used → room ≡ room_of most held
room_is most room used held counted same = counted ∙ ap (λ u. most - u) same

pub answer_refused : (most : ℕ) (held : Buffered) (left stream_after : Option (List ℕ)) (room room_after : ℕ)
    (fault : HeadFault) → room ≡ room_of most held → BeginsWith (take room held.pending) (refused_message fault)
    → Answers most held left room_after stream_after (next.Closed fault)
answer_refused most held None stream_after room room_after fault e is = tt
answer_refused most held (Some rest) stream_after room room_after fault e is =
    next_refused (room_of most held) held.pending rest fault
    (subst (λ n. BeginsWith (take n held.pending) (refused_message fault)) e is)

-- ---- a request

-- a body that is served isn't too long
body_is_short : (method : List ℕ) (fields : Fields) (size : ℕ) → body_length method fields ≡ Ok size
    → size ≤ body_limit
body_is_short method fields size e = outer (content_length fields) e
  where
    inner : (x y : Bool) (length : ℕ) → nat_lt body_limit length ≡ y
        → (if x then Err NoLength else (if y then Err BodyLong else Ok length)) ≡ Ok size → size ≤ body_limit
    inner true y length t e = let w : Err NoLength ≡ Ok size = e in cc
    inner false true length t e = let w : Err BodyLong ≡ Ok size = e in cc
    inner false false length t e =
        let same : Ok length ≡ Ok size = e in
        let is : length ≡ size = cc in
        omega (arith, ltb-false body_limit length t)

    outer : (r : Result (Option ℕ) HeadFault) → framed method fields r ≡ Ok size → size ≤ body_limit
    outer (Err fault) e = let w : Err fault ≡ Ok size = e in cc
    outer (Ok length) e =
        inner (has_field (codes "transfer-encoding") fields || (is_none length && sends_body method))
        (nat_lt body_limit (unwrap_or length 0)) (unwrap_or length 0) refl e

-- a head that was read and its body have few bytes
pub few_bytes : (near : List ℕ) (n : ℕ) (summary : HeadSummary) → IsScanned near (Ok (scanned.Head summary n))
    → n + summary.length ≤ head_limit + body_limit
few_bytes near n summary is =
    let h = is.0 in
    let short = body_is_short h.method (fields_of h) summary.length is.3.length_is in
    omega (arith, short, settled_early near n Whole is.1)

-- the request of a summary and a body
abbrev pub wire_of_summary : HeadSummary → List ℕ → Wire
wire_of_summary summary body = record {
  method = summary.method;
  target = summary.target;
  user_token = summary.user_token;
  project = summary.project;
  coded = summary.coded;
  close = summary.close;
  body = body;
}

-- what is held behind the first n bytes
abbrev pub held_behind : Buffered → ℕ → Buffered
held_behind held n = record { pending = drop n held.pending; used = held.used + n }

-- the bytes of a body, in the bytes that the bound leaves
body_bytes : (room n size : ℕ) (pending : List ℕ) → n + size ≤ room
    → take size (drop n (take room pending)) ≡ take size (drop n pending)
body_bytes room n size pending near =
    let split : room ≡ n + (room - n) = omega arith in
    ap (λ k. take size (drop n (take k pending))) split
    ∙ ap (take size) (drop-take n (room - n) pending)
    ∙ take-take size (room - n) (drop n pending) (omega arith)

request_taken : (most : ℕ) (held : Buffered) (left : Option (List ℕ)) (n : ℕ) (summary : HeadSummary)
    → IsScanned (take (room_of most held) held.pending) (Ok (scanned.Head summary n))
    → n + summary.length ≤ length held.pending → n + summary.length ≤ room_of most held
    → Answers most held left
    (room_of most (held_behind held (n + summary.length))) (stream_of (held_behind held (n + summary.length)) left)
    (next.Request (wire_of_summary summary (take summary.length (drop n held.pending))))
request_taken most held None n summary is inside near = tt
request_taken most held (Some rest) n summary is inside near =
    let room : ℕ = room_of most held in
    let size : ℕ = summary.length in
    let h = is.0 in
    let has = is.3 in
    let body = body_bytes room n size held.pending near in
    let same : wire_of h (take size (drop n (take room held.pending)))
    ≡ wire_of_summary summary (take size (drop n held.pending)) =
    cc (has.method_is, has.target_is, has.user_token_is, has.project_is, has.coded_is, has.close_is, body) in
    let told = next_whole room held.pending rest n size h is.1 is.2 has.length_is
    (omega (arith, length-take room held.pending, inside, near)) in (
      drop (n + size) held.pending ++ rest,
      subst (λ (w : Wire). IsNext room (held.pending ++ rest)
          (request_and_rest w (drop (n + size) held.pending ++ rest))) same told,
      refl,
      omega (
        arith,
        length-append held.pending rest,
        length-append (drop (n + size) held.pending) rest,
        length-drop (n + size) held.pending,
        inside,
      ),
    )

-- the same after more was read
pub answer_request : (most : ℕ) (old mid after : Buffered) (left left_mid : Option (List ℕ)) (n : ℕ)
    (summary : HeadSummary)
    (wire : Wire) → stream_of old left ≡ stream_of mid left_mid → mid.used ≡ old.used
    → IsScanned (take (room_of most old) mid.pending) (Ok (scanned.Head summary n))
    → n + summary.length ≤ length mid.pending → n + summary.length ≤ room_of most old
    → after ≡ held_behind mid (n + summary.length)
    → wire ≡ wire_of_summary summary (take summary.length (drop n mid.pending))
    → IfSome (stream_of old left) (λ bytes. IsAnswer (room_of most old) bytes (room_of most after)
    (stream_of after left_mid) (next.Request wire))
answer_request most old mid after left left_mid n summary wire stream used is inside near behind_it served =
    let rooms : room_of most old ≡ room_of most mid = ap (λ u. most - u) (sym used) in
    let whole : Buffered = held_behind mid (n + summary.length) in
    let first : Wire = wire_of_summary summary (take summary.length (drop n mid.pending)) in
    let taken = request_taken most mid left_mid n summary
    (subst (λ r. IsScanned (take r mid.pending) (Ok (scanned.Head summary n))) rooms is)
    inside (omega (arith, rooms, near)) in
    let at_old = subst (λ r. IfSome (stream_of mid left_mid) (λ bytes. IsAnswer r bytes (room_of most whole)
    (stream_of whole left_mid) (next.Request first))) (sym rooms) taken in
    let of_stream = subst (λ (s : Option (List ℕ)). IfSome s (λ bytes. IsAnswer (room_of most old) bytes
    (room_of most whole) (stream_of whole left_mid) (next.Request first))) (sym stream) at_old in
    let with_after = subst (λ (a : Buffered). IfSome (stream_of old left) (λ bytes. IsAnswer (room_of most old) bytes
    (room_of most a) (stream_of a left_mid) (next.Request first))) (sym behind_it) of_stream in
    subst (λ (w : Wire). IfSome (stream_of old left) (λ bytes. IsAnswer (room_of most old) bytes
    (room_of most after) (stream_of after left_mid) (next.Request w))) (sym served) with_after

-- ---- a body that isn't whole

-- more bytes leave the head that was read
pub scanned_with_more : (room : ℕ) (old new : List ℕ) (n : ℕ) (summary : HeadSummary) → take (length old) new ≡ old
    → IsScanned (take room old) (Ok (scanned.Head summary n)) → IsScanned (take room new) (Ok (scanned.Head summary n))
scanned_with_more room old new n summary kept (h, stands, reads, has) =
    let more = stands_with_more room old new n Whole kept stands in
    (h, more.0, subst (λ (t : List ℕ). ReadsRequest (skip_breaks t) h []) (sym more.1) reads, has)

pub body_is_open : (near : List ℕ) (n : ℕ) (summary : HeadSummary) → IsScanned near (Ok (scanned.Head summary n))
    → length near < n + summary.length → BeginsWith near incomplete_message
body_is_open near n summary (h, stands, reads, has) short =
    unfinished_body near n summary.length h stands reads has.length_is short

-- where no message is whole, what is held doesn't tell what comes next
pub untold : (most : ℕ) (held : Buffered) → BeginsWith (take (room_of most held) held.pending) incomplete_message
    → ¬ (HoldsMessage most held)
untold most held is (message, begins, whole) =
    whole (one_first (take (room_of most held) held.pending) message incomplete_message begins is)

-- a request that has more bytes than are held within the bound isn't whole
pub not_whole : (room known least whole : ℕ) (pending held : List ℕ) → known ≡ room → held ≡ pending
    → least ≡ min (length held) known → least < whole → length (take room pending) < whole
not_whole room known least whole pending held same is both more =
    omega (arith, same, ap length is, both, more, length-take room pending)

-- nor where the body of a request isn't
pub body_untold : (most : ℕ) (old mid : Buffered) (n : ℕ) (summary : HeadSummary) → mid ≡ old
    → IsScanned (take (room_of most old) mid.pending) (Ok (scanned.Head summary n))
    → length (take (room_of most old) mid.pending) < n + summary.length → ¬ (HoldsMessage most old)
body_untold most old mid n summary same is short =
    untold most old (subst (λ (held : Buffered). BeginsWith (take (room_of most old) held.pending) incomplete_message)
    same (body_is_open (take (room_of most old) mid.pending) n summary is short))

-- the stream that was read on is the one from the start, and so is the bound
pub on_stream : (most : ℕ) (old mid : Buffered) (left left_mid : Option (List ℕ)) (room_after : ℕ)
    (stream_after : Option (List ℕ)) (answer : Next) → stream_of old left ≡ stream_of mid left_mid → mid.used ≡ old.used
    → Answers most mid left_mid room_after stream_after answer → Answers most old left room_after stream_after answer
on_stream most old mid left left_mid room_after stream_after answer stream used is =
    let rooms : room_of most mid ≡ room_of most old = ap (λ u. most - u) used in
    subst (λ (s : Option (List ℕ)).
    IfSome s (λ bytes. IsAnswer (room_of most old) bytes room_after stream_after answer))
    (sym stream)
    (subst (λ r. IfSome (stream_of mid left_mid) (λ bytes. IsAnswer r bytes room_after stream_after answer)) rooms is)

long_here : (most : ℕ) (held : Buffered) (left stream_after : Option (List ℕ)) (room_after : ℕ)
    → BeginsWith (take (room_of most held) held.pending) incomplete_message → room_of most held ≤ length held.pending
    → Answers most held left room_after stream_after next.LongTalk
long_here most held None stream_after room_after is long = tt
long_here most held (Some rest) stream_after room_after is long =
    next_long (room_of most held) held.pending rest is long

end_answer_is : (room : ℕ) (bytes rest : List ℕ) (stream_after : Option (List ℕ)) (room_after : ℕ)
    → IsNext room bytes (talk_end (end_of rest)) → IsAnswer room bytes room_after stream_after (end_answer rest)
end_answer_is room bytes [] stream_after room_after told = told
end_answer_is room bytes (b ∷ rest) stream_after room_after told = told

end_here : (most : ℕ) (held : Buffered) (left stream_after : Option (List ℕ)) (room_after : ℕ)
    → BeginsWith (take (room_of most held) held.pending) incomplete_message → length held.pending < room_of most held
    → IfSome left (λ rest. rest ≡ [])
    → Answers most held left room_after stream_after (end_answer (skip_breaks held.pending))
end_here most held None stream_after room_after is short no_more = tt
end_here most held (Some rest) stream_after room_after is short no_more =
    let all : held.pending ++ rest ≡ held.pending =
    ap (λ (t : List ℕ). held.pending ++ t) no_more ∙ append-nil held.pending in
    end_answer_is (room_of most held) (held.pending ++ rest) (skip_breaks held.pending) stream_after room_after
    (subst (λ (t : List ℕ). IsNext (room_of most held) t (talk_end (end_of (skip_breaks held.pending)))) (sym all)
    (next_end (room_of most held) held.pending is short))

-- the bound is met before the body is whole
pub body_too_long : (most : ℕ) (old mid : Buffered) (left left_mid stream_after : Option (List ℕ)) (room_after n : ℕ)
    (summary : HeadSummary) → stream_of old left ≡ stream_of mid left_mid → mid.used ≡ old.used
    → IsScanned (take (room_of most old) mid.pending) (Ok (scanned.Head summary n))
    → length (take (room_of most old) mid.pending) < n + summary.length → room_of most old ≤ length mid.pending
    → Answers most old left room_after stream_after next.LongTalk
body_too_long most old mid left left_mid stream_after room_after n summary stream used is short long =
    let rooms : room_of most old ≡ room_of most mid = ap (λ u. most - u) (sym used) in
    on_stream most old mid left left_mid room_after stream_after next.LongTalk stream used
    (long_here most mid left_mid stream_after room_after
    (subst (λ r. BeginsWith (take r mid.pending) incomplete_message) rooms
    (body_is_open (take (room_of most old) mid.pending) n summary is short))
    (omega (arith, rooms, long)))

-- the stream ends before the body is whole
pub body_cut : (most : ℕ) (old mid after : Buffered) (left left_mid stream_after : Option (List ℕ)) (room_after n : ℕ)
    (summary : HeadSummary) → stream_of old left ≡ stream_of mid left_mid → mid.used ≡ old.used
    → IsScanned (take (room_of most old) mid.pending) (Ok (scanned.Head summary n))
    → length (take (room_of most old) mid.pending) < n + summary.length → length mid.pending < room_of most old
    → after.pending ≡ mid.pending → IfSome left_mid (λ rest. rest ≡ [])
    → Answers most old left room_after stream_after (end_answer (skip_breaks after.pending))
body_cut most old mid after left left_mid stream_after room_after n summary stream used is short inside same no_more =
    let rooms : room_of most old ≡ room_of most mid = ap (λ u. most - u) (sym used) in
    let ends = on_stream most old mid left left_mid room_after stream_after (end_answer (skip_breaks mid.pending))
    stream used
    (end_here most mid left_mid stream_after room_after
    (subst (λ r. BeginsWith (take r mid.pending) incomplete_message) rooms
    (body_is_open (take (room_of most old) mid.pending) n summary is short))
    (omega (arith, rooms, inside)) no_more) in
    subst (λ (t : List ℕ). Answers most old left room_after stream_after (end_answer (skip_breaks t))) (sym same) ends

-- ---- exactly what comes next

-- the count of a steady source doesn't rise
pub not_risen : (before after : ℕ) → before < last_count → after ≡ before → ¬ (Rose before after)
not_risen before after low same (inl more) = omega (arith, same, more)
not_risen before after low same (inr last) = omega (arith, low, same, last)

-- what is answered is what comes next, since there is one such thing
exact_there : (room : ℕ) (bytes : List ℕ) (room_after : ℕ) (stream_after : Option (List ℕ)) (faults faults_after : ℕ)
    (answer : Next) → IsAnswer room bytes room_after stream_after answer
    → (answer ≡ next.ReadFault → Rose faults faults_after) → IsExact room bytes faults faults_after answer
exact_there room bytes room_after stream_after faults faults_after (next.Request wire) (rest, is, after, room_is)
    fault told tells =
    answers (subst (λ (t : StreamNext). IsAnswerOf t (next.Request wire))
    (one_next room bytes (request_and_rest wire rest) told is tells) refl)
exact_there room bytes room_after stream_after faults faults_after next.End is fault told tells =
    answers (subst (λ (t : StreamNext). IsAnswerOf t next.End)
    (one_next room bytes (talk_end ended) told is tells) refl)
exact_there room bytes room_after stream_after faults faults_after (next.Closed why) is fault told tells =
    answers (subst (λ (t : StreamNext). IsAnswerOf t (next.Closed why))
    (one_next room bytes (talk_end (closed why)) told is tells) refl)
exact_there room bytes room_after stream_after faults faults_after (next.Truncated count) is fault told tells =
    answers (subst (λ (t : StreamNext). IsAnswerOf t (next.Truncated count))
    (one_next room bytes (talk_end (truncated count)) told is tells) refl)
exact_there room bytes room_after stream_after faults faults_after next.LongTalk is fault told tells =
    answers (subst (λ (t : StreamNext). IsAnswerOf t next.LongTalk)
    (one_next room bytes (talk_end long_talk) told is tells) refl)
exact_there room bytes room_after stream_after faults faults_after next.ReadFault is fault told tells =
    source_failed (fault refl)
exact_there room bytes room_after stream_after faults faults_after next.NoMemory is fault told tells = no_memory refl

-- the same where the source tells
pub exact_answer : (most : ℕ) (held : Buffered) (left : Option (List ℕ)) (room_after : ℕ)
    (stream_after : Option (List ℕ)) (faults faults_after : ℕ) (answer : Next)
    → Answers most held left room_after stream_after answer → (answer ≡ next.ReadFault → Rose faults faults_after)
    → IfSome (stream_of held left) (λ bytes. IsExact (room_of most held) bytes faults faults_after answer)
exact_answer most held None room_after stream_after faults faults_after answer is fault = tt
exact_answer most held (Some rest) room_after stream_after faults faults_after answer is fault =
    exact_there (room_of most held) (held.pending ++ rest) room_after stream_after faults faults_after answer is fault

-- and after it was read on
pub exact_on_stream : (most : ℕ) (old mid : Buffered) (left left_mid : Option (List ℕ)) (room_after : ℕ)
    (stream_after : Option (List ℕ)) (faults faults_mid faults_after : ℕ) (answer : Next)
    → stream_of old left ≡ stream_of mid left_mid → mid.used ≡ old.used → faults ≤ faults_mid
    → Answers most mid left_mid room_after stream_after answer
    → (answer ≡ next.ReadFault → Rose faults_mid faults_after)
    → IfSome (stream_of old left) (λ bytes. IsExact (room_of most old) bytes faults faults_after answer)
exact_on_stream most old mid left left_mid room_after stream_after faults faults_mid faults_after answer stream used
    later is fault =
    exact_answer most old left room_after stream_after faults faults_after answer
    (on_stream most old mid left left_mid room_after stream_after answer stream used is)
    (λ e. rose_before (fault e))
  where
    rose_before : Rose faults_mid faults_after → Rose faults faults_after
    rose_before (inl more) = inl (omega (arith, later, more))
    rose_before (inr last) = inr last
