-- One exchange of a conversation: what came next in the stream, and what was done with it.
use Rattle.std.proofs.Common.{◌≡◌, ℕ, ◌-◌, List, [], ◌∷◌, Option, None, Some, Result, Ok, Err, Bool}
use Rattle.std.proofs.Common.{true, false, IfSome, refl, sym, ◌∙◌, subst, arith}
use Rattle.std.proofs.lemmas.List.{append-nil}
use Rattle.sheets_http.specs.declared.request.Wire.{Wire}
use Rattle.sheets_http.specs.declared.request.HeadFault.{HeadFault}
use Rattle.sheets_http.specs.declared.request.Next.{Next}
use Rattle.sheets_http.specs.declared.request.Next.TheVariants as next
use Rattle.sheets_http.specs.declared.outside.SinkFault.{SinkFault}
use Rattle.sheets_http.specs.declared.outside.SinkFault.TheVariants as fault
use Rattle.sheets_http.specs.Framing.{talk_end, End, ended, truncated, long_talk, closed, asked}
use Rattle.sheets_http.specs.Framing.{IsNext, Talk}
use Rattle.sheets_http.specs.Outside.{TakesAll}
use Rattle.sheets_http.specs.Requests.{Buffered, room_of, stream_of, IsAnswer}
use Rattle.conversation.specs.declared.ended.Ended.{Ended}
use Rattle.conversation.specs.declared.ended.Ended.TheVariants as how
use Rattle.conversation.specs.Conversation.{AreAnswered, IsClosing, IsLast, StartsWithRequests, Moment}
use Rattle.conversation.specs.Conversation.{IsWhole, IsNextRequest, HasBegun, a_response, the_closing, unanswered}
use Rattle.conversation.specs.Conversation.{idle, in_the_sink, Stops, IsConversation, Counts}
use Rattle.conversation.specs.Exchanges.{Sends, Acts, responds, loses, ended_by, ended_behind, ended_closed}
use Rattle.conversation.specs.Exchanges.{IsExchange, CountsShortages}
use Rattle.conversation.specs.Written.{nothing_more}
use Rattle.conversation.specs.Idle.{HasAnswered-none}

-- the next request is taken out of the stream
next_of : (room room' : ℕ) (stream stream' : Option (List ℕ)) (request : Wire)
    → IfSome stream (λ bytes. IsAnswer room bytes room' stream' (next.Request request))
    → IsNextRequest room stream request
next_of room room' None stream' request answer = tt
next_of room room' (Some bytes) stream' request answer = (answer.0, answer.1)

asked_of : (room room' : ℕ) (stream stream' : Option (List ℕ)) (request : Wire)
    → IfSome stream (λ bytes. IsAnswer room bytes room' stream' (next.Request request))
    → request.close ≡ true → IfSome stream (λ bytes. Talk room bytes (request ∷ []) asked)
asked_of room room' None stream' request answer closes = tt
asked_of room room' (Some bytes) stream' request answer closes = (answer.0, answer.1, rw closes (refl, refl))

first_of : (room room' : ℕ) (stream stream' stream'' : Option (List ℕ)) (request : Wire)
    → IfSome stream (λ bytes. IsAnswer room bytes room' stream' (next.Request request))
    → stream'' ≡ stream' → request.close ≡ false
    → IfSome stream
    (λ bytes. (rest : List ℕ) × StartsWithRequests room bytes (request ∷ []) room' rest × (stream'' ≡ Some rest))
first_of room room' None stream' stream'' request answer left stays = tt
first_of room room' (Some bytes) stream' stream'' request answer left stays =
    (answer.0, (answer.0, answer.1, stays, (answer.3, refl)), left ∙ answer.2)

module _ {State : Type 0} (IsReply : State → Wire → State → List ℕ → Type 0) where
  -- one request is answered
  one_answered : (cells cells' : State) (request : Wire) (response : List ℕ)
      → IsReply cells request cells' response
      → AreAnswered IsReply cells (request ∷ []) cells' response
  one_answered cells cells' request response is =
      (cells', response, [], is, (refl, refl), sym (append-nil response))

  -- the conversation stops behind nothing
  stops_here : (room : ℕ) (stream : Option (List ℕ)) (before after : Moment State)
      (end : Ended)
      → Stops IsReply room stream before after end
      → IsConversation IsReply room stream before after end
  stops_here room stream before after how.ReadFault stops = record {
    room' = room;
    rest = stream;
    between = before;
    answered = HasAnswered-none IsReply room stream before;
    stops =
        stops;
  }
  stops_here room stream before after how.WriteFault stops = record {
    room' = room;
    rest = stream;
    between = before;
    answered = HasAnswered-none IsReply room stream before;
    stops =
        stops;
  }
  stops_here room stream before after how.End stops = elim stops [ ]
  stops_here room stream before after how.Asked stops = elim stops [ ]
  stops_here room stream before after (how.Closed fault) stops = elim stops [ ]
  stops_here room stream before after (how.Truncated count) stops = elim stops [ ]
  stops_here room stream before after how.LongTalk stops = elim stops [ ]
  stops_here room stream before after how.NoMemory stops = record {
    room' = room;
    rest = stream;
    between = before;
    answered = HasAnswered-none IsReply room stream before;
    stops =
        stops;
  }

  -- nothing comes next but the end, behind which `last` stands
  whole_here : (room : ℕ) (stream : Option (List ℕ)) (before after : Moment State)
      (end : End) (last : List ℕ)
      → IfSome stream (λ bytes. IsNext room bytes (talk_end end)) → IsLast end last → after.state ≡ before.state
      → TakesAll before.written after.written last
      → IsWhole IsReply room stream before after end
  whole_here room stream before after end last next is_last same takes =
      record {
        requests = [];
        responses = [];
        last = last;
        are_all = next;
        are_answered = (same, refl);
        is_last =
            is_last;
        are_written = takes;
      }

  -- nothing comes next but the end, and nothing is written
  ends_here : (room : ℕ) (stream : Option (List ℕ)) (before after : Moment State)
      (end : End)
      → IfSome stream (λ bytes. IsNext room bytes (talk_end end)) → IsLast end [] → after.state ≡ before.state
      → after.written ≡ before.written
      → IsWhole IsReply room stream before after end
  ends_here room stream before after end next is_last same written =
      whole_here room stream before after end [] next is_last same (written ∙ nothing_more before.written)

  -- a fault of the sink behind a response that was begun
  cut_by : (room : ℕ) (stream : Option (List ℕ)) (before after : Moment State)
      (error : SinkFault)
      → CountsShortages before.shortages after.shortages (Err error)
      → HasBegun IsReply room stream before after → IsConversation IsReply room stream before after
      (ended_by error)
  cut_by room stream before after fault.Failed counts begun = stops_here room stream before after
      how.WriteFault begun
  cut_by room stream before after fault.NoMemory counts begun = stops_here room stream before after
      how.NoMemory
      (in_the_sink (counts.cause refl) begun)

  -- a refused head was answered
  closed_here : (room : ℕ) (stream : Option (List ℕ)) (before after : Moment State)
      (refused : HeadFault)
      (response : List ℕ) (sent : Result (Unit {0}) SinkFault)
      → IfSome stream (λ bytes. IsNext room bytes (talk_end (closed refused))) → IsClosing refused response
      → after.state ≡ before.state
      → Sends before.written after.written response sent → CountsShortages before.shortages after.shortages sent
      → IsConversation IsReply room stream before after (ended_closed refused sent)
  closed_here room stream before after refused response (Ok done) next is_closing same sends counts =
      whole_here room stream before after (closed refused) response next is_closing same sends
  closed_here room stream before after refused response (Err error) next is_closing same sends counts =
      cut_by room stream before after error counts (the_closing refused response next is_closing same sends)

  -- a request was answered
  answered_here : (room room' : ℕ) (stream stream' stream'' : Option (List ℕ))
      (before after : Moment State)
      (request : Wire) (response : List ℕ) (closes : Bool) (sent : Result (Unit {0}) SinkFault)
      → IfSome stream (λ bytes. IsAnswer room bytes room' stream' (next.Request request)) → stream'' ≡ stream'
      → request.close ≡ closes
      → IsReply before.state request after.state response
      → Sends before.written after.written response sent → CountsShortages before.shortages after.shortages sent
      → IsExchange IsReply room stream before room' stream'' after (ended_behind closes sent)
  answered_here room room' stream stream' stream'' before after request response true (Ok done) answer left closes
      is_response sends counts = record {
        requests = request ∷ [];
        responses = response;
        last = [];
        are_all = asked_of room room' stream stream' request answer closes;
        are_answered = one_answered before.state after.state request response is_response;
        is_last = refl;
        are_written = rw (append-nil response) sends;
      }
  answered_here room room' stream stream' stream'' before after request response false (Ok done) answer left stays
      is_response sends counts = record {
        requests = request ∷ [];
        responses = response;
        are_first = first_of room room' stream stream' stream'' request answer left stays;
        are_answered = one_answered before.state after.state request response is_response;
        are_written = sends;
        later = counts.later;
      }
  answered_here room room' stream stream' stream'' before after request response closes (Err error) answer left
      closes_is is_response sends counts =
      cut_by room stream before after error counts
      (a_response request response (next_of room room' stream stream' request answer) is_response sends)

  -- what is done with what comes next
  exchanged : (room room' : ℕ) (stream stream' stream'' : Option (List ℕ))
      (before after : Moment State) (next : Next)
      (result : Option Ended)
      → IfSome stream (λ bytes. IsAnswer room bytes room' stream' next) → stream'' ≡ stream'
      → Acts IsReply next before after result
      → IsExchange IsReply room stream before room' stream'' after result
  exchanged room room' stream stream' stream'' before after (next.Request request) result answer left
      (responds response is sends) =
      subst (λ (r : Option Ended). IsExchange IsReply room stream before room' stream'' after r) (sym sends.result_is)
      (answered_here room room' stream stream' stream'' before after request response request.close
      sends.sent answer left
      refl is sends.sends sends.counts)
  exchanged room room' stream stream' stream'' before after (next.Request request) result answer left
      (loses response is written result_is) =
      rw result_is (stops_here room stream before after how.NoMemory
      (unanswered request response (next_of room room' stream stream' request answer) is written))
  exchanged room room' stream stream' stream'' before after next.End result answer left acts =
      rw acts.result_is (ends_here room stream before after ended answer refl acts.state_is acts.written_is)
  exchanged room room' stream stream' stream'' before after (next.Closed refused) result answer left acts =
      rw (acts.result_is, acts.refuses.result_is)
      (closed_here room stream before after refused acts.refuses.closes.response acts.refuses.sent answer
      acts.refuses.closes.is_closing acts.state_is acts.refuses.closes.sends acts.refuses.closes.counts)
  exchanged room room' stream stream' stream'' before after (next.Truncated count) result answer left acts =
      rw acts.result_is
      (ends_here room stream before after (truncated count) answer refl acts.state_is acts.written_is)
  exchanged room room' stream stream' stream'' before after next.LongTalk result answer left acts =
      rw acts.result_is (ends_here room stream before after long_talk answer refl acts.state_is acts.written_is)
  exchanged room room' stream stream' stream'' before after next.ReadFault result answer left acts =
      rw acts.result_is
      (stops_here room stream before after how.ReadFault
      (record { state_is = acts.state_is; written_is = acts.written_is }))
  exchanged room room' stream stream' stream'' before after next.NoMemory result answer left acts =
      rw acts.result_is
      (stops_here room stream before after how.NoMemory
      (idle (record { state_is = acts.state_is; written_is = acts.written_is })))

  -- the same, where the read kept what was written, and its count
  pub exchanged_beside : (room room' : ℕ) (stream stream' stream'' : Option (List ℕ))
      (cells cells' : State)
      (written middle written' : Option (List ℕ)) (shortages between shortages' : ℕ) (next : Next)
      (result : Option Ended)
      → IfSome stream (λ bytes. IsAnswer room bytes room' stream' next) → stream'' ≡ stream' → middle ≡ written
      → between ≡ shortages
      → Acts IsReply next (record { state = cells; written = middle; shortages = between })
      (record { state = cells'; written = written'; shortages = shortages' }) result
      → IsExchange IsReply room stream (record { state = cells; written = written; shortages = shortages })
      room' stream''
      (record { state = cells'; written = written'; shortages = shortages' }) result
  exchanged_beside room room' stream stream' stream'' cells cells' written middle written' shortages between
      shortages'
      next result answer left same count acts =
      exchanged room room' stream stream' stream'' _ _ next result answer left
      (subst (λ (s : ℕ). Acts IsReply next (record { state = cells; written = written; shortages = s })
      (record { state = cells'; written = written'; shortages = shortages' }) result) count
      (subst (λ (m : Option (List ℕ)). Acts IsReply next (record { state = cells; written = m; shortages = between })
      (record { state = cells'; written = written'; shortages = shortages' }) result) same acts))

  -- ---- the beginning

  -- nothing is held at first
  opened_there : (left : Option (List ℕ)) (most : ℕ) (before after : Moment State)
      (end : Ended)
      → IsConversation IsReply (most - 0) (stream_of (record { pending = []; used = 0 }) left) before after end
      → IsConversation IsReply most left before after end
  opened_there None most before after end is = rw (no_less most) at is
    where
      no_less : (most : ℕ) → most - 0 ≡ most
      no_less most = omega arith
  opened_there (Some bytes) most before after end is = rw (no_less most) at is
    where
      no_less : (most : ℕ) → most - 0 ≡ most
      no_less most = omega arith

  -- what is served behind an empty buffer is the whole
  pub opened : (left : Option (List ℕ)) (held : Buffered) (most : ℕ)
      (before after : Moment State) (end : Ended)
      → held ≡ record { pending = []; used = 0 }
      → IsConversation IsReply (room_of most held) (stream_of held left) before after end
      → IsConversation IsReply most left before after end
  opened left held most before after end held_is is = opened_there left most before after end
      (rw held_is at is)

-- ---- counts

-- one call after another
pub Counts-then : (faults faults' faults'' : ℕ) (steady steady' steady'' : Bool)
    → Counts faults faults' steady steady' → Counts faults' faults'' steady' steady''
    → Counts faults faults'' steady steady''
Counts-then faults faults' faults'' steady steady' steady'' first then = record {
  later = omega (arith, first.later, then.later);
  stays = λ is. let once = first.stays is in let twice = then.stays once.0 in (twice.0, twice.1 ∙ once.1);
}
