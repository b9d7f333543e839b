use Rattle.std.proofs.Common.{◌≡◌, ◌≤◌}
use Rattle.sheets_http.specs.Requests.{room_of, stream_of}
use Rattle.conversation.specs.Conversation.{at_moment, HasAnswered, Counts, LosesFirst}
use Rattle.conversation.proofs.conversation.serve.Given as goal

-- the first requests were answered, and no count of faults fell
abbrev pub invariant-loop-ended : goal.invariant-loop-ended
invariant-loop-ended g l = record {
  about : g.P.Replies.about l.replies ≡ g.P.Replies.about l.initial.replies;
  answered : HasAnswered (g.P.Replies.answers (g.P.Replies.about l.initial.replies)) (room_of l.most l.initial.buffer)
      (stream_of l.initial.buffer (g.L.Source.left l.initial.link))
      (at_moment (g.P.Replies.at l.initial.replies) (g.L.Sink.written l.initial.link)
      (g.L.Sink.sink_shortages l.initial.link))
      (room_of l.most l.buffer) (stream_of l.buffer (g.L.Source.left l.link))
      (at_moment (g.P.Replies.at l.replies) (g.L.Sink.written l.link) (g.L.Sink.sink_shortages l.link));
  input : Counts (g.L.Source.faults l.initial.link) (g.L.Source.faults l.link) (g.L.Source.steady l.initial.link)
      (g.L.Source.steady l.link);
  output : Counts (g.L.Sink.sink_faults l.initial.link) (g.L.Sink.sink_faults l.link)
      (g.L.Sink.sink_steady l.initial.link) (g.L.Sink.sink_steady l.link);
  shortages : g.L.Sink.sink_shortages l.initial.link ≤ g.L.Sink.sink_shortages l.link;
  left : LosesFirst (stream_of l.initial.buffer (g.L.Source.left l.initial.link))
      (stream_of l.buffer (g.L.Source.left l.link));
  references : g.L.Duplex.references l.link ≡ g.L.Duplex.references l.initial.link;
}

-- an exchange that ends nothing takes from the room
abbrev pub decreases-loop-ended : goal.decreases-loop-ended
decreases-loop-ended g l = room_of l.most l.buffer
