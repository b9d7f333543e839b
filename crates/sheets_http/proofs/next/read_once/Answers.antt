use Rattle.sheets_http.specs.Requests.{room_of, stream_of}
use Rattle.sheets_http.proofs.AnswerLemmas.{room_is, answer_refused}
use Rattle.sheets_http.proofs.next.read_once.Goals as goal

pub returns-in-Ok-Refused-clause-progress : goal.returns-in-Ok-Refused-clause-progress
returns-in-Ok-Refused-clause-progress g c =
    let room = room_is c.args.most c.saturating_sub-room.result c.used.result c.args.buffer.now
    c.saturating_sub-room.ensures c.used.ensures in
    answer_refused c.args.most c.args.buffer.now (g.L.Source.left c.args.link.now)
    (stream_of c.scan_head.new.self (g.L.Source.left c.args.link.now)) c.saturating_sub-room.result
    (room_of c.args.most c.scan_head.new.self) c.in-Ok-Refused.fault room
    (rw c.in-Ok-Refused.field-0-is at c.in-Ok-Refused.ensures.scanned)
