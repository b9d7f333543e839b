use Rattle.std.proofs.Common.{◌≡◌, length, refl, ap}
use Rattle.std.specs.Prelude.{option_copied}
use Rattle.sheets_http.proofs.GrammarLemmas.{overflow_is_no_head, parsed_head}
use Rattle.sheets_http.specs.HeadReading.{of_other_text}
use Rattle.sheets_http.proofs.summary.read_fields.Goals as goal

pub returns-in-Ok-Complete : goal.returns-in-Ok-Complete
returns-in-Ok-Complete c =
    let holds = rw c.in-Ok-Complete.field-0-is at c.in-Ok-Complete.ensures.complete in
    parsed_head c.args.head.now c.parse.new.self c.in-Ok-Complete.field-0-0 c.unwrap-method.result.now
    c.unwrap-target.result.now
    c.unwrap-minor.result c.head_of.result c.requires.text holds
    (ap option_copied c.unwrap-method.ensures) (ap option_copied c.unwrap-target.ensures) c.unwrap-minor.ensures
    c.head_of.ensures

pub returns-in-Err : goal.returns-in-Err
returns-in-Err c =
    let room : length c.new-request.result.headers.now ≡ length c.args.room.now =
    ap length c.new-request.ensures.room in
    of_other_text (overflow_is_no_head c.args.head.now _ (rw room c.requires.room) c.in-Err.ensures.no_room) refl
