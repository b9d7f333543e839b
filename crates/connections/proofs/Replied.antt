-- The reply to a request whose ask has an outcome.
use Rattle.std.proofs.Common.{List, [], ◌∷◌, ◌++◌, refl}
use Rattle.std.specs.Prelude.{if◌then◌else◌}
use Rattle.sheets_http.specs.Responses.{text_of_response}
use Rattle.desk.specs.declared.entry.Ask.{Ask}
use Rattle.desk.specs.declared.entry.Entry.{Entry}
use Rattle.desk.specs.declared.state.TheConstants.{LONGEST_JOURNAL}
use Rattle.desk.specs.Steps.{Outcome, entry_of, within_limit}
use Rattle.connections.specs.Calls.{ask_of}
use Rattle.connections.specs.Replied.{HasReply}

pub has_reply : (plain : List Entry → Ask → Outcome → Type 0) → HasReply plain
has_reply plain users history request outcome is =
    let ask = ask_of users request in
    let kept = within_limit LONGEST_JOURNAL history ask outcome in (
      (if kept.accepts then history ++ entry_of 0 ask ∷ [] else history),
      text_of_response kept.status request.close kept.body,
      record { outcome = kept; steps = (outcome, is, refl); history_is = refl; response_is = refl },
    )
