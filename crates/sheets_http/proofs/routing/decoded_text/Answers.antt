use Rattle.std.proofs.Common.{sym, ◌∙◌}
use Rattle.sheets_http.proofs.RouteLemmas.{no_escape}
use Rattle.sheets_http.proofs.routing.decoded_text.Goals as goal

pub returns-then-plain : goal.returns-then-plain
returns-then-plain c = c.of.ensures ∙ c.in_ok-from_str.ensures.ok
    ∙ sym (no_escape c.args.raw.now (c.requires.plain c.if-plain.true))
