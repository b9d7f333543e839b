use Rattle.std.proofs.Common.{◌∙◌, sym}
use Rattle.sheets_http.proofs.CallerLemmas.{visible_is_utf8}
use Rattle.sheets_http.proofs.caller.visible_text.Goals as goal

-- a text of visible characters is UTF-8
pub returns-in-Err : goal.returns-in-Err
returns-in-Err c =
    absurd (c.in-Err.ensures.cases.0
    (visible_is_utf8 c.args.bytes.now (sym c.is_visible.ensures ∙ c.if-is_visible.true)))
