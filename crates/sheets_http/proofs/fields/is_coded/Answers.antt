use Rattle.std.proofs.Common.{rules, tests, ◌&&◌, sym, ◌∙◌}
use Rattle.std.specs.Prelude.{not, codes}
use Rattle.std.specs.Str.{str_eq_ignore_ascii_case}
use Rattle.std.proofs.lemmas.Iterator.{YieldsList-from_slice}
use Rattle.std.proofs.lemmas.Iterator.Search.{any_from_yields_List}
use Rattle.httparse.specs.Borrowed.{header_parts}
use Rattle.sheets_http.proofs.ListLemmas.{list_any-map}
use Rattle.sheets_http.proofs.fields.is_coded.Goals as goal

pub returns : goal.returns
returns c =
    any_from_yields_List (λ h. str_eq_ignore_ascii_case h.name.now (codes "content-encoding")
    && not (str_eq_ignore_ascii_case h.value.now (codes "identity"))) _ _ c.any.result c.any.ensures.ran
    (YieldsList-from_slice c.args.fields.now cc) (λ x b q k. search (rules, tests))
    ∙ sym (list_any-map (λ f. str_eq_ignore_ascii_case f.0 (codes "content-encoding")
    && not (str_eq_ignore_ascii_case f.1 (codes "identity"))) header_parts c.args.fields.now)
