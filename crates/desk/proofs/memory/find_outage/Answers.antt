use Rattle.std.proofs.Common.{rules, tests, ◌≡◌, ℕ, ◌==◌, None, Some, ap, sym, ◌∙◌}
use Rattle.std.specs.Prelude.{Option}
use Rattle.std.specs.Option.{option_map}
use Rattle.std.proofs.lemmas.Iterator.{YieldsList-from_slice}
use Rattle.std.proofs.lemmas.Iterator.Search.{find_from_yields_List}
use Rattle.desk.proofs.memory.find_outage.Goals as goal

pub returns-in_err-pair : goal.returns-in_err-pair
returns-in_err-pair c =
    let found = find_from_yields_List (λ pair. pair.0 == c.args.number) _ _ c.find.result c.find.ensures.ran
    (YieldsList-from_slice c.args.failing.now cc) (λ x b q k. search (rules, tests)) in
    let none : c.find.result ≡ None = c.in_err-pair.was in
    c.from_residual.ensures
    ∙ ap (λ (o : Option (ℕ × Option ℕ)). option_map (λ (p : ℕ × Option ℕ). p.1) o) (ap (option_map _) (sym
    none) ∙ found)

pub returns : goal.returns
returns c =
    let found = find_from_yields_List (λ pair. pair.0 == c.args.number) _ _ c.find.result c.find.ensures.ran
    (YieldsList-from_slice c.args.failing.now cc) (λ x b q k. search (rules, tests)) in
    let some : c.find.result ≡ Some c.in_ok-pair.pair = c.in_ok-pair.was in
    ap (λ (o : Option (ℕ × Option ℕ)). option_map (λ (p : ℕ × Option ℕ). p.1) o)
    (ap (option_map (λ pair. pair.now)) (sym some) ∙ found)
