use Rattle.std.proofs.Common.{length, sym, ◌∙◌, ap, arith, rules, refl}
use Rattle.std.specs.Prelude.{Some}
use Rattle.std.proofs.lemmas.Bool.{eqb-true, eqb-false}
use Rattle.formula_reader.proofs.Sound.{tokens_have_cells, boundaries_next}
use Rattle.formula_reader.proofs.Scans.{scan_start, scan_next, scan_shorter, scan_end, only_scanned, scan_none}
use Rattle.formula_reader.proofs.tokens.tokens_of.Goals as goal

pub loop-rest-init : goal.loop-rest-init
loop-rest-init c = record {
  utf8 = search rules;
  scanned = rw c.new-tokens.ensures.items
      (scan_start c.args.text.now c.split.result.0.now c.split.result.1.now c.split.ensures.whole c.split.ensures.run);
  boundaries = λ k d less. absurd (omega (arith, less, ap length c.new-tokens.ensures.items));
}

pub returns-in-Ok-None-clause-none : goal.returns-in-Ok-None-clause-none
returns-in-Ok-None-clause-none c =
    let some = eqb-false (length c.loop-rest.rest.now) 0 (sym c.is_empty.ensures ∙ c.loop-rest-test.true) in
    scan_none c.args.text.now c.loop-rest.rest.now c.loop-rest.tokens.items c.loop-rest.invariant.scanned
    (omega (arith, some)) (rw c.in-Ok-None.field-0-is at c.in-Ok-None.ensures)

pub returns-in-Ok-None-clause-only : goal.returns-in-Ok-None-clause-only
returns-in-Ok-None-clause-only c =
    let some = eqb-false (length c.loop-rest.rest.now) 0 (sym c.is_empty.ensures ∙ c.loop-rest-test.true) in
    λ tokens are. absurd (scan_none c.args.text.now c.loop-rest.rest.now c.loop-rest.tokens.items
    c.loop-rest.invariant.scanned
    (omega (arith, some)) (rw c.in-Ok-None.field-0-is at c.in-Ok-None.ensures) tokens are)

pub loop-rest-smaller : goal.loop-rest-smaller
loop-rest-smaller c =
    scan_shorter c.args.text.now c.loop-rest.rest.now c.loop-rest.tokens.items c.loop-rest.invariant.scanned
    c.in-Ok-Some.token c.in-Ok-Some.behind.now c.split-in-Ok-Some.result.0.now c.split-in-Ok-Some.result.1.now _ _
    refl refl
    (rw c.in-Ok-Some.field-0-is at c.in-Ok-Some.ensures) c.split-in-Ok-Some.ensures.whole c.split-in-Ok-Some.ensures.run

pub loop-rest-preserved : goal.loop-rest-preserved
loop-rest-preserved c = record {
  utf8 = search rules;
  scanned = scan_next c.args.text.now c.loop-rest.rest.now c.loop-rest.tokens.items c.loop-rest.invariant.scanned
      c.in-Ok-Some.token c.in-Ok-Some.behind.now c.split-in-Ok-Some.result.0.now c.split-in-Ok-Some.result.1.now _ _
      refl refl
      (rw c.in-Ok-Some.field-0-is at c.in-Ok-Some.ensures) c.split-in-Ok-Some.ensures.whole
      c.split-in-Ok-Some.ensures.run
      c.push.new.self.items c.in_ok-push-in-Ok-Some.ensures.items;
  boundaries =
      boundaries_next c.args.text.now c.loop-rest.rest.now c.loop-rest.tokens.items c.loop-rest.invariant.scanned
      c.in-Ok-Some.token c.in-Ok-Some.behind.now _ _ refl refl
      (rw c.in-Ok-Some.field-0-is at c.in-Ok-Some.ensures) (search rules)
      (search rules) c.loop-rest.invariant.boundaries
      c.push.new.self.items c.in_ok-push-in-Ok-Some.ensures.items;
}

pub returns-clause-tokens : goal.returns-clause-tokens
returns-clause-tokens c =
    let empty = eqb-true (length c.loop-rest.rest.now) 0 (sym c.is_empty.ensures ∙ c.loop-rest-test.false) in
    rw c.of.ensures
    (scan_end c.args.text.now c.loop-rest.rest.now c.loop-rest.tokens.items c.loop-rest.invariant.scanned empty)

pub returns-clause-only : goal.returns-clause-only
returns-clause-only c =
    let empty = eqb-true (length c.loop-rest.rest.now) 0 (sym c.is_empty.ensures ∙ c.loop-rest-test.false) in
    λ tokens are.
    let same =
    only_scanned c.args.text.now c.loop-rest.rest.now c.loop-rest.tokens.items c.loop-rest.invariant.scanned empty
    tokens are in
    ap Some (c.of.ensures ∙ sym same)

pub returns-clause-boundaries : goal.returns-clause-boundaries
returns-clause-boundaries c = rw c.of.ensures c.loop-rest.invariant.boundaries

pub returns-clause-cells : goal.returns-clause-cells
returns-clause-cells c =
    let empty = eqb-true (length c.loop-rest.rest.now) 0 (sym c.is_empty.ensures ∙ c.loop-rest-test.false) in
    rw c.of.ensures (tokens_have_cells c.args.text.now 0 c.loop-rest.tokens.items
    (scan_end c.args.text.now c.loop-rest.rest.now c.loop-rest.tokens.items c.loop-rest.invariant.scanned empty))
