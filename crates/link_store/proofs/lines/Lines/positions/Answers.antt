use Rattle.std.proofs.Common.{◌∙◌, ◌<◌, length, get_or, set, inl, inr, sym, ap, arith}
use Rattle.std.proofs.lemmas.Bool.{cases_eq}
use Rattle.std.proofs.lemmas.List.{get_or-set_same, get_or-set_other, length-set}
use Rattle.link_store.specs.Lines.{list_of}
use Rattle.link_store.proofs.LineLists.{links_as_lists, same_line}
use Rattle.link_store.proofs.lines.Lines.positions.Goals as goal

pub set-requires : goal.set-requires
set-requires g c = omega (
  arith,
  c.list.ensures.within,
  links_as_lists c.args.self.now c.requires,
  c.loop-line.invariant.long,
)

pub loop-line-preserved : goal.loop-line-preserved
loop-line-preserved g c =
    let inv = c.loop-line.invariant in
    let list = c.list.result in
    let line = c.loop-line.line in
    record {
      long = ap length c.set.ensures ∙ length-set c.loop-line.positions.items list line ∙ inv.long;
      lines = λ k less. elim (cases_eq k line) [
        | inl here ↦
            ap (λ xs. get_or xs (list_of c.args.self.now k) 0) c.set.ensures
            ∙ ap (λ i. get_or (set c.loop-line.positions.items list line) i 0)
            (ap (list_of c.args.self.now) here ∙ sym c.list.ensures.value)
            ∙ get_or-set_same c.loop-line.positions.items list line 0
            (omega (arith, c.list.ensures.within, links_as_lists c.args.self.now c.requires, inv.long))
            ∙ sym here
        | inr differs ↦
            let earlier : k < line = omega arith in
            ap (λ xs. get_or xs (list_of c.args.self.now k) 0) c.set.ensures
            ∙ get_or-set_other c.loop-line.positions.items list (list_of c.args.self.now k) line 0 (λ same.
            differs (same_line c.args.self.now c.requires k line
            (omega (arith, earlier, c.loop-line-test.true, c.requires.count))
            (omega (arith, c.loop-line-test.true, c.requires.count)) (same ∙ c.list.ensures.value)))
            ∙ inv.lines k earlier
      ];
    }
