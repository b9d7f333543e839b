use Rattle.std.proofs.Common.{◌≡◌, ◌++◌, sym, subst, ◌∙◌, List, Ok, Err}
use Rattle.std.specs.Prelude.{Any, Result, OnErr, OnOk}
use Rattle.std.specs.List.Sorted.{IsPermutation, IsSortedByKey}
use Rattle.grid_range.specs.Area.{by_rows, first_cell}
use Rattle.grid_range.specs.declared.area.Area.{Area}
use Rattle.merge_ranges.specs.Calls.{AreParts, Cuts, IsLeftOrPart, ListsJust}
use Rattle.merge_ranges.specs.Merges.{AreMerges}
use Rattle.merge_ranges.specs.Tests.{left_by}
use Rattle.merge_ranges.proofs.Merging.{lists_put, put_are_merges}
use Rattle.merge_ranges.proofs.merges.Merges.put_in.Goals as goal

module _ {E : Type 0} (area : Area) (merges parts after : List Area) (are : AreMerges merges)
    (whole : ¬ (Any (Cuts area) merges)) (of : AreParts area parts) where
  -- they are merges, whether the parts were put there or not
  still : (done : Result (Unit {0}) E)
      → OnOk done (IsPermutation (left_by area merges ++ parts) after)
      → OnOk done (IsSortedByKey first_cell by_rows after) → OnErr done (after ≡ merges) → AreMerges after
  still (Ok u) moved sorted same = put_are_merges area merges are whole parts of after moved sorted
  still (Err e) moved sorted same = subst AreMerges (sym same) are

  listed : (done : Result (Unit {0}) E)
      → OnOk done (IsPermutation (left_by area merges ++ parts) after)
      → OnOk done (IsSortedByKey first_cell by_rows after)
      → OnOk done (ListsJust (IsLeftOrPart area merges parts) after)
  listed (Ok u) moved sorted = lists_put area merges are whole parts of after moved sorted
  listed (Err e) moved sorted = tt

pub invariant_of-self : goal.invariant_of-self
invariant_of-self c =
    subst AreMerges (sym c.of.ensures)
    (still c.args.area.now c.args.self.now c.args.parts.now c.put-done.new.merges.items
    (subst AreMerges c.self.view_is c.self.invariant) c.requires.whole c.requires.parts c.put-done.result
    (subst (λ ms. OnOk c.put-done.result (IsPermutation
    (left_by c.args.area.now ms ++ c.args.parts.now) c.put-done.new.merges.items))
    (c.into_vec-merges.ensures ∙ c.take.ensures.taken ∙ c.self.view_is) c.put-done.ensures.put)
    c.put-done.ensures.in_order
    (subst (λ ms. OnErr c.put-done.result (c.put-done.new.merges.items ≡ ms))
    (c.into_vec-merges.ensures ∙ c.take.ensures.taken ∙ c.self.view_is) c.put-done.ensures.unchanged))

pub returns-clause-put : goal.returns-clause-put
returns-clause-put c =
    subst (λ after. OnOk c.put-done.result
    (ListsJust (IsLeftOrPart c.args.area.now c.args.self.now c.args.parts.now) after)) (sym c.of.ensures)
    (listed c.args.area.now c.args.self.now c.args.parts.now c.put-done.new.merges.items
    (subst AreMerges c.self.view_is c.self.invariant) c.requires.whole c.requires.parts c.put-done.result
    (subst (λ ms. OnOk c.put-done.result (IsPermutation
    (left_by c.args.area.now ms ++ c.args.parts.now) c.put-done.new.merges.items))
    (c.into_vec-merges.ensures ∙ c.take.ensures.taken ∙ c.self.view_is) c.put-done.ensures.put)
    c.put-done.ensures.in_order)
