use Rattle.std.proofs.Common.{◌≡◌, ℕ, ◌-◌, length, take, ap, ◌∙◌}
use Rattle.shared_map.proofs.Parts.{popped, same_then}
use Rattle.shared_map.proofs.places.trim.Goals as goal

pub loop-places-preserved-in-loop-places-2 : goal.loop-places-preserved-in-loop-places-2
loop-places-preserved-in-loop-places-2 g c =
    let places = c.loop-places.places.items in
    let empty = rw c.deref.ensures.value at (c.ends_empty.ensures c.loop-places-test.true) in
    let rest : c.pop.new.self.items ≡ take (length c.loop-places.places.items - 1) c.loop-places.places.items =
    c.pop.ensures.rest ∙ ap (λ (n : ℕ). take (n - 1) c.loop-places.places.items) c.loop-places.places.ok.0 in
    same_then _ _ _ c.loop-places.invariant (popped places c.pop.new.self.items empty.0 empty.1 rest)
