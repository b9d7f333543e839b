use Rattle.std.proofs.Common.{◌≡◌, ◌+◌, ◌-◌, ◌*◌, ◌/◌, ◌<◌, ◌≤◌, ℕ, inl, inr, ◌++◌, ap, subst, ◌∙◌, arith}
use Rattle.std.proofs.Math.Nat.{div-mul-le_self}
use Rattle.std.specs.Prelude.{map, min}
use Rattle.shared_map.specs.Places.{place_at, in_part, in_parts}
use Rattle.shared_map.specs.Found.{keys_found}
use Rattle.shared_map.proofs.Keys.{all_listed, none_listed, listed_none, listed_more, part_more, none_past, before_last, past_last}
use Rattle.shared_map.proofs.branch.BranchPart.list.Goals.{then-top-count, else-top-count}
use Rattle.shared_map.proofs.branch.BranchPart.list.Goals as goal

pub loop-index-init : goal.loop-index-init
loop-index-init g c =
    listed_none g.K.Key.listed _ _
    (none_listed (in_parts g.C.Part.at c.span-span.result c.args.self.now.parts.items) c.args.base
    c.args.first c.args.last
    (c.args.first / c.span-span.result * c.span-span.result) (div-mul-le_self c.args.first c.span-span.result))

pub list_part-requires : goal.list_part-requires
list_part-requires g c =
    let within : c.loop-index.index < c.args.last / c.span-span.result + 1 = elim c.if-top-count.branch [
      | then-top-count w ↦ omega arith
      | else-top-count w ↦ omega arith
    ] in
    let start : c.loop-index.index * c.span-span.result ≤ c.args.last =
    before_last c.loop-index.index c.args.last c.span-span.result c.span-span.ensures.positive within in
    omega arith

pub loop-index-preserved : goal.loop-index-preserved
loop-index-preserved g c =
    let within : c.loop-index.index < c.args.last / c.span-span.result + 1 = elim c.if-top-count.branch [
      | then-top-count w ↦ omega arith
      | else-top-count w ↦ omega arith
    ] in
    let start : c.loop-index.index * c.span-span.result ≤ c.args.last =
    before_last c.loop-index.index c.args.last c.span-span.result c.span-span.ensures.positive within in
    let part = in_part g.C.Part.at (place_at c.args.self.now.parts.items c.loop-index.index) in
    let at = c.loop-index.index * c.span-span.result in
    listed_more g.K.Key.listed c.args.found.now.items
    (keys_found (in_parts g.C.Part.at c.span-span.result c.args.self.now.parts.items) c.args.base c.args.first
    (min (c.args.last + 1) at))
    (keys_found part (c.args.base + at) (c.args.first - at) (min (c.args.last - at) (c.span-span.result - 1) + 1))
    c.loop-index.found.items c.list_part.new.found.items
    (keys_found (in_parts g.C.Part.at c.span-span.result c.args.self.now.parts.items) c.args.base c.args.first
    (min (c.args.last + 1) ((c.loop-index.index + 1) * c.span-span.result)))
    c.loop-index.invariant
    (c.in_ok-list_part.ensures
    ∙ ap (λ (first : ℕ). c.loop-index.found.items ++ map g.K.Key.listed
    (keys_found part (c.args.base + at) first (c.min-last_of_part.result + 1))) c.saturating_sub.ensures
    ∙ ap (λ (last : ℕ). c.loop-index.found.items ++ map g.K.Key.listed
    (keys_found part (c.args.base + at) (c.args.first - at) (last + 1))) c.min-last_of_part.ensures)
    (part_more g.C.Part.at c.span-span.result c.args.self.now.parts.items c.args.base c.args.first c.args.last
    c.loop-index.index c.span-span.ensures.positive start)

pub returns : goal.returns
returns g c =
    subst (λ (span : ℕ). c.loop-index.found.items
    ≡ c.args.found.now.items ++ map g.K.Key.listed
    (keys_found (in_parts g.C.Part.at span c.args.self.now.parts.items) c.args.base c.args.first (c.args.last + 1)))
    c.span-span.ensures.is
    (c.loop-index.invariant ∙ ap (λ keys. c.args.found.now.items ++ map g.K.Key.listed keys)
    (all_listed (in_parts g.C.Part.at c.span-span.result c.args.self.now.parts.items) c.args.base c.args.first
    c.args.last (c.loop-index.index * c.span-span.result)
    (elim c.if-top-count.branch [
      | then-top-count w ↦
          inl (past_last c.loop-index.index c.args.last c.span-span.result c.span-span.ensures.positive (omega arith))
      | else-top-count w ↦
          inr (none_past g.C.Part.at c.span-span.result c.args.self.now.parts.items c.loop-index.index
          c.span-span.ensures.positive (omega arith))
    ])))
