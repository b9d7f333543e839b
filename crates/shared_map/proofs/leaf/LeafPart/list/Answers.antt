use Rattle.std.proofs.Common.{◌≡◌, ◌+◌, ◌<◌, ◌≤◌, inl, inr, ◌∷◌, [], ◌++◌, ap, sym, ◌∙◌, arith}
use Rattle.std.specs.Prelude.{is_some, map}
use Rattle.shared_map.specs.Places.{place_at}
use Rattle.shared_map.proofs.Keys.{all_listed, none_listed, listed_none, listed_more, found_more, found_none, is_some-copied, no_place}
use Rattle.shared_map.proofs.leaf.LeafPart.list.Goals.{then-is_some+in_ok-push, else-is_some, then-last-count, else-last-count}
use Rattle.shared_map.proofs.leaf.LeafPart.list.Goals as goal

pub loop-key-init : goal.loop-key-init
loop-key-init g c =
    listed_none g.K.Key.listed _ _
    (none_listed (place_at c.args.self.now.places.items) c.args.base c.args.first c.args.last c.args.first
    (omega arith))

pub loop-key-preserved : goal.loop-key-preserved
loop-key-preserved g c =
    let within : c.loop-key.key < c.args.last + 1 = elim c.if-last-count.branch [
      | then-last-count w ↦ omega arith
      | else-last-count w ↦ omega arith
    ] in
    let from : c.args.first ≤ c.loop-key.key = omega arith in
    let holds : is_some (place_at c.args.self.now.places.items c.loop-key.key) ≡ c.is_some.result =
    ap is_some (sym c.get.ensures) ∙ is_some-copied c.get.result ∙ sym c.is_some.ensures in
    elim c.if-is_some.branch [
      | then-is_some+in_ok-push w ↦
          let put : c.if-is_some.found.items ≡ c.loop-key.found.items ++ g.K.Key.listed (c.args.base + c.loop-key.key)
          ∷ [] = cc (w.in_ok-push.ensures.items, w.of.ensures) in
          listed_more g.K.Key.listed c.args.found.now.items _ _ c.loop-key.found.items c.if-is_some.found.items _
          c.loop-key.invariant put
          (found_more (place_at c.args.self.now.places.items) c.args.base c.args.first c.args.last c.loop-key.key from
          within (holds ∙ w.if-is_some.true))
      | else-is_some w ↦
          let same : c.if-is_some.found.items ≡ c.loop-key.found.items = cc in
          same ∙ c.loop-key.invariant ∙ ap (λ keys. c.args.found.now.items ++ map g.K.Key.listed keys)
          (sym (found_none (place_at c.args.self.now.places.items) c.args.base c.args.first c.args.last c.loop-key.key
          within (holds ∙ w.if-is_some.false)))
    ]

pub returns : goal.returns
returns g c = c.loop-key.invariant ∙ ap (λ keys. c.args.found.now.items ++ map g.K.Key.listed keys)
    (all_listed (place_at c.args.self.now.places.items) c.args.base c.args.first c.args.last c.loop-key.key
    (elim c.if-last-count.branch [
      | then-last-count w ↦ inl (omega arith)
      | else-last-count w ↦ inr (λ key le. no_place c.args.self.now.places.items key (omega arith))
    ]))
