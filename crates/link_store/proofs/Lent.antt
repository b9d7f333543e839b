-- The nodes once an item that was lent was given back.
use Rattle.std.proofs.Common.{◌≡◌, ◌≢◌, inl, inr, ℕ, ◌<◌, List, length, map, sym, ap, ◌∙◌}
use Rattle.std.specs.Prelude.{None, Some}
use Rattle.std.specs.Option.{is_some, option_map}
use Rattle.std.proofs.lemmas.Bool.{cases_lt, false≢true}
use Rattle.std.proofs.lemmas.List.{get_or_past, get_or-set_same, get_or-set_other}
use Rattle.slab.specs.Slab.{Slab, get, with_value}
use Rattle.link_store.specs.declared.nodes.Node.{Node}
use Rattle.link_store.specs.declared.nodes.Ends.{Ends}
use Rattle.link_store.specs.Lists.{with_item_at}
use Rattle.link_store.specs.Nodes.{IsSound, entries, with_item}
use Rattle.link_store.proofs.Replaced.{store_put}
use Rattle.link_store.proofs.Stores.{StandsFor}

module _ {T : Type 0} (nodes : Slab (Node T)) (at : ℕ) (held : Node T) (here : get nodes at ≡ Some held) (item : T)
  where
    inside : at < length nodes.slots
    inside = elim (cases_lt at (length nodes.slots)) [
      | inl less ↦ less
      | inr past ↦ absurd (false≢true (ap is_some (sym (get_or_past nodes.slots at None past) ∙ here)))
    ]

    changed : get (with_value nodes at (with_item item held)) at ≡ option_map (with_item item) (get nodes at)
    changed = get_or-set_same nodes.slots at (Some (with_item item held)) None inside
        ∙ sym (ap (option_map (with_item item)) here)

    others : (k : ℕ) → at ≢ k → get (with_value nodes at (with_item item held)) k ≡ get nodes k
    others k differs = get_or-set_other nodes.slots at k (Some (with_item item held)) None (λ same. differs (sym same))

    -- the lists that they stand for
    pub written : (ends : List Ends) (lists : List (List (ℕ × T))) → IsSound (get nodes) ends
        → map (entries (get nodes)) ends ≡ lists
        → StandsFor (get (with_value nodes at (with_item item held))) ends (with_item_at lists at item)
    written ends lists sound view =
        store_put at item (get nodes) (get (with_value nodes at (with_item item held))) changed others ends lists
        sound view
