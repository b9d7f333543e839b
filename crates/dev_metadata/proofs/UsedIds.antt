-- The ids that are known to be used: they stay so, whatever is put behind the items or into them.
use Rattle.std.proofs.Common.{◌≡◌, ℕ, Bool, true, false, cond, Option, None, Some, List, [], ◌∷◌, ◌++◌, refl, ap, ◌∙◌}
use Rattle.std.specs.Prelude.{◌==◌, is_some}
use Rattle.cell_value.specs.Ids.{IsLeastUnused, IsNewId}
use Rattle.dev_metadata.specs.declared.types.Item.{Item}
use Rattle.dev_metadata.specs.declared.types.ItemPatch.{ItemPatch}
use Rattle.dev_metadata.specs.declared.types.Lookup.{Lookup}
use Rattle.dev_metadata.specs.Lookup.{finds_some}
use Rattle.dev_metadata.specs.Listed.{has_id, with_id}
use Rattle.dev_metadata.specs.Patch.{patched, with_patched}
use Rattle.dev_metadata.specs.Used.{AreUsedBelow}
use Rattle.dev_metadata.proofs.Patching.{patched_item}

-- where no id is asked for, all below the one that is chosen are used
pub AreUsedBelow-chosen : (items : List Item) (asked : Option ℕ) (id : ℕ) → is_some asked ≡ false
    → IsNewId (IsLeastUnused (has_id items)) asked id → AreUsedBelow items id
AreUsedBelow-chosen items None id none is = record { positive = is.positive; used = is.least }
AreUsedBelow-chosen items (Some asked) id none is = cc

-- one more item
used_first : (first : Item) (found more : Option Item) (same : Bool) → (is_some found ≡ true → is_some more ≡ true)
    → is_some (cond same (Some first) found) ≡ true → is_some (cond same (Some first) more) ≡ true
used_first first found more true rest used = refl
used_first first found more false rest used = rest used

has_id-push : (items : List Item) (item : Item) (id : ℕ) → has_id items id ≡ true
    → has_id (items ++ item ∷ []) id ≡ true
has_id-push [] item id used = cc
has_id-push (first ∷ rest) item id used =
    used_first first (with_id id rest) (with_id id (rest ++ item ∷ [])) (id == first.id)
    (has_id-push rest item id) used

pub AreUsedBelow-push : (items : List Item) (item : Item) (end : ℕ) → AreUsedBelow items end
    → AreUsedBelow (items ++ item ∷ []) end
AreUsedBelow-push items item end below = record {
  positive = below.positive;
  used = λ lesser one under. has_id-push items item lesser (below.used lesser one under);
}

-- an update
patched_id : (project : List ℕ) (patch : ItemPatch) (item : Item) (finds : Bool)
    → (cond finds (patched project patch item) item).id ≡ item.id
patched_id project patch item true = refl
patched_id project patch item false = refl

same_first : (first other : Item) (found more : Option Item) (same : Bool) → is_some found ≡ is_some more
    → is_some (cond same (Some first) found) ≡ is_some (cond same (Some other) more)
same_first first other found more true rest = refl
same_first first other found more false rest = rest

has_id-patched : (lookups : List Lookup) (project : List ℕ) (patch : ItemPatch) (items : List Item) (id : ℕ)
    → has_id (with_patched lookups project patch items) id ≡ has_id items id
has_id-patched lookups project patch [] id = refl
has_id-patched lookups project patch (first ∷ rest) id =
    let after = patched_item lookups project patch first in
    ap (λ key. is_some (cond (id == key) (Some after) (with_id id (with_patched lookups project patch rest))))
    (patched_id project patch first (finds_some lookups project first))
    ∙ same_first after first (with_id id (with_patched lookups project patch rest)) (with_id id rest) (id == first.id)
    (has_id-patched lookups project patch rest id)

pub AreUsedBelow-patched : (lookups : List Lookup) (project : List ℕ) (patch : ItemPatch) (items : List Item)
    (end : ℕ) → AreUsedBelow items end → AreUsedBelow (with_patched lookups project patch items) end
AreUsedBelow-patched lookups project patch items end below = record {
  positive = below.positive;
  used = λ lesser one under.
      has_id-patched lookups project patch items lesser ∙ below.used lesser one under;
}
