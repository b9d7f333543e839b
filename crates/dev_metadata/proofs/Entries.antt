-- Entries of a map of items by id, and the list of the items.
use Rattle.std.proofs.Common.{◌≡◌, ℕ, suc, zero, ◌<◌, Bool, true, false, cond, Option, None, Some, List, [], ◌∷◌, ◌++◌, All, set, length, get_or, refl, sym, ap, ◌∙◌, subst, arith}
use Rattle.std.specs.Prelude.{filter, ◌==◌, is_some}
use Rattle.std.specs.List.{filter_map, cons_option}
use Rattle.std.specs.Option.{option_map}
use Rattle.std.specs.Map.{lookup}
use Rattle.std.proofs.lemmas.List.{map_push}
use Rattle.std.proofs.lemmas.List.Elements.{All-cons, All-head, All-tail, All-push, All-filter}
use Rattle.indexmap.specs.IndexMap.{set_value_at}
use Rattle.cell_value.specs.Entries.{entry_followed}
use Rattle.dev_metadata.specs.declared.types.Item.{Item}
use Rattle.dev_metadata.specs.Listed.{HaveOwnIds, has_id, with_id}
use Rattle.dev_metadata.specs.Kept.{Entry, items_of, IsKept}
use Rattle.dev_metadata.proofs.OwnIds.{KeepsId, HaveOwnIds-push, HaveOwnIds-filter, HaveOwnIds-filter_map, HaveOwnIds-set}

-- the entry stands under the id of its item
abbrev pub IsKeyed : Entry → Type 0
IsKeyed entry = entry.0 ≡ entry.1.id

-- a look-up by id in the map is one in the list
pub lookup-with_id : (id : ℕ) (entries : List Entry) → All IsKeyed entries
    → lookup (λ key. id == key) entries ≡ with_id id (items_of entries)
lookup-with_id id [] keyed = refl
lookup-with_id id (first ∷ rest) keyed =
    ap (λ key. cond (id == key) (Some first.1) (lookup (λ key. id == key) rest))
    (All-head IsKeyed first rest keyed)
    ∙ ap (λ found. cond (id == first.1.id) (Some first.1) found)
    (lookup-with_id id rest (All-tail IsKeyed first rest keyed))

pub none_of : {X : Type 0} (found : Option X) → is_some found ≡ false → found ≡ None
none_of None none = refl
none_of (Some one) none = cc

-- one more at the end
pub IsKept-push : (entries : List Entry) (entry : Entry) → IsKept entries → IsKeyed entry
    → has_id (items_of entries) entry.1.id ≡ false → IsKept (entries ++ entry ∷ [])
IsKept-push entries entry kept key unused = record {
  keyed = All-push IsKeyed entries entry kept.keyed key;
  own = subst (λ (items : List Item). HaveOwnIds items)
      (sym (map_push (λ (entry : Entry). entry.1) entries entry))
      (HaveOwnIds-push entry.1 (items_of entries) unused kept.own);
}

-- those that pass
first_item : (first : Entry) (rest : List Entry) (passes : Bool)
    → items_of (cond passes (first ∷ rest) rest) ≡ cond passes (first.1 ∷ items_of rest) (items_of rest)
first_item first rest true = refl
first_item first rest false = refl

pub items_of-filter : (test : Item → Bool) (entries : List Entry)
    → items_of (filter (λ entry. test entry.1) entries) ≡ filter test (items_of entries)
items_of-filter test [] = refl
items_of-filter test (first ∷ rest) =
    first_item first (filter (λ entry. test entry.1) rest) (test first.1)
    ∙ ap (λ rest. cond (test first.1) (first.1 ∷ rest) rest) (items_of-filter test rest)

pub IsKept-filter : (test : Item → Bool) (entries : List Entry) → IsKept entries
    → IsKept (filter (λ entry. test entry.1) entries)
IsKept-filter test entries kept = record {
  keyed = All-filter (λ (entry : Entry). test entry.1) IsKeyed entries kept.keyed;
  own = subst (λ (items : List Item). HaveOwnIds items) (sym (items_of-filter test entries))
      (HaveOwnIds-filter test (items_of entries) kept.own);
}

-- those that follow
item_of-followed : (first : Entry) (rest : List Entry) (after : Option Item)
    → items_of (cons_option (option_map (λ item. (first.0, item)) after) rest)
    ≡ cons_option after (items_of rest)
item_of-followed first rest None = refl
item_of-followed first rest (Some item) = refl

pub items_of-followed : (becomes : Item → Option Item) (entries : List Entry)
    → items_of (filter_map (entry_followed becomes) entries) ≡ filter_map becomes (items_of entries)
items_of-followed becomes [] = refl
items_of-followed becomes (first ∷ rest) =
    item_of-followed first (filter_map (entry_followed becomes) rest) (becomes first.1)
    ∙ ap (cons_option (becomes first.1)) (items_of-followed becomes rest)

keyed_option : (becomes : Item → Option Item) (first : Entry) (rest : List Entry) (after : Option Item)
    → KeepsId becomes → becomes first.1 ≡ after → IsKeyed first → All IsKeyed rest
    → All IsKeyed (cons_option (option_map (λ item. (first.0, item)) after) rest)
keyed_option becomes first rest None keeps is key keyed = keyed
keyed_option becomes first rest (Some item) keeps is key keyed =
    All-cons IsKeyed (first.0, item) rest (key ∙ sym (keeps first.1 item is)) keyed

keyed-followed : (becomes : Item → Option Item) (entries : List Entry) → KeepsId becomes
    → All IsKeyed entries → All IsKeyed (filter_map (entry_followed becomes) entries)
keyed-followed becomes [] keeps keyed = keyed
keyed-followed becomes (first ∷ rest) keeps keyed =
    keyed_option becomes first (filter_map (entry_followed becomes) rest) (becomes first.1) keeps refl
    (All-head IsKeyed first rest keyed) (keyed-followed becomes rest keeps (All-tail IsKeyed first rest keyed))

pub IsKept-followed : (becomes : Item → Option Item) (entries : List Entry) → KeepsId becomes → IsKept entries
    → IsKept (filter_map (entry_followed becomes) entries)
IsKept-followed becomes entries keeps kept = record {
  keyed = keyed-followed becomes entries keeps kept.keyed;
  own = subst (λ (items : List Item). HaveOwnIds items) (sym (items_of-followed becomes entries))
      (HaveOwnIds-filter_map becomes (items_of entries) keeps kept.own);
}

-- a write of the item at a place
pub items_of-set_value_at : (entries : List Entry) (at : ℕ) (item : Item)
    → items_of (set_value_at entries at item) ≡ set (items_of entries) at item
items_of-set_value_at [] at item = refl
items_of-set_value_at (first ∷ rest) zero item = refl
items_of-set_value_at (first ∷ rest) (suc at) item =
    ap (λ rest. first.1 ∷ rest) (items_of-set_value_at rest at item)

keyed-set_value_at : (entries : List Entry) (at : ℕ) (item d : Item) → at < length (items_of entries)
    → item.id ≡ (get_or (items_of entries) at d).id → All IsKeyed entries
    → All IsKeyed (set_value_at entries at item)
keyed-set_value_at [] at item d there same keyed = keyed
keyed-set_value_at (first ∷ rest) zero item d there same keyed =
    All-cons IsKeyed (first.0, item) rest (All-head IsKeyed first rest keyed ∙ sym same)
    (All-tail IsKeyed first rest keyed)
keyed-set_value_at (first ∷ rest) (suc at) item d there same keyed =
    All-cons IsKeyed first (set_value_at rest at item) (All-head IsKeyed first rest keyed)
    (keyed-set_value_at rest at item d (omega arith) same (All-tail IsKeyed first rest keyed))

pub IsKept-set_value_at : (entries : List Entry) (at : ℕ) (item d : Item) → at < length (items_of entries)
    → item.id ≡ (get_or (items_of entries) at d).id → IsKept entries → IsKept (set_value_at entries at item)
IsKept-set_value_at entries at item d there same kept = record {
  keyed = keyed-set_value_at entries at item d there same kept.keyed;
  own = subst (λ (items : List Item). HaveOwnIds items) (sym (items_of-set_value_at entries at item))
      (HaveOwnIds-set (items_of entries) at item d there same kept.own);
}
