-- The ids of a list of items: no two are one, whatever is put in, changed or taken out.
use Rattle.std.proofs.Common.{◌≡◌, ◌≢◌, ℕ, zero, suc, ◌<◌, Bool, true, false, cond, Option, None, Some, List, [], ◌∷◌, ◌++◌, All, take, set, length, get_or, refl, sym, ap, ◌∙◌, subst, arith}
use Rattle.std.specs.Prelude.{◌==◌, ◌&&◌, filter, is_some, AllPairs}
use Rattle.std.specs.List.{filter_map, cons_option}
use Rattle.std.specs.Option.{option_map}
use Rattle.std.proofs.lemmas.Bool.{ne_eqb, eq-eqb, eqb-true, false≢true}
use Rattle.std.proofs.lemmas.List.{map_push, get_or-map, length-map}
use Rattle.std.proofs.lemmas.List.Elements.{All-nil, All-cons, All-head, All-tail}
use Rattle.std.proofs.lemmas.List.Kept.{AllPairs-cons}
use Rattle.std.proofs.lemmas.List.Quantifiers.{all_pairs_push}
use Rattle.grid_range.specs.declared.axis.Axis.{Axis}
use Rattle.grid_range.specs.declared.change.Change.{Change}
use Rattle.dev_metadata.specs.declared.types.Item.{Item}
use Rattle.dev_metadata.specs.declared.types.Spot.{Spot}
use Rattle.dev_metadata.specs.Following.{spot_followed, item_followed}
use Rattle.dev_metadata.specs.Listed.{HaveOwnIds, ids_of, has_id, with_id, seen_with_id}
use Rattle.dev_metadata.specs.Lookup.{sees}

-- none of the ids is that one
abbrev pub AreOthers : ℕ → List Item → Type 0
AreOthers id items = All (λ other. id ≢ other) (ids_of items)

own_head : (first : Item) (rest : List Item) → HaveOwnIds (first ∷ rest) → AreOthers first.id rest
own_head first rest own = λ k d there. own 0 (suc k) d (omega arith) (omega arith)

own_tail : (first : Item) (rest : List Item) → HaveOwnIds (first ∷ rest) → HaveOwnIds rest
own_tail first rest own = λ i j d less there. own (suc i) (suc j) d (omega arith) (omega arith)

-- what becomes of an item has its id
abbrev pub KeepsId : (Item → Option Item) → Type 0
KeepsId becomes = (one other : Item) → becomes one ≡ Some other → other.id ≡ one.id

others_cons : (id : ℕ) (becomes : Item → Option Item) (one : Item) (first : Option Item) (rest : List Item)
    → becomes one ≡ first → KeepsId becomes → id ≢ one.id → AreOthers id rest
    → AreOthers id (cons_option first rest)
others_cons id becomes one None rest is keeps other others = others
others_cons id becomes one (Some first) rest is keeps other others =
    All-cons (λ other. id ≢ other) first.id (ids_of rest)
    (λ same. other (same ∙ keeps one first is)) others

others_kept : (id : ℕ) (becomes : Item → Option Item) (items : List Item) → KeepsId becomes
    → AreOthers id items → AreOthers id (filter_map becomes items)
others_kept id becomes [] keeps others = others
others_kept id becomes (first ∷ rest) keeps others =
    others_cons id becomes first (becomes first) (filter_map becomes rest) refl keeps
    (All-head (λ other. id ≢ other) first.id (ids_of rest) others)
    (others_kept id becomes rest keeps (All-tail (λ other. id ≢ other) first.id (ids_of rest) others))

own_cons : (becomes : Item → Option Item) (one : Item) (first : Option Item) (rest : List Item)
    → becomes one ≡ first → KeepsId becomes → AreOthers one.id rest → HaveOwnIds rest
    → HaveOwnIds (cons_option first rest)
own_cons becomes one None rest is keeps others own = own
own_cons becomes one (Some first) rest is keeps others own =
    AllPairs-cons (λ one other. one ≢ other) first.id (ids_of rest)
    (subst (λ (id : ℕ). AreOthers id rest) (sym (keeps one first is)) others) own

pub HaveOwnIds-filter_map : (becomes : Item → Option Item) (items : List Item) → KeepsId becomes
    → HaveOwnIds items → HaveOwnIds (filter_map becomes items)
HaveOwnIds-filter_map becomes [] keeps own = own
HaveOwnIds-filter_map becomes (first ∷ rest) keeps own =
    own_cons becomes first (becomes first) (filter_map becomes rest) refl keeps
    (others_kept first.id becomes rest keeps (own_head first rest own))
    (HaveOwnIds-filter_map becomes rest keeps (own_tail first rest own))

-- a filter keeps the items that pass
first_passes : (first : Item) (rest : List Item) (passes : Bool)
    → cons_option (cond passes (Some first) None) rest ≡ cond passes (first ∷ rest) rest
first_passes first rest true = refl
first_passes first rest false = refl

filter_is : (test : Item → Bool) (items : List Item)
    → filter_map (λ item. cond (test item) (Some item) None) items ≡ filter test items
filter_is test [] = refl
filter_is test (first ∷ rest) =
    first_passes first (filter_map (λ item. cond (test item) (Some item) None) rest) (test first)
    ∙ ap (λ rest. cond (test first) (first ∷ rest) rest) (filter_is test rest)

passing_id : (one other : Item) (passes : Bool) → cond passes (Some one) None ≡ Some other
    → other.id ≡ one.id
passing_id one other true is = cc
passing_id one other false is = cc

pub HaveOwnIds-filter : (test : Item → Bool) (items : List Item) → HaveOwnIds items
    → HaveOwnIds (filter test items)
HaveOwnIds-filter test items own =
    subst (λ (list : List Item). HaveOwnIds list) (filter_is test items)
    (HaveOwnIds-filter_map (λ item. cond (test item) (Some item) None) items
    (λ one other is. passing_id one other (test one) is) own)

-- an item that follows a change keeps its id
followed_id : (one other : Item) (spot : Option Spot)
    → option_map (λ spot. record one { spot = spot }) spot ≡ Some other → other.id ≡ one.id
followed_id one other None is = cc
followed_id one other (Some spot) is = cc

pub KeepsId-followed : (sheet : ℕ) (axis : Axis) (change : Change) → KeepsId (item_followed sheet axis change)
KeepsId-followed sheet axis change one other is =
    followed_id one other (spot_followed sheet axis change one.spot) is

-- one more
unused_first : (id : ℕ) (first : Item) (found : Option Item) (same : Bool) → (id == first.id) ≡ same
    → is_some (cond same (Some first) found) ≡ false → (id ≢ first.id) × (is_some found ≡ false)
unused_first id first found true is none = cc
unused_first id first found false is none =
    (λ (equal : id ≡ first.id). false≢true (sym is ∙ eq-eqb id first.id equal), none)

pub unused_others : (id : ℕ) (items : List Item) → has_id items id ≡ false
    → All (λ other. other ≢ id) (ids_of items)
unused_others id [] unused = All-nil (λ other. other ≢ id)
unused_others id (first ∷ rest) unused =
    let parts = unused_first id first (with_id id rest) (id == first.id) refl unused in
    All-cons (λ other. other ≢ id) first.id (ids_of rest) (λ same. parts.0 (sym same))
    (unused_others id rest parts.1)

pub HaveOwnIds-push : (item : Item) (items : List Item) → has_id items item.id ≡ false → HaveOwnIds items
    → HaveOwnIds (items ++ item ∷ [])
HaveOwnIds-push item items unused own =
    subst (λ (ids : List ℕ). AllPairs (λ one other. one ≢ other) ids)
    (sym (map_push (λ (item : Item). item.id) items item))
    (all_pairs_push (λ one other. one ≢ other) (ids_of items) item.id own (unused_others item.id items unused))

-- an item with the id of the one in whose place it is put
pub ids_of-set : (items : List Item) (at : ℕ) (item d : Item) → at < length items
    → item.id ≡ (get_or items at d).id → ids_of (set items at item) ≡ ids_of items
ids_of-set [] at item d there same = refl
ids_of-set (first ∷ rest) zero item d there same = ap (λ id. id ∷ ids_of rest) same
ids_of-set (first ∷ rest) (suc at) item d there same =
    ap (λ ids. first.id ∷ ids) (ids_of-set rest at item d (omega arith) same)

pub HaveOwnIds-set : (items : List Item) (at : ℕ) (item d : Item) → at < length items
    → item.id ≡ (get_or items at d).id → HaveOwnIds items → HaveOwnIds (set items at item)
HaveOwnIds-set items at item d there same own =
    subst (λ (ids : List ℕ). AllPairs (λ one other. one ≢ other) ids)
    (sym (ids_of-set items at item d there same)) own

-- an item has another id than those before it
pub new_id_before : (items : List Item) (at : ℕ) (d : Item) → HaveOwnIds items → at < length items
    → has_id (take at items) (get_or items at d).id ≡ false
new_id_before [] at d own there = absurd (omega arith)
new_id_before (first ∷ rest) zero d own there = refl
new_id_before (first ∷ rest) (suc at) d own there =
    let long = length-map rest (λ (item : Item). item.id) in
    let other = own_head first rest own at d.id (omega arith) in
    rw (ne_eqb (get_or rest at d).id first.id
    (λ same. other (sym same ∙ sym (get_or-map (λ (item : Item). item.id) rest at d d.id (omega arith)))))
    (new_id_before rest at d (own_tail first rest own) (omega arith))

-- the item with an id, as a project sees it
unfound_first : (id : ℕ) (project : List ℕ) (first : Item) (found : Option Item) (same : Bool)
    → cond same (Some first) found ≡ None → (same && sees project first ≡ false) × (found ≡ None)
unfound_first id project first found true none = cc
unfound_first id project first found false none = (refl, none)

pub none_seen : (id : ℕ) (project : List ℕ) (items : List Item) → with_id id items ≡ None
    → seen_with_id id project items ≡ None
none_seen id project [] none = refl
none_seen id project (first ∷ rest) none =
    let parts = unfound_first id project first (with_id id rest) (id == first.id) none in
    rw parts.0 (none_seen id project rest parts.1)

seen_first : (id : ℕ) (project : List ℕ) (first item : Item) (found seen : Option Item) (same : Bool)
    → cond same (Some first) found ≡ Some item → sees project item ≡ true → (found ≡ Some item → seen ≡ Some item)
    → cond (same && sees project first) (Some first) seen ≡ Some item
seen_first id project first item found seen true is sees rest =
    let one : first ≡ item = cc in rw (one, sees) refl
seen_first id project first item found seen false is sees rest = rest is

pub found_seen : (id : ℕ) (project : List ℕ) (items : List Item) (item : Item) → with_id id items ≡ Some item
    → sees project item ≡ true → seen_with_id id project items ≡ Some item
found_seen id project [] item is sees = cc
found_seen id project (first ∷ rest) item is sees =
    seen_first id project first item (with_id id rest) (seen_with_id id project rest) (id == first.id) is sees
    (λ is. found_seen id project rest item is sees)

others_unfound : (id : ℕ) (items : List Item) → AreOthers id items → with_id id items ≡ None
others_unfound id [] others = refl
others_unfound id (first ∷ rest) others =
    rw (ne_eqb id first.id (All-head (λ other. id ≢ other) first.id (ids_of rest) others))
    (others_unfound id rest (All-tail (λ other. id ≢ other) first.id (ids_of rest) others))

unseen_first : (id : ℕ) (project : List ℕ) (first item : Item) (rest : List Item) (same : Bool)
    → (id == first.id) ≡ same → cond same (Some first) (with_id id rest) ≡ Some item
    → sees project item ≡ false → AreOthers first.id rest
    → (with_id id rest ≡ Some item → seen_with_id id project rest ≡ None)
    → cond (same && sees project first) (Some first) (seen_with_id id project rest) ≡ None
unseen_first id project first item rest true told is unseen others behind =
    let one : first ≡ item = cc in
    let same : id ≡ first.id = eqb-true id first.id told in
    rw (one, unseen) (none_seen id project rest
    (others_unfound id rest (subst (λ (id : ℕ). AreOthers id rest) (sym same) others)))
unseen_first id project first item rest false told is unseen others behind = behind is

pub found_unseen : (id : ℕ) (project : List ℕ) (items : List Item) (item : Item) → HaveOwnIds items
    → with_id id items ≡ Some item → sees project item ≡ false → seen_with_id id project items ≡ None
found_unseen id project [] item own is unseen = refl
found_unseen id project (first ∷ rest) item own is unseen =
    unseen_first id project first item rest (id == first.id) refl is unseen (own_head first rest own)
    (λ is. found_unseen id project rest item (own_tail first rest own) is unseen)
