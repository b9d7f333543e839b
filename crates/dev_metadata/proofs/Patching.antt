-- What is left to be put into the items of a list, one after another.
use Rattle.std.proofs.Common.{◌≡◌, ℕ, ◌+◌, ◌<◌, ◌≤◌, Bool, true, false, cond, Option, None, Some, List, [], ◌∷◌, ◌++◌, map, set, take, drop, length, get_or, refl, sym, ap, ◌∙◌, subst, arith}
use Rattle.std.proofs.lemmas.List.{take_more, take_more_set, take_all, length-set, map-append, set-get_or, drop_more, drop-drop, drop-set-lt, get_or-map, length-map}
use Rattle.dev_metadata.specs.declared.types.Item.{Item}
use Rattle.dev_metadata.specs.declared.types.ItemPatch.{ItemPatch}
use Rattle.dev_metadata.specs.declared.types.Lookup.{Lookup}
use Rattle.dev_metadata.specs.declared.types.Visibility.TheVariants.{Document}
use Rattle.dev_metadata.specs.declared.types.Spot.TheVariants.{Spreadsheet}
use Rattle.dev_metadata.specs.Lookup.{finds_some}
use Rattle.dev_metadata.specs.declared.updating.Given.{Given}
use Rattle.dev_metadata.specs.Given.{given_of, given_to, with_given}
use Rattle.dev_metadata.specs.Patch.{patched}

-- some item
abbrev pub any_item : Item
any_item = record { id = 0; key = []; value = []; spot = Spreadsheet; visibility = Document }

-- the item with what it is given, if it is given something
abbrev pub patched_item : List Lookup → List ℕ → ItemPatch → Item → Item
patched_item lookups project patch item =
    cond (finds_some lookups project item) (patched project patch item) item

-- two lists that are one from a place on have one item there
pub same_item : {X : Type 0} (xs ys : List X) (at : ℕ) (d : X) → at < length xs → at < length ys
    → drop at xs ≡ drop at ys → get_or xs at d ≡ get_or ys at d
same_item xs ys at d one other same =
    let xs_is = drop_more xs at d one in
    let ys_is = drop_more ys at d other in
    cc

-- and are one behind it, whatever is put there
pub same_behind : {X : Type 0} (xs ys : List X) (at : ℕ) (x : X) → drop at xs ≡ drop at ys
    → drop (at + 1) (set xs at x) ≡ drop (at + 1) ys
same_behind xs ys at x same =
    drop-set-lt (at + 1) xs at x (omega arith)
    ∙ sym (drop-drop 1 at xs) ∙ ap (drop 1) same ∙ drop-drop 1 at ys

-- what stands next among the copies is what the item there is given
pub given_here : (lookups : List Lookup) (project : List ℕ) (patch : ItemPatch) (before : List Item)
    (copies : List (Option Given)) (at : ℕ) (one : Option Given) (d : Item) → at < length before
    → length copies ≡ length before
    → drop at copies ≡ drop at (map (given_to lookups project patch) before)
    → one ≡ get_or copies at one → given_to lookups project patch (get_or before at d) ≡ one
given_here lookups project patch before copies at one d there long rest read =
    let given = given_to lookups project patch in
    let wide = length-map before given in
    sym (read
    ∙ same_item copies (map given before) at one (omega arith) (omega arith) rest
    ∙ get_or-map given before at d one there)

-- an item that is given something is patched, and one that isn't stays
patched_given : (project : List ℕ) (patch : ItemPatch) (item : Item) (given : Given) (finds : Bool)
    → cond finds (Some (given_of project patch)) None ≡ Some given
    → cond finds (patched project patch item) item ≡ with_given given item
patched_given project patch item given true is =
    let same : given_of project patch ≡ given = cc in
    ap (λ (given : Given). with_given given item) same
patched_given project patch item given false is = cc

pub patched_some : (lookups : List Lookup) (project : List ℕ) (patch : ItemPatch) (item : Item) (given : Given)
    → given_to lookups project patch item ≡ Some given
    → patched_item lookups project patch item ≡ with_given given item
patched_some lookups project patch item given is =
    patched_given project patch item given (finds_some lookups project item) is

stays : (project : List ℕ) (patch : ItemPatch) (item : Item) (finds : Bool)
    → cond finds (Some (given_of project patch)) None ≡ None
    → cond finds (patched project patch item) item ≡ item
stays project patch item true is = cc
stays project patch item false is = refl

pub patched_none : (lookups : List Lookup) (project : List ℕ) (patch : ItemPatch) (item : Item)
    → given_to lookups project patch item ≡ None → patched_item lookups project patch item ≡ item
patched_none lookups project patch item is =
    stays project patch item (finds_some lookups project item) is

-- the first `at` items are patched, and the rest is as it was
pub record Patches (f : Item → Item) (before now : List Item) (at : ℕ) : Type 0 where
  pub wide : length now ≡ length before
  pub done : take at now ≡ map f (take at before)
  pub behind : drop at now ≡ drop at before

pub Patches-begin : (f : Item → Item) (items : List Item) → Patches f items items 0
Patches-begin f items = record { wide = refl; done = refl; behind = refl }

-- one more is
pub Patches-put : (f : Item → Item) (before now : List Item) (at : ℕ) (item d : Item) → at < length before
    → item ≡ f (get_or before at d) → Patches f before now at → Patches f before (set now at item) (at + 1)
Patches-put f before now at item d there is patches =
    let wide = patches.wide in
    record {
      wide = length-set now at item ∙ wide;
      done = take_more_set now at item (omega arith) ∙ ap (λ done. done ++ item ∷ []) patches.done
          ∙ ap (λ item. map f (take at before) ++ item ∷ []) is
          ∙ sym (ap (map f) (take_more before at d there) ∙ map-append f (take at before) (get_or before at d ∷ []));
      behind = same_behind now before at item patches.behind;
    }

-- and so is one that is already
pub Patches-same : (f : Item → Item) (before now : List Item) (at : ℕ) (d : Item) → at < length before
    → f (get_or before at d) ≡ get_or before at d → Patches f before now at → Patches f before now (at + 1)
Patches-same f before now at d there is patches =
    let wide = patches.wide in
    let here = same_item now before at d (omega arith) there patches.behind in
    subst (λ (list : List Item). Patches f before list (at + 1))
    (ap (set now at) (sym here) ∙ set-get_or now at d)
    (Patches-put f before now at (get_or before at d) d there (sym is) patches)

-- in the end all are
pub Patches-end : (f : Item → Item) (before now : List Item) (at : ℕ) → length before ≤ at
    → Patches f before now at → now ≡ map f before
Patches-end f before now at all patches =
    let wide = patches.wide in
    sym (take_all at now (omega arith)) ∙ patches.done ∙ ap (map f) (take_all at before all)
