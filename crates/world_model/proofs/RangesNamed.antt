-- Named ranges by the places of their lines and by their names.
use Rattle.std.proofs.Common.{◌≡◌, ℕ, suc, refl, sym, ap, ◌∙◌, List, [], ◌∷◌, get_or, Bool, true, false, cond, arith}
use Rattle.std.specs.Prelude.{IfSome, Option, None, Some, filter, map}
use Rattle.std.specs.List.{All, AllZip, cons_option, filter_map}
use Rattle.std.specs.Option.{option_map}
use Rattle.std.proofs.lemmas.Bool.{false≢true}
use Rattle.std.proofs.lemmas.List.Elements.{All-cons, All-nil}
use Rattle.grid_range.specs.Tracking.{area_followed}
use Rattle.grid_range.specs.declared.area.Area.{Area}
use Rattle.grid_range.specs.declared.change.Change.{Change}
use Rattle.named_ranges.specs.Following.{range_followed}
use Rattle.named_ranges.specs.declared.range.NamedRange.{NamedRange}
use Rattle.world_model.specs.Area.{Orders, area_named}
use Rattle.world_model.specs.Book.{orders_of}
use Rattle.world_model.specs.LineChange.{LineChange, name_area_followed, name_range_followed}
use Rattle.world_model.specs.Ranges.{NameRange, range_named}
use Rattle.world_model.specs.Sheet.{NameSheet, PlaceSheet}
use Rattle.world_model.specs.Sound.{IsOnSheet}
use Rattle.world_model.specs.StandsFor.{SheetStandsFor}
use Rattle.world_model.proofs.ContentsApart.{in_orders, map_apart, same_area}
use Rattle.world_model.proofs.StillStands.{area_same, map_same}

-- each range is on one of the sheets
abbrev pub AreOnSheets : List PlaceSheet → List NamedRange → Type 0
AreOnSheets sheets ranges = All (λ range. IsOnSheet sheets range.area) ranges

-- ---- lists of what is named

-- what is left of what is named is named what is left
module _ {A B : Type 0} (f g : A → B) (test : A → Bool) (test' : B → Bool)
    (same_test : (x : A) → test' (f x) ≡ test x) where
  first_left : (b b' : Bool) (x : A) (xs : List A) (ys : List B) → b' ≡ b → (b ≡ true → f x ≡ g x) → ys ≡ map g xs
      → cond b' (f x ∷ ys) ys ≡ map g (cond b (x ∷ xs) xs)
  first_left true true x xs ys is one rest = ap (λ y. y ∷ ys) (one refl) ∙ ap (λ zs. g x ∷ zs) rest
  first_left false false x xs ys is one rest = rest
  first_left true false x xs ys is one rest = absurd (false≢true is)
  first_left false true x xs ys is one rest = absurd (false≢true (sym is))

  pub filter-named : (xs : List A) → All (λ x. test x ≡ true → f x ≡ g x) xs
      → filter test' (map f xs) ≡ map g (filter test xs)
  filter-named [] same = refl
  filter-named (x ∷ xs) same =
      first_left (test x) (test' (f x)) x (filter test xs) (filter test' (map f xs)) (same_test x)
      (same 0 x (omega arith)) (filter-named xs (λ k d there. same (suc k) d (omega arith)))

-- what holds of what is left holds of it afterwards
module _ {A : Type 0} (test : A → Bool) (P Q : A → Type 0) (also : (x : A) → test x ≡ true → P x → Q x) where
  left_holds : (b : Bool) (x : A) (xs : List A) → test x ≡ b → P x → All Q xs → All Q (cond b (x ∷ xs) xs)
  left_holds true x xs is one holds = All-cons Q x xs (also x is one) holds
  left_holds false x xs is one holds = holds

  pub All-left : (xs : List A) → All P xs → All Q (filter test xs)
  All-left [] holds = All-nil Q
  All-left (x ∷ xs) holds =
      left_holds (test x) x (filter test xs) refl (holds 0 x (omega arith))
      (All-left xs (λ k d there. holds (suc k) d (omega arith)))

-- what follows by names is named what follows by places
module _ {A B C D : Type 0} (by_names : C → Option D) (by_places : A → Option B) (before : A → C) (after : B → D) where
  first_followed : (found : Option B) (rest : List B)
      → cons_option (option_map after found) (map after rest) ≡ map after (cons_option found rest)
  first_followed None rest = refl
  first_followed (Some one) rest = refl

  pub filter_map-named : (xs : List A) → All (λ x. by_names (before x) ≡ option_map after (by_places x)) xs
      → filter_map by_names (map before xs) ≡ map after (filter_map by_places xs)
  filter_map-named [] same = refl
  filter_map-named (x ∷ xs) same =
      ap (λ found. cons_option found (filter_map by_names (map before xs))) (same 0 x (omega arith))
      ∙ ap (cons_option (option_map after (by_places x)))
      (filter_map-named xs (λ k d there. same (suc k) d (omega arith)))
      ∙ first_followed (by_places x) (filter_map by_places xs)

-- what holds of each that follows holds of all that are left
module _ {A B : Type 0} (by : A → Option B) (P : B → Type 0) where
  All-first : (found : Option B) (rest : List B) → IfSome found P → All P rest → All P (cons_option found rest)
  All-first None rest one holds = holds
  All-first (Some x) rest one holds = All-cons P x rest one holds

  pub All-filter_map : (xs : List A) → All (λ x. IfSome (by x) P) xs → All P (filter_map by xs)
  All-filter_map [] holds = All-nil P
  All-filter_map (x ∷ xs) holds =
      All-first (by x) (filter_map by xs) (holds 0 x (omega arith))
      (All-filter_map xs (λ k d there. holds (suc k) d (omega arith)))

-- ---- ranges

-- a range names the lines of its area
pub range_same : (orders orders' : Orders) (range : NamedRange)
    → area_named orders range.area ≡ area_named orders' range.area → range_named orders range
    ≡ range_named orders' range
range_same orders orders' range same = ap (λ area. record { id = range.id; name = range.name; area = area }) same

-- where the lines of the sheets stay, ranges name the same ones
pub ranges_same : (sheets : List PlaceSheet) (orders orders' : Orders)
    → ((area : Area) → IsOnSheet sheets area → orders area.sheet ≡ orders' area.sheet)
    → (ranges : List NamedRange) → AreOnSheets sheets ranges
    → map (range_named orders) ranges ≡ map (range_named orders') ranges
ranges_same sheets orders orders' same ranges on =
    map_same (range_named orders) (range_named orders') ranges
    (λ k d there. range_same orders orders' (get_or ranges k d)
    (area_same sheets orders orders' same (get_or ranges k d).area (on k d there)))

-- a range follows with its area
range_follows : (to : LineChange) (count : ℕ) (change : Change) (before after : Orders) (range : NamedRange)
    → name_area_followed to (area_named before range.area)
    ≡ option_map (area_named after) (area_followed to.sheet to.axis count change range.area)
    → name_range_followed to (range_named before range)
    ≡ option_map (range_named after) (range_followed to.sheet to.axis count change range)
range_follows to count change before after range same =
    ap (option_map (λ area. record (range_named before range) { area = area })) same
    ∙ with_area (area_followed to.sheet to.axis count change range.area)
  where
    with_area : (found : Option Area)
        → option_map (λ area. record (range_named before range) { area = area }) (option_map (area_named after) found)
        ≡ option_map (range_named after) (option_map (λ area. record range { area = area }) found)
    with_area None = refl
    with_area (Some area) = refl

pub ranges_follow : (to : LineChange) (count : ℕ) (change : Change) (before after : Orders) (sheets : List PlaceSheet)
    → ((area : Area) → IsOnSheet sheets area → name_area_followed to (area_named before area)
    ≡ option_map (area_named after) (area_followed to.sheet to.axis count change area))
    → (ranges : List NamedRange) → AreOnSheets sheets ranges
    → filter_map (name_range_followed to) (map (range_named before) ranges)
    ≡ map (range_named after) (filter_map (range_followed to.sheet to.axis count change) ranges)
ranges_follow to count change before after sheets follow ranges on =
    filter_map-named (name_range_followed to) (range_followed to.sheet to.axis count change) (range_named before)
    (range_named after) ranges
    (λ k d there. range_follows to count change before after (get_or ranges k d)
    (follow (get_or ranges k d).area (on k d there)))

-- ---- ranges on sheets are known by their names

range_of_same : (one other : NamedRange) → one.id ≡ other.id → one.name ≡ other.name → one.area ≡ other.area
    → one ≡ other
range_of_same one other id name area =
    ap (λ text. record one { id = text }) id
    ∙ ap (λ text. record one { id = other.id; name = text }) name
    ∙ ap (λ found. record other { area = found }) area

module _ (sheets : List NameSheet) (ones others : List PlaceSheet) (stand : AllZip (SheetStandsFor sheets) ones sheets)
    (stand' : AllZip (SheetStandsFor sheets) others sheets) where
  abbrev named : NamedRange → NameRange
  named = range_named (orders_of sheets)

  same_range : (one other : NamedRange) → IsOnSheet ones one.area → IsOnSheet others other.area
      → named one ≡ named other → one ≡ other
  same_range one other on on' same =
      range_of_same one other (ap (λ (range : NameRange). range.id) same) (ap (λ (range : NameRange). range.name) same)
      (same_area (orders_of sheets) one.area other.area (in_orders sheets ones one.area stand on)
      (in_orders sheets others other.area stand' on') (ap (λ (range : NameRange). range.area) same))

  pub ranges_apart : (some more : List NamedRange) → AreOnSheets ones some → AreOnSheets others more
      → map named some ≡ map named more → some ≡ more
  ranges_apart =
      map_apart named (λ range. IsOnSheet ones range.area) (λ range. IsOnSheet others range.area) same_range
