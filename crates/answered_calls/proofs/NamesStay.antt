-- No two named ranges have one id or one name after changes that add and change none, if no two had before.
use Rattle.std.proofs.Common.{◌≡◌, ◌≢◌, suc, ◌<◌, refl, sym, ap, subst, ◌∙◌, List, [], ◌∷◌, get_or, length, map, arith}
use Rattle.std.specs.Prelude.{Contains, None, Option, Some, not, ◌==◌}
use Rattle.std.specs.List.{All, AllPairs, cons_option, filter_map, range_with_len}
use Rattle.std.specs.Option.{option_map}
use Rattle.std.specs.Str.{bytes_eq, str_to_ascii_lowercase}
use Rattle.std.proofs.lemmas.List.{get_or-map, length-map}
use Rattle.std.proofs.lemmas.List.Elements.{Contains-get_or}
use Rattle.std.proofs.lemmas.List.Kept.{AllPairs-cons, AllPairs-filter}
use Rattle.std.proofs.lemmas.Option.{none-some, same_Some}
use Rattle.cell_value.specs.Elements.{Contains-filter_map_from, Contains-map_from}
use Rattle.grid_range.specs.Change.{inserted_lines, order_change}
use Rattle.named_ranges.specs.Listed.{AreApart, AreNames}
use Rattle.world_model.specs.Area.{NameArea}
use Rattle.world_model.specs.Book.{PlaceBook, orders_of}
use Rattle.world_model.specs.BookChange.{AreChanges, BookChange, Named, changed_by, changed_by_all}
use Rattle.world_model.specs.Laws.{StandsForSome}
use Rattle.world_model.specs.LineChange.{line_change, name_area_followed, name_range_followed}
use Rattle.world_model.specs.Ranges.{NameRange, range_named}
use Rattle.world_model.specs.Sound.{IsSound}
use Rattle.answered_calls.proofs.RangesCounted.{all_below, all_set_by, names_next, ranges_set}

-- ---- pairs of a list

module _ {X : Type 0} (R : X → X → Type 0) where
  first_pairs : (x : X) (xs : List X) → AllPairs R (x ∷ xs) → (y : X) → Contains xs y → R x y
  first_pairs x xs pairs y (k, there, at) =
      subst (R x) at (pairs 0 (suc k) y (omega arith) (omega (arith, there)))

  rest_pairs : (x : X) (xs : List X) → AllPairs R (x ∷ xs) → AllPairs R xs
  rest_pairs x xs pairs i j d less there = pairs (suc i) (suc j) d (omega (arith, less)) (omega (arith, there))

  all_from : (P : X → Type 0) (xs : List X) → ((x : X) → Contains xs x → P x) → All P xs
  all_from P xs holds k d there = holds (get_or xs k d) (Contains-get_or xs k d there)

module _ {X Y : Type 0} (R : X → X → Type 0) (S : Y → Y → Type 0) where
  pub mapped : (f : X → Y) → ((one other : X) → R one other → S (f one) (f other)) → (xs : List X) → AllPairs R xs
      → AllPairs S (map f xs)
  mapped f keeps [] pairs = λ i j d less there. absurd (omega (arith, there))
  mapped f keeps (x ∷ xs) pairs =
      AllPairs-cons S (f x) (map f xs) (all_from S (S (f x)) (map f xs) (λ y has.
      let (z, among, is) = Contains-map_from f xs y has in
      subst (S (f x)) is (keeps x z (first_pairs R x xs pairs z among))))
      (mapped f keeps xs (rest_pairs R x xs pairs))

  pub unmapped : (f : X → Y) → ((one other : X) → S (f one) (f other) → R one other) → (xs : List X)
      → AllPairs S (map f xs) → AllPairs R xs
  unmapped f keeps xs pairs i j d less there =
      let long = length-map xs f in
      let here : i < length xs = omega (arith, less, there) in
      let both = pairs i j (f d) less (omega (arith, long, there)) in
      keeps (get_or xs i d) (get_or xs j d)
      (subst (λ y. S y (f (get_or xs j d))) (get_or-map f xs i d (f d) here)
      (subst (S (get_or (map f xs) i (f d))) (get_or-map f xs j d (f d) there) both))

module _ {X : Type 0} (R : X → X → Type 0) (follow : X → Option X)
    (keeps : (one other one' other' : X) → follow one ≡ Some one' → follow other ≡ Some other' → R one other
    → R one' other') where
  first_left : (x : X) (xs : List X) → AllPairs R (x ∷ xs) → AllPairs R (filter_map follow xs)
      → (becomes : Option X) → follow x ≡ becomes → AllPairs R (cons_option becomes (filter_map follow xs))
  first_left x xs pairs left None is = left
  first_left x xs pairs left (Some one) is =
      AllPairs-cons R one (filter_map follow xs) (all_from R (R one) (filter_map follow xs) (λ other has.
      let (from, among, went) = Contains-filter_map_from follow xs other has in
      keeps x from one other is went (first_pairs R x xs pairs from among))) left

  left_pairs : (xs : List X) → AllPairs R xs → AllPairs R (filter_map follow xs)
  left_pairs [] pairs = pairs
  left_pairs (x ∷ xs) pairs =
      first_left x xs pairs (left_pairs xs (rest_pairs R x xs pairs)) (follow x) refl

-- ---- by the names of lines

abbrev pub BothApart : NameRange → NameRange → Type 0
BothApart one other =
    (one.id ≢ other.id) × (str_to_ascii_lowercase one.name ≢ str_to_ascii_lowercase other.name)

abbrev IsAlike : NameRange → NameRange → Type 0
IsAlike one other = (other.id ≡ one.id) × (other.name ≡ one.name)

as_alike : (one other one' other' : NameRange) → IsAlike one one' → IsAlike other other' → BothApart one other
    → BothApart one' other'
as_alike one other one' other' alike alike' apart = (
  λ same. apart.0 (sym alike.0 ∙ same ∙ alike'.0),
  λ same. apart.1 (ap str_to_ascii_lowercase (sym alike.1) ∙ same ∙ ap str_to_ascii_lowercase alike'.1),
)

followed_alike : (one other : NameRange) (area : Option NameArea)
    → option_map (λ area. record one { area = area }) area ≡ Some other → IsAlike one other
followed_alike one other None is = absurd (none-some other is)
followed_alike one other (Some area) is =
    let same : record one { area = area } ≡ other = same_Some (record one { area = area }) other is in
    (ap (λ (range : NameRange). range.id) (sym same), ap (λ (range : NameRange). range.name) (sym same))

one_step : (named : Named) (change : BookChange) → ranges_set change ≡ 0 → AllPairs BothApart named.book.ranges
    → AllPairs BothApart (changed_by named change).book.ranges
one_step named (BookChange.RangeAdded range) none apart = absurd (omega (arith, none))
one_step named (BookChange.RangeChanged range) none apart = absurd (omega (arith, none))
one_step named (BookChange.LinesChanged sheet axis change) none apart =
    let to = line_change named.book.sheets sheet axis
    (order_change change (range_with_len named.next (inserted_lines change))) in
    left_pairs BothApart (name_range_followed to) (λ one other one' other' went went'.
    as_alike one other one' other' (followed_alike one one' (name_area_followed to one.area) went)
    (followed_alike other other' (name_area_followed to other.area) went')) named.book.ranges apart
one_step named (BookChange.SheetDeleted sheet) none apart =
    AllPairs-filter BothApart (λ range. not (range.area.sheet == sheet)) named.book.ranges apart
one_step named (BookChange.RangeDeleted id) none apart =
    AllPairs-filter BothApart (λ range. not (bytes_eq id range.id)) named.book.ranges apart
one_step named (BookChange.CellsUpdated sheet updates) none apart = apart
one_step named (BookChange.SheetAdded at sheet) none apart = apart
one_step named (BookChange.SheetTitled sheet title) none apart = apart
one_step named (BookChange.SheetHidden sheet hidden) none apart = apart
one_step named (BookChange.WordsRenamed old new) none apart = apart
one_step named (BookChange.MergesSet sheet merges) none apart = apart
one_step named (BookChange.ProtectionsSet protections) none apart = apart
one_step named (BookChange.MetadataSet items) none apart = apart
one_step named (BookChange.FilterSet sheet given) none apart = apart

pub all_steps : (changes : List BookChange) (named : Named) → all_set_by changes ≡ 0
    → AllPairs BothApart named.book.ranges → AllPairs BothApart (changed_by_all named changes).book.ranges
all_steps [] named none apart = apart
all_steps (change ∷ changes) named none apart =
    all_steps changes (changed_by named change) (omega (arith, none))
    (one_step named change (omega (arith, none)) apart)

-- ---- by places

pub names_stay : StandsForSome → (changes : List BookChange) → all_set_by changes ≡ 0 → (before after : PlaceBook)
    → IsSound before → AreChanges changes before after → AreNames before.ranges → AreNames after.ranges
names_stay some changes none before after sound are apart =
    let (names, stands) = some.stands before sound in
    let named : Named = record { book = names; next = names_next names } in
    let later = are.names named (record { stands = stands; called = all_below names }) in
    let orders = orders_of names.sheets in
    let orders' = orders_of (changed_by_all named changes).book.sheets in
    let start = subst (AllPairs BothApart) (sym stands.ranges)
    (mapped AreApart BothApart (range_named orders) (λ one other apart. (apart.ids, apart.names)) before.ranges
    apart) in
    unmapped AreApart BothApart (range_named orders') (λ one other both. record { ids = both.0; names = both.1 })
    after.ranges (subst (AllPairs BothApart) later.stands.ranges (all_steps changes named none start))
