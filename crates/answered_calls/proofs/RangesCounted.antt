-- How many named ranges there are after changes: each change that adds one adds one, and no other one adds any.
use Rattle.std.proofs.Common.{◌≡◌, ℕ, ◌+◌, ◌≤◌, ap, ◌∙◌, List, [], ◌∷◌, get_or, length, length-append, Bool, true, false, cond, arith}
use Rattle.std.specs.Prelude.{Option, None, Some, filter, not, ◌==◌, if◌then◌else◌}
use Rattle.std.specs.List.{cons_option, filter_map, sum_by}
use Rattle.std.specs.Str.{bytes_eq}
use Rattle.std.proofs.lemmas.List.{length-map}
use Rattle.std.proofs.lemmas.List.Sums.{get_or-le-sum_by}
use Rattle.world_model.specs.Book.{NameBook, PlaceBook, orders_of}
use Rattle.world_model.specs.BookChange.{AreChanges, BookChange, Named, changed_by, changed_by_all}
use Rattle.world_model.specs.Laws.{StandsForSome}
use Rattle.world_model.specs.LineChange.{line_change, name_range_followed}
use Rattle.world_model.specs.Ranges.{NameRange, range_named}
use Rattle.world_model.specs.Sheet.{NameSheet}
use Rattle.world_model.specs.Sound.{IsSound}
use Rattle.world_model.specs.World.{HasNamesBelow}
use Rattle.grid_range.specs.Change.{inserted_lines, order_change}
use Rattle.std.specs.List.{range_with_len}

-- how many named ranges the change adds or changes
abbrev pub ranges_set : BookChange → ℕ
ranges_set (BookChange.RangeAdded range) = 1
ranges_set (BookChange.CellsUpdated sheet updates) = 0
ranges_set (BookChange.LinesChanged sheet axis change) = 0
ranges_set (BookChange.SheetAdded at sheet) = 0
ranges_set (BookChange.SheetDeleted sheet) = 0
ranges_set (BookChange.SheetTitled sheet title) = 0
ranges_set (BookChange.SheetHidden sheet hidden) = 0
ranges_set (BookChange.RangeChanged range) = 1
ranges_set (BookChange.RangeDeleted id) = 0
ranges_set (BookChange.WordsRenamed old new) = 0
ranges_set (BookChange.MergesSet sheet merges) = 0
ranges_set (BookChange.ProtectionsSet protections) = 0
ranges_set (BookChange.MetadataSet items) = 0
ranges_set (BookChange.FilterSet sheet given) = 0

abbrev pub all_set_by : List BookChange → ℕ
all_set_by [] = 0
all_set_by (change ∷ changes) = ranges_set change + all_set_by changes

-- ---- lists

fewer : {X : Type 0} (test : X → Bool) (xs : List X) → length (filter test xs) ≤ length xs
fewer test [] = omega arith
fewer test (x ∷ xs) = either (test x) (fewer test xs)
  where
    either : (b : Bool) → length (filter test xs) ≤ length xs
        → length (cond b (x ∷ filter test xs) (filter test xs)) ≤ length (x ∷ xs)
    either true few = omega (arith, few)
    either false few = omega (arith, few)

fewer_mapped : {X Y : Type 0} (h : X → Option Y) (xs : List X) → length (filter_map h xs) ≤ length xs
fewer_mapped h [] = omega arith
fewer_mapped {Y = Y} h (x ∷ xs) = either (h x) (fewer_mapped h xs)
  where
    either : (held : Option Y) → length (filter_map h xs) ≤ length xs
        → length (cons_option held (filter_map h xs)) ≤ length (x ∷ xs)
    either None few = omega (arith, few)
    either (Some y) few = omega (arith, few)

-- ---- by the names of lines

one_step : (named : Named) (change : BookChange)
    → length (changed_by named change).book.ranges ≤ length named.book.ranges + ranges_set change
one_step named (BookChange.RangeAdded range) =
    let more = length-append named.book.ranges (range_named (orders_of named.book.sheets) range ∷ []) in
    omega (arith, more)
one_step named (BookChange.CellsUpdated sheet updates) = omega arith
one_step named (BookChange.LinesChanged sheet axis change) =
    let to = line_change named.book.sheets sheet axis
    (order_change change (range_with_len named.next (inserted_lines change))) in
    let few = fewer_mapped (name_range_followed to) named.book.ranges in
    omega (arith, few)
one_step named (BookChange.SheetAdded at sheet) = omega arith
one_step named (BookChange.SheetDeleted sheet) =
    let few = fewer (λ (range : NameRange). not (range.area.sheet == sheet)) named.book.ranges in omega (arith, few)
one_step named (BookChange.SheetTitled sheet title) = omega arith
one_step named (BookChange.SheetHidden sheet hidden) = omega arith
one_step named (BookChange.RangeChanged range) =
    let new = range_named (orders_of named.book.sheets) range in
    let same = length-map named.book.ranges (λ other. if bytes_eq new.id other.id then new else other) in
    omega (arith, same)
one_step named (BookChange.RangeDeleted id) =
    let few = fewer (λ (range : NameRange). not (bytes_eq id range.id)) named.book.ranges in omega (arith, few)
one_step named (BookChange.WordsRenamed old new) = omega arith
one_step named (BookChange.MergesSet sheet merges) = omega arith
one_step named (BookChange.ProtectionsSet protections) = omega arith
one_step named (BookChange.MetadataSet items) = omega arith
one_step named (BookChange.FilterSet sheet given) = omega arith

all_steps : (changes : List BookChange) (named : Named)
    → length (changed_by_all named changes).book.ranges ≤ length named.book.ranges + all_set_by changes
all_steps [] named = omega arith
all_steps (change ∷ changes) named =
    let first = one_step named change in
    let others = all_steps changes (changed_by named change) in
    omega (arith, first, others)

-- ---- by places

-- each line has a name below some number
abbrev pub names_of : NameSheet → ℕ
names_of sheet = sum_by (λ name. name) sheet.rows + sum_by (λ name. name) sheet.cols + 1

abbrev pub names_next : NameBook → ℕ
names_next book = sum_by names_of book.sheets

pub all_below : (names : NameBook) → HasNamesBelow (names_next names) names
all_below names k d there =
    let whole = get_or-le-sum_by names_of names.sheets k d there in
    let sheet = get_or names.sheets k d in (
      λ i e within. let one = get_or-le-sum_by (λ name. name) sheet.rows i e within in omega (arith, whole, one),
      λ i e within. let one = get_or-le-sum_by (λ name. name) sheet.cols i e within in omega (arith, whole, one),
    )

pub few_added : StandsForSome → (changes : List BookChange) (before after : PlaceBook) → IsSound before
    → AreChanges changes before after → length after.ranges ≤ length before.ranges + all_set_by changes
few_added some changes before after sound are =
    let (names, stands) = some.stands before sound in
    let named : Named = record { book = names; next = names_next names } in
    let later = are.names named (record { stands = stands; called = all_below names }) in
    let was : length names.ranges ≡ length before.ranges =
    ap length stands.ranges ∙ length-map before.ranges (range_named (orders_of names.sheets)) in
    let is : length (changed_by_all named changes).book.ranges ≡ length after.ranges =
    ap length later.stands.ranges
    ∙ length-map after.ranges (range_named (orders_of (changed_by_all named changes).book.sheets)) in
    let most = all_steps changes named in
    omega (arith, was, is, most)
