-- Sheets that are made one after another: each is judged beside those before it, and where no rule is broken there is
-- room for all of them.
use Rattle.std.proofs.Common.{◌≡◌, ℕ, zero, suc, ◌+◌, ◌*◌, ◌<◌, ◌≤◌, refl, sym, ap, subst, ◌∙◌, List, [], ◌∷◌, ◌++◌, length, take, get_or, Bool, true, false, cond, ◌||◌, ◌&&◌, arith, Option, Some, None, String, codes, length-append, inl, inr}
use Rattle.std.specs.Prelude.{is_some, map, nat_lt, Result, Ok, Err, ◌==◌}
use Rattle.std.specs.List.{All, find, fold, insert, list_all, list_any}
use Rattle.std.specs.Option.{option_map_or}
use Rattle.std.specs.BTreeSet.{BTreeSet, contains, contains_text}
use Rattle.std.specs.Fmt.{decimal}
use Rattle.std.specs.Ordering.{nat_cmp}
use Rattle.std.specs.Str.{bytes_eq, str_eq_ignore_ascii_case, str_to_ascii_lowercase}
use Rattle.std.proofs.lemmas.List.{get_or_append_left, length-take-le, take_more}
use Rattle.std.proofs.Math.Seq.{get_or-append_seam}
use Rattle.std.proofs.lemmas.Bool.Decides.{Decides-ltb}
use Rattle.std.proofs.lemmas.Bool.{cases_Bool, ltb-false, or_parts}
use Rattle.std.proofs.lemmas.List.Folds.{list_any-append}
use Rattle.std.proofs.lemmas.List.Sums.{fold-append, sum_by-cons, sum_by-insert}
use Rattle.cell_value.specs.declared.cell.SheetProperties.{SheetProperties}
use Rattle.world_model.specs.declared.limits.TheConstants.{MOST_COLUMNS, MOST_ROWS}
use Rattle.world_model.specs.Book.{PlaceBook}
use Rattle.world_model.specs.Counts.{grid_places}
use Rattle.world_model.specs.Making.{BooksMade, CanBeMade, IsRoomForAll, Placed, additions, bare_book, bare_names, made_by_name, with_all_placed, with_named_book}
use Rattle.world_model.specs.World.{WorldStandsFor}
use Rattle.world_model.specs.Sheet.{PlaceSheet}
use Rattle.world_model.specs.SheetChange.{new_place_sheet}
use Rattle.world_model.specs.SheetLaws.{IsRoomFor}
use Rattle.world_model.specs.Sound.{most_places, most_sheets}
use Rattle.dimension_ops.specs.declared.creating.TheConstants.{MOST_BOOKS}
use Rattle.dimension_ops.specs.Broken.{Broken, first_broken, judged_by}
use Rattle.dimension_ops.specs.Creating.{AreFaults, AreIdsBelow, ArePlaced, AreTitlesBelow, HasIdsOf, HasTitlesOf, HavePlaces, IsBookAdded, book_id, IsPlaced, broken_each, created_broken, passes_created, placed_places, sheets_made, sheets_with}
use Rattle.dimension_ops.specs.JudgingLaws.{breaks_none, judged_wrong, not_first, passes_none}
use Rattle.dimension_ops.specs.NewSheetLaws.{above_zero, new_id, new_title}
use Rattle.dimension_ops.specs.SheetRequests.{has_id, has_title, new_cols, new_place, new_rows, numbered_title, sheet_added_broken}
use Rattle.dimension_ops.specs.World.{AreNumbered}
use Rattle.dimension_ops.specs.declared.creating.Faults.{Faults}
use Rattle.dimension_ops.specs.declared.rule.Limit.TheVariants as limit
use Rattle.dimension_ops.specs.declared.rule.Rule.{Rule}
use Rattle.dimension_ops.specs.declared.rule.RuleOr.{RuleOr}
use Rattle.dimension_ops.specs.declared.rule.RuleOr.TheVariants as refusal
use Rattle.dimension_ops.specs.Rules.{IsUnlessNoMemory}

-- ---- one item more in a list

module _ {X : Type 0} (test : X → Bool) where
  some_or : (b c : Bool) (y : X) (one other : Option X) → is_some one ≡ (c || is_some other)
      → is_some (cond b (Some y) one) ≡ (c || is_some (cond b (Some y) other))
  some_or true true y one other is = refl
  some_or true false y one other is = refl
  some_or false c y one other is = is

  first_or : (b : Bool) (x : X) (rest : Option X) → is_some (cond b (Some x) rest) ≡ (b || is_some rest)
  first_or true x rest = refl
  first_or false x rest = refl

  pub found_with : (at : ℕ) (x : X) (xs : List X) → is_some (find test (insert xs at x))
      ≡ (test x || is_some (find test xs))
  found_with zero x xs = first_or (test x) x (find test xs)
  found_with (suc at) x [] = first_or (test x) x None
  found_with (suc at) x (y ∷ ys) =
      some_or (test y) (test x) y (find test (insert ys at x)) (find test ys) (found_with at x ys)

  swap : (a b c : Bool) → (a && (b && c)) ≡ (b && (a && c))
  swap true b c = refl
  swap false true c = refl
  swap false false c = refl

  pub all_with : (at : ℕ) (x : X) (xs : List X) → list_all test (insert xs at x) ≡ (test x && list_all test xs)
  all_with zero x xs = refl
  all_with (suc at) x [] = refl
  all_with (suc at) x (y ∷ ys) = ap (λ rest. test y && rest) (all_with at x ys)
      ∙ swap (test y) (test x) (list_all test ys)

pub length_with : {X : Type 0} (at : ℕ) (x : X) (xs : List X) → length (insert xs at x) ≡ suc (length xs)
length_with zero x xs = refl
length_with (suc at) x [] = refl
length_with (suc at) x (y ∷ ys) = ap suc (length_with at x ys)

pub map_with : {X Y : Type 0} (f : X → Y) (at : ℕ) (x : X) (xs : List X)
    → map f (insert xs at x) ≡ insert (map f xs) at (f x)
map_with f zero x xs = refl
map_with f (suc at) x [] = refl
map_with f (suc at) x (y ∷ ys) = ap (λ rest. f y ∷ rest) (map_with f at x ys)

-- ---- one sheet more

pub made_more : (placed : List Placed) (one : Placed)
    → sheets_made (placed ++ one ∷ []) ≡ sheets_with (sheets_made placed) one
made_more placed one = fold-append sheets_with [] placed (one ∷ [])

pub has_id_with : (sheets : List PlaceSheet) (one : Placed) (id : ℕ)
    → has_id (sheets_with sheets one) id ≡ ((one.1.id == id) || has_id sheets id)
has_id_with sheets one id = found_with (λ (sheet : PlaceSheet). sheet.id == id) one.0 (new_place_sheet one.1) sheets

pub has_title_with : (sheets : List PlaceSheet) (one : Placed) (title : List ℕ)
    → has_title (sheets_with sheets one) title ≡ (str_eq_ignore_ascii_case one.1.title title || has_title sheets title)
has_title_with sheets one title =
    found_with (λ (sheet : PlaceSheet). str_eq_ignore_ascii_case sheet.title title) one.0 (new_place_sheet one.1) sheets

length_from : (sheets : List PlaceSheet) (placed : List Placed)
    → length (fold sheets_with sheets placed) ≡ length sheets + length placed
length_from sheets [] = omega arith
length_from sheets (one ∷ placed) =
    let rest = length_from (sheets_with sheets one) placed in
    let more = length_with one.0 (new_place_sheet one.1) sheets in
    omega (arith, rest, more)

pub length_made : (placed : List Placed) → length (sheets_made placed) ≡ length placed
length_made placed = let long = length_from [] placed in omega (arith, long)

pub are_more : (asked : List SheetProperties) (sheets : List PlaceSheet) (placed : List Placed) (one : SheetProperties)
    (last : Placed) → ArePlaced asked sheets placed → IsPlaced one (fold sheets_with sheets placed) last
    → ArePlaced (asked ++ one ∷ []) sheets (placed ++ last ∷ [])
are_more [] sheets [] one last are is = (is, tt)
are_more [] sheets (p ∷ ps) one last are is = absurd are
are_more (a ∷ later) sheets [] one last are is = absurd are
are_more (a ∷ later) sheets (p ∷ ps) one last are is =
    (are.0, are_more later (sheets_with sheets p) ps one last are.1 is)

pub each_more : (asked : List SheetProperties) (sheets : List PlaceSheet) (placed : List Placed) (one : SheetProperties)
    (last : Placed) → ArePlaced asked sheets placed → broken_each (asked ++ one ∷ []) sheets (placed ++ last ∷ [])
    ≡ broken_each asked sheets placed ++ sheet_added_broken one (fold sheets_with sheets placed) ∷ []
each_more [] sheets [] one last are = refl
each_more [] sheets (p ∷ ps) one last are = absurd are
each_more (a ∷ later) sheets [] one last are = absurd are
each_more (a ∷ later) sheets (p ∷ ps) one last are =
    ap (λ rest. sheet_added_broken a sheets ∷ rest) (each_more later (sheets_with sheets p) ps one last are.1)

marked_more : (breaks : Broken → Bool) (each : List Broken) (one : Broken) (marked more both : Bool)
    → marked ≡ list_any breaks each → more ≡ list_any breaks (one ∷ []) → both ≡ (marked || more)
    → both ≡ list_any breaks (each ++ one ∷ [])
marked_more breaks each one marked more both is of are =
    are ∙ ap (λ b. b || more) is ∙ ap (λ b. list_any breaks each || b) of ∙ sym (list_any-append breaks each (one ∷ []))

pub faults_more : (each : List Broken) (one : Broken) (marked more both : Faults) → AreFaults marked each
    → AreFaults more (one ∷ []) → both.bad_range ≡ (marked.bad_range || more.bad_range)
    → both.id_taken ≡ (marked.id_taken || more.id_taken) → both.bad_name ≡ (marked.bad_name || more.bad_name)
    → both.name_taken ≡ (marked.name_taken || more.name_taken) → both.last_line ≡ (marked.last_line || more.last_line)
    → AreFaults both (each ++ one ∷ [])
faults_more each one marked more both is of range id name taken line = record {
  bad_range = marked_more (λ broken. broken.bad_range) each one marked.bad_range more.bad_range both.bad_range
      is.bad_range of.bad_range range;
  id_taken = marked_more (λ broken. broken.id_taken) each one marked.id_taken more.id_taken both.id_taken is.id_taken
      of.id_taken id;
  bad_name = marked_more (λ broken. broken.bad_name) each one marked.bad_name more.bad_name both.bad_name is.bad_name
      of.bad_name name;
  name_taken = marked_more (λ broken. broken.name_taken) each one marked.name_taken more.name_taken both.name_taken
      is.name_taken of.name_taken taken;
  last_line = marked_more (λ broken. broken.last_line) each one marked.last_line more.last_line both.last_line
      is.last_line of.last_line line;
}

-- ---- where no rule is broken

-- none of the sheets breaks a rule of its own
record EachGood (each : List Broken) : Type 0 where
  pub bad_range : list_any (λ one. one.bad_range) each ≡ false
  pub id_taken : list_any (λ one. one.id_taken) each ≡ false
  pub bad_name : list_any (λ one. one.bad_name) each ≡ false
  pub name_taken : list_any (λ one. one.name_taken) each ≡ false
  pub last_line : list_any (λ one. one.last_line) each ≡ false

each_tail : (one : Broken) (each : List Broken) → EachGood (one ∷ each) → EachGood each
each_tail one each good = record {
  bad_range = (or_parts one.bad_range (list_any (λ (b : Broken). b.bad_range) each) good.bad_range).1;
  id_taken = (or_parts one.id_taken (list_any (λ (b : Broken). b.id_taken) each) good.id_taken).1;
  bad_name = (or_parts one.bad_name (list_any (λ (b : Broken). b.bad_name) each) good.bad_name).1;
  name_taken = (or_parts one.name_taken (list_any (λ (b : Broken). b.name_taken) each) good.name_taken).1;
  last_line = (or_parts one.last_line (list_any (λ (b : Broken). b.last_line) each) good.last_line).1;
}

-- there is room for them by the limits
record IsWithin (sheets : List PlaceSheet) (placed : List Placed) : Type 0 where
  pub sheets_few : length sheets + length placed ≤ most_sheets
  pub rows : list_any (λ (one : Placed). nat_lt MOST_ROWS one.1.rows) placed ≡ false
  pub cols : list_any (λ (one : Placed). nat_lt MOST_COLUMNS one.1.cols) placed ≡ false
  pub places : grid_places sheets + placed_places placed ≤ most_places

places_split : (one : Placed) (placed : List Placed)
    → placed_places (one ∷ placed) ≡ one.1.rows * one.1.cols + placed_places placed
places_split one placed = sum_by-cons (λ (p : Placed). p.1.rows * p.1.cols) one placed

within_tail : (sheets : List PlaceSheet) (one : Placed) (placed : List Placed) → IsWithin sheets (one ∷ placed)
    → IsWithin (sheets_with sheets one) placed
within_tail sheets one placed within =
    let long = length_with one.0 (new_place_sheet one.1) sheets in
    let few = within.sheets_few in
    let more : grid_places (sheets_with sheets one) ≡ grid_places sheets + one.1.rows * one.1.cols =
    sum_by-insert (λ (sheet : PlaceSheet). sheet.table.rows * sheet.table.cols) sheets one.0 (new_place_sheet one.1) in
    let split = places_split one placed in
    let places = within.places in
    record {
      sheets_few = omega (arith, long, few);
      rows = (or_parts (nat_lt MOST_ROWS one.1.rows) (list_any (λ (p : Placed). nat_lt MOST_ROWS p.1.rows) placed)
          within.rows).1;
      cols = (or_parts (nat_lt MOST_COLUMNS one.1.cols) (list_any (λ (p : Placed). nat_lt MOST_COLUMNS p.1.cols) placed)
          within.cols).1;
      places = omega (arith, more, split, places);
    }

module _ (id title owner : List ℕ) where
  abbrev book_of : List PlaceSheet → PlaceBook
  book_of sheets = record {
    id = id;
    title = title;
    owner = owner;
    sheets = sheets;
    ranges = [];
    protections = [];
    metadata = [];
  }

  room_for_one : (asked : SheetProperties) (sheets : List PlaceSheet) (one : Placed) (each : List Broken)
      (placed : List Placed) → IsPlaced asked sheets one → EachGood (sheet_added_broken asked sheets ∷ each)
      → IsWithin sheets (one ∷ placed) → IsRoomFor one.1 (book_of sheets)
  room_for_one asked sheets one each placed is good within =
      let broken = sheet_added_broken asked sheets in
      let taken = (or_parts broken.id_taken (list_any (λ (b : Broken). b.id_taken) each) good.id_taken).0 in
      let bad = (or_parts broken.bad_name (list_any (λ (b : Broken). b.bad_name) each) good.bad_name).0 in
      let named = (or_parts broken.name_taken (list_any (λ (b : Broken). b.name_taken) each) good.name_taken).0 in
      let line = (or_parts broken.last_line (list_any (λ (b : Broken). b.last_line) each) good.last_line).0 in
      let lines = or_parts (new_rows asked == 0) (new_cols asked == 0) line in
      let titled = new_title sheets asked.title one.1.title bad named is.1.title in
      let few = within.sheets_few in
      let places = within.places in
      let split = places_split one placed in
      record {
        id = new_id sheets asked.id one.1.id taken is.1.id;
        titled = titled.0;
        title = titled.1;
        rows = (
          subst (λ n. 0 < n) (sym is.1.rows) (above_zero (new_rows asked) lines.0),
          ltb-false MOST_ROWS one.1.rows
              (or_parts (nat_lt MOST_ROWS one.1.rows) (list_any (λ (p : Placed). nat_lt MOST_ROWS p.1.rows) placed)
              within.rows).0,
        );
        cols = (
          subst (λ n. 0 < n) (sym is.1.cols) (above_zero (new_cols asked) lines.1),
          ltb-false MOST_COLUMNS one.1.cols
              (or_parts (nat_lt MOST_COLUMNS one.1.cols)
              (list_any (λ (p : Placed). nat_lt MOST_COLUMNS p.1.cols) placed) within.cols).0,
        );
        few_sheets = omega (arith, few);
        few_places = omega (arith, places, split);
      }

  room_for_all : (asked : List SheetProperties) (sheets : List PlaceSheet) (placed : List Placed)
      → ArePlaced asked sheets placed → EachGood (broken_each asked sheets placed) → IsWithin sheets placed
      → IsRoomForAll (book_of sheets) placed
  room_for_all [] sheets [] are good within = tt
  room_for_all [] sheets (p ∷ ps) are good within = absurd are
  room_for_all (a ∷ later) sheets [] are good within = absurd are
  room_for_all (a ∷ later) sheets (p ∷ ps) are good within = (
    room_for_one a sheets p (broken_each later (sheets_with sheets p) ps) ps are.0 good within,
    room_for_all later (sheets_with sheets p) ps are.1
        (each_tail (sheet_added_broken a sheets) (broken_each later (sheets_with sheets p) ps) good)
        (within_tail sheets p ps within),
  )

  -- the spreadsheet is of the sheets that are put in
  made_from : (sheets : List PlaceSheet) (placed : List Placed)
      → with_all_placed (book_of sheets) placed ≡ book_of (fold sheets_with sheets placed)
  made_from sheets [] = refl
  made_from sheets (p ∷ ps) = made_from (sheets_with sheets p) ps

  pub book_made : (placed : List Placed) → with_all_placed (bare_book id title owner) placed
      ≡ book_of (sheets_made placed)
  book_made placed = made_from [] placed

  few_lines_all : (sheets : List PlaceSheet) (placed : List Placed) → IsRoomForAll (book_of sheets) placed
      → All (λ (one : Placed). one.1.rows + one.1.cols ≤ 2000000000) placed
  few_lines_all sheets [] room k d there = absurd (let no : ⊥ = omega (arith, there) in no)
  few_lines_all sheets (p ∷ ps) room zero d there =
      let rows = room.0.rows.1 in
      let cols = room.0.cols.1 in
      omega (arith, rows, cols)
  few_lines_all sheets (p ∷ ps) room (suc k) d there =
      few_lines_all (sheets_with sheets p) ps room.1 k d (omega (arith, there))

  pub few_lines_made : (placed : List Placed) → CanBeMade (bare_book id title owner) placed
      → All (λ (one : Placed). one.1.rows + one.1.cols ≤ 2000000000) placed
  few_lines_made placed can = few_lines_all [] placed can.room

-- ---- hidden sheets

both_more : (h all rest : Bool) → ((h && all) && rest) ≡ (all && (h && rest))
both_more true true rest = refl
both_more true false rest = refl
both_more false true rest = refl
both_more false false rest = refl

hidden_from : (sheets : List PlaceSheet) (placed : List Placed)
    → list_all (λ (sheet : PlaceSheet). sheet.hidden) (fold sheets_with sheets placed)
    ≡ (list_all (λ (sheet : PlaceSheet). sheet.hidden) sheets && list_all (λ (one : Placed). one.1.hidden) placed)
hidden_from sheets [] = and_true (list_all (λ (sheet : PlaceSheet). sheet.hidden) sheets)
  where
    and_true : (b : Bool) → b ≡ (b && true)
    and_true true = refl
    and_true false = refl
hidden_from sheets (p ∷ ps) =
    hidden_from (sheets_with sheets p) ps
    ∙ ap (λ b. b && list_all (λ (one : Placed). one.1.hidden) ps)
    (all_with (λ (sheet : PlaceSheet). sheet.hidden) p.0 (new_place_sheet p.1) sheets)
    ∙ both_more p.1.hidden (list_all (λ (sheet : PlaceSheet). sheet.hidden) sheets)
    (list_all (λ (one : Placed). one.1.hidden) ps)

-- ---- the spreadsheet can be made

each_good : (books : ℕ) (asked : List SheetProperties) (placed : List Placed)
    → first_broken (created_broken books asked placed) ≡ None → EachGood (broken_each asked [] placed)
each_good books asked placed none =
    let good = breaks_none (created_broken books asked placed) none in
    record {
      bad_range = good.bad_range;
      id_taken = good.id_taken;
      bad_name = good.bad_name;
      name_taken = good.name_taken;
      last_line = good.last_line;
    }

all_within : (books : ℕ) (asked : List SheetProperties) (placed : List Placed)
    → first_broken (created_broken books asked placed) ≡ None → IsWithin [] placed
all_within books asked placed none =
    let good = breaks_none (created_broken books asked placed) none in
    let within = passes_none (passes_created (books + 1) placed) good.past_limit in
    let few = ltb-false most_sheets (length placed) within.sheets in
    let places = ltb-false most_places (placed_places placed) within.cells in
    let none_yet : grid_places [] ≡ 0 = refl in
    record {
      sheets_few = omega (arith, few);
      rows = within.rows;
      cols = within.cols;
      places = omega (arith, places, none_yet);
    }

pub can_be_made : (books : ℕ) (asked : List SheetProperties) (placed : List Placed) (id title owner : List ℕ)
    → first_broken (created_broken books asked placed) ≡ None → ArePlaced asked [] placed
    → CanBeMade (bare_book id title owner) placed
can_be_made books asked placed id title owner none are = record {
  room = room_for_all id title owner asked [] placed are (each_good books asked placed none)
      (all_within books asked placed none);
  visible = ap (λ (book : PlaceBook). list_all (λ (sheet : PlaceSheet). sheet.hidden) book.sheets)
      (book_made id title owner placed)
      ∙ hidden_from [] placed
      ∙ (breaks_none (created_broken books asked placed) none).last_sheet;
}

places_from : (asked : List SheetProperties) (sheets : List PlaceSheet) (placed : List Placed)
    → ArePlaced asked sheets placed → EachGood (broken_each asked sheets placed) → (place : ℕ) (d : Placed)
    → place < length placed → (get_or placed place d).0 ≤ length sheets + place
places_from [] sheets [] are good place d there = absurd (let no : ⊥ = omega (arith, there) in no)
places_from [] sheets (p ∷ ps) are good place d there = absurd are
places_from (a ∷ later) sheets [] are good place d there = absurd are
places_from (a ∷ later) sheets (p ∷ ps) are good zero d there =
    let range = (or_parts (nat_lt (length sheets) (new_place a sheets))
    (list_any (λ (b : Broken). b.bad_range) (broken_each later (sheets_with sheets p) ps)) good.bad_range).0 in
    let below = ltb-false (length sheets) (new_place a sheets) range in
    let at = are.0.0 in
    omega (arith, below, at)
places_from (a ∷ later) sheets (p ∷ ps) are good (suc place) d there =
    let rest = places_from later (sheets_with sheets p) ps are.1
    (each_tail (sheet_added_broken a sheets) (broken_each later (sheets_with sheets p) ps) good) place d
    (omega (arith, there)) in
    let long = length_with p.0 (new_place_sheet p.1) sheets in
    omega (arith, rest, long)

pub have_places : (books : ℕ) (asked : List SheetProperties) (placed : List Placed)
    → first_broken (created_broken books asked placed) ≡ None → ArePlaced asked [] placed → HavePlaces placed
have_places books asked placed none are place d there =
    let at = places_from asked [] placed are (each_good books asked placed none) place d there in
    omega (arith, at)

-- a spreadsheet is not past the limit on how many there are
pub few_books : (books : ℕ) (asked : List SheetProperties) (placed : List Placed)
    → first_broken (created_broken books asked placed) ≡ None → books < MOST_BOOKS
few_books books asked placed none =
    let good = breaks_none (created_broken books asked placed) none in
    let books_few = ltb-false MOST_BOOKS (books + 1)
    (not_first (passes_created (books + 1) placed limit.Books) limit.Books _ good.past_limit).0 in
    omega (arith, books_few)

-- ---- what is told

module _ {A : Type 0} where
  apart : (result : Result A Rule) (rule : Rule) (told : A) → result ≡ Err rule → result ≡ Ok told → ⊥
  apart result rule told wrong right = cc

  same_told : (result : Result A Rule) (one other : A) → result ≡ Ok one → result ≡ Ok other → one ≡ other
  same_told result one other is same = cc

  right_none : (result : Result A Rule) (one other : A) (broken : Option Rule) → result ≡ Ok one
      → result ≡ option_map_or Err broken (Ok other) → (broken ≡ None) × (one ≡ other)
  right_none result one other None right is = (refl, same_told result one other right is)
  right_none result one other (Some rule) right is = absurd (apart result rule one is right)

  pub told_ok : (broken : Broken) (one other : A) → Ok one ≡ judged_by broken other
      → (first_broken broken ≡ None) × (one ≡ other)
  told_ok broken one other is = right_none (judged_by broken other) one other (first_broken broken) (sym is) refl

pub told_err : {A B : Type 0} (broken : Broken) (rule : Rule) (one : A) (other : B) → Err rule ≡ judged_by broken one
    → Err rule ≡ judged_by broken other
told_err broken rule one other is =
    ap (λ first. option_map_or Err first (Ok other))
    (sym (judged_wrong (judged_by broken one) rule one (first_broken broken) (sym is) refl))

pub told_none : {A : Type 0} (broken : Broken) (other : A) → first_broken broken ≡ None → Ok other
    ≡ judged_by broken other
told_none broken other none = ap (λ first. option_map_or Err first (Ok other)) (sym none)

-- ---- what is kept of the sheets beside them

or_true : (b : Bool) → (b || true) ≡ true
or_true true = refl
or_true false = refl

pub ids_more : (sheets : List PlaceSheet) (one : Placed) (ids more : BTreeSet ℕ) → HasIdsOf sheets ids
    → ((other : ℕ) → contains nat_cmp more other ≡ ((one.1.id == other) || contains nat_cmp ids other))
    → HasIdsOf (sheets_with sheets one) more
ids_more sheets one ids more has is id =
    is id ∙ ap (λ b. (one.1.id == id) || b) (has id) ∙ sym (has_id_with sheets one id)

pub ids_below_more : (sheets : List PlaceSheet) (one : Placed) (least : ℕ) → AreIdsBelow sheets least
    → AreIdsBelow (sheets_with sheets one) least
ids_below_more sheets one least below lesser less =
    has_id_with sheets one lesser ∙ ap (λ b. (one.1.id == lesser) || b) (below lesser less)
    ∙ or_true (one.1.id == lesser)

pub titles_more : {Y : Type 0} (sheets : List PlaceSheet) (one : Placed) (titles more : BTreeSet (String Y))
    (lowered : List ℕ) → HasTitlesOf sheets titles → lowered ≡ str_to_ascii_lowercase one.1.title
    → ((other : List ℕ) → contains_text more other ≡ (bytes_eq lowered other || contains_text titles other))
    → HasTitlesOf (sheets_with sheets one) more
titles_more sheets one titles more lowered has low is title =
    is (str_to_ascii_lowercase title)
    ∙ ap (λ text. bytes_eq text (str_to_ascii_lowercase title)
    || contains_text titles (str_to_ascii_lowercase title)) low
    ∙ ap (λ b. str_eq_ignore_ascii_case one.1.title title || b) (has title)
    ∙ sym (has_title_with sheets one title)

pub titles_below_more : (sheets : List PlaceSheet) (one : Placed) (number : ℕ) → AreTitlesBelow sheets number
    → AreTitlesBelow (sheets_with sheets one) number
titles_below_more sheets one number below = (
  below.0,
  λ lesser some less.
      has_title_with sheets one (numbered_title lesser)
      ∙ ap (λ b. str_eq_ignore_ascii_case one.1.title (numbered_title lesser) || b) (below.1 lesser some less)
      ∙ or_true (str_eq_ignore_ascii_case one.1.title (numbered_title lesser)),
)

-- ---- numbers of spreadsheets

pub numbered_more : (books : List PlaceBook) (book : PlaceBook) → AreNumbered books → book.id ≡ book_id (length books)
    → AreNumbered (books ++ book ∷ [])
numbered_more books book are is place d there = elim (cases_Bool (nat_lt place (length books))) [
  | inl less ↦
      let below = (Decides-ltb place (length books)).0 less in
      ap (λ (b : PlaceBook). b.id) (get_or_append_left books (book ∷ []) d place below) ∙ are place d below
  | inr more ↦
      let above = ltb-false place (length books) more in
      let long = length-append books (book ∷ []) in
      let at : place ≡ length books = omega (arith, above, long, there) in
      ap (λ n. (get_or (books ++ book ∷ []) n d).id) at
      ∙ ap (λ (b : PlaceBook). b.id) (get_or-append_seam books book [] d)
      ∙ is
      ∙ ap (λ n. codes "book" ++ decimal (n + 1)) (sym at)
]

-- ---- one sheet alone, and in a loop

one_of : (b : Bool) → b ≡ (b || false)
one_of true = refl
one_of false = refl

pub faults_of : (marked : Faults) (one : Broken) → marked.bad_range ≡ one.bad_range → marked.id_taken ≡ one.id_taken
    → marked.bad_name ≡ one.bad_name → marked.name_taken ≡ one.name_taken → marked.last_line ≡ one.last_line
    → AreFaults marked (one ∷ [])
faults_of marked one range id name taken line = record {
  bad_range = range ∙ one_of one.bad_range;
  id_taken = id ∙ one_of one.id_taken;
  bad_name = name ∙ one_of one.bad_name;
  name_taken = taken ∙ one_of one.name_taken;
  last_line = line ∙ one_of one.last_line;
}

pub made_next : (placed : List Placed) (k : ℕ) (one : Placed) → k < length placed → one ≡ get_or placed k one
    → sheets_made (take (k + 1) placed) ≡ sheets_with (sheets_made (take k placed)) one
made_next placed k one there is =
    ap sheets_made (take_more placed k one there)
    ∙ made_more (take k placed) (get_or placed k one)
    ∙ ap (sheets_with (sheets_made (take k placed))) (sym is)

pub place_there : (placed : List Placed) (k : ℕ) (one : Placed) (sheets : List PlaceSheet) → HavePlaces placed
    → k < length placed → one ≡ get_or placed k one → sheets ≡ sheets_made (take k placed) → one.0 ≤ length sheets
place_there placed k one sheets places there is are =
    let at = places k one there in
    let same = ap (λ (p : Placed). p.0) is in
    let long = ap length are ∙ length_made (take k placed) ∙ length-take-le k placed (omega (arith, there)) in
    omega (arith, at, same, long)

pub or_cond : (b c : Bool) → cond b true c ≡ (b || c)
or_cond true c = refl
or_cond false c = refl

pub same_book : (id title owner : List ℕ) (placed : List Placed) (named called owned : List ℕ)
    (sheets : List PlaceSheet)
    → named ≡ id → called ≡ title → owned ≡ owner → sheets ≡ sheets_made placed
    → book_of named called owned sheets ≡ with_all_placed (bare_book id title owner) placed
same_book id title owner placed named called owned sheets id_is title_is owner_is are =
    ap (λ one. book_of one called owned sheets) id_is
    ∙ ap (λ one. book_of id one owned sheets) title_is
    ∙ ap (λ one. book_of id title one sheets) owner_is
    ∙ ap (book_of id title owner) are
    ∙ sym (book_made id title owner placed)

-- what is told of a refused spreadsheet, and of one that is made

pub refused_so : (owner title : List ℕ) (asked : List SheetProperties) (books : List PlaceBook) (refused : RuleOr)
    → IsUnlessNoMemory (λ told. (placed : List Placed) × ArePlaced asked [] placed
    × (told ≡ judged_by (created_broken (length books) asked placed) placed)) (Err refused)
    → IsUnlessNoMemory (IsBookAdded owner title asked books books) (Err refused)
refused_so owner title asked books (refusal.Rule rule) is =
    let (placed, are, told) = is in
    record {
      placed = placed;
      are = are;
      judged = told_err (created_broken (length books) asked placed) rule placed (book_id (length books)) told;
      added = tt;
      names = tt;
    }
refused_so owner title asked books refusal.NoMemory is = tt

pub made_so : (law : BooksMade) (owner title : List ℕ) (asked : List SheetProperties) (before after : List PlaceBook)
    (placed : List Placed) → first_broken (created_broken (length before) asked placed) ≡ None
    → ArePlaced asked [] placed
    → after ≡ before ++ with_all_placed (bare_book (book_id (length before)) title owner) placed ∷ [] → (id : List ℕ)
    → id ≡ book_id (length before) → IsBookAdded owner title asked before after (Ok id)
made_so law owner title asked before after placed none are after_is id is =
    let number = length before in
    let is_added : after ≡ before ++ with_all_placed (bare_book id title owner) placed ∷ [] =
    after_is ∙ ap (λ one. before ++ with_all_placed (bare_book one title owner) placed ∷ []) (sym is) in
    record {
      placed = placed;
      are = are;
      judged = ap (λ one. Ok one) is
          ∙ told_none (created_broken number asked placed) (book_id number) none;
      added = is_added;
      names = λ world stands.
          subst (λ (books : List PlaceBook). WorldStandsFor books
          (with_named_book (made_by_name (bare_names id title owner) (additions placed) world.next) world))
          (sym is_added)
          (law.added before world id title owner placed stands
          (can_be_made number asked placed id title owner none are));
    }
