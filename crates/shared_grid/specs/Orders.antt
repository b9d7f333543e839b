-- The lines of one axis in their order, each by a number that no change of lines alters. No public
-- clause cites this module.
use Rattle.std.specs.Prelude.{◌≡◌, ◌≢◌, ◌⊎◌, ℕ, ◌+◌, ◌<◌, ◌≤◌, nat_lt, if◌then◌else◌, List, length, slice_index}
use Rattle.std.specs.Prelude.{Some, ◌++◌, ◌-◌, refl}
use Rattle.std.specs.Coded.{Coded, code_by, coded×, coded_list, coded_ℕ}
use Rattle.std.specs.List.{range_with_len}
use Rattle.grid_range.specs.declared.change.Change.{Change}
use Rattle.grid_range.specs.declared.change.Change.TheVariants.{Insert, Delete, Move}
use Rattle.grid_range.specs.Change.{count_after}
use Rattle.grid_range.specs.Tracking.{place_of}
use Rattle.cell_store.specs.Table.{most_lines}

-- the lines of one axis in order: their numbers and behind them those of no line, the place of each number, and how
-- many lines there are
pub record LineOrder : Type 0 where
  pub numbers : List ℕ
  pub places : List ℕ
  pub count : ℕ

abbrev pub order_code : Coded LineOrder
order_code =
    code_by (List ℕ × (List ℕ × ℕ)) (coded× (coded_list coded_ℕ) (coded× (coded_list coded_ℕ) coded_ℕ))
    (λ o. (o.numbers, (o.places, o.count))) (λ p. record { numbers = p.0; places = p.1.0; count = p.1.1 }) (λ _. refl)

-- the list, and behind it each index up to that length
abbrev pub continued : List ℕ → ℕ → List ℕ
continued list long = list ++ range_with_len (length list) (long - length list)

-- what stands there at an index
abbrev pub entry : List ℕ → ℕ → ℕ
entry list index = if nat_lt index (length list) then slice_index list index else index

-- the number of a line
abbrev pub number_of : LineOrder → ℕ → ℕ
number_of order line = slice_index order.numbers line

-- the place of the line with that number
abbrev pub place_noted : LineOrder → ℕ → ℕ
place_noted order number = slice_index order.places number

-- each number is its line, and its own place
pub record IsPlain (order : LineOrder) : Type 0 where
  pub numbers : (line : ℕ) → line < length order.numbers → number_of order line ≡ line
  pub places : (number : ℕ) → number < length order.places → place_noted order number ≡ number

-- each number below their length stands once
pub record AreNumbers (numbers : List ℕ) : Type 0 where
  pub within : (index : ℕ) → index < length numbers → slice_index numbers index < length numbers
  pub apart : (one other : ℕ) → one < length numbers → other < length numbers
      → slice_index numbers one ≡ slice_index numbers other → one ≡ other

-- each line has a number of its own, and those behind are of no line; at each number its index is noted
pub record IsOrder (order : LineOrder) : Type 0 where
  pub count : order.count ≤ length order.numbers
  pub most : length order.numbers ≤ most_lines
  pub each : AreNumbers order.numbers
  pub long : length order.places ≡ length order.numbers
  pub noted : (index : ℕ) → index < length order.numbers → place_noted order (number_of order index) ≡ index

-- the two parts of the numbers that change places where there are `count` lines: where the first
-- begins, and where it and the second end
abbrev pub parts_of : Change → ℕ → ℕ × ℕ × ℕ
parts_of (Insert at inserted) count = (at, count, count + inserted)
parts_of (Delete start end) count = (start, end, count)
parts_of (Move start end to) count =
    if nat_lt to start then (to, start, end) else if nat_lt end to then (start, end, to) else (0, 0, 0)

-- a line that was there before stands at that place, with its number
pub record WasLine (change : Change) (before : LineOrder) (place number : ℕ) : Type 0 where
  pub line : ℕ
  pub there : line < before.count
  pub goes : place_of change line ≡ Some place
  pub number_is : number ≡ number_of before line

-- each line that stays went to its place with its number, and that of each other was of no line
pub record AreMoved (change : Change) (before after : LineOrder) : Type 0 where
  pub count : after.count ≡ count_after change before.count
  pub going : (line place : ℕ) → line < before.count → place_of change line ≡ Some place
      → number_of after place ≡ number_of before line
  pub coming : (place : ℕ) → place < after.count → WasLine change before place (number_of after place)
      ⊎ ((line : ℕ) → line < before.count → number_of before line ≢ number_of after place)
