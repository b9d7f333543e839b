-- The lines of one axis, each with a list of entries. No public clause cites this module.
use Rattle.std.specs.Prelude.{◌≡◌, ℕ, ◌+◌, ◌<◌, ◌≤◌, ◌⊎◌, List, [], length, Some}
use Rattle.std.specs.Prelude.{slice_index, ⊤}
use Rattle.std.specs.List.{range_with_len}
use Rattle.std.specs.List.Sorted.{IsPermutation}
use Rattle.grid_range.specs.declared.change.Change.{Change}
use Rattle.grid_range.specs.declared.change.Change.TheVariants.{Insert, Delete, Move}
use Rattle.grid_range.specs.Change.{count_after}
use Rattle.grid_range.specs.Tracking.{place_of}
use Rattle.cell_store.specs.Table.{most_lines}
use Rattle.link_store.specs.declared.lines.Lines.{Lines}
use Rattle.link_store.specs.Lists.{entries_of, live_nodes}

-- where the number may have stood that stands at that index once numbers from behind the first
-- `count` stand at `at`, in any order, and all from there on so many places later
abbrev pub OpenedFrom : ℕ → ℕ → ℕ → ℕ → ℕ → Type 0
OpenedFrom at inserted count index old =
    ((index < at) × (old ≡ index))
    ⊎ ((at ≤ index) × (index < at + inserted) × (count ≤ old) × (old < count + inserted))
    ⊎ ((at + inserted ≤ index) × (index < count + inserted) × (old + inserted ≡ index))
    ⊎ ((count + inserted ≤ index) × (old ≡ index))

module _ {E : Type 0} where
  -- the list of a line
  abbrev pub list_of : Lines E → ℕ → ℕ
  list_of lines line = slice_index lines.lists.items line

  -- the entries of a line
  abbrev pub line_entries : Lines E → ℕ → List (ℕ × E)
  line_entries lines line = entries_of lines.links (list_of lines line)

  -- each line has a list of its own, and the lists of no line are empty
  pub record AreLines (lines : Lines E) : Type 0 where
    pub count : lines.count ≤ length lines.lists.items
    pub most : length lines.lists.items ≤ most_lines
    pub each_list : IsPermutation (range_with_len 0 (length lines.links)) lines.lists.items
    pub spare : (index : ℕ) → lines.count ≤ index → index < length lines.lists.items → line_entries lines index ≡ []

  -- the place of each line stands at the number of its list
  pub record ArePositions (lines : Lines E) (positions : List ℕ) : Type 0 where
    pub long : length positions ≡ length lines.lists.items
    pub each : (line : ℕ) → line < lines.count → slice_index positions (list_of lines line) ≡ line

  -- each list has the same entries
  pub record HasSameEntries (before after : Lines E) : Type 0 where
    pub entries : (list : ℕ) → entries_of after.links list ≡ entries_of before.links list
    pub live : live_nodes after.links ≡ live_nodes before.links

  -- there are the same lines, with the same lists
  pub record AreSameLines (before after : Lines E) : Type 0 where
    pub count : after.count ≡ before.count
    pub lists : (line : ℕ) → line < before.count → list_of after line ≡ list_of before line

  -- a line that was there before stands at that place, with its list
  pub record WasLine (change : Change) (before : Lines E) (place list : ℕ) : Type 0 where
    pub line : ℕ
    pub there : line < before.count
    pub goes : place_of change line ≡ Some place
    pub list_is : list ≡ list_of before line

  -- each line that stays went to its place with its list, and the list of each other is empty
  pub record AreMoved (change : Change) (before after : Lines E) : Type 0 where
    pub count : after.count ≡ count_after change before.count
    pub going : (line place : ℕ) → line < before.count → place_of change line ≡ Some place
        → list_of after place ≡ list_of before line
    pub coming : (place : ℕ) → place < after.count
        → WasLine change before place (list_of after place) ⊎ (line_entries after place ≡ [])

  -- the lines that the change deletes have no entries
  abbrev pub HasNothingOnDeleted : Change → Lines E → Type 0
  HasNothingOnDeleted (Insert at inserted) lines = ⊤
  HasNothingOnDeleted (Delete start end) lines =
      (line : ℕ) → start ≤ line → line < end → line_entries lines line ≡ []
  HasNothingOnDeleted (Move start end to) lines = ⊤

-- the change inserts lines
abbrev pub IsInsertion : Change → Type 0
IsInsertion (Insert at inserted) = ⊤
IsInsertion (Delete start end) = ⊥
IsInsertion (Move start end to) = ⊥
