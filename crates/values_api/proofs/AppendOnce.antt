-- An append changes a spreadsheet in one way, and has one answer.
use Rattle.std.proofs.Common.{◌≡◌, ℕ, Bool, true, sym, ap, subst, ◌∙◌, List, ◌∷◌, [], ◌++◌, arith, ◌<◌, ◌≤◌, ◌⊎◌, inl, inr, refl}
use Rattle.std.specs.Prelude.{Option, Some, None, Result, Ok, Err, MatchResult}
use Rattle.cell_store.specs.Table.{Table}
use Rattle.cell_value.specs.declared.cell.Block.{Block}
use Rattle.grid_range.specs.declared.area.Area.{Area}
use Rattle.world_model.specs.Book.{PlaceBook}
use Rattle.world_model.specs.BookChange.{BookChange}
use Rattle.world_model.specs.ChangingLaws.{ChangesApart, ChangesInTurn}
use Rattle.world_model.specs.Sheet.{PlaceSheet}
use Rattle.world_model.specs.Sound.{IsSound, place_sheet_with}
use Rattle.world_model.specs.Updating.{Updates}
use Rattle.dimension_ops.specs.declared.rule.Limit.{Limit}
use Rattle.dimension_ops.specs.declared.rule.Rule.{Rule}
use Rattle.values_api.specs.Appends.{IsAppend, IsAppendUnless, IsAppended, answer_with, cell_area, changes_of, limit_passed, lines_added, start_of}
use Rattle.values_api.specs.Blocks.{contents_of}
use Rattle.values_api.specs.Denials.{IsWriteBy, WriteCells, unless_denied}
use Rattle.values_api.specs.DenialLaws.{denial_once}
use Rattle.values_api.specs.Laws.{AppendsOnce, WritesOnce}
use Rattle.values_api.specs.Tables.{IsLastOf, IsStored, IsTable, IsTableIn, LiesWithin}
use Rattle.values_api.specs.declared.appending.Added.{Added}
use Rattle.values_api.specs.declared.table.Rectangle.{Rectangle}
use Rattle.values_api.specs.declared.writing.WrittenCells.{WrittenCells}

some_same : {A : Type 0} (one other : A) → Some one ≡ Some other → one ≡ other
some_same one other e = cc

-- ---- the table

abbrev rectangle : ℕ → ℕ → ℕ → ℕ → Rectangle
rectangle top bottom left right = record { top = top; bottom = bottom; left = left; right = right }

same_line : (one other : ℕ) → one ≤ other → other ≤ one → one ≡ other
same_line one other below above = omega (arith, below, above)

within_both : (one other : Rectangle) → LiesWithin one other → LiesWithin other one → one ≡ other
within_both one other in_other in_one =
    ap (λ top. rectangle top one.bottom one.left one.right) (same_line one.top other.top in_one.top in_other.top)
    ∙ ap (λ bottom. rectangle other.top bottom one.left one.right)
    (same_line one.bottom other.bottom in_other.bottom in_one.bottom)
    ∙ ap (λ left. rectangle other.top other.bottom left one.right)
    (same_line one.left other.left in_one.left in_other.left)
    ∙ ap (λ right. rectangle other.top other.bottom other.left right)
    (same_line one.right other.right in_other.right in_one.right)

abbrev IsBefore : ℕ → ℕ → ℕ → ℕ → Type 0
IsBefore r c row col = (r < row) ⊎ ((r ≡ row) × (c ≤ col))

last_row : (row col row' col' : ℕ) → IsBefore row' col' row col → IsBefore row col row' col' → row ≡ row'
last_row row col row' col' (inl before) (inl after) = omega (arith, before, after)
last_row row col row' col' (inl before) (inr after) = after.0
last_row row col row' col' (inr before) after = sym before.0

last_col : (row col row' col' : ℕ) → IsBefore row' col' row col → IsBefore row col row' col' → col ≡ col'
last_col row col row' col' (inl before) (inl after) = omega (arith, before, after)
last_col row col row' col' (inl before) (inr after) = omega (arith, before, after.0)
last_col row col row' col' (inr before) (inl after) = omega (arith, before.0, after)
last_col row col row' col' (inr before) (inr after) = omega (arith, before.1, after.1)

module _ {T : Type 0} (area : Area) (table : Table T) where
  around_once : (row col row' col' : ℕ) (one other : Rectangle) → IsLastOf area table row col
      → IsLastOf area table row' col' → IsTable (IsStored table) row col one
      → IsTable (IsStored table) row' col' other → one ≡ other
  around_once row col row' col' one other last last' is is' =
      let before = last.last row' col' last'.held last'.stored in
      let after = last'.last row col last.held last.stored in
      let same_row = last_row row col row' col' before after in
      let same_col = last_col row col row' col' before after in
      let other_has = is'.has_cell in
      let one_has = is.has_cell in
      within_both one other
      (is.least other (record {
        top = omega (arith, other_has.top, same_row);
        bottom = omega (arith, other_has.bottom, same_row);
        left = omega (arith, other_has.left, same_col);
        right = omega (arith, other_has.right, same_col);
      }) is'.closed)
      (is'.least one (record {
        top = omega (arith, one_has.top, same_row);
        bottom = omega (arith, one_has.bottom, same_row);
        left = omega (arith, one_has.left, same_col);
        right = omega (arith, one_has.right, same_col);
      }) is.closed)

  table_once : (one other : Option Rectangle) → IsTableIn area table one → IsTableIn area table other → one ≡ other
  table_once None None none none' = refl
  table_once None (Some other) none (row, col, last, is) = absurd (none row col last.held last.stored)
  table_once (Some one) None (row, col, last, is) none = absurd (none row col last.held last.stored)
  table_once (Some one) (Some other) (row, col, last, is) (row', col', last', is') =
      ap (λ found. Some found) (around_once row col row' col' one other last last' is is')

-- ---- the append

module _ (writes_once : WritesOnce) (apart : ChangesApart) (turns : ChangesInTurn) where
  -- a user's write is told in one way, and makes one thing of the cells
  writes_by_once : (user : List ℕ) (one_cell : Bool) (area : Area) (block : Block) (sheet : PlaceSheet)
      (before after after' : PlaceBook) (told told' : Result WrittenCells Rule) → IsSound before
      → (one : IsWriteBy user one_cell area block sheet before after told)
      → (other : IsWriteBy user one_cell area block sheet before after' told')
      → (contents_of one.is.entries ≡ contents_of other.is.entries) × (told ≡ told')
  writes_by_once user one_cell area block sheet before after after' told told' sound one other =
      let (same, same_done) = writes_once.once one_cell area block sheet before after after' one.done other.done sound
      one.is other.is in
      let denied = denial_once user before (WriteCells before.sheets one_cell area block) one.denied other.denied
      one.is_denied other.is_denied in (
        same,
        one.told_is ∙ ap (λ d. unless_denied d one.done) denied ∙ ap (λ t. unless_denied other.denied t) same_done
            ∙ sym other.told_is,
      )

  module _ (user : List ℕ) (sheet : ℕ) (added : Added) (start : ℕ × ℕ) (block : Block) (table : Option Rectangle) where
    abbrev Answers : Result WrittenCells Rule → Result (Option Area × WrittenCells) Rule → Type 0
    Answers told answer =
        MatchResult told (λ written. answer ≡ Ok (answer_with sheet table written)) (λ rule. answer ≡ Err rule)

    answers_once : (told : Result WrittenCells Rule) (answer answer' : Result (Option Area × WrittenCells) Rule)
        → Answers told answer → Answers told answer' → answer ≡ answer'
    answers_once (Ok written) answer answer' is is' = is ∙ sym is'
    answers_once (Err rule) answer answer' is is' = is ∙ sym is'

    abbrev changes_with : Updates → List BookChange
    changes_with updates = changes_of sheet added ++ BookChange.CellsUpdated sheet updates ∷ []

    -- a write on the spreadsheet that has the lines, and what is told of it
    abbrev ToldOf : List BookChange → Result (Option Area × WrittenCells) Rule → PlaceBook → PlaceSheet → Type 0
    ToldOf changes answer between own =
        (after : PlaceBook) × (told : Result WrittenCells Rule)
        × (write : IsWriteBy user true (cell_area sheet start) block own between after told)
        × (changes ≡ changes_with (contents_of write.is.entries)) × Answers told answer

    told_once : (between : PlaceBook) (own : PlaceSheet) (changes changes' : List BookChange)
        (answer answer' : Result (Option Area × WrittenCells) Rule) → IsSound between
        → ToldOf changes answer between own
        → ToldOf changes' answer' between own → (changes ≡ changes') × (answer ≡ answer')
    told_once between own changes changes' answer answer' sound (after, told, write, is, answered)
        (after', told', write', is', answered') =
        let (same, same_told) =
        writes_by_once user true (cell_area sheet start) block own between after after' told told' sound
        write write' in (
          is ∙ ap changes_with same ∙ sym is',
          answers_once told' answer answer' (subst (λ one. Answers one answer) same_told answered) answered',
        )

    appended_once : (changes changes' : List BookChange) (before after after' : PlaceBook)
        (answer answer' : Result (Option Area × WrittenCells) Rule) → IsSound before
        → IsAppended user sheet added start block table changes before after answer
        → IsAppended user sheet added start block table changes' before after' answer'
        → (changes ≡ changes') × (answer ≡ answer')
    appended_once changes changes' before after after' answer answer' sound one other =
        let same = apart.same (changes_of sheet added) before one.between other.between sound one.lines other.lines in
        let same_own = some_same one.own other.own
        (sym one.there ∙ ap (λ (book : PlaceBook). place_sheet_with sheet book.sheets) same ∙ other.there) in
        told_once other.between other.own changes changes' answer answer'
        (turns.sound (changes_of sheet added) before other.between sound other.lines)
        (subst (λ between. ToldOf changes answer between other.own) same
        (subst (ToldOf changes answer one.between) same_own
        (after, one.told, one.write, one.changes_are, one.answered)))
        (after', other.told, other.write, other.changes_are, other.answered)

  unless_once : (IsDone IsDone' : Type 0) (limit : Option Limit) (changes changes' : List BookChange)
      (answer answer' : Result (Option Area × WrittenCells) Rule)
      → (IsDone → IsDone' → (changes ≡ changes') × (answer ≡ answer')) → IsAppendUnless limit IsDone changes answer
      → IsAppendUnless limit IsDone' changes' answer' → (changes ≡ changes') × (answer ≡ answer')
  unless_once IsDone IsDone' None changes changes' answer answer' once is is' = once is is'
  unless_once IsDone IsDone' (Some limit) changes changes' answer answer' once is is' =
      (is.0 ∙ sym is'.0, is.1 ∙ sym is'.1)

  module _ (user : List ℕ) (insert : Bool) (area : Area) (block : Block) (sheet : PlaceSheet) (before : PlaceBook) where
    abbrev lines_to : Option Rectangle → Added
    lines_to table = lines_added insert (start_of table area) block sheet

    -- the append to that table
    abbrev IsTo : List BookChange → PlaceBook → Result (Option Area × WrittenCells) Rule → Option Rectangle → Type 0
    IsTo changes after answer table =
        IsAppendUnless (limit_passed (lines_to table) sheet before.sheets)
        (IsAppended user area.sheet (lines_to table) (start_of table area) block table changes before after answer)
        changes answer

    append_once : (after after' : PlaceBook) (answer answer' : Result (Option Area × WrittenCells) Rule)
        → IsSound before
        → (one : IsAppend user insert area block sheet before after answer)
        → (other : IsAppend user insert area block sheet before after' answer')
        → (one.changes ≡ other.changes) × (answer ≡ answer')
    append_once after after' answer answer' sound one other =
        let same = table_once area sheet.table one.table other.table one.found other.found in
        let added = lines_to other.table in
        let start = start_of other.table area in
        unless_once
        (IsAppended user area.sheet added start block other.table one.changes before after answer)
        (IsAppended user area.sheet added start block other.table other.changes before after' answer')
        (limit_passed added sheet before.sheets) one.changes other.changes answer answer'
        (appended_once user area.sheet added start block other.table one.changes other.changes before after
        after' answer
        answer' sound)
        (subst (IsTo one.changes after answer) same one.appended) other.appended

  pub appends_once : AppendsOnce
  appends_once = record { once = append_once }
