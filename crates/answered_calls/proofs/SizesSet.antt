-- A size of a sheet can be set, if lines of sheets can be deleted and inserted: rows and columns are cut, and then they
-- are added.
use Rattle.std.proofs.Common.{◌≡◌, ℕ, ◌+◌, ◌-◌, ◌*◌, ◌<◌, ◌≤◌, refl, sym, subst, List, [], ◌∷◌, ◌++◌, cond, Bool, true, false, arith}
use Rattle.std.specs.Prelude.{nat_lt, if◌then◌else◌}
use Rattle.std.proofs.lemmas.Bool.{ltb-false, ltb-true}
use Rattle.std.proofs.lemmas.Nat.{mul-le}
use Rattle.cell_store.specs.Moved.{lines_on, size_after}
use Rattle.grid_range.specs.Change.{Fits, count_after}
use Rattle.grid_range.specs.Tearing.{IsMove}
use Rattle.grid_range.specs.declared.axis.Axis.{Axis}
use Rattle.grid_range.specs.declared.axis.Axis.TheVariants.{Rows, Columns}
use Rattle.grid_range.specs.declared.change.Change.{Change}
use Rattle.grid_range.specs.declared.change.Change.TheVariants.{Insert, Delete}
use Rattle.world_model.specs.declared.limits.TheConstants.{MOST_COLUMNS, MOST_ROWS}
use Rattle.world_model.specs.Book.{PlaceBook}
use Rattle.world_model.specs.BookChange.{AreChanges, BookChange}
use Rattle.world_model.specs.ChangingLaws.{ChangesInTurn}
use Rattle.world_model.specs.Sheet.{PlaceSheet}
use Rattle.world_model.specs.Sound.{IsLineCount, IsSound, most_places}
use Rattle.dimension_ops.specs.SetProperties.{IsSized, lines_added, lines_cut, size_set}

-- lines of a sheet that is there can be deleted or inserted, if there is room, and then it has another size
abbrev pub SizesChange : Type 0
SizesChange = (book : PlaceBook) → IsSound book → (id : ℕ) (axis : Axis) (change : Change) (size : ℕ × ℕ) (others : ℕ)
    → IsSized id size others book.sheets → Fits change (lines_on axis size.0 size.1) → ¬ (IsMove change)
    → IsLineCount axis (count_after change (lines_on axis size.0 size.1))
    → others + (size_after axis change size.0 size.1).0 * (size_after axis change size.0 size.1).1 ≤ most_places
    → (after : PlaceBook) × AreChanges (BookChange.LinesChanged id axis change ∷ []) book after
    × IsSized id (size_after axis change size.0 size.1) others after.sheets

-- ---- changes one after another

-- they can be made, and something holds of the sheets then
abbrev pub Makes : List BookChange → PlaceBook → (List PlaceSheet → Type 0) → Type 0
Makes changes book Holds =
    (after : PlaceBook) × AreChanges changes book after × IsSound after × Holds after.sheets

-- the lesser of both
abbrev low : ℕ → ℕ → ℕ
low lines given = cond (nat_lt given lines) given lines

module _ (turns : ChangesInTurn) where
  pub none_made : (book : PlaceBook) (Holds : List PlaceSheet → Type 0) → IsSound book → Holds book.sheets
      → Makes [] book Holds
  none_made book Holds sound holds = (book, turns.none book, sound, holds)

  pub then_made : (first later : List BookChange) (book : PlaceBook) (Holds Next : List PlaceSheet → Type 0)
      → Makes first book Holds
      → ((between : PlaceBook) → IsSound between → Holds between.sheets → Makes later between Next)
      → Makes (first ++ later) book Next
  then_made first later book Holds Next (between, changed, sound, holds) next =
      let (after, changed', sound', holds') = next between sound holds in
      (after, turns.both first later book between after changed changed', sound', holds')

  -- ---- a size

  module _ (lines : SizesChange) (id others : ℕ) where
    abbrev HasSize : ℕ → ℕ → List PlaceSheet → Type 0
    HasSize rows cols sheets = IsSized id (rows, cols) others sheets

    change_made : (book : PlaceBook) → IsSound book → (axis : Axis) (change : Change) (rows cols : ℕ)
        → HasSize rows cols book.sheets → Fits change (lines_on axis rows cols) → ¬ (IsMove change)
        → IsLineCount axis (count_after change (lines_on axis rows cols))
        → others + (size_after axis change rows cols).0 * (size_after axis change rows cols).1 ≤ most_places
        → Makes (BookChange.LinesChanged id axis change ∷ []) book
        (IsSized id (size_after axis change rows cols) others)
    change_made book sound axis change rows cols sized fits stays count room =
        let (after, changed, sized') =
        lines book sound id axis change (rows, cols) others sized fits stays count room in
        (after, changed, turns.sound (BookChange.LinesChanged id axis change ∷ []) book after sound changed, sized')

    few_now : (book : PlaceBook) → IsSound book → (rows cols : ℕ) → HasSize rows cols book.sheets
        → others + rows * cols ≤ most_places
    few_now book sound rows cols sized =
        let few = sound.few_places in let places = sized.places in omega (arith, few, places)

    cut_to : (count given : ℕ) → given < count → count - (count - given) ≡ given
    cut_to count given less = omega (arith, less)

    rows_cut : (rows cols given : ℕ) (book : PlaceBook) → IsSound book → HasSize rows cols book.sheets
        → IsLineCount Rows given → Makes (lines_cut id Rows rows given) book (HasSize (low rows given) cols)
    rows_cut rows cols given book sound sized count = by_test (nat_lt given rows) refl
      where
        by_test : (b : Bool) → nat_lt given rows ≡ b
            → Makes (if b then BookChange.LinesChanged id Rows (Delete given rows) ∷ [] else []) book
            (HasSize (cond b given rows) cols)
        by_test true is =
            let less = ltb-true given rows is in
            let few = few_now book sound rows cols sized in
            let fewer = mul-le (rows - (rows - given)) cols rows cols (omega arith) (omega arith) in
            subst (λ n. Makes (BookChange.LinesChanged id Rows (Delete given rows) ∷ []) book (HasSize n cols))
            (cut_to rows given less)
            (change_made book sound Rows (Delete given rows) rows cols sized (less, omega arith) (λ move. move)
            (subst (IsLineCount Rows) (sym (cut_to rows given less)) count) (omega (arith, few, fewer)))
        by_test false is = none_made book (HasSize rows cols) sound sized

    cols_cut : (rows cols given : ℕ) (book : PlaceBook) → IsSound book → HasSize rows cols book.sheets
        → IsLineCount Columns given → Makes (lines_cut id Columns cols given) book (HasSize rows (low cols given))
    cols_cut rows cols given book sound sized count = by_test (nat_lt given cols) refl
      where
        by_test : (b : Bool) → nat_lt given cols ≡ b
            → Makes (if b then BookChange.LinesChanged id Columns (Delete given cols) ∷ [] else []) book
            (HasSize rows (cond b given cols))
        by_test true is =
            let less = ltb-true given cols is in
            let few = few_now book sound rows cols sized in
            let fewer = mul-le rows (cols - (cols - given)) rows cols (omega arith) (omega arith) in
            subst (λ n. Makes (BookChange.LinesChanged id Columns (Delete given cols) ∷ []) book (HasSize rows n))
            (cut_to cols given less)
            (change_made book sound Columns (Delete given cols) rows cols sized (less, omega arith) (λ move. move)
            (subst (IsLineCount Columns) (sym (cut_to cols given less)) count) (omega (arith, few, fewer)))
        by_test false is = none_made book (HasSize rows cols) sound sized

    low_below : (count given : ℕ) → count < given → low count given ≡ count
    low_below count given less = by_test (nat_lt given count) refl
      where
        by_test : (b : Bool) → nat_lt given count ≡ b → cond b given count ≡ count
        by_test true is = let more = ltb-true given count is in absurd (omega (arith, less, more))
        by_test false is = refl

    low_above : (count given : ℕ) → given ≤ count → low count given ≡ given
    low_above count given less = by_test (nat_lt given count) refl
      where
        by_test : (b : Bool) → nat_lt given count ≡ b → cond b given count ≡ given
        by_test true is = refl
        by_test false is = let most = ltb-false given count is in omega (arith, less, most)

    low_within : (count given : ℕ) → low count given ≤ given
    low_within count given = by_test (nat_lt given count) refl
      where
        by_test : (b : Bool) → nat_lt given count ≡ b → cond b given count ≤ given
        by_test true is = omega arith
        by_test false is = ltb-false given count is

    add_to : (count given : ℕ) → count < given → count + (given - count) ≡ given
    add_to count given less = omega (arith, less)

    rows_added : (rows cols given : ℕ) (book : PlaceBook) → IsSound book → HasSize (low rows given) cols book.sheets
        → IsLineCount Rows given → others + given * cols ≤ most_places
        → Makes (lines_added id Rows rows given) book (HasSize given cols)
    rows_added rows cols given book sound sized count room = by_test (nat_lt rows given) refl
      where
        by_test : (b : Bool) → nat_lt rows given ≡ b
            → Makes (if b then BookChange.LinesChanged id Rows (Insert rows (given - rows)) ∷ [] else []) book
            (HasSize given cols)
        by_test true is =
            let less = ltb-true rows given is in
            let now = subst (λ n. HasSize n cols book.sheets) (low_below rows given less) sized in
            let most : given ≤ MOST_ROWS = count.1 in
            let whole = add_to rows given less in
            subst (λ n. Makes (BookChange.LinesChanged id Rows (Insert rows (given - rows)) ∷ []) book (HasSize n cols))
            whole (change_made book sound Rows (Insert rows (given - rows)) rows cols now
            (omega arith, omega (arith, less), omega (arith, whole, most)) (λ move. move)
            (subst (IsLineCount Rows) (sym whole) count)
            (subst (λ n. others + n * cols ≤ most_places) (sym whole) room))
        by_test false is =
            none_made book (HasSize given cols) sound
            (subst (λ n. HasSize n cols book.sheets) (low_above rows given (ltb-false rows given is)) sized)

    cols_added : (rows cols given : ℕ) (book : PlaceBook) → IsSound book → HasSize rows (low cols given) book.sheets
        → IsLineCount Columns given → others + rows * given ≤ most_places
        → Makes (lines_added id Columns cols given) book (HasSize rows given)
    cols_added rows cols given book sound sized count room = by_test (nat_lt cols given) refl
      where
        by_test : (b : Bool) → nat_lt cols given ≡ b
            → Makes (if b then BookChange.LinesChanged id Columns (Insert cols (given - cols)) ∷ [] else []) book
            (HasSize rows given)
        by_test true is =
            let less = ltb-true cols given is in
            let now = subst (λ n. HasSize rows n book.sheets) (low_below cols given less) sized in
            let most : given ≤ MOST_COLUMNS = count.1 in
            let whole = add_to cols given less in
            subst (λ n. Makes (BookChange.LinesChanged id Columns (Insert cols (given - cols)) ∷ []) book
            (HasSize rows n))
            whole (change_made book sound Columns (Insert cols (given - cols)) rows cols now
            (omega arith, omega (arith, less), omega (arith, whole, most)) (λ move. move)
            (subst (IsLineCount Columns) (sym whole) count)
            (subst (λ n. others + rows * n ≤ most_places) (sym whole) room))
        by_test false is =
            none_made book (HasSize rows given) sound
            (subst (λ n. HasSize rows n book.sheets) (low_above cols given (ltb-false cols given is)) sized)

    pub size_made : (size given : ℕ × ℕ) (book : PlaceBook) → IsSound book → IsSized id size others book.sheets
        → IsLineCount Rows given.0 → IsLineCount Columns given.1 → others + given.0 * given.1 ≤ most_places
        → Makes (size_set id size given) book (HasSize given.0 given.1)
    size_made size given book sound sized rows cols room =
        let rows_gone = lines_cut id Rows size.0 given.0 in
        let cols_gone = lines_cut id Columns size.1 given.1 in
        let rows_new = lines_added id Rows size.0 given.0 in
        let less_rows = low size.0 given.0 in
        let less_cols = low size.1 given.1 in
        let within = mul-le given.0 less_cols given.0 given.1 (omega arith) (low_within size.1 given.1) in
        then_made (rows_gone ++ cols_gone ++ rows_new) (lines_added id Columns size.1 given.1) book
        (HasSize given.0 less_cols) (HasSize given.0 given.1)
        (then_made (rows_gone ++ cols_gone) rows_new book (HasSize less_rows less_cols) (HasSize given.0 less_cols)
        (then_made rows_gone cols_gone book (HasSize less_rows size.1) (HasSize less_rows less_cols)
        (rows_cut size.0 size.1 given.0 book sound sized rows)
        (λ one sound_one sized_one. cols_cut less_rows size.1 given.1 one sound_one sized_one cols))
        (λ two sound_two sized_two.
        rows_added size.0 less_cols given.0 two sound_two sized_two rows (omega (arith, within, room))))
        (λ three sound_three sized_three. cols_added given.0 size.1 given.1 three sound_three sized_three cols room)
