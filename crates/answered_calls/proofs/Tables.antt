-- Tables that are made of others, entry by entry: each item becomes another one in its place, or goes with its line.
use Rattle.std.proofs.Common.{◌≡◌, ◌≢◌, ℕ, ◌<◌, List, [], ◌∷◌, refl, sym, ap, subst, ◌∙◌, cond, Bool, true, false, map}
use Rattle.std.specs.Prelude.{Option, Some, None}
use Rattle.std.specs.Cmp.{eq_by_cmp_equiv}
use Rattle.std.specs.FinMap as finite
use Rattle.std.specs.List.{AllByRecursion, cons_option, filter_map}
use Rattle.std.specs.Option.{IsSome, option_map, is_some}
use Rattle.std.specs.Ordering.{eq_by_cmp}
use Rattle.std.proofs.lemmas.Bool.{false≢true, false_from_ne_true}
use Rattle.std.proofs.lemmas.Option.{none-some, same_Some}
use Rattle.grid_range.specs.Area.{by_rows}
use Rattle.grid_range.specs.ByRows.{by_rows_total, same_cell}
use Rattle.grid_range.specs.Change.{Fits}
use Rattle.grid_range.specs.Tracking.{place_of}
use Rattle.grid_range.specs.TrackingLaws.{PlacesStayApart}
use Rattle.grid_range.specs.declared.axis.Axis.{Axis}
use Rattle.grid_range.specs.declared.axis.Axis.TheVariants.{Rows, Columns}
use Rattle.grid_range.specs.declared.change.Change.{Change}
use Rattle.cell_store.specs.Moved.{GoesWithLines, lines_on, place_after, size_after}
use Rattle.cell_store.specs.Table.{HasItemsInside, Table, item_at}

-- whether two places are one
abbrev pub same : ℕ × ℕ → ℕ × ℕ → Bool
same = eq_by_cmp by_rows

pub is_same : (one other : ℕ × ℕ) → one ≡ other → same one other ≡ true
is_same one other is = ap (same one) (sym is) ∙ (eq_by_cmp_equiv by_rows_total).refl one

pub not_same : (one other : ℕ × ℕ) → one ≢ other → same one other ≡ false
not_same one other apart = false_from_ne_true (same one other) (λ is. apart (same_cell one other is))

-- ---- each item becomes another one

module _ {T : Type 0} (f : T → T) where
  abbrev become : List ((ℕ × ℕ) × T) → List ((ℕ × ℕ) × T)
  become entries = map (λ entry. (entry.0, f entry.1)) entries

  by_test : (b : Bool) (item : T) (rest rest' : Option T) → rest' ≡ option_map f rest
      → cond b (Some (f item)) rest' ≡ option_map f (cond b (Some item) rest)
  by_test true item rest rest' is = refl
  by_test false item rest rest' is = is

  found_become : (entries : List ((ℕ × ℕ) × T)) (place : ℕ × ℕ)
      → finite.find by_rows place (become entries) ≡ option_map f (finite.find by_rows place entries)
  found_become [] place = refl
  found_become (e ∷ es) place =
      by_test (same place e.0) e.1 (finite.find by_rows place es) (finite.find by_rows place (become es))
      (found_become es place)

  abbrev pub table_become : Table T → Table T
  table_become table = record table { cells = finite.from_entries (become (finite.entries table.cells)) }

  pub items_become : (table : Table T) (row col : ℕ)
      → item_at (table_become table) row col ≡ option_map f (item_at table row col)
  items_become table row col =
      finite.get-from_entries by_rows_total (become (finite.entries table.cells)) (row, col)
      ∙ found_become (finite.entries table.cells) (row, col)
      ∙ ap (option_map f) (sym (finite.get-entries table.cells (row, col)))

-- ---- each item goes with its line

-- what a place's line became, and that its other number stays
mapped_row : (o : Option ℕ) (col : ℕ) (q : ℕ × ℕ) → option_map (λ line. (line, col)) o ≡ Some q
    → (o ≡ Some q.0) × (col ≡ q.1)
mapped_row None col q e = absurd (none-some q e)
mapped_row (Some line) col q e = let is = same_Some (line, col) q e in (ap (λ p. Some p.0) is, ap (λ p. p.1) is)

mapped_col : (o : Option ℕ) (row : ℕ) (q : ℕ × ℕ) → option_map (λ line. (row, line)) o ≡ Some q
    → (o ≡ Some q.1) × (row ≡ q.0)
mapped_col None row q e = absurd (none-some q e)
mapped_col (Some line) row q e = let is = same_Some (row, line) q e in (ap (λ p. Some p.1) is, ap (λ p. p.0) is)

-- no two places come to one
place_apart : PlacesStayApart → (axis : Axis) (change : Change) (rows cols : ℕ) (one other q : ℕ × ℕ)
    → Fits change (lines_on axis rows cols)
    → (one.0 < rows) × (one.1 < cols) → (other.0 < rows) × (other.1 < cols)
    → place_after axis change one.0 one.1 ≡ Some q → place_after axis change other.0 other.1 ≡ Some q → one ≡ other
place_apart apart Rows change rows cols one other q fits inside there a b =
    let x = mapped_row (place_of change one.0) one.1 q a in
    let y = mapped_row (place_of change other.0) other.1 q b in
    λ i. (apart change rows one.0 other.0 q.0 fits inside.0 there.0 x.0 y.0 i, (x.1 ∙ sym y.1) i)
place_apart apart Columns change rows cols one other q fits inside there a b =
    let x = mapped_col (place_of change one.1) one.0 q a in
    let y = mapped_col (place_of change other.1) other.0 q b in
    λ i. ((x.1 ∙ sym y.1) i, apart change cols one.1 other.1 q.1 fits inside.1 there.1 x.0 y.0 i)

abbrev Inside : ℕ → ℕ → ℕ × ℕ → Type 0
Inside rows cols place = (place.0 < rows) × (place.1 < cols)

module _ {T : Type 0} (axis : Axis) (change : Change) where
  abbrev goes : (ℕ × ℕ) × T → Option ((ℕ × ℕ) × T)
  goes entry = option_map (λ place. (place, entry.1)) (place_after axis change entry.0.0 entry.0.1)

  abbrev gone : List ((ℕ × ℕ) × T) → List ((ℕ × ℕ) × T)
  gone entries = filter_map goes entries

  -- an item that came to a place was at one that goes there
  abbrev Came : List ((ℕ × ℕ) × T) → ℕ × ℕ → T → Type 0
  Came entries place item = (old : ℕ × ℕ) × (place_after axis change old.0 old.1 ≡ Some place)
      × (finite.find by_rows old entries ≡ Some item)

  came_behind : (e : (ℕ × ℕ) × T) (es : List ((ℕ × ℕ) × T)) (place : ℕ × ℕ) (item : T)
      → place_after axis change e.0.0 e.0.1 ≢ Some place → Came es place item → Came (e ∷ es) place item
  came_behind e es place item other (old, is, held) = (
    old,
    is,
    ap (λ b. cond b (Some e.1) (finite.find by_rows old es))
        (not_same old e.0 (λ one. other (ap (λ (p : ℕ × ℕ). place_after axis change p.0 p.1) (sym one) ∙ is)))
        ∙ held,
  )

  came_by_test : (e : (ℕ × ℕ) × T) (es : List ((ℕ × ℕ) × T)) (place : ℕ × ℕ) (item : T) (p : ℕ × ℕ)
      → place_after axis change e.0.0 e.0.1 ≡ Some p
      → (finite.find by_rows place (gone es) ≡ Some item → Came es place item) → (b : Bool) → same place p ≡ b
      → cond b (Some e.1) (finite.find by_rows place (gone es)) ≡ Some item → Came (e ∷ es) place item
  came_by_test e es place item p way behind true one is = (
    e.0,
    way ∙ ap Some (sym (same_cell place p one)),
    ap (λ b. cond b (Some e.1) (finite.find by_rows e.0 es)) (is_same e.0 e.0 refl) ∙ is,
  )
  came_by_test e es place item p way behind false apart is = came_behind e es place item
      (λ some. false≢true (sym apart ∙ is_same place p (same_Some place p (sym some ∙ way)))) (behind is)

  came_by_way : (e : (ℕ × ℕ) × T) (es : List ((ℕ × ℕ) × T)) (place : ℕ × ℕ) (item : T)
      → (finite.find by_rows place (gone es) ≡ Some item → Came es place item) → (way : Option (ℕ × ℕ))
      → place_after axis change e.0.0 e.0.1 ≡ way
      → finite.find by_rows place (cons_option (option_map (λ p. (p, e.1)) way) (gone es)) ≡ Some item
      → Came (e ∷ es) place item
  came_by_way e es place item behind None none is =
      came_behind e es place item (λ some. none-some place (sym none ∙ some)) (behind is)
  came_by_way e es place item behind (Some p) way is =
      came_by_test e es place item p way behind (same place p) refl is

  came : (entries : List ((ℕ × ℕ) × T)) (place : ℕ × ℕ) (item : T)
      → finite.find by_rows place (gone entries) ≡ Some item → Came entries place item
  came [] place item is = absurd (none-some item is)
  came (e ∷ es) place item is =
      came_by_way e es place item (λ below. came es place item below) (place_after axis change e.0.0 e.0.1) refl is

  -- and an item goes where its place goes
  module _ (law : PlacesStayApart) (rows cols : ℕ) (fits : Fits change (lines_on axis rows cols)) where
    -- another entry goes elsewhere
    went_elsewhere : (e : (ℕ × ℕ) × T) (es : List ((ℕ × ℕ) × T)) (old place : ℕ × ℕ) (item : T)
        → Inside rows cols e.0 → Inside rows cols old → place_after axis change old.0 old.1 ≡ Some place
        → same old e.0 ≡ false → (other : Option (ℕ × ℕ)) → place_after axis change e.0.0 e.0.1 ≡ other
        → finite.find by_rows place (gone es) ≡ Some item
        → finite.find by_rows place (cons_option (option_map (λ p. (p, e.1)) other) (gone es)) ≡ Some item
    went_elsewhere e es old place item here there way apart None none is = is
    went_elsewhere e es old place item here there way apart (Some p) way' is =
        ap (λ b. cond b (Some e.1) (finite.find by_rows place (gone es))) (not_same place p (λ one.
        false≢true (sym apart ∙ is_same old e.0 (place_apart law axis change rows cols old e.0 p fits there here
        (way ∙ ap Some one) way')))) ∙ is

    went_by_test : (e : (ℕ × ℕ) × T) (es : List ((ℕ × ℕ) × T)) (old place : ℕ × ℕ) (item : T)
        → Inside rows cols e.0 → Inside rows cols old → place_after axis change old.0 old.1 ≡ Some place
        → (finite.find by_rows old es ≡ Some item → finite.find by_rows place (gone es) ≡ Some item)
        → (b : Bool) → same old e.0 ≡ b → cond b (Some e.1) (finite.find by_rows old es) ≡ Some item
        → finite.find by_rows place (gone (e ∷ es)) ≡ Some item
    went_by_test e es old place item here there way behind true one held =
        let its : place_after axis change e.0.0 e.0.1 ≡ Some place =
        ap (λ (p : ℕ × ℕ). place_after axis change p.0 p.1) (sym (same_cell old e.0 one)) ∙ way in
        ap (λ o. finite.find by_rows place (cons_option (option_map (λ p. (p, e.1)) o) (gone es))) its
        ∙ ap (λ b. cond b (Some e.1) (finite.find by_rows place (gone es))) (is_same place place refl) ∙ held
    went_by_test e es old place item here there way behind false apart held =
        went_elsewhere e es old place item here there way apart (place_after axis change e.0.0 e.0.1) refl (behind held)

    went : (entries : List ((ℕ × ℕ) × T)) → AllByRecursion (λ (e : (ℕ × ℕ) × T). Inside rows cols e.0) entries
        → (old place : ℕ × ℕ) (item : T) → Inside rows cols old → place_after axis change old.0 old.1 ≡ Some place
        → finite.find by_rows old entries ≡ Some item → finite.find by_rows place (gone entries) ≡ Some item
    went [] inside old place item there way held = absurd (none-some item held)
    went (e ∷ es) inside old place item there way held =
        went_by_test e es old place item inside.0 there way (λ below. went es inside.1 old place item there way below)
        (same old e.0) refl held

    -- the places of entries are places of the table
    all_inside : (entries : List ((ℕ × ℕ) × T))
        → ((place : ℕ × ℕ) → IsSome (finite.find by_rows place entries) → Inside rows cols place)
        → AllByRecursion (λ (e : (ℕ × ℕ) × T). Inside rows cols e.0) entries
    all_inside [] inside = tt
    all_inside (e ∷ es) inside = (
      inside e.0 (ap (λ b. is_some (cond b (Some e.1) (finite.find by_rows e.0 es))) (is_same e.0 e.0 refl)),
      all_inside es (λ place some. inside place (either (same place e.0) (finite.find by_rows place es) some)),
    )
      where
        either : (b : Bool) (rest : Option T) → IsSome rest → IsSome (cond b (Some e.1) rest)
        either true rest some = refl
        either false rest some = some

-- the table after a change of its lines
abbrev pub table_moved : {T : Type 0} → Axis → Change → Table T → Table T
table_moved axis change table = record {
  rows = (size_after axis change table.rows table.cols).0;
  cols = (size_after axis change table.rows table.cols).1;
  cells = finite.from_entries (gone axis change (finite.entries table.cells));
}

pub goes_with_lines : {T : Type 0} (law : PlacesStayApart) (axis : Axis) (change : Change) (table : Table T)
    → HasItemsInside table → Fits change (lines_on axis table.rows table.cols)
    → GoesWithLines axis change table (table_moved axis change table)
goes_with_lines law axis change table inside fits = record {
  size = refl;
  items = λ row col item. (
    (λ is.
        let (old, way, held) = came axis change (finite.entries table.cells) (row, col) item
        (sym (finite.get-from_entries by_rows_total (gone axis change (finite.entries table.cells)) (row, col)) ∙ is) in
        record { old_row = old.0; old_col = old.1; goes = way; held = finite.get-entries table.cells old ∙ held }),
    (λ from.
        let old : ℕ × ℕ = (from.old_row, from.old_col) in
        finite.get-from_entries by_rows_total (gone axis change (finite.entries table.cells)) (row, col)
        ∙ went axis change law table.rows table.cols fits (finite.entries table.cells)
        (all_inside axis change law table.rows table.cols fits (finite.entries table.cells)
        (λ place some. inside place.0 place.1 (subst IsSome (sym (finite.get-entries table.cells place)) some)))
        old (row, col) item (inside from.old_row from.old_col (ap is_some from.held)) from.goes
        (sym (finite.get-entries table.cells old) ∙ from.held)),
  );
}
