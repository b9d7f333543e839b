-- The items once those of a line, and those of several lines, are taken.
use Rattle.std.proofs.Common.{◌≡◌, ◌≢◌, ◌⊎◌, inl, inr, ℕ, ◌+◌, ◌-◌, ◌<◌, ◌≤◌, Bool, true, false, cond, List, length, get_or, refl, sym, ap, subst, ◌∙◌, arith}
use Rattle.std.specs.Prelude.{Option, Some, None, is_some, Contains}
use Rattle.std.specs.List.{filter}
use Rattle.std.specs.List.Sorted.{IsStrictlySortedBy}
use Rattle.std.specs.Option.{IsSome}
use Rattle.std.specs.Cmp.{nat_cmp_total}
use Rattle.std.specs.Ordering.{nat_cmp, eq_by_cmp}
use Rattle.std.specs.FinMap as map
use Rattle.std.proofs.lemmas.Bool.{cases_lt, false≢true}
use Rattle.std.proofs.lemmas.Grind.{get_or_default_zero}
use Rattle.std.proofs.lemmas.List.Kept.{IsStrictlySortedBy-filter}
use Rattle.cell_value.specs.Elements.{Contains-filter, Contains-filter_from}
use Rattle.grid_range.specs.declared.axis.Axis.{Axis}
use Rattle.grid_range.specs.declared.change.Change.{Change}
use Rattle.grid_range.specs.declared.change.Change.TheVariants.{Insert, Delete, Move}
use Rattle.grid_range.specs.Change.{Fits}
use Rattle.grid_range.specs.declared.axis.Axis.TheVariants.{Rows, Columns}
use Rattle.shared_map.specs.Map.{AreKeysWithin}
use Rattle.shared_grid.specs.Orders.{LineOrder}
use Rattle.shared_grid.specs.Orders.{number_of}
use Rattle.shared_grid.specs.Cells.{numbers, key_of, line_in, across_in, HasItems, HasMarks, HasFewer, AreKeysOnRow, AreMarksOnColumn, IsCleared}
use Rattle.shared_grid.specs.Sheets.{AreCleared, AreOnAxis, deleted}
use Rattle.shared_grid.proofs.Keys.{all_pass}
use Rattle.shared_grid.proofs.Numbers.{same_key, key_itself, line-key, across-key}

-- the keys of a row
pub keys_on_row : {T : Type 0} (items : map.FinMap nat_cmp T) (row first last : ℕ) (keys : List ℕ)
    → first ≡ key_of row 0 → last ≡ key_of row 4294967295 → AreKeysWithin first last items keys
    → AreKeysOnRow row items keys
keys_on_row items row first last keys first_is last_is within = record {
  in_order = within.in_order;
  exactly = λ key. (
    (λ has.
        let found = (within.exactly key).0 has in
        let low = found.0 in
        let high = found.1 in
        (omega (arith, first_is, last_is, low, high), found.2)),
    (λ held.
        let on = held.0 in
        (within.exactly key).1 (omega (arith, first_is, on), omega (arith, last_is, on), held.1)),
  );
}

-- the marks of a column whose items are there
pub marks_on_column : {T M : Type 0} (items : map.FinMap nat_cmp T) (marks : map.FinMap nat_cmp M)
    → HasMarks items marks
    → (column first last : ℕ) (keys held : List ℕ) → column < numbers
    → first ≡ key_of column 0 → last ≡ key_of column 4294967295 → AreKeysWithin first last marks keys
    → held ≡ filter (λ (mark : ℕ). is_some (map.get items (key_of (across_in mark) column))) keys
    → AreMarksOnColumn column items held
marks_on_column items marks are column first last keys held fits first_is last_is within is =
    let there : ℕ → Bool = λ mark. is_some (map.get items (key_of (across_in mark) column)) in
    record {
      in_order =
          subst (IsStrictlySortedBy nat_cmp) (sym is) (IsStrictlySortedBy-filter nat_cmp there keys within.in_order);
      exactly = λ mark. (
        (λ has.
            let found = Contains-filter_from there keys mark (subst (λ (xs : List ℕ). Contains xs mark) is has) in
            let ends = (within.exactly mark).0 found.0 in
            let low = ends.0 in
            let high = ends.1 in
            (omega (arith, first_is, last_is, low, high), found.1)),
        (λ found.
            let line = found.0 in
            let same : key_of column (across_in mark) ≡ mark = omega (arith, line) in
            let marked = are.each (across_in mark) column (omega arith) fits found.1 in
            let has = (within.exactly mark).1 (
              omega (arith, first_is, line),
              omega (arith, last_is, line),
              subst (λ (k : ℕ). IsSome (map.get marks k)) same marked,
            ) in
            subst (λ (xs : List ℕ). Contains xs mark) (sym is) (Contains-filter there keys mark has found.1)),
      );
    }

-- each of them, where there are no other marks
pub all_marks_on_column : {T M : Type 0} (items : map.FinMap nat_cmp T) (marks : map.FinMap nat_cmp M)
    → HasMarks items marks
    → HasItems items marks → (column first last : ℕ) (keys : List ℕ) → column < numbers
    → first ≡ key_of column 0 → last ≡ key_of column 4294967295 → AreKeysWithin first last marks keys
    → AreMarksOnColumn column items keys
all_marks_on_column items marks are have column first last keys fits first_is last_is within =
    marks_on_column items marks are column first last keys keys fits first_is last_is within
    (all_pass (λ mark. is_some (map.get items (key_of (across_in mark) column))) keys (λ mark has.
    let found = (within.exactly mark).0 has in
    let low = found.0 in
    let high = found.1 in
    let same : mark ≡ key_of column (across_in mark) = omega (arith, first_is, last_is, low, high) in
    have.each (across_in mark) column (omega arith) fits (subst (λ (k : ℕ). IsSome (map.get marks k)) same found.2)))

-- keys that differ do so by the test
differ : (one other : ℕ) → one ≢ other → eq_by_cmp nat_cmp one other ≡ false
differ one other apart = elim (eq_by_cmp nat_cmp one other) as (λ b. eq_by_cmp nat_cmp one other ≡ b → b ≡ false) [
  | true ↦ λ same. absurd (apart (same_key one other same))
  | false ↦ λ _. refl
] refl

cut : (b : Bool) (count most : ℕ) → count ≤ most → cond b (count - 1) count ≤ most
cut true count most le = omega arith
cut false count most le = le

-- the key of an item by the numbers in a list of keys: of a row's items, and of a column's marks
abbrev pub at_row : ℕ → List ℕ → ℕ → ℕ
at_row row keys index = key_of row (across_in (get_or keys index 0))

abbrev pub at_column : ℕ → List ℕ → ℕ → ℕ
at_column column keys index = key_of (across_in (get_or keys index 0)) column

module _ {T : Type 0} where
  -- the items at the keys of so many indices were taken
  pub record AreTaken (old : map.FinMap nat_cmp T) (at : ℕ → ℕ) (count : ℕ) (new : map.FinMap nat_cmp T) : Type 0 where
    pub fewer : HasFewer old new
    pub gone : (index : ℕ) → index < count → map.get new (at index) ≡ None
    pub kept : (key : ℕ) → ((index : ℕ) → index < count → key ≢ at index) → map.get new key ≡ map.get old key

  none_fewer : (old : map.FinMap nat_cmp T) → HasFewer old old
  none_fewer old = record { each = λ key. inr refl; count = omega arith }

  pub none_taken : (old : map.FinMap nat_cmp T) (at : ℕ → ℕ) → AreTaken old at 0 old
  none_taken old at = record {
    fewer = none_fewer old;
    gone = λ index less. absurd (omega arith);
    kept = λ key apart. refl;
  }

  still_none : (b : Bool) (found : Option T) → found ≡ None → cond b None found ≡ None
  still_none true found none = refl
  still_none false found none = none

  module _ (old mid : map.FinMap nat_cmp T) (at : ℕ → ℕ) (count : ℕ) (taken : AreTaken old at count mid) where
    left : (key : ℕ) → map.get (map.remove mid (at count)) key
        ≡ cond (eq_by_cmp nat_cmp key (at count)) None (map.get mid key)
    left key = map.get-remove nat_cmp_total mid (at count) key

    fewer_left : HasFewer old (map.remove mid (at count))
    fewer_left = record {
      each = λ key. subst (λ (found : Option T). (found ≡ None) ⊎ (found ≡ map.get old key)) (sym (left key))
          (elim (eq_by_cmp nat_cmp key (at count)) as (λ b. (cond b None (map.get mid key) ≡ None)
          ⊎ (cond b None (map.get mid key) ≡ map.get old key)) [
            | true ↦ inl refl
            | false ↦ taken.fewer.each key
          ]);
      count = subst (λ (n : ℕ). n ≤ map.len old) (sym (map.len-remove nat_cmp_total mid (at count)))
          (cut _ (map.len mid) (map.len old) taken.fewer.count);
    }

    one_left : AreTaken old at (count + 1) (map.remove mid (at count))
    one_left = record {
      fewer = fewer_left;
      gone = λ index less. elim (cases_lt index count) [
        | inl earlier ↦ left (at index)
            ∙ still_none (eq_by_cmp nat_cmp (at index) (at count)) (map.get mid (at index)) (taken.gone index earlier)
        | inr last ↦
            let here : index ≡ count = omega arith in
            subst (λ (i : ℕ). map.get (map.remove mid (at count)) (at i) ≡ None) (sym here)
            (left (at count) ∙ ap (λ b. cond b None (map.get mid (at count))) (key_itself (at count)))
      ];
      kept = λ key apart.
          left key
          ∙ ap (λ b. cond b None (map.get mid key)) (differ key (at count) (apart count (omega arith)))
          ∙ taken.kept key (λ index less. apart index (omega arith));
    }

    pub one_taken : (key : ℕ) (new : map.FinMap nat_cmp T) → key ≡ at count → new ≡ map.remove mid key
        → AreTaken old at (count + 1) new
    one_taken key new here is = subst (AreTaken old at (count + 1)) (sym (is ∙ ap (map.remove mid) here)) one_left

  module _ (old new : map.FinMap nat_cmp T) where
    -- where each item that was there at a key would be gone, nothing is
    none_left : HasFewer old new → (key : ℕ) → (IsSome (map.get old key) → map.get new key ≡ None)
        → map.get new key ≡ None
    none_left fewer key gone = elim (fewer.each key) [
      | inl none ↦ none
      | inr same ↦ elim (map.get old key) as (λ (was : Option T). map.get old key ≡ was → map.get new key ≡ None) [
        | None ↦ λ was. same ∙ was
        | Some item ↦ λ was. gone (ap is_some was)
      ] refl
    ]

    pub row_cleared : (row : ℕ) (keys : List ℕ) (count : ℕ) → row < numbers → length keys ≤ count
        → AreKeysOnRow row old keys
        → AreTaken old (at_row row keys) count new → IsCleared Rows row old new
    row_cleared row keys count fits all listed taken = record {
      fewer = taken.fewer;
      gone = λ key small on. none_left taken.fewer key (λ some.
          let has = (listed.exactly key).1 (on, some) in
          let item : get_or keys has.0 0 ≡ key = sym (get_or_default_zero keys has.0 key has.1) ∙ has.2 in
          let line : line_in key ≡ row = on in
          let is : key_of row (across_in key) ≡ key = omega (arith, line) in
          subst (λ (k : ℕ). map.get new k ≡ None) (ap (λ (k : ℕ). key_of row (across_in k)) item ∙ is)
          (taken.gone has.0 (omega (arith, has.1, all))));
      kept = λ key off. taken.kept key (λ index less same.
          off (ap line_in same ∙ line-key row (across_in (get_or keys index 0)) (omega arith)));
    }

    pub column_cleared : {M : Type 0} (marks : map.FinMap nat_cmp M) (are : HasMarks old marks) (column first last : ℕ)
        (keys : List ℕ) (count : ℕ)
        → column < numbers → first ≡ key_of column 0 → last ≡ key_of column 4294967295
        → length keys ≤ count → AreKeysWithin first last marks keys
        → AreTaken old (at_column column keys) count new → IsCleared Columns column old new
    column_cleared marks are column first last keys count fits first_is last_is all within taken = record {
      fewer = taken.fewer;
      gone = λ key small on. none_left taken.fewer key (λ some.
          let line : across_in key ≡ column = on in
          let row_fits : line_in key < numbers = omega (arith, small) in
          let is : key_of (line_in key) column ≡ key = omega (arith, line) in
          let mark =
          are.each (line_in key) column row_fits fits (subst (λ (k : ℕ). IsSome (map.get old k)) (sym is) some) in
          let has = (within.exactly (key_of column (line_in key))).1
          (omega (arith, first_is), omega (arith, last_is, row_fits), mark) in
          let item : get_or keys has.0 0 ≡ key_of column (line_in key) =
          sym (get_or_default_zero keys has.0 (key_of column (line_in key)) has.1) ∙ has.2 in
          let row : across_in (get_or keys has.0 0) ≡ line_in key = ap across_in item
          ∙ across-key column (line_in key) row_fits in
          subst (λ (k : ℕ). map.get new k ≡ None) (ap (λ (n : ℕ). key_of n column) row ∙ is)
          (taken.gone has.0 (omega (arith, has.1, all))));
      kept = λ key off. taken.kept key (λ index less same.
          off (ap across_in same ∙ across-key (across_in (get_or keys index 0)) column fits));
    }

  -- the lines so far, and one more
  pub no_lines : (axis : Axis) (order : LineOrder) (first : ℕ) (old : map.FinMap nat_cmp T)
      → AreCleared axis order first first old old
  no_lines axis order first old = record {
    fewer = none_fewer old;
    gone = λ line key low high small on. absurd (omega arith);
    kept = λ key off. refl;
  }

  pub line_more : (axis : Axis) (order : LineOrder) (first line number : ℕ) (old mid new : map.FinMap nat_cmp T)
      → first ≤ line → number ≡ number_of order line
      → AreCleared axis order first line old mid → IsCleared axis number mid new
      → AreCleared axis order first (line + 1) old new
  line_more axis order first line number old mid new low is are cleared = record {
    fewer = record {
      each = λ key. elim (cleared.fewer.each key) [
        | inl none ↦ inl none
        | inr same ↦ elim (are.fewer.each key) [
          | inl none ↦ inl (same ∙ none)
          | inr before ↦ inr (same ∙ before)
        ]
      ];
      count = omega (arith, are.fewer.count, cleared.fewer.count);
    };
    gone = λ other key from high small on. elim (cases_lt other line) [
      | inl earlier ↦
          let none = are.gone other key from earlier small on in
          elim (cleared.fewer.each key) [
            | inl gone ↦ gone
            | inr same ↦ same ∙ none
          ]
      | inr last ↦
          let here : other ≡ line = omega arith in
          cleared.gone key small (on ∙ ap (number_of order) here ∙ sym is)
    ];
    kept = λ key off.
        cleared.kept key (λ on. off line low (omega arith) (on ∙ is))
        ∙ are.kept key (λ other from high. off other from (omega arith));
  }

module _ {T : Type 0} (items : map.FinMap nat_cmp T) (key : ℕ) where
  -- an item taken is one less
  pub one_less : IsSome (map.get items key) → map.len (map.remove items key) + 1 ≡ map.len items
  one_less some =
      let less : map.len (map.remove items key) ≡ map.len items - 1 =
      map.len-remove nat_cmp_total items key ∙ ap (λ b. cond b (map.len items - 1) (map.len items)) some in
      let several : map.len items ≢ 0 = λ zero. false≢true (ap is_some
      (sym (map.get-empty nat_cmp key) ∙ ap (λ m. map.get m key) (sym (map.empty_of_len items zero))) ∙ some) in
      elim (cases_lt 0 (map.len items)) [
        | inl positive ↦ omega (arith, less, positive)
        | inr none ↦ absurd (several (omega (arith, none)))
      ]

  pub none_less : map.get items key ≡ None → map.len (map.remove items key) ≡ map.len items
  none_less none = map.len-remove nat_cmp_total items key
      ∙ ap (λ b. cond b (map.len items - 1) (map.len items)) (ap is_some none)

-- where all lines are deleted, no item is left
pub all_cleared : {T : Type 0} (axis : Axis) (order : LineOrder) (first end : ℕ) (old new : map.FinMap nat_cmp T)
    → AreOnAxis axis order old → first ≡ 0 → end ≡ order.count → new ≡ map.empty
    → AreCleared axis order first end old new
all_cleared {T} axis order first end old new are low high is = record {
  fewer = record {
    each = λ key. inl (none key);
    count = omega (arith, ap map.len is ∙ map.len-empty nat_cmp T);
  };
  gone = λ line key _ _ _ _. none key;
  kept = λ key off.
      elim (map.get old key) as (λ (was : Option T). map.get old key ≡ was → map.get new key ≡ map.get old key) [
        | None ↦ λ was. none key ∙ sym was
        | Some item ↦ λ was.
            let on = are.each key (ap is_some was) in
            absurd (off on.line (omega (arith, low)) (omega (arith, high, on.there)) on.is)
      ] refl;
}
  where
    none : (key : ℕ) → map.get new key ≡ None
    none key = ap (λ m. map.get m key) is ∙ map.get-empty nat_cmp key

-- the deleted lines are of the axis
pub deleted_within : (change : Change) (count : ℕ) → Fits change count
    → ((deleted change).0 ≤ (deleted change).1) × ((deleted change).1 ≤ count)
deleted_within (Insert at inserted) count fits = (omega arith, omega arith)
deleted_within (Delete start end) count fits = (omega (arith, fits.0), fits.1)
deleted_within (Move start end to) count fits = (omega arith, omega arith)
