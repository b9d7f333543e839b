-- From marks to the values that a table tells.
use Rattle.std.proofs.Common.{◌≡◌, ◌⊎◌, ℕ, suc, ◌+◌, ◌<◌, List, [], ◌∷◌, ◌++◌, length, map, take, get_or, Contains, Option, Some, None, unwrap_or, Result, refl, ap, sym, subst, ◌∙◌, inl, inr, arith}
use Rattle.std.specs.Prelude.{IsSomeAnd}
use Rattle.std.specs.Option.{IsSome}
use Rattle.std.specs.Result.{OnOk}
use Rattle.std.proofs.Math.Seq.{take-suc}
use Rattle.std.proofs.lemmas.List.Elements.{Contains-append_cases}
use Rattle.std.proofs.lemmas.Result.{on_ok_weaker}
use Rattle.cell_value.specs.declared.cell.Kind.TheVariants as kind
use Rattle.cell_value.specs.declared.cell.Value.{Value}
use Rattle.cell_value.specs.declared.cell.Value.TheVariants.{Blank, Error}
use Rattle.cell_value.specs.Elements.{nothing_in, Contains-head, Contains-cons_cases, Contains-map, Contains-map_from}
use Rattle.grid_range.specs.declared.area.Area.{Area}
use Rattle.cell_calc.specs.declared.cells.StoredCell.{StoredCell}
use Rattle.cell_calc.specs.declared.mark.Mark.{Mark}
use Rattle.cell_calc.specs.declared.mark.Mark.TheVariants.{Open, Endless, Known}
use Rattle.cell_calc.specs.Book.{Book, Place, HoldsPlace}
use Rattle.cell_calc.specs.Contents.{Contents, AreOf, AreSound, AreStoredCells, IsStoredFormula, cell_place}
use Rattle.cell_calc.specs.CellValue.{HasValue}
use Rattle.cell_calc.specs.declared.table.Table.{Table}
use Rattle.cell_calc.specs.Marks.{keyed_place, marks_of, value_told}
use Rattle.cell_calc.specs.Walk.{HeldBy, Holds, Goes}
use Rattle.cell_calc.specs.Calculated.{IsValueIn, AreValues, AreAllValues, IsTableOf, Calculates, SettlesAll, Calculated, whole_sheet}
use Rattle.cell_calc.proofs.Endless.{counts_are_bounds}
use Rattle.cell_calc.proofs.Steps.{told_is_value, told_of_formula}
use Rattle.cell_calc.proofs.Going.{goes_nowhere, goes_on, formula_is_some}

plus_one : (n : ℕ) → n + 1 ≡ suc n
plus_one n = omega arith

-- what has one more element has those before and that one
pub one_more_cases : {A : Type 0} → (xs : List A) (count : ℕ) (x d y : A) → count < length xs → x ≡ get_or xs count d
    → Contains (take (count + 1) xs) y → Contains (take count xs) y ⊎ (x ≡ y)
one_more_cases xs count x d y within is has =
    let more : take (count + 1) xs ≡ take count xs ++ x ∷ [] =
    ap (λ n. take n xs) (plus_one count) ∙ take-suc xs count d within ∙ ap (λ z. take count xs ++ z ∷ []) (sym is) in
    elim (Contains-append_cases (take count xs) (x ∷ []) y (subst (λ l. Contains l y) more has)) [
      | inl before ↦ inl before
      | inr last ↦ elim (Contains-cons_cases x y [] last) [
        | inl same ↦ inr same
        | inr never ↦ absurd (nothing_in y never)
      ]
    ]

sized : {A : Type 0} → (P : A → Type 0) (size : Option A) → IsSomeAnd size P → IsSome size
sized P None has = absurd has
sized P (Some size) has = refl

module _ (contents : Contents) where
  pub nothing_known : (marks : Place → Option Mark) → ((place : Place) → marks place ≡ None)
      → Calculated contents [] marks
  nothing_known marks none = record {
    right = λ book are. record {
      depth = 0;
      formulas = λ place some. let no = none place in let never : ⊥ = cc in absurd never;
      known = λ place value is. let no = none place in let never : ⊥ = cc in absurd never;
      endless = λ place is. let no = none place in let never : ⊥ = cc in absurd never;
      opened = λ place is. let no = none place in let never : ⊥ = cc in absurd never;
      linked = tt;
      waits = tt;
    };
    all = λ place held. absurd (nothing_in held.0 held.1);
  }

  pub one_more_cell : (sheet : ℕ) (cells : List StoredCell) (count : ℕ) (cell d : StoredCell) → count < length cells
      → cell ≡ get_or cells count d → (before middle after : Place → Option Mark)
      → SettlesAll contents sheet (take count cells) before middle → Goes contents middle [] after []
      → (IsStoredFormula (Some cell.content.now) → IsSome (after (keyed_place (sheet, cell.row, cell.column))))
      → SettlesAll contents sheet (take (count + 1) cells) before after
  one_more_cell sheet cells count cell d within is before middle after settles goes met = record {
    goes = goes_on contents before [] middle [] after [] settles.goes goes;
    all = λ other has formed. elim (one_more_cases cells count cell d other within is has) [
      | inl earlier ↦ goes.stay (keyed_place (sheet, other.row, other.column)) (settles.all other earlier formed)
      | inr same ↦ subst (λ c. IsSome (after (keyed_place (sheet, c.row, c.column)))) same
          (met (subst (λ c. IsStoredFormula (Some c.content.now)) (sym same) formed))
    ];
  }

  pub no_cell : (sheet : ℕ) (marks : Place → Option Mark) → SettlesAll contents sheet [] marks marks
  no_cell sheet marks = record {
    goes = goes_nowhere contents marks [];
    all = λ cell has. absurd (nothing_in cell has);
  }

  pub all_of_area : (area : Area) (cells : List StoredCell) → AreStoredCells contents area cells
      → (before after : Place → Option Mark) → SettlesAll contents area.sheet cells before after
      → Calculates contents area before after
  all_of_area area cells stored before after settles = record {
    goes = settles.goes;
    all = λ place holds formed.
        let at : keyed_place (area.sheet, place.row, place.column) ≡ place =
        ap (λ s. keyed_place (s, place.row, place.column)) holds.0 in
        let here = subst (λ p. IsStoredFormula (contents.content p)) (sym at) formed in
        let has = (stored.places.exactly place.row place.column).1
        (holds.1, formula_is_some (contents.content (keyed_place (area.sheet, place.row, place.column))) here) in
        let (cell, among, same) = Contains-map_from cell_place cells (place.row, place.column) has in
        let there : keyed_place (area.sheet, cell.row, cell.column)
        ≡ keyed_place (area.sheet, place.row, place.column) =
        ap (λ c. keyed_place (area.sheet, c.0, c.1)) same in
        let formula = subst IsStoredFormula (sym (ap contents.content there) ∙ stored.content cell among) here in
        subst (λ p. IsSome (after p)) (there ∙ at) (settles.all cell among formula);
  }

  pub one_more_area : (areas : List Area) (count : ℕ) (area d : Area) → count < length areas → area
      ≡ get_or areas count d
      → (before after : Place → Option Mark) → Calculated contents (take count areas) before
      → Calculates contents area before after → Calculated contents (take (count + 1) areas) after
  one_more_area areas count area d within is before after was calculates = record {
    right = λ book are. calculates.goes.right book are (was.right book are);
    all = λ place held formed. elim (one_more_cases areas count area d held.0 within is held.1) [
      | inl earlier ↦ calculates.goes.stay place (was.all place (held.0, earlier, held.2) formed)
      | inr same ↦ calculates.all place (subst (λ a. HoldsPlace a place) (sym same) held.2) formed
    ];
  }

  module _ (areas : List Area) (marks : Place → Option Mark) (calculated : Calculated contents areas marks) where
    other_value : (book : Book) → AreOf contents book → (place : Place) (value : Value)
        → value_told (marks place) ≡ Some value → HasValue book place value
    other_value book are place value is =
        counts_are_bounds book place value
        (told_is_value contents book are marks (calculated.right book are) place value is)

    some_told : (book : Book) → AreOf contents book → (place : Place) (mark : Option Mark) → marks place ≡ mark
        → IsSome mark
        → HasValue book place (unwrap_or (value_told mark) Blank)
    some_told book are place None is some = let no : ⊥ = cc in absurd no
    some_told book are place (Some Open) is some = absurd ((calculated.right book are).opened place is)
    some_told book are place (Some Endless) is some = other_value book are place (Error kind.Ref) (ap value_told is)
    some_told book are place (Some (Known value)) is some = other_value book are place value (ap value_told is)

    pub are_values : AreValues contents areas (λ place. value_told (marks place))
    are_values = record {
      formulas = λ place formed held book are.
          some_told book are place (marks place) refl (calculated.all place held formed);
      others = λ place value is book are. other_value book are place value is;
      only = λ place some book are. told_of_formula contents book are marks [] (calculated.right book are) place some;
    }

  -- one area more, whatever areas were calculated before
  pub one_area : (area : Area) (before after : Place → Option Mark)
      → ((book : Book) → AreOf contents book → Holds book before []) → Calculates contents area before after
      → Calculated contents (area ∷ []) after
  one_area area before after was calculates = record {
    right = λ book are. calculates.goes.right book are (was book are);
    all = λ place held formed. elim (Contains-cons_cases area held.0 [] held.1) [
      | inl same ↦ calculates.all place (subst (λ a. HoldsPlace a place) (sym same) held.2) formed
      | inr never ↦ absurd (nothing_in held.0 never)
    ];
  }

  module _ (area : Area) (areas : List Area) (before after : Place → Option Mark)
      (was : (book : Book) → AreOf contents book → Holds book before [])
      (calculates : Calculates contents area before after)
      (values : AreValues contents areas (λ place. value_told (before place))) where
    calculated : Calculated contents (area ∷ []) after
    calculated = one_area area before after was calculates

    nothing_before : (place : Place) → after place ≡ None → before place ≡ None
    nothing_before place is = none_before (before place) (calculates.goes.stay place) refl
      where
        none_before : (mark : Option Mark) → (IsSome mark → IsSome (after place)) → before place ≡ mark
            → before place ≡ None
        none_before None stays at = at
        none_before (Some mark) stays at = let some = stays refl in let never : ⊥ = cc in absurd never

    value_kept : (place : Place) → IsStoredFormula (contents.content place) → HeldBy areas place → (mark : Option Mark)
        → after place ≡ mark → IsValueIn contents place (unwrap_or (value_told mark) Blank)
    value_kept place formed held None is =
        subst (λ mark. IsValueIn contents place (unwrap_or (value_told mark) Blank)) (nothing_before place is)
        (values.formulas place formed held)
    value_kept place formed held (Some mark) is = λ book are.
        some_told (area ∷ []) after calculated book are place (Some mark) is refl

    -- the values of areas that were calculated before stay
    pub one_area_more : AreValues contents (area ∷ areas) (λ place. value_told (after place))
    one_area_more = record {
      formulas = λ place formed held. elim (Contains-cons_cases area held.0 areas held.1) [
        | inl same ↦
            (are_values (area ∷ []) after calculated).formulas place formed
            (area, Contains-head area [], subst (λ a. HoldsPlace a place) (sym same) held.2)
        | inr earlier ↦ value_kept place formed (held.0, earlier, held.2) (after place) refl
      ];
      others = (are_values (area ∷ []) after calculated).others;
      only = (are_values (area ∷ []) after calculated).only;
    }

  module _ {T E : Type 0} (area : Area) (before after : Table) (was : IsTableOf contents before) (r : Result T E)
      (calculates : OnOk r (Calculates contents area (marks_of before) (marks_of after))) where
    -- a table of the spreadsheet comes to another that has the area's values
    pub table_after : OnOk r (IsTableOf contents after)
    table_after =
        on_ok_weaker r
        (λ found. record { right = λ book are. found.goes.right book are (was.right book are) }) calculates

    pub values_after : OnOk r (AreValues contents (area ∷ []) (λ place. value_told (marks_of after place)))
    values_after =
        on_ok_weaker r
        (λ found. are_values (area ∷ []) (marks_of after)
        (one_area area (marks_of before) (marks_of after) was.right found))
        calculates

  pub are_all_values : AreSound contents → (known : Place → Option Value)
      → AreValues contents (map whole_sheet contents.sheets) known → AreAllValues contents known
  are_all_values sound known values = record {
    formulas = λ place formed.
        let within = sound.inside place (formula_is_some (contents.content place) formed) in
        let has = (sound.sized place.sheet).0 (sized _ (contents.size place.sheet) within) in
        values.formulas place formed
        (whole_sheet place.sheet, Contains-map whole_sheet contents.sheets place.sheet has, (refl, (tt, tt)));
    others = values.others;
    only = values.only;
  }
