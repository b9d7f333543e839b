-- The reference at the front of a text.
use Rattle.a1_notation.specs.Laws.{A1Laws}
use Rattle.std.proofs.Common.{◌≡◌, ℕ, ◌+◌, ◌<◌, ◌≤◌, List, ◌∷◌, ◌++◌, length, refl, sym, ap, ◌∙◌, arith, inl, inr, subst, append_assoc}
use Rattle.std.specs.Prelude.{◌⊎◌, ◌≢◌, Some, None}
use Rattle.std.proofs.lemmas.List.{length-append}
use Rattle.grid_range.specs.declared.band.Band.{Band}
use Rattle.ref_rewrite.specs.declared.reference.Marks.{Marks}
use Rattle.a1_notation.specs.Room.{HasRoom}
use Rattle.formula_reader.specs.declared.tokens.corner.Coordinate.{Coordinate}
use Rattle.formula_reader.specs.declared.tokens.corner.MarkedCorner.{MarkedCorner}
use Rattle.formula_reader.specs.declared.tokens.corner.MarkedCorner.TheVariants.{Cell, Column, Row}
use Rattle.formula_reader.specs.declared.tokens.token.MarkedArea.{MarkedArea}
use Rattle.formula_reader.specs.Corner.{IsMarkedCorner, unmarked, AreCornersOf, IsCellOf}
use Rattle.formula_reader.specs.Reference.{IsStandingPart, IsPart, IsReference}
use Rattle.formula_reader.specs.Parts.{IsStandingCorner, IsSecondOf}
use Rattle.formula_reader.specs.Reading.{Stands, Reads}
use Rattle.formula_reader.proofs.Read.{one_read, none_read, same_pair}

-- each line of a corner has a next one
pub corner_room : A1Laws → (text : List ℕ) (corner : MarkedCorner) → IsMarkedCorner text corner
    → HasRoom (unmarked corner)
corner_room a1 text (Cell row column) is = (
  omega (arith, a1.small_rows is.row_is.name row.line is.row_is.name_is),
  omega (arith, a1.small_columns is.column_is.name column.line is.column_is.name_is),
)
corner_room a1 text (Column column) is = omega (arith, a1.small_columns is.name column.line is.name_is)
corner_room a1 text (Row row) is = omega (arith, a1.small_rows is.name row.line is.name_is)

-- corners name one thing, and so does a cell
made : Band → Band → Marks → MarkedArea
made rows cols marks = record { rows = rows; cols = cols; marks = marks }

same_written : (w w' : MarkedArea) → w.rows ≡ w'.rows → w.cols ≡ w'.cols → w.marks ≡ w'.marks → w ≡ w'
unfolding made
same_written w w' a b c =
    let e : made w.rows w.cols w.marks ≡ made w'.rows w'.cols w'.marks = rw (a, b, c) refl in e

pub one_named : (one other : MarkedCorner) (w w' : MarkedArea) → AreCornersOf one other w → AreCornersOf one other w'
    → w ≡ w'
one_named one other w w' a b =
    let area = same_pair (w.rows, w.cols) (w'.rows, w'.cols) (sym a.area ∙ b.area) in
    same_written w w' area.0 area.1 (a.marks ∙ sym b.marks)

pub one_cell : (row column : Coordinate) (w w' : MarkedArea) → IsCellOf row column w → IsCellOf row column w' → w ≡ w'
one_cell row column w w' a b =
    let area = same_pair (w.rows, w.cols) (w'.rows, w'.cols) (sym a.area ∙ b.area) in
    same_written w w' area.0 area.1 (a.marks ∙ sym b.marks)

-- the second corner
abbrev pub SecondParts : MarkedCorner → List ℕ → MarkedArea → List ℕ → Type 0
SecondParts one text w rest = (behind : List ℕ) × (other : MarkedCorner) × (text ≡ 58 ∷ behind)
    × Stands IsStandingCorner behind other rest × AreCornersOf one other w

pub second_parts : (one : MarkedCorner) (text : List ℕ) (w : MarkedArea) (rest : List ℕ)
    → Stands (IsSecondOf one) text w rest → SecondParts one text w rest
second_parts one text w rest stands = (
  stands.is.second ++ rest,
  stands.is.other,
  stands.spelled ∙ ap (λ t. t ++ rest) stands.is.spelled,
  record { lexeme = stands.is.second; spelled = refl; is = stands.is.other_is },
  stands.is.named,
)

pub no_colon : (one : MarkedCorner) (text : List ℕ) → ((rest : List ℕ) → text ≢ 58 ∷ rest)
    → Reads (IsSecondOf one) text None
no_colon one text none = record {
  found = tt;
  only = λ w rest stands. absurd (none (second_parts one text w rest stands).0 (second_parts one text w rest stands).2);
}

same_behind : (text behind other : List ℕ) → text ≡ 58 ∷ behind → text ≡ 58 ∷ other → behind ≡ other
same_behind text behind other e f = let both : 58 ∷ behind ≡ 58 ∷ other = sym e ∙ f in cc

pub no_second : (one : MarkedCorner) (text behind : List ℕ) → text ≡ 58 ∷ behind → Reads IsStandingCorner behind None
    → Reads (IsSecondOf one) text None
no_second one text behind e none = record {
  found = tt;
  only = λ w rest stands.
      let parts = second_parts one text w rest stands in
      let same = same_behind text parts.0 behind parts.2 e in
      absurd (none_read none (subst (λ (t : List ℕ). Stands IsStandingCorner t parts.1 rest) same parts.3));
}

-- the second corner that was read, and the rest
second_same : (one other : MarkedCorner) (text behind rest : List ℕ) → text ≡ 58 ∷ behind
    → Reads IsStandingCorner behind (Some (other, rest)) → (w : MarkedArea) (rest' : List ℕ)
    → Stands (IsSecondOf one) text w rest' → (rest ≡ rest') × AreCornersOf one other w
second_same one other text behind rest e reads w rest' stands =
    let parts = second_parts one text w rest' stands in
    let same = same_behind text parts.0 behind parts.2 e in
    let one_is = one_read reads (subst (λ (t : List ℕ). Stands IsStandingCorner t parts.1 rest') same parts.3) in
    (one_is.1, subst (λ (c : MarkedCorner). AreCornersOf one c w) (sym one_is.0) parts.4)

pub not_together : (one other : MarkedCorner) (text behind rest : List ℕ) → text ≡ 58 ∷ behind
    → Reads IsStandingCorner behind (Some (other, rest)) → ((w : MarkedArea) → ¬ (AreCornersOf one other w))
    → Reads (IsSecondOf one) text None
not_together one other text behind rest e reads none = record {
  found = tt;
  only = λ w rest' stands. absurd (none w (second_same one other text behind rest e reads w rest' stands).1);
}

pub together : (one other : MarkedCorner) (text behind rest : List ℕ) (w : MarkedArea) → text ≡ 58 ∷ behind
    → Reads IsStandingCorner behind (Some (other, rest)) → AreCornersOf one other w
    → Reads (IsSecondOf one) text (Some (w, rest))
together one other text behind rest w e reads named = record {
  found = record {
    lexeme = 58 ∷ reads.found.lexeme;
    spelled = e ∙ ap (λ t. 58 ∷ t) reads.found.spelled;
    is = record {
      second = reads.found.lexeme;
      other = other;
      spelled = refl;
      other_is = reads.found.is;
      named = named;
    };
  };
  only = λ w' rest' stands.
      let same = second_same one other text behind rest e reads w' rest' stands in
      let value = one_named one other w w' named same.1 in
      rw (value, same.0) refl;
}

-- a part is a cell, or a first corner and a second one
abbrev pub CellAt : List ℕ → MarkedArea → List ℕ → Type 0
CellAt text w rest = (row : Coordinate) × (column : Coordinate)
    × Stands IsStandingCorner text (Cell row column) rest × IsCellOf row column w

abbrev pub TwoAt : List ℕ → MarkedArea → List ℕ → Type 0
TwoAt text w rest = (one : MarkedCorner) × (behind : List ℕ)
    × Stands IsStandingCorner text one behind × Stands (IsSecondOf one) behind w rest

pub part_at : (text part : List ℕ) (w : MarkedArea) (rest : List ℕ) → text ≡ part ++ rest → IsPart part w
    → IsStandingPart part w rest → CellAt text w rest ⊎ TwoAt text w rest
part_at text part w rest e (inl cell) stands = inl (
  cell.row,
  cell.column,
  record { lexeme = part; spelled = e; is = record { corner_is = cell.cell; alone = stands.alone } },
  cell.named,
)
part_at text part w rest e (inr two) stands = inr (
  two.one,
  58 ∷ two.second ++ rest,
  record {
    lexeme = two.first;
    spelled = e ∙ ap (λ t. t ++ rest) two.spelled ∙ append_assoc two.first (58 ∷ two.second) rest;
    is = record { corner_is = two.one_is; alone = refl };
  },
  record {
    lexeme = 58 ∷ two.second;
    spelled = refl;
    is = record {
      second = two.second;
      other = two.other;
      spelled = refl;
      other_is = record { corner_is = two.other_is; alone = stands.alone };
      named = two.named;
    };
  },
)

-- the first corner that was read
module _ (text : List ℕ) (one : MarkedCorner) (behind : List ℕ)
    (first : Reads IsStandingCorner text (Some (one, behind))) where
  cell_same : (w : MarkedArea) (rest : List ℕ) → CellAt text w rest
      → (row : Coordinate) × (column : Coordinate) × (one ≡ Cell row column) × (behind ≡ rest) × IsCellOf row column w
  cell_same w rest at =
      let same = one_read first at.2 in
      (at.0, at.1, same.0, same.1, at.3)

  two_same : (w : MarkedArea) (rest : List ℕ) → TwoAt text w rest → Stands (IsSecondOf one) behind w rest
  two_same w rest at =
      let same = one_read first at.2 in
      let there = subst (λ (t : List ℕ). Stands (IsSecondOf at.0) t w rest) (sym same.1) at.3 in
      subst (λ (c : MarkedCorner). Stands (IsSecondOf c) behind w rest) (sym same.0) there

  length_of : length text ≡ length first.found.lexeme + length behind
  length_of = ap length first.found.spelled ∙ length-append first.found.lexeme behind

  -- two corners are read
  module _ (w : MarkedArea) (rest : List ℕ) (second : Reads (IsSecondOf one) behind (Some (w, rest))) where
    part : List ℕ
    part = first.found.lexeme ++ second.found.lexeme

    spelled : text ≡ first.found.lexeme ++ second.found.lexeme ++ rest
    spelled = first.found.spelled ∙ ap (λ t. first.found.lexeme ++ t) second.found.spelled
        ∙ sym (append_assoc first.found.lexeme second.found.lexeme rest)

    is_part : IsStandingPart (first.found.lexeme ++ second.found.lexeme) w rest
    is_part = record {
      part_is = inr (record {
        first = first.found.lexeme;
        second = second.found.is.second;
        spelled = ap (λ t. first.found.lexeme ++ t) second.found.is.spelled;
        one = one;
        other = second.found.is.other;
        one_is = first.found.is.corner_is;
        other_is = second.found.is.other_is.corner_is;
        named = second.found.is.named;
      });
      alone = second.found.is.other_is.alone;
    }

    -- the rest is shorter than what stands behind the first corner
    shorter : length rest < length behind
    shorter = omega (
      arith,
      ap length second.found.spelled,
      length-append second.found.lexeme rest,
      ap length second.found.is.spelled,
    )

    length_is : length text ≡ length (first.found.lexeme ++ second.found.lexeme) + length rest
    length_is = ap length spelled ∙ length-append (first.found.lexeme ++ second.found.lexeme) rest

    longest : (longer : List ℕ) (w' : MarkedArea) (rest' : List ℕ)
        → first.found.lexeme ++ second.found.lexeme ++ rest ≡ longer ++ rest' → IsStandingPart longer w' rest'
        → length longer ≤ length (first.found.lexeme ++ second.found.lexeme)
    longest longer w' rest' e stands =
        let there : text ≡ longer ++ rest' = spelled ∙ e in
        let long : length text ≡ length longer + length rest' = ap length there ∙ length-append longer rest' in
        elim (part_at text longer w' rest' there stands.part_is stands) [
          | inl cell ↦
              let same = cell_same w' rest' cell in
              omega (arith, length_is, long, shorter, ap length same.3)
          | inr two ↦
              let same = one_read second (two_same w' rest' two) in
              omega (arith, length_is, long, ap length same.1)
        ]

    pub two_corners : Reads IsReference text (Some (w, rest))
    two_corners = record {
      found = record {
        lexeme = first.found.lexeme ++ second.found.lexeme;
        spelled = spelled;
        is = record { stands = is_part; longest = longest };
      };
      only = λ w' rest' at.
          elim (part_at text at.lexeme w' rest' at.spelled at.is.stands.part_is at.is.stands) [
            | inl cell ↦
                let same = cell_same w' rest' cell in
                let most = at.is.longest (first.found.lexeme ++ second.found.lexeme) w rest
                (sym at.spelled ∙ spelled) is_part in
                let long : length text ≡ length at.lexeme + length rest' =
                ap length at.spelled ∙ length-append at.lexeme rest' in
                absurd (omega (arith, most, length_is, long, shorter, ap length same.3))
            | inr two ↦ second.only w' rest' (two_same w' rest' two)
          ];
    }

  -- without a second corner a cell is read
  pub no_part : Reads (IsSecondOf one) behind None → ((row column : Coordinate) → one ≢ Cell row column)
      → Reads IsReference text None
  no_part none no_cell = record {
    found = tt;
    only = λ w' rest' at.
        elim (part_at text at.lexeme w' rest' at.spelled at.is.stands.part_is at.is.stands) [
          | inl cell ↦
              let same = cell_same w' rest' cell in
              absurd (no_cell same.0 same.1 same.2)
          | inr two ↦ absurd (none_read none (two_same w' rest' two))
        ];
  }

  pub one_cell_read : (row column : Coordinate) (w : MarkedArea) → one ≡ Cell row column
      → Reads (IsSecondOf one) behind None → IsCellOf row column w → Reads IsReference text (Some (w, behind))
  one_cell_read row column w is_cell none named =
      let corner_is = subst
      (λ (c : MarkedCorner). IsMarkedCorner first.found.lexeme c) is_cell first.found.is.corner_is in
      record {
        found = record {
          lexeme = first.found.lexeme;
          spelled = first.found.spelled;
          is = record {
            stands = record {
              part_is = inl (record { row = row; column = column; cell = corner_is; named = named });
              alone = first.found.is.alone;
            };
            longest = λ longer w' rest' e stands.
                let there : text ≡ longer ++ rest' = first.found.spelled ∙ e in
                let long : length text ≡ length longer + length rest' = ap length there ∙ length-append longer rest' in
                elim (part_at text longer w' rest' there stands.part_is stands) [
                  | inl cell ↦
                      let same = cell_same w' rest' cell in
                      omega (arith, length_of, long, ap length same.3)
                  | inr two ↦ absurd (none_read none (two_same w' rest' two))
                ];
          };
        };
        only = λ w' rest' at.
            elim (part_at text at.lexeme w' rest' at.spelled at.is.stands.part_is at.is.stands) [
              | inl cell ↦
                  let same = cell_same w' rest' cell in
                  let corners : Cell row column ≡ Cell same.0 same.1 = sym is_cell ∙ same.2 in
                  let row_is : row ≡ same.0 = cc in
                  let column_is : column ≡ same.1 = cc in
                  let value = one_cell row column w w' named (rw (row_is, column_is) same.4) in
                  rw (value, same.3) refl
              | inr two ↦ absurd (none_read none (two_same w' rest' two))
            ];
      }

pub no_first : (text : List ℕ) → Reads IsStandingCorner text None → Reads IsReference text None
no_first text none = record {
  found = tt;
  only = λ w rest at.
      elim (part_at text at.lexeme w rest at.spelled at.is.stands.part_is at.is.stands) [
        | inl cell ↦ absurd (none_read none cell.2)
        | inr two ↦ absurd (none_read none two.2)
      ];
}
