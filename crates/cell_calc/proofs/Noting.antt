-- What is noted of the cells of an area.
use Rattle.std.proofs.Common.{◌≡◌, ◌≢◌, ℕ, ◌+◌, ◌<◌, true, List, [], ◌∷◌, ◌++◌, length, map, take, get_or, Contains, Option, refl, sym, subst, ◌∙◌, inl, inr}
use Rattle.std.specs.List.{list_all}
use Rattle.std.proofs.lemmas.List.Elements.{Contains-get_or, Contains-push_cases}
use Rattle.std.proofs.lemmas.Bool.{and_parts}
use Rattle.cell_value.specs.Elements.{nothing_in, Contains-cons_cases, Contains-map}
use Rattle.grid_range.specs.declared.area.Area.{Area}
use Rattle.cell_calc.specs.declared.cells.StoredCell.{StoredCell}
use Rattle.cell_calc.specs.declared.mark.Mark.{Mark}
use Rattle.cell_calc.specs.Book.{Place}
use Rattle.cell_calc.specs.Contents.{Contents, cell_place}
use Rattle.cell_calc.specs.Walk.{LooksAt, Notes, AreSettled, IsAreaSettled, AreAreasSettled, is_settled}
use Rattle.cell_calc.proofs.Calculating.{one_more_cases}

not_empty : {A : Type 0} → (xs : List A) (x : A) → xs ++ x ∷ [] ≢ []
not_empty [] x is = let never : ⊥ = cc in never
not_empty (y ∷ xs) x is = let never : ⊥ = cc in never

module _ (marks : Place → Option Mark) (sheet : ℕ) (cells : List StoredCell) where
  pub no_cell_seen : (noted : List (ℕ × ℕ × ℕ)) → noted ≡ [] → Notes marks sheet cells [] noted
  no_cell_seen noted none = record {
    settled = λ empty cell has. absurd (nothing_in cell has);
    among = λ key has. absurd (nothing_in key (subst (λ l. Contains l key) none has));
  }

  module _ (count : ℕ) (cell d : StoredCell) (within : count < length cells) (is : cell ≡ get_or cells count d) where
    abbrev key : ℕ × ℕ × ℕ
    key = (sheet, cell.row, cell.column)

    pub one_more_seen : (noted next : List (ℕ × ℕ × ℕ)) → Notes marks sheet cells (take count cells) noted
        → LooksAt marks sheet cell noted next → Notes marks sheet cells (take (count + 1) cells) next
    one_more_seen noted next so_far looks = record {
      settled = λ empty. elim looks [
        | inl (settled, same) ↦ all_settled (sym same ∙ empty) settled
        | inr more ↦ elim more [
          | inl longer ↦ absurd (not_empty noted key (sym longer ∙ empty))
          | inr (some, same) ↦ absurd (some empty)
        ]
      ];
      among = elim looks [
        | inl (settled, same) ↦ λ k has. so_far.among k (subst (λ l. Contains l k) same has)
        | inr more ↦ elim more [
          | inl longer ↦ λ k has. elim (Contains-push_cases noted key k (subst (λ l. Contains l k) longer has)) [
            | inl earlier ↦ so_far.among k earlier
            | inr last ↦
                subst (λ q. (q.0 ≡ sheet) × Contains (map cell_place cells) (q.1, q.2)) last (
                  refl,
                  Contains-map cell_place cells cell
                      (subst (Contains cells) (sym is) (Contains-get_or cells count d within)),
                )
          ]
          | inr (some, same) ↦ λ k has. so_far.among k (subst (λ l. Contains l k) same has)
        ]
      ];
    }
      where
        all_settled : noted ≡ [] → is_settled marks sheet cell ≡ true → AreSettled marks sheet (take (count + 1) cells)
        all_settled empty settled other has = elim (one_more_cases cells count cell d other within is has) [
          | inl earlier ↦ so_far.settled empty other earlier
          | inr same ↦ subst (λ c. is_settled marks sheet c ≡ true) same settled
        ]

-- no area, and one area more
pub no_area_settled : (contents : Contents) (marks : Place → Option Mark) → AreAreasSettled contents marks []
no_area_settled contents marks area has = absurd (nothing_in area has)

pub one_more_settled : (contents : Contents) (marks : Place → Option Mark) (areas : List Area) (count : ℕ) (d : Area)
    → count < length areas → AreAreasSettled contents marks (take count areas)
    → IsAreaSettled contents marks (get_or areas count d) → AreAreasSettled contents marks (take (count + 1) areas)
one_more_settled contents marks areas count d within so_far is area has =
    elim (one_more_cases areas count (get_or areas count d) d area within refl has) [
      | inl earlier ↦ so_far area earlier
      | inr same ↦ subst (IsAreaSettled contents marks) same is
    ]

-- where a test finds each cell settled
pub settled_each : (marks : Place → Option Mark) (sheet : ℕ) (cells : List StoredCell)
    → list_all (is_settled marks sheet) cells ≡ true → AreSettled marks sheet cells
settled_each marks sheet [] is cell has = absurd (nothing_in cell has)
settled_each marks sheet (first ∷ later) is cell has =
    let (here, there) = and_parts (is_settled marks sheet first) (list_all (is_settled marks sheet) later) is in
    elim (Contains-cons_cases first cell later has) [
      | inl same ↦ subst (λ c. is_settled marks sheet c ≡ true) same here
      | inr among ↦ settled_each marks sheet later there cell among
    ]
