-- Two lists that have the same cells, each once, are equally long.
use Rattle.std.proofs.Common.{◌≡◌, ℕ, ◌≤◌, List, length, Bool, refl, sym, ap, ◌∙◌, arith}
use Rattle.std.specs.Prelude.{Contains, ◌≢◌, ◌==◌, ◌&&◌}
use Rattle.std.specs.Bool.{Decides}
use Rattle.std.specs.Cmp.{IsEquivalence}
use Rattle.std.specs.List.{AllPairs}
use Rattle.std.proofs.lemmas.Bool.{and_parts, eqb-true, eq-eqb}
use Rattle.std.proofs.lemmas.Bool.Decides.{same_from_decides}
use Rattle.std.proofs.lemmas.Map.Made.{IsDistinct-from_AllPairs, is_member-Decides, length-le_from_is_member}
use Rattle.values_api.proofs.Listed.{both_true}

abbrev is_cell : ℕ × ℕ → ℕ × ℕ → Bool
is_cell one other = one.0 == other.0 && one.1 == other.1

is_cell_tells : (one other : ℕ × ℕ) → Decides (is_cell one other) (one ≡ other)
is_cell_tells one other = (
  (λ is.
      let parts = and_parts (one.0 == other.0) (one.1 == other.1) is in
      ap (λ n. (n, one.1)) (eqb-true one.0 other.0 parts.0) ∙ ap (λ n. (other.0, n)) (eqb-true one.1 other.1 parts.1)),
  (λ same.
      both_true (one.0 == other.0) (one.1 == other.1) (eq-eqb one.0 other.0 (ap (λ (p : ℕ × ℕ). p.0) same))
      (eq-eqb one.1 other.1 (ap (λ (p : ℕ × ℕ). p.1) same))),
)

is_cell_laws : IsEquivalence is_cell
is_cell_laws = record {
  refl = λ cell. (is_cell_tells cell cell).1 refl;
  symm = λ one other.
      same_from_decides (is_cell one other) (is_cell other one) (is_cell_tells one other)
      ((λ is. sym ((is_cell_tells other one).0 is)), (λ same. (is_cell_tells other one).1 (sym same)));
  congr = λ one other third is. ap (λ cell. is_cell cell third) ((is_cell_tells one other).0 is);
}

not_longer : (one other : List (ℕ × ℕ)) → AllPairs (λ cell next. cell ≢ next) one
    → ((cell : ℕ × ℕ) → Contains one cell → Contains other cell) → length one ≤ length other
not_longer one other once all =
    length-le_from_is_member is_cell_laws one other (IsDistinct-from_AllPairs is_cell_tells one once)
    (λ cell is.
    let has = (is_member-Decides is_cell_tells one cell).0 is in
    (is_member-Decides is_cell_tells other cell).1 (all cell has))

pub same_length : (one other : List (ℕ × ℕ)) → AllPairs (λ cell next. cell ≢ next) one
    → AllPairs (λ cell next. cell ≢ next) other → ((cell : ℕ × ℕ) → Contains one cell → Contains other cell)
    → ((cell : ℕ × ℕ) → Contains other cell → Contains one cell) → length one ≡ length other
same_length one other once once' all all' =
    let less = not_longer one other once all in
    let more = not_longer other one once' all' in
    omega (arith, less, more)
