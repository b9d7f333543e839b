use Rattle.std.proofs.Common.{rules, tests, ◌≡◌, ◌↔◌, ℕ, ◌<◌, Bool, true, false, List, length, get_or, refl, sym, subst, arith}
use Rattle.std.specs.Prelude.{IsTrue, MatchBool}
use Rattle.std.specs.List.{AllWithin, Contains, HoldsAt}
use Rattle.std.proofs.lemmas.Bool.{false≢true}
use Rattle.std.proofs.lemmas.Iterator.{YieldsList-from_slice, cases_from_any}
use Rattle.std.proofs.lemmas.List.Elements.{Contains-get_or}
use Rattle.grid_range.specs.Area.{Holds}
use Rattle.protection.specs.declared.range.Protection.{Protection}
use Rattle.protection.specs.Denial.{DeniesOne, IsOutside, ListedCells}
use Rattle.protection.specs.Editors.{may_edit}
use Rattle.protection.proofs.indexed.Indexed.denies_listed.Goals as goal

-- its area holds the cell, and none of its unprotected ranges has it
abbrev Closes : Protection → ℕ × ℕ → Type 0
Closes one cell = Holds one.area cell.0 cell.1 × IsOutside one.area.sheet cell.0 cell.1 one.unprotected

module _ (user owner : List ℕ) (sheet : ℕ) (one : Protection) (cells : List (ℕ × ℕ)) (on : one.area.sheet ≡ sheet)
    (off : may_edit user owner one ≡ false) where
  denied_at : (cell : ℕ × ℕ) → Contains cells cell → Closes one cell
      → DeniesOne user owner (ListedCells sheet cells) one
  denied_at (row, col) listed (held, outside) = record {
    sheet = sheet;
    row = row;
    col = col;
    is = (refl, listed);
    denied = record {
      kept_off = off;
      covered = (on, held);
      not_opened = subst (λ (n : ℕ). IsOutside n row col one.unprotected) on outside;
    };
  }

  closed_by : (denies : DeniesOne user owner (ListedCells sheet cells) one) → Closes one (denies.row, denies.col)
  closed_by denies = (
    denies.denied.covered.1,
    subst (λ (n : ℕ). IsOutside n denies.row denies.col one.unprotected) (sym denies.denied.covered.0)
        denies.denied.not_opened,
  )

  denies_one : (told : Bool)
      → MatchBool told ((k : ℕ) × (k < length cells) × HoldsAt (Closes one) cells k)
      (AllWithin (λ cell. ¬ (Closes one cell)) cells 0 (length cells))
      → IsTrue told ↔ DeniesOne user owner (ListedCells sheet cells) one
  denies_one true (k, below, closes) = (
    λ yes. denied_at (get_or cells k (0, 0)) (Contains-get_or cells k (0, 0) below) (closes (0, 0)),
    λ denies. refl,
  )
  denies_one false none = (
    λ yes. absurd (false≢true yes),
    λ denies.
        let (k, below, at) = denies.is.1 in
        absurd (none k (denies.row, denies.col) (omega arith) below
        (subst (Closes one) (sym at) (closed_by denies))),
  )

pub returns : goal.returns
returns c =
    let on : c.self.inside.protection.area.sheet ≡ c.args.sheet = cc in
    let off : may_edit c.args.user.now c.args.owner.now c.self.inside.protection ≡ false = cc in
    subst
    (λ (one : Protection). IsTrue c.any.result
    ↔ DeniesOne c.args.user.now c.args.owner.now (ListedCells c.args.sheet c.args.cells.now) one)
    c.self.view_is
    (denies_one c.args.user.now c.args.owner.now c.args.sheet c.self.inside.protection c.args.cells.now on off
    c.any.result
    (cases_from_any _ _ c.any.result (Closes c.self.inside.protection)
    (λ cell. ¬ (Closes c.self.inside.protection cell))
    c.any.ensures.ran (YieldsList-from_slice _ c.iter.ensures.rest) (λ x q k. search (rules, tests))
    (λ x q k. search (rules, tests))))
