-- A text is one table, or has one row that is the first to break the form.
use Rattle.std.proofs.Common.{◌≡◌, ◌<◌, ◌+◌, ◌∙◌, ◌∷◌, [], ℕ, zero, suc, List}
use Rattle.std.proofs.Common.{add-one, ap, arith, false, inl, inr, subst, sym, take}
use Rattle.std.specs.List.{AllByRecursion, IsDistinct}
use Rattle.std.specs.Str.{bytes_eq}
use Rattle.std.proofs.lemmas.List.{take-map, take-take}
use Rattle.std.proofs.lemmas.List.Elements.{All-take}
use Rattle.csv.specs.Reading.{default_config, strip_bom}
use Rattle.csv.specs.declared.parser.State.TheVariants as state
use Rattle.users_file.specs.Laws.{BadIsNone, HasOneBadRow, HasOneTable}
use Rattle.users_file.specs.Table.{ArePairOfNames, HaveForm, IsBadRow, header, row_of, table_rows, tokens_of}
use Rattle.users_file.proofs.Records.{records_once}
use Rattle.users_file.proofs.Tables.{table_rows-once}

-- the first of those that differ from a token
apart-take : (text : List ℕ) (count : ℕ) (texts : List (List ℕ))
    → AllByRecursion (λ other. bytes_eq text other ≡ false) texts
    → AllByRecursion (λ other. bytes_eq text other ≡ false) (take count texts)
apart-take text zero texts apart = tt
apart-take text (suc count) [] apart = tt
apart-take text (suc count) (other ∷ others) apart = (apart.0, apart-take text count others apart.1)

-- the first of tokens that differ
differ-take : (count : ℕ) (texts : List (List ℕ)) → IsDistinct bytes_eq texts → IsDistinct bytes_eq (take count texts)
unfolding IsDistinct
differ-take zero texts differ = tt
differ-take (suc count) [] differ = tt
differ-take (suc count) (text ∷ texts) differ = (apart-take text count texts differ.0, differ-take count texts differ.1)

-- some first rows of a table are those of a table
form-take : (rows : List (List (List ℕ))) (count : ℕ) → HaveForm rows → HaveForm (take (count + 1) rows)
form-take rows count form =
    let pairs = form.0 in (
      take count pairs,
      ap (take (count + 1)) form.1
          ∙ rw (add-one count) (ap (λ rows. header ∷ rows) (take-map row_of count pairs)),
      record {
        names = All-take ArePairOfNames count pairs form.2.names;
        once = subst (IsDistinct bytes_eq) (take-map (λ pair. pair.0) count pairs)
            (differ-take count (tokens_of pairs) form.2.once);
      },
    )

pub one_table : HasOneTable
one_table = λ bytes pairs others is too.
    table_rows-once pairs others
    (records_once default_config state.StartRecord (strip_bom bytes) (table_rows pairs) (table_rows others) is.rows
    too.rows)

pub bad_is_none : BadIsNone
bad_is_none = λ bytes pairs row is bad.
    let rows : table_rows pairs ≡ bad.0 =
    records_once default_config state.StartRecord (strip_bom bytes) (table_rows pairs) bad.0 is.rows bad.1 in
    bad.2.broken (form-take bad.0 row (pairs, sym rows, is.users))

-- a row before the first bad one isn't bad
not_before : (rows : List (List (List ℕ))) (row other : ℕ) → IsBadRow rows row → IsBadRow rows other → row < other → ⊥
not_before rows row other bad too before = elim too.before [
  | inl first ↦ omega (arith, first, before)
  | inr form ↦
      bad.broken
      (subst HaveForm (take-take (row + 1) other rows (omega arith)) (form-take (take other rows) row form))
]

-- two numbers of which none is below the other
neither : (row other : ℕ) → (row < other → ⊥) → (other < row → ⊥) → row ≡ other
neither row other later earlier = omega (arith, later, earlier)

pub one_bad_row : HasOneBadRow
one_bad_row = λ bytes row other bad too.
    let rows : bad.0 ≡ too.0 =
    records_once default_config state.StartRecord (strip_bom bytes) bad.0 too.0 bad.1 too.1 in
    let same : IsBadRow too.0 row = subst (λ all. IsBadRow all row) rows bad.2 in
    neither row other (not_before too.0 row other same too.2) (not_before too.0 other row too.2 same)
