-- What the first rows of a text tell of the table that it is.
use Rattle.std.proofs.Common.{◌≡◌, ◌≢◌, ◌<◌, ◌≤◌, ◌+◌, ◌∙◌, ◌++◌, ◌∷◌, [], ℕ, List, Bool, true, false}
use Rattle.std.proofs.Common.{add-one, ap, append_assoc, arith, get_or, inl, inr, length, map, refl, subst, sym, take}
use Rattle.std.specs.Prelude.{All}
use Rattle.std.specs.List.{IsDistinct}
use Rattle.std.specs.Str.{bytes_eq}
use Rattle.std.proofs.Math.Seq.{take-append_seam}
use Rattle.std.proofs.lemmas.List.{append-nil, length-append, length-map, map-append}
use Rattle.std.proofs.lemmas.List.{take-append-le, take-map, take_all, take_more}
use Rattle.std.proofs.lemmas.List.Elements.{All-head, All-tail, All-take}
use Rattle.users_file.specs.Rows.{AreFirst, HasNoPair, IsBroken, IsRepeated}
use Rattle.users_file.specs.Table.{ArePairOfNames, AreRows, AreUsers, IsBadTable, header, row_of, table_rows, tokens_of}

-- ---- rows and pairs

pair_once : (pair other : List ℕ × List ℕ) → pair.0 ≡ other.0 → pair.1 ≡ other.1 → pair ≡ other
pair_once pair other first second =
    ap (λ (token : List ℕ). (token, pair.1)) first ∙ ap (λ (user : List ℕ). (other.0, user)) second

-- rows tell their pairs
pub row_of-once : (pairs others : List (List ℕ × List ℕ)) → map row_of pairs ≡ map row_of others → pairs ≡ others
row_of-once [] [] same = refl
row_of-once [] (other ∷ others) same = absurd (cc same)
row_of-once (pair ∷ pairs) [] same = absurd (cc same)
row_of-once (pair ∷ pairs) (other ∷ others) same =
    let first : pair ≡ other = pair_once pair other (cc) (cc) in
    let behind : map row_of pairs ≡ map row_of others = cc in
    let more : pairs ≡ others = row_of-once pairs others behind in
    cc

pub table_rows-once : (pairs others : List (List ℕ × List ℕ)) → table_rows pairs ≡ table_rows others → pairs ≡ others
table_rows-once pairs others same =
    let behind : map row_of pairs ≡ map row_of others = cc in
    row_of-once pairs others behind

-- the first rows of a table are those of the first pairs
pub first_rows : (pairs : List (List ℕ × List ℕ)) (more : List (List (List ℕ))) (count : ℕ) → count ≤ length pairs
    → take (count + 1) (table_rows pairs ++ more) ≡ table_rows (take count pairs)
first_rows pairs more count within =
    rw (add-one count)
    (ap (λ rows. header ∷ rows)
    (take-append-le count (map row_of pairs) more (omega (arith, length-map pairs row_of))
    ∙ take-map row_of count pairs))

-- ---- the header

-- where there is no row, row 0 lacks
pub bad-none : (text : List ℕ) → AreRows text [] → IsBadTable text 0
bad-none text rows = (
  [],
  rows,
  record { before = inl refl; broken = λ form. let none : [] ≡ table_rows form.0 = form.1 in absurd (cc none) },
)

-- a first row that isn't the header is bad
pub bad-header : (text : List ℕ) (row : List (List ℕ)) (more : List (List (List ℕ))) → row ≢ header
    → AreRows text (row ∷ more) → IsBadTable text 0
bad-header text row more other rows = (
  row ∷ more,
  rows,
  record {
    before = inl refl;
    broken = λ form.
        let is : row ∷ [] ≡ table_rows form.0 = form.1 in
        let first : row ≡ header = cc in
        other first;
  },
)

-- ---- the rows behind it

-- no row that isn't a token and a user is among the rows of pairs that all are
no_row : (pairs others : List (List ℕ × List ℕ)) (row : List (List ℕ)) → HasNoPair row → All ArePairOfNames others
    → map row_of pairs ++ row ∷ [] ≡ map row_of others → ⊥
no_row [] [] row none names same = absurd (cc same)
no_row [] (other ∷ others) row none names same =
    none other (All-head ArePairOfNames other others names) (cc)
no_row (pair ∷ pairs) [] row none names same = absurd (cc same)
no_row (pair ∷ pairs) (other ∷ others) row none names same =
    no_row pairs others row none (All-tail ArePairOfNames other others names) (cc)

-- behind pairs whose tokens differ, a row that isn't a token and a user is bad
pub bad-row : (text : List ℕ) (pairs : List (List ℕ × List ℕ)) → AreUsers pairs → IsBroken text (table_rows pairs)
    → IsBadTable text (length pairs + 1)
bad-row text pairs users broken =
    let row = broken.0 in
    let more = broken.1 in
    let so_far = table_rows pairs ++ row ∷ [] in
    let split : so_far ++ more ≡ table_rows pairs ++ row ∷ more = append_assoc (table_rows pairs) (row ∷ []) more in
    let count : length so_far ≡ length pairs + 1 + 1 =
    omega (arith, length-append (table_rows pairs) (row ∷ []), length-map pairs row_of) in
    let first : take (length pairs + 1 + 1) (table_rows pairs ++ row ∷ more) ≡ so_far =
    ap (take (length pairs + 1 + 1)) (sym split)
    ∙ (ap (λ (n : ℕ). take n (so_far ++ more)) (sym count) ∙ take-append_seam so_far more) in (
      table_rows pairs ++ row ∷ more,
      broken.2,
      record {
        before = inr (
          pairs,
          first_rows pairs (row ∷ more) (length pairs) (omega arith)
              ∙ ap table_rows (take_all (length pairs) pairs (omega arith)),
          users,
        );
        broken = λ form.
            let same : table_rows pairs ++ row ∷ [] ≡ table_rows form.0 = sym first ∙ form.1 in
            no_row pairs form.0 row broken.3 form.2.names (cc);
      },
    )

-- a pair whose token stands in one before it is bad
bad-repeated-in : (text : List ℕ) (pairs : List (List ℕ × List ℕ)) (place : ℕ) (more : List (List (List ℕ)))
    → All ArePairOfNames pairs → IsRepeated pairs place → AreRows text (table_rows pairs ++ more)
    → IsBadTable text (place + 1)
bad-repeated-in text pairs place more names repeated rows = (
  table_rows pairs ++ more,
  rows,
  record {
    before = inr (
      take place pairs,
      first_rows pairs more place (omega (arith, repeated.within)),
      record {
        names = All-take ArePairOfNames place pairs names;
        once = subst (IsDistinct bytes_eq) (take-map (λ pair. pair.0) place pairs) repeated.before;
      },
    );
    broken = λ form.
        let same : table_rows (take (place + 1) pairs) ≡ table_rows form.0 =
        sym (first_rows pairs more (place + 1) (omega (arith, repeated.within))) ∙ form.1 in
        let pairs_are : take (place + 1) pairs ≡ form.0 = table_rows-once (take (place + 1) pairs) form.0 same in
        repeated.again (subst (IsDistinct bytes_eq)
        (ap tokens_of (sym pairs_are) ∙ sym (take-map (λ pair. pair.0) (place + 1) pairs)) form.2.once);
  },
)

pub bad-repeated : (text : List ℕ) (pairs : List (List ℕ × List ℕ)) (all : Bool) (place : ℕ) → AreFirst text pairs all
    → IsRepeated pairs place → IsBadTable text (place + 1)
bad-repeated text pairs true place first repeated =
    bad-repeated-in text pairs place [] first.names repeated
    (subst (AreRows text) (sym (append-nil (table_rows pairs))) first.rows)
bad-repeated text pairs false place first repeated =
    bad-repeated-in text pairs place (first.rows.0 ∷ first.rows.1) first.names repeated first.rows.2

-- ---- a pair more

pub table_rows-more : (pairs : List (List ℕ × List ℕ)) (pair : List ℕ × List ℕ) (row : List (List ℕ))
    → row ≡ row_of pair → table_rows (pairs ++ pair ∷ []) ≡ table_rows pairs ++ row ∷ []
table_rows-more pairs pair row is =
    ap (λ rows. header ∷ rows) (map-append row_of pairs (pair ∷ []))
    ∙ ap (λ (last : List (List ℕ)). table_rows pairs ++ last ∷ []) (sym is)

-- the tokens of the pairs up to one
pub tokens-more : (pairs : List (List ℕ × List ℕ)) (place : ℕ) (pair : List ℕ × List ℕ) → place < length pairs
    → get_or pairs place pair ≡ pair
    → take (place + 1) (tokens_of pairs) ≡ take place (tokens_of pairs) ++ pair.0 ∷ []
tokens-more pairs place pair within is =
    take-map (λ pair. pair.0) (place + 1) pairs
    ∙ ap tokens_of (take_more pairs place pair within)
    ∙ map-append (λ pair. pair.0) (take place pairs) (get_or pairs place pair ∷ [])
    ∙ ap (λ (last : List ℕ × List ℕ). tokens_of (take place pairs) ++ last.0 ∷ []) is
    ∙ ap (λ (front : List (List ℕ)). front ++ pair.0 ∷ []) (sym (take-map (λ pair. pair.0) place pairs))
