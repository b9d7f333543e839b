-- A sheet that is asked for can be found beside those that are there: an id and a title that none of them has.
use Rattle.std.proofs.Common.{◌≡◌, ℕ, suc, ◌+◌, ◌-◌, ◌^◌, ◌%◌, ◌<◌, refl, sym, ap, ◌∙◌, subst, List, [], ◌∷◌, ◌++◌, length, true, false, cond, arith}
use Rattle.std.specs.Prelude.{Option, None, Some, nat_lt, codes, unwrap_or, ◌==◌}
use Rattle.std.specs.Char.{to_ascii_lowercase}
use Rattle.std.specs.Fmt.{decimal}
use Rattle.std.specs.Str.{str_eq_ignore_ascii_case, str_to_ascii_lowercase}
use Rattle.std.proofs.lemmas.Bool.{cond-true, eqb-true, lt-ltb}
use Rattle.std.proofs.lemmas.Fmt.{decimal_by_steps, decimal_injective}
use Rattle.std.proofs.lemmas.List.{append_cancel_left, map-append}
use Rattle.std.proofs.lemmas.Slice.Eq.{bytes_eq-Decides}
use Rattle.cell_value.specs.Ids.{IsNewId}
use Rattle.cell_value.specs.declared.cell.SheetProperties.{SheetProperties}
use Rattle.world_model.specs.BookChange.{NewSheet}
use Rattle.world_model.specs.Sheet.{PlaceSheet}
use Rattle.dimension_ops.specs.SheetRequests.{IsFirstTitle, IsLeastId, IsNewSheet, has_id, new_cols, new_rows, numbered_title}
use Rattle.answered_calls.proofs.UnusedNumbers.{some_unused}

-- ---- titles with numbers

-- digits have no case
lower_digit : (d : ℕ) → d < 10 → to_ascii_lowercase (48 + d) ≡ 48 + d
lower_digit d less =
    cond-true (nat_lt (48 + d) 65) (48 + d) (cond (nat_lt (48 + d) 91) (48 + d + 32) (48 + d))
    (lt-ltb (48 + d) 65 (omega (arith, less)))

lower_decimal : (n : ℕ) → n < 2 ^ 64 → str_to_ascii_lowercase (decimal n) ≡ decimal n
lower_decimal = decimal_by_steps (λ n digits. str_to_ascii_lowercase digits ≡ digits)
    (λ n less. ap (λ c. c ∷ []) (lower_digit n less))
    (λ n digits from is.
    map-append to_ascii_lowercase digits ((48 + n % 10) ∷ [])
    ∙ ap (λ text. text ++ to_ascii_lowercase (48 + n % 10) ∷ []) is
    ∙ ap (λ c. digits ++ c ∷ []) (lower_digit (n % 10) (omega arith)))

lower_numbered : (n : ℕ) → n < 2 ^ 64
    → str_to_ascii_lowercase (numbered_title n) ≡ str_to_ascii_lowercase (codes "Sheet") ++ decimal n
lower_numbered n less =
    map-append to_ascii_lowercase (codes "Sheet") (decimal n)
    ∙ ap (λ text. str_to_ascii_lowercase (codes "Sheet") ++ text) (lower_decimal n less)

-- a title is that of one number
pub title_of_one : (title : List ℕ) (m n : ℕ) → m < 2 ^ 64 → n < 2 ^ 64
    → str_eq_ignore_ascii_case title (numbered_title m) ≡ true
    → str_eq_ignore_ascii_case title (numbered_title n) ≡ true → m ≡ n
title_of_one title m n few few' is is' =
    let lower = str_to_ascii_lowercase title in
    let one = (bytes_eq-Decides lower (str_to_ascii_lowercase (numbered_title m))).0 is in
    let other = (bytes_eq-Decides lower (str_to_ascii_lowercase (numbered_title n))).0 is' in
    decimal_injective m n few few'
    (append_cancel_left (str_to_ascii_lowercase (codes "Sheet")) (decimal m) (decimal n)
    (sym (lower_numbered m few) ∙ sym one ∙ other ∙ lower_numbered n few'))

-- ---- what isn't given

-- sheets are so few that a number is left for each
abbrev pub AreFew : List PlaceSheet → Type 0
AreFew sheets = length sheets + 1 < 2 ^ 64

module _ (sheets : List PlaceSheet) where
  first_title : AreFew sheets → (title : List ℕ) × IsFirstTitle sheets title
  first_title few =
      let (number, least) = some_unused
      (λ (sheet : PlaceSheet) number. str_eq_ignore_ascii_case sheet.title (numbered_title number)) sheets
      (λ sheet m n from from' to to'.
      title_of_one sheet.title m n (omega (arith, few, to)) (omega (arith, few, to'))) in
      (numbered_title number, (number, refl, least))

  -- numbers from 1 on stand for ids from 0 on
  least_id : (id : ℕ) × IsLeastId sheets id
  least_id =
      let (number, least) = some_unused (λ (sheet : PlaceSheet) number. sheet.id == number - 1) sheets
      (λ sheet m n from from' to to' is is'.
      let one = eqb-true sheet.id (m - 1) is in
      let other = eqb-true sheet.id (n - 1) is' in omega (arith, one, other, from, from')) in (
        number - 1,
        record {
          unused = least.unused;
          least = λ lesser less.
              let same : suc lesser - 1 ≡ lesser = omega arith in
              subst (λ id. has_id sheets id ≡ true) same (least.least (suc lesser) (omega arith) (omega (arith, less)));
        },
      )

  id_asked : (given : Option ℕ) → (id : ℕ) × IsNewId (IsLeastId sheets) given id
  id_asked None = least_id
  id_asked (Some id) = (id, refl)

  title_asked : AreFew sheets → (given : Option (List ℕ)) → (title : List ℕ) × IsNewId (IsFirstTitle sheets) given title
  title_asked few None = first_title few
  title_asked few (Some title) = (title, refl)

  -- the sheet
  pub sheet_asked : AreFew sheets → (properties : SheetProperties) → (new : NewSheet) × IsNewSheet properties sheets new
  sheet_asked few properties =
      let (id, is_id) = id_asked properties.id in
      let (title, is_title) = title_asked few properties.title in (
        record {
          id = id;
          title = title;
          hidden = unwrap_or properties.hidden false;
          rows = new_rows properties;
          cols = new_cols properties;
        },
        record { id = is_id; title = is_title; hidden = refl; rows = refl; cols = refl },
      )
