-- Filters that are written are read again.
use Rattle.std.proofs.Common.{◌≡◌, ◌≤◌, ◌<◌, ℕ, ℤ, pos, negsuc, suc, zero, nat_lt, nat_le, List, [], ◌∷◌, length, get_or, Bool, true, false, cond, Option, None, Some, refl, ap, sym, ◌∙◌, arith, unsigned_abs}
use Rattle.std.specs.Prelude.{◌≢◌, ◌^◌, drop, neg_ℤ, IfSome, Ok, Err}
use Rattle.std.specs.Char.{digit_value, is_ascii_digit}
use Rattle.std.specs.Cmp.Lexicographic.{slice_cmp}
use Rattle.std.specs.Fmt.{decimal, signed_decimal}
use Rattle.std.specs.List.{All, list_all}
use Rattle.std.specs.Ordering.{nat_cmp, match_ordering}
use Rattle.std.specs.Str.Parse.{AllDigits, digits_value, starts_with_minus, without_leading_sign, without_leading_plus, signed_digits_value}
use Rattle.std.specs.declared.cmp.Ordering.TheVariants.{Less}
use Rattle.std.proofs.lemmas.Bool.{and_from, false≢true, le-leb}
use Rattle.std.proofs.lemmas.Bool.Decides.{nat_tests}
use Rattle.std.proofs.lemmas.List.Elements.{All-head, All-tail}
use Rattle.std.proofs.lemmas.Fmt.{decimal_is_IsNumeral, decimal_digit, first_decimal}
use Rattle.std.proofs.lemmas.Str.Parse.{without_leading_plus_none}
use Rattle.serde_json.specs.Data.{Data, object, Members, no_members, member, put}
use Rattle.basic_filter.specs.declared.types.Condition.{Condition}
use Rattle.basic_filter.specs.declared.types.Condition.TheVariants as condition
use Rattle.basic_filter.specs.declared.types.Criterion.{Criterion}
use Rattle.basic_filter.specs.declared.types.Filter.{Filter}
use Rattle.cell_value.specs.Limits.{largest}
use Rattle.cell_value.specs.Typed.{are_digits, is_whole}
use Rattle.grid_range.specs.declared.area.Area.{Area}
use Rattle.json_shapes.specs.declared.fault.ShapeFault.TheVariants.{BadNumber}
use Rattle.json_shapes.specs.Reading.{Reading, both, made}
use Rattle.json_shapes.specs.Members.{nothing_left, first_part, object_of}
use Rattle.json_shapes.specs.Scalars.{greatest_index, within_index}
use Rattle.json_shapes.specs.Shapes.{text, list_of, map_of, each_member, one_more}
use Rattle.json_requests.specs.Areas.{grid_range}
use Rattle.json_requests.specs.Filters.{between, boolean_condition, column_named, criterion, criterion_at, criterion_of}
use Rattle.json_requests.specs.Filters.{criterion_under, filter_of, basic_filter}
use Rattle.json_requests.specs.WholeTexts.{number_of, number_within, index_named, leads_with_zero}
use Rattle.sheets_json.specs.Written.{text_data, list_data}
use Rattle.sheets_json.specs.Areas.{area_data}
use Rattle.sheets_json.specs.Filters.{condition_data, criterion_data, criteria_members, filter_data}
use Rattle.sheets_json.specs.Laws.{IsKept, HasNumbers, IsCriterion, AreInOrder, FiltersAreReadAgain}
use Rattle.sheets_json.proofs.ReadAgain.{areas_again, each_text_again}

-- ---- decimals

digit_is_digit : (b : ℕ) → digit_value b < 10 → is_ascii_digit b ≡ true
digit_is_digit b h = grind (arith, nat_tests)

all_digits : (digits : List ℕ) → AllDigits 10 digits → list_all is_ascii_digit digits ≡ true
all_digits [] all = refl
all_digits (d ∷ ds) all =
    and_from (is_ascii_digit d) (list_all is_ascii_digit ds) (digit_is_digit d all.0) (all_digits ds all.1)

digits_are : (n : ℕ) → n < 2 ^ 64 → are_digits (decimal n) ≡ true
digits_are n small =
    let numeral = (decimal_is_IsNumeral n small).0 in
    and_from (nat_lt 0 (length (decimal n))) (list_all is_ascii_digit (decimal n)) (grind (arith, nat_tests))
    (all_digits (decimal n) numeral.1)

not_by_zero : (digits : List ℕ) → 48 < get_or digits 0 0 → leads_with_zero digits ≡ false
not_by_zero [] first = refl
not_by_zero (d ∷ []) first = refl
not_by_zero (d ∷ e ∷ ds) first = grind (arith, nat_tests)

no_zero_leads : (n : ℕ) → n < 2 ^ 64 → leads_with_zero (decimal n) ≡ false
no_zero_leads zero small = rw (decimal_digit 0 (omega arith)) refl
no_zero_leads (suc n) small = not_by_zero (decimal (suc n)) (first_decimal (suc n) (omega arith) small)

index_by : (digits : Bool) (value n : ℕ) → digits ≡ true → value ≡ n → nat_le n greatest_index ≡ true
    → cond digits (within_index value) None ≡ Some n
index_by digits value n d v small = rw (d, v, small) refl

index_again : (n : ℕ) → n ≤ greatest_index → index_named (decimal n) ≡ Some n
index_again n small =
    let fits : n < 2 ^ 64 = omega (arith, small) in
    index_by (are_digits (decimal n)) (digits_value 10 (decimal n)) n (digits_are n fits)
    (decimal_is_IsNumeral n fits).1 (le-leb n greatest_index small)

column_by : (leads : Bool) (named : Option ℕ) (n : ℕ) → leads ≡ false → named ≡ Some n → cond leads None named ≡ Some n
column_by leads named n l is = rw (l, is) refl

column_again : (n : ℕ) → n ≤ greatest_index → column_named (decimal n) ≡ Some n
column_again n small =
    column_by (leads_with_zero (decimal n)) (index_named (decimal n)) n (no_zero_leads n (omega (arith, small)))
    (index_again n small)

-- ---- numbers

no_minus : (digits : List ℕ) → 0 < length digits → AllDigits 10 digits → starts_with_minus digits ≡ false
no_minus [] some all = absurd (omega (arith, some))
no_minus (d ∷ ds) some all = let digit = digit_is_digit d all.0 in grind (arith, nat_tests)

not_plus : (c : ℕ) → is_ascii_digit c ≡ true → c ≢ 43
not_plus c digit = λ e. absurd (false≢true (rw e at digit))

no_plus : (digits : List ℕ) → 0 < length digits → AllDigits 10 digits → get_or digits 0 0 ≢ 43
no_plus [] some all = absurd (omega (arith, some))
no_plus (d ∷ ds) some all = not_plus d (digit_is_digit d all.0)

-- a numeral has no sign
no_sign : (digits : List ℕ) → 0 < length digits → AllDigits 10 digits → without_leading_sign digits ≡ digits
no_sign digits some all =
    ap (λ minus. cond minus (drop 1 digits) (without_leading_plus digits)) (no_minus digits some all)
    ∙ without_leading_plus_none digits (no_plus digits some all)

number_by : (whole : Bool) (value z : ℤ) → whole ≡ true → value ≡ z → unsigned_abs z ≤ largest
    → cond whole (number_within value) (Err BadNumber) ≡ Ok z
number_by whole value z w v small = rw (w, v, le-leb (unsigned_abs z) largest small) refl

value_of : (digits : List ℕ) (n : ℕ) → 0 < length digits → AllDigits 10 digits → digits_value 10 digits ≡ n
    → signed_digits_value 10 digits ≡ pos n
value_of digits n some all is =
    ap (λ minus. cond minus (neg_ℤ (pos (digits_value 10 (without_leading_sign digits))))
    (pos (digits_value 10 (without_leading_sign digits)))) (no_minus digits some all)
    ∙ ap (λ ds. pos (digits_value 10 ds)) (no_sign digits some all) ∙ ap pos is

number_again : (z : ℤ) → IsKept z → number_of (signed_decimal z) ≡ Ok z
number_again (pos n) small =
    let fits : n < 2 ^ 64 = omega (arith, small) in
    let numeral = decimal_is_IsNumeral n fits in
    number_by (is_whole (decimal n)) (signed_digits_value 10 (decimal n)) (pos n)
    (ap are_digits (no_sign (decimal n) numeral.0.0 numeral.0.1) ∙ digits_are n fits)
    (value_of (decimal n) n numeral.0.0 numeral.0.1 numeral.1) small
number_again (negsuc n) small =
    let fits : suc n < 2 ^ 64 = omega (arith, small) in
    number_by (is_whole (45 ∷ decimal (suc n))) (signed_digits_value 10 (45 ∷ decimal (suc n))) (negsuc n)
    (digits_are (suc n) fits) (ap (λ m. neg_ℤ (pos m)) (decimal_is_IsNumeral (suc n) fits).1) small

-- ---- conditions

-- what is read of a value, and of a condition with one number or with two
abbrev value_read : Reading ℤ → Reading ℤ
value_read number = made first_part (both number (nothing_left no_members))

abbrev number_read : (ℤ → Condition) → Reading ℤ → Reading Condition
number_read make number = made first_part (both (made make (value_read number)) (nothing_left no_members))

abbrev between_read : Reading ℤ → Reading ℤ → Reading Condition
between_read first last =
    made first_part (both (made between (both (value_read first) (value_read last))) (nothing_left no_members))

condition_again : (asked : Condition) → HasNumbers asked → object_of boolean_condition (condition_data asked) ≡ Ok asked
condition_again (condition.NumberGreater number) has =
    ap (number_read (λ z. condition.NumberGreater z)) (number_again number has)
condition_again (condition.NumberGreaterThanEq number) has =
    ap (number_read (λ z. condition.NumberGreaterThanEq z)) (number_again number has)
condition_again (condition.NumberLess number) has =
    ap (number_read (λ z. condition.NumberLess z)) (number_again number has)
condition_again (condition.NumberLessThanEq number) has =
    ap (number_read (λ z. condition.NumberLessThanEq z)) (number_again number has)
condition_again (condition.NumberEq number) has = ap (number_read (λ z. condition.NumberEq z)) (number_again number has)
condition_again (condition.NumberNotEq number) has =
    ap (number_read (λ z. condition.NumberNotEq z)) (number_again number has)
condition_again (condition.NumberBetween first last) has =
    ap (λ read. between_read read (number_of (signed_decimal last))) (number_again first has.0)
    ∙ ap (between_read (Ok first)) (number_again last has.1)
condition_again (condition.TextContains part) has = refl
condition_again (condition.TextNotContains part) has = refl
condition_again (condition.TextStartsWith start) has = refl
condition_again (condition.TextEndsWith end) has = refl
condition_again (condition.TextEq other) has = refl
condition_again condition.Blank has = refl
condition_again condition.NotBlank has = refl

-- ---- criteria

-- what is read of hidden values and of a condition, if they are given
abbrev hidden_read : List (List ℕ) → Reading (Option (List (List ℕ)))
hidden_read [] = Ok None
hidden_read (first ∷ texts) = made Some (list_of text (list_data text_data (first ∷ texts)))

abbrev condition_read : Option Condition → Reading (Option Condition)
condition_read None = Ok None
condition_read (Some asked) = made Some (object_of boolean_condition (condition_data asked))

abbrev criterion_read : ℕ → Reading (Option (List (List ℕ))) → Reading (Option Condition) → Reading Criterion
criterion_read column hidden asked =
    made first_part (both (made (criterion_of column) (both hidden asked)) (nothing_left no_members))

criterion_parts : (column : ℕ) (hidden : List (List ℕ)) (asked : Option Condition)
    → object_of (criterion column)
    (criterion_data (record { column = column; hidden = hidden; condition = asked }))
    ≡ criterion_read column (hidden_read hidden) (condition_read asked)
criterion_parts column [] None = refl
criterion_parts column [] (Some asked) = refl
criterion_parts column (first ∷ texts) None = refl
criterion_parts column (first ∷ texts) (Some asked) = refl

hidden_again : (column : ℕ) (hidden : List (List ℕ)) (asked : Option Condition)
    → criterion_read column (hidden_read hidden) (Ok asked)
    ≡ Ok (record { column = column; hidden = hidden; condition = asked })
hidden_again column [] asked = refl
hidden_again column (first ∷ texts) asked =
    ap (λ read. criterion_read column (made Some read) (Ok asked)) (each_text_again (first ∷ texts))

condition_is : (asked : Option Condition) → IfSome asked HasNumbers → condition_read asked ≡ Ok asked
condition_is None has = refl
condition_is (Some asked) has = ap (made Some) (condition_again asked has)

criterion_again : (one : Criterion) → IsCriterion one → object_of (criterion one.column) (criterion_data one) ≡ Ok one
criterion_again one is =
    criterion_parts one.column one.hidden one.condition
    ∙ ap (criterion_read one.column (hidden_read one.hidden)) (condition_is one.condition is.condition)
    ∙ hidden_again one.column one.hidden one.condition

under_again : (one : Criterion) → IsCriterion one → criterion_under (decimal one.column) (criterion_data one) ≡ Ok one
under_again one is =
    ap (λ column. criterion_at column (criterion_data one)) (column_again one.column is.column)
    ∙ criterion_again one is

put_before : (one other : List ℕ) (value held : Data) (members : Members) → slice_cmp nat_cmp one other ≡ Less
    → put one value (member other held members) ≡ member one value (member other held members)
put_before one other value held members less =
    ap (λ order. match_ordering order (member one value (member other held members))
    (member other value members) (member other held (put one value members))) less

put_first : (one : Criterion) (criteria : List Criterion) → AreInOrder (one ∷ criteria)
    → criteria_members (one ∷ criteria)
    ≡ member (decimal one.column) (criterion_data one) (criteria_members criteria)
put_first one [] order = refl
put_first one (other ∷ criteria) order =
    let next = put_first other criteria order.1 in
    ap (put (decimal one.column) (criterion_data one)) next
    ∙ put_before (decimal one.column) (decimal other.column) (criterion_data one) (criterion_data other)
    (criteria_members criteria) order.0
    ∙ ap (member (decimal one.column) (criterion_data one)) (sym next)

after_first : (one : Criterion) (criteria : List Criterion) → AreInOrder (one ∷ criteria) → AreInOrder criteria
after_first one [] order = tt
after_first one (other ∷ criteria) order = order.1

members_again : (criteria : List Criterion) → All IsCriterion criteria → AreInOrder criteria
    → each_member criterion_under (criteria_members criteria) ≡ Ok criteria
members_again [] all order = refl
members_again (one ∷ criteria) all order =
    ap (each_member criterion_under) (put_first one criteria order)
    ∙ ap (λ read. made one_more (both read (each_member criterion_under (criteria_members criteria))))
    (under_again one (All-head IsCriterion one criteria all))
    ∙ ap (λ read. made one_more (both (Ok one) read))
    (members_again criteria (All-tail IsCriterion one criteria all) (after_first one criteria order))

-- ---- filters

abbrev criteria_read : List Criterion → Reading (Option (List Criterion))
criteria_read [] = Ok None
criteria_read (one ∷ criteria) = made Some (map_of criterion_under (object (criteria_members (one ∷ criteria))))

abbrev filter_read : Reading Area → Reading (Option (List Criterion)) → Reading Filter
filter_read area criteria = made first_part (both (made filter_of (both area criteria)) (nothing_left no_members))

filter_parts : (area : Area) (criteria : List Criterion)
    → object_of basic_filter (filter_data (record { area = area; criteria = criteria }))
    ≡ filter_read (object_of grid_range (area_data area)) (criteria_read criteria)
filter_parts area [] = refl
filter_parts area (one ∷ criteria) = refl

criteria_again : (area : Area) (criteria : List Criterion) → All IsCriterion criteria → AreInOrder criteria
    → filter_read (Ok area) (criteria_read criteria) ≡ Ok (record { area = area; criteria = criteria })
criteria_again area [] all order = refl
criteria_again area (one ∷ criteria) all order =
    ap (λ read. filter_read (Ok area) (made Some read)) (members_again (one ∷ criteria) all order)

pub filters_again : FiltersAreReadAgain
filters_again shown indexed all order =
    filter_parts shown.area shown.criteria
    ∙ ap (λ read. filter_read read (criteria_read shown.criteria)) (areas_again shown.area indexed)
    ∙ criteria_again shown.area shown.criteria all order
