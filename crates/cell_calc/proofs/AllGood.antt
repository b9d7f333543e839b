-- All of the good results, one by one.
use Rattle.std.proofs.Common.{◌≡◌, ℕ, suc, ◌<◌, List, [], ◌∷◌, ◌++◌, length, drop, get_or, map, refl, ap, sym, ◌∙◌, append_assoc}
use Rattle.std.specs.Prelude.{Result, Ok, Err, Option, Some, None}
use denote.Ref.{Bor}
use Rattle.std.proofs.lemmas.List.{append-nil}
use Rattle.std.proofs.Math.Seq.{drop-cons}
use Rattle.cell_value.specs.declared.cell.Kind.{Kind}
use Rattle.cell_value.specs.declared.cell.Value.{Value}
use Rattle.cell_calc.specs.declared.arguments.Argument.{Argument}
use Rattle.cell_calc.specs.Outcome.{leftmost}
use Rattle.cell_calc.specs.GatheringFunctions.{good_before, all_good}
use Rattle.cell_calc.specs.Taken.{values_of, error_lent}

module _ {A : Type 0} where
  -- good results before others
  abbrev pub behind : List A → Result (List A) Kind → Result (List A) Kind
  behind good (Ok others) = Ok (good ++ others)
  behind good (Err fault) = Err fault

  behind-good : (good : List A) (one : A) (rest : Result (List A) Kind)
      → behind good (good_before one rest) ≡ behind (good ++ one ∷ []) rest
  behind-good good one (Ok others) = ap (λ l. Ok l) (sym (append_assoc good (one ∷ []) others))
  behind-good good one (Err fault) = refl

module _ {A : Type 0} (reading : Value → Result A Kind) where
  abbrev pub read_all : List (Bor Value) → Result (List A) Kind
  read_all values = all_good (map reading (values_of values))

  read_next : (values : List (Bor Value)) (i : ℕ) (value : Bor Value) → i < length values
      → read_all (drop i values)
      ≡ all_good (reading (get_or values i value).now ∷ map reading (values_of (drop (suc i) values)))
  read_next values i value within = ap read_all (drop-cons values i value within)

  -- one more that is good
  pub read_more : (values : List (Bor Value)) (i : ℕ) (value : Bor Value) (good : List A) (one : A) → i < length values
      → read_all values ≡ behind good (read_all (drop i values))
      → reading (get_or values i value).now ≡ Ok one
      → read_all values ≡ behind (good ++ one ∷ []) (read_all (drop (suc i) values))
  read_more values i value good one within so_far is =
      so_far
      ∙ ap (behind good) (read_next values i value within
      ∙ ap (λ r. all_good (r ∷ map reading (values_of (drop (suc i) values)))) is)
      ∙ behind-good good one (read_all (drop (suc i) values))

  -- the first that is none
  pub read_stops : (values : List (Bor Value)) (i : ℕ) (value : Bor Value) (good : List A) (fault : Kind) → i
      < length values
      → read_all values ≡ behind good (read_all (drop i values))
      → reading (get_or values i value).now ≡ Err fault
      → read_all values ≡ Err fault
  read_stops values i value good fault within so_far is =
      so_far
      ∙ ap (behind good) (read_next values i value within
      ∙ ap (λ r. all_good (r ∷ map reading (values_of (drop (suc i) values)))) is)

  -- at the beginning and at the end
  pub read_first : (values : List (Bor Value)) → read_all values ≡ behind [] (read_all values)
  read_first values = elim (read_all values) as (λ r. r ≡ behind [] r) [ Ok others ↦ refl | Err fault ↦ refl ]

  pub read_last : (values : List (Bor Value)) (rest : List (Bor Value)) (good : List A) → rest ≡ []
      → read_all values ≡ behind good (read_all rest) → read_all values ≡ Ok good
  read_last values rest good none so_far =
      so_far ∙ ap (λ l. behind good (read_all l)) none ∙ ap (λ l. Ok l) (append-nil good)

-- the leftmost error, from one argument on
abbrev pub leftmost_lent : List Argument → Option Kind
leftmost_lent arguments = leftmost (map error_lent arguments)

pub lent_next : (arguments : List Argument) (i : ℕ) (argument : Argument) → i < length arguments
    → error_lent (get_or arguments i argument) ≡ None
    → leftmost_lent (drop i arguments) ≡ leftmost_lent (drop (suc i) arguments)
lent_next arguments i argument within none =
    ap leftmost_lent (drop-cons arguments i argument within)
    ∙ ap (λ o. leftmost (o ∷ map error_lent (drop (suc i) arguments))) none

pub lent_found : (arguments : List Argument) (i : ℕ) (argument : Argument) (fault : Kind) → i < length arguments
    → error_lent (get_or arguments i argument) ≡ Some fault
    → leftmost_lent (drop i arguments) ≡ Some fault
lent_found arguments i argument fault within some =
    ap leftmost_lent (drop-cons arguments i argument within)
    ∙ ap (λ o. leftmost (o ∷ map error_lent (drop (suc i) arguments))) some
