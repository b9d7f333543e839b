-- Answers that are told apart from all others are one.
use Rattle.std.proofs.Common.{◌≡◌, Option, Some, None, refl, ap}
use Rattle.formula_reader.specs.Only.{IsOnly}

pub one_answer : {A : Type 0} (P : A → Type 0) (one other : Option A) → IsOnly P one → IsOnly P other → one ≡ other
one_answer P None None first second = refl
one_answer P None (Some y) first second = absurd (first y second.0)
one_answer P (Some x) None first second = absurd (second x first.0)
one_answer P (Some x) (Some y) first second = ap Some (second.1 x first.0)
