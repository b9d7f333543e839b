-- The order of the levels, and what no operator continues.
use Rattle.std.proofs.Common.{◌≡◌, ℕ, zero, suc, ◌+◌, ◌<◌, ◌≤◌, List, ◌∷◌, refl, sym, ap, ◌∙◌, arith, lit<}
use Rattle.formula_reader.specs.declared.tokens.token.Operator.{Operator}
use Rattle.formula_reader.specs.declared.tokens.token.Operator.TheVariants.{Equal, NotEqual, Less, AtMost, Greater, AtLeast, Join as Joining, Add, Subtract, Multiply, Divide}
use Rattle.formula_reader.specs.declared.grammar.level.Level.{Level}
use Rattle.formula_reader.specs.declared.grammar.level.Level.TheVariants.{Comparison, Join, Sum, Term, Unary, Primary}
use Rattle.formula_reader.specs.declared.symbols.Symbol.{Symbol}
use Rattle.formula_reader.specs.declared.symbols.Symbol.TheVariants.{Operator as Sign}
use Rattle.formula_reader.specs.Grammar.{level_of, tighter}
use Rattle.formula_reader.specs.LevelReading.{rank, Ends}

-- an operator is looser than a sign
pub operator_rank : (op : Operator) → rank (level_of op) < 4
operator_rank Equal = lit< tt
operator_rank NotEqual = lit< tt
operator_rank Less = lit< tt
operator_rank AtMost = lit< tt
operator_rank Greater = lit< tt
operator_rank AtLeast = lit< tt
operator_rank Joining = lit< tt
operator_rank Add = lit< tt
operator_rank Subtract = lit< tt
operator_rank Multiply = lit< tt
operator_rank Divide = lit< tt

-- operands of an operator are one level tighter
pub tighter_rank : (level : Level) → rank level < 4 → rank (tighter level) ≡ rank level + 1
tighter_rank Comparison low = refl
tighter_rank Join low = refl
tighter_rank Sum low = refl
tighter_rank Term low = refl
tighter_rank Unary low = absurd (omega arith)
tighter_rank Primary low = absurd (omega arith)

-- no two levels have one rank
abbrev level_at : ℕ → Level
level_at zero = Comparison
level_at (suc zero) = Join
level_at (suc (suc zero)) = Sum
level_at (suc (suc (suc zero))) = Term
level_at (suc (suc (suc (suc zero)))) = Unary
level_at (suc (suc (suc (suc (suc n))))) = Primary

level_at-rank : (level : Level) → level_at (rank level) ≡ level
level_at-rank Comparison = refl
level_at-rank Join = refl
level_at-rank Sum = refl
level_at-rank Term = refl
level_at-rank Unary = refl
level_at-rank Primary = refl

pub same_rank : (a b : Level) → rank a ≡ rank b → a ≡ b
same_rank a b e = sym (level_at-rank a) ∙ ap level_at e ∙ level_at-rank b

-- what doesn't continue symbols of a level doesn't continue those of a tighter one
pub ends_tighter : (a b : Level) (symbols : List Symbol) → rank a ≤ rank b → Ends a symbols → Ends b symbols
ends_tighter a b (Sign op ∷ rest) le ends = omega arith
ends_tighter a b _ le ends = tt

-- nothing continues an operand with its signs
pub ends_signed : (level : Level) (symbols : List Symbol) → 4 ≤ rank level → Ends level symbols
ends_signed level (Sign op ∷ rest) le = omega (arith, operator_rank op)
ends_signed level _ le = tt
