-- What is read from the front of symbols, level by level.
use Rattle.std.specs.Prelude.{◌≡◌, ℕ, zero, suc, ◌<◌, ⊤, List, ◌∷◌, ◌++◌, Option, Some, None}
use Rattle.formula_reader.specs.declared.tokens.token.Operator.{Operator}
use Rattle.formula_reader.specs.declared.tokens.token.Operator.TheVariants.{Add, Subtract}
use Rattle.formula_reader.specs.declared.grammar.level.Level.{Level}
use Rattle.formula_reader.specs.declared.grammar.level.Level.TheVariants.{Comparison, Join, Sum, Term, Unary, Primary}
use Rattle.formula_reader.specs.declared.symbols.Symbol.{Symbol}
use Rattle.formula_reader.specs.declared.symbols.Symbol.TheVariants.{Number, Text, Truth, Ref, Lost, Word, Function, Operator as Sign, Open, Close, Comma}
use Rattle.formula_reader.specs.Tree.{Expression, number, text, truth, reference, lost, word, negative, binary, Arguments, no_arguments}
use Rattle.formula_reader.specs.Grammar.{level_of, tighter, Has, Are}

-- how tightly a level binds
abbrev pub rank : Level → ℕ
rank Comparison = 0
rank Join = 1
rank Sum = 2
rank Term = 3
rank Unary = 4
rank Primary = 5

-- no operator of the level, and none that binds tighter, is next
abbrev pub Ends : Level → List Symbol → Type 0
Ends level (Sign op ∷ rest) = rank (level_of op) < rank level
Ends level _ = ⊤

-- the symbols are ones of the level with that tree, and a rest that doesn't continue them
pub record Reads (level : Level) (symbols : List Symbol) (tree : Expression) (rest : List Symbol) : Type 0 where
  pub front : List Symbol
  pub whole : symbols ≡ front ++ rest
  pub has : Has level front tree
  pub ends : Ends level rest

-- read on behind a tree: operators of the level with their operands, as long as there are any
pub data ReadsOn (level : Level) : Expression → List Symbol → Expression → List Symbol → Type 0 where
  stops : (t : Expression) (rest : List Symbol) → Ends level rest → ReadsOn level t rest t rest
  goes_on : (t u v : Expression) (op : Operator) (symbols more rest : List Symbol)
      → level_of op ≡ level → Reads (tighter level) symbols u more
      → ReadsOn level (binary op t u) more v rest → ReadsOn level t (Sign op ∷ symbols) v rest

-- arguments up to their closing bracket, and what is behind it
pub record ReadsArguments (symbols : List Symbol) (trees : Arguments) (rest : List Symbol) : Type 0 where
  pub front : List Symbol
  pub whole : symbols ≡ front ++ Close ∷ rest
  pub are : Are front trees

-- the arguments behind an opening bracket, if any, and what is behind the closing one
abbrev pub AfterOpen : List Symbol → Arguments → List Symbol → Type 0
AfterOpen (Close ∷ more) trees rest = (trees ≡ no_arguments) × (rest ≡ more)
AfterOpen symbols trees rest = ReadsArguments symbols trees rest

-- that is the only thing that is read, and None is the answer where nothing is
abbrev pub IsAnswer : {A : Type 0} → (A → List Symbol → Type 0) → Option (A × List Symbol) → Type 0
IsAnswer R None = (a : _) (rest : List Symbol) → R a rest → ⊥
IsAnswer R (Some found) =
    R found.0 found.1 × ((a : _) (rest : List Symbol) → R a rest → (a ≡ found.0) × (rest ≡ found.1))

-- the expression of a symbol that stands alone, None for one that doesn't
abbrev pub leaf : Symbol → Option Expression
leaf (Number n) = Some (number n)
leaf (Text w) = Some (text w)
leaf (Truth b) = Some (truth b)
leaf (Ref area) = Some (reference area)
leaf Lost = Some lost
leaf (Word w) = Some (word w)
leaf (Function name) = None
leaf (Sign op) = None
leaf Open = None
leaf Close = None
leaf Comma = None

-- how many of the signs that the symbols begin with are `-`, and what is behind the signs
abbrev pub signs : List Symbol → ℕ × List Symbol
signs (Sign Subtract ∷ rest) = (suc (signs rest).0, (signs rest).1)
signs (Sign Add ∷ rest) = signs rest
signs symbols = (0, symbols)

-- a tree with so many `-` before it
abbrev pub negated : ℕ → Expression → Expression
negated zero t = t
negated (suc n) t = negative (negated n t)
