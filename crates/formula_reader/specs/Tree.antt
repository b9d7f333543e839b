-- A tree as its nodes alone, without where they lie in memory.
use Rattle.std.specs.Prelude.{ℕ, ℤ, Bool, List, [], ◌∷◌}
use Rattle.grid_range.specs.declared.area.Area.{Area}
use Rattle.formula_reader.specs.declared.tokens.token.Operator.{Operator}
use Rattle.formula_reader.specs.declared.tree.Tree.{Tree, Row_of-Tree, end_of-Tree, more_of-Tree}
use Rattle.formula_reader.specs.declared.tree.Tree.TheVariants.{Number, Text, Truth, Ref, Lost, Word, Negate', Binary', Call'}

mutual
  -- an expression of a formula, by the outermost of what it is made of
  pub data Expression : Type 0 where
    number : ℤ → Expression
    text : List ℕ → Expression
    truth : Bool → Expression
    reference : Area → Expression
    lost : Expression
    word : List ℕ → Expression
    negative : Expression → Expression
    binary : Operator → Expression → Expression → Expression
    call : List ℕ → Arguments → Expression

  -- the arguments of a function, in order
  pub data Arguments : Type 0 where
    no_arguments : Arguments
    argument : Expression → Arguments → Arguments

-- the expression that a tree holds
abbrev mutual
  pub expression_of : Tree → Expression
  expression_of (Number n) = number n
  expression_of (Text t) = text t
  expression_of (Truth b) = truth b
  expression_of (Ref area) = reference area
  expression_of Lost = lost
  expression_of (Word w) = word w
  expression_of (Negate' place tree) = negative (expression_of tree)
  expression_of (Binary' op place left place' right) = binary op (expression_of left) (expression_of right)
  expression_of (Call' name place trees) = call name (arguments_of trees)

  pub arguments_of : {n : _} → Row_of-Tree n → Arguments
  arguments_of end_of-Tree = no_arguments
  arguments_of (more_of-Tree tree trees) = argument (expression_of tree) (arguments_of trees)

-- these arguments before others
abbrev pub arguments_before : List Expression → Arguments → Arguments
arguments_before [] trees = trees
arguments_before (t ∷ ts) trees = argument t (arguments_before ts trees)
