-- What the trees of a call give, one by one.
use Rattle.std.proofs.Common.{◌≡◌, ℕ, suc, ◌+◌, ◌<◌, List, [], ◌∷◌, ◌++◌, length, map, take, get_or, refl, ap, sym, subst, ◌∙◌, arith}
use Rattle.std.proofs.Math.Seq.{take-suc}
use Rattle.std.proofs.lemmas.List.{map-append}
use Rattle.cell_value.specs.declared.cell.Value.{Value}
use Rattle.formula_reader.specs.declared.tree.Tree.{Tree, Row_of-Tree, end_of-Tree, more_of-Tree}
use Rattle.formula_reader.specs.declared.tree.Tree.TheBlock.{items-the_row-Tree}
use Rattle.formula_reader.specs.Tree.{expression_of, arguments_of}
use Rattle.cell_calc.specs.declared.arguments.Argument.{Argument}
use Rattle.cell_calc.specs.Arguments.{Given}
use Rattle.cell_calc.specs.Lent.{StandsFor, StandFor}
use Rattle.cell_calc.specs.Book.{Book, Place}
use Rattle.cell_calc.specs.FormulaValue.{given_by, all_given_by}

-- in a row of trees
pub each_gives : (book : Book) (read : Place → Value) (n : _) (trees : Row_of-Tree n)
    → all_given_by book read (arguments_of trees)
    ≡ map (λ tree. given_by book read (expression_of tree)) (items-the_row-Tree n trees)
each_gives book read _ end_of-Tree = refl
each_gives book read _ (more_of-Tree tree trees) =
    ap (λ l. given_by book read (expression_of tree) ∷ l) (each_gives book read _ trees)

-- one more argument stands for what is given behind the others
pub one_more_stands : (arguments : List Argument) (given : List Given) (a : Argument) (g : Given)
    → StandFor arguments given → StandsFor a g → StandFor (arguments ++ a ∷ []) (given ++ g ∷ [])
one_more_stands [] [] a g stand one = (one, stand)
one_more_stands [] (h ∷ gs) a g stand one = absurd stand
one_more_stands (b ∷ more) [] a g stand one = absurd stand
one_more_stands (b ∷ more) (h ∷ gs) a g stand one = (stand.0, one_more_stands more gs a g stand.1 one)

plus_one : (n : ℕ) → n + 1 ≡ suc n
plus_one n = omega arith

-- the argument that stands for what the next tree gives
pub one_more_given : (book : Book) (read : Place → Value) (trees : List Tree) (count : ℕ) (tree : Tree)
    (arguments : List Argument) (a : Argument) → count < length trees → tree ≡ get_or trees count tree
    → StandFor arguments (map (λ t. given_by book read (expression_of t)) (take count trees))
    → StandsFor a (given_by book read (expression_of tree))
    → StandFor (arguments ++ a ∷ []) (map (λ t. given_by book read (expression_of t)) (take (count + 1) trees))
one_more_given book read trees count tree arguments a within is stand one =
    let gives = λ (t : Tree). given_by book read (expression_of t) in
    let more : take (count + 1) trees ≡ take count trees ++ tree ∷ [] =
    ap (λ n. take n trees) (plus_one count) ∙ take-suc trees count tree within
    ∙ ap (λ t. take count trees ++ t ∷ []) (sym is) in
    subst (StandFor (arguments ++ a ∷ [])) (sym (ap (map gives) more ∙ map-append gives (take count trees) (tree ∷ [])))
    (one_more_stands arguments (map gives (take count trees)) a (gives tree) stand one)
