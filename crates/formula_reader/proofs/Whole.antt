-- All the symbols, and nothing behind them.
use Rattle.std.proofs.Common.{◌≡◌, false, length, List, [], ◌∷◌, sym, ◌∙◌, subst, append-nil}
use Rattle.std.specs.Prelude.{◌==◌, Some, None, option_map}
use Rattle.std.specs.Bool.{then_some}
use Rattle.std.proofs.Math.Dec.{eqb-suc-zero}
use Rattle.formula_reader.specs.declared.grammar.level.Level.TheVariants.{Comparison}
use Rattle.formula_reader.specs.declared.symbols.Symbol.{Symbol}
use Rattle.formula_reader.specs.declared.tree.Tree.{Tree}
use Rattle.formula_reader.specs.Tree.{Expression, expression_of}
use Rattle.formula_reader.specs.Grammar.{HasTree}
use Rattle.formula_reader.specs.Only.{IsOnly}
use Rattle.formula_reader.specs.LevelReading.{Reads, IsAnswer}

-- a tree of the symbols is read from them with nothing behind it
pub tree_reads : (symbols : List Symbol) (t : Expression) → HasTree symbols t → Reads Comparison symbols t []
tree_reads symbols t h = record { front = symbols; whole = sym (append-nil symbols); has = h; ends = tt }

reads_tree : (symbols : List Symbol) (t : Expression) → Reads Comparison symbols t [] → HasTree symbols t
reads_tree symbols t r = subst (λ (s : List Symbol). HasTree s t) (sym (r.whole ∙ append-nil r.front)) r.has

pub whole_tree : (symbols : List Symbol) (tree : Tree) (rest : List Symbol)
    → IsAnswer (Reads Comparison symbols) (Some (expression_of tree, rest))
    → IsOnly (HasTree symbols) (option_map expression_of (then_some (length rest == 0) tree))
whole_tree symbols tree [] is =
    (reads_tree symbols (expression_of tree) is.0, λ t h. (is.1 t [] (tree_reads symbols t h)).0)
whole_tree symbols tree (a ∷ rest) is =
    let more : (length (a ∷ rest) == 0) ≡ false = eqb-suc-zero (length rest) in
    subst (λ b. IsOnly (HasTree symbols) (option_map expression_of (then_some b tree))) (sym more)
    (λ t h. let one = (is.1 t [] (tree_reads symbols t h)).1 in absurd cc)

pub whole_none : (symbols : List Symbol) → IsAnswer (Reads Comparison symbols) None → IsOnly (HasTree symbols) None
whole_none symbols nothing = λ t h. nothing t [] (tree_reads symbols t h)
