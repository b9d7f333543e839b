-- The areas of the trees of a call, one by one.
use Rattle.std.proofs.Common.{◌≡◌, ℕ, suc, ◌+◌, ◌<◌, List, [], ◌∷◌, ◌++◌, length, take, get_or, Option, refl, ap, sym, ◌∙◌, arith}
use Rattle.std.specs.Prelude.{flat_map}
use Rattle.std.proofs.Math.Seq.{take-suc}
use Rattle.std.proofs.lemmas.Grind.{flat_map-append}
use Rattle.grid_range.specs.declared.area.Area.{Area}
use Rattle.formula_reader.specs.declared.tree.Tree.{Tree, Row_of-Tree, end_of-Tree, more_of-Tree}
use Rattle.formula_reader.specs.declared.tree.Tree.TheBlock.{items-the_row-Tree}
use Rattle.formula_reader.specs.Tree.{expression_of, arguments_of}
use Rattle.cell_calc.specs.CellValue.{areas_of, all_areas_of}

-- in a row of trees
pub each_area : (named : List ℕ → Option Area) (n : _) (trees : Row_of-Tree n)
    → all_areas_of named (arguments_of trees)
    ≡ flat_map (λ tree. areas_of named (expression_of tree)) (items-the_row-Tree n trees)
each_area named _ end_of-Tree = refl
each_area named _ (more_of-Tree tree trees) =
    ap (λ l. areas_of named (expression_of tree) ++ l) (each_area named _ trees)

plus_one : (n : ℕ) → n + 1 ≡ suc n
plus_one n = omega arith

nothing_behind : {A : Type 0} → (xs : List A) → xs ++ [] ≡ xs
nothing_behind [] = refl
nothing_behind (x ∷ xs) = ap (λ l. x ∷ l) (nothing_behind xs)

regrouped : {A : Type 0} → (xs ys zs : List A) → (xs ++ ys) ++ zs ≡ xs ++ (ys ++ zs)
regrouped [] ys zs = refl
regrouped (x ∷ xs) ys zs = ap (λ l. x ∷ l) (regrouped xs ys zs)

-- one more tree's behind those of the trees so far
pub one_more_areas : (f : Tree → List Area) (trees : List Tree) (count : ℕ) (tree : Tree)
    (first before after : List Area)
    → count < length trees → tree ≡ get_or trees count tree
    → before ≡ first ++ flat_map f (take count trees) → after ≡ before ++ f tree
    → after ≡ first ++ flat_map f (take (count + 1) trees)
one_more_areas f trees count tree first before after within is was now =
    let so_far = flat_map f (take count trees) in
    let more : take (count + 1) trees ≡ take count trees ++ tree ∷ [] =
    ap (λ n. take n trees) (plus_one count) ∙ take-suc trees count tree within
    ∙ ap (λ t. take count trees ++ t ∷ []) (sym is) in
    let made : flat_map f (take (count + 1) trees) ≡ so_far ++ f tree =
    ap (flat_map f) more ∙ flat_map-append f (take count trees) (tree ∷ [])
    ∙ ap (λ l. so_far ++ l) (nothing_behind (f tree)) in
    now ∙ ap (λ l. l ++ f tree) was ∙ regrouped first so_far (f tree) ∙ ap (λ l. first ++ l) (sym made)
