use Rattle.std.proofs.Common.{◌≡◌, ◌++◌, length, option_map}
use Rattle.std.specs.Vec.Iter.{into_iter_items, into_iter_len}
use Rattle.formula_reader.specs.Symbols.{symbols_of}
use Rattle.formula_reader.proofs.symbols.pieces.symbols_of_tokens.Given as goal

-- the symbols so far and those of the tokens that are left are all of them
abbrev pub invariant-loop-placed : goal.invariant-loop-placed
invariant-loop-placed l =
    (into_iter_len l.placed-iterator ≡ length (into_iter_items l.placed-iterator))
    × (option_map (λ later. l.symbols.items ++ later)
    (symbols_of (into_iter_items l.placed-iterator)) ≡ symbols_of l.fn.tokens.items)
