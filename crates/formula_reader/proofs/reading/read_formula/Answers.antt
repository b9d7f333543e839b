use Rattle.std.proofs.Common.{subst}
use Rattle.std.specs.Prelude.{◌≡◌, ◌⊎◌, Err}
use Rattle.formula_reader.specs.Pieces.{formula_of}
use Rattle.formula_reader.specs.declared.fault.FormulaFault.TheVariants as fault
use Rattle.formula_reader.proofs.Bytes.{read_spells}
use Rattle.formula_reader.proofs.ReadOnce.{tokens_of_once}
use Rattle.formula_reader.proofs.Readable.{read_references, read_readable, read_tree, read_within, text_readable, text_within}
use Rattle.formula_reader.proofs.reading.read_formula.Goals as goal

pub returns-in-Some-clause-tokens : goal.returns-in-Some-clause-tokens
returns-in-Some-clause-tokens g c =
    λ tokens are.
    subst (λ list.
    (c.formula_of.result ≡ formula_of (g.S.SheetNames.sheets c.args.names.now) c.args.here c.args.text.now list)
    ⊎ (c.formula_of.result ≡ Err fault.NoMemory))
    (tokens_of_once c.a1_laws.ensures c.args.text.now c.in-Some.tokens tokens
    (rw c.in-Some.is at c.in_ok-tokens.ensures.tokens) are) c.formula_of.ensures

pub returns-in-Some-clause-text : goal.returns-in-Some-clause-text
returns-in-Some-clause-text g c =
    λ none. absurd (none c.in-Some.tokens (rw c.in-Some.is at c.in_ok-tokens.ensures.tokens))

pub returns-in-Some-clause-bytes : goal.returns-in-Some-clause-bytes
returns-in-Some-clause-bytes g c =
    let are = rw c.in-Some.is at c.in_ok-tokens.ensures.tokens in
    read_spells (g.S.SheetNames.sheets c.args.names.now) c.args.here c.args.text.now are.0 c.in-Some.tokens
    c.formula_of.result
    are.1 are.2 c.formula_of.ensures

pub returns-in-Some-clause-references : goal.returns-in-Some-clause-references
returns-in-Some-clause-references g c =
    let are = rw c.in-Some.is at c.in_ok-tokens.ensures.tokens in
    read_references c.a1_laws.ensures (g.S.SheetNames.sheets c.args.names.now) c.args.here c.args.text.now are.0
    c.in-Some.tokens
    c.formula_of.result are.1 are.2 c.formula_of.ensures

pub returns-in-Some-clause-tree : goal.returns-in-Some-clause-tree
returns-in-Some-clause-tree g c =
    let are = rw c.in-Some.is at c.in_ok-tokens.ensures.tokens in
    read_tree c.a1_laws.ensures (g.S.SheetNames.sheets c.args.names.now) c.args.here c.args.text.now are.0
    c.in-Some.tokens
    c.formula_of.result are.1 are.2 c.formula_of.ensures

pub returns-in-Some-clause-limits : goal.returns-in-Some-clause-limits
returns-in-Some-clause-limits g c =
    let are = rw c.in-Some.is at c.in_ok-tokens.ensures.tokens in
    read_within c.a1_laws.ensures (g.S.SheetNames.sheets c.args.names.now) c.args.here c.args.text.now are.0
    c.in-Some.tokens
    c.formula_of.result are.1 are.2 c.formula_of.ensures

pub returns-in-Some-clause-again : goal.returns-in-Some-clause-again
returns-in-Some-clause-again g c =
    let are = rw c.in-Some.is at c.in_ok-tokens.ensures.tokens in
    read_readable c.a1_laws.ensures (g.S.SheetNames.sheets c.args.names.now) c.args.here c.args.text.now are.0
    c.in-Some.tokens
    c.formula_of.result are.1 are.2 c.formula_of.ensures

pub returns-in_ok-one_text-in-None-clause-tokens : goal.returns-in_ok-one_text-in-None-clause-tokens
returns-in_ok-one_text-in-None-clause-tokens g c =
    λ tokens are. absurd ((rw c.in-None.is at c.in_ok-tokens.ensures.none) tokens are)

pub returns-in_ok-one_text-in-None-clause-tree : goal.returns-in_ok-one_text-in-None-clause-tree
returns-in_ok-one_text-in-None-clause-tree g c =
    λ tokens are. absurd ((rw c.in-None.is at c.in_ok-tokens.ensures.none) tokens are)

pub returns-in_ok-one_text-in-None-clause-limits : goal.returns-in_ok-one_text-in-None-clause-limits
returns-in_ok-one_text-in-None-clause-limits g c =
    text_within c.args.text.now c.in_ok-one_text-in-None.field-0 c.in_ok-one_text-in-None.ensures
    (rw c.in-None.is at c.in_ok-tokens.ensures.none)

pub returns-in_ok-one_text-in-None-clause-again : goal.returns-in_ok-one_text-in-None-clause-again
returns-in_ok-one_text-in-None-clause-again g c =
    text_readable c.args.text.now c.in_ok-one_text-in-None.field-0 c.in_ok-one_text-in-None.ensures
    (rw c.in-None.is at c.in_ok-tokens.ensures.none) (g.S.SheetNames.sheets c.args.names.now) c.args.here
