-- The only answers to what is read of an operand: with its signs, by its first symbol, in brackets.
use Rattle.std.proofs.Common.{◌≡◌, ◌≢◌, ℕ, length, arith, List, [], ◌∷◌, refl, sym, ap, ◌∙◌, subst}
use Rattle.std.specs.Prelude.{Option, Some, None, option_map}
use Rattle.formula_reader.specs.declared.grammar.level.Level.TheVariants.{Comparison, Unary, Primary}
use Rattle.formula_reader.specs.declared.symbols.Symbol.{Symbol}
use Rattle.formula_reader.specs.declared.symbols.Symbol.TheVariants.{Number, Text, Truth, Ref, Lost, Word, Function, Operator as Sign, Open, Close, Comma}
use Rattle.formula_reader.specs.Tree.{Expression, number, text, truth, reference, lost, word, call, Arguments}
use Rattle.formula_reader.specs.Grammar.{Has, a_number, a_text, a_truth, a_reference, a_lost, a_word}
use Rattle.formula_reader.specs.LevelReading.{Reads, AfterOpen, IsAnswer, leaf, signs, negated}
use Rattle.formula_reader.proofs.Signs.{reads_signed, signed_reads}
use Rattle.formula_reader.proofs.Primaries.{AtPrimary, reads_primary, one_symbol, in_brackets, after_open_reads}

-- the operand behind the signs is the answer, with the signs
pub signed_answer : (symbols operand : List Symbol) (minus : ℕ) (t u : Expression) (rest : List Symbol)
    → minus ≡ (signs symbols).0 → operand ≡ (signs symbols).1 → u ≡ negated minus t
    → IsAnswer (Reads Primary operand) (Some (t, rest)) → IsAnswer (Reads Unary symbols) (Some (u, rest))
signed_answer symbols operand minus t u rest counted behind with_signs is =
    let signed : u ≡ negated (signs symbols).0 t = with_signs ∙ ap (λ n. negated n t) counted in
    let there = subst (λ (s : List Symbol). IsAnswer (Reads Primary s) (Some (t, rest))) behind is in (
      subst (λ (e : Expression). Reads Unary symbols e rest) (sym signed) (signed_reads symbols t rest there.0),
      λ v more r.
          let found = reads_signed symbols v more r in
          let one = there.1 found.operand more found.reads in
          (found.is ∙ ap (negated (signs symbols).0) one.0 ∙ sym signed, one.1),
    )

pub signed_none : (symbols operand : List Symbol) → operand ≡ (signs symbols).1
    → IsAnswer (Reads Primary operand) None → IsAnswer (Reads Unary symbols) None
signed_none symbols operand behind nothing = λ v more r.
    let found = reads_signed symbols v more r in
    nothing found.operand more
    (subst (λ (s : List Symbol). Reads Primary s found.operand more) (sym behind) found.reads)

-- a symbol that stands alone
single : (a : Symbol) (t : Expression) (rest : List Symbol) → Has Primary (a ∷ []) t
    → ((u : Expression) (more : List Symbol) → AtPrimary (a ∷ rest) u more → (u ≡ t) × (more ≡ rest))
    → IsAnswer (Reads Primary (a ∷ rest)) (Some (t, rest))
single a t rest h only = (one_symbol a t rest h, λ u more r. only u more (reads_primary (a ∷ rest) u more r))

-- symbols that begin no operand
no_operand : (symbols : List Symbol) → ((u : Expression) (more : List Symbol) → AtPrimary symbols u more → ⊥)
    → IsAnswer (Reads Primary symbols) None
no_operand symbols nothing = λ u more r. nothing u more (reads_primary symbols u more r)

-- a symbol that is neither a function nor an opening bracket
pub leaf_answer : (a : Symbol) (rest : List Symbol) → a ≢ Open → ((name : List ℕ) → a ≢ Function name)
    → IsAnswer (Reads Primary (a ∷ rest)) (option_map (λ t. (t, rest)) (leaf a))
leaf_answer (Number n) rest no_bracket no_function = single (Number n) (number n) rest (a_number n) (λ u more at. at)
leaf_answer (Text w) rest no_bracket no_function = single (Text w) (text w) rest (a_text w) (λ u more at. at)
leaf_answer (Truth b) rest no_bracket no_function = single (Truth b) (truth b) rest (a_truth b) (λ u more at. at)
leaf_answer (Ref area) rest no_bracket no_function =
    single (Ref area) (reference area) rest (a_reference area) (λ u more at. at)
leaf_answer Lost rest no_bracket no_function = single Lost lost rest a_lost (λ u more at. at)
leaf_answer (Word w) rest no_bracket no_function = single (Word w) (word w) rest (a_word w) (λ u more at. at)
leaf_answer (Function name) rest no_bracket no_function = absurd (no_function name refl)
leaf_answer (Sign op) rest no_bracket no_function = no_operand (Sign op ∷ rest) (λ u more at. at)
leaf_answer Open rest no_bracket no_function = absurd (no_bracket refl)
leaf_answer Close rest no_bracket no_function = no_operand (Close ∷ rest) (λ u more at. at)
leaf_answer Comma rest no_bracket no_function = no_operand (Comma ∷ rest) (λ u more at. at)

pub leaf_read : (symbols : List Symbol) (a : Symbol) (rest : List Symbol) (t : Expression) → symbols ≡ a ∷ rest
    → a ≢ Open → ((name : List ℕ) → a ≢ Function name) → Some t ≡ leaf a
    → IsAnswer (Reads Primary symbols) (Some (t, rest))
leaf_read symbols a rest t whole no_bracket no_function is =
    subst (λ (s : List Symbol). IsAnswer (Reads Primary s) (Some (t, rest))) (sym whole)
    (subst (λ (o : Option Expression). IsAnswer (Reads Primary (a ∷ rest)) (option_map (λ e. (e, rest)) o)) (sym is)
    (leaf_answer a rest no_bracket no_function))

pub leaf_none : (symbols : List Symbol) (a : Symbol) (rest : List Symbol) → symbols ≡ a ∷ rest
    → a ≢ Open → ((name : List ℕ) → a ≢ Function name) → None ≡ leaf a
    → IsAnswer (Reads Primary symbols) None
leaf_none symbols a rest whole no_bracket no_function is =
    subst (λ (s : List Symbol). IsAnswer (Reads Primary s) None) (sym whole)
    (subst (λ (o : Option Expression). IsAnswer (Reads Primary (a ∷ rest)) (option_map (λ e. (e, rest)) o)) (sym is)
    (leaf_answer a rest no_bracket no_function))

-- no symbols
pub empty_none : (symbols : List Symbol) → length symbols ≡ 0 → IsAnswer (Reads Primary symbols) None
empty_none [] none = no_operand [] (λ u more at. at)
empty_none (a ∷ rest) none = absurd (omega arith)

-- an expression in brackets
pub bracket_answer : (symbols : List Symbol) (t : Expression) (behind rest : List Symbol) → behind ≡ Close ∷ rest
    → IsAnswer (Reads Comparison symbols) (Some (t, behind))
    → IsAnswer (Reads Primary (Open ∷ symbols)) (Some (t, rest))
bracket_answer symbols t behind rest close is =
    let there = subst (λ (s : List Symbol). IsAnswer (Reads Comparison symbols) (Some (t, s))) close is in (
      in_brackets symbols t rest there.0,
      λ u more r.
          let one = there.1 u (Close ∷ more) (reads_primary (Open ∷ symbols) u more r) in
          let tails : more ≡ rest = let whole = one.1 in cc in
          (one.0, tails),
    )

pub bracket_none : (symbols : List Symbol) → IsAnswer (Reads Comparison symbols) None
    → IsAnswer (Reads Primary (Open ∷ symbols)) None
bracket_none symbols nothing = λ u more r. nothing u (Close ∷ more) (reads_primary (Open ∷ symbols) u more r)

-- without its closing bracket
pub bracket_open : (symbols : List Symbol) (t : Expression) (behind : List Symbol)
    → IsAnswer (Reads Comparison symbols) (Some (t, behind)) → ((more : List Symbol) → behind ≢ Close ∷ more)
    → IsAnswer (Reads Primary (Open ∷ symbols)) None
bracket_open symbols t behind is unclosed = λ u more r.
    unclosed more (sym (is.1 u (Close ∷ more) (reads_primary (Open ∷ symbols) u more r)).1)

-- a function of its arguments
pub call_answer : (name : List ℕ) (symbols inside : List Symbol) (t : Expression) (ts : Arguments) (rest : List Symbol)
    → symbols ≡ Open ∷ inside → t ≡ call name ts → IsAnswer (AfterOpen inside) (Some (ts, rest))
    → IsAnswer (Reads Primary (Function name ∷ symbols)) (Some (t, rest))
call_answer name symbols inside t ts rest whole called is =
    subst (λ (s : List Symbol). IsAnswer (Reads Primary (Function name ∷ s)) (Some (t, rest))) (sym whole) (
      subst (λ (e : Expression). Reads Primary (Function name ∷ Open ∷ inside) e rest) (sym called)
          (after_open_reads name inside ts rest is.0),
      λ u more r.
          let found = reads_primary (Function name ∷ Open ∷ inside) u more r in
          let one = is.1 found.0 more found.2 in
          (found.1 ∙ ap (call name) one.0 ∙ sym called, one.1),
    )

pub call_none : (name : List ℕ) (symbols inside : List Symbol) → symbols ≡ Open ∷ inside
    → IsAnswer (AfterOpen inside) None → IsAnswer (Reads Primary (Function name ∷ symbols)) None
call_none name symbols inside whole nothing =
    subst (λ (s : List Symbol). IsAnswer (Reads Primary (Function name ∷ s)) None) (sym whole)
    (λ u more r.
    let found = reads_primary (Function name ∷ Open ∷ inside) u more r in
    nothing found.0 more found.2)

-- a function without its bracket
pub call_bare : (name : List ℕ) (symbols : List Symbol) → ((more : List Symbol) → symbols ≢ Open ∷ more)
    → IsAnswer (Reads Primary (Function name ∷ symbols)) None
call_bare name [] unopened = λ u more r. reads_primary (Function name ∷ []) u more r
call_bare name (Open ∷ symbols) unopened = absurd (unopened symbols refl)
call_bare name (a ∷ symbols) unopened = λ u more r. reads_primary (Function name ∷ a ∷ symbols) u more r
