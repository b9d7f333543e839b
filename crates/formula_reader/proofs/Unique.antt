-- Symbols have at most one tree.
use Rattle.std.proofs.Common.{◌≡◌, ℕ, zero, suc, ◌+◌, ◌-◌, ◌*◌, ◌<◌, ◌≤◌, length, List, [], ◌∷◌, ◌++◌, refl, sym, ap, ◌∙◌, subst, arith, append_assoc}
use Rattle.std.specs.Prelude.{Some}
use Rattle.formula_reader.specs.declared.tokens.token.Operator.TheVariants.{Add, Subtract}
use Rattle.formula_reader.specs.declared.grammar.level.Level.{Level}
use Rattle.formula_reader.specs.declared.grammar.level.Level.TheVariants.{Comparison, Join, Sum, Term, Unary, Primary}
use Rattle.formula_reader.specs.declared.symbols.Symbol.{Symbol}
use Rattle.formula_reader.specs.declared.symbols.Symbol.TheVariants.{Number, Text, Truth, Ref, Lost, Word, Function, Operator as Sign, Open, Close, Comma}
use Rattle.formula_reader.specs.Tree.{Expression, binary, call, Arguments, argument}
use Rattle.formula_reader.specs.Grammar.{tighter, HasTree, Are, last, next}
use Rattle.formula_reader.specs.LevelReading.{rank, Ends, Reads, ReadsOn, stops, goes_on, ReadsArguments, AfterOpen, signs, negated, IsAnswer}
use Rattle.formula_reader.proofs.Answers.{left_within}
use Rattle.formula_reader.proofs.Lists.{AtArgument, at_argument}
use Rattle.formula_reader.proofs.Chains.{reads_unrolled, at_operator, at_end}
use Rattle.formula_reader.proofs.Signs.{reads_signed}
use Rattle.formula_reader.proofs.Primaries.{AtPrimary, reads_primary}
use Rattle.formula_reader.proofs.Whole.{tree_reads}

-- at most one thing is read
abbrev pub AtMostOne : {A : Type 0} → (A → List Symbol → Type 0) → Type 0
AtMostOne R = (a b : _) (s z : List Symbol) → R a s → R b z → (a ≡ b) × (s ≡ z)

-- behind the signs
signed_once : (symbols : List Symbol) → AtMostOne (Reads Primary (signs symbols).1) → AtMostOne (Reads Unary symbols)
signed_once symbols once = λ t u s z r q.
    let one = reads_signed symbols t s r in
    let other = reads_signed symbols u z q in
    let same = once one.operand other.operand s z one.reads other.reads in
    (one.is ∙ ap (negated (signs symbols).0) same.0 ∙ sym other.is, same.1)

-- operands of a level, of symbols not longer than these
abbrev Operands : Level → List Symbol → Type 0
Operands level symbols = (z : List Symbol) → length z ≤ length symbols → AtMostOne (Reads (tighter level) z)

-- reading on
on_once : (level : Level) (symbols : List Symbol) → Operands level symbols
    → (t v : Expression) (behind rest : List Symbol) → ReadsOn level t behind v rest → length behind ≤ length symbols
    → (w : Expression) (end : List Symbol) → ReadsOn level t behind w end → (v ≡ w) × (rest ≡ end)
on_once level symbols once t v behind rest (stops _ _ ends) short w end other =
    let stop = at_end level t behind w end other (λ op inside is same.
    let there : Ends level (Sign op ∷ inside) = subst (λ (s : List Symbol). Ends level s) is ends in
    omega (arith, ap rank same, there)) in
    (sym stop.0, sym stop.1)
on_once level symbols once t v _ rest (goes_on _ u _ op inside more _ same r on) short w end other =
    let found = at_operator level t (Sign op ∷ inside) w end other op inside refl same in
    let one = once inside (omega arith) u found.0 more found.1 r found.2 in
    let left = left_within (tighter level) inside u more r in
    on_once level symbols once (binary op t u) v more rest on (omega arith) w end
    (subst (λ (e : Expression). ReadsOn level (binary op t e) more w end) (sym one.0)
    (subst (λ (s : List Symbol). ReadsOn level (binary op t found.0) s w end) (sym one.1) found.3))

chain_once : (level : Level) (symbols : List Symbol) → rank level < 4 → Operands level symbols
    → AtMostOne (Reads level symbols)
chain_once level symbols low once = λ t u s z r q.
    let one = reads_unrolled level symbols t s low r in
    let other = reads_unrolled level symbols u z low q in
    let same = once symbols (omega arith) one.first other.first one.behind other.behind one.reads other.reads in
    on_once level symbols once one.first t one.behind s one.on
    (left_within (tighter level) symbols one.first one.behind one.reads) u z
    (subst (λ (e : Expression). ReadsOn level e one.behind u z) (sym same.0)
    (subst (λ (b : List Symbol). ReadsOn level other.first b u z) (sym same.1) other.on))

-- the first of arguments
first_argument : (symbols : List Symbol) (ts : Arguments) (rest : List Symbol) → ReadsArguments symbols ts rest
    → (t : Expression) × (after : List Symbol) × Reads Comparison symbols t after
first_argument symbols ts rest r = go r.front ts r.are r.whole
  where
    go : (front : List Symbol) (ts : Arguments) → Are front ts → symbols ≡ front ++ Close ∷ rest
        → (t : Expression) × (after : List Symbol) × Reads Comparison symbols t after
    go front _ (last _ u h) whole = (u, Close ∷ rest, record { front = front; whole = whole; has = h; ends = tt })
    go _ _ (next s z u us h k) whole = (
      u,
      Comma ∷ (z ++ Close ∷ rest),
      record { front = s; whole = whole ∙ append_assoc s (Comma ∷ z) (Close ∷ rest); has = h; ends = tt },
    )

-- the arguments behind one of them, where those behind its comma are the only ones
others_once : (t : Expression) (after : List Symbol)
    → ((more : List Symbol) → length more < length after → AtMostOne (ReadsArguments more)) → AtMostOne
    (AtArgument t after)
others_once t (Comma ∷ more) once = λ ts us s z one other.
    let same = once more (omega arith) one.0 other.0 s z one.2 other.2 in
    (one.1 ∙ ap (argument t) same.0 ∙ sym other.1, same.1)
others_once t (Close ∷ more) once = λ ts us s z one other. (one.0 ∙ sym other.0, one.1 ∙ sym other.1)
others_once t _ once = λ ts us s z one other. absurd one

-- arguments, where each is the only one
arguments_once : (n : ℕ) (symbols : List Symbol) → length symbols < n
    → ((z : List Symbol) → length z ≤ length symbols → AtMostOne (Reads Comparison z)) → AtMostOne
    (ReadsArguments symbols)
arguments_once zero symbols short once = absurd (omega arith)
arguments_once (suc n) symbols short once = λ ts us s z r q.
    let first = first_argument symbols ts s r in
    let is : IsAnswer (Reads Comparison symbols) (Some (first.0, first.1)) =
    (first.2, λ a b h. once symbols (omega arith) a first.0 b first.1 h first.2) in
    let left = left_within Comparison symbols first.0 first.1 first.2 in
    others_once first.0 first.1
    (λ more lt. arguments_once n more (omega arith) (λ y le. once y (omega arith)))
    ts us s z (at_argument symbols first.0 first.1 is ts s r) (at_argument symbols first.0 first.1 is us z q)

after_open_once : (symbols : List Symbol)
    → ((z : List Symbol) → length z ≤ length symbols → AtMostOne (Reads Comparison z))
    → AtMostOne (AfterOpen symbols)
after_open_once (Close ∷ more) once = λ ts us s z r q. (r.0 ∙ sym q.0, r.1 ∙ sym q.1)
after_open_once [] once = arguments_once 1 [] (omega arith) once
after_open_once symbols once = arguments_once (length symbols + 1) symbols (omega arith) once

-- operands, where what is in their brackets is the only thing
primary_once : (symbols : List Symbol)
    → ((z : List Symbol) → length z < length symbols → AtMostOne (Reads Comparison z))
    → AtMostOne (Reads Primary symbols)
primary_once symbols once =
    λ t u s z r q. go symbols once t u s z (reads_primary symbols t s r) (reads_primary symbols u z q)
  where
    go : (symbols : List Symbol) → ((z : List Symbol) → length z < length symbols → AtMostOne (Reads Comparison z))
        → AtMostOne (AtPrimary symbols)
    go (Number n ∷ more) once = λ t u s z r q. (r.0 ∙ sym q.0, r.1 ∙ sym q.1)
    go (Text w ∷ more) once = λ t u s z r q. (r.0 ∙ sym q.0, r.1 ∙ sym q.1)
    go (Truth b ∷ more) once = λ t u s z r q. (r.0 ∙ sym q.0, r.1 ∙ sym q.1)
    go (Ref area ∷ more) once = λ t u s z r q. (r.0 ∙ sym q.0, r.1 ∙ sym q.1)
    go (Lost ∷ more) once = λ t u s z r q. (r.0 ∙ sym q.0, r.1 ∙ sym q.1)
    go (Word w ∷ more) once = λ t u s z r q. (r.0 ∙ sym q.0, r.1 ∙ sym q.1)
    go (Function name ∷ Open ∷ more) once = λ t u s z r q.
        let same = after_open_once more (λ y le. once y (omega arith)) r.0 q.0 s z r.2 q.2 in
        (r.1 ∙ ap (call name) same.0 ∙ sym q.1, same.1)
    go (Open ∷ more) once = λ t u s z r q.
        let same = once more (omega arith) t u (Close ∷ s) (Close ∷ z) r q in
        let tails : s ≡ z = let whole = same.1 in cc in
        (same.0, tails)
    go _ once = λ t u s z r q. absurd r

signs_within : (symbols : List Symbol) → length (signs symbols).1 ≤ length symbols
signs_within (Sign Subtract ∷ rest) = omega (arith, signs_within rest)
signs_within (Sign Add ∷ rest) = omega (arith, signs_within rest)
signs_within _ = omega arith

-- what is read of a level is the only thing
read_once : (n : ℕ) (level : Level) (symbols : List Symbol) → 6 * length symbols + (5 - rank level) < n
    → AtMostOne (Reads level symbols)
read_once zero level symbols less = absurd (omega arith)
read_once (suc n) Comparison symbols less =
    chain_once Comparison symbols (omega arith) (λ z le. read_once n Join z (omega arith))
read_once (suc n) Join symbols less = chain_once Join symbols (omega arith) (λ z le. read_once n Sum z (omega arith))
read_once (suc n) Sum symbols less = chain_once Sum symbols (omega arith) (λ z le. read_once n Term z (omega arith))
read_once (suc n) Term symbols less = chain_once Term symbols (omega arith) (λ z le. read_once n Unary z (omega arith))
read_once (suc n) Unary symbols less =
    signed_once symbols (read_once n Primary (signs symbols).1 (omega (arith, signs_within symbols)))
read_once (suc n) Primary symbols less = primary_once symbols (λ z lt. read_once n Comparison z (omega arith))

-- symbols have at most one tree
pub one_tree : (symbols : List Symbol) (t u : Expression) → HasTree symbols t → HasTree symbols u → t ≡ u
one_tree symbols t u h k =
    (read_once (6 * length symbols + 6) Comparison symbols (omega arith) t u [] [] (tree_reads symbols t h)
    (tree_reads symbols u k)).0
