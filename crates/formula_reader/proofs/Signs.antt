-- Signs before an operand, which all stand there before it is read.
use Rattle.std.proofs.Common.{◌≡◌, ℕ, List, ◌∷◌, ◌++◌, refl, sym, ap, subst, arith}
use Rattle.formula_reader.specs.declared.tokens.token.Operator.TheVariants.{Add, Subtract}
use Rattle.formula_reader.specs.declared.grammar.level.Level.{Level}
use Rattle.formula_reader.specs.declared.grammar.level.Level.TheVariants.{Unary, Primary}
use Rattle.formula_reader.specs.declared.symbols.Symbol.{Symbol}
use Rattle.formula_reader.specs.declared.symbols.Symbol.TheVariants.{Operator as Sign}
use Rattle.formula_reader.specs.Tree.{Expression, negative}
use Rattle.formula_reader.specs.Grammar.{tighter, Has, alone, chain, minus, plus, a_number, a_text, a_truth, a_reference, a_lost, a_word, bare_call, a_call, bracket}
use Rattle.formula_reader.specs.LevelReading.{rank, Reads, signs, negated}
use Rattle.formula_reader.proofs.Levels.{operator_rank, ends_signed}

-- what has no operator outside its brackets begins with no sign
unsigned : (s : List Symbol) (t : Expression) → Has Primary s t → (rest : List Symbol)
    → signs (s ++ rest) ≡ (0, s ++ rest)
unsigned s t h rest = go Primary s t h refl
  where
    go : (level : Level) (s : List Symbol) (t : Expression) → Has level s t → level ≡ Primary
        → signs (s ++ rest) ≡ (0, s ++ rest)
    go level s t (alone _ _ _ h) is = go (tighter level) s t h (ap tighter is)
    go level _ _ (chain op s z t u h k) is = absurd (omega (arith, operator_rank op, ap rank is))
    go level _ _ (minus s t h) is = absurd (omega (arith, ap rank is))
    go level _ _ (plus s t h) is = absurd (omega (arith, ap rank is))
    go level _ _ (a_number n) is = refl
    go level _ _ (a_text w) is = refl
    go level _ _ (a_truth b) is = refl
    go level _ _ (a_reference area) is = refl
    go level _ _ a_lost is = refl
    go level _ _ (a_word w) is = refl
    go level _ _ (bare_call name) is = refl
    go level _ _ (a_call name s ts h) is = refl
    go level _ _ (bracket s t h) is = refl

-- an operand behind all the signs
pub record Signed (symbols : List Symbol) (tree : Expression) (rest : List Symbol) : Type 0 where
  pub operand : Expression
  pub reads : Reads Primary (signs symbols).1 operand rest
  pub is : tree ≡ negated (signs symbols).0 operand

-- one sign more
more_minus : (symbols : List Symbol) (t : Expression) (rest : List Symbol) → Signed symbols t rest
    → Signed (Sign Subtract ∷ symbols) (negative t) rest
more_minus symbols t rest signed = record { operand = signed.operand; reads = signed.reads; is = ap negative signed.is }

-- symbols of the level are an operand behind signs
signed : (level : Level) (s : List Symbol) (t : Expression) → Has level s t → level ≡ Unary → (rest : List Symbol)
    → Signed (s ++ rest) t rest
signed level s t (alone _ _ _ h) is rest =
    let operand : Has Primary s t = subst (λ (l : Level). Has l s t) (ap tighter is) h in
    let all = unsigned s t operand rest in
    record {
      operand = t;
      reads =
          subst (λ (p : ℕ × List Symbol). Reads Primary p.1 t rest) (sym all)
          (record { front = s; whole = refl; has = operand; ends = ends_signed Primary rest (omega arith) });
      is = ap (λ (p : ℕ × List Symbol). negated p.0 t) (sym all);
    }
signed level _ _ (chain op s z t u h k) is rest = absurd (omega (arith, operator_rank op, ap rank is))
signed level _ _ (minus s t h) is rest = more_minus (s ++ rest) t rest (signed Unary s t h refl rest)
signed level _ _ (plus s t h) is rest =
    let inner = signed Unary s t h refl rest in
    record { operand = inner.operand; reads = inner.reads; is = inner.is }
signed level _ _ (a_number n) is rest = absurd (omega (arith, ap rank is))
signed level _ _ (a_text w) is rest = absurd (omega (arith, ap rank is))
signed level _ _ (a_truth b) is rest = absurd (omega (arith, ap rank is))
signed level _ _ (a_reference area) is rest = absurd (omega (arith, ap rank is))
signed level _ _ a_lost is rest = absurd (omega (arith, ap rank is))
signed level _ _ (a_word w) is rest = absurd (omega (arith, ap rank is))
signed level _ _ (bare_call name) is rest = absurd (omega (arith, ap rank is))
signed level _ _ (a_call name s ts h) is rest = absurd (omega (arith, ap rank is))
signed level _ _ (bracket s t h) is rest = absurd (omega (arith, ap rank is))

-- what is read with its signs is read behind them
pub reads_signed : (symbols : List Symbol) (t : Expression) (rest : List Symbol) → Reads Unary symbols t rest
    → Signed symbols t rest
reads_signed symbols t rest r =
    subst (λ (s : List Symbol). Signed s t rest) (sym r.whole) (signed Unary r.front t r.has refl rest)

-- one without signs
plain_reads : (symbols : List Symbol) (t : Expression) (rest : List Symbol) → Reads Primary symbols t rest
    → Reads Unary symbols t rest
plain_reads symbols t rest r = record {
  front = r.front;
  whole = r.whole;
  has = alone Unary r.front t r.has;
  ends = ends_signed Unary rest (omega arith);
}

-- and the other way round
pub signed_reads : (symbols : List Symbol) (t : Expression) (rest : List Symbol)
    → Reads Primary (signs symbols).1 t rest
    → Reads Unary symbols (negated (signs symbols).0 t) rest
signed_reads (Sign Subtract ∷ symbols) t rest r =
    let inner = signed_reads symbols t rest r in
    record {
      front = Sign Subtract ∷ inner.front;
      whole = ap (λ s. Sign Subtract ∷ s) inner.whole;
      has = minus inner.front _ inner.has;
      ends = ends_signed Unary rest (omega arith);
    }
signed_reads (Sign Add ∷ symbols) t rest r =
    let inner = signed_reads symbols t rest r in
    record {
      front = Sign Add ∷ inner.front;
      whole = ap (λ s. Sign Add ∷ s) inner.whole;
      has = plus inner.front _ inner.has;
      ends = ends_signed Unary rest (omega arith);
    }
signed_reads symbols t rest r = plain_reads symbols t rest r
