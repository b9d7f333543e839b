-- Operators between operands: reading a chain from the left is reading its first operand, and then
-- reading on.
use Rattle.std.proofs.Common.{◌≡◌, ◌≢◌, ◌<◌, List, ◌∷◌, ◌++◌, refl, sym, ap, ◌∙◌, subst, arith, append_assoc}
use Rattle.formula_reader.specs.declared.tokens.token.Operator.{Operator}
use Rattle.formula_reader.specs.declared.grammar.level.Level.{Level}
use Rattle.formula_reader.specs.declared.symbols.Symbol.{Symbol}
use Rattle.formula_reader.specs.declared.symbols.Symbol.TheVariants.{Operator as Sign}
use Rattle.formula_reader.specs.Tree.{Expression, binary}
use Rattle.formula_reader.specs.Grammar.{level_of, tighter, Has, alone, chain, minus, plus, a_number, a_text, a_truth, a_reference, a_lost, a_word, bare_call, a_call, bracket}
use Rattle.formula_reader.specs.LevelReading.{rank, Ends, Reads, ReadsOn, stops, goes_on}
use Rattle.formula_reader.proofs.Levels.{tighter_rank, same_rank, ends_tighter}

-- a first operand, and reading on behind it
pub record Unrolled (level : Level) (symbols : List Symbol) (tree : Expression) (rest : List Symbol) : Type 0 where
  pub first : Expression
  pub behind : List Symbol
  pub reads : Reads (tighter level) symbols first behind
  pub on : ReadsOn level first behind tree rest

-- symbols of the level are a first operand, behind which reading on comes to where they end
unroll : (level : Level) (s : List Symbol) (t : Expression) → Has level s t → rank level < 4
    → (v : Expression) (behind rest : List Symbol) → Ends (tighter level) behind → ReadsOn level t behind v rest
    → Unrolled level (s ++ behind) v rest
unroll level s t (alone _ _ _ h) low v behind rest ends on =
    record { first = t; behind = behind; reads = record { front = s; whole = refl; has = h; ends = ends }; on = on }
unroll level _ _ (chain op s z t u h k) low v behind rest ends on =
    let e : (s ++ Sign op ∷ z) ++ behind ≡ s ++ (Sign op ∷ z ++ behind) = append_assoc s (Sign op ∷ z) behind in
    subst (λ (symbols : List Symbol). Unrolled (level_of op) symbols v rest) (sym e)
    (unroll (level_of op) s t h low v (Sign op ∷ (z ++ behind)) rest (omega (arith, tighter_rank (level_of op) low))
    (goes_on t u v op (z ++ behind) behind rest refl (record { front = z; whole = refl; has = k; ends = ends }) on))
unroll level _ _ (minus s t h) low v behind rest ends on = absurd (omega arith)
unroll level _ _ (plus s t h) low v behind rest ends on = absurd (omega arith)
unroll level _ _ (a_number n) low v behind rest ends on = absurd (omega arith)
unroll level _ _ (a_text w) low v behind rest ends on = absurd (omega arith)
unroll level _ _ (a_truth b) low v behind rest ends on = absurd (omega arith)
unroll level _ _ (a_reference area) low v behind rest ends on = absurd (omega arith)
unroll level _ _ a_lost low v behind rest ends on = absurd (omega arith)
unroll level _ _ (a_word w) low v behind rest ends on = absurd (omega arith)
unroll level _ _ (bare_call name) low v behind rest ends on = absurd (omega arith)
unroll level _ _ (a_call name s ts h) low v behind rest ends on = absurd (omega arith)
unroll level _ _ (bracket s t h) low v behind rest ends on = absurd (omega arith)

-- what is read is read from its first operand on
pub reads_unrolled : (level : Level) (symbols : List Symbol) (v : Expression) (rest : List Symbol) → rank level < 4
    → Reads level symbols v rest → Unrolled level symbols v rest
reads_unrolled level symbols v rest low r =
    subst (λ (s : List Symbol). Unrolled level s v rest) (sym r.whole)
    (unroll level r.front v r.has low v rest rest
    (ends_tighter level (tighter level) rest (omega (arith, tighter_rank level low)) r.ends) (stops v rest r.ends))

-- reading on adds to what is read
rolled : (level : Level) (t : Expression) (behind : List Symbol) (v : Expression) (rest : List Symbol)
    → ReadsOn level t behind v rest → (s : List Symbol) → Has level s t → Reads level (s ++ behind) v rest
rolled level t behind v rest (stops _ _ ends) s h = record { front = s; whole = refl; has = h; ends = ends }
rolled level t _ v rest (goes_on _ u _ op symbols more _ same r on) s h =
    let long : Has level (s ++ Sign op ∷ r.front) (binary op t u) =
    subst (λ (l : Level). Has l s t → Has (tighter l) r.front u → Has l (s ++ Sign op ∷ r.front) (binary op t u)) same
    (chain op s r.front t u) h r.has in
    let e : (s ++ Sign op ∷ r.front) ++ more ≡ s ++ Sign op ∷ symbols =
    append_assoc s (Sign op ∷ r.front) more ∙ ap (λ z. s ++ Sign op ∷ z) (sym r.whole) in
    subst (λ (z : List Symbol). Reads level z v rest) e
    (rolled level (binary op t u) more v rest on (s ++ Sign op ∷ r.front) long)

-- from a first operand on, what is read on is read
pub unrolled_reads : (level : Level) (symbols : List Symbol) (v : Expression) (rest : List Symbol)
    → Unrolled level symbols v rest → Reads level symbols v rest
unrolled_reads level symbols v rest un =
    subst (λ (z : List Symbol). Reads level z v rest) (sym un.reads.whole)
    (rolled level un.first un.behind v rest un.on un.reads.front (alone level un.reads.front un.first un.reads.has))

-- where an operator of the level is next, its operand is read and then on
pub at_operator : (level : Level) (t : Expression) (behind : List Symbol) (v : Expression) (rest : List Symbol)
    → ReadsOn level t behind v rest → (op : Operator) (symbols : List Symbol) → behind ≡ Sign op ∷ symbols
    → level_of op ≡ level
    → (u : Expression) × (more : List Symbol) × Reads (tighter level) symbols u more × ReadsOn level
    (binary op t u) more v rest
at_operator level t behind v rest (stops _ _ ends) op symbols is same =
    let there : Ends level (Sign op ∷ symbols) = subst (λ (s : List Symbol). Ends level s) is ends in
    absurd (omega (arith, ap rank same, there))
at_operator level t _ v rest (goes_on _ u _ op' symbols' more _ same' r on) op symbols is same =
    let op_is : op' ≡ op = cc in
    let symbols_are : symbols' ≡ symbols = cc in (
      u,
      more,
      subst (λ (s : List Symbol). Reads (tighter level) s u more) symbols_are r,
      subst (λ (o : Operator). ReadsOn level (binary o t u) more v rest) op_is on,
    )

-- where none is, nothing is read on
pub at_end : (level : Level) (t : Expression) (behind : List Symbol) (v : Expression) (rest : List Symbol)
    → ReadsOn level t behind v rest
    → ((op : Operator) (symbols : List Symbol) → behind ≡ Sign op ∷ symbols → level_of op ≢ level)
    → (v ≡ t) × (rest ≡ behind)
at_end level t behind v rest (stops _ _ ends) no_operator = (refl, refl)
at_end level t _ v rest (goes_on _ u _ op symbols more _ same r on) no_operator =
    absurd (no_operator op symbols refl same)

-- symbols that go on with no operator of the level don't continue it
pub ends_here : (level : Level) (symbols : List Symbol) → rank level < 4 → Ends (tighter level) symbols
    → ((op : Operator) (rest : List Symbol) → symbols ≡ Sign op ∷ rest → level_of op ≢ level)
    → Ends level symbols
ends_here level (Sign op ∷ rest) low ends no_operator =
    let differ : rank (level_of op) ≢ rank level = λ same. no_operator op rest refl
    (same_rank (level_of op) level same) in
    omega (arith, tighter_rank level low, ends, differ)
ends_here level _ low ends no_operator = tt
