-- What has no operator outside its brackets, by the symbol that it begins with.
use Rattle.std.proofs.Common.{◌≡◌, ℕ, List, [], ◌∷◌, ◌++◌, refl, sym, ap, ◌∙◌, subst, arith, append_assoc}
use Rattle.std.specs.Prelude.{⊤}
use Rattle.formula_reader.specs.declared.grammar.level.Level.{Level}
use Rattle.formula_reader.specs.declared.grammar.level.Level.TheVariants.{Comparison, Primary}
use Rattle.formula_reader.specs.declared.symbols.Symbol.{Symbol}
use Rattle.formula_reader.specs.declared.symbols.Symbol.TheVariants.{Number, Text, Truth, Ref, Lost, Word, Function, Operator as Sign, Open, Close, Comma}
use Rattle.formula_reader.specs.Tree.{Expression, number, text, truth, reference, lost, word, call, Arguments, no_arguments}
use Rattle.formula_reader.specs.Grammar.{level_of, tighter, Has, alone, chain, minus, plus, a_number, a_text, a_truth, a_reference, a_lost, a_word, bare_call, a_call, bracket, Are, last, next}
use Rattle.formula_reader.specs.LevelReading.{rank, Reads, ReadsArguments, AfterOpen}
use Rattle.formula_reader.proofs.Levels.{operator_rank, ends_signed}

-- neither nothing nor a closing bracket
abbrev pub Begins : List Symbol → Type 0
Begins [] = ⊥
Begins (Close ∷ s) = ⊥
Begins _ = ⊤

begins_more : (s z : List Symbol) → Begins s → Begins (s ++ z)
begins_more [] z b = absurd b
begins_more (Close ∷ s) z b = absurd b
begins_more _ z b = b

-- what has a level begins so
pub begins : (level : Level) (s : List Symbol) (t : Expression) → Has level s t → Begins s
begins level s t (alone _ _ _ h) = begins (tighter level) s t h
begins level _ _ (chain op s z t u h k) = begins_more s (Sign op ∷ z) (begins (level_of op) s t h)
begins level _ _ (minus s t h) = tt
begins level _ _ (plus s t h) = tt
begins level _ _ (a_number n) = tt
begins level _ _ (a_text w) = tt
begins level _ _ (a_truth b) = tt
begins level _ _ (a_reference area) = tt
begins level _ _ a_lost = tt
begins level _ _ (a_word w) = tt
begins level _ _ (bare_call name) = tt
begins level _ _ (a_call name s ts h) = tt
begins level _ _ (bracket s t h) = tt

-- so do arguments
begins_arguments : (s : List Symbol) (ts : Arguments) → Are s ts → Begins s
begins_arguments s _ (last _ t h) = begins Comparison s t h
begins_arguments _ _ (next s z t ts h k) = begins_more s (Comma ∷ z) (begins Comparison s t h)

after_open : (symbols : List Symbol) (ts : Arguments) (rest : List Symbol) → ReadsArguments symbols ts rest
    → Begins symbols → AfterOpen symbols ts rest
after_open [] ts rest r b = absurd b
after_open (Close ∷ more) ts rest r b = absurd b
after_open _ ts rest r b = r

-- an operand by its first symbol
abbrev pub AtPrimary : List Symbol → Expression → List Symbol → Type 0
AtPrimary (Number n ∷ more) t rest = (t ≡ number n) × (rest ≡ more)
AtPrimary (Text w ∷ more) t rest = (t ≡ text w) × (rest ≡ more)
AtPrimary (Truth b ∷ more) t rest = (t ≡ truth b) × (rest ≡ more)
AtPrimary (Ref area ∷ more) t rest = (t ≡ reference area) × (rest ≡ more)
AtPrimary (Lost ∷ more) t rest = (t ≡ lost) × (rest ≡ more)
AtPrimary (Word w ∷ more) t rest = (t ≡ word w) × (rest ≡ more)
AtPrimary (Function name ∷ Open ∷ more) t rest = (ts : Arguments) × (t ≡ call name ts) × AfterOpen more ts rest
AtPrimary (Open ∷ more) t rest = Reads Comparison more t (Close ∷ rest)
AtPrimary _ t rest = ⊥

-- an operand is what its first symbol says
at_primary : (level : Level) (s : List Symbol) (t : Expression) → Has level s t → level ≡ Primary → (rest : List Symbol)
    → AtPrimary (s ++ rest) t rest
at_primary level s t (alone _ _ _ h) is rest = at_primary (tighter level) s t h (ap tighter is) rest
at_primary level _ _ (chain op s z t u h k) is rest = absurd (omega (arith, operator_rank op, ap rank is))
at_primary level _ _ (minus s t h) is rest = absurd (omega (arith, ap rank is))
at_primary level _ _ (plus s t h) is rest = absurd (omega (arith, ap rank is))
at_primary level _ _ (a_number n) is rest = (refl, refl)
at_primary level _ _ (a_text w) is rest = (refl, refl)
at_primary level _ _ (a_truth b) is rest = (refl, refl)
at_primary level _ _ (a_reference area) is rest = (refl, refl)
at_primary level _ _ a_lost is rest = (refl, refl)
at_primary level _ _ (a_word w) is rest = (refl, refl)
at_primary level _ _ (bare_call name) is rest = (no_arguments, refl, (refl, refl))
at_primary level _ _ (a_call name s ts h) is rest =
    let whole : (s ++ Close ∷ []) ++ rest ≡ s ++ Close ∷ rest = append_assoc s (Close ∷ []) rest in (
      ts,
      refl,
      after_open ((s ++ Close ∷ []) ++ rest) ts rest
          (record { front = s; whole = whole; are = h })
          (begins_more (s ++ Close ∷ []) rest (begins_more s (Close ∷ []) (begins_arguments s ts h))),
    )
at_primary level _ _ (bracket s t h) is rest =
    record { front = s; whole = append_assoc s (Close ∷ []) rest; has = h; ends = tt }

pub reads_primary : (symbols : List Symbol) (t : Expression) (rest : List Symbol) → Reads Primary symbols t rest
    → AtPrimary symbols t rest
reads_primary symbols t rest r =
    subst (λ (s : List Symbol). AtPrimary s t rest) (sym r.whole) (at_primary Primary r.front t r.has refl rest)

-- one symbol
pub one_symbol : (a : Symbol) (t : Expression) (rest : List Symbol) → Has Primary (a ∷ []) t
    → Reads Primary (a ∷ rest) t rest
one_symbol a t rest h = record { front = a ∷ []; whole = refl; has = h; ends = ends_signed Primary rest (omega arith) }

-- brackets round an expression
pub in_brackets : (more : List Symbol) (t : Expression) (rest : List Symbol) → Reads Comparison more t (Close ∷ rest)
    → Reads Primary (Open ∷ more) t rest
in_brackets more t rest r = record {
  front = Open ∷ r.front ++ Close ∷ [];
  whole = ap (λ (s : List Symbol). Open ∷ s) (r.whole ∙ sym (append_assoc r.front (Close ∷ []) rest));
  has = bracket r.front t r.has;
  ends = ends_signed Primary rest (omega arith);
}

-- a function without arguments, and one of arguments
pub bare : (name : List ℕ) (rest : List Symbol)
    → Reads Primary (Function name ∷ Open ∷ Close ∷ rest) (call name no_arguments) rest
bare name rest = record {
  front = Function name ∷ Open ∷ Close ∷ [];
  whole = refl;
  has = bare_call name;
  ends = ends_signed Primary rest (omega arith);
}

pub of_arguments : (name : List ℕ) (more : List Symbol) (ts : Arguments) (rest : List Symbol)
    → ReadsArguments more ts rest
    → Reads Primary (Function name ∷ Open ∷ more) (call name ts) rest
of_arguments name more ts rest r = record {
  front = Function name ∷ Open ∷ r.front ++ Close ∷ [];
  whole = ap (λ (s : List Symbol). Function name ∷ Open ∷ s) (r.whole ∙ sym (append_assoc r.front (Close ∷ []) rest));
  has = a_call name r.front ts r.are;
  ends = ends_signed Primary rest (omega arith);
}

pub after_open_reads : (name : List ℕ) (symbols : List Symbol) (ts : Arguments) (rest : List Symbol)
    → AfterOpen symbols ts rest
    → Reads Primary (Function name ∷ Open ∷ symbols) (call name ts) rest
after_open_reads name (Close ∷ more) ts rest found =
    subst (λ (us : Arguments). Reads Primary (Function name ∷ Open ∷ Close ∷ more) (call name us) rest) (sym found.0)
    (subst (λ (s : List Symbol). Reads Primary (Function name ∷ Open ∷ Close ∷ s)
    (call name no_arguments) rest) found.1 (bare name rest))
after_open_reads name symbols ts rest found = of_arguments name symbols ts rest found
