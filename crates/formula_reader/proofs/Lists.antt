-- Arguments between commas, one after another.
use Rattle.std.proofs.Common.{◌≡◌, ◌≢◌, List, [], ◌∷◌, ◌++◌, refl, sym, ap, ◌∙◌, subst, append_assoc}
use Rattle.std.specs.Prelude.{Some, None}
use Rattle.formula_reader.specs.declared.grammar.level.Level.TheVariants.{Comparison}
use Rattle.formula_reader.specs.declared.symbols.Symbol.{Symbol}
use Rattle.formula_reader.specs.declared.symbols.Symbol.TheVariants.{Close, Comma}
use Rattle.formula_reader.specs.Tree.{Expression, Arguments, no_arguments, argument, arguments_before}
use Rattle.formula_reader.specs.Grammar.{Are, last, next}
use Rattle.formula_reader.specs.LevelReading.{Reads, ReadsArguments, IsAnswer}
use Rattle.formula_reader.proofs.Answers.{Alike}

-- behind an argument: the others behind its comma, or the closing bracket
abbrev pub AtArgument : Expression → List Symbol → Arguments → List Symbol → Type 0
AtArgument t (Comma ∷ more) ts rest = (us : Arguments) × (ts ≡ argument t us) × ReadsArguments more us rest
AtArgument t (Close ∷ more) ts rest = (ts ≡ argument t no_arguments) × (rest ≡ more)
AtArgument t _ ts rest = ⊥

-- arguments are the first one and what stands behind it
pub at_argument : (symbols : List Symbol) (t : Expression) (after : List Symbol)
    → IsAnswer (Reads Comparison symbols) (Some (t, after))
    → (ts : Arguments) (rest : List Symbol) → ReadsArguments symbols ts rest → AtArgument t after ts rest
at_argument symbols t after is ts rest r = go r.front ts r.are rest r.whole
  where
    go : (front : List Symbol) (ts : Arguments) → Are front ts → (rest : List Symbol)
        → symbols ≡ front ++ Close ∷ rest → AtArgument t after ts rest
    go front _ (last _ u h) rest whole =
        let one = is.1 u (Close ∷ rest) (record { front = front; whole = whole; has = h; ends = tt }) in
        subst (λ (s : List Symbol). AtArgument t s (argument u no_arguments) rest) one.1
        (ap (λ (e : Expression). argument e no_arguments) one.0, refl)
    go _ _ (next s z u us h k) rest whole =
        let one =
        is.1 u (Comma ∷ (z ++ Close ∷ rest))
        (record { front = s; whole = whole ∙ append_assoc s (Comma ∷ z) (Close ∷ rest); has = h; ends = tt }) in
        subst (λ (s : List Symbol). AtArgument t s (argument u us) rest) one.1
        (us, ap (λ (e : Expression). argument e us) one.0, record { front = z; whole = refl; are = k })

-- and these are arguments
argument_reads : (symbols : List Symbol) (t : Expression) (after : List Symbol) → Reads Comparison symbols t after
    → (ts : Arguments) (rest : List Symbol) → AtArgument t after ts rest → ReadsArguments symbols ts rest
argument_reads symbols t (Comma ∷ more) r ts rest found = record {
  front = r.front ++ Comma ∷ found.2.front;
  whole =
      r.whole ∙ ap (λ (s : List Symbol). r.front ++ Comma ∷ s) found.2.whole ∙ sym
      (append_assoc r.front (Comma ∷ found.2.front) (Close ∷ rest));
  are =
      subst (λ (us : Arguments). Are (r.front ++ Comma ∷ found.2.front) us) (sym found.1)
      (next r.front found.2.front t found.0 r.has found.2.are);
}
argument_reads symbols t (Close ∷ more) r ts rest found = record {
  front = r.front;
  whole = r.whole ∙ ap (λ (s : List Symbol). r.front ++ Close ∷ s) (sym found.1);
  are = subst (λ (us : Arguments). Are r.front us) (sym found.0) (last r.front t r.has);
}
argument_reads symbols t _ r ts rest found = absurd found

-- without a first one there are none
no_argument : (symbols : List Symbol) → IsAnswer (Reads Comparison symbols) None
    → (ts : Arguments) (rest : List Symbol) → ReadsArguments symbols ts rest → ⊥
no_argument symbols nothing ts rest r = go r.front ts r.are r.whole
  where
    go : (front : List Symbol) (ts : Arguments) → Are front ts → symbols ≡ front ++ Close ∷ rest → ⊥
    go front _ (last _ u h) whole =
        nothing u (Close ∷ rest) (record { front = front; whole = whole; has = h; ends = tt })
    go _ _ (next s z u us h k) whole =
        nothing u (Comma ∷ (z ++ Close ∷ rest))
        (record { front = s; whole = whole ∙ append_assoc s (Comma ∷ z) (Close ∷ rest); has = h; ends = tt })

neither : (t : Expression) (after : List Symbol) (ts : Arguments) (rest : List Symbol)
    → ((more : List Symbol) → after ≢ Comma ∷ more) → ((more : List Symbol) → after ≢ Close ∷ more)
    → AtArgument t after ts rest → ⊥
neither t (Comma ∷ more) ts rest no_comma no_close found = no_comma more refl
neither t (Close ∷ more) ts rest no_comma no_close found = no_close more refl
neither t _ ts rest no_comma no_close found = found

-- arguments behind those that are read
abbrev pub ReadsMore : List Expression → List Symbol → Arguments → List Symbol → Type 0
ReadsMore front symbols ts rest = (us : Arguments) × (ts ≡ arguments_before front us) × ReadsArguments symbols us rest

-- one more is read
pub behind_one : (front : List Expression) (t : Expression) (us : Arguments)
    → arguments_before (front ++ t ∷ []) us ≡ arguments_before front (argument t us)
behind_one [] t us = refl
behind_one (e ∷ front) t us = ap (argument e) (behind_one front t us)

-- none is read yet
pub none_read : (symbols : List Symbol) → Alike (ReadsArguments symbols) (ReadsMore [] symbols)
none_read symbols = record {
  to = λ ts rest r. (ts, refl, r);
  from = λ ts rest found. subst (λ (us : Arguments). ReadsArguments symbols us rest) (sym found.1) found.2;
}

-- behind a comma
pub comma_alike : (front all : List Expression) (symbols : List Symbol) (t : Expression) (behind_it more : List Symbol)
    → all ≡ front ++ t ∷ [] → behind_it ≡ Comma ∷ more
    → IsAnswer (Reads Comparison symbols) (Some (t, behind_it))
    → Alike (ReadsMore front symbols) (ReadsMore all more)
comma_alike front all symbols t behind_it more one_more comma is =
    let longer : (us : Arguments) → arguments_before all us ≡ arguments_before front (argument t us) =
    λ us. ap (λ (ts : List Expression). arguments_before ts us) one_more ∙ behind_one front t us in
    let there = subst (λ (s : List Symbol). IsAnswer (Reads Comparison symbols) (Some (t, s))) comma is in
    record {
      to = λ ts rest found.
          let inner = at_argument symbols t (Comma ∷ more) there found.0 rest found.2 in
          (inner.0, found.1 ∙ ap (arguments_before front) inner.1 ∙ sym (longer inner.0), inner.2);
      from = λ ts rest found. (
        argument t found.0,
        found.1 ∙ longer found.0,
        argument_reads symbols t (Comma ∷ more) there.0 (argument t found.0) rest (found.0, refl, found.2),
      );
    }

-- behind the closing bracket
pub close_answer : (front all : List Expression) (symbols : List Symbol) (t : Expression) (behind_it more : List Symbol)
    → all ≡ front ++ t ∷ [] → behind_it ≡ Close ∷ more
    → IsAnswer (Reads Comparison symbols) (Some (t, behind_it))
    → IsAnswer (ReadsMore front symbols) (Some (arguments_before all no_arguments, more))
close_answer front all symbols t behind_it more one_more close is =
    let longer : arguments_before all no_arguments ≡ arguments_before front (argument t no_arguments) =
    ap (λ (ts : List Expression). arguments_before ts no_arguments) one_more ∙ behind_one front t no_arguments in
    let there = subst (λ (s : List Symbol). IsAnswer (Reads Comparison symbols) (Some (t, s))) close is in (
      (
        argument t no_arguments,
        longer,
        argument_reads symbols t (Close ∷ more) there.0 (argument t no_arguments) more (refl, refl),
      ),
      λ ts rest found.
          let inner = at_argument symbols t (Close ∷ more) there found.0 rest found.2 in
          (found.1 ∙ ap (arguments_before front) inner.0 ∙ sym longer, inner.1),
    )

-- without an argument
pub argument_none : (front : List Expression) (symbols : List Symbol) → IsAnswer (Reads Comparison symbols) None
    → IsAnswer (ReadsMore front symbols) None
argument_none front symbols nothing = λ ts rest found. no_argument symbols nothing found.0 rest found.2

-- with neither behind it
pub other_none : (front : List Expression) (symbols : List Symbol) (t : Expression) (after : List Symbol)
    → IsAnswer (Reads Comparison symbols) (Some (t, after))
    → ((more : List Symbol) → after ≢ Comma ∷ more) → ((more : List Symbol) → after ≢ Close ∷ more)
    → IsAnswer (ReadsMore front symbols) None
other_none front symbols t after is no_comma no_close = λ ts rest found.
    neither t after found.0 rest no_comma no_close (at_argument symbols t after is found.0 rest found.2)
