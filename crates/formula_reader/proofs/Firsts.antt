-- The first of several forms that fits.
use Rattle.std.proofs.Common.{◌≡◌, ◌≢◌, ℕ, List, [], ◌∷◌, ◌++◌, refl, sym, ap, ◌∙◌, inl, inr, subst}
use Rattle.std.specs.Prelude.{Option, Some, None, IfSome}
use Rattle.std.specs.Option.{option_or}
use denote.Ref.{Bor}
use Rattle.formula_reader.specs.declared.tokens.token.Token.{Token}
use Rattle.formula_reader.specs.Form.{Form, Fits, FunctionName, OwnReference, AnyWord, Digits, Quoted, Sign}
use Rattle.formula_reader.specs.Tokens.{FitsNowhere, FitsFirst, signs}
use Rattle.formula_reader.specs.Reading.{Stands, Reads, seen}
use Rattle.formula_reader.proofs.Read.{none_read}

-- the forms behind each that isn't a sign
abbrev pub behind_digits : List Form
behind_digits = Quoted ∷ signs

abbrev pub behind_word : List Form
behind_word = Digits ∷ behind_digits

abbrev pub behind_reference : List Form
behind_reference = AnyWord ∷ behind_word

abbrev pub behind_function : List Form
behind_function = OwnReference ∷ behind_reference

abbrev pub behind_titled : List Form
behind_titled = FunctionName ∷ behind_function

-- nothing fits where nothing was read
pub nothing_fits : (form : Form) (text : List ℕ) → Reads (Fits form) text None → FitsNowhere form text
nothing_fits form text none lexeme token rest e is =
    none_read none (record { lexeme = lexeme; spelled = e; is = is })

nowhere_at : (form : Form) (text other : List ℕ) → text ≡ other → FitsNowhere form text → FitsNowhere form other
nowhere_at form text other e none = subst (λ (t : List ℕ). FitsNowhere form t) e none

-- the first form is passed over
pub pass_over : (form : Form) (later : List Form) (text : List ℕ) (answer : Option (Token × List ℕ))
    → FitsNowhere form text → Reads (FitsFirst later) text answer → Reads (FitsFirst (form ∷ later)) text answer
pass_over form later text answer none reads = record {
  found = found answer reads;
  only = λ token rest stands.
      elim stands.is [
        | inl is ↦ absurd (none stands.lexeme token rest stands.spelled is)
        | inr is ↦ reads.only token rest (record { lexeme = stands.lexeme; spelled = stands.spelled; is = is.1 })
      ];
}
  where
    found : (answer : Option (Token × List ℕ)) → Reads (FitsFirst later) text answer
        → IfSome answer (λ read. Stands (FitsFirst (form ∷ later)) text read.0 read.1)
    found None reads = tt
    found (Some read) reads = record {
      lexeme = reads.found.lexeme;
      spelled = reads.found.spelled;
      is = inr (nowhere_at form text (reads.found.lexeme ++ read.1) reads.found.spelled none, reads.found.is);
    }

-- the first form fits
pub fits_here : (form : Form) (later : List Form) (text : List ℕ) (read : Token × List ℕ)
    → Reads (Fits form) text (Some read) → Reads (FitsFirst (form ∷ later)) text (Some read)
fits_here form later text read reads = record {
  found = record { lexeme = reads.found.lexeme; spelled = reads.found.spelled; is = inl reads.found.is };
  only = λ token rest stands.
      elim stands.is [
        | inl is ↦ reads.only token rest (record { lexeme = stands.lexeme; spelled = stands.spelled; is = is })
        | inr is ↦
            absurd (is.0 reads.found.lexeme read.0 read.1 (sym stands.spelled ∙ reads.found.spelled) reads.found.is)
      ];
}

pub nothing_first : (text : List ℕ) → Reads (FitsFirst []) text None
nothing_first text = record { found = tt; only = λ token rest stands. absurd stands.is }

pub no_sign : (spelling : List ℕ) (sign : Token) (text : List ℕ) → ((rest : List ℕ) → text ≢ spelling ++ rest)
    → Reads (Fits (Sign spelling sign)) text None
no_sign spelling sign text none = record {
  found = tt;
  only = λ token rest stands. absurd (none rest (stands.spelled ∙ ap (λ t. t ++ rest) stands.is.0));
}

-- one answer after another
pub or_first : (form : Form) (later : List Form) (text : List ℕ) (a b : Option (Token × Bor (List ℕ)))
    → Reads (Fits form) text (seen a) → Reads (FitsFirst later) text (seen b)
    → Reads (FitsFirst (form ∷ later)) text (seen (option_or a b))
or_first form later text None b here behind = pass_over form later text (seen b) (nothing_fits form text here) behind
or_first form later text (Some read) b here behind = fits_here form later text (read.0, read.1.now) here

or-assoc : (a b c : Option (Token × Bor (List ℕ))) → option_or (option_or a b) c ≡ option_or a (option_or b c)
or-assoc None b c = refl
or-assoc (Some read) b c = refl

or-none : (a : Option (Token × Bor (List ℕ))) → option_or a None ≡ a
or-none None = refl
or-none (Some read) = refl

-- an answer for the forms in front of any later ones
pub record Tried (front : List Form → List Form) (text : List ℕ) (a : Option (Token × Bor (List ℕ))) : Type 0 where
  pub before : (later : List Form) (b : Option (Token × Bor (List ℕ)))
      → Reads (FitsFirst later) text (seen b) → Reads (FitsFirst (front later)) text (seen (option_or a b))

pub tried_first : (form : Form) (text : List ℕ) (a : Option (Token × Bor (List ℕ)))
    → Reads (Fits form) text (seen a) → Tried (λ later. form ∷ later) text a
tried_first form text a here = record { before = λ later b behind. or_first form later text a b here behind }

pub tried_next : {front : List Form → List Form} (form : Form) (text : List ℕ) (a b ab : Option (Token × Bor (List ℕ)))
    → ab ≡ option_or a b → Tried front text a → Reads (Fits form) text (seen b)
    → Tried (λ later. front (form ∷ later)) text ab
tried_next {front} form text a b ab e tried here = record {
  before = λ later c behind.
      rw (e, or-assoc a b c) (tried.before (form ∷ later) (option_or b c) (or_first form later text b c here behind));
}

pub tried_all : {front : List Form → List Form} (text : List ℕ) (a : Option (Token × Bor (List ℕ)))
    → Tried front text a → Reads (FitsFirst (front [])) text (seen a)
tried_all {front} text a tried =
    let last = tried.before [] None (nothing_first text) in
    rw (or-none a) at last
