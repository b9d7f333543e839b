-- References to other sheets, and what else begins with a word.
use Rattle.a1_notation.specs.OneRun.{run_is_one}
use Rattle.std.proofs.Common.{◌≡◌, ℕ, true, false, List, ◌∷◌, ◌++◌, refl, sym, ap, ◌∙◌, inl, inr, subst, append_assoc}
use Rattle.std.specs.Prelude.{◌≢◌, Option, Some, None, IfSome, slice_index}
use Rattle.std.proofs.lemmas.Bool.{false≢true}
use Rattle.formula_reader.specs.declared.tokens.token.Token.{Token}
use Rattle.formula_reader.specs.declared.tokens.token.Token.TheVariants.{Reference, TitledReference, Function}
use Rattle.formula_reader.specs.declared.tokens.token.MarkedArea.{MarkedArea}
use Rattle.a1_notation.specs.Run.{begins}
use Rattle.a1_notation.specs.Word.{begins_word, is_in_word, IsWord}
use Rattle.formula_reader.specs.Reference.{IsReference}
use Rattle.formula_reader.specs.Form.{IsBehindTitle, IsTitleBefore, word_token, Fits, Titled, FunctionName, OwnReference, AnyWord}
use Rattle.formula_reader.specs.Tokens.{FitsNowhere, FitsFirst, forms}
use Rattle.formula_reader.specs.Reading.{Stands, Reads}
use Rattle.formula_reader.proofs.Read.{one_read, none_read}
use Rattle.formula_reader.proofs.Firsts.{pass_over, fits_here, behind_titled, behind_function, behind_reference, behind_word}
use Rattle.formula_reader.proofs.Starts.{begins-front}

-- ! and a reference
pub no_title_mark : (text : List ℕ) → ((rest : List ℕ) → text ≢ 33 ∷ rest) → Reads IsBehindTitle text None
no_title_mark text none = record {
  found = tt;
  only =
      λ w rest stands. absurd (none (stands.is.part ++ rest) (stands.spelled ∙ ap (λ t. t ++ rest) stands.is.spelled));
}

pub behind_title : (text inside : List ℕ) (answer : Option (MarkedArea × List ℕ)) → text ≡ 33 ∷ inside
    → Reads IsReference inside answer → Reads IsBehindTitle text answer
behind_title text inside answer e reads = record {
  found = found answer reads;
  only = λ w rest stands.
      let both : 33 ∷ inside ≡ 33 ∷ (stands.is.part ++ rest) =
      sym e ∙ (stands.spelled ∙ ap (λ t. t ++ rest) stands.is.spelled) in
      let same : inside ≡ stands.is.part ++ rest = cc in
      reads.only w rest (record { lexeme = stands.is.part; spelled = same; is = stands.is.reference });
}
  where
    found : (answer : Option (MarkedArea × List ℕ)) → Reads IsReference inside answer
        → IfSome answer (λ read. Stands IsBehindTitle text read.0 read.1)
    found None reads = tt
    found (Some read) reads = record {
      lexeme = 33 ∷ reads.found.lexeme;
      spelled = e ∙ ap (λ t. 33 ∷ t) reads.found.spelled;
      is = record { part = reads.found.lexeme; spelled = refl; reference = reads.found.is };
    }

-- a reference of the formula's own sheet
pub own_reference : (text : List ℕ) (w : MarkedArea) (rest : List ℕ) → Reads IsReference text (Some (w, rest))
    → Reads (Fits OwnReference) text (Some (Reference w, rest))
own_reference text w rest reads = record {
  found = record {
    lexeme = reads.found.lexeme;
    spelled = reads.found.spelled;
    is = record { written = w; reference = reads.found.is; token_is = refl };
  };
  only = λ token rest' stands.
      let same =
      one_read reads (record { lexeme = stands.lexeme; spelled = stands.spelled; is = stands.is.reference }) in
      rw (stands.is.token_is, same.0, same.1) refl;
}

pub no_own_reference : (text : List ℕ) → Reads IsReference text None → FitsNowhere OwnReference text
no_own_reference text none lexeme token rest e is =
    none_read none (record { lexeme = lexeme; spelled = e; is = is.reference })

-- what stands at a word
module _ (text word behind : List ℕ) (whole : text ≡ word ++ behind) (is_word : IsWord word behind) where
  one_word : (word' rest : List ℕ) → IsWord word' rest → text ≡ word' ++ rest → (word ≡ word') × (behind ≡ rest)
  one_word word' rest is e = run_is_one is_in_word word behind word' rest is_word.run is.run (sym whole ∙ e)

  begins_so : begins begins_word text ≡ true
  begins_so = rw whole (begins-front begins_word word behind is_word.first)

  titled_word : (sheet title behind' rest : List ℕ) (w : MarkedArea) → IsTitleBefore sheet title (behind' ++ rest)
      → text ≡ sheet ++ behind' ++ rest → IsBehindTitle behind' w rest
      → (word ≡ title) × Stands IsBehindTitle behind w rest
  titled_word sheet title behind' rest w (inl quoted) e is =
      let first : begins begins_word text ≡ false = rw (e, quoted.spelled) refl in
      absurd (false≢true (sym first ∙ begins_so))
  titled_word sheet title behind' rest w (inr named) e is =
      let same = one_word sheet (behind' ++ rest) named.0 (e ∙ append_assoc sheet behind' rest) in
      (same.0 ∙ sym named.1, record { lexeme = behind'; spelled = same.1; is = is })

  titled_parts : (token : Token) (rest : List ℕ) → Stands (Fits Titled) text token rest
      → (w : MarkedArea) × Stands IsBehindTitle behind w rest × (token ≡ TitledReference word w)
  titled_parts token rest stands =
      let is = stands.is in
      let parts = titled_word is.sheet is.title is.behind rest is.written is.title_is
      (stands.spelled ∙ ap (λ t. t ++ rest) is.spelled) is.reference in
      (is.written, parts.1, is.token_is ∙ ap (λ t. TitledReference t is.written) (sym parts.0))

  pub word_title : (w : MarkedArea) (rest : List ℕ) → Reads IsBehindTitle behind (Some (w, rest))
      → Reads (Fits Titled) text (Some (TitledReference word w, rest))
  word_title w rest reads = record {
    found = record {
      lexeme = word ++ reads.found.lexeme;
      spelled = whole ∙ ap (λ t. word ++ t) reads.found.spelled ∙ sym (append_assoc word reads.found.lexeme rest);
      is = record {
        sheet = word;
        title = word;
        behind = reads.found.lexeme;
        written = w;
        spelled = refl;
        title_is = inr (subst (λ (t : List ℕ). IsWord word t) reads.found.spelled is_word, refl);
        reference = reads.found.is;
        token_is = refl;
      };
    };
    only = λ token rest' stands.
        let parts = titled_parts token rest' stands in
        let same = one_read reads parts.1 in
        rw (parts.2, same.0, same.1) refl;
  }

  pub word_no_title : Reads IsBehindTitle behind None → FitsNowhere Titled text
  word_no_title none lexeme token rest e is =
      none_read none (titled_parts token rest (record { lexeme = lexeme; spelled = e; is = is })).1

  pub function_read : slice_index behind 0 ≡ 40 → Reads (Fits FunctionName) text (Some (Function word, behind))
  function_read bracket = record {
    found =
        record { lexeme = word; spelled = whole; is = record { word = is_word; bracket = bracket; token_is = refl } };
    only = λ token rest stands.
        let same = one_word stands.lexeme rest stands.is.word stands.spelled in
        rw (stands.is.token_is, same.0, same.1) refl;
  }

  pub no_function : slice_index behind 0 ≢ 40 → FitsNowhere FunctionName text
  no_function none lexeme token rest e is =
      let same = one_word lexeme rest is.word e in
      none (rw same.1 is.bracket)

  pub word_read : Reads (Fits AnyWord) text (Some (word_token word, behind))
  word_read = record {
    found = record { lexeme = word; spelled = whole; is = record { word = is_word; token_is = refl } };
    only = λ token rest stands.
        let same = one_word stands.lexeme rest stands.is.word stands.spelled in
        rw (stands.is.token_is, same.0, same.1) refl;
  }

  -- which of these is the first
  pub first_titled : (w : MarkedArea) (rest : List ℕ) → Reads IsBehindTitle behind (Some (w, rest))
      → Reads (FitsFirst forms) text (Some (TitledReference word w, rest))
  first_titled w rest reads =
      fits_here Titled behind_titled text (TitledReference word w, rest) (word_title w rest reads)

  module _ (untitled : Reads IsBehindTitle behind None) where
    pub first_function : slice_index behind 0 ≡ 40 → Reads (FitsFirst forms) text (Some (Function word, behind))
    first_function bracket =
        pass_over Titled behind_titled text (Some (Function word, behind)) (word_no_title untitled)
        (fits_here FunctionName behind_function text (Function word, behind) (function_read bracket))

    module _ (unnamed : slice_index behind 0 ≢ 40) where
      pub first_reference : (w : MarkedArea) (rest : List ℕ) → Reads IsReference text (Some (w, rest))
          → Reads (FitsFirst forms) text (Some (Reference w, rest))
      first_reference w rest reads =
          pass_over Titled behind_titled text (Some (Reference w, rest)) (word_no_title untitled)
          (pass_over FunctionName behind_function text (Some (Reference w, rest)) (no_function unnamed)
          (fits_here OwnReference behind_reference text (Reference w, rest) (own_reference text w rest reads)))

      pub first_word : Reads IsReference text None → Reads (FitsFirst forms) text (Some (word_token word, behind))
      first_word none =
          pass_over Titled behind_titled text (Some (word_token word, behind)) (word_no_title untitled)
          (pass_over FunctionName behind_function text (Some (word_token word, behind)) (no_function unnamed)
          (pass_over OwnReference behind_reference text (Some (word_token word, behind)) (no_own_reference text none)
          (fits_here AnyWord behind_word text (word_token word, behind) word_read)))
