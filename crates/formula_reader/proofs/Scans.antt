-- The loop over a text: what the tokens so far say of those from the rest on.
use Rattle.std.proofs.Common.{◌≡◌, ℕ, ◌+◌, ◌-◌, ◌<◌, ◌≤◌, true, false, List, [], ◌∷◌, ◌++◌, length, take, drop, refl, sym, ap, ◌∙◌, arith, append_assoc, append-nil}
use Rattle.std.specs.Prelude.{Some, None, slice_range}
use Rattle.std.specs.List.{list_all}
use Rattle.std.proofs.lemmas.Bool.{false≢true, and_parts}
use Rattle.std.proofs.lemmas.List.{length-append, drop_at, take_at, drop_all, drop-drop}
use Rattle.formula_reader.specs.declared.tokens.token.Placed.{Placed}
use Rattle.formula_reader.specs.declared.tokens.token.Token.{Token}
use Rattle.a1_notation.specs.Run.{begins, IsRun}
use Rattle.a1_notation.specs.Class.{is_blank}
use Rattle.formula_reader.specs.Tokens.{FitsFirst, forms, StandsFrom, AreTokens}
use Rattle.formula_reader.specs.Reading.{Stands, Reads}
use Rattle.formula_reader.proofs.Read.{none_read}
use Rattle.formula_reader.proofs.Places.{pass_blanks, behind_blanks, stands_there, only_token, read_there, some_at, token_some, behind_is}

-- the place of the rest
abbrev pub start_of_rest : List ℕ → List ℕ → ℕ
start_of_rest text rest = length text - length rest

-- some tokens and those from the rest on are the tokens of the text, and all that are so begin with them
pub record Scanned (text rest : List ℕ) (tokens : List Placed) : Type 0 where
  pub within : length rest ≤ length text
  pub rest_is : rest ≡ drop (start_of_rest text rest) text
  pub ends : begins is_blank rest ≡ false
  pub found : (later : List Placed) → AreTokens text (start_of_rest text rest) later
      → AreTokens text 0 (tokens ++ later)
  pub only : (all : List Placed) → AreTokens text 0 all
      → (later : List Placed) × (all ≡ tokens ++ later) × AreTokens text (start_of_rest text rest) later

-- the rest behind a run of blanks
module _ (text behind gap rest : List ℕ) (from : ℕ) (from_is : from + length behind ≡ length text)
    (behind_is : behind ≡ drop from text) (split : behind ≡ gap ++ rest) (run : IsRun is_blank gap rest) where
  length_split : length behind ≡ length gap + length rest
  length_split = ap length split ∙ length-append gap rest

  order : from ≤ start_of_rest text rest
  order = omega (arith, length_split)

  rest_at : rest ≡ drop (start_of_rest text rest) text
  rest_at =
      let long : from + length gap ≡ start_of_rest text rest = omega (arith, length_split) in
      sym (drop_at gap rest (length gap) refl) ∙ ap (drop (length gap)) (sym split ∙ behind_is)
      ∙ drop-drop (length gap) from text ∙ ap (λ n. drop n text) long

  gap_is : slice_range text from (start_of_rest text rest) ≡ gap
  gap_is =
      let long : start_of_rest text rest - from ≡ length gap = omega (arith, length_split) in
      ap (λ n. take n (drop from text)) long ∙ ap (take (length gap)) (sym behind_is ∙ split)
      ∙ take_at gap rest (length gap) refl

  blanks_at : list_all is_blank (slice_range text from (start_of_rest text rest)) ≡ true
  blanks_at = rw gap_is run.all

  pub passed : (later : List Placed) → AreTokens text (start_of_rest text rest) later → AreTokens text from later
  passed later are = pass_blanks text from (start_of_rest text rest) order blanks_at later are

  pub reached : (later : List Placed) → AreTokens text from later → AreTokens text (start_of_rest text rest) later
  reached later are =
      behind_blanks text from (start_of_rest text rest) order blanks_at (rw (← rest_at) run.ends) later are

-- before the first token
pub scan_start : (text blanks rest : List ℕ) → text ≡ blanks ++ rest → IsRun is_blank blanks rest → Scanned text rest []
scan_start text blanks rest split run = record {
  within = omega (arith, ap length split, length-append blanks rest);
  rest_is = rest_at text text blanks rest 0 (omega arith) refl split run;
  ends = run.ends;
  found = λ later are. passed text text blanks rest 0 (omega arith) refl split run later are;
  only = λ all are. (all, refl, reached text text blanks rest 0 (omega arith) refl split run all are);
}

-- where no token begins with the rest, there is no token more
no_token_more : (text rest : List ℕ) (later : List Placed) → rest ≡ drop (start_of_rest text rest) text
    → begins is_blank rest ≡ false
    → AreTokens text
    (start_of_rest text rest) later → ((token : Token) (behind : List ℕ)
    → ¬ (Stands (FitsFirst forms) rest token behind))
    → (later ≡ []) × (list_all is_blank rest ≡ true)
no_token_more text rest [] rest_is ends are none = (refl, rw (← rest_is) at are)
no_token_more text rest (placed ∷ later) rest_is ends are none =
    absurd
    (none placed.token (drop placed.end text) (read_there text rest
    (start_of_rest text rest) placed rest_is ends are.0))

not_all : (rest : List ℕ) → 0 < length rest → begins is_blank rest ≡ false → list_all is_blank rest ≡ true → ⊥
not_all [] some ends all = absurd (omega arith)
not_all (b ∷ rest) some ends all = false≢true (sym ends ∙ (and_parts (is_blank b) (list_all is_blank rest) all).0)

-- at the end of the text
module _ (text rest : List ℕ) (tokens : List Placed) (scanned : Scanned text rest tokens) where
  pub scan_end : length rest ≡ 0 → AreTokens text 0 tokens
  scan_end empty =
      let none : drop (start_of_rest text rest) text ≡ [] = drop_all (start_of_rest text rest) text (omega arith) in
      rw (append-nil tokens) at (scanned.found [] (rw none refl))

  pub only_scanned : length rest ≡ 0 → (all : List Placed) → AreTokens text 0 all → all ≡ tokens
  only_scanned empty all are =
      let parts = scanned.only all are in
      let more = no_token_more text rest parts.0 scanned.rest_is scanned.ends parts.2
      (λ token behind stands. absurd (omega (arith, some_at rest token behind stands))) in
      parts.1 ∙ ap (λ later. tokens ++ later) more.0 ∙ append-nil tokens

  -- behind one token more
  module _ (token : Token) (behind gap rest' : List ℕ) (start end : ℕ) (start_is : start ≡ length text - length rest)
      (end_is : end ≡ length text - length behind) (reads : Reads (FitsFirst forms) rest (Some (token, behind)))
      (split : behind ≡ gap ++ rest') (run : IsRun is_blank gap rest') where
    shorter : length behind < length rest
    shorter = omega (
      arith,
      ap length reads.found.spelled,
      length-append reads.found.lexeme behind,
      token_some reads.found.lexeme token behind reads.found.is,
    )

    start_sum : start + length rest ≡ length text
    start_sum = omega (arith, scanned.within)

    end_sum : end + length behind ≡ length text
    end_sum = omega (arith, scanned.within, shorter)

    rest_there : rest ≡ drop start text
    rest_there = scanned.rest_is ∙ ap (λ n. drop n text) (sym start_is)

    behind_there : behind ≡ drop end text
    behind_there = behind_is text rest behind token start end start_sum end_sum rest_there reads

    more_found : (later : List Placed) → AreTokens text (start_of_rest text rest') later
        → AreTokens text 0 (tokens ++ (record { start = start; end = end; token = token } ∷ later))
    more_found later are =
        let here = stands_there text rest behind token start end start_sum end_sum rest_there reads in
        let from_end = passed text behind gap rest' end end_sum behind_there split run later are in
        let at : StandsFrom text (start_of_rest text rest) (record { start = start; end = end; token = token }) =
        rw (← start_is) here in
        scanned.found (record { start = start; end = end; token = token } ∷ later) (at, from_end)

    more_only : (later : List Placed) → AreTokens text (start_of_rest text rest) later
        → (more : List Placed) × (later ≡ record { start = start; end = end; token = token } ∷ more)
        × AreTokens text (start_of_rest text rest') more
    more_only [] are =
        absurd (not_all rest (some_at rest token behind reads.found) scanned.ends (rw (← scanned.rest_is) at are))
    more_only (placed ∷ more) are =
        let stands : StandsFrom text start placed = rw start_is are.0 in
        let same =
        only_token text rest behind token start end start_sum end_sum rest_there reads scanned.ends placed stands in
        let from_end : AreTokens text end more = rw (ap (λ (p : Placed). p.end) same) are.1 in (
          more,
          ap (λ (p : Placed). p ∷ more) (sym same),
          reached text behind gap rest' end end_sum behind_there split run more from_end,
        )

    pub scan_next : (items : List Placed) → items ≡ tokens ++ record { start = start; end = end; token = token } ∷ []
        → Scanned text rest' items
    scan_next items items_is = record {
      within = omega (arith, scanned.within, shorter, ap length split, length-append gap rest');
      rest_is = rest_at text behind gap rest' end end_sum behind_there split run;
      ends = run.ends;
      found = λ later are.
          rw (items_is, append_assoc tokens (record { start = start; end = end; token = token } ∷ []) later)
          (more_found later are);
      only = λ all are.
          let parts = scanned.only all are in
          let more = more_only parts.0 parts.2 in (
            more.0,
            parts.1 ∙ ap (λ later. tokens ++ later) more.1
                ∙ sym (append_assoc tokens (record { start = start; end = end; token = token } ∷ []) more.0)
                ∙ ap (λ front. front ++ more.0) (sym items_is),
            more.2,
          );
    }

    pub scan_shorter : length rest' < length rest
    scan_shorter = omega (arith, shorter, ap length split, length-append gap rest')

  -- at a place where nothing fits
  pub scan_none : 0 < length rest → Reads (FitsFirst forms) rest None → (all : List Placed) → ¬ (AreTokens text 0 all)
  scan_none some none all are =
      let parts = scanned.only all are in
      let more = no_token_more text rest parts.0 scanned.rest_is scanned.ends parts.2
      (λ token behind stands. none_read none stands) in
      not_all rest some scanned.ends more.1
