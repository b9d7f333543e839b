-- The symbols of pieces, one behind another.
use Rattle.std.proofs.Common.{◌≡◌, ◌≢◌, ℕ, List, [], ◌∷◌, ◌++◌, refl, sym, ap, ◌∙◌, subst, append_assoc, append-nil}
use Rattle.std.specs.Prelude.{Option, Some, None, option_map, Result, Ok, Err, IfOk}
use Rattle.ref_rewrite.specs.declared.pieces.Piece.{Piece}
use Rattle.ref_rewrite.specs.declared.pieces.Piece.TheVariants.{Text}
use Rattle.formula_reader.specs.declared.symbols.Symbol.{Symbol}
use Rattle.formula_reader.specs.Only.{IsOnly}
use Rattle.formula_reader.specs.Symbols.{AreOfPiece, AreOfPieces, AreSymbolsOf}

-- one symbol more
pub pushed : (front : List Symbol) (a : Symbol) (o : Option (List Symbol))
    → option_map (λ later. (front ++ a ∷ []) ++ later) o ≡ option_map (λ later. front ++ later)
    (option_map (λ later. a ∷ later) o)
pushed front a None = refl
pushed front a (Some later) = ap Some (append_assoc front (a ∷ []) later)

-- symbols, and those of the pieces that are left
abbrev pub AreBehind : List Symbol → List Piece → List Symbol → Type 0
AreBehind symbols pieces all = (later : List Symbol) × AreOfPieces pieces later × (all ≡ symbols ++ later)

-- two ways to have symbols have the same
pub record Same (P Q : List Symbol → Type 0) : Type 0 where
  pub to : (all : List Symbol) → P all → Q all
  pub from : (all : List Symbol) → Q all → P all

pub same_both : (P Q R : List Symbol → Type 0) → Same P Q → Same Q R → Same P R
same_both P Q R p q = record { to = λ all h. q.to all (p.to all h); from = λ all h. p.from all (q.from all h) }

-- the only one of one is the only one of the other
pub only_same : (P Q : List Symbol → Type 0) (answer : Option (List Symbol)) → Same P Q → IsOnly Q answer
    → IsOnly P answer
only_same P Q None p nothing = λ all h. nothing all (p.to all h)
only_same P Q (Some answer) p is = (p.from answer is.0, λ all h. is.1 all (p.to all h))

-- no symbols yet
pub none_yet : (pieces : List Piece) → Same (AreOfPieces pieces) (AreBehind [] pieces)
none_yet pieces = record {
  to = λ all are. (all, are, refl);
  from = λ all found. subst (λ (s : List Symbol). AreOfPieces pieces s) (sym found.2) found.1;
}

-- those of one piece more
pub one_more : (symbols more longer : List Symbol) (first : Piece) (pieces later : List Piece) → pieces ≡ first ∷ later
    → longer ≡ symbols ++ more → IsOnly (AreOfPiece first) (Some more)
    → Same (AreBehind symbols pieces) (AreBehind longer later)
one_more symbols more longer first pieces later whole joined is = record {
  to = λ all found.
      let parts = subst (λ (ps : List Piece). AreOfPieces ps found.0) whole found.1 in
      let e : parts.0 ≡ more = is.1 parts.0 parts.2 in (
        parts.1,
        parts.3,
        found.2 ∙ ap (λ (s : List Symbol). symbols ++ s) (parts.4 ∙ ap (λ (s : List Symbol). s ++ parts.1) e)
            ∙ sym (append_assoc symbols more parts.1) ∙ ap (λ (s : List Symbol). s ++ parts.1) (sym joined),
      );
  from = λ all found. (
    more ++ found.0,
    subst (λ (ps : List Piece). AreOfPieces ps (more ++ found.0)) (sym whole) (more, found.0, is.0, found.1, refl),
    found.2 ∙ ap (λ (s : List Symbol). s ++ found.0) joined ∙ append_assoc symbols more found.0,
  );
}

-- a piece without symbols
pub no_more : (symbols : List Symbol) (first : Piece) (pieces later : List Piece) → pieces ≡ first ∷ later
    → IsOnly (AreOfPiece first) None → IsOnly (AreBehind symbols pieces) None
no_more symbols first pieces later whole nothing = λ all found.
    let parts = subst (λ (ps : List Piece). AreOfPieces ps found.0) whole found.1 in
    nothing parts.0 parts.2

-- no piece is left
pub all_read : (symbols : List Symbol) (pieces : List Piece) → pieces ≡ []
    → IsOnly (AreBehind symbols pieces) (Some symbols)
all_read symbols pieces done = (
  ([], subst (λ (ps : List Piece). AreOfPieces ps []) (sym done) refl, sym (append-nil symbols)),
  λ all found.
      let empty : found.0 ≡ [] = subst (λ (ps : List Piece). AreOfPieces ps found.0) done found.1 in
      found.2 ∙ ap (λ (s : List Symbol). symbols ++ s) empty ∙ append-nil symbols,
)

-- so it is where memory suffices
pub only_same_ok : {B E : Type 0} (P Q : List Symbol → Type 0) (view : B → Option (List Symbol)) (result : Result B E)
    → Same P Q → IfOk result (λ b. IsOnly Q (view b)) → IfOk result (λ b. IsOnly P (view b))
only_same_ok P Q view (Ok b) p is = only_same P Q (view b) p is
only_same_ok P Q view (Err e) p is = is

-- a formula whose text begins with `=`
pub behind_sign : (pieces later : List Piece) (first : Piece) (text behind : List ℕ) → pieces ≡ first ∷ later
    → first ≡ Text text
    → text ≡ 61 ∷ behind → Same (AreSymbolsOf pieces) (AreOfPieces (Text behind ∷ later))
behind_sign pieces later first text behind whole is_text begins =
    let all_of : pieces ≡ Text text ∷ later = whole ∙ ap (λ (p : Piece). p ∷ later) is_text in
    record {
      to = λ all are.
          let found = subst (λ (ps : List Piece). AreSymbolsOf ps all) all_of are in
          let same : found.0 ≡ behind = let one = sym found.1 ∙ begins in cc in
          subst (λ (b : List ℕ). AreOfPieces (Text b ∷ later) all) same found.2;
      from = λ all are.
          subst (λ (ps : List Piece). AreSymbolsOf ps all) (sym all_of) (behind, begins, are);
    }

-- and one whose text doesn't
pub no_sign : (pieces later : List Piece) (first : Piece) (text : List ℕ) → pieces ≡ first ∷ later → first ≡ Text text
    → ((rest : List ℕ) → text ≢ 61 ∷ rest) → IsOnly (AreSymbolsOf pieces) None
no_sign pieces later first text whole is_text unsigned = λ all are.
    let all_of : pieces ≡ Text text ∷ later = whole ∙ ap (λ (p : Piece). p ∷ later) is_text in
    let found = subst (λ (ps : List Piece). AreSymbolsOf ps all) all_of are in
    unsigned found.0 found.1
