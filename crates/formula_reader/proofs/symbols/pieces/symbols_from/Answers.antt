use Rattle.std.proofs.Common.{◌≡◌, ◌<◌, ◌+◌, length, [], ◌∷◌, drop, refl, sym, ap, ◌∙◌, arith}
use Rattle.std.specs.Prelude.{Some, None}
use Rattle.std.proofs.lemmas.List.{drop_more, drop_all}
use Rattle.ref_rewrite.specs.declared.pieces.Piece.{Piece}
use Rattle.ref_rewrite.specs.declared.pieces.Piece.TheVariants.{Text}
use Rattle.formula_reader.proofs.FormulaSymbols.{same_both, only_same, none_yet, one_more, no_more, all_read}
use Rattle.formula_reader.proofs.symbols.pieces.symbols_from.Goals as goal

pub returns-in_default : goal.returns-in_default
returns-in_default c =
    only_same _ _ None (none_yet (Text c.args.text.now ∷ c.args.pieces.now))
    (no_more [] (Text c.args.text.now) _ c.args.pieces.now refl (rw c.in_default.is at c.in_ok-symbols.ensures))

pub loop-piece-init : goal.loop-piece-init
loop-piece-init c =
    same_both _ _ _ (none_yet (Text c.args.text.now ∷ c.args.pieces.now))
    (one_more [] c.in-Some.symbols.items c.in-Some.symbols.items (Text c.args.text.now) _ c.args.pieces.now refl refl
    (rw c.in-Some.is at c.in_ok-symbols.ensures))

pub returns-in-None : goal.returns-in-None
returns-in-None c =
    let at = c.loop-piece.piece-index in
    let there : at < length c.args.pieces.now = omega (arith, c.loop-piece-test.true) in
    let next : drop at c.args.pieces.now ≡ c.piece-item.result ∷ drop (at + 1) c.args.pieces.now =
    drop_more c.args.pieces.now at c.piece-item.result there
    ∙ ap (λ (piece : Piece). piece ∷ drop (at + 1) c.args.pieces.now) (sym c.piece-item.is) in
    only_same _ _ None c.loop-piece.invariant
    (no_more c.loop-piece.symbols.items c.piece-item.result _ _ next (rw c.in-None.is at c.in_ok-more.ensures))

pub loop-piece-preserved : goal.loop-piece-preserved
loop-piece-preserved c =
    let at = c.loop-piece.piece-index in
    let there : at < length c.args.pieces.now = omega (arith, c.loop-piece-test.true) in
    let next : drop at c.args.pieces.now ≡ c.piece-item.result ∷ drop (at + 1) c.args.pieces.now =
    drop_more c.args.pieces.now at c.piece-item.result there
    ∙ ap (λ (piece : Piece). piece ∷ drop (at + 1) c.args.pieces.now) (sym c.piece-item.is) in
    same_both _ _ _ c.loop-piece.invariant
    (one_more c.loop-piece.symbols.items c.in-Some-2.more.items c.append.new.self.items c.piece-item.result _ _ next
    c.in_ok-append-in-Some-2.ensures.items (rw c.in-Some-2.is at c.in_ok-more.ensures))

pub returns : goal.returns
returns c =
    only_same _ _ (Some c.loop-piece.symbols.items) c.loop-piece.invariant
    (all_read c.loop-piece.symbols.items _ (drop_all _ _ c.loop-piece-test.false))
