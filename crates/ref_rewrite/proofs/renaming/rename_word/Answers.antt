use Rattle.std.proofs.Common.{◌<◌, length, arith, ap, ◌∙◌, sym}
use Rattle.ref_rewrite.proofs.Words.{word_left, word_put, piece_kept}
use Rattle.ref_rewrite.proofs.renaming.rename_word.Goals as goal
use Rattle.ref_rewrite.proofs.renaming.rename_word.Goals.{then-is_word+in-Some+in-Text-1, then-is_word+in-Some+in-Word-1, then-is_word+in-Some+in-Ref-1, then-is_word+in_default, else-is_word}

pub loop-piece-preserved : goal.loop-piece-preserved
loop-piece-preserved c =
    let there : c.loop-piece.piece-index < length c.args.formula.now.pieces =
    omega (
      arith,
      c.loop-piece-test.true,
      ap length (c.into_vec-pieces.ensures ∙ c.take.ensures.taken),
      c.deref_mut-piece-items.ensures.len,
    ) in
    elim c.if-is_word.branch [
      | then-is_word+in-Some+in-Text-1 w ↦ rw (w.piece-items-is, w.words-is)
          (word_put _ _ _ _ _ _ _ _ _ there c.loop-piece.invariant c.piece-item.is
          (sym c.is_word.ensures ∙ w.if-is_word.true) w.in-Some.ensures.items)
      | then-is_word+in-Some+in-Word-1 w ↦ rw (w.piece-items-is, w.words-is)
          (word_put _ _ _ _ _ _ _ _ _ there c.loop-piece.invariant c.piece-item.is
          (sym c.is_word.ensures ∙ w.if-is_word.true) w.in-Some.ensures.items)
      | then-is_word+in-Some+in-Ref-1 w ↦ rw (w.piece-items-is, w.words-is)
          (word_put _ _ _ _ _ _ _ _ _ there c.loop-piece.invariant c.piece-item.is
          (sym c.is_word.ensures ∙ w.if-is_word.true) w.in-Some.ensures.items)
      | then-is_word+in_default w ↦
          let left = word_left _ _ _ _ _ _ _ there c.loop-piece.invariant
          (sym c.is_word.ensures ∙ w.if-is_word.true) in
          absurd (omega (arith, left, c.loop-piece.words.ok.0, w.in_default.ensures.cases.0))
      | else-is_word w ↦ rw (w.piece-items-is, w.words-is)
          (piece_kept _ _ _ _ _ _ _ there c.loop-piece.invariant c.piece-item.is
          (sym c.is_word.ensures ∙ w.if-is_word.false))
    ]
