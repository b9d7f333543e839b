-- One step of the loop that puts new words in the place of old ones, where there is one for each that
-- is still to come.
use Rattle.std.proofs.Common.{◌≡◌, ℕ, ◌+◌, ◌<◌, true, false, if◌then◌else◌, List, [], ◌∷◌, ◌++◌, map, take, drop, set, replicate, length, get_or, sym, ap, ◌∙◌, arith}
use Rattle.std.specs.List.{count_by}
use Rattle.std.proofs.lemmas.List.{length-replicate}
use Rattle.ref_rewrite.specs.declared.pieces.Piece.{Piece}
use Rattle.ref_rewrite.specs.declared.pieces.Piece.TheVariants.{Word}
use Rattle.ref_rewrite.specs.Renaming.{is_word, piece_renamed}
use Rattle.ref_rewrite.proofs.InPlace.{map_one_more, next_is, count_passed, count_failed, last_copy}

-- the pieces before `at` are renamed, and for each old word from there on there is a new one
pub record Renames (old new : List ℕ) (before now : List Piece) (words : List (List ℕ)) (at : ℕ) : Type 0 where
  pub done : now ≡ map (piece_renamed old new) (take at before) ++ drop at before
  pub left : words ≡ replicate (count_by (is_word old) (drop at before)) new

-- the next piece is an old word: a new one is left
one_more : (old new : List ℕ) (before now : List Piece) (words : List (List ℕ)) (at : ℕ) (piece : Piece)
    → at < length before → Renames old new before now words at
    → is_word old (get_or now at piece) ≡ true
    → words ≡ replicate (count_by (is_word old) (drop (at + 1) before) + 1) new
one_more old new before now words at piece there so_far is =
    so_far.left
    ∙ ap (λ count. replicate count new)
    (count_passed (is_word old) before at piece there
    (ap (is_word old) (sym (next_is (piece_renamed old new) before now at piece there so_far.done)) ∙ is))

pub word_left : (old new : List ℕ) (before now : List Piece) (words : List (List ℕ)) (at : ℕ) (piece : Piece)
    → at < length before → Renames old new before now words at
    → is_word old (get_or now at piece) ≡ true → 0 < length words
word_left old new before now words at piece there so_far is =
    omega (
      arith,
      ap length (one_more old new before now words at piece there so_far is),
      length-replicate (count_by (is_word old) (drop (at + 1) before) + 1) new,
    )

-- it is put there
pub word_put : (old new : List ℕ) (before now : List Piece) (words rest : List (List ℕ)) (word : List ℕ)
    (at : ℕ) (piece : Piece)
    → at < length before → Renames old new before now words at → piece ≡ get_or now at piece
    → is_word old (get_or now at piece) ≡ true → words ≡ rest ++ word ∷ []
    → Renames old new before (set now at (Word word)) rest (at + 1)
word_put old new before now words rest word at piece there so_far read is taken =
    let last = last_copy (count_by (is_word old) (drop (at + 1) before)) new word words rest
    (one_more old new before now words at piece there so_far is) taken in
    record {
      done = map_one_more (piece_renamed old new) before now at piece (Word word) there so_far.done read
          (ap Word last.1 ∙ ap (λ is. if is then Word new else get_or now at piece) (sym is));
      left = last.0;
    }

-- another piece stays
pub piece_kept : (old new : List ℕ) (before now : List Piece) (words : List (List ℕ)) (at : ℕ) (piece : Piece)
    → at < length before → Renames old new before now words at → piece ≡ get_or now at piece
    → is_word old (get_or now at piece) ≡ false
    → Renames old new before (set now at (get_or now at piece)) words (at + 1)
piece_kept old new before now words at piece there so_far read is = record {
  done = map_one_more (piece_renamed old new) before now at piece _ there so_far.done read
      (ap (λ is. if is then Word new else get_or now at piece) (sym is));
  left = so_far.left
      ∙ ap (λ count. replicate count new)
      (count_failed (is_word old) before at piece there
      (ap (is_word old) (sym (next_is (piece_renamed old new) before now at piece there so_far.done)) ∙ is));
}
