-- What a formula becomes where a name that stands in it is changed, as by an updateNamedRange of the
-- Google Sheets API v4. Names are one ignoring ASCII case.
use Rattle.std.specs.Prelude.{ℕ, Bool, false, List, if◌then◌else◌}
use Rattle.std.specs.Str.{str_eq_ignore_ascii_case}
use Rattle.ref_rewrite.specs.declared.pieces.Piece.{Piece}
use Rattle.ref_rewrite.specs.declared.pieces.Piece.TheVariants.{Text, Word, Ref, Lost}

-- the piece is that word
abbrev pub is_word : List ℕ → Piece → Bool
is_word old (Word word) = str_eq_ignore_ascii_case word old
is_word old (Text text) = false
is_word old (Ref reference) = false
is_word old Lost = false

-- such a word is the new one then, and all else stays
abbrev pub piece_renamed : List ℕ → List ℕ → Piece → Piece
piece_renamed old new piece = if is_word old piece then Word new else piece
