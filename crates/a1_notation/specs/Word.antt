-- Words: names of functions, named ranges and sheets in a formula. A text is the list of its UTF-8 bytes.
use Rattle.std.specs.Prelude.{◌≡◌, ℕ, Bool, true, List, ◌==◌, ◌||◌, nat_le}
use Rattle.std.specs.Char.{is_ascii_alphabetic, is_ascii_digit}
use Rattle.a1_notation.specs.Run.{begins, IsRun}

-- the first byte of a word: an ASCII letter, _ (95) or one of a character past ASCII
abbrev pub begins_word : ℕ → Bool
begins_word byte = is_ascii_alphabetic byte || byte == 95 || nat_le 128 byte

-- a byte of a word: such a one, a digit or . (46)
abbrev pub is_in_word : ℕ → Bool
is_in_word byte = begins_word byte || is_ascii_digit byte || byte == 46

-- a word is all the bytes of a word that stand there, from such a first one on
pub record IsWord (word rest : List ℕ) : Type 0 where
  pub first : begins begins_word word ≡ true
  pub run : IsRun is_in_word word rest
