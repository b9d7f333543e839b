-- Classes of bytes, by the tests of the definitions.
use Rattle.std.specs.Prelude.{ℕ, Bool, ◌==◌, ◌||◌}
use Rattle.std.specs.Char.{is_ascii_alphabetic, is_ascii_digit}
use Rattle.a1_notation.specs.declared.class.Class.{Class}
use Rattle.a1_notation.specs.declared.class.Class.TheVariants.{Letter, Digit, InWord, Blank}
use Rattle.a1_notation.specs.Word.{is_in_word}

-- a space (32), a tab (9) or a line feed (10)
abbrev pub is_blank : ℕ → Bool
is_blank byte = byte == 32 || byte == 9 || byte == 10

abbrev pub class_test : Class → ℕ → Bool
class_test Letter byte = is_ascii_alphabetic byte
class_test Digit byte = is_ascii_digit byte
class_test InWord byte = is_in_word byte
class_test Blank byte = is_blank byte
