use Rattle.std.proofs.Common.{◌≡◌, ◌^◌, ◌<◌, drop}
use Rattle.std.specs.Str.{all_ascii_digits}
use Rattle.std.specs.Str.Parse.{digits_value, digits_value_after}
use Rattle.sheets_http.proofs.fields.numeral.Given as goal

-- the bytes so far are digits, and write the number
abbrev pub invariant-loop-byte : goal.invariant-loop-byte
invariant-loop-byte l = record {
  digits : all_ascii_digits (drop l.byte-index l.value) ≡ all_ascii_digits l.value;
  number : digits_value_after 10 l.number (drop l.byte-index l.value) ≡ digits_value 10 l.value;
  small : l.number < 10 ^ l.byte-index;
}
