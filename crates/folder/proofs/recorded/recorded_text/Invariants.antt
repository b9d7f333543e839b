use Rattle.std.proofs.Common.{◌≡◌, ◌++◌, drop}
use Rattle.folder.proofs.recorded.recorded_text.Given as goal

-- what was seen, and the bytes from here on
abbrev pub invariant-loop-byte : goal.invariant-loop-byte
invariant-loop-byte l = l.seen ++ drop l.byte-index l.text ≡ l.text
