-- What a map of named ranges by id keeps.
use Rattle.std.specs.Prelude.{◌≡◌, List, All, map}
use Rattle.std.specs.String.{string_bytes}
use Rattle.std.specs.declared.string.String.{String}
use Rattle.std.specs.declared.alloc.Global.{Global}
use Rattle.named_ranges.specs.declared.range.NamedRange.{NamedRange}
use Rattle.named_ranges.specs.Listed.{AreNames}

abbrev pub Entry : Type 0
Entry = String Global × NamedRange

-- the ranges in order
abbrev pub ranges_of : List Entry → List NamedRange
ranges_of entries = map (λ entry. entry.1) entries

-- each range stands under its id, and no two have one id or one name
pub record IsKept (entries : List Entry) : Type 0 where
  pub keyed : All (λ entry. string_bytes entry.0 ≡ entry.1.id) entries
  pub apart : AreNames (ranges_of entries)
