-- What a file has left while it is read.
use Rattle.std.proofs.Common.{◌≡◌, ◌<◌, ◌∙◌, ◌++◌, [], ℕ, List, Option, Some}
use Rattle.std.proofs.Common.{None, IfSome, ap, append_assoc, arith, drop, length, sym}
use Rattle.std.specs.Option.{option_map}
use Rattle.std.proofs.lemmas.List.{append-nil, length-append}
use Rattle.std.proofs.Math.Seq.{drop-append_seam}

-- the file lost its first bytes
pub lost : (before after : Option (List ℕ)) (bytes : List ℕ) → before ≡ option_map (λ rest. bytes ++ rest) after
    → IfSome before (λ all. (count : ℕ) × (after ≡ Some (drop count all)))
lost before None bytes read = rw read tt
lost before (Some rest) bytes read = rw read (length bytes, ap Some (sym (drop-append_seam bytes rest)))

-- bytes behind those that were read
pub read_more : (before between after : Option (List ℕ)) (bytes more : List ℕ)
    → before ≡ option_map (λ rest. bytes ++ rest) between → between ≡ option_map (λ rest. more ++ rest) after
    → before ≡ option_map (λ rest. (bytes ++ more) ++ rest) after
read_more before between None bytes more read next = read ∙ ap (option_map (λ rest. bytes ++ rest)) next
read_more before between (Some rest) bytes more read next =
    read ∙ ap (option_map (λ rest. bytes ++ rest)) next ∙ ap Some (sym (append_assoc bytes more rest))

-- a file that gives nothing more was read whole
pub read_whole : (before between after : Option (List ℕ)) (bytes : List ℕ)
    → before ≡ option_map (λ rest. bytes ++ rest) between → between ≡ option_map (λ rest. [] ++ rest) after
    → IfSome between (λ rest. rest ≡ []) → IfSome before (λ all. (all ≡ bytes) × (after ≡ Some []))
read_whole before None after bytes read next end = rw read tt
read_whole before (Some rest) None bytes read next end = absurd (cc next)
read_whole before (Some rest) (Some left) bytes read next end =
    let same : rest ≡ left = cc in
    rw read (ap (λ (l : List ℕ). bytes ++ l) end ∙ append-nil bytes, ap Some (sym same ∙ end))

-- what was read is no longer than the file
pub read_part : (before between : Option (List ℕ)) (bytes : List ℕ) (most : ℕ)
    → before ≡ option_map (λ rest. bytes ++ rest) between → most < length bytes
    → IfSome before (λ all. most < length all)
read_part before None bytes most read long = rw read tt
read_part before (Some rest) bytes most read long = rw read (omega (arith, length-append bytes rest))
