-- Laws for the proofs of this crate and of those above it: what is written where nothing more is, and in two parts.
use Rattle.std.specs.Prelude.{◌≡◌, ℕ, List, [], ◌++◌, Option, None, Some}
use Rattle.std.proofs.Common.{refl, sym, ap, append_assoc}
use Rattle.std.proofs.lemmas.List.{append-nil}
use Rattle.std.specs.Option.{option_map}

-- where nothing was written, what was written is as before
pub nothing_more : (before : Option (List ℕ)) → before ≡ option_map (λ said. said ++ []) before
nothing_more None = refl
nothing_more (Some said) = ap Some (sym (append-nil said))

-- what is written in two parts is written behind what was before
pub append_twice : (before : Option (List ℕ)) (a b : List ℕ)
    → option_map (λ bytes. bytes ++ b) (option_map (λ bytes. bytes ++ a) before) ≡ option_map
    (λ bytes. bytes ++ (a ++ b)) before
append_twice None a b = refl
append_twice (Some bytes) a b = ap Some (append_assoc bytes a b)
