-- Keys as they are listed.
use Rattle.std.proofs.Common.{◌≡◌, ℕ, Bool, true, cond, List, [], ◌∷◌, map, refl, sym, ap, subst, ◌∙◌}
use Rattle.std.specs.List.{filter}
use Rattle.std.specs.Prelude.{Contains}
use Rattle.std.proofs.lemmas.List.{map-id}
use Rattle.cell_value.specs.Elements.{Contains-head, Contains-cons}
use Rattle.shared_map.specs.Map.{AreListed}

pub as_keys : (Are : List ℕ → Type 0) (keys : List ℕ) → AreListed (λ (key : ℕ). key) Are [] keys → Are keys
as_keys Are keys listed = subst Are (sym (listed.is ∙ map-id listed.keys)) listed.are

pub also : {K : Type 0} (listed : ℕ → K) (Are Also : List ℕ → Type 0) (before after : List K)
    → ((keys : List ℕ) → Are keys → Also keys) → AreListed listed Are before after → AreListed listed Also before after
also listed Are Also before after follows is = record {
  keys = is.keys;
  are = follows is.keys is.are;
  is = is.is;
}

-- what two functions make of elements at which they are one
pub map_alike : {X Y : Type 0} (f g : X → Y) (xs : List X) → ((x : X) → Contains xs x → f x ≡ g x) → map f xs ≡ map g xs
map_alike f g [] same = refl
map_alike f g (x ∷ xs) same = λ i.
    same x (Contains-head x xs) i ∷ map_alike f g xs (λ y has. same y (Contains-cons x y xs has)) i

-- where each passes, all are left
pub all_pass : {X : Type 0} (test : X → Bool) (xs : List X) → ((x : X) → Contains xs x → test x ≡ true) → xs
    ≡ filter test xs
all_pass test [] passes = refl
all_pass test (x ∷ xs) passes =
    ap (λ ys. x ∷ ys) (all_pass test xs (λ y has. passes y (Contains-cons x y xs has)))
    ∙ ap (λ b. cond b (x ∷ filter test xs) (filter test xs)) (sym (passes x (Contains-head x xs)))
