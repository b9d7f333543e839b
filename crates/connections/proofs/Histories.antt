-- Lists that begin with others.
use Rattle.std.proofs.Common.{List, [], ◌∷◌, ◌++◌, length, drop, sym, ap, ◌∙◌, append_assoc}
use Rattle.std.specs.Prelude.{All}
use Rattle.std.proofs.lemmas.List.{append-nil}
use Rattle.std.proofs.lemmas.List.Elements.{All-nil}
use Rattle.history_lock.specs.History.{StartsWith}

module _ {E : Type 0} where
  pub starts_whole : (xs : List E) → StartsWith xs xs
  starts_whole xs = ([], sym (append-nil xs))

  pub starts_through : (xs ys zs : List E) → StartsWith xs ys → StartsWith ys zs → StartsWith xs zs
  starts_through xs ys zs p q = (q.0 ++ p.0, p.1 ∙ ap (λ l. l ++ p.0) q.1 ∙ append_assoc zs q.0 p.0)

  -- nothing is behind a whole list
  pub nothing_behind : (P : E → Type 0) (xs : List E) → All P (drop (length xs) xs)
  nothing_behind P [] = All-nil P
  nothing_behind P (x ∷ xs) = nothing_behind P xs
