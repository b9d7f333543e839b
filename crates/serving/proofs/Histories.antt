-- Lists that begin with others, and the items of one caller in them.
use Rattle.std.proofs.Common.{◌≡◌, ℕ, Bool, List, ◌++◌, refl, sym, ap, ◌∙◌, append_assoc, [], ◌∷◌, length, drop, subst, length-append}
use Rattle.std.specs.Prelude.{All, ◌==◌, ◌≢◌, if◌then◌else◌}
use Rattle.std.proofs.Math.Seq.{drop-length}
use mathlib.Core.Logic.{dite}
use native.Mathlib.Decide.{ℕ_discrete}
use Rattle.std.proofs.lemmas.Bool.{eq-eqb, ne_eqb}
use Rattle.std.proofs.lemmas.List.{drop-append-le, drop-drop}
use Rattle.std.proofs.lemmas.List.Elements.{All-nil, All-cons, All-head, All-tail, All-drop, filter-append}
use Rattle.std.proofs.lemmas.List.Prefix.{front_fits, front_rest}
use Rattle.std.proofs.lemmas.List.{append-nil}
use Rattle.history_lock.specs.History.{StartsWith, NoneOf}
use Rattle.desk.specs.declared.entry.Noted.{Noted}
use Rattle.desk.specs.Points.{caller_of}
use Rattle.serving.specs.Serving.{items_of}

module _ {E : Type 0} where
  pub starts_whole : (xs : List E) → StartsWith xs xs
  starts_whole xs = ([], sym (append-nil xs))

  pub starts_through : (xs ys zs : List E) → StartsWith xs ys → StartsWith ys zs → StartsWith xs zs
  starts_through xs ys zs p q = (q.0 ++ p.0, p.1 ∙ ap (λ l. l ++ p.0) q.1 ∙ append_assoc zs q.0 p.0)

  -- what holds behind a list holds behind one that begins with it
  pub all_behind : (P : E → Type 0) (start seen told : List E) → StartsWith seen start
      → All P (drop (length start) told) → All P (drop (length seen) told)
  all_behind P start seen told (rest, parts) all =
      subst (All P)
      (drop-drop (length rest) (length start) told
      ∙ ap (λ n. drop n told) (sym (ap (λ (l : List E). length l) parts ∙ length-append start rest)))
      (All-drop P (length rest) (drop (length start) told) all)

module _ (number : ℕ) where
  -- of a list that has no item of the caller's
  pub none_of_them : (items : List Noted) → NoneOf caller_of number items → items_of number items ≡ []
  none_of_them [] none = refl
  none_of_them (item ∷ items) none =
      ap (λ (b : Bool). if b then item ∷ items_of number items else items_of number items)
      (ne_eqb (caller_of item) number (All-head (λ (i : Noted). caller_of i ≢ number) item items none))
      ∙ none_of_them items (All-tail (λ (i : Noted). caller_of i ≢ number) item items none)

  -- of a list of which no item is counted as the caller's
  pub none_from : (items : List Noted) → items_of number items ≡ [] → NoneOf caller_of number items
  none_from [] none = All-nil (λ (i : Noted). caller_of i ≢ number)
  none_from (item ∷ items) none =
      dite (ℕ_discrete (caller_of item) number)
      (λ (same : caller_of item ≡ number). absurd (let some : item ∷ items_of number items ≡ [] =
      sym (ap (λ (b : Bool). if b then item ∷ items_of number items else items_of number items)
      (eq-eqb (caller_of item) number same)) ∙ none in cc))
      (λ (differs : caller_of item ≢ number). All-cons (λ (i : Noted). caller_of i ≢ number) item items differs
      (none_from items (sym (ap (λ (b : Bool). if b then item ∷ items_of number items else items_of number items)
      (ne_eqb (caller_of item) number differs)) ∙ none)))

  -- behind a first part, where the list grows
  pub items_grown : (first seen seen' : List Noted) → StartsWith seen first → StartsWith seen' seen
      → items_of number (drop (length first) seen')
      ≡ items_of number (drop (length first) seen) ++ items_of number (drop (length seen) seen')
  items_grown first seen seen' begins more =
      ap (λ (l : List Noted). items_of number (drop (length first) l)) more.1
      ∙ ap (λ (l : List Noted). items_of number l)
      (drop-append-le (length first) seen more.0 (front_fits seen first begins.0 begins.1))
      ∙ filter-append (λ (item : Noted). caller_of item == number) (drop (length first) seen) more.0
      ∙ ap (λ (l : List Noted). items_of number (drop (length first) seen) ++ items_of number l)
      (sym (front_rest seen' seen more.0 more.1))

  -- and has nothing more of the caller's
  pub items_same : (first seen seen' : List Noted) → StartsWith seen first → StartsWith seen' seen
      → NoneOf caller_of number (drop (length seen) seen')
      → items_of number (drop (length first) seen') ≡ items_of number (drop (length first) seen)
  items_same first seen seen' begins more none =
      items_grown first seen seen' begins more
      ∙ ap (λ (l : List Noted). items_of number (drop (length first) seen) ++ l)
      (none_of_them (drop (length seen) seen') none)
      ∙ append-nil (items_of number (drop (length first) seen))

  -- nothing stands behind the whole
  pub nothing_behind : (seen : List Noted) → items_of number (drop (length seen) seen) ≡ []
  nothing_behind seen = ap (λ (l : List Noted). items_of number l) (drop-length seen)
