-- Lists that begin with others, and what holds from a place on.
use Rattle.std.proofs.Common.{◌≡◌, ◌≢◌, ℕ, zero, suc, ◌≤◌, Bool, true, false, List, [], ◌∷◌, ◌++◌, length, drop, refl, sym, subst}
use Rattle.std.proofs.Common.{ap, ◌∙◌, arith}
use Rattle.std.specs.Prelude.{All, nat_lt, if◌then◌else◌}
use Rattle.std.proofs.Math.Seq.{drop-length}
use Rattle.std.proofs.lemmas.Bool.{ltb-true, ltb-false}
use Rattle.std.proofs.lemmas.List.{append-nil, append_assoc}
use Rattle.std.proofs.lemmas.List.Elements.{All-nil, All-cons, All-head, All-tail, All-append, All-drop, All-weaker}
use Rattle.history_lock.specs.History.{StartsWith, AllOf, AreSilent, longer, shorter}

module _ {E : Type 0} where
  pub starts_whole : (xs : List E) → StartsWith xs xs
  starts_whole xs = ([], sym (append-nil xs))

  pub starts_nothing : (xs : List E) → StartsWith xs []
  starts_nothing xs = (xs, refl)

  pub starts_through : (xs ys zs : List E) → StartsWith xs ys → StartsWith ys zs → StartsWith xs zs
  starts_through xs ys zs p q = (q.0 ++ p.0, p.1 ∙ ap (λ l. l ++ p.0) q.1 ∙ append_assoc zs q.0 p.0)

  -- of two beginnings of one list the longer begins with the shorter
  pub starts_shorter : (all xs ys : List E) → StartsWith all xs → StartsWith all ys → length ys ≤ length xs
      → StartsWith xs ys
  starts_shorter all xs [] p q le = starts_nothing xs
  starts_shorter all [] (y ∷ ys) p q le = absurd (omega arith)
  starts_shorter all (x ∷ xs) (y ∷ ys) p q le =
      let e : x ∷ (xs ++ p.0) ≡ y ∷ (ys ++ q.0) = sym p.1 ∙ q.1 in
      let head : x ≡ y = cc in
      let tails : xs ++ p.0 ≡ ys ++ q.0 = cc in
      let rest = starts_shorter (xs ++ p.0) xs ys (p.0, refl) (q.0, tails) (omega arith) in
      (rest.0, λ k. head k ∷ rest.1 k)

  pub by_length : (P : List E → List E → Type 0) (xs ys : List E) → (length xs ≤ length ys → P ys xs)
      → (length ys ≤ length xs → P xs ys) → P (longer xs ys) (shorter xs ys)
  by_length P xs ys less more = go (nat_lt (length xs) (length ys)) refl
    where
      go : (b : Bool) → nat_lt (length xs) (length ys) ≡ b → P (if b then ys else xs) (if b then xs else ys)
      go true e = less (let lt = ltb-true (length xs) (length ys) e in omega arith)
      go false e = more (ltb-false (length xs) (length ys) e)

  -- nothing stands behind the last element
  pub nothing_behind : (P : E → Type 0) (xs : List E) → All P (drop (length xs) xs)
  nothing_behind P xs = subst (All P) (sym (drop-length xs)) (All-nil P)

  pub All-drop_append : (P : E → Type 0) (n : ℕ) (xs ys : List E) → All P (drop n xs) → All P ys
      → All P (drop n (xs ++ ys))
  All-drop_append P zero xs ys old new = All-append P xs ys old new
  All-drop_append P (suc n) [] ys old new = All-drop P (suc n) ys new
  All-drop_append P (suc n) (x ∷ xs) ys old new = All-drop_append P n xs ys old new

  All-front : (P : E → Type 0) (xs ys : List E) → All P (xs ++ ys) → All P xs
  All-front P [] ys h = All-nil P
  All-front P (x ∷ xs) ys h = All-cons P x xs (All-head P x (xs ++ ys) h) (All-front P xs ys
      (All-tail P x (xs ++ ys) h))

  pub All-drop_front : (P : E → Type 0) (n : ℕ) (xs ys : List E) → All P (drop n (xs ++ ys)) → All P (drop n xs)
  All-drop_front P zero xs ys h = All-front P xs ys h
  All-drop_front P (suc n) [] ys h = All-nil P
  All-drop_front P (suc n) (x ∷ xs) ys h = All-drop_front P n xs ys h

  pub All-drop_more : (P : E → Type 0) (m n : ℕ) (xs : List E) → m ≤ n → All P (drop m xs) → All P (drop n xs)
  All-drop_more P zero n xs le h = All-drop P n xs h
  All-drop_more P (suc m) zero xs le h = absurd (omega arith)
  All-drop_more P (suc m) (suc n) [] le h = h
  All-drop_more P (suc m) (suc n) (x ∷ xs) le h = All-drop_more P m n xs (omega arith) h

module _ {E : Type 0} (caller : E → ℕ) where
  -- those who are done stay so where another adds entries
  pub done_grown : (met : List (ℕ × ℕ)) (all added : List E) (number : ℕ) → AllOf caller number added
      → All (λ m. m.0 ≢ number) met → AreSilent caller met all → AreSilent caller met (all ++ added)
  done_grown [] all added number own apart done = All-nil (λ m. All (λ e. caller e ≢ m.0) (drop m.1 (all ++ added)))
  done_grown (m ∷ met) all added number own apart done =
      All-cons (λ (m : ℕ × ℕ). All (λ e. caller e ≢ m.0) (drop m.1 (all ++ added))) m met
      (All-drop_append (λ e. caller e ≢ m.0) m.1 all added
      (All-head (λ (m : ℕ × ℕ). All (λ e. caller e ≢ m.0) (drop m.1 all)) m met done)
      (All-weaker (λ e. caller e ≡ number) (λ e. caller e ≢ m.0)
      (λ e is same. All-head (λ (m : ℕ × ℕ). m.0 ≢ number) m met apart (sym same ∙ is)) added own))
      (done_grown met all added number own (All-tail (λ (m : ℕ × ℕ). m.0 ≢ number) m met apart)
      (All-tail (λ (m : ℕ × ℕ). All (λ e. caller e ≢ m.0) (drop m.1 all)) m met done))

  -- and are so in a list's beginning
  pub done_front : (met : List (ℕ × ℕ)) (xs ys : List E) → AreSilent caller met (xs ++ ys) → AreSilent caller met xs
  done_front met xs ys =
      All-weaker (λ m. All (λ e. caller e ≢ m.0) (drop m.1 (xs ++ ys))) (λ m. All (λ e. caller e ≢ m.0) (drop m.1 xs))
      (λ m done. All-drop_front (λ e. caller e ≢ m.0) m.1 xs ys done) met
