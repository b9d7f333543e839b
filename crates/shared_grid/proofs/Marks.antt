-- The marks of items after a call.
use Rattle.std.proofs.Common.{◌≡◌, ◌≢◌, ℕ, ◌<◌, Bor, true, false, cond, refl, sym, ap, subst, ◌∙◌}
use Rattle.std.specs.Prelude.{Option, Result, Ok, Err, OnOk, OnErr, Some, None, is_some}
use Rattle.std.specs.Option.{IsSome, option_copied}
use Rattle.std.specs.Cmp.{nat_cmp_total}
use Rattle.std.specs.Ordering.{nat_cmp, eq_by_cmp}
use Rattle.std.specs.FinMap as map
use Rattle.std.proofs.lemmas.Bool.{false≢true}
use Rattle.shared_grid.specs.Cells.{numbers, key_of, line_in, across_in, HasMarks}
use Rattle.shared_grid.proofs.Numbers.{line-key, across-key, same_key, key_itself}

-- what holds after success and after failure
pub either : {X A E : Type 0} (P : X → Type 0) (x a b : X) (r : Result A E) → OnOk r (x ≡ a) → OnErr r (x ≡ b)
    → P a → P b → P x
either P x a b (Ok value) ok err pa pb = subst P (sym ok) pa
either P x a b (Err error) ok err pa pb = subst P (sym err) pb

pub lent_is_some : {T : Type 0} (lent : Option (Bor T)) → is_some (option_copied lent) ≡ is_some lent
lent_is_some (Some item) = refl
lent_is_some None = refl

pub no_items : {T M : Type 0} (marks : map.FinMap nat_cmp M) → HasMarks (map.empty {X = T}) marks
no_items marks = record {
  each = λ row column _ _ some.
      absurd (false≢true (ap is_some (sym (map.get-empty nat_cmp (key_of row column))) ∙ some));
}

module _ {X : Type 0} (held : map.FinMap nat_cmp X) (at : ℕ) where
  put_there : (item : X) (key : ℕ) → key ≡ at → IsSome (map.get (map.insert held at item) key)
  put_there item key same =
      ap is_some (map.get-insert nat_cmp_total held at item key
      ∙ ap (λ b. cond b (Some item) (map.get held key)) (ap (λ k. eq_by_cmp nat_cmp k at) same ∙ key_itself at))

  put_more : (item : X) (key : ℕ) → IsSome (map.get held key) → IsSome (map.get (map.insert held at item) key)
  put_more item key some = subst IsSome (sym (map.get-insert nat_cmp_total held at item key))
      (elim (eq_by_cmp nat_cmp key at) as (λ b. IsSome (cond b (Some item) (map.get held key))) [
        | true ↦ refl
        | false ↦ some
      ])

  put_other : (item : X) (key : ℕ) → key ≢ at → IsSome (map.get (map.insert held at item) key)
      → IsSome (map.get held key)
  put_other item key other some =
      elim (eq_by_cmp nat_cmp key at) as (λ b. eq_by_cmp nat_cmp key at ≡ b
      → IsSome (cond b (Some item) (map.get held key))
      → IsSome (map.get held key)) [
        | true ↦ λ same _. absurd (other (same_key key at same))
        | false ↦ λ _ held. held
      ] refl (subst IsSome (map.get-insert nat_cmp_total held at item key) some)

  pub taken_before : (key : ℕ) → IsSome (map.get (map.remove held at) key) → (key ≢ at) × IsSome (map.get held key)
  taken_before key some =
      elim (eq_by_cmp nat_cmp key at) as (λ b. eq_by_cmp nat_cmp key at ≡ b → IsSome (cond b None (map.get held key))
      → (key ≢ at) × IsSome (map.get held key)) [
        | true ↦ λ _ none. absurd (false≢true none)
        | false ↦ λ differs held. (
          (λ same. false≢true (sym differs ∙ ap (λ k. eq_by_cmp nat_cmp k at) same ∙ key_itself at)),
          held,
        )
      ] refl (subst IsSome (map.get-remove nat_cmp_total held at key) some)

  pub taken_other : (key : ℕ) → key ≢ at → IsSome (map.get held key) → IsSome (map.get (map.remove held at) key)
  taken_other key other some = subst IsSome (sym (map.get-remove nat_cmp_total held at key))
      (elim (eq_by_cmp nat_cmp key at) as (λ b. eq_by_cmp nat_cmp key at ≡ b
      → IsSome (cond b None (map.get held key))) [
        | true ↦ λ same. absurd (other (same_key key at same))
        | false ↦ λ _. some
      ] refl)

-- two keys are one where the turned ones are
pub turned : (row column row' column' : ℕ) → row < numbers → column < numbers → row' < numbers → column' < numbers
    → key_of row' column' ≡ key_of row column → key_of column' row' ≡ key_of column row
turned row column row' column' a b a' b' same =
    let rows : row' ≡ row = sym (line-key row' column' b') ∙ ap line_in same ∙ line-key row column b in
    let columns : column' ≡ column = sym (across-key row' column' b') ∙ ap across_in same ∙ across-key row column b in
    λ i. key_of (columns i) (rows i)

module _ {T M : Type 0} (items : map.FinMap nat_cmp T) (marks : map.FinMap nat_cmp M) (are : HasMarks items marks) where
  module _ (row column : ℕ) (row_fits : row < numbers) (column_fits : column < numbers) where
    pub put_mark : (turn : ℕ) → turn ≡ key_of column row → (after : map.FinMap nat_cmp M) (mark : M)
        → after ≡ map.insert marks turn mark → HasMarks items after
    put_mark turn is after mark put = subst (HasMarks items) (sym put) (record {
      each = λ r c small fits some. put_more marks turn mark (key_of c r) (are.each r c small fits some);
    })

    pub put_both : (key turn : ℕ) → key ≡ key_of row column → turn ≡ key_of column row → (item : T)
        → (after : map.FinMap nat_cmp M) (mark : M) → after ≡ map.insert marks turn mark
        → HasMarks (map.insert items key item) after
    put_both key turn key_is turn_is item after mark put =
        subst (HasMarks (map.insert items key item)) (sym put) (record {
          each = λ r c small fits some.
              elim (eq_by_cmp nat_cmp (key_of r c) key) as (λ b. eq_by_cmp nat_cmp (key_of r c) key ≡ b
              → IsSome (map.get (map.insert marks turn mark) (key_of c r))) [
                | true ↦ λ same. put_there marks turn mark (key_of c r)
                    (turned row column r c row_fits column_fits small fits (same_key (key_of r c) key same ∙ key_is)
                    ∙ sym turn_is)
                | false ↦ λ differs. put_more marks turn mark (key_of c r) (are.each r c small fits
                    (put_other items key item (key_of r c)
                    (λ same. false≢true (sym differs ∙ ap (λ k. eq_by_cmp nat_cmp k key) same ∙ key_itself key)) some))
              ] refl;
        })

    pub taken_both : (key turn : ℕ) → key ≡ key_of row column → turn ≡ key_of column row
        → (after : map.FinMap nat_cmp T)
        → after ≡ map.remove items key → HasMarks after (map.remove marks turn)
    taken_both key turn key_is turn_is after taken =
        subst (λ left. HasMarks left (map.remove marks turn)) (sym taken) (record {
          each = λ r c small fits some.
              let before = taken_before items key (key_of r c) some in
              taken_other marks turn (key_of c r)
              (λ same. before.0 (turned column row c r column_fits row_fits fits small (same ∙ turn_is) ∙ sym key_is))
              (are.each r c small fits before.1);
        })

  pub taken_item : (key : ℕ) (after : map.FinMap nat_cmp T) → after ≡ map.remove items key → HasMarks after marks
  taken_item key after taken = subst (λ left. HasMarks left marks) (sym taken) (record {
    each = λ r c small fits some. are.each r c small fits (taken_before items key (key_of r c) some).1;
  })

  -- an item in place of another has its mark
  pub put_over : (key : ℕ) → IsSome (map.get items key) → (item : T) (after : map.FinMap nat_cmp T)
      → after ≡ map.insert items key item → HasMarks after marks
  put_over key held item after put = subst (λ now. HasMarks now marks) (sym put) (record {
    each = λ r c small fits some.
        elim (eq_by_cmp nat_cmp (key_of r c) key) as (λ b. eq_by_cmp nat_cmp (key_of r c) key ≡ b
        → IsSome (map.get marks (key_of c r))) [
          | true ↦ λ same. are.each r c small fits
              (subst (λ at. IsSome (map.get items at)) (sym (same_key (key_of r c) key same)) held)
          | false ↦ λ differs. are.each r c small fits (put_other items key item (key_of r c)
              (λ same. false≢true (sym differs ∙ ap (λ k. eq_by_cmp nat_cmp k key) same ∙ key_itself key)) some)
        ] refl;
  })
