-- Laws for the proofs of this crate and of those above it: of some cells protected ranges deny a user one thing, and
-- there is such a thing.
use Rattle.std.proofs.Common.{◌≡◌, ◌<◌, ℕ, List, [], ◌∷◌, inl, inr, refl, sym, ap, subst}
use Rattle.std.specs.Prelude.{Option, Some, None, All}
use Rattle.std.proofs.Math.Nat.{lt_irrefl, lt_trans}
use Rattle.std.proofs.lemmas.Bool.{cases_order}
use Rattle.std.proofs.lemmas.List.Elements.{All-cons, All-contains, All-nil}
use Rattle.cell_value.specs.Elements.{Contains-cons, Contains-head}
use Rattle.protection.specs.Denial.{Cells, DeniesOne, IsFirst}
use Rattle.protection.specs.declared.range.Protection.{Protection}
use Rattle.world_model.specs.Book.{PlaceBook}
use Rattle.values_api.specs.Denials.{IsDenial}

module _ (user : List ℕ) (book : PlaceBook) (cells : Cells) where
  not_before : (id next : ℕ) → IsFirst (DeniesOne user book.owner cells) book.protections id
      → IsFirst (DeniesOne user book.owner cells) book.protections next → ¬ (id < next)
  not_before id next first first' less =
      All-contains (λ other. other.id < next → ¬ (DeniesOne user book.owner cells other)) book.protections
      first.protection first'.least first.listed (subst (λ n. n < next) (sym first.has_id) less) first.denies

  none_denied : (id : ℕ) → IsFirst (DeniesOne user book.owner cells) book.protections id
      → All (λ one. ¬ (DeniesOne user book.owner cells one)) book.protections → ⊥
  none_denied id first none =
      All-contains (λ one. ¬ (DeniesOne user book.owner cells one)) book.protections first.protection none first.listed
      first.denies

  pub denial_once : (denied denied' : Option ℕ) → IsDenial user book cells denied → IsDenial user book cells denied'
      → denied ≡ denied'
  denial_once None None none none' = refl
  denial_once None (Some id) none first = absurd (none_denied id first none)
  denial_once (Some id) None first none = absurd (none_denied id first none)
  denial_once (Some id) (Some next) first first' = ap (λ n. Some n) (elim (cases_order id next) [
    | inl same ↦ same
    | inr apart ↦ elim apart [
      | inl before ↦ absurd (not_before id next first first' before)
      | inr behind ↦ absurd (not_before next id first' first behind)
    ]
  ])

-- the least id of one that denies, if one does
module _ (IsDenying : Protection → Type 0) where
  abbrev Least : List Protection → Option ℕ → Type 0
  Least protections (Some id) = IsFirst IsDenying protections id
  Least protections None = All (λ one. ¬ (IsDenying one)) protections

  abbrev DeniesNone : ℕ → Protection → Type 0
  DeniesNone id other = other.id < id → ¬ (IsDenying other)

  -- one is denying that stands before others
  first_denies : (first : Protection) (others : List Protection) → IsDenying first → (denied : Option ℕ)
      → Least others denied → (next : Option ℕ) × Least (first ∷ others) next
  first_denies first others denies None none = (
    Some first.id,
    record {
      protection = first;
      listed = Contains-head first others;
      has_id = refl;
      denies = denies;
      least = All-cons (DeniesNone first.id) first others (λ less. absurd (lt_irrefl first.id less))
          (λ k d there less. none k d there);
    },
  )
  first_denies first others denies (Some id) is = elim (cases_order first.id id) [
    | inl same ↦ (
      Some id,
      record {
        protection = is.protection;
        has_id = is.has_id;
        denies = is.denies;
        listed = Contains-cons first is.protection others is.listed;
        least = All-cons (DeniesNone id) first others
            (λ less. absurd (lt_irrefl id (subst (λ n. n < id) same less))) is.least;
      },
    )
    | inr apart ↦ elim apart [
      | inl before ↦ (
        Some first.id,
        record {
          protection = first;
          listed = Contains-head first others;
          has_id = refl;
          denies = denies;
          least = All-cons (DeniesNone first.id) first others (λ less. absurd (lt_irrefl first.id less))
              (λ k d there less. is.least k d there (lt_trans less before));
        },
      )
      | inr behind ↦ (
        Some id,
        record {
          protection = is.protection;
          has_id = is.has_id;
          denies = is.denies;
          listed = Contains-cons first is.protection others is.listed;
          least = All-cons (DeniesNone id) first others
              (λ less. absurd (lt_irrefl id (lt_trans behind less))) is.least;
        },
      )
    ]
  ]

  first_passes : (first : Protection) (others : List Protection) → ¬ (IsDenying first) → (denied : Option ℕ)
      → Least others denied → Least (first ∷ others) denied
  first_passes first others passes None none = All-cons (λ one. ¬ (IsDenying one)) first others passes none
  first_passes first others passes (Some id) is = record {
    protection = is.protection;
    has_id = is.has_id;
    denies = is.denies;
    listed = Contains-cons first is.protection others is.listed;
    least = All-cons (DeniesNone id) first others (λ less. passes) is.least;
  }

  some_least : (protections : List Protection) → ¬ ((denied : Option ℕ) → ¬ (Least protections denied))
  some_least [] none = none None (All-nil (λ one. ¬ (IsDenying one)))
  some_least (first ∷ others) none = some_least others (λ denied is.
      let passes : ¬ (IsDenying first) = λ denies.
      let (next, least) = first_denies first others denies denied is in none next least in
      none denied (first_passes first others passes denied is))

-- it can't be that none is there
module _ (user : List ℕ) (book : PlaceBook) (cells : Cells) where
  as_denial : (denied : Option ℕ) → Least (DeniesOne user book.owner cells) book.protections denied
      → IsDenial user book cells denied
  as_denial None none = none
  as_denial (Some id) is = is

  pub some_denial : ¬ ((denied : Option ℕ) → ¬ (IsDenial user book cells denied))
  some_denial none =
      some_least (DeniesOne user book.owner cells) book.protections (λ denied is. none denied (as_denial denied is))
