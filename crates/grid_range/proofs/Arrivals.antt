-- What a stretch of an order is followed to, by numbers alone: `before` says where the line at a
-- place of the new order stood, `a` to `b - 1` are the lines that changed, `s` to `e - 1` those of
-- the band, and `s'` to `e'` what the band becomes.
use Rattle.std.proofs.Common.{None, ◌≡◌, ℕ, ◌-◌, ◌<◌, ◌≤◌, Bool, true, false, not, List, length, get_or, Some, arith, refl, sym, ◌∙◌, inl, inr, ◌⊎◌}
use Rattle.std.specs.Prelude.{slice_range}
use Rattle.std.proofs.lemmas.Bool.{and_parts, not-true, both_ways, false_from_ne_true}
use Rattle.grid_range.specs.Order.{IsOrder}
use Rattle.grid_range.specs.Following.{followed_names}
use Rattle.grid_range.proofs.Orders.{among_span, inside, inside_from, inside_true, cases_inside}
use Rattle.grid_range.proofs.Ranges.{has, has_settled, reach, EndsAt, Covers, PassesBehind, hull, together, carried, torn, lost}

pub record Came (order after : List ℕ) (before : ℕ → ℕ) : Type 0 where
  pub within : (j : ℕ) → j < length after → before j < length order
  pub same : (j : ℕ) → j < length after → get_or after j 0 ≡ get_or order (before j) 0

-- a place where a line of the band stands, and one where no line that changed does
abbrev pub Of : (ℕ → ℕ) → ℕ → ℕ → ℕ → Type 0
Of before s e j = (s ≤ before j) × (before j < e)

abbrev pub Outside : (ℕ → ℕ) → ℕ → ℕ → ℕ → Type 0
Outside before a b j = a ≤ before j → before j < b → ⊥

-- an open band goes to the end of the order
abbrev pub EndOf : Bool → ℕ → ℕ → Type 0
EndOf true count e = Unit {0}
EndOf false count e = e ≡ count

-- what a range ends with: a line of the band, or the end of the order
abbrev pub LastOf : Bool → ℕ → (ℕ → ℕ) → ℕ → ℕ → ℕ → Type 0
LastOf true size before s e e' = Of before s e (e' - 1)
LastOf false size before s e e' = e' ≡ size

abbrev pub LastOutside : Bool → (ℕ → ℕ) → ℕ → ℕ → ℕ → Type 0
LastOutside true before a b e' = Outside before a b (e' - 1)
LastOutside false before a b e' = Unit {0}

abbrev pub Behind : Bool → ℕ → (ℕ → ℕ) → ℕ → ℕ → ℕ → Type 0
Behind true size before s e j = (k : ℕ) × (j < k) × (k < size) × Of before s e k
Behind false size before s e j = Unit {0}

-- the lines of the band reach from `s'` to `e'`
pub record Arrives (closed : Bool) (size : ℕ) (before : ℕ → ℕ) (s e s' e' : ℕ) : Type 0 where
  pub some : s' < e'
  pub there : e' ≤ size
  pub first : Of before s e s'
  pub last : LastOf closed size before s e e'
  pub all : (j : ℕ) → j < size → s ≤ before j → before j < e → (s' ≤ j) × (j < e')

-- those of them that didn't change do
pub record Settles (closed : Bool) (size : ℕ) (before : ℕ → ℕ) (s e a b s' e' : ℕ) : Type 0 where
  pub some : s' < e'
  pub there : e' ≤ size
  pub first : Of before s e s'
  pub first_outside : Outside before a b s'
  pub last : LastOf closed size before s e e'
  pub last_outside : LastOutside closed before a b e'
  pub all : (j : ℕ) → j < size → s ≤ before j → before j < e → (before j < a) ⊎ (b ≤ before j)
      → (s' ≤ j) × (j < e')

-- another line stands behind one of the band, and before one more where the range is closed
pub record Tears (closed : Bool) (size : ℕ) (before : ℕ → ℕ) (s e i j : ℕ) : Type 0 where
  pub below : i < j
  pub there : j < size
  pub of_band : Of before s e i
  pub other : Outside before s e j
  pub behind : Behind closed size before s e j

-- the names become the lines from `s'` to `e' - 1`
pub record Follows (closed : Bool) (after changed names : List ℕ) (s' e' : ℕ) : Type 0 where
  pub some : s' < e'
  pub there : e' ≤ length after
  pub is : followed_names (reach closed) after changed names ≡ Some (slice_range after s' e')

module _ (order after : List ℕ) (before : ℕ → ℕ) (came : Came order after before) (distinct : IsOrder order) where
  has_came : (s e j : ℕ) → e ≤ length order → j < length after
      → has after (slice_range order s e) j ≡ inside s e (before j)
  has_came s e j long there =
      rw (came.same j there) (among_span order s e (before j) distinct long (came.within j there))

  pub has_of : (s e j : ℕ) → e ≤ length order → j < length after → Of before s e j
      → has after (slice_range order s e) j ≡ true
  has_of s e j long there at = has_came s e j long there ∙ inside_from s e (before j) at.0 at.1

  of_has : (s e j : ℕ) → e ≤ length order → j < length after
      → has after (slice_range order s e) j ≡ true → Of before s e j
  of_has s e j long there h = inside_true s e (before j) (sym (has_came s e j long there) ∙ h)

  has_outside : (s e j : ℕ) → e ≤ length order → j < length after → Outside before s e j
      → has after (slice_range order s e) j ≡ false
  has_outside s e j long there out = false_from_ne_true (has after (slice_range order s e) j)
      (λ h. let at = of_has s e j long there h in out at.0 at.1)

  pub covers : (closed : Bool) (s e s' e' : ℕ) → e ≤ length order
      → Arrives closed (length after) before s e s' e'
      → Covers closed after (has after (slice_range order s e)) s' e'
  covers closed s e s' e' long c = record {
    some = c.some;
    there = c.there;
    first = has_of s e s' long (let x = c.some in let y = c.there in omega arith) c.first;
    last = ends closed c.some c.there c.last;
    all = λ j l h. let at = of_has s e j long l h in c.all j l at.0 at.1;
  }
    where
      ends : (closed : Bool) → s' < e' → e' ≤ length after → LastOf closed (length after) before s e e'
          → EndsAt closed after (has after (slice_range order s e)) e'
      ends true some there last = has_of s e (e' - 1) long (omega arith) last
      ends false some there last = last

  settled_of : (s e a b j : ℕ) → e ≤ length order → b ≤ length order → j < length after
      → Of before s e j → Outside before a b j
      → has_settled after (slice_range order a b) (slice_range order s e) j ≡ true
  settled_of s e a b j long wide there at out =
      rw (has_of s e j long there at, has_outside a b j wide there out) refl

  settled_covers : (closed : Bool) (s e a b s' e' : ℕ) → e ≤ length order → b ≤ length order
      → Settles closed (length after) before s e a b s' e'
      → Covers closed after (has_settled after (slice_range order a b) (slice_range order s e)) s' e'
  settled_covers closed s e a b s' e' long wide c = record {
    some = c.some;
    there = c.there;
    first = settled_of s e a b s' long wide (let x = c.some in let y = c.there in omega arith)
        c.first c.first_outside;
    last = ends closed c.some c.there c.last c.last_outside;
    all = λ j l h.
        let parts = and_parts (has after (slice_range order s e) j)
        (not (has after (slice_range order a b) j)) h in
        let at = of_has s e j long l parts.0 in
        c.all j l at.0 at.1 (unchanged j l (not-true (has after (slice_range order a b) j) parts.1));
  }
    where
      ends : (closed : Bool) → s' < e' → e' ≤ length after → LastOf closed (length after) before s e e'
          → LastOutside closed before a b e'
          → EndsAt closed after (has_settled after (slice_range order a b) (slice_range order s e)) e'
      ends true some there last out = settled_of s e a b (e' - 1) long wide (omega arith) last out
      ends false some there last out = last

      unchanged : (j : ℕ) → j < length after → has after (slice_range order a b) j ≡ false
          → (before j < a) ⊎ (b ≤ before j)
      unchanged j l h = elim (cases_inside a b (before j)) [
        | inl within ↦ absurd (both_ways (has after (slice_range order a b) j) h
            (has_of a b j wide l within))
        | inr out ↦ out
      ]

  -- the lines of the band reach from `s'` to `e'`, and the ones there didn't change
  pub follow_hull : (closed : Bool) (s e a b s' e' : ℕ) → e ≤ length order → b ≤ length order
      → Arrives closed (length after) before s e s' e'
      → Outside before a b s' → LastOutside closed before a b e'
      → Follows closed after (slice_range order a b) (slice_range order s e) s' e'
  follow_hull closed s e a b s' e' long wide c first last = record {
    some = c.some;
    there = c.there;
    is = hull closed after (slice_range order a b) (slice_range order s e) s' e'
        (covers closed s e s' e' long c)
        (settled_covers closed s e a b s' e' long wide record {
          some = c.some;
          there = c.there;
          first = c.first;
          first_outside = first;
          last = c.last;
          last_outside = last;
          all = λ j l x y _. c.all j l x y;
        });
  }

  -- all lines there are the band's
  pub follow_together : (closed : Bool) (s e a b s' e' : ℕ) → e ≤ length order → b ≤ length order
      → Arrives closed (length after) before s e s' e'
      → ((j : ℕ) → s' ≤ j → j < e' → Of before s e j)
      → Follows closed after (slice_range order a b) (slice_range order s e) s' e'
  follow_together closed s e a b s' e' long wide c full = record {
    some = c.some;
    there = c.there;
    is = together closed after (slice_range order a b) (slice_range order s e) s' e'
        (covers closed s e s' e' long c)
        (λ j l m. has_of s e j long (let y = c.there in omega arith) (full j l m));
  }

  -- all lines of the band changed
  pub follow_carried : (closed : Bool) (s e a b s' e' : ℕ) → e ≤ length order → b ≤ length order
      → a ≤ s → e ≤ b → Arrives closed (length after) before s e s' e'
      → Follows closed after (slice_range order a b) (slice_range order s e) s' e'
  follow_carried closed s e a b s' e' long wide low high c = record {
    some = c.some;
    there = c.there;
    is = carried closed after (slice_range order a b) (slice_range order s e) s' e'
        (covers closed s e s' e' long c)
        (λ j l h. let at = of_has s e j long l h in
        has_of a b j wide l (let x = at.0 in let y = at.1 in (omega arith, omega arith)));
  }

  -- another line stands between lines of the band
  pub follow_torn : (closed : Bool) (s e a b s' e' i j : ℕ) → e ≤ length order → b ≤ length order
      → Tears closed (length after) before s e i j
      → Settles closed (length after) before s e a b s' e'
      → Follows closed after (slice_range order a b) (slice_range order s e) s' e'
  follow_torn closed s e a b s' e' i j long wide tears c = record {
    some = c.some;
    there = c.there;
    is = torn closed after (slice_range order a b) (slice_range order s e) s' e' i j tears.below tears.there
        (has_of s e i long (let x = tears.below in let y = tears.there in omega arith) tears.of_band)
        (has_outside s e j long tears.there tears.other)
        (passes closed tears.behind) (settled_covers closed s e a b s' e' long wide c);
  }
    where
      passes : (closed : Bool) → Behind closed (length after) before s e j
          → PassesBehind closed after (has after (slice_range order s e)) j
      passes true (k, above, l, at_k) = (k, above, l, has_of s e k long l at_k)
      passes false _ = tt

  -- no line of the band is left
  pub follow_lost : (closed : Bool) (changed : List ℕ) (s e : ℕ) → e ≤ length order
      → ((j : ℕ) → j < length after → Outside before s e j)
      → followed_names (reach closed) after changed (slice_range order s e) ≡ None
  follow_lost closed changed s e long gone =
      lost closed after changed (slice_range order s e) (λ j l. has_outside s e j long l (gone j l))
