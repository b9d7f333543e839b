-- Connections that doors of links in memory accepted.
use Rattle.std.proofs.Common.{◌≡◌, inl, inr, ℕ, zero, suc, ◌+◌, ◌≤◌, Bool, true, false, List, [], ◌∷◌, ◌++◌, map, slice_index_or, slice_set, refl, ap, subst, ◌∙◌, arith}
use Rattle.std.specs.Prelude.{Some, None, All, min, nat_lt}
use Rattle.std.proofs.Math.Nat.{min-eq_left, min-eq_right}
use Rattle.std.proofs.lemmas.Bool.{ltb-true, ltb-false}
use Rattle.std.proofs.lemmas.List.{map-append}
use Rattle.std.proofs.lemmas.List.Elements.{All-nil, All-cons, All-head, All-tail}
use Rattle.std.specs.declared.snapshot.Snapshot.{Snapshot}
use Rattle.cell_value.specs.Calls.{one_more}
use Rattle.cell_value.specs.FaultCount.{last_count, Rose}
use Rattle.conversation.specs.declared.ended.Ended.{Ended}
use Rattle.connections.specs.Doors.{LinkSeen, Connection, Shown, came_back, after_accept}
use Rattle.connections.specs.Memory.{LinksInMemory, connection_of, shown_by}
use Rattle.connections.specs.declared.memory.Visit.{Visit}

-- what holds of a list that ends with an element
module _ {X : Type 0} (P : X → Type 0) where
  fronts : (xs ys : List X) → All P (xs ++ ys) → All P xs
  fronts [] ys all = All-nil P
  fronts (x ∷ xs) ys all = All-cons P x xs (All-head P x (xs ++ ys) all) (fronts xs ys (All-tail P x (xs ++ ys) all))

  lasts : (xs : List X) (x : X) → All P (xs ++ x ∷ []) → P x
  lasts [] x all = All-head P x [] all
  lasts (y ∷ xs) x all = lasts xs x (All-tail P y (xs ++ x ∷ []) all)

  pub front_of : (all xs ys : List X) → all ≡ xs ++ ys → All P all → All P xs
  front_of all xs ys is each = fronts xs ys (subst (All P) is each)

  pub last_of : (all xs : List X) (x : X) → all ≡ xs ++ x ∷ [] → All P all → P x
  last_of all xs x is each = lasts xs x (subst (All P) is each)

abbrev shows : List ℕ → ℕ → List Connection → Shown
shows opened accepts connections = record {
  opened = opened;
  accepts = accepts;
  connections = connections;
}

-- a count with one more has risen
pub rose_more : (a b c : ℕ) → a ≤ b → c ≡ min (b + 1) last_count → Rose a c
rose_more a b c le is = go (nat_lt b last_count) refl
  where
    go : (x : Bool) → nat_lt b last_count ≡ x → Rose a c
    go true e =
        let lt = ltb-true b last_count e in
        let more : c ≡ b + 1 = is ∙ min-eq_left (omega (arith, lt)) in inl (omega (arith, more, le))
    go false e =
        let ge = ltb-false b last_count e in
        inr (is ∙ min-eq_right (omega (arith, ge)))

module _ {L : Type 0} (seen : L → LinkSeen) where
  -- one of them gets its end
  pub back_shown : (ended : Ended) (link : L) (xs : List (Visit L)) (n : ℕ) (d : Visit L) → d ≡ slice_index_or xs n d
      → map (connection_of seen) (slice_set xs n (record { held = d.held; came = d.came; back = Some (ended, link) }))
      ≡ came_back n (record { ended = ended; link = seen link }) (map (connection_of seen) xs)
  back_shown ended link [] n d same = refl
  back_shown ended link (x ∷ xs) zero d same =
      ap (λ (v : Visit L). record { came = seen v.came.value; back = Some (record { ended = ended; link = seen link }) }
      ∷ map (connection_of seen) xs) same
  back_shown ended link (x ∷ xs) (suc n) d same =
      ap (λ (l : List Connection). connection_of seen x ∷ l) (back_shown ended link xs n d same)

  -- one more was accepted
  pub accepted_shown : (old : LinksInMemory L) (link : L) (opened : List ℕ) (accepts : ℕ)
      (accepted : List (Visit L)) (held : List ℕ) (came : Snapshot L) → opened ≡ old.opened
      → accepts ≡ one_more old.accepts
      → accepted ≡ old.accepted ++ record { held = held; came = came; back = None } ∷ [] → came.value ≡ link
      → Some (record { opened = opened; accepts = accepts; connections = map (connection_of seen) accepted })
      ≡ Some (after_accept (seen link) (shown_by seen old))
  accepted_shown old link opened accepts accepted held came same_ports more one told =
      ap (λ (o : List ℕ). Some (shows o accepts (map (connection_of seen) accepted))) same_ports
      ∙ ap (λ (n : ℕ). Some (shows old.opened n (map (connection_of seen) accepted))) more
      ∙ ap (λ (l : List (Visit L)). Some (shows old.opened (one_more old.accepts) (map (connection_of seen) l))) one
      ∙ ap (λ (l : List Connection). Some (shows old.opened (one_more old.accepts) l))
      (map-append (connection_of seen) old.accepted (record { held = held; came = came; back = None } ∷ []))
      ∙ ap (λ (l : L). Some (shows old.opened (one_more old.accepts)
      (map (connection_of seen) old.accepted ++ record { came = seen l; back = None } ∷ []))) told
