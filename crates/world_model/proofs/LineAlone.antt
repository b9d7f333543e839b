-- A location on a line stays, or is lost, as the band does that has the line alone.
use Rattle.std.proofs.Common.{◌≡◌, ℕ, zero, suc, refl, sym, ap, subst, ◌∙◌, List, [], ◌∷◌, length, Bool, true, false, cond, arith}
use Rattle.std.specs.Prelude.{◌++◌, ◌&&◌, Contains, IfSome, None, Some, drop, not, take}
use Rattle.std.specs.Option.{option_map}
use Rattle.std.proofs.lemmas.Bool.{eq-eqb, false≢true}
use Rattle.std.proofs.lemmas.List.{append_assoc}
use Rattle.std.proofs.Math.Seq.{split_at}
use Rattle.dev_metadata.specs.Following.{is_changed}
use Rattle.grid_range.specs.Following.{follow}
use Rattle.grid_range.specs.FollowingLaws.{BandsStay, LostWhereGone}
use Rattle.grid_range.specs.Order.{IsOrder, StandTogether, is_among}
use Rattle.grid_range.specs.declared.axis.Axis.{Axis}
use Rattle.grid_range.specs.declared.axis.Axis.TheVariants.{Rows, Columns}
use Rattle.world_model.specs.LineChange.{LineChange, name_spot_followed}
use Rattle.world_model.specs.Metadata.{NameSpot}
use Rattle.world_model.specs.MetadataLaws.{line_alone}
use Rattle.world_model.proofs.MovedCells.{among_if_listed, listed_if_among}

-- a line stands together with itself
together : (order : List ℕ) (line : ℕ) → Contains order line → StandTogether order (line ∷ [])
together order line (place, there, at) = (
  take place order,
  drop (suc place) order,
  split_at order place line there ∙ ap (λ n. take place order ++ n ∷ drop (suc place) order) at
      ∙ sym (append_assoc (take place order) (line ∷ []) (drop (suc place) order)),
)

is_some_line : (line : ℕ) → line ∷ [] ≡ [] → ⊥
is_some_line line none = let long : suc zero ≡ zero = ap length none in omega (arith, long)

only : (line name : ℕ) → Contains (line ∷ []) name → line ≡ name
only line name (zero, there, at) = at
only line name (suc place, there, at) = absurd (let no : ⊥ = omega (arith, there) in no)

module _ (stay : BandsStay) (lost : LostWhereGone) where
  -- the band is the line as long as that is there
  module _ (order changed : List ℕ) (line : ℕ) (distinct : IsOrder order) where
    band_goes : (b : Bool) → is_among order line ≡ b
        → follow order changed (line_alone line) ≡ cond b (Some (line_alone line)) None
    band_goes true is =
        stay order changed (line_alone line) distinct
        (is_some_line line, together order line (listed_if_among order line is))
    band_goes false is =
        (lost order changed (line_alone line)).1
        (λ name alone there. false≢true (sym is
        ∙ among_if_listed order line (subst (Contains order) (sym (only line name alone)) there)))

    still_alone : (b : Bool) → IfSome (cond b (Some (line_alone line)) None) (λ band. band ≡ line_alone line)
    still_alone true = refl
    still_alone false = tt

    pub alone : IfSome (follow order changed (line_alone line)) (λ band. band ≡ line_alone line)
    alone = subst (λ found. IfSome found (λ band. band ≡ line_alone line))
        (sym (band_goes (is_among order line) refl)) (still_alone (is_among order line))

  its_axis : (sheet : ℕ) (axis : Axis) → is_changed sheet axis sheet axis ≡ true
  its_axis sheet Rows = ap (λ b. b && true) (eq-eqb sheet sheet refl)
  its_axis sheet Columns = ap (λ b. b && true) (eq-eqb sheet sheet refl)

  abbrev its_line : LineChange → ℕ → NameSpot
  its_line to line = NameSpot.Line to.sheet to.axis line

  pub line_follows : (to : LineChange) (line : ℕ) → IsOrder to.order
      → name_spot_followed to (its_line to line)
      ≡ option_map (λ band. its_line to line) (follow to.order to.changed (line_alone line))
  line_follows to line distinct =
      ap (λ b. cond (b && not (is_among to.order line)) None (Some (its_line to line))) (its_axis to.sheet to.axis)
      ∙ as_listed (is_among to.order line)
      ∙ ap (option_map (λ band. its_line to line))
      (sym (band_goes to.order to.changed line distinct (is_among to.order line) refl))
    where
      as_listed : (b : Bool) → cond (not b) None (Some (its_line to line))
          ≡ option_map (λ band. its_line to line) (cond b (Some (line_alone line)) None)
      as_listed true = refl
      as_listed false = refl
