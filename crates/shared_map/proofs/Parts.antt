-- What is found stays as it was where an empty last place goes.
use native.Mathlib.Omega.{arith}
use Rattle.std.proofs.Common.{◌≡◌, ℕ, ◌-◌, ◌<◌, inl, inr, List, length, take, sym, ap, ◌∙◌}
use Rattle.std.proofs.lemmas.Bool.{cases_eq}
use Rattle.std.proofs.lemmas.List.{get_or-take, length-take-le}
use Rattle.std.specs.Prelude.{Option, None}
use Rattle.shared_map.specs.Finding.{FindsSame}
use Rattle.shared_map.specs.Places.{place_at}
use Rattle.shared_map.proofs.Keys.{no_place, below_or}

pub same_then : {T : Type 0} (first then last : ℕ → Option T) → FindsSame first then → FindsSame then last
    → FindsSame first last
same_then first then last one other = record { same = λ key. other.same key ∙ one.same key }

pub popped : {P : Type 0} (before after : List (Option P)) → 0 < length before
    → place_at before (length before - 1) ≡ None → after ≡ take (length before - 1) before
    → FindsSame (place_at before) (place_at after)
popped before after positive empty is =
    let long : length after ≡ length before - 1 =
    ap length is ∙ length-take-le (length before - 1) before (omega arith) in
    record {
      same = λ index. elim (below_or index (length before - 1)) [
        | inl lt ↦ ap (λ places. place_at places index) is ∙ get_or-take (length before - 1) before index None lt
        | inr le ↦ no_place after index (omega arith) ∙ sym (elim (cases_eq index (length before - 1)) [
          | inl e ↦ ap (place_at before) e ∙ empty
          | inr apart ↦ no_place before index (omega arith)
        ])
      ];
    }
