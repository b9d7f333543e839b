-- What is stored at the places of lines after their change is what is stored at the same lines.
use Rattle.std.proofs.Common.{◌≡◌, ℕ, ◌<◌, List, length, refl, sym, ap, subst, ◌∙◌, get_or, Bool, true, false}
use Rattle.std.specs.Prelude.{Option, None, Some, MatchOption, Contains, slice_get, ◌↔◌, ◌==◌}
use Rattle.std.specs.Option.{option_map}
use Rattle.std.proofs.lemmas.Bool.{eq-eqb, eqb-true, false≢true}
use Rattle.std.proofs.lemmas.Map.Views.{Contains-from_any}
use Rattle.std.proofs.lemmas.List.Folds.{list_any_at}
use Rattle.std.proofs.lemmas.Option.{none-some, same_Some, slice_get-get_or}
use Rattle.grid_range.specs.Order.{IsOrder, is_among}
use Rattle.world_model.proofs.Lines.{line_has_one_place, listed}

-- a line is one of the order where the test passes
pub among_if_listed : (order : List ℕ) (name : ℕ) → Contains order name → is_among order name ≡ true
among_if_listed order name (place, there, at) =
    list_any_at (λ n. n == name) order place name there (eq-eqb (get_or order place name) name at)

pub listed_if_among : (order : List ℕ) (name : ℕ) → is_among order name ≡ true → Contains order name
listed_if_among order name among =
    Contains-from_any {eq = λ one other. other == one} (λ one other is. sym (eqb-true other one is)) name order among

-- a line that is listed has a place
place_of_line : (order : List ℕ) (name : ℕ) → Contains order name → (place : ℕ) × (slice_get order place ≡ Some name)
place_of_line order name (place, there, at) =
    (place, slice_get-get_or order place name there ∙ ap Some at)

-- the lines of an order and what is stored at each: `cells` by name, `before` and `moved` by place
pub record Moves {T N : Type 0} (order after : List ℕ) (goes : ℕ → Option ℕ) (named : T → N) (cells : ℕ → Option N)
    (before moved : ℕ → Option T) : Type 0 where
  pub distinct : IsOrder after
  pub stored : (place name : ℕ) → slice_get order place ≡ Some name → cells name ≡ option_map named (before place)
  pub nowhere_else : (name : ℕ) → ¬ (Contains order name) → cells name ≡ None
  pub inside : (place : ℕ) (item : T) → before place ≡ Some item → place < length order
  pub places : (place name : ℕ) → slice_get order place ≡ Some name
      → MatchOption (goes place) (¬ (Contains after name)) (λ place. slice_get after place ≡ Some name)
  pub items : (place : ℕ) (item : T)
      → (moved place ≡ Some item) ↔ ((old : ℕ) × (goes old ≡ Some place) × (before old ≡ Some item))

module _ {T N : Type 0} (order after : List ℕ) (goes : ℕ → Option ℕ) (named : T → N) (cells : ℕ → Option N)
    (before moved : ℕ → Option T) (moves : Moves order after goes named cells before moved) where
  -- a line that went to a place stands there
  went_to : (old place name : ℕ) → slice_get order old ≡ Some name → goes old ≡ Some place
      → slice_get after place ≡ Some name
  went_to old place name at is =
      subst (λ found. MatchOption found (¬ (Contains after name)) (λ place. slice_get after place ≡ Some name)) is
      (moves.places old name at)

  -- one that is there went there
  came_from : (place name : ℕ) (gone : Option ℕ) → slice_get after place ≡ Some name
      → MatchOption gone (¬ (Contains after name)) (λ place. slice_get after place ≡ Some name) → gone ≡ Some place
  came_from place name None at gone = absurd (gone (listed after place name at))
  came_from place name (Some other) at here = ap Some (line_has_one_place after other place name moves.distinct here at)

  -- an item came with its line
  filled : (place name : ℕ) (item : T) → slice_get after place ≡ Some name
      → ((old : ℕ) × (goes old ≡ Some place) × (before old ≡ Some item)) → cells name ≡ Some (named item)
  filled place name item at (old, is, held) =
      let there = moves.inside old item held in
      let own : slice_get order old ≡ Some (get_or order old 0) = slice_get-get_or order old 0 there in
      let same : get_or order old 0 ≡ name =
      same_Some (get_or order old 0) name (sym (went_to old place (get_or order old 0) own is) ∙ at) in
      moves.stored old name (own ∙ ap Some same) ∙ ap (option_map named) held

  -- where no item came, the line had none
  left_empty : (place name old : ℕ) (held : Option T) → slice_get after place ≡ Some name
      → slice_get order old ≡ Some name
      → before old ≡ held → moved place ≡ None → option_map named held ≡ None
  left_empty place name old None at own is none = refl
  left_empty place name old (Some item) at own is none =
      absurd (none-some item (sym none ∙ (moves.items place item).1
      (old, came_from place name (goes old) at (moves.places old name own), is)))

  emptied : (place name : ℕ) → slice_get after place ≡ Some name → moved place ≡ None → (among : Bool)
      → is_among order name ≡ among → cells name ≡ None
  emptied place name at none true among =
      let found = place_of_line order name (listed_if_among order name among) in
      moves.stored found.0 name found.1 ∙ left_empty place name found.0 (before found.0) at found.1 refl none
  emptied place name at none false among =
      moves.nowhere_else name (λ listed. false≢true (sym among ∙ among_if_listed order name listed))

  at_place : (place name : ℕ) (held : Option T) → slice_get after place ≡ Some name → moved place ≡ held
      → cells name ≡ option_map named held
  at_place place name None at none = emptied place name at none (is_among order name) refl
  at_place place name (Some item) at is = filled place name item at ((moves.items place item).0 is)

  pub moved_cells : (place name : ℕ) → slice_get after place ≡ Some name → cells name ≡ option_map named (moved place)
  moved_cells place name at = at_place place name (moved place) at refl
