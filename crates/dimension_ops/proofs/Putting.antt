-- One item of a list is changed: the sheet that has an id is written.
use Rattle.std.proofs.Common.{◌≡◌, ◌≢◌, ℕ, ◌<◌, ◌≤◌, refl, sym, ap, subst, ◌∙◌, List, length, get_or, set, cond, Bool, true, false, arith, inl, inr}
use Rattle.std.specs.Prelude.{Option, map, ◌==◌}
use Rattle.std.specs.List.{AllPairs}
use Rattle.std.proofs.lemmas.Bool.{cases_order, cond-true, cond-false, eqb-true, false_from_ne_true}
use Rattle.std.proofs.Common.{[], ◌∷◌}
use Rattle.std.proofs.Math.Seq.{map-set_same}
use Rattle.std.proofs.lemmas.List.{map-set, length-map, get_or-map, length-set, get_or-set_same, get_or-set_other, ext_get_or}
use Rattle.std.proofs.lemmas.List.Sums.{get_or-le-sum_by}
use Rattle.cell_store.specs.Table.{filled_places, most_filled}
use Rattle.ref_rewrite.specs.declared.cell_content.Content.{Content}
use Rattle.world_model.specs.Counts.{filled_of}
use Rattle.world_model.specs.Sheet.{PlaceSheet}
use Rattle.world_model.specs.Sound.{most_places}
use Rattle.world_model.specs.Writing.{sheet_put, table_written}
use Rattle.dimension_ops.proofs.Finding.{IsFoundAt}

-- no two sheets have one id
abbrev pub IdsDiffer : List PlaceSheet → Type 0
IdsDiffer sheets = AllPairs (λ one other. one.id ≢ other.id) sheets

-- the one item that passes a test is changed at its place
module _ {X : Type 0} (test : X → Bool) (change : X → X) (xs : List X) (place : ℕ) (found : IsFoundAt test xs place)
    (others : (i : ℕ) (d : X) → i < length xs → i ≢ place → test (get_or xs i d) ≡ false) where
  abbrev changed : X → X
  changed x = cond (test x) (change x) x

  at_place : (i : ℕ) (d : X) → i < length xs
      → get_or (set xs place (change (get_or xs place d))) i d ≡ changed (get_or xs i d)
  at_place i d there = elim (cases_order i place) [
    | inl same ↦ here i same
    | inr which ↦ elim which [
      | inl below ↦ elsewhere (let lt = below in λ e. let no : ⊥ = omega (arith, lt, e) in no)
      | inr above ↦ elsewhere (let lt = above in λ e. let no : ⊥ = omega (arith, lt, e) in no)
    ]
  ]
    where
      here : (i : ℕ) → i ≡ place
          → get_or (set xs place (change (get_or xs place d))) i d ≡ changed (get_or xs i d)
      here i same =
          subst (λ k. get_or (set xs place (change (get_or xs place d))) k d ≡ changed (get_or xs k d)) (sym same)
          (get_or-set_same xs place (change (get_or xs place d)) d found.there
          ∙ sym (cond-true (test (get_or xs place d)) (change (get_or xs place d)) (get_or xs place d)
          (found.passes d)))

      elsewhere : i ≢ place → get_or (set xs place (change (get_or xs place d))) i d ≡ changed (get_or xs i d)
      elsewhere apart = get_or-set_other xs place i (change (get_or xs place d)) d apart
          ∙ sym (cond-false (test (get_or xs i d)) (change (get_or xs i d)) (get_or xs i d) (others i d there apart))

  pub changed_at_place : (d : X) → set xs place (change (get_or xs place d)) ≡ map changed xs
  changed_at_place d = ext_get_or d (set xs place (change (get_or xs place d))) (map changed xs)
      (length-set xs place (change (get_or xs place d)) ∙ sym (length-map xs changed))
      (λ i below.
      let there : i < length xs = subst (λ n. i < n) (length-set xs place (change (get_or xs place d))) below in
      at_place i d there ∙ sym (get_or-map changed xs i d d there))

-- the list with that sheet written is the list of all sheets written by their ids
module _ (sheets : List PlaceSheet) (id row col : ℕ) (content : Option Content) (place : ℕ)
    (distinct : IdsDiffer sheets) (found : IsFoundAt (λ sheet. sheet.id == id) sheets place) where
  abbrev written : PlaceSheet → PlaceSheet
  written sheet = record sheet { table = table_written row col content sheet.table }

  -- another sheet has another id
  others : (i : ℕ) (d : PlaceSheet) → i < length sheets → i ≢ place → ((get_or sheets i d).id == id) ≡ false
  others i d there apart = false_from_ne_true ((get_or sheets i d).id == id) (λ is.
      let one : (get_or sheets i d).id ≡ id = eqb-true (get_or sheets i d).id id is in
      let other : (get_or sheets place d).id ≡ id = eqb-true (get_or sheets place d).id id (found.passes d) in
      elim (cases_order i place) [
        | inl same ↦ absurd (apart same)
        | inr which ↦ elim which [
          | inl below ↦ absurd (distinct i place d below found.there (one ∙ sym other))
          | inr above ↦ absurd (distinct place i d above there (other ∙ sym one))
        ]
      ])

  pub put_at_place : (d : PlaceSheet)
      → set sheets place (written (get_or sheets place d)) ≡ map (sheet_put id row col content) sheets
  put_at_place d = changed_at_place (λ sheet. sheet.id == id) written sheets place found others d

-- no sheet of a spreadsheet with so few cells is full
pub room_at : (sheets : List PlaceSheet) (place : ℕ) (d : PlaceSheet) → filled_of sheets ≤ most_places
    → place < length sheets → d ≡ get_or sheets place d → filled_places d.table < most_filled
room_at sheets place d few there is =
    let here = get_or-le-sum_by (λ (sheet : PlaceSheet). filled_places sheet.table) sheets place d there in
    subst (λ (sheet : PlaceSheet). filled_places sheet.table < most_filled) (sym is) (omega (arith, few, here))

-- a write keeps the ids
ids_stay : (id row col : ℕ) (content : Option Content) (sheets : List PlaceSheet)
    → map (λ (sheet : PlaceSheet). sheet.id) (map (sheet_put id row col content) sheets)
    ≡ map (λ (sheet : PlaceSheet). sheet.id) sheets
ids_stay id row col content [] = refl
ids_stay id row col content (sheet ∷ sheets) =
    ap (λ n. n ∷ map (λ (sheet : PlaceSheet). sheet.id) (map (sheet_put id row col content) sheets))
    (one (sheet.id == id))
    ∙ ap (λ ns. sheet.id ∷ ns) (ids_stay id row col content sheets)
  where
    one : (b : Bool) → (cond b (record sheet { table = table_written row col content sheet.table }) sheet).id ≡ sheet.id
    one true = refl
    one false = refl

-- the same where the sheets are seen through what shares them
module _ {X : Type 0} (value : X → PlaceSheet) (shared : List X) (place : ℕ) (old new : X)
    (is : old ≡ get_or shared place old) where
  pub seen_stands : place < length (map value shared) → value old ≡ get_or (map value shared) place (value old)
  seen_stands there = ap value is ∙ sym (get_or-map value shared place old (value old)
      (let long = length-map shared value in omega (arith, there, long)))

  pub seen_written : (id row col : ℕ) (content : Option Content) → IdsDiffer (map value shared)
      → IsFoundAt (λ sheet. sheet.id == id) (map value shared) place
      → value new ≡ record (value old) { table = table_written row col content (value old).table }
      → map value (set shared place new) ≡ map (sheet_put id row col content) (map value shared)
  seen_written id row col content distinct found made =
      map-set value shared place new
      ∙ ap (set (map value shared) place)
      (made ∙ ap (λ (sheet : PlaceSheet). record sheet { table = table_written row col content sheet.table }) stands)
      ∙ put_at_place (map value shared) id row col content place distinct found (value old)
    where
      stands : value old ≡ get_or (map value shared) place (value old)
      stands = seen_stands found.there

  pub seen_kept : value new ≡ value old → map value (set shared place new) ≡ map value shared
  seen_kept same = map-set_same value shared place new old (same ∙ ap value is)

  pub seen_ids : (id row col : ℕ) (content : Option Content) (ids : List ℕ)
      → map value (set shared place new) ≡ map (sheet_put id row col content) (map value shared)
      → ids ≡ map (λ (sheet : PlaceSheet). sheet.id) (map value shared)
      → ids ≡ map (λ (sheet : PlaceSheet). sheet.id) (map value (set shared place new))
  seen_ids id row col content ids written own =
      own ∙ sym (ap (map (λ (sheet : PlaceSheet). sheet.id)) written ∙ ids_stay id row col content (map value shared))
