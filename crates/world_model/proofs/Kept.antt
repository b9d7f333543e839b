-- Sheets that keep their ids, titles and marks, or their merges and filters, and the one that is found by its id.
use Rattle.std.proofs.Common.{◌≡◌, ◌≢◌, ℕ, ◌<◌, zero, suc, refl, sym, ap, subst, ◌∙◌, List, [], ◌∷◌, cond, Bool, true, false, length, get_or, arith, ◌&&◌}
use Rattle.std.specs.Prelude.{Option, None, Some, IfSome, IsSomeAnd, ◌==◌}
use Rattle.std.specs.List.{All, AllPairs, AllZip, list_all}
use Rattle.std.specs.Str.{str_eq_ignore_ascii_case}
use Rattle.std.proofs.lemmas.Bool.{eqb-true, eq-eqb, false≢true}
use Rattle.std.proofs.lemmas.List.Elements.{AllZip-get_or, length_all_zip}
use Rattle.basic_filter.specs.declared.types.Criterion.{Criterion}
use Rattle.basic_filter.specs.declared.types.Filter.{Filter}
use Rattle.grid_range.specs.Area.{AreaWithin}
use Rattle.grid_range.specs.Band.{Within}
use Rattle.grid_range.specs.declared.area.Area.{Area}
use Rattle.world_model.specs.Sheet.{PlaceSheet}
use Rattle.world_model.specs.Sound.{AreMergesOf, IsFilterOf, place_sheet_with}

pub record KeepsTitle (before after : PlaceSheet) : Type 0 where
  pub id : after.id ≡ before.id
  pub title : after.title ≡ before.title
  pub hidden : after.hidden ≡ before.hidden

-- what is within a sheet is within one of its size
pub size_within : (area : Area) (one other : PlaceSheet) → other.table.rows ≡ one.table.rows
    → other.table.cols ≡ one.table.cols → AreaWithin area one.table.rows one.table.cols
    → AreaWithin area other.table.rows other.table.cols
size_within area one other rows cols within = (
  subst (Within area.rows) (sym rows) within.0,
  subst (Within area.cols) (sym cols) within.1,
)

-- and what merges a sheet can have, one of its id and size can have
pub merges_fit : (one other : PlaceSheet) (merges : List Area) → other.id ≡ one.id → other.table.rows ≡ one.table.rows
    → other.table.cols ≡ one.table.cols → AreMergesOf one merges → AreMergesOf other merges
merges_fit one other merges id rows cols are = (
  are.0,
  λ k d there. let merge = are.1 k d there in
      (merge.0 ∙ sym id, size_within (get_or merges k d) one other rows cols merge.1),
)

pub merges_kept : (one other : PlaceSheet) → other.id ≡ one.id → other.table.rows ≡ one.table.rows
    → other.table.cols ≡ one.table.cols → other.merges ≡ one.merges → AreMergesOf one one.merges
    → AreMergesOf other other.merges
merges_kept one other id rows cols same are =
    subst (AreMergesOf other) (sym same) (merges_fit one other one.merges id rows cols are)

-- and what filter
pub filter_fits : (one other : PlaceSheet) (filter : Option Filter) → other.id ≡ one.id
    → other.table.rows ≡ one.table.rows → other.table.cols ≡ one.table.cols → IfSome filter (IsFilterOf one)
    → IfSome filter (IsFilterOf other)
filter_fits one other None id rows cols is = tt
filter_fits one other (Some filter) id rows cols is = record {
  own = is.own ∙ sym id;
  within = size_within filter.area one other rows cols is.within;
  columns = subst (λ n. All (λ (criterion : Criterion). criterion.column < n) filter.criteria) (sym cols) is.columns;
}

pub filter_kept : (one other : PlaceSheet) → other.id ≡ one.id → other.table.rows ≡ one.table.rows
    → other.table.cols ≡ one.table.cols → other.filter ≡ one.filter → IfSome one.filter (IsFilterOf one)
    → IfSome other.filter (IsFilterOf other)
filter_kept one other id rows cols same is =
    subst (λ filter. IfSome filter (IsFilterOf other)) (sym same) (filter_fits one other one.filter id rows cols is)

-- no other sheet has the id of the one that is found
module _ (id : ℕ) (P : PlaceSheet → Type 0) where
  first_holds : (b : Bool) (first : PlaceSheet) (rest : Option PlaceSheet) → (first.id == id) ≡ b
      → IfSome (cond b (Some first) rest) P → first.id ≡ id → P first
  first_holds true first rest is found same = found
  first_holds false first rest is found same = absurd (false≢true (sym is ∙ eq-eqb first.id id same))

  rest_holds : (b : Bool) (first : PlaceSheet) (rest : Option PlaceSheet) → (first.id == id) ≡ b → first.id ≢ id
      → IfSome (cond b (Some first) rest) P → IfSome rest P
  rest_holds true first rest is other found = absurd (other (eqb-true first.id id is))
  rest_holds false first rest is other found = found

  pub only_one : (sheets : List PlaceSheet) → AllPairs (λ one other. one.id ≢ other.id) sheets
      → IfSome (place_sheet_with id sheets) P
      → (k : ℕ) (d : PlaceSheet) → k < length sheets → (get_or sheets k d).id ≡ id → P (get_or sheets k d)
  only_one [] distinct found k d there same = absurd (omega arith)
  only_one (s ∷ ss) distinct found zero d there same =
      first_holds (s.id == id) s (place_sheet_with id ss) refl found same
  only_one (s ∷ ss) distinct found (suc k) d there same =
      only_one ss (λ i j e below inside. distinct (suc i) (suc j) e (omega arith) (omega arith))
      (rest_holds (s.id == id) s (place_sheet_with id ss) refl
      (λ is. distinct 0 (suc k) d (omega arith) there (is ∙ sym same)) found)
      k d (omega arith) same

pub found_both : (P Q : PlaceSheet → Type 0) (found : Option PlaceSheet) → IsSomeAnd found P → IfSome found Q
    → IsSomeAnd found (λ sheet. P sheet × Q sheet)
found_both P Q None p q = absurd p
found_both P Q (Some sheet) p q = (p, q)

pub found_too : (P Q : PlaceSheet → Type 0) → ((sheet : PlaceSheet) → P sheet → Q sheet) → (found : Option PlaceSheet)
    → IsSomeAnd found P → IsSomeAnd found Q
found_too P Q also None p = absurd p
found_too P Q also (Some sheet) p = also sheet p

pub if_there : (P : PlaceSheet → Type 0) (found : Option PlaceSheet) → IsSomeAnd found P → IfSome found P
if_there P None p = tt
if_there P (Some sheet) p = p

module _ (Goes : PlaceSheet → PlaceSheet → Type 0)
    (keeps : (one other : PlaceSheet) → Goes one other → KeepsTitle one other) where
  -- a sheet that is found by its id is found by it afterwards
  module _ (n : ℕ) (P Q : PlaceSheet → Type 0)
      (also : (one other : PlaceSheet) → Goes one other → (one.id == n) ≡ true → P one → Q other) where
    found_first : (b b' : Bool) (one other : PlaceSheet) (rest rest' : Option PlaceSheet) → (one.id == n) ≡ b → b' ≡ b
        → Goes one other → (IsSomeAnd rest P → IsSomeAnd rest' Q)
        → IsSomeAnd (cond b (Some one) rest) P → IsSomeAnd (cond b' (Some other) rest') Q
    found_first true true one other rest rest' is same goes behind found = also one other goes is found
    found_first true false one other rest rest' is same goes behind found = absurd (false≢true same)
    found_first false true one other rest rest' is same goes behind found = absurd (false≢true (sym same))
    found_first false false one other rest rest' is same goes behind found = behind found

    pub still_found : (ones others : List PlaceSheet) → AllZip Goes ones others
        → IsSomeAnd (place_sheet_with n ones) P → IsSomeAnd (place_sheet_with n others) Q
    still_found [] others goes found = absurd found
    still_found (s ∷ ss) [] goes found = absurd goes
    still_found (s ∷ ss) (o ∷ os) goes found =
        found_first (s.id == n) (o.id == n) s o (place_sheet_with n ss) (place_sheet_with n os) refl
        (ap (λ m. m == n) (keeps s o goes.0).id) goes.0 (still_found ss os goes.1) found

  pub visible_stays : (befores afters : List PlaceSheet) → AllZip Goes befores afters
      → list_all (λ sheet. sheet.hidden) afters ≡ list_all (λ sheet. sheet.hidden) befores
  visible_stays [] [] all = refl
  visible_stays [] (o ∷ os) all = absurd all
  visible_stays (s ∷ ss) [] all = absurd all
  visible_stays (s ∷ ss) (o ∷ os) all =
      ap (λ b. b && list_all (λ sheet. sheet.hidden) os) (keeps s o all.0).hidden
      ∙ ap (λ b. s.hidden && b) (visible_stays ss os all.1)

  module _ (befores afters : List PlaceSheet) (all : AllZip Goes befores afters) where
    pub same_length : length befores ≡ length afters
    same_length = length_all_zip Goes befores afters all

    pub kept : (k : ℕ) (d : PlaceSheet) → k < length befores → KeepsTitle (get_or befores k d) (get_or afters k d)
    kept k d there =
        keeps (get_or befores k d) (get_or afters k d) (AllZip-get_or Goes befores afters k d d all there)

    pub there_before : (k : ℕ) → k < length afters → k < length befores
    there_before k there = subst (λ n. k < n) (sym same_length) there

    pub distinct_stay : AllPairs (λ one other. one.id ≢ other.id) befores
        → AllPairs (λ one other. one.id ≢ other.id) afters
    distinct_stay distinct i j d less there =
        let inside = there_before j there in
        λ same. distinct i j d less inside
        (sym (kept i d (omega arith)).id ∙ same ∙ (kept j d inside).id)

    pub titles_stay : AllPairs (λ one other. str_eq_ignore_ascii_case one.title other.title ≡ false) befores
        → AllPairs (λ one other. str_eq_ignore_ascii_case one.title other.title ≡ false) afters
    titles_stay titles i j d less there =
        let inside = there_before j there in
        let one = (kept i d (omega arith)).title in
        let other = (kept j d inside).title in
        ap (λ title. str_eq_ignore_ascii_case title (get_or afters j d).title) one
        ∙ ap (str_eq_ignore_ascii_case (get_or befores i d).title) other
        ∙ titles i j d less inside
