use Rattle.std.proofs.Common.{◌≡◌, le_trans, ℕ, refl, sym, ap, subst, ◌∙◌, List, length, set, get_or, arith, Some, None, Option}
use Rattle.std.specs.Prelude.{map, ◌==◌, IsSomeAnd, IfSome}
use Rattle.std.specs.Arc.{arc_value}
use Rattle.std.specs.declared.sync.Arc.{Arc}
use Rattle.std.specs.Option.{option_map}
use Rattle.std.proofs.Common.{Global, Ok, Err}
use Rattle.std.specs.Prelude.{OnErr}
use Rattle.std.specs.List.{position_from}
use Rattle.cell_store.specs.Table.{HasPlace}
use Rattle.world_model.specs.Book.{PlaceBook, orders_of}
use Rattle.world_model.specs.Content.{content_named}
use Rattle.world_model.specs.StandsFor.{BookStandsFor}
use Rattle.world_model.specs.Sheet.{PlaceSheet}
use Rattle.world_model.specs.Sound.{IsSound, IsContentWithin, place_sheet_with}
use Rattle.world_model.specs.Writing.{book_put, book_written, sheet_put}
use Rattle.dimension_ops.proofs.Finding.{IsFoundAt, found_at, there_seen, none_from}
use Rattle.dimension_ops.proofs.Marking.{kept_book}
use Rattle.dimension_ops.proofs.Putting.{seen_stands, seen_written, seen_kept, seen_ids, room_at}
use Rattle.dimension_ops.proofs.book.Book.put.Goals.{In_ok-put_shared, After-from_residual, Joined-content}
use Rattle.dimension_ops.proofs.book.Book.put.Goals as goal

found : (slice items : List (Arc PlaceSheet Global)) (id place : ℕ) → slice ≡ items
    → Some place ≡ position_from (λ (sheet : PlaceSheet). sheet.id == id) 0 (map arc_value slice)
    → IsFoundAt (λ (sheet : PlaceSheet). sheet.id == id) (map arc_value items) place
found slice items id place same at = found_at (λ (sheet : PlaceSheet). sheet.id == id) (map arc_value items) place
    (ap (λ list. position_from (λ (sheet : PlaceSheet). sheet.id == id) 0 (map arc_value list)) (sym same) ∙ sym at)

pub index_mut-requires : goal.index_mut-requires
index_mut-requires c =
    let there = there_seen (λ sheet. sheet.id == c.args.sheet) arc_value c.self.inside.sheets.items c.in-Some.place
    (found c.deref.result.now c.self.inside.sheets.items c.args.sheet c.in-Some.place c.deref.ensures.value
    c.in-Some.ensures) in
    let long : length c.self.inside.sheets.items ≡ Rattle.std.specs.Vec.vec_len c.self.inside.sheets =
    ap length (sym c.deref.ensures.value) ∙ c.deref.ensures.len in
    omega (arith, there, long)

-- what holds of the sheet that is found holds of the one at its place
there_at : (sheets : List PlaceSheet) (id place row col : ℕ) (d : PlaceSheet)
    → IsFoundAt (λ sheet. sheet.id == id) sheets place
    → IsSomeAnd (place_sheet_with id sheets) (λ sheet. HasPlace sheet.table row col)
    → d ≡ get_or sheets place d → HasPlace d.table row col
there_at sheets id place row col d at has same = subst (λ (sheet : PlaceSheet). HasPlace sheet.table row col) (sym same)
    (subst (λ o. IsSomeAnd o (λ (sheet : PlaceSheet). HasPlace sheet.table row col)) (at.found d) has)

if_there : (o : Option PlaceSheet) (row col : ℕ) → IsSomeAnd o (λ sheet. HasPlace sheet.table row col)
    → IfSome o (λ sheet. HasPlace sheet.table row col)
if_there None row col h = tt
if_there (Some sheet) row col h = h

pub put_shared-requires : goal.put_shared-requires
put_shared-requires c =
    let at = found c.deref.result.now c.self.inside.sheets.items c.args.sheet c.in-Some.place c.deref.ensures.value
    c.in-Some.ensures in
    record {
      inside = there_at (map arc_value c.self.inside.sheets.items) c.args.sheet c.in-Some.place c.args.row c.args.column
          (arc_value c.index_mut.result.now) at
          (subst (λ (book : PlaceBook). IsSomeAnd (place_sheet_with c.args.sheet book.sheets)
          (λ sheet. HasPlace sheet.table c.args.row c.args.column))
          (sym c.self.view_is) c.requires.there)
          (seen_stands arc_value c.self.inside.sheets.items c.in-Some.place c.index_mut.result.now
          c.index_mut.result.now
          c.index_mut.ensures.value at.there);
      room = room_at (map arc_value c.self.inside.sheets.items) c.in-Some.place (arc_value c.index_mut.result.now)
          (le_trans (c.filled_within_places.ensures.book
          (kept_book c.self.inside (map arc_value c.self.inside.sheets.items)) c.self.invariant.0)
          c.self.invariant.0.few_places)
          at.there
          (seen_stands arc_value c.self.inside.sheets.items c.in-Some.place c.index_mut.result.now
          c.index_mut.result.now
          c.index_mut.ensures.value at.there);
    }

-- the sheets after the write
written : (c : In_ok-put_shared) → map arc_value (set c.self.inside.sheets.items c.in-Some.place c.put_shared.new.sheet)
    ≡ map (sheet_put c.args.sheet c.args.row c.args.column c.args.content) (map arc_value c.self.inside.sheets.items)
written c = seen_written arc_value c.self.inside.sheets.items c.in-Some.place c.index_mut.result.now
    c.put_shared.new.sheet c.index_mut.ensures.value c.args.sheet c.args.row c.args.column c.args.content
    c.self.invariant.0.distinct
    (found c.deref.result.now c.self.inside.sheets.items c.args.sheet c.in-Some.place c.deref.ensures.value
    c.in-Some.ensures) c.in_ok-put_shared.ensures.put

pub invariant_of-self : goal.invariant_of-self
invariant_of-self c = (
  subst (λ sheets. IsSound (kept_book c.self.inside sheets)) (sym (written c))
      (c.writes_stay_sound.ensures.stays
      (kept_book c.self.inside (map arc_value c.self.inside.sheets.items))
      c.args.sheet c.args.row c.args.column c.args.content c.self.invariant.0
      (subst (λ (book : PlaceBook). IfSome c.args.content (IsContentWithin book.sheets)) (sym c.self.view_is)
      c.requires.within)
      (if_there (place_sheet_with c.args.sheet (map arc_value c.self.inside.sheets.items)) c.args.row c.args.column
      (subst (λ (book : PlaceBook). IsSomeAnd (place_sheet_with c.args.sheet book.sheets)
      (λ sheet. HasPlace sheet.table c.args.row c.args.column))
      (sym c.self.view_is) c.requires.there))),
  seen_ids arc_value c.self.inside.sheets.items c.in-Some.place c.index_mut.result.now c.put_shared.new.sheet
      c.index_mut.ensures.value c.args.sheet c.args.row c.args.column c.args.content c.self.inside.ids (written c)
      c.self.invariant.1,
)

-- the sheets as they were
kept : (c : After-from_residual) → map arc_value (set c.self.inside.sheets.items c.in-Some.place c.put_shared.new.sheet)
    ≡ map arc_value c.self.inside.sheets.items
kept c = seen_kept arc_value c.self.inside.sheets.items c.in-Some.place c.index_mut.result.now
    c.put_shared.new.sheet c.index_mut.ensures.value c.in_err-put_shared.ensures.unchanged

pub invariant_of-self-in_err-put_shared : goal.invariant_of-self-in_err-put_shared
invariant_of-self-in_err-put_shared c = (
  subst (λ sheets. IsSound (kept_book c.self.inside sheets)) (sym (kept c)) c.self.invariant.0,
  c.self.invariant.1 ∙ sym (ap (map (λ (sheet : PlaceSheet). sheet.id)) (kept c)),
)

pub returns-in_err-put_shared-clause-unchanged : goal.returns-in_err-put_shared-clause-unchanged
returns-in_err-put_shared-clause-unchanged c =
    let same : kept_book c.self.inside
    (map arc_value (set c.self.inside.sheets.items c.in-Some.place c.put_shared.new.sheet)) ≡ c.args.self.now =
    ap (kept_book c.self.inside) (kept c) ∙ c.self.view_is in
    elim c.from_residual.result as (λ r. OnErr r (kept_book c.self.inside
    (map arc_value (set c.self.inside.sheets.items c.in-Some.place c.put_shared.new.sheet)) ≡ c.args.self.now)) [
      | Ok u ↦ tt
      | Err e ↦ same
    ]

pub returns-in_ok-put_shared-clause-put : goal.returns-in_ok-put_shared-clause-put
returns-in_ok-put_shared-clause-put c =
    ap (kept_book c.self.inside) (written c)
    ∙ ap (book_put c.args.sheet c.args.row c.args.column c.args.content) c.self.view_is

pub returns-in_ok-put_shared-clause-names : goal.returns-in_ok-put_shared-clause-names
returns-in_ok-put_shared-clause-names c = record {
  written = λ names r c' stands at_row at_col.
      subst (λ (book : PlaceBook). BookStandsFor book
      (book_written c.args.sheet r c' (option_map (content_named (orders_of names.sheets)) c.args.content) names))
      (sym (ap (kept_book c.self.inside) (written c)
      ∙ ap (book_put c.args.sheet c.args.row c.args.column c.args.content) c.self.view_is))
      (c.writes_follow.ensures.follows c.args.self.now names c.args.sheet c.args.row c.args.column r c' c.args.content
      stands c.requires.within at_row at_col);
}

-- a sheet that is there is found
not_there : (sheets : List PlaceSheet) (id row col : ℕ) (o : Option ℕ)
    → ((place : ℕ) → o ≡ Some place → ⊥)
    → o ≡ position_from (λ (sheet : PlaceSheet). sheet.id == id) 0 sheets
    → IsSomeAnd (place_sheet_with id sheets) (λ (sheet : PlaceSheet). HasPlace sheet.table row col) → ⊥
not_there sheets id row col (Some place) none is has = none place refl
not_there sheets id row col None none is has =
    subst (λ o. IsSomeAnd o (λ (sheet : PlaceSheet). HasPlace sheet.table row col))
    (none_from (λ (sheet : PlaceSheet). sheet.id == id) sheets 0 (sym is)) has

no_default : (c : Joined-content) → ⊥
no_default c =
    not_there c.args.self.now.sheets c.args.sheet c.args.row c.args.column c.sheet_place.result c.in_default.not-Some
    (c.sheet_place.ensures
    ∙ ap (λ list. position_from (λ (sheet : PlaceSheet). sheet.id == c.args.sheet) 0 (map arc_value list))
    c.deref.ensures.value
    ∙ ap (λ (book : PlaceBook). position_from (λ (sheet : PlaceSheet). sheet.id == c.args.sheet) 0 book.sheets)
    c.self.view_is)
    c.requires.there

pub returns-in_default-clause-put : goal.returns-in_default-clause-put
returns-in_default-clause-put c = absurd (no_default c)

pub returns-in_default-clause-names : goal.returns-in_default-clause-names
returns-in_default-clause-names c = absurd (no_default c)
