use Rattle.std.proofs.Common.{◌≡◌, refl, sym, ap, subst, ◌∙◌, length, set, arith, Ok, Err}
use Rattle.std.specs.Prelude.{OnErr, map}
use Rattle.std.specs.Arc.{arc_value}
use Rattle.std.specs.Option.{IsSome}
use Rattle.world_model.specs.Book.{PlaceBook}
use Rattle.world_model.specs.Sheet.{PlaceSheet}
use Rattle.world_model.specs.SheetChange.{on_place_sheet}
use Rattle.world_model.specs.Sound.{IsSound, place_sheet_with}
use Rattle.dimension_ops.specs.Parts.{with_part}
use Rattle.dimension_ops.specs.declared.part.Part.{Part}
use Rattle.dimension_ops.specs.declared.part.Part.TheVariants.{Title, Hidden, Merges, BasicFilter}
use Rattle.dimension_ops.proofs.Finding.{there_seen}
use Rattle.dimension_ops.proofs.Marking.{has_id, has_place, ids_kept, kept_book, place_found, seen_changed}
use Rattle.dimension_ops.proofs.Putting.{seen_kept}
use Rattle.dimension_ops.proofs.book.Book.set.Goals.{In_ok-set_shared, After-from_residual}
use Rattle.dimension_ops.proofs.book.Book.set.Goals as goal

keeps_id : (part : Part) (sheet : PlaceSheet) → (with_part part sheet).id ≡ sheet.id
keeps_id (Title title) sheet = refl
keeps_id (Hidden hidden) sheet = refl
keeps_id (Merges merges) sheet = refl
keeps_id (BasicFilter filter) sheet = refl

pub index_mut-requires : goal.index_mut-requires
index_mut-requires c =
    let there = there_seen (has_id c.args.sheet) arc_value c.self.inside.sheets.items c.in-Some.place
    (place_found c.deref.result.now c.self.inside.sheets.items c.args.sheet c.in-Some.place c.deref.ensures.value
    c.in-Some.ensures) in
    let long : length c.self.inside.sheets.items ≡ Rattle.std.specs.Vec.vec_len c.self.inside.sheets =
    ap length (sym c.deref.ensures.value) ∙ c.deref.ensures.len in
    omega (arith, there, long)

-- the sheets after
after : (c : In_ok-set_shared)
    → kept_book c.self.inside
    (map arc_value (set c.self.inside.sheets.items c.in-Some.place c.set_shared.new.shared))
    ≡ on_place_sheet c.args.sheet (with_part c.args.part) c.args.self.now
after c =
    ap (kept_book c.self.inside) (sheets c)
    ∙ ap (on_place_sheet c.args.sheet (with_part c.args.part)) c.self.view_is
  where
    sheets : (c : In_ok-set_shared)
        → map arc_value (set c.self.inside.sheets.items c.in-Some.place c.set_shared.new.shared)
        ≡ (on_place_sheet c.args.sheet (with_part c.args.part)
        (kept_book c.self.inside (map arc_value c.self.inside.sheets.items))).sheets
    sheets c = seen_changed c.self.inside.sheets.items c.args.sheet c.in-Some.place c.index_mut.result.now
        c.set_shared.new.shared c.index_mut.ensures.value (with_part c.args.part) c.self.invariant.0.distinct
        (place_found c.deref.result.now c.self.inside.sheets.items c.args.sheet c.in-Some.place c.deref.ensures.value
        c.in-Some.ensures)
        c.in_ok-set_shared.ensures.set

pub invariant_of-self : goal.invariant_of-self
invariant_of-self c = (
  subst IsSound (sym (after c)) c.requires.sound,
  c.self.invariant.1
      ∙ sym (ids_kept c.args.sheet (with_part c.args.part) (keeps_id c.args.part)
      (map arc_value c.self.inside.sheets.items))
      ∙ ap (λ (book : PlaceBook). map (λ (sheet : PlaceSheet). sheet.id)
      (on_place_sheet c.args.sheet (with_part c.args.part) book).sheets) c.self.view_is
      ∙ sym (ap (λ (book : PlaceBook). map (λ (sheet : PlaceSheet). sheet.id) book.sheets) (after c)),
)

-- the sheets as they were
kept : (c : After-from_residual)
    → map arc_value (set c.self.inside.sheets.items c.in-Some.place c.set_shared.new.shared)
    ≡ map arc_value c.self.inside.sheets.items
kept c = seen_kept arc_value c.self.inside.sheets.items c.in-Some.place c.index_mut.result.now
    c.set_shared.new.shared c.index_mut.ensures.value c.in_err-set_shared.ensures.unchanged

pub invariant_of-self-in_err-set_shared : goal.invariant_of-self-in_err-set_shared
invariant_of-self-in_err-set_shared c = (
  subst (λ sheets. IsSound (kept_book c.self.inside sheets)) (sym (kept c)) c.self.invariant.0,
  c.self.invariant.1 ∙ sym (ap (map (λ (sheet : PlaceSheet). sheet.id)) (kept c)),
)

pub returns-in_err-set_shared-clause-unchanged : goal.returns-in_err-set_shared-clause-unchanged
returns-in_err-set_shared-clause-unchanged c =
    let same : kept_book c.self.inside
    (map arc_value (set c.self.inside.sheets.items c.in-Some.place c.set_shared.new.shared)) ≡ c.args.self.now =
    ap (kept_book c.self.inside) (kept c) ∙ c.self.view_is in
    elim c.from_residual.result as (λ r. OnErr r (kept_book c.self.inside
    (map arc_value (set c.self.inside.sheets.items c.in-Some.place c.set_shared.new.shared)) ≡ c.args.self.now)) [
      | Ok u ↦ tt
      | Err e ↦ same
    ]

pub returns-in_ok-set_shared-clause-set : goal.returns-in_ok-set_shared-clause-set
returns-in_ok-set_shared-clause-set c = after c

pub returns-in_default-clause-set : goal.returns-in_default-clause-set
returns-in_default-clause-set c = absurd (has_place c.deref.result.now c.self.inside.sheets.items c.args.sheet
    c.sheet_place.result c.in_default.not-Some c.deref.ensures.value c.sheet_place.ensures
    (subst (λ (book : PlaceBook). IsSome (place_sheet_with c.args.sheet book.sheets)) (sym c.self.view_is)
    c.requires.there))
