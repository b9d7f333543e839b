-- What becomes of the merges of a sheet, by the type of merge.
use Rattle.std.proofs.Common.{◌≡◌, ℕ, ◌↔◌, inl, inr, sym, ap, subst, ◌∙◌, false, List, [], ◌∷◌}
use Rattle.std.specs.Prelude.{Contains, IsTrue, OnOk, cond, Option, Some, None, IsSomeAnd, Result, Ok, Err}
use Rattle.grid_range.specs.declared.area.Area.{Area}
use Rattle.cell_value.specs.Elements.{nothing_in}
use Rattle.merge_ranges.specs.Calls.{IsLeft, IsLeftOrPart, ListsJust}
use Rattle.merge_ranges.specs.Tests.{has_many_cells}
use Rattle.merge_ranges.specs.declared.fault.MergeFault.{MergeFault}
use Rattle.cell_value.specs.declared.failure.NoMemory.{NoMemory}
use Rattle.json_requests.specs.declared.request.MergeType.{MergeType}
use Rattle.world_model.specs.Book.{PlaceBook}
use Rattle.world_model.specs.Sheet.{PlaceSheet}
use Rattle.world_model.specs.Sound.{place_sheet_with}
use Rattle.dimension_ops.specs.MergeRequests.{MergesBecome}
use Rattle.json_requests.specs.declared.request.MergeType.TheVariants as merge
use Rattle.request_kinds.specs.MergeCells.{IsMergeAfter, parts_of}

module _ (id : ℕ) (before after : PlaceBook) where
  pub become_as : (Is IsToo : List Area → Area → Type 0)
      → ((merges : List Area) (one : Area) → Is merges one ↔ IsToo merges one)
      → MergesBecome id Is before after → MergesBecome id IsToo before after
  become_as Is IsToo same become = record {
    merges = become.merges;
    just = on (place_sheet_with id before.sheets) become.just;
    found = become.found;
    set = become.set;
    names = become.names;
  }
    where
      on : (found : Option PlaceSheet) → IsSomeAnd found (λ sheet. ListsJust (Is sheet.merges) become.merges)
          → IsSomeAnd found (λ sheet. ListsJust (IsToo sheet.merges) become.merges)
      on None just = absurd just
      on (Some sheet) just = record {
        in_order = just.in_order;
        exactly = λ area. (
          λ has. (same sheet.merges area).0 ((just.exactly area).0 has),
          λ is. (just.exactly area).1 ((same sheet.merges area).1 is),
        );
      }

-- an area of more than one cell is one part
pub new_is_part : (area : Area) → IsTrue (has_many_cells area) → parts_of merge.All area ≡ area ∷ []
new_is_part area many = ap (λ b. cond b (area ∷ []) []) many

-- what comes of a change that cuts none
pub ok_so : {P Q : Type 0} (told : Result (Unit {0}) NoMemory) (done : Result (Unit {0}) MergeFault)
    → OnOk told (done ≡ Ok tt) → OnOk done P → (P → Q) → OnOk told Q
ok_so {P} {Q} (Ok one) done is holds so = so (subst (λ one. OnOk one P) is holds)
ok_so {P} {Q} (Err fault) done is holds so = tt

pub on_ok_so : {E P Q : Type 0} (told : Result (Unit {0}) E) → OnOk told P → (P → Q) → OnOk told Q
on_ok_so (Ok one) holds so = so holds
on_ok_so (Err fault) holds so = tt

-- the parts are those of the type
pub as_type : (type type' : MergeType) (area : Area) (parts : List Area) (before after : PlaceBook) → type ≡ type'
    → parts_of type' area ≡ parts
    → MergesBecome area.sheet (λ merges. IsLeftOrPart area merges parts) before after
    → MergesBecome area.sheet (IsMergeAfter type area) before after
as_type type type' area parts before after same are become =
    subst (λ parts. MergesBecome area.sheet (λ merges. IsLeftOrPart area merges parts) before after)
    (sym (ap (λ one. parts_of one area) same ∙ are)) become

-- one of one cell is none
pub left_is_all : (area : Area) → has_many_cells area ≡ false → (merges : List Area) (one : Area)
    → IsLeft area merges one ↔ IsLeftOrPart area merges (parts_of merge.All area) one
left_is_all area single merges one = (λ left. inl left, from)
  where
    none : parts_of merge.All area ≡ []
    none = ap (λ b. cond b (area ∷ []) []) single

    from : IsLeftOrPart area merges (parts_of merge.All area) one → IsLeft area merges one
    from (inl left) = left
    from (inr part) = absurd (nothing_in one (subst (λ parts. Contains parts one) none part))
