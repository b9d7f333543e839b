-- Laws of protected ranges that are set: they are within their sheets, and a spreadsheet whose list of them is changed,
-- or isn't, is sound, and has the changes that are meant.
use Rattle.std.proofs.Common.{◌≡◌, ℕ, ◌∷◌, [], sym, ap, subst, List, get_or, cond, Bool, true, false, not}
use Rattle.std.specs.Prelude.{Option, None, Some, Result, Ok, Err, IfOk, IfSome, OnErr, nat_lt, unwrap_or, ◌==◌}
use Rattle.std.specs.List.{All}
use Rattle.std.specs.Option.{IsSome}
use Rattle.std.proofs.lemmas.Bool.{false≢true}
use Rattle.std.proofs.lemmas.List.Elements.{All-append, All-cons, All-filter, All-map, All-nil}
use Rattle.grid_range.specs.declared.area.Area.{Area}
use Rattle.protection.specs.Listed.{with_changed, with_one_more, without_id}
use Rattle.protection.specs.Patch.{blank, gives_part, patched}
use Rattle.protection.specs.declared.range.Protection.{Protection}
use Rattle.protection.specs.declared.range.ProtectionFault.{ProtectionFault}
use Rattle.protection.specs.declared.range.ProtectionPatch.{ProtectionPatch}
use Rattle.world_model.specs.Book.{PlaceBook}
use Rattle.world_model.specs.BookChange.{AreChanges, BookChange}
use Rattle.world_model.specs.ProtectionLaws.{ProtectionsAreSet, place_protections_set}
use Rattle.world_model.specs.Sheet.{PlaceSheet}
use Rattle.world_model.specs.Sound.{IsOnSheet, IsProtectionWithin, IsSound}
use Rattle.dimension_ops.specs.ProtectionRequests.{IsPatchWithin, ProtectionsBecome}

-- ---- the protections are within the sheets

module _ (sheets : List PlaceSheet) (old : List Protection) (within : All (IsProtectionWithin sheets) old) where
  -- what is given is within, and so is what was there
  area_given : (given : Option Area) (area : Area) → IfSome given (IsOnSheet sheets) → IsOnSheet sheets area
      → IsOnSheet sheets (unwrap_or given area)
  area_given None area on own = own
  area_given (Some given) area on own = on

  ranges_given : (part : Bool) (given : Option (List Area)) (ranges : List Area)
      → IfSome given (All (IsOnSheet sheets)) → All (IsOnSheet sheets) ranges
      → All (IsOnSheet sheets) (cond part [] (unwrap_or given ranges))
  ranges_given true given ranges on own = All-nil (IsOnSheet sheets)
  ranges_given false None ranges on own = own
  ranges_given false (Some given) ranges on own = on

  module _ (user owner : List ℕ) (patch : ProtectionPatch) (given : IsPatchWithin sheets patch) where
    new_within : IsSome patch.area → (id : ℕ) → IsProtectionWithin sheets (patched user owner patch (blank id))
    new_within some id = (
      area_there patch.area given.0 some,
      ranges_given (gives_part patch) patch.unprotected [] given.1 (All-nil (IsOnSheet sheets)),
    )
      where
        area_there : (area : Option Area) → IfSome area (IsOnSheet sheets) → IsSome area
            → IsOnSheet sheets (unwrap_or area (blank id).area)
        area_there None on none = absurd (false≢true none)
        area_there (Some area) on some = on

    patched_within : (one : Protection) → IsProtectionWithin sheets one
        → IsProtectionWithin sheets (patched user owner patch one)
    patched_within one own = (
      area_given patch.area one.area given.0 own.0,
      ranges_given (gives_part patch) patch.unprotected one.unprotected given.1 own.1,
    )

    -- so it is with one more
    pub more_within : IsSome patch.area → (id : ℕ)
        → All (IsProtectionWithin sheets) (with_one_more (patched user owner patch (blank id)) old)
    more_within some id =
        let new = patched user owner patch (blank id) in
        All-append (IsProtectionWithin sheets) _ _
        (All-filter (λ other. nat_lt other.id new.id) (IsProtectionWithin sheets) old within)
        (All-cons (IsProtectionWithin sheets) new _ (new_within some id)
        (All-filter (λ other. nat_lt new.id other.id) (IsProtectionWithin sheets) old within))

    one_within : (b : Bool) (one : Protection) → IsProtectionWithin sheets one
        → IsProtectionWithin sheets (cond b (patched user owner patch one) one)
    one_within true one own = patched_within one own
    one_within false one own = own

    -- with one that is changed
    pub changed_within : (id : ℕ)
        → All (IsProtectionWithin sheets) (with_changed id (patched user owner patch) old)
    changed_within id =
        All-map (IsProtectionWithin sheets) (λ one. cond (one.id == id) (patched user owner patch one) one) old
        (λ k d there. one_within ((get_or old k d).id == id) (get_or old k d) (within k d there))

  -- and with one less
  pub fewer_within : (id : ℕ) → All (IsProtectionWithin sheets) (without_id id old)
  fewer_within id = All-filter (λ one. not (one.id == id)) (IsProtectionWithin sheets) old within

-- ---- the spreadsheet is sound, and has them

module _ (book : PlaceBook) (now : List Protection) (law : ProtectionsAreSet) where
  -- after an answer that tells what was made of them
  pub protections_sound : {T : Type 0} → IsSound book → (made : T → List Protection)
      → ((told : T) → All (IsProtectionWithin book.sheets) (made told)) → (answer : Result T ProtectionFault)
      → IfOk answer (λ told. now ≡ made told) → OnErr answer (now ≡ book.protections)
      → IsSound (place_protections_set now book)
  protections_sound sound made within (Ok told) is kept =
      subst (λ all. IsSound (place_protections_set all book)) (sym is) (law.stays book (made told) sound (within told))
  protections_sound sound made within (Err fault) is kept =
      subst (λ all. IsSound (place_protections_set all book)) (sym kept) sound

  -- what is made of those that there were
  pub protections_become : (before : PlaceBook) → book ≡ before → (make : List Protection → List Protection)
      → All (IsProtectionWithin book.sheets) (make book.protections) → now ≡ make book.protections
      → ProtectionsBecome (make before.protections) before (place_protections_set now book)
  protections_become before seen make within is =
      let set : place_protections_set now book ≡ place_protections_set (make book.protections) book =
      ap (λ all. place_protections_set all book) is in
      subst (λ (one : PlaceBook). ProtectionsBecome (make one.protections) one (place_protections_set now book)) seen
      (record {
        set = set;
        names = subst (AreChanges (BookChange.ProtectionsSet (make book.protections) ∷ []) book) (sym set)
            (law.changes book (make book.protections) within);
      })
