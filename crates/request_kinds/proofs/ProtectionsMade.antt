-- A protected range that is added is found among the others, and is told.
use Rattle.std.proofs.Common.{◌≡◌, ℕ, Bool, true, false, cond, refl, sym, ap, subst, ◌∙◌, List, [], ◌∷◌, arith}
use Rattle.std.specs.Prelude.{Option, None, Some, Result, Ok, nat_lt, filter, ◌==◌}
use Rattle.std.specs.List.{find}
use Rattle.std.specs.Option.{option_or}
use Rattle.std.proofs.lemmas.Bool.Decides.{nat_tests}
use Rattle.std.proofs.lemmas.List.Folds.{find-append}
use Rattle.cell_value.specs.Ids.{IsLeastUnused, IsNewId}
use Rattle.protection.specs.Listed.{has_id, with_id, with_one_more}
use Rattle.protection.specs.Patch.{blank, patched}
use Rattle.protection.specs.declared.range.Protection.{Protection}
use Rattle.protection.specs.declared.range.ProtectionPatch.{ProtectionPatch}
use Rattle.world_model.specs.Book.{PlaceBook}
use Rattle.world_model.specs.BookChange.{BookChange}
use Rattle.dimension_ops.specs.Broken.{first_broken}
use Rattle.dimension_ops.specs.ProtectionRequests.{ProtectionsBecome}
use Rattle.dimension_ops.specs.declared.rule.Rule.{Rule}
use Rattle.sheets_json.specs.declared.spreadsheet.Reply.{Reply}
use Rattle.sheets_json.specs.declared.spreadsheet.Reply.TheVariants as reply
use Rattle.sheets_json.specs.declared.spreadsheet.ShownProtection.{ShownProtection}
use Rattle.request_kinds.specs.AddProtectedRange.{IsAddProtectedRange, IsProtectionAdded, protection_added_broken, protection_made}
use Rattle.request_kinds.specs.Telling.{IsDoneTo}
use Rattle.request_kinds.specs.Protections.{patch_cut}
use Rattle.request_kinds.specs.Shown.{shown_protection}

-- ---- the one that is put among others is found

module _ (id : ℕ) where
  step : (one : Protection) (rest : List Protection) (lesser : Bool) → nat_lt one.id id ≡ lesser
      → find (λ other. other.id == id) rest ≡ None
      → find (λ other. other.id == id) (cond lesser (one ∷ rest) rest) ≡ None
  step one rest false is none = none
  step one rest true is none =
      let differs : (one.id == id) ≡ false = grind (arith, nat_tests) in
      ap (λ same. cond same (Some one) (find (λ (other : Protection). other.id == id) rest)) differs ∙ none

  no_lesser : (protections : List Protection)
      → find (λ other. other.id == id) (filter (λ other. nat_lt other.id id) protections) ≡ None
  no_lesser [] = refl
  no_lesser (one ∷ others) =
      step one (filter (λ other. nat_lt other.id id) others) (nat_lt one.id id) refl (no_lesser others)

same_id : (id : ℕ) → (id == id) ≡ true
same_id id = grind (arith, nat_tests)

pub found_again : (protection : Protection) (protections : List Protection)
    → with_id protection.id (with_one_more protection protections) ≡ Some protection
found_again protection protections =
    let is = λ (other : Protection). other.id == protection.id in
    let lesser = filter (λ (other : Protection). nat_lt other.id protection.id) protections in
    let greater = filter (λ (other : Protection). nat_lt protection.id other.id) protections in
    find-append is lesser (protection ∷ greater)
    ∙ ap (λ found. option_or found (find is (protection ∷ greater))) (no_lesser protection.id protections)
    ∙ ap (λ same. cond same (Some protection) (find is greater)) (same_id protection.id)

-- ---- addProtectedRange

abbrev told_added : ShownProtection → List Protection → Result (Reply × List BookChange) Rule
told_added one all = Ok (reply.AddProtectedRange one, BookChange.ProtectionsSet all ∷ [])

same_some : (one other : Protection) → Some one ≡ Some other → one ≡ other
same_some one other e = cc

module _ (user : List ℕ) (id : Option ℕ) (patch : ProtectionPatch) (before after : PlaceBook) (owner : List ℕ)
    (cut : ProtectionPatch) (new : ℕ) (owned : owner ≡ before.owner) (cut_is : cut ≡ patch_cut before.sheets patch)
    (become : ProtectionsBecome (with_one_more (patched user owner cut (blank new)) before.protections) before after)
  where
    abbrev made : Protection
    made = protection_made user patch before new

    made_so : patched user owner cut (blank new) ≡ made
    made_so =
        ap (λ owner. patched user owner cut (blank new)) owned
        ∙ ap (λ cut. patched user before.owner cut (blank new)) cut_is

    becomes : ProtectionsBecome (with_one_more made before.protections) before after
    becomes = subst (λ one. ProtectionsBecome (with_one_more one before.protections) before after) made_so become

    made_found : with_id new after.protections ≡ Some made
    made_found =
        ap (λ (book : PlaceBook). with_id new book.protections) becomes.set ∙ found_again made before.protections

    pub added_done : first_broken (protection_added_broken id patch before) ≡ None
        → IsNewId (IsLeastUnused (has_id before.protections)) id new → (found : Protection) (shown : ShownProtection)
        → Some found ≡ with_id new after.protections → shown ≡ shown_protection user owner found
        → IsDoneTo (IsAddProtectedRange user id patch before) before after (Ok (reply.AddProtectedRange shown))
    added_done none is_new found shown is shown_is =
        let all = with_one_more made before.protections in
        let told : shown ≡ shown_protection user before.owner made =
        shown_is ∙ ap (λ owner. shown_protection user owner found) owned
        ∙ ap (shown_protection user before.owner) (same_some found made (is ∙ made_found)) in (
          BookChange.ProtectionsSet all ∷ [],
          subst (λ broken. IsProtectionAdded user id patch before broken (told_added shown all)) (sym none)
              (new, is_new, ap (λ one. told_added one all) told),
          becomes.names,
        )
