-- Laws of the sheet that is found by its id, by the names of lines: once all sheets are changed and keep their ids,
-- once another one is put in, and once another one is taken out.
use Rattle.std.proofs.Common.{◌≡◌, ◌≢◌, ℕ, zero, suc, refl, sym, ap, ◌∙◌, List, [], ◌∷◌, ◌++◌, cond, Bool, true, false}
use Rattle.std.specs.Prelude.{Option, Some, None, ◌==◌, map, filter, not, take, drop}
use Rattle.std.specs.Option.{option_map}
use Rattle.std.proofs.lemmas.Bool.{eqb-true, false≢true, false_from_ne_true}
use Rattle.world_model.specs.Book.{sheet_with}
use Rattle.world_model.specs.Sheet.{NameSheet}

chosen_kept : (changed : NameSheet → NameSheet) (b : Bool) (sheet : NameSheet) (later found : Option NameSheet)
    → later ≡ option_map changed found
    → cond b (Some (changed sheet)) later ≡ option_map changed (cond b (Some sheet) found)
chosen_kept changed true sheet later found same = refl
chosen_kept changed false sheet later found same = same

-- what keeps each sheet's id keeps which one is found
pub find_kept : (changed : NameSheet → NameSheet) → ((sheet : NameSheet) → (changed sheet).id ≡ sheet.id) → (id : ℕ)
    (sheets : List NameSheet) → sheet_with id (map changed sheets) ≡ option_map changed (sheet_with id sheets)
find_kept changed same id [] = refl
find_kept changed same id (sheet ∷ sheets) =
    ap (λ found. cond (found == id) (Some (changed sheet)) (sheet_with id (map changed sheets))) (same sheet)
    ∙ chosen_kept changed (sheet.id == id) sheet (sheet_with id (map changed sheets)) (sheet_with id sheets)
    (find_kept changed same id sheets)

pub not_found : (b : Bool) (sheet : NameSheet) (found : Option NameSheet) → b ≡ false
    → cond b (Some sheet) found ≡ found
not_found true sheet found is = absurd (false≢true (sym is))
not_found false sheet found is = refl

pub other_id : (one id : ℕ) → one ≢ id → (one == id) ≡ false
other_id one id apart = false_from_ne_true (one == id) (λ is. apart (eqb-true one id is))

-- a sheet with another id, which is put in
pub find_beside : (new : NameSheet) (id : ℕ) → new.id ≢ id → (at : ℕ) (sheets : List NameSheet)
    → sheet_with id (take at sheets ++ new ∷ drop at sheets) ≡ sheet_with id sheets
find_beside new id apart zero sheets = not_found (new.id == id) new (sheet_with id sheets) (other_id new.id id apart)
find_beside new id apart (suc at) [] = not_found (new.id == id) new None (other_id new.id id apart)
find_beside new id apart (suc at) (sheet ∷ sheets) =
    ap (λ found. cond (sheet.id == id) (Some sheet) found) (find_beside new id apart at sheets)

-- the others than the one that is taken out
abbrev pub others : ℕ → List NameSheet → List NameSheet
others gone sheets = filter (λ sheet. not (sheet.id == gone)) sheets

left_one : (gone id : ℕ) (sheet : NameSheet) (sheets : List NameSheet) → id ≢ gone
    → sheet_with id (others gone sheets) ≡ sheet_with id sheets → (b : Bool) → (sheet.id == gone) ≡ b
    → sheet_with id (cond (not b) (sheet ∷ others gone sheets) (others gone sheets))
    ≡ cond (sheet.id == id) (Some sheet) (sheet_with id sheets)
left_one gone id sheet sheets apart rest true is = rest
    ∙ sym (not_found (sheet.id == id) sheet (sheet_with id sheets)
    (other_id sheet.id id (λ same. apart (sym same ∙ eqb-true sheet.id gone is))))
left_one gone id sheet sheets apart rest false is = ap (λ found. cond (sheet.id == id) (Some sheet) found) rest

pub find_left : (gone id : ℕ) (sheets : List NameSheet) → id ≢ gone
    → sheet_with id (others gone sheets) ≡ sheet_with id sheets
find_left gone id [] apart = refl
find_left gone id (sheet ∷ sheets) apart =
    left_one gone id sheet sheets apart (find_left gone id sheets apart) (sheet.id == gone) refl
