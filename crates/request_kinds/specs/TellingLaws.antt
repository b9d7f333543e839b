-- Laws for the proofs of this crate and of those above it: what is told of what is done, and what is changed then; what
-- is done unless a cell is denied is told in one way.
use Rattle.std.proofs.Common.{◌≡◌, ℕ, List, refl, sym, ap, ◌∙◌}
use Rattle.std.specs.Prelude.{Option, None, Some, Result, Ok, Err, MatchResult}
use Rattle.protection.specs.Denial.{Cells}
use Rattle.world_model.specs.Book.{PlaceBook}
use Rattle.world_model.specs.BookChange.{AreChanges, BookChange}
use Rattle.world_model.specs.ChangingLaws.{UpdatesAreChanges}
use Rattle.world_model.specs.Updating.{Updates}
use Rattle.dimension_ops.specs.declared.rule.Rule.{Rule}
use Rattle.dimension_ops.specs.declared.rule.Rule.TheVariants as rule
use Rattle.values_api.specs.DenialLaws.{denial_once}
use Rattle.values_api.specs.Denials.{IsDenial, IsUnlessDenied, unless_denied}
use Rattle.values_api.specs.Updates.{AreUpdated}
use Rattle.sheets_json.specs.declared.spreadsheet.Reply.{Reply}
use Rattle.request_kinds.specs.Telling.{cells_updated}

-- an update is a change
pub update_made : UpdatesAreChanges → (sheet : ℕ) (updates : Updates) (before after : PlaceBook)
    → AreUpdated sheet updates before after → AreChanges (cells_updated sheet updates) before after
update_made are sheet updates before after updated =
    are.changes before after sheet updates updated.places.id updated.names

-- ---- what is told

abbrev pub as_told : {A : Type 0} → A → Result A Rule
as_told told = Ok told

abbrev as_broken : {A : Type 0} → Rule → Result A Rule
as_broken broken = Err broken

pub told_apart : {A : Type 0} (told : A) (broken : Rule) → as_told told ≡ Err broken → ⊥
told_apart told broken e = cc

pub told_same : {A : Type 0} (one other : A) → as_told one ≡ as_told other → one ≡ other
told_same one other e = cc

broken_same : {A : Type 0} (one other : Rule) → as_broken {A = A} one ≡ as_broken {A = A} other → one ≡ other
broken_same one other e = cc

pub told_changes : {A : Type 0} (one other : A × List BookChange) → as_told one ≡ as_told other → other.1 ≡ one.1
told_changes one other e = cc

-- of a request
abbrev pub as_reply : Reply × List BookChange → Result (Reply × List BookChange) Rule
as_reply told = as_told told

pub reply_apart : (told : Reply × List BookChange) (broken : Rule) → as_reply told ≡ Err broken → ⊥
reply_apart told broken is = told_apart told broken is

pub reply_changes : (one other : Reply × List BookChange) → as_reply one ≡ as_reply other → other.1 ≡ one.1
reply_changes one other is = told_changes one other is

-- what holds of what was done where something is told
pub match_told : {A B : Type 0} (done : Result A Rule) (Is : A → Type 0) (told : B)
    → MatchResult done Is (λ broken. as_told told ≡ Err broken) → (one : A) × (as_told one ≡ done) × Is one
match_told (Ok one) Is told is = (one, refl, is)
match_told (Err broken) Is told is = absurd (told_apart told broken is)

-- the changes that are told are those of what was done
pub match_changes : {A W : Type 0} (wrote : Result W Rule) (one : A × List BookChange) (other : W → A × List BookChange)
    (changes : List BookChange) → ((done : W) → (other done).1 ≡ changes)
    → MatchResult wrote (λ done. as_told one ≡ Ok (other done)) (λ broken. as_told one ≡ Err broken)
    → changes ≡ one.1
match_changes (Ok done) one other changes same is = sym (same done) ∙ told_changes one (other done) is
match_changes (Err broken) one other changes same is = absurd (told_apart one broken is)

-- ---- what is done unless a cell is denied

-- what is told of the same
pub unless_told_once : {A : Type 0} (user : List ℕ) (book : PlaceBook) (cells : Cells) (denied denied' : Option ℕ)
    → IsDenial user book cells denied → IsDenial user book cells denied' → (done done' : Result A Rule) → done ≡ done'
    → (told told' : Result A Rule) → told ≡ unless_denied denied done → told' ≡ unless_denied denied' done'
    → told ≡ told'
unless_told_once user book cells denied denied' is is' done done' same told told' tells tells' =
    tells ∙ ap (λ d. unless_denied d done) (denial_once user book cells denied denied' is is')
    ∙ ap (λ done. unless_denied denied' done) same ∙ sym tells'

pub unless_once : {A : Type 0} (user : List ℕ) (book : PlaceBook) (cells : Cells) (Is : Result A Rule → Type 0)
    → ((done done' : Result A Rule) → Is done → Is done' → done ≡ done') → (told told' : Result A Rule)
    → IsUnlessDenied user book cells Is told → IsUnlessDenied user book cells Is told' → told ≡ told'
unless_once user book cells Is once told told' one other =
    unless_told_once user book cells one.denied other.denied one.is_denied other.is_denied one.done other.done
    (once one.done other.done one.is other.is) told told' one.told_is other.told_is

module _ {A : Type 0} where
  -- what is done is told where nothing is denied
  pub none_denied : (denied : Option ℕ) (done : Result A Rule) (x : A) → as_told x ≡ unless_denied denied done
      → denied ≡ None
  none_denied None done x is = refl
  none_denied (Some id) (Ok y) x is = absurd (told_apart x (rule.Protected id) is)
  none_denied (Some id) (Err broken) x is = absurd (told_apart x broken is)

  pub done_of : (denied : Option ℕ) (done : Result A Rule) (x : A) → as_told x ≡ unless_denied denied done
      → done ≡ as_told x
  done_of None (Ok y) x is = sym is
  done_of (Some id) (Ok y) x is = absurd (told_apart x (rule.Protected id) is)
  done_of denied (Err broken) x is = absurd (told_apart x broken is)

-- what is denied is told in the same way, whatever would be told else
pub denied_same : {A B : Type 0} (denied : Option ℕ) (x : A) (y : B) (broken : Rule)
    → as_broken {A = A} broken ≡ unless_denied denied (Ok x) → as_broken {A = B} broken ≡ unless_denied denied (Ok y)
denied_same None x y broken is = absurd (told_apart x broken (sym is))
denied_same (Some id) x y broken is = ap as_broken (broken_same broken (rule.Protected id) is)
