-- Something is told that can be made, where a rule may be broken, a cell may be denied, or an area may be a bad one.
use Rattle.std.proofs.Common.{◌≡◌, ℕ, List, refl}
use Rattle.std.specs.Prelude.{Option, None, Some, Result, Ok, Err}
use Rattle.std.specs.Option.{option_map_or}
use Rattle.grid_range.specs.declared.area.Area.{Area}
use Rattle.protection.specs.Denial.{Cells}
use Rattle.world_model.specs.Book.{PlaceBook}
use Rattle.world_model.specs.BookChange.{AreChanges, BookChange}
use Rattle.dimension_ops.specs.Broken.{Broken, first_broken, judged_by}
use Rattle.dimension_ops.specs.declared.rule.Rule.{Rule}
use Rattle.json_requests.specs.declared.request.Request.{Request}
use Rattle.values_api.specs.DenialLaws.{some_denial}
use Rattle.values_api.specs.Denials.{IsUnlessDenied, unless_denied}
use Rattle.request_kinds.specs.Requests.{IsDoneAsAsked, IsDoneByKind}
use Rattle.request_kinds.specs.Rows.{OnArea}
use Rattle.request_kinds.specs.Telling.{Tells, UnlessBroken}
use Rattle.request_kinds.specs.Touching.{TouchedCells}
use Rattle.batch_engine.specs.MadeLaws.{CanBeMade}

module _ {A : Type 0} (book : PlaceBook) where
  -- it can't be that nothing is told that can be made
  abbrev pub IsMadeSome : (Result (A × List BookChange) Rule → Type 0) → Type 0
  IsMadeSome IsDone = ¬ ((told : Result (A × List BookChange) Rule) → IsDone told → ¬ (CanBeMade book told))

  -- what is told is known
  pub told_made : (is : Result (A × List BookChange) Rule) → CanBeMade book is → IsMadeSome (λ told. told ≡ is)
  told_made is can none = none is refl can

  -- what is told unless a rule is broken
  pub judged_made : (broken : Broken) (done : A × List BookChange)
      → (first_broken broken ≡ None → (after : PlaceBook) × AreChanges done.1 book after)
      → CanBeMade book (judged_by broken done)
  judged_made broken done makes = by_first (first_broken broken) refl
    where
      by_first : (first : Option Rule) → first_broken broken ≡ first
          → CanBeMade book (option_map_or Err first (Ok done))
      by_first None is = makes is
      by_first (Some rule) is = tt

  pub judged_made_some : (broken : Broken) (done : A × List BookChange)
      → (first_broken broken ≡ None → (after : PlaceBook) × AreChanges done.1 book after)
      → IsMadeSome (λ told. told ≡ judged_by broken done)
  judged_made_some broken done makes = told_made (judged_by broken done) (judged_made broken done makes)

  -- what is done on an area
  pub on_area_made : (area : Result Area Rule) (IsDone : Area → Result (A × List BookChange) Rule → Type 0)
      → ((cut : Area) → area ≡ Ok cut → IsMadeSome (IsDone cut)) → IsMadeSome (OnArea area IsDone)
  on_area_made (Ok cut) IsDone each = each cut refl
  on_area_made (Err broken) IsDone each = λ none. none (Err broken) refl tt

  -- what is done unless a cell is denied
  made_or_denied : (denied : Option ℕ) (done : Result (A × List BookChange) Rule) → CanBeMade book done
      → CanBeMade book (unless_denied denied done)
  made_or_denied None (Ok done) can = can
  made_or_denied (Some id) (Ok done) can = tt
  made_or_denied None (Err broken) can = tt
  made_or_denied (Some id) (Err broken) can = tt

  pub unless_denied_made : (user : List ℕ) (cells : Cells) (IsDone : Result (A × List BookChange) Rule → Type 0)
      → IsMadeSome IsDone → IsMadeSome (IsUnlessDenied user book cells IsDone)
  unless_denied_made user cells IsDone some none = some_denial user book cells (λ denied is_denied.
      some (λ done is can. none (unless_denied denied done) (record {
        denied = denied;
        is_denied = is_denied;
        done = done;
        is = is;
        told_is = refl;
      }) (made_or_denied denied done can)))

-- what is done unless that rule is broken
pub unless_broken_made : (book : PlaceBook) (first : Option Rule) (IsDone : Tells)
    → (first ≡ None → IsMadeSome book IsDone) → IsMadeSome book (UnlessBroken first IsDone)
unless_broken_made book None IsDone some = some refl
unless_broken_made book (Some broken) IsDone some = λ none. none (Err broken) refl tt

-- a request as it is asked, where something is told of its kind
pub asked_made : (user project : List ℕ) (book : PlaceBook) (asked : Request)
    → IsMadeSome book (IsDoneByKind user project book asked)
    → IsMadeSome book (IsDoneAsAsked user project book asked)
asked_made user project book asked some =
    unless_denied_made book user (TouchedCells book.sheets asked) (IsDoneByKind user project book asked) some
