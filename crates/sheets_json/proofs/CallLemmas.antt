-- Calls whose bodies were read.
use Rattle.std.proofs.Common.{◌≡◌, ◌∙◌, ap, true≢false, inl, inr}
use Rattle.std.specs.Prelude.{◌⊎◌, Result, Ok, Err}
use Rattle.std.specs.Result.{is_ok}
use Rattle.sheets_json.specs.declared.call.Call.{Call}
use Rattle.sheets_json.specs.declared.call.CallFault.{CallFault}
use Rattle.sheets_json.specs.declared.call.CallFault.TheVariants.{NoMemory}
use Rattle.sheets_json.specs.Calls.{after_body}

-- what is answered where the body says something
pub after_ok : {A : Type 0} → (answer : A → Result Call CallFault) (read : Result A CallFault) (said : A)
    (result : Result Call CallFault) → (Ok said ≡ read) ⊎ (Ok said ≡ Err NoMemory)
    → (result ≡ answer said) ⊎ (result ≡ Err NoMemory) → (result ≡ after_body answer read) ⊎ (result ≡ Err NoMemory)
after_ok answer read said result (inl is) (inl answered) = inl (answered ∙ ap (after_body answer) is)
after_ok answer read said result (inl is) (inr none) = inr none
after_ok answer read said result (inr other) answered = absurd (true≢false (ap is_ok other))

-- and where it doesn't
pub after_err : (A : Type 0) (answer : A → Result Call CallFault) (read : Result A CallFault) (fault : CallFault)
    → (Err fault ≡ read) ⊎ (◌≡◌ {A = Result A CallFault} (Err fault) (Err NoMemory))
    → (Err fault ≡ after_body answer read) ⊎ (◌≡◌ {A = Result Call CallFault} (Err fault) (Err NoMemory))
after_err A answer read fault (inl is) = inl (ap (after_body answer) is)
after_err A answer read fault (inr none) = inr (ap (after_body (λ (_ : A). Err NoMemory)) none)
