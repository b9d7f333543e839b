-- Laws of the engine whose calls append bytes.
use Rattle.std.proofs.Common.{◌≡◌, ℕ, Bool, true, false, List, refl, sym, ap, subst, ◌∙◌}
use Rattle.std.specs.Prelude.{Option, Some, None, is_some}
use Rattle.std.proofs.lemmas.Bool.{false≢true}
use Rattle.desk.specs.declared.entry.Entry.{Entry}
use Rattle.desk.specs.declared.entry.Ask.{Ask}
use Rattle.desk.specs.Steps.{Outcome, IsServed}
use Rattle.desk_tests.specs.Appending.{Plain, Cells, Dumps, answered, refusal_of}

pub one_outcome : (entries : List Entry) (ask : Ask) (outcome other : Outcome) → Plain entries ask outcome
    → Plain entries ask other → outcome ≡ other
one_outcome entries ask outcome other is too = is ∙ sym too

pub one_count : (entries : List Entry) (count other : ℕ) → Cells entries count → Cells entries other → count ≡ other
one_count entries count other is too = is ∙ sym too

pub one_dump : (entries : List Entry) (text other : List ℕ) → Dumps entries text → Dumps entries other → text ≡ other
one_dump entries text other is too = is ∙ sym too

pub served : (entries : List Entry) (ask : Ask) (outcome : Outcome) → Plain entries ask outcome → IsServed ask outcome
served entries ask outcome is = subst (λ (o : Outcome). IsServed ask o) (sym is) (by_ask ask.user ask.coded refl refl)
  where
    by_ask : (user : Option (List ℕ)) (coded : Bool) → ask.user ≡ user → ask.coded ≡ coded
        → IsServed ask (answered (refusal_of user coded) entries ask)
    by_ask None coded known coding = record { status_is = refl; accepted = λ accepts. absurd (false≢true accepts) }
    by_ask (Some user) true known coding = record {
      status_is = refl;
      accepted = λ accepts. absurd (false≢true accepts);
    }
    by_ask (Some user) false known coding = record {
      status_is = refl;
      accepted = λ accepts. (refl, ap (λ (u : Option (List ℕ)). is_some u) known, coding);
    }
