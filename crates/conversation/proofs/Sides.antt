-- What a call on one side of a link keeps of the other.
use Rattle.std.proofs.Common.{◌≡◌, sym, ◌∙◌, ap}
use Rattle.sheets_http.specs.Outside.{Side}

-- a link's value that is read off one of its sides is kept where that side is
pub kept : {Link X : Type 0} (beside : Link → Side) (field : Side → X) (value : Link → X)
    → ((link : Link) → field (beside link) ≡ value link) → (new old : Link) → beside new ≡ beside old
    → value new ≡ value old
kept beside field value law new old same = sym (law new) ∙ ap field same ∙ law old
