-- What an optional value holds.
use Rattle.std.proofs.Common.{◌≡◌, None, Some}

pub never : {A : Type 0} (x : A) → None ≡ Some x → ⊥
never x e = cc

pub same_given : {A : Type 0} (x y : A) → Some x ≡ Some y → x ≡ y
same_given x y e = cc
