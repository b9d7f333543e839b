use Rattle.std.proofs.Common.{◌≡◌, drop}
use Rattle.sheets_http.specs.Users.{user_in}
use Rattle.sheets_http.proofs.users.user_in.Given as goal

-- the pairs from here on decide
abbrev pub invariant-loop-pair : goal.invariant-loop-pair
invariant-loop-pair l = user_in (drop l.pair-index l.pairs) l.token ≡ user_in l.pairs l.token
