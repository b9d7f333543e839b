-- Whose requests are served, by the token that they come with (RFC 6750, section 2.1).
use Rattle.std.specs.Prelude.{ℕ, List, [], ◌∷◌, if◌then◌else◌, Option, Some, None}
use Rattle.std.specs.Str.{bytes_eq}

-- the user of the first pair with the token, where a table of tokens and users has one
abbrev pub user_in : List (List ℕ × List ℕ) → List ℕ → Option (List ℕ)
user_in [] token = None
user_in (pair ∷ pairs) token = if bytes_eq pair.0 token then Some pair.1 else user_in pairs token

-- without a table a token is its user's name
abbrev pub user_of : Option (List (List ℕ × List ℕ)) → List ℕ → Option (List ℕ)
user_of None token = Some token
user_of (Some pairs) token = user_in pairs token
