-- Laws for the proofs of this crate and of those above it: the entries of a told list that is one item longer, and what
-- the call of an entry asked.
use Rattle.std.specs.Prelude.{◌≡◌, ℕ, Bool, false, List, [], ◌∷◌, ◌++◌, Option, Some, None, IsSome}
use Rattle.std.proofs.Common.{refl, ap, ◌∙◌}
use Rattle.std.proofs.lemmas.Bool.{false≢true}
use Rattle.desk.specs.declared.entry.Ask.{Ask}
use Rattle.desk.specs.declared.entry.Entry.{Entry}
use Rattle.desk.specs.declared.entry.Noted.{Noted}
use Rattle.desk.specs.declared.entry.Noted.TheVariants as noted
use Rattle.desk.specs.Histories.{asked_again}
use Rattle.desk.specs.Points.{entries_of}
use Rattle.desk.specs.Steps.{entry_of, user_of}

-- an entry is one of them
pub entries_entry : (list : List Noted) (e : Entry) → entries_of (list ++ noted.Entry e ∷ []) ≡ entries_of list
    ++ e ∷ []
entries_entry [] e = refl
entries_entry (noted.Entry first ∷ list) e = ap (λ (l : List Entry). first ∷ l) (entries_entry list e)
entries_entry (noted.Mark first before after ∷ list) e = entries_entry list e

-- a mark is none
pub entries_mark : (list : List Noted) (e : Entry) (b a : ℕ) → entries_of (list ++ noted.Mark e b a ∷ [])
    ≡ entries_of list
entries_mark [] e b a = refl
entries_mark (noted.Entry first ∷ list) e b a = ap (λ (l : List Entry). first ∷ l) (entries_mark list e b a)
entries_mark (noted.Mark first before after ∷ list) e b a = entries_mark list e b a

-- an ask with a user and no content coding is the one that its entry asked
pub asks_again : (caller : ℕ) (ask : Ask) → IsSome ask.user → ask.coded ≡ false → ask
    ≡ asked_again (entry_of caller ask)
asks_again caller ask known uncoded =
    ap (λ (u : Option (List ℕ)). as_asked u ask.coded) (same ask.user known)
    ∙ ap (λ (c : Bool). as_asked (Some (user_of ask.user)) c) uncoded
  where
    as_asked : Option (List ℕ) → Bool → Ask
    as_asked user coded = record {
      user = user;
      project = ask.project;
      target = ask.target;
      coded = coded;
      body = ask.body;
    }

    same : (user : Option (List ℕ)) → IsSome user → user ≡ Some (user_of user)
    same (Some user) known = refl
    same None known = absurd (false≢true known)
