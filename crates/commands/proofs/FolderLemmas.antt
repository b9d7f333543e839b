-- What a command asks a folder for.
use Rattle.std.proofs.Common.{◌≡◌, ◌≢◌, inl, inr, ℕ, Bool, true, false, List, [], ◌∷◌, ◌++◌, refl, sym, ap, subst, ◌∙◌}
use Rattle.std.specs.Prelude.{Option, None, Some, IfSome, IsSomeAnd, if◌then◌else◌}
use Rattle.std.specs.Option.{option_map}
use Rattle.std.specs.Str.{bytes_eq}
use Rattle.std.proofs.lemmas.List.{append-nil, append_assoc}
use Rattle.std.proofs.lemmas.Slice.Eq.{bytes_eq-Decides}
use Rattle.folder.specs.Folder.{FolderCall, journal_of, ShownFolder, with_file, found_or_made, IsRefused}
use Rattle.folder.specs.Folder.{after_journal, after_kept_back}
use Rattle.commands.specs.Folders.{HasAsked, Asks, users_call, journal_call}
use Rattle.commands.specs.Users.{after_reading}
use Rattle.commands.specs.Serving.{HasKept}

-- ---- a name's bytes

other_stays : (name other : List ℕ) (bytes : Option (List ℕ)) (files : List ℕ → Option (List ℕ)) → other ≢ name
    → with_file name bytes files other ≡ files other
other_stays name other bytes files differs = by (bytes_eq name other) refl
  where
    by : (is : Bool) → bytes_eq name other ≡ is → (if is then bytes else files other) ≡ files other
    by true is = absurd (differs (sym ((bytes_eq-Decides name other).0 is)))
    by false is = refl

own_is : (name : List ℕ) (bytes : Option (List ℕ)) (files : List ℕ → Option (List ℕ))
    → with_file name bytes files name ≡ bytes
own_is name bytes files =
    ap (λ (is : Bool). if is then bytes else files name) ((bytes_eq-Decides name name).1 refl)

unnamed : (name other : List ℕ) → Some name ≢ Some other → other ≢ name
unnamed name other differs same = differs (ap (λ (n : List ℕ). Some n) (sym same))

-- ---- users

-- what the reading of users leaves of what is shown, but for the call
calls_after : (users : Option (List ℕ)) (s : ShownFolder) → (after_reading users s).calls ≡ s.calls ++ users_call users
calls_after None s = sym (append-nil s.calls)
calls_after (Some name) s = refl

pub files_after : (users : Option (List ℕ)) (s : ShownFolder) → (after_reading users s).files ≡ s.files
files_after None s = refl
files_after (Some name) s = refl

lent_after : (users : Option (List ℕ)) (s : ShownFolder) → (after_reading users s).lent ≡ s.lent
lent_after None s = refl
lent_after (Some name) s = refl

-- users were read, and nothing else was asked for
pub asks_users : (users journal : Option (List ℕ)) (shown shown' : Option ShownFolder)
    → shown' ≡ option_map (after_reading users) shown → Asks users journal shown shown'
asks_users users journal None shown' is = tt
asks_users users journal (Some s) shown' is =
    subst (λ (o : Option ShownFolder). IsSomeAnd o (HasAsked users journal s)) (sym is) (record {
      calls = users_call users;
      rest = journal_call journal;
      first = refl;
      calls_are = calls_after users s;
      lent_are = lent_after users s;
      others = λ name other. ap (λ (files : List ℕ → Option (List ℕ)). files name) (files_after users s);
    })

-- users were read, and then a journal was asked for
joined : (users : Option (List ℕ)) (name : List ℕ) (s : ShownFolder) (o : Option ShownFolder)
    → IsSomeAnd o (HasAsked None (Some name) (after_reading users s)) → IsSomeAnd o (HasAsked users (Some name) s)
joined users name s None so = so
joined users name s (Some s') asked = record {
  calls = users_call users ++ asked.calls;
  rest = asked.rest;
  first = ap (λ (l : List FolderCall). users_call users ++ l) asked.first
      ∙ sym (append_assoc (users_call users) asked.calls asked.rest);
  calls_are = asked.calls_are ∙ ap (λ (l : List FolderCall). l ++ asked.calls) (calls_after users s)
      ∙ append_assoc s.calls (users_call users) asked.calls;
  lent_are = asked.lent_are ∙ lent_after users s;
  others = λ other differs. asked.others other differs
      ∙ ap (λ (files : List ℕ → Option (List ℕ)). files other) (files_after users s);
}

pub asks_both : (users : Option (List ℕ)) (name : List ℕ) (shown shown' shown'' : Option ShownFolder)
    → shown' ≡ option_map (after_reading users) shown → Asks None (Some name) shown' shown''
    → Asks users (Some name) shown shown''
asks_both users name None shown' shown'' is asked = tt
asks_both users name (Some s) shown' shown'' is asked =
    joined users name s shown''
    (subst (λ (o : Option ShownFolder). Asks None (Some name) o shown'') is asked)

-- ---- a journal

-- it wasn't handed out
pub asks_refused : (name : List ℕ) (shown shown' : Option ShownFolder) → IsRefused name true shown shown'
    → Asks None (Some name) shown shown'
asks_refused name None shown' refused = tt
asks_refused name (Some s) shown' (inl is) =
    subst (λ (o : Option ShownFolder). IsSomeAnd o (HasAsked None (Some name) s)) (sym is) (record {
      calls = journal_of name true ∷ [];
      rest = [];
      first = refl;
      calls_are = refl;
      lent_are = refl;
      others = λ other differs. refl;
    })
asks_refused name (Some s) shown' (inr is) =
    subst (λ (o : Option ShownFolder). IsSomeAnd o (HasAsked None (Some name) s)) (sym is) (record {
      calls = journal_of name true ∷ [];
      rest = [];
      first = refl;
      calls_are = refl;
      lent_are = refl;
      others = λ other differs. other_stays name other _ s.files (unnamed name other differs);
    })

-- it was handed out, and is back
pub asks_journal : (name : List ℕ) (kept : Option (List ℕ)) (shown shown' shown'' : Option ShownFolder)
    → shown' ≡ option_map (after_journal name true) shown → shown'' ≡ option_map (after_kept_back kept) shown'
    → Asks None (Some name) shown shown''
asks_journal name kept None shown' shown'' is is' = tt
asks_journal name kept (Some s) shown' shown'' is is' =
    subst (λ (o : Option ShownFolder). IsSomeAnd o (HasAsked None (Some name) s))
    (sym (is' ∙ ap (option_map (after_kept_back kept)) is)) (record {
      calls = journal_of name true ∷ [];
      rest = [];
      first = refl;
      calls_are = refl;
      lent_are = refl;
      others = λ other differs.
          other_stays name other kept (after_journal name true s).files (unnamed name other differs)
          ∙ other_stays name other (found_or_made true (s.files name)) s.files (unnamed name other differs);
    })

-- the name then has what its keeper told
pub has_kept : (name : List ℕ) (kept : Option (List ℕ)) (shown shown' shown'' : Option ShownFolder)
    → shown' ≡ option_map (after_journal name true) shown → shown'' ≡ option_map (after_kept_back kept) shown'
    → HasKept shown'' name kept
has_kept name kept None shown' shown'' is is' =
    subst (λ (o : Option ShownFolder). HasKept o name kept) (sym (is' ∙ ap (option_map (after_kept_back kept)) is)) tt
has_kept name kept (Some s) shown' shown'' is is' =
    subst (λ (o : Option ShownFolder). HasKept o name kept) (sym (is' ∙ ap (option_map (after_kept_back kept)) is))
    (own_is name kept (after_journal name true s).files)

-- a journal is handed out, so some is lent
pub some_lent : (name : List ℕ) (shown shown' : Option ShownFolder)
    → shown' ≡ option_map (after_journal name true) shown → IfSome shown' (λ folder. folder.lent ≢ [])
some_lent name None shown' is = subst (λ (o : Option ShownFolder). IfSome o (λ folder. folder.lent ≢ [])) (sym is) tt
some_lent name (Some s) shown' is =
    subst (λ (o : Option ShownFolder). IfSome o (λ folder. folder.lent ≢ [])) (sym is) (λ none. cc)
