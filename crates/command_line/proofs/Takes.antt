-- Options are words that `clap` takes.
use Rattle.std.proofs.Common.{◌≡◌, ◌≢◌, List, [], ◌∷◌, ◌++◌, ◌⊎◌, inl, inr, Some, ap, sym, subst, ◌∙◌, refl}
use Rattle.std.proofs.Common.{false, Contains}
use Rattle.std.specs.Prelude.{codes}
use Rattle.std.specs.List.{AllByRecursion}
use Rattle.clap.specs.Faults.{settle_fault, turn_fault, use_fault}
use Rattle.clap.specs.Walk.{Held, Rule, Text, Walk, idle, settled, walk_from, walked, option as wants}
use Rattle.command_line.specs.Words.{AreOptions, HasNoEquals, IsValue}
use Rattle.command_line.proofs.Options.{Pair}
use Rattle.command_line.proofs.Lexing.{long_name, long_pair, name_no_dashes, no_long, no_short, pair_no_dashes}
use Rattle.command_line.proofs.Lexing.{value_no_dashes}
use Rattle.command_line.proofs.Walks.{IsNew, met, rule, use_free}
use Rattle.command_line.proofs.Taken.{AreNew, leads_pair, valued, valued_fault, valued_kept, waits}
use Rattle.command_line.proofs.Steps.{at, fault, fault_end, fault_next, leaf, name_fault, name_walked, pair_fault, pair_walked, value_free, value_walked}
use Rattle.command_line.proofs.Turns.{both_free}

module _ (name : Text) (names : List Text) where
  abbrev c : List Rule
  c = (leaf name names).rules

  -- the words are taken, behind what comes to these options
  abbrev Taken : List Text → List Pair → Type 0
  Taken words before = (h : Held) → settle_fault c false h ≡ [] → settled c h ≡ met before
      → fault (leaf name names) (walk_from h) words ≡ []

  -- one more word is taken
  one_more : (w next : Walk) (word : Text) (words : List Text) → turn_fault (leaf name names) [] w word ≡ []
      → walked c [] w word ≡ next → fault (leaf name names) next words ≡ []
      → fault (leaf name names) w (word ∷ words) ≡ []
  one_more w next word words turn walked_is rest =
      fault_next (leaf name names) w word words
      ∙ both_free _ _ turn (ap (λ (v : Walk). fault (leaf name names) v words) walked_is ∙ rest)

  module _ (id value : Text) (before : List Pair) (has : Contains names id) (none : HasNoEquals id) (some : id ≢ [])
      (fits : IsValue value) (new : IsNew id before) (rest : List Text)
      (later : Taken rest (before ++ (id, value) ∷ [])) where
    in_one : Taken ((codes "--" ++ (id ++ (codes "=" ++ value))) ∷ rest) before
    in_one h settle is =
        let word : Text = codes "--" ++ (id ++ (codes "=" ++ value)) in
        let no_dashes = pair_no_dashes id value in
        let long = long_pair id value none in
        let free = ap (λ (g : Held). use_fault false (rule id) (value ∷ []) g.rows) is ∙ use_free id value before new in
        one_more (walk_from h) (walk_from (met (before ++ (id, value) ∷ []))) word rest
        (pair_fault name names idle h word no_dashes id has value long ∙ both_free _ _ settle free)
        (pair_walked name names idle h word no_dashes id has value long
        ∙ ap walk_from (leads_pair name names h before id value is new))
        (later (met (before ++ (id, value) ∷ [])) refl refl)

    in_two : Taken ((codes "--" ++ id) ∷ value ∷ rest) before
    in_two h settle is =
        let word : Text = codes "--" ++ id in
        let no_dashes = name_no_dashes id some in
        let long = long_name id none some in
        let value_dashes = value_no_dashes value fits in
        let value_long = no_long value fits in
        let value_short = no_short value fits in
        one_more (walk_from h) (waits name names id before) word (value ∷ rest)
        (name_fault name names idle h word no_dashes id has long ∙ settle)
        (name_walked name names idle h word no_dashes id has long
        ∙ ap (λ (g : Held). at (wants id) (record g { pending = Some (id, []) })) is)
        (one_more (waits name names id before) (walk_from (valued name names id value before)) value rest
        (value_free name names (met before) value value_dashes value_long value_short id has)
        (value_walked name names (met before) value value_dashes value_long value_short id has)
        (later (valued name names id value before)
        (valued_fault name names id value before has ∙ use_free id value before new)
        (valued_kept name names id value before has new)))

    one_option : (words : List Text)
        → ((words ≡ (codes "--" ++ (id ++ (codes "=" ++ value))) ∷ rest) ⊎ (words ≡ (codes "--" ++ id) ∷ value ∷ rest))
        → Taken words before
    one_option words (inl is) = subst (λ (ws : List Text). Taken ws before) (sym is) in_one
    one_option words (inr is) = subst (λ (ws : List Text). Taken ws before) (sym is) in_two

  pub complete : (options : List Pair) (words : List Text) → AreOptions options words
      → AllByRecursion (λ (option : Pair). Contains names option.0) options
      → AllByRecursion (λ (option : Pair). option.0 ≢ []) options → (before : List Pair) → AreNew before options
      → Taken words before
  complete [] words are among named before new = λ h settle is.
      ap (fault (leaf name names) (walk_from h)) are ∙ fault_end (leaf name names) (walk_from h) ∙ settle
  complete (option ∷ options) words (rest, has, are) among named before new =
      one_option option.0 option.1 before among.0 has.0.0 named.0 has.1 new.0 rest
      (complete options rest are among.1 named.1 (before ++ option ∷ []) new.1) words has.0.1
