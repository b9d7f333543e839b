-- Words that `clap` takes are options, and options are taken.
use Rattle.std.proofs.Common.{◌≡◌, ◌≢◌, List, [], ◌∷◌, ◌++◌, ◌⊎◌, inl, inr, Some, None, map, ap, sym, subst, ◌∙◌, refl}
use Rattle.std.proofs.Common.{false, Contains, append-nil, append_assoc, bytes_eq, Option}
use Rattle.std.specs.Prelude.{codes}
use Rattle.std.specs.List.{AllByRecursion}
use Rattle.clap.specs.Faults.{settle_fault, turn_fault, use_fault}
use Rattle.clap.specs.Lexer.{long_of}
use Rattle.clap.specs.Walk.{Held, Row, Rule, Text, Walk, arg_by_long, idle, reacted, settled, used, walk_from, walked, option as wants}
use Rattle.command_line.specs.Words.{AreOptions, HasNoEquals, IsPlain, IsValue}
use Rattle.command_line.proofs.Options.{Pair}
use Rattle.command_line.proofs.Lexing.{flag_of, long_name, long_pair, name_no_dashes, no_long, no_short, pair_no_dashes}
use Rattle.command_line.proofs.Lexing.{value_no_dashes}
use Rattle.command_line.proofs.Walks.{IsNew, by_id, by_index, free_new, long_known, met, row, rule, use_kept}
use Rattle.command_line.proofs.Steps.{at, fault, fault_end, held_after, leaf, name_fault, name_walked, pair_fault, pair_walked, parted, value_walked}
use Rattle.command_line.proofs.Turns.{first_free, second_free, flag_refused, stray_refused}

-- none of the options has the name of one before it
abbrev pub AreNew : List Pair → List Pair → Type 0
AreNew before [] = Unit {0}
AreNew before (option ∷ options) = IsNew option.0 before × AreNew (before ++ option ∷ []) options

-- the words are options of these names behind others, and all of them are in the rows
abbrev pub Reads : List Text → List Pair → List Text → List Row → Type 0
Reads names before words rows = (options : List Pair) × AreOptions options words
    × AllByRecursion (λ (option : Pair). Contains names option.0) options × AreNew before options
    × (rows ≡ map row (before ++ options))

module _ (name : Text) (names : List Text) where
  abbrev c : List Rule
  c = (leaf name names).rules

  -- what is held comes to these options
  abbrev Leads : Held → List Pair → Type 0
  Leads h before = settle_fault c false h ≡ [] → settled c h ≡ met before

  abbrev pub rows_behind : Walk → List Text → List Row
  rows_behind w words = (settled c (held_after c w words)).rows

  -- an option that waits for its value
  abbrev pub waits : Text → List Pair → Walk
  waits id before = at (wants id) (record (met before) { pending = Some (id, []) })

  -- words that are taken are options
  abbrev Idle : List Text → Type 0
  Idle words = AllByRecursion IsPlain words → (h : Held) (before : List Pair) → Leads h before
      → fault (leaf name names) (walk_from h) words ≡ []
      → (settle_fault c false h ≡ []) × Reads names before words (rows_behind (walk_from h) words)

  abbrev Waits : List Text → Type 0
  Waits words = AllByRecursion IsPlain words → (id : Text) (before : List Pair) → Contains names id
      → fault (leaf name names) (waits id before) words ≡ []
      → (value : Text) × (rest : List Text) × (words ≡ value ∷ rest) × IsValue value × IsNew id before
      × Reads names (before ++ (id, value) ∷ []) rest (rows_behind (waits id before) words)

  -- an option that gets its value leads to one more
  pub leads_pair : (h : Held) (before : List Pair) (id value : Text) → settled c h ≡ met before → IsNew id before
      → reacted c (rule id) (value ∷ []) h ≡ met (before ++ (id, value) ∷ [])
  leads_pair h before id value is new =
      ap (λ (g : Held). record g { rows = used (rule id) (value ∷ []) g.rows; pending = None }) is
      ∙ ap (λ (rows : List Row). record (met before) { rows = rows; pending = None }) (use_kept id value before new)

  -- an option without a value is refused
  no_value : (h : Held) (id : Text) → Contains names id
      → settle_fault c false (record h { pending = Some (id, []) }) ≡ [] → ⊥
  no_value h id has free =
      let fault_is = rw (by_id id names has) at free in
      absurd cc

  -- one that has its value, and isn't settled yet
  abbrev pub valued : Text → Text → List Pair → Held
  valued id value before = record (met before) { pending = Some (id, value ∷ []) }

  pub valued_fault : (id value : Text) (before : List Pair) → Contains names id
      → settle_fault c false (valued id value before) ≡ use_fault false (rule id) (value ∷ []) (map row before)
  valued_fault id value before has = rw (by_id id names has) refl

  pub valued_kept : (id value : Text) (before : List Pair) → Contains names id → IsNew id before
      → settled c (valued id value before) ≡ met (before ++ (id, value) ∷ [])
  valued_kept id value before has new =
      rw (by_id id names has)
      (ap (λ (rows : List Row). record (met before) { rows = rows }) (use_kept id value before new))

  -- ---- words that are taken are options

  idle_end : Idle []
  idle_end plain h before leads free =
      let settle : settle_fault c false h ≡ [] = sym (fault_end (leaf name names) (walk_from h)) ∙ free in
      (settle, ([], refl, tt, tt, ap (λ (g : Held). g.rows) (leads settle) ∙ sym (ap (map row) (append-nil before))))

  waits_end : Waits []
  waits_end plain id before has free =
      absurd (no_value (met before) id has (sym (fault_end (leaf name names) (waits id before)) ∙ free))

  -- the rows behind one more word
  rows_next : (w next : Walk) (word : Text) (words : List Text) (before options : List Pair) (pair : Pair)
      → walked c [] w word ≡ next → rows_behind next words ≡ map row ((before ++ pair ∷ []) ++ options)
      → rows_behind w (word ∷ words) ≡ map row (before ++ pair ∷ options)
  rows_next w next word words before options pair walked_is rows =
      ap (λ (v : Walk). rows_behind v words) walked_is ∙ rows
      ∙ ap (map row) (append_assoc before (pair ∷ []) options)

  module _ (word : Text) (words : List Text) (later : Idle words × Waits words) (plains : AllByRecursion IsPlain words)
      (h : Held) (before : List Pair) (leads : Leads h before)
      (turn : turn_fault (leaf name names) [] (walk_from h) word ≡ [])
      (rest : fault (leaf name names) (walked c [] (walk_from h) word) words ≡ []) where
    abbrev Result : Type 0
    Result = (settle_fault c false h ≡ [])
        × Reads names before (word ∷ words) (rows_behind (walk_from h) (word ∷ words))

    by_name : (id : Text) → id ≢ [] → HasNoEquals id → word ≡ codes "--" ++ id → Result
    by_name id some none is = elim (long_known id names) [
      | inr unknown ↦ absurd (flag_refused (leaf name names) [] idle 1 h word refl no_dashes id None long unknown turn)
      | inl has ↦
          let settle = sym (name_fault name names idle h word no_dashes id has long) ∙ turn in
          let next_is : walked c [] (walk_from h) word ≡ waits id before =
          name_walked name names idle h word no_dashes id has long
          ∙ ap (λ (g : Held). at (wants id) (record g { pending = Some (id, []) })) (leads settle) in
          let found = later.1 plains id before has
          (subst (λ (w : Walk). fault (leaf name names) w words ≡ []) next_is rest) in
          let pair : Pair = (id, found.0) in
          let words_are : word ∷ words ≡ (codes "--" ++ id) ∷ found.0 ∷ found.1 =
          ap (λ (t : Text). t ∷ words) is ∙ ap (λ (ws : List Text). (codes "--" ++ id) ∷ ws) found.2 in (
            settle,
            (
              pair ∷ found.5.0,
              (found.1, ((none, inr words_are), found.3), found.5.1),
              (has, found.5.2),
              (found.4, found.5.3),
              rows_next (walk_from h) (waits id before) word words before found.5.0 pair next_is found.5.4,
            ),
          )
    ]
      where
        no_dashes : bytes_eq word (45 ∷ 45 ∷ []) ≡ false
        no_dashes = ap (λ (t : Text). bytes_eq t (45 ∷ 45 ∷ [])) is ∙ name_no_dashes id some

        long : long_of word ≡ Some (id, None)
        long = ap long_of is ∙ long_name id none some

    by_pair : (id value : Text) → HasNoEquals id → word ≡ codes "--" ++ (id ++ (codes "=" ++ value))
        → IsValue value → Result
    by_pair id value none is fits = elim (long_known id names) [
      | inr unknown ↦
          absurd (flag_refused (leaf name names) [] idle 1 h word refl no_dashes id (Some value) long unknown turn)
      | inl has ↦
          let free = sym (pair_fault name names idle h word no_dashes id has value long) ∙ turn in
          let settle = first_free _ _ free in
          let new = free_new id value before
          (sym (ap (λ (g : Held). use_fault false (rule id) (value ∷ []) g.rows) (leads settle))
          ∙ second_free _ _ free) in
          let pair : Pair = (id, value) in
          let next_is : walked c [] (walk_from h) word ≡ walk_from (met (before ++ pair ∷ [])) =
          pair_walked name names idle h word no_dashes id has value long
          ∙ ap walk_from (leads_pair h before id value (leads settle) new) in
          let found = later.0 plains (met (before ++ pair ∷ [])) (before ++ pair ∷ []) (λ _. refl)
          (subst (λ (w : Walk). fault (leaf name names) w words ≡ []) next_is rest) in (
            settle,
            (
              pair ∷ found.1.0,
              (words, ((none, inl (ap (λ (t : Text). t ∷ words) is)), fits), found.1.1),
              (has, found.1.2),
              (new, found.1.3),
              rows_next (walk_from h) (walk_from (met (before ++ pair ∷ []))) word words before found.1.0 pair next_is
                  found.1.4,
            ),
          )
    ]
      where
        no_dashes : bytes_eq word (45 ∷ 45 ∷ []) ≡ false
        no_dashes = ap (λ (t : Text). bytes_eq t (45 ∷ 45 ∷ [])) is ∙ pair_no_dashes id value

        long : long_of word ≡ Some (id, Some value)
        long = ap long_of is ∙ long_pair id value none

  idle_more : (word : Text) (words : List Text) → Idle words × Waits words → Idle (word ∷ words)
  idle_more word words later (plain, plains) h before leads free =
      let parts = parted (leaf name names) (walk_from h) word words free in
      elim plain [
        | inl value ↦ absurd (stray_refused (leaf name names) [] 1 h word refl (by_index 1 names) value parts.0)
        | inr (option, is, inl (some, none)) ↦
            by_name word words later plains h before leads parts.0 parts.1 option some none is
        | inr (option, is, inr (id, value, none, split, fits)) ↦
            by_pair word words later plains h before leads parts.0 parts.1 id value none
            (is ∙ ap (λ (t : Text). codes "--" ++ t) split) fits
      ]

  -- a name behind an option that waits is refused
  name_refused : (word : Text) (id : Text) (before : List Pair) → Contains names id
      → (other : Text) (value : Option Text)
      → bytes_eq word (45 ∷ 45 ∷ []) ≡ false → long_of word ≡ Some (other, value)
      → turn_fault (leaf name names) [] (waits id before) word ≡ [] → ⊥
  name_refused word id before has other value no_dashes long free = go value long (long_known other names)
    where
      h : Held
      h = record (met before) { pending = Some (id, []) }

      go : (v : Option Text) → long_of word ≡ Some (other, v)
          → Contains names other ⊎ (arg_by_long (map rule names) other ≡ None) → ⊥
      go v l (inr unknown) = flag_refused (leaf name names) [] (wants id) 1 h word refl no_dashes other v l unknown free
      go None l (inl known) = no_value (met before) id has
          (sym (name_fault name names (wants id) h word no_dashes other known l) ∙ free)
      go (Some v) l (inl known) = no_value (met before) id has
          (first_free _ _ (sym (pair_fault name names (wants id) h word no_dashes other known v l) ∙ free))

  waits_more : (word : Text) (words : List Text) → Idle words × Waits words → Waits (word ∷ words)
  waits_more word words later (plain, plains) id before has free =
      let parts = parted (leaf name names) (waits id before) word words free in
      elim plain [
        | inl value ↦
            let no_dashes = value_no_dashes word value in
            let next_is =
            value_walked name names (met before) word no_dashes (no_long word value) (no_short word value) id has in
            let leads : Leads (valued id word before) (before ++ (id, word) ∷ []) =
            λ settle. valued_kept id word before has
            (free_new id word before (sym (valued_fault id word before has) ∙ settle)) in
            let found = later.0 plains (valued id word before) (before ++ (id, word) ∷ []) leads
            (subst (λ (w : Walk). fault (leaf name names) w words ≡ []) next_is parts.1) in
            let new = free_new id word before (sym (valued_fault id word before has) ∙ found.0) in (
              word,
              words,
              refl,
              value,
              new,
              (
                found.1.0,
                found.1.1,
                found.1.2,
                found.1.3,
                ap (λ (v : Walk). rows_behind v words) next_is ∙ found.1.4,
              ),
            )
        | inr (option, is, fits) ↦
            let flag = flag_of word option is fits in
            absurd (name_refused word id before has flag.0 flag.1 flag.2 flag.3 parts.0)
      ]

  pub sound : (words : List Text) → Idle words × Waits words
  sound [] = (idle_end, waits_end)
  sound (word ∷ words) = (idle_more word words (sound words), waits_more word words (sound words))
