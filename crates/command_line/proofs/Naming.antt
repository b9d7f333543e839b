-- Which command the words name that `clap` takes.
use Rattle.std.proofs.Common.{◌≡◌, List, [], ◌∷◌, ◌⊎◌, inl, inr, Option, Some, None, Bool, true, false, map, sym}
use Rattle.std.proofs.Common.{subst, ◌∙◌, refl, true≢false}
use Rattle.std.specs.Prelude.{bytes_eq, codes}
use Rattle.std.specs.List.{AllByRecursion}
use Rattle.std.proofs.lemmas.Slice.Eq.{bytes_eq-Decides}
use Rattle.clap.specs.Faults.{fault_of}
use Rattle.clap.specs.Simple.{subcommand_of}
use Rattle.clap.specs.Walk.{Row, Text, first_of, idle, nothing_held, rows_after, subcommand_met}
use Rattle.command_line.specs.Sheets.{sheets}
use Rattle.command_line.specs.Words.{AreOptionsOf, IsPlain}
use Rattle.command_line.specs.Words.{value_of}
use Rattle.command_line.proofs.Calls.{IsCalls, calls, calls_read}
use Rattle.command_line.proofs.Levels.{taken_read}
use Rattle.command_line.proofs.Options.{Pair}
use Rattle.command_line.proofs.Turns.{plain_refused}
use Rattle.command_line.proofs.Tops.{commands, enters_replay, enters_run, enters_serve, enters_workload, entered_is, fault_is}
use Rattle.command_line.proofs.Tops.{top, turn_free}
use Rattle.command_line.proofs.Walks.{rule}

-- ---- which command is named

-- the words are options of these names, and the rows have their values
abbrev pub HasRows : List Text → List Text → List Row → Type 0
HasRows names words rows = (options : List Pair) × AreOptionsOf names options words
    × ((id : Text) → first_of id rows ≡ value_of id options)

-- the words behind a name are what its command takes, and the rows have that
abbrev pub Behind : Text → List Text → List Row → Type 0
Behind name words rows = (name ≡ codes "run" → HasRows (codes "users" ∷ []) words rows)
    × (name ≡ codes "serve"
    → HasRows (codes "port" ∷ codes "limit" ∷ codes "users" ∷ codes "journal" ∷ []) words rows)
    × (name ≡ codes "replay" → HasRows (codes "journal" ∷ []) words rows)
    × (name ≡ codes "workload" → IsCalls words rows)

-- the words name that command, or there are none
abbrev pub Names : List Text → Option (Text × List Row) → Type 0
Names words named = ((words ≡ []) × (named ≡ None))
    ⊎ ((name : Text) × (rest : List Text) × (rows : List Row) × (words ≡ name ∷ rest) × (named ≡ Some (name, rows))
    × Behind name rest rows)

differ : (name other : Text) {A : Type 0} → bytes_eq name other ≡ false → name ≡ other → A
differ name other unequal same = absurd (true≢false (sym ((bytes_eq-Decides name other).1 same) ∙ unequal))

names_run : (rest : List Text) → AllByRecursion IsPlain rest → fault_of sheets (codes "run" ∷ rest) ≡ []
    → Names (codes "run" ∷ rest) (subcommand_of sheets (codes "run" ∷ rest))
names_run rest plain free =
    let reads = taken_read (codes "run") (codes "users" ∷ []) rest plain
    (sym (fault_is (codes "run") enters_run rest) ∙ free) in
    inr (
      codes "run",
      rest,
      rows_after (map rule (codes "users" ∷ [])) [] rest,
      refl,
      entered_is (codes "run") enters_run rest,
      (
        λ same. reads,
        λ same. differ (codes "run") (codes "serve") refl same,
        λ same. differ (codes "run") (codes "replay") refl same,
        λ same. differ (codes "run") (codes "workload") refl same,
      ),
    )

names_serve : (rest : List Text) → AllByRecursion IsPlain rest → fault_of sheets (codes "serve" ∷ rest) ≡ []
    → Names (codes "serve" ∷ rest) (subcommand_of sheets (codes "serve" ∷ rest))
names_serve rest plain free =
    let names : List Text = codes "port" ∷ codes "limit" ∷ codes "users" ∷ codes "journal" ∷ [] in
    let reads = taken_read (codes "serve") names rest plain (sym (fault_is (codes "serve") enters_serve rest) ∙ free) in
    inr (
      codes "serve",
      rest,
      rows_after (map rule names) [] rest,
      refl,
      entered_is (codes "serve") enters_serve rest,
      (
        λ same. differ (codes "serve") (codes "run") refl same,
        λ same. reads,
        λ same. differ (codes "serve") (codes "replay") refl same,
        λ same. differ (codes "serve") (codes "workload") refl same,
      ),
    )

names_replay : (rest : List Text) → AllByRecursion IsPlain rest → fault_of sheets (codes "replay" ∷ rest) ≡ []
    → Names (codes "replay" ∷ rest) (subcommand_of sheets (codes "replay" ∷ rest))
names_replay rest plain free =
    let reads = taken_read (codes "replay") (codes "journal" ∷ []) rest plain
    (sym (fault_is (codes "replay") enters_replay rest) ∙ free) in
    inr (
      codes "replay",
      rest,
      rows_after (map rule (codes "journal" ∷ [])) [] rest,
      refl,
      entered_is (codes "replay") enters_replay rest,
      (
        λ same. differ (codes "replay") (codes "run") refl same,
        λ same. differ (codes "replay") (codes "serve") refl same,
        λ same. reads,
        λ same. differ (codes "replay") (codes "workload") refl same,
      ),
    )

names_workload : (rest : List Text) → AllByRecursion IsPlain rest → fault_of sheets (codes "workload" ∷ rest) ≡ []
    → Names (codes "workload" ∷ rest) (subcommand_of sheets (codes "workload" ∷ rest))
names_workload rest plain free =
    let reads = calls_read rest plain (sym (fault_is (codes "workload") enters_workload rest) ∙ free) in
    inr (
      codes "workload",
      rest,
      rows_after (calls ∷ []) [] rest,
      refl,
      entered_is (codes "workload") enters_workload rest,
      (
        λ same. differ (codes "workload") (codes "run") refl same,
        λ same. differ (codes "workload") (codes "serve") refl same,
        λ same. differ (codes "workload") (codes "replay") refl same,
        λ same. reads,
      ),
    )

-- ---- a word that names none is refused

abbrev Others : Text → Type 0
Others word = (bytes_eq (codes "run") word ≡ false) × (bytes_eq (codes "serve") word ≡ false)
    × (bytes_eq (codes "replay") word ≡ false) × (bytes_eq (codes "workload") word ≡ false)

no_command : (word : Text) → Others word → subcommand_met commands idle word ≡ None
no_command word others = rw (others.0, others.1, others.2, others.3) refl

either : (name word : Text) → (name ≡ word) ⊎ (bytes_eq name word ≡ false)
either name word = go (bytes_eq name word) refl
  where
    go : (b : Bool) → bytes_eq name word ≡ b → (name ≡ word) ⊎ (bytes_eq name word ≡ false)
    go true is = inl ((bytes_eq-Decides name word).0 is)
    go false is = inr is

names_first : (word : Text) (rest : List Text) → IsPlain word → AllByRecursion IsPlain rest
    → fault_of sheets (word ∷ rest) ≡ [] → Names (word ∷ rest) (subcommand_of sheets (word ∷ rest))
names_first word rest first plain free = elim (either (codes "run") word) [
  | inl is ↦ subst Named is (λ f. names_run rest plain f) free
  | inr not_run ↦ elim (either (codes "serve") word) [
    | inl is ↦ subst Named is (λ f. names_serve rest plain f) free
    | inr not_serve ↦ elim (either (codes "replay") word) [
      | inl is ↦ subst Named is (λ f. names_replay rest plain f) free
      | inr not_replay ↦ elim (either (codes "workload") word) [
        | inl is ↦ subst Named is (λ f. names_workload rest plain f) free
        | inr not_workload ↦ absurd (plain_refused top commands 1 nothing_held word
            (no_command word (not_run, not_serve, not_replay, not_workload)) refl (λ id. refl) first
            (turn_free word rest free))
      ]
    ]
  ]
]
  where
    Named : Text → Type 0
    Named w = fault_of sheets (w ∷ rest) ≡ [] → Names (w ∷ rest) (subcommand_of sheets (w ∷ rest))

pub named : (words : List Text) → AllByRecursion IsPlain words → fault_of sheets words ≡ []
    → Names words (subcommand_of sheets words)
named [] plain free = inl (refl, refl)
named (word ∷ rest) (first, plain) free = names_first word rest first plain free
