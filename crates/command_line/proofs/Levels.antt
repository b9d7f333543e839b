-- What `clap` makes of the words behind a command's name.
use Rattle.std.proofs.Common.{◌≡◌, ◌≢◌, List, [], ◌∷◌, ◌++◌, ◌&&◌, not, Bool, true, false, map, ap, sym, ◌∙◌, refl}
use Rattle.std.specs.Prelude.{fold}
use Rattle.std.specs.List.{AllByRecursion, list_any}
use Rattle.clap.specs.Faults.{check_fault, default_fault, defaults_fault, level_fault}
use Rattle.clap.specs.Kinds.{or_else}
use Rattle.clap.specs.Takes.{is_given}
use Rattle.clap.specs.Walk.{Row, Rule, Text, first_of, finished, has_row, nothing_held, rows_after, settled, walk_from, with_default}
use Rattle.command_line.specs.Words.{AreDistinct, AreOptionsOf, IsPlain, value_of}
use Rattle.command_line.proofs.Options.{Pair}
use Rattle.command_line.proofs.Walks.{IsNew, first_is, rule}
use Rattle.command_line.proofs.Taken.{AreNew, rows_behind, sound}
use Rattle.command_line.proofs.Takes.{complete}
use Rattle.command_line.proofs.Steps.{fault, held_after, leaf}
use Rattle.command_line.proofs.Turns.{alone, both_free}

-- ---- names that are apart

each : {X : Type 0} (P Q : X → Type 0) (xs : List X) → ((x : X) → P x → Q x) → AllByRecursion P xs → AllByRecursion Q xs
each P Q [] turns all = tt
each P Q (x ∷ xs) turns all = (turns x all.0, each P Q xs turns all.1)

both_each : {X : Type 0} (P Q R : X → Type 0) (xs : List X) → ((x : X) → P x → Q x → R x) → AllByRecursion P xs
    → AllByRecursion Q xs → AllByRecursion R xs
both_each P Q R [] turns all all' = tt
both_each P Q R (x ∷ xs) turns all all' = (turns x all.0 all'.0, both_each P Q R xs turns all.1 all'.1)

new_behind : (name : Text) (before : List Pair) (option : Pair) → IsNew name before → option.0 ≢ name
    → IsNew name (before ++ option ∷ [])
new_behind name [] option new not_name = (not_name, tt)
new_behind name (first ∷ before) option new not_name = (new.0, new_behind name before option new.1 not_name)

new_before : (name : Text) (before : List Pair) (option : Pair) → IsNew name (before ++ option ∷ [])
    → IsNew name before × (option.0 ≢ name)
new_before name [] option new = (tt, new.0)
new_before name (first ∷ before) option new =
    let later = new_before name before option new.1 in
    ((new.0, later.0), later.1)

apart : (before options : List Pair) → AreNew before options
    → AreDistinct options × AllByRecursion (λ (option : Pair). IsNew option.0 before) options
apart before [] new = (tt, tt)
apart before (option ∷ options) new =
    let later = apart (before ++ option ∷ []) options new.1 in
    let parts = each (λ (other : Pair). IsNew other.0 (before ++ option ∷ []))
    (λ (other : Pair). IsNew other.0 before × (option.0 ≢ other.0)) options
    (λ other is. new_before other.0 before option is) later.1 in (
      (
        each (λ (other : Pair). IsNew other.0 before × (option.0 ≢ other.0))
            (λ (other : Pair). other.0 ≢ option.0) options
            (λ other is same. is.1 (sym same)) parts,
        later.0,
      ),
      (
        new.0,
        each (λ (other : Pair). IsNew other.0 before × (option.0 ≢ other.0)) (λ (other : Pair). IsNew other.0 before)
            options (λ other is. is.0) parts,
      ),
    )

all_new : (before options : List Pair) → AreDistinct options
    → AllByRecursion (λ (option : Pair). IsNew option.0 before) options
    → AreNew before options
all_new before [] distinct new = tt
all_new before (option ∷ options) distinct new = (
  new.0,
  all_new (before ++ option ∷ []) options distinct.1
      (both_each (λ (other : Pair). IsNew other.0 before) (λ (other : Pair). other.0 ≢ option.0)
      (λ (other : Pair). IsNew other.0 (before ++ option ∷ [])) options
      (λ other is not_first. new_behind other.0 before option is (λ same. not_first (sym same))) new.1 distinct.0),
)

any_new : (options : List Pair) → AllByRecursion (λ (option : Pair). IsNew option.0 []) options
any_new [] = tt
any_new (option ∷ options) = (tt, any_new options)

-- ---- behind the words

no_default : (rows : List Row) (name : Text) → with_default rows (rule name) ≡ rows
no_default rows name = go (has_row name rows) refl
  where
    go : (b : Bool) → has_row name rows ≡ b → with_default rows (rule name) ≡ rows
    go true is = rw is refl
    go false is = rw is refl

no_defaults : (rows : List Row) (names : List Text) → fold with_default rows (map rule names) ≡ rows
no_defaults rows [] = refl
no_defaults rows (name ∷ names) =
    ap (λ (rs : List Row). fold with_default rs (map rule names)) (no_default rows name) ∙ no_defaults rows names

default_free : (rows : List Row) (name : Text) → default_fault rows (rule name) ≡ []
default_free rows name = go (has_row name rows) refl
  where
    go : (b : Bool) → has_row name rows ≡ b → default_fault rows (rule name) ≡ []
    go true is = rw is refl
    go false is = rw is refl

defaults_free : (rows : List Row) (names : List Text) → defaults_fault rows (map rule names) ≡ []
unfolding defaults_fault
defaults_free rows [] = refl
defaults_free rows (name ∷ names) =
    both_free _ _ (default_free rows name) (defaults_free (with_default rows (rule name)) names)

none_required : (rows : List Row) (names : List Text)
    → list_any (λ (a : Rule). a.required && not (is_given a.id rows)) (map rule names) ≡ false
none_required rows [] = refl
none_required rows (name ∷ names) = none_required rows names

module _ (name : Text) (names : List Text) where
  check_free : (rows : List Row) → check_fault (leaf name names) rows false ≡ []
  check_free rows = rw (none_required rows names) refl

  level_is : (words : List Text)
      → level_fault (leaf name names) [] nothing_held words false []
      ≡ fault (leaf name names) (walk_from nothing_held) words
  level_is words =
      let c = map rule names in
      let held = held_after c (walk_from nothing_held) words in
      rw (defaults_free (settled c held).rows names, check_free (finished c held)) (ap (or_else _) (alone _))

  rows_are : (words : List Text) → rows_after (map rule names) [] words
      ≡ rows_behind name names (walk_from nothing_held) words
  rows_are words = no_defaults _ names

  -- words are taken just where they are options, and their values are found
  pub taken_read : (words : List Text) → AllByRecursion IsPlain words
      → level_fault (leaf name names) [] nothing_held words false [] ≡ []
      → (options : List Pair) × AreOptionsOf names options words
      × ((id : Text) → first_of id (rows_after (map rule names) [] words) ≡ value_of id options)
  taken_read words plain free =
      let found = (sound name names words).0 plain nothing_held [] (λ _. refl) (sym (level_is words) ∙ free) in
      let reads = found.1 in (
        reads.0,
        (reads.1, (reads.2, (apart [] reads.0 reads.3).0)),
        λ id. ap (first_of id) (rows_are words ∙ reads.4) ∙ first_is id reads.0,
      )

  pub read_taken : (options : List Pair) (words : List Text) → AreOptionsOf names options words
      → AllByRecursion (λ (option : Pair). option.0 ≢ []) options
      → level_fault (leaf name names) [] nothing_held words false [] ≡ []
  read_taken options words are named = level_is words
      ∙ complete name names options words are.0 are.1.0 named [] (all_new [] options are.1.1 (any_new options))
      nothing_held
      refl refl
