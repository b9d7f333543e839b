-- What `clap` makes of the words behind `workload`.
use Rattle.std.proofs.Common.{◌≡◌, List, [], ◌∷◌, inl, inr, Some, false, ap, subst, refl}
use Rattle.std.proofs.Common.{◌++◌, MatchOption}
use Rattle.std.specs.Prelude.{codes}
use Rattle.std.specs.List.{AllByRecursion}
use Rattle.clap.specs.Faults.{check_fault, defaults_fault, level_fault, settle_fault, turn_fault, walk_fault}
use Rattle.clap.specs.Kinds.{or_else}
use Rattle.clap.specs.Simple.{Shape, filled, with_index}
use Rattle.clap.specs.Words.{new_rule}
use Rattle.clap.specs.Walk.{Held, Row, Rule, Step, Text, Walk, finished, first_of, idle, nothing_held, rows_after, value as taken, walk_from, walked}
use Rattle.clap.specs.Walk.{after_step, settled, word_met}
use Rattle.command_line.specs.Words.{IsOption, IsPlain, IsValue}
use Rattle.command_line.proofs.Lexing.{flag_of, no_long, no_short, value_no_dashes}
use Rattle.command_line.proofs.Steps.{fault, held_after, leaf, parted}
use Rattle.command_line.proofs.Turns.{without_end, stand, flag_refused, value_fault, value_met, plain_refused}

-- the one value that `workload` takes
abbrev pub calls : Rule
calls = with_index 1 (filled (new_rule (codes "calls")))

abbrev pub working : Shape
working = record (leaf (codes "workload") []) { rules = calls ∷ [] }

-- the words are the one that was found, or none
abbrev pub IsCalls : List Text → List Row → Type 0
IsCalls words rows = MatchOption (first_of (codes "calls") rows) (words ≡ []) (λ text. words ≡ text ∷ [])

-- what is held behind one value
abbrev counted : Text → Held
counted text = record nothing_held { pending = Some (codes "calls", text ∷ []) }

value_is : (word : Text) → IsValue word → word_met (calls ∷ []) [] false idle 1 word nothing_held
    ≡ (nothing_held, taken)
value_is word fits = value_met working [] idle 1 nothing_held word refl (value_no_dashes word fits) (no_long word fits)
    (no_short word fits)

option_refused : (word option : Text) → word ≡ codes "--" ++ option → IsOption option
    → turn_fault working [] (walk_from nothing_held) word ≡ [] → ⊥
option_refused word option is fits =
    let flag = flag_of word option is fits in
    flag_refused working [] idle 1 nothing_held word refl flag.2 flag.0 flag.1 flag.3 refl

-- the first is taken
first_walked : (word : Text) → IsValue word
    → walked (calls ∷ []) [] (walk_from nothing_held) word ≡ stand idle 2 (counted word)
unfolding walked
first_walked word fits =
    ap (λ (m : Held × Step). after_step (calls ∷ []) word (walk_from nothing_held) m.0 m.1)
    (value_is word fits)

first_free_of : (word : Text) → IsValue word → turn_fault working [] (walk_from nothing_held) word ≡ []
first_free_of word fits =
    let passes = value_fault working [] idle 1 nothing_held word refl (value_no_dashes word fits) (no_long word fits)
    (no_short word fits) in
    rw (passes, value_is word fits) refl

level_free : (words : List Text) → level_fault working [] nothing_held words false [] ≡ []
    → fault working (walk_from nothing_held) words ≡ []
level_free words free =
    let held = held_after (calls ∷ []) (walk_from nothing_held) words in
    without_end (walk_fault working [] (walk_from nothing_held) words) (settle_fault (calls ∷ []) false held)
    (or_else (defaults_fault (settled (calls ∷ []) held).rows (calls ∷ []))
    (check_fault working (finished (calls ∷ []) held) false))
    free

pub calls_read : (words : List Text) → AllByRecursion IsPlain words
    → level_fault working [] nothing_held words false [] ≡ [] → IsCalls words (rows_after (calls ∷ []) [] words)
calls_read [] plain free = refl
calls_read (word ∷ []) (inl fits, rest) free = rw (first_walked word fits) refl
calls_read (word ∷ []) (inr (option, is, fits), rest) free =
    let parts = parted working (walk_from nothing_held) word [] (level_free (word ∷ []) free) in
    absurd (option_refused word option is fits parts.0)
calls_read (word ∷ other ∷ words) (inl fits, (plain, rest)) free =
    let parts = parted working (walk_from nothing_held) word (other ∷ words) (level_free (word ∷ other ∷ words) free) in
    let behind = parted working (stand idle 2 (counted word)) other words
    (subst (λ (w : Walk). fault working w (other ∷ words) ≡ []) (first_walked word fits) parts.1) in
    absurd (plain_refused working [] 2 (counted word) other refl refl (λ id. refl) plain behind.0)
calls_read (word ∷ other ∷ words) (inr (option, is, fits), rest) free =
    let parts = parted working (walk_from nothing_held) word (other ∷ words) (level_free (word ∷ other ∷ words) free) in
    absurd (option_refused word option is fits parts.0)

pub calls_taken : (text : Text) → IsValue text → level_fault working [] nothing_held (text ∷ []) false [] ≡ []
unfolding walk_fault defaults_fault
calls_taken text fits = rw (first_free_of text fits, first_walked text fits) refl
