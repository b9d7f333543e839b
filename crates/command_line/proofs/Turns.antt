-- What `clap` makes of one word.
use Rattle.std.proofs.Common.{◌≡◌, ℕ, [], ◌∷◌, inl, inr, Option, Some, None, Bool, true, false, cond, ap, sym, ◌∙◌}
use Rattle.std.proofs.Common.{refl}
use Rattle.std.specs.Prelude.{bytes_eq}
use Rattle.std.specs.Option.{option_map_or}
use Rattle.clap.specs.Faults.{long_fault, positional_fault, step_fault, stray_fault, turn_fault, word_fault}
use Rattle.clap.specs.Kinds.{Kinds, or_else}
use Rattle.clap.specs.Lexer.{long_of, short_of}
use Rattle.clap.specs.Simple.{Shape}
use Rattle.clap.specs.Walk.{Held, Names, Step, Text, Waiting, Walk, arg_by_index, arg_by_long, idle, long_word, plain_word}
use Rattle.clap.specs.Walk.{subcommand_met, word_met}
use Rattle.clap.specs.declared.error.kind.ErrorKind.TheVariants.{InvalidSubcommand, UnknownArgument}
use Rattle.command_line.specs.Words.{IsPlain, IsValue}
use Rattle.command_line.proofs.Lexing.{flag_of, no_long, no_short, value_no_dashes}

-- ---- faults

-- two faults, of which the first is told
pub first_free : (one other : Kinds) → or_else one other ≡ [] → one ≡ []
first_free [] other free = refl
first_free (kind ∷ kinds) other free = free

pub second_free : (one other : Kinds) → or_else one other ≡ [] → other ≡ []
second_free [] other free = free
second_free (kind ∷ kinds) other free = absurd cc

pub both_free : (one other : Kinds) → one ≡ [] → other ≡ [] → or_else one other ≡ []
both_free [] other free free' = free'
both_free (kind ∷ kinds) other free free' = free

pub in_turn : (one other third : Kinds) → or_else (or_else one other) third ≡ or_else one (or_else other third)
in_turn [] other third = refl
in_turn (kind ∷ kinds) other third = refl

pub without_end : (one other third : Kinds) → or_else one (or_else other third) ≡ [] → or_else one other ≡ []
without_end one other third free = first_free (or_else one other) third (in_turn one other third ∙ free)

pub alone : (one : Kinds) → or_else one [] ≡ one
alone [] = refl
alone (kind ∷ kinds) = refl

-- ---- the word

-- between two words: what is held, what waits for a value, and at which place
abbrev pub stand : Waiting → ℕ → Held → Walk
stand waiting position h =
    record { held = h; waiting = waiting; position = position; is_trailing = false; stopped = None }

module _ (s : Shape) (names : Names) (waiting : Waiting) (position : ℕ) (h : Held) (word : Text)
    (no_command : subcommand_met names waiting word ≡ None) (no_dashes : bytes_eq word (45 ∷ 45 ∷ []) ≡ false) where
  -- it begins an option
  module _ (id : Text) (value : Option Text) (long : long_of word ≡ Some (id, value)) where
    pub flag_fault : word_fault s names false waiting word h
        ≡ long_fault s.rules s.args_override_self (arg_by_long s.rules id) value h
    flag_fault = rw (no_command, no_dashes, long) refl

    pub flag_met : word_met s.rules names false waiting position word h ≡ long_word s.rules waiting word id value h
    flag_met = rw (no_command, no_dashes, long) refl

    -- of a name that the command lacks
    pub flag_refused : arg_by_long s.rules id ≡ None → turn_fault s names (stand waiting position h) word ≡ [] → ⊥
    flag_refused none free =
        let fault_is = flag_fault ∙ ap (λ o. long_fault s.rules s.args_override_self o value h) none in
        absurd (never (sym fault_is ∙ first_free _ _ free))
      where
        never : UnknownArgument ∷ [] ≡ [] → ⊥
        never e = cc

  -- it is a value
  module _ (is_not_long : long_of word ≡ None) (is_not_short : short_of word ≡ None) where
    pub value_fault : word_fault s names false waiting word h ≡ []
    value_fault = rw (no_command, no_dashes, is_not_long, is_not_short) refl

    pub value_met : word_met s.rules names false waiting position word h ≡ plain_word s.rules waiting word h
    value_met = rw (no_command, no_dashes, is_not_long, is_not_short) refl

some_stray : (s : Shape) → stray_fault s ≡ [] → ⊥
some_stray s = go s.is_leaf
  where
    go : (b : Bool) → cond b (UnknownArgument ∷ []) (UnknownArgument ∷ InvalidSubcommand ∷ []) ≡ [] → ⊥
    go true e = cc
    go false e = cc

module _ (s : Shape) (names : Names) (position : ℕ) (h : Held) (word : Text)
    (no_command : subcommand_met names idle word ≡ None) (no_place : arg_by_index s.rules position ≡ None) where
  -- a value that nothing waits for is refused
  pub stray_refused : IsValue word → turn_fault s names (stand idle position h) word ≡ [] → ⊥
  stray_refused fits free =
      let met_is = value_met s names idle position h word no_command (value_no_dashes word fits) (no_long word fits)
      (no_short word fits) in
      let step_is = ap (λ (m : Held × Step). step_fault s position m.0 m.1) met_is in
      let stray =
      ap (λ o. option_map_or (λ a. positional_fault s.rules s.args_override_self a h) o (stray_fault s)) no_place in
      some_stray s (sym (step_is ∙ stray) ∙ second_free _ _ free)

  -- and so is each plain word, where the command has no option either
  pub plain_refused : ((id : Text) → arg_by_long s.rules id ≡ None) → IsPlain word
      → turn_fault s names (stand idle position h) word ≡ [] → ⊥
  plain_refused no_flag (inl fits) free = stray_refused fits free
  plain_refused no_flag (inr (option, is, fits)) free =
      let flag = flag_of word option is fits in
      flag_refused s names idle position h word no_command flag.2 flag.0 flag.1 flag.3 (no_flag flag.0) free
