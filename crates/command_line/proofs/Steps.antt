-- What `clap` makes of one word of options, and of the words behind it.
use Rattle.std.proofs.Common.{◌≡◌, List, [], ◌∷◌, Some, None, false, map, ap, ◌∙◌, refl}
use Rattle.std.proofs.Common.{sym, Contains}
use Rattle.std.specs.Prelude.{bytes_eq, fold}
use Rattle.std.proofs.lemmas.Slice.Eq.{bytes_eq-Decides}
use Rattle.clap.specs.Faults.{long_fault, settle_fault, turn_fault, use_fault, walk_fault}
use Rattle.clap.specs.Kinds.{Kinds, or_else}
use Rattle.clap.specs.Lexer.{long_of, short_of}
use Rattle.clap.specs.Simple.{Shape, built_leaf, inherited}
use Rattle.clap.specs.Walk.{Held, Rule, Step, Text, Waiting, Walk, after_step, idle, next, positional, option as wants}
use Rattle.clap.specs.Walk.{reacted, settled, subcommand_met, walk_from, walked, word_met}
use Rattle.command_line.specs.Sheets.{sheets, taking}
use Rattle.command_line.proofs.Turns.{alone, first_free, flag_fault, flag_met, in_turn, second_free, stand, value_fault}
use Rattle.command_line.proofs.Turns.{value_met}
use Rattle.command_line.proofs.Walks.{by_id, by_long, rule}

-- a command that takes options of these names, as it is built
abbrev pub leaf : Text → List Text → Shape
leaf name names = record (built_leaf (inherited sheets.top (taking name []))) { rules = map rule names }

-- what is held behind the words
abbrev pub held_after : List Rule → Walk → List Text → Held
held_after c w words = (fold (walked c []) w words).held

-- the fault of words, and of what waits behind them
abbrev pub fault : Shape → Walk → List Text → Kinds
fault s w words = or_else (walk_fault s [] w words) (settle_fault s.rules false (held_after s.rules w words))

pub fault_next : (s : Shape) (w : Walk) (word : Text) (words : List Text)
    → fault s w (word ∷ words) ≡ or_else (turn_fault s [] w word) (fault s (walked s.rules [] w word) words)
unfolding walk_fault
fault_next s w word words = in_turn (turn_fault s [] w word) _ _

pub parted : (s : Shape) (w : Walk) (word : Text) (words : List Text) → fault s w (word ∷ words) ≡ []
    → (turn_fault s [] w word ≡ []) × (fault s (walked s.rules [] w word) words ≡ [])
parted s w word words free =
    let parts = sym (fault_next s w word words) ∙ free in
    (first_free _ _ parts, second_free _ _ parts)

pub fault_end : (s : Shape) (w : Walk) → fault s w [] ≡ settle_fault s.rules false w.held
unfolding walk_fault
fault_end s w = refl

-- ---- one word

-- that is held, and that waits for a value
abbrev pub at : Waiting → Held → Walk
at waiting h = stand waiting 1 h

pub no_subcommand : (waiting : Waiting) (word : Text) → subcommand_met [] waiting word ≡ None
no_subcommand idle word = refl
no_subcommand (wants id) word = refl
no_subcommand positional word = refl

module _ (name : Text) (names : List Text) where
  abbrev s : Shape
  s = leaf name names

  module _ (waiting : Waiting) (h : Held) (word : Text) (no_dashes : bytes_eq word (45 ∷ 45 ∷ []) ≡ false) (id : Text)
      (has : Contains names id) where
    -- a name and a value settle what waits, and are used
    module _ (value : Text) (long : long_of word ≡ Some (id, Some value)) where
      pair_met : word_met s.rules [] false waiting 1 word h ≡ (reacted s.rules (rule id) (value ∷ []) h, next idle)
      pair_met = flag_met s [] waiting 1 h word (no_subcommand waiting word) no_dashes id (Some value) long
          ∙ rw (by_long id names has) refl

      pub pair_fault : turn_fault s [] (at waiting h) word ≡ or_else (settle_fault s.rules false h)
          (use_fault false (rule id) (value ∷ []) (settled s.rules h).rows)
      pair_fault =
          let fault_is = flag_fault s [] waiting 1 h word (no_subcommand waiting word) no_dashes id (Some value) long
          ∙ ap (λ o. long_fault s.rules false o (Some value) h) (by_long id names has) in
          rw (fault_is, pair_met) (alone _)

      pub pair_walked : walked s.rules [] (at waiting h) word ≡ walk_from (reacted s.rules (rule id) (value ∷ []) h)
      unfolding walked
      pair_walked = ap (λ (m : Held × Step). after_step s.rules word (at waiting h) m.0 m.1) pair_met

    -- a name settles what waits, and waits itself
    module _ (long : long_of word ≡ Some (id, None)) where
      name_met : word_met s.rules [] false waiting 1 word h
          ≡ (record (settled s.rules h) { pending = Some (id, []) }, next (wants id))
      name_met = flag_met s [] waiting 1 h word (no_subcommand waiting word) no_dashes id None long
          ∙ rw (by_long id names has) refl

      pub name_fault : turn_fault s [] (at waiting h) word ≡ settle_fault s.rules false h
      name_fault =
          let fault_is = flag_fault s [] waiting 1 h word (no_subcommand waiting word) no_dashes id None long
          ∙ ap (λ o. long_fault s.rules false o None h) (by_long id names has) in
          rw (fault_is, name_met) (alone _)

      pub name_walked : walked s.rules [] (at waiting h) word
          ≡ at (wants id) (record (settled s.rules h) { pending = Some (id, []) })
      unfolding walked
      name_walked = ap (λ (m : Held × Step). after_step s.rules word (at waiting h) m.0 m.1) name_met

  module _ (h : Held) (word : Text) (no_dashes : bytes_eq word (45 ∷ 45 ∷ []) ≡ false)
      (no_long : long_of word ≡ None) (no_short : short_of word ≡ None) where
    -- a value that an option waits for is its
    module _ (id : Text) (has : Contains names id) where
      abbrev before : Held
      before = record h { pending = Some (id, []) }

      value_taken : word_met s.rules [] false (wants id) 1 word before
          ≡ (record h { pending = Some (id, word ∷ []) }, next idle)
      value_taken =
          let same = (bytes_eq-Decides id id).1 refl in
          value_met s [] (wants id) 1 before word refl no_dashes no_long no_short
          ∙ rw (by_id id names has, same) refl

      pub value_free : turn_fault s [] (at (wants id) before) word ≡ []
      value_free =
          let fault_is = value_fault s [] (wants id) 1 before word refl no_dashes no_long no_short in
          rw (fault_is, value_taken) refl

      pub value_walked : walked s.rules [] (at (wants id) before) word
          ≡ walk_from (record h { pending = Some (id, word ∷ []) })
      unfolding walked
      value_walked = ap (λ (m : Held × Step). after_step s.rules word (at (wants id) before) m.0 m.1) value_taken
