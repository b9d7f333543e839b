-- What `clap` makes of all words, by the command that the first of them names.
use Rattle.std.proofs.Common.{◌≡◌, List, [], ◌∷◌, Some, Bool, true, false, ap, sym}
use Rattle.std.proofs.Common.{◌∙◌, refl}
use Rattle.std.specs.Prelude.{codes, fold}
use Rattle.std.specs.Option.{is_some}
use Rattle.clap.specs.Faults.{check_fault, defaults_fault, entered_fault, fault_of, is_simple_and_free, settle_fault, turn_fault}
use Rattle.clap.specs.Faults.{walk_fault}
use Rattle.clap.specs.Kinds.{Kinds, or_else}
use Rattle.clap.specs.Simple.{Shape, built, entered, is_simple, names_of, subcommand_of}
use Rattle.clap.specs.Walk.{Names, Row, Text, Walk, finished, settled, nothing_held, walk_from, walked}
use Rattle.clap.proofs.FaultLemmas.{stopped_fault}
use Rattle.clap.proofs.WalkLemmas.{walk_stopped}
use Rattle.command_line.specs.Sheets.{sheets}
use Rattle.command_line.proofs.Turns.{alone, first_free}

pub simple : is_simple_and_free sheets ≡ true
simple = refl

pub is_simple_sheets : is_simple sheets ≡ true
is_simple_sheets = refl

abbrev pub top : Shape
top = (built sheets).top

abbrev pub commands : Names
commands = names_of (built sheets)

-- the words behind the name of a command are its own
abbrev Enters : Text → Type 0
Enters name = (turn_fault top commands (walk_from nothing_held) name ≡ [])
    × (walked top.rules commands (walk_from nothing_held) name
    ≡ record (walk_from nothing_held) { stopped = Some (name, []) })

no_check : (rows : List Row) (has : Bool) → check_fault top rows has ≡ []
no_check rows true = refl
no_check rows false = refl

module _ (name : Text) (enters : Enters name) (rest : List Text) where
  abbrev stopped : Walk
  stopped = record (walk_from nothing_held) { stopped = Some (name, rest) }

  walk_is : fold (walked top.rules commands) (walk_from nothing_held) (name ∷ rest) ≡ stopped
  walk_is = ap (λ (w : Walk). fold (walked top.rules commands) w rest) enters.1
      ∙ sym (walk_stopped top.rules commands (walk_from nothing_held) name [] rest)

  walk_free : walk_fault top commands (walk_from nothing_held) (name ∷ rest) ≡ []
  unfolding walk_fault
  walk_free = rw (enters.0, enters.1) (stopped_fault top commands (walk_from nothing_held) (name, []) rest)

  pub entered_is : subcommand_of sheets (name ∷ rest) ≡ entered (built sheets) (Some (name, rest))
  entered_is = ap (λ (w : Walk). entered (built sheets) w.stopped) walk_is

  pub fault_is : fault_of sheets (name ∷ rest) ≡ entered_fault (built sheets) (Some (name, rest))
  unfolding defaults_fault
  fault_is = ap (λ (w : Walk). or_else (walk_fault top commands (walk_from nothing_held) (name ∷ rest))
      (or_else (entered_fault (built sheets) w.stopped)
      (or_else (settle_fault top.rules false w.held)
      (or_else (defaults_fault (settled top.rules w.held).rows top.rules)
      (check_fault top (finished top.rules w.held) (is_some (entered (built sheets) w.stopped))))))) walk_is
      ∙ last
    where
      below : Kinds
      below = entered_fault (built sheets) (Some (name, rest))

      last : or_else (walk_fault top commands (walk_from nothing_held) (name ∷ rest)) (or_else below
          (or_else (settle_fault top.rules false nothing_held)
          (or_else (defaults_fault (settled top.rules nothing_held).rows top.rules)
          (check_fault top (finished top.rules nothing_held)
          (is_some (entered (built sheets) (Some (name, rest)))))))) ≡ below
      last = rw (
        walk_free,
        no_check (finished top.rules nothing_held)
            (is_some (entered (built sheets) (Some (name, rest)))),
      ) (alone below)

-- ---- by the name

pub enters_run : Enters (codes "run")
unfolding walked
enters_run = (refl, refl)

pub enters_serve : Enters (codes "serve")
unfolding walked
enters_serve = (refl, refl)

pub enters_replay : Enters (codes "replay")
unfolding walked
enters_replay = (refl, refl)

pub enters_workload : Enters (codes "workload")
unfolding walked
enters_workload = (refl, refl)

-- words without a fault begin with a word without one
pub turn_free : (word : Text) (rest : List Text) → fault_of sheets (word ∷ rest) ≡ []
    → turn_fault top commands (walk_from nothing_held) word ≡ []
unfolding walk_fault
turn_free word rest free = first_free _ _ (first_free _ _ free)
