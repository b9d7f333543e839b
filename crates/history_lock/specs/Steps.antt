-- What each step tells of a seat, before and after it, and of the number that it found.
use Rattle.std.specs.Prelude.{◌≡◌, ◌≢◌, ℕ, ◌+◌, ◌<◌, ◌≤◌, true, false, List, [], ◌∷◌, All, drop, length, ◌++◌, max}
use Rattle.std.specs.Prelude.{Option as Maybe, Some, None, IfSome}
use Rattle.atomic_table.specs.Table.{Me}
use Rattle.history_lock.specs.declared.view.View.{View}
use Rattle.history_lock.specs.declared.view.Stage.TheVariants.{Away, Holds, Ready, Gone}
use Rattle.history_lock.specs.declared.view.Drawing.TheVariants.{Alone, Shared, Never}
use Rattle.history_lock.specs.History.{StartsWith, NoneOf, AreSilent, longer, shorter}

-- it draws no numbers
abbrev pub idle : {E : Type 0} → View E → View E
idle v = record v { drawing = Never }

-- it draws numbers, and others may
abbrev pub sharing : {E : Type 0} → View E → View E
sharing v = record v { drawing = Shared }

-- a copy with no number
abbrev pub copy_of : {E : Type 0} → View E → View E
copy_of v = record v { stage = Away; numbered = false; met = []; given = None }

-- both lists were seen, and the other's numbers are kept
abbrev pub joined : {E : Type 0} → View E → View E → View E
joined v w = record v {
  met = v.met ++ (w.number, length w.seen) ∷ w.met;
  seen = longer v.seen w.seen;
  mine = v.seen;
  heard = shorter v.seen w.seen;
  count = max v.count w.count;
}

-- it draws numbers as the other did
abbrev pub returned : {E : Type 0} → View E → View E → View E
returned v w = record v { drawing = w.drawing; count = max v.count w.count }

-- and a split gave the other's number
abbrev pub noted : {E : Type 0} → View E → View E → View E
noted v w = record v { drawing = w.drawing; count = max v.count w.count; given = Some w.number }

-- what a join leaves of the other view
abbrev pub gone : {E : Type 0} → View E
gone = record {
  stage = Gone;
  numbered = false;
  number = 0;
  met = [];
  seen = [];
  mine = [];
  heard = [];
  drawing = Never;
  count = 0;
  given = None;
  start = [];
  pair = (0, 0);
  most = 0;
}

-- the only view of a pass
abbrev pub the_view : {E : Type 0} → List (View E) → View E
the_view [] = gone
the_view (v ∷ views) = v

abbrev pub Stayed : {T E : Type 0} → Me (Maybe T) (View E) → Me (Maybe T) (View E) → Type 0
Stayed before after = after ≡ before

abbrev pub Opened : {T E : Type 0} → Me (Maybe T) (View E) → Me (Maybe T) (View E) → Type 0
Opened before after = after ≡ (record before.0 { stage = Holds }, (0, None) ∷ [])

-- With 0 found the turn is taken. The list begins with what was seen, and has no further entry of the own number, nor
-- of a pass that was taken in. Each entry since the opening is from one of so many callers; where nobody else draws
-- numbers, from one below the known count.
abbrev pub Took : {T E : Type 0} → (T → List E) → (T → ℕ × ℕ) → (E → ℕ) → Me (Maybe T) (View E) → ℕ
    → Me (Maybe T) (View E) → Type 0
Took {T} list pair caller before found after =
    (found ≡ 0 → (value : T)
    × (after ≡ (record before.0 { stage = Holds; seen = list value; mine = list value }, (0, Some value) ∷ []))
    × StartsWith (list value) before.0.seen × NoneOf caller before.0.number (drop (length before.0.seen) (list value))
    × All (λ entry. caller entry < before.0.most) (drop (length before.0.start) (list value))
    × (pair value ≡ before.0.pair) × AreSilent caller before.0.met (list value)
    × (before.0.drawing ≡ Alone
    → All (λ entry. caller entry < before.0.count) (drop (length before.0.start) (list value))))
    × (found ≢ 0 → after ≡ before)

-- the list of the value in the slot that is held
abbrev pub held_list : {T E : Type 0} → (T → List E) → List (ℕ × Maybe T) → List E
held_list list [] = []
held_list list ((slot, None) ∷ slots) = []
held_list list ((slot, Some value) ∷ slots) = list value

-- the turn is given back, and the list has no further entry of a pass that was taken in
abbrev pub Left : {T E : Type 0} → (T → List E) → (E → ℕ) → Me (Maybe T) (View E) → Me (Maybe T) (View E) → Type 0
Left list caller before after =
    (after ≡ (record before.0 { stage = Away; seen = held_list list before.1; mine = held_list list before.1 }, []))
    × AreSilent caller before.0.met (held_list list before.1)

-- the value is back in its place, and the turn is still taken
abbrev pub Readied : {T E : Type 0} → (T → List E) → Me (Maybe T) (View E) → Me (Maybe T) (View E) → Type 0
Readied list before after =
    after ≡ (record before.0 { stage = Ready; seen = held_list list before.1; mine = held_list list before.1 }, [])

-- all known numbers are below the count that was found
abbrev pub Counted : {T E : Type 0} → Me (Maybe T) (View E) → ℕ → Me (Maybe T) (View E) → Type 0
Counted before found after =
    (after ≡ (record before.0 { count = found }, before.1)) × (before.0.count ≤ found) × (found ≤ before.0.most)
    × (before.0.number < found) × IfSome before.0.given (λ number. number < found)
    × (before.0.drawing ≡ Alone → found ≡ before.0.count)

-- with the expected count found, the count goes up by one. The number that is drawn is the count that was found, and no
-- entry that was added since the opening has it
abbrev pub Drew : {T E : Type 0} → (E → ℕ) → ℕ → ℕ → Me (Maybe T) (View E) → ℕ → Me (Maybe T) (View E) → Type 0
Drew caller expected next before found after =
    (found ≡ expected → (next ≡ expected + 1)
    × (after
    ≡ (record before.0 { numbered = true; number = expected; mine = before.0.seen; count = next }, before.1))
    × NoneOf caller expected (drop (length before.0.start) before.0.seen))
    × (found ≢ expected → after ≡ before)

-- Of the last join: what was seen begins with both lists, and behind the own one it has no entry of the own number. Of
-- a pass that was taken in it has no entry behind that one's list.
abbrev pub Settled : {T E : Type 0} → (E → ℕ) → Me (Maybe T) (View E) → Me (Maybe T) (View E) → Type 0
Settled caller before after =
    (after ≡ before) × StartsWith before.0.seen before.0.heard
    × NoneOf caller before.0.number (drop (length before.0.mine) before.0.seen)
    × AreSilent caller before.0.met before.0.seen

-- the same, but numbers are drawn with others
abbrev pub Redrawn : {E : Type 0} → View E → View E → Type 0
Redrawn v w = w ≡ record v { drawing = Shared }

-- the same but for the count, and for the number that was given last
abbrev pub Recounted : {E : Type 0} → View E → View E → Type 0
Recounted v w = w ≡ record v { count = w.count; given = w.given }
