-- What contracts say of a pass, of a turn and of a lock.
use Rattle.std.specs.Prelude.{◌≡◌, ℕ, ◌+◌, ◌<◌, ◌≤◌, true, List, [], ◌∷◌, drop, length, Option as Maybe, None, IfSome}
use Rattle.atomic_table.specs.declared.shared.Seat.{Seat}
use Rattle.history_lock.specs.declared.view.View.{View}
use Rattle.history_lock.specs.declared.view.Stage.TheVariants.{Away, Holds}
use Rattle.history_lock.specs.declared.view.Drawing.{Drawing}
use Rattle.history_lock.specs.declared.view.Drawing.TheVariants.{Alone, Never}
use Rattle.history_lock.specs.declared.pass.Pass.{Pass}
use Rattle.history_lock.specs.declared.pass.Turn.{Turn}
use Rattle.history_lock.specs.declared.lock.Lock.{Lock}
use Rattle.history_lock.specs.History.{StartsWith, NoneOf, AreSilent}
use Rattle.history_lock.specs.Steps.{the_view}

abbrev pub view_of : {E : Type 0} → Pass E → View E
view_of pass = the_view pass.badge.views

-- the list that the pass has seen
abbrev pub seen_by : {E : Type 0} → Pass E → List E
seen_by pass = (view_of pass).seen

-- its number
abbrev pub number_of : {E : Type 0} → Pass E → ℕ
number_of pass = pass.number

-- the greatest number that a split of it gave, if there was one
abbrev pub given_by : {E : Type 0} → Pass E → Maybe ℕ
given_by pass = (view_of pass).given

-- the count of drawn numbers that it has read last
abbrev pub count_of : {E : Type 0} → Pass E → ℕ
count_of pass = (view_of pass).count

-- whether it draws numbers: it alone, with others, or never
abbrev pub drawing_of : {E : Type 0} → Pass E → Drawing
drawing_of pass = (view_of pass).drawing

-- the numbers of the passes that it took in, each with the length of the list that that one had seen
abbrev pub met_by : {E : Type 0} → Pass E → List (ℕ × ℕ)
met_by pass = (view_of pass).met

-- the list of the value that was taken with the turn, and what its pass knew
abbrev pub taken_by : {T E : Type 0} → Turn T E → List E
taken_by turn = turn.seat.me.0.seen

abbrev pub turn_number_of : {T E : Type 0} → Turn T E → ℕ
turn_number_of turn = turn.number

abbrev pub turn_given_by : {T E : Type 0} → Turn T E → Maybe ℕ
turn_given_by turn = turn.seat.me.0.given

abbrev pub turn_count_of : {T E : Type 0} → Turn T E → ℕ
turn_count_of turn = turn.seat.me.0.count

abbrev pub turn_drawing_of : {T E : Type 0} → Turn T E → Drawing
turn_drawing_of turn = turn.seat.me.0.drawing

abbrev pub turn_met_by : {T E : Type 0} → Turn T E → List (ℕ × ℕ)
turn_met_by turn = turn.seat.me.0.met

-- the value with which the lock was opened
abbrev pub opened_with : {T A E : Type 0} → Lock T A E → T
opened_with lock = lock.table.shared.key.0.value

-- how many numbers there are
abbrev pub callers_of : {T A E : Type 0} → Lock T A E → ℕ
callers_of lock = lock.callers

-- the view knows this lock: the list and the pair of the value at the opening, and the number of callers
pub record IsViewOf {T A E : Type 0} (list : T → List E) (pair : T → ℕ × ℕ) (lock : Lock T A E)
    (v : View E) : Type 0 where
  pub start_is : v.start ≡ list (opened_with lock)
  pub pair_is : v.pair ≡ pair (opened_with lock)
  pub most_is : v.most ≡ callers_of lock

-- The pass is of this lock, and what it has seen begins with the list at the opening. It has no entry of a pass that
-- this one took in behind what that one had seen.
pub record IsPassOf {T A E : Type 0} (list : T → List E) (pair : T → ℕ × ℕ) (caller : E → ℕ) (lock : Lock T A E)
    (pass : Pass E) : Type 0 where
  pub table_is : pass.badge.table_id ≡ lock.table.shared.table_id
  pub view_is : IsViewOf list pair lock (view_of pass)
  pub begins : StartsWith (seen_by pass) (list (opened_with lock))
  pub done : AreSilent caller (met_by pass) (seen_by pass)

-- the turn is of this lock, and what was taken begins with the list at the opening
pub record IsTurnOf {T A E : Type 0} (list : T → List E) (pair : T → ℕ × ℕ) (lock : Lock T A E)
    (turn : Turn T E) : Type 0 where
  pub table_is : turn.seat.table_id ≡ lock.table.shared.table_id
  pub view_is : IsViewOf list pair lock turn.seat.me.0
  pub begins : StartsWith (taken_by turn) (list (opened_with lock))
  pub stage_is : turn.seat.me.0.stage ≡ Holds
  pub numbered : turn.seat.me.0.numbered ≡ true
  pub number_is : turn.seat.me.0.number ≡ turn.number
  pub drawing_is : turn.seat.me.0.drawing ≡ turn.drawing
  pub slot_is : turn.seat.me.1 ≡ (0, None) ∷ []

-- the seat is new: it has this number, which is none of those that the view knows and that no entry since the opening
-- carries, and has seen what the view has; it draws no numbers
pub record IsDrawn {T A E : Type 0} (caller : E → ℕ) (lock : Lock T A E) (v : View E) (number : ℕ)
    (seat : Seat (Maybe T) (View E)) : Type 0 where
  pub table_is : seat.table_id ≡ lock.table.shared.table_id
  pub same : (seat.me.0.stage ≡ Away) × (seat.me.0.seen ≡ v.seen) × (seat.me.0.start ≡ v.start)
      × (seat.me.0.pair ≡ v.pair) × (seat.me.0.most ≡ v.most)
  pub numbered : (seat.me.0.numbered ≡ true) × (seat.me.0.number ≡ number)
  pub nothing_given : (seat.me.0.given ≡ None) × (seat.me.0.met ≡ []) × (seat.me.1 ≡ [])
  pub idle : seat.me.0.drawing ≡ Never
  pub fits : number < callers_of lock
  pub counted : seat.me.0.count ≡ number + 1
  pub next : v.count ≤ number
  pub exact : v.drawing ≡ Alone → number ≡ v.count
  pub above : v.number < number
  pub above_given : IfSome v.given (λ given. given < number)
  pub unseen : NoneOf caller number (drop (length v.start) v.seen)
