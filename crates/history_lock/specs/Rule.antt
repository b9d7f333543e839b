-- What holds of the words, the slot and all views between any two steps. In it `list`, `caller` and `pair` are what a
-- value tells, `start` is the value at the opening, `most` the number of callers, and `all` the history: the list of
-- the value at home, or what the holder of the turn has seen.
use Rattle.std.specs.Prelude.{◌≡◌, ◌≢◌, ℕ, ◌<◌, ◌≤◌, true, false, List, [], ◌∷◌, ◌++◌, All, drop, length, map, ◌⊎◌}
use Rattle.std.specs.Prelude.{Option as Maybe, Some, None, IfSome, if◌then◌else◌}
use Rattle.std.specs.List.{Contains}
use mathlib.Core.Option.{Option, some, none}
use lib.ListN.{get_elem?}
use Rattle.atomic_table.specs.Table.{State, opening}
use Rattle.history_lock.specs.declared.view.View.{View}
use Rattle.history_lock.specs.declared.view.Stage.{Stage}
use Rattle.history_lock.specs.declared.view.Stage.TheVariants.{Away, Opening, Holds, Ready, Gone}
use Rattle.history_lock.specs.declared.view.Drawing.TheVariants.{Alone, Never}
use Rattle.history_lock.specs.History.{StartsWith, NoneOf, AreSilent}

-- the view stands at this place among the views
abbrev pub StandsAt : {E : Type 0} → List (View E) → ℕ → View E → Type 0
StandsAt views id v = get_elem? views id ≡ some v

-- the view's own number, if it has one
abbrev pub own_number : {E : Type 0} → View E → List ℕ
own_number v = if v.numbered then v.number ∷ [] else []

-- its own number, and those of the passes that it took in
abbrev pub numbers_of : {E : Type 0} → View E → List ℕ
numbers_of v = own_number v ++ map (λ m. m.0) v.met

-- some view has this number
abbrev pub IsDrawnBy : {E : Type 0} → List (View E) → ℕ → Type 0
IsDrawnBy {E} views number = (id : ℕ) × (v : View E) × StandsAt views id v × Contains (numbers_of v) number

-- without the turn
abbrev pub IsFree : Stage → Type 0
IsFree Away = Unit {0}
IsFree Gone = Unit {0}
IsFree Opening = ⊥
IsFree Holds = ⊥
IsFree Ready = ⊥

-- the first pass, of number 0, which alone draws numbers, and has the turn until the value is put in
abbrev pub opening_view : {E : Type 0} → List E → ℕ × ℕ → ℕ → View E
opening_view start pair most = record {
  stage = Opening;
  numbered = true;
  number = 0;
  met = [];
  seen = start;
  mine = start;
  heard = [];
  drawing = Alone;
  count = 1;
  given = None;
  start = start;
  pair = pair;
  most = most;
}

-- the slot while a view at this stage has the turn: empty at the opening, then out with the holder, and full for the
-- close
abbrev pub SlotAt : {T E : Type 0} → (T → List E) → (T → ℕ × ℕ) → List (Option (Maybe T)) → View E → Stage → Type 0
SlotAt list pair homes v Opening = homes ≡ some None ∷ []
SlotAt list pair homes v Holds = homes ≡ none ∷ []
SlotAt {T} list pair homes v Ready =
    (value : T) × (homes ≡ some (Some value) ∷ []) × (list value ≡ v.seen) × (pair value ≡ v.pair)
SlotAt list pair homes v Away = ⊥
SlotAt list pair homes v Gone = ⊥

-- nobody has the turn: the value is at home
pub record AtHome {T E : Type 0} (list : T → List E) (pair : T → ℕ × ℕ) (start : T) (turn : ℕ)
    (homes : List (Option (Maybe T))) (views : List (View E)) (all : List E) : Type 0 where
  pub word : turn ≡ 0
  pub value : T
  pub home : homes ≡ some (Some value) ∷ []
  pub list_is : list value ≡ all
  pub pair_is : pair value ≡ pair start
  pub free : (id : ℕ) (v : View E) → StandsAt views id v → IsFree v.stage

-- this view has the turn, and no other
pub record HeldBy {T E : Type 0} (list : T → List E) (pair : T → ℕ × ℕ) (turn : ℕ) (homes : List (Option (Maybe T)))
    (views : List (View E)) (all : List E) (holder : ℕ) (view : View E) : Type 0 where
  pub word : turn ≡ 1
  pub there : StandsAt views holder view
  pub slot : SlotAt list pair homes view view.stage
  pub seen : view.seen ≡ all
  pub others : (id : ℕ) (v : View E) → id ≢ holder → StandsAt views id v → IsFree v.stage

-- nobody has the turn, or one view has it
abbrev pub IsInTurn : {T E : Type 0} → (T → List E) → (T → ℕ × ℕ) → T → ℕ → List (Option (Maybe T)) → List (View E)
    → List E → Type 0
IsInTurn {T} {E} list pair start turn homes views all =
    AtHome list pair start turn homes views all
    ⊎ ((holder : ℕ) × (view : View E) × HeldBy list pair turn homes views all holder view)

-- What a view knows where this many numbers were drawn. It has seen a beginning of the history, which begins with the
-- list at the opening. It knows the list and the pair at the opening and the number of callers. Its count is at most
-- that of the drawn numbers, and is that where it alone draws them; it is above its number and each that it gave. If it
-- has a number of its own, it has seen
-- each entry that carries it, and had seen it before the last join. Of a pass that it took in, it has seen each entry,
-- and so had that one.
pub record Known {T E : Type 0} (list : T → List E) (pair : T → ℕ × ℕ) (caller : E → ℕ) (start : T) (most : ℕ)
    (drawn : ℕ) (all : List E) (v : View E) : Type 0 where
  pub seen : StartsWith all v.seen
  pub heard : StartsWith v.seen v.heard
  pub begun : StartsWith v.seen v.start
  pub start_is : v.start ≡ list start
  pub pair_is : v.pair ≡ pair start
  pub most_is : v.most ≡ most
  pub counted : v.count ≤ drawn
  pub exact : v.drawing ≡ Alone → v.count ≡ drawn
  pub below : v.number < v.count
  pub given : IfSome v.given (λ number. number < v.count)
  pub own : v.numbered ≡ true → NoneOf caller v.number (drop (length v.seen) all)
  pub others : v.numbered ≡ true → NoneOf caller v.number (drop (length v.mine) v.seen)
  pub done : AreSilent caller v.met all

-- the numbers of two views differ
abbrev pub Apart : {E : Type 0} → List (View E) → Type 0
Apart {E} views = (i j : ℕ) (v w : View E) → StandsAt views i v → StandsAt views j w → v.numbered ≡ true
    → w.numbered ≡ true → v.number ≡ w.number → i ≡ j

-- where a view draws numbers alone, no other does
abbrev pub OneDraws : {E : Type 0} → List (View E) → Type 0
OneDraws {E} views = (i j : ℕ) (v w : View E) → StandsAt views i v → StandsAt views j w → v.drawing ≡ Alone
    → w.drawing ≢ Never → i ≡ j

-- the number of a pass that was taken in was drawn, and is no view's own
pub record AreRetired {E : Type 0} (drawn : ℕ) (views : List (View E)) : Type 0 where
  pub below : (id : ℕ) (v : View E) → StandsAt views id v → All (λ m. m.0 < drawn) v.met
  pub nobodys : (i j : ℕ) (v w : View E) → StandsAt views i v → StandsAt views j w → v.numbered ≡ true
      → All (λ m. m.0 ≢ v.number) w.met

-- The turn is taken once at most. Numbers are below the count of those that were drawn, also those of the entries since
-- the opening; each number below the count is some view's, and two views have two numbers. Of a view that another took
-- in, this alone is said: it has no number.
pub record KeptAt {T E : Type 0} (list : T → List E) (pair : T → ℕ × ℕ) (caller : E → ℕ) (start : T) (most : ℕ)
    (turn drawn : ℕ) (homes : List (Option (Maybe T))) (views : List (View E)) (all : List E) : Type 0 where
  pub turns : IsInTurn list pair start turn homes views all
  pub bound : drawn ≤ most
  pub entries : All (λ entry. caller entry < drawn) (drop (length (list start)) all)
  pub known : (id : ℕ) (v : View E) → StandsAt views id v → v.stage ≢ Gone
      → Known list pair caller start most drawn all v
  pub gone : (id : ℕ) (v : View E) → StandsAt views id v → v.stage ≡ Gone → v.numbered ≡ false
  pub apart : Apart views
  pub drawn_by : (number : ℕ) → number < drawn → IsDrawnBy views number

-- word 0 is the turn, word 1 how many numbers were drawn, and word 2 how many threads may sleep, of which nothing is
-- said
pub record Kept {T E : Type 0} (list : T → List E) (pair : T → ℕ × ℕ) (caller : E → ℕ) (start : T) (most : ℕ)
    (s : State (Maybe T) (View E)) : Type 0 where
  pub turn : ℕ
  pub drawn : ℕ
  pub sleepers : ℕ
  pub all : List E
  pub words : s.words ≡ turn ∷ drawn ∷ sleepers ∷ []
  pub kept : KeptAt list pair caller start most turn drawn s.homes s.views all
  pub retired : AreRetired drawn s.views
  pub one_draws : OneDraws s.views

-- where these are the words of a lock that is just made, one number was drawn: that of the first pass
abbrev pub OneNumberDrawn : {T E : Type 0} → (T → List E) → (T → ℕ × ℕ) → (E → ℕ) → T → ℕ → Type 0
OneNumberDrawn list pair caller start most =
    (turn drawn sleepers : ℕ)
    → Kept list pair caller start most
    (opening (turn ∷ drawn ∷ sleepers ∷ []) (None ∷ []) (opening_view (list start) (pair start) most)) → drawn ≡ 1
