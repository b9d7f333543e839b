-- What following promises, in the words of a user of a sheet. Where no change is named, `order` is
-- the order after one, and `changed` are the lines that it inserted or moved.
use Rattle.std.specs.Prelude.{◌≡◌, ◌≢◌, ◌↔◌, ℕ, zero, suc, ◌+◌, ◌≤◌, List, [], ◌++◌, length, drop, slice_range, Option, None, Some}
use Rattle.std.specs.List.{Contains}
use Rattle.std.specs.Option.{option_and_then}
use Rattle.grid_range.specs.Order.{IsOrder, StandTogether, EndTheOrder, IsFirstPlace, IsLastPlace, first_to_last, first_to_end}
use Rattle.grid_range.specs.NameBand.{NameBand, IsBandOf}
use Rattle.grid_range.specs.NameBand.NameBand.{Whole, Closed, Open}
use Rattle.grid_range.specs.Following.{survivors, settled, follow}
use Rattle.grid_range.specs.OrderChange.{OrderChange, CanBeMade, order_after, changed_names}
use Rattle.grid_range.specs.OrderChange.OrderChange.{Inserting, Deleting, Moving}

-- all lines are all lines for good
abbrev pub WholeStays : Type 0
WholeStays = (order changed : List ℕ) → follow order changed Whole ≡ Some Whole

-- an order stays one
abbrev pub OrdersStay : Type 0
OrdersStay = (order : List ℕ) (change : OrderChange)
    → IsOrder order → CanBeMade change order → IsOrder (order_after change order)

-- a move keeps the lines that there are
abbrev pub MoveKeepsLines : Type 0
MoveKeepsLines = (order : List ℕ) (start end to name : ℕ)
    → IsOrder order → CanBeMade (Moving start end to) order
    → Contains order name ↔ Contains (order_after (Moving start end to) order) name

-- a band becomes a band of the new order
abbrev pub GivesBands : Type 0
GivesBands = (order changed : List ℕ) (band found : NameBand)
    → follow order changed band ≡ Some found → IsBandOf order found

-- where the lines that are left of a closed band still stand together, it has just these
abbrev pub ClosedKeepsLines : Type 0
ClosedKeepsLines = (order changed names : List ℕ)
    → survivors order names ≢ [] → StandTogether order (survivors order names)
    → follow order changed (Closed names) ≡ Some (Closed (survivors order names))

-- where those that are left of an open band also end the order, it has just these
abbrev pub OpenKeepsLines : Type 0
OpenKeepsLines = (order changed names : List ℕ)
    → survivors order names ≢ [] → EndTheOrder order (survivors order names)
    → follow order changed (Open names) ≡ Some (Open (survivors order names))

-- where they don't stand together, it is the range of those that didn't change
abbrev pub TornClosedIsRange : Type 0
TornClosedIsRange = (order changed names : List ℕ)
    → survivors order names ≢ [] → ¬ (StandTogether order (survivors order names))
    → follow order changed (Closed names)
    ≡ Some (Closed (first_to_last order (settled changed (survivors order names))))

abbrev pub TornOpenIsRange : Type 0
TornOpenIsRange = (order changed names : List ℕ)
    → survivors order names ≢ [] → ¬ (EndTheOrder order (survivors order names))
    → follow order changed (Open names)
    ≡ Some (Open (first_to_end order (settled changed (survivors order names))))

-- none of the band's lines is left
abbrev pub IsGone : List ℕ → NameBand → Type 0
IsGone order Whole = ⊥
IsGone order (Closed names) = (name : ℕ) → Contains names name → ¬ (Contains order name)
IsGone order (Open names) = (name : ℕ) → Contains names name → ¬ (Contains order name)

-- a band is lost exactly where none of its lines is left
abbrev pub LostWhereGone : Type 0
LostWhereGone = (order changed : List ℕ) (band : NameBand)
    → (follow order changed band ≡ None) ↔ IsGone order band

-- what is still a band of the order stays as it is, whatever lines were inserted or moved: so does
-- one beside which lines are inserted
abbrev pub BandsStay : Type 0
BandsStay = (order changed : List ℕ) (band : NameBand)
    → IsOrder order → IsBandOf order band → follow order changed band ≡ Some band

-- a move to a place from the stretch's start to its end changes no band
abbrev pub IdleMoveKeeps : Type 0
IdleMoveKeeps = (order : List ℕ) (band : NameBand) (start end to : ℕ)
    → IsOrder order → IsBandOf order band → start ≤ to → to ≤ end
    → follow (order_after (Moving start end to) order)
    (changed_names (Moving start end to) order) band
    ≡ Some band

-- lines that are inserted between two of a closed band belong to it
abbrev pub InsertLengthens : Type 0
InsertLengthens = (before front fresh back behind : List ℕ)
    → IsOrder (before ++ front ++ fresh ++ back ++ behind) → front ≢ [] → back ≢ []
    → follow (before ++ front ++ fresh ++ back ++ behind) fresh (Closed (front ++ back))
    ≡ Some (Closed (front ++ fresh ++ back))

-- lines that are inserted before its first line, or behind its last, don't
abbrev pub InsertBeside : Type 0
InsertBeside = (before fresh names more behind : List ℕ)
    → IsOrder (before ++ fresh ++ names ++ more ++ behind) → names ≢ []
    → follow (before ++ fresh ++ names ++ more ++ behind) (fresh ++ more) (Closed names)
    ≡ Some (Closed names)

-- deleting lines and inserting others there doesn't bring a band back that was lost
abbrev pub LostForGood : Type 0
LostForGood = (order fresh changed : List ℕ) (band : NameBand) (start end at : ℕ)
    → follow (order_after (Deleting start end) order) changed band ≡ None
    → IsGone fresh band
    → follow (order_after (Inserting at fresh) (order_after (Deleting start end) order)) fresh band
    ≡ None

-- a band after `count` lines from `start` on are deleted one by one, the last one first
abbrev pub deleted_in_turn : ℕ → ℕ → List ℕ → NameBand → Option NameBand
deleted_in_turn start zero order band = Some band
deleted_in_turn start (suc count) order band =
    let rest = order_after (Deleting (start + count) (start + count + 1)) order in
    option_and_then (deleted_in_turn start count rest) (follow rest [] band)

-- that is what deleting them at once gives
abbrev pub DeleteInTurn : Type 0
DeleteInTurn = (order : List ℕ) (band : NameBand) (start count : ℕ)
    → IsOrder order → IsBandOf order band → start + count ≤ length order
    → deleted_in_turn start count order band
    ≡ follow (order_after (Deleting start (start + count)) order) [] band

-- a line of the band that wasn't inserted or moved; where all lines that are left of it were, any
pub record IsSettled (order changed names : List ℕ) (name : ℕ) : Type 0 where
  pub listed : Contains names name
  pub settled : Contains changed name
      → (other : ℕ) → Contains order other → Contains names other → Contains changed other

-- the lines from the first of the settled ones to the last of them
pub record GoesFromFirstToLast (order changed names : List ℕ) (found : Option NameBand) : Type 0 where
  pub first : ℕ
  pub last : ℕ
  pub is_first : IsFirstPlace order (IsSettled order changed names) first
  pub is_last : IsLastPlace order (IsSettled order changed names) last
  pub is : found ≡ Some (Closed (slice_range order first (last + 1)))

-- the lines from the first of the settled ones to the end
pub record GoesFromFirstToEnd (order changed names : List ℕ) (found : Option NameBand) : Type 0 where
  pub first : ℕ
  pub is_first : IsFirstPlace order (IsSettled order changed names) first
  pub is : found ≡ Some (Open (drop first order))

-- where the lines that are left of a closed band don't stand together, it goes from the first of the
-- settled ones to the last
abbrev pub TornClosedByPlaces : Type 0
TornClosedByPlaces = (order changed names : List ℕ)
    → survivors order names ≢ [] → ¬ (StandTogether order (survivors order names))
    → GoesFromFirstToLast order changed names (follow order changed (Closed names))

-- where those that are left of an open band don't end the order, it goes from the first of the settled
-- ones to the end
abbrev pub TornOpenByPlaces : Type 0
TornOpenByPlaces = (order changed names : List ℕ)
    → survivors order names ≢ [] → ¬ (EndTheOrder order (survivors order names))
    → GoesFromFirstToEnd order changed names (follow order changed (Open names))
