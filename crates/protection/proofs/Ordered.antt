-- A list of protections in order of id: places, and what stands before and behind them.
use Rattle.std.proofs.Common.{◌≡◌, ℕ, suc, ◌<◌, ◌≤◌, Bool, true, false, cond, Option, None, Some, IfSome, List, [], ◌∷◌, All, take, length, get_or, refl, sym, ap, subst, ⊎_elim, arith}
use Rattle.std.specs.List.{filter_map, cons_option}
use Rattle.std.specs.Option.{option_map}
use Rattle.std.specs.Prelude.{◌==◌}
use Rattle.std.proofs.lemmas.Bool.{cases_lt}
use Rattle.std.proofs.lemmas.List.{get_or-take, get_or_read, length-take-le}
use Rattle.std.proofs.lemmas.List.Elements.{All-nil, All-cons, All-head, All-tail}
use Rattle.std.proofs.lemmas.List.Kept.{AllPairs-cons}
use Rattle.grid_range.specs.declared.area.Area.{Area}
use Rattle.protection.specs.declared.range.Protection.{Protection}
use Rattle.protection.specs.Denial.{IsFirst}
use Rattle.protection.specs.Listed.{IsInOrder}
use Rattle.grid_range.specs.declared.axis.Axis.{Axis}
use Rattle.grid_range.specs.declared.change.Change.{Change}
use Rattle.grid_range.specs.Tracking.{area_followed}
use Rattle.protection.specs.Following.{protection_followed, protection_without_sheet}

-- those of lesser ids stand before a place
pub is_before : (list : List Protection) (i k : ℕ) (one d : Protection) → IsInOrder list
    → i < length list → k < length list → one ≡ get_or list i one
    → (get_or list k d).id < one.id → k < i
is_before list i k one d ordered here there read less = ⊎_elim
    (λ (before : k < i). before)
    (λ (behind : i ≤ k). absurd (⊎_elim
    (λ (past : i < k). let more : (get_or list i d).id < (get_or list k d).id = ordered i k d past there in
    let same : one.id ≡ (get_or list i d).id = ap (λ (p : Protection). p.id) (get_or_read list i one here read d) in
    omega arith)
    (λ (at : k ≤ i). let place : k ≡ i = omega arith in
    let same : one.id ≡ (get_or list i d).id = ap (λ (p : Protection). p.id) (get_or_read list i one here read d) in
    let one_is : one.id ≡ (get_or list k d).id = rw place same in
    omega arith)
    (cases_lt i k)))
    (cases_lt k i)

-- where those before it deny nothing, one that does is the first
pub IsFirst-at : (IsDenying : Protection → Type 0) (list : List Protection) (i : ℕ) (one : Protection)
    → IsInOrder list → i < length list → one ≡ get_or list i one
    → All (λ other. ¬ (IsDenying other)) (take i list) → IsDenying one → IsFirst IsDenying list one.id
IsFirst-at IsDenying list i one ordered here read passed denies = record {
  protection = one;
  listed = (i, here, sym read);
  has_id = refl;
  denies = denies;
  least = λ k d there less some.
      let before : k < i = is_before list i k one d ordered here there read less in
      passed k d (let n = length-take-le i list (omega arith) in omega arith)
      (subst (λ (other : Protection). IsDenying other)
      (sym (get_or-take i list k d before)) some);
}

-- what becomes of a protection has its id
abbrev pub KeepsId : (Protection → Option Protection) → Type 0
KeepsId becomes = (one other : Protection) → becomes one ≡ Some other → other.id ≡ one.id

pub ordered_head : (first : Protection) (rest : List Protection) → IsInOrder (first ∷ rest)
    → All (λ other. first.id < other.id) rest
ordered_head first rest ordered = λ k d there. ordered 0 (suc k) d (omega arith) (omega arith)

pub ordered_tail : (first : Protection) (rest : List Protection) → IsInOrder (first ∷ rest) → IsInOrder rest
ordered_tail first rest ordered = λ i j d less there. ordered (suc i) (suc j) d (omega arith) (omega arith)

above_cons : (n : ℕ) (first : Option Protection) (rest : List Protection)
    → IfSome first (λ one. n < one.id) → All (λ one. n < one.id) rest
    → All (λ one. n < one.id) (cons_option first rest)
above_cons n None rest above all = all
above_cons n (Some first) rest above all = All-cons (λ one. n < one.id) first rest above all

above_kept : (n : ℕ) (becomes : Protection → Option Protection) (one : Protection) (after : Option Protection)
    → becomes one ≡ after → KeepsId becomes → n < one.id → IfSome after (λ other. n < other.id)
above_kept n becomes one None is keeps less = tt
above_kept n becomes one (Some after) is keeps less = let same = keeps one after is in omega arith

above_filter_map : (n : ℕ) (becomes : Protection → Option Protection) (list : List Protection)
    → KeepsId becomes → All (λ one. n < one.id) list → All (λ one. n < one.id) (filter_map becomes list)
above_filter_map n becomes [] keeps all = All-nil (λ one. n < one.id)
above_filter_map n becomes (first ∷ rest) keeps all =
    above_cons n (becomes first) (filter_map becomes rest)
    (above_kept n becomes first (becomes first) refl keeps (All-head (λ one. n < one.id) first rest all))
    (above_filter_map n becomes rest keeps (All-tail (λ one. n < one.id) first rest all))

ordered_cons : (becomes : Protection → Option Protection) (one : Protection) (first : Option Protection)
    (rest : List Protection) → becomes one ≡ first → KeepsId becomes
    → All (λ other. one.id < other.id) rest → IsInOrder rest → IsInOrder (cons_option first rest)
ordered_cons becomes one None rest is keeps above ordered = ordered
ordered_cons becomes one (Some first) rest is keeps above ordered =
    AllPairs-cons (λ one other. one.id < other.id) first rest
    (subst (λ (n : ℕ). All (λ other. n < other.id) rest) (sym (keeps one first is)) above) ordered

pub IsInOrder-filter_map : (becomes : Protection → Option Protection) (list : List Protection)
    → KeepsId becomes → IsInOrder list → IsInOrder (filter_map becomes list)
IsInOrder-filter_map becomes [] keeps ordered = ordered
IsInOrder-filter_map becomes (first ∷ rest) keeps ordered =
    ordered_cons becomes first (becomes first) (filter_map becomes rest) refl keeps
    (above_filter_map first.id becomes rest keeps (ordered_head first rest ordered))
    (IsInOrder-filter_map becomes rest keeps (ordered_tail first rest ordered))

followed_id : (one other : Protection) (ranges : List Area) (area : Option Area)
    → option_map (λ area. record one { area = area; unprotected = ranges }) area ≡ Some other
    → other.id ≡ one.id
followed_id one other ranges None is = cc
followed_id one other ranges (Some area) is = cc

pub KeepsId-followed : (sheet : ℕ) (axis : Axis) (count : ℕ) (change : Change)
    → KeepsId (protection_followed sheet axis count change)
KeepsId-followed sheet axis count change one other is =
    followed_id one other _ (area_followed sheet axis count change one.area) is

without_id_kept : (one other : Protection) (ranges : List Area) (on : Bool)
    → cond on None (Some (record one { unprotected = ranges })) ≡ Some other → other.id ≡ one.id
without_id_kept one other ranges true is = cc
without_id_kept one other ranges false is = cc

pub KeepsId-without_sheet : (sheet : ℕ) → KeepsId (protection_without_sheet sheet)
KeepsId-without_sheet sheet one other is = without_id_kept one other _ (one.area.sheet == sheet) is
