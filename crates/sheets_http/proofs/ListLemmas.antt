-- Lists cut in two and put together again.
use Rattle.std.proofs.Common.{◌≡◌, ℕ, zero, suc, ◌+◌, ◌-◌, ◌≤◌, Bool, ◌||◌, List, [], ◌∷◌, ◌++◌, map, length, take, drop, refl, sym, ap, ◌∙◌, arith, append_assoc}
use Rattle.std.proofs.Math.Seq.{take-add}
use Rattle.std.proofs.lemmas.List.{take_at, take-take, drop-drop, take-append-drop, length-drop, length-take-le, take_rest}
use Rattle.std.proofs.lemmas.Slice.{between_is}
use Rattle.std.specs.Prelude.{slice_range}
use Rattle.std.specs.List.{list_any, copy_within}

-- some image passes where some element's image does
pub list_any-map : {X Y : Type 0} (p : Y → Bool) (f : X → Y) (xs : List X)
    → list_any p (map f xs) ≡ list_any (λ x. p (f x)) xs
list_any-map p f [] = refl
list_any-map p f (x ∷ xs) = ap (λ b. p (f x) || b) (list_any-map p f xs)

-- the first bytes of two lists one behind the other
pub take-append : (n : ℕ) (s t : List ℕ) → take n (s ++ t) ≡ take n s ++ take (n - length s) t
take-append zero s t = let none : 0 - length s ≡ 0 = omega arith in rw none
take-append (suc n) [] t = let all : suc n - 0 ≡ suc n = omega arith in rw all
take-append (suc n) (x ∷ s) t =
    let less : suc n - suc (length s) ≡ n - length s = omega arith in
    rw less (ap (λ (u : List ℕ). x ∷ u) (take-append n s t))

-- the rest of two lists one behind the other
pub drop-append : (n : ℕ) (s t : List ℕ) → drop n (s ++ t) ≡ drop n s ++ drop (n - length s) t
drop-append zero s t = let none : 0 - length s ≡ 0 = omega arith in rw none
drop-append (suc n) [] t = let all : suc n - 0 ≡ suc n = omega arith in rw all
drop-append (suc n) (x ∷ s) t =
    let less : suc n - suc (length s) ≡ n - length s = omega arith in
    rw less (drop-append n s t)

copied_front : (s buffer : List ℕ) (start count : ℕ) → count ≤ length (drop start s)
    → drop start s ≡ take count (take count (drop start s) ++ buffer) ++ drop (start + count) s
copied_front s buffer start count few =
    rw (
      take_at (take count (drop start s)) buffer count (length-take-le count (drop start s) few),
      ← drop-drop count start s,
    )
    (sym (take-append-drop count (drop start s)))

-- what was copied to the front of a buffer, and what stands behind it in the source, are the source
pub copied_then_rest : (s source copied buffer : List ℕ) (start count : ℕ) → source ≡ s
    → count ≤ length (take (length source - start) (drop start source))
    → copied ≡ take count (take (length source - start) (drop start source))
    → drop start s ≡ take count (copied ++ buffer) ++ drop (start + count) s
copied_then_rest s source copied buffer start count same few copy =
    let whole = take_rest s start in
    let few' : count ≤ length (drop start s) = rw (← whole, ← same) few in
    rw (copy, same, whole) (copied_front s buffer start count few')

-- a part of a list that was lent
pub lent_part : (lent bytes : List ℕ) (start end : ℕ) → lent ≡ bytes
    → take (end - start) (drop start lent) ≡ drop start (take end bytes)
lent_part lent bytes start end same =
    between_is lent start end ∙ ap (λ (t : List ℕ). drop start (take end t)) same

-- what stands in front stays where something is put behind it
pub front_stays : (held size : ℕ) (all behind more : List ℕ) → held ≤ length all → held ≤ size
    → take held (take size ((take held all ++ behind) ++ more)) ≡ take held all
front_stays held size all behind more within low =
    take-take held size ((take held all ++ behind) ++ more) low
    ∙ ap (take held) (append_assoc (take held all) behind more)
    ∙ take_at (take held all) (behind ++ more) held (length-take-le held all within)

-- and what was put there stands behind it
pub front_and_behind : (old now : List ℕ) (held count : ℕ) → take held now ≡ take held old
    → take (held + count) now ≡ take held old ++ slice_range now held (held + count)
front_and_behind old now held count front =
    let behind : count ≡ held + count - held = omega arith in
    take-add held count now
    ∙ ap (λ (t : List ℕ). t ++ take count (drop held now)) front
    ∙ ap (λ n. take held old ++ take n (drop held now)) behind

-- a part that was moved to the front of its list
pub moved_to_front : (bytes moved : List ℕ) (start end : ℕ) → end ≤ length bytes
    → moved ≡ copy_within bytes start end 0 → take (end - start) moved ≡ drop start (take end bytes)
moved_to_front bytes moved start end within is =
    let long : length (take (end - start) (drop start bytes)) ≡ end - start =
    length-take-le (end - start) (drop start bytes) (omega (arith, length-drop start bytes)) in
    ap (take (end - start)) is
    ∙ take_at (take (end - start) (drop start bytes)) (drop (0 + (end - start)) bytes) (end - start) long
    ∙ between_is bytes start end
