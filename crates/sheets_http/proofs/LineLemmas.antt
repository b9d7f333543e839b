-- What bytes that are no line feed leave of a scan: a head goes on with them.
use Rattle.std.proofs.Common.{◌≡◌, ◌≢◌, ℕ, zero, suc, ◌+◌, ◌-◌, ◌<◌, ◌≤◌, inl, inr, Bool, true, false, ◌||◌, List, [], ◌∷◌, ◌++◌, length, get_or, take, drop, refl, sym, ap, ◌∙◌, subst, arith, eqb, leb, append_assoc}
use Rattle.std.specs.Prelude.{nat_eq}
use Rattle.std.specs.List.{ends_with}
use Rattle.std.proofs.lemmas.Bool.{cases_Bool, eqb-true, lt-leb}
use Rattle.std.proofs.lemmas.Bool.Decides.{Decides-eqb}
use Rattle.std.proofs.lemmas.List.{length-append, length-take, length-take-le, take_more, drop-append-le, get_or-take, get_or-drop}
use Rattle.std.proofs.lemmas.Slice.Eq.{ends_is}
use Rattle.sheets_http.specs.declared.scan.HeadState.TheVariants.{Growing}
use Rattle.sheets_http.specs.declared.scan.HeadScan.{HeadScan}
use Rattle.sheets_http.specs.Heads.{ends_with_empty_line, line_feeds, line_limit, head_limit, skip_breaks, head_state, is_too_long}
use Rattle.sheets_http.specs.Scanning.{IsScan, scan_after}
use Rattle.sheets_http.specs.Buffering.{IsReady}
use Rattle.sheets_http.proofs.HeadLemmas.{scan_after_is, text_is_cut, looked_growing, growing_has_few_lines, growing_has_few_bytes}

-- two lists that are one have one last item
last_is : (s t : List ℕ) (b c : ℕ) → s ++ b ∷ [] ≡ t ++ c ∷ [] → b ≡ c
last_is [] [] b c e = cc
last_is [] (x ∷ t) b c e =
    let short : length ([] ++ b ∷ []) ≡ length ((x ∷ t) ++ c ∷ []) = ap length e in
    absurd (omega (arith, short, length-append t (c ∷ [])))
last_is (x ∷ s) [] b c e =
    let short : length ((x ∷ s) ++ b ∷ []) ≡ length ([] ++ c ∷ []) = ap length e in
    absurd (omega (arith, short, length-append s (b ∷ [])))
last_is (x ∷ s) (y ∷ t) b c e = last_is s t b c (let w : x ∷ (s ++ b ∷ []) ≡ y ∷ (t ++ c ∷ []) = e in cc)

-- ---- no empty line

ends_otherwise : (s line : List ℕ) (b : ℕ) → b ≢ 10 → ends_with nat_eq (s ++ b ∷ []) (line ++ 10 ∷ []) ≡ false
ends_otherwise s line b other =
    elim (cases_Bool (ends_with nat_eq (s ++ b ∷ []) (line ++ 10 ∷ []))) [
      | inl ends ↦
          let text : List ℕ = s ++ b ∷ [] in
          let front : List ℕ = take (length text - length (line ++ 10 ∷ [])) text in
          let cut : text ≡ front ++ (line ++ 10 ∷ []) =
          (ends_is Decides-eqb text (line ++ 10 ∷ []) true (sym ends)).0 refl in
          absurd (other (last_is s (front ++ line) b 10 (cut ∙ sym (append_assoc front line (10 ∷ [])))))
      | inr none ↦ none
    ]

neither : (x y : Bool) → x ≡ false → y ≡ false → (x || y) ≡ false
neither true y e f = e
neither false y e f = f

-- a text whose last byte is no line feed doesn't end with an empty line
no_empty_line : (s : List ℕ) (b : ℕ) → b ≢ 10 → ends_with_empty_line (s ++ b ∷ []) ≡ false
no_empty_line s b other =
    neither (ends_with nat_eq (s ++ b ∷ []) (10 ∷ 10 ∷ [])) (ends_with nat_eq (s ++ b ∷ []) (10 ∷ 13 ∷ 10 ∷ []))
    (ends_otherwise s (10 ∷ []) b other) (ends_otherwise s (10 ∷ 13 ∷ []) b other)

-- ---- a line that goes on

pub unequal : (a b : ℕ) → a ≢ b → eqb a b ≡ false
unequal a b apart =
    elim (cases_Bool (eqb a b)) [
      | inl same ↦ absurd (apart (eqb-true a b same))
      | inr other ↦ other
    ]

few_of_both : (read feeds : ℕ) → read < head_limit → feeds < line_limit → is_too_long read feeds ≡ false
unfolding is_too_long
few_of_both read feeds short few =
    neither (leb head_limit read) (leb line_limit feeds) (lt-leb head_limit read short) (lt-leb line_limit feeds few)

-- one byte of a head that is no line feed is passed over
byte_passed : (scan : HeadScan) (bytes : List ℕ) → IsReady scan bytes → scan.skipped < scan.seen
    → scan.seen + 1 < head_limit → scan.seen < length bytes → get_or bytes scan.seen 0 ≢ 10
    → IsReady (record { seen = scan.seen + 1; skipped = scan.skipped; feeds = scan.feeds }) bytes
byte_passed scan bytes ready begun short more other =
    record { scan_is = scan_is; growing = sym growing }
  where
    b : ℕ
    b = get_or bytes scan.seen 0

    s : List ℕ
    s = take scan.seen bytes

    on : HeadScan
    on = record { seen = scan.seen + 1; skipped = scan.skipped; feeds = scan.feeds }

    none : scan.feeds + 0 ≡ scan.feeds
    none = omega arith

    after_is : scan_after scan b ≡ on
    after_is =
        rw (unequal scan.skipped scan.seen (λ same. absurd (omega arith)), unequal b 10 other)
        (ap (λ n. record { seen = scan.seen + 1; skipped = scan.skipped; feeds = n }) none)

    scan_is : IsScan on bytes
    scan_is =
        subst (λ (after : HeadScan). IsScan after bytes) after_is
        (scan_after_is scan bytes ready.scan_is ready.growing more)

    text : skip_breaks (take (scan.seen + 1) bytes) ≡ drop scan.skipped s ++ b ∷ []
    text =
        scan_is.text ∙ ap (λ (t : List ℕ). drop scan.skipped t) (take_more bytes scan.seen 0 more)
        ∙ drop-append-le scan.skipped s (b ∷ [])
        (omega (arith, begun, length-take-le scan.seen bytes ready.scan_is.within))

    growing : Growing ≡ head_state (take (scan.seen + 1) bytes)
    growing =
        let cut = text_is_cut bytes scan.skipped (scan.seen + 1) scan_is.ordered scan_is.text in
        looked_growing on bytes scan_is false false
        (sym (ap ends_with_empty_line (sym cut ∙ text) ∙ no_empty_line (drop scan.skipped s) b other)) refl
        (sym (few_of_both (scan.seen + 1) scan.feeds short few)) refl
      where
        few : scan.feeds < line_limit
        few =
            rw (ready.scan_is.feeds ∙ ap line_feeds (sym ready.scan_is.text))
            (growing_has_few_lines (skip_breaks s) (length s) ready.growing)

-- so are several
pub line_passed : (scan : HeadScan) (bytes : List ℕ) (count : ℕ) → IsReady scan bytes → scan.skipped < scan.seen
    → scan.seen + count < head_limit → scan.seen + count ≤ length bytes
    → ((k : ℕ) → k < count → get_or bytes (scan.seen + k) 0 ≢ 10)
    → IsReady (record { seen = scan.seen + count; skipped = scan.skipped; feeds = scan.feeds }) bytes
line_passed scan bytes zero ready begun short within others =
    let same : scan.seen ≡ scan.seen + 0 = omega arith in
    subst (λ m. IsReady (record { seen = m; skipped = scan.skipped; feeds = scan.feeds }) bytes) same ready
line_passed scan bytes (suc n) ready begun short within others =
    let before = line_passed scan bytes n ready begun (omega arith) (omega arith)
    (λ k below. others k (omega (arith, below))) in
    let next : scan.seen + n + 1 ≡ scan.seen + suc n = omega arith in
    subst (λ m. IsReady (record { seen = m; skipped = scan.skipped; feeds = scan.feeds }) bytes) next
    (byte_passed (record { seen = scan.seen + n; skipped = scan.skipped; feeds = scan.feeds }) bytes before
    (omega arith) (omega arith) (omega arith) (others n (omega arith)))

-- where a head may go on, it isn't at the limit
pub ready_is_short : (scan : HeadScan) (bytes : List ℕ) → IsReady scan bytes → scan.seen < head_limit
ready_is_short scan bytes ready =
    rw (length-take-le scan.seen bytes ready.scan_is.within)
    at (growing_has_few_bytes (skip_breaks (take scan.seen bytes)) (length (take scan.seen bytes)) ready.growing)

-- the bytes before the next line feed, as the code cuts them out
pub line_cut : (scan : HeadScan) (bytes : List ℕ) (last count : ℕ) → IsReady scan bytes → scan.skipped < scan.seen
    → scan.seen ≤ last → last < head_limit → last ≤ length bytes
    → count ≤ length (take (last - scan.seen) (drop scan.seen bytes))
    → ((k : ℕ) → k < count → get_or (take (last - scan.seen) (drop scan.seen bytes)) k 0 ≢ 10)
    → IsReady (record { seen = scan.seen + count; skipped = scan.skipped; feeds = scan.feeds }) bytes
line_cut scan bytes last count ready begun below short within size others =
    let most : count ≤ last - scan.seen =
    omega (arith, size, length-take (last - scan.seen) (drop scan.seen bytes)) in
    line_passed scan bytes count ready begun (omega (arith, most)) (omega (arith, most))
    (λ k before here. others k before
    (get_or-take (last - scan.seen) (drop scan.seen bytes) k 0 (omega (arith, before, most))
    ∙ get_or-drop scan.seen bytes k 0 ∙ here))
