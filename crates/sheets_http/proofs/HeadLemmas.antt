-- Where a head ends: one more byte, and what follows.
use Rattle.std.proofs.Common.{◌≡◌, zero, suc, ℕ, ◌+◌, ◌-◌, ◌<◌, ◌≤◌, inl, inr, Bool, true, false, ◌&&◌, ◌||◌, List, [], ◌∷◌, ◌++◌, length, take, drop, get_or, refl, sym, ap, ◌∙◌, arith, leb, eqb}
use Rattle.std.specs.Prelude.{if◌then◌else◌, ◌==◌}
use Rattle.std.proofs.lemmas.Bool.{cases_Bool, leb-false, eqb-true, eqb-false}
use Rattle.std.proofs.lemmas.List.{drop_at, take_more, drop_all, length-take-le, length-drop, drop-append-le, drop-take}
use Rattle.std.proofs.lemmas.List.Sums.{sum_by-append, count_by-le-length}
use Rattle.sheets_http.specs.declared.scan.HeadState.{HeadState}
use Rattle.sheets_http.specs.declared.scan.HeadState.TheVariants.{Growing, Whole, TooLong}
use Rattle.sheets_http.specs.declared.scan.HeadScan.{HeadScan}
use Rattle.sheets_http.specs.Heads.{head_limit, line_limit, is_break, skip_breaks, ends_with_empty_line, line_feeds, is_too_long, head_state_of, head_state, SettledAt}
use Rattle.sheets_http.specs.Scanning.{IsScan, scan_after}

-- ---- how a head stands

whole_is : (text : List ℕ) (read : ℕ) → ends_with_empty_line text ≡ true → Whole ≡ head_state_of text read
whole_is text read e = rw e

too_long_is : (text : List ℕ) (read : ℕ) → ends_with_empty_line text ≡ false
    → is_too_long read (line_feeds text) ≡ true → TooLong ≡ head_state_of text read
too_long_is text read e l = rw (e, l)

growing_is : (text : List ℕ) (read : ℕ) → ends_with_empty_line text ≡ false
    → is_too_long read (line_feeds text) ≡ false → Growing ≡ head_state_of text read
growing_is text read e l = rw (e, l)

-- the text as the code cuts it out
pub text_is_cut : (bytes : List ℕ) (skipped seen : ℕ) → skipped ≤ seen
    → skip_breaks (take seen bytes) ≡ drop skipped (take seen bytes)
    → skip_breaks (take seen bytes) ≡ take (seen - skipped) (drop skipped bytes)
text_is_cut bytes skipped seen ordered e =
    let split : seen ≡ skipped + (seen - skipped) = omega arith in
    e ∙ ap (λ n. drop skipped (take n bytes)) split ∙ drop-take skipped (seen - skipped) bytes

-- the tests that the code makes are those of the definition
cut_test : (scan : HeadScan) (bytes : List ℕ) → IsScan scan bytes → (whole answer : Bool)
    → whole ≡ ends_with_empty_line (take (scan.seen - scan.skipped) (drop scan.skipped bytes)) → whole ≡ answer
    → ends_with_empty_line (skip_breaks (take scan.seen bytes)) ≡ answer
cut_test scan bytes l whole answer e w =
    ap ends_with_empty_line (text_is_cut bytes scan.skipped scan.seen l.ordered l.text) ∙ sym e ∙ w

long_test : (scan : HeadScan) (bytes : List ℕ) → IsScan scan bytes → (long answer : Bool)
    → long ≡ is_too_long scan.seen scan.feeds → long ≡ answer
    → is_too_long (length (take scan.seen bytes)) (line_feeds (skip_breaks (take scan.seen bytes))) ≡ answer
long_test scan bytes l long answer e w =
    rw (length-take-le scan.seen bytes l.within, l.text, ← l.feeds) (sym e ∙ w)

pub looked_whole : (scan : HeadScan) (bytes : List ℕ) → IsScan scan bytes → (whole : Bool)
    → whole ≡ ends_with_empty_line (take (scan.seen - scan.skipped) (drop scan.skipped bytes)) → whole ≡ true
    → Whole ≡ head_state (take scan.seen bytes)
looked_whole scan bytes l whole e w =
    whole_is (skip_breaks (take scan.seen bytes)) (length (take scan.seen bytes)) (cut_test scan bytes l whole true e w)

pub looked_too_long : (scan : HeadScan) (bytes : List ℕ) → IsScan scan bytes → (whole long : Bool)
    → whole ≡ ends_with_empty_line (take (scan.seen - scan.skipped) (drop scan.skipped bytes)) → whole ≡ false
    → long ≡ is_too_long scan.seen scan.feeds → long ≡ true
    → TooLong ≡ head_state (take scan.seen bytes)
looked_too_long scan bytes l whole long e w f g =
    too_long_is (skip_breaks (take scan.seen bytes)) (length (take scan.seen bytes))
    (cut_test scan bytes l whole false e w) (long_test scan bytes l long true f g)

pub looked_growing : (scan : HeadScan) (bytes : List ℕ) → IsScan scan bytes → (whole long : Bool)
    → whole ≡ ends_with_empty_line (take (scan.seen - scan.skipped) (drop scan.skipped bytes)) → whole ≡ false
    → long ≡ is_too_long scan.seen scan.feeds → long ≡ false
    → Growing ≡ head_state (take scan.seen bytes)
looked_growing scan bytes l whole long e w f g =
    growing_is (skip_breaks (take scan.seen bytes)) (length (take scan.seen bytes))
    (cut_test scan bytes l whole false e w) (long_test scan bytes l long false f g)

-- what a growing head doesn't have
pub growing_has_no_end : (text : List ℕ) (read : ℕ) → head_state_of text read ≡ Growing
    → ends_with_empty_line text ≡ false
growing_has_no_end text read g =
    elim (cases_Bool (ends_with_empty_line text)) [
      | inl e ↦ let w : Whole ≡ Growing = whole_is text read e ∙ g in cc
      | inr e ↦ e
    ]

pub growing_is_short : (text : List ℕ) (read : ℕ) → head_state_of text read ≡ Growing
    → is_too_long read (line_feeds text) ≡ false
growing_is_short text read g =
    let none = growing_has_no_end text read g in
    elim (cases_Bool (is_too_long read (line_feeds text))) [
      | inl l ↦ let w : TooLong ≡ Growing = too_long_is text read none l ∙ g in cc
      | inr l ↦ l
    ]

short_lines : (read feeds : ℕ) → is_too_long read feeds ≡ false → feeds < line_limit
unfolding is_too_long
short_lines read feeds e =
    elim (cases_Bool (leb line_limit feeds)) [
      | inl many ↦ let w : true ≡ false = sym (at_some (leb head_limit read) (leb line_limit feeds) many) ∙ e in cc
      | inr few ↦ leb-false line_limit feeds few
    ]
  where
    at_some : (x y : Bool) → y ≡ true → (x || y) ≡ true
    at_some true y e = refl
    at_some false y e = e

pub growing_has_few_lines : (text : List ℕ) (read : ℕ) → head_state_of text read ≡ Growing
    → line_feeds text < line_limit
growing_has_few_lines text read g = short_lines read (line_feeds text) (growing_is_short text read g)

-- ---- the bytes that are passed over

pub skip_breaks-append_nil : (s t : List ℕ) → skip_breaks s ≡ [] → skip_breaks (s ++ t) ≡ skip_breaks t
skip_breaks-append_nil [] t e = refl
skip_breaks-append_nil (b ∷ s) t e =
    elim (cases_Bool (is_break b)) [
      | inl here ↦ rw here (skip_breaks-append_nil s t (rw here at e))
      | inr other ↦ let w : b ∷ s ≡ [] = (rw other at e) in cc
    ]

pub skip_breaks-append : (s t : List ℕ) → 0 < length (skip_breaks s) → skip_breaks (s ++ t) ≡ skip_breaks s ++ t
skip_breaks-append [] t some = absurd (omega arith)
skip_breaks-append (b ∷ s) t some =
    elim (cases_Bool (is_break b)) [
      | inl here ↦ rw here (skip_breaks-append s t (rw here at some))
      | inr other ↦ rw other
    ]

pub skip_breaks_one : (b : ℕ) → is_break b ≡ false → skip_breaks (b ∷ []) ≡ b ∷ []
skip_breaks_one b e = rw e

pub line_feeds-append : (s t : List ℕ) → line_feeds (s ++ t) ≡ line_feeds s + line_feeds t
line_feeds-append s t = sum_by-append _ s t

-- ---- one more byte

-- the bytes that are passed over go on, or the head does
skip_breaks-more : (s : List ℕ) (b skipped : ℕ) → skipped ≤ length s → skip_breaks s ≡ drop skipped s
    → (eqb skipped (length s) && is_break b) ≡ false
    → skip_breaks (s ++ b ∷ []) ≡ drop skipped (s ++ b ∷ [])
skip_breaks-more s b skipped ordered e other =
    elim (cases_Bool (eqb skipped (length s))) [
      | inl all ↦
          let same : skipped ≡ length s = eqb-true skipped (length s) all in
          let empty : skip_breaks s ≡ [] = e ∙ drop_all skipped s (omega arith) in
          let visible : is_break b ≡ false = rw all at other in
          skip_breaks-append_nil s (b ∷ []) empty ∙ skip_breaks_one b visible
          ∙ sym (drop_at s (b ∷ []) skipped (sym same))
      | inr some ↦
          let apart = eqb-false skipped (length s) some in
          let long : 0 < length (skip_breaks s) = rw e (omega (arith, length-drop skipped s, apart)) in
          skip_breaks-append s (b ∷ []) long ∙ ap (λ (t : List ℕ). t ++ b ∷ []) e
          ∙ sym (drop-append-le skipped s (b ∷ []) ordered)
    ]

skip_breaks_break : (b : ℕ) → is_break b ≡ true → skip_breaks (b ∷ []) ≡ []
skip_breaks_break b e = rw e

both : (x y : Bool) → (x && y) ≡ true → (x ≡ true) × (y ≡ true)
both true y e = (refl, e)
both false y e = let w : false ≡ true = e in cc

one_line_feed : (b : ℕ) → line_feeds (b ∷ []) ≤ 1
one_line_feed b = count_by-le-length (λ c. c == 10) (b ∷ [])

-- the scan with the byte that comes next is a scan at one more byte
pub scan_after_is : (scan : HeadScan) (bytes : List ℕ) → IsScan scan bytes
    → head_state (take scan.seen bytes) ≡ Growing → scan.seen < length bytes
    → IsScan (scan_after scan (get_or bytes scan.seen 0)) bytes
scan_after_is scan bytes l growing more =
    go (eqb scan.skipped scan.seen && is_break b) refl
  where
    b : ℕ
    b = get_or bytes scan.seen 0

    s : List ℕ
    s = take scan.seen bytes

    step : take (scan.seen + 1) bytes ≡ s ++ b ∷ []
    step = take_more bytes scan.seen 0 more

    long : length s ≡ scan.seen
    long = length-take-le scan.seen bytes l.within

    before : (m : ℕ) → m < scan.seen + 1 → head_state (take m bytes) ≡ Growing
    before m below =
        elim (cases_Bool (eqb m scan.seen)) [
          | inl here ↦ rw (eqb-true m scan.seen here) growing
          | inr other ↦ let apart = eqb-false m scan.seen other in l.before m (omega (arith, apart))
        ]

    no_end : (m : ℕ) → scan.skipped + m < scan.seen + 1
        → ends_with_empty_line (take m (drop scan.skipped bytes)) ≡ false
    no_end m below =
        elim (cases_Bool (eqb (scan.skipped + m) scan.seen)) [
          | inl here ↦
              let end : scan.skipped + m ≡ scan.seen = eqb-true (scan.skipped + m) scan.seen here in
              let size : scan.seen - scan.skipped ≡ m = omega arith in
              let same : take m (drop scan.skipped bytes) ≡ skip_breaks s =
              sym (text_is_cut bytes scan.skipped scan.seen l.ordered l.text
              ∙ ap (λ n. take n (drop scan.skipped bytes)) size) in
              ap ends_with_empty_line same ∙ growing_has_no_end (skip_breaks s) (length s) growing
          | inr other ↦ let apart = eqb-false (scan.skipped + m) scan.seen other in l.no_end m (omega (arith, apart))
        ]

    go : (x : Bool) → (eqb scan.skipped scan.seen && is_break b) ≡ x
        → IsScan (if x then record { seen = scan.seen + 1; skipped = scan.skipped + 1; feeds = scan.feeds }
        else record { seen = scan.seen + 1; skipped = scan.skipped; feeds = scan.feeds + line_feeds (b ∷ []) }) bytes
    go true passed =
        let parts = both (eqb scan.skipped scan.seen) (is_break b) passed in
        let same : scan.skipped ≡ scan.seen = eqb-true scan.skipped scan.seen parts.0 in
        let rest : drop scan.skipped s ≡ [] = drop_all scan.skipped s (omega (arith, long)) in
        let after : drop (scan.skipped + 1) (take (scan.seen + 1) bytes) ≡ [] =
        drop_all (scan.skipped + 1) (take (scan.seen + 1) bytes)
        (omega (arith, length-take-le (scan.seen + 1) bytes (omega arith))) in
        let passed : skip_breaks (take (scan.seen + 1) bytes) ≡ [] =
        ap skip_breaks step ∙ skip_breaks-append_nil s (b ∷ []) (l.text ∙ rest) ∙ skip_breaks_break b parts.1 in
        record {
          within = omega arith;
          ordered = omega arith;
          text = passed ∙ sym after;
          feeds = l.feeds ∙ ap line_feeds rest ∙ sym (ap line_feeds after);
          few = l.few;
          no_end = λ m below. absurd (omega arith);
          before = before;
        }
    go false stands =
        let passed : skip_breaks (take (scan.seen + 1) bytes) ≡ drop scan.skipped (take (scan.seen + 1) bytes) =
        rw step (skip_breaks-more s b scan.skipped (omega (arith, long)) l.text
        (rw long stands)) in
        let lines : line_feeds (drop scan.skipped (take (scan.seen + 1) bytes)) ≡ scan.feeds + line_feeds (b ∷ []) =
        ap (λ (t : List ℕ). line_feeds (drop scan.skipped t)) step
        ∙ ap line_feeds (drop-append-le scan.skipped s (b ∷ []) (omega (arith, long)))
        ∙ line_feeds-append (drop scan.skipped s) (b ∷ [])
        ∙ ap (λ n. n + line_feeds (b ∷ [])) (sym l.feeds) in
        let few : scan.feeds < line_limit =
        rw (l.feeds ∙ ap line_feeds (sym l.text)) (growing_has_few_lines (skip_breaks s) (length s) growing) in
        let one : line_feeds (b ∷ []) ≤ 1 = one_line_feed b in
        record {
          within = omega arith;
          ordered = omega arith;
          text = passed;
          feeds = sym lines;
          few = omega arith;
          no_end = no_end;
          before = before;
        }

-- ---- how long a head is

short_bytes : (read feeds : ℕ) → is_too_long read feeds ≡ false → read < head_limit
unfolding is_too_long
short_bytes read feeds e =
    elim (cases_Bool (leb head_limit read)) [
      | inl many ↦ let w : true ≡ false = sym (at_first (leb head_limit read) (leb line_limit feeds) many) ∙ e in cc
      | inr few ↦ leb-false head_limit read few
    ]
  where
    at_first : (x y : Bool) → x ≡ true → (x || y) ≡ true
    at_first true y e = refl
    at_first false y e = let w : false ≡ true = e in cc

pub growing_has_few_bytes : (text : List ℕ) (read : ℕ) → head_state_of text read ≡ Growing → read < head_limit
growing_has_few_bytes text read g = short_bytes read (line_feeds text) (growing_is_short text read g)

-- how a head stands is settled by its first bytes
pub settled_early : (bytes : List ℕ) (n : ℕ) (how : HeadState) → SettledAt bytes n how → n ≤ head_limit
settled_early bytes zero how s = omega arith
settled_early bytes (suc k) how s =
    let growing = s.before k (omega arith) in
    let short = growing_has_few_bytes (skip_breaks (take k bytes)) (length (take k bytes)) growing in
    let within : suc k ≤ length bytes = s.within in
    omega (arith, short, length-take-le k bytes (omega arith))
