-- What a scan says of the bytes at the front of a stream, and what stays settled when more follow.
use Rattle.std.proofs.Common.{◌≡◌, ◌≢◌, ℕ, ◌-◌, ◌<◌, ◌≤◌, min, inl, inr, List, [], length, take, drop, refl, sym, ap, ◌∙◌, subst, arith}
use Rattle.std.specs.Prelude.{Ok, Err}
use Rattle.std.proofs.lemmas.Bool.{cases_eq}
use Rattle.std.proofs.lemmas.List.{take-take, length-take, take_min}
use Rattle.httparse.specs.Grammar.{ReadsRequest}
use Rattle.sheets_http.specs.declared.request.HeadFault.{HeadFault}
use Rattle.sheets_http.specs.declared.request.HeadFault.TheVariants.{BadHead}
use Rattle.sheets_http.specs.declared.scan.HeadState.{HeadState}
use Rattle.sheets_http.specs.declared.scan.HeadState.TheVariants.{Growing, Whole, TooLong}
use Rattle.sheets_http.specs.declared.scan.HeadScan.{HeadScan}
use Rattle.sheets_http.specs.declared.summary.HeadSummary.{HeadSummary}
use Rattle.sheets_http.specs.declared.summary.HeadError.TheVariants as error
use Rattle.sheets_http.specs.declared.scanned.Scanned.TheVariants as scanned
use Rattle.sheets_http.specs.Heads.{skip_breaks, line_feeds, is_too_long, head_state, SettledAt, IsUnsettled, IsNoHead}
use Rattle.sheets_http.specs.Scanning.{IsScan}
use Rattle.sheets_http.specs.HeadReading.{IsHeadText, ReadsHead, of_head_text, of_other_text}
use Rattle.sheets_http.specs.Framing.{refused_message, of_head, of_no_head, BeginsWith, whole_head}
use Rattle.sheets_http.specs.Buffering.{IsReady, IsScanned}
use Rattle.sheets_http.proofs.HeadLemmas.{text_is_cut}

-- ---- a scan

-- at the start nothing was seen
pub ready_at_start : (bytes : List ℕ) → IsReady (record { seen = 0; skipped = 0; feeds = 0 }) bytes
unfolding is_too_long
ready_at_start bytes = record {
  scan_is = record {
    within = omega arith;
    ordered = omega arith;
    text = refl;
    feeds = refl;
    few = omega arith;
    no_end = λ m below. absurd (omega arith);
    before = λ m below. absurd (omega arith);
  };
  growing = refl;
}

-- ---- what was found

-- what was seen settles how the head stands, in the first `end` bytes too
pub stands_in_front : (scan : HeadScan) (bytes : List ℕ) (end : ℕ) (how : HeadState) → IsScan scan bytes
    → scan.seen ≤ end → how ≡ head_state (take scan.seen bytes) → SettledAt (take end bytes) scan.seen how
stands_in_front scan bytes end how l near here = record {
  within = omega (arith, l.within, length-take end bytes);
  before = λ m below. rw (take-take m end bytes (omega (arith, below, near))) (l.before m below);
  here = rw (take-take scan.seen end bytes near) (sym here);
}

-- nothing that was seen settles it, so the first `end` bytes don't
pub unsettled_in_front : (scan : HeadScan) (bytes : List ℕ) (end : ℕ) → IsScan scan bytes
    → Growing ≡ head_state (take scan.seen bytes) → end ≤ scan.seen → IsUnsettled (take end bytes)
unsettled_in_front scan bytes end l here near m within =
    let below : m ≤ end = omega (arith, within, length-take end bytes) in
    rw (take-take m end bytes below) (
    elim (cases_eq m scan.seen) [
      | inl same ↦ rw same (sym here)
      | inr apart ↦ l.before m (omega (arith, apart, below, near))
    ]
    )

-- what was seen of the head is a text that can be read
pub seen_is_head_text : (scan : HeadScan) (bytes : List ℕ) → IsScan scan bytes
    → IsHeadText (take (scan.seen - scan.skipped) (drop scan.skipped bytes))
seen_is_head_text scan bytes l =
    let size = scan.seen - scan.skipped in
    let head = drop scan.skipped bytes in
    record {
      no_end = λ m below.
          let inside : m < size = omega (arith, below, length-take size head) in
          rw (take-take m size head (omega (arith, inside))) (l.no_end m (omega (arith, inside, l.ordered)));
      few = rw (← text_is_cut bytes scan.skipped scan.seen l.ordered l.text, l.text, ← l.feeds) l.few;
    }

-- and has as many lines as line feeds were seen
pub seen_lines : (scan : HeadScan) (bytes : List ℕ) → IsScan scan bytes
    → line_feeds (take (scan.seen - scan.skipped) (drop scan.skipped bytes)) ≡ scan.feeds
seen_lines scan bytes l = rw (← text_is_cut bytes scan.skipped scan.seen l.ordered l.text, l.text) (sym l.feeds)

pub seen_text : (scan : HeadScan) (bytes : List ℕ) (end : ℕ) → IsScan scan bytes → scan.seen ≤ end
    → take (scan.seen - scan.skipped) (drop scan.skipped bytes) ≡ skip_breaks (take scan.seen (take end bytes))
seen_text scan bytes end l near =
    rw (take-take scan.seen end bytes near) (sym (text_is_cut bytes scan.skipped scan.seen l.ordered l.text))

-- a head that was read
pub scanned_head : (near read : List ℕ) (n : ℕ) (summary : HeadSummary) → read ≡ skip_breaks (take n near)
    → SettledAt near n Whole → ReadsHead read (Ok summary) → IsScanned near (Ok (scanned.Head summary n))
scanned_head near read n summary same stands (of_head_text h reads has) =
    (h, stands, subst (λ (t : List ℕ). ReadsRequest t h []) same reads, has)
scanned_head near read n summary same stands (of_other_text none wrong) =
    let w : Ok summary ≡ Err (error.Fault BadHead) = wrong in cc

-- a head that is refused
pub scanned_fault : (near read : List ℕ) (n : ℕ) (fault : HeadFault) → read ≡ skip_breaks (take n near)
    → SettledAt near n Whole → ReadsHead read (Err (error.Fault fault)) → BeginsWith near (refused_message fault)
scanned_fault near read n fault same stands (of_head_text h reads refused) =
    whole_head n stands (of_head h (subst (λ (t : List ℕ). ReadsRequest t h []) same reads) (rw refused))
scanned_fault near read n fault same stands (of_other_text none e) =
    let bad : fault ≡ BadHead = cc in
    whole_head n stands (of_no_head (subst IsNoHead same none) (ap refused_message bad))

-- the bytes that the bound leaves, as the code counts them
pub near_is : (bytes : List ℕ) (room end : ℕ) → end ≡ min room (length bytes) → take end bytes ≡ take room bytes
near_is bytes room end e = ap (λ n. take n bytes) e ∙ take_min room bytes

pub whole_settles : Whole ≢ Growing
whole_settles e = cc

pub too_long_settles : TooLong ≢ Growing
too_long_settles e = cc
