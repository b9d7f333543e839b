-- How far a head was scanned.
use Rattle.std.specs.Prelude.{◌≡◌, ℕ, ◌+◌, ◌<◌, ◌≤◌, ◌==◌, ◌&&◌, false, if◌then◌else◌, List, [], ◌∷◌, length, take, drop}
use Rattle.sheets_http.specs.declared.scan.HeadState.TheVariants.{Growing}
use Rattle.sheets_http.specs.declared.scan.HeadScan.{HeadScan}
use Rattle.sheets_http.specs.Heads.{is_break, skip_breaks, ends_with_empty_line, line_feeds, line_limit, head_state}

-- the scan is at the first bytes: none before the last that was seen settles how the head stands
pub record IsScan (scan : HeadScan) (bytes : List ℕ) : Type 0 where
  pub within : scan.seen ≤ length bytes
  pub ordered : scan.skipped ≤ scan.seen
  pub text : skip_breaks (take scan.seen bytes) ≡ drop scan.skipped (take scan.seen bytes)
  pub feeds : scan.feeds ≡ line_feeds (drop scan.skipped (take scan.seen bytes))
  pub few : scan.feeds ≤ line_limit
  pub no_end : (m : ℕ) → scan.skipped + m < scan.seen → ends_with_empty_line (take m (drop scan.skipped bytes)) ≡ false
  pub before : (m : ℕ) → m < scan.seen → head_state (take m bytes) ≡ Growing

-- what is known with one more byte: it is passed over, or stands in the head
abbrev pub scan_after : HeadScan → ℕ → HeadScan
scan_after scan byte =
    if scan.skipped == scan.seen && is_break byte
    then record { seen = scan.seen + 1; skipped = scan.skipped + 1; feeds = scan.feeds }
    else record { seen = scan.seen + 1; skipped = scan.skipped; feeds = scan.feeds + line_feeds (byte ∷ []) }
