use Rattle.std.proofs.Common.{drop, []}
use Rattle.std.specs.Prelude.{Option, IsTrue}
use Rattle.sheets_http.specs.declared.routing.Fitted.{Fitted}
use Rattle.sheets_http.specs.Routes.{raw_segments}
use Rattle.sheets_http.specs.Routing.{ArePlain, FitsOn}
use Rattle.sheets_http.proofs.RouteLemmas.{segments_left}
use Rattle.sheets_http.proofs.routing.fit_segments.Given as goal

-- what the segments from here on give is what all of them do
abbrev pub invariant-loop-place : goal.invariant-loop-place
invariant-loop-place l = record {
  on : (found : Option Fitted)
      → FitsOn (drop l.place l.segments) (segments_left l.rest) l.place l.fitted.book.now l.fitted.last.now found
      → FitsOn l.segments (raw_segments l.fn.path) 0 [] [] found;
  plain : IsTrue l.plain → ArePlain (segments_left l.rest);
}
