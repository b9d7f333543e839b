use Rattle.std.proofs.Common.{◌++◌, ap, sym, ◌∙◌, map, take, [], ◌∷◌, ℕ, List}
use Rattle.std.specs.List.{flat_map}
use Rattle.std.proofs.lemmas.Grind.{flat_map-append}
use Rattle.std.proofs.lemmas.List.{append-nil, take_more}
use Rattle.batch_engine.specs.Calls.{lines_on}
use Rattle.batch_engine.specs.Values.{Wrote}
use Rattle.batch_engine.proofs.totals.lines_written.Goals as goal

pub loop-write-preserved : goal.loop-write-preserved
loop-write-preserved c =
    let writes = c.args.writes.now in
    let at = c.loop-write.write-index in
    let wrote = c.write-item.result in
    let lines : Wrote → List (ℕ × ℕ) =
    λ wrote. map (λ line. (wrote.1.area.sheet, line)) (lines_on c.args.axis wrote.1) in
    c.in_ok-add_lines.ensures
    ∙ ap (λ before. before ++ lines wrote) c.loop-write.invariant
    ∙ ap (λ more. flat_map lines (take at writes) ++ more) (sym (append-nil (lines wrote)))
    ∙ sym (flat_map-append lines (take at writes) (wrote ∷ []))
    ∙ ap (λ one. flat_map lines (take at writes ++ one ∷ [])) c.write-item.is
    ∙ ap (flat_map lines) (sym (take_more writes at wrote c.loop-write-test.true))
