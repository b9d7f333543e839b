use Rattle.std.proofs.Common.{◌≡◌, take}
use Rattle.std.specs.Prelude.{◌==◌, filter, map}
use Rattle.request_kinds.specs.Shown.{shown_protection}
use Rattle.batch_engine.proofs.looks.shown_protections.Given as goal

-- so far those of the sheet before this one are shown
abbrev pub invariant-loop-at : goal.invariant-loop-at
invariant-loop-at l =
    l.shown.items ≡ map (shown_protection l.fn.user l.fn.book.owner)
    (filter (λ one. one.area.sheet == l.fn.sheet) (take l.at l.fn.book.protections))
