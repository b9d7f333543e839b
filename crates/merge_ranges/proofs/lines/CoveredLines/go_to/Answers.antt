use Rattle.std.proofs.Common.{◌≡◌, ◌≤◌, ◌+◌, ◌∙◌, ◌++◌, ℕ, List, Bool, ap, drop, length, subst, sym, take}
use Rattle.std.specs.Prelude.{filter, slice_range}
use Rattle.std.specs.List.{All, list_any}
use Rattle.std.proofs.Math.Seq.{take-append_seam}
use Rattle.grid_range.specs.Area.{band_on}
use Rattle.grid_range.specs.Band.{HasLine, first_line}
use Rattle.grid_range.specs.declared.area.Area.{Area}
use Rattle.merge_ranges.specs.Lines.{BeginsLater, IsLineAsked, IsRising, LineAsked, Tells, band_across, covered_places, covers_on, reaches}
use Rattle.merge_ranges.specs.Merges.{IsMerge}
use Rattle.merge_ranges.proofs.Covering.{next_current, next_merges, told_all}
use Rattle.merge_ranges.proofs.lines.CoveredLines.go_to.Goals as goal

pub tell-requires : goal.tell-requires
tell-requires c =
    subst (All IsMerge) (sym c.deref-3.ensures.value)
    (next_merges c.self.inside.axis c.self.inside.merges.items c.self.invariant.0 c.self.inside.taken
    c.begun_by-begun.result c.args.line c.self.inside.current.items c.self.invariant.3.listed
    c.take_up.new.current.items
    (c.in_ok-take_up.ensures.taken
    ∙ ap (λ (all : List Area). filter (reaches c.self.inside.axis c.args.line)
    (c.self.inside.current.items ++ slice_range all c.self.inside.taken c.begun_by-begun.result))
    c.deref-2.ensures.value))

pub invariant_of-self-2 : goal.invariant_of-self-2
invariant_of-self-2 c =
    let axis = c.self.inside.axis in
    let merges : List Area = c.self.inside.merges.items in
    let begun : ℕ = c.begun_by-begun.result in
    let now : List Area = c.take_up.new.current.items in
    let rising : IsRising c.self.inside.line c.args.line =
    subst (λ (asked : LineAsked). IsRising asked.line c.args.line) (sym c.self.view_is) c.requires.rising in
    let within : begun ≤ length merges =
    subst (λ (all : List Area). begun ≤ length all) c.deref.ensures.value c.begun_by-begun.ensures.within in
    let later : BeginsLater axis merges begun c.args.line =
    subst (λ (all : List Area). BeginsLater axis all begun c.args.line) c.deref.ensures.value
    c.begun_by-begun.ensures.later in
    let taken : now ≡ filter (reaches axis c.args.line)
    (c.self.inside.current.items ++ slice_range merges c.self.inside.taken begun) =
    c.in_ok-take_up.ensures.taken
    ∙ ap (λ (all : List Area). filter (reaches axis c.args.line)
    (c.self.inside.current.items ++ slice_range all c.self.inside.taken begun)) c.deref-2.ensures.value in
    let area : Area = c.self.inside.area in
    let here : HasLine (band_on axis area) c.args.line =
    subst (λ (asked : LineAsked). IsLineAsked asked c.args.line) (sym c.self.view_is) c.requires.there in
    let first_is : c.first_line-first.result ≡ first_line (band_across axis area) =
    c.first_line-first.ensures ∙ ap first_line c.band_across.ensures in
    let told : Tells (λ place. list_any (λ merge. covers_on axis merge c.args.line
    (first_line (band_across axis area) + place)) now) c.self.inside.told.len c.tell.new.told =
    subst (λ n. Tells (λ place. list_any (λ merge. covers_on axis merge c.args.line
    (first_line (band_across axis area) + place)) now) n c.tell.new.told) c.deref_mut.ensures.len
    (subst (λ first. Tells (λ place. list_any (λ merge. covers_on axis merge c.args.line (first + place)) now)
    (length c.deref_mut.result.now) c.tell.new.told) first_is
    (subst (λ (all : List Area). Tells (λ place. list_any (λ merge. covers_on axis merge c.args.line
    (c.first_line-first.result + place)) all) (length c.deref_mut.result.now) c.tell.new.told) c.deref-3.ensures.value
    c.tell.ensures)) in
    let rest : List Bool = drop (length c.tell.new.told) c.self.inside.told.items in
    let same : take c.self.inside.told.len (c.tell.new.told ++ rest) ≡ c.tell.new.told =
    ap (λ n. take n (c.tell.new.told ++ rest)) (sym told.long) ∙ take-append_seam c.tell.new.told rest in (
      c.self.invariant.0,
      c.self.invariant.1,
      subst (λ n. begun ≤ n) c.deref.ensures.len c.begun_by-begun.ensures.within,
      next_current axis merges c.self.invariant.0 c.self.inside.taken begun c.args.line c.self.inside.current.items
          c.self.inside.line c.self.invariant.3 rising c.begun_by-begun.ensures.more within now taken,
      c.self.invariant.4,
      subst (Tells (covered_places axis area merges c.args.line) c.self.inside.told.len) (sym same)
          (told_all axis merges c.self.invariant.0 c.self.inside.taken begun c.args.line c.self.inside.current.items
          c.self.inside.line c.self.invariant.3 rising c.begun_by-begun.ensures.more within c.self.invariant.1 later now
          taken area here c.self.inside.told.len c.self.invariant.4 c.tell.new.told told),
    )
