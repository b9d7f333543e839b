use Rattle.std.proofs.Common.{◌≡◌, ◌+◌, ap, sym, ◌∙◌}
use Rattle.std.specs.Prelude.{None}
use Rattle.std.specs.Option.{option_copied}
use Rattle.shared_map.specs.Places.{place_at, in_part}
use Rattle.shared_map.proofs.Keys.{keys_found-none, listed_none}
use Rattle.shared_map.proofs.branch.Branch.list_part.Goals as goal

pub returns-in-None : goal.returns-in-None
returns-in-None g c =
    let none : place_at c.args.self.now.parts.items c.args.index ≡ None = sym c.part.ensures
    ∙ ap option_copied c.in-None.is in
    listed_none g.K.Key.listed _ _
    (keys_found-none (in_part g.C.Part.at (place_at c.args.self.now.parts.items c.args.index)) c.args.base
    c.args.first (c.args.last + 1)
    (λ key _. ap (λ place. in_part g.C.Part.at place key) none))
