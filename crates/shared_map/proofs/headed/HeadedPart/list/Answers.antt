use Rattle.std.proofs.Common.{ℕ, ◌+◌, ◌-◌, ◌++◌, inl, inr, List, map, sym, ap, ◌∙◌, arith}
use Rattle.std.specs.Prelude.{min}
use Rattle.shared_map.specs.Found.{keys_found}
use Rattle.shared_map.specs.Places.{in_headed}
use Rattle.shared_map.proofs.Keys.{both_listed, head_listed, head_put, listed_more}
use Rattle.shared_map.proofs.headed.HeadedPart.list.Goals.{then-first+in_ok-list, else-first}
use Rattle.shared_map.proofs.headed.HeadedPart.list.Goals as goal

pub returns-in_ok-list-2 : goal.returns-in_ok-list-2
returns-in_ok-list-2 g c =
    let head = g.H.Part.at c.args.self.now.head in
    let rest = g.R.Part.at c.args.self.now.rest in
    let put = head_put g.K.Key.listed head c.args.base c.args.first c.args.last g.row.SPAN c.args.found.now.items
    c.if-first.found.items
    (elim c.if-first.branch [
      | then-first+in_ok-list w ↦ inl (
        omega (arith, w.if-first.true),
        ap (λ list. list.items) w.found-is ∙ w.in_ok-list.ensures
            ∙ ap (λ (last : ℕ). c.args.found.now.items
            ++ map g.K.Key.listed (keys_found head c.args.base c.args.first (last + 1))) w.min.ensures,
      )
      | else-first w ↦ inr (omega (arith, w.if-first.false), ap (λ list. list.items) w.found-is)
    ]) in
    listed_more g.K.Key.listed c.args.found.now.items
    (keys_found head c.args.base c.args.first (min (c.args.last + 1) g.row.SPAN))
    (keys_found rest (c.args.base + g.row.SPAN) (c.args.first - g.row.SPAN) (c.args.last - g.row.SPAN + 1))
    c.if-first.found.items c.list-then-last.new.found.items
    (keys_found (in_headed g.H.Part.at g.R.Part.at g.row.SPAN c.args.self.now.head c.args.self.now.rest) c.args.base
    c.args.first (c.args.last + 1))
    put
    (c.in_ok-list-2.ensures
    ∙ ap (λ (low : ℕ). c.if-first.found.items
    ++ map g.K.Key.listed (keys_found rest (c.args.base + g.row.SPAN) low (c.args.last - g.row.SPAN + 1)))
    c.saturating_sub.ensures)
    (both_listed g.H.Part.at g.R.Part.at g.row.SPAN c.args.self.now.head c.args.self.now.rest c.args.base
    c.args.first c.args.last
    (omega (arith, c.if-last.true)))

pub returns-else-last : goal.returns-else-last
returns-else-last g c =
    let head = g.H.Part.at c.args.self.now.head in
    let put = head_put g.K.Key.listed head c.args.base c.args.first c.args.last g.row.SPAN c.args.found.now.items
    c.if-first.found.items
    (elim c.if-first.branch [
      | then-first+in_ok-list w ↦ inl (
        omega (arith, w.if-first.true),
        ap (λ list. list.items) w.found-is ∙ w.in_ok-list.ensures
            ∙ ap (λ (last : ℕ). c.args.found.now.items
            ++ map g.K.Key.listed (keys_found head c.args.base c.args.first (last + 1))) w.min.ensures,
      )
      | else-first w ↦ inr (omega (arith, w.if-first.false), ap (λ list. list.items) w.found-is)
    ]) in
    put ∙ ap (λ (keys : List ℕ). c.args.found.now.items ++ map g.K.Key.listed keys)
    (sym (head_listed g.H.Part.at g.R.Part.at g.row.SPAN c.args.self.now.head c.args.self.now.rest c.args.base
    c.args.first
    c.args.last (omega (arith, c.if-last.false))))
