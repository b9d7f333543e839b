use Rattle.std.proofs.Common.{rules, arith}
use Rattle.std.proofs.lemmas.Bool.{leb-true, le-leb, eqb-true, eq-eqb}
use Rattle.values_api.proofs.Between.{found, first_there}
use Rattle.values_api.proofs.table.has_between.Goals as goal

pub returns-then-place-line : goal.returns-then-place-line
returns-then-place-line c =
    let is = c.in-Some.ensures.lookup.3 in (
      (λ within.
          found c.args.places.now c.requires c.args.line c.args.from c.args.to c.start.result c.start.ensures
          c.in-Some.place.now is.0 is.1 c.if-place-line.true (leb-true c.in-Some.place.now.1 c.args.to within)),
      (λ has.
          let first = first_there c.args.places.now c.requires c.args.line c.args.from c.args.to
          c.start.result c.start.ensures has in
          le-leb c.in-Some.place.now.1 c.args.to (rw (is.1 c.in-Some.place.now) (first.within c.in-Some.place.now))),
    )

pub returns-else-place-line : goal.returns-else-place-line
returns-else-place-line c =
    let is = c.in-Some.ensures.lookup.3 in (
      (λ same. absurd (c.if-place-line.false (eqb-true c.in-Some.place.now.0 c.args.line same))),
      (λ has.
          let first = first_there c.args.places.now c.requires c.args.line c.args.from c.args.to
          c.start.result c.start.ensures has in
          eq-eqb c.in-Some.place.now.0 c.args.line
          (rw (is.1 c.in-Some.place.now) (first.same_line c.in-Some.place.now))),
    )

pub returns-in-None : goal.returns-in-None
returns-in-None c = (
  (λ is. absurd (search rules)),
  (λ has.
      let first = first_there c.args.places.now c.requires c.args.line c.args.from c.args.to
      c.start.result c.start.ensures has in
      absurd (omega (arith, first.there, c.in-None.ensures.lookup.3))),
)
