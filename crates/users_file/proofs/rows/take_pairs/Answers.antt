use Rattle.std.proofs.Common.{◌≡◌, ◌++◌, ◌∷◌, []}
use Rattle.std.proofs.lemmas.List.Elements.{All-push}
use Rattle.csv.specs.Records.{fields_of}
use Rattle.users_file.specs.Table.{ArePairOfNames, table_rows}
use Rattle.users_file.proofs.Records.{HasGiven-broken, HasGiven-end, HasGiven-more}
use Rattle.users_file.proofs.Tables.{table_rows-more}
use Rattle.users_file.proofs.rows.take_pairs.Goals as goal

pub returns-in-None-2 : goal.returns-in-None-2
returns-in-None-2 c = λ text given.
    let pairs = c.loop-row.pairs.items in
    let so_far = c.loop-row.invariant.given text given in
    let step = rw (c.in-Some.is, c.in-Ok.is) at (c.next.ensures.steps so_far.turns so_far.untrimmed).0 so_far.ready in
    let more = HasGiven-more text (table_rows pairs) c.loop-row.row-iterator c.next.new.self c.in-Ok.row so_far step in
    rw c.of.ensures record {
      names = c.loop-row.invariant.names;
      rows = HasGiven-broken text (table_rows pairs) (fields_of c.in-Ok.row) c.next.new.self more
          (rw c.in-None-2.is at c.in_ok-pair.ensures);
    }

pub loop-row-preserved : goal.loop-row-preserved
loop-row-preserved c =
    let pairs = c.loop-row.pairs.items in
    let pair = c.in-Some-2.pair in
    let items : c.push.new.self.items ≡ pairs ++ pair ∷ [] = c.in_ok-push-in-Some-2.ensures.items in
    let read = rw c.in-Some-2.is at c.in_ok-pair.ensures in
    record {
      names = rw items (All-push ArePairOfNames pairs pair c.loop-row.invariant.names read.1);
      given = λ text given.
          let so_far = c.loop-row.invariant.given text given in
          let gives = (c.next.ensures.steps so_far.turns so_far.untrimmed).0 so_far.ready in
          let step = rw (c.in-Some.is, c.in-Ok.is) at gives in
          let more = HasGiven-more text (table_rows pairs) c.loop-row.row-iterator c.next.new.self c.in-Ok.row so_far
          step in
          rw (items, table_rows-more pairs pair (fields_of c.in-Ok.row) read.0) more;
    }

pub returns : goal.returns
returns c = λ text given.
    let so_far = c.loop-row.invariant.given text given in
    let step = rw c.in-None.is at (c.next.ensures.steps so_far.turns so_far.untrimmed).0 so_far.ready in
    rw c.of-2.ensures record {
      names = c.loop-row.invariant.names;
      rows = HasGiven-end text (table_rows c.loop-row.pairs.items) c.loop-row.row-iterator c.next.new.self so_far step;
    }
