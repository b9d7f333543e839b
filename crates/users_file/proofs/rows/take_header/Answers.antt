use Rattle.std.proofs.Common.{Bool, [], ◌≡◌, ◌∷◌, true, false, inl, inr}
use Rattle.std.proofs.lemmas.Bool.{cases_Bool}
use Rattle.csv.specs.Records.{fields_of}
use Rattle.users_file.proofs.Records.{HasGiven-more, HasGiven-more_behind}
use Rattle.users_file.proofs.Tables.{bad-header}
use Rattle.users_file.proofs.rows.take_header.Goals as goal

-- the two differ
differs : {b : Bool} → b ≡ true → b ≡ false → ⊥
differs is other = cc

pub returns-in-Ok : goal.returns-in-Ok
returns-in-Ok c = λ text given.
    let row = c.in-Ok.row in
    let step = rw (c.in-Some.is, c.in-Ok.is) at (c.next.ensures.steps given.turns given.untrimmed).0 given.ready in
    let more = HasGiven-more text [] c.args.rows.now c.next.new.self row given step in
    elim (cases_Bool c.is_header.result) [
      | inl is ↦ rw is (rw (c.is_header.ensures.0 is) at more)
      | inr other ↦
          let behind = HasGiven-more_behind text (fields_of row ∷ []) c.next.new.self more in
          rw other (bad-header text (fields_of row) behind.0 (λ is. differs (c.is_header.ensures.1 is) other) behind.1)
    ]
