use Rattle.std.proofs.Common.{◌≡◌, ◌+◌, length, subst}
use Rattle.std.specs.List.{IsDistinct}
use Rattle.std.specs.Str.{bytes_eq}
use Rattle.users_file.specs.Rows.{AreFirst, IsRepeated}
use Rattle.users_file.specs.Table.{IsBadTable, tokens_of}
use Rattle.users_file.proofs.Tables.{bad-repeated, bad-row}
use Rattle.users_file.proofs.table.table_of.Goals as goal

-- row 0 isn't the header
pub returns-then-not-branch-clause-bad : goal.returns-then-not-branch-clause-bad
returns-then-not-branch-clause-bad c = λ row is.
    let bad = rw c.if-not-branch.true at c.in_ok-take_header.ensures c.args.bytes.now c.rows_of-rows.ensures in
    let same : 0 ≡ row = cc in
    subst (IsBadTable c.args.bytes.now) same bad

-- a token stands twice
pub returns-in-Some-clause-bad : goal.returns-in-Some-clause-bad
returns-in-Some-clause-bad c = λ row is.
    let text = c.args.bytes.now in
    let given = rw c.if-not-branch.false at c.in_ok-take_header.ensures text c.rows_of-rows.ensures in
    let first = c.in_ok-first.first in
    let are : AreFirst text first.pairs first.all = c.in_ok-first.ensures text given in
    let repeated : IsRepeated first.pairs c.in-Some.place =
    subst (λ pairs. IsRepeated pairs c.in-Some.place) c.as_slice-pairs.ensures
    (rw c.in-Some.is at c.in_ok-place.ensures) in
    let same : c.in-Some.place + 1 ≡ row = cc in
    subst (IsBadTable text) same (bad-repeated text first.pairs first.all c.in-Some.place are repeated)

-- a row isn't a token and a user
pub returns-then-not-first-clause-bad : goal.returns-then-not-first-clause-bad
returns-then-not-first-clause-bad c = λ row is.
    let text = c.args.bytes.now in
    let given = rw c.if-not-branch.false at c.in_ok-take_header.ensures text c.rows_of-rows.ensures in
    let first = c.in_ok-first.first in
    let are : AreFirst text first.pairs first.all = c.in_ok-first.ensures text given in
    let differ : IsDistinct bytes_eq (tokens_of first.pairs) =
    subst (λ pairs. IsDistinct bytes_eq (tokens_of pairs)) c.as_slice-pairs.ensures
    (rw c.in_default.is at c.in_ok-place.ensures) in
    let broken = rw c.if-not-first.true at are.rows in
    let bad = bad-row text first.pairs (record { names = are.names; once = differ }) broken in
    let counted : IsBadTable text (length c.as_slice-pairs.result.now + 1) = rw c.as_slice-pairs.ensures bad in
    let same : length c.as_slice-pairs.result.now + 1 ≡ row = cc in
    subst (IsBadTable text) same counted

pub returns-clause-table : goal.returns-clause-table
returns-clause-table c =
    let text = c.args.bytes.now in
    let given = rw c.if-not-branch.false at c.in_ok-take_header.ensures text c.rows_of-rows.ensures in
    let first = c.in_ok-first.first in
    let are : AreFirst text first.pairs first.all = c.in_ok-first.ensures text given in
    let differ : IsDistinct bytes_eq (tokens_of first.pairs) =
    subst (λ pairs. IsDistinct bytes_eq (tokens_of pairs)) c.as_slice-pairs.ensures
    (rw c.in_default.is at c.in_ok-place.ensures) in
    record {
      rows = rw c.if-not-first.false at are.rows;
      users = record { names = are.names; once = differ };
    }
