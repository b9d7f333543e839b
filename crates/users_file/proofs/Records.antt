-- The records of a text: there is one list of them, and a reader that gave the first goes on with the others.
use Rattle.std.proofs.Common.{◌≡◌, ◌<◌, ◌≤◌, ◌⊎◌, ◌∙◌, ◌++◌, ◌∷◌, [], ℕ, zero, suc, true, false, List}
use Rattle.std.proofs.Common.{Option, Some, None, ap, append_assoc, arith, inl, inr, length, refl, subst, sym, ⊎_elim}
use Rattle.std.specs.Borrow.{Bor}
use Rattle.std.proofs.lemmas.Bool.{cases_Bool}
use Rattle.csv.specs.Machine.{Read, ends_at_end, field_after, fields_after, is_end, next_record, step}
use Rattle.csv.specs.Reading.{AreRecords, NextIs, Reached, ReadsNext, RowStep, default_config, pending_of, strip_bom}
use Rattle.csv.specs.Records.{Row, fields_of}
use Rattle.csv.specs.declared.iter.ByteRecordsIntoIter.{ByteRecordsIntoIter}
use Rattle.csv.specs.declared.parser.Config.{Config}
use Rattle.csv.specs.declared.parser.State.{State}
use Rattle.csv.specs.declared.parser.State.TheVariants as state
use Rattle.std.specs.Prelude.{Ok}
use Rattle.users_file.specs.Rows.{HasGiven, HasNoPair, IsBroken, bytes_left}
use Rattle.users_file.specs.Table.{AreRows}

-- ---- one record after another

-- a record behind those that were read
reached-more : (config : Config) (from at : State) (text rest : List ℕ) (rows : List (List (List ℕ))) (read : Read)
    → Reached config from text rows at rest → next_record config at [] [] rest ≡ Some read
    → Reached config from text (rows ++ read.0 ∷ []) read.1 read.2
unfolding Reached
reached-more config from at text rest [] read so_far next =
    (read, rw (so_far.0, so_far.1) next, refl, (refl, refl))
reached-more config from at text rest (row ∷ rows) read so_far next =
    (so_far.0, so_far.1, so_far.2, reached-more config so_far.0.1 at so_far.0.2 rest rows read so_far.3 next)

-- those that are left behind those that were read
pub records-joined : (config : Config) (from at : State) (text rest : List ℕ) (rows more : List (List (List ℕ)))
    → Reached config from text rows at rest → AreRecords config at rest more
    → AreRecords config from text (rows ++ more)
unfolding Reached
records-joined config from at text rest [] more so_far others = rw (so_far.0, so_far.1) others
records-joined config from at text rest (row ∷ rows) more so_far others =
    let behind = records-joined config so_far.0.1 at so_far.0.2 rest rows more so_far.3 others in
    (behind.0, behind.1, (so_far.0, so_far.1, so_far.2, behind.2), behind.3)

-- ---- each text has records

-- a read takes something, or stands at the end of the text
taken : (config : Config) (from : State) (fields : List (List ℕ)) (field text : List ℕ) (read : Read)
    → next_record config from fields field text ≡ Some read
    → (length read.2 < length text) ⊎ ((read.1 ≡ state.StartRecord) × (read.2 ≡ []))
unfolding next_record
taken config from fields field [] read next =
    elim (cases_Bool (ends_at_end from)) [
      | inl ends ↦
          let is : Some (fields ++ field ∷ [], state.StartRecord, []) ≡ Some read = rw ends at next in
          inr (sym (ap (λ (r : Read). r.1) (some_is is)), sym (ap (λ (r : Read). r.2) (some_is is)))
      | inr goes ↦
          let is : ◌≡◌ {A = Option Read} None (Some read) = rw goes at next in
          absurd (cc is)
    ]
  where
    some_is : {a b : Read} → Some a ≡ Some b → a ≡ b
    some_is e = cc
taken config from fields field (byte ∷ rest) read next =
    let one = step config from byte in
    elim (cases_Bool (is_end one.1)) [
      | inl ends ↦
          let is : Some (fields_after one.1 fields field, one.0, rest) ≡ Some read = rw ends at next in
          let left : rest ≡ read.2 = ap (λ (r : Read). r.2) (some_is is) in
          inl (subst (λ (l : List ℕ). length l < length (byte ∷ rest)) left (omega arith))
      | inr goes ↦
          let is : next_record config one.0 (fields_after one.1 fields field) (field_after one.1 byte field) rest
          ≡ Some read = rw goes at next in
          ⊎_elim (λ less. inl (omega (arith, less))) (λ end. inr end)
          (taken config one.0 (fields_after one.1 fields field) (field_after one.1 byte field) rest read is)
    ]
  where
    some_is : {a b : Read} → Some a ≡ Some b → a ≡ b
    some_is e = cc

-- at the end of a text, outside a record, there is none
none_at_end : (config : Config) → next_record config state.StartRecord [] [] [] ≡ None
unfolding next_record
none_at_end config = refl

-- the first of the records, and those behind it
records-cons : (config : Config) (from : State) (text : List ℕ) (read : Read) (rows : List (List (List ℕ)))
    → next_record config from [] [] text ≡ Some read → AreRecords config read.1 read.2 rows
    → AreRecords config from text (read.0 ∷ rows)
unfolding Reached
records-cons config from text read rows next behind = (behind.0, behind.1, (read, next, refl, behind.2), behind.3)

records-none : (config : Config) (from : State) (text : List ℕ) → next_record config from [] [] text ≡ None
    → AreRecords config from text []
unfolding Reached
records-none config from text none = (from, text, (refl, refl), none)

-- some list of records
abbrev pub HasRows : Config → State → List ℕ → Type 0
HasRows config from text = (rows : List (List (List ℕ))) × AreRecords config from text rows

-- a text has records, where each shorter one has
has_records-from : (config : Config) (from : State) (text : List ℕ)
    → ((at : State) (rest : List ℕ) → length rest < length text → HasRows config at rest) → HasRows config from text
has_records-from config from text shorter = by (next_record config from [] [] text) refl
  where
    by : (found : Option Read) → next_record config from [] [] text ≡ found
        → (rows : List (List (List ℕ))) × AreRecords config from text rows
    by None none = ([], records-none config from text none)
    by (Some read) next = elim (taken config from [] [] text read next) [
      | inl less ↦
          let others = shorter read.1 read.2 less in
          (read.0 ∷ others.0, records-cons config from text read others.0 next others.1)
      | inr end ↦ (
        read.0 ∷ [],
        records-cons config from text read [] next
            (records-none config read.1 read.2 (rw (end.0, end.1) (none_at_end config))),
      )
    ]

-- each text has records
pub has_records : (size : ℕ) (config : Config) (from : State) (text : List ℕ) → length text ≤ size
    → HasRows config from text
has_records zero config from text fits =
    has_records-from config from text (λ at rest less. absurd (omega arith))
has_records (suc size) config from text fits =
    has_records-from config from text (λ at rest less. has_records size config at rest (omega arith))

-- ---- there is one list of them

read_once : {a b : Read} {found : Option Read} → found ≡ Some a → found ≡ Some b → a ≡ b
read_once first second =
    let both = sym first ∙ second in
    cc

pub records_once : (config : Config) (from : State) (text : List ℕ) (rows others : List (List (List ℕ)))
    → AreRecords config from text rows → AreRecords config from text others → rows ≡ others
unfolding Reached
records_once config from text [] [] are too = refl
records_once config from text [] (other ∷ others) are too =
    let none : next_record config from [] [] text ≡ None = rw (are.2.0, are.2.1) are.3 in
    let is : ◌≡◌ {A = Option Read} None (Some too.2.0) = sym none ∙ too.2.1 in
    absurd (cc is)
records_once config from text (row ∷ rows) [] are too =
    let none : next_record config from [] [] text ≡ None = rw (too.2.0, too.2.1) too.3 in
    let is : ◌≡◌ {A = Option Read} None (Some are.2.0) = sym none ∙ are.2.1 in
    absurd (cc is)
records_once config from text (row ∷ rows) (other ∷ others) are too =
    let same : are.2.0 ≡ too.2.0 = read_once are.2.1 too.2.1 in
    let behind : AreRecords config are.2.0.1 are.2.0.2 rows = (are.0, are.1, are.2.3, are.3) in
    let beyond : AreRecords config too.2.0.1 too.2.0.2 others = (too.0, too.1, too.2.3, too.3) in
    let first : row ≡ other = are.2.2 ∙ (ap (λ (r : Read). r.0) same ∙ sym too.2.2) in
    let more : rows ≡ others = records_once config are.2.0.1 are.2.0.2 rows others behind
    (subst (λ (r : Read). AreRecords config r.1 r.2 others) (sym same) beyond) in
    cc

-- ---- the records that a reader gives

read_more : (config : Config) (from at next : State) (text rest : List ℕ) (rows : List (List (List ℕ)))
    (fields : List (List ℕ)) (left : Option (List ℕ)) → ReadsNext config at (Some rest) left true fields next
    → Reached config from text rows at rest
    → (behind : List ℕ) × (left ≡ Some behind) × Reached config from text (rows ++ fields ∷ []) next behind
read_more config from at next text rest rows fields None reads so_far = absurd reads
read_more config from at next text rest rows fields (Some behind) reads so_far =
    by (next_record config at [] [] rest) refl reads
  where
    by : (found : Option Read) → next_record config at [] [] rest ≡ found → NextIs found true fields next behind
        → (others : List ℕ) × (Some behind ≡ Some others) × Reached config from text (rows ++ fields ∷ []) next others
    by None none is = absurd (cc is)
    by (Some read) some is = (
      behind,
      refl,
      rw (is.1, is.2, is.3) (reached-more config from at text rest rows read so_far some),
    )

read_none : (config : Config) (at next : State) (rest : List ℕ) (fields : List (List ℕ)) (left : Option (List ℕ))
    → ReadsNext config at (Some rest) left false fields next → next_record config at [] [] rest ≡ None
read_none config at next rest fields None reads = absurd reads
read_none config at next rest fields (Some behind) reads = by (next_record config at [] [] rest) refl reads
  where
    by : (found : Option Read) → next_record config at [] [] rest ≡ found → NextIs found false fields next behind
        → next_record config at [] [] rest ≡ None
    by None none is = none
    by (Some read) some is = absurd (cc is.0)

-- a reader gave one row more
pub HasGiven-more : (text : List ℕ) (rows : List (List (List ℕ))) (reader after : ByteRecordsIntoIter (Bor (List ℕ)))
    (row : Row) → HasGiven text rows reader
    → RowStep bytes_left reader.rdr after.rdr after.left (Some (Ok row))
    → HasGiven text (rows ++ fields_of row ∷ []) after
HasGiven-more text rows reader after row given step =
    let reads = step.0 in
    let more = read_more default_config state.StartRecord reader.rdr.state after.rdr.state (strip_bom text) given.rest
    rows (fields_of row) (pending_of (bytes_left after.rdr.rdr) after.rdr)
    (rw (given.config, given.source) at reads.0) given.reached in
    record {
      untrimmed = reads.3 ∙ given.untrimmed;
      ready = inl step.1;
      turns = step.2;
      config = reads.2 ∙ given.config;
      rest = more.0;
      source = rw reads.1 more.1;
      reached = more.2;
    }

-- a reader gave all rows
pub HasGiven-end : (text : List ℕ) (rows : List (List (List ℕ))) (reader after : ByteRecordsIntoIter (Bor (List ℕ)))
    → HasGiven text rows reader → RowStep bytes_left reader.rdr after.rdr after.left None → AreRows text rows
HasGiven-end text rows reader after given step = (
  reader.rdr.state,
  given.rest,
  given.reached,
  read_none default_config reader.rdr.state after.rdr.state given.rest []
      (pending_of (bytes_left after.rdr.rdr) after.rdr) (rw (given.config, given.source) at step.0),
)

-- behind the rows that a reader gave stand others
pub HasGiven-more_behind : (text : List ℕ) (rows : List (List (List ℕ))) (reader : ByteRecordsIntoIter (Bor (List ℕ)))
    → HasGiven text rows reader → (more : List (List (List ℕ))) × AreRows text (rows ++ more)
HasGiven-more_behind text rows reader given =
    let behind = has_records (length given.rest) default_config reader.rdr.state given.rest (omega arith) in (
      behind.0,
      records-joined default_config state.StartRecord reader.rdr.state (strip_bom text) given.rest rows behind.0
          given.reached behind.1,
    )

-- a reader gave a row that isn't a token and a user
pub HasGiven-broken : (text : List ℕ) (rows : List (List (List ℕ))) (row : List (List ℕ))
    (reader : ByteRecordsIntoIter (Bor (List ℕ))) → HasGiven text (rows ++ row ∷ []) reader → HasNoPair row
    → IsBroken text rows
HasGiven-broken text rows row reader given none =
    let behind = HasGiven-more_behind text (rows ++ row ∷ []) reader given in
    (row, behind.0, subst (AreRows text) (append_assoc rows (row ∷ []) behind.0) behind.1, none)
