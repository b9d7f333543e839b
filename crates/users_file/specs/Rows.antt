-- How the rows of a table are read, one behind another.
use Rattle.std.specs.Prelude.{◌≡◌, ◌≢◌, ◌<◌, ◌+◌, ◌++◌, ◌∷◌, ℕ, Bool, List, All, Option, Some, take, length}
use Rattle.std.specs.Borrow.{Bor}
use Rattle.std.specs.Bool.{MatchBool}
use Rattle.std.specs.List.{IsDistinct}
use Rattle.std.specs.Str.{bytes_eq}
use Rattle.csv.specs.Reading.{Reached, Ready, default_config, owned_rows_left, owned_rows_reader}
use Rattle.csv.specs.Reading.{reader_config, reader_state, reader_trim, source_of, strip_bom}
use Rattle.csv.specs.declared.iter.ByteRecordsIntoIter.{ByteRecordsIntoIter}
use Rattle.csv.specs.declared.parser.State.TheVariants as state
use Rattle.csv.specs.declared.reader.Trim.TheVariants as trim
use Rattle.users_file.specs.Table.{AreRows, ArePairOfNames, row_of, table_rows, tokens_of}

-- what is left of bytes in memory, which tell it
abbrev pub bytes_left : Bor (List ℕ) → Option (List ℕ)
bytes_left bytes = Some bytes.now

-- A reader of records gave these first rows of a text, and gives those behind them.
pub record HasGiven (bytes : List ℕ) (rows : List (List (List ℕ)))
    (reader : ByteRecordsIntoIter (Bor (List ℕ))) : Type 0 where
  pub untrimmed : reader_trim (owned_rows_reader reader) ≡ trim.None
  pub ready : Ready (owned_rows_reader reader)
  pub turns : 0 < owned_rows_left reader
  pub config : reader_config (owned_rows_reader reader) ≡ default_config
  pub rest : List ℕ
  pub source : source_of bytes_left (owned_rows_reader reader) ≡ Some rest
  pub reached : Reached default_config state.StartRecord (strip_bom bytes) rows
      (reader_state (owned_rows_reader reader)) rest

-- the row isn't a token and a user
abbrev pub HasNoPair : List (List ℕ) → Type 0
HasNoPair row = (pair : List ℕ × List ℕ) → ArePairOfNames pair → row ≢ row_of pair

-- behind these rows stands one that isn't a token and a user
abbrev pub IsBroken : List ℕ → List (List (List ℕ)) → Type 0
IsBroken bytes rows = (row : List (List ℕ)) × (more : List (List (List ℕ))) × AreRows bytes (rows ++ row ∷ more)
    × HasNoPair row

-- The pairs are the tokens and users of the first rows behind the header: of all of them, or of those before the
-- first that has none.
pub record AreFirst (bytes : List ℕ) (pairs : List (List ℕ × List ℕ)) (all : Bool) : Type 0 where
  pub names : All ArePairOfNames pairs
  pub rows : MatchBool all (AreRows bytes (table_rows pairs)) (IsBroken bytes (table_rows pairs))

-- The pair at a place is the first whose token stands in a pair before it.
pub record IsRepeated (pairs : List (List ℕ × List ℕ)) (place : ℕ) : Type 0 where
  pub within : place < length pairs
  pub before : IsDistinct bytes_eq (take place (tokens_of pairs))
  pub again : ¬ (IsDistinct bytes_eq (take (place + 1) (tokens_of pairs)))
