use Rattle.a1_notation.proofs.CanonicalTexts.{area_text_reads_back, canonical_reads_back}
use Rattle.a1_notation.proofs.ColumnLetters.{column_is_small, letters_name_column}
use Rattle.a1_notation.specs.OneRun.{run_is_one}
use Rattle.a1_notation.proofs.QuoteEnds.{up_to_quote_is_one}
use Rattle.a1_notation.proofs.Readings as readings
use Rattle.a1_notation.proofs.RowNumbers.{row_is_small, number_names_row}
use Rattle.a1_notation.proofs.laws.a1_laws.Goals as goal

pub returns : goal.returns
returns c = record {
  small_columns = column_is_small;
  small_rows = row_is_small;
  letters_name = letters_name_column;
  numbers_name = number_names_row;
  area_reads_back = area_text_reads_back;
  reads_back = canonical_reads_back;
  one_reading = readings.one_reading;
  quotes_end = up_to_quote_is_one;
  one_run = run_is_one;
}
