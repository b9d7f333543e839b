-- A lexeme of a token is that token again wherever what follows leaves it as it is.
use Rattle.std.proofs.Common.{ℕ, List}
use Rattle.formula_reader.specs.declared.tokens.token.Token.{Token}
use Rattle.formula_reader.specs.declared.tokens.token.Token.TheVariants as token
use Rattle.formula_reader.specs.Tokens.{FitsFirst, forms}
use Rattle.formula_reader.proofs.Lexemes.{IsLexeme, IsBefore}
use Rattle.formula_reader.proofs.FitsAgain.{number_fits, text_fits, function_fits, lost_fits, operator_fits, open_fits, close_fits, comma_fits}
use Rattle.formula_reader.proofs.OperandsAgain.{reference_fits, titled_reference_fits}
use Rattle.formula_reader.proofs.WordsAgain.{truth_fits, word_fits}

pub fits_again : (token : Token) (own rest : List ℕ) → IsLexeme token own → IsBefore token rest
    → FitsFirst forms own token rest
fits_again (token.Reference written) own rest is before = reference_fits own written rest is before
fits_again (token.TitledReference title written) own rest is before =
    titled_reference_fits title own written rest is before
fits_again (token.Function name) own rest is before = rw is.0 (function_fits name rest is.1 before)
fits_again (token.Word word) own rest is before = rw is.0 (word_fits word rest is.1 before)
fits_again (token.Truth truth) own rest is before = truth_fits own truth rest is.0 is.1 before
fits_again (token.Number number) own rest is before = rw is.1 (number_fits own is.0 rest is.2 before)
fits_again (token.Text text) own rest is before = rw is (text_fits text rest before)
fits_again token.Lost own rest is before = rw is (lost_fits rest)
fits_again (token.Operator operator) own rest is before = rw is (operator_fits operator rest before)
fits_again token.Open own rest is before = rw is (open_fits rest)
fits_again token.Close own rest is before = rw is (close_fits rest)
fits_again token.Comma own rest is before = rw is (comma_fits rest)
