use Rattle.named_ranges.proofs.NameWords.{name_is_word}
use Rattle.named_ranges.proofs.laws.names_are_words.Goals as goal

pub returns : goal.returns
returns c = name_is_word
