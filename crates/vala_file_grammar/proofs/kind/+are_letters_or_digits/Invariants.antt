use Rattle.std.proofs.Common.{length}
use Rattle.vala_file_grammar.proofs.kind.+are_letters_or_digits.Given as goal

abbrev pub decreases-are_letters_or_digits : goal.decreases-are_letters_or_digits
decreases-are_letters_or_digits l = length l.bytes.now
