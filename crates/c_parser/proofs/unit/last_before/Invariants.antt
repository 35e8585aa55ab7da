use Rattle.std.proofs.Common.{◌≡◌, length}
use Rattle.c_lexer.specs.Tokens.{all_of}
use Rattle.c_tree.specs.Words.{words}
use Rattle.c_parser.specs.Parsing.{last_before}
use Rattle.c_cursor.specs.Rest.{tokens_of}
use Rattle.c_cursor.specs.State.{rest}
use Rattle.c_parser.proofs.unit.last_before.Given as goal

abbrev pub invariant-tokens : goal.invariant-tokens
invariant-tokens l = last_before l.last l.place (rest l.cursor) ≡ last_before 0 l.place (words (tokens_of (all_of l.bytes)))

abbrev pub decreases-tokens : goal.decreases-tokens
decreases-tokens l = length (rest l.cursor)
