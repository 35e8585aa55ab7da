use Rattle.std.proofs.Common.{◌≡◌, ◌+◌, length}
use Rattle.vala_lexer.specs.Tokens.{left}
use Rattle.vala_cursor.specs.Rest.{tokens_of}
use Rattle.vala_parse.proofs.parse.count.Given as goal

abbrev pub invariant-tokens : goal.invariant-tokens
invariant-tokens l = l.tokens + length (tokens_of (left l.lexer)) ≡ length (tokens_of (left l.fn.lexer))

abbrev pub decreases-tokens : goal.decreases-tokens
decreases-tokens l = length (tokens_of (left l.lexer))
