use Rattle.std.proofs.Common.{◌≡◌, ◌+◌, ◌*◌}
use Rattle.c_grammar.specs.Parts.{Links}
use Rattle.c_grammar.specs.Tests.{level_number}
use Rattle.c_cursor.specs.Reading.{behind}
use Rattle.c_cursor.specs.Gives.{reads, room, state}
use Rattle.c_cursor.specs.Scopes.{names_of}
use Rattle.c_cursor.specs.State.{bad}
use Rattle.c_parser.proofs.asks.Grammar.+chains.Given as goal

abbrev pub decreases-upto : goal.decreases-upto
decreases-upto g l = 4 * level_number l.tier + 3

abbrev pub decreases-links : goal.decreases-links
decreases-links g l = 4 * level_number l.tier + 2

abbrev pub decreases-operand : goal.decreases-operand
decreases-operand g l = 4 * level_number l.tier + 1

abbrev pub decreases-tighter_links : goal.decreases-tighter_links
decreases-tighter_links g l = 4 * level_number l.tier

abbrev pub invariant-links-links : goal.invariant-links-links
invariant-links-links g l = record {
  same : behind l.links (reads (Links l.tier l.constant) l.level l.parser) ≡ reads (Links l.tier l.constant) l.level l.fn.parser;
  names : names_of l.parser.names ≡ names_of l.fn.parser.names;
  ends : l.parser.end ≡ l.fn.parser.end;
  stop : bad l.parser.cursor ≡ bad l.fn.parser.cursor;
}

abbrev pub decreases-links-links : goal.decreases-links-links
decreases-links-links g l = room (state l.parser)
