use Rattle.std.proofs.Common.{◌≡◌, drop}
use Rattle.c_parser.specs.Items.{texts, with_texts}
use Rattle.c_cursor.specs.Scopes.{names_of}
use Rattle.c_parser.proofs.declarations.declare_all.Given as goal

abbrev pub invariant-loop-token : goal.invariant-loop-token
invariant-loop-token l = with_texts (names_of l.names) (texts (drop l.token-index l.tokens)) ≡ with_texts (names_of l.fn.names) (texts l.tokens)
