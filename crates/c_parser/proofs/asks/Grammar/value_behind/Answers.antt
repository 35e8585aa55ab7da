use Rattle.std.proofs.Common.{refl}
use Rattle.c_cursor.specs.Gives.{state}
use Rattle.c_cursor.specs.Scopes.{names_of}
use Rattle.c_parser.proofs.ChainProgress.{chain_stays, less_twice}
use Rattle.c_parser.proofs.asks.Grammar.value_behind.Goals as goal

pub choices-smaller : goal.choices-smaller
choices-smaller g c =
    less_twice _ _ _ _ (c.in-Some.ensures.shorter refl) c.in_ok-choice.ensures.fewer
    (chain_stays c.choice.new.parser.end (names_of c.choice.new.parser.names) c.args.constant c.args.level
    (state c.choice.new.parser) c.in_ok-test-2.test (state c.chain.new.parser) c.in_ok-test-2.ensures.tree)
