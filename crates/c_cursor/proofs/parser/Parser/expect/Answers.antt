use Rattle.mending_readers.specs.Mending.{Stopped}
use Rattle.c_nodes.specs.Seen.{seen}
use Rattle.c_cursor.specs.State.{rest, seen_option}
use Rattle.c_cursor.proofs.AcceptLaws.{asked_made, asked_taken}
use Rattle.c_cursor.proofs.TakeLaws.{asked_law, asked_at_law}
use Rattle.c_cursor.proofs.parser.Parser.expect.Goals as goal

pub returns-in-Some-clause-token : goal.returns-in-Some-clause-token
returns-in-Some-clause-token c = λ before asks. asked_taken c.args.set c.args.level before c.args.self.now c.accept.new.self c.in-Some.token
    c.in-Some.ensures.token

pub returns-in-Some-clause-took : goal.returns-in-Some-clause-took
returns-in-Some-clause-took c =
    asked_law c.args.set c.args.level c.args.self.now c.accept.new.self c.in-Some.token
    (λ before asks. asked_taken c.args.set c.args.level before c.args.self.now c.accept.new.self c.in-Some.token c.in-Some.ensures.token)

pub returns-in-None-clause-token : goal.returns-in-None-clause-token
returns-in-None-clause-token c = λ before asks.
    asked_made c.args.set c.args.level before c.args.self.now c.accept.new.self (seen c.made_up.result) (seen_option c.token.result) c.made_place.result asks
    c.in-None.ensures.token c.accept.ensures.ends c.token.ensures c.made_place.ensures c.made_up.ensures

pub returns-in-None-clause-took : goal.returns-in-None-clause-took
returns-in-None-clause-took c =
    asked_at_law c.args.set c.args.level c.args.self.now (Stopped (rest c.accept.new.self.cursor)) c.made_up.result
    (λ before asks. asked_made c.args.set c.args.level before c.args.self.now c.accept.new.self (seen c.made_up.result)
    (seen_option c.token.result) c.made_place.result asks
    c.in-None.ensures.token c.accept.ensures.ends c.token.ensures c.made_place.ensures c.made_up.ensures)
