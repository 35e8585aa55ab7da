-- One literal more, and all of them.
use Rattle.std.proofs.Common.{map, subst, arith}
use Rattle.std.proofs.lemmas.List.{take_all}
use Rattle.c_meaning.specs.Runs.{with_literals}
use Rattle.c_resolver.specs.Shown.{literal_seen}
use Rattle.c_opening.specs.Opens.{Becomes}
use Rattle.c_opening.proofs.Shown.{literal_step}
use Rattle.c_opening.proofs.opening.Opening.add_literals.Goals as goal

pub loop-literal-preserved : goal.loop-literal-preserved
loop-literal-preserved c =
    literal_step c.args.self.now c.loop-literal.self c.add_literal.new.self c.args.literals.now c.loop-literal.literal-index c.literal-item.result
    c.loop-literal-test.true c.literal-item.is c.loop-literal.invariant c.in_ok-add_literal.ensures

pub returns : goal.returns
returns c =
    subst (λ xs. Becomes (λ s. with_literals s (map literal_seen xs)) c.args.self.now c.loop-literal.self)
    (take_all c.loop-literal.literal-index c.args.literals.now (omega arith)) c.loop-literal.invariant
