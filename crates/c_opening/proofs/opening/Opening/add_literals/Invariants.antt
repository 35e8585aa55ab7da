-- The literals so far have blocks.
use Rattle.std.proofs.Common.{map, take}
use Rattle.c_meaning.specs.Runs.{with_literals}
use Rattle.c_resolver.specs.Shown.{literal_seen}
use Rattle.c_opening.specs.Opens.{Becomes}
use Rattle.c_opening.proofs.opening.Opening.add_literals.Given as goal

abbrev pub invariant-loop-literal : goal.invariant-loop-literal
invariant-loop-literal l = Becomes (λ s. with_literals s (map literal_seen (take l.literal-index l.literals))) l.initial.self l.self
