use Rattle.vala_expressions.specs.Chains.{looseness}
use Rattle.vala_expressions.proofs.asks.Grammar.+upto.Given as goal

abbrev pub decreases-upto : goal.decreases-upto
decreases-upto g l = looseness l.tier
