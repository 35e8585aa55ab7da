use Rattle.std.proofs.Common.{◌≡◌, ◌-◌, ◌==◌}
use Rattle.symbols.specs.Search.{is_inside}
use Rattle.symbols.proofs.TableLemmas.{any_within}
use Rattle.symbols.proofs.table.Names.is_inside.Given as goal

-- it is none of the scopes that were passed
abbrev pub invariant-loop-step : goal.invariant-loop-step
invariant-loop-step l = is_inside l.self l.scope l.home ≡ any_within l.self (λ y. y == l.home) (l.scope - l.step) l.at
