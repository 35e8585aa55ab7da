use Rattle.std.proofs.Common.{◌≡◌, ◌-◌}
use Rattle.symbols.specs.Search.{is_derived, is_in_derived}
use Rattle.symbols.proofs.TableLemmas.{any_within}
use Rattle.symbols.proofs.table.Names.is_in_derived.Given as goal

-- none of the scopes that were passed is derived from it
abbrev pub invariant-loop-step : goal.invariant-loop-step
invariant-loop-step l = is_in_derived l.self l.scope l.home ≡ any_within l.self (is_derived l.self l.home) (l.scope - l.step) l.at
