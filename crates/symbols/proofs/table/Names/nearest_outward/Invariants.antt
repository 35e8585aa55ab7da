use Rattle.std.proofs.Common.{◌≡◌, ◌-◌}
use Rattle.symbols.specs.Search.{nearest, looked_in}
use Rattle.symbols.proofs.TableLemmas.{found_within}
use Rattle.symbols.proofs.table.Names.nearest_outward.Given as goal

-- none of the scopes that were passed has the name
abbrev pub invariant-loop-step : goal.invariant-loop-step
invariant-loop-step l = nearest l.self l.name l.place (looked_in l.self l.scope) ≡ found_within l.self l.name l.place (l.scope - l.step) l.at
