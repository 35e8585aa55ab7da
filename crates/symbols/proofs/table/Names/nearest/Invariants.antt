use Rattle.std.proofs.Common.{◌≡◌, drop}
use Rattle.symbols.specs.Search.{nearest}
use Rattle.symbols.proofs.table.Names.nearest.Given as goal

-- none of the scopes that were passed has the name
abbrev pub invariant-loop-scope : goal.invariant-loop-scope
invariant-loop-scope l = nearest l.self l.name l.place l.scopes ≡ nearest l.self l.name l.place (drop l.scope-index l.scopes)
