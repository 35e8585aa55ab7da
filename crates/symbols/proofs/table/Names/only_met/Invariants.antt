use Rattle.std.proofs.Common.{◌≡◌, drop}
use Rattle.symbols.specs.Search.{met, only}
use Rattle.symbols.proofs.TableLemmas.{only_with}
use Rattle.symbols.proofs.table.Names.only_met.Given as goal

-- what was met so far, and what is still to come
abbrev pub invariant-loop-scope : goal.invariant-loop-scope
invariant-loop-scope l = only (met l.self l.name l.place l.scopes) ≡ only_with l.only (met l.self l.name l.place (drop l.scope-index l.scopes))
