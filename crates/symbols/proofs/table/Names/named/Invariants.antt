use Rattle.std.proofs.Common.{◌≡◌, drop, Ok}
use Rattle.symbols.specs.Types.{name_told, members_told}
use Rattle.symbols.proofs.table.Names.named.Given as goal

-- what the words that were passed name
abbrev pub invariant-loop-word : goal.invariant-loop-word
invariant-loop-word l = name_told l.self l.scope l.name ≡ members_told l.self l.scope (drop l.word-index l.rest) (Ok l.at)
