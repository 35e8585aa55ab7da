use Rattle.std.proofs.Common.{◌≡◌, ◌+◌, drop}
use Rattle.std.specs.Option.{option_map}
use Rattle.symbols.specs.Outline.{first_at}
use Rattle.symbols.specs.Search.{first_of, is_declared}
use Rattle.symbols.proofs.table.Symbols.first.Given as goal

-- none of those that were passed has the name
abbrev pub invariant-loop-i : goal.invariant-loop-i
invariant-loop-i l = first_of l.self l.scope l.name l.place ≡ option_map (λ n. l.i + n) (first_at (is_declared l.scope l.name l.place) (drop l.i l.self))
