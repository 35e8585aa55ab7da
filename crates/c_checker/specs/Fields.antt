-- The fields of a struct, as the checker's table has them.
use Rattle.std.specs.Prelude.{ℕ, map, List}
use Rattle.c_tree.specs.declared.code.Local.{Local}
use Rattle.c_tree.specs.declared.names.Span.{Span}

-- the names of fields, and where each stands
abbrev pub named : List Local → List (List ℕ × Span)
named ls = map (λ l. (l.name.text, l.name.span)) ls
