-- Rows of tokens by where they begin and end.
use Rattle.std.specs.Prelude.{is_some, ◌||◌, List, [], ◌∷◌, Option, Some, None}
use Rattle.c_tree.specs.declared.names.CType.{CType}
use Rattle.c_tree.specs.declared.names.Span.{Span}
use Rattle.c_tree.specs.declared.code.Suffix.{Suffix}
use Rattle.c_tree.specs.Make.{suffix_span}
use Rattle.c_tree.specs.Words.{Token, Word, at, extent, join}
use Rattle.c_grammar.specs.Parts.{Starred}
use Rattle.c_grammar.specs.Trees.{base_of}
use Rattle.c_nodes.specs.declared.types.Stars.{Stars}

-- where tokens stand, if there are any
abbrev pub row_of : Word → Option Span
row_of [] = None
row_of (t ∷ w) = Some (extent (t ∷ w))

-- stars by how many they are and where they stand
abbrev pub stars_of : Starred → Stars
stars_of s = record { count = s.stars; row = row_of s.word }

-- a row, or what stands beside it where there is none
abbrev pub row_or : Option Span → Span → Span
row_or None s = s
row_or (Some r) s = r

-- the type of a base between rows
abbrev pub type_in_rows : Option Span → Token → Option Span → Stars → CType
type_in_rows before t behind s = record {
  base = base_of t;
  is_const = is_some before || is_some behind;
  stars = s.count;
  span = join (row_or before (at t)) (row_or s.row (row_or behind (at t)));
}

-- where the last of suffixes stands, behind one that stands there
abbrev pub suffix_end : Span → List Suffix → Span
suffix_end s [] = s
suffix_end s (x ∷ xs) = suffix_end (suffix_span x) xs
