-- Rows of tokens behind one another.
use Rattle.std.specs.Prelude.{ℕ, ◌+◌, true, Option, Some, None}
use Rattle.mending_readers.specs.Mending.{mend_then}
use Rattle.c_lexer.specs.declared.token.Sign.TheVariants as sign
use Rattle.c_tree.specs.declared.names.Span.{Span}
use Rattle.c_tree.specs.Names.{Names}
use Rattle.c_tree.specs.Words.{Token, Word, at, join}
use Rattle.c_grammar.specs.Parts.{Starred, Consts}
use Rattle.c_nodes.specs.declared.types.Stars.{Stars}
use Rattle.c_nodes.specs.Rows.{row_of}
use Rattle.c_cursor.specs.declared.sets.Set.TheVariants as set
use Rattle.c_cursor.specs.Gives.{seen_by}
use Rattle.c_cursor.specs.Reading.{Read, Place, one, read}

-- a row and one behind it
abbrev pub joined : Option Span → Option Span → Option Span
joined None r = r
joined (Some a) None = Some a
joined (Some a) (Some b) = Some (join a b)

-- no stars
abbrev pub no_stars : Stars
no_stars = record { count = 0; row = None }

-- a star behind others, and the `const` behind it
abbrev pub with_star : Stars → Token → Option Span → Stars
with_star a t r = record { count = a.count + 1; row = joined (joined a.row (Some (at t))) r }

-- stars behind others
abbrev pub with_stars : Stars → Starred → Stars
with_stars a s = record { count = a.count + s.stars; row = joined a.row (row_of s.word) }

-- where tokens that are read stand, with a row in front of them
unfoldable pub rows_behind : Option Span → Read Word → Read (Option Span)
rows_behind r o = seen_by (λ w. joined r (row_of w)) o

-- stars that are read, behind others
unfoldable pub stars_behind : Stars → Read Starred → Read Stars
stars_behind a o = seen_by (with_stars a) o

-- what follows a star behind others: any number of `const`
unfoldable pub star_behind : ℕ → Names → Stars → Token → ℕ → Place → Read Stars
star_behind e ns a t l s = mend_then (seen_by row_of (read e ns Consts l s)) (λ r z. Some (with_star a t r, z))

-- two stars
unfoldable pub two_stars : ℕ → Names → ℕ → Place → Read Stars
two_stars e ns l s = mend_then (one e ns (set.Sign sign.Star) l s)
    (λ p z. mend_then (star_behind e ns no_stars p l z) (λ a y. mend_then (one e ns (set.Sign sign.Star) l y) (λ q w. star_behind e ns a q l w)))

-- the base of a type that begins with a word of its own, behind these `const`
unfoldable pub key_base : ℕ → Names → Option Span → ℕ → Place → Read Token
key_base e ns None l s = one e ns set.KeyBase l s
key_base e ns (Some r) l s = one e ns (set.Base true) l s
