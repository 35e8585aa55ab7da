-- What stands in blocks.
use Rattle.std.specs.Prelude.{◌≡◌, ℕ, ◌-◌, ◌≤◌, ◌<◌, [], length, drop, Some}
use Rattle.c_tree.specs.Names.{Names}
use Rattle.c_parser.specs.declared.bodies.Begun.{Begun}
use Rattle.c_parser.specs.declared.bodies.Begun.TheVariants as begun
use Rattle.c_cursor.specs.declared.parser.Parser.{Parser}
use Rattle.c_cursor.specs.Gives.{state}
use Rattle.c_parser.specs.Pieces.{Parts, local_behind, statement_behind}
use Rattle.c_cursor.specs.Reading.{Read}
use Rattle.c_cursor.specs.Scopes.{names_of}

-- what a body gives, by its first declaration or statement
abbrev pub Begins : Read Parts → ℕ → Begun → Parser → Type 0
Begins o l (begun.Local n) p = (o ≡ local_behind p.end (names_of p.names) n.local l (state p)) × (n.local.name.text ≡ n.name.text.now)
Begins o l (begun.Statement x) p = o ≡ statement_behind p.end (names_of p.names) x l (state p)
Begins o l begun.Nothing p = o ≡ Some (([], []), state p)

-- where a declaration was read, fewer tokens are left
abbrev pub Shrinks : Begun → ℕ → ℕ → Type 0
Shrinks (begun.Local n) before after = after < before
Shrinks b before after = Unit {0}

-- these are names with others in front
abbrev pub Grown : Names → Names → Type 0
Grown a b = (length a ≤ length b) × (drop (length b - length a) b ≡ a)
