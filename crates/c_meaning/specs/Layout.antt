-- Layouts: how many cells a type takes, where its fields are, and which types are laid out.
use Rattle.std.specs.Prelude.{ℕ, List, Option, Some, None}
use Rattle.c_tree.specs.declared.names.CType.{CType}
use Rattle.c_tree.specs.declared.unit.Item.{Item}
use Rattle.c_tree.specs.declared.unit.Unit.{Unit as CUnit}
use Rattle.c_tree.specs.declared.kinds.KindBase.{KindBase}
use Rattle.c_tree.specs.declared.kinds.KindBase.TheVariants as base
use Rattle.c_tree.specs.declared.kinds.Kind.{Kind}
use Rattle.std.specs.Prelude.{[], ◌∷◌, Bool, false}
use Rattle.c_tree.specs.Kinds.{void}
use Rattle.c_tree.specs.Library.{Field}
use Rattle.c_tree.specs.Env.{Env, library, kind_of, cells_of, laid_out, fields_of}
use Rattle.c_tree.specs.Checks.{cells_before}
use Rattle.c_tree.specs.Unit.{with_item}

-- what is declared behind items
abbrev pub behind : Env → List Item → Env
behind env [] = env
behind env (i ∷ is) = behind (with_item env i) is

-- what is declared at the end of a unit
abbrev pub declared : CUnit → Env
declared unit = behind library unit.items

abbrev pub known : Option Kind → Kind
known None = void
known (Some k) = k

-- what a type of a well-formed unit means
abbrev pub kind : Env → CType → Kind
kind env c = known (kind_of env c)

-- THE CELLS of a type in a unit: one for a number, a pointer or a function, and for a struct those of its fields
abbrev pub cells : CUnit → CType → ℕ
cells unit c = cells_of (declared unit) (kind (declared unit) c)

abbrev pub known_laid_out : Env → Option Kind → Bool
known_laid_out env None = false
known_laid_out env (Some k) = laid_out env k

-- whether a type is LAID OUT: known, and with fewer than 2^62 cells; a struct cannot hold itself, since it is known behind its definition alone
abbrev pub is_laid_out : CUnit → CType → Bool
is_laid_out unit c = known_laid_out (declared unit) (kind_of (declared unit) c)

abbrev pub offset_in : Env → Option (List Field) → List ℕ → ℕ
offset_in env None x = 0
offset_in env (Some fs) x = cells_before env fs x

abbrev pub offset_by : Env → KindBase → List ℕ → ℕ
offset_by env (base.Struct n) x = offset_in env (fields_of env n) x
offset_by env b x = 0

-- the cells in front of a field of a struct
abbrev pub offset : Env → Kind → List ℕ → ℕ
offset env k x = offset_by env k.base x
