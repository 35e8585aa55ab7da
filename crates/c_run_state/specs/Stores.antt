-- Why cells are not stored in a block.
use Rattle.std.specs.Prelude.{List, Option, Some, None}
use Rattle.vg_base.specs.declared.event.UndefKind.{UndefKind}
use Rattle.vg_base.specs.declared.event.UndefKind.TheVariants as undef
use Rattle.c_meaning.specs.declared.cell.Cell.{Cell}

-- it is not live, or it has too few cells
abbrev pub no_store : Option (List Cell) → UndefKind
no_store None = undef.Freed
no_store (Some cells) = undef.Outside
