-- The order of the integer types.
use Rattle.std.specs.Prelude.{ℕ}
use Rattle.vala_types.specs.declared.types.IntKind.{IntKind}
use Rattle.vala_types.specs.declared.types.IntKind.TheVariants.{Int8, Char, Uint8, Int16, Uint16, Int32, Uint32, Long, Ulong, Int64, Uint64}

-- the rank: an integer goes by itself into a type of its own rank or a later one
abbrev pub rank : IntKind → ℕ
rank Int8 = 0
rank Char = 1
rank Uint8 = 2
rank Int16 = 3
rank Uint16 = 4
rank Int32 = 5
rank Uint32 = 6
rank Long = 7
rank Ulong = 8
rank Int64 = 9
rank Uint64 = 10
