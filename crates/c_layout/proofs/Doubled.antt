-- Structs that double, computed: the greatest that are laid out, and the least that is not.
use Rattle.std.proofs.Common.{◌≡◌, refl, ℕ, zero, suc, ◌-◌, ◌^◌, true, false, List, [], ◌∷◌, ◌++◌, map}
use Rattle.c_tree.specs.declared.names.Base.TheVariants as base
use Rattle.c_tree.specs.declared.names.CType.{CType}
use Rattle.c_tree.specs.declared.names.Name.{Name}
use Rattle.c_tree.specs.declared.code.Local.{Local}
use Rattle.c_tree.specs.declared.unit.Item.{Item}
use Rattle.c_tree.specs.declared.unit.Item.TheVariants as item
use Rattle.c_tree.specs.declared.unit.Unit.{Unit as CUnit}
use Rattle.c_tree.specs.Bare.{nowhere}
use Rattle.c_layout.proofs.Texts.{asked, named, type}

-- a name by one number
abbrev short : ℕ → Name
short n = record { text = n ∷ []; span = nowhere }

abbrev local : CType → ℕ → Local
local c n = record { declared = c; name = short n }

-- `typedef struct _X X; struct _X { fields };`
abbrev struct : ℕ → List Local → List Item
struct n ls = item.StructType (short n) ∷ item.Struct (record { name = short n; fields = ls }) ∷ []

-- the struct with number 0 holds an `int`, and each further one the one before it twice
abbrev doubled : ℕ → List Item
doubled zero = struct 0 (local (type base.Int 0) 0 ∷ [])
doubled (suc n) = doubled n ++ struct (suc n) (local (named (n ∷ []) 0) 0 ∷ local (named (n ∷ []) 0) 1 ∷ [])

-- a field of each struct below a number
abbrev each : ℕ → List Local
each zero = []
each (suc n) = local (named (n ∷ []) 0) n ∷ each n

-- structs of one to 2^62 cells, and one of all but the last
abbrev wide : CUnit
wide = record { items = doubled 62 ++ struct 100 (each 62) }

limits : map (asked wide) (named (0 ∷ []) 0 ∷ named (61 ∷ []) 0 ∷ named (62 ∷ []) 0 ∷ named (62 ∷ []) 1 ∷ named (100 ∷ []) 0 ∷ [])
    ≡ (true, 1) ∷ (true, 2 ^ 61) ∷ (false, 2 ^ 62) ∷ (true, 1) ∷ (true, 2 ^ 62 - 1) ∷ []
limits = refl
