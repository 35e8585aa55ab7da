-- What the table of structs says.
use Rattle.std.specs.Prelude.{◌≡◌, ℕ, List, map}
use Rattle.std.specs.Option.{option_map}
use Rattle.name_table.specs.Names.{latest}
use Rattle.c_tree.specs.Library.{Field, Structure}
use Rattle.c_tree.specs.Env.{structure_named}
use Rattle.c_value_checker.specs.declared.structures.Field.{Field as FieldRow}
use Rattle.c_value_checker.specs.declared.structures.Structure.{Structure as StructureRow}

-- a field
abbrev pub field_seen : FieldRow → Field
field_seen f = record { name = f.name; kind = f.kind }

-- a struct
abbrev pub structure_seen : StructureRow → Structure
structure_seen s = record { name = s.name.now; fields = option_map (map field_seen) s.fields; cells = s.cells }

-- the index has the number of the first struct with each name
abbrev pub IsNumbered : List (List ℕ × ℕ) → List Structure → Type 0
IsNumbered numbers ss = (name : List ℕ) → option_map (λ f. f.meaning) (latest name numbers) ≡ structure_named 0 ss name
