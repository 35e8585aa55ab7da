-- What a call of a function of the library does to a run.
use Rattle.std.specs.Prelude.{◌≡◌, Bool, true, false, List, None}
use Rattle.c_tree.specs.Env.{Env}
use Rattle.c_meaning.specs.declared.cell.Cell.{Cell}
use Rattle.c_meaning.specs.State
use Rattle.c_meaning.specs.BlockRows as rows
use Rattle.c_code.specs.declared.program.LibraryFunction.{LibraryFunction}
use Rattle.c_code.specs.declared.program.LibraryFunction.TheVariants as library
use Rattle.c_code.specs.declared.program.TypeArgument.{TypeArgument}
use Rattle.c_code.specs.Statements.{first_of, row_of}
use Rattle.c_run_state.specs.declared.state.Run.{Run}
use Rattle.c_run_state.specs.Shows.{Shows}

-- the type before the arguments, as rows see it
abbrev pub type_of : TypeArgument → rows.TypeArgument
type_of a = record { cells = a.cells; first = first_of a.sliced }

-- A CALL: each run that is shown and goes on becomes what the function's row makes of it
abbrev pub Calls : LibraryFunction → TypeArgument → List Cell → Run → Run → Type 0
Calls function argument cells old new = (env : Env) (s : State.State) → s.ended ≡ None → Shows env old s → Shows env new (row_of function s (type_of argument) cells)

-- the functions that look at blocks alone: not at the input, the quarks or the struct that is made
abbrev pub is_of_blocks : LibraryFunction → Bool
is_of_blocks library.SliceNew = false
is_of_blocks library.ReadLine = false
is_of_blocks library.Quark = false
is_of_blocks f = true
