-- The functions of the library that have code, as the code keeps them.
use Rattle.std.specs.Prelude.{ℕ, Bool, true, false, List, map, Option, Some, None}
use Rattle.std.specs.Option.{option_map}
use Rattle.c_tree.specs.declared.code.Expr.{Expr}
use Rattle.c_tree.specs.declared.kinds.Kind.{Kind}
use Rattle.c_tree.specs.Library.{Row, RowParameter}
use Rattle.c_meaning.specs.Layout.{known}
use Rattle.c_meaning.specs.Rows.{declared_row}
use Rattle.c_body_checker.specs.declared.library.RowParameter.{RowParameter as Parameter}
use Rattle.c_body_checker.specs.declared.library.RowParameter.TheVariants as parameter
use Rattle.c_body_checker.specs.Rows.{parameter_seen}
use Rattle.c_code.specs.declared.code.Code.{Code}
use Rattle.c_code.specs.Resolved.{Bearings, in_kind, value_code}
use Rattle.c_code.specs.Statements.{Known}
use Rattle.c_resolver.specs.declared.library.LibraryCode.{LibraryCode}

-- a function: its name, and what it does
abbrev pub known_seen : LibraryCode → Known
known_seen r = record { function = r.function; name = r.name.now }

-- the parameters that a function is declared with
abbrev pub declared_parameters : List ℕ → Option (List RowParameter)
declared_parameters x = option_map (λ (r : Row). r.parameters) (declared_row x)

-- what the library declares for each function
abbrev pub declared_all : List LibraryCode → List (Option (List RowParameter))
declared_all rs = map (λ (r : LibraryCode). declared_parameters r.name.now) rs

-- what each function has for parameters
abbrev pub parameters_all : List LibraryCode → List (Option (List RowParameter))
parameters_all rs = map (λ (r : LibraryCode). Some (map parameter_seen r.parameters.now)) rs

-- an argument in the kind of its parameter, if it has one
abbrev pub argument_code : Bearings → Option (Option Kind) → Expr → Code
argument_code b None e = value_code b e
argument_code b (Some k) e = in_kind (known k) (value_code b e)

-- whether a parameter takes all arguments from one on
abbrev pub takes_rest : Parameter → Bool
takes_rest parameter.Any = true
takes_rest parameter.Pairs = true
takes_rest p = false
