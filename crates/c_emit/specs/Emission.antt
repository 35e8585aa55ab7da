-- The unit of C that is written for a program: `main` prints its texts one after another and returns 0.
use Rattle.std.specs.Prelude.{ℕ, ◌==◌, false, if◌then◌else◌, List, [], ◌∷◌, ◌++◌, map, codes, Some, None}
use Rattle.std.specs.List.{flat_map}
use Rattle.c_lexer.specs.declared.token.NumberType.TheVariants.{Gint}
use Rattle.c_tree.specs.declared.names.Name.{Name}
use Rattle.c_tree.specs.declared.names.Base.{Base}
use Rattle.c_tree.specs.declared.names.Base.TheVariants as base
use Rattle.c_tree.specs.declared.names.CType.{CType}
use Rattle.c_tree.specs.declared.code.Expr.{Expr}
use Rattle.c_tree.specs.declared.code.Shape.{Shape}
use Rattle.c_tree.specs.declared.code.Shape.TheVariants as shape
use Rattle.c_tree.specs.declared.code.Call.{Call}
use Rattle.c_tree.specs.declared.code.Callee.TheVariants as callee
use Rattle.c_tree.specs.declared.code.Stmt.{Stmt}
use Rattle.c_tree.specs.declared.code.Stmt.TheVariants as stmt
use Rattle.c_tree.specs.declared.code.Block.{Block}
use Rattle.c_tree.specs.declared.unit.Function.{Function as Definition}
use Rattle.c_tree.specs.declared.unit.Include.TheVariants as include
use Rattle.c_tree.specs.declared.unit.Item.TheVariants as item
use Rattle.c_tree.specs.declared.unit.Parameter.{Parameter}
use Rattle.c_tree.specs.declared.unit.Signature.{Signature}
use Rattle.c_tree.specs.declared.unit.Unit.{Unit as CUnit}
use Rattle.c_tree.specs.Bare.{nowhere}
use Rattle.c_tree.specs.Make.{expr, block}
use Rattle.c_emit.specs.Program.{Program}

-- 1. Formats

-- a byte as a format that prints it: `%` twice, all else itself
abbrev pub format_byte : ℕ → List ℕ
format_byte b = if b == 37 then 37 ∷ 37 ∷ [] else b ∷ []

-- a text as a format that prints it
abbrev pub format_of : List ℕ → List ℕ
format_of text = flat_map format_byte text

-- 2. Parts

abbrev pub name : List ℕ → Name
name text = record { text = text; span = nowhere }

-- a type with so many `*`
abbrev pub type : Base → ℕ → CType
type b stars = record { base = b; is_const = false; stars = stars; span = nowhere }

abbrev pub value : Shape → Expr
value s = expr s nowhere

abbrev pub parameter : CType → List ℕ → Parameter
parameter t x = record { declared = t; name = Some (name x) }

-- `int main (int argc, char **argv)`
abbrev pub main_signature : Signature
main_signature =
    record {
      is_static = false;
      result = type base.Int 0;
      name = name (codes "main");
      parameters = parameter (type base.Int 0) (codes "argc") ∷ parameter (type base.Char 2) (codes "argv") ∷ [];
      span = nowhere;
    }

-- `g_print ("TEXT")`
abbrev pub print_call : List ℕ → Call
print_call text = record { callee = callee.Row (name (codes "g_print")); type_argument = None; arguments = value (shape.Text (format_of text)) ∷ []; span = nowhere }

-- `return 0;`
abbrev pub return_zero : Stmt
return_zero = stmt.Return nowhere (Some (value (shape.Number (record { value = 0; kind = Gint }))))

-- the statement that prints a text
abbrev pub print_stmt : List ℕ → Stmt
print_stmt text = stmt.Call (print_call text)

-- the statements of `main`
abbrev pub statements : Program → List Stmt
statements program = map print_stmt program ++ return_zero ∷ []

abbrev pub main_body : Program → Block
main_body program = block [] (statements program) nowhere

abbrev pub main_function : Program → Definition
main_function program = record { signature = main_signature; body = main_body program }

-- 3. The unit

-- THE UNIT of a program, without places
abbrev pub unit_of : Program → CUnit
unit_of program = record { items = item.Include include.Glib ∷ item.Function (main_function program) ∷ [] }
