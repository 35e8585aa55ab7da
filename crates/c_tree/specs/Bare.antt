-- Units apart from places: the same tree with each place put to 0.
use Rattle.std.specs.Prelude.{◌≡◌, map}
use Rattle.std.specs.Option.{option_map}
use Rattle.c_tree.specs.declared.names.Name.{Name}
use Rattle.c_tree.specs.declared.names.Span.{Span}
use Rattle.c_tree.specs.declared.names.Base.{Base}
use Rattle.c_tree.specs.declared.names.Base.TheVariants as base
use Rattle.c_tree.specs.declared.names.CType.{CType}
use Rattle.c_tree.specs.declared.operators.Prefix.{Prefix}
use Rattle.c_tree.specs.declared.operators.Prefix.TheVariants as prefix
use Rattle.c_tree.specs.declared.operators.PrefixOperator.{PrefixOperator}
use Rattle.c_tree.specs.declared.code.Expr.{Expr, roll-Expr}
use Rattle.c_tree.specs.declared.code.Shape.{Shape}
use Rattle.c_tree.specs.declared.code.Shape.TheVariants as shape
use Rattle.c_tree.specs.declared.code.Shape.TheOpen.{Shape-F, Suffix-F}
use Rattle.c_tree.specs.declared.code.Shape.TheFolds.{fold-Expr}
use Rattle.c_tree.specs.declared.code.Suffix.{Suffix}
use Rattle.c_tree.specs.declared.code.Suffix.TheVariants as suffix
use Rattle.c_tree.specs.declared.code.Choice.{Choice, roll-Choice}
use Rattle.c_tree.specs.declared.code.Link.{Link, roll-Link}
use Rattle.c_tree.specs.declared.code.Local.{Local}
use Rattle.c_tree.specs.declared.code.Call.{Call}
use Rattle.c_tree.specs.declared.code.Callee.{Callee}
use Rattle.c_tree.specs.declared.code.Callee.TheVariants as callee
use Rattle.c_tree.specs.declared.code.Case.{Case}
use Rattle.c_tree.specs.declared.code.Stmt.{Stmt}
use Rattle.c_tree.specs.declared.code.Stmt.TheVariants as stmt
use Rattle.c_tree.specs.declared.code.Stmt.TheOpen.{Stmt-F}
use Rattle.c_tree.specs.declared.code.Stmt.TheFolds.{fold-Block}
use Rattle.c_tree.specs.declared.code.Block.{Block, roll-Block}
use Rattle.c_tree.specs.declared.unit.Item.{Item}
use Rattle.c_tree.specs.declared.unit.Item.TheVariants as item
use Rattle.c_tree.specs.declared.unit.Member.{Member}
use Rattle.c_tree.specs.declared.unit.Parameter.{Parameter}
use Rattle.c_tree.specs.declared.unit.Signature.{Signature}
use Rattle.c_tree.specs.declared.unit.Unit.{Unit as CUnit}

-- the place of everything
abbrev pub nowhere : Span
nowhere = record { start = 0; end = 0 }

-- a name without its place
abbrev pub bare_name : Name → Name
bare_name x = record { text = x.text; span = nowhere }

-- the base of a type
abbrev pub bare_base : Base → Base
bare_base (base.Named x) = base.Named (bare_name x)
bare_base b = b

-- a type
abbrev pub bare_type : CType → CType
bare_type c = record { base = bare_base c.base; is_const = c.is_const; stars = c.stars; span = nowhere }

-- an operator before its operand
abbrev pub bare_operator : Prefix → Prefix
bare_operator (prefix.Cast c) = prefix.Cast (bare_type c)
bare_operator p = p

-- the same with where it stands
abbrev pub bare_prefix : PrefixOperator → PrefixOperator
bare_prefix p = record { prefix = bare_operator p.prefix; span = nowhere }

-- one level of a value whose parts are without places
abbrev pub bare_shape : Shape-F Shape Suffix Choice Expr Link → Shape
bare_shape (Shape-F.Number n) = shape.Number n
bare_shape (Shape-F.Character b) = shape.Character b
bare_shape (Shape-F.Text bytes) = shape.Text bytes
bare_shape (Shape-F.Constant c) = shape.Constant c
bare_shape (Shape-F.Variable x) = shape.Variable (bare_name x)
bare_shape (Shape-F.Function x) = shape.Function (bare_name x)
bare_shape (Shape-F.Member x) = shape.Member (bare_name x)
bare_shape (Shape-F.SizeOf c s) = shape.SizeOf (bare_type c) nowhere
bare_shape (Shape-F.Offset c x s) = shape.Offset (bare_type c) (bare_name x) nowhere
bare_shape (Shape-F.Prefix ps a) = shape.Prefix (map bare_prefix ps) a
bare_shape (Shape-F.Postfix a xs) = shape.Postfix a xs
bare_shape (Shape-F.Chain a ls) = shape.Chain a ls
bare_shape (Shape-F.Conditional cs e) = shape.Conditional cs e

-- one level of a suffix
abbrev pub bare_suffix : Suffix-F Shape Suffix Choice Expr Link → Suffix
bare_suffix (Suffix-F.Field x) = suffix.Field (bare_name x)
bare_suffix (Suffix-F.Arrow x) = suffix.Arrow (bare_name x)
bare_suffix (Suffix-F.Index i s) = suffix.Index i nowhere

-- a value, with nothing in it that has a place
abbrev pub bare_expr : Expr → Expr
bare_expr = fold-Expr Shape Suffix Choice Expr Link bare_shape bare_suffix roll-Choice (λ e. roll-Expr (record { shape = e.shape; span = nowhere })) roll-Link

-- a declaration
abbrev pub bare_local : Local → Local
bare_local l = record { declared = bare_type l.declared; name = bare_name l.name }

-- what is called
abbrev pub bare_callee : Callee → Callee
bare_callee (callee.Value a) = callee.Value (bare_expr a)
bare_callee (callee.Row x) = callee.Row (bare_name x)

-- a call
abbrev pub bare_call : Call → Call
bare_call c = record { callee = bare_callee c.callee; type_argument = option_map bare_type c.type_argument; arguments = map bare_expr c.arguments; span = nowhere }

-- a case of a `switch`
abbrev pub bare_case : Case → Case
bare_case c = record { number = c.number; label = bare_name c.label }

-- one level of a statement
abbrev pub bare_stmt : Stmt-F Stmt Block → Stmt
bare_stmt (Stmt-F.Assign a b) = stmt.Assign (bare_expr a) (bare_expr b)
bare_stmt (Stmt-F.Call c) = stmt.Call (bare_call c)
bare_stmt (Stmt-F.Store a c) = stmt.Store (bare_expr a) (bare_call c)
bare_stmt (Stmt-F.If a b o) = stmt.If (bare_expr a) b o
bare_stmt (Stmt-F.IfGoto a x) = stmt.IfGoto (bare_expr a) (bare_name x)
bare_stmt (Stmt-F.Goto x) = stmt.Goto (bare_name x)
bare_stmt (Stmt-F.Label x) = stmt.Label (bare_name x)
bare_stmt (Stmt-F.Switch a cs x) = stmt.Switch (bare_expr a) (map bare_case cs) (bare_name x)
bare_stmt (Stmt-F.Return s o) = stmt.Return nowhere (option_map bare_expr o)
bare_stmt (Stmt-F.Block b) = stmt.Block b

-- a block
abbrev pub bare_block : Block → Block
bare_block = fold-Block Stmt Block bare_stmt (λ b. roll-Block (record { locals = map bare_local b.locals; body = b.body; span = nowhere }))

-- a member of an enum
abbrev pub bare_member : Member → Member
bare_member m = record { name = bare_name m.name; number = m.number }

-- a parameter
abbrev pub bare_parameter : Parameter → Parameter
bare_parameter p = record { declared = bare_type p.declared; name = option_map bare_name p.name }

-- what a function takes and gives
abbrev pub bare_signature : Signature → Signature
bare_signature s = record { is_static = s.is_static; result = bare_type s.result; name = bare_name s.name; parameters = map bare_parameter s.parameters; span = nowhere }

-- an item
abbrev pub bare_item : Item → Item
bare_item (item.Include f) = item.Include f
bare_item (item.StructType x) = item.StructType (bare_name x)
bare_item (item.Struct s) = item.Struct (record { name = bare_name s.name; fields = map bare_local s.fields })
bare_item (item.Enumeration e) = item.Enumeration (record { members = map bare_member e.members; name = bare_name e.name })
bare_item (item.FunctionType s) = item.FunctionType (bare_signature s)
bare_item (item.Prototype s) = item.Prototype (bare_signature s)
bare_item (item.Variable v) = item.Variable (record { declared = bare_type v.declared; name = bare_name v.name; value = bare_expr v.value })
bare_item (item.InterfaceTable t) = item.InterfaceTable (record { name = bare_name t.name; init = bare_name t.init })
bare_item (item.Function f) = item.Function (record { signature = bare_signature f.signature; body = bare_block f.body })

-- a unit
abbrev pub bare : CUnit → CUnit
bare u = record { items = map bare_item u.items }

-- THE SAME UNIT apart from places: what a printed unit reads as.
abbrev pub SameUnit : CUnit → CUnit → Type 0
SameUnit a b = bare a ≡ bare b
