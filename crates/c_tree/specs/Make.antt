-- Trees from their parts.
use Rattle.std.specs.Prelude.{List, [], ◌∷◌}
use Rattle.c_tree.specs.declared.names.Span.{Span}
use Rattle.c_tree.specs.declared.names.Name.{Name}
use Rattle.c_tree.specs.declared.operators.BinaryOperator.{BinaryOperator}
use Rattle.c_tree.specs.declared.operators.PrefixOperator.{PrefixOperator}
use Rattle.c_tree.specs.declared.code.Expr.{Expr, out-Expr, roll-Expr}
use Rattle.c_tree.specs.declared.code.Shape.{Shape}
use Rattle.c_tree.specs.declared.code.Shape.TheVariants as shape
use Rattle.c_tree.specs.declared.code.Shape.TheOpen.{Suffix-F}
use Rattle.c_tree.specs.declared.code.Link.{Link, out-Link, roll-Link}
use Rattle.c_tree.specs.declared.code.Choice.{Choice, out-Choice, roll-Choice}
use Rattle.c_tree.specs.declared.code.Suffix.{Suffix, out-Suffix}
use Rattle.c_tree.specs.declared.code.Local.{Local}
use Rattle.c_tree.specs.declared.code.Stmt.{Stmt}
use Rattle.c_tree.specs.declared.code.Block.{Block, roll-Block}
use Rattle.c_tree.specs.Words.{Token, at, join}

-- the name that a token is
abbrev pub name_at : Token → Name
name_at t = record { text = t.bytes; span = at t }

-- a value by its shape and place
abbrev pub expr : Shape → Span → Expr
expr a s = roll-Expr (record { shape = a; span = s })

-- where a value stands
abbrev pub span_of : Expr → Span
span_of e = (out-Expr e).span

-- the shape of a value
abbrev pub shape_of : Expr → Shape
shape_of e = (out-Expr e).shape

-- the same value with brackets around it
abbrev pub bracketed : Span → Expr → Expr
bracketed s e = expr (shape_of e) s

-- an operator and the operand behind it
abbrev pub link : BinaryOperator → Expr → Link
link o e = roll-Link (record { operator = o; operand = e })

-- a condition and the value behind it
abbrev pub choice : Expr → Expr → Choice
choice a b = roll-Choice (record { test = a; yes = b })

-- a block
abbrev pub block : List Local → List Stmt → Span → Block
block ls ss s = roll-Block (record { locals = ls; body = ss; span = s })

-- where the last operand of a chain stands
abbrev pub last_operand : Span → List Link → Span
last_operand s [] = s
last_operand s (l ∷ ls) = last_operand (span_of (out-Link l).operand) ls

-- an operand alone is no chain
abbrev pub chained : Expr → List Link → Expr
chained a [] = a
chained a (l ∷ ls) = expr (shape.Chain a (l ∷ ls)) (join (span_of a) (last_operand (span_of a) (l ∷ ls)))

-- operators, the outermost first, before an operand
abbrev pub prefixed : List PrefixOperator → Expr → Expr
prefixed [] a = a
prefixed (p ∷ ps) a = expr (shape.Prefix (p ∷ ps) a) (join p.span (span_of a))

-- where one level of a suffix stands
abbrev pub suffix_layer_span : {A B C D E : Type 0} → Suffix-F A B C D E → Span
suffix_layer_span (Suffix-F.Field x) = x.span
suffix_layer_span (Suffix-F.Arrow x) = x.span
suffix_layer_span (Suffix-F.Index i s) = s

-- where the name or the brackets of a suffix stand
abbrev pub suffix_span : Suffix → Span
suffix_span x = suffix_layer_span (out-Suffix x)

-- where the last of a row of suffixes stands
abbrev pub last_suffix : Suffix → List Suffix → Span
last_suffix x [] = suffix_span x
last_suffix x (y ∷ xs) = last_suffix y xs

-- suffixes, the innermost first, behind a value
abbrev pub suffixed : Expr → List Suffix → Expr
suffixed a [] = a
suffixed a (x ∷ xs) = expr (shape.Postfix a (x ∷ xs)) (join (span_of a) (last_suffix x xs))

-- choices, and the value behind the last `:`
abbrev pub conditional : List Choice → Expr → Expr
conditional [] e = e
conditional (c ∷ cs) e = expr (shape.Conditional (c ∷ cs) e) (join (span_of (out-Choice c).test) (span_of e))
