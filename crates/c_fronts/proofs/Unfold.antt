-- What is known of values and statements, one level after another.
use Rattle.std.proofs.Common.{◌≡◌, ◌∙◌, refl, sym, ap, List, map}
use Rattle.c_tree.specs.declared.names.Span.{Span}
use Rattle.c_tree.specs.declared.operators.BinaryOperator.{BinaryOperator}
use Rattle.c_tree.specs.declared.code.Expr.{Expr}
use Rattle.c_tree.specs.declared.code.Link.{Link}
use Rattle.c_tree.specs.declared.code.Choice.{Choice}
use Rattle.c_tree.specs.declared.code.Suffix.{Suffix, out-Suffix}
use Rattle.c_tree.specs.declared.code.Suffix.TheVariants as suffix
use Rattle.c_tree.specs.declared.code.Shape.{Shape, roll-Shape}
use Rattle.c_tree.specs.declared.code.Shape.TheVariants as shape
use Rattle.c_tree.specs.declared.code.Shape.TheOpen.{Shape-F, Suffix-F, Choice-F, Expr-F, Link-F}
use Rattle.c_tree.specs.declared.code.Shape.TheFolds.{fold-roll-Shape, fold-Shape, fold-Suffix, fold-Choice, fold-Link, fold_out-Expr}
use Rattle.c_tree.specs.declared.code.Shape.TheFolds.{fold_out-Suffix, fold_out-Choice, fold_out-Link, map-Shape, map-Suffix}
use Rattle.c_tree.specs.declared.code.Local.{Local}
use Rattle.c_tree.specs.declared.code.Stmt.{Stmt, roll-Stmt}
use Rattle.c_tree.specs.declared.code.Stmt.TheVariants as stmt
use Rattle.c_tree.specs.declared.code.Block.{Block}
use Rattle.c_tree.specs.declared.code.Stmt.TheOpen.{Stmt-F}
use Rattle.c_tree.specs.declared.code.Stmt.TheFolds.{fold-Stmt, fold-roll-Stmt, fold_out-Block, map-Stmt}
use Rattle.c_tree.specs.Make.{expr, shape_of, span_of, bracketed, link, choice, block}
use Rattle.c_tree.specs.Checks.{Checked, Known, KnownLink, KnownChoice, KnownSuffix, check_shape, check_suffix, checked}
use Rattle.c_tree.specs.Rules.{Body, check_stmt, check_block, checked_block}

abbrev know_choice : Choice-F Checked KnownSuffix KnownChoice Known KnownLink → KnownChoice
know_choice c = record { test = c.test; yes = c.yes }

abbrev know_expr : Expr-F Checked KnownSuffix KnownChoice Known KnownLink → Known
know_expr e = record { span = e.span; value = e.shape }

abbrev know_link : Link-F Checked KnownSuffix KnownChoice Known KnownLink → KnownLink
know_link l = record { operator = l.operator; operand = l.operand }

abbrev known_shape : Shape → Checked
known_shape = fold-Shape Checked KnownSuffix KnownChoice Known KnownLink check_shape check_suffix know_choice know_expr know_link

abbrev pub known_suffix : Suffix → KnownSuffix
known_suffix = fold-Suffix Checked KnownSuffix KnownChoice Known KnownLink check_shape check_suffix know_choice know_expr know_link

abbrev pub known_choice : Choice → KnownChoice
known_choice = fold-Choice Checked KnownSuffix KnownChoice Known KnownLink check_shape check_suffix know_choice know_expr know_link

abbrev pub known_link : Link → KnownLink
known_link = fold-Link Checked KnownSuffix KnownChoice Known KnownLink check_shape check_suffix know_choice know_expr know_link

abbrev pub known_layer : Shape-F Shape Suffix Choice Expr Link → Shape-F Checked KnownSuffix KnownChoice Known KnownLink
known_layer = map-Shape Shape Suffix Choice Expr Link Checked KnownSuffix KnownChoice Known KnownLink known_shape known_suffix known_choice checked known_link

abbrev known_suffix_layer : Suffix-F Shape Suffix Choice Expr Link → Suffix-F Checked KnownSuffix KnownChoice Known KnownLink
known_suffix_layer = map-Suffix Shape Suffix Choice Expr Link Checked KnownSuffix KnownChoice Known KnownLink known_shape known_suffix known_choice checked
    known_link

abbrev pub shape_at : Shape-F Shape Suffix Choice Expr Link → Shape
shape_at (Shape-F.Number n) = shape.Number n
shape_at (Shape-F.Character b) = shape.Character b
shape_at (Shape-F.Text z) = shape.Text z
shape_at (Shape-F.Constant c) = shape.Constant c
shape_at (Shape-F.Variable x) = shape.Variable x
shape_at (Shape-F.Function x) = shape.Function x
shape_at (Shape-F.Member x) = shape.Member x
shape_at (Shape-F.SizeOf c o) = shape.SizeOf c o
shape_at (Shape-F.Offset c x o) = shape.Offset c x o
shape_at (Shape-F.Prefix ps a) = shape.Prefix ps a
shape_at (Shape-F.Postfix a xs) = shape.Postfix a xs
shape_at (Shape-F.Chain a ls) = shape.Chain a ls
shape_at (Shape-F.Conditional cs e) = shape.Conditional cs e

rolls_at : (l : Shape-F Shape Suffix Choice Expr Link) → roll-Shape l ≡ shape_at l
rolls_at (Shape-F.Number n) = shape.rolls-Number n
rolls_at (Shape-F.Character b) = shape.rolls-Character b
rolls_at (Shape-F.Text z) = shape.rolls-Text z
rolls_at (Shape-F.Constant c) = shape.rolls-Constant c
rolls_at (Shape-F.Variable x) = shape.rolls-Variable x
rolls_at (Shape-F.Function x) = shape.rolls-Function x
rolls_at (Shape-F.Member x) = shape.rolls-Member x
rolls_at (Shape-F.SizeOf c o) = shape.rolls-SizeOf c o
rolls_at (Shape-F.Offset c x o) = shape.rolls-Offset c x o
rolls_at (Shape-F.Prefix ps a) = shape.rolls-Prefix ps a
rolls_at (Shape-F.Postfix a xs) = shape.rolls-Postfix a xs
rolls_at (Shape-F.Chain a ls) = shape.rolls-Chain a ls
rolls_at (Shape-F.Conditional cs e) = shape.rolls-Conditional cs e

abbrev pub suffix_at : Suffix-F Shape Suffix Choice Expr Link → Suffix
suffix_at (Suffix-F.Field x) = suffix.Field x
suffix_at (Suffix-F.Arrow x) = suffix.Arrow x
suffix_at (Suffix-F.Index i o) = suffix.Index i o

pub suffix_out_at : (l : Suffix-F Shape Suffix Choice Expr Link) → out-Suffix (suffix_at l) ≡ l
unfolding out-Suffix denote.Hole.Carrier.out
suffix_out_at (Suffix-F.Field x) = refl
suffix_out_at (Suffix-F.Arrow x) = refl
suffix_out_at (Suffix-F.Index i o) = refl

-- 1. Values

pub value_out : (e : Expr) → (checked e).value ≡ known_shape (shape_of e)
value_out e = ap (λ (q : Known). q.value)
    (fold_out-Expr Checked KnownSuffix KnownChoice Known KnownLink check_shape check_suffix know_choice know_expr know_link e)

pub span_out : (e : Expr) → (checked e).span ≡ span_of e
span_out e = ap (λ (q : Known). q.span) (fold_out-Expr Checked KnownSuffix KnownChoice Known KnownLink check_shape check_suffix know_choice know_expr
    know_link e)

pub value_at : (l : Shape-F Shape Suffix Choice Expr Link) (o : Span) → (checked (expr (shape_at l) o)).value ≡ check_shape (known_layer l)
value_at l o = value_out (expr (shape_at l) o) ∙ ap known_shape (sym (rolls_at l))
    ∙ fold-roll-Shape Checked KnownSuffix KnownChoice Known KnownLink check_shape check_suffix know_choice know_expr know_link l

pub bracketed_value : (e : Expr) (o : Span) → (checked (bracketed o e)).value ≡ (checked e).value
bracketed_value e o = value_out (bracketed o e) ∙ sym (value_out e)

pub link_known : (o : BinaryOperator) (b : Expr) → known_link (link o b) ≡ record { operator = o; operand = checked b }
link_known o b = fold_out-Link Checked KnownSuffix KnownChoice Known KnownLink check_shape check_suffix know_choice know_expr know_link (link o b)

pub choice_known : (a b : Expr) → known_choice (choice a b) ≡ record { test = checked a; yes = checked b }
choice_known a b = fold_out-Choice Checked KnownSuffix KnownChoice Known KnownLink check_shape check_suffix know_choice know_expr know_link (choice a b)

pub suffix_known : (l : Suffix-F Shape Suffix Choice Expr Link) → known_suffix (suffix_at l) ≡ check_suffix (known_suffix_layer l)
suffix_known l = fold_out-Suffix Checked KnownSuffix KnownChoice Known KnownLink check_shape check_suffix know_choice know_expr know_link (suffix_at l)
    ∙ ap (λ x. check_suffix (known_suffix_layer x)) (suffix_out_at l)

-- 2. Statements

abbrev pub body_of : Stmt → Body
body_of = fold-Stmt Body Body (check_stmt checked) check_block

abbrev pub body_layer : Stmt-F Stmt Block → Stmt-F Body Body
body_layer = map-Stmt Stmt Block Body Body body_of (checked_block checked)

abbrev pub stmt_at : Stmt-F Stmt Block → Stmt
stmt_at (Stmt-F.Assign a b) = stmt.Assign a b
stmt_at (Stmt-F.Call c) = stmt.Call c
stmt_at (Stmt-F.Store a c) = stmt.Store a c
stmt_at (Stmt-F.If a b o) = stmt.If a b o
stmt_at (Stmt-F.IfGoto a x) = stmt.IfGoto a x
stmt_at (Stmt-F.Goto x) = stmt.Goto x
stmt_at (Stmt-F.Label x) = stmt.Label x
stmt_at (Stmt-F.Switch a cs x) = stmt.Switch a cs x
stmt_at (Stmt-F.Return o e) = stmt.Return o e
stmt_at (Stmt-F.Block b) = stmt.Block b

stmt_rolls_at : (l : Stmt-F Stmt Block) → roll-Stmt l ≡ stmt_at l
stmt_rolls_at (Stmt-F.Assign a b) = stmt.rolls-Assign a b
stmt_rolls_at (Stmt-F.Call c) = stmt.rolls-Call c
stmt_rolls_at (Stmt-F.Store a c) = stmt.rolls-Store a c
stmt_rolls_at (Stmt-F.If a b o) = stmt.rolls-If a b o
stmt_rolls_at (Stmt-F.IfGoto a x) = stmt.rolls-IfGoto a x
stmt_rolls_at (Stmt-F.Goto x) = stmt.rolls-Goto x
stmt_rolls_at (Stmt-F.Label x) = stmt.rolls-Label x
stmt_rolls_at (Stmt-F.Switch a cs x) = stmt.rolls-Switch a cs x
stmt_rolls_at (Stmt-F.Return o e) = stmt.rolls-Return o e
stmt_rolls_at (Stmt-F.Block b) = stmt.rolls-Block b

pub body_at : (l : Stmt-F Stmt Block) → body_of (stmt_at l) ≡ check_stmt checked (body_layer l)
body_at l = ap body_of (sym (stmt_rolls_at l)) ∙ fold-roll-Stmt Body Body (check_stmt checked) check_block l

pub block_out : (ls : List Local) (ss : List Stmt) (o : Span) → checked_block checked (block ls ss o) ≡ check_block
    (record { locals = ls; body = map body_of ss; span = o })
block_out ls ss o = fold_out-Block Body Body (check_stmt checked) check_block (block ls ss o)
