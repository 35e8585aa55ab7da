-- The text literals and the locals of trees, one level after another.
use Rattle.std.proofs.Common.{◌≡◌, ◌∙◌, refl, sym, ap, ℕ, List, [], ◌∷◌, ◌++◌, map, append-nil}
use Rattle.c_tree.specs.declared.names.Span.{Span}
use Rattle.c_tree.specs.declared.operators.BinaryOperator.{BinaryOperator}
use Rattle.c_tree.specs.declared.operators.PrefixOperator.{PrefixOperator}
use Rattle.c_tree.specs.declared.code.Expr.{Expr}
use Rattle.c_tree.specs.declared.code.Link.{Link}
use Rattle.c_tree.specs.declared.code.Choice.{Choice, out-Choice}
use Rattle.c_tree.specs.declared.code.Suffix.{Suffix, out-Suffix}
use Rattle.c_tree.specs.declared.code.Suffix.TheVariants as suffix
use Rattle.c_tree.specs.declared.code.Shape.{Shape, out-Shape, roll-Shape}
use Rattle.c_tree.specs.declared.code.Shape.TheVariants as shape
use Rattle.c_tree.specs.declared.code.Shape.TheOpen.{Shape-F, Suffix-F}
use Rattle.c_tree.specs.declared.code.Shape.TheFolds.{fold-roll-Shape, fold-Shape, fold-Suffix, fold-Choice, fold-Link, fold_out-Expr, fold_out-Shape, fold_out-Suffix, fold_out-Choice, fold_out-Link, map-Shape, map-Suffix}
use Rattle.c_tree.specs.declared.code.Local.{Local}
use Rattle.c_tree.specs.declared.code.Stmt.{Stmt, roll-Stmt}
use Rattle.c_tree.specs.declared.code.Stmt.TheVariants as stmt
use Rattle.c_tree.specs.declared.code.Block.{Block}
use Rattle.c_tree.specs.declared.code.Stmt.TheOpen.{Stmt-F}
use Rattle.c_tree.specs.declared.code.Stmt.TheFolds.{fold-Stmt, fold-roll-Stmt, fold_out-Block, map-Stmt}
use Rattle.c_tree.specs.Make.{expr, shape_of, span_of, link, choice, chained, prefixed, suffixed, conditional, last_operand, last_suffix, block}
use Rattle.c_tree.specs.Words.{join}
use Rattle.c_meaning.specs.State.{Literal}
use Rattle.c_meaning.specs.Code.{link_texts, shape_texts, suffix_texts, choice_texts, expr_texts, operand_texts, texts_of, stmt_texts, texts_in, block_texts, stmt_locals, block_locals, flat_locals, locals_of}

-- 1. Levels

-- a shape from one level of it
abbrev pub shape_at : Shape-F Shape Suffix Choice Expr Link → Shape
shape_at (Shape-F.Number n) = shape.Number n
shape_at (Shape-F.Character b) = shape.Character b
shape_at (Shape-F.Text z) = shape.Text z
shape_at (Shape-F.Constant c) = shape.Constant c
shape_at (Shape-F.Variable x) = shape.Variable x
shape_at (Shape-F.Function x) = shape.Function x
shape_at (Shape-F.Member x) = shape.Member x
shape_at (Shape-F.SizeOf c o) = shape.SizeOf c o
shape_at (Shape-F.Offset c x o) = shape.Offset c x o
shape_at (Shape-F.Prefix ps a) = shape.Prefix ps a
shape_at (Shape-F.Postfix a xs) = shape.Postfix a xs
shape_at (Shape-F.Chain a ls) = shape.Chain a ls
shape_at (Shape-F.Conditional cs e) = shape.Conditional cs e

rolls_at : (l : Shape-F Shape Suffix Choice Expr Link) → roll-Shape l ≡ shape_at l
rolls_at (Shape-F.Number n) = shape.rolls-Number n
rolls_at (Shape-F.Character b) = shape.rolls-Character b
rolls_at (Shape-F.Text z) = shape.rolls-Text z
rolls_at (Shape-F.Constant c) = shape.rolls-Constant c
rolls_at (Shape-F.Variable x) = shape.rolls-Variable x
rolls_at (Shape-F.Function x) = shape.rolls-Function x
rolls_at (Shape-F.Member x) = shape.rolls-Member x
rolls_at (Shape-F.SizeOf c o) = shape.rolls-SizeOf c o
rolls_at (Shape-F.Offset c x o) = shape.rolls-Offset c x o
rolls_at (Shape-F.Prefix ps a) = shape.rolls-Prefix ps a
rolls_at (Shape-F.Postfix a xs) = shape.rolls-Postfix a xs
rolls_at (Shape-F.Chain a ls) = shape.rolls-Chain a ls
rolls_at (Shape-F.Conditional cs e) = shape.rolls-Conditional cs e

abbrev pub suffix_at : Suffix-F Shape Suffix Choice Expr Link → Suffix
suffix_at (Suffix-F.Field x) = suffix.Field x
suffix_at (Suffix-F.Arrow x) = suffix.Arrow x
suffix_at (Suffix-F.Index i o) = suffix.Index i o

pub suffix_out_at : (l : Suffix-F Shape Suffix Choice Expr Link) → out-Suffix (suffix_at l) ≡ l
unfolding out-Suffix denote.Hole.Carrier.out
suffix_out_at (Suffix-F.Field x) = refl
suffix_out_at (Suffix-F.Arrow x) = refl
suffix_out_at (Suffix-F.Index i o) = refl

-- 2. The literals of values

-- the literals of a shape, by where its value stands
abbrev Texts : Type 0
Texts = List Literal

abbrev pub shape_of_texts : Shape → ℕ → Texts
shape_of_texts = fold-Shape (ℕ → Texts) Texts Texts Texts Texts shape_texts suffix_texts choice_texts expr_texts operand_texts

abbrev pub suffix_literals : Suffix → Texts
suffix_literals = fold-Suffix (ℕ → Texts) Texts Texts Texts Texts shape_texts suffix_texts choice_texts expr_texts operand_texts

abbrev pub choice_literals : Choice → Texts
choice_literals = fold-Choice (ℕ → Texts) Texts Texts Texts Texts shape_texts suffix_texts choice_texts expr_texts operand_texts

abbrev pub link_literals : Link → Texts
link_literals = fold-Link (ℕ → Texts) Texts Texts Texts Texts shape_texts suffix_texts choice_texts expr_texts operand_texts

-- a level with the literals of its parts
abbrev pub Level : Type 0
Level = Shape-F (ℕ → Texts) Texts Texts Texts Texts

abbrev pub literal_layer : Shape-F Shape Suffix Choice Expr Link → Level
literal_layer = map-Shape Shape Suffix Choice Expr Link (ℕ → Texts) Texts Texts Texts Texts shape_of_texts suffix_literals choice_literals texts_of link_literals

abbrev suffix_layer : Suffix-F Shape Suffix Choice Expr Link → Suffix-F (ℕ → Texts) Texts Texts Texts Texts
suffix_layer = map-Suffix Shape Suffix Choice Expr Link (ℕ → Texts) Texts Texts Texts Texts shape_of_texts suffix_literals choice_literals texts_of link_literals

pub texts_out : (e : Expr) → texts_of e ≡ shape_of_texts (shape_of e) (span_of e).start
texts_out e = fold_out-Expr (ℕ → Texts) Texts Texts Texts Texts shape_texts suffix_texts choice_texts expr_texts operand_texts e

pub shape_out : (s : Shape) → shape_of_texts s ≡ shape_texts (literal_layer (out-Shape s))
shape_out s = fold_out-Shape (ℕ → Texts) Texts Texts Texts Texts shape_texts suffix_texts choice_texts expr_texts operand_texts s

pub texts_at : (l : Shape-F Shape Suffix Choice Expr Link) (o : Span) → texts_of (expr (shape_at l) o) ≡ shape_texts (literal_layer l) o.start
texts_at l o = texts_out (expr (shape_at l) o) ∙ ap (λ (s : Shape). shape_of_texts s o.start) (sym (rolls_at l))
    ∙ ap (λ (f : ℕ → Texts). f o.start) (fold-roll-Shape (ℕ → Texts) Texts Texts Texts Texts shape_texts suffix_texts choice_texts expr_texts operand_texts l)

-- a value in brackets, and the same value, by its level
pub level_out : (e : Expr) → texts_of e ≡ shape_texts (literal_layer (out-Shape (shape_of e))) (span_of e).start
level_out e = texts_out e ∙ ap (λ (f : ℕ → Texts). f (span_of e).start) (shape_out (shape_of e))

pub link_at : (o : BinaryOperator) (b : Expr) → link_literals (link o b) ≡ texts_of b
link_at o b = fold_out-Link (ℕ → Texts) Texts Texts Texts Texts shape_texts suffix_texts choice_texts expr_texts operand_texts (link o b)

pub choice_at : (a b : Expr) → choice_literals (choice a b) ≡ texts_of a ++ texts_of b
choice_at a b = fold_out-Choice (ℕ → Texts) Texts Texts Texts Texts shape_texts suffix_texts choice_texts expr_texts operand_texts (choice a b)

pub suffix_literals_at : (l : Suffix-F Shape Suffix Choice Expr Link) → suffix_literals (suffix_at l) ≡ suffix_texts (suffix_layer l)
suffix_literals_at l = fold_out-Suffix (ℕ → Texts) Texts Texts Texts Texts shape_texts suffix_texts choice_texts expr_texts operand_texts (suffix_at l)
    ∙ ap (λ x. suffix_texts (suffix_layer x)) (suffix_out_at l)

pub chained_texts : (a : Expr) (ls : List Link) → texts_of (chained a ls) ≡ texts_of a ++ link_texts (map link_literals ls)
chained_texts a [] = sym (append-nil (texts_of a))
chained_texts a (l ∷ ls) = texts_at (Shape-F.Chain a (l ∷ ls)) (join (span_of a) (last_operand (span_of a) (l ∷ ls)))

pub prefixed_texts : (ps : List PrefixOperator) (a : Expr) → texts_of (prefixed ps a) ≡ texts_of a
prefixed_texts [] a = refl
prefixed_texts (p ∷ ps) a = texts_at (Shape-F.Prefix (p ∷ ps) a) (join p.span (span_of a))

pub suffixed_texts : (a : Expr) (xs : List Suffix) → texts_of (suffixed a xs) ≡ texts_of a ++ link_texts (map suffix_literals xs)
suffixed_texts a [] = sym (append-nil (texts_of a))
suffixed_texts a (x ∷ xs) = texts_at (Shape-F.Postfix a (x ∷ xs)) (join (span_of a) (last_suffix x xs))

pub conditional_texts : (cs : List Choice) (e : Expr) → texts_of (conditional cs e) ≡ link_texts (map choice_literals cs) ++ texts_of e
conditional_texts [] e = refl
conditional_texts (c ∷ cs) e = texts_at (Shape-F.Conditional (c ∷ cs) e) (join (span_of (out-Choice c).test) (span_of e))

-- 3. Statements

abbrev pub stmt_at : Stmt-F Stmt Block → Stmt
stmt_at (Stmt-F.Assign a b) = stmt.Assign a b
stmt_at (Stmt-F.Call c) = stmt.Call c
stmt_at (Stmt-F.Store a c) = stmt.Store a c
stmt_at (Stmt-F.If a b o) = stmt.If a b o
stmt_at (Stmt-F.IfGoto a x) = stmt.IfGoto a x
stmt_at (Stmt-F.Goto x) = stmt.Goto x
stmt_at (Stmt-F.Label x) = stmt.Label x
stmt_at (Stmt-F.Switch a cs x) = stmt.Switch a cs x
stmt_at (Stmt-F.Return o e) = stmt.Return o e
stmt_at (Stmt-F.Block b) = stmt.Block b

stmt_rolls_at : (l : Stmt-F Stmt Block) → roll-Stmt l ≡ stmt_at l
stmt_rolls_at (Stmt-F.Assign a b) = stmt.rolls-Assign a b
stmt_rolls_at (Stmt-F.Call c) = stmt.rolls-Call c
stmt_rolls_at (Stmt-F.Store a c) = stmt.rolls-Store a c
stmt_rolls_at (Stmt-F.If a b o) = stmt.rolls-If a b o
stmt_rolls_at (Stmt-F.IfGoto a x) = stmt.rolls-IfGoto a x
stmt_rolls_at (Stmt-F.Goto x) = stmt.rolls-Goto x
stmt_rolls_at (Stmt-F.Label x) = stmt.rolls-Label x
stmt_rolls_at (Stmt-F.Switch a cs x) = stmt.rolls-Switch a cs x
stmt_rolls_at (Stmt-F.Return o e) = stmt.rolls-Return o e
stmt_rolls_at (Stmt-F.Block b) = stmt.rolls-Block b

abbrev pub stmt_literals : Stmt → Texts
stmt_literals = fold-Stmt Texts Texts (stmt_texts texts_of) texts_in

abbrev pub literal_stmt : Stmt-F Stmt Block → Stmt-F Texts Texts
literal_stmt = map-Stmt Stmt Block Texts Texts stmt_literals (block_texts texts_of)

pub stmt_texts_at : (l : Stmt-F Stmt Block) → stmt_literals (stmt_at l) ≡ stmt_texts texts_of (literal_stmt l)
stmt_texts_at l = ap stmt_literals (sym (stmt_rolls_at l)) ∙ fold-roll-Stmt Texts Texts (stmt_texts texts_of) texts_in l

pub block_texts_at : (ls : List Local) (ss : List Stmt) (o : Span) → block_texts texts_of (block ls ss o) ≡ link_texts (map stmt_literals ss)
block_texts_at ls ss o = fold_out-Block Texts Texts (stmt_texts texts_of) texts_in (block ls ss o)

abbrev pub locals_in : Stmt → List Local
locals_in = fold-Stmt (List Local) (List Local) stmt_locals block_locals

abbrev pub local_stmt : Stmt-F Stmt Block → Stmt-F (List Local) (List Local)
local_stmt = map-Stmt Stmt Block (List Local) (List Local) locals_in locals_of

pub stmt_locals_at : (l : Stmt-F Stmt Block) → locals_in (stmt_at l) ≡ stmt_locals (local_stmt l)
stmt_locals_at l = ap locals_in (sym (stmt_rolls_at l)) ∙ fold-roll-Stmt (List Local) (List Local) stmt_locals block_locals l

pub block_locals_at : (ls : List Local) (ss : List Stmt) (o : Span) → locals_of (block ls ss o) ≡ ls ++ flat_locals (map locals_in ss)
block_locals_at ls ss o = fold_out-Block (List Local) (List Local) stmt_locals block_locals (block ls ss o)
