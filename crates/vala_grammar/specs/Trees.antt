-- Nodes of the tree from their parts: what each stands on, and what its tokens say.
use Rattle.std.specs.Prelude.{ℕ, Bool, true, false, ◌&&◌, ◌==◌, if◌then◌else◌, List, [], ◌∷◌, ◌++◌, length, Option, Some, None, codes}
use Rattle.std.specs.List.{list_any}
use Rattle.vg_base.specs.declared.event.Span.{Span}
use Rattle.vala_lexer.specs.declared.token.TokenKind.{TokenKind}
use Rattle.vala_lexer.specs.declared.token.TokenKind.TheVariants as k
use Rattle.vala_lexer.specs.declared.token.IntegerType.{IntegerType}
use Rattle.vala_lexer.specs.declared.token.IntegerType.TheVariants as integer
use Rattle.vala_lexer.specs.Tokens.{Lexeme}
use Rattle.vala_lexer.specs.Texts.{text_value}
use Rattle.vala_tree.specs.declared.names.Identifier.{Identifier}
use Rattle.vala_tree.specs.declared.names.NameTree.{NameTree}
use Rattle.vala_tree.specs.declared.names.Element.{Element}
use Rattle.vala_tree.specs.declared.names.TypeShape.{TypeShape}
use Rattle.vala_tree.specs.declared.names.TypeShape.TheVariants as shape
use Rattle.vala_tree.specs.declared.names.TypeTree.{TypeTree}
use Rattle.vala_tree.specs.declared.operators.Ownership.{Ownership}
use Rattle.vala_tree.specs.declared.operators.Ownership.TheVariants as ownership
use Rattle.vala_tree.specs.declared.operators.IntegerKind.{IntegerKind}
use Rattle.vala_tree.specs.declared.operators.IntegerKind.TheVariants as kind
use Rattle.vala_tree.specs.declared.operators.PrefixOperator.{PrefixOperator}
use Rattle.vala_tree.specs.declared.operators.PrefixOperator.TheVariants as prefix
use Rattle.vala_tree.specs.declared.operators.PostfixOperator.{PostfixOperator}
use Rattle.vala_tree.specs.declared.operators.PostfixOperator.TheVariants as postfix
use Rattle.vala_tree.specs.declared.operators.BinaryOperator.{BinaryOperator}
use Rattle.vala_tree.specs.declared.operators.BinaryOperator.TheVariants as binary
use Rattle.vala_tree.specs.declared.operators.TypeOperator.{TypeOperator}
use Rattle.vala_tree.specs.declared.operators.TypeOperator.TheVariants as typed
use Rattle.vala_tree.specs.declared.operators.AssignOperator.{AssignOperator}
use Rattle.vala_tree.specs.declared.operators.AssignOperator.TheVariants as assign
use Rattle.vala_tree.specs.declared.code.Literal.{Literal}
use Rattle.vala_tree.specs.declared.code.Literal.TheVariants as literal
use Rattle.vala_tree.specs.declared.code.Expr.{Expr}
use Rattle.vala_tree.specs.declared.code.Expr.TheVariants as e
use Rattle.vala_tree.specs.declared.code.Primary.TheVariants as primary
use Rattle.vala_tree.specs.declared.code.Postfix.TheVariants as post
use Rattle.vala_tree.specs.declared.code.Operation.TheVariants as operation
use Rattle.vala_tree.specs.declared.code.LambdaBody.TheVariants as body
use Rattle.vala_tree.specs.declared.code.Argument.{Argument}
use Rattle.vala_tree.specs.declared.code.Arm.{Arm}
use Rattle.vala_tree.specs.declared.code.ArgumentMark.{ArgumentMark}
use Rattle.vala_tree.specs.declared.code.ArgumentMark.TheVariants as mark
use Rattle.vala_tree.specs.declared.code.Block.{Block}
use Rattle.vala_tree.specs.declared.code.Stmt.{Stmt}
use Rattle.vala_tree.specs.declared.code.Stmt.TheVariants as st
use Rattle.vala_tree.specs.declared.code.Selection.TheVariants as selection
use Rattle.vala_tree.specs.declared.code.Iteration.TheVariants as iteration
use Rattle.vala_tree.specs.declared.code.Jump.TheVariants as jump
use Rattle.vala_tree.specs.declared.code.Label.{Label}
use Rattle.vala_tree.specs.declared.code.Label.TheVariants as label
use Rattle.vala_tree.specs.declared.code.Section.{Section}
use Rattle.vala_tree.specs.declared.code.Declarator.{Declarator}
use Rattle.vala_tree.specs.declared.code.DeclaredType.{DeclaredType}
use Rattle.vala_tree.specs.declared.code.If.{roll-If}
use Rattle.vala_tree.specs.declared.code.Local.{roll-Local}
use Rattle.vala_tree.specs.declared.code.Catch.{Catch}
use Rattle.vala_tree.specs.declared.code.Try.{roll-Try}
use Rattle.vala_grammar.specs.declared.parts.Last.TheVariants as last
use Rattle.vala_grammar.specs.declared.parts.Chain.{Chain}
use Rattle.vala_grammar.specs.declared.parts.Arguments.{Arguments}
use Rattle.vala_grammar.specs.declared.parts.Listed.{Listed}
use Rattle.vala_grammar.specs.declared.parts.Tested.{Tested}
use Rattle.vala_grammar.specs.declared.parts.Ended.{Ended}
use Rattle.vala_grammar.specs.declared.parts.Branches.{Branches}
use Rattle.vala_grammar.specs.declared.parts.ForHead.{ForHead}
use Rattle.vala_grammar.specs.declared.parts.Beginning.{Beginning}
use Rattle.vala_grammar.specs.declared.parts.Beginning.TheVariants as beginning
use Rattle.vala_tree.specs.Spans.{expr_span, stmt_span}

-- from the first byte of one to the last of another
abbrev pub join : Span → Span → Span
join a b = record { file = a.file; start = a.start; «end» = b.«end» }

-- a word, without the `@` that makes a keyword one
abbrev pub word : List ℕ → List ℕ
word [] = []
word (b ∷ w) = if b == 64 then w else b ∷ w

abbrev pub identifier : Lexeme → Identifier
identifier t = record { text = word t.text; span = t.span }

-- ---- names and types

abbrev pub one_word : Lexeme → NameTree
one_word t = record { words = identifier t ∷ []; span = t.span }

abbrev pub one_more_word : NameTree → Lexeme → NameTree
one_more_word n t = record { words = n.words ++ identifier t ∷ []; span = join n.span t.span }

-- a name of one word
abbrev pub is_one_word : NameTree → Bool
is_one_word n = length n.words == 1

abbrev pub ownership_of : TokenKind → Ownership
ownership_of k.Owned = ownership.Owned
ownership_of k.Weak = ownership.Weak
ownership_of _ = ownership.Unowned

-- where a type begins: at the word in front, if there is one
abbrev pub begin : Option Lexeme → Span → Span
begin None s = s
begin (Some t) s = t.span

abbrev pub owned_by : Option Lexeme → Option Ownership
owned_by None = None
owned_by (Some t) = Some (ownership_of t.kind)

abbrev pub type_of : Option Lexeme → TypeShape → Span → Span → TypeTree
type_of o x first last = record { ownership = owned_by o; shape = x; span = join (begin o first) last }

-- the last place of a name and a mark behind it
abbrev pub behind : Span → Option Span → Span
behind s None = s
behind s (Some q) = q

abbrev pub is_some : Option Span → Bool
is_some None = false
is_some (Some q) = true

abbrev pub element : NameTree → Option Span → Element
element n q = record { name = n; is_nullable = is_some q; span = join n.span (behind n.span q) }

abbrev pub void_type : Option Lexeme → Lexeme → TypeTree
void_type o t = type_of o shape.Void t.span t.span

-- a name, and the mark behind it if there is one
abbrev pub single_type : Option Lexeme → NameTree → Option Span → TypeTree
single_type o n q = type_of o (shape.Single (element n q)) n.span (behind n.span q)

-- a name with its mark, `[]` that ends there, and the mark behind that
abbrev pub array_type : Option Lexeme → NameTree → Option Span → Span → Option Span → TypeTree
array_type o n q close r = type_of o (shape.Array (element n q) (is_some r)) n.span (behind close r)

-- ---- operands

abbrev pub integer_kind : IntegerType → IntegerKind
integer_kind integer.Int = kind.Int
integer_kind integer.Uint = kind.Uint
integer_kind integer.Long = kind.Long
integer_kind integer.Ulong = kind.Ulong
integer_kind integer.Int64 = kind.Int64
integer_kind integer.Uint64 = kind.Uint64

abbrev pub literal_of : Lexeme → Literal
literal_of t = by t.kind
  where
    by : TokenKind → Literal
    by (k.Integer v i) = literal.Integer v (integer_kind i)
    by (k.Character c) = literal.Character c
    by k.Text = literal.Text (text_value t.text)
    by k.True = literal.Boolean true
    by k.False = literal.Boolean false
    by _ = literal.Null

abbrev pub constant : Lexeme → Expr
constant t = e.Literal (literal_of t) t.span

abbrev pub name : Lexeme → Expr
name t = e.Name (word t.text) t.span

abbrev pub member : Expr → Identifier → Expr
member a x = e.Postfix (post.Member a x) (join (expr_span a) x.span)

-- names with dots between as an expression
abbrev pub members : Expr → List Identifier → Expr
members a [] = a
members a (x ∷ xs) = members (member a x) xs

abbrev pub names : NameTree → Expr
names n = by n.words
  where
    by : List Identifier → Expr
    by [] = e.Name [] n.span
    by (x ∷ xs) = members (e.Name x.text x.span) xs

abbrev pub plain : Expr → Chain
plain a = record { value = a; last = last.Plain }

-- names that may still be a type
abbrev pub alone : NameTree → Chain
alone n = record { value = names n; last = last.Alone }

abbrev pub this : Lexeme → Expr
this t = e.This t.span

abbrev pub base : Lexeme → Expr
base t = e.Base t.span

abbrev pub bracketed : Span → Expr → Span → Expr
bracketed opening a close = e.Primary (primary.Parenthesized a) (join opening close)

-- the spellings of the integer types
abbrev pub integer_types : List (List ℕ)
integer_types =
    codes "int8" ∷ codes "char" ∷ codes "uint8" ∷ codes "uchar" ∷ codes "int16" ∷ codes "short" ∷ codes "uint16" ∷ codes "ushort" ∷ codes "int" ∷ codes "int32" ∷ codes "uint" ∷ codes "uint32"
    ∷ codes "long" ∷ codes "ssize_t" ∷ codes "ulong" ∷ codes "size_t" ∷ codes "int64" ∷ codes "uint64" ∷ []

abbrev pub same_bytes : List ℕ → List ℕ → Bool
same_bytes [] [] = true
same_bytes (a ∷ x) (b ∷ y) = a == b && same_bytes x y
same_bytes _ _ = false

-- the name of an integer type
abbrev pub is_integer_type : NameTree → Bool
is_integer_type n = by n.words
  where
    by : List Identifier → Bool
    by (x ∷ []) = list_any (same_bytes x.text) integer_types
    by _ = false

-- names in brackets, which are no cast
abbrev pub bracketed_names : Span → NameTree → Span → Chain
bracketed_names opening n close = record { value = bracketed opening (names n) close; last = if is_integer_type n then last.Integer else last.Names }

abbrev pub yielded : Lexeme → Expr → Expr
yielded t a = e.Primary (primary.YieldCall a) (join t.span (expr_span a))

abbrev pub new_object : Lexeme → NameTree → Arguments → Expr
new_object t n xs = e.Primary (primary.New n xs.list) (join t.span xs.close)

abbrev pub new_array : Lexeme → NameTree → Option Span → Option Expr → Span → Expr
new_array t n q size close = e.Primary (primary.NewArray (record { element = element n q; length = size; list = None })) (join t.span close)

abbrev pub new_array_of : Lexeme → NameTree → Option Span → Option Expr → Listed → Expr
new_array_of t n q size xs = e.Primary (primary.NewArray (record { element = element n q; length = size; list = Some xs.list })) (join t.span xs.close)

-- what `{ .. }` initialises
abbrev pub list_in_braces : Lexeme → Listed → Expr
list_in_braces t xs = e.Primary (primary.List xs.list) (join t.span xs.close)

abbrev pub call : Expr → Arguments → Expr
call a xs = e.Postfix (post.Call a xs.list) (join (expr_span a) xs.close)

abbrev pub index : Expr → Expr → Lexeme → Expr
index a i t = e.Postfix (post.Index a i) (join (expr_span a) t.span)

abbrev pub step_of : TokenKind → PostfixOperator
step_of k.Increment = postfix.Increment
step_of _ = postfix.Decrement

abbrev pub step : Expr → Lexeme → Expr
step a t = e.Postfix (post.Step a (step_of t.kind)) (join (expr_span a) t.span)

-- ---- operators

abbrev pub prefix_of : TokenKind → PrefixOperator
prefix_of k.Plus = prefix.Plus
prefix_of k.Minus = prefix.Minus
prefix_of k.Not = prefix.Not
prefix_of k.Tilde = prefix.Complement
prefix_of k.Increment = prefix.Increment
prefix_of _ = prefix.Decrement

abbrev pub prefixed : Lexeme → Chain → Chain
prefixed t c = record { value = e.Operation (operation.Prefix (prefix_of t.kind) c.value) (join t.span (expr_span c.value)); last = c.last }

-- `(owned) a`
abbrev pub moved : Lexeme → Chain → Chain
moved opening c = record { value = e.Operation (operation.Prefix prefix.Owned c.value) (join opening.span (expr_span c.value)); last = c.last }

abbrev pub cast : Lexeme → TypeTree → Chain → Chain
cast opening y c = record { value = e.Operation (operation.Cast y c.value) (join opening.span (expr_span c.value)); last = c.last }

abbrev pub binary_of : TokenKind → BinaryOperator
binary_of k.Coalesce = binary.Coalesce
binary_of k.OrOr = binary.Or
binary_of k.AndAnd = binary.And
binary_of k.Bar = binary.BitOr
binary_of k.Caret = binary.BitXor
binary_of k.Ampersand = binary.BitAnd
binary_of k.Equal = binary.Equal
binary_of k.NotEqual = binary.Unequal
binary_of k.Less = binary.Less
binary_of k.Greater = binary.Greater
binary_of k.LessEqual = binary.AtMost
binary_of k.GreaterEqual = binary.AtLeast
binary_of k.ShiftLeft = binary.ShiftLeft
binary_of k.ShiftRight = binary.ShiftRight
binary_of k.Plus = binary.Add
binary_of k.Minus = binary.Subtract
binary_of k.Star = binary.Multiply
binary_of k.Slash = binary.Divide
binary_of _ = binary.Remainder

abbrev pub joined : Chain → Lexeme → Chain → Chain
joined a t b = record { value = e.Operation (operation.Binary (binary_of t.kind) a.value b.value) (join (expr_span a.value) (expr_span b.value)); last = b.last }

abbrev pub type_operator : TokenKind → TypeOperator
type_operator k.Is = typed.Is
type_operator _ = typed.As

abbrev pub tested : Chain → Lexeme → Tested → Chain
tested a t y = record { value = e.Operation (operation.Typed (type_operator t.kind) a.value y.tree) (join (expr_span a.value) y.tree.span); last = y.last }

abbrev pub conditional : Expr → Expr → Expr → Expr
conditional a b c = e.Operation (operation.Conditional a b c) (join (expr_span a) (expr_span c))

abbrev pub assign_of : TokenKind → AssignOperator
assign_of k.PlusAssign = assign.Add
assign_of k.MinusAssign = assign.Subtract
assign_of k.StarAssign = assign.Multiply
assign_of k.SlashAssign = assign.Divide
assign_of k.PercentAssign = assign.Remainder
assign_of k.AndAssign = assign.BitAnd
assign_of k.OrAssign = assign.BitOr
assign_of k.XorAssign = assign.BitXor
assign_of k.ShiftLeftAssign = assign.ShiftLeft
assign_of k.ShiftRightAssign = assign.ShiftRight
assign_of _ = assign.Assign

abbrev pub assigned : Expr → Lexeme → Expr → Expr
assigned a t b = e.Operation (operation.Assign (assign_of t.kind) a b) (join (expr_span a) (expr_span b))

-- a lambda, by where it begins, its parameters and what it gives or does
abbrev pub lambda_value : Span → List Identifier → Expr → Expr
lambda_value first xs a = e.Lambda xs (body.Value a) (join first (expr_span a))

abbrev pub lambda_code : Span → List Identifier → Block → Expr
lambda_code first xs b = e.Lambda xs (body.Code b) (join first b.span)

abbrev pub argument : Expr → Argument
argument a = record { mark = mark.Plain; value = a; span = expr_span a }

abbrev pub named_argument : Lexeme → Expr → Argument
named_argument t a = record { mark = mark.Named (identifier t); value = a; span = join t.span (expr_span a) }

abbrev pub mark_of : TokenKind → ArgumentMark
mark_of k.Out = mark.Out
mark_of _ = mark.Ref

abbrev pub marked_argument : Lexeme → Expr → Argument
marked_argument t a = record { mark = mark_of t.kind; value = a; span = join t.span (expr_span a) }

-- ---- statements

abbrev pub block : Lexeme → List Stmt → Lexeme → Block
block opening xs close = record { statements = xs; span = join opening.span close.span }

-- a statement that no `else` goes on with
abbrev pub ended : Stmt → Ended
ended s = record { statement = s; is_open = false }

abbrev pub expression : Expr → Lexeme → Stmt
expression a t = st.Expression a (join (expr_span a) t.span)

abbrev pub declarator : Lexeme → Declarator
declarator t = record { name = identifier t; value = None; span = t.span }

abbrev pub declarator_with : Lexeme → Expr → Declarator
declarator_with t a = record { name = identifier t; value = Some a; span = join t.span (expr_span a) }

abbrev pub declared_span : Span → List Declarator → Span
declared_span s [] = s
declared_span s (d ∷ []) = join s d.span
declared_span s (d ∷ ds) = declared_span s ds

-- a type or `var` where it begins, and the names
abbrev pub declared_locals : DeclaredType → Span → List Declarator → Beginning
declared_locals y s ds = beginning.Declared (roll-Local (record { declared = y; names = ds })) (declared_span s ds)

abbrev pub begun : Beginning → Lexeme → Stmt
begun (beginning.Declared d s) t = st.Local d (join s t.span)
begun (beginning.Expression a) t = expression a t

abbrev pub arm : Expr → Ended → Arm
arm c a = record { test = c; body = a.statement }

-- an arm alone
abbrev pub one_arm : Expr → Ended → Branches
one_arm c a = record { arms = arm c a ∷ []; no = None; is_open = true; «end» = stmt_span a.statement }

-- an arm in front of what stands behind its `else`
abbrev pub arm_before : Expr → Ended → Branches → Branches
arm_before c a b = record { arms = arm c a ∷ b.arms; no = b.no; is_open = b.is_open; «end» = b.«end» }

-- a statement behind a last `else`
abbrev pub last_branch : Ended → Branches
last_branch a = record { arms = []; no = Some a.statement; is_open = a.is_open; «end» = stmt_span a.statement }

abbrev pub if_of : Lexeme → Branches → Ended
if_of t b = record { statement = st.Selection (selection.If (roll-If (record { arms = b.arms; no = b.no }))) (join t.span b.«end»); is_open = b.is_open }

abbrev pub while_loop : Lexeme → Expr → Ended → Ended
while_loop t c a = record { statement = st.Iteration (iteration.While c a.statement) (join t.span (stmt_span a.statement)); is_open = a.is_open }

abbrev pub do_loop : Lexeme → Ended → Expr → Lexeme → Stmt
do_loop t a c close = st.Iteration (iteration.Do a.statement c) (join t.span close.span)

abbrev pub for_loop : Lexeme → ForHead → Ended → Ended
for_loop t h a = record { statement = st.Iteration (iteration.For (record { start = h.start; test = h.test; steps = h.steps; body = a.statement })) (join t.span (stmt_span a.statement)); is_open = a.is_open }

abbrev pub foreach_loop : Lexeme → DeclaredType → Lexeme → Expr → Ended → Ended
foreach_loop t y x over a = record { statement = st.Iteration (iteration.Foreach (record { declared = y; name = identifier x; over = over; body = a.statement })) (join t.span (stmt_span a.statement)); is_open = a.is_open }

abbrev pub label_span : Label → Span
label_span (label.Case a s) = s
label_span (label.Default s) = s

abbrev pub labels_span : Span → List Label → Span
labels_span s [] = s
labels_span s (x ∷ []) = join s (label_span x)
labels_span s (x ∷ xs) = labels_span s xs

abbrev pub statements_span : Span → List Stmt → Span
statements_span s [] = s
statements_span s (x ∷ []) = join s (stmt_span x)
statements_span s (x ∷ xs) = statements_span s xs

abbrev pub section : Label → List Label → List Stmt → Section
section x xs ss = record { labels = x ∷ xs; statements = ss; span = statements_span (labels_span (label_span x) xs) ss }

abbrev pub switch : Lexeme → Expr → List Section → Lexeme → Stmt
switch t a xs close = st.Selection (selection.Switch a xs) (join t.span close.span)

abbrev pub break_jump : Lexeme → Lexeme → Stmt
break_jump t close = st.Jump jump.Break (join t.span close.span)

abbrev pub continue_jump : Lexeme → Lexeme → Stmt
continue_jump t close = st.Jump jump.Continue (join t.span close.span)

abbrev pub yield_jump : Lexeme → Lexeme → Stmt
yield_jump t close = st.Jump jump.Yield (join t.span close.span)

abbrev pub return_jump : Lexeme → Option Expr → Lexeme → Stmt
return_jump t a close = st.Jump (jump.Return a) (join t.span close.span)

abbrev pub throw_jump : Lexeme → Expr → Lexeme → Stmt
throw_jump t a close = st.Jump (jump.Throw a) (join t.span close.span)

abbrev pub catch_all : Lexeme → Block → Catch
catch_all t b = record { caught = None; body = b; span = join t.span b.span }

abbrev pub catch_one : Lexeme → TypeTree → Lexeme → Block → Catch
catch_one t y x b = record { caught = Some (record { declared = y; name = identifier x }); body = b; span = join t.span b.span }

abbrev pub catches_span : Span → List Catch → Span
catches_span s [] = s
catches_span s (x ∷ []) = join s x.span
catches_span s (x ∷ xs) = catches_span s xs

abbrev pub try_block : Lexeme → Block → List Catch → Stmt
try_block t b xs = st.Try (roll-Try (record { body = b; clauses = xs; last = None })) (catches_span (join t.span b.span) xs)

abbrev pub try_finally : Lexeme → Block → List Catch → Block → Stmt
try_finally t b xs z = st.Try (roll-Try (record { body = b; clauses = xs; last = Some z })) (join t.span z.span)
