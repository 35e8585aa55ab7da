-- How declarations, calls and statements are written: each on a line of its own, further in within a block.
use Rattle.std.specs.Prelude.{ℕ, zero, suc, ◌+◌, nat_lt, if◌then◌else◌, List, [], ◌∷◌, ◌++◌, Option, Some, None}
use Rattle.c_lexer.specs.declared.token.Keyword.{Keyword}
use Rattle.c_lexer.specs.declared.token.Keyword.TheVariants as keyword
use Rattle.c_lexer.specs.declared.token.Sign.TheVariants as sign
use Rattle.c_tree.specs.declared.names.CType.{CType}
use Rattle.c_tree.specs.declared.names.Name as tree
use Rattle.c_tree.specs.declared.names.SignedNumber.{SignedNumber}
use Rattle.c_tree.specs.declared.operators.Level.TheVariants as level
use Rattle.c_tree.specs.declared.code.Expr.{Expr}
use Rattle.c_tree.specs.declared.code.Local.{Local}
use Rattle.c_tree.specs.declared.code.Callee.{Callee}
use Rattle.c_tree.specs.declared.code.Callee.TheVariants as callee
use Rattle.c_tree.specs.declared.code.Call.{Call}
use Rattle.c_tree.specs.declared.code.Case.{Case}
use Rattle.c_tree.specs.declared.code.Stmt.{Stmt}
use Rattle.c_tree.specs.declared.code.Stmt.TheOpen.{Stmt-F, Block-F}
use Rattle.c_tree.specs.declared.code.Stmt.TheFolds.{fold-Stmt, fold-Block}
use Rattle.c_tree.specs.declared.code.Block.{Block}
use Rattle.c_printer.specs.declared.grade.Brackets.{Brackets}
use Rattle.c_printer.specs.declared.grade.Place.TheVariants.{Operand, BehindPrefix}
use Rattle.c_printer.specs.Marks.{Marks, Name, AKeyword, Number, ASign, Space, Line}
use Rattle.c_printer.specs.PutValues.{type_marks, in_brackets, placed, printed, value_marks, arguments_marks, more_arguments_marks, spaced}

-- 1. Declarations

-- a space in front of a name that stands behind no `*`
abbrev pub before_name : ℕ → Marks
before_name zero = Space ∷ []
before_name (suc n) = []

-- `x;`
abbrev pub name_ended : tree.Name → Marks
name_ended x = Name x.text ∷ ASign sign.Semicolon ∷ []

-- `gchar *`, in front of a name
abbrev pub declared_marks : CType → Marks
declared_marks c = type_marks c ++ before_name c.stars

-- `gchar *x;`
abbrev pub local_marks : Local → Marks
local_marks l = declared_marks l.declared ++ name_ended l.name

-- each on a line
abbrev pub locals_marks : ℕ → List Local → Marks
locals_marks n [] = []
locals_marks n (l ∷ ls) = Line n ∷ local_marks l ++ locals_marks n ls

-- 2. Calls

-- what is called
abbrev pub callee_marks : Brackets → Callee → Marks
callee_marks style (callee.Value a) = placed style BehindPrefix (printed style a)
callee_marks style (callee.Row x) = Name x.text ∷ []

-- a type, and values behind it
abbrev pub type_and_more_marks : Brackets → CType → List Expr → Marks
type_and_more_marks style c es = type_marks c ++ more_arguments_marks style es

-- what stands between the brackets
abbrev pub between_marks : Brackets → Option CType → List Expr → Marks
between_marks style None es = arguments_marks style es
between_marks style (Some c) es = type_and_more_marks style c es

-- `f (a, b)`
abbrev pub call_marks : Brackets → Call → Marks
call_marks style c = callee_marks style c.callee ++ Space ∷ in_brackets (between_marks style c.type_argument c.arguments)

-- 3. Simple statements

-- a number with its sign
abbrev pub number_marks : SignedNumber → Marks
number_marks x = if x.is_negative then ASign sign.Minus ∷ Number x.number.value x.number.kind ∷ [] else Number x.number.value x.number.kind ∷ []

-- `goto L;`
abbrev pub goto_marks : tree.Name → Marks
goto_marks x = AKeyword keyword.Goto ∷ Space ∷ name_ended x

-- a place that is stored to
abbrev pub place_marks : Brackets → Expr → Marks
place_marks style a = placed style (Operand level.Product) (printed style a)

-- `x = `
abbrev pub to_place : Brackets → Expr → Marks
to_place style a = place_marks style a ++ spaced sign.Assign

-- `if (x)`, and the same of `switch`
abbrev pub tested : Brackets → Keyword → Expr → Marks
tested style w a = AKeyword w ∷ Space ∷ in_brackets (value_marks style a)

-- a `;` behind
abbrev pub ended : Marks → Marks
ended ms = ms ++ ASign sign.Semicolon ∷ []

-- `x = y;`
abbrev pub assign_marks : Brackets → Expr → Expr → Marks
assign_marks style a b = ended (to_place style a ++ value_marks style b)

-- `x = f (y);`
abbrev pub store_marks : Brackets → Expr → Call → Marks
store_marks style a c = ended (to_place style a ++ call_marks style c)

-- `if (x) goto L;`
abbrev pub if_goto_marks : Brackets → Expr → tree.Name → Marks
if_goto_marks style a x = tested style keyword.If a ++ Space ∷ goto_marks x

-- `L: ;`
abbrev pub label_marks : tree.Name → Marks
label_marks x = Name x.text ∷ ASign sign.Colon ∷ Space ∷ ASign sign.Semicolon ∷ []

-- the value behind `return`
abbrev pub return_marks : Brackets → Option Expr → Marks
return_marks style None = []
return_marks style (Some a) = Space ∷ value_marks style a

-- `return x;`
abbrev pub return_statement_marks : Brackets → Option Expr → Marks
return_statement_marks style o = ended (AKeyword keyword.Return ∷ return_marks style o)

-- `case 1:`
abbrev pub case_number_marks : SignedNumber → Marks
case_number_marks x = AKeyword keyword.Case ∷ Space ∷ number_marks x ++ ASign sign.Colon ∷ Space ∷ []

-- `case 1: goto L;`
abbrev pub case_marks : Case → Marks
case_marks c = AKeyword keyword.Case ∷ Space ∷ number_marks c.number ++ ASign sign.Colon ∷ Space ∷ goto_marks c.label

-- the same on a line
abbrev pub case_line : ℕ → Case → Marks
case_line n c = Line n ∷ case_marks c

-- each on a line
abbrev pub cases_marks : ℕ → List Case → Marks
cases_marks n [] = []
cases_marks n (c ∷ cs) = case_line n c ++ cases_marks n cs

-- `default: goto L;` on a line
abbrev pub default_marks : ℕ → tree.Name → Marks
default_marks n x = Line n ∷ AKeyword keyword.Default ∷ ASign sign.Colon ∷ Space ∷ goto_marks x

-- `}` on a line
abbrev pub close_marks : ℕ → Marks
close_marks n = Line n ∷ ASign sign.CloseBrace ∷ []

-- the cases of a `switch` and its default in braces
abbrev pub branches_marks : ℕ → List Case → tree.Name → Marks
branches_marks n cs x = ASign sign.OpenBrace ∷ cases_marks n cs ++ default_marks n x ++ close_marks n

-- `switch (x) { case 1: goto L; default: goto L; }`
abbrev pub switch_marks : Brackets → ℕ → Expr → List Case → tree.Name → Marks
switch_marks style n a cs x = tested style keyword.Switch a ++ Space ∷ ASign sign.OpenBrace ∷ cases_marks n cs ++ default_marks n x ++ close_marks n

-- 4. Statements and blocks

-- a block within a line's indentation; no more than 64 brackets are open, so that none is further in than 256
abbrev pub deeper : ℕ → ℕ
deeper n = if nat_lt n 256 then n + 4 else n

-- what is written at an indentation
abbrev pub Indented : Type 0
Indented = ℕ → Marks

-- what stands behind the block of an `if`
abbrev pub else_marks : Option Indented → Indented
else_marks None n = []
else_marks (Some d) n = Space ∷ AKeyword keyword.Else ∷ Space ∷ d n

-- `if (x) `
abbrev pub if_head_marks : Brackets → Expr → Marks
if_head_marks style a = tested style keyword.If a ++ Space ∷ []

-- `if (x) block else block`
abbrev pub if_marks : Brackets → Expr → Indented → Indented → Indented
if_marks style a b d n = tested style keyword.If a ++ Space ∷ b n ++ d n

-- one level of a statement
abbrev pub print_stmt : Brackets → Stmt-F Indented Indented → Indented
print_stmt style (Stmt-F.Assign a b) n = assign_marks style a b
print_stmt style (Stmt-F.Call c) n = ended (call_marks style c)
print_stmt style (Stmt-F.Store a c) n = store_marks style a c
print_stmt style (Stmt-F.If a b o) n = if_marks style a b (else_marks o) n
print_stmt style (Stmt-F.IfGoto a x) n = if_goto_marks style a x
print_stmt style (Stmt-F.Goto x) n = goto_marks x
print_stmt style (Stmt-F.Label x) n = label_marks x
print_stmt style (Stmt-F.Switch a cs x) n = switch_marks style n a cs x
print_stmt style (Stmt-F.Return s o) n = return_statement_marks style o
print_stmt style (Stmt-F.Block b) n = b n

-- each on a line
abbrev pub lines : ℕ → List Indented → Marks
lines n [] = []
lines n (s ∷ ss) = Line n ∷ s n ++ lines n ss

-- one level of a block
abbrev pub print_block : Block-F Indented Indented → Indented
print_block b n = ASign sign.OpenBrace ∷ locals_marks (deeper n) b.locals ++ lines (deeper n) b.body ++ close_marks n

-- a statement
abbrev pub stmt_marks : Brackets → Stmt → Indented
stmt_marks style = fold-Stmt Indented Indented (print_stmt style) print_block

-- a block
abbrev pub block_marks : Brackets → Block → Indented
block_marks style = fold-Block Indented Indented (print_stmt style) print_block

-- `else` and a block, where there is one
abbrev pub else_block_marks : Brackets → Option Block → Indented
else_block_marks style None n = []
else_block_marks style (Some b) n = Space ∷ AKeyword keyword.Else ∷ Space ∷ block_marks style b n
