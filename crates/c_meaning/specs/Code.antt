-- The code of functions: the statements of a body in the order of the text, each with what it sees.
use Rattle.std.specs.Prelude.{ℕ, suc, ◌+◌, ◌==◌, if◌then◌else◌, List, [], ◌∷◌, ◌++◌, length, Option, Some, None}
use Rattle.std.specs.Str.{bytes_eq}
use Rattle.c_tree.specs.declared.names.Name.{Name}
use Rattle.c_tree.specs.declared.code.Expr.{Expr}
use Rattle.c_tree.specs.declared.code.Shape.TheOpen.{Shape-F, Suffix-F, Choice-F, Expr-F, Link-F}
use Rattle.c_tree.specs.declared.code.Shape.TheFolds.{fold-Expr}
use Rattle.c_tree.specs.declared.code.Local.{Local}
use Rattle.c_tree.specs.declared.code.Call.{Call}
use Rattle.c_tree.specs.declared.code.Callee.{Callee}
use Rattle.c_tree.specs.declared.code.Callee.TheVariants as callee
use Rattle.c_tree.specs.declared.code.Stmt.TheOpen.{Stmt-F, Block-F}
use Rattle.c_tree.specs.declared.code.Stmt.TheFolds.{fold-Block}
use Rattle.c_tree.specs.declared.code.Block.{Block}
use Rattle.c_tree.specs.declared.unit.Function.{Function}
use Rattle.c_tree.specs.declared.unit.Item.{Item}
use Rattle.c_tree.specs.declared.unit.Item.TheVariants as item
use Rattle.c_tree.specs.declared.unit.Parameter.{Parameter}
use Rattle.c_tree.specs.declared.unit.Signature.{Signature}
use Rattle.c_tree.specs.declared.unit.Unit.{Unit as CUnit}
use Rattle.c_tree.specs.declared.kinds.Kind.{Kind}
use Rattle.c_tree.specs.Env.{Env, opened, cells_of}
use Rattle.c_tree.specs.Unit.{with_parameters}
use Rattle.c_tree.specs.Rules.{with_locals}
use Rattle.c_meaning.specs.State.{Variable, Scope, Act, Statement, Body, Routine, Literal, Assign, CallOf, Store, Test, TestGoto, Goto, Label, Switch, Return, Open, Pass}
use Rattle.c_meaning.specs.Layout.{kind, declared}
use Rattle.c_meaning.specs.Values.{Part, Program, meant}

-- 1. Variables

abbrev pub flat_locals : List (List Local) → List Local
flat_locals [] = []
flat_locals (ls ∷ lss) = ls ++ flat_locals lss

abbrev pub else_locals : Option (List Local) → List Local
else_locals None = []
else_locals (Some ls) = ls

abbrev pub stmt_locals : Stmt-F (List Local) (List Local) → List Local
stmt_locals (Stmt-F.If a b o) = b ++ else_locals o
stmt_locals (Stmt-F.Block b) = b
stmt_locals s = []

abbrev pub block_locals : Block-F (List Local) (List Local) → List Local
block_locals b = b.locals ++ flat_locals b.body

-- all locals of all blocks of a body, in the order of the text
abbrev pub locals_of : Block → List Local
locals_of = fold-Block (List Local) (List Local) stmt_locals block_locals

-- a local by where its name stands, and its place among the cells of a frame
pub record Slot : Type 0 where
  pub start : ℕ
  pub at : ℕ

-- the slots of locals from a place on
abbrev pub slots : Env → ℕ → List Local → List Slot
slots env at [] = []
slots env at (l ∷ ls) = record { start = l.name.span.start; at = at } ∷ slots env (at + cells_of env (kind env l.declared)) ls

abbrev pub locals_cells : Env → List Local → ℕ
locals_cells env [] = 0
locals_cells env (l ∷ ls) = cells_of env (kind env l.declared) + locals_cells env ls

abbrev pub slot_at : List Slot → ℕ → ℕ
slot_at [] start = 0
slot_at (s ∷ ss) start = if s.start == start then s.at else slot_at ss start

abbrev pub with_variables : List Slot → List Variable → List Local → List Variable
with_variables ss vs [] = vs
with_variables ss vs (l ∷ ls) = with_variables ss (record { name = l.name.text; at = slot_at ss l.name.span.start } ∷ vs) ls

abbrev pub optional_name : Option Name → List ℕ
optional_name None = []
optional_name (Some x) = x.text

-- the parameters, from a place on
abbrev pub parameter_variables : Env → ℕ → List Parameter → List Variable
parameter_variables env at [] = []
parameter_variables env at (p ∷ ps) = record { name = optional_name p.name; at = at } ∷ parameter_variables env (at + cells_of env (kind env p.declared)) ps

abbrev pub parameter_kinds : Env → List Parameter → List Kind
parameter_kinds env [] = []
parameter_kinds env (p ∷ ps) = kind env p.declared ∷ parameter_kinds env ps

abbrev pub kinds_cells : Env → List Kind → ℕ
kinds_cells env [] = 0
kinds_cells env (k ∷ ks) = cells_of env k + kinds_cells env ks

-- 2. Statements

-- what a part of a body is, by the slots of its locals, what it sees, and whether its scope is open already
abbrev pub Coded : Type 0
Coded = List Slot → Scope → List Statement

abbrev pub one : Act → Coded
one a ss sc = record { scope = sc; act = a } ∷ []

abbrev pub inner : Scope → Scope
inner sc = record sc { env = opened sc.env }

-- a value before two blocks: behind the first one the second is passed over
abbrev pub tested : Expr → Scope → List Statement → Option (List Statement) → List Statement
tested a sc first None = record { scope = sc; act = Test a (length first) } ∷ first
tested a sc first (Some second) = record { scope = sc; act = Test a (suc (length first)) } ∷ first ++ record { scope = sc; act = Pass (length second) } ∷ second

abbrev pub else_code : Option Coded → List Slot → Scope → Option (List Statement)
else_code None ss sc = None
else_code (Some b) ss sc = Some (b ss (inner sc))

abbrev pub stmt_code : Stmt-F Coded Coded → Coded
stmt_code (Stmt-F.Assign a b) = one (Assign a b)
stmt_code (Stmt-F.Call c) = one (CallOf c)
stmt_code (Stmt-F.Store a c) = one (Store a c)
stmt_code (Stmt-F.If a b o) = λ ss sc. tested a sc (b ss (inner sc)) (else_code o ss sc)
stmt_code (Stmt-F.IfGoto a x) = one (TestGoto a x.text)
stmt_code (Stmt-F.Goto x) = one (Goto x.text)
stmt_code (Stmt-F.Label x) = one (Label x.text)
stmt_code (Stmt-F.Switch a cs x) = one (Switch a cs x.text)
stmt_code (Stmt-F.Return s o) = one (Return o)
stmt_code (Stmt-F.Block b) = λ ss sc. record { scope = sc; act = Open } ∷ b ss (inner sc)

abbrev pub all_code : List Coded → Coded
all_code [] ss sc = []
all_code (c ∷ cs) ss sc = c ss sc ++ all_code cs ss sc

-- a block in a scope that is open already
abbrev pub block_code : Block-F Coded Coded → Coded
block_code b = λ ss sc. all_code b.body ss (record { env = with_locals sc.env b.locals; variables = with_variables ss sc.variables b.locals })

-- THE CODE of a body. Declarations do nothing, and labels are statements.
abbrev pub code_of : Block → Coded
code_of = fold-Block Coded Coded stmt_code block_code

-- 3. Functions

-- how a unit is read: what its values mean, the locals and the code of its bodies, and the text literals of its values and bodies
pub record Reading : Type 0 where
  pub meant : Expr → Part
  pub locals : Block → List Local
  pub code : Block → Coded
  pub texts : Expr → List Literal
  pub block_texts : (Expr → List Literal) → Block → List Literal

-- a frame has the parameters first, and then all locals
abbrev pub body_of : Reading → Env → Function → Body
body_of r env f =
    let ks : List Kind = parameter_kinds env f.signature.parameters in
    let ls : List Local = r.locals f.body in
    record {
      parameters = ks;
      cells = kinds_cells env ks + locals_cells env ls;
      code = r.code f.body (slots env (kinds_cells env ks) ls) (record { env = with_parameters (opened env) f.signature.parameters; variables = parameter_variables env 0 f.signature.parameters });
    }

abbrev pub routine : Env → Signature → Option Body → Routine
routine env s b = record { name = s.name.text; result = kind env s.result; body = b }

abbrev pub with_body : Routine → Option Body → Routine
with_body r None = r
with_body r (Some b) = record r { body = Some b }

-- a function is known by the first place that declares it; a definition gives it a body
abbrev pub with_routine : List Routine → Routine → List Routine
with_routine [] r = r ∷ []
with_routine (q ∷ qs) r = if bytes_eq q.name r.name then with_body q r.body ∷ qs else q ∷ with_routine qs r

abbrev pub routines_of : Reading → Env → List Routine → List Item → List Routine
routines_of r env rs [] = rs
routines_of r env rs (item.Prototype s ∷ is) = routines_of r env (with_routine rs (routine env s None)) is
routines_of r env rs (item.Function f ∷ is) = routines_of r env (with_routine rs (routine env f.signature (Some (body_of r env f)))) is
routines_of r env rs (i ∷ is) = routines_of r env rs is

-- a unit as it runs
abbrev pub program_by : Reading → CUnit → Program
program_by r unit = let env : Env = declared unit in record { env = env; routines = routines_of r env [] unit.items; meant = r.meant }

-- 4. Text literals

abbrev pub link_texts : List (List Literal) → List Literal
link_texts [] = []
link_texts (l ∷ ls) = l ++ link_texts ls

-- the texts of a level, by where it stands
abbrev pub shape_texts : Shape-F (ℕ → List Literal) (List Literal) (List Literal) (List Literal) (List Literal) → ℕ → List Literal
shape_texts (Shape-F.Text bytes) start = record { start = start; bytes = bytes } ∷ []
shape_texts (Shape-F.Prefix ps a) start = a
shape_texts (Shape-F.Postfix a xs) start = a ++ link_texts xs
shape_texts (Shape-F.Chain a ls) start = a ++ link_texts ls
shape_texts (Shape-F.Conditional cs e) start = link_texts cs ++ e
shape_texts s start = []

abbrev pub suffix_texts : Suffix-F (ℕ → List Literal) (List Literal) (List Literal) (List Literal) (List Literal) → List Literal
suffix_texts (Suffix-F.Index i s) = i
suffix_texts x = []

abbrev pub choice_texts : Choice-F (ℕ → List Literal) (List Literal) (List Literal) (List Literal) (List Literal) → List Literal
choice_texts c = c.test ++ c.yes

abbrev pub expr_texts : Expr-F (ℕ → List Literal) (List Literal) (List Literal) (List Literal) (List Literal) → List Literal
expr_texts e = e.shape e.span.start

abbrev pub operand_texts : Link-F (ℕ → List Literal) (List Literal) (List Literal) (List Literal) (List Literal) → List Literal
operand_texts l = l.operand

-- the text literals of a value
abbrev pub texts_of : Expr → List Literal
texts_of = fold-Expr (ℕ → List Literal) (List Literal) (List Literal) (List Literal) (List Literal) shape_texts suffix_texts
    choice_texts expr_texts operand_texts

-- how the texts of a value are found
abbrev pub Texts : Type 0
Texts = Expr → List Literal

abbrev pub all_texts : Texts → List Expr → List Literal
all_texts of [] = []
all_texts of (e ∷ es) = of e ++ all_texts of es

abbrev pub callee_texts : Texts → Callee → List Literal
callee_texts of (callee.Value e) = of e
callee_texts of (callee.Row x) = []

abbrev pub call_texts : Texts → Call → List Literal
call_texts of c = callee_texts of c.callee ++ all_texts of c.arguments

abbrev pub optional_texts : Texts → Option Expr → List Literal
optional_texts of None = []
optional_texts of (Some e) = of e

abbrev pub else_texts : Option (List Literal) → List Literal
else_texts None = []
else_texts (Some ls) = ls

abbrev pub stmt_texts : Texts → Stmt-F (List Literal) (List Literal) → List Literal
stmt_texts of (Stmt-F.Assign a b) = of a ++ of b
stmt_texts of (Stmt-F.Call c) = call_texts of c
stmt_texts of (Stmt-F.Store a c) = of a ++ call_texts of c
stmt_texts of (Stmt-F.If a b o) = of a ++ b ++ else_texts o
stmt_texts of (Stmt-F.IfGoto a x) = of a
stmt_texts of (Stmt-F.Switch a cs x) = of a
stmt_texts of (Stmt-F.Return s o) = optional_texts of o
stmt_texts of (Stmt-F.Block b) = b
stmt_texts of s = []

abbrev pub texts_in : Block-F (List Literal) (List Literal) → List Literal
texts_in b = link_texts b.body

-- the text literals of a body
abbrev pub block_texts : Texts → Block → List Literal
block_texts of = fold-Block (List Literal) (List Literal) (stmt_texts of) texts_in

abbrev pub item_texts : Reading → Item → List Literal
item_texts r (item.Variable v) = r.texts v.value
item_texts r (item.Function f) = r.block_texts r.texts f.body
item_texts r i = []

-- the text literals of a unit, in the order of the text
abbrev pub literals_of : Reading → List Item → List Literal
literals_of r [] = []
literals_of r (i ∷ is) = item_texts r i ++ literals_of r is

-- A UNIT IS READ by folds of its trees
abbrev pub reading : Reading
reading = record { meant = meant; locals = locals_of; code = code_of; texts = texts_of; block_texts = block_texts }
