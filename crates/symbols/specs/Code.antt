-- What expressions and statements declare, and the scopes that they open.
use Rattle.std.specs.Prelude.{ℕ, List, [], ◌∷◌, map, Option, Some, None}
use Rattle.std.specs.Option.{option_map}
use Rattle.vg_base.specs.declared.event.Span.{Span}
use Rattle.vala_tree.specs.declared.names.Identifier.{Identifier}
use Rattle.vala_tree.specs.declared.code.Expr.{Expr}
use Rattle.vala_tree.specs.declared.code.Block.{Block}
use Rattle.vala_tree.specs.declared.code.Caught.{Caught}
use Rattle.vala_tree.specs.declared.code.Expr.TheOpen.{Expr-F, ForStart-F, Iteration-F, Jump-F, Label-F, LambdaBody-F, Operation-F, Postfix-F, Primary-F, Selection-F, Stmt-F, Argument-F, Arm-F, Block-F, Catch-F, Declarator-F, For-F, Foreach-F, If-F, Local-F, NewArray-F, Section-F, Try-F}
use Rattle.vala_tree.specs.declared.code.Expr.TheFolds.{fold-Expr, fold-Block}
use Rattle.symbols.specs.declared.kinds.SymbolKind.TheVariants.{Parameter, Local}
use Rattle.symbols.specs.Outline.{Piece, nothing, both, all, maybe, declares, scoped, no_heading}

-- 1. Parts

-- a part of the code: the text that it stands on, and what it declares
pub record Part : Type 0 where
  pub text : Span
  pub piece : Piece

-- A statement: its text, what it declares where it stands among others, and what it declares as the body of a branch or a loop.
pub record Statement : Type 0 where
  pub text : Span
  pub alone : Piece
  pub body : Piece

-- a name that counts from a place on
abbrev pub local : Identifier → ℕ → Piece
local x since = declares (record { kind = Local; name = x.text; span = x.span; heading = no_heading }) since nothing

-- a parameter
abbrev pub parameter : Identifier → Piece
parameter x = declares (record { kind = Parameter; name = x.text; span = x.span; heading = no_heading }) 0 nothing

abbrev pub piece_of : Part → Piece
piece_of p = p.piece

abbrev pub alone_of : Statement → Piece
alone_of s = s.alone

abbrev pub as_body : Statement → Piece
as_body s = s.body

-- expressions in their order
abbrev pub parts : List Part → Piece
parts ps = all (map piece_of ps)

-- statements in their order
abbrev pub statements : List Statement → Piece
statements ss = all (map alone_of ss)

-- an expression that may be left out
abbrev pub optional : Option Part → Piece
optional o = maybe (option_map piece_of o)

-- a block opens a scope
abbrev pub block : Part → Piece
block b = scoped b.text b.piece

-- a statement that is no block: as a body it opens a scope too
abbrev pub bare : Span → Piece → Statement
bare s p = record { text = s; alone = p; body = scoped s p }

-- the variable of a `catch` stands in a scope around its block
abbrev pub catching : Option Caught → Part → Piece
catching None b = block b
catching (Some c) b = scoped b.text (both (local c.name c.name.span.«end») (block b))

-- 2. The productions, by one level each

abbrev pub primary : Primary-F Part Piece (Span → Piece) Piece Piece Part Piece Piece Piece Piece Statement Piece Piece Part Piece Piece (Span → Piece) Piece Piece Piece Piece Piece Piece → Piece
primary (Primary-F.Parenthesized e) = e.piece
primary (Primary-F.YieldCall e) = e.piece
primary (Primary-F.New n xs) = all xs
primary (Primary-F.NewArray x) = x
primary (Primary-F.List es) = parts es

abbrev pub new_array : NewArray-F Part Piece (Span → Piece) Piece Piece Part Piece Piece Piece Piece Statement Piece Piece Part Piece Piece (Span → Piece) Piece Piece Piece Piece Piece Piece → Piece
new_array x = both (optional x.length) (maybe (option_map parts x.list))

abbrev pub argument : Argument-F Part Piece (Span → Piece) Piece Piece Part Piece Piece Piece Piece Statement Piece Piece Part Piece Piece (Span → Piece) Piece Piece Piece Piece Piece Piece → Piece
argument x = x.value.piece

abbrev pub postfix : Postfix-F Part Piece (Span → Piece) Piece Piece Part Piece Piece Piece Piece Statement Piece Piece Part Piece Piece (Span → Piece) Piece Piece Piece Piece Piece Piece → Piece
postfix (Postfix-F.Member e x) = e.piece
postfix (Postfix-F.Call e xs) = both e.piece (all xs)
postfix (Postfix-F.Index a i) = both a.piece i.piece
postfix (Postfix-F.Step e o) = e.piece

abbrev pub operation : Operation-F Part Piece (Span → Piece) Piece Piece Part Piece Piece Piece Piece Statement Piece Piece Part Piece Piece (Span → Piece) Piece Piece Piece Piece Piece Piece → Piece
operation (Operation-F.Prefix o e) = e.piece
operation (Operation-F.Cast t e) = e.piece
operation (Operation-F.Binary o a b) = both a.piece b.piece
operation (Operation-F.Typed o e t) = e.piece
operation (Operation-F.Conditional a b c) = parts (a ∷ b ∷ c ∷ [])
operation (Operation-F.Assign o a b) = both a.piece b.piece

abbrev pub lambda_body : LambdaBody-F Part Piece (Span → Piece) Piece Piece Part Piece Piece Piece Piece Statement Piece Piece Part Piece Piece (Span → Piece) Piece Piece Piece Piece Piece Piece → Part
lambda_body (LambdaBody-F.Value e) = e
lambda_body (LambdaBody-F.Code b) = b

-- A lambda opens a scope for its parameters and its body, which holds its body.
abbrev pub expression : Expr-F Part Piece (Span → Piece) Piece Piece Part Piece Piece Piece Piece Statement Piece Piece Part Piece Piece (Span → Piece) Piece Piece Piece Piece Piece Piece → Part
expression (Expr-F.Literal v s) = record { text = s; piece = nothing }
expression (Expr-F.Name x s) = record { text = s; piece = nothing }
expression (Expr-F.This s) = record { text = s; piece = nothing }
expression (Expr-F.Base s) = record { text = s; piece = nothing }
expression (Expr-F.Primary p s) = record { text = s; piece = p }
expression (Expr-F.Postfix p s) = record { text = s; piece = p }
expression (Expr-F.Operation p s) = record { text = s; piece = p }
expression (Expr-F.Lambda xs b s) = record { text = s; piece = scoped b.text (both (all (map parameter xs)) b.piece) }

-- the statements of a block, in a scope that is open already
abbrev pub block_part : Block-F Part Piece (Span → Piece) Piece Piece Part Piece Piece Piece Piece Statement Piece Piece Part Piece Piece (Span → Piece) Piece Piece Piece Piece Piece Piece → Part
block_part b = record { text = b.span; piece = statements b.statements }

-- one level of a statement
abbrev pub statement : Stmt-F Part Piece (Span → Piece) Piece Piece Part Piece Piece Piece Piece Statement Piece Piece Part Piece Piece (Span → Piece) Piece Piece Piece Piece Piece Piece → Statement
statement (Stmt-F.Block b) = record { text = b.text; alone = block b; body = block b }
statement (Stmt-F.Empty s) = bare s nothing
statement (Stmt-F.Local p s) = bare s p
statement (Stmt-F.Expression e s) = bare s e.piece
statement (Stmt-F.Selection p s) = bare s p
statement (Stmt-F.Iteration p s) = bare s (p s)
statement (Stmt-F.Jump p s) = bare s p
statement (Stmt-F.Try p s) = bare s p

-- a local counts from the end of its declarator on
abbrev pub declarator : Declarator-F Part Piece (Span → Piece) Piece Piece Part Piece Piece Piece Piece Statement Piece Piece Part Piece Piece (Span → Piece) Piece Piece Piece Piece Piece Piece → Piece
declarator d = both (local d.name d.span.«end») (optional d.value)

abbrev pub declared_locals : Local-F Part Piece (Span → Piece) Piece Piece Part Piece Piece Piece Piece Statement Piece Piece Part Piece Piece (Span → Piece) Piece Piece Piece Piece Piece Piece → Piece
declared_locals l = all l.names

abbrev pub arm : Arm-F Part Piece (Span → Piece) Piece Piece Part Piece Piece Piece Piece Statement Piece Piece Part Piece Piece (Span → Piece) Piece Piece Piece Piece Piece Piece → Piece
arm a = both a.test.piece a.body.body

-- `if`, each `else if` and the last `else`: each branch is a body
abbrev pub branches : If-F Part Piece (Span → Piece) Piece Piece Part Piece Piece Piece Piece Statement Piece Piece Part Piece Piece (Span → Piece) Piece Piece Piece Piece Piece Piece → Piece
branches b = both (all b.arms) (maybe (option_map as_body b.no))

abbrev pub selection : Selection-F Part Piece (Span → Piece) Piece Piece Part Piece Piece Piece Piece Statement Piece Piece Part Piece Piece (Span → Piece) Piece Piece Piece Piece Piece Piece → Piece
selection (Selection-F.If p) = p
selection (Selection-F.Switch e ss) = both e.piece (all ss)

abbrev pub label : Label-F Part Piece (Span → Piece) Piece Piece Part Piece Piece Piece Piece Statement Piece Piece Part Piece Piece (Span → Piece) Piece Piece Piece Piece Piece Piece → Piece
label (Label-F.Case e s) = e.piece
label (Label-F.Default s) = nothing

-- a section of a `switch` opens a scope
abbrev pub section : Section-F Part Piece (Span → Piece) Piece Piece Part Piece Piece Piece Piece Statement Piece Piece Part Piece Piece (Span → Piece) Piece Piece Piece Piece Piece Piece → Piece
section s = scoped s.span (both (all s.labels) (statements s.statements))

abbrev pub for_start : ForStart-F Part Piece (Span → Piece) Piece Piece Part Piece Piece Piece Piece Statement Piece Piece Part Piece Piece (Span → Piece) Piece Piece Piece Piece Piece Piece → Piece
for_start (ForStart-F.Declared p) = p
for_start (ForStart-F.Exprs es) = parts es

-- A `for` opens a scope around the whole loop.
abbrev pub for_loop : For-F Part Piece (Span → Piece) Piece Piece Part Piece Piece Piece Piece Statement Piece Piece Part Piece Piece (Span → Piece) Piece Piece Piece Piece Piece Piece → Span → Piece
for_loop f text = scoped text (all (f.start ∷ optional f.test ∷ parts f.steps ∷ f.body.body ∷ []))

-- The variable of a `foreach` stands in a scope around the body; what is gone over stands outside.
abbrev pub foreach_loop : Foreach-F Part Piece (Span → Piece) Piece Piece Part Piece Piece Piece Piece Statement Piece Piece Part Piece Piece (Span → Piece) Piece Piece Piece Piece Piece Piece → Piece
foreach_loop f = both f.over.piece (scoped f.body.text (both (local f.name f.name.span.«end») f.body.body))

abbrev pub iteration : Iteration-F Part Piece (Span → Piece) Piece Piece Part Piece Piece Piece Piece Statement Piece Piece Part Piece Piece (Span → Piece) Piece Piece Piece Piece Piece Piece → Span → Piece
iteration (Iteration-F.While e s) text = both e.piece s.body
iteration (Iteration-F.Do s e) text = both s.body e.piece
iteration (Iteration-F.For p) text = p text
iteration (Iteration-F.Foreach p) text = p

abbrev pub jump : Jump-F Part Piece (Span → Piece) Piece Piece Part Piece Piece Piece Piece Statement Piece Piece Part Piece Piece (Span → Piece) Piece Piece Piece Piece Piece Piece → Piece
jump (Jump-F.Return o) = optional o
jump (Jump-F.Throw e) = e.piece
jump j = nothing

abbrev pub catch_clause : Catch-F Part Piece (Span → Piece) Piece Piece Part Piece Piece Piece Piece Statement Piece Piece Part Piece Piece (Span → Piece) Piece Piece Piece Piece Piece Piece → Piece
catch_clause c = catching c.caught c.body

abbrev pub try_block : Try-F Part Piece (Span → Piece) Piece Piece Part Piece Piece Piece Piece Statement Piece Piece Part Piece Piece (Span → Piece) Piece Piece Piece Piece Piece Piece → Piece
try_block t = all (block t.body ∷ all t.clauses ∷ maybe (option_map block t.last) ∷ [])

-- what an expression declares
abbrev pub expression_part : Expr → Part
expression_part = fold-Expr Part Piece (Span → Piece) Piece Piece Part Piece Piece Piece Piece Statement Piece Piece Part Piece Piece (Span → Piece) Piece Piece Piece Piece Piece Piece
    expression for_start iteration jump label lambda_body operation postfix primary selection statement argument arm block_part catch_clause declarator for_loop foreach_loop branches declared_locals new_array section try_block

-- what the statements of a block declare, in a scope that is open already
abbrev pub block_of : Block → Part
block_of = fold-Block Part Piece (Span → Piece) Piece Piece Part Piece Piece Piece Piece Statement Piece Piece Part Piece Piece (Span → Piece) Piece Piece Piece Piece Piece Piece
    expression for_start iteration jump label lambda_body operation postfix primary selection statement argument arm block_part catch_clause declarator for_loop foreach_loop branches declared_locals new_array section try_block
