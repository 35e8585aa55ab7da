-- The parts that are asked for one level deeper.
use Rattle.std.specs.Prelude.{◌≡◌, ℕ, suc, ◌+◌, ◌-◌, ◌*◌, ◌<◌, ◌≤◌, List, Result, Ok, Err}
use Rattle.std.specs.declared.alloc.Global.{Global}
use denote.Ref.{MutBor}
use Rattle.predictive_grammar.specs.Steps.{Outcome}
use Rattle.vala_lexer.specs.Tokens.{Lexeme}
use Rattle.vala_tree.specs.declared.code.Expr.{Expr}
use Rattle.vala_tree.specs.declared.code.Argument.{Argument}
use Rattle.vala_tree.specs.declared.code.Block.{Block}
use Rattle.vala_grammar.specs.declared.parts.Chain.{Chain}
use Rattle.vala_grammar.specs.declared.parts.Ended.{Ended}
use Rattle.vala_grammar.specs.Parts as part
use Rattle.vala_cursor.specs.declared.cursor.Cursor.{Cursor}
use Rattle.vala_cursor.specs.declared.stop.Stop.{Stop}
use Rattle.vala_cursor.specs.declared.stop.Stop.TheVariants.{Memory, Flawed}
use Rattle.vala_expressions.specs.declared.asks.Ask.{Ask}
use Rattle.vala_expressions.specs.declared.asks.Ask.TheVariants as ask
use Rattle.vala_expressions.specs.declared.asks.Reply.{Reply}
use Rattle.vala_expressions.specs.declared.asks.Reply.TheVariants as reply
use Rattle.vala_cursor.specs.Gets.{fault_of}
use Rattle.vala_grammar.specs.Read.{vala_reader}
use Rattle.vala_cursor.specs.Ahead.{rest, stop}
use Rattle.vala_grammar.specs.Label.{Label}

-- over how many levels a part reaches down
abbrev pub depth : Ask → ℕ
depth (ask.Operand d t) = d
depth (ask.CoalesceOperand d) = d
depth _ = 0

-- grows with each part that is asked for
abbrev pub weight : (depth level : ℕ) → ℕ
weight d l = (l - d) * 202 + l

abbrev pub AnswersExpr : Outcome Label Lexeme Expr → Result Reply Stop → List Lexeme → Type 0
AnswersExpr o (Ok (reply.Expr a)) new = o ≡ Ok (a, new)
AnswersExpr o (Ok _) new = ⊥
AnswersExpr o (Err Memory) new = Unit {0}
AnswersExpr o (Err (Flawed f)) new = o ≡ Err (fault_of f, new)

abbrev pub AnswersChain : Outcome Label Lexeme Chain → Result Reply Stop → List Lexeme → Type 0
AnswersChain o (Ok (reply.Chain a)) new = o ≡ Ok (a, new)
AnswersChain o (Ok _) new = ⊥
AnswersChain o (Err Memory) new = Unit {0}
AnswersChain o (Err (Flawed f)) new = o ≡ Err (fault_of f, new)

abbrev pub AnswersArgument : Outcome Label Lexeme Argument → Result Reply Stop → List Lexeme → Type 0
AnswersArgument o (Ok (reply.Argument a)) new = o ≡ Ok (a, new)
AnswersArgument o (Ok _) new = ⊥
AnswersArgument o (Err Memory) new = Unit {0}
AnswersArgument o (Err (Flawed f)) new = o ≡ Err (fault_of f, new)

abbrev pub AnswersEnded : Outcome Label Lexeme Ended → Result Reply Stop → List Lexeme → Type 0
AnswersEnded o (Ok (reply.Ended a)) new = o ≡ Ok (a, new)
AnswersEnded o (Ok _) new = ⊥
AnswersEnded o (Err Memory) new = Unit {0}
AnswersEnded o (Err (Flawed f)) new = o ≡ Err (fault_of f, new)

abbrev pub AnswersBlock : Outcome Label Lexeme Block → Result Reply Stop → List Lexeme → Type 0
AnswersBlock o (Ok (reply.Block a)) new = o ≡ Ok (a, new)
AnswersBlock o (Ok _) new = ⊥
AnswersBlock o (Err Memory) new = Unit {0}
AnswersBlock o (Err (Flawed f)) new = o ≡ Err (fault_of f, new)

-- the answer to what was asked is what the reader gives
abbrev pub Told : Ask → ℕ → List Lexeme → Result Reply Stop → List Lexeme → Type 0
Told ask.Whole l i r new = AnswersExpr (vala_reader part.Whole l i) r new
Told ask.Test l i r new = AnswersExpr (vala_reader part.Test l i) r new
Told ask.YieldCall l i r new = AnswersExpr (vala_reader part.YieldCall l i) r new
Told (ask.Prefix x) l i r new = AnswersChain (vala_reader (part.Prefix x) l i) r new
Told (ask.Operand d t) l i r new = AnswersChain (vala_reader (part.Operand d t) l i) r new
Told (ask.CoalesceOperand d) l i r new = AnswersChain (vala_reader (part.CoalesceOperand d) l i) r new
Told ask.Arg l i r new = AnswersArgument (vala_reader part.Arg l i) r new
Told ask.AnyStmt l i r new = AnswersEnded (vala_reader part.AnyStmt l i) r new
Told ask.Bare l i r new = AnswersEnded (vala_reader part.Bare l i) r new
Told ask.Block l i r new = AnswersBlock (vala_reader part.BlockOf l i) r new

-- a function value that reads what weighs more
pub record Nests (least : ℕ) (pre : Global → MutBor Cursor → ℕ → Ask → Type 0)
    (post : Global → MutBor Cursor → ℕ → Ask → Result Reply Stop → MutBor Cursor → Type 0) : Type 0 where
  pub callable : (alloc : Global) (old : MutBor Cursor) (level : ℕ) (ask : Ask) → level ≤ 201 → depth ask ≤ level → least < weight (depth ask) level → pre alloc old level ask
  pub reads : (alloc : Global) (old new : MutBor Cursor) (level : ℕ) (ask : Ask) (r : Result Reply Stop) → post alloc old level ask r new
      → Told ask level (rest old.now) r (rest new.now)
  pub kept : (alloc : Global) (old new : MutBor Cursor) (level : ℕ) (ask : Ask) (r : Result Reply Stop) → post alloc old level ask r new → stop new.now ≡ stop old.now
