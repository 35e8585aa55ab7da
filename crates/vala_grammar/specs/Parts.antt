-- The parts of a file, and what tree each has.
use Rattle.std.specs.Prelude.{ℕ, Bool, List, Option}
use Rattle.vg_base.specs.declared.event.Span.{Span}
use Rattle.vala_lexer.specs.Tokens.{Lexeme}
use Rattle.vala_tree.specs.declared.names.Identifier.{Identifier}
use Rattle.vala_tree.specs.declared.names.NameTree.{NameTree}
use Rattle.vala_tree.specs.declared.names.TypeTree.{TypeTree}
use Rattle.vala_tree.specs.declared.code.Expr.{Expr}
use Rattle.vala_tree.specs.declared.code.Argument.{Argument}
use Rattle.vala_tree.specs.declared.code.Block.{Block}
use Rattle.vala_tree.specs.declared.code.Stmt.{Stmt}
use Rattle.vala_tree.specs.declared.code.Label.{Label}
use Rattle.vala_tree.specs.declared.code.Section.{Section}
use Rattle.vala_tree.specs.declared.code.Declarator.{Declarator}
use Rattle.vala_tree.specs.declared.code.DeclaredType.{DeclaredType}
use Rattle.vala_tree.specs.declared.code.ForStart.{ForStart}
use Rattle.vala_tree.specs.declared.code.Catch.{Catch}
use Rattle.vala_grammar.specs.declared.parts.Chain.{Chain}
use Rattle.vala_grammar.specs.declared.parts.TypeName.{TypeName}
use Rattle.vala_grammar.specs.declared.parts.Lead.{Lead}
use Rattle.vala_grammar.specs.declared.parts.Opening.{Opening}
use Rattle.vala_grammar.specs.declared.parts.Bracketed.{Bracketed}
use Rattle.vala_grammar.specs.declared.parts.Tested.{Tested}
use Rattle.vala_grammar.specs.declared.parts.Beginning.{Beginning}
use Rattle.vala_grammar.specs.declared.parts.Ended.{Ended}
use Rattle.vala_grammar.specs.declared.parts.Branches.{Branches}
use Rattle.vala_grammar.specs.declared.parts.ForHead.{ForHead}
use Rattle.vala_grammar.specs.declared.parts.Arguments.{Arguments}
use Rattle.vala_grammar.specs.declared.parts.Listed.{Listed}
use Rattle.vala_grammar.specs.declared.parts.Signs.{Signs}
use Rattle.vala_grammar.specs.declared.parts.Context.{Context}
use Rattle.vala_grammar.specs.declared.parts.Tier.{Tier}

-- a type or `var`, and where it begins
abbrev pub TypeAt : Type 0
TypeAt = DeclaredType × Span

-- What a word can be read as. Some parts go on with what was read before them: it stands in brackets.
pub data Part : Type 0 where
  -- a name; what follows these words of it
  Name : Part
  NameMore : NameTree → Part
  -- a type; what follows the word in front of it; the name in it, and what follows these words of that
  AnyType : Part
  TypeBody : Option Lexeme → Part
  NameInType : Part
  NameInTypeMore : NameTree → Part
  -- an expression; the same where a `/` in its place is no left-out text; one that begins with no name; one that begins with neither a name nor
  -- `yield`; what follows a word, or an operand, that it begins with
  Whole : Part
  Value : Part
  Nameless : Part
  Immediate : Part
  AfterWord : Lexeme → Part
  Onward : Chain → Part
  -- an expression without a lambda or an assignment
  Test : Part
  -- an operand; the same where a `/` in its place is no left-out text; one that begins with no name, `yield` or bracket
  Prefix : Signs → Part
  Unary : Signs → Part
  Direct : Signs → Part
  -- what follows an operand of the tiers up to one, and of one tier; an operand of a tier's operator. The number is how many levels it stands over
  -- the expression whose operators these are.
  Upto : ℕ → Tier → Chain → Part
  Rest : ℕ → Tier → Chain → Part
  Operand : ℕ → Tier → Part
  -- what follows a chain of them: `??`, `?` and assignments
  CoalesceTail : ℕ → Chain → Part
  CoalesceOperand : ℕ → Part
  ChoiceTail : Chain → Part
  AssignTail : Expr → Part
  -- the type behind `is` and `as`; what follows the word in front of it
  TestedType : ℕ → Part
  TestedBody : ℕ → Option Lexeme → Part
  -- what follows `(`, which a lambda may begin with or not
  Bracket : Bool → Lexeme → Part
  -- what may be a type or an expression, by where it stands; what follows these words of it, and a `?` behind them
  OpeningName : Context → Part
  LeadMore : NameTree → Part
  Marked : Context → NameTree → Span → Part
  -- the end of a cast; what follows names in brackets
  CastEnd : Lexeme → TypeTree → Part
  BehindNames : Bool → Lexeme → NameTree → Lexeme → Part
  -- the parameters of a lambda behind the first; its body
  LambdaMore : List Identifier → Part
  LambdaEnd : Span → List Identifier → Part
  -- what has no operator in front; the same with no name, `yield` or bracket; what follows it
  Primary : Part
  Atom : Part
  Suffix : Chain → Part
  -- the call behind `yield`, and what follows this beginning of it
  YieldCall : Part
  CallMore : Expr → Part
  -- what follows `new` and a name; the size of an array; its items
  NewMore : Lexeme → NameTree → Part
  NewArray : Lexeme → NameTree → Option Span → Part
  NewItems : Lexeme → NameTree → Option Span → Option Expr → Lexeme → Part
  -- what follows `(` of a call, and what follows these arguments there; one of them
  Args : Part
  MoreArgs : List Argument → Part
  Arg : Part
  -- an initialiser; what follows its `{`, and what follows these items there
  Init : Part
  Items : Part
  MoreItems : List Expr → Part
  -- a block; what follows its `{` and these statements
  BlockOf : Part
  Statements : Lexeme → List Stmt → Part
  -- a statement; one without braces; one that no word `if` begins
  AnyStmt : Part
  Bare : Part
  Simple : Part
  -- the body of a loop or an `if`; what follows `else`; what follows `if`, and its condition and first body
  Body : Part
  Alternative : Part
  IfMore : Part
  IfTail : Expr → Ended → Part
  -- what follows the words that begin a statement
  DoMore : Lexeme → Part
  ForMore : Lexeme → Part
  ForHeadOf : Part
  ForExprs : List Expr → Part
  ForTest : ForStart → Part
  ForSteps : ForStart → Option Expr → Part
  MoreSteps : ForStart → Option Expr → List Expr → Part
  ForeachMore : Lexeme → Part
  SwitchMore : Lexeme → Part
  AnyLabel : Part
  Sections : Lexeme → Expr → List Section → Label → List Label → List Stmt → Part
  TryMore : Lexeme → Block → List Catch → Part
  CatchOf : Part
  -- a declaration or an expression that begins with no `yield`; what follows the type of a declaration; its names
  Begin : Part
  Locals : TypeAt → Part
  MoreLocals : TypeAt → List Declarator → Part
  OneLocal : Part

abbrev pub tree_of : Part → Type 0
tree_of Name = NameTree
tree_of (NameMore _) = NameTree
tree_of AnyType = TypeTree
tree_of (TypeBody _) = TypeTree
tree_of NameInType = TypeName
tree_of (NameInTypeMore _) = TypeName
tree_of Whole = Expr
tree_of Value = Expr
tree_of Nameless = Expr
tree_of Immediate = Expr
tree_of (AfterWord _) = Expr
tree_of (Onward _) = Expr
tree_of Test = Expr
tree_of (Prefix _) = Chain
tree_of (Unary _) = Chain
tree_of (Direct _) = Chain
tree_of (Upto _ _ _) = Chain
tree_of (Rest _ _ _) = Chain
tree_of (Operand _ _) = Chain
tree_of (CoalesceTail _ _) = Chain
tree_of (CoalesceOperand _) = Chain
tree_of (ChoiceTail _) = Expr
tree_of (AssignTail _) = Expr
tree_of (TestedType _) = Tested
tree_of (TestedBody _ _) = Tested
tree_of (Bracket _ _) = Bracketed
tree_of (OpeningName _) = Opening
tree_of (LeadMore _) = Lead
tree_of (Marked _ _ _) = Opening
tree_of (CastEnd _ _) = Chain
tree_of (BehindNames _ _ _ _) = Bracketed
tree_of (LambdaMore _) = List Identifier
tree_of (LambdaEnd _ _) = Expr
tree_of Primary = Expr
tree_of Atom = Expr
tree_of (Suffix _) = Chain
tree_of YieldCall = Expr
tree_of (CallMore _) = Expr
tree_of (NewMore _ _) = Expr
tree_of (NewArray _ _ _) = Expr
tree_of (NewItems _ _ _ _ _) = Expr
tree_of Args = Arguments
tree_of (MoreArgs _) = Arguments
tree_of Arg = Argument
tree_of Init = Expr
tree_of Items = Listed
tree_of (MoreItems _) = Listed
tree_of BlockOf = Block
tree_of (Statements _ _) = Block
tree_of AnyStmt = Ended
tree_of Bare = Ended
tree_of Simple = Ended
tree_of Body = Ended
tree_of Alternative = Branches
tree_of IfMore = Branches
tree_of (IfTail _ _) = Branches
tree_of (DoMore _) = Stmt
tree_of (ForMore _) = Ended
tree_of ForHeadOf = ForHead
tree_of (ForExprs _) = ForHead
tree_of (ForTest _) = ForHead
tree_of (ForSteps _ _) = ForHead
tree_of (MoreSteps _ _ _) = ForHead
tree_of (ForeachMore _) = Ended
tree_of (SwitchMore _) = Stmt
tree_of AnyLabel = Label
tree_of (Sections _ _ _ _ _ _) = Stmt
tree_of (TryMore _ _ _) = Stmt
tree_of CatchOf = Catch
tree_of Begin = Beginning
tree_of (Locals _) = Beginning
tree_of (MoreLocals _ _) = Beginning
tree_of OneLocal = Declarator
