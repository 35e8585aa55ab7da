-- The parts of a text, and what tree each has.
--
-- How the dialect is told as data. What a name may begin is told by its role among the names in scope, and declarations change these. So a part is
-- what is read and the names that are in scope there, and the tests of its form look at a token's class among these names. Only parts of blocks and
-- items go on under other names than those of the part that they stand in. A token's kind is the token without its place.
--
-- What rests on a tree that was read is a choice of the next token: `.` behind a value that is no place is not read (`Suffixes`); behind `&` stands a
-- part of its own (`Place`), in which a suffix must follow what is no place itself; and behind `void`, where nothing but an object can stand, a `*`
-- must follow (`TypeRest`). Where several parts begin alike, what follows their common beginning is a part: what follows an operand of a chain
-- (`Upto`, `ChoosingTail`), a name that may begin a declaration, a label, a call or a place (`LocalRest`, `NamedStmt`), an operand that is called or
-- stored to (`ValueStmt`), and what is stored, a value or the callee of a call (`Assigned`, `AssignedTail`). A function named `main` has a part of
-- its own between its brackets, and no other function may have that name, which its token tells. Behind an include line stand items whose first token
-- must begin a line.
--
-- The level of a token is how many brackets and `?` are open behind it, so that 65 levels are what `is_shallow` allows.
use Rattle.std.specs.Prelude.{ℕ, Bool, List}
use Rattle.c_tree.specs.declared.names.CType.{CType}
use Rattle.c_tree.specs.declared.operators.Level.{Level}
use Rattle.c_tree.specs.declared.operators.PrefixOperator.{PrefixOperator}
use Rattle.c_tree.specs.declared.code.Expr.{Expr}
use Rattle.c_tree.specs.declared.code.Link.{Link}
use Rattle.c_tree.specs.declared.code.Choice.{Choice}
use Rattle.c_tree.specs.declared.code.Suffix.{Suffix}
use Rattle.c_tree.specs.declared.code.Local.{Local}
use Rattle.c_tree.specs.declared.code.Case.{Case}
use Rattle.c_tree.specs.declared.code.Stmt.{Stmt}
use Rattle.c_tree.specs.declared.code.Block.{Block}
use Rattle.c_tree.specs.declared.names.SignedNumber.{SignedNumber}
use Rattle.c_tree.specs.declared.unit.Member.{Member}
use Rattle.c_tree.specs.declared.unit.Parameter.{Parameter}
use Rattle.c_tree.specs.declared.unit.Item.{Item}
use Rattle.c_tree.specs.Words.{Token, Word}
use Rattle.c_tree.specs.Names.{Names}

-- What is read. Some go on with what was read before them: it stands in brackets.
pub data What : Type 0 where
  -- any number of `const`
  Consts : What
  -- any number of `*`, each with any number of `const` behind it; one at least or not
  Stars : Bool → What
  -- what follows these `const` and this base of a type; a `*` must or not
  TypeRest : Word → Token → Bool → What
  -- what follows this base, where there is something
  TypeMore : Word → Token → What
  -- a type; whether an undeclared name is one; whether it must be one that something can have
  AnyType : Bool → Bool → What
  -- the parts of values, as a constant or not
  Value : Bool → What
  -- `a ? b : c ? d : e`; what follows this first operand of it
  Choosing : Bool → What
  ChoosingTail : Bool → Expr → What
  -- what follows this operand of chains up to a level
  Upto : Level → Bool → Expr → What
  -- what follows the first operand of a chain of a level; an operand of it
  Links : Level → Bool → What
  Operand : Level → Bool → What
  -- operators before an operand, and the operand; the same where it must be a place
  Prefixed : Bool → What
  Place : What
  -- an operand without operators before it, brackets around it and suffixes; the same where it is no name
  Primary : Bool → What
  Unnamed : What
  -- suffixes; whether the first may be `.`; whether there must be one
  Suffixes : Bool → Bool → What
  -- the values between the brackets of a call, and those behind the first
  Arguments : What
  MoreArguments : What
  -- a type that begins with a word of its own; a declaration; what follows this name as the base of its type
  KeyType : What
  LocalOf : What
  LocalRest : Token → What
  -- a number, with `-` before it or not
  SignedNumberOf : What
  -- `goto L;`, by the name
  GotoOf : What
  -- the cases of a `switch` and its `default`
  Cases : What
  -- a block; declarations and then statements; statements
  BlockOf : What
  Body : What
  Statements : What
  -- a statement; one that begins with no name; what follows this name that one begins with
  Statement : What
  PlainStmt : What
  NamedStmt : Token → What
  -- what follows this operand that a statement begins with
  ValueStmt : Expr → What
  -- what follows a place and `=`; the same behind this operand
  Assigned : Expr → What
  AssignedTail : Expr → Expr → What
  -- what follows `if`, this value and this block
  ElseOf : Expr → Block → What
  -- `A = n`; members with commas between; those behind the first
  MemberOf : What
  Members : What
  MoreMembers : What
  -- the fields of a struct
  Fields : What
  -- a parameter; what follows its type; those behind the first; what stands between the brackets, of `main` or not
  ParameterOf : What
  ParameterEnd : CType → What
  MoreParameters : What
  ParametersOf : Bool → What
  -- a type that means `int`, and one that means `char **`
  IntType : What
  TextsType : What
  -- what stands in the braces of a table
  TableInside : What
  -- what follows the name of what is declared as a function: whether it is static, its result, its name, and where it begins
  DeclaredOf : Bool → CType → Token → ℕ → What
  -- what follows the type of an item without `static`; of one with it
  TypedEnd : CType → What
  StaticEnd : Token → CType → What
  -- what follows `static const GInterfaceInfo`; what follows `static`; what follows `typedef`
  InfoEnd : Token → Token → Token → What
  StaticRest : Token → What
  TypedefRest : Token → What
  -- an item, and items; whether the first token must begin a line
  ItemOf : Bool → What
  ItemsOf : Bool → What

-- Stars as they are written, and how many they are.
pub record Starred : Type 0 where
  pub word : Word
  pub stars : ℕ

-- what it is read as
abbrev pub tree_of : What → Type 0
tree_of Consts = Word
tree_of (Stars must) = Starred
tree_of (TypeRest u t must) = CType
tree_of (TypeMore u t) = CType
tree_of (AnyType anyhow object) = CType
tree_of (Value c) = Expr
tree_of (Choosing c) = List Choice × Expr
tree_of (ChoosingTail c a) = List Choice × Expr
tree_of (Upto l c a) = Expr
tree_of (Links l c) = List Link
tree_of (Operand l c) = Expr
tree_of (Prefixed c) = List PrefixOperator × Expr
tree_of Place = List PrefixOperator × Expr
tree_of (Primary c) = Expr
tree_of Unnamed = Expr
tree_of (Suffixes dot must) = List Suffix
tree_of Arguments = List Expr
tree_of MoreArguments = List Expr
tree_of KeyType = CType
tree_of LocalOf = Local
tree_of (LocalRest t) = Local
tree_of SignedNumberOf = SignedNumber
tree_of GotoOf = Token
tree_of Cases = List Case × Token
tree_of BlockOf = Block
tree_of Body = List Local × List Stmt
tree_of Statements = List Stmt
tree_of Statement = Stmt
tree_of PlainStmt = Stmt
tree_of (NamedStmt t) = Stmt
tree_of (ValueStmt a) = Stmt
tree_of (Assigned b) = Stmt
tree_of (AssignedTail b a) = Stmt
tree_of (ElseOf a b) = Stmt
tree_of MemberOf = Member
tree_of Members = List Member
tree_of MoreMembers = List Member
tree_of Fields = List Local
tree_of ParameterOf = Parameter
tree_of (ParameterEnd c) = Parameter
tree_of MoreParameters = List Parameter
tree_of (ParametersOf main) = List Parameter
tree_of IntType = CType
tree_of TextsType = CType
tree_of TableInside = Token
tree_of (DeclaredOf b c n at) = Item
tree_of (TypedEnd c) = Item
tree_of (StaticEnd t c) = Item
tree_of (InfoEnd t k i) = Item
tree_of (StaticRest t) = Item
tree_of (TypedefRest t) = Item
tree_of (ItemOf line) = Item
tree_of (ItemsOf line) = List Item

-- A part: what is read, and the names in scope.
pub record Part : Type 0 where
  pub names : Names
  pub what : What

-- what is read among these names
abbrev pub at : Names → What → Part
at ns w = record { names = ns; what = w }
