-- The state of a run of C: blocks of cells, the work that is left, the tables of the library, and what is outside.
use Rattle.std.specs.Prelude.{ℕ, Bool, List, Option}
use Rattle.vg_base.specs.declared.event.ThingKind.{ThingKind}
use Rattle.vg_base.specs.declared.event.CEnd.{CEnd}
use Rattle.vg_base.specs.declared.event.Entry.{Entry}
use Rattle.vg_base.specs.Headline.{Said}
use Rattle.c_tree.specs.declared.code.Expr.{Expr}
use Rattle.c_tree.specs.declared.code.Call.{Call}
use Rattle.c_tree.specs.declared.code.Case.{Case}
use Rattle.c_tree.specs.declared.kinds.Kind.{Kind}
use Rattle.c_tree.specs.Env.{Env}
use Rattle.c_meaning.specs.declared.cell.Cell.{Cell}

-- 1. Blocks

-- a thing: its kind, its serial, and the place of its count cell, if it has one
pub record Thing : Type 0 where
  pub kind : ThingKind
  pub serial : ℕ
  pub count : Option ℕ

-- A block: its cells, whether it is live or freed for good, the thing that it is, if it is one, and whether `g_slice_new0` made it.
pub record Block : Type 0 where
  pub cells : List Cell
  pub is_live : Bool
  pub thing : Option Thing
  pub is_sliced : Bool

-- a place of a block; blocks are counted from 1
pub record Place : Type 0 where
  pub block : ℕ
  pub at : ℕ

-- a value: one cell, or the cells of a struct
pub data Value : Type 0 where
  Scalar : Cell → Value
  Struct : List Cell → Value

-- 2. Code

-- a variable of a function, and its place among the cells of a frame
pub record Variable : Type 0 where
  pub name : List ℕ
  pub at : ℕ

-- what a statement sees: what is declared, and the variables of its function, the innermost first
pub record Scope : Type 0 where
  pub env : Env
  pub variables : List Variable

-- what is done at a place of the code
pub data Act : Type 0 where
  Assign : Expr → Expr → Act
  CallOf : Call → Act
  Store : Expr → Call → Act
  -- `if (value)` before a block: where it is false, so many places are passed over
  Test : Expr → ℕ → Act
  -- `if (value) goto L;`
  TestGoto : Expr → List ℕ → Act
  Goto : List ℕ → Act
  Label : List ℕ → Act
  Switch : Expr → List Case → List ℕ → Act
  Return : Option Expr → Act
  -- the start of a block that is a statement
  Open : Act
  -- the end of the first block of an `if`: so many places are passed over, which is no step
  Pass : ℕ → Act

pub record Statement : Type 0 where
  pub scope : Scope
  pub act : Act

-- a body: the kinds of its parameters, the cells of a frame, and its code
pub record Body : Type 0 where
  pub parameters : List Kind
  pub cells : ℕ
  pub code : List Statement

-- a function of the unit: its name, what it gives, and its body where it is defined
pub record Routine : Type 0 where
  pub name : List ℕ
  pub result : Kind
  pub body : Option Body

-- a static variable, and a text literal by the place where it stands: each is a block
pub record Fixed : Type 0 where
  pub name : List ℕ
  pub block : ℕ

pub record Literal : Type 0 where
  pub start : ℕ
  pub bytes : List ℕ

pub record Standing : Type 0 where
  pub start : ℕ
  pub block : ℕ

-- 3. The library's tables

-- a property, by the block of its `GParamSpec`: its name, the number of its type, its default, and whether it is set at construction
pub record Spec : Type 0 where
  pub block : ℕ
  pub name : List ℕ
  pub holds : ℕ
  pub default : Cell
  pub is_construct : Bool

-- a property, the type that has it, and the id that it was installed by
pub record Property : Type 0 where
  pub owner : ℕ
  pub id : ℕ
  pub spec : Spec

-- an interface of a class, and its table
pub record Implements : Type 0 where
  pub interface : ℕ
  pub table : ℕ

-- A type: its number, its parent, the block of its class struct, its sizes, what makes its instances ready, its interfaces and its properties.
pub record TypeRow : Type 0 where
  pub number : ℕ
  pub parent : Option ℕ
  pub is_interface : Bool
  pub class : ℕ
  pub class_size : ℕ
  pub instance_size : ℕ
  pub instance_init : Cell
  pub interfaces : List Implements
  pub properties : List Property

-- A signal: its id, its name, the type that has it, where its class handler is, and the types of its arguments.
pub record Signal : Type 0 where
  pub id : ℕ
  pub name : List ℕ
  pub owner : ℕ
  pub offset : ℕ
  pub types : List ℕ

-- A handler: its id, the block of its object, its signal and detail, what it calls with which data, what takes the data
-- away, whether it runs behind the class handler, and the block of the target that it is tied to.
pub record Handler : Type 0 where
  pub id : ℕ
  pub object : ℕ
  pub signal : ℕ
  pub detail : Option (List ℕ)
  pub function : Cell
  pub argument : Cell
  pub destroy : Cell
  pub is_after : Bool
  pub tied : Option ℕ

-- a source of the main loop: its id, its interval if it is a timeout, when it is due, and what it calls
pub record Source : Type 0 where
  pub id : ℕ
  pub interval : Option ℕ
  pub due : ℕ
  pub function : Cell
  pub argument : Cell
  pub destroy : Cell

-- 4. Work

-- which handlers of an emission are next
pub data Phase : Type 0 where
  Before : Phase
  Class : Phase
  After : Phase

-- An emission: its object's block, its signal and detail, the cells of its arguments, the greatest id given when it began, and the id of the handler that ran last.
pub record Emission : Type 0 where
  pub object : ℕ
  pub signal : ℕ
  pub detail : Option (List ℕ)
  pub arguments : List Cell
  pub limit : ℕ
  pub last : ℕ

-- a frame: its function, the place in its code, and the block of its variables
pub record Frame : Type 0 where
  pub routine : ℕ
  pub at : ℕ
  pub block : ℕ

-- what is left to do, the first first
pub data Item : Type 0 where
  -- the statement at the frame's place, and those behind it
  Run : Frame → Item
  -- the entry into a function
  Enter : ℕ → List Value → Item
  -- a call that a function of the library asks for
  Ask : Cell → List Cell → Item
  -- what was given goes to a place of a kind
  Keep : Place → Kind → Item
  -- `main` has returned
  Finish : Item
  -- a function of the library gives this
  Answer : Cell → Item
  -- and this is freed behind a call
  Free : ℕ → Item
  -- a property of an object is set to a value of its type
  SetProperty : ℕ → Property → Cell → Item
  -- `constructed` of an object's class
  Constructed : ℕ → Item
  -- an object ends: its own handlers go one by one, and then it
  DropHandlers : ℕ → Item
  Emit : Emission → Phase → Item
  -- one count of an object is given back
  Release : ℕ → Item
  -- handlers are removed one by one, where they are there; so many were
  Disconnect : List ℕ → ℕ → Item
  -- a turn of the loop of that block
  Turn : ℕ → Item
  -- the function of a source has returned
  Gave : ℕ → Item
  -- a dispatch is done, and the loop looks at `quit`
  Dispatched : ℕ → Item

-- 5. The state

pub record State : Type 0 where
  pub blocks : List Block
  -- how many things were made
  pub made : ℕ
  -- for each class size the greatest number of blocks that were live at once
  pub peaks : List (ℕ × ℕ)
  pub statics : List Fixed
  pub literals : List Standing
  pub work : List Item
  -- what the last function gave
  pub given : Option Value
  pub types : List TypeRow
  pub specs : List Spec
  pub quarks : List (List ℕ)
  pub signals : List Signal
  pub handlers : List Handler
  pub last_handler : ℕ
  pub sources : List Source
  pub last_source : ℕ
  -- the block of the loop that runs, and whether it was told to quit
  pub running : Option ℕ
  pub is_quitting : Bool
  pub clock : ℕ
  pub entries : List Entry
  pub input : List ℕ
  -- what this step said
  pub said : List Said
  pub ended : Option CEnd
