-- The state of a run: what there is between two steps. There are no counts, state numbers, error pointers or function tables.
use Rattle.std.specs.Prelude.{ℕ, ℤ, Bool, List, Option}
use Rattle.vg_base.specs.declared.event.Span.{Span}
use Rattle.vg_base.specs.declared.event.Entry.{Entry}
use Rattle.vg_base.specs.declared.event.VEnd.{VEnd}
use Rattle.vala_types.specs.declared.types.Item.{Item as ElementType}
use Rattle.vala_types.specs.declared.types.VType.{VType}
use Rattle.vala_types.specs.declared.owners.Change.{Change}
use Rattle.core_tree.specs.declared.lambda.Lambda.{Lambda}
use Rattle.core_tree.specs.declared.operation.Operation.{Operation}
use Rattle.core_tree.specs.declared.tree.CoreExpr.{CoreExpr}
use Rattle.core_tree.specs.declared.tree.CoreStmt.{CoreStmt}

-- what a delegate does when it is called
pub data Code : Type 0 where
  -- the method with this number, of its target where there is one
  Method : ℕ → Code
  -- a lambda, with its body; where it is written tells it from every other
  Body : Lambda → CoreStmt → Span → Code
  -- goes on with the activation that is its target
  Resume : Code

-- what a place holds
pub data Value : Type 0 where
  Null : Value
  -- a number, a `bool` (0 or 1), an enum member or a character
  Number : ℤ → Value
  -- the bytes of a text that is no thing and never goes
  Literal : List ℕ → Value
  -- the array of texts that `main` is given, which is no thing either: its first place, and how many it has
  Arguments : (first count : ℕ) → Value
  -- the thing with this serial
  Thing : ℕ → Value
  -- the message of the error with this serial
  Message : ℕ → Value
  -- what a notification hands on: the property's name
  Property : List ℕ → Value
  -- the struct whose cells begin at the place with this number
  Cells : ℕ → Value
  -- a delegate: what it does, and its target
  Delegate : Code → Value → Value

-- A place. One that owns is an owner of the thing that it holds. A place of a thing says of which.
pub record Place : Type 0 where
  pub owning : Bool
  pub holds : Value
  pub within : Option ℕ

-- what an expression has given
pub data Operand : Type 0 where
  -- a value that nothing here owns
  Given : Value → Operand
  -- a value that stands in the owned temporary with this number
  Owned : ℕ → Operand
  -- a struct that stands in so many owned temporaries from this number on
  OwnedCells : (first count : ℕ) → Operand
  -- a target: a place by its number
  At : ℕ → Operand
  -- a target: the cell with this number of an object or of a struct
  CellOf : Value → ℕ → Operand
  -- a target: an element of an array
  ElementOf : Value → ℤ → Operand
  -- a target: the cell with this number of the struct in a place
  MemberOf : Operand → ℕ → Operand
  -- a target: a property of an object
  PropertyOf : Operand → ℕ → Operand
  -- a target: a variable of the scope that is so many scopes outward from this one
  VariableOf : Value → (outward variable : ℕ) → Operand

-- The frame of a call.
pub record Frame : Type 0 where
  -- the place that holds `this`
  pub this : ℕ
  -- the scope that a lambda is bound to
  pub target : Value
  -- the place at which each local begins
  pub locals : List ℕ
  -- what was given and is not used yet, the last first
  pub operands : List Operand
  -- the owned temporaries of the statement that is under way, in the order of their making
  pub temporaries : List ℕ
  -- the place of the result, and its type
  pub result : ℕ
  pub result_type : VType
  -- the activation that the frame runs, if it is that of an async method
  pub activation : Option ℕ

-- a way out of blocks and calls
pub data Way : Type 0 where
  Break Continue Return : Way
  -- an error is carried, in the place with this number
  Throw : ℕ → Way

-- how far an ending is
pub data Stage : Type 0 where
  -- the destructor of this class is next, and then all that belongs to the class and its bases
  Destructor : ℕ → Stage
  -- these places are next to be emptied, and then the base is ended, if there is one
  Places : List ℕ → Option ℕ → Stage
  -- the handlers of an object are next to be dropped
  Handlers : Stage
  -- nothing is left
  Last : Stage

-- which handlers of an emission are next
pub data Phase : Type 0 where
  -- those connected by `connect`, then the class handler, then those connected by `connect_after`
  Before Class After : Phase

-- An emission: the place that owns its instance, the signal, the detail, the arguments,
-- the greatest id given when it began, and the handler that ran last.
pub record Emission : Type 0 where
  pub instance : ℕ
  pub signal : ℕ
  pub detail : Option (List ℕ)
  pub arguments : List Value
  pub limit : ℕ
  pub last : ℕ

-- What is left to do. The first item is done next.
pub data Item : Type 0 where
  -- evaluates an expression
  Evaluate : CoreExpr → Item
  -- evaluates a target: its parts, and then which place they lead to
  Locate : CoreExpr → Item
  -- gives this
  Push : Operand → Item
  -- reads the target that was given last, which stays
  ReadTarget : Item
  -- reads the target that was given last, a place of this type, in its stead
  ReadAway : VType → Item
  -- the change of a value that goes into a place of this type, of what was given last
  ChangeTop : Change → VType → Item
  -- does an operation whose parts are there; the operands are those around it
  Perform : Operation → List Operand → Item
  -- the same of a target
  Reach : Operation → List Operand → Item
  -- copies cells one after another, each from the first place to the second
  CopyCells : List (ℕ × ℕ) → Item
  -- `&&`: evaluates this where the value given last is true
  AndThen : CoreExpr → Item
  -- `||`: evaluates this where the value given last is false
  OrElse : CoreExpr → Item
  -- `?:`: evaluates one of two by the value given last
  OneOf : (yes no : CoreExpr) → Item
  -- `??`: evaluates this where the value given last is null
  IfNull : CoreExpr → Item
  -- does one of two statements by the value given last
  Branch : (yes no : CoreStmt) → Item
  -- does a body and takes the next turn of a loop, where the value given last is true
  Repeat : (body loop : CoreStmt) → Item
  -- does a statement
  Execute : CoreStmt → Item
  -- drops what the expression of a statement gave
  Discard : Item
  -- the operand given last goes into the target given before it
  Store : Item
  -- the end of a statement or of a part of one: its temporaries go, and those around it are there again
  EndStatement : List ℕ → Item
  -- the end of a block: these places are given up
  EndBlock : List ℕ → Item
  -- empties a place
  GiveUp : ℕ → Item
  -- the next turn of a loop
  Turn : CoreStmt → Item
  -- what a `for` does behind its body
  Steps : List CoreStmt → Item
  -- the next turn of a `foreach`: the array, the index, the length
  Each : CoreStmt → Value → (index count : ℕ) → Item
  -- the array of a `foreach` is there
  BeginEach : CoreStmt → Item
  -- the end of a `switch`
  EndSwitch : Item
  -- chooses a section by the value given last; the temporaries around the statement
  Choose : List CoreStmt → List ℕ → Item
  -- the value of a `return` is there
  SetResult : Item
  -- leaves what is under way
  Leave : Way → Item
  -- the error that was given last is thrown
  ThrowGiven : Item
  -- the end of the block of a `try`, with its `catch` parts; an error that comes here may be caught
  Catches : List CoreStmt → Item
  -- the last block of a `try`, which every way out does
  Finally : List CoreStmt → Item
  -- sets a place to zero or null, and gives up what it held
  Clear : ℕ → VType → Item
  -- the end of a call: these places are given up, and the caller's frame goes on with the result
  EndCall : List ℕ → Frame → Item
  -- the same of a creation method, which gives up the object where it throws
  EndMaking : List ℕ → Frame → Item
  -- a creation method, of the class that is made: it begins
  BeginMaking : (class method : ℕ) → Item
  -- the arguments of `base` are there
  CallBase : (class method : ℕ) → Item
  -- the values that `Object (..)` gives to these properties are there
  MakeObject : (class : ℕ) → List ℕ → Item
  -- sets a property of the object that is made
  SetProperty : ℕ → Item
  -- runs a `construct` block of the object that is made
  RunMethod : ℕ → Item
  -- the setter has run: the notification
  Notify : Value → ℕ → Item
  -- the next handler of an emission
  Emit : Emission → Phase → Item
  -- the arguments of a handler are there: the delegate in this place is called; the operands around the emission
  CallHandler : ℕ → List Operand → Item
  -- the same of the class handler, which stands in this slot
  CallClassHandler : Value → ℕ → List Operand → Item
  -- a turn of the loop that runs, which this place owns
  LoopTurn : ℕ → Item
  -- a source's function has returned; the operands around the call of the loop
  EndFunction : ℕ → List Operand → Item
  -- the callback of a completed activation has returned
  EndCompletion : (source activation : ℕ) → List Operand → Item
  -- the loop has control again
  EndDispatch : Item
  -- the arguments stand in an activation: its body begins
  BeginBody : ℕ → Item
  -- the end of the body of an async method
  EndBody : Item
  -- the caller of an activation goes on
  BackTo : Frame → Item
  -- an activation waits for another
  ParkFor : ℕ → Item
  -- the result or the error of an activation is taken
  Receive : ℕ → Item
  -- a thing is ending
  End : ℕ → Stage → Item
  -- the assertion's value is there
  Check : Item
  -- the call of `main`
  Start : Item
  -- the end of `main`
  EndMain : Item

-- a thing is live, then ending, then gone
pub data Status : Type 0 where
  Live Ending Gone : Status

-- what a thing is, but for its places
pub data Content : Type 0 where
  -- an object of this class
  ObjectOf : ℕ → Content
  -- a main loop, which counts as an object
  LoopOf : Content
  TextOf : List ℕ → Content
  -- an array with so many elements
  ArrayOf : ElementType → ℕ → Content
  -- a scope: its variables, then its outer scope, then `this`, where it has them
  ScopeOf : (variables : ℕ) → (has_outer has_this : Bool) → Content
  -- an error: domain, code and message
  ErrorOf : ℕ → ℤ → List ℕ → Content
  -- a run of an async method: the method, the slot of active methods, and the activation that waits for it
  ActivationOf : (method slot : ℕ) (waiter : Option ℕ) → Content

-- a thing: what it is, and its places, from a first one on
pub record ThingState : Type 0 where
  pub content : Content
  pub status : Status
  pub first : ℕ
  pub count : ℕ

-- A handler of a signal. The place holds the delegate, and owns its target where the handler does.
pub record Handler : Type 0 where
  pub id : ℕ
  pub object : ℕ
  pub signal : ℕ
  pub detail : Option (List ℕ)
  pub is_after : Bool
  pub takes_sender : Bool
  pub takes_arguments : Bool
  pub place : ℕ

-- A source of the main loop. The place holds its function; a source that completes an activation has none.
pub record Source : Type 0 where
  pub id : ℕ
  pub interval : Option ℕ
  pub due : ℕ
  pub place : ℕ
  pub completes : Option ℕ

-- A parked activation: its frame and the rest of its work. One that is parked by `yield;` is resumed by its callback.
pub record Parked : Type 0 where
  pub activation : ℕ
  pub by_yield : Bool
  pub frame : Frame
  pub work : List Item

-- A state.
pub record State : Type 0 where
  -- every thing that was made; the one with the serial n is the n-th
  pub things : List ThingState
  -- every place that was made, by number
  pub places : List Place
  -- the place at which each static field begins
  pub statics : List ℕ
  pub frame : Frame
  pub work : List Item
  pub parked : List Parked
  -- the handlers and sources that are there, by rising id, and the greatest id given of each
  pub handlers : List Handler
  pub last_handler : ℕ
  pub sources : List Source
  pub last_source : ℕ
  -- the place that owns the loop that runs, and whether `quit` was called in it
  pub running : Option ℕ
  pub is_quitting : Bool
  pub clock : ℕ
  pub entries : List Entry
  pub input : List ℕ
  pub ended : Option VEnd
