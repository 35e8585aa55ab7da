-- The ways out: an item is passed, or what it ends is done first. Errors are caught here.
use Rattle.std.specs.Prelude.{ℕ, ◌==◌, Bool, true, false, if◌then◌else◌, List, [], ◌∷◌, ◌++◌, map, Option, Some, None}
use Rattle.core_tree.specs.declared.program.Core.{Core}
use Rattle.core_tree.specs.declared.tree.CoreExpr.{CoreExpr}
use Rattle.core_tree.specs.declared.tree.CoreStmt.{CoreStmt, out-CoreStmt, CoreStmt-F}
use Rattle.core_tree.specs.State
use Rattle.core_tree.specs.State.{Value, Operand, Owned, Frame, Way, Break, Continue, Return, Throw, Item, Locate, Push, Store, Execute, EndStatement, EndBlock, GiveUp, Clear, Turn, Steps, Each, EndSwitch, Choose, Leave, Catches, Finally, EndCall, EndMaking, EndBody, End, EndMain, Content, ErrorOf}
use Rattle.core_tree.specs.Places.{Out, quiet, stuck, next, held, content_of, range, owning_from, cells_of}
use Rattle.core_tree.specs.Async.{keep_error}
use Rattle.core_tree.specs.Statements.{Statement, enter_block}
use Rattle.std.specs.Prelude.{length}

-- nothing of an expression that was left is looked at any more
abbrev pub without_operands : State.State → State.State
without_operands s = record s { frame = record s.frame { operands = [] } }

-- what ends here is done first, and then the leaving goes on
abbrev pub first : State.State → Item → Way → Out
first s item way = quiet (next (item ∷ Leave way ∷ []) s)

-- the item is passed
abbrev pub pass : State.State → Way → Out
pass s way = quiet (next (Leave way ∷ []) s)

-- the leaving ends here, and the item is next
abbrev pub arrive : State.State → List Item → Out
arrive s items = quiet (next items (without_operands s))

-- Loops and `switch`

-- at the next turn of a loop: `break` ends the loop, `continue` takes the turn
abbrev pub at_turn : State.State → Item → Way → Out
at_turn s item Break = arrive s []
at_turn s item Continue = arrive s (item ∷ [])
at_turn s item way = pass s way

-- at the steps of a `for`: `continue` goes on with them
abbrev pub at_steps : State.State → Item → Way → Out
at_steps s item Continue = arrive s (item ∷ [])
at_steps s item way = pass s way

-- at the end of a `switch`: `break` ends it
abbrev pub at_switch : State.State → Way → Out
at_switch s Break = arrive s []
at_switch s way = pass s way

-- `catch`

-- a part without a domain takes every error, and one with a domain takes its own
abbrev pub takes : Option ℕ → Option Content → Bool
takes None c = true
takes (Some d) (Some (ErrorOf domain code message)) = d == domain
takes (Some d) c = false

-- the error goes into the variable, or stays where it is until the block ends
abbrev pub caught_in : Core → State.State → ℕ → List CoreExpr → CoreStmt → Out
caught_in core s p [] body = enter_block core (next (GiveUp p ∷ []) s) [] body
caught_in core s p (v ∷ vs) body = enter_block core s (Locate v ∷ Push (Owned p) ∷ Store ∷ []) body

-- the first of the parts that takes the error
abbrev pub catch_by : Core → State.State → ℕ → Statement → Out → Out
catch_by core s p (CoreStmt-F.Catch domain caught variable body at) later =
    if takes domain (content_of s (held s p)) then caught_in core (without_operands s) p variable body else later
catch_by core s p _ later = later

-- the first of the parts that takes the error, or none
abbrev pub catch : Core → State.State → ℕ → List CoreStmt → Out
catch core s p [] = pass s (Throw p)
catch core s p (c ∷ cs) = catch_by core s p (out-CoreStmt c) (catch core s p cs)

-- at the `catch` parts of a `try`
abbrev pub at_catches : Core → State.State → List CoreStmt → Way → Out
at_catches core s cs (Throw p) = catch core s p cs
at_catches core s cs way = pass s way

-- `finally`, on every way out
abbrev pub at_finally : State.State → List CoreStmt → Way → Out
at_finally s [] way = pass s way
at_finally s (f ∷ fs) way = quiet (next (Execute f ∷ Leave way ∷ []) (without_operands s))

-- the places of a result that own; the object that is made is none, since it goes when its creation method is left
abbrev pub kept_result : Core → State.State → List ℕ
kept_result core s =
    if s.frame.result == s.frame.this then [] else owning_from s (range s.frame.result (length (cells_of core s.frame.result_type)))

-- A new error that leaves a `finally` takes the place of the error or the result that was kept.
abbrev pub at_leave : Core → State.State → Way → Way → Out
at_leave core s (Throw old) (Throw p) = first s (GiveUp old) (Throw p)
at_leave core s Return (Throw p) = quiet (next (map GiveUp (kept_result core s) ++ Leave (Throw p) ∷ []) s)
at_leave core s old way = pass s way

-- The end of a call: an error goes on in the caller, when the parameters are given up.
abbrev pub at_end_call : State.State → Item → List ℕ → Frame → Way → Out
at_end_call s item [] caller (Throw p) = pass (record s { frame = caller }) (Throw p)
at_end_call s item (n ∷ ns) caller (Throw p) = quiet (next (GiveUp n ∷ Leave (Throw p) ∷ EndCall ns caller ∷ []) s)
at_end_call s item ns caller way = arrive s (item ∷ [])

-- A creation method that throws gives up the object.
abbrev pub at_end_making : State.State → Item → List ℕ → Frame → Way → Out
at_end_making s item [] caller (Throw p) = quiet (next (GiveUp s.frame.this ∷ Leave (Throw p) ∷ EndCall [] caller ∷ []) s)
at_end_making s item (n ∷ ns) caller (Throw p) = quiet (next (GiveUp n ∷ Leave (Throw p) ∷ EndMaking ns caller ∷ []) s)
at_end_making s item ns caller way = arrive s (item ∷ [])

-- The end of an async method's body: an error is kept in the activation.
abbrev pub at_end_body : Core → State.State → Way → Out
at_end_body core s (Throw p) = keep_error core (without_operands s) p s.frame.activation
at_end_body core s way = arrive s (EndBody ∷ [])

-- One step of leaving, at the item that is next.
abbrev pub leave : Core → State.State → Way → Item → Out
leave core s way (EndStatement outer) = first s (EndStatement outer) way
leave core s way (Choose sections outer) = first s (EndStatement outer) way
leave core s way (EndBlock ns) = first s (EndBlock ns) way
leave core s way (GiveUp n) = first s (GiveUp n) way
leave core s way (Clear n kind) = first s (Clear n kind) way
leave core s way (End t stage) = first s (End t stage) way
leave core s way (Turn loop) = at_turn s (Turn loop) way
leave core s way (Each loop v i n) = at_turn s (Each loop v i n) way
leave core s way (Steps steps) = at_steps s (Steps steps) way
leave core s way EndSwitch = at_switch s way
leave core s way (Catches cs) = at_catches core s cs way
leave core s way (Finally fs) = at_finally s fs way
leave core s way (Leave old) = at_leave core s old way
leave core s way (EndCall ns caller) = at_end_call s (EndCall ns caller) ns caller way
leave core s way (EndMaking ns caller) = at_end_making s (EndMaking ns caller) ns caller way
leave core s way EndBody = at_end_body core s way
leave core s way EndMain = stuck s
leave core s way item = pass s way
