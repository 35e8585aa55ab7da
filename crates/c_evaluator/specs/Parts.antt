-- What the parts of code come to.
use Rattle.std.specs.Prelude.{ℕ, Bool, true, false, if◌then◌else◌, List, [], ◌∷◌, Ok}
use Rattle.c_meaning.specs.State.{Value}
use Rattle.c_meaning.specs.Blocks.{Answer, bind}
use Rattle.c_meaning.specs.Numbers.{converted, is_false, scalar}
use Rattle.c_code.specs.declared.code.Start.{Start}
use Rattle.c_code.specs.declared.code.Move.{Move}
use Rattle.c_code.specs.declared.code.Alternative.{Alternative}
use Rattle.c_code.specs.declared.code.Operation.{Operation}
use Rattle.c_code.specs.declared.code.Move.TheFolds.{fold-Move, fold-Start, fold-Alternative, fold-Operation}
use Rattle.c_code.specs.Looks.{Heap}
use Rattle.c_code.specs.Coded.{Eval, value_by, Moving, Chosen, Operated, moving, starting, choosing, coding, operating}

-- what is reached first
abbrev pub start_coded : Start → Eval
start_coded = fold-Start Moving Eval Chosen Eval Operated moving starting choosing coding operating

-- where a move leads
abbrev pub move_coded : Move → Moving
move_coded = fold-Move Moving Eval Chosen Eval Operated moving starting choosing coding operating

-- a condition and what it chooses
abbrev pub alternative_coded : Alternative → Chosen
alternative_coded = fold-Alternative Moving Eval Chosen Eval Operated moving starting choosing coding operating

-- an operator and its second operand
abbrev pub operation_coded : Operation → Operated
operation_coded = fold-Operation Moving Eval Chosen Eval Operated moving starting choosing coding operating

-- whether a condition is true
abbrev pub is_true : Eval → Heap → ℕ → Answer Bool
is_true test heap frame = bind (value_by test heap frame) (λ t. bind (scalar t) (λ y. Ok (if is_false y then false else true)))

-- a value in the kinds of choices, that of the last one first
abbrev pub in_kinds : List Chosen → Answer Value → Answer Value
in_kinds [] v = v
in_kinds (c ∷ cs) v = bind (in_kinds cs v) (converted c.gives)
