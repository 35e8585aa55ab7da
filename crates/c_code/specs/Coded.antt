-- What code comes to, over a heap and in the frame whose variables are a block of it.
use Rattle.std.specs.Prelude.{ℕ, ◌&&◌, true, false, if◌then◌else◌, pos, neg_ℤ, ◌*ℤ◌, List, [], ◌∷◌, Ok, Err}
use Rattle.vg_base.specs.declared.event.UndefKind.TheVariants as undef
use Rattle.c_tree.specs.declared.operators.BinaryOperator.{BinaryOperator}
use Rattle.c_tree.specs.declared.operators.BinaryOperator.TheVariants as op
use Rattle.c_tree.specs.declared.operators.Prefix.{Prefix}
use Rattle.c_tree.specs.declared.operators.Prefix.TheVariants as prefix
use Rattle.c_tree.specs.declared.kinds.Kind.{Kind}
use Rattle.c_tree.specs.Kinds.{is_integer}
use Rattle.c_meaning.specs.declared.cell.Cell.{Cell}
use Rattle.c_meaning.specs.State.{Place, Value, Scalar}
use Rattle.c_meaning.specs.Blocks.{Answer, bind}
use Rattle.c_meaning.specs.Numbers.{number_of, scalar, converted, is_false, truth, to, calculated, difference, same}
use Rattle.c_meaning.specs.Values.{on_number, one_of, shortened}
use Rattle.c_code.specs.declared.code.Code.{Code}
use Rattle.c_code.specs.declared.code.Sign.{Sign}
use Rattle.c_code.specs.declared.code.Sign.TheVariants as sign
use Rattle.c_code.specs.declared.code.Move.TheOpen.{Move-F, Start-F, Alternative-F, Code-F, Operation-F}
use Rattle.c_code.specs.declared.code.Move.TheFolds.{fold-Code}
use Rattle.c_code.specs.Looks.{Heap, read_in, pointed_in, moved_in, stepped_in}

-- 1. What is reached

-- a place, or a value
pub data Reached : Type 0 where
  At : Place → Reached
  Of : Value → Reached

abbrev pub value : Reached → Answer Value
value (Of v) = Ok v
value (At p) = Err undef.Kind

abbrev pub place : Reached → Answer Place
place (At p) = Ok p
place (Of v) = Err undef.Kind

abbrev pub of_value : Answer Value → Answer Reached
of_value a = bind a (λ v. Ok (Of v))

abbrev pub at_place : Answer Place → Answer Reached
at_place a = bind a (λ p. Ok (At p))

-- what code comes to, by a heap and the block of a frame
abbrev pub Eval : Type 0
Eval = Heap → ℕ → Answer Reached

abbrev pub value_by : Eval → Heap → ℕ → Answer Value
value_by e heap frame = bind (e heap frame) value

-- 2. Moves

abbrev pub Moving : Type 0
Moving = Heap → ℕ → Reached → Answer Reached

abbrev pub prefix_of : Sign → Prefix
prefix_of sign.Plus = prefix.Plus
prefix_of sign.Minus = prefix.Minus
prefix_of sign.Complement = prefix.Complement

abbrev pub negated : Value → Answer Value
negated v = bind (scalar v) (λ x. Ok (Scalar (truth (is_false x))))

abbrev pub followed : Heap → Value → Answer Place
followed heap v = bind (scalar v) (pointed_in heap)

-- so many steps of a pointer on, of so many cells each
abbrev pub indexed : Heap → ℕ → Value → Value → Answer Place
indexed heap n v i = bind (scalar i) (λ y. bind (number_of y) (λ k. bind (followed heap v) (λ p. moved_in heap p (k *ℤ pos n))))

pub record Operated : Type 0 where
  pub operator : BinaryOperator
  pub gives : Kind
  pub left : Kind
  pub right : Kind
  pub step : ℕ
  pub operand : Eval

pub record Chosen : Type 0 where
  pub test : Eval
  pub yes : Eval
  pub gives : Kind

-- a move from a value or from a place; from the other there is none
abbrev pub moving : Move-F Moving Eval Chosen Eval Operated → Moving
moving Move-F.Not heap frame (Of v) = of_value (negated v)
moving (Move-F.Sign g k) heap frame (Of v) = of_value (on_number (prefix_of g) k v)
moving (Move-F.Convert k) heap frame (Of v) = of_value (converted k v)
moving Move-F.Follow heap frame (Of v) = at_place (followed heap v)
moving (Move-F.Index i n) heap frame (Of v) = at_place (bind (value_by i heap frame) (indexed heap n v))
moving (Move-F.Read k n) heap frame (At p) = of_value (read_in heap k n p)
moving Move-F.Address heap frame (At p) = Ok (Of (Scalar (to p)))
moving (Move-F.Field n) heap frame (At p) = at_place (moved_in heap p (pos n))
moving m heap frame r = Err undef.Kind

-- moves, the first one first
abbrev pub all_moves : List Moving → Heap → ℕ → Answer Reached → Answer Reached
all_moves [] heap frame r = r
all_moves (m ∷ ms) heap frame r = all_moves ms heap frame (bind r (m heap frame))

-- 3. Chains

-- a pointer or function, and another or a number
abbrev pub pointer_result : Heap → Operated → BinaryOperator → Cell → Cell → Answer Cell
pointer_result heap o op.Add x y = bind (number_of y) (λ n. stepped_in heap x (n *ℤ pos o.step))
pointer_result heap o op.Subtract x y =
    if is_integer o.right then bind (number_of y) (λ n. stepped_in heap x (neg_ℤ (n *ℤ pos o.step)))
    else bind (pointed_in heap x) (λ p. bind (pointed_in heap y) (difference p))
pointer_result heap o op.Equal x y = Ok (truth (same x y))
pointer_result heap o op.Unequal x y = Ok (truth (if same x y then false else true))
pointer_result heap o p x y = Err undef.Kind

-- an operation on two cells
abbrev pub combined : Heap → Operated → Cell → Cell → Answer Cell
combined heap o x y =
    if is_integer o.left && is_integer o.right then bind (number_of x) (λ a. bind (number_of y) (λ b. calculated o.operator o.gives o.left o.right a b))
    else pointer_result heap o o.operator x y

abbrev pub as_value : Answer Cell → Answer Value
as_value a = bind a (λ c. Ok (Scalar c))

-- an operation on a value; `&&` and `||` may need no second one
abbrev pub operate : Heap → ℕ → Operated → BinaryOperator → Value → Answer Value
operate heap frame o op.And v = shortened false v (λ u. value_by o.operand heap frame)
operate heap frame o op.Or v = shortened true v (λ u. value_by o.operand heap frame)
operate heap frame o p v = bind (scalar v) (λ x. bind (value_by o.operand heap frame) (λ w. bind (scalar w) (λ y. as_value (combined heap o x y))))

abbrev pub operated : Heap → ℕ → Answer Value → List Operated → Answer Value
operated heap frame v [] = v
operated heap frame v (o ∷ os) = operated heap frame (bind v (operate heap frame o o.operator)) os

-- 4. Choices

-- the first value whose condition is true, in the kind of the whole from there on
abbrev pub chosen : Heap → ℕ → List Chosen → Eval → Answer Value
chosen heap frame [] e = value_by e heap frame
chosen heap frame (c ∷ cs) e =
    bind (value_by c.test heap frame) (λ t. bind (scalar t) (λ y.
    bind (one_of (is_false y) (λ u. chosen heap frame cs e) (λ u. value_by c.yes heap frame)) (converted c.gives)))

-- 5. Code

abbrev pub starting : Start-F Moving Eval Chosen Eval Operated → Eval
starting (Start-F.Cell c) heap frame = Ok (Of (Scalar c))
starting (Start-F.Local at) heap frame = Ok (At (record { block = frame; at = at }))
starting (Start-F.Block b) heap frame = Ok (At (record { block = b; at = 0 }))
starting Start-F.Nothing heap frame = Err undef.Kind
starting (Start-F.Chain a os) heap frame = of_value (operated heap frame (value_by a heap frame) os)
starting (Start-F.Choice cs e) heap frame = of_value (chosen heap frame cs e)

abbrev pub choosing : Alternative-F Moving Eval Chosen Eval Operated → Chosen
choosing c = record { test = c.test; yes = c.yes; gives = c.gives }

abbrev pub coding : Code-F Moving Eval Chosen Eval Operated → Eval
coding c heap frame = all_moves c.moves heap frame (c.start heap frame)

abbrev pub operating : Operation-F Moving Eval Chosen Eval Operated → Operated
operating o = record { operator = o.operator; gives = o.gives; left = o.left; right = o.right; step = o.step; operand = o.operand }

-- WHAT CODE COMES TO: each move goes on from what was reached
abbrev pub coded : Code → Eval
coded = fold-Code Moving Eval Chosen Eval Operated moving starting choosing coding operating

-- the value, the place and the one cell that it comes to
abbrev pub value_of : Code → Heap → ℕ → Answer Value
value_of c heap frame = value_by (coded c) heap frame

abbrev pub place_of : Code → Heap → ℕ → Answer Place
place_of c heap frame = bind (coded c heap frame) place

abbrev pub cell_of : Code → Heap → ℕ → Answer Cell
cell_of c heap frame = bind (value_of c heap frame) scalar
