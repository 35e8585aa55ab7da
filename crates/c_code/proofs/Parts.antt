-- What code comes to, by its start and its moves.
use Rattle.std.proofs.Common.{◌≡◌, ◌∙◌, refl, sym, ap, ap₂, ℕ, List, [], ◌∷◌, ◌++◌, map}
use Rattle.std.proofs.lemmas.List.{map-append}
use Rattle.c_meaning.specs.Blocks.{Answer, bind}
use Rattle.c_code.specs.declared.code.Code.{Code}
use Rattle.c_code.specs.declared.code.Start.{Start, roll-Start}
use Rattle.c_code.specs.declared.code.Start.TheVariants as start
use Rattle.c_code.specs.declared.code.Move.{Move, roll-Move}
use Rattle.c_code.specs.declared.code.Move.TheVariants as go
use Rattle.c_code.specs.declared.code.Operation.{Operation, roll-Operation}
use Rattle.c_code.specs.declared.code.Alternative.{Alternative, roll-Alternative}
use Rattle.c_code.specs.declared.code.Move.TheOpen.{Move-F, Start-F, Alternative-F, Operation-F}
use Rattle.c_code.specs.declared.code.Move.TheFolds.{fold-Move, fold-Start, fold-Alternative, fold-Operation, fold-roll-Code, fold_out-Code, fold-roll-Move, fold-roll-Start, fold-roll-Alternative, fold-roll-Operation, map-Move, map-Start}
use Rattle.c_code.specs.Looks.{Heap}
use Rattle.c_code.specs.Coded.{Reached, Eval, Moving, Chosen, Operated, moving, starting, choosing, coding, operating, coded, all_moves}
use Rattle.c_code.specs.Resolved.{code, on}

-- 1. The parts of code

abbrev pub move_does : Move → Moving
move_does = fold-Move Moving Eval Chosen Eval Operated moving starting choosing coding operating

abbrev pub start_does : Start → Eval
start_does = fold-Start Moving Eval Chosen Eval Operated moving starting choosing coding operating

abbrev pub operation_does : Operation → Operated
operation_does = fold-Operation Moving Eval Chosen Eval Operated moving starting choosing coding operating

abbrev pub alternative_does : Alternative → Chosen
alternative_does = fold-Alternative Moving Eval Chosen Eval Operated moving starting choosing coding operating

-- 2. Moves

abbrev pub OpenMove : Type 0
OpenMove = Move-F Move Start Alternative Code Operation

-- a move from one level of it
abbrev pub move_at : OpenMove → Move
move_at Move-F.Not = go.Not
move_at (Move-F.Sign g k) = go.Sign g k
move_at (Move-F.Convert k) = go.Convert k
move_at Move-F.Follow = go.Follow
move_at (Move-F.Read k n) = go.Read k n
move_at Move-F.Address = go.Address
move_at (Move-F.Field n) = go.Field n
move_at (Move-F.Index i n) = go.Index i n

move_rolls : (l : OpenMove) → roll-Move l ≡ move_at l
move_rolls Move-F.Not = go.rolls-Not
move_rolls (Move-F.Sign g k) = go.rolls-Sign g k
move_rolls (Move-F.Convert k) = go.rolls-Convert k
move_rolls Move-F.Follow = go.rolls-Follow
move_rolls (Move-F.Read k n) = go.rolls-Read k n
move_rolls Move-F.Address = go.rolls-Address
move_rolls (Move-F.Field n) = go.rolls-Field n
move_rolls (Move-F.Index i n) = go.rolls-Index i n

-- a level with what its parts do
abbrev pub move_layer : OpenMove → Move-F Moving Eval Chosen Eval Operated
move_layer = map-Move Move Start Alternative Code Operation Moving Eval Chosen Eval Operated move_does start_does alternative_does coded operation_does

move_is : (l : OpenMove) → move_does (move_at l) ≡ moving (move_layer l)
move_is l = ap move_does (sym (move_rolls l)) ∙ fold-roll-Move Moving Eval Chosen Eval Operated moving starting choosing coding operating l

-- 3. Starts

abbrev pub OpenStart : Type 0
OpenStart = Start-F Move Start Alternative Code Operation

abbrev pub start_at : OpenStart → Start
start_at (Start-F.Cell c) = start.Cell c
start_at (Start-F.Local n) = start.Local n
start_at (Start-F.Block n) = start.Block n
start_at Start-F.Nothing = start.Nothing
start_at (Start-F.Chain a os) = start.Chain a os
start_at (Start-F.Choice cs e) = start.Choice cs e

start_rolls : (l : OpenStart) → roll-Start l ≡ start_at l
start_rolls (Start-F.Cell c) = start.rolls-Cell c
start_rolls (Start-F.Local n) = start.rolls-Local n
start_rolls (Start-F.Block n) = start.rolls-Block n
start_rolls Start-F.Nothing = start.rolls-Nothing
start_rolls (Start-F.Chain a os) = start.rolls-Chain a os
start_rolls (Start-F.Choice cs e) = start.rolls-Choice cs e

abbrev pub start_layer : OpenStart → Start-F Moving Eval Chosen Eval Operated
start_layer = map-Start Move Start Alternative Code Operation Moving Eval Chosen Eval Operated move_does start_does alternative_does coded operation_does

start_is : (l : OpenStart) → start_does (start_at l) ≡ starting (start_layer l)
start_is l = ap start_does (sym (start_rolls l)) ∙ fold-roll-Start Moving Eval Chosen Eval Operated moving starting choosing coding operating l

-- 4. Operations and alternatives

abbrev pub OpenOperation : Type 0
OpenOperation = Operation-F Move Start Alternative Code Operation

pub operation_is : (o : OpenOperation) → operation_does (roll-Operation o)
    ≡ record { operator = o.operator; gives = o.gives; left = o.left; right = o.right; step = o.step; operand = coded o.operand }
operation_is o = fold-roll-Operation Moving Eval Chosen Eval Operated moving starting choosing coding operating o

abbrev pub OpenAlternative : Type 0
OpenAlternative = Alternative-F Move Start Alternative Code Operation

pub alternative_is : (a : OpenAlternative) → alternative_does (roll-Alternative a) ≡ record { test = coded a.test; yes = coded a.yes; gives = a.gives }
alternative_is a = fold-roll-Alternative Moving Eval Chosen Eval Operated moving starting choosing coding operating a

-- 5. Code

code_does : (s : Start) (ms : List Move) (h : Heap) (f : ℕ) → coded (code s ms) h f ≡ all_moves (map move_does ms) h f (start_does s h f)
code_does s ms h f = ap (λ (e : Eval). e h f) (fold-roll-Code Moving Eval Chosen Eval Operated moving starting choosing coding operating
    (record { start = s; moves = ms }))

code_out : (c : Code) (h : Heap) (f : ℕ) → coded c h f ≡ all_moves (map move_does c.moves) h f (start_does c.start h f)
code_out c h f = ap (λ (e : Eval). e h f) (fold_out-Code Moving Eval Chosen Eval Operated moving starting choosing coding operating c)

-- what has no moves comes to its start
pub started : (l : OpenStart) (h : Heap) (f : ℕ) → coded (code (start_at l) []) h f ≡ starting (start_layer l) h f
started l h f = code_does (start_at l) [] h f ∙ ap (λ (e : Eval). e h f) (start_is l)

moves_append : (ms ns : List Moving) (h : Heap) (f : ℕ) (r : Answer Reached) → all_moves (ms ++ ns) h f r ≡ all_moves ns h f (all_moves ms h f r)
moves_append [] ns h f r = refl
moves_append (m ∷ ms) ns h f r = moves_append ms ns h f (bind r (m h f))

on_does : (c : Code) (ms : List Move) (h : Heap) (f : ℕ) → coded (on c ms) h f ≡ all_moves (map move_does ms) h f (coded c h f)
on_does c ms h f =
    code_does c.start (c.moves ++ ms) h f
    ∙ ap (λ (z : List Moving). all_moves z h f (start_does c.start h f)) (map-append move_does c.moves ms)
    ∙ moves_append (map move_does c.moves) (map move_does ms) h f (start_does c.start h f)
    ∙ ap (all_moves (map move_does ms) h f) (sym (code_out c h f))

-- one move more, and two
pub moved_on : (c : Code) (l : OpenMove) (h : Heap) (f : ℕ) → coded (on c (move_at l ∷ [])) h f ≡ bind (coded c h f) (moving (move_layer l) h f)
moved_on c l h f = on_does c (move_at l ∷ []) h f ∙ ap (λ (m : Moving). bind (coded c h f) (m h f)) (move_is l)

pub moved_twice : (c : Code) (k l : OpenMove) (h : Heap) (f : ℕ)
    → coded (on c (move_at k ∷ move_at l ∷ [])) h f ≡ bind (bind (coded c h f) (moving (move_layer k) h f)) (moving (move_layer l) h f)
moved_twice c k l h f = on_does c (move_at k ∷ move_at l ∷ []) h f ∙ ap₂ (λ (m n : Moving). bind (bind (coded c h f) (m h f)) (n h f)) (move_is k) (move_is l)
