-- What code comes to, one level after another.
use Rattle.std.proofs.Common.{◌≡◌, ◌∙◌, sym, ap, ℕ, List, map}
use Rattle.c_meaning.specs.State.{Value}
use Rattle.c_meaning.specs.Blocks.{bind}
use Rattle.c_code.specs.declared.code.Code.{Code, out-Code}
use Rattle.c_code.specs.declared.code.Start.{Start}
use Rattle.c_code.specs.declared.code.Start.TheVariants as start
use Rattle.c_code.specs.declared.code.Move.{Move}
use Rattle.c_code.specs.declared.code.Move.TheVariants as move
use Rattle.c_code.specs.declared.code.Alternative.{Alternative, out-Alternative}
use Rattle.c_code.specs.declared.code.Operation.{Operation, out-Operation}
use Rattle.c_code.specs.declared.code.Move.TheOpen.{Move-F, Start-F}
use Rattle.c_code.specs.declared.code.Move.TheFolds.{fold-roll-Move, fold-roll-Start, fold_out-Code, fold_out-Alternative, fold_out-Operation}
use Rattle.c_code.specs.Looks.{Heap}
use Rattle.c_code.specs.Coded.{Eval, Moving, Chosen, Operated, Of, moving, starting, choosing, coding, operating, coded, value_of, all_moves, operated, chosen, of_value, at_place, indexed}
use Rattle.c_evaluator.specs.Parts.{start_coded, move_coded, alternative_coded, operation_coded}

pub code_known : (c : Code) (h : Heap) (f : ℕ) → coded c h f ≡ all_moves (map move_coded (out-Code c).moves) h f (start_coded (out-Code c).start h f)
code_known c h f = ap (λ (e : Eval). e h f) (fold_out-Code Moving Eval Chosen Eval Operated moving starting choosing coding operating c)

pub operation_known : (o : Operation)
    → operation_coded o ≡ record { operator = (out-Operation o).operator; gives = (out-Operation o).gives; left = (out-Operation o).left; right = (out-Operation o).right; step = (out-Operation o).step; operand = coded (out-Operation o).operand }
operation_known o = fold_out-Operation Moving Eval Chosen Eval Operated moving starting choosing coding operating o

pub alternative_known : (a : Alternative)
    → alternative_coded a ≡ record { test = coded (out-Alternative a).test; yes = coded (out-Alternative a).yes; gives = (out-Alternative a).gives }
alternative_known a = fold_out-Alternative Moving Eval Chosen Eval Operated moving starting choosing coding operating a

module _ (h : Heap) (f : ℕ) where
  pub chain_known : (s : Start) (a : Code) (os : List Operation) → s ≡ start.Chain a os → start_coded s h f ≡ of_value (operated h f (value_of a h f) (map operation_coded os))
  chain_known s a os is =
      ap (λ z. start_coded z h f) (is ∙ sym (start.rolls-Chain a os))
      ∙ ap (λ (e : Eval). e h f) (fold-roll-Start Moving Eval Chosen Eval Operated moving starting choosing coding operating (Start-F.Chain a os))

  pub choice_known : (s : Start) (cs : List Alternative) (e : Code) → s ≡ start.Choice cs e → start_coded s h f ≡ of_value (chosen h f (map alternative_coded cs) (coded e))
  choice_known s cs e is =
      ap (λ z. start_coded z h f) (is ∙ sym (start.rolls-Choice cs e))
      ∙ ap (λ (x : Eval). x h f) (fold-roll-Start Moving Eval Chosen Eval Operated moving starting choosing coding operating (Start-F.Choice cs e))

  pub index_known : (m : Move) (i : Code) (n : ℕ) (v : Value) → m ≡ move.Index i n → move_coded m h f (Of v) ≡ at_place (bind (value_of i h f) (indexed h n v))
  index_known m i n v is =
      ap (λ z. move_coded z h f (Of v)) (is ∙ sym (move.rolls-Index i n))
      ∙ ap (λ (g : Moving). g h f (Of v)) (fold-roll-Move Moving Eval Chosen Eval Operated moving starting choosing coding operating (Move-F.Index i n))
