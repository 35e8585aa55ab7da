-- The message is what the format writes.
use Rattle.std.proofs.Common.{◌≡◌, refl, ap, ℕ, ◌-◌, ◌<◌, Vec, Global, List, [], ◌∷◌, length, take, drop, get_or, pos, arith}
use Rattle.c_meaning.specs.declared.cell.Cell.{Cell}
use Rattle.c_meaning.specs.declared.cell.Cell.TheVariants.{Int}
use Rattle.c_meaning.specs.State
use Rattle.c_meaning.specs.Formats.{formatted}
use Rattle.c_meaning.specs.BlockRows.{TypeArgument, stuck, give_error, g_error_new}
use Rattle.glib_model.proofs.ErrorLemmas.{message_along}
use Rattle.glib_model.proofs.ArgumentLemmas.{some_three}
use Rattle.glib_model.proofs.Rows.{stuck_row, ok_row, err_row}
use Rattle.glib_model.proofs.errors.g_error_new.Goals as goal

other : (s : State.State) (t : TypeArgument) (args : List Cell) → length args < 3 → g_error_new s t args ≡ stuck s
other s t [] few = refl
other s t (a ∷ []) few = refl
other s t (a ∷ b ∷ []) few = refl
other s t (a ∷ b ∷ c ∷ args) few = absurd (omega arith)

pub returns-then-args-lt3 : goal.returns-then-args-lt3
returns-then-args-lt3 c = stuck_row g_error_new c.args.args.now c.args.heap.now c.args.kinds.now c.undefined.result (λ s t. other s t c.args.args.now (omega arith)) c.undefined.ensures

pub returns-in-Ok : goal.returns-in-Ok
returns-in-Ok c =
    ok_row g_error_new c.args.args.now (λ (text : Vec ℕ Global). text.items) (λ s. formatted s (get_or c.args.args.now 2 (Int (pos 0))) (take (length c.args.args.now - 3) (drop 3 c.args.args.now))) (λ s bytes. give_error s (get_or c.args.args.now 0 (Int (pos 0))) (get_or c.args.args.now 1 (Int (pos 0))) bytes) c.formatted.result c.args.heap.now c.args.kinds.now c.give_error.new.heap c.give_error.result c.in-Ok.message (λ s t. ap (g_error_new s t) (some_three c.args.args.now (Int (pos 0)) (omega arith))) c.formatted.ensures c.in-Ok.is
    (message_along c.give_error.result c.args.heap.now c.give_error.new.heap (get_or c.args.args.now 0 (Int (pos 0))) (get_or c.args.args.now 1 (Int (pos 0))) c.as_slice.result.now c.in-Ok.message.items c.as_slice.ensures.value c.give_error.ensures)

pub returns-in-Err : goal.returns-in-Err
returns-in-Err c = err_row g_error_new c.args.args.now (λ (text : Vec ℕ Global). text.items) (λ s. formatted s (get_or c.args.args.now 2 (Int (pos 0))) (take (length c.args.args.now - 3) (drop 3 c.args.args.now))) (λ s bytes. give_error s (get_or c.args.args.now 0 (Int (pos 0))) (get_or c.args.args.now 1 (Int (pos 0))) bytes) c.formatted.result c.args.heap.now c.args.kinds.now c.refused.result c.in-Err.fault (λ s t. ap (g_error_new s t) (some_three c.args.args.now (Int (pos 0)) (omega arith))) c.formatted.ensures c.in-Err.is c.refused.ensures
