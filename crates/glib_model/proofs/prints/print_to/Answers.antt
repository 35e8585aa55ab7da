-- What the format writes.
use Rattle.std.proofs.Common.{◌≡◌, refl, ap, ℕ, ◌-◌, Vec, Global, List, [], ◌∷◌, length, take, drop, get_or, pos, arith}
use Rattle.vg_base.specs.declared.event.Event.TheVariants as event
use Rattle.vg_base.specs.declared.event.Stream.{Stream}
use Rattle.c_meaning.specs.declared.cell.Cell.{Cell}
use Rattle.c_meaning.specs.declared.cell.Cell.TheVariants.{Int}
use Rattle.c_meaning.specs.State
use Rattle.c_meaning.specs.Blocks.{happens}
use Rattle.c_meaning.specs.Texts.{give_nothing}
use Rattle.c_meaning.specs.Formats.{formatted}
use Rattle.c_meaning.specs.BlockRows.{TypeArgument, stuck, print_to}
use Rattle.glib_model.specs.declared.ends.LibWhat.TheVariants as what
use Rattle.glib_model.proofs.ArgumentLemmas.{some_first}
use Rattle.glib_model.proofs.Rows.{stuck_row, quiet_row, err_row}
use Rattle.glib_model.proofs.prints.print_to.Goals as goal

other : (to : Stream) (s : State.State) (t : TypeArgument) (args : List Cell) → length args ≡ 0 → print_to to s t args ≡ stuck s
other to s t [] none = refl
other to s t (a ∷ args) none = absurd (omega arith)

pub returns-then-is_empty : goal.returns-then-is_empty
returns-then-is_empty c = stuck_row (print_to c.args.stream) c.args.args.now c.args.heap.now c.args.kinds.now c.undefined.result (λ s t. other c.args.stream s t c.args.args.now (grind arith)) c.undefined.ensures

pub returns-in-Ok : goal.returns-in-Ok
returns-in-Ok c =
    quiet_row (print_to c.args.stream) c.args.args.now (λ (text : Vec ℕ Global). text.items) (λ s. formatted s (get_or c.args.args.now 0 (Int (pos 0))) (take (length c.args.args.now - 1) (drop 1 c.args.args.now))) (λ s bytes. give_nothing (happens s (event.Print c.args.stream bytes))) c.formatted.result c.args.heap.now c.args.kinds.now c.quiet.result (what.Print c.args.stream c.in-Ok.list.items) c.in-Ok.list (λ s t. ap ((print_to c.args.stream) s t) (some_first c.args.args.now (Int (pos 0)) (grind arith))) c.formatted.ensures c.in-Ok.is (λ s. refl) c.quiet.ensures

pub returns-in-Err : goal.returns-in-Err
returns-in-Err c = err_row (print_to c.args.stream) c.args.args.now (λ (text : Vec ℕ Global). text.items) (λ s. formatted s (get_or c.args.args.now 0 (Int (pos 0))) (take (length c.args.args.now - 1) (drop 1 c.args.args.now))) (λ s bytes. give_nothing (happens s (event.Print c.args.stream bytes))) c.formatted.result c.args.heap.now c.args.kinds.now c.refused.result c.in-Err.fault (λ s t. ap ((print_to c.args.stream) s t) (some_first c.args.args.now (Int (pos 0)) (grind arith))) c.formatted.ensures c.in-Err.is c.refused.ensures
