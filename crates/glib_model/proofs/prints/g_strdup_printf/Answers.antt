-- What the format writes.
use Rattle.std.proofs.Common.{◌≡◌, refl, ap, ℕ, ◌-◌, Vec, Global, List, [], ◌∷◌, length, take, drop, get_or, pos, arith}
use Rattle.c_meaning.specs.declared.cell.Cell.{Cell}
use Rattle.c_meaning.specs.declared.cell.Cell.TheVariants.{Int}
use Rattle.c_meaning.specs.State
use Rattle.c_meaning.specs.Texts.{give_text}
use Rattle.c_meaning.specs.Formats.{formatted}
use Rattle.c_meaning.specs.BlockRows.{TypeArgument, stuck, g_strdup_printf}
use Rattle.glib_model.proofs.MakingLemmas.{bytes_along}
use Rattle.glib_model.proofs.ArgumentLemmas.{some_first}
use Rattle.glib_model.proofs.Rows.{stuck_row, ok_row, err_row}
use Rattle.glib_model.proofs.prints.g_strdup_printf.Goals as goal

other : (s : State.State) (t : TypeArgument) (args : List Cell) → length args ≡ 0 → g_strdup_printf s t args ≡ stuck s
other s t [] none = refl
other s t (a ∷ args) none = absurd (omega arith)

pub returns-then-is_empty : goal.returns-then-is_empty
returns-then-is_empty c = stuck_row g_strdup_printf c.args.args.now c.args.heap.now c.args.kinds.now c.undefined.result (λ s t. other s t c.args.args.now (grind arith)) c.undefined.ensures

pub returns-in-Ok : goal.returns-in-Ok
returns-in-Ok c =
    ok_row g_strdup_printf c.args.args.now (λ (text : Vec ℕ Global). text.items) (λ s. formatted s (get_or c.args.args.now 0 (Int (pos 0))) (take (length c.args.args.now - 1) (drop 1 c.args.args.now))) give_text c.formatted.result c.args.heap.now c.args.kinds.now c.give_text.new.heap c.give_text.result c.in-Ok.text (λ s t. ap (g_strdup_printf s t) (some_first c.args.args.now (Int (pos 0)) (grind arith))) c.formatted.ensures c.in-Ok.is
    (bytes_along c.give_text.result c.args.heap.now c.give_text.new.heap c.as_slice.result.now c.in-Ok.text.items c.as_slice.ensures.value c.give_text.ensures)

pub returns-in-Err : goal.returns-in-Err
returns-in-Err c = err_row g_strdup_printf c.args.args.now (λ (text : Vec ℕ Global). text.items) (λ s. formatted s (get_or c.args.args.now 0 (Int (pos 0))) (take (length c.args.args.now - 1) (drop 1 c.args.args.now))) give_text c.formatted.result c.args.heap.now c.args.kinds.now c.refused.result c.in-Err.fault (λ s t. ap (g_strdup_printf s t) (some_first c.args.args.now (Int (pos 0)) (grind arith))) c.formatted.ensures c.in-Err.is c.refused.ensures
