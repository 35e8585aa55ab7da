-- The text names the trap.
use Rattle.std.proofs.Common.{◌≡◌, ◌∙◌, refl, sym, ap, List, [], ◌∷◌, None}
use Rattle.vg_base.specs.declared.event.TrapKind.{TrapKind}
use Rattle.vg_base.specs.declared.event.CEnd.TheVariants as «end»
use Rattle.c_meaning.specs.declared.cell.Cell.{Cell}
use Rattle.c_meaning.specs.State
use Rattle.c_meaning.specs.Blocks.{bind, stop}
use Rattle.c_meaning.specs.Texts.{text_of}
use Rattle.c_meaning.specs.BlockRows.{TypeArgument, stuck, g_error, trap_named, all_traps}
use Rattle.glib_model.specs.declared.ends.LibWhat.TheVariants as what
use Rattle.glib_model.specs.Arguments.{one_of}
use Rattle.glib_model.proofs.ArgumentLemmas.{from_one}
use Rattle.glib_model.proofs.Rows.{stuck_row, quiet_row, err_row}
use Rattle.glib_model.proofs.outside.g_error.Goals as goal

other : (s : State.State) (t : TypeArgument) (args : List Cell) → one_of args ≡ None → g_error s t args ≡ stuck s
other s t [] none = refl
other s t (a ∷ []) none = cc
other s t (a ∷ b ∷ args) none = refl

pub returns-in_default : goal.returns-in_default
returns-in_default c = stuck_row g_error c.args.args.now c.args.heap.now c.args.kinds.now c.undefined.result (λ s t. other s t c.args.args.now (sym c.one.ensures ∙ c.in_default.is)) c.undefined.ensures

pub returns-in-Ok : goal.returns-in-Ok
returns-in-Ok c =
    let args = from_one c.args.args.now c.in-Some.cell (sym c.one.ensures ∙ c.in-Some.is) in
    quiet_row g_error c.args.args.now (λ (trap : TrapKind). trap) (λ s. bind (text_of s c.in-Some.cell) (trap_named all_traps)) (λ s k. stop s («end».Aborted k)) c.trap_of.result c.args.heap.now c.args.kinds.now c.quiet.result (what.Aborted c.in-Ok.trap) c.in-Ok.trap (λ s t. ap (g_error s t) args) c.trap_of.ensures c.in-Ok.is (λ s. refl) c.quiet.ensures

pub returns-in-Err : goal.returns-in-Err
returns-in-Err c =
    let args = from_one c.args.args.now c.in-Some.cell (sym c.one.ensures ∙ c.in-Some.is) in
    err_row g_error c.args.args.now (λ (trap : TrapKind). trap) (λ s. bind (text_of s c.in-Some.cell) (trap_named all_traps)) (λ s k. stop s («end».Aborted k)) c.trap_of.result c.args.heap.now c.args.kinds.now c.refused.result c.in-Err.fault (λ s t. ap (g_error s t) args) c.trap_of.ensures c.in-Err.is c.refused.ensures
