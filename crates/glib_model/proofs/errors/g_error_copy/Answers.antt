-- The error that was found is copied.
use Rattle.std.proofs.Common.{◌≡◌, ◌∙◌, refl, sym, ap, List, [], ◌∷◌, None}
use Rattle.vg_base.specs.declared.event.ThingKind.TheVariants as thing
use Rattle.c_meaning.specs.declared.cell.Cell.{Cell}
use Rattle.c_meaning.specs.State
use Rattle.c_meaning.specs.BlockRows.{TypeArgument, stuck, thing_of, g_error_copy}
use Rattle.glib_model.specs.Arguments.{one_of}
use Rattle.glib_model.proofs.ArgumentLemmas.{from_one}
use Rattle.glib_model.proofs.BlockLemmas.{none_row}
use Rattle.glib_model.proofs.ErrorRows.{copies, copy_shape, found_row}
use Rattle.glib_model.proofs.Rows.{stuck_row}
use Rattle.glib_model.proofs.errors.g_error_copy.Goals as goal

other : (s : State.State) (t : TypeArgument) (args : List Cell) → one_of args ≡ None → g_error_copy s t args ≡ stuck s
other s t [] none = refl
other s t (a ∷ []) none = cc
other s t (a ∷ b ∷ args) none = refl

pub returns-in_default : goal.returns-in_default
returns-in_default c = stuck_row g_error_copy c.args.args.now c.args.heap.now c.args.kinds.now c.undefined.result (λ s t. other s t c.args.args.now (sym c.one.ensures ∙ c.in_default.is)) c.undefined.ensures

pub returns-in-Ok : goal.returns-in-Ok
returns-in-Ok c =
    let args = from_one c.args.args.now c.in-Some.cell (sym c.one.ensures ∙ c.in-Some.is) in
    found_row g_error_copy c.args.args.now (λ s. thing_of s thing.Error c.in-Some.cell) copies c.in-Ok.block c.args.heap.now c.args.kinds.now c.copy_error.new.heap c.copy_error.result (λ s t. ap (g_error_copy s t) args ∙ copy_shape s t c.in-Some.cell) (λ s sees. sym c.in-Ok.is ∙ c.thing_of.ensures s sees) c.copy_error.ensures

pub returns-in-Err : goal.returns-in-Err
returns-in-Err c =
    let args = from_one c.args.args.now c.in-Some.cell (sym c.one.ensures ∙ c.in-Some.is) in
    none_row g_error_copy c.args.args.now (λ s. thing_of s thing.Error c.in-Some.cell) (λ s t f. copies s f.number) c.in-Err.kind c.args.heap.now c.args.kinds.now c.undefined-in-Err.result (λ s t. ap (g_error_copy s t) args ∙ copy_shape s t c.in-Some.cell) (λ s sees. sym c.in-Err.is ∙ c.thing_of.ensures s sees) c.undefined-in-Err.ensures
