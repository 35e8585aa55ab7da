-- What was found is freed.
use Rattle.std.proofs.Common.{◌≡◌, ◌∙◌, refl, sym, ap, List, [], ◌∷◌, None}
use Rattle.vg_base.specs.declared.event.ThingKind.TheVariants as thing
use Rattle.c_meaning.specs.declared.cell.Cell.{Cell}
use Rattle.c_meaning.specs.State
use Rattle.c_meaning.specs.Blocks.{free}
use Rattle.c_meaning.specs.Texts.{give_nothing}
use Rattle.c_meaning.specs.BlockRows.{TypeArgument, stuck, thing_of, g_error_free}
use Rattle.glib_model.specs.Arguments.{one_of}
use Rattle.glib_model.proofs.ArgumentLemmas.{from_one}
use Rattle.glib_model.proofs.BlockLemmas.{free_row, none_row}
use Rattle.glib_model.proofs.Rows.{stuck_row}
use Rattle.glib_model.proofs.errors.g_error_free.Goals as goal

other : (s : State.State) (t : TypeArgument) (args : List Cell) → one_of args ≡ None → g_error_free s t args ≡ stuck s
other s t [] none = refl
other s t (a ∷ []) none = cc
other s t (a ∷ b ∷ args) none = refl

pub returns-in_default : goal.returns-in_default
returns-in_default c = stuck_row g_error_free c.args.args.now c.args.heap.now c.args.kinds.now c.undefined.result (λ s t. other s t c.args.args.now (sym c.one.ensures ∙ c.in_default.is)) c.undefined.ensures

pub returns-in-Ok : goal.returns-in-Ok
returns-in-Ok c =
    let args = from_one c.args.args.now c.in-Some.cell (sym c.one.ensures ∙ c.in-Some.is) in
    free_row g_error_free c.args.args.now (λ s. thing_of s thing.Error c.in-Some.cell) c.in-Ok.block c.args.heap.now c.args.kinds.now c.give_up.new.heap c.give_up.result (λ s t. ap (g_error_free s t) args) (λ s sees. sym c.in-Ok.is ∙ c.thing_of.ensures s sees) c.give_up.ensures.answer c.give_up.ensures.freed

pub returns-in-Err : goal.returns-in-Err
returns-in-Err c =
    let args = from_one c.args.args.now c.in-Some.cell (sym c.one.ensures ∙ c.in-Some.is) in
    none_row g_error_free c.args.args.now (λ s. thing_of s thing.Error c.in-Some.cell) (λ s t f. give_nothing (free s f.number)) c.in-Err.kind c.args.heap.now c.args.kinds.now c.undefined-in-Err.result (λ s t. ap (g_error_free s t) args) (λ s sees. sym c.in-Err.is ∙ c.thing_of.ensures s sees) c.undefined-in-Err.ensures
