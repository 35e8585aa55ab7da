-- Null matches nothing, and an error is tested.
use Rattle.std.proofs.Common.{◌≡◌, ◌∙◌, refl, sym, ap, false, List, [], ◌∷◌, None, Ok}
use Rattle.vg_base.specs.declared.event.Memory.{Memory}
use Rattle.vg_base.specs.declared.event.ThingKind.TheVariants as thing
use Rattle.c_meaning.specs.declared.cell.Cell.{Cell}
use Rattle.c_meaning.specs.declared.cell.Cell.TheVariants.{Int, Uns, Ptr, Func, Null, Unset}
use Rattle.c_meaning.specs.State
use Rattle.c_meaning.specs.Numbers.{truth}
use Rattle.c_meaning.specs.BlockRows.{TypeArgument, stuck, thing_of, g_error_matches}
use Rattle.glib_model.specs.declared.ends.LibEnd.{LibEnd}
use Rattle.glib_model.specs.declared.ends.LibWhat.TheVariants as what
use Rattle.glib_model.specs.Arguments.{three_of}
use Rattle.glib_model.proofs.ArgumentLemmas.{from_three}
use Rattle.glib_model.proofs.BlockLemmas.{none_row}
use Rattle.glib_model.proofs.ErrorRows.{tests, match_shape, found_row}
use Rattle.glib_model.proofs.Rows.{stuck_row, quiet_along}
use Rattle.glib_model.proofs.errors.g_error_matches.Goals as goal

other : (s : State.State) (t : TypeArgument) (args : List Cell) → three_of args ≡ None → g_error_matches s t args ≡ stuck s
other s t [] none = refl
other s t (Int z ∷ []) none = refl
other s t (Uns n ∷ []) none = refl
other s t (Ptr n m ∷ []) none = refl
other s t (Func f ∷ []) none = refl
other s t (Null ∷ []) none = refl
other s t (Unset ∷ []) none = refl
other s t (Int z ∷ b ∷ []) none = refl
other s t (Uns n ∷ b ∷ []) none = refl
other s t (Ptr n m ∷ b ∷ []) none = refl
other s t (Func f ∷ b ∷ []) none = refl
other s t (Null ∷ b ∷ []) none = refl
other s t (Unset ∷ b ∷ []) none = refl
other s t (a ∷ b ∷ c ∷ []) none = cc
other s t (Int z ∷ b ∷ c ∷ d ∷ args) none = refl
other s t (Uns n ∷ b ∷ c ∷ d ∷ args) none = refl
other s t (Ptr n m ∷ b ∷ c ∷ d ∷ args) none = refl
other s t (Func f ∷ b ∷ c ∷ d ∷ args) none = refl
other s t (Null ∷ b ∷ c ∷ d ∷ args) none = refl
other s t (Unset ∷ b ∷ c ∷ d ∷ args) none = refl

pub returns-in_default : goal.returns-in_default
returns-in_default c = stuck_row g_error_matches c.args.args.now c.args.heap.now c.args.kinds.now c.undefined.result (λ s t. other s t c.args.args.now (sym c.three.ensures ∙ c.in_default.is)) c.undefined.ensures

pub returns-in-Null : goal.returns-in-Null
returns-in-Null c = λ s t sees.
    let args = from_three c.args.args.now c.in-Some.cell c.in-Some.domain c.in-Some.code (sym c.three.ensures ∙ c.in-Some.is) in
    quiet_along s (g_error_matches s t c.args.args.now) c.args.heap.now (what.Value (truth false)) c.value.result sees.blocks
    (ap (g_error_matches s t) args ∙ ap (λ x. g_error_matches s t (x ∷ c.in-Some.domain ∷ c.in-Some.code ∷ [])) c.in-Null.is)
    (c.value.ensures ∙ ap (λ x. let a : LibEnd = record { what = what.Value x; notes = [] } in a) c.truth.ensures)

pub returns-in-Ok : goal.returns-in-Ok
returns-in-Ok c =
    let args = from_three c.args.args.now c.in-Some.cell c.in-Some.domain c.in-Some.code (sym c.three.ensures ∙ c.in-Some.is) in
    found_row {E = Memory} g_error_matches c.args.args.now (λ s. thing_of s thing.Error c.in-Some.cell) (tests c.in-Some.domain c.in-Some.code) c.in-Ok.block c.args.heap.now c.args.kinds.now c.args.heap.now (Ok c.test_error.result) (λ s t. ap (g_error_matches s t) args ∙ match_shape s t c.in-Some.cell c.in-Some.domain c.in-Some.code c.in_default-cell.not-Null) (λ s sees. sym c.in-Ok.is ∙ c.thing_of.ensures s sees) c.test_error.ensures

pub returns-in-Err : goal.returns-in-Err
returns-in-Err c =
    let args = from_three c.args.args.now c.in-Some.cell c.in-Some.domain c.in-Some.code (sym c.three.ensures ∙ c.in-Some.is) in
    none_row g_error_matches c.args.args.now (λ s. thing_of s thing.Error c.in-Some.cell) (λ s t f. tests c.in-Some.domain c.in-Some.code s f.number) c.in-Err.kind c.args.heap.now c.args.kinds.now c.undefined-in-Err.result (λ s t. ap (g_error_matches s t) args ∙ match_shape s t c.in-Some.cell c.in-Some.domain c.in-Some.code c.in_default-cell.not-Null) (λ s sees. sym c.in-Err.is ∙ c.thing_of.ensures s sees) c.undefined-in-Err.ensures
