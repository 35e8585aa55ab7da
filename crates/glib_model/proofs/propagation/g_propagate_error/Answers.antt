-- The error moves, or is freed where the place is null.
use Rattle.std.proofs.Common.{◌≡◌, ◌∙◌, refl, sym, ap, List, [], ◌∷◌, None}
use Rattle.c_meaning.specs.declared.cell.Cell.{Cell}
use Rattle.c_meaning.specs.declared.cell.Cell.TheVariants.{Int, Uns, Ptr, Func, Null, Unset}
use Rattle.c_meaning.specs.State
use Rattle.c_meaning.specs.BlockRows.{TypeArgument, stuck, g_propagate_error}
use Rattle.glib_model.specs.Arguments.{two_of}
use Rattle.glib_model.specs.Errors.{place, seen_target}
use Rattle.glib_model.proofs.ArgumentLemmas.{from_two}
use Rattle.glib_model.proofs.PropagationLemmas.{move_row, lost_row, unmoved_row, freed_row}
use Rattle.glib_model.proofs.Rows.{stuck_row}
use Rattle.glib_model.proofs.propagation.g_propagate_error.Goals as goal

other : (s : State.State) (t : TypeArgument) (args : List Cell) → two_of args ≡ None → g_propagate_error s t args ≡ stuck s
other s t [] none = refl
other s t (Int z ∷ []) none = refl
other s t (Uns n ∷ []) none = refl
other s t (Ptr n m ∷ []) none = refl
other s t (Func f ∷ []) none = refl
other s t (Null ∷ []) none = refl
other s t (Unset ∷ []) none = refl
other s t (a ∷ b ∷ []) none = cc
other s t (Int z ∷ b ∷ c ∷ args) none = refl
other s t (Uns n ∷ b ∷ c ∷ args) none = refl
other s t (Ptr n m ∷ b ∷ c ∷ args) none = refl
other s t (Func f ∷ b ∷ c ∷ args) none = refl
other s t (Null ∷ b ∷ c ∷ args) none = refl
other s t (Unset ∷ b ∷ c ∷ args) none = refl

pub returns-in_default : goal.returns-in_default
returns-in_default c = stuck_row g_propagate_error c.args.args.now c.args.heap.now c.args.kinds.now c.undefined.result (λ s t. other s t c.args.args.now (sym c.two.ensures ∙ c.in_default.is)) c.undefined.ensures

pub returns-in-Null : goal.returns-in-Null
returns-in-Null c =
    let args = from_two c.args.args.now c.in-Some.cell c.in-Some.error (sym c.two.ensures ∙ c.in-Some.is) in
    freed_row c.args.args.now c.in-Some.error c.args.heap.now c.args.kinds.now c.g_error_free.new.heap c.g_error_free.result (args ∙ ap (λ x. x ∷ c.in-Some.error ∷ []) c.in-Null.is) c.g_error_free.ensures

pub returns-in-Err : goal.returns-in-Err
returns-in-Err c =
    let args = from_two c.args.args.now c.in-Some.cell c.in-Some.error (sym c.two.ensures ∙ c.in-Some.is) in
    lost_row c.args.args.now c.in-Some.cell c.in-Some.error c.in-Err.kind c.args.heap.now c.args.kinds.now c.undefined-in-Err.result args c.in_default-cell.not-Null
    (λ s sees. sym (c.destination.ensures s sees) ∙ ap seen_target c.in-Err.is) c.undefined-in-Err.ensures

pub returns-in-Err-thing_of : goal.returns-in-Err-thing_of
returns-in-Err-thing_of c =
    let args = from_two c.args.args.now c.in-Some.cell c.in-Some.error (sym c.two.ensures ∙ c.in-Some.is) in
    unmoved_row c.args.args.now c.in-Some.cell c.in-Some.error (place c.in-Ok.target.block c.in-Ok.target.at) c.in-Err-thing_of.kind c.args.heap.now c.args.kinds.now c.undefined-in-Err-thing_of.result args c.in_default-cell.not-Null
    (λ s sees. sym (c.destination.ensures s sees) ∙ ap seen_target c.in-Ok.is) (λ s sees. sym c.in-Err-thing_of.is ∙ c.thing_of.ensures s sees) c.undefined-in-Err-thing_of.ensures

pub returns-in-Ok-thing_of : goal.returns-in-Ok-thing_of
returns-in-Ok-thing_of c =
    let args = from_two c.args.args.now c.in-Some.cell c.in-Some.error (sym c.two.ensures ∙ c.in-Some.is) in
    move_row c.args.args.now c.in-Some.cell c.in-Some.error (place c.in-Ok.target.block c.in-Ok.target.at) c.in-Ok-thing_of.field-0 c.args.heap.now c.args.kinds.now c.set.new.self c.nothing.result args c.in_default-cell.not-Null
    (λ s sees. sym (c.destination.ensures s sees) ∙ ap seen_target c.in-Ok.is) (λ s sees. sym c.in-Ok-thing_of.is ∙ c.thing_of.ensures s sees) c.set.ensures.stored c.nothing.ensures
