-- Null is nothing, and what was found is freed.
use Rattle.std.proofs.Common.{◌≡◌, ◌∙◌, refl, sym, ap, List, [], ◌∷◌, None}
use Rattle.c_meaning.specs.declared.cell.Cell.{Cell}
use Rattle.c_meaning.specs.declared.cell.Cell.TheVariants.{Int, Uns, Ptr, Func, Null, Unset}
use Rattle.c_meaning.specs.State
use Rattle.c_meaning.specs.Blocks.{free}
use Rattle.c_meaning.specs.Texts.{give_nothing}
use Rattle.c_meaning.specs.BlockRows.{TypeArgument, stuck, g_free}
use Rattle.glib_model.specs.declared.ends.LibWhat.TheVariants as what
use Rattle.glib_model.specs.Arguments.{one_of}
use Rattle.glib_model.specs.Found.{freeable}
use Rattle.glib_model.proofs.ArgumentLemmas.{from_one}
use Rattle.glib_model.proofs.BlockLemmas.{free_row, none_row, free_shape}
use Rattle.glib_model.proofs.Rows.{stuck_row, quiet_along}
use Rattle.glib_model.proofs.blocks.g_free.Goals as goal

other : (s : State.State) (t : TypeArgument) (args : List Cell) → one_of args ≡ None → g_free s t args ≡ stuck s
other s t [] none = refl
other s t (a ∷ []) none = cc
other s t (Int z ∷ b ∷ args) none = refl
other s t (Uns n ∷ b ∷ args) none = refl
other s t (Ptr n m ∷ b ∷ args) none = refl
other s t (Func f ∷ b ∷ args) none = refl
other s t (Null ∷ b ∷ args) none = refl
other s t (Unset ∷ b ∷ args) none = refl

pub returns-in_default : goal.returns-in_default
returns-in_default c = stuck_row g_free c.args.args.now c.args.heap.now c.args.kinds.now c.undefined.result (λ s t. other s t c.args.args.now (sym c.one.ensures ∙ c.in_default.is)) c.undefined.ensures

pub returns-in-Null : goal.returns-in-Null
returns-in-Null c = λ s t sees.
    let args = from_one c.args.args.now c.in-Some.cell (sym c.one.ensures ∙ c.in-Some.is) in
    quiet_along s (g_free s t c.args.args.now) c.args.heap.now (what.Value Unset) c.nothing.result sees.blocks (ap (g_free s t) args ∙ ap (λ x. g_free s t (x ∷ [])) c.in-Null.is) c.nothing.ensures

pub returns-in-Ok : goal.returns-in-Ok
returns-in-Ok c =
    let args = from_one c.args.args.now c.in-Some.cell (sym c.one.ensures ∙ c.in-Some.is) in
    free_row g_free c.args.args.now (λ s. freeable s c.in-Some.cell) c.in-Ok.block c.args.heap.now c.args.kinds.now c.give_up.new.heap c.give_up.result
    (λ s t. ap (g_free s t) args ∙ free_shape s t c.in-Some.cell c.in_default-cell.not-Null) (λ s sees. sym c.in-Ok.is ∙ c.freeable.ensures s sees) c.give_up.ensures.answer c.give_up.ensures.freed

pub returns-in-Err : goal.returns-in-Err
returns-in-Err c =
    let args = from_one c.args.args.now c.in-Some.cell (sym c.one.ensures ∙ c.in-Some.is) in
    none_row g_free c.args.args.now (λ s. freeable s c.in-Some.cell) (λ s t f. give_nothing (free s f.number)) c.in-Err.kind c.args.heap.now c.args.kinds.now c.undefined-in-Err.result
    (λ s t. ap (g_free s t) args ∙ free_shape s t c.in-Some.cell c.in_default-cell.not-Null) (λ s sees. sym c.in-Err.is ∙ c.freeable.ensures s sees) c.undefined-in-Err.ensures
