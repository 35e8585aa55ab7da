-- What is asked for decides.
use Rattle.std.proofs.Common.{◌≡◌, ◌∙◌, refl, sym, ap, ℕ, Vec, Global, List, [], ◌∷◌, length, None}
use Rattle.c_meaning.specs.declared.cell.Cell.{Cell}
use Rattle.c_meaning.specs.declared.cell.Cell.TheVariants.{Uns}
use Rattle.c_meaning.specs.State
use Rattle.c_meaning.specs.Texts.{give, text_of}
use Rattle.c_meaning.specs.BlockRows.{TypeArgument, stuck, strlen}
use Rattle.glib_model.specs.declared.ends.LibEnd.{LibEnd}
use Rattle.glib_model.specs.declared.ends.LibWhat.TheVariants as what
use Rattle.glib_model.specs.Arguments.{one_of}
use Rattle.glib_model.proofs.ArgumentLemmas.{from_one}
use Rattle.glib_model.proofs.Rows.{stuck_row, quiet_row, err_row}
use Rattle.glib_model.proofs.texts.strlen.Goals as goal

other : (s : State.State) (t : TypeArgument) (args : List Cell) → one_of args ≡ None → strlen s t args ≡ stuck s
other s t [] none = refl
other s t (a ∷ []) none = cc
other s t (a ∷ b ∷ args) none = refl

pub returns-in_default : goal.returns-in_default
returns-in_default c = stuck_row strlen c.args.args.now c.args.heap.now c.args.kinds.now c.undefined.result (λ s t. other s t c.args.args.now (sym c.one.ensures ∙ c.in_default.is)) c.undefined.ensures

pub returns-in-Ok : goal.returns-in-Ok
returns-in-Ok c =
    let args = from_one c.args.args.now c.in-Some.cell (sym c.one.ensures ∙ c.in-Some.is) in
    quiet_row strlen c.args.args.now (λ (text : Vec ℕ Global). text.items) (λ s. text_of s c.in-Some.cell) (λ s x. give s (Uns (length x))) c.text_of.result c.args.heap.now c.args.kinds.now c.value.result (what.Value (Uns (length c.in-Ok.text.items))) c.in-Ok.text (λ s t. ap (strlen s t) args) c.text_of.ensures c.in-Ok.is (λ s. refl) (c.value.ensures ∙ ap (λ x. let a : LibEnd = record { what = what.Value x; notes = [] } in a) (c.length_cell.ensures ∙ ap (λ x. Uns (length x)) c.as_slice.ensures.value))

pub returns-in-Err : goal.returns-in-Err
returns-in-Err c =
    let args = from_one c.args.args.now c.in-Some.cell (sym c.one.ensures ∙ c.in-Some.is) in
    err_row strlen c.args.args.now (λ (text : Vec ℕ Global). text.items) (λ s. text_of s c.in-Some.cell) (λ s x. give s (Uns (length x))) c.text_of.result c.args.heap.now c.args.kinds.now c.refused.result c.in-Err.fault (λ s t. ap (strlen s t) args) c.text_of.ensures c.in-Err.is c.refused.ensures
