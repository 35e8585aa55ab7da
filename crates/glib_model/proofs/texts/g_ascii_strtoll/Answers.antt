-- What is asked for decides.
use Rattle.std.proofs.Common.{◌≡◌, ◌∙◌, refl, sym, ap, ℕ, Vec, Global, List, [], ◌∷◌, None}
use Rattle.c_meaning.specs.declared.cell.Cell.{Cell}
use Rattle.c_meaning.specs.declared.cell.Cell.TheVariants.{Int}
use Rattle.c_meaning.specs.State
use Rattle.c_meaning.specs.Texts.{give, text_of, number_read}
use Rattle.c_meaning.specs.BlockRows.{TypeArgument, stuck, g_ascii_strtoll}
use Rattle.glib_model.specs.declared.ends.LibEnd.{LibEnd}
use Rattle.glib_model.specs.declared.ends.LibWhat.TheVariants as what
use Rattle.glib_model.specs.Arguments.{three_of}
use Rattle.glib_model.proofs.ArgumentLemmas.{from_three}
use Rattle.glib_model.proofs.Rows.{stuck_row, quiet_row, err_row}
use Rattle.glib_model.proofs.texts.g_ascii_strtoll.Goals as goal

other : (s : State.State) (t : TypeArgument) (args : List Cell) → three_of args ≡ None → g_ascii_strtoll s t args ≡ stuck s
other s t [] none = refl
other s t (a ∷ []) none = refl
other s t (a ∷ b ∷ []) none = refl
other s t (a ∷ b ∷ c ∷ []) none = cc
other s t (a ∷ b ∷ c ∷ d ∷ args) none = refl

pub returns-in_default : goal.returns-in_default
returns-in_default c = stuck_row g_ascii_strtoll c.args.args.now c.args.heap.now c.args.kinds.now c.undefined.result (λ s t. other s t c.args.args.now (sym c.three.ensures ∙ c.in_default.is)) c.undefined.ensures

pub returns-in-Ok : goal.returns-in-Ok
returns-in-Ok c =
    let args = from_three c.args.args.now c.in-Some.cell c.in-Some.field-0-1 c.in-Some.field-0-2 (sym c.three.ensures ∙ c.in-Some.is) in
    quiet_row g_ascii_strtoll c.args.args.now (λ (text : Vec ℕ Global). text.items) (λ s. text_of s c.in-Some.cell) (λ s x. give s (Int (number_read x))) c.text_of.result c.args.heap.now c.args.kinds.now c.value.result (what.Value (Int (number_read c.in-Ok.text.items))) c.in-Ok.text (λ s t. ap (g_ascii_strtoll s t) args) c.text_of.ensures c.in-Ok.is (λ s. refl) (c.value.ensures ∙ ap (λ x. let a : LibEnd = record { what = what.Value x; notes = [] } in a) (c.number_cell.ensures ∙ ap (λ x. Int (number_read x)) c.as_slice.ensures.value))

pub returns-in-Err : goal.returns-in-Err
returns-in-Err c =
    let args = from_three c.args.args.now c.in-Some.cell c.in-Some.field-0-1 c.in-Some.field-0-2 (sym c.three.ensures ∙ c.in-Some.is) in
    err_row g_ascii_strtoll c.args.args.now (λ (text : Vec ℕ Global). text.items) (λ s. text_of s c.in-Some.cell) (λ s x. give s (Int (number_read x))) c.text_of.result c.args.heap.now c.args.kinds.now c.refused.result c.in-Err.fault (λ s t. ap (g_ascii_strtoll s t) args) c.text_of.ensures c.in-Err.is c.refused.ensures
