-- What is asked for decides.
use Rattle.std.proofs.Common.{◌≡◌, ◌∙◌, refl, sym, ap, List, [], ◌∷◌, None}
use Rattle.c_meaning.specs.declared.cell.Cell.{Cell}
use Rattle.c_meaning.specs.State
use Rattle.c_meaning.specs.Texts.{give, place_in}
use Rattle.c_meaning.specs.BlockRows.{TypeArgument, stuck, pointer_at, g_strstr_len}
use Rattle.glib_model.specs.declared.ends.LibWhat.TheVariants as what
use Rattle.glib_model.specs.Arguments.{three_of}
use Rattle.glib_model.specs.Texts.{Both, both_texts, seen_texts}
use Rattle.glib_model.proofs.Shapes.{on_both, gives_pointer, pointer_along}
use Rattle.glib_model.proofs.ArgumentLemmas.{from_three}
use Rattle.glib_model.proofs.Rows.{stuck_row, quiet_ok, err_row}
use Rattle.glib_model.proofs.texts.g_strstr_len.Goals as goal

other : (s : State.State) (t : TypeArgument) (args : List Cell) → three_of args ≡ None → g_strstr_len s t args ≡ stuck s
other s t [] none = refl
other s t (a ∷ []) none = refl
other s t (a ∷ b ∷ []) none = refl
other s t (a ∷ b ∷ c ∷ []) none = cc
other s t (a ∷ b ∷ c ∷ d ∷ args) none = refl

pub returns-in_default : goal.returns-in_default
returns-in_default c = stuck_row g_strstr_len c.args.args.now c.args.heap.now c.args.kinds.now c.undefined.result (λ s t. other s t c.args.args.now (sym c.three.ensures ∙ c.in_default.is)) c.undefined.ensures

pub returns-in-Ok : goal.returns-in-Ok
returns-in-Ok c =
    let args = from_three c.args.args.now c.in-Some.first c.in-Some.field-0-1 c.in-Some.second (sym c.three.ensures ∙ c.in-Some.is) in
    let place = c.place_in-place.ensures ∙ ap (λ x. place_in x c.as_slice-in-Ok.result.now) c.as_slice.ensures.value ∙ ap (place_in c.in-Ok.texts.second.items) c.as_slice-in-Ok.ensures.value in
    quiet_ok g_strstr_len c.args.args.now seen_texts (λ s. both_texts s c.in-Some.first c.in-Some.second) (λ s (p : Both). give s (pointer_at c.in-Some.first (place_in p.second p.first))) c.two_texts.result c.args.heap.now c.args.kinds.now c.give_pointer.result (what.Value (pointer_at c.in-Some.first (place_in c.in-Ok.texts.second.items c.in-Ok.texts.first.items))) c.in-Ok.texts
    (λ s t. ap (g_strstr_len s t) args ∙ on_both s c.in-Some.first c.in-Some.second (λ x y. give s (pointer_at c.in-Some.first (place_in y x)))) c.two_texts.ensures c.in-Ok.is
    (λ s. gives_pointer s c.in-Some.first (place_in c.in-Ok.texts.second.items c.in-Ok.texts.first.items)) (pointer_along c.give_pointer.result c.in-Some.first _ _ place c.give_pointer.ensures)

pub returns-in-Err : goal.returns-in-Err
returns-in-Err c =
    let args = from_three c.args.args.now c.in-Some.first c.in-Some.field-0-1 c.in-Some.second (sym c.three.ensures ∙ c.in-Some.is) in
    err_row g_strstr_len c.args.args.now seen_texts (λ s. both_texts s c.in-Some.first c.in-Some.second) (λ s (p : Both). give s (pointer_at c.in-Some.first (place_in p.second p.first))) c.two_texts.result c.args.heap.now c.args.kinds.now c.refused.result c.in-Err.fault
    (λ s t. ap (g_strstr_len s t) args ∙ on_both s c.in-Some.first c.in-Some.second (λ x y. give s (pointer_at c.in-Some.first (place_in y x)))) c.two_texts.ensures c.in-Err.is c.refused.ensures
