-- What is asked for decides.
use Rattle.std.proofs.Common.{◌≡◌, ◌∙◌, refl, sym, ap, List, [], ◌∷◌, None}
use Rattle.c_meaning.specs.declared.cell.Cell.{Cell}
use Rattle.c_meaning.specs.State
use Rattle.c_meaning.specs.Numbers.{truth}
use Rattle.c_meaning.specs.Texts.{give, is_back}
use Rattle.c_meaning.specs.BlockRows.{TypeArgument, stuck, g_str_has_suffix}
use Rattle.glib_model.specs.declared.ends.LibEnd.{LibEnd}
use Rattle.glib_model.specs.declared.ends.LibWhat.TheVariants as what
use Rattle.glib_model.specs.Arguments.{two_of}
use Rattle.glib_model.specs.Texts.{Both, both_texts, seen_texts}
use Rattle.glib_model.proofs.Shapes.{on_both, gives_truth}
use Rattle.glib_model.proofs.ArgumentLemmas.{from_two}
use Rattle.glib_model.proofs.Rows.{stuck_row, quiet_row, err_row}
use Rattle.glib_model.proofs.texts.g_str_has_suffix.Goals as goal

other : (s : State.State) (t : TypeArgument) (args : List Cell) → two_of args ≡ None → g_str_has_suffix s t args ≡ stuck s
other s t [] none = refl
other s t (a ∷ []) none = refl
other s t (a ∷ b ∷ []) none = cc
other s t (a ∷ b ∷ c ∷ args) none = refl

pub returns-in_default : goal.returns-in_default
returns-in_default c = stuck_row g_str_has_suffix c.args.args.now c.args.heap.now c.args.kinds.now c.undefined.result (λ s t. other s t c.args.args.now (sym c.two.ensures ∙ c.in_default.is)) c.undefined.ensures

pub returns-in-Ok : goal.returns-in-Ok
returns-in-Ok c =
    let args = from_two c.args.args.now c.in-Some.first c.in-Some.second (sym c.two.ensures ∙ c.in-Some.is) in
    quiet_row g_str_has_suffix c.args.args.now seen_texts (λ s. both_texts s c.in-Some.first c.in-Some.second) (λ s (p : Both). give s (truth (is_back p.second p.first))) c.two_texts.result c.args.heap.now c.args.kinds.now c.value.result (what.Value (truth (is_back c.in-Ok.texts.second.items c.in-Ok.texts.first.items))) c.in-Ok.texts (λ s t. ap (g_str_has_suffix s t) args ∙ on_both s c.in-Some.first c.in-Some.second (λ x y. give s (truth (is_back y x)))) c.two_texts.ensures c.in-Ok.is (λ s. gives_truth s (is_back c.in-Ok.texts.second.items c.in-Ok.texts.first.items)) (c.value.ensures ∙ ap (λ x. let a : LibEnd = record { what = what.Value x; notes = [] } in a) (c.truth.ensures ∙ ap truth (c.is_back.ensures ∙ ap (λ x. is_back x c.as_slice-in-Ok.result.now) c.as_slice.ensures.value ∙ ap (is_back c.in-Ok.texts.second.items) c.as_slice-in-Ok.ensures.value)))

pub returns-in-Err : goal.returns-in-Err
returns-in-Err c =
    let args = from_two c.args.args.now c.in-Some.first c.in-Some.second (sym c.two.ensures ∙ c.in-Some.is) in
    err_row g_str_has_suffix c.args.args.now seen_texts (λ s. both_texts s c.in-Some.first c.in-Some.second) (λ s (p : Both). give s (truth (is_back p.second p.first))) c.two_texts.result c.args.heap.now c.args.kinds.now c.refused.result c.in-Err.fault (λ s t. ap (g_str_has_suffix s t) args ∙ on_both s c.in-Some.first c.in-Some.second (λ x y. give s (truth (is_back y x)))) c.two_texts.ensures c.in-Err.is c.refused.ensures
