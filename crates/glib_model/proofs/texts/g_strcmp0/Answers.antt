-- What is asked for decides.
use Rattle.std.proofs.Common.{◌≡◌, ◌∙◌, refl, sym, ap, List, [], ◌∷◌, None}
use Rattle.c_meaning.specs.declared.cell.Cell.{Cell}
use Rattle.c_meaning.specs.declared.cell.Cell.TheVariants.{Int}
use Rattle.c_meaning.specs.State
use Rattle.c_meaning.specs.Texts.{give, compared_optional}
use Rattle.c_meaning.specs.BlockRows.{TypeArgument, stuck, g_strcmp0}
use Rattle.glib_model.specs.declared.ends.LibEnd.{LibEnd}
use Rattle.glib_model.specs.declared.ends.LibWhat.TheVariants as what
use Rattle.glib_model.specs.Arguments.{two_of}
use Rattle.glib_model.specs.Texts.{BothOptional, both_optional, seen_optional}
use Rattle.glib_model.proofs.Shapes.{on_optional}
use Rattle.glib_model.proofs.ArgumentLemmas.{from_two}
use Rattle.glib_model.proofs.Rows.{stuck_row, quiet_row, err_row}
use Rattle.glib_model.proofs.texts.g_strcmp0.Goals as goal

other : (s : State.State) (t : TypeArgument) (args : List Cell) → two_of args ≡ None → g_strcmp0 s t args ≡ stuck s
other s t [] none = refl
other s t (a ∷ []) none = refl
other s t (a ∷ b ∷ []) none = cc
other s t (a ∷ b ∷ c ∷ args) none = refl

pub returns-in_default : goal.returns-in_default
returns-in_default c = stuck_row g_strcmp0 c.args.args.now c.args.heap.now c.args.kinds.now c.undefined.result (λ s t. other s t c.args.args.now (sym c.two.ensures ∙ c.in_default.is)) c.undefined.ensures

pub returns-in-Ok : goal.returns-in-Ok
returns-in-Ok c =
    let args = from_two c.args.args.now c.in-Some.first c.in-Some.second (sym c.two.ensures ∙ c.in-Some.is) in
    quiet_row g_strcmp0 c.args.args.now seen_optional (λ s. both_optional s c.in-Some.first c.in-Some.second) (λ s (p : BothOptional). give s (Int (compared_optional p.first p.second))) c.two_optional.result c.args.heap.now c.args.kinds.now c.value.result (what.Value (Int (compared_optional (seen_optional c.in-Ok.texts).first (seen_optional c.in-Ok.texts).second))) c.in-Ok.texts (λ s t. ap (g_strcmp0 s t) args ∙ on_optional s c.in-Some.first c.in-Some.second (λ x y. give s (Int (compared_optional x y)))) c.two_optional.ensures c.in-Ok.is (λ s. refl) (c.value.ensures ∙ ap (λ x. let a : LibEnd = record { what = what.Value x; notes = [] } in a) (c.compared_cell.ensures))

pub returns-in-Err : goal.returns-in-Err
returns-in-Err c =
    let args = from_two c.args.args.now c.in-Some.first c.in-Some.second (sym c.two.ensures ∙ c.in-Some.is) in
    err_row g_strcmp0 c.args.args.now seen_optional (λ s. both_optional s c.in-Some.first c.in-Some.second) (λ s (p : BothOptional). give s (Int (compared_optional p.first p.second))) c.two_optional.result c.args.heap.now c.args.kinds.now c.refused.result c.in-Err.fault (λ s t. ap (g_strcmp0 s t) args ∙ on_optional s c.in-Some.first c.in-Some.second (λ x y. give s (Int (compared_optional x y)))) c.two_optional.ensures c.in-Err.is c.refused.ensures
