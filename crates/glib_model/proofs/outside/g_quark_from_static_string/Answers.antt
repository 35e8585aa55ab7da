-- The number of the text is given.
use Rattle.std.proofs.Common.{◌≡◌, ◌∙◌, refl, sym, List, [], ◌∷◌, None}
use Rattle.c_meaning.specs.declared.cell.Cell.{Cell}
use Rattle.c_meaning.specs.State
use Rattle.c_meaning.specs.BlockRows.{TypeArgument, stuck, g_quark_from_static_string}
use Rattle.glib_model.specs.Arguments.{one_of}
use Rattle.glib_model.proofs.ArgumentLemmas.{from_one}
use Rattle.glib_model.proofs.QuarkLemmas.{quark_stuck, quark_err, quark_ok}
use Rattle.glib_model.proofs.outside.g_quark_from_static_string.Goals as goal

other : (s : State.State) (t : TypeArgument) (args : List Cell) → one_of args ≡ None → g_quark_from_static_string s t args ≡ stuck s
other s t [] none = refl
other s t (a ∷ []) none = cc
other s t (a ∷ b ∷ args) none = refl

pub returns-in_default : goal.returns-in_default
returns-in_default c = quark_stuck c.args.args.now c.args.heap.now c.args.quarks.now c.undefined.result (λ s t. other s t c.args.args.now (sym c.one.ensures ∙ c.in_default.is)) c.undefined.ensures

pub returns-in_ok-number-in-Ok : goal.returns-in_ok-number-in-Ok
returns-in_ok-number-in-Ok c =
    let args = from_one c.args.args.now c.in-Some.cell (sym c.one.ensures ∙ c.in-Some.is) in
    quark_ok c.args.args.now c.in-Some.cell c.text_of.result c.args.heap.now args c.text_of.ensures c.args.quarks.now c.add.new.self c.in-Ok.text c.in_ok-number-in-Ok.number c.value.result c.in-Ok.is c.in_ok-number-in-Ok.ensures.place c.in_ok-number-in-Ok.ensures.added c.value.ensures

pub returns-in-Err : goal.returns-in-Err
returns-in-Err c =
    let args = from_one c.args.args.now c.in-Some.cell (sym c.one.ensures ∙ c.in-Some.is) in
    quark_err c.args.args.now c.in-Some.cell c.text_of.result c.args.heap.now args c.text_of.ensures c.refused.result c.args.quarks.now c.in-Err.fault c.in-Err.is c.refused.ensures
