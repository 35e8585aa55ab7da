-- What is asked for decides.
use Rattle.std.proofs.Common.{◌≡◌, ◌∙◌, refl, sym, ap, ℕ, Vec, Global, List, [], ◌∷◌, None}
use Rattle.std.specs.Option.{option_map}
use Rattle.c_meaning.specs.declared.cell.Cell.{Cell}
use Rattle.c_meaning.specs.State
use Rattle.c_meaning.specs.Texts.{optional_text}
use Rattle.c_meaning.specs.BlockRows.{TypeArgument, stuck, give_optional, g_strdup}
use Rattle.glib_model.specs.Arguments.{one_of}
use Rattle.glib_model.proofs.ArgumentLemmas.{from_one}
use Rattle.glib_model.proofs.Rows.{stuck_row, ok_row, err_row}
use Rattle.glib_model.proofs.texts.g_strdup.Goals as goal

other : (s : State.State) (t : TypeArgument) (args : List Cell) → one_of args ≡ None → g_strdup s t args ≡ stuck s
other s t [] none = refl
other s t (a ∷ []) none = cc
other s t (a ∷ b ∷ args) none = refl

pub returns-in_default : goal.returns-in_default
returns-in_default c = stuck_row g_strdup c.args.args.now c.args.heap.now c.args.kinds.now c.undefined.result (λ s t. other s t c.args.args.now (sym c.one.ensures ∙ c.in_default.is)) c.undefined.ensures

pub returns-in-Ok : goal.returns-in-Ok
returns-in-Ok c =
    let args = from_one c.args.args.now c.in-Some.cell (sym c.one.ensures ∙ c.in-Some.is) in
    ok_row g_strdup c.args.args.now (option_map (λ (text : Vec ℕ Global). text.items)) (λ s. optional_text s c.in-Some.cell) give_optional c.optional_text.result c.args.heap.now c.args.kinds.now c.give_optional.new.heap c.give_optional.result c.in-Ok.text (λ s t. ap (g_strdup s t) args) c.optional_text.ensures c.in-Ok.is c.give_optional.ensures

pub returns-in-Err : goal.returns-in-Err
returns-in-Err c =
    let args = from_one c.args.args.now c.in-Some.cell (sym c.one.ensures ∙ c.in-Some.is) in
    err_row g_strdup c.args.args.now (option_map (λ (text : Vec ℕ Global). text.items)) (λ s. optional_text s c.in-Some.cell) give_optional c.optional_text.result c.args.heap.now c.args.kinds.now c.refused.result c.in-Err.fault (λ s t. ap (g_strdup s t) args) c.optional_text.ensures c.in-Err.is c.refused.ensures
