-- What is asked for decides.
use Rattle.std.proofs.Common.{◌≡◌, ◌∙◌, refl, sym, ap, ℕ, Vec, Global, List, [], ◌∷◌, None}
use Rattle.c_meaning.specs.declared.cell.Cell.{Cell}
use Rattle.c_meaning.specs.declared.cell.Cell.TheVariants.{Int, Uns, Ptr, Func, Null, Unset}
use Rattle.c_meaning.specs.State
use Rattle.c_meaning.specs.Texts.{give_text, text_up_to}
use Rattle.c_meaning.specs.BlockRows.{TypeArgument, stuck, g_strndup}
use Rattle.glib_model.specs.Arguments.{two_of}
use Rattle.glib_model.proofs.MakingLemmas.{bytes_along}
use Rattle.glib_model.proofs.ArgumentLemmas.{from_two}
use Rattle.glib_model.proofs.Rows.{stuck_row, ok_row, err_row}
use Rattle.glib_model.proofs.texts.g_strndup.Goals as goal

other : (s : State.State) (t : TypeArgument) (args : List Cell) → two_of args ≡ None → g_strndup s t args ≡ stuck s
other s t [] none = refl
other s t (a ∷ []) none = refl
other s t (a ∷ b ∷ []) none = cc
other s t (a ∷ Int z ∷ b ∷ args) none = refl
other s t (a ∷ Uns n ∷ b ∷ args) none = refl
other s t (a ∷ Ptr n m ∷ b ∷ args) none = refl
other s t (a ∷ Func f ∷ b ∷ args) none = refl
other s t (a ∷ Null ∷ b ∷ args) none = refl
other s t (a ∷ Unset ∷ b ∷ args) none = refl

wrong : (s : State.State) (t : TypeArgument) (a b : Cell) → ((n : ℕ) → b ≡ Uns n → ⊥) → g_strndup s t (a ∷ b ∷ []) ≡ stuck s
wrong s t a (Int z) apart = refl
wrong s t a (Uns n) apart = absurd (apart n refl)
wrong s t a (Ptr n m) apart = refl
wrong s t a (Func f) apart = refl
wrong s t a Null apart = refl
wrong s t a Unset apart = refl

pub returns-in_default : goal.returns-in_default
returns-in_default c = stuck_row g_strndup c.args.args.now c.args.heap.now c.args.kinds.now c.undefined.result (λ s t. other s t c.args.args.now (sym c.two.ensures ∙ c.in_default.is)) c.undefined.ensures

pub returns-in_default-count : goal.returns-in_default-count
returns-in_default-count c =
    let args = from_two c.args.args.now c.in-Some.cell c.in-Some.count (sym c.two.ensures ∙ c.in-Some.is) in
    stuck_row g_strndup c.args.args.now c.args.heap.now c.args.kinds.now c.undefined-in_default-count.result (λ s t. ap (g_strndup s t) args ∙ wrong s t c.in-Some.cell c.in-Some.count c.in_default-count.not-Uns) c.undefined-in_default-count.ensures

pub returns-in-Ok : goal.returns-in-Ok
returns-in-Ok c =
    let args = from_two c.args.args.now c.in-Some.cell c.in-Some.count (sym c.two.ensures ∙ c.in-Some.is) in
    ok_row g_strndup c.args.args.now (λ (text : Vec ℕ Global). text.items) (λ s. text_up_to s c.in-Some.cell c.in-Uns.most) give_text c.text_up_to.result c.args.heap.now c.args.kinds.now c.give_text.new.heap c.give_text.result c.in-Ok.text
    (λ s t. ap (g_strndup s t) args ∙ ap (λ x. g_strndup s t (c.in-Some.cell ∷ x ∷ [])) c.in-Uns.is) c.text_up_to.ensures c.in-Ok.is (bytes_along c.give_text.result c.args.heap.now c.give_text.new.heap c.as_slice.result.now c.in-Ok.text.items c.as_slice.ensures.value c.give_text.ensures)

pub returns-in-Err : goal.returns-in-Err
returns-in-Err c =
    let args = from_two c.args.args.now c.in-Some.cell c.in-Some.count (sym c.two.ensures ∙ c.in-Some.is) in
    err_row g_strndup c.args.args.now (λ (text : Vec ℕ Global). text.items) (λ s. text_up_to s c.in-Some.cell c.in-Uns.most) give_text c.text_up_to.result c.args.heap.now c.args.kinds.now c.refused.result c.in-Err.fault
    (λ s t. ap (g_strndup s t) args ∙ ap (λ x. g_strndup s t (c.in-Some.cell ∷ x ∷ [])) c.in-Uns.is) c.text_up_to.ensures c.in-Err.is c.refused.ensures
