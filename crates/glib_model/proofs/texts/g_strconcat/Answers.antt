-- What is asked for decides.
use Rattle.std.proofs.Common.{◌≡◌, ◌∙◌, refl, sym, ap, List, [], ◌∷◌, ◌++◌, None}
use Rattle.c_meaning.specs.declared.cell.Cell.{Cell}
use Rattle.c_meaning.specs.declared.cell.Cell.TheVariants.{Int, Uns, Ptr, Func, Null, Unset}
use Rattle.c_meaning.specs.State
use Rattle.c_meaning.specs.Texts.{give_text}
use Rattle.c_meaning.specs.BlockRows.{TypeArgument, stuck, g_strconcat}
use Rattle.glib_model.specs.Arguments.{three_of}
use Rattle.glib_model.specs.Texts.{Both, both_texts, seen_texts}
use Rattle.glib_model.proofs.Shapes.{on_both}
use Rattle.glib_model.proofs.ArgumentLemmas.{from_three}
use Rattle.glib_model.proofs.Rows.{stuck_row, ok_row, err_row}
use Rattle.glib_model.proofs.texts.g_strconcat.Goals as goal

other : (s : State.State) (t : TypeArgument) (args : List Cell) → three_of args ≡ None → g_strconcat s t args ≡ stuck s
other s t [] none = refl
other s t (a ∷ []) none = refl
other s t (a ∷ b ∷ []) none = refl
other s t (a ∷ b ∷ c ∷ []) none = cc
other s t (a ∷ b ∷ Int z ∷ d ∷ args) none = refl
other s t (a ∷ b ∷ Uns n ∷ d ∷ args) none = refl
other s t (a ∷ b ∷ Ptr n m ∷ d ∷ args) none = refl
other s t (a ∷ b ∷ Func f ∷ d ∷ args) none = refl
other s t (a ∷ b ∷ Null ∷ d ∷ args) none = refl
other s t (a ∷ b ∷ Unset ∷ d ∷ args) none = refl

wrong : (s : State.State) (t : TypeArgument) (a b c : Cell) → (c ≡ Null → ⊥) → g_strconcat s t (a ∷ b ∷ c ∷ []) ≡ stuck s
wrong s t a b (Int z) apart = refl
wrong s t a b (Uns n) apart = refl
wrong s t a b (Ptr n m) apart = refl
wrong s t a b (Func f) apart = refl
wrong s t a b Null apart = absurd (apart refl)
wrong s t a b Unset apart = refl

pub returns-in_default : goal.returns-in_default
returns-in_default c = stuck_row g_strconcat c.args.args.now c.args.heap.now c.args.kinds.now c.undefined.result (λ s t. other s t c.args.args.now (sym c.three.ensures ∙ c.in_default.is)) c.undefined.ensures

pub returns-in_default-last : goal.returns-in_default-last
returns-in_default-last c =
    let args = from_three c.args.args.now c.in-Some.first c.in-Some.second c.in-Some.last (sym c.three.ensures ∙ c.in-Some.is) in
    stuck_row g_strconcat c.args.args.now c.args.heap.now c.args.kinds.now c.undefined-in_default-last.result (λ s t. ap (g_strconcat s t) args ∙ wrong s t c.in-Some.first c.in-Some.second c.in-Some.last c.in_default-last.not-Null) c.undefined-in_default-last.ensures

pub returns-in-Ok : goal.returns-in-Ok
returns-in-Ok c =
    let args = from_three c.args.args.now c.in-Some.first c.in-Some.second c.in-Some.last (sym c.three.ensures ∙ c.in-Some.is) in
    ok_row g_strconcat c.args.args.now seen_texts (λ s. both_texts s c.in-Some.first c.in-Some.second) (λ s (p : Both). give_text s (p.first ++ p.second)) c.two_texts.result c.args.heap.now c.args.kinds.now c.give_joined.new.heap c.give_joined.result c.in-Ok.texts
    (λ s t. ap (g_strconcat s t) args ∙ ap (λ x. g_strconcat s t (c.in-Some.first ∷ c.in-Some.second ∷ x ∷ [])) c.in-Null.is ∙ on_both s c.in-Some.first c.in-Some.second (λ x y. give_text s (x ++ y))) c.two_texts.ensures c.in-Ok.is c.give_joined.ensures

pub returns-in-Err : goal.returns-in-Err
returns-in-Err c =
    let args = from_three c.args.args.now c.in-Some.first c.in-Some.second c.in-Some.last (sym c.three.ensures ∙ c.in-Some.is) in
    err_row g_strconcat c.args.args.now seen_texts (λ s. both_texts s c.in-Some.first c.in-Some.second) (λ s (p : Both). give_text s (p.first ++ p.second)) c.two_texts.result c.args.heap.now c.args.kinds.now c.refused.result c.in-Err.fault
    (λ s t. ap (g_strconcat s t) args ∙ ap (λ x. g_strconcat s t (c.in-Some.first ∷ c.in-Some.second ∷ x ∷ [])) c.in-Null.is ∙ on_both s c.in-Some.first c.in-Some.second (λ x y. give_text s (x ++ y))) c.two_texts.ensures c.in-Err.is c.refused.ensures
