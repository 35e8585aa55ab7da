-- The one argument is the number of elements.
use Rattle.std.proofs.Common.{◌≡◌, ◌∙◌, ℕ, refl, sym, ap, List, [], ◌∷◌, None}
use Rattle.c_meaning.specs.declared.cell.Cell.{Cell}
use Rattle.c_meaning.specs.declared.cell.Cell.TheVariants.{Int, Uns, Ptr, Func, Null, Unset}
use Rattle.c_meaning.specs.State
use Rattle.c_meaning.specs.BlockRows.{TypeArgument, stuck, g_new0}
use Rattle.glib_model.specs.Arguments.{one_of}
use Rattle.glib_model.proofs.ArgumentLemmas.{from_one}
use Rattle.glib_model.proofs.BlockLemmas.{new0_row, stuck_typed}
use Rattle.glib_model.proofs.blocks.g_new0.Goals as goal

other : (s : State.State) (t : TypeArgument) (args : List Cell) → one_of args ≡ None → g_new0 s t args ≡ stuck s
other s t [] none = refl
other s t (a ∷ []) none = cc
other s t (Int z ∷ b ∷ args) none = refl
other s t (Uns n ∷ b ∷ args) none = refl
other s t (Ptr n m ∷ b ∷ args) none = refl
other s t (Func f ∷ b ∷ args) none = refl
other s t (Null ∷ b ∷ args) none = refl
other s t (Unset ∷ b ∷ args) none = refl

wrong : (s : State.State) (t : TypeArgument) (a : Cell) → ((n : ℕ) → a ≡ Uns n → ⊥) → g_new0 s t (a ∷ []) ≡ stuck s
wrong s t (Int z) apart = refl
wrong s t (Uns n) apart = absurd (apart n refl)
wrong s t (Ptr n m) apart = refl
wrong s t (Func f) apart = refl
wrong s t Null apart = refl
wrong s t Unset apart = refl

pub returns-in_default : goal.returns-in_default
returns-in_default c = stuck_typed g_new0 c.args.cells c.args.args.now c.args.heap.now c.args.kinds.now c.undefined.result (λ s t. other s t c.args.args.now (sym c.one.ensures ∙ c.in_default.is)) c.undefined.ensures

pub returns-in_default-number : goal.returns-in_default-number
returns-in_default-number c =
    let args = from_one c.args.args.now c.in-Some.number (sym c.one.ensures ∙ c.in-Some.is) in
    stuck_typed g_new0 c.args.cells c.args.args.now c.args.heap.now c.args.kinds.now c.undefined-in_default-number.result (λ s t. ap (g_new0 s t) args ∙ wrong s t c.in-Some.number c.in_default-number.not-Uns) c.undefined-in_default-number.ensures

pub returns : goal.returns
returns c =
    let args = from_one c.args.args.now c.in-Some.number (sym c.one.ensures ∙ c.in-Some.is) in
    new0_row c.args.cells c.in-Uns.count c.args.args.now c.args.heap.now c.args.kinds.now c.new_array.new.heap c.new_array.result (args ∙ ap (λ x. x ∷ []) c.in-Uns.is) c.new_array.ensures
