-- An array is renewed.
use Rattle.std.proofs.Common.{◌≡◌, ◌∙◌, refl, sym, ap, ℕ, List, [], ◌∷◌, None, arith}
use Rattle.vg_base.specs.declared.event.ThingKind.TheVariants as thing
use Rattle.c_meaning.specs.declared.cell.Cell.{Cell}
use Rattle.c_meaning.specs.declared.cell.Cell.TheVariants.{Int, Uns, Ptr, Func, Null, Unset}
use Rattle.c_meaning.specs.State
use Rattle.c_meaning.specs.BlockRows.{TypeArgument, stuck, g_renew, thing_of}
use Rattle.glib_model.specs.Arguments.{two_of}
use Rattle.glib_model.proofs.ArgumentLemmas.{from_two}
use Rattle.glib_model.proofs.MakingLemmas.{long, short}
use Rattle.glib_model.proofs.BlockLemmas.{renews, renew_shape, renew_none, renew_long, renew_row, none_typed, stuck_typed}
use Rattle.glib_model.proofs.blocks.g_renew.Goals as goal

other : (s : State.State) (t : TypeArgument) (args : List Cell) → two_of args ≡ None → g_renew s t args ≡ stuck s
other s t [] none = refl
other s t (Int z ∷ []) none = refl
other s t (Uns n ∷ []) none = refl
other s t (Ptr n m ∷ []) none = refl
other s t (Func f ∷ []) none = refl
other s t (Null ∷ []) none = refl
other s t (Unset ∷ []) none = refl
other s t (a ∷ b ∷ []) none = cc
other s t (Int z ∷ Int y ∷ b ∷ args) none = refl
other s t (Int z ∷ Uns k ∷ b ∷ args) none = refl
other s t (Int z ∷ Ptr k j ∷ b ∷ args) none = refl
other s t (Int z ∷ Func g ∷ b ∷ args) none = refl
other s t (Int z ∷ Null ∷ b ∷ args) none = refl
other s t (Int z ∷ Unset ∷ b ∷ args) none = refl
other s t (Uns n ∷ Int y ∷ b ∷ args) none = refl
other s t (Uns n ∷ Uns k ∷ b ∷ args) none = refl
other s t (Uns n ∷ Ptr k j ∷ b ∷ args) none = refl
other s t (Uns n ∷ Func g ∷ b ∷ args) none = refl
other s t (Uns n ∷ Null ∷ b ∷ args) none = refl
other s t (Uns n ∷ Unset ∷ b ∷ args) none = refl
other s t (Ptr n m ∷ Int y ∷ b ∷ args) none = refl
other s t (Ptr n m ∷ Uns k ∷ b ∷ args) none = refl
other s t (Ptr n m ∷ Ptr k j ∷ b ∷ args) none = refl
other s t (Ptr n m ∷ Func g ∷ b ∷ args) none = refl
other s t (Ptr n m ∷ Null ∷ b ∷ args) none = refl
other s t (Ptr n m ∷ Unset ∷ b ∷ args) none = refl
other s t (Func f ∷ Int y ∷ b ∷ args) none = refl
other s t (Func f ∷ Uns k ∷ b ∷ args) none = refl
other s t (Func f ∷ Ptr k j ∷ b ∷ args) none = refl
other s t (Func f ∷ Func g ∷ b ∷ args) none = refl
other s t (Func f ∷ Null ∷ b ∷ args) none = refl
other s t (Func f ∷ Unset ∷ b ∷ args) none = refl
other s t (Null ∷ Int y ∷ b ∷ args) none = refl
other s t (Null ∷ Uns k ∷ b ∷ args) none = refl
other s t (Null ∷ Ptr k j ∷ b ∷ args) none = refl
other s t (Null ∷ Func g ∷ b ∷ args) none = refl
other s t (Null ∷ Null ∷ b ∷ args) none = refl
other s t (Null ∷ Unset ∷ b ∷ args) none = refl
other s t (Unset ∷ Int y ∷ b ∷ args) none = refl
other s t (Unset ∷ Uns k ∷ b ∷ args) none = refl
other s t (Unset ∷ Ptr k j ∷ b ∷ args) none = refl
other s t (Unset ∷ Func g ∷ b ∷ args) none = refl
other s t (Unset ∷ Null ∷ b ∷ args) none = refl
other s t (Unset ∷ Unset ∷ b ∷ args) none = refl

wrong : (s : State.State) (t : TypeArgument) (a b : Cell) → ((n : ℕ) → b ≡ Uns n → ⊥) → g_renew s t (a ∷ b ∷ []) ≡ stuck s
wrong s t a (Uns k) apart = absurd (apart k refl)
wrong s t (Int z) (Int y) apart = refl
wrong s t (Int z) (Ptr k j) apart = refl
wrong s t (Int z) (Func g) apart = refl
wrong s t (Int z) Null apart = refl
wrong s t (Int z) Unset apart = refl
wrong s t (Uns n) (Int y) apart = refl
wrong s t (Uns n) (Ptr k j) apart = refl
wrong s t (Uns n) (Func g) apart = refl
wrong s t (Uns n) Null apart = refl
wrong s t (Uns n) Unset apart = refl
wrong s t (Ptr n m) (Int y) apart = refl
wrong s t (Ptr n m) (Ptr k j) apart = refl
wrong s t (Ptr n m) (Func g) apart = refl
wrong s t (Ptr n m) Null apart = refl
wrong s t (Ptr n m) Unset apart = refl
wrong s t (Func f) (Int y) apart = refl
wrong s t (Func f) (Ptr k j) apart = refl
wrong s t (Func f) (Func g) apart = refl
wrong s t (Func f) Null apart = refl
wrong s t (Func f) Unset apart = refl
wrong s t Null (Int y) apart = refl
wrong s t Null (Ptr k j) apart = refl
wrong s t Null (Func g) apart = refl
wrong s t Null Null apart = refl
wrong s t Null Unset apart = refl
wrong s t Unset (Int y) apart = refl
wrong s t Unset (Ptr k j) apart = refl
wrong s t Unset (Func g) apart = refl
wrong s t Unset Null apart = refl
wrong s t Unset Unset apart = refl

pub returns-in_default : goal.returns-in_default
returns-in_default c = stuck_typed g_renew c.args.cells c.args.args.now c.args.heap.now c.args.kinds.now c.undefined.result (λ s t. other s t c.args.args.now (sym c.two.ensures ∙ c.in_default.is)) c.undefined.ensures

pub returns-in_default-number : goal.returns-in_default-number
returns-in_default-number c =
    let args = from_two c.args.args.now c.in-Some.cell c.in-Some.number (sym c.two.ensures ∙ c.in-Some.is) in
    stuck_typed g_renew c.args.cells c.args.args.now c.args.heap.now c.args.kinds.now c.undefined-in_default-number.result (λ s t. ap (g_renew s t) args ∙ wrong s t c.in-Some.cell c.in-Some.number c.in_default-number.not-Uns) c.undefined-in_default-number.ensures

pub returns-in-Null : goal.returns-in-Null
returns-in-Null c =
    let args = from_two c.args.args.now c.in-Some.cell c.in-Some.number (sym c.two.ensures ∙ c.in-Some.is) ∙ ap (λ x. c.in-Some.cell ∷ x ∷ []) c.in-Uns.is in
    renew_none c.args.cells c.in-Uns.count c.args.args.now c.args.heap.now c.args.kinds.now c.new_array.new.heap c.new_array.result (args ∙ ap (λ x. x ∷ Uns c.in-Uns.count ∷ []) c.in-Null.is) c.new_array.ensures

pub returns-in-Err : goal.returns-in-Err
returns-in-Err c =
    let args = from_two c.args.args.now c.in-Some.cell c.in-Some.number (sym c.two.ensures ∙ c.in-Some.is) ∙ ap (λ x. c.in-Some.cell ∷ x ∷ []) c.in-Uns.is in
    none_typed g_renew c.args.cells c.args.args.now (λ s. thing_of s thing.Array c.in-Some.cell) (renews c.in-Uns.count) c.in-Err.kind c.args.heap.now c.args.kinds.now c.undefined-in-Err.result (λ s t. ap (g_renew s t) args ∙ renew_shape s t c.in-Some.cell c.in-Uns.count c.in_default-cell.not-Null) (λ s sees. sym c.in-Err.is ∙ c.thing_of.ensures s sees) c.undefined-in-Err.ensures

pub returns-in-Some-checked_mul : goal.returns-in-Some-checked_mul
returns-in-Some-checked_mul c =
    let args = from_two c.args.args.now c.in-Some.cell c.in-Some.number (sym c.two.ensures ∙ c.in-Some.is) ∙ ap (λ x. c.in-Some.cell ∷ x ∷ []) c.in-Uns.is in
    renew_row c.args.cells c.in-Uns.count c.in-Ok.block c.in-Some-checked_mul.size c.args.args.now c.in-Some.cell c.args.heap.now c.args.kinds.now c.renew.new.heap c.renew.result (λ s t. ap (g_renew s t) args ∙ renew_shape s t c.in-Some.cell c.in-Uns.count c.in_default-cell.not-Null) (λ s sees. sym c.in-Ok.is ∙ c.thing_of.ensures s sees)
    (short c.in-Uns.count (omega arith)) c.in-Some-checked_mul.ensures.1 c.renew.ensures.answer c.renew.ensures.renewed

pub returns-in-Ok-2 : goal.returns-in-Ok-2
returns-in-Ok-2 c =
    let args = from_two c.args.args.now c.in-Some.cell c.in-Some.number (sym c.two.ensures ∙ c.in-Some.is) ∙ ap (λ x. c.in-Some.cell ∷ x ∷ []) c.in-Uns.is in
    renew_long c.args.cells c.in-Uns.count c.in-Ok-2.field-0 c.args.args.now (λ s. thing_of s thing.Array c.in-Some.cell) c.args.heap.now c.args.kinds.now c.quiet.result (λ s t. ap (g_renew s t) args ∙ renew_shape s t c.in-Some.cell c.in-Uns.count c.in_default-cell.not-Null) (λ s sees. sym c.in-Ok-2.is ∙ c.thing_of.ensures s sees) (long c.in-Uns.count (omega arith)) c.quiet.ensures
