-- What follows of answers and of faults.
use Rattle.std.proofs.Common.{◌≡◌, sym, subst, Option, Result, Err}
use Rattle.vg_base.specs.declared.event.UndefKind.{UndefKind}
use Rattle.vg_base.specs.declared.event.Fault.{Fault}
use Rattle.vg_base.specs.declared.event.Fault.TheVariants.{Refused, Memory}
use Rattle.c_meaning.specs.Blocks.{Answer}
use Rattle.c_meaning.specs.State
use Rattle.c_texts.specs.Answers.{Answers}
use Rattle.c_code.specs.declared.value.Value.{Value}
use Rattle.c_evaluator.specs.Choices.{Comes}

-- a fault of a part is one of the whole, where the whole fails as the part does
pub fails : {A B C D : Type 0} (seen : A → B) (whole : C → D) (e : Fault UndefKind) (a : Answer B) (b : Answer D)
    → ((u : UndefKind) → a ≡ Err u → b ≡ Err u) → Answers seen (Err e) a → Answers whole (Err e) b
fails seen whole (Refused u) a b on h = on u h
fails seen whole Memory a b on h = tt

-- a fault that is handed on
pub failed : {A B C D : Type 0} (seen : A → B) (whole : C → D) (e : Fault UndefKind) (r : Result C (Fault UndefKind)) (a : Answer B) (b : Answer D)
    → r ≡ Err e → Answers seen (Err e) a → ((u : UndefKind) → a ≡ Err u → b ≡ Err u) → Answers whole r b
failed seen whole e r a b is h on = subst (λ x. Answers whole x b) (sym is) (fails seen whole e a b on h)

-- a fault of a part of choices
pub choices_failed : {A B : Type 0} (seen : A → B) (e : Fault UndefKind) (r : Result (Option Value) (Fault UndefKind)) (a : Answer B) (choices behind : Answer State.Value)
    → r ≡ Err e → Answers seen (Err e) a → ((u : UndefKind) → a ≡ Err u → choices ≡ Err u) → Comes r choices behind
choices_failed seen (Refused u) r a choices behind is h on = subst (λ x. Comes x choices behind) (sym is) (on u h)
choices_failed seen Memory r a choices behind is h on = subst (λ x. Comes x choices behind) (sym is) tt
