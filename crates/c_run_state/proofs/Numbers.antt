-- The number that ends a run.
use Rattle.std.proofs.Common.{◌≡◌, ◌∙◌, refl, sym, ap, subst, ℤ, Bor, Option, Some, None, Result, Ok, Err}
use Rattle.std.specs.Option.{option_map, option_copied}
use Rattle.vg_base.specs.declared.event.CEnd.TheVariants as «end»
use Rattle.vg_base.specs.declared.event.UndefKind.{UndefKind}
use Rattle.c_tree.specs.Env.{Env}
use Rattle.c_meaning.specs.State
use Rattle.c_meaning.specs.Blocks.{Answer, on, stop, undefined}
use Rattle.c_meaning.specs.Steps.{finish}
use Rattle.c_code.specs.Values.{value_seen}
use Rattle.c_code.specs.declared.value.Value.{Value}
use Rattle.c_run_state.specs.declared.state.Run.{Run}
use Rattle.c_run_state.specs.Given.{number_given, TellsNumber}
use Rattle.c_run_state.specs.Shows.{Shows}

-- a value that is borrowed is seen as it is
pub seen_given : (o : Option (Bor Value)) (given : Option Value) → option_copied o ≡ given → option_map (λ (v : Bor Value). value_seen v.now) o ≡ option_map value_seen given
seen_given None given is = ap (option_map value_seen) is
seen_given (Some v) given is = ap (option_map value_seen) is

-- the end by the answer for the number
abbrev ends : State.State → Answer ℤ → State.State
ends s a = on s a (λ z. stop s («end».Ended z))

finish_is : (s : State.State) (g : Option State.Value) → finish s g ≡ ends s (number_given g)
finish_is s None = refl
finish_is s (Some v) = refl

pub finished_by : (env : Env) (new : Run) (s : State.State) (g h : Option State.Value) (r : Result (Option ℤ) UndefKind) (z : ℤ) → h ≡ g → TellsNumber r (number_given h) → r ≡ Ok (Some z) → Shows env new (stop s («end».Ended z)) → Shows env new (finish s g)
finished_by env new s g h r z same tells is shows =
    let number : number_given h ≡ Ok z = subst (λ q. TellsNumber q (number_given h)) is tells in
    subst (Shows env new) (sym (finish_is s g ∙ ap (λ o. ends s (number_given o)) (sym same) ∙ ap (ends s) number)) shows

pub refused_by : (env : Env) (new : Run) (s : State.State) (g h : Option State.Value) (r : Result (Option ℤ) UndefKind) (u : UndefKind) → h ≡ g → TellsNumber r (number_given h) → r ≡ Err u → Shows env new (undefined s u) → Shows env new (finish s g)
refused_by env new s g h r u same tells is shows =
    let none : number_given h ≡ Err u = subst (λ q. TellsNumber q (number_given h)) is tells in
    subst (Shows env new) (sym (finish_is s g ∙ ap (λ o. ends s (number_given o)) (sym same) ∙ ap (ends s) none)) shows
