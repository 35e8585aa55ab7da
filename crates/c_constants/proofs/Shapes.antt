-- Values with values in them.
use Rattle.std.proofs.Common.{◌≡◌, ◌∙◌, ap, sym, map, List, Option, Result, Ok, Err, IfOk}
use Rattle.c_tree.specs.declared.code.Choice.{Choice}
use Rattle.c_tree.specs.declared.code.Expr.{Expr}
use Rattle.c_tree.specs.declared.code.Shape.{Shape}
use Rattle.c_tree.specs.declared.code.Shape.TheVariants as shape
use Rattle.c_tree.specs.declared.code.Shape.TheOpen.{Shape-F}
use Rattle.c_tree.specs.declared.kinds.Operand.{Operand}
use Rattle.c_tree.specs.Constants.{Worth}
use Rattle.c_tree.specs.Env.{Env}
use Rattle.c_constants.specs.Choices.{chosen_before}
use Rattle.c_constants.proofs.Turns.{choices_come}
use Rattle.c_tree.specs.Checks.{Checked, checked, choices_worth, operand_of}
use Rattle.c_value_checker.specs.Judgements.{checked_choice, checked_shape}
use Rattle.c_value_checker.proofs.ValueLemmas.{shape_known}

-- what follows of a result
pub on_value : {T E : Type 0} {P Q : T → Type 0} (r : Result T E) → IfOk r P → ((x : T) → P x → Q x) → IfOk r Q
on_value (Ok x) h f = f x h
on_value (Err e) h f = h

module _ (env : Env) (s : Shape) where
  choice_comes : (cs : List Choice) (a : Expr) → s ≡ shape.Conditional cs a → (checked_shape s).worth env ≡ choices_worth env (map checked_choice cs) (checked a)
  choice_comes cs a is = ap (λ z. (checked_shape z).worth env) is ∙ ap (λ (z : Checked). z.worth env) (shape_known (Shape-F.Conditional cs a))

  -- the same, by what is computed of the parts
  pub choice_found : (cs ds : List Choice) (a b d : Expr) (o : Option Operand) (v w : Worth) → s ≡ shape.Conditional cs a → ds ≡ cs → b ≡ a → d ≡ a
      → o ≡ operand_of env (checked b) → v ≡ (checked d).value.worth env → w ≡ chosen_before env (map checked_choice ds) o v → w ≡ (checked_shape s).worth env
  choice_found cs ds a b d o v w is ek eb ed eo ev ew =
      ew ∙ (λ i. chosen_before env (map checked_choice (ek i)) ((eo ∙ ap (λ x. operand_of env (checked x)) eb) i) ((ev ∙ ap (λ x. (checked x).value.worth env) ed) i))
      ∙ choices_come env (map checked_choice cs) (checked a) ∙ sym (choice_comes cs a is)
