-- What a row of choices comes to, by what the value behind it does.
use Rattle.std.specs.Prelude.{List, [], ◌∷◌, Option}
use Rattle.c_tree.specs.declared.kinds.Operand.{Operand}
use Rattle.c_tree.specs.Constants.{Worth}
use Rattle.c_tree.specs.Env.{Env}
use Rattle.c_tree.specs.Checks.{KnownChoice, choice_operand, chosen_worth, in_kind}

-- choices before a value of that kind that comes to that
abbrev pub chosen_before : Env → List KnownChoice → Option Operand → Worth → Worth
chosen_before env [] o w = w
chosen_before env (c ∷ cs) o w = in_kind (choice_operand env (c ∷ cs) o) (chosen_worth (c.test.value.worth env) (c.yes.value.worth env) (chosen_before env cs o w))
