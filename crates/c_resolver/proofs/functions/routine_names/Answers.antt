use Rattle.std.proofs.Common.{◌∙◌, [], ap}
use Rattle.c_meaning.specs.Layout.{declared}
use Rattle.c_resolver.specs.Routines.{all_names}
use Rattle.c_resolver.proofs.RoutineLemmas.{names_told}
use Rattle.c_resolver.proofs.StepLemmas.{on_value}
use Rattle.c_resolver.proofs.functions.routine_names.Goals as goal

pub returns : goal.returns
returns c = on_value c.names_in.result c.names_in.ensures (λ w e. e ∙ ap (all_names []) c.as_slice.ensures
    ∙ names_told (declared c.args.unit.now) [] c.args.unit.now.items)
