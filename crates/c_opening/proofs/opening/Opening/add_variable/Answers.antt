-- The first value is what the code of the initialiser comes to.
use Rattle.std.proofs.lemmas.Result.{on_ok_weaker}
use Rattle.c_meaning.specs.Runs.{static_block}
use Rattle.c_meaning.specs.Steps.{cells_in}
use Rattle.c_code.specs.Values.{value_seen}
use Rattle.c_opening.proofs.Started.{started, refused, in_its_kind}
use Rattle.c_opening.proofs.opening.Opening.add_variable.Goals as goal

pub returns-in-Ok : goal.returns-in-Ok
returns-in-Ok c =
    on_ok_weaker c.add_value.result (λ added.
    in_its_kind c.args.self.now c.add_value.new.self c.args.scope.now c.args.variable.now c.in_ok-kind.kind c.in_ok-kind.ensures c.requires
    (started value_seen c.args.self.now c.add_value.new.self c.args.scope.now c.in_ok-kind.kind c.args.variable.now.value c.in_ok-code.code c.value_of.result c.in-Ok.value
    (λ x s. static_block s c.args.variable.now.name.text (cells_in x)) c.requires c.in_ok-code.ensures c.in-Ok.is c.value_of.ensures added)) c.add_value.ensures

pub returns : goal.returns
returns c =
    on_ok_weaker c.refuse.result (λ refusing.
    in_its_kind c.args.self.now c.refuse.new.self c.args.scope.now c.args.variable.now c.in_ok-kind.kind c.in_ok-kind.ensures c.requires
    (refused value_seen c.args.self.now c.refuse.new.self c.args.scope.now c.in_ok-kind.kind c.args.variable.now.value c.in_ok-code.code c.value_of.result c.in-Err.fault
    (λ x s. static_block s c.args.variable.now.name.text (cells_in x)) c.requires c.in_ok-code.ensures c.in-Err.is c.value_of.ensures refusing)) c.refuse.ensures
