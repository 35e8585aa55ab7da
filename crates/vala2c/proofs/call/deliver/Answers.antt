use Rattle.std.proofs.Common.{◌∙◌, ap}
use Rattle.command_line.specs.Names.{c_file}
use Rattle.command_line.specs.Answers.{meaning_of}
use Rattle.vala2c.proofs.Commands.{delivered, undelivered}
use Rattle.vala2c.proofs.call.deliver.Goals as goal

pub returns-in_default : goal.returns-in_default
returns-in_default g c = λ reads f built chain. undelivered (meaning_of c.args.asked.now) _ _ _ _ _ _ _ _ _ _ built chain c.finish.ensures

pub returns : goal.returns
returns g c =
    λ reads f built chain.
    let target = c.as_str-file.ensures.value ∙ c.in-Ok.ensures ∙ ap c_file c.as_str.ensures.value in
    delivered (meaning_of c.args.asked.now) _ _ _ _ _ _ _ _ _ _ _ _ _ _ _ _ target built chain c.write_and_run-outcome.ensures c.finish_outcome.ensures
