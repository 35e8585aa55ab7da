use Rattle.command_line.specs.Answers.{meaning_of}
use Rattle.vala2c.proofs.Given.{given_read, input_stopped, sources_stopped}
use Rattle.vala2c.proofs.sources.read_given.Goals as goal

pub returns-in-Err : goal.returns-in-Err
returns-in-Err g c = sources_stopped (meaning_of c.args.asked.now) _ _ _ _ (rw c.as_slice.ensures.value at c.in-Err.ensures)

pub returns-in-Ok-read_input : goal.returns-in-Ok-read_input
returns-in-Ok-read_input g c = given_read (meaning_of c.args.asked.now) _ _ _ _ _ (rw c.as_slice.ensures.value at c.in-Ok.ensures) c.in-Ok-read_input.ensures

pub returns-in-Err-read_input : goal.returns-in-Err-read_input
returns-in-Err-read_input g c = input_stopped (meaning_of c.args.asked.now) _ _ _ _ _ _ (rw c.as_slice.ensures.value at c.in-Ok.ensures) c.in-Err-read_input.ensures
