use Rattle.command_line.proofs.Bounds.{ask_in_bounds}
use Rattle.command_line.proofs.laws.words_ask_in_bounds.Goals as goal

pub returns : goal.returns
returns c = ask_in_bounds
