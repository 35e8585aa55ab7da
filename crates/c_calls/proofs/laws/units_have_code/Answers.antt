use Rattle.c_calls.proofs.Items.{units_coded}
use Rattle.c_calls.proofs.laws.units_have_code.Goals as goal

pub returns : goal.returns
returns c = units_coded
