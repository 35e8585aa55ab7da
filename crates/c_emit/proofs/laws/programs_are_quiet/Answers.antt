use Rattle.c_emit.proofs.Quiet.{program_within, program_quiet}
use Rattle.c_emit.proofs.laws.programs_are_quiet.Goals as goal

pub returns : goal.returns
returns c = record { within = program_within; no_error = program_quiet }
