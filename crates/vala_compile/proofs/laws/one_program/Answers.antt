use Rattle.vala_compile.proofs.Once as once
use Rattle.vala_compile.proofs.laws.one_program.Goals as goal

pub returns : goal.returns
returns c = once.one_program
