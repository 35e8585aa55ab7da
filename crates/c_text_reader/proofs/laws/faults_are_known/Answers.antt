use Rattle.c_text_reader.proofs.KnownItems.{faults_are_known}
use Rattle.c_text_reader.proofs.laws.faults_are_known.Goals as goal

pub returns : goal.returns
returns c = faults_are_known
