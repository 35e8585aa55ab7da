use Rattle.run_texts.proofs.TextLemmas.{texts_of_runs}
use Rattle.run_texts.proofs.texts.texts_of_runs.Goals as goal

pub returns : goal.returns
returns c = texts_of_runs
