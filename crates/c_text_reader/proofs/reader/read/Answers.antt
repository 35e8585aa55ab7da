use Rattle.c_tree.specs.Answers.{large}
use Rattle.c_text_reader.proofs.reader.read.Goals as goal

pub returns-then-bytes-limit : goal.returns-then-bytes-limit
returns-then-bytes-limit c = large c.if-bytes-limit.true
