use Rattle.symbols.specs.Table.{names_of}
use Rattle.class_table.specs.Trees.{program_of}
use Rattle.class_table.proofs.MemberLemmas.{slots_have_bodies}
use Rattle.class_table.proofs.laws.accepted_slots_have_bodies.Goals as goal

pub returns : goal.returns
returns c = λ files. slots_have_bodies (program_of (names_of files) files)
