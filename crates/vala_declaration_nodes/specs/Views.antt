-- What is read on the way to a declaration, as the grammar has it.
use Rattle.vala_file_grammar.specs.Trees as tree
use Rattle.vala_declaration_nodes.specs.declared.parts.Closed.{Closed}
use Rattle.vala_declaration_nodes.specs.declared.parts.Ending.{Ending}
use Rattle.vala_declaration_nodes.specs.declared.parts.Declared.{Declared}

abbrev pub closed_of : {A : Type 0} → Closed A → tree.Closed A
closed_of x = record { list = x.list; close = x.close }

abbrev pub ending_of : Ending → tree.Ending
ending_of x = record { block = x.block; last = x.last }

abbrev pub declared_of : Declared → tree.Declared
declared_of x = record { declaration = x.declaration; span = x.span }
