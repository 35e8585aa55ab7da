use Rattle.std.proofs.Common.{List, ap, ◌∙◌}
use Rattle.vala_tree.specs.declared.names.Identifier.{Identifier}
use Rattle.vala_file_grammar.specs.Trees as tree
use Rattle.vala_parse.proofs.classes.last_word.Goals as goal

pub returns : goal.returns
returns c = c.last_of.ensures c.args.name.now.span ∙ ap (λ (ws : List Identifier). tree.last_word (record { words = ws; span = c.args.name.now.span })) c.as_slice.ensures
