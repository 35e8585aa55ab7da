use Rattle.std.proofs.Common.{◌∙◌, ap}
use Rattle.c_tree.specs.declared.operators.PrefixOperator.{PrefixOperator}
use Rattle.c_tree.specs.Words.{Terminal}
use Rattle.c_grammar.specs.Trees.{prefix_in}
use Rattle.c_parser.specs.Pieces.{is_address}
use Rattle.c_parser.proofs.statements.star_prefix.Goals as goal

pub returns-clause-place : goal.returns-clause-place
returns-clause-place c = ap (λ (p : PrefixOperator). is_address p.prefix) c.sign_prefix.ensures ∙ ap (λ (x : Terminal). is_address (prefix_in x)) c.requires
