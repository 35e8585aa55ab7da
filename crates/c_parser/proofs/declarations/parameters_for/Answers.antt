use Rattle.std.proofs.Common.{◌≡◌, Bool, Some, IfOk, sym, ap, subst, ◌∙◌}
use Rattle.c_grammar.specs.Parts as part
use Rattle.c_grammar.specs.Tests.{is_main}
use Rattle.c_cursor.specs.Gives.{reads, state}
use Rattle.c_parser.proofs.declarations.parameters_for.Goals as goal

pub returns-clause-tree : goal.returns-clause-tree
returns-clause-tree c =
    subst (λ (m : Bool). IfOk c.read_parameters.result (λ p. reads (part.ParametersOf m) c.args.level c.args.parser.now
    ≡ Some (p.list, state c.read_parameters.new.parser)))
    (c.is_main.ensures ∙ ap is_main (sym c.requires.bears)) c.read_parameters.ensures.tree
