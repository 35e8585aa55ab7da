use Rattle.std.proofs.Common.{ℕ, [], ◌∷◌, List, Some, sym, ap, ◌∙◌}
use Rattle.mending_readers.specs.Mending.{mend_token}
use Rattle.c_grammar.specs.Grammar.{C}
use Rattle.c_grammar.specs.Laws.{c_limits}
use Rattle.c_grammar.specs.Mending.{made_up}
use Rattle.c_grammar.specs.Tests.{is_name_of}
use Rattle.c_grammar.specs.Trees.{behind_first}
use Rattle.c_nodes.specs.Seen.{seen}
use Rattle.c_cursor.specs.Gives.{state}
use Rattle.c_parser.specs.Pieces.{tag_named}
use Rattle.c_parser.proofs.typedefs.named_by.Goals as goal

pub returns-clause-tree : goal.returns-clause-tree
unfolding tag_named
returns-clause-tree c =
    let e = ap behind_first c.requires.bears ∙ sym c.behind_first.ensures in
    ap (λ (w : List ℕ). Some (mend_token C (made_up c.args.parser.now.end) c_limits c.args.level 0 (is_name_of w) (seen c.args.tag ∷ [])
    (state c.args.parser.now))) e
    ∙ ap Some (sym (c.expect.ensures.token (seen c.args.tag ∷ []) e))
