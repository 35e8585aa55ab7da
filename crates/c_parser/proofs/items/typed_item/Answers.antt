use Rattle.c_parser.proofs.ItemLaws.{rest_base}
use Rattle.c_parser.proofs.items.typed_item.Goals as goal

pub means_int-is_int-requires-clause-of : goal.means_int-is_int-requires-clause-of
means_int-is_int-requires-clause-of c = rest_base _ _ _ _ _ _ _ _ _ c.in_ok-declared.ensures.tree
