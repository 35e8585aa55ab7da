-- What was read stands apart.
use Rattle.std.proofs.Common.{None}
use Rattle.c_tree.specs.Answers.{reads, unit}
use Rattle.c_places.specs.Laws.{TextsStandApart, LocalsStandApart}
use Rattle.c_places.proofs.Picks.{literals_rise}
use Rattle.c_places.proofs.Tokens.{TokensCover, tokens_rise}
use Rattle.c_places.proofs.Items.{items_stand, items_apart}

pub texts_apart : TokensCover → TextsStandApart
texts_apart covered bytes limit u (reads _ ts short lexed (unit _ _ r sound)) = literals_rise 0 (items_stand r.items) (tokens_rise covered bytes ts None lexed)

pub locals_apart : TokensCover → LocalsStandApart
locals_apart covered bytes limit u (reads _ ts short lexed (unit _ _ r sound)) = items_apart r.items (tokens_rise covered bytes ts None lexed)
