use Rattle.std.proofs.Common.{map}
use Rattle.vg_base.specs.Small.{token_of}
use Rattle.vg_base.proofs.CallLemmas.{no_texts}
use Rattle.vg_base.proofs.calls.texts_between.Goals as goal

pub returns-else-are_pieces : goal.returns-else-are_pieces
returns-else-are_pieces c =
    no_texts c.args.tokens.now (map token_of c.args.head.now) (map token_of c.args.tail.now) c.args.name.now c.loop-text.texts.items c.loop-text.rest.now
    c.requires c.loop-text.invariant c.in_default.ensures (λ e. absurd (cc (c.if-are_pieces.ensures.1 e)))
