use Rattle.std.proofs.Common.{sym, ◌∙◌}
use Rattle.vala_types.proofs.TiesLemmas.{decides_base}
use Rattle.vala_types.proofs.ties.Ties.has_base.Goals as goal

pub returns-then-is_near : goal.returns-then-is_near
returns-then-is_near c =
    c.if-is_near.true ∙ sym ((decides_base c.args.self.now c.args.number c.args.base).1 (c.is_near.ensures c.if-is_near.true))
