use Rattle.std.proofs.Common.{◌∙◌}
use Rattle.vala2c.proofs.Numbered.{numbered, none_numbered}
use Rattle.vala2c.proofs.sources.source_at.Goals as goal

pub returns-in-Some : goal.returns-in-Some
returns-in-Some c = let h = c.in-Some.ensures.lookup in c.deref.ensures.value ∙ numbered _ _ _ _ h.3.0 h.1

pub returns-in-None : goal.returns-in-None
returns-in-None c = none_numbered _ _ _ c.in-None.ensures.lookup.3
