-- What is wrong where the grammar leaves something out.
use Rattle.vg_base.specs.declared.event.Span.{Span}
use Rattle.static_rules.specs.declared.rules.Rule.{Rule}

pub data Label : Type 0 where
  -- the next token would itself begin what the profile leaves out
  Here : Label
  -- with the next token it is known that a word before it is none that the declaration takes: the rule that this breaks, and where the word stands
  Earlier : Rule → Span → Label
