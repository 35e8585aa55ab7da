-- Faults, by their places in front of bytes.
use Rattle.std.specs.Prelude.{ℕ, ◌+◌}
use Rattle.static_rules.specs.declared.rules.Rule.{Rule}
use Rattle.static_rules.specs.declared.rules.Rule.TheVariants.{L1, L2, L3}
use Rattle.vala_lexer.specs.declared.pieces.Fault.{Fault}

abbrev pub fault : Rule → ℕ → ℕ → Fault
fault rule start len = record { rule = rule; start = start; len = len }

-- one byte at a place
abbrev pub bad_byte : ℕ → Fault
bad_byte at = fault L1 at 1

-- what begins with the first byte has no end
abbrev pub no_end : Fault
no_end = fault L2 0 1

abbrev pub bad_escape : ℕ → Fault
bad_escape at = fault L3 at 1

-- a fault behind some bytes
abbrev pub moved : ℕ → Fault → Fault
moved at f = fault f.rule (at + f.start) f.len
