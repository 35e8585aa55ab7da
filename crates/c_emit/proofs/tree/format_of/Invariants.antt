use Rattle.std.proofs.Common.{◌≡◌, take}
use Rattle.std.specs.List.{flat_map}
use Rattle.c_emit.specs.Emission.{format_byte}
use Rattle.c_emit.proofs.tree.format_of.Given as goal

-- so far the bytes that were met, as a format
abbrev pub invariant-loop-byte : goal.invariant-loop-byte
invariant-loop-byte l = l.format ≡ flat_map format_byte (take l.byte-index l.text)
