use Rattle.std.proofs.Common.{◌≡◌, ◌++◌, map, take}
use Rattle.std.specs.String.{string_bytes}
use Rattle.command_line.specs.Names.{name_byte}
use Rattle.command_line.proofs.name.push_name.Given as goal

-- so far the bytes in front of the place were pushed
abbrev pub invariant-loop-b : goal.invariant-loop-b
invariant-loop-b l =
    string_bytes l.name ≡ string_bytes l.initial.name ++ map name_byte (take l.b-index l.bytes)
