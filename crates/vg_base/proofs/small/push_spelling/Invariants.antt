use Rattle.std.proofs.Common.{◌≡◌, ◌++◌, take}
use Rattle.vg_base.specs.Small.{spelling}
use Rattle.vg_base.proofs.small.push_spelling.Given as goal

-- so far the bytes before the place are spelled
abbrev pub invariant-loop-byte : goal.invariant-loop-byte
invariant-loop-byte l = l.out.items ≡ l.initial.out.items ++ spelling (take l.byte-index l.bytes)
