use Rattle.std.proofs.Common.{◌≡◌, ◌++◌, drop}
use Rattle.c_printer.specs.Put.{spelled_bytes}
use Rattle.c_printer.proofs.token.put_bytes.Given as goal

abbrev pub invariant-loop-byte : goal.invariant-loop-byte
invariant-loop-byte l = l.out.items ++ spelled_bytes l.quote l.previous (drop l.byte-index l.bytes) ≡ l.initial.out.items ++ spelled_bytes l.quote 0 l.bytes
