use Rattle.std.proofs.Common.{◌≡◌, ◌++◌, take}
use Rattle.text_values.proofs.texts.push_all.Given as goal

abbrev pub invariant-loop-byte : goal.invariant-loop-byte
invariant-loop-byte l = l.value ≡ l.fn.value ++ take l.byte-index l.bytes
