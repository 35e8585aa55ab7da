use Rattle.std.proofs.Common.{◌≡◌, drop}
use Rattle.vala_compile.specs.Quoted.{quoted, quoted_from}
use Rattle.vala_compile.proofs.quoted.text_of.Given as goal

-- what is left of the literal goes on to what the whole of it denotes
abbrev pub invariant-loop-byte : goal.invariant-loop-byte
invariant-loop-byte l = quoted_from l.place l.text.items (drop l.byte-index l.literal) ≡ quoted l.literal
