use Rattle.std.proofs.Common.{◌≡◌, [], drop}
use Rattle.vg_base.specs.Scanner.{scan}
use Rattle.vg_base.specs.declared.scanner.Mode.TheVariants.{Between}
use Rattle.vg_base.proofs.scanner.tokens.Given as goal

-- what is left of the bytes gives the tokens of all of them
abbrev pub invariant-loop-byte : goal.invariant-loop-byte
invariant-loop-byte l = scan (drop l.byte-index l.bytes) l.mode l.tokens.items ≡ scan l.bytes Between []
