use Rattle.std.proofs.Common.{map}
use Rattle.vala_compile.specs.Steps.{seen}
use Rattle.vala_compile.proofs.Files.{LedFiles}
use Rattle.vala_compile.proofs.read.read.Given as goal

-- what is said of all tokens is said of those of the files that are left
abbrev pub invariant-loop-number : goal.invariant-loop-number
invariant-loop-number l = LedFiles (map (λ f. f.items) l.files) l.number (seen l.reader)
