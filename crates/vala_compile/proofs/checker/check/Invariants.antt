use Rattle.std.proofs.Common.{◌≤◌, map, take}
use Rattle.vala_compile.specs.Program.{AreFiles, most_files}
use Rattle.vala_compile.proofs.checker.check.Given as goal

-- the files so far are some of the grammar, and no more than may be
abbrev pub invariant-loop-number : goal.invariant-loop-number
invariant-loop-number l = AreFiles 0 (take l.number (map (λ f. f.items) l.files)) × (l.number ≤ most_files)
