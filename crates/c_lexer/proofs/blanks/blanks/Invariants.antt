use Rattle.std.proofs.Common.{◌≡◌, ◌-◌, ◌≤◌, suc, length, drop}
use Rattle.c_lexer.specs.Blanks.{blanks, blanks_within}
use Rattle.c_lexer.proofs.blanks.blanks.Given as goal

-- the same is found from the place on
abbrev pub invariant-loop-gap : goal.invariant-loop-gap
invariant-loop-gap l = record {
  within : l.at ≤ length l.bytes;
  same : blanks l.bytes ≡ blanks_within (suc (length l.bytes - l.at)) l.at l.breaks_line (drop l.at l.bytes);
}

abbrev pub decreases-loop-gap : goal.decreases-loop-gap
decreases-loop-gap l = length l.bytes - l.at
