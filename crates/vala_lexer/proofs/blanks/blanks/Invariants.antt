use Rattle.std.proofs.Common.{◌≡◌, ◌-◌, ◌≤◌, suc, length, drop}
use Rattle.vala_lexer.specs.Blanks.{blanks, blanks_within}
use Rattle.vala_lexer.proofs.blanks.blanks.Given as goal

-- the same is found from the place on
abbrev pub invariant-loop-len : goal.invariant-loop-len
invariant-loop-len l = record {
  within : l.at ≤ length l.bytes;
  same : blanks l.bytes ≡ blanks_within (suc (length l.bytes - l.at)) l.at (drop l.at l.bytes);
}

abbrev pub decreases-loop-len : goal.decreases-loop-len
decreases-loop-len l = length l.bytes - l.at
