use Rattle.std.proofs.Common.{◌≡◌, take, replicate}
use Rattle.vg_base.specs.declared.small.Token.TheVariants.{Include}
use Rattle.vg_base.proofs.calls.includes.Given as goal

-- so far all tokens are such lines
abbrev pub invariant-loop-i : goal.invariant-loop-i
invariant-loop-i l = take l.i l.tokens ≡ replicate l.i Include
