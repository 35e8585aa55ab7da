use Rattle.std.proofs.Common.{◌≡◌, ◌<◌, ◌^◌, drop}
use Rattle.c_lexer.specs.Bytes.{value}
use Rattle.c_lexer.proofs.ByteLemmas.{value_behind}
use Rattle.c_lexer.proofs.bytes.value_of.Given as goal

abbrev pub invariant-loop-digit : goal.invariant-loop-digit
invariant-loop-digit l = record {
  same : value l.base l.digits ≡ value_behind l.base l.value (drop l.digit-index l.digits);
  small : l.value < 2 ^ 64;
}
