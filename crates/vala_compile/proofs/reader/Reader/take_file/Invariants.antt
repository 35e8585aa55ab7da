use Rattle.std.proofs.Common.{◌-◌, length}
use Rattle.vala_lexer.specs.Tokens.{left, all_of}
use Rattle.vala_compile.specs.Steps.{seen}
use Rattle.vala_compile.proofs.Walking.{Led}
use Rattle.vala_compile.proofs.reader.Reader.take_file.Given as goal

-- what is said of all tokens is said of those that are left
abbrev pub invariant-loop-token : goal.invariant-loop-token
invariant-loop-token l = Led (all_of l.bytes l.file) (seen l.initial.self) (left l.lexer) (seen l.self)

abbrev pub decreases-loop-token : goal.decreases-loop-token
decreases-loop-token l = length l.lexer.bytes.now - l.lexer.at
