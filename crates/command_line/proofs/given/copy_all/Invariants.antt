use Rattle.std.proofs.Common.{◌≡◌, map, take}
use Rattle.std.specs.String.{string_bytes}
use Rattle.command_line.proofs.given.copy_all.Given as goal

-- so far the words in front of the place were copied
abbrev pub invariant-loop-word : goal.invariant-loop-word
invariant-loop-word l = map string_bytes l.copies.items ≡ map (λ t. t.now) (take l.word-index l.words)
