-- The draft stands in front of what is written of the other pieces.
use Rattle.std.proofs.Common.{◌≡◌, map, drop}
use Rattle.c_meaning.specs.Formats as meant
use Rattle.c_texts.specs.Answers.{InRuns}
use Rattle.c_formats.specs.Seen.{behind, seen_piece}
use Rattle.c_formats.proofs.writing.write_all.Given as goal

abbrev pub invariant-loop-piece : goal.invariant-loop-piece
invariant-loop-piece l = InRuns l.heap (λ s. meant.write_all s (map seen_piece l.pieces) l.cells ≡ behind l.draft (meant.write_all s (map seen_piece (drop l.piece-index l.pieces)) (drop l.next l.cells)))
