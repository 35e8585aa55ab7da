-- The other pieces want the other cells.
use Rattle.std.proofs.Common.{◌≡◌, ◌≤◌, length, map, drop}
use Rattle.c_meaning.specs.Formats as meant
use Rattle.c_formats.specs.Seen.{seen_piece}
use Rattle.c_formats.proofs.arguments.match_all.Given as goal

abbrev pub invariant-loop-piece : goal.invariant-loop-piece
invariant-loop-piece l = (l.next ≤ length l.cells) × (meant.match_all (map seen_piece l.pieces) l.cells ≡ meant.match_all (map seen_piece (drop l.piece-index l.pieces)) (drop l.next l.cells))
