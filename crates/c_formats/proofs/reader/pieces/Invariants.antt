-- The pieces so far stand in front of those of the other bytes.
use Rattle.std.proofs.Common.{◌≡◌, ◌++◌, map, drop}
use Rattle.std.specs.Option.{option_map}
use Rattle.c_meaning.specs.Formats as meant
use Rattle.c_formats.specs.Seen.{seen_mode, seen_piece}
use Rattle.c_formats.proofs.reader.pieces.Given as goal

abbrev pub invariant-loop-byte : goal.invariant-loop-byte
invariant-loop-byte l = meant.pieces meant.Copying l.bytes ≡ option_map (λ ps. map seen_piece l.pieces.items ++ ps) (meant.pieces (seen_mode l.mode) (drop l.byte-index l.bytes))
