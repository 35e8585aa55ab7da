-- One byte after another.
use Rattle.std.proofs.Common.{arith, map}
use Rattle.c_formats.specs.Seen.{seen_mode, seen_piece, seen_step}
use Rattle.c_formats.proofs.ReaderLemmas.{pieces_more}
use Rattle.c_formats.proofs.reader.pieces.Goals as goal

pub loop-byte-preserved : goal.loop-byte-preserved
loop-byte-preserved c =
    pieces_more c.args.bytes.now c.loop-byte.byte-index (seen_mode c.loop-byte.mode) (map seen_piece c.loop-byte.pieces.items) (map seen_piece c.push_piece.new.pieces.items) (seen_step c.read_byte-step.result) (omega arith)
    c.read_byte-step.ensures c.in_ok-push_piece.ensures c.loop-byte.invariant
