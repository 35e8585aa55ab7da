-- One piece after another.
use Rattle.std.proofs.Common.{ℕ, Vec, Global, ◌∙◌, ap, arith, ◌+◌, map, drop}
use Rattle.std.proofs.lemmas.List.{drop_more}
use Rattle.c_meaning.specs.Formats as meant
use Rattle.c_formats.specs.Seen.{behind, seen_piece}
use Rattle.c_formats.proofs.WritingLemmas.{refused_piece}
use Rattle.c_formats.proofs.writing.write_all.Goals as goal

pub returns-in-Err : goal.returns-in-Err
returns-in-Err c = λ s sees.
    let rest = ap (map seen_piece) (drop_more c.args.pieces.now c.loop-piece.piece-index _ (omega arith)) in
    refused_piece {A = Vec ℕ Global} c.loop-piece.draft c.in-Err.fault (λ text. text.items) _ _
    (c.loop-piece.invariant s sees ∙ ap (λ ps. behind c.loop-piece.draft (meant.write_all s ps (drop c.loop-piece.next c.args.cells.now))) rest)
    (c.in-Err.ensures.refused s sees (map seen_piece (drop (c.loop-piece.piece-index + 1) c.args.pieces.now)))

pub loop-piece-preserved : goal.loop-piece-preserved
loop-piece-preserved c = λ s sees.
    let rest = ap (map seen_piece) (drop_more c.args.pieces.now c.loop-piece.piece-index _ (omega arith)) in
    c.loop-piece.invariant s sees ∙ ap (λ ps. behind c.loop-piece.draft (meant.write_all s ps (drop c.loop-piece.next c.args.cells.now))) rest
    ∙ c.in-Ok.ensures.written s sees (map seen_piece (drop (c.loop-piece.piece-index + 1) c.args.pieces.now))
