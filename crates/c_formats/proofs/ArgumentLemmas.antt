-- Matching pieces with arguments, at the end.
use Rattle.std.proofs.Common.{inl, inr, ◌≡◌, ◌∙◌, sym, ap, ℕ, ◌≤◌, ◌≢◌, List, [], length, map, drop, arith, pos, nat_eq}
use Rattle.std.proofs.lemmas.List.{drop_more, drop_all}
use Rattle.std.proofs.lemmas.Bool.Decides.{eqb_tells}
use Rattle.c_meaning.specs.declared.cell.Cell.{Cell}
use Rattle.c_meaning.specs.declared.cell.Cell.TheVariants.{Int}
use Rattle.c_meaning.specs.Formats.{match_all}
use Rattle.c_formats.specs.declared.pieces.Piece.{Piece}
use Rattle.c_formats.specs.Seen.{seen_piece}

-- where no piece is left no argument is left
pub match_end : (pieces : List Piece) (i next : ℕ) (cells : List Cell) → length pieces ≤ i → next ≤ length cells → nat_eq next (length cells) ≡ match_all (map seen_piece (drop i pieces)) (drop next cells)
match_end pieces i next cells past within =
    elim (eqb_tells next (length cells)) [
      | inl all ↦ all.0 ∙ sym (ap (match_all []) (drop_all next cells (let same : next ≡ length cells = all.1 in omega arith)))
      | inr some ↦ some.0 ∙ sym (ap (match_all []) (drop_more cells next (Int (pos 0)) (let apart : next ≢ length cells = some.1 in omega arith)))
    ]
    ∙ ap (λ ps. match_all (map seen_piece ps) (drop next cells)) (sym (drop_all i pieces past))
