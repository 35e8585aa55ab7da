-- Reading a format byte by byte.
use Rattle.std.proofs.Common.{◌≡◌, ◌∙◌, refl, sym, ap, ℕ, ◌+◌, ◌<◌, List, ◌++◌, length, drop, get_or, Option, Some, None, append_assoc}
use Rattle.std.specs.Option.{option_map}
use Rattle.std.proofs.lemmas.List.{drop_more}
use Rattle.c_meaning.specs.Formats as meant

joined : (out now : List meant.Piece) (o : Option (List meant.Piece)) → option_map (λ ps. out ++ ps) (option_map (λ ps. now ++ ps) o) ≡ option_map (λ ps. (out ++ now) ++ ps) o
joined out now None = refl
joined out now (Some ps) = ap (λ xs. Some xs) (sym (append_assoc out now ps))

-- another byte is read
pub pieces_more : (bytes : List ℕ) (i : ℕ) (m : meant.Mode) (out new : List meant.Piece) (s : meant.Step) → i < length bytes → s ≡ meant.step m (get_or bytes i 0) → new ≡ out ++ s.piece
    → meant.pieces meant.Copying bytes ≡ option_map (λ ps. out ++ ps) (meant.pieces m (drop i bytes))
    → meant.pieces meant.Copying bytes ≡ option_map (λ ps. new ++ ps) (meant.pieces s.mode (drop (i + 1) bytes))
pieces_more bytes i m out new s lt is now so_far =
    so_far ∙ ap (λ xs. option_map (λ ps. out ++ ps) (meant.pieces m xs)) (drop_more bytes i 0 lt)
    ∙ ap (λ t. option_map (λ ps. out ++ ps) (option_map (λ ps. t.piece ++ ps) (meant.pieces t.mode (drop (i + 1) bytes)))) (sym is)
    ∙ joined out s.piece (meant.pieces s.mode (drop (i + 1) bytes))
    ∙ ap (λ xs. option_map (λ ps. xs ++ ps) (meant.pieces s.mode (drop (i + 1) bytes))) (sym now)
