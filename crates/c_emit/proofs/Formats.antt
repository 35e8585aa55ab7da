-- A format that prints a text: its cells hold it, and what is written of it is the text.
use Rattle.std.proofs.Common.{◌≡◌, refl, sym, ap, ℕ, zero, suc, ◌≤◌, ◌<◌, ◌==◌, ◌-◌, cond, Bool, true, false, List, [], ◌∷◌, ◌++◌, map, Some, Ok, pos, negsuc, arith}
use Rattle.std.specs.Prelude.{nat_lt, ◌%◌}
use Rattle.std.proofs.lemmas.Bool.{eqb-true, ltb-true, ltb-false}
use Rattle.c_tree.specs.Constants.{modulo, signed}
use Rattle.c_meaning.specs.declared.cell.Cell.{Cell}
use Rattle.c_meaning.specs.State
use Rattle.c_meaning.specs.Texts.{text_cells, bytes_in, text_of}
use Rattle.c_meaning.specs.Formats.{Piece, Byte, Copying, pieces, match_all, write_all, formatted}
use Rattle.c_emit.specs.Program.{IsText}
use Rattle.c_emit.specs.Emission.{format_of}

-- 1. Bytes

small_positive : (b : ℕ) → nat_lt b 128 ≡ true → b % 256 ≡ b
small_positive b e = let lt : b < 128 = ltb-true b 128 e in omega arith

small_negative : (b : ℕ) → nat_lt b 128 ≡ false → b < 256 → 255 - (255 - b) % 256 ≡ b
small_negative b e h = let le : 128 ≤ b = ltb-false b 128 e in omega arith

byte_back : (b : ℕ) → b < 256 → modulo (signed 8 b) 256 ≡ b
byte_back b h = go (nat_lt b 128) refl
  where
    go : (t : Bool) → nat_lt b 128 ≡ t → modulo (cond t (pos b) (negsuc (255 - b))) 256 ≡ b
    go true e = small_positive b e
    go false e = small_negative b e h

-- what the cells of a text hold
pub cells_read : (bytes : List ℕ) → IsText bytes → bytes_in (text_cells bytes) ≡ Ok bytes
cells_read [] h = refl
cells_read (zero ∷ bs) h = let none : 0 < 0 = h.0.0 in absurd (omega arith)
cells_read (suc b ∷ bs) h = rw (byte_back (suc b) h.0.1, cells_read bs h.1) refl

-- 2. Formats

pub format_text : (text : List ℕ) → IsText text → IsText (format_of text)
format_text [] h = tt
format_text (b ∷ bs) h = go (b == 37) (format_text bs h.1)
  where
    go : (t : Bool) → IsText (format_of bs) → IsText (cond t (37 ∷ 37 ∷ []) (b ∷ []) ++ format_of bs)
    go true rest = ((omega arith, omega arith), ((omega arith, omega arith), rest))
    go false rest = (h.0, rest)

abbrev bytes_of : List ℕ → List Piece
bytes_of text = map Byte text

format_pieces : (text : List ℕ) → pieces Copying (format_of text) ≡ Some (bytes_of text)
format_pieces [] = refl
format_pieces (b ∷ bs) = go (b == 37) refl (format_pieces bs)
  where
    go : (t : Bool) → (b == 37) ≡ t → pieces Copying (format_of bs) ≡ Some (bytes_of bs)
        → pieces Copying (cond t (37 ∷ 37 ∷ []) (b ∷ []) ++ format_of bs) ≡ Some (Byte b ∷ bytes_of bs)
    go true e rest = rw rest (ap (λ x. Some (Byte x ∷ bytes_of bs)) (sym (eqb-true b 37 e)))
    go false e rest = rw (e, rest) refl

all_match : (text : List ℕ) → match_all (bytes_of text) [] ≡ true
all_match [] = refl
all_match (b ∷ bs) = all_match bs

all_written : (s : State.State) (text : List ℕ) → write_all s (bytes_of text) [] ≡ Ok text
all_written s [] = refl
all_written s (b ∷ bs) = rw (all_written s bs) refl

-- what is written of the format of a text
pub format_written : (s : State.State) (c : Cell) (text : List ℕ) → text_of s c ≡ Ok (format_of text) → formatted s c [] ≡ Ok text
format_written s c text e = rw (e, format_pieces text, all_match text) (all_written s text)
