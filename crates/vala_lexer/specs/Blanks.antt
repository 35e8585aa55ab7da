-- White space and comments.
use Rattle.std.specs.Prelude.{ℕ, zero, suc, ◌+◌, ◌&&◌, ◌==◌, nat_lt, if◌then◌else◌, List, length, take, drop, Option, Some, None, Result, Ok, Err, slice_index}
use Rattle.vala_lexer.specs.declared.bytes.Class.TheVariants.{Space, NotZero, NotLineFeed}
use Rattle.vala_lexer.specs.declared.bytes.Ending.TheVariants.{Comment}
use Rattle.vala_lexer.specs.declared.pieces.Fault.{Fault}
use Rattle.vala_lexer.specs.Bytes.{is_space, run, place_of}
use Rattle.vala_lexer.specs.Pieces.{bad_byte, no_end, moved}

-- a comment of a length: no byte of it is zero
abbrev pub comment : ℕ → List ℕ → Result ℕ Fault
comment n z = let m = run NotZero (take n z) in if nat_lt m n then Err (bad_byte m) else Ok n

abbrev pub block_comment_to : List ℕ → Option ℕ → Result ℕ Fault
block_comment_to z None = Err no_end
block_comment_to z (Some n) = comment (n + 4) z

-- from `/*` to the first `*/` behind it
abbrev pub block_comment : List ℕ → Result ℕ Fault
block_comment z = block_comment_to z (place_of Comment (drop 2 z))

-- how many bytes the white space, or the comment, in front takes; 0 where there is none
abbrev pub blank : List ℕ → Result ℕ Fault
blank z =
    if is_space (slice_index z 0) then Ok (run Space z)
    else (if slice_index z 0 == 47 && slice_index z 1 == 47 then comment (run NotLineFeed z) z
    else (if slice_index z 0 == 47 && slice_index z 1 == 42 then block_comment z else Ok 0))

-- behind a number of bytes: what one more of them takes, and what follows it
abbrev pub blanks_then : ℕ → Result ℕ Fault → (ℕ → Result ℕ Fault) → Result ℕ Fault
blanks_then at (Err g) further = Err (moved at g)
blanks_then at (Ok n) further = if n == 0 then Ok at else further n

-- one after another, for at most a number of them
unfoldable pub blanks_within : ℕ → ℕ → List ℕ → Result ℕ Fault
blanks_within zero at z = Ok at
blanks_within (suc f) at z = blanks_then at (blank z) (λ n. blanks_within f (at + n) (drop n z))

-- how many bytes of white space and comments stand in front
abbrev pub blanks : List ℕ → Result ℕ Fault
blanks z = blanks_within (suc (length z)) 0 z
