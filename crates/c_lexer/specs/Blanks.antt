-- White space and comments.
use Rattle.std.specs.Prelude.{ℕ, zero, suc, ◌+◌, Bool, false, ◌&&◌, ◌||◌, ◌==◌, nat_lt, if◌then◌else◌, List, length, take, drop, Option, Some, None, Result, Ok, Err, slice_index}
use Rattle.std.specs.Option.{option_map}
use Rattle.c_lexer.specs.declared.bytes.Class.TheVariants.{Space, NotLineFeed}
use Rattle.c_lexer.specs.declared.pieces.Gap.{Gap}
use Rattle.c_lexer.specs.Bytes.{is_space, run, comment_end}

abbrev pub gap : ℕ → Bool → Gap
gap n breaks = record { len = n; breaks_line = breaks }

-- the white space in front
abbrev pub white_space : List ℕ → Gap
white_space z = gap (run Space z) (nat_lt (run NotLineFeed (take (run Space z) z)) (run Space z))

-- from `//` to the end of its line
abbrev pub line_comment : List ℕ → Gap
line_comment z = gap (run NotLineFeed z) false

-- from `/*` to the first `*/` behind it; None where there is none
abbrev pub block_comment : List ℕ → Option Gap
block_comment z = option_map (λ n. gap (n + 4) false) (comment_end (drop 2 z))

-- the white space, or the comment, in front, of length 0 where there is none; None where a comment has no end
abbrev pub blank : List ℕ → Option Gap
blank z =
    if is_space (slice_index z 0) then Some (white_space z)
    else (if slice_index z 0 == 47 && slice_index z 1 == 47 then Some (line_comment z)
    else (if slice_index z 0 == 47 && slice_index z 1 == 42 then block_comment z else Some (gap 0 false)))

-- behind a gap: what one more of them is, and what follows it
abbrev pub blanks_then : ℕ → Bool → Option Gap → (Gap → Result Gap ℕ) → Result Gap ℕ
blanks_then at breaks None further = Err at
blanks_then at breaks (Some g) further = if g.len == 0 then Ok (gap at breaks) else further g

-- one after another, for at most a number of them
unfoldable pub blanks_within : ℕ → ℕ → Bool → List ℕ → Result Gap ℕ
blanks_within zero at breaks z = Ok (gap at breaks)
blanks_within (suc f) at breaks z = blanks_then at breaks (blank z) (λ g. blanks_within f (at + g.len) (breaks || g.breaks_line) (drop g.len z))

-- the white space and comments in front, or the place of a comment that has no end
abbrev pub blanks : List ℕ → Result Gap ℕ
blanks z = blanks_within (suc (length z)) 0 false z
