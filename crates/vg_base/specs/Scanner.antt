-- The tokens of a small text, byte by byte: the function on lists that the reader computes. What the tokens of a text are says `Lexes`.
use Rattle.std.specs.Prelude.{ℕ, ◌+◌, Bool, false, ◌==◌, if◌then◌else◌, List, [], ◌∷◌, ◌++◌, Option, Some, None, slice_get, option_and_then, nat_lt, length}
use Rattle.std.specs.Option.{option_map}
use Rattle.vg_base.specs.World.{is_word_byte}
use Rattle.vg_base.specs.Small.{is_space, is_sign, is_plain, escape_of, include_line}
use Rattle.vg_base.specs.declared.small.Token.{Token}
use Rattle.vg_base.specs.declared.small.Token.TheVariants as token
use Rattle.vg_base.specs.declared.scanner.Start.{Start}
use Rattle.vg_base.specs.declared.scanner.Start.TheVariants as start
use Rattle.vg_base.specs.declared.scanner.Mode.{Mode}
use Rattle.vg_base.specs.declared.scanner.Mode.TheVariants as mode

-- what begins with a byte that stands between tokens
abbrev pub start_of : ℕ → Start
start_of b = if is_word_byte b then start.Word else (if is_space b then start.Space else (if is_sign b then start.Sign else (if b == 34 then start.Quote else (if b == 35 then start.Line else start.Other))))

-- the mode behind one byte, and the tokens that have ended; None where no token goes on or begins so
abbrev pub Next : Type 0
Next = Option (Mode × List Token)

-- one byte between tokens
abbrev pub begin_as : Start → ℕ → List Token → Next
begin_as start.Word b ended = Some (mode.Word (b ∷ []), ended)
begin_as start.Space b ended = Some (mode.Between, ended)
begin_as start.Sign b ended = Some (mode.Between, ended ++ token.Sign b ∷ [])
begin_as start.Quote b ended = Some (mode.Text [], ended)
begin_as start.Line b ended = Some (mode.Include 1, ended)
begin_as start.Other b ended = None

abbrev pub begin : ℕ → List Token → Next
begin b ended = begin_as (start_of b) b ended

-- one byte in a word
abbrev pub in_word : List ℕ → ℕ → List Token → Next
in_word w b ended = if is_word_byte b then Some (mode.Word (w ++ b ∷ []), ended) else begin b (ended ++ token.Word w ∷ [])

-- one byte in a text
abbrev pub in_text : List ℕ → ℕ → List Token → Next
in_text t b ended = if is_plain b then Some (mode.Text (t ++ b ∷ []), ended) else (if b == 92 then Some (mode.Escape t, ended) else (if b == 34 then Some (mode.Between, ended ++ token.Text t ∷ []) else None))

-- one byte behind a `\` in a text
abbrev pub in_escape : List ℕ → ℕ → List Token → Next
in_escape t b ended = option_map (λ c. (mode.Text (t ++ c ∷ []), ended)) (escape_of b)

-- whether the include line has this byte at a place
abbrev pub has_byte : Option ℕ → ℕ → Bool
has_byte None b = false
has_byte (Some c) b = c == b

-- one byte in an include line
abbrev pub in_include : ℕ → ℕ → List Token → Next
in_include n b ended = if has_byte (slice_get include_line n) b then (if nat_lt (n + 1) (length include_line) then Some (mode.Include (n + 1), ended) else Some (mode.Between, ended ++ token.Include ∷ [])) else None

-- one byte in any mode
abbrev pub step : Mode → ℕ → List Token → Next
step mode.Between b ended = begin b ended
step (mode.Word w) b ended = in_word w b ended
step (mode.Text t) b ended = in_text t b ended
step (mode.Escape t) b ended = in_escape t b ended
step (mode.Include n) b ended = in_include n b ended

-- the tokens where the text ends
abbrev pub finish : Mode → List Token → Option (List Token)
finish mode.Between ended = Some ended
finish (mode.Word w) ended = Some (ended ++ token.Word w ∷ [])
finish (mode.Text t) ended = None
finish (mode.Escape t) ended = None
finish (mode.Include n) ended = None

-- the tokens of a text whose front has led to a mode, with those that have ended in front
abbrev pub scan : List ℕ → Mode → List Token → Option (List Token)
scan [] m ended = finish m ended
scan (b ∷ bs) m ended = option_and_then (λ s. scan bs s.0 s.1) (step m b ended)

-- a mode and tokens as one byte leaves them
abbrev pub scanned : Option Mode → List Token → Next
scanned None ended = None
scanned (Some m) ended = Some (m, ended)
