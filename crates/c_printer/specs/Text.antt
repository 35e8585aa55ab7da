-- A text of C that is written token by token, and which tokens it then has.
use Rattle.std.specs.Prelude.{◌≡◌, ℕ, zero, suc, ◌<◌, Bool, true, false, ◌||◌, if◌then◌else◌, List, [], ◌∷◌, ◌++◌, length, drop, Option, Some, None, slice_index}
use Rattle.std.specs.Option.{option_map}
use Rattle.c_lexer.specs.declared.bytes.Class.TheVariants.{Space}
use Rattle.c_lexer.specs.declared.token.TokenKind.{TokenKind}
use Rattle.c_lexer.specs.Bytes.{run}
use Rattle.c_lexer.specs.Apart.{Item, has_line_feed, needs_space}
use Rattle.c_lexer.specs.Written.{IsToken}
use Rattle.c_printer.specs.declared.output.Writer.{Writer}

-- the bytes so far, and the last token where nothing stands behind it
pub record Text : Type 0 where
  pub bytes : List ℕ
  pub last : Option (List ℕ)

abbrev pub seen : Writer → Text
seen w = record { bytes = w.bytes.items; last = option_map (λ p. drop p w.bytes.items) w.last }

abbrev pub empty : Text
empty = record { bytes = []; last = None }

-- the space that the last token needs in front of the next one
abbrev pub gap : Option (List ℕ) → List ℕ → List ℕ
gap None w = []
gap (Some l) w = if needs_space l (slice_index w 0) then 32 ∷ [] else []

-- one token more, behind a space where one is needed
abbrev pub with_token : Text → List ℕ → Text
with_token t w = record { bytes = (t.bytes ++ gap t.last w) ++ w; last = Some w }

-- white space more
abbrev pub with_white : Text → List ℕ → Text
with_white t w = record { bytes = t.bytes ++ w; last = None }

abbrev pub spaces : ℕ → List ℕ
spaces zero = []
spaces (suc n) = 32 ∷ spaces n

-- a line feed, and spaces in front of the next line
abbrev pub new_line : ℕ → List ℕ
new_line n = 10 ∷ spaces n

-- a token can stand right behind the last one
abbrev pub Stays : Option (List ℕ) → List ℕ → Type 0
Stays None w = Unit {0}
Stays (Some l) w = needs_space l (slice_index w 0) ≡ false

-- What a text says that is written token by token: its tokens, each with whether it begins a line, and whether a token that came next would.
pub data Says : List Item → Bool → Text → Type 0 where
  nothing : Says [] true empty
  white : (w : List ℕ) → {ts : List Item} {first : Bool} {t : Text} → 0 < length w → run Space w ≡ length w → Says ts first t → Says ts (first || has_line_feed w) (with_white t w)
  token : (w : List ℕ) (kind : TokenKind) → {ts : List Item} {first : Bool} {t : Text} → IsToken w kind → Stays t.last w → Says ts first t → Says (ts ++ (w, kind, first) ∷ []) false (record { bytes = t.bytes ++ w; last = Some w })
