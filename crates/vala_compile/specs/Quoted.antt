-- What a text literal denotes, read byte by byte: the function on lists that the reader computes. What it denotes says `Quotes`.
use Rattle.std.specs.Prelude.{ℕ, ◌==◌, if◌then◌else◌, List, [], ◌∷◌, ◌++◌, Option, Some, None, option_and_then}
use Rattle.std.specs.Option.{option_map}
use Rattle.vg_base.specs.Small.{is_plain, escape_of}
use Rattle.vala_compile.specs.declared.quoted.Place.{Place}
use Rattle.vala_compile.specs.declared.quoted.Place.TheVariants as place

-- the byte that is denoted, if one is, and where the next byte stands; None where the byte may not stand there
abbrev pub Read : Type 0
Read = Option (Option ℕ × Place)

abbrev pub in_text : ℕ → Read
in_text b = if is_plain b then Some (Some b, place.Inside) else if b == 92 then Some (None, place.Escape) else if b == 34 then Some (None, place.Behind) else None

abbrev pub read_byte : Place → ℕ → Read
read_byte place.Front b = if b == 34 then Some (None, place.Inside) else None
read_byte place.Inside b = in_text b
read_byte place.Escape b = option_map (λ c. (Some c, place.Inside)) (escape_of b)
read_byte place.Behind b = None

abbrev pub with_byte : List ℕ → Option ℕ → List ℕ
with_byte text None = text
with_byte text (Some b) = text ++ b ∷ []

abbrev pub ended : Place → List ℕ → Option (List ℕ)
ended place.Behind text = Some text
ended _ text = None

-- the bytes that are denoted, by where the next byte stands and by those so far
abbrev pub quoted_from : Place → List ℕ → List ℕ → Option (List ℕ)
quoted_from p text [] = ended p text
quoted_from p text (b ∷ bytes) = option_and_then (λ r. quoted_from r.1 (with_byte text r.0) bytes) (read_byte p b)

abbrev pub quoted : List ℕ → Option (List ℕ)
quoted literal = quoted_from place.Front [] literal
