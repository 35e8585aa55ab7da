-- The name that a program is called by.
use Rattle.std.specs.Prelude.{ℕ, ◌-◌, Bool, false, nat_eq, ◌==◌, if◌then◌else◌, List, [], ◌∷◌, ◌++◌, length, map, take, codes}
use Rattle.std.specs.List.{after_last, ends_with}
use Rattle.vg_base.specs.World.{is_letter, is_word_byte}

-- the file's part of a word: what stands behind the last `/`
abbrev pub file_part : List ℕ → List ℕ
file_part word = after_last (λ b. b == 47) word

-- without this ending, where it has it
abbrev pub without_ending : List ℕ → List ℕ → List ℕ
without_ending ending bytes = if ends_with nat_eq bytes ending then take (length bytes - length ending) bytes else bytes

-- without an ending `.vala`, or else without an ending `.c`
abbrev pub stem : List ℕ → List ℕ
stem bytes =
    if ends_with nat_eq bytes (codes ".vala")
    then without_ending (codes ".vala") bytes
    else without_ending (codes ".c") bytes

-- another byte than a letter, a digit or `_` becomes `_`
abbrev pub name_byte : ℕ → ℕ
name_byte b = if is_word_byte b then b else 95

-- a `p` goes in front of what begins with no letter
abbrev pub with_letter : List ℕ → List ℕ
with_letter [] = 112 ∷ []
with_letter (b ∷ bs) = if is_letter b then b ∷ bs else 112 ∷ b ∷ bs

-- whether the first byte is a letter
abbrev pub begins_with_letter : List ℕ → Bool
begins_with_letter [] = false
begins_with_letter (b ∷ bs) = is_letter b

-- the name of the program in a file
abbrev pub name_of : List ℕ → List ℕ
name_of word = take 100 (with_letter (map name_byte (stem (file_part word))))

-- the word of the first file, by which the program is called
abbrev pub first_word : List (List ℕ) → List ℕ
first_word [] = []
first_word (word ∷ words) = word

-- the C file of a program
abbrev pub c_file : List ℕ → List ℕ
c_file name = name ++ codes ".c"
