-- The name of a program, and that it is one.
use Rattle.std.proofs.Common.{◌≡◌, ℕ, zero, suc, ◌≤◌, Bool, true, false, cond, ◌||◌, ◌==◌, List, [], ◌∷◌, map, take, length, refl, sym, ap, ◌∙◌, arith, IsTrue}
use Rattle.std.specs.List.{AllByRecursion}
use Rattle.std.proofs.lemmas.List.{take-map, length-take}
use Rattle.vg_base.specs.World.{is_letter, is_digit, is_word_byte, IsName}
use Rattle.command_line.specs.Names.{name_byte, with_letter, begins_with_letter, name_of, stem, file_part}

pub letter_stays : (b : ℕ) → is_letter b ≡ true → name_byte b ≡ b
letter_stays b h = ap (λ l. cond ((l || is_digit b) || (b == 95)) b 95) h

pub no_letter_made : (b : ℕ) → is_letter b ≡ false → is_letter (name_byte b) ≡ false
no_letter_made b h = go (is_word_byte b)
  where
    go : (w : Bool) → is_letter (cond w b 95) ≡ false
    go true = h
    go false = refl

-- a stem that begins with a letter is cut, and another one gets a `p` in front
pub with_own_letter : (s : List ℕ) → begins_with_letter s ≡ true → map name_byte (take 100 s) ≡ take 100 (with_letter (map name_byte s))
with_own_letter [] h = cc
with_own_letter (b ∷ bs) h =
    let e : is_letter (name_byte b) ≡ true = ap is_letter (letter_stays b h) ∙ h in
    let m = map name_byte (b ∷ bs) in
    sym (take-map name_byte 100 (b ∷ bs)) ∙ ap (λ l. take 100 (cond l m (112 ∷ m))) (sym e)

pub with_p : (s : List ℕ) → begins_with_letter s ≡ false → 112 ∷ map name_byte (take 99 s) ≡ take 100 (with_letter (map name_byte s))
with_p [] h = refl
with_p (b ∷ bs) h =
    let m = map name_byte (b ∷ bs) in
    ap (λ l. 112 ∷ l) (sym (take-map name_byte 99 (b ∷ bs))) ∙ ap (λ l. take 100 (cond l m (112 ∷ m))) (sym (no_letter_made b h))

abbrev IsWordByte : ℕ → Type 0
IsWordByte b = IsTrue (is_word_byte b)

name_byte_is : (b : ℕ) → IsWordByte (name_byte b)
name_byte_is b = go (is_word_byte b) refl
  where
    go : (w : Bool) → is_word_byte b ≡ w → IsWordByte (cond w b 95)
    go true e = e
    go false e = refl

all_named : (bs : List ℕ) → AllByRecursion IsWordByte (map name_byte bs)
all_named [] = tt
all_named (b ∷ bs) = (name_byte_is b, all_named bs)

all_taken : (n : ℕ) (bs : List ℕ) → AllByRecursion IsWordByte bs → AllByRecursion IsWordByte (take n bs)
all_taken zero bs h = tt
all_taken (suc n) [] h = tt
all_taken (suc n) (b ∷ bs) h = (h.0, all_taken n bs h.1)

short : (bs : List ℕ) → length (take 99 bs) ≤ 99
short bs = omega (arith, length-take 99 bs)

is_named : (ms : List ℕ) → AllByRecursion IsWordByte ms → IsName (take 100 (with_letter ms))
is_named [] h = (refl, tt, omega arith)
is_named (m ∷ ms) h = go (is_letter m) refl
  where
    go : (l : Bool) → is_letter m ≡ l → IsName (take 100 (cond l (m ∷ ms) (112 ∷ m ∷ ms)))
    go true e = (e, all_taken 99 ms h.1, short ms)
    go false e = (refl, all_taken 99 (m ∷ ms) h, short (m ∷ ms))

-- the name is in the grammar of names
pub name_is : (word : List ℕ) → IsName (name_of word)
name_is word = is_named (map name_byte (stem (file_part word))) (all_named (stem (file_part word)))
