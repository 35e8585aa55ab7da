-- What a run meets from outside, and which ends are mates.
use Rattle.std.specs.Prelude.{◌≡◌, ℕ, ◌≤◌, ◌<◌, ◌^◌, Bool, ◌&&◌, ◌||◌, nat_le, ◌==◌, List, [], ◌∷◌, length, IsTrue}
use Rattle.std.specs.List.{AllByRecursion}
use Rattle.vg_base.specs.declared.event.Entry.{Entry}
use Rattle.vg_base.specs.declared.event.Entry.TheVariants.{Pick, Wait}
use Rattle.vg_base.specs.declared.event.VEnd.{VEnd}
use Rattle.vg_base.specs.declared.event.VEnd.TheVariants as v
use Rattle.vg_base.specs.declared.event.CEnd.{CEnd}
use Rattle.vg_base.specs.declared.event.CEnd.TheVariants as c
use Rattle.vg_base.specs.declared.event.UndefKind.TheVariants.{Freed}

-- the name that a program is called by, the bytes of its input, and the lines of its script
pub record World : Type 0 where
  pub name : List ℕ
  pub input : List ℕ
  pub entries : List Entry

-- `A` to `Z` and `a` to `z`
abbrev pub is_letter : ℕ → Bool
is_letter b = (nat_le 65 b && nat_le b 90) || (nat_le 97 b && nat_le b 122)

-- `0` to `9`
abbrev pub is_digit : ℕ → Bool
is_digit b = nat_le 48 b && nat_le b 57

-- a byte of a word: a letter, a digit or `_`
abbrev pub is_word_byte : ℕ → Bool
is_word_byte b = is_letter b || is_digit b || b == 95

-- a letter, and then at most 99 letters, digits and `_`
abbrev pub IsName : List ℕ → Type 0
IsName [] = ⊥
IsName (b ∷ bs) = IsTrue (is_letter b) × AllByRecursion (λ x. IsTrue (is_word_byte x)) bs × (length bs ≤ 99)

abbrev pub IsEntry : Entry → Type 0
IsEntry (Pick n) = n < 2 ^ 32
IsEntry (Wait n) = n < 2 ^ 32

pub record IsWorld (w : World) : Type 0 where
  pub name : IsName w.name
  pub input : AllByRecursion (λ b. b < 256) w.input
  pub entries : AllByRecursion IsEntry w.entries
  pub few : length w.entries ≤ 100000

-- An end of the Vala run and one of the C run that mean the same. No other pair does.
abbrev pub Mates : VEnd → CEnd → Type 0
Mates (v.Ended n) (c.Ended m) = n ≡ m
Mates (v.Trapped k) (c.Aborted l) = k ≡ l
Mates v.Waiting c.Waiting = Unit {0}
Mates v.Dead (c.Undefined Freed) = Unit {0}
Mates x y = ⊥
