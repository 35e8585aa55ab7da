-- Things that begin with tokens of a word, each with a token of its own, in the order of the word.
use Rattle.std.proofs.Common.{◌≡◌, ℕ, suc, ◌≤◌, List, [], ◌∷◌, ◌++◌, arith}
use Rattle.c_tree.specs.declared.code.Local.{Local}
use Rattle.c_tree.specs.Words.{Token, Word}
use Rattle.c_meaning.specs.State.{Literal}
use Rattle.c_places.specs.Apart.{Rise, NamesRise}

-- 1. Tokens that are picked

pub data Picks {A : Type 0} (place : A → ℕ) : List A → Word → Type 0 where
  none : Picks place [] []
  take : (a : A) (t : Token) → {xs : List A} {w : Word} → place a ≡ t.start → Picks place xs w → Picks place (a ∷ xs) (t ∷ w)
  pass : (t : Token) → {xs : List A} {w : Word} → Picks place xs w → Picks place xs (t ∷ w)

pub append : {A : Type 0} {place : A → ℕ} {xs ys : List A} {u w : Word} → Picks place xs u → Picks place ys w → Picks place (xs ++ ys) (u ++ w)
append none s = s
append (take a t e r) s = take a t e (append r s)
append (pass t r) s = pass t (append r s)

-- no token
pub nothing : {A : Type 0} {place : A → ℕ} (w : Word) → Picks place [] w
nothing [] = none
nothing (t ∷ w) = pass t (nothing w)

-- and none of those behind
pub behind : {A : Type 0} {place : A → ℕ} {xs : List A} {u : Word} → Picks place xs u → (w : Word) → Picks place xs (u ++ w)
behind none w = nothing w
behind (take a t e r) w = take a t e (behind r w)
behind (pass t r) w = pass t (behind r w)

pub and_none : {A : Type 0} {place : A → ℕ} {xs : List A} {w : Word} → Picks place xs w → Picks place (xs ++ []) w
and_none none = none
and_none (take a t e r) = take a t e (and_none r)
and_none (pass t r) = pass t (and_none r)

-- 2. Tokens in order

-- from a place on, tokens begin one behind another
abbrev pub Rising : ℕ → Word → Type 0
Rising from [] = Unit {0}
Rising from (t ∷ w) = (from ≤ t.start) × Rising (suc t.start) w

pub rising_from : (at from : ℕ) (w : Word) → from ≤ at → Rising at w → Rising from w
rising_from at from [] h g = tt
rising_from at from (t ∷ w) h g = (omega (arith, h, g.0), g.1)

pub rising_front : (from : ℕ) (u w : Word) → Rising from (u ++ w) → Rising from u
rising_front from [] w g = tt
rising_front from (t ∷ u) w g = (g.0, rising_front (suc t.start) u w g.1)

pub rising_back : (u w : Word) (from : ℕ) → Rising from (u ++ w) → Rising 0 w
rising_back [] w from g = rising_from from 0 w (omega arith) g
rising_back (t ∷ u) w from g = rising_back u w (suc t.start) g.1

-- 3. So what they pick is in order

-- where a literal stands
abbrev pub literal_place : Literal → ℕ
literal_place l = l.start

-- where the name of a local stands
abbrev pub local_place : Local → ℕ
local_place l = l.name.span.start

pub literals_rise : {ls : List Literal} {w : Word} (from : ℕ) → Picks literal_place ls w → Rising from w → Rise from ls
literals_rise from none g = tt
literals_rise from (take l t {w} e r) g = (omega (arith, e, g.0), literals_rise (suc l.start) r (rising_from (suc t.start) (suc l.start) w (omega (arith, e)) g.1))
literals_rise from (pass t {w} r) g = literals_rise from r (rising_from (suc t.start) from w (omega (arith, g.0)) g.1)

pub names_rise : {ls : List Local} {w : Word} (from : ℕ) → Picks local_place ls w → Rising from w → NamesRise from ls
names_rise from none g = tt
names_rise from (take l t {w} e r) g =
    (omega (arith, e, g.0), names_rise (suc l.name.span.start) r (rising_from (suc t.start) (suc l.name.span.start) w (omega (arith, e)) g.1))
names_rise from (pass t {w} r) g = names_rise from r (rising_from (suc t.start) from w (omega (arith, g.0)) g.1)
