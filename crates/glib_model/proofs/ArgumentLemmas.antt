-- Arguments by their number.
use Rattle.std.proofs.Common.{◌≡◌, ◌∙◌, sym, ap, suc, ◌-◌, ◌<◌, ◌≤◌, take, drop, List, [], ◌∷◌, length, get_or, Some, arith}
use Rattle.std.proofs.lemmas.List.{take_all}
use Rattle.c_meaning.specs.declared.cell.Cell.{Cell}
use Rattle.glib_model.specs.Arguments.{one_of, two_of, three_of}

-- the arguments again
pub from_one : (xs : List Cell) (a : Cell) → one_of xs ≡ Some a → xs ≡ a ∷ []
from_one [] a is = cc
from_one (x ∷ []) a is = cc
from_one (x ∷ y ∷ xs) a is = cc

inner : {A : Type 0} (x y : A) → Some x ≡ Some y → x ≡ y
inner x y is = cc

pub from_two : (xs : List Cell) (a b : Cell) → two_of xs ≡ Some (a, b) → xs ≡ a ∷ b ∷ []
from_two [] a b is = cc
from_two (x ∷ []) a b is = cc
from_two (x ∷ y ∷ []) a b is = ap (λ (p : Cell × Cell). p.0 ∷ p.1 ∷ []) (inner (x, y) (a, b) is)
from_two (x ∷ y ∷ z ∷ xs) a b is = cc

pub from_three : (xs : List Cell) (a b c : Cell) → three_of xs ≡ Some (a, b, c) → xs ≡ a ∷ b ∷ c ∷ []
from_three [] a b c is = cc
from_three (x ∷ []) a b c is = cc
from_three (x ∷ y ∷ []) a b c is = cc
from_three (x ∷ y ∷ z ∷ []) a b c is = ap (λ (p : Cell × Cell × Cell). p.0 ∷ p.1 ∷ p.2 ∷ []) (inner (x, y, z) (a, b, c) is)
from_three (x ∷ y ∷ z ∷ w ∷ xs) a b c is = cc

-- the first argument, and those behind it
pub some_first : (xs : List Cell) (d : Cell) → 0 < length xs → xs ≡ get_or xs 0 d ∷ take (length xs - 1) (drop 1 xs)
some_first [] d some = absurd (omega arith)
some_first (x ∷ xs) d some =
    let all : suc (length xs) - 1 ≡ length xs = omega arith in
    ap (λ ys. x ∷ ys) (sym (take_all (length xs) xs (omega arith)) ∙ ap (λ n. take n xs) (sym all))

-- the first three arguments, and those behind them
pub some_three : (xs : List Cell) (d : Cell) → 3 ≤ length xs → xs ≡ get_or xs 0 d ∷ get_or xs 1 d ∷ get_or xs 2 d ∷ take (length xs - 3) (drop 3 xs)
some_three [] d some = absurd (omega arith)
some_three (x ∷ []) d some = absurd (omega arith)
some_three (x ∷ y ∷ []) d some = absurd (omega arith)
some_three (x ∷ y ∷ z ∷ xs) d some =
    let all : suc (suc (suc (length xs))) - 3 ≡ length xs = omega arith in
    ap (λ ys. x ∷ y ∷ z ∷ ys) (sym (take_all (length xs) xs (omega arith)) ∙ ap (λ n. take n xs) (sym all))
