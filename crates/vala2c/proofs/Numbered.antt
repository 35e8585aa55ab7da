-- What stands at a number in a list of words or sources; behind the last it is empty.
use Rattle.std.proofs.Common.{◌≡◌, ℕ, ◌<◌, ◌≤◌, ◌∙◌, List, [], length, get_or, map, sym, ap, arith}
use Rattle.std.proofs.lemmas.List.{get_or-map, get_or_past, length-map}

pub numbered : {A : Type 0} (name : A → List ℕ) (xs : List A) (n : ℕ) (x : A) → n < length xs → x ≡ get_or xs n x → name x ≡ get_or (map name xs) n []
numbered name xs n x l e = ap name e ∙ sym (get_or-map name xs n x [] l)

pub none_numbered : {A : Type 0} (name : A → List ℕ) (xs : List A) (n : ℕ) → length xs ≤ n → [] ≡ get_or (map name xs) n []
none_numbered name xs n l = let e = length-map xs name in sym (get_or_past (map name xs) n [] (omega (arith, l, e)))
