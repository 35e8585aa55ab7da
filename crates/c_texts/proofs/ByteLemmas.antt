-- Comparing and searching bytes, from a place on.
use Rattle.std.proofs.Common.{◌≡◌, ◌∙◌, refl, sym, ap, ℕ, suc, ◌+◌, ◌<◌, ◌≤◌, Bool, false, ◌&&◌, List, [], ◌∷◌, length, drop, Option, Some, None, arith, pos, negsuc, nat_eq, option_map}
use Rattle.std.specs.List.{starts_with}
use Rattle.std.proofs.lemmas.List.{drop_more, drop_all}
use Rattle.c_meaning.specs.Texts.{compared, is_front, place_in, here_or}

-- 1. Comparing

-- where no byte differs the longer one is greater
pub compared_short : (a b : List ℕ) (i : ℕ) → length a ≤ i → i < length b → compared a b ≡ compared (drop i a) (drop i b) → compared a b ≡ negsuc 0
compared_short a b i la lb so_far = so_far ∙ ap (λ xs. compared xs (drop i b)) (drop_all i a la) ∙ ap (compared []) (drop_more b i 0 lb)

pub compared_long : (a b : List ℕ) (i : ℕ) → i < length a → length b ≤ i → compared a b ≡ compared (drop i a) (drop i b) → compared a b ≡ pos 1
compared_long a b i la lb so_far = so_far ∙ ap (λ ys. compared (drop i a) ys) (drop_all i b lb) ∙ ap (λ xs. compared xs []) (drop_more a i 0 la)

-- 2. Fronts

pub front_is : (part bytes : List ℕ) → starts_with nat_eq bytes part ≡ is_front part bytes
front_is [] bytes = refl
front_is (b ∷ part) [] = refl
front_is (b ∷ part) (c ∷ bytes) = ap (λ t. nat_eq b c && t) (front_is part bytes)

-- 3. Places

later : (at : ℕ) (o : Option ℕ) → option_map (λ k. at + k) (option_map suc o) ≡ option_map (λ k. (at + 1) + k) o
later at None = refl
later at (Some k) = ap (λ n. Some n) (let same : at + suc k ≡ (at + 1) + k = omega arith in same)

place_at : (part bytes : List ℕ) (at : ℕ) (b : Bool) → at < length bytes → is_front part (drop at bytes) ≡ b → place_in part (drop at bytes) ≡ here_or b (place_in part (drop (at + 1) bytes))
place_at part bytes at b lt is =
    ap (place_in part) (drop_more bytes at 0 lt)
    ∙ ap (λ t. here_or t (place_in part (drop (at + 1) bytes))) (ap (is_front part) (sym (drop_more bytes at 0 lt)) ∙ is)

-- it stands further on, or nowhere
pub place_more : (part bytes : List ℕ) (at : ℕ) → at < length bytes → is_front part (drop at bytes) ≡ false → place_in part bytes ≡ option_map (λ k. at + k) (place_in part (drop at bytes))
    → place_in part bytes ≡ option_map (λ k. (at + 1) + k) (place_in part (drop (at + 1) bytes))
place_more part bytes at lt is so_far =
    so_far ∙ ap (option_map (λ k. at + k)) (place_at part bytes at false lt is) ∙ later at (place_in part (drop (at + 1) bytes))

at_end : (part bytes : List ℕ) (at : ℕ) → length bytes ≤ at → place_in part bytes ≡ option_map (λ k. at + k) (place_in part (drop at bytes))
    → place_in part bytes ≡ option_map (λ k. at + k) (here_or (is_front part []) None)
at_end part bytes at le so_far = so_far ∙ ap (λ xs. option_map (λ k. at + k) (place_in part xs)) (drop_all at bytes le)

-- it stands nowhere
pub place_none : (part bytes : List ℕ) (at : ℕ) → length bytes ≤ at → 1 ≤ length part → place_in part bytes ≡ option_map (λ k. at + k) (place_in part (drop at bytes))
    → place_in part bytes ≡ None
place_none [] bytes at le some so_far = absurd (omega arith)
place_none (b ∷ part) bytes at le some so_far = at_end (b ∷ part) bytes at le so_far
