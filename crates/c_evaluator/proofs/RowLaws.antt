-- Arguments, one after another.
use Rattle.std.proofs.Common.{◌≡◌, ◌∙◌, refl, sym, ap, ℕ, ◌+◌, ◌<◌, ◌≤◌, false, cond, is_ok, is_err, List, [], ◌∷◌, ◌++◌, length, get_or, drop, map, Result, Ok, Err, append-nil, append_assoc}
use Rattle.std.proofs.lemmas.List.{drop_all}
use Rattle.vg_base.specs.declared.event.UndefKind.{UndefKind}
use Rattle.c_meaning.specs.Blocks.{Answer, bind}
use Rattle.c_evaluator.proofs.TurnLaws.{map_last, rest_is}

-- what was pushed stands last
pub pushed : {A E T : Type 0} (r : Result A E) (now long short : List T) → is_err r ≡ false → now ≡ cond (is_ok r) long short → now ≡ long
pushed (Ok x) now long short ok is = is
pushed (Err e) now long short ok is = cc

-- a row in front of the one that is answered
abbrev pub behind : {B : Type 0} → List B → Answer (List B) → Answer (List B)
behind xs (Ok ys) = Ok (xs ++ ys)
behind xs (Err u) = Err u

first_behind : {B : Type 0} (a : Answer (List B)) → a ≡ behind [] a
first_behind (Ok ys) = refl
first_behind (Err u) = refl

pub behind_none : {B : Type 0} (xs : List B) (a : Answer (List B)) → xs ≡ [] → a ≡ behind xs a
behind_none xs a e = first_behind a ∙ ap (λ l. behind l a) (sym e)

behind_more : {B : Type 0} (xs : List B) (x : B) (a : Answer (List B)) → behind xs (bind a (λ ys. Ok (x ∷ ys))) ≡ behind (xs ++ x ∷ []) a
behind_more xs x (Ok ys) = ap (λ l. Ok l) (sym (append_assoc xs (x ∷ []) ys))
behind_more xs x (Err u) = refl

-- each of a row is answered, from the left
module _ {A B : Type 0} (one : A → Answer B) (all : List A → Answer (List B))
    (none : all [] ≡ Ok []) (more : (c : A) (cs : List A) → all (c ∷ cs) ≡ bind (one c) (λ x. bind (all cs) (λ xs. Ok (x ∷ xs)))) where
  next_is : (cs : List A) (i : ℕ) (c : A) (a : Answer B) → i < length cs → c ≡ get_or cs i c → one c ≡ a → all (drop i cs) ≡ bind a (λ x. bind (all (drop (i + 1) cs)) (λ xs. Ok (x ∷ xs)))
  next_is cs i c a lt is e =
      ap all (rest_is cs i c lt is) ∙ more c (drop (i + 1) cs) ∙ ap (λ z. bind z (λ x. bind (all (drop (i + 1) cs)) (λ xs. Ok (x ∷ xs)))) e

  pub one_fails : (cs : List A) (xs : List B) (i : ℕ) (c : A) (u : UndefKind) → i < length cs → c ≡ get_or cs i c → one c ≡ Err u
      → all cs ≡ behind xs (all (drop i cs)) → all cs ≡ Err u
  one_fails cs xs i c u lt is e so_far = so_far ∙ ap (behind xs) (next_is cs i c (Err u) lt is e)

  pub one_more : {C : Type 0} (f : C → B) (cs : List A) (kept now : List C) (i : ℕ) (c : A) (x : C) → i < length cs → c ≡ get_or cs i c → one c ≡ Ok (f x)
      → now ≡ kept ++ x ∷ [] → all cs ≡ behind (map f kept) (all (drop i cs)) → all cs ≡ behind (map f now) (all (drop (i + 1) cs))
  one_more f cs kept now i c x lt is e last so_far =
      so_far ∙ ap (behind (map f kept)) (next_is cs i c (Ok (f x)) lt is e)
      ∙ behind_more (map f kept) (f x) (all (drop (i + 1) cs))
      ∙ ap (λ l. behind l (all (drop (i + 1) cs))) (sym (ap (map f) last ∙ map_last f kept x))

  pub one_more_plain : (cs : List A) (kept now : List B) (i : ℕ) (c : A) (x : B) → i < length cs → c ≡ get_or cs i c → one c ≡ Ok x
      → now ≡ kept ++ x ∷ [] → all cs ≡ behind kept (all (drop i cs)) → all cs ≡ behind now (all (drop (i + 1) cs))
  one_more_plain cs kept now i c x lt is e last so_far =
      so_far ∙ ap (behind kept) (next_is cs i c (Ok x) lt is e) ∙ behind_more kept x (all (drop (i + 1) cs))
      ∙ ap (λ l. behind l (all (drop (i + 1) cs))) (sym last)

  pub all_answered : (cs : List A) (xs : List B) (i : ℕ) → length cs ≤ i → all cs ≡ behind xs (all (drop i cs)) → all cs ≡ Ok xs
  all_answered cs xs i past so_far =
      so_far ∙ ap (λ l. behind xs (all l)) (drop_all i cs past) ∙ ap (behind xs) none ∙ ap (λ l. Ok l) (append-nil xs)
