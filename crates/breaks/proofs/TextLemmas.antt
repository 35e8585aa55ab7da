-- Files break one list of rules, as each file has one answer.
use Rattle.std.proofs.Common.{◌≡◌, ℕ, zero, suc, ◌+◌, ◌<◌, ◌≤◌, Bool, List, [], ◌∷◌, ◌++◌, length, Result, Ok, Err, refl, sym, ap, subst, ◌∙◌, arith}
use Rattle.std.proofs.lemmas.List.{length-append}
use Rattle.static_rules.specs.declared.rules.Refusal.{Refusal}
use Rattle.vala_tree.specs.declared.member.FileTree.{FileTree}
use Rattle.vala_file_grammar.specs.FileAnswer.{Answers}
use Rattle.vala_file_grammar.proofs.FileAnswers.{has_one_answer}
use Rattle.breaks.specs.Text.{AreFiles, no_file, a_file, most_files, behind_most, Refuses, faulty, over}
use Rattle.breaks.specs.Phases.{broken_by}
use Rattle.breaks.specs.Breaks.{Breaks, text, rules}

-- a place in a list, with what stands in front of it
same_place : (files front other : List (List ℕ)) (a b : List ℕ) (behind further : List (List ℕ)) → files ≡ front ++ a ∷ behind → files ≡ other ++ b ∷ further → length front ≡ length other
    → (front ≡ other) × (a ≡ b)
same_place files [] [] a b behind further e f n = (refl, cc)
same_place files [] (y ∷ other) a b behind further e f n = absurd (omega arith)
same_place files (x ∷ front) [] a b behind further e f n = absurd (omega arith)
same_place files (x ∷ front) (y ∷ other) a b behind further e f n =
    let heads : x ≡ y = cc in
    let tails : front ++ a ∷ behind ≡ other ++ b ∷ further = cc in
    let rest = same_place (front ++ a ∷ behind) front other a b behind further refl tails (omega arith) in
    (cc (heads, rest.0), rest.1)

-- the first of some files has a tree
first_read : (number : ℕ) (f : List ℕ) (files : List (List ℕ)) (trees : List FileTree) → AreFiles number (f ∷ files) trees → (tree : FileTree) × Answers f number (Ok tree)
first_read number f files _ (a_file _ _ _ tree trees x h) = (tree, x)

-- so have the others
rest_read : (number : ℕ) (f : List ℕ) (files : List (List ℕ)) (trees : List FileTree) → AreFiles number (f ∷ files) trees → (others : List FileTree) × AreFiles (suc number) files others
rest_read number f files _ (a_file _ _ _ tree trees x h) = (trees, h)

-- a file in front of another
in_front : (number : ℕ) (front other : List (List ℕ)) (a b : List ℕ) (behind further : List (List ℕ)) (trees : List FileTree) → front ++ a ∷ behind ≡ other ++ b ∷ further → length front < length other
    → AreFiles number other trees → (tree : FileTree) × Answers a (number + length front) (Ok tree)
in_front number [] [] a b behind further trees e l h = absurd (omega arith)
in_front number (x ∷ front) [] a b behind further trees e l h = absurd (omega arith)
in_front number [] (y ∷ other) a b behind further trees e l h =
    let heads : y ≡ a = cc in
    subst (λ (c : List ℕ). (tree : FileTree) × Answers c (number + 0) (Ok tree)) heads (subst (λ (n : ℕ). (tree : FileTree) × Answers y n (Ok tree)) (omega arith) (first_read number y other trees h))
in_front number (x ∷ front) (y ∷ other) a b behind further trees e l h =
    let tails : front ++ a ∷ behind ≡ other ++ b ∷ further = cc in
    let rest = rest_read number y other trees h in
    let found = in_front (suc number) front other a b behind further rest.0 tails (omega arith) rest.1 in
    subst (λ (n : ℕ). (tree : FileTree) × Answers a n (Ok tree)) (omega arith) found

-- a file among others
among : (number : ℕ) (files front : List (List ℕ)) (a : List ℕ) (behind : List (List ℕ)) (trees : List FileTree) → files ≡ front ++ a ∷ behind → AreFiles number files trees
    → (tree : FileTree) × Answers a (number + length front) (Ok tree)
among number [] [] a behind trees e h = absurd cc
among number [] (x ∷ front) a behind trees e h = absurd cc
among number (f ∷ files) [] a behind trees e h =
    let heads : f ≡ a = cc in
    subst (λ (c : List ℕ). (tree : FileTree) × Answers c (number + 0) (Ok tree)) heads (subst (λ (n : ℕ). (tree : FileTree) × Answers f n (Ok tree)) (omega arith) (first_read number f files trees h))
among number (f ∷ files) (x ∷ front) a behind trees e h =
    let tails : files ≡ front ++ a ∷ behind = cc in
    let rest = rest_read number f files trees h in
    let found = among (suc number) files front a behind rest.0 tails rest.1 in
    subst (λ (n : ℕ). (tree : FileTree) × Answers a n (Ok tree)) (omega arith) found

longer : (files front : List (List ℕ)) (a : List ℕ) (behind : List (List ℕ)) → files ≡ front ++ a ∷ behind → length front < length files
longer files front a behind e =
    let total : length (front ++ a ∷ behind) ≡ length front + length (a ∷ behind) = length-append front (a ∷ behind) in
    let less : length front < length (front ++ a ∷ behind) = omega arith in
    subst (λ (fs : List (List ℕ)). length front < length fs) (sym e) less

compare : {R : Type 0} (i j : ℕ) → (i < j → R) → (j < i → R) → (i ≡ j → R) → R
compare zero zero less more same = same refl
compare zero (suc j) less more same = less (omega arith)
compare (suc i) zero less more same = more (omega arith)
compare (suc i) (suc j) less more same = compare i j (λ h. less (omega arith)) (λ h. more (omega arith)) (λ h. same (omega arith))

err_same : (r q : Refusal) (x y : Result FileTree Refusal) → x ≡ Err r → y ≡ Err q → x ≡ y → r ≡ q
err_same r q x y e f same = cc

ok_same : (r q : FileTree) (x y : Result FileTree Refusal) → x ≡ Ok r → y ≡ Ok q → x ≡ y → r ≡ q
ok_same r q x y e f same = cc

no_fault : (bytes : List ℕ) (number : ℕ) (tree : FileTree) (r : Refusal) → Answers bytes number (Ok tree) → Answers bytes number (Err r) → ⊥
no_fault bytes number tree r x y = let same : Ok tree ≡ Err r = has_one_answer bytes number (Ok tree) (Err r) x y in cc

one_fault : (bytes : List ℕ) (number : ℕ) (r q : Refusal) → Answers bytes number (Err r) → Answers bytes number (Err q) → r ≡ q
one_fault bytes number r q x y = err_same r q (Err r) (Err q) refl refl (has_one_answer bytes number (Err r) (Err q) x y)

one_tree : (bytes : List ℕ) (number : ℕ) (t u : FileTree) → Answers bytes number (Ok t) → Answers bytes number (Ok u) → t ≡ u
one_tree bytes number t u x y = ok_same t u (Ok t) (Ok u) refl refl (has_one_answer bytes number (Ok t) (Ok u) x y)

-- a file with a fault does not stand among files of the grammar
not_in_front : (front other : List (List ℕ)) (a b : List ℕ) (behind further : List (List ℕ)) (trees : List FileTree) (r : Refusal) → front ++ a ∷ behind ≡ other ++ b ∷ further → length front < length other
    → AreFiles 0 other trees → Answers a (length front) (Err r) → ⊥
not_in_front front other a b behind further trees r e l h y =
    let x = in_front 0 front other a b behind further trees e l h in
    no_fault a (length front) x.0 r (subst (λ (n : ℕ). Answers a n (Ok x.0)) (omega arith) x.1) y

-- ONE REFUSAL of a text
pub refusals_same : (files : List (List ℕ)) (r q : Refusal) → Refuses files r → Refuses files q → r ≡ q
refusals_same files r q (faulty front ts a behind _ e h l x) (faulty other us b further _ f k m y) =
    compare (length front) (length other) (λ less. absurd (not_in_front front other a b behind further us r (sym e ∙ f) less k x))
    (λ more. absurd (not_in_front other front b a further behind ts q (sym f ∙ e) more h y))
    (λ same. let here : Answers b (length other) (Err r) =
    subst (λ (c : List ℕ). Answers c (length other) (Err r)) (same_place files front other a b behind further e f same).1 (subst (λ (n : ℕ). Answers a n (Err r)) same x) in
    one_fault b (length other) r q here y)
refusals_same files r _ (faulty front ts a behind _ e h l x) (over other us b further f k m) =
    let less : length front < length other = omega (arith, l, m) in absurd (not_in_front front other a b behind further us r (sym e ∙ f) less k x)
refusals_same files _ q (over front ts a behind e h l) (faulty other us b further _ f k m y) =
    let less : length other < length front = omega (arith, l, m) in absurd (not_in_front other front b a further behind ts q (sym f ∙ e) less h y)
refusals_same files _ _ (over front ts a behind e h l) (over other us b further f k m) = ap behind_most (same_place files front other a b behind further e f (l ∙ sym m)).1

-- files of the grammar, 64 at most, are not refused
pub not_refused : (files : List (List ℕ)) (trees : List FileTree) (r : Refusal) → AreFiles 0 files trees → length files ≤ most_files → Refuses files r → ⊥
not_refused files trees r h few (faulty front ts a behind _ e k l x) = let found = among 0 files front a behind trees e h in no_fault a (length front) found.0 r (subst (λ (n : ℕ). Answers a n (Ok found.0)) (omega arith) found.1) x
not_refused files trees _ h few (over front ts a behind e k l) = let long : length front < length files = longer files front a behind e in absurd (omega (arith, long, few, l))

-- files have one list of trees
pub trees_same : (number : ℕ) (files : List (List ℕ)) (ts us : List FileTree) → AreFiles number files ts → AreFiles number files us → ts ≡ us
trees_same number [] _ _ (no_file _) (no_file _) = refl
trees_same number (f ∷ files) _ _ (a_file _ _ _ t ts x h) (a_file _ _ _ u us y k) =
    ap (λ (z : FileTree). z ∷ ts) (one_tree f number t u x y) ∙ ap (λ (zs : List FileTree). u ∷ zs) (trees_same (suc number) files ts us h k)

-- ONE LIST OF RULES
pub breaks_same : (files : List (List ℕ)) (strict : Bool) (rs qs : List Refusal) → Breaks files strict rs → Breaks files strict qs → rs ≡ qs
breaks_same files strict _ _ (text r h) (text q k) = ap (λ (x : Refusal). x ∷ []) (refusals_same files r q h k)
breaks_same files strict _ _ (text r h) (rules ts k few) = absurd (not_refused files ts r k few h)
breaks_same files strict _ _ (rules ts h few) (text q k) = absurd (not_refused files ts q h few k)
breaks_same files strict _ _ (rules ts h few) (rules us k few') = ap (λ (zs : List FileTree). broken_by zs strict) (trees_same 0 files ts us h k)
