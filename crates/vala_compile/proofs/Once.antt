-- Files are one program at most, and break one list of rules.
use Rattle.std.proofs.Common.{◌≡◌, ℕ, zero, suc, ◌+◌, ◌<◌, ◌≤◌, Bool, List, [], ◌∷◌, ◌++◌, length, Result, Ok, Err, refl, sym, ap, subst, ◌∙◌, arith}
use Rattle.std.proofs.lemmas.List.{length-append}
use Rattle.vg_base.specs.declared.event.Span.{Span}
use Rattle.static_rules.specs.declared.rules.Refusal.{Refusal}
use Rattle.vala_tree.specs.declared.member.FileTree.{FileTree}
use Rattle.vala_lexer.specs.Tokens.{Lexeme}
use Rattle.vala_file_grammar.specs.FileAnswer.{Answers, HasOneAnswer}
use Rattle.c_emit.specs.Program.{Program}
use Rattle.vala_compile.specs.Carried.{IsProgram, Leaves}
use Rattle.vala_compile.specs.Program.{AreFiles, AreRead, most_files, Refuses, faulty, over, behind_most, Joined, Reads, Breaks, none, refused, outside, left_out}
use Rattle.vala_compile.specs.Steps.{outcome}
use Rattle.vala_compile.specs.Correct.{IsCompiled}
use Rattle.vala_compile.proofs.Programs.{outcome_program, outcome_leaves}
use Rattle.vala_compile.proofs.Files.{joined_one}

ok_is : (p q : Program) (r : Result Program Span) → r ≡ Ok p → r ≡ Ok q → p ≡ q
ok_is p q r e f = cc

err_is : (x y : Span) (r : Result Program Span) → r ≡ Err x → r ≡ Err y → x ≡ y
err_is x y r e f = cc

ok_or_err : (p : Program) (x : Span) (r : Result Program Span) → r ≡ Ok p → r ≡ Err x → ⊥
ok_or_err p x r e f = cc

reads_outcome : (files : List (List ℕ)) (p : Program) (ts : List Lexeme) → Reads files p → Joined 0 files ts → outcome ts ≡ Ok p
reads_outcome files p ts r j = outcome_program ts p (subst (λ (ts : List Lexeme). IsProgram ts p) (joined_one 0 files r.tokens ts r.joined j) r.is_program)

pub one_program : (files : List (List ℕ)) (p q : Program) → Reads files p → Reads files q → p ≡ q
one_program files p q r s = ok_is p q (outcome r.tokens) (reads_outcome files p r.tokens r r.joined) (reads_outcome files q r.tokens s r.joined)

-- ---- the first refusal, where a file has one answer

-- a place in a list, with what stands in front of it
same_place : (files front other : List (List ℕ)) (a b : List ℕ) (behind further : List (List ℕ)) → files ≡ front ++ a ∷ behind → files ≡ other ++ b ∷ further → length front ≡ length other
    → (front ≡ other) × (a ≡ b)
same_place files [] [] a b behind further e f n = (refl, cc)
same_place files [] (y ∷ other) a b behind further e f n = absurd (omega arith)
same_place files (x ∷ front) [] a b behind further e f n = absurd (omega arith)
same_place files (x ∷ front) (y ∷ other) a b behind further e f n =
    let heads : x ≡ y = cc in
    let tails : front ++ a ∷ behind ≡ other ++ b ∷ further = cc in
    let rest = same_place (front ++ a ∷ behind) front other a b behind further refl tails (omega arith) in
    (cc (heads, rest.0), rest.1)

-- a file in front of another
in_front : (number : ℕ) (front other : List (List ℕ)) (a b : List ℕ) (behind further : List (List ℕ)) → front ++ a ∷ behind ≡ other ++ b ∷ further → length front < length other → AreFiles number other
    → (tree : FileTree) × Answers a (number + length front) (Ok tree)
in_front number [] [] a b behind further e l h = absurd (omega arith)
in_front number (x ∷ front) [] a b behind further e l h = absurd (omega arith)
in_front number [] (y ∷ other) a b behind further e l h =
    let heads : y ≡ a = cc in
    subst (λ (c : List ℕ). (tree : FileTree) × Answers c (number + 0) (Ok tree)) heads (subst (λ (n : ℕ). (tree : FileTree) × Answers y n (Ok tree)) (omega arith) h.0)
in_front number (x ∷ front) (y ∷ other) a b behind further e l h =
    let tails : front ++ a ∷ behind ≡ other ++ b ∷ further = cc in
    let found = in_front (suc number) front other a b behind further tails (omega arith) h.1 in
    subst (λ (n : ℕ). (tree : FileTree) × Answers a n (Ok tree)) (omega arith) found

-- a file among others
among : (number : ℕ) (files front : List (List ℕ)) (a : List ℕ) (behind : List (List ℕ)) → files ≡ front ++ a ∷ behind → AreFiles number files → (tree : FileTree) × Answers a (number + length front) (Ok tree)
among number [] [] a behind e h = absurd cc
among number [] (x ∷ front) a behind e h = absurd cc
among number (f ∷ files) [] a behind e h =
    let heads : f ≡ a = cc in
    subst (λ (c : List ℕ). (tree : FileTree) × Answers c (number + 0) (Ok tree)) heads (subst (λ (n : ℕ). (tree : FileTree) × Answers f n (Ok tree)) (omega arith) h.0)
among number (f ∷ files) (x ∷ front) a behind e h =
    let tails : files ≡ front ++ a ∷ behind = cc in
    let found = among (suc number) files front a behind tails h.1 in
    subst (λ (n : ℕ). (tree : FileTree) × Answers a n (Ok tree)) (omega arith) found

longer : (files front : List (List ℕ)) (a : List ℕ) (behind : List (List ℕ)) → files ≡ front ++ a ∷ behind → length front < length files
longer files front a behind e =
    let total : length (front ++ a ∷ behind) ≡ length front + length (a ∷ behind) = length-append front (a ∷ behind) in
    let less : length front < length (front ++ a ∷ behind) = omega arith in
    subst (λ (fs : List (List ℕ)). length front < length fs) (sym e) less

compare : {R : Type 0} (i j : ℕ) → (i < j → R) → (j < i → R) → (i ≡ j → R) → R
compare zero zero less more same = same refl
compare zero (suc j) less more same = less (omega arith)
compare (suc i) zero less more same = more (omega arith)
compare (suc i) (suc j) less more same = compare i j (λ h. less (omega arith)) (λ h. more (omega arith)) (λ h. same (omega arith))

err_same : (r q : Refusal) (x y : Result FileTree Refusal) → x ≡ Err r → y ≡ Err q → x ≡ y → r ≡ q
err_same r q x y e f same = cc

module _ (one_answer : HasOneAnswer) where
  no_fault : (bytes : List ℕ) (number : ℕ) (tree : FileTree) (r : Refusal) → Answers bytes number (Ok tree) → Answers bytes number (Err r) → ⊥
  no_fault bytes number tree r x y = let same : Ok tree ≡ Err r = one_answer bytes number (Ok tree) (Err r) x y in cc

  one_fault : (bytes : List ℕ) (number : ℕ) (r q : Refusal) → Answers bytes number (Err r) → Answers bytes number (Err q) → r ≡ q
  one_fault bytes number r q x y = err_same r q (Err r) (Err q) refl refl (one_answer bytes number (Err r) (Err q) x y)

  -- a file with a fault does not stand among files of the grammar
  not_in_front : (front other : List (List ℕ)) (a b : List ℕ) (behind further : List (List ℕ)) (r : Refusal) → front ++ a ∷ behind ≡ other ++ b ∷ further → length front < length other → AreFiles 0 other
      → Answers a (length front) (Err r) → ⊥
  not_in_front front other a b behind further r e l h y =
      let x = in_front 0 front other a b behind further e l h in
      no_fault a (length front) x.0 r (subst (λ (n : ℕ). Answers a n (Ok x.0)) (omega arith) x.1) y

  pub refusals_same : (files : List (List ℕ)) (r q : Refusal) → Refuses files r → Refuses files q → r ≡ q
  refusals_same files r q (faulty front a behind _ e h l x) (faulty other b further _ f k m y) =
      compare (length front) (length other) (λ less. absurd (not_in_front front other a b behind further r (sym e ∙ f) less k x))
      (λ more. absurd (not_in_front other front b a further behind q (sym f ∙ e) more h y))
      (λ same. let here : Answers b (length other) (Err r) =
      subst (λ (c : List ℕ). Answers c (length other) (Err r)) (same_place files front other a b behind further e f same).1 (subst (λ (n : ℕ). Answers a n (Err r)) same x) in
      one_fault b (length other) r q here y)
  refusals_same files r _ (faulty front a behind _ e h l x) (over other b further f k m) =
      let less : length front < length other = omega (arith, l, m) in absurd (not_in_front front other a b behind further r (sym e ∙ f) less k x)
  refusals_same files _ q (over front a behind e h l) (faulty other b further _ f k m y) =
      let less : length other < length front = omega (arith, l, m) in absurd (not_in_front other front b a further behind q (sym f ∙ e) less h y)
  refusals_same files _ _ (over front a behind e h l) (over other b further f k m) = ap behind_most (same_place files front other a b behind further e f (l ∙ sym m)).1

  -- files of the grammar, 64 at most, are not refused
  pub not_refused : (files : List (List ℕ)) (r : Refusal) → AreRead files → Refuses files r → ⊥
  not_refused files r h (faulty front a behind _ e k l x) = let found = among 0 files front a behind e h.0 in no_fault a (length front) found.0 r (subst (λ (n : ℕ). Answers a n (Ok found.0)) (omega arith) found.1) x
  not_refused files _ h (over front a behind e k l) = let long : length front < length files = longer files front a behind e in let short : length files ≤ most_files = h.1 in absurd (omega (arith, long, short, l))

  not_left : (files : List (List ℕ)) (p : Program) (ts : List Lexeme) (x : Span) → Reads files p → Joined 0 files ts → Leaves ts x → ⊥
  not_left files p ts x r j l = ok_or_err p x (outcome ts) (reads_outcome files p ts r j) (outcome_leaves ts x l)

  one_place : (files : List (List ℕ)) (ts us : List Lexeme) (x y : Span) → Joined 0 files ts → Joined 0 files us → Leaves ts x → Leaves us y → x ≡ y
  one_place files ts us x y j k l m = err_is x y (outcome us) (ap outcome (joined_one 0 files us ts k j) ∙ outcome_leaves ts x l) (outcome_leaves us y m)

  pub breaks_same : (files : List (List ℕ)) (strict : Bool) (rs ss : List Refusal) → Breaks files strict rs → Breaks files strict ss → rs ≡ ss
  breaks_same files strict _ _ (none p r) (none q s) = refl
  breaks_same files strict _ _ (none p r) (refused x h) = absurd (not_refused files x r.read h)
  breaks_same files strict _ _ (none p r) (outside ts x h j l) = absurd (not_left files p ts x r j l)
  breaks_same files strict _ _ (refused x h) (none p r) = absurd (not_refused files x r.read h)
  breaks_same files strict _ _ (refused x h) (refused y k) = ap (λ (r : Refusal). r ∷ []) (refusals_same files x y h k)
  breaks_same files strict _ _ (refused x h) (outside ts y k j l) = absurd (not_refused files x k h)
  breaks_same files strict _ _ (outside ts x h j l) (none p r) = absurd (not_left files p ts x r j l)
  breaks_same files strict _ _ (outside ts x h j l) (refused y k) = absurd (not_refused files y h k)
  breaks_same files strict _ _ (outside ts x h j l) (outside us y k i m) = ap (λ (s : Span). left_out s ∷ []) (one_place files ts us x y j i l m)

  pub not_compiled : (files : List (List ℕ)) (strict : Bool) (c : List ℕ) (r : Refusal) (rs : List Refusal) → IsCompiled files strict c → Breaks files strict (r ∷ rs) → ⊥
  not_compiled files strict c r rs i b = let same : [] ≡ r ∷ rs = breaks_same files strict [] (r ∷ rs) i.accepted b in cc
