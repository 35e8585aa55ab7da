-- Bytes have an answer as a file, and only one.
use Rattle.std.proofs.Common.{◌≡◌, ℕ, ◌<◌, ◌≤◌, List, [], ◌∷◌, length, Option, Some, None, Result, Ok, Err, ◌⊎◌, inl, inr, refl, sym, ap, subst, ◌∙◌, arith}
use Rattle.std.proofs.lemmas.Bool.{cases_lt}
use Rattle.static_rules.specs.declared.rules.Refusal.{Refusal}
use Rattle.vala_tree.specs.declared.member.FileTree.{FileTree}
use Rattle.vala_lexer.specs.Tokens.{Lexeme, Left, all_of}
use Rattle.vala_lexer.proofs.CoverLemmas.{one_list, some_list}
use Rattle.predictive_grammar.specs.Steps as steps
use Rattle.predictive_grammar.specs.Steps.{Outcome}
use Rattle.predictive_grammar.specs.Exact as exact
use Rattle.predictive_grammar.proofs.Once.{found_same, found_or_broken, broken_same}
use Rattle.vala_grammar.specs.Label.{Label}
use Rattle.vala_grammar.specs.Answer.{limits, refusal_at}
use Rattle.vala_file_grammar.specs.Trees.{FileText}
use Rattle.vala_file_grammar.specs.Parts.{File}
use Rattle.vala_file_grammar.specs.Embed.{F}
use Rattle.vala_file_grammar.specs.Grammar.{forms}
use Rattle.vala_file_grammar.specs.Tables.{tables}
use Rattle.vala_file_grammar.specs.Read.{file_reader}
use Rattle.vala_file_grammar.specs.FileAnswer.{IsFile, Faulty, file_tree, Says, file, broken, too_long, faulty, most_bytes, too_large, Answers, many, few, HasAnswer, HasOneAnswer}
use Rattle.vala_file_grammar.proofs.Predictive.{predictive}
use Rattle.vala_file_grammar.proofs.Readers.{reads_exactly}

-- ---- one answer

nil_cons : {A : Type 0} (x : A) (xs : List A) → [] ≡ x ∷ xs → ⊥
nil_cons x xs e = cc

one_file : (ts : List Lexeme) (a b : FileText) (r q : List Lexeme) → IsFile ts a r → IsFile ts b q → (a ≡ b) × (r ≡ q)
one_file ts a b r q x y = found_same F forms tables predictive File 0 limits ts a b r q x y

no_fault : (ts : List Lexeme) (a : FileText) (f : steps.Fault Label) (r q : List Lexeme) → IsFile ts a r → Faulty ts f q → ⊥
no_fault ts a f r q x y = found_or_broken F forms tables predictive File 0 limits ts a f r q x y

one_fault : (ts : List Lexeme) (f g : steps.Fault Label) (r q : List Lexeme) → Faulty ts f r → Faulty ts g q → (f ≡ g) × (r ≡ q)
one_fault ts f g r q x y = broken_same F forms tables predictive File 0 limits ts f g r q x y

module _ (l : Left) (ts : List Lexeme) where
  says_one : (o : Option Refusal) (x y : Result FileTree Refusal) → Says l ts o x → Says l ts o y → x ≡ y
  says_one o x y (file a i) (file b j) = ap (λ (a : FileText). Ok (file_tree a ts)) (one_file ts a b [] [] i j).0
  says_one o x y (file a i) (too_long _ b t rest j) = absurd (nil_cons t rest (one_file ts a b [] (t ∷ rest) i j).1)
  says_one o x y (file a i) (faulty _ f rest j) = absurd (no_fault ts a f [] rest i j)
  says_one o x y (broken r a i) (broken _ b j) = refl
  says_one o x y (broken r a i) (too_long _ b t rest j) = absurd (nil_cons t rest (one_file ts a b [] (t ∷ rest) i j).1)
  says_one o x y (broken r a i) (faulty _ f rest j) = absurd (no_fault ts a f [] rest i j)
  says_one o x y (too_long _ a t rest i) (file b j) = absurd (nil_cons t rest (sym (one_file ts a b (t ∷ rest) [] i j).1))
  says_one o x y (too_long _ a t rest i) (broken r b j) = absurd (nil_cons t rest (sym (one_file ts a b (t ∷ rest) [] i j).1))
  says_one o x y (too_long _ a t rest i) (too_long _ b u more j) = ap (λ (m : List Lexeme). Err (refusal_at l o steps.Syntax m)) (one_file ts a b (t ∷ rest) (u ∷ more) i j).1
  says_one o x y (too_long _ a t rest i) (faulty _ f m j) = absurd (no_fault ts a f (t ∷ rest) m i j)
  says_one o x y (faulty _ f m i) (file b j) = absurd (no_fault ts b f [] m j i)
  says_one o x y (faulty _ f m i) (broken r b j) = absurd (no_fault ts b f [] m j i)
  says_one o x y (faulty _ f m i) (too_long _ b t rest j) = absurd (no_fault ts b f (t ∷ rest) m j i)
  says_one o x y (faulty _ f m i) (faulty _ g n j) =
      ap (λ (f : steps.Fault Label). Err (refusal_at l o f m)) (one_fault ts f g m n i j).0 ∙ ap (λ (m : List Lexeme). Err (refusal_at l o g m)) (one_fault ts f g m n i j).1

  -- ---- some answer

  of_reading : (o : Option Refusal) (x : Outcome Label Lexeme FileText) → exact.Answers F forms File 0 limits ts x → (r : Result FileTree Refusal) × Says l ts o r
  of_reading o (Ok (a, t ∷ rest)) i = (Err (refusal_at l o steps.Syntax (t ∷ rest)), too_long o a t rest i)
  of_reading None (Ok (a, [])) i = (Ok (file_tree a ts), file a i)
  of_reading (Some r) (Ok (a, [])) i = (Err r, broken r a i)
  of_reading o (Err (f, rest)) i = (Err (refusal_at l o f rest), faulty o f rest i)

  says_some : (o : Option Refusal) → (r : Result FileTree Refusal) × Says l ts o r
  says_some o = of_reading o (file_reader File 0 ts) (reads_exactly File 0 ts)

module _ (bytes : List ℕ) (number : ℕ) where
  answers_one : (x y : Result FileTree Refusal) → Answers bytes number x → Answers bytes number y → x ≡ y
  answers_one x y (many h) (many g) = refl
  answers_one x y (many h) (few ts o _ g t s) = absurd (omega arith)
  answers_one x y (few ts o _ h t s) (many g) = absurd (omega arith)
  answers_one x y (few ts o _ h t s) (few us p _ g u v) =
      let same = one_list (all_of bytes number) ts us o p t u in
      says_one (all_of bytes number) us p x y
      (subst (λ (ts : List Lexeme). Says (all_of bytes number) ts p x) same.0 (subst (λ (o : Option Refusal). Says (all_of bytes number) ts o x) same.1 s)) v

  answers_some : (most_bytes < length bytes) ⊎ (length bytes ≤ most_bytes) → (x : Result FileTree Refusal) × Answers bytes number x
  answers_some (inl h) = (Err (too_large number), many h)
  answers_some (inr h) =
      let list = some_list (all_of bytes number) in
      let says = says_some (all_of bytes number) list.0 list.1 in (says.0, few list.0 list.1 says.0 h list.2 says.1)

pub has_one_answer : HasOneAnswer
has_one_answer bytes number x y a b = answers_one bytes number x y a b

pub has_answer : HasAnswer
has_answer bytes number = answers_some bytes number (cases_lt most_bytes (length bytes))
