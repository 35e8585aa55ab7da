-- A text whose tokens were passed one by one, with what is open kept as a stack.
use Rattle.std.proofs.Common.{◌≡◌, ◌∙◌, refl, sym, ap, ap₂, subst, ℕ, ◌+◌, ◌-◌, ◌≤◌, Bool, true, false, cond, ◌&&◌, nat_le, List, [], ◌∷◌, ◌++◌, length, map, Some, None, Ok, arith}
use Rattle.std.proofs.lemmas.Bool.{le-leb}
use Rattle.std.proofs.lemmas.List.{length_push, get_or_push, take_at}
use Rattle.c_lexer.specs.declared.token.Sign.{Sign}
use Rattle.c_lexer.specs.declared.token.Sign.TheVariants as sign
use Rattle.c_lexer.specs.declared.token.TokenKind.{TokenKind}
use Rattle.c_lexer.specs.declared.token.TokenKind.TheVariants as k
use Rattle.c_lexer.specs.Tokens.{Left, Lexeme, Tokens, end, token, all_of, next_of, behind, behind_next}
use Rattle.c_tree.specs.Words.{Of, plain, with_terminal, is_shallow}
use Rattle.c_tree.specs.Words as tree
use Rattle.c_printer.specs.declared.depth.Open.{Open}
use Rattle.c_printer.specs.declared.depth.Open.TheVariants.{Bracket, Choice}
use Rattle.c_printer.specs.Depth.{closed, is_choice, is_in_choice, closed_choice, with_sign, with_kind, IsShallowText}

-- 1. What is open in the program

abbrev pub mark : Sign → Open
mark sign.Question = Choice
mark s = Bracket

abbrev pub code : tree.Open → List Open
code [] = []
code (s ∷ o) = code o ++ mark s ∷ []

shorter : (n : ℕ) → (n + 1) - 1 ≡ n
shorter n = omega arith

-- the place of what was put last
last_place : (os : List Open) (x : Open) → length os ≡ length (os ++ x ∷ []) - 1
last_place os x = sym (ap (λ n. n - 1) (length_push os x) ∙ shorter (length os))

closed_push : (os : List Open) (x : Open) → closed (os ++ x ∷ []) ≡ os
closed_push os x = take_at os (x ∷ []) (length (os ++ x ∷ []) - 1) (last_place os x)

choice_push : (os : List Open) (x : Open) → is_in_choice (os ++ x ∷ []) ≡ is_choice x
choice_push os x = ap is_choice (get_or_push os x Bracket (length (os ++ x ∷ []) - 1) (last_place os x))

closed_code : (o : tree.Open) → closed (code o) ≡ code (tree.closed o)
closed_code [] = refl
closed_code (s ∷ o) = closed_push (code o) (mark s)

bracket_stays : (o : tree.Open) (s : Sign) → is_choice (mark s) ≡ false → tree.closed_choice (s ∷ o) ≡ s ∷ o → closed_choice (code (s ∷ o)) ≡ code (tree.closed_choice (s ∷ o))
bracket_stays o s e f = ap (λ b. cond b (closed (code (s ∷ o))) (code (s ∷ o))) (choice_push (code o) (mark s) ∙ e) ∙ ap code (sym f)

choice_code : (o : tree.Open) → closed_choice (code o) ≡ code (tree.closed_choice o)
choice_code [] = refl
choice_code (sign.Question ∷ o) = ap (λ b. cond b (closed (code (sign.Question ∷ o))) (code (sign.Question ∷ o))) (choice_push (code o) Choice) ∙ closed_push (code o) Choice
choice_code (s ∷ o) = bracket_stays o s refl refl

sign_code : (o : tree.Open) (s : Sign) → code (tree.with_sign o s) ≡ with_sign (code o) s
sign_code o sign.CloseBrace = sym (closed_code o)
sign_code o sign.CloseParen = sym (closed_code o)
sign_code o sign.CloseBracket = sym (closed_code o)
sign_code o sign.Colon = sym (choice_code o)
sign_code o s = refl

kind_code : (o : tree.Open) (kind : TokenKind) → code (with_terminal o (Of kind)) ≡ with_kind (code o) kind
kind_code o (k.Sign s) = sign_code o s
kind_code o kind = refl

-- 2. How much is open

same_length : (o : tree.Open) → length (code o) ≡ length o
same_length [] = refl
same_length (s ∷ o) = let e : length (code o ++ mark s ∷ []) ≡ length (code o) + 1 = length_push (code o) (mark s) in let h : length (code o) ≡ length o = same_length o in omega arith

few : (o : tree.Open) (p : List Open) → code o ≡ p → length p ≤ 64 → length o ≤ 64
few o p e h = subst (λ n. n ≤ 64) (sym (ap length e) ∙ same_length o) h

-- 3. Tokens one after another

-- what is open in front of the tokens that are left, and that these decide whether the text is shallow
pub record Reaches (l : Left) (n : List Open) (bytes : List ℕ) : Type 0 where
  pub signs : tree.Open
  pub is : code signs ≡ n
  pub rest : ((ts : List Lexeme) → Tokens l ts None → is_shallow signs (map plain ts) ≡ true) → IsShallowText bytes

pub at_start : (l : Left) (n : List Open) (bytes : List ℕ) → l ≡ all_of bytes → n ≡ [] → Reaches l n bytes
at_start l n bytes e f = record { signs = []; is = sym f; rest = λ h. subst (λ x. (ts : List Lexeme) → Tokens x ts None → is_shallow [] (map plain ts) ≡ true) e h }

one_token : (l : Left) (t : Lexeme) (ts : List Lexeme) (o : tree.Open) → length (with_terminal o (Of t.kind)) ≤ 64 → next_of l ≡ Ok (Some t) → ((us : List Lexeme) → Tokens (behind l (Ok (Some t))) us None → is_shallow (with_terminal o (Of t.kind)) (map plain us) ≡ true)
    → Tokens l ts None → is_shallow o (map plain ts) ≡ true
one_token _ t _ o h e more (end l f) = absurd cc
one_token _ t _ o h e more (token l u {ts} f rest) =
    let same : u ≡ t = cc in
    ap (λ (x : Lexeme). nat_le (length (with_terminal o (Of x.kind))) 64 && is_shallow (with_terminal o (Of x.kind)) (map plain ts)) same
    ∙ ap₂ (λ x y. x && y) (le-leb (length (with_terminal o (Of t.kind))) 64 h) (more ts (subst (λ (x : Lexeme). Tokens (behind l (Ok (Some x))) ts None) same rest))

pub one_passed : (l m : Left) (n p : List Open) (bytes : List ℕ) (t : Lexeme) → Reaches l n bytes → next_of l ≡ Ok (Some t) → m ≡ behind_next l → p ≡ with_kind n t.kind → length p ≤ 64 → Reaches m p bytes
one_passed l m n p bytes t r e moved is h =
    let same : code (with_terminal r.signs (Of t.kind)) ≡ p = kind_code r.signs t.kind ∙ ap (λ x. with_kind x t.kind) r.is ∙ sym is in
    let here : m ≡ behind l (Ok (Some t)) = moved ∙ ap (behind l) e in
    record {
      signs = with_terminal r.signs (Of t.kind);
      is = same;
      rest = λ f. r.rest (λ ts g. one_token l t ts r.signs (few (with_terminal r.signs (Of t.kind)) p same h) e
          (λ us i. f us (subst (λ x. Tokens x us None) (sym here) i)) g);
    }

-- what is no token moves nothing
pub none_passed : (l m : Left) (n : List Open) (bytes : List ℕ) → Reaches l n bytes → m ≡ l → Reaches m n bytes
none_passed l m n bytes r e = subst (λ x. Reaches x n bytes) (sym e) r

pub all_passed : (l : Left) (n : List Open) (bytes : List ℕ) → Reaches l n bytes → next_of l ≡ Ok None → IsShallowText bytes
all_passed l n bytes r e = r.rest (λ ts g. go l ts r.signs e g)
  where
    go : (l : Left) (ts : List Lexeme) (o : tree.Open) → next_of l ≡ Ok None → Tokens l ts None → is_shallow o (map plain ts) ≡ true
    go _ _ o e (end l f) = refl
    go _ _ o e (token l u f rest) = absurd cc
