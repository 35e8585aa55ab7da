-- Tokens that nest no deeper than others.
use Rattle.std.proofs.Common.{◌≡◌, ◌∙◌, refl, sym, ap, ap₂, subst, ℕ, suc, ◌≤◌, Bool, true, false, ◌&&◌, nat_le, List, [], ◌∷◌, ◌++◌, length, append_assoc, arith}
use Rattle.std.proofs.lemmas.Bool.{and_parts, le-leb, leb-true}
use Rattle.c_lexer.specs.declared.token.Keyword.{Keyword}
use Rattle.c_lexer.specs.declared.token.Sign.{Sign}
use Rattle.c_lexer.specs.declared.token.Sign.TheVariants as sign
use Rattle.c_lexer.specs.declared.token.TokenKind.TheVariants as k
use Rattle.c_tree.specs.Words.{Terminal, Of, Token, Word, IsSign, IsWord, IsName, Open, closed_choice, with_sign, with_terminal, is_shallow}
use Rattle.c_printer.specs.Marks.{Marks, ASign, token, word}
use Rattle.c_printer.proofs.TypeReading.{word_append}

-- 1. What is open behind tokens

unfoldable pub opens : Open → Word → Open
opens o [] = o
opens o (t ∷ w) = opens (with_terminal o t.terminal) w

and_assoc : (a b c : Bool) → (a && (b && c)) ≡ ((a && b) && c)
and_assoc true b c = refl
and_assoc false b c = refl

pub shallow_append : (o : Open) (u v : Word) → is_shallow o (u ++ v) ≡ (is_shallow o u && is_shallow (opens o u) v)
unfolding opens
shallow_append o [] v = refl
shallow_append o (t ∷ u) v = ap (λ b. nat_le (length (with_terminal o t.terminal)) 64 && b) (shallow_append (with_terminal o t.terminal) u v) ∙ and_assoc (nat_le (length (with_terminal o t.terminal)) 64) (is_shallow (with_terminal o t.terminal) u) (is_shallow (opens (with_terminal o t.terminal) u) v)

opens_append : (o : Open) (u v : Word) → opens o (u ++ v) ≡ opens (opens o u) v
unfolding opens
opens_append o [] v = refl
opens_append o (t ∷ u) v = opens_append (with_terminal o t.terminal) u v

-- 2. Tokens side by side

-- Within `?` and `:` a sign is open that `:` closes; elsewhere `:` closes none.
abbrev pub Stack : Bool → Open → Type 0
Stack true o = Unit {0}
Stack false o = closed_choice o ≡ o

-- The tokens `z` nest no deeper than `w` at any place that is no deeper, and both leave open what is.
pub record Under (q : Bool) (w z : Word) : Type 0 where
  pub here : (o : Open) → Stack q o → opens o w ≡ o
  pub there : (o : Open) → Stack q o → opens o z ≡ o
  pub shallow : (o p : Open) → Stack q o → Stack q p → length p ≤ length o → is_shallow o w ≡ true → is_shallow p z ≡ true

pub loosened : {w z : Word} → Under true w z → Under false w z
loosened u = record { here = λ o s. u.here o tt; there = λ o s. u.there o tt; shallow = λ o p s r h. u.shallow o p tt tt h }

pub nothing : (q : Bool) → Under q [] []
unfolding opens
nothing q = record { here = λ o s. refl; there = λ o s. refl; shallow = λ o p s r h e. refl }

both_true : (a b : Bool) → a ≡ true → b ≡ true → (a && b) ≡ true
both_true a b e f = ap₂ (λ x y. x && y) e f

pub append : {q : Bool} {u w x y : Word} → Under q u x → Under q w y → Under q (u ++ w) (x ++ y)
append {q} {u} {w} {x} {y} a b = record {
  here = λ o s. opens_append o u w ∙ ap (λ p. opens p w) (a.here o s) ∙ b.here o s;
  there = λ o s. opens_append o x y ∙ ap (λ p. opens p y) (a.there o s) ∙ b.there o s;
  shallow = λ o p s r h e.
      let parts = and_parts (is_shallow o u) (is_shallow (opens o u) w) (sym (shallow_append o u w) ∙ e) in
      shallow_append p x y
      ∙ both_true (is_shallow p x) (is_shallow (opens p x) y) (a.shallow o p s r h parts.0)
      (ap (λ z. is_shallow z y) (a.there p r) ∙ b.shallow o p s r h (ap (λ z. is_shallow z w) (sym (a.here o s)) ∙ parts.1));
}

pub both : {q : Bool} {u w : Word} (a b : Marks) → Under q u (word a) → Under q w (word b) → Under q (u ++ w) (word (a ++ b))
both {q} {u} {w} a b x y = subst (λ z. Under q (u ++ w) z) (sym (word_append a b)) (append x y)

pub grouped : {q : Bool} (a b c x y z : Word) → Under q (a ++ (b ++ c)) (x ++ (y ++ z)) → Under q ((a ++ b) ++ c) ((x ++ y) ++ z)
grouped {q} a b c x y z h = subst (λ v. Under q v ((x ++ y) ++ z)) (sym (append_assoc a b c)) (subst (λ v. Under q (a ++ (b ++ c)) v) (sym (append_assoc x y z)) h)

-- 3. One token

-- a terminal that opens and closes nothing
abbrev pub Quiet : Terminal → Type 0
Quiet x = (o : Open) → with_terminal o x ≡ o

-- tokens that all are such
abbrev pub AllQuiet : Word → Type 0
AllQuiet [] = Unit {0}
AllQuiet (t ∷ w) = Quiet t.terminal × AllQuiet w

pub quiet_append : (u w : Word) → AllQuiet u → AllQuiet w → AllQuiet (u ++ w)
quiet_append [] w a b = b
quiet_append (t ∷ u) w a b = (a.0, quiet_append u w a.1 b)

quiet_opens : (w : Word) → AllQuiet w → (o : Open) → opens o w ≡ o
unfolding opens
quiet_opens [] h o = refl
quiet_opens (t ∷ w) h o = ap (λ p. opens p w) (h.0 o) ∙ quiet_opens w h.1 o

quiet_shallow : (w : Word) → AllQuiet w → (o : Open) → length o ≤ 64 → is_shallow o w ≡ true
quiet_shallow [] h o few = refl
quiet_shallow (t ∷ w) h o few = ap (λ p. nat_le (length p) 64 && is_shallow p w) (h.0 o) ∙ both_true (nat_le (length o) 64) (is_shallow o w) (le-leb (length o) 64 few) (quiet_shallow w h.1 o few)

-- some tokens that open nothing, in the place of one or more
pub quiet_under : (q : Bool) (t : Token) (w z : Word) → AllQuiet (t ∷ w) → AllQuiet z → Under q (t ∷ w) z
quiet_under q t w z a b = record {
  here = λ o s. quiet_opens (t ∷ w) a o;
  there = λ o s. quiet_opens z b o;
  shallow = λ o p s r h e.
      let few : length o ≤ 64 = leb-true (length o) 64 (ap (λ z. nat_le (length z) 64) (sym (a.0 o)) ∙ (and_parts (nat_le (length (with_terminal o t.terminal)) 64) (is_shallow (with_terminal o t.terminal) w) e).0) in
      quiet_shallow z b p (omega arith);
}

pub same_quiet : (x : Terminal) (t : Token) → Quiet x → t.terminal ≡ x → Quiet t.terminal
same_quiet x t h e = λ o. ap (with_terminal o) e ∙ h o

pub one : (q : Bool) (x : Terminal) (t n : Token) → Quiet x → t.terminal ≡ x → n.terminal ≡ x → Under q (t ∷ []) (n ∷ [])
one q x t n h e f = quiet_under q t [] (n ∷ []) (same_quiet x t h e, tt) (same_quiet x n h f, tt)

pub a_name : (q : Bool) (t : Token) (x : List ℕ) → IsName t → Under q (t ∷ []) (token k.Identifier x ∷ [])
a_name q t x i = one q (Of k.Identifier) t (token k.Identifier x) (λ o. refl) i refl

pub a_keyword : (q : Bool) (t : Token) (w : Keyword) → IsWord t w → Under q (t ∷ []) (token (k.Keyword w) [] ∷ [])
a_keyword q t w i = one q (Of (k.Keyword w)) t (token (k.Keyword w) []) (λ o. refl) i refl

pub a_sign : (q : Bool) (t : Token) (s : Sign) → Quiet (Of (k.Sign s)) → IsSign t s → Under q (t ∷ []) (token (k.Sign s) [] ∷ [])
a_sign q t s h i = one q (Of (k.Sign s)) t (token (k.Sign s) []) h i refl

-- a `:` that belongs to no `?`
pub a_colon : (t : Token) → IsSign t sign.Colon → Under false (t ∷ []) (token (k.Sign sign.Colon) [] ∷ [])
unfolding opens
a_colon t i = record {
  here = λ o s. stays o s;
  there = λ o s. s;
  shallow = λ o p s r h e.
      let few : length o ≤ 64 = leb-true (length o) 64 (ap (λ z. nat_le (length z) 64) (sym (stays o s)) ∙ (and_parts (nat_le (length (with_terminal o t.terminal)) 64) true e).0) in
      ap (λ z. nat_le (length z) 64 && true) r ∙ ap (λ b. b && true) (le-leb (length p) 64 (omega arith));
}
  where
    stays : (o : Open) → closed_choice o ≡ o → with_terminal o t.terminal ≡ o
    stays o s = ap (with_terminal o) i ∙ s

pub next : {q : Bool} {t n : Token} {w z : Word} → Under q (t ∷ []) (n ∷ []) → Under q w z → Under q (t ∷ w) (n ∷ z)
next {q} {t} {n} {w} {z} a b = append {u = t ∷ []} {x = n ∷ []} a b

-- 4. Brackets, and `?` with its `:`

pub record Pair (q : Bool) (x y : Sign) : Type 0 where
  pub opening : (o : Open) → with_sign o x ≡ x ∷ o
  pub closing : (o : Open) → with_sign (x ∷ o) y ≡ o
  pub stack : (o : Open) → Stack q (x ∷ o)

pub parens : (q : Bool) → Pair q sign.OpenParen sign.CloseParen
parens true = record { opening = λ o. refl; closing = λ o. refl; stack = λ o. tt }
parens false = record { opening = λ o. refl; closing = λ o. refl; stack = λ o. refl }

pub squares : (q : Bool) → Pair q sign.OpenBracket sign.CloseBracket
squares true = record { opening = λ o. refl; closing = λ o. refl; stack = λ o. tt }
squares false = record { opening = λ o. refl; closing = λ o. refl; stack = λ o. refl }

pub braces : (q : Bool) → Pair q sign.OpenBrace sign.CloseBrace
braces true = record { opening = λ o. refl; closing = λ o. refl; stack = λ o. tt }
braces false = record { opening = λ o. refl; closing = λ o. refl; stack = λ o. refl }

pub question : Pair true sign.Question sign.Colon
question = record { opening = λ o. refl; closing = λ o. refl; stack = λ o. tt }

-- what brackets are, around some tokens
module _ {inner : Bool} (x y : Sign) (pair : Pair inner x y) (t s : Token) (i : IsSign t x) (j : IsSign s y) where
  opened : (o : Open) → with_terminal o t.terminal ≡ x ∷ o
  opened o = ap (with_terminal o) i ∙ pair.opening o

  shut : (o : Open) → with_terminal (x ∷ o) s.terminal ≡ o
  shut o = ap (with_terminal (x ∷ o)) j ∙ pair.closing o

  behind_bracket : (o : Open) (w : Word) → ((p : Open) → Stack inner p → opens p w ≡ p) → opens o (t ∷ w ++ s ∷ []) ≡ o
  unfolding opens
  behind_bracket o w h = ap (λ z. opens z (w ++ s ∷ [])) (opened o) ∙ opens_append (x ∷ o) w (s ∷ []) ∙ ap (λ z. opens z (s ∷ [])) (h (x ∷ o) (pair.stack o)) ∙ shut o

  inside : (o : Open) (w : Word) → is_shallow o (t ∷ w ++ s ∷ []) ≡ true → (suc (length o) ≤ 64) × (is_shallow (x ∷ o) w ≡ true)
  inside o w e =
      let first = and_parts (nat_le (suc (length o)) 64) (is_shallow (x ∷ o) (w ++ s ∷ [])) (ap (λ z. nat_le (length z) 64 && is_shallow z (w ++ s ∷ [])) (sym (opened o)) ∙ e) in
      (leb-true (suc (length o)) 64 first.0, (and_parts (is_shallow (x ∷ o) w) (is_shallow (opens (x ∷ o) w) (s ∷ [])) (sym (shallow_append (x ∷ o) w (s ∷ [])) ∙ first.1)).0)

  outside : (o : Open) (w : Word) → ((p : Open) → Stack inner p → opens p w ≡ p) → suc (length o) ≤ 64 → is_shallow (x ∷ o) w ≡ true → is_shallow o (t ∷ w ++ s ∷ []) ≡ true
  outside o w h few e =
      ap (λ z. nat_le (length z) 64 && is_shallow z (w ++ s ∷ [])) (opened o)
      ∙ both_true (nat_le (suc (length o)) 64) (is_shallow (x ∷ o) (w ++ s ∷ [])) (le-leb (suc (length o)) 64 few)
      (shallow_append (x ∷ o) w (s ∷ []) ∙ both_true (is_shallow (x ∷ o) w) (is_shallow (opens (x ∷ o) w) (s ∷ [])) e
      (ap (λ z. is_shallow z (s ∷ [])) (h (x ∷ o) (pair.stack o)) ∙ ap (λ z. nat_le (length z) 64 && true) (shut o) ∙ ap (λ b. b && true) (le-leb (length o) 64 (omega arith))))

-- tokens in brackets
pub enclosed : (q : Bool) {inner : Bool} (x y : Sign) (pair : Pair inner x y) (t s : Token) → IsSign t x → IsSign s y → {w z : Word} → Under inner w z → Under q (t ∷ w ++ s ∷ []) (token (k.Sign x) [] ∷ z ++ token (k.Sign y) [] ∷ [])
enclosed q {inner} x y pair t s i j {w} {z} u =
    let a : Token = token (k.Sign x) [] in let b : Token = token (k.Sign y) [] in
    record {
      here = λ o st. behind_bracket x y pair t s i j o w u.here;
      there = λ o st. behind_bracket x y pair a b refl refl o z u.there;
      shallow = λ o p st r h e.
          let in0 = inside x y pair t s i j o w e in
          outside x y pair a b refl refl p z u.there (omega (arith, in0.0)) (u.shallow (x ∷ o) (x ∷ p) (pair.stack o) (pair.stack p) (omega arith) in0.1);
    }

-- tokens in brackets that are left out
pub unbracketed : {inner : Bool} (x y : Sign) (pair : Pair inner x y) (t s : Token) → IsSign t x → IsSign s y → {w z : Word} → Under inner w z → ((o : Open) → Stack inner o) → Under true (t ∷ w ++ s ∷ []) z
unbracketed {inner} x y pair t s i j {w} {z} u any = record {
  here = λ o st. behind_bracket x y pair t s i j o w u.here;
  there = λ o st. u.there o (any o);
  shallow = λ o p st r h e. u.shallow (x ∷ o) p (pair.stack o) (any p) (omega arith) (inside x y pair t s i j o w e).1;
}

-- tokens in brackets, and others behind them
pub enclosed_then : {q inner : Bool} (x y : Sign) (pair : Pair inner x y) (t s : Token) → IsSign t x → IsSign s y → {w z u v : Word} → Under inner w z → Under q u v
    → Under q (t ∷ w ++ s ∷ u) (token (k.Sign x) [] ∷ z ++ token (k.Sign y) [] ∷ v)
enclosed_then {q} x y pair t s i j {w} {z} {u} {v} a b =
    subst (λ c. Under q (t ∷ c) (token (k.Sign x) [] ∷ z ++ token (k.Sign y) [] ∷ v)) (append_assoc w (s ∷ []) u)
    (subst (λ c. Under q (t ∷ (w ++ s ∷ []) ++ u) (token (k.Sign x) [] ∷ c)) (append_assoc z (token (k.Sign y) [] ∷ []) v)
    (append {u = t ∷ w ++ s ∷ []} {x = token (k.Sign x) [] ∷ z ++ token (k.Sign y) [] ∷ []} (enclosed q x y pair t s i j a) b))

pub enclosed_marks : (q : Bool) {inner : Bool} (x y : Sign) (pair : Pair inner x y) (t s : Token) → IsSign t x → IsSign s y → {w : Word} (ms : Marks) → Under inner w (word ms) → Under q (t ∷ w ++ s ∷ []) (word (ASign x ∷ ms ++ ASign y ∷ []))
enclosed_marks q x y pair t s i j {w} ms u = subst (λ c. Under q (t ∷ w ++ s ∷ []) (token (k.Sign x) [] ∷ c)) (sym (word_append ms (ASign y ∷ []))) (enclosed q x y pair t s i j u)
