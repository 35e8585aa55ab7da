-- The texts of a program have no zero byte.
use Rattle.std.proofs.Common.{◌≡◌, ◌∙◌, refl, sym, ap, subst, ℕ, suc, ◌<◌, ◌≤◌, ◌==◌, ◌&&◌, ◌||◌, not, nat_le, cond, Bool, true, false, List, [], ◌∷◌, Option, Some, None, arith}
use Rattle.std.proofs.lemmas.Bool.{and_parts, leb-true, eqb-true}
use Rattle.vg_base.specs.Small.{is_plain, escape_of, Denotes, nothing, plain, escape}
use Rattle.vala_lexer.specs.Tokens.{Lexeme}
use Rattle.c_emit.specs.Program.{Program, IsText, AreTexts}
use Rattle.vala_compile.specs.Carried.{Calls, last, call, IsProgram, whole}

plain_byte : (b : ℕ) → is_plain b ≡ true → (0 < b) × (b < 256)
plain_byte b h =
    let p = and_parts (nat_le 32 b && nat_le b 126 && not (b == 34) && not (b == 37)) (not (b == 92)) h in
    let q = and_parts (nat_le 32 b && nat_le b 126 && not (b == 34)) (not (b == 37)) p.0 in
    let r = and_parts (nat_le 32 b && nat_le b 126) (not (b == 34)) q.0 in
    let s = and_parts (nat_le 32 b) (nat_le b 126) r.0 in
    let low : 32 ≤ b = leb-true 32 b s.0 in let high : b ≤ 126 = leb-true b 126 s.1 in (omega arith, omega arith)

some_is : (x y : ℕ) → Some x ≡ Some y → x ≡ y
some_is x y h = cc

none_is : (y : ℕ) → None ≡ Some y → ⊥
none_is y h = absurd cc

small : (b c : ℕ) → c ≡ b → 0 < c → c < 256 → (0 < b) × (b < 256)
small b c e h k = (subst (λ x. 0 < x) e h, subst (λ x. x < 256) e k)

escaped_byte : (c b : ℕ) → escape_of c ≡ Some b → (0 < b) × (b < 256)
escaped_byte c b h = first (c == 110) h
  where
    second : (t u : Bool) → (c == 34) ≡ t → (c == 92) ≡ u → cond (t || u) (Some c) None ≡ Some b → (0 < b) × (b < 256)
    second true u e f k = let is : c ≡ 34 = eqb-true c 34 e in small b c (some_is c b k) (omega arith) (omega arith)
    second false true e f k = let is : c ≡ 92 = eqb-true c 92 f in small b c (some_is c b k) (omega arith) (omega arith)
    second false false e f k = absurd (none_is b k)

    first : (t : Bool) → cond t (Some 10) (cond (c == 34 || c == 92) (Some c) None) ≡ Some b → (0 < b) × (b < 256)
    first true k = small b 10 (some_is 10 b k) (omega arith) (omega arith)
    first false k = second (c == 34) (c == 92) refl refl k

denoted_text : (body bytes : List ℕ) → Denotes body bytes → IsText bytes
denoted_text _ _ nothing = tt
denoted_text _ _ (plain b {body} {bytes} p d) = (plain_byte b p, denoted_text body bytes d)
denoted_text _ _ (escape c b {body} {bytes} p d) = (escaped_byte c b p, denoted_text body bytes d)

calls_texts : (ts : List Lexeme) (p : Program) → Calls ts p → AreTexts p
calls_texts _ _ (last t i) = tt
calls_texts _ _ (call n o x c e text ts p is_n is_o is_x is_c is_e more) = (denoted_text is_x.1.0 text is_x.1.2, calls_texts ts p more)

pub program_texts : (ts : List Lexeme) (p : Program) → IsProgram ts p → AreTexts p
program_texts _ _ (whole v m o c b ts p is_v is_m is_o is_c is_b calls) = calls_texts ts p calls
