-- What forms of types read, are types.
use Rattle.std.proofs.Common.{◌≡◌, ℕ, suc, ◌==◌, eqb-true, arith, Bool, true, false, not, ◌&&◌, List, [], ◌∷◌, ◌++◌, refl, sym, ap, subst, ◌∙◌, append-nil, append_assoc, true≢false}
use Rattle.c_lexer.specs.declared.token.Constant.TheVariants as constant
use Rattle.c_lexer.specs.declared.token.TokenKind.TheVariants as k
use Rattle.c_lexer.specs.declared.token.Keyword.TheVariants as keyword
use Rattle.c_lexer.specs.declared.token.Sign.TheVariants as sign
use Rattle.c_tree.specs.declared.names.CType.{CType}
use Rattle.c_tree.specs.Words.{Terminal, Of, Token, Word}
use Rattle.c_tree.specs.Names.{Names}
use Rattle.c_tree.specs.Types.{Consts as ReadsConsts, no_const, more_const, Stars as ReadsStars, no_star, more_stars, BaseIs, void_is, int_is, char_is, named_is, ReadsType, type_is, is_object, is_void_base}
use Rattle.c_grammar.specs.Sorts.{kind, on}
use Rattle.c_grammar.specs.Tests.{is_base, is_key_base, word_is}
use Rattle.c_grammar.specs.Trees.{is_some_word, base_of, is_void, type_of}
use Rattle.c_grammar.specs.Parts.{Starred, at, Consts, Stars, TypeRest, TypeMore, AnyType, KeyType}
use Rattle.c_grammar.specs.Grammar.{form, base_behind}
use Rattle.c_grammar.proofs.Told.{Told, gave, took, got, one, other}
use Rattle.c_grammar.proofs.Tokens.{is_sign, is_word}
use Rattle.c_grammar.proofs.Classes.{within}
use Rattle.c_grammar.proofs.Meaning.{Meant, Holds, AreConsts, AreStars, EndsType, IsType, IfMust}

pub sound_consts : (ns : Names) → Holds ns Consts
unfolding form
sound_consts ns w x (one (took t e (got u m (gave a)))) =
    record { reads = more_const (is_word ns keyword.Const t e) (subst (λ (z : Word). ReadsConsts z (is_some_word u)) (sym (append-nil _)) m.reads); same = ap (λ (z : Word). t ∷ z) (m.same ∙ sym (append-nil _)) }
sound_consts ns w x (other (gave a)) = record { reads = no_const; same = refl }

pub some_star : (n : ℕ) → not (suc n == 0) ≡ true
some_star n = by_test (suc n == 0) refl
  where
    by_test : (b : Bool) → (suc n == 0) ≡ b → not b ≡ true
    by_test false e = refl
    by_test true e = absurd (omega (arith, eqb-true (suc n) 0 e))

pub sound_stars : (ns : Names) (must : Bool) → Holds ns (Stars must)
unfolding form
sound_stars ns true w x (took t e (got {u = p} u m (got s n (gave a)))) = record {
  reads = more_stars (is_sign ns sign.Star t e) m.reads (subst (λ (z : Word). ReadsStars z s.stars) (sym (append-nil _)) n.reads);
  same = ap (λ (z : Word). t ∷ z) (ap (λ (z : Word). z ++ s.word) m.same ∙ ap (λ (z : Word). p ++ z) (n.same ∙ sym (append-nil _)));
  some = λ e. some_star s.stars;
}
sound_stars ns false w x (one (took t e (got {u = p} u m (got s n (gave a))))) = record {
  reads = more_stars (is_sign ns sign.Star t e) m.reads (subst (λ (z : Word). ReadsStars z s.stars) (sym (append-nil _)) n.reads);
  same = ap (λ (z : Word). t ∷ z) (ap (λ (z : Word). z ++ s.word) m.same ∙ ap (λ (z : Word). p ++ z) (n.same ∙ sym (append-nil _)));
  some = λ e. some_star s.stars;
}
sound_stars ns false w x (other (gave a)) = record { reads = no_star; same = refl; some = λ e. absurd (true≢false (sym e)) }

-- what follows a base
pub ends_type : (u : Word) (t : Token) (must : Bool) (v w : Word) (s : Starred) → ReadsConsts v (is_some_word v) → ReadsStars s.word s.stars → IfMust must (not (s.stars == 0)) → v ++ s.word ≡ w → EndsType u t must w (type_of u t v s)
ends_type u t must v w s c r m e = record { reads = reads; base = refl; some = m }
  where
    reads : (ns : Names) (anyhow : Bool) → ReadsConsts u (is_some_word u) → BaseIs ns anyhow t (base_of t) → ReadsType ns anyhow (u ++ (t ∷ w)) (type_of u t v s)
    reads ns anyhow d b = subst (λ (z : Word). ReadsType ns anyhow z (type_of u t v s)) (append_assoc u (t ∷ v) s.word ∙ ap (λ (z : Word). u ++ (t ∷ z)) e) (type_is d b c r)

-- stars, with nothing behind them
are_stars : (must : Bool) (q : Word) (s : Starred) → AreStars must q s → ReadsStars s.word s.stars
are_stars must q s n = subst (λ (z : Word). ReadsStars z s.stars) (sym n.same) n.reads

const_told : (ns : Names) (u : Word) (t c : Token) (must : Bool) (v p : Word) (s : Starred) (q : Word) → on ns (word_is keyword.Const) (kind c) ≡ true → AreConsts p v → AreStars must q s
    → EndsType u t must (c ∷ (p ++ (q ++ []))) (type_of u t (c ∷ v) s)
const_told ns u t c must v p s q e m n = ends_type u t must (c ∷ v) (c ∷ (p ++ (q ++ []))) s (more_const (is_word ns keyword.Const c e) (subst (λ (z : Word). ReadsConsts z (is_some_word v)) (sym m.same) m.reads))
    (are_stars must q s n) n.some (ap (λ (z : Word). c ∷ z) (ap (λ (z : Word). z ++ s.word) m.same ∙ ap (λ (z : Word). p ++ z) (n.same ∙ sym (append-nil q))))

stars_told : (u : Word) (t : Token) (must : Bool) (s : Starred) (q : Word) → AreStars must q s → EndsType u t must (q ++ []) (type_of u t [] s)
stars_told u t must s q n = ends_type u t must [] (q ++ []) s no_const (are_stars must q s n) n.some (n.same ∙ sym (append-nil q))

pub sound_type_rest : (ns : Names) (u : Word) (t : Token) (must : Bool) → Holds ns (TypeRest u t must)
unfolding form
sound_type_rest ns u t must w x (one (took c e (got {u = p} v m (got {u = q} s n (gave a))))) = const_told ns u t c must v p s q e m n
sound_type_rest ns u t must w x (other (got {u = q} s n (gave a))) = stars_told u t must s q n

-- where there must be a star or not
any_stars : {must : Bool} {q : Word} {s : Starred} → AreStars must q s → AreStars false q s
any_stars n = record { reads = n.reads; same = n.same; some = λ e. absurd (true≢false (sym e)) }

pub sound_type_more : (ns : Names) (u : Word) (t : Token) → Holds ns (TypeMore u t)
unfolding form
sound_type_more ns u t w x (one (took c e (got {u = p} v m (got {u = q} s n (gave a))))) = const_told ns u t c false v p s q e m n
sound_type_more ns u t w x (other (got {u = q} s n (gave a))) = stars_told u t false s q (any_stars n)

-- a base that passes the test is one
by_terminal : (ns : Names) (anyhow : Bool) (x : Terminal) (w : List ℕ) (a b : ℕ) (l : Bool) → on ns (is_base anyhow) (record { terminal = x; bytes = w; begins_line = l }) ≡ true
    → BaseIs ns anyhow (record { terminal = x; bytes = w; start = a; «end» = b; begins_line = l }) (base_of (record { terminal = x; bytes = w; start = a; «end» = b; begins_line = l }))
by_terminal ns anyhow (Of k.Identifier) w a b l e = named_is refl e
by_terminal ns anyhow (Of (k.Keyword keyword.Void)) w a b l e = void_is refl
by_terminal ns anyhow (Of (k.Keyword keyword.Int)) w a b l e = int_is refl
by_terminal ns anyhow (Of (k.Keyword keyword.Char)) w a b l e = char_is refl
by_terminal ns anyhow (Of (k.Constant constant.Null)) w a b l e = absurd (true≢false (sym e))
by_terminal ns anyhow _ w a b l e = absurd (true≢false (sym e))

pub base_told : (ns : Names) (anyhow : Bool) (t : Token) → on ns (is_base anyhow) (kind t) ≡ true → BaseIs ns anyhow t (base_of t)
base_told ns anyhow t e = by_terminal ns anyhow t.terminal t.bytes t.start t.end t.begins_line e

-- `void` has stars where an object must stand
pub object_fits : (c : CType) (v object : Bool) → is_void_base c.base ≡ v → IfMust (object && v) (not (c.stars == 0)) → IfMust object (is_object c)
object_fits c v object e m i = by_void v e m
  where
    by_void : (v : Bool) → is_void_base c.base ≡ v → IfMust (object && v) (not (c.stars == 0)) → is_object c ≡ true
    by_void true e m = ap (λ (b : Bool). not (b && c.stars == 0)) e ∙ m (ap (λ (b : Bool). b && true) i)
    by_void false e m = ap (λ (b : Bool). not (b && c.stars == 0)) e

pub sound_base : (ns : Names) (anyhow object : Bool) (u w : Word) (x : CType) → ReadsConsts u (is_some_word u) → Told Meant (at ns (AnyType anyhow object)) (base_behind ns anyhow object u (λ c. c)) w x
    → IsType ns anyhow object (u ++ w) x
sound_base ns anyhow object u w x c (took t e (got {u = p} y m (gave a))) = record {
  reads = subst (λ (z : Word). ReadsType ns anyhow (u ++ t ∷ z) y) (sym (append-nil p)) (m.reads ns anyhow c (base_told ns anyhow t e));
  fits = object_fits y (is_void t) object (ap is_void_base m.base) m.some;
}

pub sound_any_type : (ns : Names) (anyhow object : Bool) → Holds ns (AnyType anyhow object)
unfolding form
sound_any_type ns anyhow object w x (one (took t e (got {u = u} {v = v} y m d))) =
    subst (λ (z : Word). IsType ns anyhow object (t ∷ z ++ v) x) m.same (sound_base ns anyhow object (t ∷ y) v x (more_const (is_word ns keyword.Const t e) (subst (λ (z : Word). ReadsConsts z (is_some_word y)) (sym m.same) m.reads)) d)
sound_any_type ns anyhow object w x (other d) = sound_base ns anyhow object [] w x no_const d

-- behind `const`
key_in : (ns : Names) (t : Token) (y u v : Word) (x : CType) → on ns (word_is keyword.Const) (kind t) ≡ true → AreConsts u y → Told Meant (at ns KeyType) (base_behind ns true true (t ∷ y) (λ c. c)) v x
    → IsType ns true true (t ∷ (u ++ v)) x
key_in ns t y u v x e m (took b f (got {u = p} z n (gave a))) = record {
  reads = subst (λ (q : Word). ReadsType ns true (t ∷ (q ++ (b ∷ (p ++ [])))) z) m.same (subst (λ (q : Word). ReadsType ns true (t ∷ (y ++ (b ∷ q))) z) (sym (append-nil p))
      (n.reads ns true (more_const (is_word ns keyword.Const t e) (subst (λ (z : Word). ReadsConsts z (is_some_word y)) (sym m.same) m.reads)) (base_told ns true b f)));
  fits = object_fits z (is_void b) true (ap is_void_base n.base) n.some;
}

-- a word of its own is a base
key_base : (ns : Names) (t : Token) → on ns is_key_base (kind t) ≡ true → on ns (is_base true) (kind t) ≡ true
key_base ns t e = within ns is_key_base (is_base true) refl (kind t) e

pub sound_key_type : (ns : Names) → Holds ns KeyType
unfolding form
sound_key_type ns w x (one (took t e (got {u = u} {v = v} y m d))) = key_in ns t y u v x e m d
sound_key_type ns w x (other (took t e (got {u = p} y m (gave a)))) = record {
  reads = subst (λ (z : Word). ReadsType ns true (t ∷ z) y) (sym (append-nil p)) (m.reads ns true no_const (base_told ns true t (key_base ns t e)));
  fits = object_fits y (is_void t) true (ap is_void_base m.base) m.some;
}
