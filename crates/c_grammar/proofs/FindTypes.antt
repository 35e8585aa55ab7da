-- Types are read by their forms.
use Rattle.std.proofs.Common.{◌≡◌, ℕ, suc, ◌==◌, Bool, true, false, not, ◌&&◌, ◌||◌, [], ◌∷◌, ◌++◌, refl, sym, ap, subst, append_assoc, true≢false}
use Rattle.c_lexer.specs.declared.token.Keyword.TheVariants as keyword
use Rattle.c_lexer.specs.declared.token.Sign.TheVariants as sign
use Rattle.c_tree.specs.declared.names.Base.{Base}
use Rattle.c_tree.specs.declared.names.CType.{CType}
use Rattle.c_tree.specs.Words.{Terminal, Token, Word, IsSign, IsWord, IsName, extent}
use Rattle.c_tree.specs.Names.{Names, role_of}
use Rattle.c_tree.specs.Make.{name_at}
use Rattle.c_tree.specs.Types.{Consts as ReadsConsts, no_const, more_const, Stars as ReadsStars, no_star, more_stars, BaseIs, void_is, int_is, char_is, named_is, ReadsType, type_is, is_object, is_void_base, can_be_type}
use Rattle.c_grammar.specs.Sorts.{kind, on}
use Rattle.c_grammar.specs.Tests.{is_base, is_key_base}
use Rattle.c_grammar.specs.Trees.{is_some_word, base_of, base_in, is_void, type_of, no_stars}
use Rattle.c_grammar.specs.Parts.{at, Consts, Stars, TypeRest, TypeMore, AnyType, KeyType}
use Rattle.c_grammar.specs.Grammar.{form, base_behind}
use Rattle.c_grammar.proofs.Told.{Told, gave, took, got, one, other, last, Texts, text_of}
use Rattle.c_grammar.proofs.Tokens.{sign_passes, word_passes, passes}
use Rattle.c_grammar.proofs.Meaning.{IfMust}
use Rattle.c_grammar.proofs.SoundTypes.{some_star}

-- any number of `const`
pub record FoundConsts (ns : Names) (w : Word) (b : Bool) : Type 0 where
  pub text : Texts (at ns Consts) w w
  pub some : is_some_word w ≡ b

pub find_consts : (ns : Names) {w : Word} {b : Bool} → ReadsConsts w b → FoundConsts ns w b
unfolding form
find_consts ns no_const = record { text = text_of ns Consts (other (gave [])); some = refl }
find_consts ns (more_const {t = t} {w = w} e d) = record { text = text_of ns Consts (one (took t (word_passes ns keyword.Const t e) (last w (find_consts ns d).text (gave (t ∷ w))))); some = refl }

-- the same of `*`
abbrev pub FoundStars : Names → Word → ℕ → Type 0
FoundStars ns w n = (must : Bool) → IfMust must (not (n == 0)) → Texts (at ns (Stars must)) w (record { word = w; stars = n })

find_star : (ns : Names) (t : Token) (u w : Word) (n : ℕ) → IsSign t sign.Star → Texts (at ns Consts) u u → Texts (at ns (Stars false)) w (record { word = w; stars = n })
    → (must : Bool) → Told Texts (at ns (Stars must)) (form ns (Stars must)) (t ∷ (u ++ w)) (record { word = t ∷ (u ++ w); stars = suc n })
unfolding form
find_star ns t u w n e c s true = took t (sign_passes ns sign.Star t e) (got u c (last (record { word = w; stars = n }) s (gave _)))
find_star ns t u w n e c s false = one (took t (sign_passes ns sign.Star t e) (got u c (last (record { word = w; stars = n }) s (gave _))))

find_no_star : (ns : Names) (must : Bool) → IfMust must false → Told Texts (at ns (Stars must)) (form ns (Stars must)) [] no_stars
unfolding form
find_no_star ns true m = absurd (true≢false (sym (m refl)))
find_no_star ns false m = other (gave no_stars)

pub find_stars : (ns : Names) {w : Word} {n : ℕ} → ReadsStars w n → FoundStars ns w n
find_stars ns no_star must m = text_of ns (Stars must) (find_no_star ns must m)
find_stars ns (more_stars {t = t} {u = u} {w = w} {n = n} e c d) must m =
    text_of ns (Stars must) (find_star ns t u w n e (find_consts ns c).text (find_stars ns d false (λ e. absurd (true≢false (sym e)))) must)

-- a base passes, and is what its token says
pub record FoundBase (ns : Names) (anyhow : Bool) (t : Token) (x : Base) : Type 0 where
  pub passes : on ns (is_base anyhow) (kind t) ≡ true
  pub same : x ≡ base_of t

pub find_base : (ns : Names) (anyhow : Bool) {t : Token} {x : Base} → BaseIs ns anyhow t x → FoundBase ns anyhow t x
find_base ns anyhow {t = t} (void_is e) = record { passes = passes ns (is_base anyhow) t e refl; same = ap (λ (x : Terminal). base_in x (name_at t)) (sym e) }
find_base ns anyhow {t = t} (int_is e) = record { passes = passes ns (is_base anyhow) t e refl; same = ap (λ (x : Terminal). base_in x (name_at t)) (sym e) }
find_base ns anyhow {t = t} (char_is e) = record { passes = passes ns (is_base anyhow) t e refl; same = ap (λ (x : Terminal). base_in x (name_at t)) (sym e) }
find_base ns anyhow {t = t} (named_is e h) = record { passes = passes ns (is_base anyhow) t e h; same = ap (λ (x : Terminal). base_in x (name_at t)) (sym e) }

-- where an object must stand, `void` has stars
must_star : (object v : Bool) (n : ℕ) → IfMust object (not (v && n == 0)) → IfMust (object && v) (not (n == 0))
must_star true true n m e = m refl
must_star true false n m e = absurd (true≢false (sym e))
must_star false v n m e = absurd (true≢false (sym e))

pub find_rest : (ns : Names) (u v w : Word) (t : Token) (n : ℕ) (must : Bool) {c : Bool} → ReadsConsts v c → FoundStars ns w n → IfMust must (not (n == 0)) → Texts (at ns (TypeRest u t must)) (v ++ w) (type_of u t v (record { word = w; stars = n }))
unfolding form
find_rest ns u v w t n must no_const s m = text_of ns (TypeRest u t must) (other (last (record { word = w; stars = n }) (s must m) (gave _)))
find_rest ns u v w t n must (more_const {t = c} {w = v0} e d) s m =
    text_of ns (TypeRest u t must) (one (took c (word_passes ns keyword.Const c e) (got v0 (find_consts ns d).text (last (record { word = w; stars = n }) (s must m) (gave _)))))

find_behind : (ns : Names) (anyhow object : Bool) (u v w : Word) (t : Token) (n : ℕ) {c : Bool} → on ns (is_base anyhow) (kind t) ≡ true → ReadsConsts v c → FoundStars ns w n → IfMust object (not (is_void t && n == 0))
    → Told Texts (at ns (AnyType anyhow object)) (base_behind ns anyhow object u (λ c. c)) (t ∷ (v ++ w)) (type_of u t v (record { word = w; stars = n }))
find_behind ns anyhow object u v w t n e c s m =
    took t e (last (type_of u t v (record { word = w; stars = n })) (find_rest ns u v w t n (object && is_void t) c s (must_star object (is_void t) n m)) (gave _))

find_whole : (ns : Names) (anyhow object : Bool) (u v w : Word) (b : Bool) (t : Token) (n : ℕ) {c : Bool} → ReadsConsts u b → on ns (is_base anyhow) (kind t) ≡ true → ReadsConsts v c → FoundStars ns w n
    → IfMust object (not (is_void t && n == 0)) → Texts (at ns (AnyType anyhow object)) (u ++ t ∷ v ++ w) (type_of u t v (record { word = w; stars = n }))
unfolding form
find_whole ns anyhow object u v w b t n no_const e c s m = text_of ns (AnyType anyhow object) (other (find_behind ns anyhow object [] v w t n e c s m))
find_whole ns anyhow object u v w b t n (more_const {t = t0} {w = u0} e0 d) e c s m =
    subst (λ (z : Word). Texts (at ns (AnyType anyhow object)) (t0 ∷ z) (type_of (t0 ∷ u0) t v (record { word = w; stars = n }))) (sym (append_assoc u0 (t ∷ v) w))
    (text_of ns (AnyType anyhow object) (one (took t0 (word_passes ns keyword.Const t0 e0) (got u0 (find_consts ns d).text (find_behind ns anyhow object (t0 ∷ u0) v w t n e c s m)))))

ap3 : {A B C D : Type 0} (f : A → B → C → D) {a a' : A} {b b' : B} {c c' : C} → a ≡ a' → b ≡ b' → c ≡ c' → f a b c ≡ f a' b' c'
ap3 f e g h = cc

pub same_type : (u v w : Word) (t : Token) (n : ℕ) {x : Base} {b c : Bool} → x ≡ base_of t → is_some_word u ≡ b → is_some_word v ≡ c
    → type_of u t v (record { word = w; stars = n }) ≡ record { base = x; is_const = b || c; stars = n; span = extent (u ++ t ∷ v ++ w) }
same_type u v w t n e f g = ap3 (λ (x : Base) (b c : Bool). record { base = x; is_const = b || c; stars = n; span = extent (u ++ t ∷ v ++ w) }) (sym e) f g

pub find_type : (ns : Names) (anyhow object : Bool) {w : Word} {c : CType} → ReadsType ns anyhow w c → IfMust object (is_object c) → Texts (at ns (AnyType anyhow object)) w c
find_type ns anyhow object (type_is {t = t} {u = u} {v = v} {w = w} {n = n} {x = x} d b e s) m =
    let h = find_base ns anyhow b in let c = find_consts ns e in
    subst (λ (y : CType). Texts (at ns (AnyType anyhow object)) (u ++ t ∷ v ++ w) y) (same_type u v w t n h.same (find_consts ns d).some c.some)
    (find_whole ns anyhow object u v w _ t n d h.passes e (find_stars ns s) (subst (λ (x : Base). IfMust object (not (is_void_base x && n == 0))) h.same m))

-- 2. Types of declarations, by what they begin with

pub data TypeStart (ns : Names) : Word → CType → Type 0 where
  key_start : {w : Word} {c : CType} → Texts (at ns KeyType) w c → TypeStart ns w c
  bare_start : (t : Token) → IsName t → can_be_type true (role_of ns t.bytes) ≡ true → TypeStart ns (t ∷ []) (type_of [] t [] no_stars)
  name_start : (t : Token) {w : Word} {c : CType} → IsName t → can_be_type true (role_of ns t.bytes) ≡ true → Texts (at ns (TypeMore [] t)) w c → TypeStart ns (t ∷ w) c

-- behind `const`
key_const : (ns : Names) (t0 t : Token) (u0 v w : Word) (n : ℕ) {b c : Bool} → IsWord t0 keyword.Const → ReadsConsts u0 b → on ns (is_base true) (kind t) ≡ true → ReadsConsts v c → FoundStars ns w n
    → IfMust true (not (is_void t && n == 0)) → Texts (at ns KeyType) (t0 ∷ (u0 ++ (t ∷ (v ++ w)))) (type_of (t0 ∷ u0) t v (record { word = w; stars = n }))
unfolding form
key_const ns t0 t u0 v w n e d b c s m = text_of ns KeyType (one (took t0 (word_passes ns keyword.Const t0 e) (got u0 (find_consts ns d).text
    (took t b (last (type_of (t0 ∷ u0) t v (record { word = w; stars = n })) (find_rest ns (t0 ∷ u0) v w t n (true && is_void t) c s (must_star true (is_void t) n m)) (gave _))))))

key_base : (ns : Names) (t : Token) (v w : Word) (n : ℕ) {c : Bool} → on ns is_key_base (kind t) ≡ true → ReadsConsts v c → FoundStars ns w n → IfMust true (not (is_void t && n == 0))
    → Texts (at ns KeyType) (t ∷ (v ++ w)) (type_of [] t v (record { word = w; stars = n }))
unfolding form
key_base ns t v w n b c s m = text_of ns KeyType (other (took t b (last (type_of [] t v (record { word = w; stars = n })) (find_rest ns [] v w t n (is_void t) c s (must_star true (is_void t) n m)) (gave _))))

pub more_const_text : (ns : Names) (u : Word) (t c : Token) (v w : Word) (n : ℕ) {b : Bool} → IsWord c keyword.Const → ReadsConsts v b → FoundStars ns w n → Texts (at ns (TypeMore u t)) (c ∷ (v ++ w)) (type_of u t (c ∷ v) (record { word = w; stars = n }))
unfolding form
more_const_text ns u t c v w n e d s =
    text_of ns (TypeMore u t) (one (took c (word_passes ns keyword.Const c e) (got v (find_consts ns d).text (last (record { word = w; stars = n }) (s false (λ e. absurd (true≢false (sym e)))) (gave _)))))

pub more_star_text : (ns : Names) (u : Word) (t : Token) (w : Word) (n : ℕ) → FoundStars ns w n → not (n == 0) ≡ true → Texts (at ns (TypeMore u t)) w (type_of u t [] (record { word = w; stars = n }))
unfolding form
more_star_text ns u t w n s m = text_of ns (TypeMore u t) (other (last (record { word = w; stars = n }) (s true (λ e. m)) (gave _)))

named_start : (ns : Names) (t : Token) (v w : Word) (n : ℕ) {c : Bool} → IsName t → can_be_type true (role_of ns t.bytes) ≡ true → ReadsConsts v c → ReadsStars w n
    → TypeStart ns (t ∷ (v ++ w)) (type_of [] t v (record { word = w; stars = n }))
named_start ns t v w n i r (more_const {t = c} {w = v0} e d) s = name_start t i r (more_const_text ns [] t c v0 w n e d (find_stars ns s))
named_start ns t v w n i r no_const no_star = bare_start t i r
named_start ns t v w n i r no_const (more_stars {n = m} e c d) = name_start t i r (more_star_text ns [] t w n (find_stars ns (more_stars e c d)) (some_star m))

base_start : (ns : Names) (t : Token) (v w : Word) (n : ℕ) {x : Base} {c : Bool} → BaseIs ns true t x → ReadsConsts v c → ReadsStars w n → IfMust true (not (is_void t && n == 0))
    → TypeStart ns (t ∷ (v ++ w)) (type_of [] t v (record { word = w; stars = n }))
base_start ns t v w n (void_is e) c s m = key_start (key_base ns t v w n (passes ns is_key_base t e refl) c (find_stars ns s) m)
base_start ns t v w n (int_is e) c s m = key_start (key_base ns t v w n (passes ns is_key_base t e refl) c (find_stars ns s) m)
base_start ns t v w n (char_is e) c s m = key_start (key_base ns t v w n (passes ns is_key_base t e refl) c (find_stars ns s) m)
base_start ns t v w n (named_is e h) c s m = named_start ns t v w n e h c s

start_in : (ns : Names) (u v w : Word) (t : Token) (n : ℕ) {x : Base} {b c : Bool} → ReadsConsts u b → BaseIs ns true t x → ReadsConsts v c → ReadsStars w n → IfMust true (not (is_void t && n == 0))
    → TypeStart ns (u ++ t ∷ v ++ w) (type_of u t v (record { word = w; stars = n }))
start_in ns u v w t n no_const b c s m = base_start ns t v w n b c s m
start_in ns u v w t n (more_const {t = t0} {w = u0} e d) b c s m = subst (λ (z : Word). TypeStart ns (t0 ∷ z) (type_of (t0 ∷ u0) t v (record { word = w; stars = n }))) (sym (append_assoc u0 (t ∷ v) w))
    (key_start (key_const ns t0 t u0 v w n e d (find_base ns true b).passes c (find_stars ns s) m))

pub start_type : (ns : Names) {w : Word} {c : CType} → ReadsType ns true w c → is_object c ≡ true → TypeStart ns w c
start_type ns (type_is {t = t} {u = u} {v = v} {w = w} {n = n} {x = x} d b e s) m =
    let h = find_base ns true b in
    subst (λ (y : CType). TypeStart ns (u ++ t ∷ v ++ w) y) (same_type u v w t n h.same (find_consts ns d).some (find_consts ns e).some)
    (start_in ns u v w t n d b e s (subst (λ (x : Base). IfMust true (not (is_void_base x && n == 0))) h.same (λ i. m)))
