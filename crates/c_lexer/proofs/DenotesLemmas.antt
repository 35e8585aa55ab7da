-- What stands between quotes, and what it denotes.
use Rattle.std.proofs.Common.{◌≡◌, ◌≢◌, append_assoc, ℕ, zero, suc, ◌+◌, ◌-◌, ◌<◌, true, false, ◌&&◌, ◌==◌, nat_lt, List, [], ◌∷◌, ◌++◌, length, take, get_or, Option, Some, None, refl, sym, ap, ap₂, subst, ◌∙◌, option_and_then, length-append, arith}
use Rattle.std.specs.Option.{option_map}
use Rattle.std.proofs.lemmas.Bool.{cond_both, and_parts, eqb-true, eqb-false, ltb-true, lt-ltb, ne_eqb}
use Rattle.std.proofs.lemmas.List.{take_at}
use Rattle.c_lexer.specs.declared.texts.Escape.{Escape}
use Rattle.c_lexer.specs.Bytes.{is_octal_digit}
use Rattle.c_lexer.specs.Texts.{simple_escape, octal_value, octal_of, octal_escape, escape, quoted_behind, whole_escape, character_byte, denoted, denoted_behind, with_escape, text_value}
use Rattle.c_lexer.specs.Written.{Denotes, nothing, byte, simple, octal}
use Rattle.c_lexer.proofs.FitLemmas.{there}
use Rattle.c_lexer.proofs.TextLemmas.{quoted_escape, quoted_plain, denoted_byte, denoted_by}

-- ---- escapes

simple_no_digit : (c b : ℕ) → simple_escape c ≡ Some b → is_octal_digit c ≡ false
simple_no_digit c b = cond_both (c == 34) _ _ P (λ e h. subst (λ x. is_octal_digit x ≡ false) (sym (eqb-true c 34 e)) refl) (λ _. cond_both (c == 39) _ _ P (λ e h. subst (λ x. is_octal_digit x ≡ false) (sym (eqb-true c 39 e)) refl) (λ _. cond_both (c == 92) _ _ P (λ e h. subst (λ x. is_octal_digit x ≡ false) (sym (eqb-true c 92 e)) refl) (λ _. cond_both (c == 97) _ _ P (λ e h. subst (λ x. is_octal_digit x ≡ false) (sym (eqb-true c 97 e)) refl) (λ _. cond_both (c == 98) _ _ P (λ e h. subst (λ x. is_octal_digit x ≡ false) (sym (eqb-true c 98 e)) refl) (λ _. cond_both (c == 102) _ _ P (λ e h. subst (λ x. is_octal_digit x ≡ false) (sym (eqb-true c 102 e)) refl) (λ _. cond_both (c == 110) _ _ P (λ e h. subst (λ x. is_octal_digit x ≡ false) (sym (eqb-true c 110 e)) refl) (λ _. cond_both (c == 114) _ _ P (λ e h. subst (λ x. is_octal_digit x ≡ false) (sym (eqb-true c 114 e)) refl) (λ _. cond_both (c == 116) _ _ P (λ e h. subst (λ x. is_octal_digit x ≡ false) (sym (eqb-true c 116 e)) refl) (λ _. cond_both (c == 118) _ _ P (λ e h. subst (λ x. is_octal_digit x ≡ false) (sym (eqb-true c 118 e)) refl) (λ _. λ h. absurd cc))))))))))
  where
    P : Option ℕ → Type 0
    P o = o ≡ Some b → is_octal_digit c ≡ false

escape_simple : (c b : ℕ) (y : List ℕ) → simple_escape c ≡ Some b → escape (c ∷ y) ≡ Some (record { byte = b; len = 1 })
escape_simple c b y h = rw (simple_no_digit c b h, h) refl

escape_octal : (x y z : ℕ) (w : List ℕ) → is_octal_digit x ≡ true → is_octal_digit y ≡ true → is_octal_digit z ≡ true → octal_value x y z < 256 → escape (x ∷ y ∷ z ∷ w) ≡ Some (record { byte = octal_value x y z; len = 3 })
escape_octal x y z w a b c h = rw (a, b, c, lt-ltb (octal_value x y z) 256 h) refl

-- the two forms of an escape
data EscapeIs : List ℕ → Escape → Type 0 where
  simple_is : (c b : ℕ) (y : List ℕ) → simple_escape c ≡ Some b → EscapeIs (c ∷ y) (record { byte = b; len = 1 })
  octal_is : (x y z : ℕ) (w : List ℕ) → is_octal_digit x ≡ true → is_octal_digit y ≡ true → is_octal_digit z ≡ true → octal_value x y z < 256 → EscapeIs (x ∷ y ∷ z ∷ w) (record { byte = octal_value x y z; len = 3 })

octal_form : (z : List ℕ) (e : Escape) → is_octal_digit (get_or z 0 0) ≡ true → octal_escape (get_or z 0 0) (get_or z 1 0) (get_or z 2 0) ≡ Some e → EscapeIs z e
octal_form z e first = cond_both (is_octal_digit (get_or z 0 0) && is_octal_digit (get_or z 1 0) && is_octal_digit (get_or z 2 0)) _ _ (λ o. o ≡ Some e → EscapeIs z e)
    (λ all h. let fronts = and_parts (is_octal_digit (get_or z 0 0) && is_octal_digit (get_or z 1 0)) (is_octal_digit (get_or z 2 0)) all in
    let two = and_parts (is_octal_digit (get_or z 0 0)) (is_octal_digit (get_or z 1 0)) fronts.0 in
    shape z (there is_octal_digit z 2 refl fronts.1) first two.1 fronts.1 h)
    (λ _ h. absurd cc)
  where
    shape : (z : List ℕ) → 2 < length z → is_octal_digit (get_or z 0 0) ≡ true → is_octal_digit (get_or z 1 0) ≡ true → is_octal_digit (get_or z 2 0) ≡ true → octal_of (octal_value (get_or z 0 0) (get_or z 1 0) (get_or z 2 0)) ≡ Some e → EscapeIs z e
    shape [] long a b c h = absurd (omega arith)
    shape (x ∷ []) long a b c h = absurd (omega arith)
    shape (x ∷ y ∷ []) long a b c h = absurd (omega arith)
    shape (x ∷ y ∷ z ∷ w) long a b c given = cond_both (nat_lt (octal_value x y z) 256) _ _ (λ o. o ≡ Some e → EscapeIs (x ∷ y ∷ z ∷ w) e)
        (λ small h. subst (EscapeIs (x ∷ y ∷ z ∷ w)) (let same : record { byte = octal_value x y z; len = 3 } ≡ e = cc in same) (octal_is x y z w a b c (ltb-true (octal_value x y z) 256 small)))
        (λ _ h. absurd cc) given

escape_is : (z : List ℕ) (e : Escape) → escape z ≡ Some e → EscapeIs z e
escape_is [] e h = absurd cc
escape_is (c ∷ y) e given = cond_both (is_octal_digit c) _ _ (λ o. o ≡ Some e → EscapeIs (c ∷ y) e) (λ digit h. octal_form (c ∷ y) e digit h) (λ _. by_simple (simple_escape c) refl) given
  where
    by_simple : (o : Option ℕ) → simple_escape c ≡ o → option_map (λ v. record { byte = v; len = 1 }) o ≡ Some e → EscapeIs (c ∷ y) e
    by_simple None s h = absurd cc
    by_simple (Some b) s h = subst (EscapeIs (c ∷ y)) (let same : record { byte = b; len = 1 } ≡ e = cc in same) (simple_is c b y s)

-- ---- from what is written to what is found

module _ (q : ℕ) (same : (q == q) ≡ true) (other : 92 ≢ q) where
  pub quoted_of : (body bytes rest : List ℕ) → Denotes q body bytes → quoted_behind 0 q (body ++ q ∷ rest) ≡ Some (length body)
  quoted_of _ _ rest nothing = rw same refl
  quoted_of _ _ rest (byte b {body} {bytes} ne line slash more) = quoted_plain q b (body ++ q ∷ rest) ne line slash ∙ ap (option_map (λ (m : ℕ). suc m)) (quoted_of body bytes rest more)
  quoted_of _ _ rest (simple c b {body} {bytes} is more) =
      quoted_escape q 92 (c ∷ body ++ q ∷ rest) (record { byte = b; len = 1 }) other refl (escape_simple c b (body ++ q ∷ rest) is)
      ∙ ap (λ o. option_map (λ (m : ℕ). suc m) (option_map (λ (m : ℕ). suc m) o)) (quoted_of body bytes rest more)
  quoted_of _ _ rest (octal x y z {body} {bytes} a b c small more) =
      quoted_escape q 92 (x ∷ y ∷ z ∷ body ++ q ∷ rest) (record { byte = octal_value x y z; len = 3 }) other refl (escape_octal x y z (body ++ q ∷ rest) a b c small)
      ∙ ap (λ o. option_map (λ (m : ℕ). suc m) (option_map (λ (m : ℕ). suc m) (option_map (λ (m : ℕ). suc m) (option_map (λ (m : ℕ). suc m) o)))) (quoted_of body bytes rest more)

pub denoted_of : (q : ℕ) (body bytes : List ℕ) → Denotes q body bytes → denoted body ≡ bytes
denoted_of q _ _ nothing = refl
denoted_of q _ _ (byte b {body} {bytes} ne line slash more) = denoted_byte b body slash ∙ ap (λ x. b ∷ x) (denoted_of q body bytes more)
denoted_of q _ _ (simple c b {body} {bytes} is more) = denoted_by 92 (c ∷ body) refl ∙ ap (λ o. with_escape o (λ n. denoted_behind n (c ∷ body))) (escape_simple c b body is) ∙ ap (λ x. b ∷ x) (denoted_of q body bytes more)
denoted_of q _ _ (octal x y z {body} {bytes} a b c small more) =
    denoted_by 92 (x ∷ y ∷ z ∷ body) refl ∙ ap (λ o. with_escape o (λ n. denoted_behind n (x ∷ y ∷ z ∷ body))) (escape_octal x y z body a b c small) ∙ ap (λ w. octal_value x y z ∷ w) (denoted_of q body bytes more)

pub text_denotes : (body bytes : List ℕ) → Denotes 34 body bytes → text_value (34 ∷ body ++ 34 ∷ []) ≡ bytes
text_denotes body bytes d =
    ap denoted (take_at body (34 ∷ []) (length (34 ∷ body ++ 34 ∷ []) - 2) (omega (arith, length-append body (34 ∷ [])))) ∙ denoted_of 34 body bytes d

-- ---- from what is found to what is written

-- bytes that denote some in front of a quote
pub record Quoted (q : ℕ) (z : List ℕ) (n : ℕ) : Type 0 where
  pub bytes : List ℕ
  pub denotes : Denotes q (take n z) bytes
  pub closed : take (suc n) z ≡ take n z ++ q ∷ []

more_quoted : (q : ℕ) (u z : List ℕ) (n m : ℕ) (f : List ℕ → List ℕ) → ((body bytes : List ℕ) → Denotes q body bytes → Denotes q (u ++ body) (f bytes)) → m ≡ length u + n → Quoted q z n → Quoted q (u ++ z) m
more_quoted q u z n m f more count d = subst (Quoted q (u ++ z)) (sym count) (record {
  bytes = f d.bytes;
  denotes = subst (λ x. Denotes q x (f d.bytes)) (sym (front n)) (more (take n z) d.bytes d.denotes);
  closed = next u ∙ ap (λ x. u ++ x) d.closed ∙ sym (append_assoc u (take n z) (q ∷ [])) ∙ ap (λ x. x ++ q ∷ []) (sym (front n));
})
  where
    front_of : (u : List ℕ) (k : ℕ) → take (length u + k) (u ++ z) ≡ u ++ take k z
    front_of [] k = ap (λ (i : ℕ). take i z) (let e : 0 + k ≡ k = omega arith in e)
    front_of (b ∷ u) k = ap (λ (i : ℕ). take i (b ∷ u ++ z)) (let e : suc (length u) + k ≡ suc (length u + k) = omega arith in e) ∙ ap (λ x. b ∷ x) (front_of u k)

    front : (k : ℕ) → take (length u + k) (u ++ z) ≡ u ++ take k z
    front = front_of u

    next : (u : List ℕ) → take (suc (length u + n)) (u ++ z) ≡ u ++ take (suc n) z
    next u = ap (λ (i : ℕ). take i (u ++ z)) (let e : suc (length u + n) ≡ length u + suc n = omega arith in e) ∙ front_of u (suc n)

-- how far a quote is behind some bytes more
one_less : (o : Option ℕ) (n : ℕ) → option_map (λ m. suc m) o ≡ Some n → (m : ℕ) × (o ≡ Some m) × (n ≡ suc m)
one_less None n h = absurd cc
one_less (Some m) n h = (m, refl, (let same : suc m ≡ n = cc in sym same))

pub quoted_is : (f q : ℕ) (z : List ℕ) (n : ℕ) → length z < f → quoted_behind 0 q z ≡ Some n → Quoted q z n
quoted_is zero q z n small h = absurd (omega arith)
quoted_is (suc f) q [] n small h = absurd cc
quoted_is (suc f) q (b ∷ z) n small given = cond_both (b == q) _ _ P (λ e h. ended n (eqb-true b q e) (let same : 0 ≡ n = cc in same))
    (λ e. cond_both (b == 10) _ _ P (λ g h. absurd cc)
    (λ g. cond_both (b == 92) _ _ P (λ k. escaped (λ y m t g. quoted_is f q y m t g) (eqb-true b 92 k) (escape z) refl) (λ k h. let l = one_less (quoted_behind 0 q z) n h in
    more_quoted q (b ∷ []) z l.0 n (λ x. b ∷ x) (λ body bytes d. byte b (eqb-false b q e) (eqb-false b 10 g) (eqb-false b 92 k) d) (let c : n ≡ suc l.0 = l.2 in omega arith) (quoted_is f q z l.0 (omega arith) l.1)))) given
  where
    P : Option ℕ → Type 0
    P o = o ≡ Some n → Quoted q (b ∷ z) n

    ended : (n : ℕ) → b ≡ q → 0 ≡ n → Quoted q (b ∷ z) n
    ended n is e = subst (Quoted q (b ∷ z)) e (record { bytes = []; denotes = nothing; closed = ap (λ (x : ℕ). x ∷ []) is })

    by_form : ((y : List ℕ) (m : ℕ) → length y < f → quoted_behind 0 q y ≡ Some m → Quoted q y m) → (y : List ℕ) (e : Escape) → EscapeIs y e → length y < suc (length z) → length y < f → option_map (λ m. suc m) (quoted_behind e.len q y) ≡ Some n → Quoted q (92 ∷ y) n
    by_form again _ _ (simple_is c v y is) s t h =
        let one = one_less (quoted_behind 1 q (c ∷ y)) n h in
        let two = one_less (quoted_behind 0 q y) one.0 one.1 in
        more_quoted q (92 ∷ c ∷ []) y two.0 n (λ x. v ∷ x) (λ body bytes d. simple c v is d) (let i : n ≡ suc one.0 = one.2 in let j : one.0 ≡ suc two.0 = two.2 in omega arith) (again y two.0 (omega arith) two.1)
    by_form again _ _ (octal_is u v w y a b c value) s t h =
        let one = one_less (quoted_behind 3 q (u ∷ v ∷ w ∷ y)) n h in
        let two = one_less (quoted_behind 2 q (v ∷ w ∷ y)) one.0 one.1 in
        let three = one_less (quoted_behind 1 q (w ∷ y)) two.0 two.1 in
        let four = one_less (quoted_behind 0 q y) three.0 three.1 in
        more_quoted q (92 ∷ u ∷ v ∷ w ∷ []) y four.0 n (λ x. octal_value u v w ∷ x) (λ body bytes d. octal u v w a b c value d) (let i : n ≡ suc one.0 = one.2 in let j : one.0 ≡ suc two.0 = two.2 in let k : two.0 ≡ suc three.0 = three.2 in let l : three.0 ≡ suc four.0 = four.2 in omega arith) (again y four.0 (omega arith) four.1)

    escaped : ((y : List ℕ) (m : ℕ) → length y < f → quoted_behind 0 q y ≡ Some m → Quoted q y m) → b ≡ 92 → (o : Option Escape) → escape z ≡ o → P (option_and_then (λ e. option_map (λ m. suc m) (quoted_behind e.len q z)) o)
    escaped again is None found h = absurd cc
    escaped again is (Some e) found h = subst (λ x. Quoted q (x ∷ z) n) (sym is) (by_form again z e (escape_is z e found) (omega arith) (omega arith) h)

-- ---- characters

no_bytes : (z : List ℕ) → (suc (length z) == 1) ≡ true → z ≡ []
no_bytes [] h = refl
no_bytes (b ∷ z) h = let e : suc (suc (length z)) ≡ 1 = eqb-true (suc (suc (length z))) 1 h in absurd (omega arith)

nothing_denotes : (body bytes : List ℕ) → body ≡ [] → Denotes 39 body bytes → bytes ≡ []
nothing_denotes _ _ e nothing = refl
nothing_denotes _ _ e (byte b ne line slash more) = absurd cc
nothing_denotes _ _ e (simple c b is more) = absurd cc
nothing_denotes _ _ e (octal x y z a b c small more) = absurd cc

-- a character that is found denotes its byte
pub character_denotes : (body bytes : List ℕ) (v : ℕ) → Denotes 39 body bytes → character_byte body ≡ Some v → (bytes ≡ v ∷ []) × (body ≢ 0 ∷ [])
character_denotes _ _ v nothing h = absurd cc
character_denotes _ _ v (byte b {body} {bytes} ne line slash more) given = cond_both (b == 0) _ _ P (λ _ h. absurd cc)
    (λ zero. cond_both (b == 92) _ _ P (λ e h. absurd (slash (eqb-true b 92 e)))
    (λ _. cond_both (suc (length body) == 1) _ _ P (λ one h. (ap₂ (λ (x : ℕ) (w : List ℕ). x ∷ w) (let same : b ≡ v = cc in same) (nothing_denotes body bytes (no_bytes body one) more), λ e. eqb-false b 0 zero (ap (λ x. get_or x 0 0) e))) (λ _ h. absurd cc))) given
  where
    P : Option ℕ → Type 0
    P o = o ≡ Some v → (b ∷ bytes ≡ v ∷ []) × (b ∷ body ≢ 0 ∷ [])
character_denotes _ _ v (simple c b {body} {bytes} is more) given = cond_both (suc (suc (length body)) == 2) _ _ P (λ one h. (ap₂ (λ (x : ℕ) (w : List ℕ). x ∷ w) (let same : b ≡ v = cc in same) (nothing_denotes body bytes (empty body one) more), λ e. absurd (differ (ap (λ x. get_or x 0 0) e)))) (λ _ h. absurd cc)
    (ap (option_and_then (whole_escape (suc (suc (length body))))) (sym (escape_simple c b body is)) ∙ given)
  where
    P : Option ℕ → Type 0
    P o = o ≡ Some v → (b ∷ bytes ≡ v ∷ []) × (92 ∷ c ∷ body ≢ 0 ∷ [])

    differ : ◌≡◌ {A = ℕ} 92 0 → ⊥
    differ e = omega arith

    empty : (z : List ℕ) → (suc (suc (length z)) == 2) ≡ true → z ≡ []
    empty [] h = refl
    empty (b ∷ z) h = let e : suc (suc (suc (length z))) ≡ 2 = eqb-true (suc (suc (suc (length z)))) 2 h in absurd (omega arith)
character_denotes _ _ v (octal x y z {body} {bytes} a b c small more) given = cond_both (suc (suc (suc (suc (length body)))) == 4) _ _ P (λ one h. (ap₂ (λ (x : ℕ) (w : List ℕ). x ∷ w) (let same : octal_value x y z ≡ v = cc in same) (nothing_denotes body bytes (empty body one) more), λ e. absurd (differ (ap (λ x. get_or x 0 0) e)))) (λ _ h. absurd cc)
    (ap (option_and_then (whole_escape (suc (suc (suc (suc (length body))))))) (sym (escape_octal x y z body a b c small)) ∙ given)
  where
    P : Option ℕ → Type 0
    P o = o ≡ Some v → (octal_value x y z ∷ bytes ≡ v ∷ []) × (92 ∷ x ∷ y ∷ z ∷ body ≢ 0 ∷ [])

    differ : ◌≡◌ {A = ℕ} 92 0 → ⊥
    differ e = omega arith

    empty : (w : List ℕ) → (suc (suc (suc (suc (length w)))) == 4) ≡ true → w ≡ []
    empty [] h = refl
    empty (b ∷ w) h = let e : suc (suc (suc (suc (suc (length w))))) ≡ 4 = eqb-true (suc (suc (suc (suc (suc (length w)))))) 4 h in absurd (omega arith)

denotes_nothing : (body bytes : List ℕ) → bytes ≡ [] → Denotes 39 body bytes → body ≡ []
denotes_nothing _ _ e nothing = refl
denotes_nothing _ _ e (byte b ne line slash more) = absurd cc
denotes_nothing _ _ e (simple c b is more) = absurd cc
denotes_nothing _ _ e (octal x y z a b c small more) = absurd cc

-- a character that is written is found with the byte that it denotes
pub character_found : (body bytes : List ℕ) (v : ℕ) → Denotes 39 body bytes → bytes ≡ v ∷ [] → body ≢ 0 ∷ [] → character_byte body ≡ Some v
character_found _ _ v nothing e some = absurd cc
character_found _ _ v (byte b {body} {bytes} ne line slash more) e some =
    let parts : (b ≡ v) × (bytes ≡ []) = (cc, cc) in
    let no_more : body ≡ [] = denotes_nothing body bytes parts.1 more in
    let no_zero : b ≢ 0 = (λ (f : b ≡ 0). some (ap₂ (λ (x : ℕ) (w : List ℕ). x ∷ w) f no_more)) in
    let len : length body ≡ 0 = ap length no_more in
    rw (ne_eqb b 0 no_zero, ne_eqb b 92 slash, len) (ap Some parts.0)
character_found _ _ v (simple c b {body} {bytes} is more) e some =
    let parts : (b ≡ v) × (bytes ≡ []) = (cc, cc) in
    let no_more : body ≡ [] = denotes_nothing body bytes parts.1 more in
    let len : length body ≡ 0 = ap length no_more in
    ap (option_and_then (whole_escape (suc (suc (length body))))) (escape_simple c b body is) ∙ rw len (ap Some parts.0)
character_found _ _ v (octal x y z {body} {bytes} a b c small more) e some =
    let parts : (octal_value x y z ≡ v) × (bytes ≡ []) = (cc, cc) in
    let no_more : body ≡ [] = denotes_nothing body bytes parts.1 more in
    let len : length body ≡ 0 = ap length no_more in
    ap (option_and_then (whole_escape (suc (suc (suc (suc (length body))))))) (escape_octal x y z body a b c small) ∙ rw len (ap Some parts.0)
