-- How keywords and signs are written.
use Rattle.std.proofs.Common.{◌≡◌, ◌⊎◌, inl, inr, ℕ, true, ◌&&◌, ◌==◌, List, [], ◌∷◌, get_or, Option, Some, refl, sym, ap, subst, codes, arith}
use Rattle.std.specs.Str.{bytes_eq}
use Rattle.std.proofs.lemmas.Slice.Eq.{bytes_eq-Decides}
use Rattle.std.proofs.lemmas.Bool.{cond_both, and_parts, eqb-true}
use Rattle.vala_lexer.specs.declared.token.TokenKind.{TokenKind}
use Rattle.vala_lexer.specs.declared.token.TokenKind.TheVariants as k
use Rattle.vala_lexer.specs.Spelling.{spelling}
use Rattle.vala_lexer.specs.Words.{word_kind, keyword_in_a, keyword_in_b, keyword_in_c, keyword_in_d, keyword_in_e, keyword_in_f, keyword_in_i, keyword_in_l, keyword_in_n, keyword_in_o, keyword_in_p, keyword_in_r, keyword_in_s, keyword_in_t, keyword_in_u, keyword_in_v, keyword_in_w, keyword_in_y}
use Rattle.vala_lexer.specs.Signs.{sign_of_one, sign_of_two, sign_of_three, sign_with_equals, doubled_sign}
use Rattle.vala_lexer.specs.Written.{IsWord, IsToken}
use Rattle.vala_lexer.specs.Written as written

same_bytes : (w v : List ℕ) → bytes_eq w v ≡ true → w ≡ v
same_bytes w v h = (bytes_eq-Decides w v).0 h

module _ (w : List ℕ) where
  abbrev P : TokenKind → Type 0
  P kind = (spelling kind ≡ []) ⊎ (w ≡ spelling kind)

  spelled_a : P (keyword_in_a w)
  spelled_a = cond_both (bytes_eq w (codes "abstract")) _ _ P (λ h. inr (same_bytes w (codes "abstract") h)) (λ _. cond_both (bytes_eq w (codes "as")) _ _ P (λ h. inr (same_bytes w (codes "as") h)) (λ _. cond_both (bytes_eq w (codes "async")) _ _ P (λ h. inr (same_bytes w (codes "async") h)) (λ _. inl refl)))

  spelled_b : P (keyword_in_b w)
  spelled_b = cond_both (bytes_eq w (codes "base")) _ _ P (λ h. inr (same_bytes w (codes "base") h)) (λ _. cond_both (bytes_eq w (codes "break")) _ _ P (λ h. inr (same_bytes w (codes "break") h)) (λ _. inl refl))

  spelled_c : P (keyword_in_c w)
  spelled_c = cond_both (bytes_eq w (codes "case")) _ _ P (λ h. inr (same_bytes w (codes "case") h)) (λ _. cond_both (bytes_eq w (codes "catch")) _ _ P (λ h. inr (same_bytes w (codes "catch") h)) (λ _. cond_both (bytes_eq w (codes "class")) _ _ P (λ h. inr (same_bytes w (codes "class") h)) (λ _. cond_both (bytes_eq w (codes "const")) _ _ P (λ h. inr (same_bytes w (codes "const") h)) (λ _. cond_both (bytes_eq w (codes "construct")) _ _ P (λ h. inr (same_bytes w (codes "construct") h)) (λ _. cond_both (bytes_eq w (codes "continue")) _ _ P (λ h. inr (same_bytes w (codes "continue") h)) (λ _. inl refl))))))

  spelled_d : P (keyword_in_d w)
  spelled_d = cond_both (bytes_eq w (codes "default")) _ _ P (λ h. inr (same_bytes w (codes "default") h)) (λ _. cond_both (bytes_eq w (codes "delegate")) _ _ P (λ h. inr (same_bytes w (codes "delegate") h)) (λ _. cond_both (bytes_eq w (codes "delete")) _ _ P (λ h. inr (same_bytes w (codes "delete") h)) (λ _. cond_both (bytes_eq w (codes "do")) _ _ P (λ h. inr (same_bytes w (codes "do") h)) (λ _. inl refl))))

  spelled_e : P (keyword_in_e w)
  spelled_e = cond_both (bytes_eq w (codes "else")) _ _ P (λ h. inr (same_bytes w (codes "else") h)) (λ _. cond_both (bytes_eq w (codes "enum")) _ _ P (λ h. inr (same_bytes w (codes "enum") h)) (λ _. cond_both (bytes_eq w (codes "errordomain")) _ _ P (λ h. inr (same_bytes w (codes "errordomain") h)) (λ _. cond_both (bytes_eq w (codes "extern")) _ _ P (λ h. inr (same_bytes w (codes "extern") h)) (λ _. inl refl))))

  spelled_f : P (keyword_in_f w)
  spelled_f = cond_both (bytes_eq w (codes "false")) _ _ P (λ h. inr (same_bytes w (codes "false") h)) (λ _. cond_both (bytes_eq w (codes "finally")) _ _ P (λ h. inr (same_bytes w (codes "finally") h)) (λ _. cond_both (bytes_eq w (codes "for")) _ _ P (λ h. inr (same_bytes w (codes "for") h)) (λ _. cond_both (bytes_eq w (codes "foreach")) _ _ P (λ h. inr (same_bytes w (codes "foreach") h)) (λ _. inl refl))))

  spelled_i : P (keyword_in_i w)
  spelled_i = cond_both (bytes_eq w (codes "if")) _ _ P (λ h. inr (same_bytes w (codes "if") h)) (λ _. cond_both (bytes_eq w (codes "in")) _ _ P (λ h. inr (same_bytes w (codes "in") h)) (λ _. cond_both (bytes_eq w (codes "inline")) _ _ P (λ h. inr (same_bytes w (codes "inline") h)) (λ _. cond_both (bytes_eq w (codes "interface")) _ _ P (λ h. inr (same_bytes w (codes "interface") h)) (λ _. cond_both (bytes_eq w (codes "internal")) _ _ P (λ h. inr (same_bytes w (codes "internal") h)) (λ _. cond_both (bytes_eq w (codes "is")) _ _ P (λ h. inr (same_bytes w (codes "is") h)) (λ _. inl refl))))))

  spelled_l : P (keyword_in_l w)
  spelled_l = cond_both (bytes_eq w (codes "lock")) _ _ P (λ h. inr (same_bytes w (codes "lock") h)) (λ _. inl refl)

  spelled_n : P (keyword_in_n w)
  spelled_n = cond_both (bytes_eq w (codes "namespace")) _ _ P (λ h. inr (same_bytes w (codes "namespace") h)) (λ _. cond_both (bytes_eq w (codes "new")) _ _ P (λ h. inr (same_bytes w (codes "new") h)) (λ _. cond_both (bytes_eq w (codes "null")) _ _ P (λ h. inr (same_bytes w (codes "null") h)) (λ _. inl refl)))

  spelled_o : P (keyword_in_o w)
  spelled_o = cond_both (bytes_eq w (codes "out")) _ _ P (λ h. inr (same_bytes w (codes "out") h)) (λ _. cond_both (bytes_eq w (codes "override")) _ _ P (λ h. inr (same_bytes w (codes "override") h)) (λ _. cond_both (bytes_eq w (codes "owned")) _ _ P (λ h. inr (same_bytes w (codes "owned") h)) (λ _. inl refl)))

  spelled_p : P (keyword_in_p w)
  spelled_p = cond_both (bytes_eq w (codes "params")) _ _ P (λ h. inr (same_bytes w (codes "params") h)) (λ _. cond_both (bytes_eq w (codes "private")) _ _ P (λ h. inr (same_bytes w (codes "private") h)) (λ _. cond_both (bytes_eq w (codes "protected")) _ _ P (λ h. inr (same_bytes w (codes "protected") h)) (λ _. cond_both (bytes_eq w (codes "public")) _ _ P (λ h. inr (same_bytes w (codes "public") h)) (λ _. inl refl))))

  spelled_r : P (keyword_in_r w)
  spelled_r = cond_both (bytes_eq w (codes "ref")) _ _ P (λ h. inr (same_bytes w (codes "ref") h)) (λ _. cond_both (bytes_eq w (codes "return")) _ _ P (λ h. inr (same_bytes w (codes "return") h)) (λ _. inl refl))

  spelled_s : P (keyword_in_s w)
  spelled_s = cond_both (bytes_eq w (codes "sealed")) _ _ P (λ h. inr (same_bytes w (codes "sealed") h)) (λ _. cond_both (bytes_eq w (codes "signal")) _ _ P (λ h. inr (same_bytes w (codes "signal") h)) (λ _. cond_both (bytes_eq w (codes "sizeof")) _ _ P (λ h. inr (same_bytes w (codes "sizeof") h)) (λ _. cond_both (bytes_eq w (codes "static")) _ _ P (λ h. inr (same_bytes w (codes "static") h)) (λ _. cond_both (bytes_eq w (codes "struct")) _ _ P (λ h. inr (same_bytes w (codes "struct") h)) (λ _. cond_both (bytes_eq w (codes "switch")) _ _ P (λ h. inr (same_bytes w (codes "switch") h)) (λ _. inl refl))))))

  spelled_t : P (keyword_in_t w)
  spelled_t = cond_both (bytes_eq w (codes "this")) _ _ P (λ h. inr (same_bytes w (codes "this") h)) (λ _. cond_both (bytes_eq w (codes "throw")) _ _ P (λ h. inr (same_bytes w (codes "throw") h)) (λ _. cond_both (bytes_eq w (codes "throws")) _ _ P (λ h. inr (same_bytes w (codes "throws") h)) (λ _. cond_both (bytes_eq w (codes "true")) _ _ P (λ h. inr (same_bytes w (codes "true") h)) (λ _. cond_both (bytes_eq w (codes "try")) _ _ P (λ h. inr (same_bytes w (codes "try") h)) (λ _. cond_both (bytes_eq w (codes "typeof")) _ _ P (λ h. inr (same_bytes w (codes "typeof") h)) (λ _. inl refl))))))

  spelled_u : P (keyword_in_u w)
  spelled_u = cond_both (bytes_eq w (codes "unowned")) _ _ P (λ h. inr (same_bytes w (codes "unowned") h)) (λ _. cond_both (bytes_eq w (codes "using")) _ _ P (λ h. inr (same_bytes w (codes "using") h)) (λ _. inl refl))

  spelled_v : P (keyword_in_v w)
  spelled_v = cond_both (bytes_eq w (codes "var")) _ _ P (λ h. inr (same_bytes w (codes "var") h)) (λ _. cond_both (bytes_eq w (codes "virtual")) _ _ P (λ h. inr (same_bytes w (codes "virtual") h)) (λ _. cond_both (bytes_eq w (codes "void")) _ _ P (λ h. inr (same_bytes w (codes "void") h)) (λ _. inl refl)))

  spelled_w : P (keyword_in_w w)
  spelled_w = cond_both (bytes_eq w (codes "weak")) _ _ P (λ h. inr (same_bytes w (codes "weak") h)) (λ _. cond_both (bytes_eq w (codes "while")) _ _ P (λ h. inr (same_bytes w (codes "while") h)) (λ _. cond_both (bytes_eq w (codes "with")) _ _ P (λ h. inr (same_bytes w (codes "with") h)) (λ _. inl refl)))

  spelled_y : P (keyword_in_y w)
  spelled_y = cond_both (bytes_eq w (codes "yield")) _ _ P (λ h. inr (same_bytes w (codes "yield") h)) (λ _. inl refl)

  spelled_word : P (word_kind w)
  spelled_word = cond_both (get_or w 0 0 == 97) _ _ P (λ _. spelled_a) (λ _. cond_both (get_or w 0 0 == 98) _ _ P (λ _. spelled_b) (λ _. cond_both (get_or w 0 0 == 99) _ _ P (λ _. spelled_c) (λ _. cond_both (get_or w 0 0 == 100) _ _ P (λ _. spelled_d) (λ _. cond_both (get_or w 0 0 == 101) _ _ P (λ _. spelled_e) (λ _. cond_both (get_or w 0 0 == 102) _ _ P (λ _. spelled_f) (λ _. cond_both (get_or w 0 0 == 105) _ _ P (λ _. spelled_i) (λ _. cond_both (get_or w 0 0 == 108) _ _ P (λ _. spelled_l) (λ _. cond_both (get_or w 0 0 == 110) _ _ P (λ _. spelled_n) (λ _. cond_both (get_or w 0 0 == 111) _ _ P (λ _. spelled_o) (λ _. cond_both (get_or w 0 0 == 112) _ _ P (λ _. spelled_p) (λ _. cond_both (get_or w 0 0 == 114) _ _ P (λ _. spelled_r) (λ _. cond_both (get_or w 0 0 == 115) _ _ P (λ _. spelled_s) (λ _. cond_both (get_or w 0 0 == 116) _ _ P (λ _. spelled_t) (λ _. cond_both (get_or w 0 0 == 117) _ _ P (λ _. spelled_u) (λ _. cond_both (get_or w 0 0 == 118) _ _ P (λ _. spelled_v) (λ _. cond_both (get_or w 0 0 == 119) _ _ P (λ _. spelled_w) (λ _. cond_both (get_or w 0 0 == 121) _ _ P (λ _. spelled_y) (λ _. inl refl))))))))))))))))))

module _ (b : ℕ) (kind : TokenKind) where
  spelled_one : sign_of_one b ≡ Some kind → b ∷ [] ≡ spelling kind
  spelled_one = cond_both (b == 123) _ _ P (λ e h. subst (λ kind. b ∷ [] ≡ spelling kind) (let same : k.OpenBrace ≡ kind = cc in same) (ap (λ (x : ℕ). x ∷ []) (eqb-true b 123 e))) (λ _. cond_both (b == 125) _ _ P (λ e h. subst (λ kind. b ∷ [] ≡ spelling kind) (let same : k.CloseBrace ≡ kind = cc in same) (ap (λ (x : ℕ). x ∷ []) (eqb-true b 125 e))) (λ _. cond_both (b == 40) _ _ P (λ e h. subst (λ kind. b ∷ [] ≡ spelling kind) (let same : k.OpenParen ≡ kind = cc in same) (ap (λ (x : ℕ). x ∷ []) (eqb-true b 40 e))) (λ _. cond_both (b == 41) _ _ P (λ e h. subst (λ kind. b ∷ [] ≡ spelling kind) (let same : k.CloseParen ≡ kind = cc in same) (ap (λ (x : ℕ). x ∷ []) (eqb-true b 41 e))) (λ _. cond_both (b == 91) _ _ P (λ e h. subst (λ kind. b ∷ [] ≡ spelling kind) (let same : k.OpenBracket ≡ kind = cc in same) (ap (λ (x : ℕ). x ∷ []) (eqb-true b 91 e))) (λ _. cond_both (b == 93) _ _ P (λ e h. subst (λ kind. b ∷ [] ≡ spelling kind) (let same : k.CloseBracket ≡ kind = cc in same) (ap (λ (x : ℕ). x ∷ []) (eqb-true b 93 e))) (λ _. cond_both (b == 44) _ _ P (λ e h. subst (λ kind. b ∷ [] ≡ spelling kind) (let same : k.Comma ≡ kind = cc in same) (ap (λ (x : ℕ). x ∷ []) (eqb-true b 44 e))) (λ _. cond_both (b == 59) _ _ P (λ e h. subst (λ kind. b ∷ [] ≡ spelling kind) (let same : k.Semicolon ≡ kind = cc in same) (ap (λ (x : ℕ). x ∷ []) (eqb-true b 59 e))) (λ _. cond_both (b == 58) _ _ P (λ e h. subst (λ kind. b ∷ [] ≡ spelling kind) (let same : k.Colon ≡ kind = cc in same) (ap (λ (x : ℕ). x ∷ []) (eqb-true b 58 e))) (λ _. cond_both (b == 46) _ _ P (λ e h. subst (λ kind. b ∷ [] ≡ spelling kind) (let same : k.Dot ≡ kind = cc in same) (ap (λ (x : ℕ). x ∷ []) (eqb-true b 46 e))) (λ _. cond_both (b == 63) _ _ P (λ e h. subst (λ kind. b ∷ [] ≡ spelling kind) (let same : k.Question ≡ kind = cc in same) (ap (λ (x : ℕ). x ∷ []) (eqb-true b 63 e))) (λ _. cond_both (b == 61) _ _ P (λ e h. subst (λ kind. b ∷ [] ≡ spelling kind) (let same : k.Assign ≡ kind = cc in same) (ap (λ (x : ℕ). x ∷ []) (eqb-true b 61 e))) (λ _. cond_both (b == 60) _ _ P (λ e h. subst (λ kind. b ∷ [] ≡ spelling kind) (let same : k.Less ≡ kind = cc in same) (ap (λ (x : ℕ). x ∷ []) (eqb-true b 60 e))) (λ _. cond_both (b == 62) _ _ P (λ e h. subst (λ kind. b ∷ [] ≡ spelling kind) (let same : k.Greater ≡ kind = cc in same) (ap (λ (x : ℕ). x ∷ []) (eqb-true b 62 e))) (λ _. cond_both (b == 43) _ _ P (λ e h. subst (λ kind. b ∷ [] ≡ spelling kind) (let same : k.Plus ≡ kind = cc in same) (ap (λ (x : ℕ). x ∷ []) (eqb-true b 43 e))) (λ _. cond_both (b == 45) _ _ P (λ e h. subst (λ kind. b ∷ [] ≡ spelling kind) (let same : k.Minus ≡ kind = cc in same) (ap (λ (x : ℕ). x ∷ []) (eqb-true b 45 e))) (λ _. cond_both (b == 42) _ _ P (λ e h. subst (λ kind. b ∷ [] ≡ spelling kind) (let same : k.Star ≡ kind = cc in same) (ap (λ (x : ℕ). x ∷ []) (eqb-true b 42 e))) (λ _. cond_both (b == 47) _ _ P (λ e h. subst (λ kind. b ∷ [] ≡ spelling kind) (let same : k.Slash ≡ kind = cc in same) (ap (λ (x : ℕ). x ∷ []) (eqb-true b 47 e))) (λ _. cond_both (b == 37) _ _ P (λ e h. subst (λ kind. b ∷ [] ≡ spelling kind) (let same : k.Percent ≡ kind = cc in same) (ap (λ (x : ℕ). x ∷ []) (eqb-true b 37 e))) (λ _. cond_both (b == 38) _ _ P (λ e h. subst (λ kind. b ∷ [] ≡ spelling kind) (let same : k.Ampersand ≡ kind = cc in same) (ap (λ (x : ℕ). x ∷ []) (eqb-true b 38 e))) (λ _. cond_both (b == 124) _ _ P (λ e h. subst (λ kind. b ∷ [] ≡ spelling kind) (let same : k.Bar ≡ kind = cc in same) (ap (λ (x : ℕ). x ∷ []) (eqb-true b 124 e))) (λ _. cond_both (b == 94) _ _ P (λ e h. subst (λ kind. b ∷ [] ≡ spelling kind) (let same : k.Caret ≡ kind = cc in same) (ap (λ (x : ℕ). x ∷ []) (eqb-true b 94 e))) (λ _. cond_both (b == 33) _ _ P (λ e h. subst (λ kind. b ∷ [] ≡ spelling kind) (let same : k.Not ≡ kind = cc in same) (ap (λ (x : ℕ). x ∷ []) (eqb-true b 33 e))) (λ _. cond_both (b == 126) _ _ P (λ e h. subst (λ kind. b ∷ [] ≡ spelling kind) (let same : k.Tilde ≡ kind = cc in same) (ap (λ (x : ℕ). x ∷ []) (eqb-true b 126 e))) (λ _. λ h. absurd cc))))))))))))))))))))))))
    where
      P : Option TokenKind → Type 0
      P o = o ≡ Some kind → b ∷ [] ≡ spelling kind

  spelled_equals : sign_with_equals b ≡ Some kind → b ∷ 61 ∷ [] ≡ spelling kind
  spelled_equals = cond_both (b == 61) _ _ P (λ e h. subst (λ kind. b ∷ 61 ∷ [] ≡ spelling kind) (let same : k.Equal ≡ kind = cc in same) (ap (λ (x : ℕ). x ∷ 61 ∷ []) (eqb-true b 61 e))) (λ _. cond_both (b == 33) _ _ P (λ e h. subst (λ kind. b ∷ 61 ∷ [] ≡ spelling kind) (let same : k.NotEqual ≡ kind = cc in same) (ap (λ (x : ℕ). x ∷ 61 ∷ []) (eqb-true b 33 e))) (λ _. cond_both (b == 60) _ _ P (λ e h. subst (λ kind. b ∷ 61 ∷ [] ≡ spelling kind) (let same : k.LessEqual ≡ kind = cc in same) (ap (λ (x : ℕ). x ∷ 61 ∷ []) (eqb-true b 60 e))) (λ _. cond_both (b == 62) _ _ P (λ e h. subst (λ kind. b ∷ 61 ∷ [] ≡ spelling kind) (let same : k.GreaterEqual ≡ kind = cc in same) (ap (λ (x : ℕ). x ∷ 61 ∷ []) (eqb-true b 62 e))) (λ _. cond_both (b == 43) _ _ P (λ e h. subst (λ kind. b ∷ 61 ∷ [] ≡ spelling kind) (let same : k.PlusAssign ≡ kind = cc in same) (ap (λ (x : ℕ). x ∷ 61 ∷ []) (eqb-true b 43 e))) (λ _. cond_both (b == 45) _ _ P (λ e h. subst (λ kind. b ∷ 61 ∷ [] ≡ spelling kind) (let same : k.MinusAssign ≡ kind = cc in same) (ap (λ (x : ℕ). x ∷ 61 ∷ []) (eqb-true b 45 e))) (λ _. cond_both (b == 42) _ _ P (λ e h. subst (λ kind. b ∷ 61 ∷ [] ≡ spelling kind) (let same : k.StarAssign ≡ kind = cc in same) (ap (λ (x : ℕ). x ∷ 61 ∷ []) (eqb-true b 42 e))) (λ _. cond_both (b == 47) _ _ P (λ e h. subst (λ kind. b ∷ 61 ∷ [] ≡ spelling kind) (let same : k.SlashAssign ≡ kind = cc in same) (ap (λ (x : ℕ). x ∷ 61 ∷ []) (eqb-true b 47 e))) (λ _. cond_both (b == 37) _ _ P (λ e h. subst (λ kind. b ∷ 61 ∷ [] ≡ spelling kind) (let same : k.PercentAssign ≡ kind = cc in same) (ap (λ (x : ℕ). x ∷ 61 ∷ []) (eqb-true b 37 e))) (λ _. cond_both (b == 38) _ _ P (λ e h. subst (λ kind. b ∷ 61 ∷ [] ≡ spelling kind) (let same : k.AndAssign ≡ kind = cc in same) (ap (λ (x : ℕ). x ∷ 61 ∷ []) (eqb-true b 38 e))) (λ _. cond_both (b == 124) _ _ P (λ e h. subst (λ kind. b ∷ 61 ∷ [] ≡ spelling kind) (let same : k.OrAssign ≡ kind = cc in same) (ap (λ (x : ℕ). x ∷ 61 ∷ []) (eqb-true b 124 e))) (λ _. cond_both (b == 94) _ _ P (λ e h. subst (λ kind. b ∷ 61 ∷ [] ≡ spelling kind) (let same : k.XorAssign ≡ kind = cc in same) (ap (λ (x : ℕ). x ∷ 61 ∷ []) (eqb-true b 94 e))) (λ _. λ h. absurd cc))))))))))))
    where
      P : Option TokenKind → Type 0
      P o = o ≡ Some kind → b ∷ 61 ∷ [] ≡ spelling kind

  spelled_doubled : doubled_sign b ≡ Some kind → b ∷ b ∷ [] ≡ spelling kind
  spelled_doubled = cond_both (b == 63) _ _ P (λ e h. subst (λ kind. b ∷ b ∷ [] ≡ spelling kind) (let same : k.Coalesce ≡ kind = cc in same) (ap (λ (x : ℕ). x ∷ x ∷ []) (eqb-true b 63 e))) (λ _. cond_both (b == 38) _ _ P (λ e h. subst (λ kind. b ∷ b ∷ [] ≡ spelling kind) (let same : k.AndAnd ≡ kind = cc in same) (ap (λ (x : ℕ). x ∷ x ∷ []) (eqb-true b 38 e))) (λ _. cond_both (b == 124) _ _ P (λ e h. subst (λ kind. b ∷ b ∷ [] ≡ spelling kind) (let same : k.OrOr ≡ kind = cc in same) (ap (λ (x : ℕ). x ∷ x ∷ []) (eqb-true b 124 e))) (λ _. cond_both (b == 60) _ _ P (λ e h. subst (λ kind. b ∷ b ∷ [] ≡ spelling kind) (let same : k.ShiftLeft ≡ kind = cc in same) (ap (λ (x : ℕ). x ∷ x ∷ []) (eqb-true b 60 e))) (λ _. cond_both (b == 62) _ _ P (λ e h. subst (λ kind. b ∷ b ∷ [] ≡ spelling kind) (let same : k.ShiftRight ≡ kind = cc in same) (ap (λ (x : ℕ). x ∷ x ∷ []) (eqb-true b 62 e))) (λ _. cond_both (b == 43) _ _ P (λ e h. subst (λ kind. b ∷ b ∷ [] ≡ spelling kind) (let same : k.Increment ≡ kind = cc in same) (ap (λ (x : ℕ). x ∷ x ∷ []) (eqb-true b 43 e))) (λ _. cond_both (b == 45) _ _ P (λ e h. subst (λ kind. b ∷ b ∷ [] ≡ spelling kind) (let same : k.Decrement ≡ kind = cc in same) (ap (λ (x : ℕ). x ∷ x ∷ []) (eqb-true b 45 e))) (λ _. λ h. absurd cc)))))))
    where
      P : Option TokenKind → Type 0
      P o = o ≡ Some kind → b ∷ b ∷ [] ≡ spelling kind

spelled_two : (b c : ℕ) (kind : TokenKind) → sign_of_two b c ≡ Some kind → b ∷ c ∷ [] ≡ spelling kind
spelled_two b c kind = cond_both (c == 61) _ _ P (λ e h. subst (λ x. b ∷ x ∷ [] ≡ spelling kind) (sym (eqb-true c 61 e)) (spelled_equals b kind h))
    (λ _. cond_both (b == c) _ _ P (λ e h. subst (λ x. b ∷ x ∷ [] ≡ spelling kind) (eqb-true b c e) (spelled_doubled b kind h))
    (λ _. cond_both (b == 61 && c == 62) _ _ P (λ e h. let f = and_parts (b == 61) (c == 62) e in rw (eqb-true b 61 f.0, eqb-true c 62 f.1) (ap spelling (let same : k.Arrow ≡ kind = cc in same))) (λ _ h. absurd cc)))
  where
    P : Option TokenKind → Type 0
    P o = o ≡ Some kind → b ∷ c ∷ [] ≡ spelling kind

spelled_three : (b c d : ℕ) (kind : TokenKind) → sign_of_three b c d ≡ Some kind → b ∷ c ∷ d ∷ [] ≡ spelling kind
spelled_three b c d kind =
    cond_both (b == 60 && c == 60 && d == 61) _ _ P (λ e h. let f = and_parts (b == 60 && c == 60) (d == 61) e in let g = and_parts (b == 60) (c == 60) f.0 in rw (eqb-true b 60 g.0, eqb-true c 60 g.1, eqb-true d 61 f.1) (ap spelling (let same : k.ShiftLeftAssign ≡ kind = cc in same)))
    (λ _. cond_both (b == 62 && c == 62 && d == 61) _ _ P (λ e h. let f = and_parts (b == 62 && c == 62) (d == 61) e in let g = and_parts (b == 62) (c == 62) f.0 in rw (eqb-true b 62 g.0, eqb-true c 62 g.1, eqb-true d 61 f.1) (ap spelling (let same : k.ShiftRightAssign ≡ kind = cc in same)))
    (λ _. cond_both (b == 46 && c == 46 && d == 46) _ _ P (λ e h. let f = and_parts (b == 46 && c == 46) (d == 46) e in let g = and_parts (b == 46) (c == 46) f.0 in rw (eqb-true b 46 g.0, eqb-true c 46 g.1, eqb-true d 46 f.1) (ap spelling (let same : k.Ellipsis ≡ kind = cc in same))) (λ _ h. absurd cc)))
  where
    P : Option TokenKind → Type 0
    P o = o ≡ Some kind → b ∷ c ∷ d ∷ [] ≡ spelling kind

pub only_spelled : (w : List ℕ) (kind : TokenKind) → IsToken w kind → (spelling kind ≡ []) ⊎ (w ≡ spelling kind)
only_spelled _ _ (written.word w i small) = spelled_word w
only_spelled _ _ (written.marked w i is) = inl refl
only_spelled _ _ (written.decimal d s it i j is) = inl refl
only_spelled _ _ (written.hexadecimal d s it i j is) = inl refl
only_spelled _ _ (written.text b i bytes escapes) = inl refl
only_spelled _ _ (written.verbatim b i bytes) = inl refl
only_spelled _ _ (written.character b code i is) = inl refl
only_spelled _ _ (written.one b kind i) = inr (spelled_one b kind i)
only_spelled _ _ (written.two b c kind i) = inr (spelled_two b c kind i)
only_spelled _ _ (written.three b c d kind i) = inr (spelled_three b c d kind i)

pub some_spelled : (kind : TokenKind) → (spelling kind ≡ []) ⊎ IsToken (spelling kind) kind
some_spelled k.Identifier = inl refl
some_spelled (k.Integer v it) = inl refl
some_spelled k.Text = inl refl
some_spelled (k.Character code) = inl refl
some_spelled k.Abstract = inr (written.word (codes "abstract") (record { some = omega arith; letter = refl; all = refl }) (omega arith))
some_spelled k.As = inr (written.word (codes "as") (record { some = omega arith; letter = refl; all = refl }) (omega arith))
some_spelled k.Async = inr (written.word (codes "async") (record { some = omega arith; letter = refl; all = refl }) (omega arith))
some_spelled k.Base = inr (written.word (codes "base") (record { some = omega arith; letter = refl; all = refl }) (omega arith))
some_spelled k.Break = inr (written.word (codes "break") (record { some = omega arith; letter = refl; all = refl }) (omega arith))
some_spelled k.Case = inr (written.word (codes "case") (record { some = omega arith; letter = refl; all = refl }) (omega arith))
some_spelled k.Catch = inr (written.word (codes "catch") (record { some = omega arith; letter = refl; all = refl }) (omega arith))
some_spelled k.Class = inr (written.word (codes "class") (record { some = omega arith; letter = refl; all = refl }) (omega arith))
some_spelled k.Const = inr (written.word (codes "const") (record { some = omega arith; letter = refl; all = refl }) (omega arith))
some_spelled k.Construct = inr (written.word (codes "construct") (record { some = omega arith; letter = refl; all = refl }) (omega arith))
some_spelled k.Continue = inr (written.word (codes "continue") (record { some = omega arith; letter = refl; all = refl }) (omega arith))
some_spelled k.Default = inr (written.word (codes "default") (record { some = omega arith; letter = refl; all = refl }) (omega arith))
some_spelled k.Delegate = inr (written.word (codes "delegate") (record { some = omega arith; letter = refl; all = refl }) (omega arith))
some_spelled k.Delete = inr (written.word (codes "delete") (record { some = omega arith; letter = refl; all = refl }) (omega arith))
some_spelled k.Do = inr (written.word (codes "do") (record { some = omega arith; letter = refl; all = refl }) (omega arith))
some_spelled k.Else = inr (written.word (codes "else") (record { some = omega arith; letter = refl; all = refl }) (omega arith))
some_spelled k.Enum = inr (written.word (codes "enum") (record { some = omega arith; letter = refl; all = refl }) (omega arith))
some_spelled k.Errordomain = inr (written.word (codes "errordomain") (record { some = omega arith; letter = refl; all = refl }) (omega arith))
some_spelled k.Extern = inr (written.word (codes "extern") (record { some = omega arith; letter = refl; all = refl }) (omega arith))
some_spelled k.False = inr (written.word (codes "false") (record { some = omega arith; letter = refl; all = refl }) (omega arith))
some_spelled k.Finally = inr (written.word (codes "finally") (record { some = omega arith; letter = refl; all = refl }) (omega arith))
some_spelled k.For = inr (written.word (codes "for") (record { some = omega arith; letter = refl; all = refl }) (omega arith))
some_spelled k.Foreach = inr (written.word (codes "foreach") (record { some = omega arith; letter = refl; all = refl }) (omega arith))
some_spelled k.If = inr (written.word (codes "if") (record { some = omega arith; letter = refl; all = refl }) (omega arith))
some_spelled k.In = inr (written.word (codes "in") (record { some = omega arith; letter = refl; all = refl }) (omega arith))
some_spelled k.Inline = inr (written.word (codes "inline") (record { some = omega arith; letter = refl; all = refl }) (omega arith))
some_spelled k.Interface = inr (written.word (codes "interface") (record { some = omega arith; letter = refl; all = refl }) (omega arith))
some_spelled k.Internal = inr (written.word (codes "internal") (record { some = omega arith; letter = refl; all = refl }) (omega arith))
some_spelled k.Is = inr (written.word (codes "is") (record { some = omega arith; letter = refl; all = refl }) (omega arith))
some_spelled k.Lock = inr (written.word (codes "lock") (record { some = omega arith; letter = refl; all = refl }) (omega arith))
some_spelled k.Namespace = inr (written.word (codes "namespace") (record { some = omega arith; letter = refl; all = refl }) (omega arith))
some_spelled k.New = inr (written.word (codes "new") (record { some = omega arith; letter = refl; all = refl }) (omega arith))
some_spelled k.Null = inr (written.word (codes "null") (record { some = omega arith; letter = refl; all = refl }) (omega arith))
some_spelled k.Out = inr (written.word (codes "out") (record { some = omega arith; letter = refl; all = refl }) (omega arith))
some_spelled k.Override = inr (written.word (codes "override") (record { some = omega arith; letter = refl; all = refl }) (omega arith))
some_spelled k.Owned = inr (written.word (codes "owned") (record { some = omega arith; letter = refl; all = refl }) (omega arith))
some_spelled k.Params = inr (written.word (codes "params") (record { some = omega arith; letter = refl; all = refl }) (omega arith))
some_spelled k.Private = inr (written.word (codes "private") (record { some = omega arith; letter = refl; all = refl }) (omega arith))
some_spelled k.Protected = inr (written.word (codes "protected") (record { some = omega arith; letter = refl; all = refl }) (omega arith))
some_spelled k.Public = inr (written.word (codes "public") (record { some = omega arith; letter = refl; all = refl }) (omega arith))
some_spelled k.Ref = inr (written.word (codes "ref") (record { some = omega arith; letter = refl; all = refl }) (omega arith))
some_spelled k.Return = inr (written.word (codes "return") (record { some = omega arith; letter = refl; all = refl }) (omega arith))
some_spelled k.Sealed = inr (written.word (codes "sealed") (record { some = omega arith; letter = refl; all = refl }) (omega arith))
some_spelled k.Signal = inr (written.word (codes "signal") (record { some = omega arith; letter = refl; all = refl }) (omega arith))
some_spelled k.Sizeof = inr (written.word (codes "sizeof") (record { some = omega arith; letter = refl; all = refl }) (omega arith))
some_spelled k.Static = inr (written.word (codes "static") (record { some = omega arith; letter = refl; all = refl }) (omega arith))
some_spelled k.Struct = inr (written.word (codes "struct") (record { some = omega arith; letter = refl; all = refl }) (omega arith))
some_spelled k.Switch = inr (written.word (codes "switch") (record { some = omega arith; letter = refl; all = refl }) (omega arith))
some_spelled k.This = inr (written.word (codes "this") (record { some = omega arith; letter = refl; all = refl }) (omega arith))
some_spelled k.Throw = inr (written.word (codes "throw") (record { some = omega arith; letter = refl; all = refl }) (omega arith))
some_spelled k.Throws = inr (written.word (codes "throws") (record { some = omega arith; letter = refl; all = refl }) (omega arith))
some_spelled k.True = inr (written.word (codes "true") (record { some = omega arith; letter = refl; all = refl }) (omega arith))
some_spelled k.Try = inr (written.word (codes "try") (record { some = omega arith; letter = refl; all = refl }) (omega arith))
some_spelled k.Typeof = inr (written.word (codes "typeof") (record { some = omega arith; letter = refl; all = refl }) (omega arith))
some_spelled k.Unowned = inr (written.word (codes "unowned") (record { some = omega arith; letter = refl; all = refl }) (omega arith))
some_spelled k.Using = inr (written.word (codes "using") (record { some = omega arith; letter = refl; all = refl }) (omega arith))
some_spelled k.Var = inr (written.word (codes "var") (record { some = omega arith; letter = refl; all = refl }) (omega arith))
some_spelled k.Virtual = inr (written.word (codes "virtual") (record { some = omega arith; letter = refl; all = refl }) (omega arith))
some_spelled k.Void = inr (written.word (codes "void") (record { some = omega arith; letter = refl; all = refl }) (omega arith))
some_spelled k.Weak = inr (written.word (codes "weak") (record { some = omega arith; letter = refl; all = refl }) (omega arith))
some_spelled k.While = inr (written.word (codes "while") (record { some = omega arith; letter = refl; all = refl }) (omega arith))
some_spelled k.With = inr (written.word (codes "with") (record { some = omega arith; letter = refl; all = refl }) (omega arith))
some_spelled k.Yield = inr (written.word (codes "yield") (record { some = omega arith; letter = refl; all = refl }) (omega arith))
some_spelled k.OpenBrace = inr (written.one 123 k.OpenBrace refl)
some_spelled k.CloseBrace = inr (written.one 125 k.CloseBrace refl)
some_spelled k.OpenParen = inr (written.one 40 k.OpenParen refl)
some_spelled k.CloseParen = inr (written.one 41 k.CloseParen refl)
some_spelled k.OpenBracket = inr (written.one 91 k.OpenBracket refl)
some_spelled k.CloseBracket = inr (written.one 93 k.CloseBracket refl)
some_spelled k.Comma = inr (written.one 44 k.Comma refl)
some_spelled k.Semicolon = inr (written.one 59 k.Semicolon refl)
some_spelled k.Colon = inr (written.one 58 k.Colon refl)
some_spelled k.Dot = inr (written.one 46 k.Dot refl)
some_spelled k.Question = inr (written.one 63 k.Question refl)
some_spelled k.Assign = inr (written.one 61 k.Assign refl)
some_spelled k.Less = inr (written.one 60 k.Less refl)
some_spelled k.Greater = inr (written.one 62 k.Greater refl)
some_spelled k.Plus = inr (written.one 43 k.Plus refl)
some_spelled k.Minus = inr (written.one 45 k.Minus refl)
some_spelled k.Star = inr (written.one 42 k.Star refl)
some_spelled k.Slash = inr (written.one 47 k.Slash refl)
some_spelled k.Percent = inr (written.one 37 k.Percent refl)
some_spelled k.Ampersand = inr (written.one 38 k.Ampersand refl)
some_spelled k.Bar = inr (written.one 124 k.Bar refl)
some_spelled k.Caret = inr (written.one 94 k.Caret refl)
some_spelled k.Not = inr (written.one 33 k.Not refl)
some_spelled k.Tilde = inr (written.one 126 k.Tilde refl)
some_spelled k.Coalesce = inr (written.two 63 63 k.Coalesce refl)
some_spelled k.Equal = inr (written.two 61 61 k.Equal refl)
some_spelled k.NotEqual = inr (written.two 33 61 k.NotEqual refl)
some_spelled k.LessEqual = inr (written.two 60 61 k.LessEqual refl)
some_spelled k.GreaterEqual = inr (written.two 62 61 k.GreaterEqual refl)
some_spelled k.AndAnd = inr (written.two 38 38 k.AndAnd refl)
some_spelled k.OrOr = inr (written.two 124 124 k.OrOr refl)
some_spelled k.ShiftLeft = inr (written.two 60 60 k.ShiftLeft refl)
some_spelled k.ShiftRight = inr (written.two 62 62 k.ShiftRight refl)
some_spelled k.Increment = inr (written.two 43 43 k.Increment refl)
some_spelled k.Decrement = inr (written.two 45 45 k.Decrement refl)
some_spelled k.PlusAssign = inr (written.two 43 61 k.PlusAssign refl)
some_spelled k.MinusAssign = inr (written.two 45 61 k.MinusAssign refl)
some_spelled k.StarAssign = inr (written.two 42 61 k.StarAssign refl)
some_spelled k.SlashAssign = inr (written.two 47 61 k.SlashAssign refl)
some_spelled k.PercentAssign = inr (written.two 37 61 k.PercentAssign refl)
some_spelled k.AndAssign = inr (written.two 38 61 k.AndAssign refl)
some_spelled k.OrAssign = inr (written.two 124 61 k.OrAssign refl)
some_spelled k.XorAssign = inr (written.two 94 61 k.XorAssign refl)
some_spelled k.Arrow = inr (written.two 61 62 k.Arrow refl)
some_spelled k.ShiftLeftAssign = inr (written.three 60 60 61 k.ShiftLeftAssign refl)
some_spelled k.ShiftRightAssign = inr (written.three 62 62 61 k.ShiftRightAssign refl)
some_spelled k.Ellipsis = inr (written.three 46 46 46 k.Ellipsis refl)
