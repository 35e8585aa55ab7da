-- How keywords, literals and signs are written.
use Rattle.std.proofs.Common.{◌≡◌, ◌⊎◌, inl, inr, ℕ, true, ◌&&◌, ◌==◌, List, [], ◌∷◌, get_or, Option, Some, refl, sym, ap, subst, codes, arith}
use Rattle.std.specs.Str.{bytes_eq}
use Rattle.std.proofs.lemmas.Slice.Eq.{bytes_eq-Decides}
use Rattle.std.proofs.lemmas.Bool.{cond_both, and_parts, eqb-true}
use Rattle.c_lexer.specs.declared.token.Keyword.{Keyword}
use Rattle.c_lexer.specs.declared.token.Keyword.TheVariants as keyword
use Rattle.c_lexer.specs.declared.token.Constant.{Constant}
use Rattle.c_lexer.specs.declared.token.Constant.TheVariants as constant
use Rattle.c_lexer.specs.declared.token.Sign.{Sign}
use Rattle.c_lexer.specs.declared.token.Sign.TheVariants as s
use Rattle.c_lexer.specs.declared.token.TokenKind.{TokenKind}
use Rattle.c_lexer.specs.declared.token.TokenKind.TheVariants as k
use Rattle.c_lexer.specs.Spelling.{keyword_spelling, constant_spelling, sign_spelling, spelling, IsOneOf, unused_keywords}
use Rattle.c_lexer.specs.Words.{word_kind, word_behind_g, word_in_a, word_in_b, word_in_c, word_in_d, word_in_e, word_in_f, word_in_g, word_in_i, word_in_l, word_in_r, word_in_s, word_in_t, word_in_u, word_in_v, word_in_w, word_in_capital_f, word_in_capital_n, word_in_capital_t, word_in_underscore, word_in_g_c, word_in_g_p, word_in_g_s, word_in_g_t}
use Rattle.c_lexer.specs.Signs.{sign_of_one, sign_of_two, sign_of_three, sign_with_equals, doubled_sign}
use Rattle.c_lexer.specs.Written.{IsWord, IsToken}
use Rattle.c_lexer.specs.Written as written

same_bytes : (w v : List ℕ) → bytes_eq w v ≡ true → w ≡ v
same_bytes w v h = (bytes_eq-Decides w v).0 h

-- ---- words

module _ (w : List ℕ) where
  -- the bytes of a class that is written in one way, and of the keywords that are not used
  abbrev P : TokenKind → Type 0
  P kind = ((spelling kind ≡ []) ⊎ (w ≡ spelling kind)) × (kind ≡ k.UnusedKeyword → IsOneOf w unused_keywords)

  nothing : P k.Identifier
  nothing = (inl refl, λ h. absurd cc)

  spelled_a : P (word_in_a w)
  spelled_a =
      cond_both (bytes_eq w (codes "auto")) _ _ P (λ h. (inl refl, λ _. inr (inr (inr (inr (inr (inr (inr (inr (inr (inr (inl (same_bytes w (codes "auto") h))))))))))))) (λ _. nothing)

  spelled_b : P (word_in_b w)
  spelled_b =
      cond_both (bytes_eq w (codes "break")) _ _ P (λ h. (inl refl, λ _. inr (inr (inr (inr (inr (inr (inr (inr (inr (inr (inr (inl (same_bytes w (codes "break") h)))))))))))))) (λ _. nothing)

  spelled_c : P (word_in_c w)
  spelled_c =
      cond_both (bytes_eq w (codes "case")) _ _ P (λ h. (inr (same_bytes w (codes "case") h), λ e. absurd cc))
      (λ _. cond_both (bytes_eq w (codes "char")) _ _ P (λ h. (inr (same_bytes w (codes "char") h), λ e. absurd cc))
      (λ _. cond_both (bytes_eq w (codes "const")) _ _ P (λ h. (inr (same_bytes w (codes "const") h), λ e. absurd cc))
      (λ _. cond_both (bytes_eq w (codes "continue")) _ _ P (λ h. (inl refl, λ _. inr (inr (inr (inr (inr (inr (inr (inr (inr (inr (inr (inr (inl (same_bytes w (codes "continue") h))))))))))))))) (λ _. nothing))))

  spelled_d : P (word_in_d w)
  spelled_d =
      cond_both (bytes_eq w (codes "default")) _ _ P (λ h. (inr (same_bytes w (codes "default") h), λ e. absurd cc))
      (λ _. cond_both (bytes_eq w (codes "do")) _ _ P (λ h. (inl refl, λ _. inr (inr (inr (inr (inr (inr (inr (inr (inr (inr (inr (inr (inr (inl (same_bytes w (codes "do") h))))))))))))))))
      (λ _. cond_both (bytes_eq w (codes "double")) _ _ P (λ h. (inl refl, λ _. inr (inr (inr (inr (inr (inr (inr (inr (inr (inr (inr (inr (inr (inr (inl (same_bytes w (codes "double") h))))))))))))))))) (λ _. nothing)))

  spelled_e : P (word_in_e w)
  spelled_e =
      cond_both (bytes_eq w (codes "else")) _ _ P (λ h. (inr (same_bytes w (codes "else") h), λ e. absurd cc))
      (λ _. cond_both (bytes_eq w (codes "enum")) _ _ P (λ h. (inr (same_bytes w (codes "enum") h), λ e. absurd cc))
      (λ _. cond_both (bytes_eq w (codes "extern")) _ _ P (λ h. (inl refl, λ _. inr (inr (inr (inr (inr (inr (inr (inr (inr (inr (inr (inr (inr (inr (inr (inl (same_bytes w (codes "extern") h)))))))))))))))))) (λ _. nothing)))

  spelled_f : P (word_in_f w)
  spelled_f =
      cond_both (bytes_eq w (codes "float")) _ _ P (λ h. (inl refl, λ _. inr (inr (inr (inr (inr (inr (inr (inr (inr (inr (inr (inr (inr (inr (inr (inr (inl (same_bytes w (codes "float") h)))))))))))))))))))
      (λ _. cond_both (bytes_eq w (codes "for")) _ _ P (λ h. (inl refl, λ _. inr (inr (inr (inr (inr (inr (inr (inr (inr (inr (inr (inr (inr (inr (inr (inr (inr (inl (same_bytes w (codes "for") h)))))))))))))))))))) (λ _. nothing))

  spelled_g : P (word_in_g w)
  spelled_g =
      cond_both (bytes_eq w (codes "goto")) _ _ P (λ h. (inr (same_bytes w (codes "goto") h), λ e. absurd cc)) (λ _. nothing)

  spelled_i : P (word_in_i w)
  spelled_i =
      cond_both (bytes_eq w (codes "if")) _ _ P (λ h. (inr (same_bytes w (codes "if") h), λ e. absurd cc))
      (λ _. cond_both (bytes_eq w (codes "inline")) _ _ P (λ h. (inl refl, λ _. inr (inr (inr (inr (inr (inr (inr (inr (inr (inr (inr (inr (inr (inr (inr (inr (inr (inr (inl (same_bytes w (codes "inline") h)))))))))))))))))))))
      (λ _. cond_both (bytes_eq w (codes "int")) _ _ P (λ h. (inr (same_bytes w (codes "int") h), λ e. absurd cc)) (λ _. nothing)))

  spelled_l : P (word_in_l w)
  spelled_l =
      cond_both (bytes_eq w (codes "long")) _ _ P (λ h. (inl refl, λ _. inr (inr (inr (inr (inr (inr (inr (inr (inr (inr (inr (inr (inr (inr (inr (inr (inr (inr (inr (inl (same_bytes w (codes "long") h)))))))))))))))))))))) (λ _. nothing)

  spelled_r : P (word_in_r w)
  spelled_r =
      cond_both (bytes_eq w (codes "register")) _ _ P (λ h. (inl refl, λ _. inr (inr (inr (inr (inr (inr (inr (inr (inr (inr (inr (inr (inr (inr (inr (inr (inr (inr (inr (inr (inl (same_bytes w (codes "register") h)))))))))))))))))))))))
      (λ _. cond_both (bytes_eq w (codes "restrict")) _ _ P (λ h. (inl refl, λ _. inr (inr (inr (inr (inr (inr (inr (inr (inr (inr (inr (inr (inr (inr (inr (inr (inr (inr (inr (inr (inr (inl (same_bytes w (codes "restrict") h))))))))))))))))))))))))
      (λ _. cond_both (bytes_eq w (codes "return")) _ _ P (λ h. (inr (same_bytes w (codes "return") h), λ e. absurd cc)) (λ _. nothing)))

  spelled_s : P (word_in_s w)
  spelled_s =
      cond_both (bytes_eq w (codes "short")) _ _ P (λ h. (inl refl, λ _. inr (inr (inr (inr (inr (inr (inr (inr (inr (inr (inr (inr (inr (inr (inr (inr (inr (inr (inr (inr (inr (inr (inl (same_bytes w (codes "short") h)))))))))))))))))))))))))
      (λ _. cond_both (bytes_eq w (codes "signed")) _ _ P (λ h. (inl refl, λ _. inr (inr (inr (inr (inr (inr (inr (inr (inr (inr (inr (inr (inr (inr (inr (inr (inr (inr (inr (inr (inr (inr (inr (inl (same_bytes w (codes "signed") h))))))))))))))))))))))))))
      (λ _. cond_both (bytes_eq w (codes "sizeof")) _ _ P (λ h. (inr (same_bytes w (codes "sizeof") h), λ e. absurd cc))
      (λ _. cond_both (bytes_eq w (codes "static")) _ _ P (λ h. (inr (same_bytes w (codes "static") h), λ e. absurd cc))
      (λ _. cond_both (bytes_eq w (codes "struct")) _ _ P (λ h. (inr (same_bytes w (codes "struct") h), λ e. absurd cc))
      (λ _. cond_both (bytes_eq w (codes "switch")) _ _ P (λ h. (inr (same_bytes w (codes "switch") h), λ e. absurd cc)) (λ _. nothing))))))

  spelled_t : P (word_in_t w)
  spelled_t =
      cond_both (bytes_eq w (codes "typedef")) _ _ P (λ h. (inr (same_bytes w (codes "typedef") h), λ e. absurd cc)) (λ _. nothing)

  spelled_u : P (word_in_u w)
  spelled_u =
      cond_both (bytes_eq w (codes "union")) _ _ P (λ h. (inl refl, λ _. inr (inr (inr (inr (inr (inr (inr (inr (inr (inr (inr (inr (inr (inr (inr (inr (inr (inr (inr (inr (inr (inr (inr (inr (inl (same_bytes w (codes "union") h)))))))))))))))))))))))))))
      (λ _. cond_both (bytes_eq w (codes "unsigned")) _ _ P (λ h. (inl refl, λ _. inr (inr (inr (inr (inr (inr (inr (inr (inr (inr (inr (inr (inr (inr (inr (inr (inr (inr (inr (inr (inr (inr (inr (inr (inr (inl (same_bytes w (codes "unsigned") h)))))))))))))))))))))))))))) (λ _. nothing))

  spelled_v : P (word_in_v w)
  spelled_v =
      cond_both (bytes_eq w (codes "void")) _ _ P (λ h. (inr (same_bytes w (codes "void") h), λ e. absurd cc))
      (λ _. cond_both (bytes_eq w (codes "volatile")) _ _ P (λ h. (inl refl, λ _. inr (inr (inr (inr (inr (inr (inr (inr (inr (inr (inr (inr (inr (inr (inr (inr (inr (inr (inr (inr (inr (inr (inr (inr (inr (inr (inl (same_bytes w (codes "volatile") h))))))))))))))))))))))))))))) (λ _. nothing))

  spelled_w : P (word_in_w w)
  spelled_w =
      cond_both (bytes_eq w (codes "while")) _ _ P (λ h. (inl refl, λ _. inr (inr (inr (inr (inr (inr (inr (inr (inr (inr (inr (inr (inr (inr (inr (inr (inr (inr (inr (inr (inr (inr (inr (inr (inr (inr (inr (inl (same_bytes w (codes "while") h)))))))))))))))))))))))))))))) (λ _. nothing)

  spelled_capital_f : P (word_in_capital_f w)
  spelled_capital_f =
      cond_both (bytes_eq w (codes "FALSE")) _ _ P (λ h. (inr (same_bytes w (codes "FALSE") h), λ e. absurd cc)) (λ _. nothing)

  spelled_capital_n : P (word_in_capital_n w)
  spelled_capital_n =
      cond_both (bytes_eq w (codes "NULL")) _ _ P (λ h. (inr (same_bytes w (codes "NULL") h), λ e. absurd cc)) (λ _. nothing)

  spelled_capital_t : P (word_in_capital_t w)
  spelled_capital_t =
      cond_both (bytes_eq w (codes "TRUE")) _ _ P (λ h. (inr (same_bytes w (codes "TRUE") h), λ e. absurd cc)) (λ _. nothing)

  spelled_underscore : P (word_in_underscore w)
  spelled_underscore =
      cond_both (bytes_eq w (codes "_Alignas")) _ _ P (λ h. (inl refl, λ _. inl (same_bytes w (codes "_Alignas") h)))
      (λ _. cond_both (bytes_eq w (codes "_Alignof")) _ _ P (λ h. (inl refl, λ _. inr (inl (same_bytes w (codes "_Alignof") h))))
      (λ _. cond_both (bytes_eq w (codes "_Atomic")) _ _ P (λ h. (inl refl, λ _. inr (inr (inl (same_bytes w (codes "_Atomic") h)))))
      (λ _. cond_both (bytes_eq w (codes "_Bool")) _ _ P (λ h. (inl refl, λ _. inr (inr (inr (inl (same_bytes w (codes "_Bool") h))))))
      (λ _. cond_both (bytes_eq w (codes "_Complex")) _ _ P (λ h. (inl refl, λ _. inr (inr (inr (inr (inl (same_bytes w (codes "_Complex") h)))))))
      (λ _. cond_both (bytes_eq w (codes "_Generic")) _ _ P (λ h. (inl refl, λ _. inr (inr (inr (inr (inr (inl (same_bytes w (codes "_Generic") h))))))))
      (λ _. cond_both (bytes_eq w (codes "_Imaginary")) _ _ P (λ h. (inl refl, λ _. inr (inr (inr (inr (inr (inr (inl (same_bytes w (codes "_Imaginary") h)))))))))
      (λ _. cond_both (bytes_eq w (codes "_Noreturn")) _ _ P (λ h. (inl refl, λ _. inr (inr (inr (inr (inr (inr (inr (inl (same_bytes w (codes "_Noreturn") h))))))))))
      (λ _. cond_both (bytes_eq w (codes "_Static_assert")) _ _ P (λ h. (inl refl, λ _. inr (inr (inr (inr (inr (inr (inr (inr (inl (same_bytes w (codes "_Static_assert") h)))))))))))
      (λ _. cond_both (bytes_eq w (codes "_Thread_local")) _ _ P (λ h. (inl refl, λ _. inr (inr (inr (inr (inr (inr (inr (inr (inr (inl (same_bytes w (codes "_Thread_local") h)))))))))))) (λ _. nothing))))))))))

  spelled_g_c : P (word_in_g_c w)
  spelled_g_c =
      cond_both (bytes_eq w (codes "G_CONNECT_AFTER")) _ _ P (λ h. (inr (same_bytes w (codes "G_CONNECT_AFTER") h), λ e. absurd cc)) (λ _. nothing)

  spelled_g_p : P (word_in_g_p w)
  spelled_g_p =
      cond_both (bytes_eq w (codes "G_PARAM_CONSTRUCT")) _ _ P (λ h. (inr (same_bytes w (codes "G_PARAM_CONSTRUCT") h), λ e. absurd cc))
      (λ _. cond_both (bytes_eq w (codes "G_PARAM_READWRITE")) _ _ P (λ h. (inr (same_bytes w (codes "G_PARAM_READWRITE") h), λ e. absurd cc)) (λ _. nothing))

  spelled_g_s : P (word_in_g_s w)
  spelled_g_s =
      cond_both (bytes_eq w (codes "G_SIGNAL_MATCH_DATA")) _ _ P (λ h. (inr (same_bytes w (codes "G_SIGNAL_MATCH_DATA") h), λ e. absurd cc))
      (λ _. cond_both (bytes_eq w (codes "G_SIGNAL_MATCH_FUNC")) _ _ P (λ h. (inr (same_bytes w (codes "G_SIGNAL_MATCH_FUNC") h), λ e. absurd cc))
      (λ _. cond_both (bytes_eq w (codes "G_SIGNAL_MATCH_ID")) _ _ P (λ h. (inr (same_bytes w (codes "G_SIGNAL_MATCH_ID") h), λ e. absurd cc))
      (λ _. cond_both (bytes_eq w (codes "G_SIGNAL_RUN_LAST")) _ _ P (λ h. (inr (same_bytes w (codes "G_SIGNAL_RUN_LAST") h), λ e. absurd cc))
      (λ _. cond_both (bytes_eq w (codes "G_STRUCT_OFFSET")) _ _ P (λ h. (inr (same_bytes w (codes "G_STRUCT_OFFSET") h), λ e. absurd cc)) (λ _. nothing)))))

  spelled_g_t : P (word_in_g_t w)
  spelled_g_t =
      cond_both (bytes_eq w (codes "G_TYPE_BOOLEAN")) _ _ P (λ h. (inr (same_bytes w (codes "G_TYPE_BOOLEAN") h), λ e. absurd cc))
      (λ _. cond_both (bytes_eq w (codes "G_TYPE_CHAR")) _ _ P (λ h. (inr (same_bytes w (codes "G_TYPE_CHAR") h), λ e. absurd cc))
      (λ _. cond_both (bytes_eq w (codes "G_TYPE_INT")) _ _ P (λ h. (inr (same_bytes w (codes "G_TYPE_INT") h), λ e. absurd cc))
      (λ _. cond_both (bytes_eq w (codes "G_TYPE_INT64")) _ _ P (λ h. (inr (same_bytes w (codes "G_TYPE_INT64") h), λ e. absurd cc))
      (λ _. cond_both (bytes_eq w (codes "G_TYPE_INTERFACE")) _ _ P (λ h. (inr (same_bytes w (codes "G_TYPE_INTERFACE") h), λ e. absurd cc))
      (λ _. cond_both (bytes_eq w (codes "G_TYPE_LONG")) _ _ P (λ h. (inr (same_bytes w (codes "G_TYPE_LONG") h), λ e. absurd cc))
      (λ _. cond_both (bytes_eq w (codes "G_TYPE_NONE")) _ _ P (λ h. (inr (same_bytes w (codes "G_TYPE_NONE") h), λ e. absurd cc))
      (λ _. cond_both (bytes_eq w (codes "G_TYPE_OBJECT")) _ _ P (λ h. (inr (same_bytes w (codes "G_TYPE_OBJECT") h), λ e. absurd cc))
      (λ _. cond_both (bytes_eq w (codes "G_TYPE_STRING")) _ _ P (λ h. (inr (same_bytes w (codes "G_TYPE_STRING") h), λ e. absurd cc))
      (λ _. cond_both (bytes_eq w (codes "G_TYPE_UCHAR")) _ _ P (λ h. (inr (same_bytes w (codes "G_TYPE_UCHAR") h), λ e. absurd cc))
      (λ _. cond_both (bytes_eq w (codes "G_TYPE_UINT")) _ _ P (λ h. (inr (same_bytes w (codes "G_TYPE_UINT") h), λ e. absurd cc))
      (λ _. cond_both (bytes_eq w (codes "G_TYPE_UINT64")) _ _ P (λ h. (inr (same_bytes w (codes "G_TYPE_UINT64") h), λ e. absurd cc))
      (λ _. cond_both (bytes_eq w (codes "G_TYPE_ULONG")) _ _ P (λ h. (inr (same_bytes w (codes "G_TYPE_ULONG") h), λ e. absurd cc)) (λ _. nothing)))))))))))))

  spelled_behind_g : (b : ℕ) → P (word_behind_g b w)
  spelled_behind_g b =
      cond_both (b == 67) _ _ P (λ _. spelled_g_c)
      (λ _. cond_both (b == 80) _ _ P (λ _. spelled_g_p)
      (λ _. cond_both (b == 83) _ _ P (λ _. spelled_g_s)
      (λ _. cond_both (b == 84) _ _ P (λ _. spelled_g_t) (λ _. nothing))))

  pub spelled_word : P (word_kind w)
  spelled_word =
      cond_both (get_or w 0 0 == 97) _ _ P (λ _. spelled_a)
      (λ _. cond_both (get_or w 0 0 == 98) _ _ P (λ _. spelled_b)
      (λ _. cond_both (get_or w 0 0 == 99) _ _ P (λ _. spelled_c)
      (λ _. cond_both (get_or w 0 0 == 100) _ _ P (λ _. spelled_d)
      (λ _. cond_both (get_or w 0 0 == 101) _ _ P (λ _. spelled_e)
      (λ _. cond_both (get_or w 0 0 == 102) _ _ P (λ _. spelled_f)
      (λ _. cond_both (get_or w 0 0 == 103) _ _ P (λ _. spelled_g)
      (λ _. cond_both (get_or w 0 0 == 105) _ _ P (λ _. spelled_i)
      (λ _. cond_both (get_or w 0 0 == 108) _ _ P (λ _. spelled_l)
      (λ _. cond_both (get_or w 0 0 == 114) _ _ P (λ _. spelled_r)
      (λ _. cond_both (get_or w 0 0 == 115) _ _ P (λ _. spelled_s)
      (λ _. cond_both (get_or w 0 0 == 116) _ _ P (λ _. spelled_t)
      (λ _. cond_both (get_or w 0 0 == 117) _ _ P (λ _. spelled_u)
      (λ _. cond_both (get_or w 0 0 == 118) _ _ P (λ _. spelled_v)
      (λ _. cond_both (get_or w 0 0 == 119) _ _ P (λ _. spelled_w)
      (λ _. cond_both (get_or w 0 0 == 70) _ _ P (λ _. spelled_capital_f)
      (λ _. cond_both (get_or w 0 0 == 78) _ _ P (λ _. spelled_capital_n)
      (λ _. cond_both (get_or w 0 0 == 84) _ _ P (λ _. spelled_capital_t)
      (λ _. cond_both (get_or w 0 0 == 95) _ _ P (λ _. spelled_underscore)
      (λ _. cond_both (get_or w 0 0 == 71) _ _ P (λ _. spelled_behind_g (get_or w 2 0)) (λ _. nothing))))))))))))))))))))

-- ---- signs

module _ (b : ℕ) (sign : Sign) where
  spelled_one : sign_of_one b ≡ Some sign → b ∷ [] ≡ sign_spelling sign
  spelled_one =
      cond_both (b == 123) _ _ P (λ e h. subst (λ sign. b ∷ [] ≡ sign_spelling sign) (let same : s.OpenBrace ≡ sign = cc in same) (ap (λ (x : ℕ). x ∷ []) (eqb-true b 123 e)))
      (λ _. cond_both (b == 125) _ _ P (λ e h. subst (λ sign. b ∷ [] ≡ sign_spelling sign) (let same : s.CloseBrace ≡ sign = cc in same) (ap (λ (x : ℕ). x ∷ []) (eqb-true b 125 e)))
      (λ _. cond_both (b == 40) _ _ P (λ e h. subst (λ sign. b ∷ [] ≡ sign_spelling sign) (let same : s.OpenParen ≡ sign = cc in same) (ap (λ (x : ℕ). x ∷ []) (eqb-true b 40 e)))
      (λ _. cond_both (b == 41) _ _ P (λ e h. subst (λ sign. b ∷ [] ≡ sign_spelling sign) (let same : s.CloseParen ≡ sign = cc in same) (ap (λ (x : ℕ). x ∷ []) (eqb-true b 41 e)))
      (λ _. cond_both (b == 91) _ _ P (λ e h. subst (λ sign. b ∷ [] ≡ sign_spelling sign) (let same : s.OpenBracket ≡ sign = cc in same) (ap (λ (x : ℕ). x ∷ []) (eqb-true b 91 e)))
      (λ _. cond_both (b == 93) _ _ P (λ e h. subst (λ sign. b ∷ [] ≡ sign_spelling sign) (let same : s.CloseBracket ≡ sign = cc in same) (ap (λ (x : ℕ). x ∷ []) (eqb-true b 93 e)))
      (λ _. cond_both (b == 44) _ _ P (λ e h. subst (λ sign. b ∷ [] ≡ sign_spelling sign) (let same : s.Comma ≡ sign = cc in same) (ap (λ (x : ℕ). x ∷ []) (eqb-true b 44 e)))
      (λ _. cond_both (b == 59) _ _ P (λ e h. subst (λ sign. b ∷ [] ≡ sign_spelling sign) (let same : s.Semicolon ≡ sign = cc in same) (ap (λ (x : ℕ). x ∷ []) (eqb-true b 59 e)))
      (λ _. cond_both (b == 58) _ _ P (λ e h. subst (λ sign. b ∷ [] ≡ sign_spelling sign) (let same : s.Colon ≡ sign = cc in same) (ap (λ (x : ℕ). x ∷ []) (eqb-true b 58 e)))
      (λ _. cond_both (b == 46) _ _ P (λ e h. subst (λ sign. b ∷ [] ≡ sign_spelling sign) (let same : s.Dot ≡ sign = cc in same) (ap (λ (x : ℕ). x ∷ []) (eqb-true b 46 e)))
      (λ _. cond_both (b == 63) _ _ P (λ e h. subst (λ sign. b ∷ [] ≡ sign_spelling sign) (let same : s.Question ≡ sign = cc in same) (ap (λ (x : ℕ). x ∷ []) (eqb-true b 63 e)))
      (λ _. cond_both (b == 61) _ _ P (λ e h. subst (λ sign. b ∷ [] ≡ sign_spelling sign) (let same : s.Assign ≡ sign = cc in same) (ap (λ (x : ℕ). x ∷ []) (eqb-true b 61 e)))
      (λ _. cond_both (b == 60) _ _ P (λ e h. subst (λ sign. b ∷ [] ≡ sign_spelling sign) (let same : s.Less ≡ sign = cc in same) (ap (λ (x : ℕ). x ∷ []) (eqb-true b 60 e)))
      (λ _. cond_both (b == 62) _ _ P (λ e h. subst (λ sign. b ∷ [] ≡ sign_spelling sign) (let same : s.Greater ≡ sign = cc in same) (ap (λ (x : ℕ). x ∷ []) (eqb-true b 62 e)))
      (λ _. cond_both (b == 43) _ _ P (λ e h. subst (λ sign. b ∷ [] ≡ sign_spelling sign) (let same : s.Plus ≡ sign = cc in same) (ap (λ (x : ℕ). x ∷ []) (eqb-true b 43 e)))
      (λ _. cond_both (b == 45) _ _ P (λ e h. subst (λ sign. b ∷ [] ≡ sign_spelling sign) (let same : s.Minus ≡ sign = cc in same) (ap (λ (x : ℕ). x ∷ []) (eqb-true b 45 e)))
      (λ _. cond_both (b == 42) _ _ P (λ e h. subst (λ sign. b ∷ [] ≡ sign_spelling sign) (let same : s.Star ≡ sign = cc in same) (ap (λ (x : ℕ). x ∷ []) (eqb-true b 42 e)))
      (λ _. cond_both (b == 47) _ _ P (λ e h. subst (λ sign. b ∷ [] ≡ sign_spelling sign) (let same : s.Slash ≡ sign = cc in same) (ap (λ (x : ℕ). x ∷ []) (eqb-true b 47 e)))
      (λ _. cond_both (b == 37) _ _ P (λ e h. subst (λ sign. b ∷ [] ≡ sign_spelling sign) (let same : s.Percent ≡ sign = cc in same) (ap (λ (x : ℕ). x ∷ []) (eqb-true b 37 e)))
      (λ _. cond_both (b == 38) _ _ P (λ e h. subst (λ sign. b ∷ [] ≡ sign_spelling sign) (let same : s.Ampersand ≡ sign = cc in same) (ap (λ (x : ℕ). x ∷ []) (eqb-true b 38 e)))
      (λ _. cond_both (b == 124) _ _ P (λ e h. subst (λ sign. b ∷ [] ≡ sign_spelling sign) (let same : s.Bar ≡ sign = cc in same) (ap (λ (x : ℕ). x ∷ []) (eqb-true b 124 e)))
      (λ _. cond_both (b == 94) _ _ P (λ e h. subst (λ sign. b ∷ [] ≡ sign_spelling sign) (let same : s.Caret ≡ sign = cc in same) (ap (λ (x : ℕ). x ∷ []) (eqb-true b 94 e)))
      (λ _. cond_both (b == 33) _ _ P (λ e h. subst (λ sign. b ∷ [] ≡ sign_spelling sign) (let same : s.Not ≡ sign = cc in same) (ap (λ (x : ℕ). x ∷ []) (eqb-true b 33 e)))
      (λ _. cond_both (b == 126) _ _ P (λ e h. subst (λ sign. b ∷ [] ≡ sign_spelling sign) (let same : s.Tilde ≡ sign = cc in same) (ap (λ (x : ℕ). x ∷ []) (eqb-true b 126 e)))
      (λ _. cond_both (b == 35) _ _ P (λ e h. subst (λ sign. b ∷ [] ≡ sign_spelling sign) (let same : s.Hash ≡ sign = cc in same) (ap (λ (x : ℕ). x ∷ []) (eqb-true b 35 e))) (λ _ h. absurd cc)))))))))))))))))))))))))
    where
      P : Option Sign → Type 0
      P o = o ≡ Some sign → b ∷ [] ≡ sign_spelling sign

  spelled_equals : sign_with_equals b ≡ Some sign → b ∷ 61 ∷ [] ≡ sign_spelling sign
  spelled_equals =
      cond_both (b == 61) _ _ P (λ e h. subst (λ sign. b ∷ 61 ∷ [] ≡ sign_spelling sign) (let same : s.Equal ≡ sign = cc in same) (ap (λ (x : ℕ). x ∷ 61 ∷ []) (eqb-true b 61 e)))
      (λ _. cond_both (b == 33) _ _ P (λ e h. subst (λ sign. b ∷ 61 ∷ [] ≡ sign_spelling sign) (let same : s.NotEqual ≡ sign = cc in same) (ap (λ (x : ℕ). x ∷ 61 ∷ []) (eqb-true b 33 e)))
      (λ _. cond_both (b == 60) _ _ P (λ e h. subst (λ sign. b ∷ 61 ∷ [] ≡ sign_spelling sign) (let same : s.LessEqual ≡ sign = cc in same) (ap (λ (x : ℕ). x ∷ 61 ∷ []) (eqb-true b 60 e)))
      (λ _. cond_both (b == 62) _ _ P (λ e h. subst (λ sign. b ∷ 61 ∷ [] ≡ sign_spelling sign) (let same : s.GreaterEqual ≡ sign = cc in same) (ap (λ (x : ℕ). x ∷ 61 ∷ []) (eqb-true b 62 e)))
      (λ _. cond_both (b == 43) _ _ P (λ e h. subst (λ sign. b ∷ 61 ∷ [] ≡ sign_spelling sign) (let same : s.PlusAssign ≡ sign = cc in same) (ap (λ (x : ℕ). x ∷ 61 ∷ []) (eqb-true b 43 e)))
      (λ _. cond_both (b == 45) _ _ P (λ e h. subst (λ sign. b ∷ 61 ∷ [] ≡ sign_spelling sign) (let same : s.MinusAssign ≡ sign = cc in same) (ap (λ (x : ℕ). x ∷ 61 ∷ []) (eqb-true b 45 e)))
      (λ _. cond_both (b == 42) _ _ P (λ e h. subst (λ sign. b ∷ 61 ∷ [] ≡ sign_spelling sign) (let same : s.StarAssign ≡ sign = cc in same) (ap (λ (x : ℕ). x ∷ 61 ∷ []) (eqb-true b 42 e)))
      (λ _. cond_both (b == 47) _ _ P (λ e h. subst (λ sign. b ∷ 61 ∷ [] ≡ sign_spelling sign) (let same : s.SlashAssign ≡ sign = cc in same) (ap (λ (x : ℕ). x ∷ 61 ∷ []) (eqb-true b 47 e)))
      (λ _. cond_both (b == 37) _ _ P (λ e h. subst (λ sign. b ∷ 61 ∷ [] ≡ sign_spelling sign) (let same : s.PercentAssign ≡ sign = cc in same) (ap (λ (x : ℕ). x ∷ 61 ∷ []) (eqb-true b 37 e)))
      (λ _. cond_both (b == 38) _ _ P (λ e h. subst (λ sign. b ∷ 61 ∷ [] ≡ sign_spelling sign) (let same : s.AndAssign ≡ sign = cc in same) (ap (λ (x : ℕ). x ∷ 61 ∷ []) (eqb-true b 38 e)))
      (λ _. cond_both (b == 124) _ _ P (λ e h. subst (λ sign. b ∷ 61 ∷ [] ≡ sign_spelling sign) (let same : s.OrAssign ≡ sign = cc in same) (ap (λ (x : ℕ). x ∷ 61 ∷ []) (eqb-true b 124 e)))
      (λ _. cond_both (b == 94) _ _ P (λ e h. subst (λ sign. b ∷ 61 ∷ [] ≡ sign_spelling sign) (let same : s.XorAssign ≡ sign = cc in same) (ap (λ (x : ℕ). x ∷ 61 ∷ []) (eqb-true b 94 e))) (λ _ h. absurd cc))))))))))))
    where
      P : Option Sign → Type 0
      P o = o ≡ Some sign → b ∷ 61 ∷ [] ≡ sign_spelling sign

  spelled_doubled : doubled_sign b ≡ Some sign → b ∷ b ∷ [] ≡ sign_spelling sign
  spelled_doubled =
      cond_both (b == 38) _ _ P (λ e h. subst (λ sign. b ∷ b ∷ [] ≡ sign_spelling sign) (let same : s.AndAnd ≡ sign = cc in same) (ap (λ (x : ℕ). x ∷ x ∷ []) (eqb-true b 38 e)))
      (λ _. cond_both (b == 124) _ _ P (λ e h. subst (λ sign. b ∷ b ∷ [] ≡ sign_spelling sign) (let same : s.OrOr ≡ sign = cc in same) (ap (λ (x : ℕ). x ∷ x ∷ []) (eqb-true b 124 e)))
      (λ _. cond_both (b == 60) _ _ P (λ e h. subst (λ sign. b ∷ b ∷ [] ≡ sign_spelling sign) (let same : s.ShiftLeft ≡ sign = cc in same) (ap (λ (x : ℕ). x ∷ x ∷ []) (eqb-true b 60 e)))
      (λ _. cond_both (b == 62) _ _ P (λ e h. subst (λ sign. b ∷ b ∷ [] ≡ sign_spelling sign) (let same : s.ShiftRight ≡ sign = cc in same) (ap (λ (x : ℕ). x ∷ x ∷ []) (eqb-true b 62 e)))
      (λ _. cond_both (b == 43) _ _ P (λ e h. subst (λ sign. b ∷ b ∷ [] ≡ sign_spelling sign) (let same : s.Increment ≡ sign = cc in same) (ap (λ (x : ℕ). x ∷ x ∷ []) (eqb-true b 43 e)))
      (λ _. cond_both (b == 45) _ _ P (λ e h. subst (λ sign. b ∷ b ∷ [] ≡ sign_spelling sign) (let same : s.Decrement ≡ sign = cc in same) (ap (λ (x : ℕ). x ∷ x ∷ []) (eqb-true b 45 e)))
      (λ _. cond_both (b == 35) _ _ P (λ e h. subst (λ sign. b ∷ b ∷ [] ≡ sign_spelling sign) (let same : s.Paste ≡ sign = cc in same) (ap (λ (x : ℕ). x ∷ x ∷ []) (eqb-true b 35 e))) (λ _ h. absurd cc)))))))
    where
      P : Option Sign → Type 0
      P o = o ≡ Some sign → b ∷ b ∷ [] ≡ sign_spelling sign

spelled_two : (b c : ℕ) (sign : Sign) → sign_of_two b c ≡ Some sign → b ∷ c ∷ [] ≡ sign_spelling sign
spelled_two b c sign = cond_both (c == 61) _ _ P (λ e h. subst (λ x. b ∷ x ∷ [] ≡ sign_spelling sign) (sym (eqb-true c 61 e)) (spelled_equals b sign h))
    (λ _. cond_both (b == c) _ _ P (λ e h. subst (λ x. b ∷ x ∷ [] ≡ sign_spelling sign) (eqb-true b c e) (spelled_doubled b sign h))
    (λ _. cond_both (b == 45 && c == 62) _ _ P (λ e h. let f = and_parts (b == 45) (c == 62) e in rw (eqb-true b 45 f.0, eqb-true c 62 f.1) (ap sign_spelling (let same : s.Arrow ≡ sign = cc in same))) (λ _ h. absurd cc)))
  where
    P : Option Sign → Type 0
    P o = o ≡ Some sign → b ∷ c ∷ [] ≡ sign_spelling sign

spelled_three : (b c d : ℕ) (sign : Sign) → sign_of_three b c d ≡ Some sign → b ∷ c ∷ d ∷ [] ≡ sign_spelling sign
spelled_three b c d sign =
    cond_both (b == 60 && c == 60 && d == 61) _ _ P (λ e h. let f = and_parts (b == 60 && c == 60) (d == 61) e in let g = and_parts (b == 60) (c == 60) f.0 in rw (eqb-true b 60 g.0, eqb-true c 60 g.1, eqb-true d 61 f.1) (ap sign_spelling (let same : s.ShiftLeftAssign ≡ sign = cc in same)))
    (λ _. cond_both (b == 62 && c == 62 && d == 61) _ _ P (λ e h. let f = and_parts (b == 62 && c == 62) (d == 61) e in let g = and_parts (b == 62) (c == 62) f.0 in rw (eqb-true b 62 g.0, eqb-true c 62 g.1, eqb-true d 61 f.1) (ap sign_spelling (let same : s.ShiftRightAssign ≡ sign = cc in same)))
    (λ _. cond_both (b == 46 && c == 46 && d == 46) _ _ P (λ e h. let f = and_parts (b == 46 && c == 46) (d == 46) e in let g = and_parts (b == 46) (c == 46) f.0 in rw (eqb-true b 46 g.0, eqb-true c 46 g.1, eqb-true d 46 f.1) (ap sign_spelling (let same : s.Ellipsis ≡ sign = cc in same))) (λ _ h. absurd cc)))
  where
    P : Option Sign → Type 0
    P o = o ≡ Some sign → b ∷ c ∷ d ∷ [] ≡ sign_spelling sign

-- ---- all classes

pub only_spelled : (w : List ℕ) (kind : TokenKind) → IsToken w kind → (spelling kind ≡ []) ⊎ (w ≡ spelling kind)
only_spelled _ _ (written.word w i) = (spelled_word w).0
only_spelled _ _ (written.decimal d x t i h) = inl refl
only_spelled _ _ (written.hexadecimal d x t i h) = inl refl
only_spelled _ _ (written.text body bytes d) = inl refl
only_spelled _ _ (written.character body v d some) = inl refl
only_spelled _ _ (written.one b sign i) = inr (spelled_one b sign i)
only_spelled _ _ (written.two b c sign i) = inr (spelled_two b c sign i)
only_spelled _ _ (written.three b c d sign i) = inr (spelled_three b c d sign i)

pub only_unused : (w : List ℕ) (kind : TokenKind) → IsToken w kind → kind ≡ k.UnusedKeyword → IsOneOf w unused_keywords
only_unused _ _ (written.word w i) = (spelled_word w).1
only_unused _ _ (written.decimal d x t i h) = λ e. absurd cc
only_unused _ _ (written.hexadecimal d x t i h) = λ e. absurd cc
only_unused _ _ (written.text body bytes d) = λ e. absurd cc
only_unused _ _ (written.character body v d some) = λ e. absurd cc
only_unused _ _ (written.one b sign i) = λ e. absurd cc
only_unused _ _ (written.two b c sign i) = λ e. absurd cc
only_unused _ _ (written.three b c d sign i) = λ e. absurd cc

pub keyword_token : (word : Keyword) → IsToken (keyword_spelling word) (k.Keyword word)
keyword_token keyword.Case = written.word (codes "case") (record { some = omega arith; letter = refl; all = refl })
keyword_token keyword.Char = written.word (codes "char") (record { some = omega arith; letter = refl; all = refl })
keyword_token keyword.Const = written.word (codes "const") (record { some = omega arith; letter = refl; all = refl })
keyword_token keyword.Default = written.word (codes "default") (record { some = omega arith; letter = refl; all = refl })
keyword_token keyword.Else = written.word (codes "else") (record { some = omega arith; letter = refl; all = refl })
keyword_token keyword.Enum = written.word (codes "enum") (record { some = omega arith; letter = refl; all = refl })
keyword_token keyword.Goto = written.word (codes "goto") (record { some = omega arith; letter = refl; all = refl })
keyword_token keyword.If = written.word (codes "if") (record { some = omega arith; letter = refl; all = refl })
keyword_token keyword.Int = written.word (codes "int") (record { some = omega arith; letter = refl; all = refl })
keyword_token keyword.Return = written.word (codes "return") (record { some = omega arith; letter = refl; all = refl })
keyword_token keyword.Sizeof = written.word (codes "sizeof") (record { some = omega arith; letter = refl; all = refl })
keyword_token keyword.Static = written.word (codes "static") (record { some = omega arith; letter = refl; all = refl })
keyword_token keyword.Struct = written.word (codes "struct") (record { some = omega arith; letter = refl; all = refl })
keyword_token keyword.Switch = written.word (codes "switch") (record { some = omega arith; letter = refl; all = refl })
keyword_token keyword.Typedef = written.word (codes "typedef") (record { some = omega arith; letter = refl; all = refl })
keyword_token keyword.Void = written.word (codes "void") (record { some = omega arith; letter = refl; all = refl })
keyword_token keyword.StructOffset = written.word (codes "G_STRUCT_OFFSET") (record { some = omega arith; letter = refl; all = refl })

pub constant_token : (name : Constant) → IsToken (constant_spelling name) (k.Constant name)
constant_token constant.Null = written.word (codes "NULL") (record { some = omega arith; letter = refl; all = refl })
constant_token constant.True = written.word (codes "TRUE") (record { some = omega arith; letter = refl; all = refl })
constant_token constant.False = written.word (codes "FALSE") (record { some = omega arith; letter = refl; all = refl })
constant_token constant.TypeNone = written.word (codes "G_TYPE_NONE") (record { some = omega arith; letter = refl; all = refl })
constant_token constant.TypeInterface = written.word (codes "G_TYPE_INTERFACE") (record { some = omega arith; letter = refl; all = refl })
constant_token constant.TypeObject = written.word (codes "G_TYPE_OBJECT") (record { some = omega arith; letter = refl; all = refl })
constant_token constant.TypeBoolean = written.word (codes "G_TYPE_BOOLEAN") (record { some = omega arith; letter = refl; all = refl })
constant_token constant.TypeChar = written.word (codes "G_TYPE_CHAR") (record { some = omega arith; letter = refl; all = refl })
constant_token constant.TypeUchar = written.word (codes "G_TYPE_UCHAR") (record { some = omega arith; letter = refl; all = refl })
constant_token constant.TypeInt = written.word (codes "G_TYPE_INT") (record { some = omega arith; letter = refl; all = refl })
constant_token constant.TypeUint = written.word (codes "G_TYPE_UINT") (record { some = omega arith; letter = refl; all = refl })
constant_token constant.TypeLong = written.word (codes "G_TYPE_LONG") (record { some = omega arith; letter = refl; all = refl })
constant_token constant.TypeUlong = written.word (codes "G_TYPE_ULONG") (record { some = omega arith; letter = refl; all = refl })
constant_token constant.TypeInt64 = written.word (codes "G_TYPE_INT64") (record { some = omega arith; letter = refl; all = refl })
constant_token constant.TypeUint64 = written.word (codes "G_TYPE_UINT64") (record { some = omega arith; letter = refl; all = refl })
constant_token constant.TypeString = written.word (codes "G_TYPE_STRING") (record { some = omega arith; letter = refl; all = refl })
constant_token constant.SignalRunLast = written.word (codes "G_SIGNAL_RUN_LAST") (record { some = omega arith; letter = refl; all = refl })
constant_token constant.SignalMatchId = written.word (codes "G_SIGNAL_MATCH_ID") (record { some = omega arith; letter = refl; all = refl })
constant_token constant.SignalMatchFunc = written.word (codes "G_SIGNAL_MATCH_FUNC") (record { some = omega arith; letter = refl; all = refl })
constant_token constant.SignalMatchData = written.word (codes "G_SIGNAL_MATCH_DATA") (record { some = omega arith; letter = refl; all = refl })
constant_token constant.ConnectAfter = written.word (codes "G_CONNECT_AFTER") (record { some = omega arith; letter = refl; all = refl })
constant_token constant.ParamReadwrite = written.word (codes "G_PARAM_READWRITE") (record { some = omega arith; letter = refl; all = refl })
constant_token constant.ParamConstruct = written.word (codes "G_PARAM_CONSTRUCT") (record { some = omega arith; letter = refl; all = refl })

pub sign_token : (sign : Sign) → IsToken (sign_spelling sign) (k.Sign sign)
sign_token s.OpenBrace = written.one 123 s.OpenBrace refl
sign_token s.CloseBrace = written.one 125 s.CloseBrace refl
sign_token s.OpenParen = written.one 40 s.OpenParen refl
sign_token s.CloseParen = written.one 41 s.CloseParen refl
sign_token s.OpenBracket = written.one 91 s.OpenBracket refl
sign_token s.CloseBracket = written.one 93 s.CloseBracket refl
sign_token s.Comma = written.one 44 s.Comma refl
sign_token s.Semicolon = written.one 59 s.Semicolon refl
sign_token s.Colon = written.one 58 s.Colon refl
sign_token s.Dot = written.one 46 s.Dot refl
sign_token s.Question = written.one 63 s.Question refl
sign_token s.Assign = written.one 61 s.Assign refl
sign_token s.Less = written.one 60 s.Less refl
sign_token s.Greater = written.one 62 s.Greater refl
sign_token s.Plus = written.one 43 s.Plus refl
sign_token s.Minus = written.one 45 s.Minus refl
sign_token s.Star = written.one 42 s.Star refl
sign_token s.Slash = written.one 47 s.Slash refl
sign_token s.Percent = written.one 37 s.Percent refl
sign_token s.Ampersand = written.one 38 s.Ampersand refl
sign_token s.Bar = written.one 124 s.Bar refl
sign_token s.Caret = written.one 94 s.Caret refl
sign_token s.Not = written.one 33 s.Not refl
sign_token s.Tilde = written.one 126 s.Tilde refl
sign_token s.Hash = written.one 35 s.Hash refl
sign_token s.Equal = written.two 61 61 s.Equal refl
sign_token s.NotEqual = written.two 33 61 s.NotEqual refl
sign_token s.LessEqual = written.two 60 61 s.LessEqual refl
sign_token s.GreaterEqual = written.two 62 61 s.GreaterEqual refl
sign_token s.PlusAssign = written.two 43 61 s.PlusAssign refl
sign_token s.MinusAssign = written.two 45 61 s.MinusAssign refl
sign_token s.StarAssign = written.two 42 61 s.StarAssign refl
sign_token s.SlashAssign = written.two 47 61 s.SlashAssign refl
sign_token s.PercentAssign = written.two 37 61 s.PercentAssign refl
sign_token s.AndAssign = written.two 38 61 s.AndAssign refl
sign_token s.OrAssign = written.two 124 61 s.OrAssign refl
sign_token s.XorAssign = written.two 94 61 s.XorAssign refl
sign_token s.AndAnd = written.two 38 38 s.AndAnd refl
sign_token s.OrOr = written.two 124 124 s.OrOr refl
sign_token s.ShiftLeft = written.two 60 60 s.ShiftLeft refl
sign_token s.ShiftRight = written.two 62 62 s.ShiftRight refl
sign_token s.Increment = written.two 43 43 s.Increment refl
sign_token s.Decrement = written.two 45 45 s.Decrement refl
sign_token s.Paste = written.two 35 35 s.Paste refl
sign_token s.Arrow = written.two 45 62 s.Arrow refl
sign_token s.ShiftLeftAssign = written.three 60 60 61 s.ShiftLeftAssign refl
sign_token s.ShiftRightAssign = written.three 62 62 61 s.ShiftRightAssign refl
sign_token s.Ellipsis = written.three 46 46 46 s.Ellipsis refl

pub some_spelled : (kind : TokenKind) → (spelling kind ≡ []) ⊎ IsToken (spelling kind) kind
some_spelled k.Identifier = inl refl
some_spelled (k.Keyword word) = inr (keyword_token word)
some_spelled k.UnusedKeyword = inl refl
some_spelled (k.Constant name) = inr (constant_token name)
some_spelled (k.Number v t) = inl refl
some_spelled k.Text = inl refl
some_spelled (k.Character v) = inl refl
some_spelled (k.Sign sign) = inr (sign_token sign)

is_unused : (w v : List ℕ) → w ≡ v → IsToken v k.UnusedKeyword → IsToken w k.UnusedKeyword
is_unused w v e i = subst (λ x. IsToken x k.UnusedKeyword) (sym e) i

pub some_unused : (w : List ℕ) → IsOneOf w unused_keywords → IsToken w k.UnusedKeyword
some_unused w (inl e) = is_unused w (codes "_Alignas") e (written.word (codes "_Alignas") (record { some = omega arith; letter = refl; all = refl }))
some_unused w (inr (inl e)) = is_unused w (codes "_Alignof") e (written.word (codes "_Alignof") (record { some = omega arith; letter = refl; all = refl }))
some_unused w (inr (inr (inl e))) = is_unused w (codes "_Atomic") e (written.word (codes "_Atomic") (record { some = omega arith; letter = refl; all = refl }))
some_unused w (inr (inr (inr (inl e)))) = is_unused w (codes "_Bool") e (written.word (codes "_Bool") (record { some = omega arith; letter = refl; all = refl }))
some_unused w (inr (inr (inr (inr (inl e))))) = is_unused w (codes "_Complex") e (written.word (codes "_Complex") (record { some = omega arith; letter = refl; all = refl }))
some_unused w (inr (inr (inr (inr (inr (inl e)))))) = is_unused w (codes "_Generic") e (written.word (codes "_Generic") (record { some = omega arith; letter = refl; all = refl }))
some_unused w (inr (inr (inr (inr (inr (inr (inl e))))))) = is_unused w (codes "_Imaginary") e (written.word (codes "_Imaginary") (record { some = omega arith; letter = refl; all = refl }))
some_unused w (inr (inr (inr (inr (inr (inr (inr (inl e)))))))) = is_unused w (codes "_Noreturn") e (written.word (codes "_Noreturn") (record { some = omega arith; letter = refl; all = refl }))
some_unused w (inr (inr (inr (inr (inr (inr (inr (inr (inl e))))))))) = is_unused w (codes "_Static_assert") e (written.word (codes "_Static_assert") (record { some = omega arith; letter = refl; all = refl }))
some_unused w (inr (inr (inr (inr (inr (inr (inr (inr (inr (inl e)))))))))) = is_unused w (codes "_Thread_local") e (written.word (codes "_Thread_local") (record { some = omega arith; letter = refl; all = refl }))
some_unused w (inr (inr (inr (inr (inr (inr (inr (inr (inr (inr (inl e))))))))))) = is_unused w (codes "auto") e (written.word (codes "auto") (record { some = omega arith; letter = refl; all = refl }))
some_unused w (inr (inr (inr (inr (inr (inr (inr (inr (inr (inr (inr (inl e)))))))))))) = is_unused w (codes "break") e (written.word (codes "break") (record { some = omega arith; letter = refl; all = refl }))
some_unused w (inr (inr (inr (inr (inr (inr (inr (inr (inr (inr (inr (inr (inl e))))))))))))) = is_unused w (codes "continue") e (written.word (codes "continue") (record { some = omega arith; letter = refl; all = refl }))
some_unused w (inr (inr (inr (inr (inr (inr (inr (inr (inr (inr (inr (inr (inr (inl e)))))))))))))) = is_unused w (codes "do") e (written.word (codes "do") (record { some = omega arith; letter = refl; all = refl }))
some_unused w (inr (inr (inr (inr (inr (inr (inr (inr (inr (inr (inr (inr (inr (inr (inl e))))))))))))))) = is_unused w (codes "double") e (written.word (codes "double") (record { some = omega arith; letter = refl; all = refl }))
some_unused w (inr (inr (inr (inr (inr (inr (inr (inr (inr (inr (inr (inr (inr (inr (inr (inl e)))))))))))))))) = is_unused w (codes "extern") e (written.word (codes "extern") (record { some = omega arith; letter = refl; all = refl }))
some_unused w (inr (inr (inr (inr (inr (inr (inr (inr (inr (inr (inr (inr (inr (inr (inr (inr (inl e))))))))))))))))) = is_unused w (codes "float") e (written.word (codes "float") (record { some = omega arith; letter = refl; all = refl }))
some_unused w (inr (inr (inr (inr (inr (inr (inr (inr (inr (inr (inr (inr (inr (inr (inr (inr (inr (inl e)))))))))))))))))) = is_unused w (codes "for") e (written.word (codes "for") (record { some = omega arith; letter = refl; all = refl }))
some_unused w (inr (inr (inr (inr (inr (inr (inr (inr (inr (inr (inr (inr (inr (inr (inr (inr (inr (inr (inl e))))))))))))))))))) = is_unused w (codes "inline") e (written.word (codes "inline") (record { some = omega arith; letter = refl; all = refl }))
some_unused w (inr (inr (inr (inr (inr (inr (inr (inr (inr (inr (inr (inr (inr (inr (inr (inr (inr (inr (inr (inl e)))))))))))))))))))) = is_unused w (codes "long") e (written.word (codes "long") (record { some = omega arith; letter = refl; all = refl }))
some_unused w (inr (inr (inr (inr (inr (inr (inr (inr (inr (inr (inr (inr (inr (inr (inr (inr (inr (inr (inr (inr (inl e))))))))))))))))))))) = is_unused w (codes "register") e (written.word (codes "register") (record { some = omega arith; letter = refl; all = refl }))
some_unused w (inr (inr (inr (inr (inr (inr (inr (inr (inr (inr (inr (inr (inr (inr (inr (inr (inr (inr (inr (inr (inr (inl e)))))))))))))))))))))) = is_unused w (codes "restrict") e (written.word (codes "restrict") (record { some = omega arith; letter = refl; all = refl }))
some_unused w (inr (inr (inr (inr (inr (inr (inr (inr (inr (inr (inr (inr (inr (inr (inr (inr (inr (inr (inr (inr (inr (inr (inl e))))))))))))))))))))))) = is_unused w (codes "short") e (written.word (codes "short") (record { some = omega arith; letter = refl; all = refl }))
some_unused w (inr (inr (inr (inr (inr (inr (inr (inr (inr (inr (inr (inr (inr (inr (inr (inr (inr (inr (inr (inr (inr (inr (inr (inl e)))))))))))))))))))))))) = is_unused w (codes "signed") e (written.word (codes "signed") (record { some = omega arith; letter = refl; all = refl }))
some_unused w (inr (inr (inr (inr (inr (inr (inr (inr (inr (inr (inr (inr (inr (inr (inr (inr (inr (inr (inr (inr (inr (inr (inr (inr (inl e))))))))))))))))))))))))) = is_unused w (codes "union") e (written.word (codes "union") (record { some = omega arith; letter = refl; all = refl }))
some_unused w (inr (inr (inr (inr (inr (inr (inr (inr (inr (inr (inr (inr (inr (inr (inr (inr (inr (inr (inr (inr (inr (inr (inr (inr (inr (inl e)))))))))))))))))))))))))) = is_unused w (codes "unsigned") e (written.word (codes "unsigned") (record { some = omega arith; letter = refl; all = refl }))
some_unused w (inr (inr (inr (inr (inr (inr (inr (inr (inr (inr (inr (inr (inr (inr (inr (inr (inr (inr (inr (inr (inr (inr (inr (inr (inr (inr (inl e))))))))))))))))))))))))))) = is_unused w (codes "volatile") e (written.word (codes "volatile") (record { some = omega arith; letter = refl; all = refl }))
some_unused w (inr (inr (inr (inr (inr (inr (inr (inr (inr (inr (inr (inr (inr (inr (inr (inr (inr (inr (inr (inr (inr (inr (inr (inr (inr (inr (inr (inl e)))))))))))))))))))))))))))) = is_unused w (codes "while") e (written.word (codes "while") (record { some = omega arith; letter = refl; all = refl }))
some_unused w (inr (inr (inr (inr (inr (inr (inr (inr (inr (inr (inr (inr (inr (inr (inr (inr (inr (inr (inr (inr (inr (inr (inr (inr (inr (inr (inr (inr e)))))))))))))))))))))))))))) = absurd e
