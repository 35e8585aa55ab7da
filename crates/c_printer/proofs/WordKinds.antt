-- A word is a keyword, a literal or an identifier, and no other token.
use Rattle.std.proofs.Common.{◌≡◌, refl, ℕ, Bool, true, false, cond, ◌==◌, List, codes, get_or}
use Rattle.std.specs.Str.{bytes_eq}
use Rattle.c_lexer.specs.declared.token.TokenKind.{TokenKind}
use Rattle.c_lexer.specs.declared.token.TokenKind.TheVariants as k
use Rattle.c_lexer.specs.Words.{word_in_a, word_in_b, word_in_c, word_in_d, word_in_e, word_in_f, word_in_g, word_in_i, word_in_l, word_in_r, word_in_s, word_in_t, word_in_u, word_in_v, word_in_w, word_in_capital_f, word_in_capital_n, word_in_capital_t, word_in_underscore, word_in_g_c, word_in_g_p, word_in_g_s, word_in_g_t, word_behind_g, word_starting, word_kind}

abbrev pub is_worded : TokenKind → Bool
is_worded (k.Number n y) = false
is_worded k.Text = false
is_worded (k.Character b) = false
is_worded kind = true

one : (b : Bool) (x y : TokenKind) → is_worded x ≡ true → is_worded y ≡ true → is_worded (cond b x y) ≡ true
one true x y p q = p
one false x y p q = q

in_a : (w : List ℕ) → is_worded (word_in_a w) ≡ true
in_a w = one (bytes_eq w (codes "auto")) _ _ refl refl

in_b : (w : List ℕ) → is_worded (word_in_b w) ≡ true
in_b w = one (bytes_eq w (codes "break")) _ _ refl refl

in_c : (w : List ℕ) → is_worded (word_in_c w) ≡ true
in_c w = one (bytes_eq w (codes "case")) _ _ refl
    (one (bytes_eq w (codes "char")) _ _ refl
    (one (bytes_eq w (codes "const")) _ _ refl
    (one (bytes_eq w (codes "continue")) _ _ refl refl)))

in_d : (w : List ℕ) → is_worded (word_in_d w) ≡ true
in_d w = one (bytes_eq w (codes "default")) _ _ refl (one (bytes_eq w (codes "do")) _ _ refl (one (bytes_eq w (codes "double")) _ _ refl refl))

in_e : (w : List ℕ) → is_worded (word_in_e w) ≡ true
in_e w = one (bytes_eq w (codes "else")) _ _ refl (one (bytes_eq w (codes "enum")) _ _ refl (one (bytes_eq w (codes "extern")) _ _ refl refl))

in_f : (w : List ℕ) → is_worded (word_in_f w) ≡ true
in_f w = one (bytes_eq w (codes "float")) _ _ refl (one (bytes_eq w (codes "for")) _ _ refl refl)

in_g : (w : List ℕ) → is_worded (word_in_g w) ≡ true
in_g w = one (bytes_eq w (codes "goto")) _ _ refl refl

in_i : (w : List ℕ) → is_worded (word_in_i w) ≡ true
in_i w = one (bytes_eq w (codes "if")) _ _ refl (one (bytes_eq w (codes "inline")) _ _ refl (one (bytes_eq w (codes "int")) _ _ refl refl))

in_l : (w : List ℕ) → is_worded (word_in_l w) ≡ true
in_l w = one (bytes_eq w (codes "long")) _ _ refl refl

in_r : (w : List ℕ) → is_worded (word_in_r w) ≡ true
in_r w = one (bytes_eq w (codes "register")) _ _ refl (one (bytes_eq w (codes "restrict")) _ _ refl (one (bytes_eq w (codes "return")) _ _ refl refl))

in_s : (w : List ℕ) → is_worded (word_in_s w) ≡ true
in_s w = one (bytes_eq w (codes "short")) _ _ refl
    (one (bytes_eq w (codes "signed")) _ _ refl
    (one (bytes_eq w (codes "sizeof")) _ _ refl
    (one (bytes_eq w (codes "static")) _ _ refl
    (one (bytes_eq w (codes "struct")) _ _ refl
    (one (bytes_eq w (codes "switch")) _ _ refl refl)))))

in_t : (w : List ℕ) → is_worded (word_in_t w) ≡ true
in_t w = one (bytes_eq w (codes "typedef")) _ _ refl refl

in_u : (w : List ℕ) → is_worded (word_in_u w) ≡ true
in_u w = one (bytes_eq w (codes "union")) _ _ refl (one (bytes_eq w (codes "unsigned")) _ _ refl refl)

in_v : (w : List ℕ) → is_worded (word_in_v w) ≡ true
in_v w = one (bytes_eq w (codes "void")) _ _ refl (one (bytes_eq w (codes "volatile")) _ _ refl refl)

in_w : (w : List ℕ) → is_worded (word_in_w w) ≡ true
in_w w = one (bytes_eq w (codes "while")) _ _ refl refl

in_capital_f : (w : List ℕ) → is_worded (word_in_capital_f w) ≡ true
in_capital_f w = one (bytes_eq w (codes "FALSE")) _ _ refl refl

in_capital_n : (w : List ℕ) → is_worded (word_in_capital_n w) ≡ true
in_capital_n w = one (bytes_eq w (codes "NULL")) _ _ refl refl

in_capital_t : (w : List ℕ) → is_worded (word_in_capital_t w) ≡ true
in_capital_t w = one (bytes_eq w (codes "TRUE")) _ _ refl refl

in_underscore : (w : List ℕ) → is_worded (word_in_underscore w) ≡ true
in_underscore w = one (bytes_eq w (codes "_Alignas")) _ _ refl
    (one (bytes_eq w (codes "_Alignof")) _ _ refl
    (one (bytes_eq w (codes "_Atomic")) _ _ refl
    (one (bytes_eq w (codes "_Bool")) _ _ refl
    (one (bytes_eq w (codes "_Complex")) _ _ refl
    (one (bytes_eq w (codes "_Generic")) _ _ refl
    (one (bytes_eq w (codes "_Imaginary")) _ _ refl
    (one (bytes_eq w (codes "_Noreturn")) _ _ refl
    (one (bytes_eq w (codes "_Static_assert")) _ _ refl
    (one (bytes_eq w (codes "_Thread_local")) _ _ refl refl)))))))))

in_g_c : (w : List ℕ) → is_worded (word_in_g_c w) ≡ true
in_g_c w = one (bytes_eq w (codes "G_CONNECT_AFTER")) _ _ refl refl

in_g_p : (w : List ℕ) → is_worded (word_in_g_p w) ≡ true
in_g_p w = one (bytes_eq w (codes "G_PARAM_CONSTRUCT")) _ _ refl (one (bytes_eq w (codes "G_PARAM_READWRITE")) _ _ refl refl)

in_g_s : (w : List ℕ) → is_worded (word_in_g_s w) ≡ true
in_g_s w = one (bytes_eq w (codes "G_SIGNAL_MATCH_DATA")) _ _ refl
    (one (bytes_eq w (codes "G_SIGNAL_MATCH_FUNC")) _ _ refl
    (one (bytes_eq w (codes "G_SIGNAL_MATCH_ID")) _ _ refl
    (one (bytes_eq w (codes "G_SIGNAL_RUN_LAST")) _ _ refl
    (one (bytes_eq w (codes "G_STRUCT_OFFSET")) _ _ refl refl))))

in_g_t : (w : List ℕ) → is_worded (word_in_g_t w) ≡ true
in_g_t w = one (bytes_eq w (codes "G_TYPE_BOOLEAN")) _ _ refl
    (one (bytes_eq w (codes "G_TYPE_CHAR")) _ _ refl
    (one (bytes_eq w (codes "G_TYPE_INT")) _ _ refl
    (one (bytes_eq w (codes "G_TYPE_INT64")) _ _ refl
    (one (bytes_eq w (codes "G_TYPE_INTERFACE")) _ _ refl
    (one (bytes_eq w (codes "G_TYPE_LONG")) _ _ refl
    (one (bytes_eq w (codes "G_TYPE_NONE")) _ _ refl
    (one (bytes_eq w (codes "G_TYPE_OBJECT")) _ _ refl
    (one (bytes_eq w (codes "G_TYPE_STRING")) _ _ refl
    (one (bytes_eq w (codes "G_TYPE_UCHAR")) _ _ refl
    (one (bytes_eq w (codes "G_TYPE_UINT")) _ _ refl
    (one (bytes_eq w (codes "G_TYPE_UINT64")) _ _ refl
    (one (bytes_eq w (codes "G_TYPE_ULONG")) _ _ refl refl))))))))))))

behind_g : (b : ℕ) (w : List ℕ) → is_worded (word_behind_g b w) ≡ true
behind_g b w = one (b == 67) _ _ (in_g_c w) (one (b == 80) _ _ (in_g_p w) (one (b == 83) _ _ (in_g_s w) (one (b == 84) _ _ (in_g_t w) refl)))

starting : (b : ℕ) (w : List ℕ) → is_worded (word_starting b w) ≡ true
starting b w = one (b == 97) _ _ (in_a w)
    (one (b == 98) _ _ (in_b w)
    (one (b == 99) _ _ (in_c w)
    (one (b == 100) _ _ (in_d w)
    (one (b == 101) _ _ (in_e w)
    (one (b == 102) _ _ (in_f w)
    (one (b == 103) _ _ (in_g w)
    (one (b == 105) _ _ (in_i w)
    (one (b == 108) _ _ (in_l w)
    (one (b == 114) _ _ (in_r w)
    (one (b == 115) _ _ (in_s w)
    (one (b == 116) _ _ (in_t w)
    (one (b == 117) _ _ (in_u w)
    (one (b == 118) _ _ (in_v w)
    (one (b == 119) _ _ (in_w w)
    (one (b == 70) _ _ (in_capital_f w)
    (one (b == 78) _ _ (in_capital_n w)
    (one (b == 84) _ _ (in_capital_t w)
    (one (b == 95) _ _ (in_underscore w)
    (one (b == 71) _ _ (behind_g (get_or w 2 0) w) refl)))))))))))))))))))

pub worded : (w : List ℕ) → is_worded (word_kind w) ≡ true
worded w = starting (get_or w 0 0) w
