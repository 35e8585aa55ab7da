-- What texts denote.
use Rattle.std.proofs.Common.{◌≡◌, ◌≢◌, ℕ, zero, suc, ◌-◌, ◌==◌, Bool, true, false, cond, List, [], ◌∷◌, ◌++◌, length, take, drop, Some, refl, ap, ◌∙◌, arith, length-append}
use Rattle.std.specs.Char.{encode_utf8}
use Rattle.std.proofs.lemmas.Bool.{eqb-true}
use Rattle.std.proofs.lemmas.List.{take_at}
use Rattle.vala_lexer.specs.Bytes.{starts_with_quotes}
use Rattle.vala_lexer.specs.Texts.{denoted, denoted_behind, escape, escape_bytes, escape_len, text_value}
use Rattle.vala_lexer.specs.declared.texts.Escape.{Escape}
use Rattle.vala_lexer.specs.declared.texts.Literal.TheVariants as literal

-- the bytes that an escape took denote nothing more
behind : (n : ℕ) (z : List ℕ) → denoted_behind n z ≡ denoted (drop n z)
behind zero z = refl
behind (suc n) [] = refl
behind (suc n) (b ∷ z) = behind n z

pub denoted_byte : (b : ℕ) (z : List ℕ) → b ≢ 92 → denoted (b ∷ z) ≡ b ∷ denoted z
denoted_byte b z h = go (b == 92) refl
  where
    go : (t : Bool) → (b == 92) ≡ t → cond t (escape_bytes (escape literal.Text z) ++ denoted_behind (escape_len (escape literal.Text z)) z) (b ∷ denoted z) ≡ b ∷ denoted z
    go true e = absurd (h (eqb-true b 92 e))
    go false e = refl

pub denoted_escape : (z : List ℕ) (e : Escape) → escape literal.Text z ≡ Some e → denoted (92 ∷ z) ≡ encode_utf8 e.code ++ denoted (drop e.len z)
denoted_escape z e h =
    ap (λ o. escape_bytes o ++ denoted_behind (escape_len o) z) h ∙ ap (λ l. encode_utf8 e.code ++ l) (behind e.len z)

pub verbatim_value : (b : List ℕ) → text_value (34 ∷ 34 ∷ 34 ∷ b ++ 34 ∷ 34 ∷ 34 ∷ []) ≡ b
verbatim_value b =
    let q = 34 ∷ 34 ∷ 34 ∷ [] in
    take_at b q (length (34 ∷ 34 ∷ 34 ∷ b ++ q) - 6) (omega (arith, length-append b q))

pub plain_value : (b : List ℕ) → starts_with_quotes (34 ∷ b ++ 34 ∷ []) ≡ false → text_value (34 ∷ b ++ 34 ∷ []) ≡ denoted b
plain_value b h =
    let w = 34 ∷ b ++ 34 ∷ [] in
    ap (λ t. cond t (take (length w - 6) (drop 3 w)) (denoted (take (length w - 2) (drop 1 w)))) h
    ∙ ap denoted (take_at b (34 ∷ []) (length w - 2) (omega (arith, length-append b (34 ∷ []))))
