-- Signs are equal where their numbers are.
use Rattle.std.proofs.Common.{◌≡◌, ℕ, ◌==◌, refl, ap₂}
use denote.Enum.Declared.{tag_of}
use Rattle.c_lexer.specs.contracts.token.Sign.{the_type}
use Rattle.c_lexer.specs.declared.token.Sign.{Sign}
use Rattle.c_lexer.specs.declared.token.Sign.TheVariants as sign
use Rattle.c_grammar.specs.Sorts.{sign_number}

-- the number of a sign is that of the program
sign_tag : (s : Sign) → tag_of the_type s ≡ sign_number s
sign_tag sign.OpenBrace = refl
sign_tag s = refl

pub signs_equal : (s t : Sign) → (tag_of the_type s == tag_of the_type t) ≡ (sign_number s == sign_number t)
signs_equal s t = ap₂ (λ (a b : ℕ). a == b) (sign_tag s) (sign_tag t)
