-- How a text is written between its quotes.
use Rattle.std.proofs.Common.{◌≡◌, ℕ, true, List, [], ◌∷◌, Some, arith}
use Rattle.std.proofs.lemmas.Bool.Decides.{nat_tests}
use Rattle.vg_base.specs.Small.{is_plain, escape_of, Denotes, nothing, plain, escape, spelled, spelling}

spelled_plain : (b : ℕ) → is_plain b ≡ true → spelled b ≡ b ∷ []
spelled_plain b h = grind (arith, nat_tests)

-- a byte that is written by an escape is written by that one
spelled_at : (c b : ℕ) → escape_of c ≡ Some b → spelled b ≡ 92 ∷ c ∷ []
spelled_at c b h = grind (arith, nat_tests)

pub spelled_texts : (body bytes : List ℕ) → Denotes body bytes → Denotes (spelling bytes) bytes
spelled_texts _ _ nothing = nothing
spelled_texts _ _ (plain b {body} {bytes} p d) =
    let again : Denotes (b ∷ spelling bytes) (b ∷ bytes) = plain b p (spelled_texts body bytes d) in
    rw (spelled_plain b p) again
spelled_texts _ _ (escape c b {body} {bytes} p d) =
    let again : Denotes (92 ∷ c ∷ spelling bytes) (b ∷ bytes) = escape c b p (spelled_texts body bytes d) in
    rw (spelled_at c b p) again
