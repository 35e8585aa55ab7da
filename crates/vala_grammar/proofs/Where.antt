-- A choice of a token and what follows it fits, and sets within themselves need no computing.
use Rattle.std.proofs.Common.{◌≡◌, ℕ, Bool, true, false, ◌&&◌, List, [], ◌∷◌, refl}
use Rattle.predictive_grammar.specs.Forms.{Form, take, pick}
use Rattle.predictive_grammar.proofs.Sets.{all, implies, is_within, is_apart}
use Rattle.predictive_grammar.proofs.Fits.{Fits, either, Nones, Each, avoids, where_token}
use Rattle.vala_lexer.specs.Tokens.{Lexeme}
use Rattle.vala_grammar.specs.declared.sort.Sort.{Sort}
use Rattle.vala_grammar.specs.Parts.{Part, tree_of}
use Rattle.vala_grammar.specs.Grammar.{G}
use Rattle.vala_grammar.proofs.Finite.{finite}
use Rattle.vala_grammar.proofs.Tables.{tabled}

implies_self : (a : Bool) → implies a a ≡ true
implies_self true = refl
implies_self false = refl

and_both : (a b : Bool) → a ≡ true → b ≡ true → (a && b) ≡ true
and_both true b e f = f
and_both false b e f = e

self_in : (f : Sort → Bool) (xs : List Sort) → all (λ x. implies (f x) (f x)) xs ≡ true
self_in f [] = refl
self_in f (x ∷ xs) = and_both (implies (f x) (f x)) (all (λ x. implies (f x) (f x)) xs) (implies_self (f x)) (self_in f xs)

pub same_set : (f : Sort → Bool) → is_within finite f f ≡ true
same_set f = self_in f finite.kinds

-- the way of a token, or the other
pub where_fits : {r : Part} {moved : Bool} {up : ℕ → ℕ} {items : ℕ} {test h : Sort → Bool} {k : Lexeme → Form G r} {b : Form G r} {f : Lexeme → Sort → Bool}
    {y : Lexeme → Nones (tree_of r)} {z : Nones (tree_of r)} (x : Sort) → test x ≡ true → ((t : Lexeme) → Fits tabled r true (f t) (y t) (k t)) → Fits tabled r moved h z b
    → is_apart finite h test ≡ true → Each z (avoids tabled r test) → Fits tabled r moved (either test h) z (pick test (take up items test k) b)
where_fits x e rest other apart stops = where_token x e rest other apart stops
