-- Trees that are seen by less, and rows of tokens.
use Rattle.std.proofs.Common.{◌≡◌, [], ◌∷◌, Option, Some, None, refl, ap}
use Rattle.mending_readers.specs.Mending.{Mended, mend_then}
use Rattle.c_tree.specs.declared.names.Span.{Span}
use Rattle.c_tree.specs.Words.{Token, Word, at}
use Rattle.c_nodes.specs.Rows.{row_of}
use Rattle.c_cursor.specs.Gives.{seen_by}
use Rattle.c_parser.specs.Rows.{joined}

-- 1. Trees that are seen by less

pub seen_same : {T A B : Type 0} (f g : A → B) (o : Mended T A) → ((a : A) → f a ≡ g a) → seen_by f o ≡ seen_by g o
seen_same f g None e = refl
seen_same f g (Some x) e = ap (λ b. Some (b, x.1)) (e x.0)

pub seen_more : {T A B C : Type 0} (f : B → C) (k : A → B) (o : Mended T A) → seen_by f (mend_then o (λ a z. Some (k a, z))) ≡ seen_by (λ a. f (k a)) o
seen_more f k None = refl
seen_more f k (Some x) = refl

-- 2. Rows

pub row_step : (row : Option Span) (t : Token) (u : Word) → joined (joined row (Some (at t))) (row_of u) ≡ joined row (row_of (t ∷ u))
row_step None t [] = refl
row_step None t (y ∷ v) = refl
row_step (Some r) t [] = refl
row_step (Some r) t (y ∷ v) = refl

pub row_none : (row : Option Span) → joined row None ≡ row
row_none None = refl
row_none (Some r) = refl

-- constructors
pub some_same : {A : Type 0} (x y : A) → Some x ≡ Some y → x ≡ y
some_same x y h = cc

pub none_some : {A : Type 0} (x : A) → None ≡ Some x → ⊥
none_some x h = absurd cc
