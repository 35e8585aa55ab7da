-- A level over the limit is answered as the limit is: no token stands at either.
use Rattle.std.proofs.Common.{◌≡◌, ℕ, ◌<◌, ◌≤◌, nat_lt, Bool, true, false, if◌then◌else◌, List, [], ◌∷◌, Option, Some, None, Result, Ok, Err, min, refl, sym, ap, ◌∙◌, arith}
use Rattle.std.proofs.lemmas.Bool.{le-ltb, ltb-true, ltb-false}
use Rattle.predictive_grammar.specs.Steps.{Fault, Syntax, LeftOut, Nesting, Outcome, Parser, and_then}
use Rattle.vala_lexer.specs.Tokens.{Lexeme}
use Rattle.vala_grammar.specs.declared.sort.Sort.{Sort}
use Rattle.vala_grammar.specs.declared.sort.Sort.TheVariants as s
use Rattle.vala_grammar.specs.declared.parts.Signs.TheVariants as signs
use Rattle.vala_grammar.specs.Label.{Label, Here}
use Rattle.vala_grammar.specs.Parts as p
use Rattle.vala_grammar.specs.Parts.{Part}
use Rattle.vala_grammar.specs.Sorts.{sort}
use Rattle.vala_grammar.specs.Tests.{is, is_literal, is_prefix}
use Rattle.vala_grammar.specs.Read.{vala_reader}
use Rattle.vala_cursor.specs.declared.stop.Stop.{Stop}
use Rattle.vala_cursor.specs.declared.stop.Stop.TheVariants.{Memory, Flawed}
use Rattle.vala_cursor.specs.Gets.{Gets, got, next, leave}
use Rattle.vala_expressions.proofs.OperandLaws.{atom_law, init_law}
use Rattle.vala_expressions.proofs.ChainLaws.{whole_law, value_law, nameless_law, immediate_law, direct_law}
use Rattle.vala_parse_expr.proofs.StatementLaws.{block_of_law}

-- the same fault at the first token
record Refused {A : Type 0} (i : List Lexeme) (a b : Outcome Label Lexeme A) : Type 0 where
  fault : Fault Label
  high : a ≡ Err (fault, i)
  limit : b ≡ Err (fault, i)

by_laws : {A : Type 0} {i : List Lexeme} {a a' b b' : Outcome Label Lexeme A} → a ≡ a' → b ≡ b' → Refused i a' b' → Refused i a b
by_laws e f r = record { fault = r.fault; high = e ∙ r.high; limit = f ∙ r.limit }

-- nothing is read behind the fault
before : {A B : Type 0} {i : List Lexeme} {a b : Outcome Label Lexeme A} (f h : A → Parser Label Lexeme B) → Refused i a b → Refused i (and_then a f) (and_then b h)
before f h r = record { fault = r.fault; high = ap (λ o. and_then o f) r.high; limit = ap (λ o. and_then o h) r.limit }

either : {A : Type 0} {i : List Lexeme} {a b c d : Outcome Label Lexeme A} (x : Bool) → Refused i a b → Refused i c d → Refused i (if x then a else c) (if x then b else d)
either true r q = r
either false r q = q

left_out : {A : Type 0} (i : List Lexeme) → Refused i (leave {A = A} i) (leave {A = A} i)
left_out i = record { fault = LeftOut Here; high = refl; limit = refl }

-- no token is taken
no_token : (test : Sort → Bool) (l : ℕ) → 201 ≤ l → (i : List Lexeme) → Refused i (got test 0 l i) (got test 0 201 i)
unfolding got
no_token test l h [] = record { fault = Syntax; high = refl; limit = refl }
no_token test l h (t ∷ ts) = go (test (sort t.kind)) (nat_lt l 201) (le-ltb l 201 h)
  where
    go : (b c : Bool) → c ≡ false
        → Refused (t ∷ ts) (if b then (if c then Ok (t, ts) else Err (Nesting, t ∷ ts)) else Err (Syntax, t ∷ ts)) (if b then Err (Nesting, t ∷ ts) else Err (Syntax, t ∷ ts))
    go false c e = record { fault = Syntax; high = refl; limit = refl }
    go true false e = record { fault = Nesting; high = refl; limit = refl }
    go true true e = absurd cc

abbrev At : Part → ℕ → List Lexeme → Type 0
At q l i = Refused i (vala_reader q l i) (vala_reader q 201 i)

module _ (l : ℕ) (high : 201 ≤ l) (i : List Lexeme) where
  atom : At p.Atom l i
  atom = by_laws (atom_law l i) (atom_law 201 i)
      (either (next is_literal i) (before _ _ (no_token is_literal l high i))
      (either (next (is s.This) i) (before _ _ (no_token (is s.This) l high i))
      (either (next (is s.Base) i) (before _ _ (no_token (is s.Base) l high i)) (before _ _ (no_token (is s.New) l high i)))))

  direct : At (p.Direct signs.All) l i
  direct = by_laws (direct_law signs.All l i) (direct_law signs.All 201 i)
      (either (next (is_prefix signs.All) i) (before _ _ (no_token (is_prefix signs.All) l high i)) (before _ _ atom))

  immediate : At p.Immediate l i
  immediate = by_laws (immediate_law l i) (immediate_law 201 i) (either (next (is s.OpenParen) i) (before _ _ (no_token (is s.OpenParen) l high i)) (before _ _ direct))

  nameless : At p.Nameless l i
  nameless = by_laws (nameless_law l i) (nameless_law 201 i) (either (next (is s.Yield) i) (before _ _ (no_token (is s.Yield) l high i)) (before _ _ immediate))

  value : At p.Value l i
  value = by_laws (value_law l i) (value_law 201 i) (either (next (is s.Identifier) i) (before _ _ (no_token (is s.Identifier) l high i)) (before _ _ nameless))

  whole : At p.Whole l i
  whole = by_laws (whole_law l i) (whole_law 201 i) (either (next (is s.Slash) i) (left_out i) (before _ _ value))

  init : At p.Init l i
  init = by_laws (init_law l i) (init_law 201 i) (either (next (is s.OpenBrace) i) (before _ _ (no_token (is s.OpenBrace) l high i)) (before _ _ whole))

  block : At p.BlockOf l i
  block = by_laws (block_of_law l i) (block_of_law 201 i) (before _ _ (no_token (is s.OpenBrace) l high i))

-- a part that is refused at each level over the limit is read at no higher level than it
at_most : (q : Part) → ((l : ℕ) → 201 ≤ l → (i : List Lexeme) → At q l i) → (l m : ℕ) → m ≡ min l 201 → (i : List Lexeme) → vala_reader q l i ≡ vala_reader q m i
at_most q refused l m e i = go (nat_lt l 201) refl
  where
    go : (c : Bool) → nat_lt l 201 ≡ c → vala_reader q l i ≡ vala_reader q m i
    go true k = let low : l < 201 = ltb-true l 201 k in let same : l ≡ m = omega arith in ap (λ x. vala_reader q x i) same
    go false k = let over : 201 ≤ l = ltb-false l 201 k in let r : At q l i = refused l over i in let same : 201 ≡ m = omega arith in
        r.high ∙ sym r.limit ∙ ap (λ x. vala_reader q x i) same

pub whole_at_most : (l m : ℕ) → m ≡ min l 201 → (i : List Lexeme) → vala_reader p.Whole l i ≡ vala_reader p.Whole m i
whole_at_most = at_most p.Whole whole

pub init_at_most : (l m : ℕ) → m ≡ min l 201 → (i : List Lexeme) → vala_reader p.Init l i ≡ vala_reader p.Init m i
init_at_most = at_most p.Init init

pub block_at_most : (l m : ℕ) → m ≡ min l 201 → (i : List Lexeme) → vala_reader p.BlockOf l i ≡ vala_reader p.BlockOf m i
block_at_most = at_most p.BlockOf block

pub gets_too : {A : Type 0} (o q : Outcome Label Lexeme A) (r : Result A Stop) (new : List Lexeme) → o ≡ q → Gets q r new → Gets o r new
gets_too o q (Ok a) new e g = e ∙ g
gets_too o q (Err Memory) new e g = tt
gets_too o q (Err (Flawed f)) new e g = e ∙ g
