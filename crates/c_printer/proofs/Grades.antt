-- A value stands without brackets where it binds tightly enough.
use Rattle.std.proofs.Common.{◌≡◌, ◌∙◌, refl, sym, ap, subst, ℕ, zero, suc, ◌+◌, ◌-◌, ◌≤◌, ◌<◌, ◌==◌, if◌then◌else◌, Bool, true, [], append-nil, Some, arith}
use Rattle.std.proofs.lemmas.Bool.{leb-true, ltb-true}
use Rattle.c_tree.specs.declared.operators.Level.{Level}
use Rattle.c_tree.specs.declared.operators.Level.TheVariants as level
use Rattle.c_tree.specs.declared.code.Expr.{Expr}
use Rattle.c_tree.specs.Words.{Word}
use Rattle.c_tree.specs.Names.{Names}
use Rattle.c_tree.specs.Values as v
use Rattle.c_tree.specs.Values.{tighter}
use Rattle.c_printer.specs.declared.grade.Grade.{Grade}
use Rattle.c_printer.specs.declared.grade.Grade.TheVariants.{Choosing, Chaining, Prefixing, Suffixing, Single}
use Rattle.c_printer.specs.declared.grade.Place.{Place}
use Rattle.c_printer.specs.declared.grade.Place.TheVariants.{Anywhere, Chosen, Operand, BehindPrefix, BeforeSuffix}
use Rattle.c_printer.specs.Grades.{rank, grade_rank, binds}

-- 1. Levels

-- the second binds as tightly as the first, or more
data Within : Level → Level → Type 0 where
  same : {l : Level} → Within l l
  closer : {l k m : Level} → tighter l ≡ Some k → Within k m → Within l m

abbrev level_at : ℕ → Level
level_at n =
    if n == 1 then level.Or else (if n == 2 then level.And else (if n == 3 then level.BitOr else (if n == 4 then level.BitXor else (if n == 5 then level.BitAnd else (if n == 6 then level.Equality else (if n == 7 then level.Relation else (if n == 8 then level.Shift else (if n == 9 then level.Sum else (level.Product)))))))))

at_rank : (l : Level) → level_at (rank l) ≡ l
at_rank level.Or = refl
at_rank level.And = refl
at_rank level.BitOr = refl
at_rank level.BitXor = refl
at_rank level.BitAnd = refl
at_rank level.Equality = refl
at_rank level.Relation = refl
at_rank level.Shift = refl
at_rank level.Sum = refl
at_rank level.Product = refl

one_rank : (l m : Level) → rank l ≡ rank m → l ≡ m
one_rank l m e = sym (at_rank l) ∙ ap level_at e ∙ at_rank m

-- the next level, if there is one
data Next (l : Level) : Type 0 where
  next : (k : Level) → tighter l ≡ Some k → rank k ≡ suc (rank l) → Next l
  last : rank l ≡ 10 → Next l

next_of : (l : Level) → Next l
next_of level.Or = next level.And refl refl
next_of level.And = next level.BitOr refl refl
next_of level.BitOr = next level.BitXor refl refl
next_of level.BitXor = next level.BitAnd refl refl
next_of level.BitAnd = next level.Equality refl refl
next_of level.Equality = next level.Relation refl refl
next_of level.Relation = next level.Shift refl refl
next_of level.Shift = next level.Sum refl refl
next_of level.Sum = next level.Product refl refl
next_of level.Product = last refl

most : (l : Level) → rank l ≤ 10
most level.Or = omega arith
most level.And = omega arith
most level.BitOr = omega arith
most level.BitXor = omega arith
most level.BitAnd = omega arith
most level.Equality = omega arith
most level.Relation = omega arith
most level.Shift = omega arith
most level.Sum = omega arith
most level.Product = omega arith

least : (l : Level) → 1 ≤ rank l
least level.Or = omega arith
least level.And = omega arith
least level.BitOr = omega arith
least level.BitXor = omega arith
least level.BitAnd = omega arith
least level.Equality = omega arith
least level.Relation = omega arith
least level.Shift = omega arith
least level.Sum = omega arith
least level.Product = omega arith

further : (n : ℕ) (l m : Level) → rank m ≡ suc n + rank l → Next l → ((k : Level) → rank m ≡ n + rank k → Within k m) → Within l m
further n l m e (next k t r) more = closer t (more k (omega arith))
further n l m e (last r) more = absurd (let h : rank m ≤ 10 = most m in let f : ⊥ = omega arith in f)

within : (n : ℕ) (l m : Level) → rank m ≡ n + rank l → Within l m
within zero l m e = subst (λ x. Within l x) (one_rank l m (let f : rank l ≡ rank m = omega arith in f)) same
within (suc n) l m e = further n l m e (next_of l) (λ k f. within n k m f)

-- 2. Parts

module _ (ns : Names) (constant : Bool) where
  abbrev Reads : (p : v.Part) → Word → v.tree_of p → Type 0
  Reads = v.Reads ns constant

  -- how a value reads outside of brackets
  abbrev pub Own : Grade → Word → Expr → Type 0
  Own Choosing w e = v.Reads ns constant v.Value w e
  Own (Chaining l) w e = v.Reads ns constant (v.Chained l) w e
  Own (Prefixing n) w e = v.Reads ns constant (v.Operand level.Product) w e
  Own Suffixing w e = v.Reads ns constant v.Postfixed w e
  Own Single w e = v.Reads ns constant v.Primary w e

  -- how it reads at a place
  abbrev pub At : Place → Word → Expr → Type 0
  At Anywhere w e = v.Reads ns constant v.Value w e
  At Chosen w e = v.Reads ns constant (v.Chained level.Or) w e
  At (Operand l) w e = v.Reads ns constant (v.Operand l) w e
  At BehindPrefix w e = v.Reads ns constant v.Postfixed w e
  At BeforeSuffix w e = v.Reads ns constant v.Primary w e

  unsuffixed : {w : Word} {e : Expr} → v.Reads ns constant v.Primary w e → v.Reads ns constant v.Postfixed w e
  unsuffixed {w} {e} r = subst (λ x. v.Reads ns constant v.Postfixed x e) (append-nil w) (v.postfixed {a = e} {xs = []} r v.no_suffix refl)

  unprefixed : {w : Word} {e : Expr} → v.Reads ns constant v.Postfixed w e → v.Reads ns constant (v.Operand level.Product) w e
  unprefixed {w} {e} r = v.tightest {ps = []} {a = e} (v.no_prefix r)

  unlinked : {l : Level} {w : Word} {e : Expr} → v.Reads ns constant (v.Operand l) w e → v.Reads ns constant (v.Chained l) w e
  unlinked {l} {w} {e} r = subst (λ x. v.Reads ns constant (v.Chained l) x e) (append-nil w) (v.chain {a = e} {ls = []} r v.no_link)

  unchosen : {w : Word} {e : Expr} → v.Reads ns constant (v.Chained level.Or) w e → v.Reads ns constant v.Value w e
  unchosen {w} {e} r = v.value {cs = []} {e = e} (v.last_choice r)

  looser : {l m : Level} {w : Word} {e : Expr} → Within l m → v.Reads ns constant (v.Chained m) w e → v.Reads ns constant (v.Chained l) w e
  looser same r = r
  looser (closer t h) r = unlinked (v.operand t (looser h r))

  -- a chain of a level, at a looser one
  from_chain : (l m : Level) {w : Word} {e : Expr} → rank l ≤ rank m → v.Reads ns constant (v.Chained m) w e → v.Reads ns constant (v.Chained l) w e
  from_chain l m h r = looser (within (rank m - rank l) l m (omega arith)) r

  to_operand : (l m : Level) {w : Word} {e : Expr} → rank l < rank m → v.Reads ns constant (v.Chained m) w e → v.Reads ns constant (v.Operand l) w e
  to_operand l m {w} {e} h r = by_next (next_of l)
    where
      by_next : Next l → v.Reads ns constant (v.Operand l) w e
      by_next (next k t s) = v.operand t (from_chain k m (omega arith) r)
      by_next (last s) = absurd (let g : rank m ≤ 10 = most m in let f : ⊥ = omega arith in f)

  -- a value that binds more tightly than all chains
  to_product : (g : Grade) {w : Word} {e : Expr} → 11 ≤ grade_rank g → Own g w e → v.Reads ns constant (v.Operand level.Product) w e
  to_product Choosing h r = absurd (let f : ⊥ = omega arith in f)
  to_product (Chaining l) h r = absurd (let g : rank l ≤ 10 = most l in let f : ⊥ = omega arith in f)
  to_product (Prefixing n) h r = r
  to_product Suffixing h r = unprefixed r
  to_product Single h r = unprefixed (unsuffixed r)

  -- a value that is no choice
  to_chain : (g : Grade) {w : Word} {e : Expr} → 1 ≤ grade_rank g → Own g w e → v.Reads ns constant (v.Chained level.Or) w e
  to_chain Choosing h r = absurd (let f : ⊥ = omega arith in f)
  to_chain (Chaining l) h r = from_chain level.Or l (least l) r
  to_chain (Prefixing n) h r = from_chain level.Or level.Product (omega arith) (unlinked (to_product (Prefixing n) (omega arith) r))
  to_chain Suffixing h r = from_chain level.Or level.Product (omega arith) (unlinked (to_product Suffixing (omega arith) r))
  to_chain Single h r = from_chain level.Or level.Product (omega arith) (unlinked (to_product Single (omega arith) r))

  pub to_value : (g : Grade) {w : Word} {e : Expr} → Own g w e → v.Reads ns constant v.Value w e
  to_value Choosing r = r
  to_value (Chaining l) r = unchosen (to_chain (Chaining l) (least l) r)
  to_value (Prefixing n) r = unchosen (to_chain (Prefixing n) (omega arith) r)
  to_value Suffixing r = unchosen (to_chain Suffixing (omega arith) r)
  to_value Single r = unchosen (to_chain Single (omega arith) r)

  -- an operand of a level from one of the tightest
  loosened : (l : Level) {w : Word} {e : Expr} → v.Reads ns constant (v.Operand level.Product) w e → v.Reads ns constant (v.Operand l) w e
  loosened l {w} {e} r = by_next (next_of l)
    where
      by_next : Next l → v.Reads ns constant (v.Operand l) w e
      by_next (next k t s) = v.operand t (from_chain k level.Product (most k) (unlinked r))
      by_next (last s) = subst (λ x. v.Reads ns constant (v.Operand x) w e) (sym (one_rank l level.Product s)) r

  to_level : (l : Level) (g : Grade) {w : Word} {e : Expr} → suc (rank l) ≤ grade_rank g → Own g w e → v.Reads ns constant (v.Operand l) w e
  to_level l Choosing h r = absurd (let f : ⊥ = omega arith in f)
  to_level l (Chaining m) h r = to_operand l m h r
  to_level l (Prefixing n) h r = loosened l (to_product (Prefixing n) (omega arith) r)
  to_level l Suffixing h r = loosened l (to_product Suffixing (omega arith) r)
  to_level l Single h r = loosened l (to_product Single (omega arith) r)

  to_postfixed : (g : Grade) {w : Word} {e : Expr} → 12 ≤ grade_rank g → Own g w e → v.Reads ns constant v.Postfixed w e
  to_postfixed Choosing h r = absurd (let f : ⊥ = omega arith in f)
  to_postfixed (Chaining l) h r = absurd (let g : rank l ≤ 10 = most l in let f : ⊥ = omega arith in f)
  to_postfixed (Prefixing n) h r = absurd (let f : ⊥ = omega arith in f)
  to_postfixed Suffixing h r = r
  to_postfixed Single h r = unsuffixed r

  to_primary : (g : Grade) {w : Word} {e : Expr} → 13 ≤ grade_rank g → Own g w e → v.Reads ns constant v.Primary w e
  to_primary Choosing h r = absurd (let f : ⊥ = omega arith in f)
  to_primary (Chaining l) h r = absurd (let g : rank l ≤ 10 = most l in let f : ⊥ = omega arith in f)
  to_primary (Prefixing n) h r = absurd (let f : ⊥ = omega arith in f)
  to_primary Suffixing h r = absurd (let f : ⊥ = omega arith in f)
  to_primary Single h r = r

  -- A value that binds tightly enough reads at a place as it stands.
  pub bare_at : (p : Place) (g : Grade) (w : Word) (e : Expr) → binds p g ≡ true → Own g w e → At p w e
  bare_at Anywhere g w e h r = to_value g r
  bare_at Chosen g w e h r = to_chain g (leb-true 1 (grade_rank g) h) r
  bare_at (Operand l) g w e h r = to_level l g (let f : rank l < grade_rank g = ltb-true (rank l) (grade_rank g) h in omega arith) r
  bare_at BehindPrefix g w e h r = to_postfixed g (leb-true 12 (grade_rank g) h) r
  bare_at BeforeSuffix g w e h r = to_primary g (leb-true 13 (grade_rank g) h) r

  pub primary_at : (p : Place) (w : Word) (e : Expr) → v.Reads ns constant v.Primary w e → At p w e
  primary_at Anywhere w e r = to_value Single r
  primary_at Chosen w e r = to_chain Single (omega arith) r
  primary_at (Operand l) w e r = to_level l Single (let h : rank l ≤ 10 = most l in let f : suc (rank l) ≤ 13 = omega arith in f) r
  primary_at BehindPrefix w e r = unsuffixed r
  primary_at BeforeSuffix w e r = r
