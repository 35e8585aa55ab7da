-- Chains and choices by their steps.
use Rattle.std.proofs.Common.{◌≡◌, ◌==◌, ℕ, suc, nat_le, Bool, true, false, if◌then◌else◌, List, [], ◌∷◌, ◌++◌, Option, Some, None, refl, sym}
use Rattle.std.proofs.Common.{ap, ◌∙◌, append_assoc, append-nil, ◌<◌, arith, leb-false, eqb-true}
use Rattle.std.proofs.lemmas.Bool.{lt-leb}
use Rattle.mending_readers.specs.Mending.{Going, Stopped, mend_then, next_in}
use Rattle.c_lexer.specs.declared.token.Sign.TheVariants as sign
use Rattle.c_tree.specs.declared.code.Choice.{Choice}
use Rattle.c_tree.specs.declared.code.Expr.{Expr}
use Rattle.c_tree.specs.declared.code.Link.{Link}
use Rattle.c_tree.specs.declared.operators.BinaryOperator.{BinaryOperator}
use Rattle.c_tree.specs.declared.operators.Level.{Level}
use Rattle.c_tree.specs.declared.operators.Level.TheVariants as level
use Rattle.c_tree.specs.Kinds.{level_of}
use Rattle.c_tree.specs.Names.{Names}
use Rattle.c_tree.specs.Make.{choice, chained, conditional, link}
use Rattle.c_tree.specs.Values.{binary_of, tighter}
use Rattle.c_tree.specs.Words.{Token}
use Rattle.c_grammar.specs.Sorts.{Kind, Sort, OfSign, kind, on, sort_of}
use Rattle.c_grammar.specs.Tests.{level_number, is_of_level, is_up_to_level, sign_with, links, links_up_to, sign_is}
use Rattle.c_grammar.specs.Parts as part
use Rattle.c_grammar.specs.Parts.{at}
use Rattle.c_grammar.specs.Trees as tree
use Rattle.c_grammar.specs.Grammar as grammar
use Rattle.c_grammar.specs.Grammar.{C, form, just}
use Rattle.c_cursor.specs.declared.sets.Set.TheVariants as set
use Rattle.c_cursor.specs.Reading.{Read, Place, one, is_next, read, way, give, first_then, behind}
use Rattle.c_cursor.specs.Sets.{is_in}
use Rattle.c_parser.specs.Values.{prefixed_value, tail_of, chain_of, choice_of, choices_of, conditional_of, choosing_of}
use Rattle.c_parser.proofs.Thens.{then_just, then_assoc, way_same, behind_start, behind_more, behind_end}
use Rattle.c_parser.proofs.TokenLaws.{give_then, give_twice, give_same, behind_nothing, taken}
use Rattle.c_parser.proofs.Walks.{Free, free_give, free_take, free_part, free_where, run, then_same, by_form}

-- 1. Levels

le_equal : (n m : ℕ) → nat_le n m ≡ false → (n == m) ≡ false
le_equal n m h = go (n == m) refl (leb-false n m h)
  where
    go : (b : Bool) → (n == m) ≡ b → m < n → b ≡ false
    go true e less = let same : n ≡ m = eqb-true n m e in absurd (omega (arith, less, same))
    go false e less = refl

le_next : (n m : ℕ) → nat_le n (suc m) ≡ false → nat_le n m ≡ false
le_next n m h = let less : suc m < n = leb-false n (suc m) h in lt-leb n m (omega (arith, less))

-- what is no operator up to a level is none of it
of_level : (t : Level) (o : Option BinaryOperator) → is_up_to_level t o ≡ false → is_of_level t o ≡ false
of_level t None h = refl
of_level t (Some o) h = le_equal (level_number (level_of o)) (level_number t) h

of_level_sort : (t : Level) (x : Sort) → sign_with (λ s. is_up_to_level t (binary_of s)) x ≡ false → sign_with (λ s. is_of_level t (binary_of s)) x ≡ false
of_level_sort t (OfSign s) h = of_level t (binary_of s) h
of_level_sort t x h = refl

-- nor one up to the next tighter level
up_to_tighter : (t m : Level) → level_number t ≡ suc (level_number m) → (o : Option BinaryOperator) → is_up_to_level t o ≡ false → is_up_to_level m o ≡ false
up_to_tighter t m e None h = refl
up_to_tighter t m e (Some o) h = le_next (level_number (level_of o)) (level_number m) (ap (λ (n : ℕ). nat_le (level_number (level_of o)) n) (sym e) ∙ h)

up_to_sort : (t m : Level) → level_number t ≡ suc (level_number m) → (x : Sort) → sign_with (λ s. is_up_to_level t (binary_of s)) x ≡ false
    → sign_with (λ s. is_up_to_level m (binary_of s)) x ≡ false
up_to_sort t m e (OfSign s) h = up_to_tighter t m e (binary_of s) h
up_to_sort t m e x h = refl

next_wider : (p q : Kind → Bool) (s : Place) → ((x : Kind) → q x ≡ false → p x ≡ false) → next_in kind q s ≡ false → next_in kind p s ≡ false
next_wider p q (Going []) f h = refl
next_wider p q (Going (t ∷ ts)) f h = f (kind t) h
next_wider p q (Stopped ts) f h = refl

no_link : (ns : Names) (t : Level) (s : Place) → is_next ns (set.LinkUpTo t) s ≡ false → is_next ns (set.Link t) s ≡ false
unfolding is_next
no_link ns t s h = next_wider (on ns (links t)) (on ns (links_up_to t)) s (λ x e. of_level_sort t (sort_of x.terminal) e) h

no_tighter : (ns : Names) (t m : Level) (s : Place) → level_number t ≡ suc (level_number m) → is_next ns (set.LinkUpTo t) s ≡ false
    → is_next ns (set.LinkUpTo m) s ≡ false
unfolding is_next
no_tighter ns t m s e h = next_wider (on ns (links_up_to m)) (on ns (links_up_to t)) s (λ x g. up_to_sort t m e (sort_of x.terminal) g) h

-- 2. Chains

free_upto_by : (ns : Names) (t : Level) (c : Bool) (a : Expr) (o : Option Level)
    → Free {r = at ns (part.Upto t c a)} (grammar.upto_behind ns o c a (λ b. just ns (part.Links t c) (λ ls. chained b ls)))
free_upto_by ns t c a None = free_part (λ ls. free_give)
free_upto_by ns t c a (Some m) = free_part (λ b. free_part (λ ls. free_give))

free_upto : (ns : Names) (t : Level) (c : Bool) (a : Expr) → Free (form ns (part.Upto t c a))
unfolding form
free_upto ns t c a = free_upto_by ns t c a (tighter t)

-- the links of a level behind an operand
abbrev pub linked : ℕ → Names → Level → Bool → ℕ → Expr → Place → Read Expr
linked e ns t c l b z = mend_then (read e ns (part.Links t c) l z) (λ ls y. Some (chained b ls, y))

run_upto : (e : ℕ) (ns : Names) (t : Level) (c : Bool) (a : Expr) (o : Option Level) (l : ℕ) (s : Place)
    → run e {r = at ns (part.Upto t c a)} (grammar.upto_behind ns o c a (λ b. just ns (part.Links t c) (λ ls. chained b ls))) l s
    ≡ mend_then (tail_of e ns o c a l s) (λ b z. linked e ns t c l b z)
unfolding run read
run_upto e ns t c a None l s = refl
run_upto e ns t c a (Some m) l s = refl

pub upto_law : (e : ℕ) (ns : Names) (t : Level) (c : Bool) (a : Expr) (l : ℕ) (s : Place)
    → read e ns (part.Upto t c a) l s ≡ mend_then (tail_of e ns (tighter t) c a l s) (λ b z. linked e ns t c l b z)
unfolding form
upto_law e ns t c a l s = by_form e ns (part.Upto t c a) l s (free_upto ns t c a) ∙ run_upto e ns t c a (tighter t) l s

free_links : (ns : Names) (t : Level) (c : Bool) → Free (form ns (part.Links t c))
unfolding form
free_links ns t c = free_where (λ k. free_part (λ b. free_part (λ ls. free_give))) free_give

-- what follows a sign between operands
abbrev behind_sign : ℕ → Names → Level → Bool → ℕ → Token → Place → Read (List Link)
behind_sign e ns t c l k z = mend_then (read e ns (part.Operand t c) l z)
    (λ b y. first_then (link (tree.operator_in k.terminal) b) (read e ns (part.Links t c) l y))

abbrev links_by : ℕ → Names → Level → Bool → ℕ → Place → Bool → Read (List Link)
links_by e ns t c l s b = if b then mend_then (one e ns (set.Link t) l s) (λ k z. behind_sign e ns t c l k z) else Some ([], s)

links_law : (e : ℕ) (ns : Names) (t : Level) (c : Bool) (l : ℕ) (s : Place) → read e ns (part.Links t c) l s ≡ links_by e ns t c l s (is_next ns (set.Link t) s)
unfolding run form one is_next read first_then
links_law e ns t c l s = by_form e ns (part.Links t c) l s (free_links ns t c)

links_none : (e : ℕ) (ns : Names) (t : Level) (c : Bool) (l : ℕ) (s : Place) → is_next ns (set.Link t) s ≡ false → read e ns (part.Links t c) l s ≡ Some ([], s)
links_none e ns t c l s h = links_law e ns t c l s ∙ ap (λ b. links_by e ns t c l s b) h

go_links : (e : ℕ) (ns : Names) (t : Level) (c : Bool) (l : ℕ) (ls : List Link) (k : Token) (o : Read Expr)
    → behind ls (mend_then o (λ b y. first_then (link (tree.operator_in k.terminal) b) (read e ns (part.Links t c) l y)))
    ≡ mend_then o (λ b y. behind (ls ++ link (tree.operator_in k.terminal) b ∷ []) (read e ns (part.Links t c) l y))
go_links e ns t c l ls k None = behind_nothing ls
go_links e ns t c l ls k (Some x) = behind_more ls (link (tree.operator_in k.terminal) x.0) (read e ns (part.Links t c) l x.1)

go_on : (e : ℕ) (ns : Names) (t : Level) (c : Bool) (l : ℕ) (s : Place) (ls : List Link) (b : Bool) → behind ls (links_by e ns t c l s b)
    ≡ (if b then mend_then (one e ns (set.Link t) l s) (λ k z. mend_then (read e ns (part.Operand t c) l z)
    (λ b y. behind (ls ++ link (tree.operator_in k.terminal) b ∷ []) (read e ns (part.Links t c) l y))) else Some (ls, s))
unfolding one
go_on e ns t c l s ls true = let k : Token × Place = taken e l (is_in (set.Link t) ns) s in go_links e ns t c l ls k.0 (read e ns (part.Operand t c) l k.1)
go_on e ns t c l s ls false = behind_end ls s

pub links_behind_law : (e : ℕ) (ns : Names) (t : Level) (c : Bool) (l : ℕ) (s : Place) (ls : List Link) → behind ls (read e ns (part.Links t c) l s)
    ≡ way ns (set.Link t) s (mend_then (one e ns (set.Link t) l s)
    (λ k z. mend_then (read e ns (part.Operand t c) l z)
    (λ b y. behind (ls ++ link (tree.operator_in k.terminal) b ∷ []) (read e ns (part.Links t c) l y)))) (Some (ls, s))
links_behind_law e ns t c l s ls = ap (λ o. behind ls o) (links_law e ns t c l s) ∙ go_on e ns t c l s ls (is_next ns (set.Link t) s)

pub ruleset link_laws = (links_behind_law, behind_start)

free_operand_by : (ns : Names) (t : Level) (c : Bool) (a : Expr) (o : Option Level)
    → Free {r = at ns (part.Operand t c)} (grammar.tail_behind ns o c a (λ b. b))
free_operand_by ns t c a None = free_give
free_operand_by ns t c a (Some m) = free_part (λ b. free_give)

free_operand : (ns : Names) (t : Level) (c : Bool) → Free (form ns (part.Operand t c))
unfolding form
free_operand ns t c = free_part (λ o. free_operand_by ns t c (tree.with_prefixes o) (tighter t))

run_tail : (e : ℕ) (ns : Names) (t : Level) (c : Bool) (a : Expr) (o : Option Level) (l : ℕ) (s : Place)
    → run e {r = at ns (part.Operand t c)} (grammar.tail_behind ns o c a (λ b. b)) l s ≡ tail_of e ns o c a l s
unfolding run read
run_tail e ns t c a None l s = refl
run_tail e ns t c a (Some m) l s = then_just (read e ns (part.Upto m c a) l s)

pub operand_law : (e : ℕ) (ns : Names) (t : Level) (c : Bool) (l : ℕ) (s : Place)
    → read e ns (part.Operand t c) l s ≡ mend_then (prefixed_value e ns c l s) (λ a z. tail_of e ns (tighter t) c a l z)
unfolding run form read prefixed_value
operand_law e ns t c l s = by_form e ns (part.Operand t c) l s (free_operand ns t c)
    ∙ then_same (read e ns (part.Prefixed c) l s) _ _ (λ o z. run_tail e ns t c (tree.with_prefixes o) (tighter t) l z)
    ∙ sym (give_then tree.with_prefixes (read e ns (part.Prefixed c) l s) (λ a z. tail_of e ns (tighter t) c a l z))

-- 3. Where no sign follows an operand, it is the value

skip_by : (e : ℕ) (ns : Names) (t : Level) (c : Bool) (a : Expr) (l : ℕ) (s : Place) → is_next ns (set.LinkUpTo t) s ≡ false
    → tail_of e ns (tighter t) c a l s ≡ Some (a, s) → read e ns (part.Upto t c a) l s ≡ Some (a, s)
skip_by e ns t c a l s h tail =
    upto_law e ns t c a l s ∙ ap (λ (o : Read Expr). mend_then o (λ b z. linked e ns t c l b z)) tail
    ∙ ap (λ (o : Read (List Link)). give (λ ls. chained a ls) o) (links_none e ns t c l s (no_link ns t s h))

module _ (e : ℕ) (ns : Names) (c : Bool) (a : Expr) (l : ℕ) (s : Place) where
  abbrev Skips : Level → Type 0
  Skips t = is_next ns (set.LinkUpTo t) s ≡ false → read e ns (part.Upto t c a) l s ≡ Some (a, s)

  skip_product : Skips level.Product
  skip_product h = skip_by e ns level.Product c a l s h refl

  skip_sum : Skips level.Sum
  skip_sum h = skip_by e ns level.Sum c a l s h (skip_product (no_tighter ns level.Sum level.Product s refl h))

  skip_shift : Skips level.Shift
  skip_shift h = skip_by e ns level.Shift c a l s h (skip_sum (no_tighter ns level.Shift level.Sum s refl h))

  skip_relation : Skips level.Relation
  skip_relation h = skip_by e ns level.Relation c a l s h (skip_shift (no_tighter ns level.Relation level.Shift s refl h))

  skip_equality : Skips level.Equality
  skip_equality h = skip_by e ns level.Equality c a l s h (skip_relation (no_tighter ns level.Equality level.Relation s refl h))

  skip_bit_and : Skips level.BitAnd
  skip_bit_and h = skip_by e ns level.BitAnd c a l s h (skip_equality (no_tighter ns level.BitAnd level.Equality s refl h))

  skip_bit_xor : Skips level.BitXor
  skip_bit_xor h = skip_by e ns level.BitXor c a l s h (skip_bit_and (no_tighter ns level.BitXor level.BitAnd s refl h))

  skip_bit_or : Skips level.BitOr
  skip_bit_or h = skip_by e ns level.BitOr c a l s h (skip_bit_xor (no_tighter ns level.BitOr level.BitXor s refl h))

  skip_and : Skips level.And
  skip_and h = skip_by e ns level.And c a l s h (skip_bit_or (no_tighter ns level.And level.BitOr s refl h))

  skip_or : Skips level.Or
  skip_or h = skip_by e ns level.Or c a l s h (skip_and (no_tighter ns level.Or level.And s refl h))

  pub upto_skips : (t : Level) → is_next ns (set.LinkUpTo t) s ≡ false → read e ns (part.Upto t c a) l s ≡ Some (a, s)
  upto_skips level.Product h = skip_product h
  upto_skips level.Sum h = skip_sum h
  upto_skips level.Shift h = skip_shift h
  upto_skips level.Relation h = skip_relation h
  upto_skips level.Equality h = skip_equality h
  upto_skips level.BitAnd h = skip_bit_and h
  upto_skips level.BitXor h = skip_bit_xor h
  upto_skips level.BitOr h = skip_bit_or h
  upto_skips level.And h = skip_and h
  upto_skips level.Or h = skip_or h

pub ruleset upto_laws = (upto_skips, upto_law)

-- 4. Choices

free_tail : (ns : Names) (c : Bool) (a : Expr) → Free (form ns (part.ChoosingTail c a))
unfolding form
free_tail ns c a = free_part (λ t. free_where (λ q. free_part (λ b. free_take (λ n b. refl) (λ s. free_part (λ r. free_give)))) free_give)

-- what follows a choice
abbrev chosen_then : ℕ → Names → Bool → ℕ → Choice → Place → Read (List Choice × Expr)
chosen_then e ns c l k y = give (λ (r : List Choice × Expr). (k ∷ r.0, r.1)) (read e ns (part.Choosing c) l y)

-- a choice and what follows it
choice_go : (e : ℕ) (ns : Names) (c : Bool) (t : Expr) (l : ℕ) (s : Place)
    → mend_then (read e ns (part.Value c) (suc l) s) (λ b z. mend_then (one e ns (set.Sign sign.Colon) l z) (λ x y. chosen_then e ns c l (choice t b) y))
    ≡ mend_then (choice_of e ns c t l s) (λ k y. chosen_then e ns c l k y)
unfolding choice_of one
choice_go e ns c t l s = sym (then_assoc {B = Choice} (read e ns (part.Value c) (suc l) s) _ (λ k y. chosen_then e ns c l k y))

tail_law : (e : ℕ) (ns : Names) (c : Bool) (a : Expr) (l : ℕ) (s : Place)
    → read e ns (part.ChoosingTail c a) l s ≡ mend_then (read e ns (part.Upto level.Or c a) l s) (λ t z. choices_of e ns c t l z)
unfolding run form one is_next read choices_of
tail_law e ns c a l s = by_form e ns (part.ChoosingTail c a) l s (free_tail ns c a)
    ∙ then_same (read e ns (part.Upto level.Or c a) l s) _ _
    (λ t z. way_same (next_in kind (on ns (sign_is sign.Question)) z) (choice_go e ns c t l (taken e (suc l) (on ns (sign_is sign.Question)) z).1) refl)

free_choosing : (ns : Names) (c : Bool) → Free (form ns (part.Choosing c))
unfolding form
free_choosing ns c = free_part (λ o. free_part (λ r. free_give))

choosing_law : (e : ℕ) (ns : Names) (c : Bool) (l : ℕ) (s : Place)
    → read e ns (part.Choosing c) l s ≡ mend_then (prefixed_value e ns c l s) (λ a z. read e ns (part.ChoosingTail c a) l z)
unfolding run form read prefixed_value
choosing_law e ns c l s = by_form e ns (part.Choosing c) l s (free_choosing ns c)
    ∙ then_same (read e ns (part.Prefixed c) l s) _ _ (λ o z. then_just (read e ns (part.ChoosingTail c (tree.with_prefixes o)) l z))
    ∙ sym (give_then tree.with_prefixes (read e ns (part.Prefixed c) l s) (λ a z. read e ns (part.ChoosingTail c a) l z))

-- choices by the value in front of them
chain_law : (e : ℕ) (ns : Names) (c : Bool) (l : ℕ) (s : Place)
    → read e ns (part.Choosing c) l s ≡ mend_then (chain_of e ns c l s) (λ t z. choices_of e ns c t l z)
unfolding chain_of
chain_law e ns c l s = choosing_law e ns c l s ∙ then_same (prefixed_value e ns c l s) _ _ (λ a z. tail_law e ns c a l z)
    ∙ sym (then_assoc (prefixed_value e ns c l s) _ _)

free_value : (ns : Names) (c : Bool) → Free (form ns (part.Value c))
unfolding form
free_value ns c = free_part (λ r. free_give)

pub value_law : (e : ℕ) (ns : Names) (c : Bool) (l : ℕ) (s : Place)
    → read e ns (part.Value c) l s ≡ mend_then (prefixed_value e ns c l s) (λ a z. choosing_of e ns c a l z)
unfolding run form read choosing_of
value_law e ns c l s = by_form e ns (part.Value c) l s (free_value ns c)
    ∙ ap (λ o. give (λ (r : List Choice × Expr). conditional r.0 r.1) o) (choosing_law e ns c l s) ∙ then_assoc (prefixed_value e ns c l s) _ _

pub choosing_starts : (e : ℕ) (ns : Names) (c : Bool) (a : Expr) (l : ℕ) (s : Place)
    → choosing_of e ns c a l s ≡ mend_then (read e ns (part.Upto level.Or c a) l s) (λ t z. conditional_of e ns c [] t l z)
unfolding choosing_of conditional_of
choosing_starts e ns c a l s =
    ap (λ o. give (λ (r : List Choice × Expr). conditional r.0 r.1) o) (tail_law e ns c a l s)
    ∙ then_assoc (read e ns (part.Upto level.Or c a) l s) (λ t z. choices_of e ns c t l z) (λ r z. Some (conditional r.0 r.1, z))

abbrev choices_by : ℕ → Names → Bool → Expr → ℕ → Place → Bool → Read (List Choice × Expr)
choices_by e ns c a l s b =
    if b then mend_then (one e ns (set.Sign sign.Question) (suc l) s) (λ q z. mend_then (choice_of e ns c a l z) (λ k y. chosen_then e ns c l k y))
    else Some (([], a), s)

choices_is : (e : ℕ) (ns : Names) (c : Bool) (a : Expr) (l : ℕ) (s : Place)
    → choices_of e ns c a l s ≡ choices_by e ns c a l s (is_next ns (set.Sign sign.Question) s)
unfolding choices_of
choices_is e ns c a l s = refl

-- choices, and what is made of them with others in front
abbrev with_choices : List Choice → Read (List Choice × Expr) → Read Expr
with_choices ks o = give (λ r. conditional (ks ++ r.0) r.1) o

go_choice : (e : ℕ) (ns : Names) (c : Bool) (ks : List Choice) (l : ℕ) (k : Choice) (y : Place)
    → with_choices ks (chosen_then e ns c l k y) ≡ mend_then (chain_of e ns c l y) (λ u w. conditional_of e ns c (ks ++ k ∷ []) u l w)
unfolding conditional_of
go_choice e ns c ks l k y =
    give_twice (λ r. conditional (ks ++ r.0) r.1) (λ (r : List Choice × Expr). (k ∷ r.0, r.1)) (read e ns (part.Choosing c) l y)
    ∙ give_same (λ r. conditional (ks ++ k ∷ r.0) r.1) (λ r. conditional ((ks ++ k ∷ []) ++ r.0) r.1) (read e ns (part.Choosing c) l y)
    (λ r. ap (λ js. conditional js r.1) (sym (append_assoc ks (k ∷ []) r.0)))
    ∙ ap (λ (o : Read (List Choice × Expr)). with_choices (ks ++ k ∷ []) o) (chain_law e ns c l y)
    ∙ then_assoc (chain_of e ns c l y) (λ t z. choices_of e ns c t l z) (λ r z. Some (conditional ((ks ++ k ∷ []) ++ r.0) r.1, z))

go_choices : (e : ℕ) (ns : Names) (c : Bool) (ks : List Choice) (a : Expr) (l : ℕ) (z : Place)
    → with_choices ks (mend_then (choice_of e ns c a l z) (λ k y. chosen_then e ns c l k y))
    ≡ mend_then (choice_of e ns c a l z) (λ k y. mend_then (chain_of e ns c l y) (λ u w. conditional_of e ns c (ks ++ k ∷ []) u l w))
go_choices e ns c ks a l z =
    then_assoc (choice_of e ns c a l z) (λ k y. chosen_then e ns c l k y) (λ r z. Some (conditional (ks ++ r.0) r.1, z))
    ∙ then_same (choice_of e ns c a l z) _ _ (λ k y. go_choice e ns c ks l k y)

go_conditional : (e : ℕ) (ns : Names) (c : Bool) (ks : List Choice) (a : Expr) (l : ℕ) (s : Place) (b : Bool) → with_choices ks (choices_by e ns c a l s b)
    ≡ (if b then mend_then (one e ns (set.Sign sign.Question) (suc l) s)
    (λ q z. mend_then (choice_of e ns c a l z) (λ k y. mend_then (chain_of e ns c l y) (λ u w. conditional_of e ns c (ks ++ k ∷ []) u l w)))
    else Some (conditional ks a, s))
unfolding one
go_conditional e ns c ks a l s true = go_choices e ns c ks a l (taken e (suc l) (is_in (set.Sign sign.Question) ns) s).1
go_conditional e ns c ks a l s false = ap (λ js. Some (conditional js a, s)) (append-nil ks)

pub conditional_law : (e : ℕ) (ns : Names) (c : Bool) (ks : List Choice) (a : Expr) (l : ℕ) (s : Place) → conditional_of e ns c ks a l s
    ≡ way ns (set.Sign sign.Question) s (mend_then (one e ns (set.Sign sign.Question) (suc l) s)
    (λ q z. mend_then (choice_of e ns c a l z) (λ k y. mend_then (chain_of e ns c l y) (λ u w. conditional_of e ns c (ks ++ k ∷ []) u l w))))
    (Some (conditional ks a, s))
unfolding conditional_of
conditional_law e ns c ks a l s = ap (λ (o : Read (List Choice × Expr)). with_choices ks o) (choices_is e ns c a l s)
    ∙ go_conditional e ns c ks a l s (is_next ns (set.Sign sign.Question) s)

pub ruleset choice_laws = (choosing_starts, conditional_law)
