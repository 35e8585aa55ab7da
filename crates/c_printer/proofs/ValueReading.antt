-- Values that are written are read.
use Rattle.std.proofs.Common.{◌≡◌, ◌∙◌, refl, sym, ap, subst, Bool, true, false, not, ◌&&◌, ◌||◌, List, [], ◌∷◌, ◌++◌, map, append_assoc, append-nil, Option, Some, None}
use Rattle.std.proofs.lemmas.Bool.{cond_both}
use Rattle.c_lexer.specs.declared.token.TokenKind.TheVariants as k
use Rattle.c_lexer.specs.declared.token.Keyword.TheVariants as keyword
use Rattle.c_lexer.specs.declared.token.Sign.{Sign}
use Rattle.c_lexer.specs.declared.token.Sign.TheVariants as sign
use Rattle.c_tree.specs.declared.names.Span.{Span}
use Rattle.c_tree.specs.declared.names.CType.{CType}
use Rattle.c_tree.specs.declared.names.Name as tree
use Rattle.c_tree.specs.declared.operators.BinaryOperator.{BinaryOperator}
use Rattle.c_tree.specs.declared.operators.BinaryOperator.TheVariants as op
use Rattle.c_tree.specs.declared.operators.Level.{Level}
use Rattle.c_tree.specs.declared.operators.Level.TheVariants as level
use Rattle.c_tree.specs.declared.operators.Prefix.{Prefix}
use Rattle.c_tree.specs.declared.operators.Prefix.TheVariants as prefix
use Rattle.c_tree.specs.declared.operators.PrefixOperator.{PrefixOperator}
use Rattle.c_tree.specs.declared.code.Expr.{Expr}
use Rattle.c_tree.specs.declared.code.Shape.{Shape, out-Shape}
use Rattle.c_tree.specs.declared.code.Shape.TheVariants as shape
use Rattle.c_tree.specs.declared.code.Shape.TheOpen.{Shape-F, Suffix-F}
use Rattle.c_tree.specs.declared.code.Suffix.{Suffix, out-Suffix}
use Rattle.c_tree.specs.declared.code.Suffix.TheVariants as suffix
use Rattle.c_tree.specs.declared.code.Choice.{Choice, out-Choice}
use Rattle.c_tree.specs.declared.code.Link.{Link}
use Rattle.c_tree.specs.Words.{Word, join}
use Rattle.c_tree.specs.Kinds.{level_of}
use Rattle.c_tree.specs.Names.{Names}
use Rattle.c_tree.specs.Make.{expr, shape_of, span_of, link, choice, chained, prefixed, suffixed, conditional, bracketed, last_operand}
use Rattle.c_tree.specs.Types.{ReadsType, is_object}
use Rattle.c_tree.specs.Values as v
use Rattle.c_tree.specs.Values.{binary_of, prefix_of, is_place, is_dot_layer, may_precede, may_follow}
use Rattle.c_tree.specs.Bare.{nowhere, bare_name, bare_type, bare_operator, bare_prefix, bare_shape, bare_suffix, bare_expr}
use Rattle.c_printer.specs.declared.grade.Brackets.{Brackets}
use Rattle.c_printer.specs.declared.grade.Brackets.TheVariants.{Clear, Needed}
use Rattle.c_printer.specs.declared.grade.Grade.{Grade}
use Rattle.c_printer.specs.declared.grade.Place.{Place}
use Rattle.c_printer.specs.declared.grade.Place.TheVariants.{Anywhere, Chosen, Operand, BehindPrefix, BeforeSuffix}
use Rattle.c_printer.specs.Grades.{stands, binds, is_unclear}
use Rattle.c_printer.specs.Marks.{Marks, Name, ASign, Space, token, word, in_row}
use Rattle.c_printer.specs.PutValues.{Printed, PrintedLink, sign_of, prefix_marks, prefixes_marks, type_marks, in_brackets, placed, link_marks, printed, printed_link, suffix_marks, choice_marks, value_marks, spaced, print_shape, print_suffix, more_arguments_marks, arguments_marks}
use Rattle.c_printer.proofs.TypeReading.{word_append, type_read, object_bare}
use Rattle.c_printer.proofs.Grades as g
use Rattle.c_printer.proofs.BareTrees.{shape_at, shape_layer, bare_layer, suffix_at, suffix_layer, bare_suffix_layer, printed_span, bare_span, choice_span, printed_at, choice_written, link_written, suffix_written_at, bare_at, choice_bare, link_bare, suffix_bare_at, no_span, whole_bare, last_span, last_place, begins_bare, place_bare, dot_bare, bare_of_link, bare_of_choice, bare_of_suffix}

-- 1. Operators

one_sign : (o : BinaryOperator) → binary_of (sign_of o) ≡ Some o
one_sign op.Or = refl
one_sign op.And = refl
one_sign op.BitOr = refl
one_sign op.BitXor = refl
one_sign op.BitAnd = refl
one_sign op.Equal = refl
one_sign op.Unequal = refl
one_sign op.Less = refl
one_sign op.Greater = refl
one_sign op.AtMost = refl
one_sign op.AtLeast = refl
one_sign op.ShiftLeft = refl
one_sign op.ShiftRight = refl
one_sign op.Add = refl
one_sign op.Subtract = refl
one_sign op.Multiply = refl
one_sign op.Divide = refl
one_sign op.Remainder = refl

-- a prefix is written by its sign
Signed : Sign → Option Prefix → Type 0
Signed s None = Unit {0}
Signed s (Some p) = (prefix_marks p ≡ ASign s ∷ []) × (bare_operator p ≡ p)

signed : (constant : Bool) (s : Sign) → Signed s (prefix_of constant s)
unfolding Signed
signed constant sign.Plus = (refl, refl)
signed constant sign.Minus = (refl, refl)
signed constant sign.Not = (refl, refl)
signed constant sign.Tilde = (refl, refl)
signed false sign.Star = (refl, refl)
signed false sign.Ampersand = (refl, refl)
signed constant s = tt

by_sign : (constant : Bool) (s : Sign) (p : Prefix) → prefix_of constant s ≡ Some p → (prefix_marks p ≡ ASign s ∷ []) × (bare_operator p ≡ p)
unfolding Signed
by_sign constant s p h = subst (Signed s) h (signed constant s)

left_true : (a b : Bool) → (a && b) ≡ true → a ≡ true
left_true true b h = refl
left_true false b h = h

-- what stands at a place binds tightly enough
stands_bound : (style : Brackets) (p : Place) (g : Grade) → stands style p g ≡ true → binds p g ≡ true
stands_bound Clear p g h = left_true (binds p g) (not (is_unclear p g)) h
stands_bound Needed p g h = h

-- 2. One value

module _ (style : Brackets) (ns : Names) (constant : Bool) where
  -- a value reads, as it is written outside of brackets
  abbrev P : Expr → Type 0
  P e = g.Own ns constant (printed style e).grade (word (printed style e).marks) (bare_expr e)

  enclosed : (e : Expr) → P e → v.Reads ns constant v.Primary (word (in_brackets (printed style e).marks)) (bare_expr e)
  enclosed e r =
      subst (λ x. v.Reads ns constant v.Primary (word (in_brackets (printed style e).marks)) x) (whole_bare e)
      (subst (λ w. v.Reads ns constant v.Primary (token (k.Sign sign.OpenParen) [] ∷ w) (expr (shape_of (bare_expr e)) nowhere)) (sym (word_append (printed style e).marks (ASign sign.CloseParen ∷ [])))
      (v.brackets (token (k.Sign sign.CloseParen) []) refl (g.to_value ns constant (printed style e).grade r) refl))

  from_primary : (p : Place) (w : Word) (e : Expr) → v.Reads ns constant v.Primary w e → g.At ns constant p w e
  from_primary p w e r = g.primary_at ns constant p w e r

  at : (p : Place) (e : Expr) → P e → g.At ns constant p (word (placed style p (printed style e))) (bare_expr e)
  at p e r = cond_both (stands style p (printed style e).grade) (printed style e).marks (in_brackets (printed style e).marks) (λ ms. g.At ns constant p (word ms) (bare_expr e))
      (λ h. g.bare_at ns constant p (printed style e).grade (word (printed style e).marks) (bare_expr e) (stands_bound style p (printed style e).grade h) r)
      (λ h. from_primary p (word (in_brackets (printed style e).marks)) (bare_expr e) (enclosed e r))

  -- a value of one level, by what is written of it
  made : (q : Printed) (x : Expr) (e : Expr) → printed style e ≡ q → bare_expr e ≡ x → g.Own ns constant q.grade (word q.marks) x → P e
  made q x e h b r = subst (λ (y : Printed). g.Own ns constant y.grade (word y.marks) (bare_expr e)) (sym h) (subst (g.Own ns constant q.grade (word q.marks)) (sym b) r)

  -- 3. Chains

  FirstLevel : Level → List Link → Type 0
  FirstLevel l [] = Unit {0}
  FirstLevel l (k ∷ ks) = (printed_link style k).level ≡ l

  LinksRead : Level → List Link → Type 0
  LinksRead l ls = FirstLevel l ls × v.Reads ns constant (v.Links l) (word (link_marks (map (printed_link style) ls))) (map bare_of_link ls)

  one_link : (o : BinaryOperator) (l : Level) (b : Expr) (ls : List Link) → level_of o ≡ l → P b → LinksRead l ls → LinksRead l (link o b ∷ ls)
  unfolding LinksRead FirstLevel
  one_link o l b ls h pb (first, rest) = (
    ap (λ (x : PrintedLink). x.level) (link_written style o b) ∙ h,
    subst (λ w. v.Reads ns constant (v.Links l) w (bare_of_link (link o b) ∷ map bare_of_link ls)) (sym flat)
        (subst (λ x. v.Reads ns constant (v.Links l) (token (k.Sign (sign_of o)) [] ∷ word (placed style (Operand (level_of o)) (printed style b)) ++ word (link_marks (map (printed_link style) ls))) (x ∷ map bare_of_link ls)) (sym (link_bare o b))
        (v.more_links refl (one_sign o) h (subst (λ x. v.Reads ns constant (v.Operand x) (word (placed style (Operand (level_of o)) (printed style b))) (bare_expr b)) h (at (Operand (level_of o)) b pb)) rest)),
  )
    where
      flat : word ((printed_link style (link o b)).marks ++ link_marks (map (printed_link style) ls)) ≡ token (k.Sign (sign_of o)) [] ∷ word (placed style (Operand (level_of o)) (printed style b)) ++ word (link_marks (map (printed_link style) ls))
      flat = ap (λ (x : PrintedLink). word (x.marks ++ link_marks (map (printed_link style) ls))) (link_written style o b)
          ∙ ap (λ w. token (k.Sign (sign_of o)) [] ∷ w) (word_append (placed style (Operand (level_of o)) (printed style b)) (link_marks (map (printed_link style) ls)))

  chain_read : (l : Level) (a : Expr) (ls : List Link) → P a → LinksRead l ls → P (chained a ls)
  unfolding LinksRead FirstLevel
  chain_read l a [] pa rs = pa
  chain_read l a (j ∷ ls) pa (first, rest) =
      made _ _ _ (printed_at style (Shape-F.Chain a (j ∷ ls)) _) (bare_at (Shape-F.Chain a (j ∷ ls)) _)
      (subst (λ x. v.Reads ns constant (v.Chained x) (word (placed style (Operand x) (printed style a) ++ link_marks (map (printed_link style) (j ∷ ls)))) (expr (shape.Chain (bare_expr a) (map bare_of_link (j ∷ ls))) nowhere)) (sym first)
      (subst (λ w. v.Reads ns constant (v.Chained l) w (expr (shape.Chain (bare_expr a) (map bare_of_link (j ∷ ls))) nowhere)) (sym (word_append (placed style (Operand l) (printed style a)) (link_marks (map (printed_link style) (j ∷ ls)))))
      (subst (λ o. v.Reads ns constant (v.Chained l) (word (placed style (Operand l) (printed style a)) ++ word (link_marks (map (printed_link style) (j ∷ ls)))) (expr (shape.Chain (bare_expr a) (map bare_of_link (j ∷ ls))) o)) spans
      (v.chain {a = bare_expr a} {ls = map bare_of_link (j ∷ ls)} (at (Operand l) a pa) rest))))
    where
      spans : join (span_of (bare_expr a)) (last_operand (span_of (bare_expr a)) (map bare_of_link (j ∷ ls))) ≡ nowhere
      spans = λ i. join (no_span a i) (last_span (span_of (bare_expr a)) (no_span a) (j ∷ ls) i)

  -- 4. Prefixes

  PrefixesRead : List PrefixOperator → Expr → Type 0
  PrefixesRead ps a = v.Reads ns constant v.Prefixed (word (prefixes_marks ps ++ placed style BehindPrefix (printed style a))) (map bare_prefix ps, bare_expr a) × P a

  no_prefix : (a : Expr) → P a → PrefixesRead [] a
  unfolding PrefixesRead
  no_prefix a pa = (v.no_prefix (at BehindPrefix a pa), pa)

  prefixed_place : (ps : List PrefixOperator) (a : Expr) → is_place (prefixed (map bare_prefix ps) (bare_expr a)) ≡ is_place (prefixed ps a)
  unfolding out-Shape denote.Hole.Carrier.out
  prefixed_place [] a = place_bare a
  prefixed_place (p ∷ ps) a = begins_bare (p ∷ ps)

  still_precedes : (p : Prefix) (ps : List PrefixOperator) (a : Expr) → may_precede p (prefixed ps a) ≡ true → may_precede p (prefixed (map bare_prefix ps) (bare_expr a)) ≡ true
  still_precedes prefix.AddressOf ps a h = prefixed_place ps a ∙ h
  still_precedes p ps a h = refl

  one_prefix : (s : Sign) (p : Prefix) (o : Span) (ps : List PrefixOperator) (a : Expr) → prefix_of constant s ≡ Some p → may_precede p (prefixed ps a) ≡ true → PrefixesRead ps a
      → PrefixesRead (record { prefix = p; span = o } ∷ ps) a
  unfolding PrefixesRead
  one_prefix s p o ps a h m (r, pa) =
      let (marks, same) = by_sign constant s p h in (
        subst (λ q. v.Reads ns constant v.Prefixed (word (prefix_marks p ++ prefixes_marks ps ++ placed style BehindPrefix (printed style a))) (record { prefix = q; span = nowhere } ∷ map bare_prefix ps, bare_expr a)) (sym same)
            (subst (λ ms. v.Reads ns constant v.Prefixed (word (ms ++ prefixes_marks ps ++ placed style BehindPrefix (printed style a))) (record { prefix = p; span = nowhere } ∷ map bare_prefix ps, bare_expr a)) (sym marks)
            (v.more_prefixes refl h r (still_precedes p ps a m))),
        pa,
      )

  one_cast : (c : CType) (o : Span) (ps : List PrefixOperator) (a : Expr) → v.Reads ns constant v.Prefixed (word (in_brackets (type_marks c)) ++ word (prefixes_marks ps ++ placed style BehindPrefix (printed style a))) (record { prefix = prefix.Cast (bare_type c); span = nowhere } ∷ map bare_prefix ps, bare_expr a)
      → P a → PrefixesRead (record { prefix = prefix.Cast c; span = o } ∷ ps) a
  unfolding PrefixesRead
  one_cast c o ps a r pa = (subst (λ w. v.Reads ns constant v.Prefixed w (record { prefix = prefix.Cast (bare_type c); span = nowhere } ∷ map bare_prefix ps, bare_expr a)) (sym flat) r, pa)
    where
      rest : Marks
      rest = prefixes_marks ps ++ placed style BehindPrefix (printed style a)

      flat : word (prefix_marks (prefix.Cast c) ++ prefixes_marks ps ++ placed style BehindPrefix (printed style a)) ≡ word (in_brackets (type_marks c)) ++ word (prefixes_marks ps ++ placed style BehindPrefix (printed style a))
      flat = ap word (append_assoc (prefix_marks (prefix.Cast c)) (prefixes_marks ps) (placed style BehindPrefix (printed style a)))
          ∙ word_append (prefix_marks (prefix.Cast c)) (prefixes_marks ps ++ placed style BehindPrefix (printed style a))
          ∙ ap (λ w. w ++ word (prefixes_marks ps ++ placed style BehindPrefix (printed style a))) (word_append (in_brackets (type_marks c)) (Space ∷ []) ∙ append-nil (word (in_brackets (type_marks c))))

  prefixed_read : (ps : List PrefixOperator) (a : Expr) → PrefixesRead ps a → P (prefixed ps a)
  unfolding PrefixesRead
  prefixed_read [] a (r, pa) = pa
  prefixed_read (p ∷ ps) a (r, pa) =
      made _ _ _ (printed_at style (Shape-F.Prefix (p ∷ ps) a) _) (bare_at (Shape-F.Prefix (p ∷ ps) a) _)
      (subst (λ o. v.Reads ns constant (v.Operand level.Product) (word (prefixes_marks (p ∷ ps) ++ placed style BehindPrefix (printed style a))) (expr (shape.Prefix (map bare_prefix (p ∷ ps)) (bare_expr a)) o)) (ap (λ x. join nowhere x) (no_span a))
      (v.tightest {ps = map bare_prefix (p ∷ ps)} {a = bare_expr a} r))

  -- 5. Suffixes

  SuffixesRead : List Suffix → Type 0
  SuffixesRead xs = v.Reads ns constant v.Suffixes (word (in_row (map (suffix_marks style) xs))) (map bare_of_suffix xs)

  one_suffix : (l : Suffix-F Shape Suffix Choice Expr Link) (xs : List Suffix)
      → v.Reads ns constant v.Suffixes (word (print_suffix style (suffix_layer style l)) ++ word (in_row (map (suffix_marks style) xs))) (bare_suffix (bare_suffix_layer l) ∷ map bare_of_suffix xs) → SuffixesRead (suffix_at l ∷ xs)
  unfolding SuffixesRead
  one_suffix l xs r =
      subst (λ x. v.Reads ns constant v.Suffixes (word (in_row (map (suffix_marks style) (suffix_at l ∷ xs)))) (x ∷ map bare_of_suffix xs)) (sym (suffix_bare_at l))
      (subst (λ w. v.Reads ns constant v.Suffixes w (bare_suffix (bare_suffix_layer l) ∷ map bare_of_suffix xs)) (sym flat) r)
    where
      flat : word (suffix_marks style (suffix_at l) ++ in_row (map (suffix_marks style) xs)) ≡ word (print_suffix style (suffix_layer style l)) ++ word (in_row (map (suffix_marks style) xs))
      flat = word_append (suffix_marks style (suffix_at l)) (in_row (map (suffix_marks style) xs)) ∙ ap (λ ms. word ms ++ word (in_row (map (suffix_marks style) xs))) (suffix_written_at style l)

  indexed : (i : Expr) → P i → (xs : List Suffix) → constant ≡ false → SuffixesRead xs
      → v.Reads ns constant v.Suffixes (word (print_suffix style (suffix_layer style (Suffix-F.Index i nowhere))) ++ word (in_row (map (suffix_marks style) xs))) (bare_suffix (bare_suffix_layer (Suffix-F.Index i nowhere)) ∷ map bare_of_suffix xs)
  unfolding SuffixesRead
  indexed i p xs h r =
      subst (λ w. v.Reads ns constant v.Suffixes w (suffix.Index (bare_expr i) nowhere ∷ map bare_of_suffix xs)) (sym flat)
      (v.index {t = token (k.Sign sign.OpenBracket) []} (token (k.Sign sign.CloseBracket) []) h refl (at Anywhere i p) refl r)
    where
      flat : word (ASign sign.OpenBracket ∷ placed style Anywhere (printed style i) ++ ASign sign.CloseBracket ∷ []) ++ word (in_row (map (suffix_marks style) xs))
          ≡ token (k.Sign sign.OpenBracket) [] ∷ word (placed style Anywhere (printed style i)) ++ token (k.Sign sign.CloseBracket) [] ∷ word (in_row (map (suffix_marks style) xs))
      flat = ap (λ w. token (k.Sign sign.OpenBracket) [] ∷ w) (ap (λ w. w ++ word (in_row (map (suffix_marks style) xs))) (word_append (placed style Anywhere (printed style i)) (ASign sign.CloseBracket ∷ []))
          ∙ append_assoc (word (placed style Anywhere (printed style i))) (token (k.Sign sign.CloseBracket) [] ∷ []) (word (in_row (map (suffix_marks style) xs))))

  still_follows : (a : Expr) (xs : List Suffix) → may_follow a xs ≡ true → may_follow (bare_expr a) (map bare_of_suffix xs) ≡ true
  still_follows a [] h = refl
  still_follows a (x ∷ xs) h = ap (λ b. not b || is_place (bare_expr a)) (dot_bare x) ∙ ap (λ b. not (is_dot_layer (out-Suffix x)) || b) (place_bare a) ∙ h

  suffixed_read : (a : Expr) (xs : List Suffix) → P a → SuffixesRead xs → may_follow a xs ≡ true → P (suffixed a xs)
  unfolding SuffixesRead
  suffixed_read a [] pa r h = pa
  suffixed_read a (x ∷ xs) pa r h =
      made _ _ _ (printed_at style (Shape-F.Postfix a (x ∷ xs)) _) (bare_at (Shape-F.Postfix a (x ∷ xs)) _)
      (subst (λ w. v.Reads ns constant v.Postfixed w (expr (shape.Postfix (bare_expr a) (map bare_of_suffix (x ∷ xs))) nowhere)) (sym (word_append (placed style BeforeSuffix (printed style a)) (in_row (map (suffix_marks style) (x ∷ xs)))))
      (subst (λ o. v.Reads ns constant v.Postfixed (word (placed style BeforeSuffix (printed style a)) ++ word (in_row (map (suffix_marks style) (x ∷ xs)))) (expr (shape.Postfix (bare_expr a) (map bare_of_suffix (x ∷ xs))) o)) (λ i. join (no_span a i) (last_place x xs i))
      (v.postfixed {a = bare_expr a} {xs = map bare_of_suffix (x ∷ xs)} (at BeforeSuffix a pa) r (still_follows a (x ∷ xs) h))))

  -- 6. Choices

  ChoicesRead : List Choice → Expr → Type 0
  ChoicesRead cs e = v.Reads ns constant v.Choosing (word (in_row (map (choice_marks style) cs) ++ placed style Chosen (printed style e))) (map bare_of_choice cs, bare_expr e) × P e

  last_choice : (e : Expr) → P e → ChoicesRead [] e
  unfolding ChoicesRead
  last_choice e pe = (v.last_choice (at Chosen e pe), pe)

  one_choice : (a b : Expr) (cs : List Choice) (e : Expr) → P a → P b → ChoicesRead cs e → ChoicesRead (choice a b ∷ cs) e
  unfolding ChoicesRead
  one_choice a b cs e pa pb (r, pe) = (
    subst (λ x. v.Reads ns constant v.Choosing (word (in_row (map (choice_marks style) (choice a b ∷ cs)) ++ placed style Chosen (printed style e))) (x ∷ map bare_of_choice cs, bare_expr e)) (sym (choice_bare a b))
        (subst (λ w. v.Reads ns constant v.Choosing w (choice (bare_expr a) (bare_expr b) ∷ map bare_of_choice cs, bare_expr e)) (sym flat)
        (v.more_choices (token (k.Sign sign.Question) []) (token (k.Sign sign.Colon) []) (at Chosen a pa) refl (at Anywhere b pb) refl r)),
    pe,
  )
    where
      rest : Marks
      rest = in_row (map (choice_marks style) cs) ++ placed style Chosen (printed style e)

      flat : word (choice_marks style (choice a b) ++ in_row (map (choice_marks style) cs) ++ placed style Chosen (printed style e))
          ≡ word (placed style Chosen (printed style a)) ++ token (k.Sign sign.Question) [] ∷ word (placed style Anywhere (printed style b)) ++ token (k.Sign sign.Colon) [] ∷ word (in_row (map (choice_marks style) cs) ++ placed style Chosen (printed style e))
      flat = ap word (append_assoc (choice_marks style (choice a b)) (in_row (map (choice_marks style) cs)) (placed style Chosen (printed style e)))
          ∙ word_append (choice_marks style (choice a b)) (in_row (map (choice_marks style) cs) ++ placed style Chosen (printed style e))
          ∙ ap (λ w. w ++ word (in_row (map (choice_marks style) cs) ++ placed style Chosen (printed style e)))
          (ap word (choice_written style a b)
          ∙ word_append (placed style Chosen (printed style a) ++ spaced sign.Question ++ placed style Anywhere (printed style b)) (spaced sign.Colon)
          ∙ ap (λ w. w ++ token (k.Sign sign.Colon) [] ∷ [])
          (word_append (placed style Chosen (printed style a) ++ spaced sign.Question) (placed style Anywhere (printed style b))
          ∙ ap (λ w. w ++ word (placed style Anywhere (printed style b))) (word_append (placed style Chosen (printed style a)) (spaced sign.Question))
          ∙ append_assoc (word (placed style Chosen (printed style a))) (token (k.Sign sign.Question) [] ∷ []) (word (placed style Anywhere (printed style b)))))
          ∙ append_assoc (word (placed style Chosen (printed style a)) ++ token (k.Sign sign.Question) [] ∷ word (placed style Anywhere (printed style b))) (token (k.Sign sign.Colon) [] ∷ []) (word (in_row (map (choice_marks style) cs) ++ placed style Chosen (printed style e)))

  test_span : (c : Choice) → span_of (out-Choice (bare_of_choice c)).test ≡ nowhere
  test_span c = choice_span c

  chosen_read : (cs : List Choice) (e : Expr) → ChoicesRead cs e → P (conditional cs e)
  unfolding ChoicesRead
  chosen_read [] e (r, pe) = pe
  chosen_read (c ∷ cs) e (r, pe) =
      made _ _ _ (printed_at style (Shape-F.Conditional (c ∷ cs) e) _) (bare_at (Shape-F.Conditional (c ∷ cs) e) _)
      (subst (λ o. v.Reads ns constant v.Value (word (in_row (map (choice_marks style) (c ∷ cs)) ++ placed style Chosen (printed style e))) (expr (shape.Conditional (map bare_of_choice (c ∷ cs)) (bare_expr e)) o)) (λ i. join (test_span c i) (no_span e i))
      (v.value {cs = map bare_of_choice (c ∷ cs)} {e = bare_expr e} r))

  -- 7. Brackets and single values

  bracketed_read : (s : Span) (a : Expr) → P a → P (bracketed s a)
  bracketed_read s a pa = subst (λ (q : Printed). g.Own ns constant q.grade (word q.marks) (bare_expr (bracketed s a))) (printed_span style s a)
      (subst (g.Own ns constant (printed style a).grade (word (printed style a).marks)) (bare_span s a) pa)

  single_read : (l : Shape-F Shape Suffix Choice Expr Link) (o : Span) → g.Own ns constant (print_shape style (shape_layer style l)).grade (word (print_shape style (shape_layer style l)).marks) (expr (bare_shape (bare_layer l)) nowhere) → P (expr (shape_at l) o)
  single_read l o r = made _ _ _ (printed_at style l o) (bare_at l o) r

  -- 8. All readings

  ArgumentsRead : List Expr → Type 0
  ArgumentsRead es = v.Reads ns constant v.Arguments (word (arguments_marks style es)) (map bare_expr es)

  MoreRead : List Expr → Type 0
  MoreRead es = v.Reads ns constant v.MoreArguments (word (more_arguments_marks style es)) (map bare_expr es)

  one_more : (a : Expr) (es : List Expr) → P a → MoreRead es → MoreRead (a ∷ es)
  unfolding MoreRead
  one_more a es pa r = subst (λ w. v.Reads ns constant v.MoreArguments w (bare_expr a ∷ map bare_expr es)) (sym (ap (λ w. token (k.Sign sign.Comma) [] ∷ w) (word_append (placed style Anywhere (printed style a)) (more_arguments_marks style es))))
      (v.more_arguments refl (at Anywhere a pa) r)

  all_arguments : (a : Expr) (es : List Expr) → P a → MoreRead es → ArgumentsRead (a ∷ es)
  unfolding MoreRead ArgumentsRead
  all_arguments a es pa r = subst (λ w. v.Reads ns constant v.Arguments w (bare_expr a ∷ map bare_expr es)) (sym (word_append (placed style Anywhere (printed style a)) (more_arguments_marks style es)))
      (v.arguments (at Anywhere a pa) r)

  size_read : (c : CType) (o s : Span) → v.Reads ns constant v.Primary (token (k.Keyword keyword.Sizeof) [] ∷ token (k.Sign sign.OpenParen) [] ∷ word (type_marks c) ++ token (k.Sign sign.CloseParen) [] ∷ []) (expr (shape.SizeOf (bare_type c) nowhere) nowhere)
      → P (expr (shape.SizeOf c o) s)
  size_read c o s r = single_read (Shape-F.SizeOf c o) s
      (subst (λ w. v.Reads ns constant v.Primary (token (k.Keyword keyword.Sizeof) [] ∷ token (k.Sign sign.OpenParen) [] ∷ w) (expr (shape.SizeOf (bare_type c) nowhere) nowhere)) (sym (word_append (type_marks c) (ASign sign.CloseParen ∷ []))) r)

  offset_read : (c : CType) (x : tree.Name) (o s : Span)
      → v.Reads ns constant v.Primary (token (k.Keyword keyword.StructOffset) [] ∷ token (k.Sign sign.OpenParen) [] ∷ word (type_marks c) ++ token (k.Sign sign.Comma) [] ∷ token k.Identifier x.text ∷ token (k.Sign sign.CloseParen) [] ∷ [])
      (expr (shape.Offset (bare_type c) (bare_name x) nowhere) nowhere)
      → P (expr (shape.Offset c x o) s)
  offset_read c x o s r = single_read (Shape-F.Offset c x o) s
      (subst (λ w. v.Reads ns constant v.Primary (token (k.Keyword keyword.StructOffset) [] ∷ token (k.Sign sign.OpenParen) [] ∷ w) (expr (shape.Offset (bare_type c) (bare_name x) nowhere) nowhere))
      (sym (word_append (type_marks c) (ASign sign.Comma ∷ Space ∷ Name x.text ∷ ASign sign.CloseParen ∷ []))) r)

  cast_read : (c : CType) (o : Span) (ps : List PrefixOperator) (a : Expr) → ReadsType ns false (word (type_marks c)) (bare_type c) → is_object (bare_type c) ≡ true → PrefixesRead ps a → PrefixesRead (record { prefix = prefix.Cast c; span = o } ∷ ps) a
  unfolding PrefixesRead
  cast_read c o ps a t h (r, pa) = one_cast c o ps a
      (subst (λ w. v.Reads ns constant v.Prefixed w (record { prefix = prefix.Cast (bare_type c); span = nowhere } ∷ map bare_prefix ps, bare_expr a)) flat
      (v.cast (token (k.Sign sign.CloseParen) []) refl t h refl r)) pa
    where
      flat : token (k.Sign sign.OpenParen) [] ∷ word (type_marks c) ++ token (k.Sign sign.CloseParen) [] ∷ word (prefixes_marks ps ++ placed style BehindPrefix (printed style a))
          ≡ word (in_brackets (type_marks c)) ++ word (prefixes_marks ps ++ placed style BehindPrefix (printed style a))
      flat = ap (λ w. token (k.Sign sign.OpenParen) [] ∷ w) (sym (append_assoc (word (type_marks c)) (token (k.Sign sign.CloseParen) [] ∷ []) (word (prefixes_marks ps ++ placed style BehindPrefix (printed style a))))
          ∙ ap (λ w. w ++ word (prefixes_marks ps ++ placed style BehindPrefix (printed style a))) (sym (word_append (type_marks c) (ASign sign.CloseParen ∷ []))))

  -- what a reading of a part gives for what is written of it
  Claim : (p : v.Part) → v.tree_of p → Type 0
  Claim v.Value e = P e
  Claim v.Choosing x = ChoicesRead x.0 x.1
  Claim (v.Chained l) e = P e
  Claim (v.Links l) ls = LinksRead l ls
  Claim (v.Operand l) e = P e
  Claim v.Prefixed x = PrefixesRead x.0 x.1
  Claim v.Postfixed e = P e
  Claim v.Suffixes xs = SuffixesRead xs
  Claim v.Primary e = P e
  Claim v.Arguments es = ArgumentsRead es
  Claim v.MoreArguments es = MoreRead es

  reading : {p : v.Part} {w : Word} {x : v.tree_of p} → v.Reads ns constant p w x → Claim p x
  unfolding Claim LinksRead FirstLevel SuffixesRead ArgumentsRead MoreRead
  reading (v.value {cs} {e} r) = chosen_read cs e (reading r)
  reading (v.last_choice {a} r) = last_choice a (reading r)
  reading (v.more_choices t s {a} {b} {e} {cs} ra i rb j rest) = one_choice a b cs e (reading ra) (reading rb) (reading rest)
  reading (v.chain {l} {a} {ls} ra rest) = chain_read l a ls (reading ra) (reading rest)
  reading v.no_link = (tt, v.no_link)
  reading (v.more_links {o} {l} {b} {ls} i h k rb rest) = one_link o l b ls k (reading rb) (reading rest)
  reading (v.operand t r) = reading r
  reading (v.tightest {ps} {a} r) = prefixed_read ps a (reading r)
  reading (v.no_prefix {a} r) = no_prefix a (reading r)
  reading (v.more_prefixes {t} {s} {p} {ps} {a} i h r m) = one_prefix s p _ ps a h m (reading r)
  reading (v.cast s {c} {ps} {a} i t h j r) = cast_read c _ ps a (type_read ns false t) (object_bare c ∙ h) (reading r)
  reading (v.postfixed {a} {xs} ra rest h) = suffixed_read a xs (reading ra) (reading rest) h
  reading v.no_suffix = v.no_suffix
  reading (v.field {n} {xs} h i j rest) = one_suffix (Suffix-F.Field _) xs (v.field h refl refl (reading rest))
  reading (v.arrow {n} {xs} h i j rest) = one_suffix (Suffix-F.Arrow _) xs (v.arrow h refl refl (reading rest))
  reading (v.index s {i} {xs} h j ri m rest) = one_suffix (Suffix-F.Index i _) xs (indexed i (reading ri) xs h (reading rest))
  reading (v.number i) = single_read (Shape-F.Number _) _ (v.number refl)
  reading (v.character i) = single_read (Shape-F.Character _) _ (v.character refl)
  reading (v.text i) = single_read (Shape-F.Text _) _ (v.text refl)
  reading (v.constant_name i) = single_read (Shape-F.Constant _) _ (v.constant_name refl)
  reading (v.variable i h) = single_read (Shape-F.Variable _) _ (v.variable refl h)
  reading (v.function i h) = single_read (Shape-F.Function _) _ (v.function refl h)
  reading (v.member i h) = single_read (Shape-F.Member _) _ (v.member refl h)
  reading (v.size_of s {c} i j t h m) = size_read c _ _ (v.size_of (token (k.Sign sign.CloseParen) []) refl refl (type_read ns true t) (object_bare c ∙ h) refl)
  reading (v.offset m n s {c} i j t h q x y) = offset_read c _ _ _ (v.offset (token (k.Sign sign.Comma) []) (token k.Identifier n.bytes) (token (k.Sign sign.CloseParen) []) refl refl (type_read ns true t) (object_bare c ∙ h) refl refl refl)
  reading (v.brackets s {a} i r j) = bracketed_read _ a (reading r)
  reading v.no_argument = v.no_argument
  reading (v.arguments {a} {xs} ra rest) = all_arguments a xs (reading ra) (reading rest)
  reading v.no_more = v.no_more
  reading (v.more_arguments {a} {xs} i ra rest) = one_more a xs (reading ra) (reading rest)

  pub value_read : {w : Word} {e : Expr} → v.Reads ns constant v.Value w e → v.Reads ns constant v.Value (word (value_marks style e)) (bare_expr e)
  unfolding Claim
  value_read {e} r = at Anywhere e (reading r)

  pub operand_read : (l : Level) (e : Expr) {w : Word} → v.Reads ns constant (v.Operand l) w e → v.Reads ns constant (v.Operand l) (word (placed style (Operand l) (printed style e))) (bare_expr e)
  unfolding Claim
  operand_read l e r = at (Operand l) e (reading r)

  pub callee_read : (e : Expr) {w : Word} → v.Reads ns constant v.Postfixed w e → v.Reads ns constant v.Postfixed (word (placed style BehindPrefix (printed style e))) (bare_expr e)
  unfolding Claim
  callee_read e r = at BehindPrefix e (reading r)

  pub arguments_read : (es : List Expr) {w : Word} → v.Reads ns constant v.Arguments w es → v.Reads ns constant v.Arguments (word (arguments_marks style es)) (map bare_expr es)
  unfolding Claim ArgumentsRead
  arguments_read es r = reading r

  pub more_read : (es : List Expr) {w : Word} → v.Reads ns constant v.MoreArguments w es → v.Reads ns constant v.MoreArguments (word (more_arguments_marks style es)) (map bare_expr es)
  unfolding Claim MoreRead
  more_read es r = reading r
