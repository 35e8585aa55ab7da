-- Types and values that the tokens of bytes are read as can be written.
use Rattle.std.proofs.Common.{◌≡◌, refl, sym, subst, ℕ, zero, suc, Bool, true, false, ◌||◌, List, [], ◌∷◌, ◌++◌, map, Option, Some, None}
use Rattle.std.proofs.lemmas.Bool.{cond_both}
use Rattle.c_lexer.specs.declared.token.Sign.{Sign}
use Rattle.c_lexer.specs.declared.token.Sign.TheVariants as sign
use Rattle.c_tree.specs.declared.names.Base.{Base}
use Rattle.c_tree.specs.declared.names.CType.{CType}
use Rattle.c_tree.specs.declared.names.Span.{Span}
use Rattle.c_tree.specs.declared.operators.BinaryOperator.{BinaryOperator}
use Rattle.c_tree.specs.declared.operators.BinaryOperator.TheVariants as op
use Rattle.c_tree.specs.declared.operators.Level.{Level}
use Rattle.c_tree.specs.declared.operators.Prefix.{Prefix}
use Rattle.c_tree.specs.declared.operators.PrefixOperator.{PrefixOperator}
use Rattle.c_tree.specs.declared.code.Expr.{Expr}
use Rattle.c_tree.specs.declared.code.Shape.{Shape}
use Rattle.c_tree.specs.declared.code.Shape.TheOpen.{Shape-F, Suffix-F}
use Rattle.c_tree.specs.declared.code.Suffix.{Suffix}
use Rattle.c_tree.specs.declared.code.Choice.{Choice}
use Rattle.c_tree.specs.declared.code.Link.{Link}
use Rattle.c_tree.specs.Words.{Token, Word, at, join}
use Rattle.c_tree.specs.Kinds.{level_of}
use Rattle.c_tree.specs.Names.{Names}
use Rattle.c_tree.specs.Make.{name_at, expr, link, choice, chained, prefixed, suffixed, conditional}
use Rattle.c_tree.specs.Types.{BaseIs, void_is, int_is, char_is, named_is, ReadsType, type_is}
use Rattle.c_tree.specs.Values as v
use Rattle.c_tree.specs.Values.{prefix_of}
use Rattle.c_printer.specs.declared.grade.Brackets.{Brackets}
use Rattle.c_printer.specs.declared.grade.Place.{Place}
use Rattle.c_printer.specs.declared.grade.Place.TheVariants.{Anywhere, Chosen, Operand, BehindPrefix, BeforeSuffix}
use Rattle.c_printer.specs.Grades.{stands}
use Rattle.c_printer.specs.Marks.{Marks, ASign, Space, Name, in_row}
use Rattle.c_printer.proofs.Inner.{is_hash, AreInner}
use Rattle.c_printer.specs.PutValues.{Printed, PrintedLink, const_marks, base_marks, stars, star_marks, sign_of, prefix_marks, prefixes_marks, type_marks, in_brackets, placed, link_marks, printed, printed_link, suffix_marks, choice_marks, value_marks, spaced, print_shape, print_suffix, arguments_marks, more_arguments_marks}
use Rattle.c_printer.proofs.BareTrees.{shape_at, shape_layer, suffix_at, suffix_layer, printed_span, printed_at, choice_written, link_written, suffix_written_at}
use Rattle.c_printer.proofs.TokensOfBytes.{IsGiven, AreGiven, given_append, a_name, a_number, a_text, a_character}

pub inner_append : (a b : Marks) → AreInner a → AreInner b → AreInner (a ++ b)
inner_append [] b h i = i
inner_append (m ∷ a) b h i = (h.0, inner_append a b h.1 i)

pub in_brackets_inner : (ms : Marks) → AreInner ms → AreInner (in_brackets ms)
in_brackets_inner ms h = (refl, inner_append ms (ASign sign.CloseParen ∷ []) h (refl, tt))

-- 1. Types

const_inner : (b : Bool) → AreInner (const_marks b)
const_inner true = (tt, (tt, tt))
const_inner false = tt

base_inner : {ns : Names} {anyhow : Bool} {t : Token} {x : Base} → BaseIs ns anyhow t x → IsGiven t → AreInner (base_marks x)
base_inner (void_is i) g = (tt, tt)
base_inner (int_is i) g = (tt, tt)
base_inner (char_is i) g = (tt, tt)
base_inner (named_is {t} i h) g = (a_name t i g, tt)

stars_inner : (n : ℕ) → AreInner (stars n)
stars_inner zero = tt
stars_inner (suc n) = (refl, stars_inner n)

star_inner : (n : ℕ) → AreInner (star_marks n)
star_inner zero = tt
star_inner (suc n) = (tt, stars_inner (suc n))

pub type_inner : {ns : Names} {anyhow : Bool} {w : Word} {c : CType} → ReadsType ns anyhow w c → AreGiven w → AreInner (type_marks c)
type_inner (type_is {t} {u} {v = z} {w} {b} {c} {n} {x} cs is ds ss) g =
    let p = given_append (u ++ t ∷ z) w g in let q = given_append u (t ∷ z) p.0 in
    inner_append (const_marks (b || c) ++ base_marks x) (star_marks n) (inner_append (const_marks (b || c)) (base_marks x) (const_inner (b || c)) (base_inner is q.1.0)) (star_inner n)

-- 2. Operators

no_hash : (o : BinaryOperator) → is_hash (sign_of o) ≡ false
no_hash op.Or = refl
no_hash op.And = refl
no_hash op.BitOr = refl
no_hash op.BitXor = refl
no_hash op.BitAnd = refl
no_hash op.Equal = refl
no_hash op.Unequal = refl
no_hash op.Less = refl
no_hash op.Greater = refl
no_hash op.AtMost = refl
no_hash op.AtLeast = refl
no_hash op.ShiftLeft = refl
no_hash op.ShiftRight = refl
no_hash op.Add = refl
no_hash op.Subtract = refl
no_hash op.Multiply = refl
no_hash op.Divide = refl
no_hash op.Remainder = refl

PrefixInner : Option Prefix → Type 0
PrefixInner None = Unit {0}
PrefixInner (Some p) = AreInner (prefix_marks p)

prefix_inner : (constant : Bool) (s : Sign) → PrefixInner (prefix_of constant s)
unfolding PrefixInner
prefix_inner constant sign.Plus = (refl, tt)
prefix_inner constant sign.Minus = (refl, tt)
prefix_inner constant sign.Not = (refl, tt)
prefix_inner constant sign.Tilde = (refl, tt)
prefix_inner false sign.Star = (refl, tt)
prefix_inner false sign.Ampersand = (refl, tt)
prefix_inner constant s = tt

by_sign : (constant : Bool) (s : Sign) (p : Prefix) → prefix_of constant s ≡ Some p → AreInner (prefix_marks p)
unfolding PrefixInner
by_sign constant s p h = subst PrefixInner h (prefix_inner constant s)

cast_inner : (c : CType) → AreInner (type_marks c) → AreInner (in_brackets (type_marks c) ++ Space ∷ [])
cast_inner c h = inner_append (in_brackets (type_marks c)) (Space ∷ []) (in_brackets_inner (type_marks c) h) (tt, tt)

-- 3. Values, one level after another

abbrev Inner : (style : Brackets) → Expr → Type 0
Inner style e = AreInner (printed style e).marks

pub placed_inner : (style : Brackets) → (p : Place) (e : Expr) → Inner style e → AreInner (placed style p (printed style e))
placed_inner style p e h = cond_both (stands style p (printed style e).grade) (printed style e).marks (in_brackets (printed style e).marks) AreInner (λ _. h) (λ _. in_brackets_inner (printed style e).marks h)

made : (style : Brackets) → (l : Shape-F Shape Suffix Choice Expr Link) (o : Span) → AreInner (print_shape style (shape_layer style l)).marks → Inner style (expr (shape_at l) o)
made style l o h = subst (λ (q : Printed). AreInner q.marks) (sym (printed_at style l o)) h

abbrev LinksInner : (style : Brackets) → List Link → Type 0
LinksInner style ls = AreInner (link_marks (map (printed_link style) ls))

link_inner : (style : Brackets) → (o : BinaryOperator) (b : Expr) (ls : List Link) → Inner style b → LinksInner style ls → LinksInner style (link o b ∷ ls)
link_inner style o b ls h r = subst (λ (x : PrintedLink). AreInner (x.marks ++ link_marks (map (printed_link style) ls))) (sym (link_written style o b))
    (inner_append (spaced (sign_of o) ++ placed style (Operand (level_of o)) (printed style b)) (link_marks (map (printed_link style) ls)) (tt, (no_hash o, (tt, placed_inner style (Operand (level_of o)) b h))) r)

chained_inner : (style : Brackets) → (a : Expr) (ls : List Link) → Inner style a → LinksInner style ls → Inner style (chained a ls)
chained_inner style a [] h r = h
chained_inner style a (j ∷ ls) h r = made style (Shape-F.Chain a (j ∷ ls)) _
    (inner_append (placed style (Operand (printed_link style j).level) (printed style a)) (link_marks (map (printed_link style) (j ∷ ls))) (placed_inner style (Operand (printed_link style j).level) a h) r)

prefixed_inner : (style : Brackets) → (ps : List PrefixOperator) (a : Expr) → AreInner (prefixes_marks ps) → Inner style a → Inner style (prefixed ps a)
prefixed_inner style [] a h r = r
prefixed_inner style (p ∷ ps) a h r = made style (Shape-F.Prefix (p ∷ ps) a) _ (inner_append (prefixes_marks (p ∷ ps)) (placed style BehindPrefix (printed style a)) h (placed_inner style BehindPrefix a r))

abbrev SuffixesInner : (style : Brackets) → List Suffix → Type 0
SuffixesInner style xs = AreInner (in_row (map (suffix_marks style) xs))

suffix_inner : (style : Brackets) → (l : Suffix-F Shape Suffix Choice Expr Link) (xs : List Suffix) → AreInner (print_suffix style (suffix_layer style l)) → SuffixesInner style xs → SuffixesInner style (suffix_at l ∷ xs)
suffix_inner style l xs h r = subst (λ ms. AreInner (ms ++ in_row (map (suffix_marks style) xs))) (sym (suffix_written_at style l)) (inner_append (print_suffix style (suffix_layer style l)) (in_row (map (suffix_marks style) xs)) h r)

suffixed_inner : (style : Brackets) → (a : Expr) (xs : List Suffix) → Inner style a → SuffixesInner style xs → Inner style (suffixed a xs)
suffixed_inner style a [] h r = h
suffixed_inner style a (x ∷ xs) h r = made style (Shape-F.Postfix a (x ∷ xs)) _ (inner_append (placed style BeforeSuffix (printed style a)) (in_row (map (suffix_marks style) (x ∷ xs))) (placed_inner style BeforeSuffix a h) r)

abbrev ChoicesInner : (style : Brackets) → List Choice → Type 0
ChoicesInner style cs = AreInner (in_row (map (choice_marks style) cs))

choice_inner : (style : Brackets) → (a b : Expr) (cs : List Choice) → Inner style a → Inner style b → ChoicesInner style cs → ChoicesInner style (choice a b ∷ cs)
choice_inner style a b cs h i r =
    let before : Marks = placed style Chosen (printed style a) ++ spaced sign.Question in
    subst (λ ms. AreInner (ms ++ in_row (map (choice_marks style) cs))) (sym (choice_written style a b))
    (inner_append (placed style Chosen (printed style a) ++ spaced sign.Question ++ placed style Anywhere (printed style b) ++ spaced sign.Colon) (in_row (map (choice_marks style) cs))
    (inner_append (before ++ placed style Anywhere (printed style b)) (spaced sign.Colon)
    (inner_append before (placed style Anywhere (printed style b)) (inner_append (placed style Chosen (printed style a)) (spaced sign.Question) (placed_inner style Chosen a h) (tt, (refl, (tt, tt)))) (placed_inner style Anywhere b i))
    (tt, (refl, (tt, tt)))) r)

chosen_inner : (style : Brackets) → (cs : List Choice) (e : Expr) → ChoicesInner style cs → Inner style e → Inner style (conditional cs e)
chosen_inner style [] e h r = r
chosen_inner style (c ∷ cs) e h r = made style (Shape-F.Conditional (c ∷ cs) e) _ (inner_append (in_row (map (choice_marks style) (c ∷ cs))) (placed style Chosen (printed style e)) h (placed_inner style Chosen e r))

next_inner : (style : Brackets) → (a : Expr) (es : List Expr) → Inner style a → AreInner (more_arguments_marks style es) → AreInner (more_arguments_marks style (a ∷ es))
next_inner style a es h r = (refl, (tt, inner_append (value_marks style a) (more_arguments_marks style es) (placed_inner style Anywhere a h) r))

-- 4. All readings

abbrev Claim : (style : Brackets) → (p : v.Part) → v.tree_of p → Type 0
Claim style v.Value e = Inner style e
Claim style v.Choosing x = ChoicesInner style x.0 × (Inner style) x.1
Claim style (v.Chained l) e = Inner style e
Claim style (v.Links l) ls = LinksInner style ls
Claim style (v.Operand l) e = Inner style e
Claim style v.Prefixed x = AreInner (prefixes_marks x.0) × (Inner style) x.1
Claim style v.Postfixed e = Inner style e
Claim style v.Suffixes xs = SuffixesInner style xs
Claim style v.Primary e = Inner style e
Claim style v.Arguments es = AreInner (arguments_marks style es)
Claim style v.MoreArguments es = AreInner (more_arguments_marks style es)

module _ (style : Brackets) (ns : Names) (constant : Bool) where
  inner : {p : v.Part} {w : Word} {x : v.tree_of p} → v.Reads ns constant p w x → AreGiven w → Claim style p x
  inner (v.value {cs} {e} r) g = let q = inner r g in chosen_inner style cs e q.0 q.1
  inner (v.last_choice r) g = (tt, inner r g)
  inner (v.more_choices t s {u} {v = z} {w} {a} {b} {cs} ra i rb j rest) g =
      let p = given_append (u ++ t ∷ z) (s ∷ w) g in let q = given_append u (t ∷ z) p.0 in let m = inner rest p.1.1 in
      (choice_inner style a b cs (inner ra q.0) (inner rb q.1.1) m.0, m.1)
  inner (v.chain {u} {v = z} {a} {ls} ra rest) g = let p = given_append u z g in chained_inner style a ls (inner ra p.0) (inner rest p.1)
  inner v.no_link g = tt
  inner (v.more_links {o} {u} {v = z} {b} {ls} i h j rb rest) g = let p = given_append u z g.1 in link_inner style o b ls (inner rb p.0) (inner rest p.1)
  inner (v.operand h r) g = inner r g
  inner (v.tightest {ps} {a} r) g = let q = inner r g in prefixed_inner style ps a q.0 q.1
  inner (v.no_prefix r) g = (tt, inner r g)
  inner (v.more_prefixes {s} {p} {ps} i h r m) g = let q = inner r g.1 in (inner_append (prefix_marks p) (prefixes_marks ps) (by_sign constant s p h) q.0, q.1)
  inner (v.cast {t} s {u} {w} {c} {ps} i rc h j r) g =
      let p = given_append (t ∷ u) (s ∷ w) g in let q = inner r p.1.1 in
      (inner_append (in_brackets (type_marks c) ++ Space ∷ []) (prefixes_marks ps) (cast_inner c (type_inner rc p.0.1)) q.0, q.1)
  inner (v.postfixed {u} {v = z} {a} {xs} ra rest h) g = let p = given_append u z g in suffixed_inner style a xs (inner ra p.0) (inner rest p.1)
  inner v.no_suffix g = tt
  inner (v.field {n} {xs} h i j rest) g = suffix_inner style (Suffix-F.Field (name_at n)) xs (refl, (a_name n j g.1.0, tt)) (inner rest g.1.1)
  inner (v.arrow {n} {xs} h i j rest) g = suffix_inner style (Suffix-F.Arrow (name_at n)) xs (refl, (a_name n j g.1.0, tt)) (inner rest g.1.1)
  inner (v.index {t} s {v = z} {w} {i = x} {xs} h j ri m rest) g =
      let p = given_append (t ∷ z) (s ∷ w) g in
      suffix_inner style (Suffix-F.Index x (join (at t) (at s))) xs
      (refl, inner_append (placed style Anywhere (printed style x)) (ASign sign.CloseBracket ∷ []) (placed_inner style Anywhere x (inner ri p.0.1)) (refl, tt)) (inner rest p.1.1)
  inner (v.number {t} {n} {y} i) g = made style (Shape-F.Number (record { value = n; kind = y })) (at t) (a_number t i g.0, tt)
  inner (v.character {t} {b} i) g = made style (Shape-F.Character b) (at t) (a_character t i g.0, tt)
  inner (v.text {t} i) g = made style (Shape-F.Text t.bytes) (at t) (a_text t i g.0, tt)
  inner (v.constant_name {t} {c} i) g = made style (Shape-F.Constant c) (at t) (tt, tt)
  inner (v.variable {t} i h) g = made style (Shape-F.Variable (name_at t)) (at t) (a_name t i g.0, tt)
  inner (v.function {t} i h) g = made style (Shape-F.Function (name_at t)) (at t) (a_name t i g.0, tt)
  inner (v.member {t} i h) g = made style (Shape-F.Member (name_at t)) (at t) (a_name t i g.0, tt)
  inner (v.size_of {t} {r} s {w} {c} i j rc h m) g =
      let p = given_append (t ∷ r ∷ w) (s ∷ []) g in
      made style (Shape-F.SizeOf c (join (at t) (at s))) (join (at t) (at s)) (tt, (tt, in_brackets_inner (type_marks c) (type_inner rc p.0.1.1)))
  inner (v.offset {t} {r} d f s {w} {c} i j rc h m x y) g =
      let p = given_append (t ∷ r ∷ w) (d ∷ f ∷ s ∷ []) g in
      made style (Shape-F.Offset c (name_at f) (join (at t) (at s))) (join (at t) (at s))
      (tt, (tt, (refl, inner_append (type_marks c) (ASign sign.Comma ∷ Space ∷ Name f.bytes ∷ ASign sign.CloseParen ∷ []) (type_inner rc p.0.1.1) (refl, (tt, (a_name f x p.1.1.0, (refl, tt)))))))
  inner (v.brackets {t} s {w} {a} i r j) g =
      let p = given_append (t ∷ w) (s ∷ []) g in
      subst (λ (q : Printed). AreInner q.marks) (printed_span style (join (at t) (at s)) a) (inner r p.0.1)
  inner v.no_argument g = tt
  inner (v.arguments {u} {v = z} {a} {xs} ra rest) g =
      let p = given_append u z g in inner_append (value_marks style a) (more_arguments_marks style xs) (placed_inner style Anywhere a (inner ra p.0)) (inner rest p.1)
  inner v.no_more g = tt
  inner (v.more_arguments {u} {v = z} {a} {xs} i ra rest) g = let p = given_append u z g.1 in next_inner style a xs (inner ra p.0) (inner rest p.1)

  pub value_inner : {w : Word} {e : Expr} → v.Reads ns constant v.Value w e → AreGiven w → AreInner (value_marks style e)
  value_inner {e} r g = placed_inner style Anywhere e (inner r g)

  pub operand_inner : (l : Level) (e : Expr) {w : Word} → v.Reads ns constant (v.Operand l) w e → AreGiven w → AreInner (placed style (Operand l) (printed style e))
  operand_inner l e r g = placed_inner style (Operand l) e (inner r g)

  pub callee_inner : (e : Expr) {w : Word} → v.Reads ns constant v.Postfixed w e → AreGiven w → AreInner (placed style BehindPrefix (printed style e))
  callee_inner e r g = placed_inner style BehindPrefix e (inner r g)

  pub arguments_inner : {w : Word} {es : List Expr} → v.Reads ns constant v.Arguments w es → AreGiven w → AreInner (arguments_marks style es)
  arguments_inner r g = inner r g

  pub more_inner : {w : Word} {es : List Expr} → v.Reads ns constant v.MoreArguments w es → AreGiven w → AreInner (more_arguments_marks style es)
  more_inner r g = inner r g
