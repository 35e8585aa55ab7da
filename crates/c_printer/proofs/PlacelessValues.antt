-- A value is written as it is without places: an induction over values.
use Rattle.std.proofs.Common.{◌≡◌, ◌∙◌, refl, sym, ap, subst, List, [], ◌∷◌, ◌++◌, map}
use Rattle.c_lexer.specs.declared.token.Keyword.TheVariants as keyword
use Rattle.c_lexer.specs.declared.token.Sign.TheVariants as sign
use Rattle.c_tree.specs.declared.names.Base.{Base}
use Rattle.c_tree.specs.declared.names.Base.TheVariants as base
use Rattle.c_tree.specs.declared.names.CType.{CType}
use Rattle.c_tree.specs.declared.operators.Prefix.{Prefix}
use Rattle.c_tree.specs.declared.operators.Prefix.TheVariants as prefix
use Rattle.c_tree.specs.declared.operators.PrefixOperator.{PrefixOperator}
use Rattle.c_tree.specs.declared.code.Expr.{Expr, roll-Expr}
use Rattle.c_tree.specs.declared.code.Shape.{Shape, roll-Shape}
use Rattle.c_tree.specs.declared.code.Suffix.{Suffix, roll-Suffix}
use Rattle.c_tree.specs.declared.code.Choice.{Choice, roll-Choice}
use Rattle.c_tree.specs.declared.code.Link.{Link, roll-Link}
use Rattle.c_tree.specs.declared.code.Shape.TheOpen.{Shape-F, Suffix-F, Choice-F, Expr-F, Link-F}
use Rattle.c_tree.specs.declared.code.Shape.TheFolds.{fold-roll-Shape, fold-roll-Suffix, map-Shape, map-Suffix, ind-Expr}
use Rattle.c_tree.specs.Make.{expr, link, choice}
use Rattle.c_tree.specs.Bare.{nowhere, bare_name, bare_base, bare_type, bare_operator, bare_prefix, bare_shape, bare_suffix, bare_expr}
use Rattle.c_printer.specs.declared.grade.Brackets.{Brackets}
use Rattle.c_printer.specs.declared.grade.Grade.TheVariants.{Prefixing}
use Rattle.c_printer.specs.declared.grade.Place.TheVariants.{Anywhere, BehindPrefix}
use Rattle.c_printer.specs.Marks.{Marks, Name, AKeyword, ASign, Space}
use Rattle.c_printer.specs.PutValues.{base_marks, const_marks, star_marks, type_marks, prefix_marks, prefixes_marks, is_not, begins_with_not, single, in_brackets, placed, Printed, PrintedLink, print_shape, print_suffix, print_choice, print_expr, print_link, printed, printed_shape, suffix_marks, choice_marks, printed_link, value_marks, arguments_marks, more_arguments_marks}
use Rattle.c_printer.proofs.BareTrees.{shape_layer, suffix_layer, bare_layer, bare_suffix_layer, bare_of_shape, bare_of_suffix, bare_of_choice, bare_of_link, bare_out, choice_bare, link_bare, shape_rolled, suffix_rolled, shape_written_at, suffix_written_at, choice_written, link_written, value_written}

-- 1. Types and operators

base_same : (b : Base) → base_marks (bare_base b) ≡ base_marks b
base_same base.Void = refl
base_same base.Int = refl
base_same base.Char = refl
base_same (base.Named x) = refl

pub type_same : (c : CType) → type_marks (bare_type c) ≡ type_marks c
type_same c = ap (λ ms. const_marks c.is_const ++ ms ++ star_marks c.stars) (base_same c.base)

prefix_same : (p : Prefix) → prefix_marks (bare_operator p) ≡ prefix_marks p
prefix_same prefix.Plus = refl
prefix_same prefix.Minus = refl
prefix_same prefix.Not = refl
prefix_same prefix.Complement = refl
prefix_same prefix.Deref = refl
prefix_same prefix.AddressOf = refl
prefix_same (prefix.Cast c) = ap (λ ms. in_brackets ms ++ Space ∷ []) (type_same c)

prefixes_same : (ps : List PrefixOperator) → prefixes_marks (map bare_prefix ps) ≡ prefixes_marks ps
prefixes_same [] = refl
prefixes_same (p ∷ ps) = λ i. prefix_same p.prefix i ++ prefixes_same ps i

not_same : (p : Prefix) → is_not (bare_operator p) ≡ is_not p
not_same prefix.Plus = refl
not_same prefix.Minus = refl
not_same prefix.Not = refl
not_same prefix.Complement = refl
not_same prefix.Deref = refl
not_same prefix.AddressOf = refl
not_same (prefix.Cast c) = refl

begins_same : (ps : List PrefixOperator) → begins_with_not (map bare_prefix ps) ≡ begins_with_not ps
begins_same [] = refl
begins_same (p ∷ ps) = not_same p.prefix

-- 2. What is shown of each part

module _ (style : Brackets) where
  abbrev ForShape : Shape → Type 0
  ForShape s = printed_shape style (bare_of_shape s) ≡ printed_shape style s

  abbrev ForSuffix : Suffix → Type 0
  ForSuffix x = suffix_marks style (bare_of_suffix x) ≡ suffix_marks style x

  abbrev ForChoice : Choice → Type 0
  ForChoice c = choice_marks style (bare_of_choice c) ≡ choice_marks style c

  abbrev ForExpr : Expr → Type 0
  ForExpr e = printed style (bare_expr e) ≡ printed style e

  abbrev ForLink : Link → Type 0
  ForLink l = printed_link style (bare_of_link l) ≡ printed_link style l

  abbrev SureShape : Type 0
  SureShape = (s : Shape) × ForShape s

  abbrev SureSuffix : Type 0
  SureSuffix = (x : Suffix) × ForSuffix x

  abbrev SureChoice : Type 0
  SureChoice = (c : Choice) × ForChoice c

  abbrev SureExpr : Type 0
  SureExpr = (e : Expr) × ForExpr e

  abbrev SureLink : Type 0
  SureLink = (l : Link) × ForLink l

  suffixes_same : (xs : List SureSuffix)
      → map (suffix_marks style) (map bare_of_suffix (map (λ e. e.0) xs)) ≡ map (suffix_marks style) (map (λ e. e.0) xs)
  suffixes_same [] = refl
  suffixes_same (x ∷ xs) = λ i. x.1 i ∷ suffixes_same xs i

  choices_same : (cs : List SureChoice)
      → map (choice_marks style) (map bare_of_choice (map (λ e. e.0) cs)) ≡ map (choice_marks style) (map (λ e. e.0) cs)
  choices_same [] = refl
  choices_same (c ∷ cs) = λ i. c.1 i ∷ choices_same cs i

  links_same : (ls : List SureLink)
      → map (printed_link style) (map bare_of_link (map (λ e. e.0) ls)) ≡ map (printed_link style) (map (λ e. e.0) ls)
  links_same [] = refl
  links_same (l ∷ ls) = λ i. l.1 i ∷ links_same ls i

  -- 3. Levels whose parts are written so

  abbrev SureLevel : Type 0
  SureLevel = Shape-F SureShape SureSuffix SureChoice SureExpr SureLink

  abbrev plain_level : SureLevel → Shape-F Shape Suffix Choice Expr Link
  plain_level = map-Shape SureShape SureSuffix SureChoice SureExpr SureLink Shape Suffix Choice Expr Link
      (λ e. e.0) (λ e. e.0) (λ e. e.0) (λ e. e.0) (λ e. e.0)

  level_same : (l : SureLevel) → printed_shape style (bare_shape (bare_layer (plain_level l))) ≡ print_shape style (shape_layer style (plain_level l))
  level_same (Shape-F.Number n) = shape_written_at style (Shape-F.Number n)
  level_same (Shape-F.Character b) = shape_written_at style (Shape-F.Character b)
  level_same (Shape-F.Text z) = shape_written_at style (Shape-F.Text z)
  level_same (Shape-F.Constant c) = shape_written_at style (Shape-F.Constant c)
  level_same (Shape-F.Variable x) = shape_written_at style (Shape-F.Variable (bare_name x))
  level_same (Shape-F.Function x) = shape_written_at style (Shape-F.Function (bare_name x))
  level_same (Shape-F.Member x) = shape_written_at style (Shape-F.Member (bare_name x))
  level_same (Shape-F.SizeOf c s) = shape_written_at style (Shape-F.SizeOf (bare_type c) nowhere)
      ∙ ap (λ ms. single (AKeyword keyword.Sizeof ∷ Space ∷ in_brackets ms)) (type_same c)
  level_same (Shape-F.Offset c x s) = shape_written_at style (Shape-F.Offset (bare_type c) (bare_name x) nowhere)
      ∙ ap (λ ms. single (AKeyword keyword.StructOffset ∷ Space ∷ ASign sign.OpenParen ∷ ms
      ++ ASign sign.Comma ∷ Space ∷ Name x.text ∷ ASign sign.CloseParen ∷ []))
      (type_same c)
  level_same (Shape-F.Prefix ps a) = shape_written_at style (Shape-F.Prefix (map bare_prefix ps) (bare_expr a.0))
      ∙ (λ i. record { grade = Prefixing (begins_same ps i); marks = prefixes_same ps i ++ placed style BehindPrefix (a.1 i) })
  level_same (Shape-F.Postfix a xs) = shape_written_at style (Shape-F.Postfix (bare_expr a.0) (map bare_of_suffix (map (λ (e : SureSuffix). e.0) xs)))
      ∙ (λ i. print_shape style (Shape-F.Postfix (a.1 i) (suffixes_same xs i)))
  level_same (Shape-F.Chain a ls) = shape_written_at style (Shape-F.Chain (bare_expr a.0) (map bare_of_link (map (λ (e : SureLink). e.0) ls)))
      ∙ (λ i. print_shape style (Shape-F.Chain (a.1 i) (links_same ls i)))
  level_same (Shape-F.Conditional cs e) = shape_written_at style (Shape-F.Conditional (map bare_of_choice (map (λ (c : SureChoice). c.0) cs)) (bare_expr e.0))
      ∙ (λ i. print_shape style (Shape-F.Conditional (choices_same cs i) (e.1 i)))

  shape_step : (l : SureLevel) → ForShape (roll-Shape (plain_level l))
  shape_step l = ap (printed_shape style) (shape_rolled (plain_level l)) ∙ level_same l
      ∙ sym (fold-roll-Shape Printed Marks Marks Printed PrintedLink (print_shape style) (print_suffix style) (print_choice style) print_expr
      (print_link style) (plain_level l))

  abbrev SureBehind : Type 0
  SureBehind = Suffix-F SureShape SureSuffix SureChoice SureExpr SureLink

  abbrev plain_suffix : SureBehind → Suffix-F Shape Suffix Choice Expr Link
  plain_suffix = map-Suffix SureShape SureSuffix SureChoice SureExpr SureLink Shape Suffix Choice Expr Link
      (λ e. e.0) (λ e. e.0) (λ e. e.0) (λ e. e.0) (λ e. e.0)

  suffix_same : (l : SureBehind)
      → suffix_marks style (bare_suffix (bare_suffix_layer (plain_suffix l))) ≡ print_suffix style (suffix_layer style (plain_suffix l))
  suffix_same (Suffix-F.Field x) = suffix_written_at style (Suffix-F.Field (bare_name x))
  suffix_same (Suffix-F.Arrow x) = suffix_written_at style (Suffix-F.Arrow (bare_name x))
  suffix_same (Suffix-F.Index e s) = suffix_written_at style (Suffix-F.Index (bare_expr e.0) nowhere) ∙ (λ i. print_suffix style (Suffix-F.Index (e.1 i) s))

  suffix_step : (l : SureBehind) → ForSuffix (roll-Suffix (plain_suffix l))
  suffix_step l = ap (suffix_marks style) (suffix_rolled (plain_suffix l)) ∙ suffix_same l
      ∙ sym (fold-roll-Suffix Printed Marks Marks Printed PrintedLink (print_shape style) (print_suffix style) (print_choice style) print_expr
      (print_link style) (plain_suffix l))

  choice_step : (l : Choice-F SureShape SureSuffix SureChoice SureExpr SureLink) → ForChoice (choice l.test.0 l.yes.0)
  choice_step l = ap (choice_marks style) (choice_bare l.test.0 l.yes.0) ∙ choice_written style (bare_expr l.test.0) (bare_expr l.yes.0)
      ∙ (λ i. print_choice style (record { test = l.test.1 i; yes = l.yes.1 i })) ∙ sym (choice_written style l.test.0 l.yes.0)

  link_step : (l : Link-F SureShape SureSuffix SureChoice SureExpr SureLink) → ForLink (link l.operator l.operand.0)
  link_step l = ap (printed_link style) (link_bare l.operator l.operand.0) ∙ link_written style l.operator (bare_expr l.operand.0)
      ∙ (λ i. print_link style (record { operator = l.operator; operand = l.operand.1 i })) ∙ sym (link_written style l.operator l.operand.0)

  expr_step : (l : Expr-F SureShape SureSuffix SureChoice SureExpr SureLink) → ForExpr (expr l.shape.0 l.span)
  expr_step l = ap (printed style) (bare_out (expr l.shape.0 l.span)) ∙ value_written style (expr (bare_of_shape l.shape.0) nowhere)
      ∙ l.shape.1 ∙ sym (value_written style (expr l.shape.0 l.span))

  -- 4. All values

  pub printed_same : (e : Expr) → printed style (bare_expr e) ≡ printed style e
  printed_same = ind-Expr ForShape ForSuffix ForChoice ForExpr ForLink
      (λ x y is. subst (λ z. ForShape (roll-Shape z)) is (shape_step y))
      (λ x y is. subst (λ z. ForSuffix (roll-Suffix z)) is (suffix_step y))
      (λ x y is. subst (λ z. ForChoice (roll-Choice z)) is (choice_step y))
      (λ x y is. subst (λ z. ForExpr (roll-Expr z)) is (expr_step y))
      (λ x y is. subst (λ z. ForLink (roll-Link z)) is (link_step y))

  pub value_same : (e : Expr) → value_marks style (bare_expr e) ≡ value_marks style e
  value_same e = λ i. placed style Anywhere (printed_same e i)

  pub more_same : (es : List Expr) → more_arguments_marks style (map bare_expr es) ≡ more_arguments_marks style es
  more_same [] = refl
  more_same (e ∷ es) = λ i. ASign sign.Comma ∷ Space ∷ value_same e i ++ more_same es i

  pub arguments_same : (es : List Expr) → arguments_marks style (map bare_expr es) ≡ arguments_marks style es
  arguments_same [] = refl
  arguments_same (e ∷ es) = λ i. value_same e i ++ more_same es i
