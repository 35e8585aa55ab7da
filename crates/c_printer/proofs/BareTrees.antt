-- Trees without places, and what is written of them, one level after another.
use Rattle.std.proofs.Common.{◌≡◌, ◌∙◌, cond, refl, sym, ap, true, false, List, [], ◌∷◌, map}
use Rattle.c_tree.specs.declared.names.Span.{Span}
use Rattle.c_tree.specs.declared.operators.BinaryOperator.{BinaryOperator}
use Rattle.c_tree.specs.declared.operators.Prefix.{Prefix}
use Rattle.c_tree.specs.declared.operators.Prefix.TheVariants as prefix
use Rattle.c_tree.specs.declared.operators.PrefixOperator.{PrefixOperator}
use Rattle.c_tree.specs.declared.code.Expr.{Expr, out-Expr, roll-Expr}
use Rattle.c_tree.specs.declared.code.Shape.{Shape, out-Shape, roll-Shape}
use Rattle.c_tree.specs.declared.code.Shape.TheVariants as shape
use Rattle.c_tree.specs.declared.code.Suffix.{Suffix, out-Suffix, roll-Suffix}
use Rattle.c_tree.specs.declared.code.Suffix.TheVariants as suffix
use Rattle.c_tree.specs.declared.code.Choice.{Choice, out-Choice, roll-Choice}
use Rattle.c_tree.specs.declared.code.Link.{Link, out-Link, roll-Link}
use Rattle.c_tree.specs.declared.code.Shape.TheOpen.{Shape-F, Suffix-F, Expr-F}
use Rattle.c_tree.specs.declared.code.Shape.TheFolds.{fold-roll-Shape, fold-roll-Suffix, fold-Shape, fold-Suffix, fold-Choice, fold-Link, fold_out-Expr, fold_out-Shape, fold_out-Suffix, fold_out-Choice, fold_out-Link, map-Shape, map-Suffix}
use Rattle.c_tree.specs.Make.{expr, span_of, shape_of, link, choice, bracketed, last_operand, suffix_span, last_suffix}
use Rattle.c_tree.specs.Values.{is_place, is_place_layer, begins_with_deref, is_deref, is_dot_layer}
use Rattle.c_tree.specs.Bare.{nowhere, bare_operator, bare_prefix, bare_shape, bare_suffix, bare_expr}
use Rattle.c_printer.specs.declared.grade.Brackets.{Brackets}
use Rattle.c_printer.specs.declared.grade.Place.{Place}
use Rattle.c_printer.specs.Grades.{stands}
use Rattle.c_printer.specs.Marks.{Marks}
use Rattle.c_printer.specs.PutValues.{Printed, PrintedLink, print_shape, print_suffix, print_choice, print_expr, print_link, printed, printed_shape, suffix_marks, choice_marks, printed_link, placed, in_brackets}

-- 1. What is written

abbrev pub shape_layer : (style : Brackets) → Shape-F Shape Suffix Choice Expr Link → Shape-F Printed Marks Marks Printed PrintedLink
shape_layer style = map-Shape Shape Suffix Choice Expr Link Printed Marks Marks Printed PrintedLink (printed_shape style) (suffix_marks style) (choice_marks style) (printed style) (printed_link style)

pub shape_written : (style : Brackets) → (s : Shape) → printed_shape style s ≡ print_shape style (shape_layer style (out-Shape s))
shape_written style s = fold_out-Shape Printed Marks Marks Printed PrintedLink (print_shape style) (print_suffix style) (print_choice style) print_expr (print_link style) s

-- a value from one level of it
abbrev pub shape_at : Shape-F Shape Suffix Choice Expr Link → Shape
shape_at (Shape-F.Number n) = shape.Number n
shape_at (Shape-F.Character b) = shape.Character b
shape_at (Shape-F.Text z) = shape.Text z
shape_at (Shape-F.Constant c) = shape.Constant c
shape_at (Shape-F.Variable x) = shape.Variable x
shape_at (Shape-F.Function x) = shape.Function x
shape_at (Shape-F.Member x) = shape.Member x
shape_at (Shape-F.SizeOf c o) = shape.SizeOf c o
shape_at (Shape-F.Offset c x o) = shape.Offset c x o
shape_at (Shape-F.Prefix ps a) = shape.Prefix ps a
shape_at (Shape-F.Postfix a xs) = shape.Postfix a xs
shape_at (Shape-F.Chain a ls) = shape.Chain a ls
shape_at (Shape-F.Conditional cs e) = shape.Conditional cs e

pub rolls_at : (l : Shape-F Shape Suffix Choice Expr Link) → roll-Shape l ≡ shape_at l
rolls_at (Shape-F.Number n) = shape.rolls-Number n
rolls_at (Shape-F.Character b) = shape.rolls-Character b
rolls_at (Shape-F.Text z) = shape.rolls-Text z
rolls_at (Shape-F.Constant c) = shape.rolls-Constant c
rolls_at (Shape-F.Variable x) = shape.rolls-Variable x
rolls_at (Shape-F.Function x) = shape.rolls-Function x
rolls_at (Shape-F.Member x) = shape.rolls-Member x
rolls_at (Shape-F.SizeOf c o) = shape.rolls-SizeOf c o
rolls_at (Shape-F.Offset c x o) = shape.rolls-Offset c x o
rolls_at (Shape-F.Prefix ps a) = shape.rolls-Prefix ps a
rolls_at (Shape-F.Postfix a xs) = shape.rolls-Postfix a xs
rolls_at (Shape-F.Chain a ls) = shape.rolls-Chain a ls
rolls_at (Shape-F.Conditional cs e) = shape.rolls-Conditional cs e

abbrev pub suffix_at : Suffix-F Shape Suffix Choice Expr Link → Suffix
suffix_at (Suffix-F.Field x) = suffix.Field x
suffix_at (Suffix-F.Arrow x) = suffix.Arrow x
suffix_at (Suffix-F.Index i o) = suffix.Index i o

pub suffix_out_at : (l : Suffix-F Shape Suffix Choice Expr Link) → out-Suffix (suffix_at l) ≡ l
unfolding out-Suffix denote.Hole.Carrier.out
suffix_out_at (Suffix-F.Field x) = refl
suffix_out_at (Suffix-F.Arrow x) = refl
suffix_out_at (Suffix-F.Index i o) = refl

pub choice_written : (style : Brackets) → (a b : Expr) → choice_marks style (choice a b) ≡ print_choice style (record { test = printed style a; yes = printed style b })
choice_written style a b = fold_out-Choice Printed Marks Marks Printed PrintedLink (print_shape style) (print_suffix style) (print_choice style) print_expr (print_link style) (choice a b)

pub link_written : (style : Brackets) → (o : BinaryOperator) (b : Expr) → printed_link style (link o b) ≡ print_link style (record { operator = o; operand = printed style b })
link_written style o b = fold_out-Link Printed Marks Marks Printed PrintedLink (print_shape style) (print_suffix style) (print_choice style) print_expr (print_link style) (link o b)

pub suffix_written : (style : Brackets) → (x : Suffix) → suffix_marks style x ≡ print_suffix style (map-Suffix Shape Suffix Choice Expr Link Printed Marks Marks Printed PrintedLink (printed_shape style) (suffix_marks style) (choice_marks style) (printed style) (printed_link style) (out-Suffix x))
suffix_written style x = fold_out-Suffix Printed Marks Marks Printed PrintedLink (print_shape style) (print_suffix style) (print_choice style) print_expr (print_link style) x

pub printed_at : (style : Brackets) → (l : Shape-F Shape Suffix Choice Expr Link) (o : Span) → printed style (expr (shape_at l) o) ≡ print_shape style (shape_layer style l)
printed_at style l o = fold_out-Expr Printed Marks Marks Printed PrintedLink (print_shape style) (print_suffix style) (print_choice style) print_expr (print_link style) (expr (shape_at l) o)
    ∙ ap (printed_shape style) (sym (rolls_at l)) ∙ fold-roll-Shape Printed Marks Marks Printed PrintedLink (print_shape style) (print_suffix style) (print_choice style) print_expr (print_link style) l

abbrev pub suffix_layer : (style : Brackets) → Suffix-F Shape Suffix Choice Expr Link → Suffix-F Printed Marks Marks Printed PrintedLink
suffix_layer style = map-Suffix Shape Suffix Choice Expr Link Printed Marks Marks Printed PrintedLink (printed_shape style) (suffix_marks style) (choice_marks style) (printed style) (printed_link style)

pub suffix_written_at : (style : Brackets) → (l : Suffix-F Shape Suffix Choice Expr Link) → suffix_marks style (suffix_at l) ≡ print_suffix style (suffix_layer style l)
suffix_written_at style l = suffix_written style (suffix_at l) ∙ ap (λ x. print_suffix style (suffix_layer style x)) (suffix_out_at l)

-- 2. Without places

abbrev place_free : Expr-F Shape Suffix Choice Expr Link → Expr
place_free e = roll-Expr (record { shape = e.shape; span = nowhere })

abbrev pub bare_of_shape : Shape → Shape
bare_of_shape = fold-Shape Shape Suffix Choice Expr Link bare_shape bare_suffix roll-Choice place_free roll-Link

abbrev pub bare_of_suffix : Suffix → Suffix
bare_of_suffix = fold-Suffix Shape Suffix Choice Expr Link bare_shape bare_suffix roll-Choice place_free roll-Link

abbrev pub bare_of_choice : Choice → Choice
bare_of_choice = fold-Choice Shape Suffix Choice Expr Link bare_shape bare_suffix roll-Choice place_free roll-Link

abbrev pub bare_of_link : Link → Link
bare_of_link = fold-Link Shape Suffix Choice Expr Link bare_shape bare_suffix roll-Choice place_free roll-Link

abbrev pub bare_layer : Shape-F Shape Suffix Choice Expr Link → Shape-F Shape Suffix Choice Expr Link
bare_layer = map-Shape Shape Suffix Choice Expr Link Shape Suffix Choice Expr Link bare_of_shape bare_of_suffix bare_of_choice bare_expr bare_of_link

pub bare_out : (e : Expr) → bare_expr e ≡ expr (bare_of_shape (shape_of e)) nowhere
bare_out e = fold_out-Expr Shape Suffix Choice Expr Link bare_shape bare_suffix roll-Choice place_free roll-Link e

bare_shape_out : (s : Shape) → bare_of_shape s ≡ bare_shape (bare_layer (out-Shape s))
bare_shape_out s = fold_out-Shape Shape Suffix Choice Expr Link bare_shape bare_suffix roll-Choice place_free roll-Link s

pub shape_rolled : (l : Shape-F Shape Suffix Choice Expr Link) → bare_of_shape (roll-Shape l) ≡ bare_shape (bare_layer l)
shape_rolled l = fold-roll-Shape Shape Suffix Choice Expr Link bare_shape bare_suffix roll-Choice place_free roll-Link l

pub choice_bare : (a b : Expr) → bare_of_choice (choice a b) ≡ choice (bare_expr a) (bare_expr b)
choice_bare a b = fold_out-Choice Shape Suffix Choice Expr Link bare_shape bare_suffix roll-Choice place_free roll-Link (choice a b)

pub link_bare : (o : BinaryOperator) (b : Expr) → bare_of_link (link o b) ≡ link o (bare_expr b)
link_bare o b = fold_out-Link Shape Suffix Choice Expr Link bare_shape bare_suffix roll-Choice place_free roll-Link (link o b)

pub suffix_bare : (x : Suffix) → bare_of_suffix x ≡ bare_suffix (map-Suffix Shape Suffix Choice Expr Link Shape Suffix Choice Expr Link bare_of_shape bare_of_suffix bare_of_choice bare_expr bare_of_link (out-Suffix x))
suffix_bare x = fold_out-Suffix Shape Suffix Choice Expr Link bare_shape bare_suffix roll-Choice place_free roll-Link x

pub bare_at : (l : Shape-F Shape Suffix Choice Expr Link) (o : Span) → bare_expr (expr (shape_at l) o) ≡ expr (bare_shape (bare_layer l)) nowhere
bare_at l o = bare_out (expr (shape_at l) o) ∙ ap (λ x. expr (bare_of_shape x) nowhere) (sym (rolls_at l))
    ∙ ap (λ x. expr x nowhere) (fold-roll-Shape Shape Suffix Choice Expr Link bare_shape bare_suffix roll-Choice place_free roll-Link l)

abbrev pub bare_suffix_layer : Suffix-F Shape Suffix Choice Expr Link → Suffix-F Shape Suffix Choice Expr Link
bare_suffix_layer = map-Suffix Shape Suffix Choice Expr Link Shape Suffix Choice Expr Link bare_of_shape bare_of_suffix bare_of_choice bare_expr bare_of_link

pub suffix_rolled : (l : Suffix-F Shape Suffix Choice Expr Link) → bare_of_suffix (roll-Suffix l) ≡ bare_suffix (bare_suffix_layer l)
suffix_rolled l = fold-roll-Suffix Shape Suffix Choice Expr Link bare_shape bare_suffix roll-Choice place_free roll-Link l

pub suffix_bare_at : (l : Suffix-F Shape Suffix Choice Expr Link) → bare_of_suffix (suffix_at l) ≡ bare_suffix (bare_suffix_layer l)
suffix_bare_at l = suffix_bare (suffix_at l) ∙ ap (λ x. bare_suffix (bare_suffix_layer x)) (suffix_out_at l)

-- 3. Places of trees

pub no_span : (e : Expr) → span_of (bare_expr e) ≡ nowhere
no_span e = ap span_of (bare_out e)

pub whole_bare : (e : Expr) → expr (shape_of (bare_expr e)) nowhere ≡ bare_expr e
whole_bare e = ap (λ x. expr (shape_of x) nowhere) (bare_out e) ∙ sym (bare_out e)

link_span : (l : Link) → span_of (out-Link (bare_of_link l)).operand ≡ nowhere
link_span l = ap (λ x. span_of (out-Link x).operand) (fold_out-Link Shape Suffix Choice Expr Link bare_shape bare_suffix roll-Choice place_free roll-Link l) ∙ no_span (out-Link l).operand

pub last_span : (o : Span) → o ≡ nowhere → (ls : List Link) → last_operand o (map bare_of_link ls) ≡ nowhere
last_span o h [] = h
last_span o h (l ∷ ls) = last_span (span_of (out-Link (bare_of_link l)).operand) (link_span l) ls

suffix_place : (x : Suffix-F Shape Suffix Choice Expr Link) → suffix_span (bare_suffix (bare_suffix_layer x)) ≡ nowhere
unfolding out-Suffix denote.Hole.Carrier.out
suffix_place (Suffix-F.Field x) = refl
suffix_place (Suffix-F.Arrow x) = refl
suffix_place (Suffix-F.Index i s) = refl

pub last_place : (x : Suffix) (xs : List Suffix) → last_suffix (bare_of_suffix x) (map bare_of_suffix xs) ≡ nowhere
last_place x [] = ap suffix_span (suffix_bare x) ∙ suffix_place (out-Suffix x)
last_place x (y ∷ xs) = last_place y xs

pub choice_span : (c : Choice) → span_of (out-Choice (bare_of_choice c)).test ≡ nowhere
choice_span c = ap (λ x. span_of (out-Choice x).test) (fold_out-Choice Shape Suffix Choice Expr Link bare_shape bare_suffix roll-Choice place_free roll-Link c) ∙ no_span (out-Choice c).test

-- brackets change nothing that is written
pub printed_span : (style : Brackets) → (o : Span) (e : Expr) → printed style e ≡ printed style (bracketed o e)
printed_span style o e = fold_out-Expr Printed Marks Marks Printed PrintedLink (print_shape style) (print_suffix style) (print_choice style) print_expr (print_link style) e
    ∙ sym (fold_out-Expr Printed Marks Marks Printed PrintedLink (print_shape style) (print_suffix style) (print_choice style) print_expr (print_link style) (bracketed o e))

pub bare_span : (o : Span) (e : Expr) → bare_expr e ≡ bare_expr (bracketed o e)
bare_span o e = bare_out e ∙ sym (bare_out (bracketed o e))

-- 4. What the grammar asks of them

deref_bare : (p : Prefix) → is_deref (bare_operator p) ≡ is_deref p
deref_bare prefix.Plus = refl
deref_bare prefix.Minus = refl
deref_bare prefix.Not = refl
deref_bare prefix.Complement = refl
deref_bare prefix.Deref = refl
deref_bare prefix.AddressOf = refl
deref_bare (prefix.Cast c) = refl

pub begins_bare : (ps : List PrefixOperator) → begins_with_deref (map bare_prefix ps) ≡ begins_with_deref ps
begins_bare [] = refl
begins_bare (p ∷ ps) = deref_bare p.prefix

layer_bare : (s : Shape-F Shape Suffix Choice Expr Link) → is_place_layer (out-Shape (bare_shape (bare_layer s))) ≡ is_place_layer s
unfolding out-Shape denote.Hole.Carrier.out
layer_bare (Shape-F.Number n) = refl
layer_bare (Shape-F.Character b) = refl
layer_bare (Shape-F.Text bytes) = refl
layer_bare (Shape-F.Constant c) = refl
layer_bare (Shape-F.Variable x) = refl
layer_bare (Shape-F.Function x) = refl
layer_bare (Shape-F.Member x) = refl
layer_bare (Shape-F.SizeOf c s) = refl
layer_bare (Shape-F.Offset c x s) = refl
layer_bare (Shape-F.Prefix ps a) = begins_bare ps
layer_bare (Shape-F.Postfix a xs) = refl
layer_bare (Shape-F.Chain a ls) = refl
layer_bare (Shape-F.Conditional cs e) = refl

pub place_bare : (e : Expr) → is_place (bare_expr e) ≡ is_place e
place_bare e = ap is_place (bare_out e ∙ ap (λ x. expr x nowhere) (bare_shape_out (shape_of e))) ∙ layer_bare (out-Shape (shape_of e))

dot_layer : (x : Suffix-F Shape Suffix Choice Expr Link) → is_dot_layer (out-Suffix (bare_suffix (map-Suffix Shape Suffix Choice Expr Link Shape Suffix Choice Expr Link bare_of_shape bare_of_suffix bare_of_choice bare_expr bare_of_link x))) ≡ is_dot_layer x
unfolding out-Suffix denote.Hole.Carrier.out
dot_layer (Suffix-F.Field x) = refl
dot_layer (Suffix-F.Arrow x) = refl
dot_layer (Suffix-F.Index i s) = refl

pub dot_bare : (x : Suffix) → is_dot_layer (out-Suffix (bare_of_suffix x)) ≡ is_dot_layer (out-Suffix x)
dot_bare x = ap (λ y. is_dot_layer (out-Suffix y)) (suffix_bare x) ∙ dot_layer (out-Suffix x)

-- 5. What is written, by its parts

pub shape_written_at : (style : Brackets) → (l : Shape-F Shape Suffix Choice Expr Link) → printed_shape style (shape_at l) ≡ print_shape style (shape_layer style l)
shape_written_at style l = ap (printed_shape style) (sym (rolls_at l)) ∙ fold-roll-Shape Printed Marks Marks Printed PrintedLink (print_shape style) (print_suffix style) (print_choice style) print_expr (print_link style) l

pub value_written : (style : Brackets) → (e : Expr) → printed style e ≡ printed_shape style (out-Expr e).shape
value_written style e = fold_out-Expr Printed Marks Marks Printed PrintedLink (print_shape style) (print_suffix style) (print_choice style) print_expr (print_link style) e

pub placed_in_brackets : (style : Brackets) → (p : Place) (e : Expr) → stands style p (printed_shape style (out-Expr e).shape).grade ≡ false → in_brackets (printed_shape style (out-Expr e).shape).marks ≡ placed style p (printed style e)
placed_in_brackets style p e h = ap (λ b. cond b (printed_shape style (out-Expr e).shape).marks (in_brackets (printed_shape style (out-Expr e).shape).marks)) (sym h) ∙ ap (placed style p) (sym (value_written style e))

pub placed_bare : (style : Brackets) → (p : Place) (e : Expr) → stands style p (printed_shape style (out-Expr e).shape).grade ≡ true → (printed_shape style (out-Expr e).shape).marks ≡ placed style p (printed style e)
placed_bare style p e h = ap (λ b. cond b (printed_shape style (out-Expr e).shape).marks (in_brackets (printed_shape style (out-Expr e).shape).marks)) (sym h) ∙ ap (placed style p) (sym (value_written style e))

pub choice_marks_out : (style : Brackets) → (c : Choice) → choice_marks style c ≡ print_choice style (record { test = printed style (out-Choice c).test; yes = printed style (out-Choice c).yes })
choice_marks_out style c = fold_out-Choice Printed Marks Marks Printed PrintedLink (print_shape style) (print_suffix style) (print_choice style) print_expr (print_link style) c
