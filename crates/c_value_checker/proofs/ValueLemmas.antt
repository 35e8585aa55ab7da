-- What is known of values, one level after another.
use Rattle.std.proofs.Common.{◌≡◌, ◌∙◌, refl, sym, ap}
use Rattle.c_tree.specs.declared.code.Expr.{Expr, out-Expr}
use Rattle.c_tree.specs.declared.code.Shape.{Shape, roll-Shape}
use Rattle.c_tree.specs.declared.code.Shape.TheVariants as shape
use Rattle.c_tree.specs.declared.code.Suffix.{Suffix, out-Suffix}
use Rattle.c_tree.specs.declared.code.Suffix.TheVariants as suffix
use Rattle.c_tree.specs.declared.code.Choice.{Choice, out-Choice}
use Rattle.c_tree.specs.declared.code.Link.{Link, out-Link}
use Rattle.c_tree.specs.declared.code.Shape.TheOpen.{Shape-F, Suffix-F}
use Rattle.c_tree.specs.declared.code.Shape.TheFolds.{fold-roll-Shape, fold_out-Expr, fold_out-Suffix, fold_out-Choice, fold_out-Link, map-Shape, map-Suffix}
use Rattle.c_tree.specs.Checks.{Checked, Known, KnownSuffix, KnownChoice, KnownLink, check_shape, check_suffix, checked}
use Rattle.c_value_checker.specs.Judgements.{checked_shape, checked_suffix, checked_choice, checked_link}

-- 1. One level

abbrev pub shape_layer : Shape-F Shape Suffix Choice Expr Link → Shape-F Checked KnownSuffix KnownChoice Known KnownLink
shape_layer = map-Shape Shape Suffix Choice Expr Link Checked KnownSuffix KnownChoice Known KnownLink checked_shape checked_suffix checked_choice checked checked_link

-- a value from one level of it
abbrev pub shape_at : Shape-F Shape Suffix Choice Expr Link → Shape
shape_at (Shape-F.Number n) = shape.Number n
shape_at (Shape-F.Character b) = shape.Character b
shape_at (Shape-F.Text z) = shape.Text z
shape_at (Shape-F.Constant c) = shape.Constant c
shape_at (Shape-F.Variable x) = shape.Variable x
shape_at (Shape-F.Function x) = shape.Function x
shape_at (Shape-F.Member x) = shape.Member x
shape_at (Shape-F.SizeOf c o) = shape.SizeOf c o
shape_at (Shape-F.Offset c x o) = shape.Offset c x o
shape_at (Shape-F.Prefix ps a) = shape.Prefix ps a
shape_at (Shape-F.Postfix a xs) = shape.Postfix a xs
shape_at (Shape-F.Chain a ls) = shape.Chain a ls
shape_at (Shape-F.Conditional cs e) = shape.Conditional cs e

pub rolls_at : (l : Shape-F Shape Suffix Choice Expr Link) → roll-Shape l ≡ shape_at l
rolls_at (Shape-F.Number n) = shape.rolls-Number n
rolls_at (Shape-F.Character b) = shape.rolls-Character b
rolls_at (Shape-F.Text z) = shape.rolls-Text z
rolls_at (Shape-F.Constant c) = shape.rolls-Constant c
rolls_at (Shape-F.Variable x) = shape.rolls-Variable x
rolls_at (Shape-F.Function x) = shape.rolls-Function x
rolls_at (Shape-F.Member x) = shape.rolls-Member x
rolls_at (Shape-F.SizeOf c o) = shape.rolls-SizeOf c o
rolls_at (Shape-F.Offset c x o) = shape.rolls-Offset c x o
rolls_at (Shape-F.Prefix ps a) = shape.rolls-Prefix ps a
rolls_at (Shape-F.Postfix a xs) = shape.rolls-Postfix a xs
rolls_at (Shape-F.Chain a ls) = shape.rolls-Chain a ls
rolls_at (Shape-F.Conditional cs e) = shape.rolls-Conditional cs e

pub shape_known : (l : Shape-F Shape Suffix Choice Expr Link) → checked_shape (shape_at l) ≡ check_shape (shape_layer l)
shape_known l = ap checked_shape (sym (rolls_at l)) ∙ fold-roll-Shape Checked KnownSuffix KnownChoice Known KnownLink check_shape check_suffix (λ c. record { test = c.test; yes = c.yes }) (λ e. record { span = e.span; value = e.shape }) (λ l. record { operator = l.operator; operand = l.operand }) l

pub value_known : (e : Expr) → checked e ≡ record { span = (out-Expr e).span; value = checked_shape (out-Expr e).shape }
value_known e = fold_out-Expr Checked KnownSuffix KnownChoice Known KnownLink check_shape check_suffix (λ c. record { test = c.test; yes = c.yes }) (λ e. record { span = e.span; value = e.shape }) (λ l. record { operator = l.operator; operand = l.operand }) e

pub link_known : (l : Link) → checked_link l ≡ record { operator = (out-Link l).operator; operand = checked (out-Link l).operand }
link_known l = fold_out-Link Checked KnownSuffix KnownChoice Known KnownLink check_shape check_suffix (λ c. record { test = c.test; yes = c.yes }) (λ e. record { span = e.span; value = e.shape }) (λ l. record { operator = l.operator; operand = l.operand }) l

pub choice_known : (c : Choice) → checked_choice c ≡ record { test = checked (out-Choice c).test; yes = checked (out-Choice c).yes }
choice_known c = fold_out-Choice Checked KnownSuffix KnownChoice Known KnownLink check_shape check_suffix (λ c. record { test = c.test; yes = c.yes }) (λ e. record { span = e.span; value = e.shape }) (λ l. record { operator = l.operator; operand = l.operand }) c

abbrev pub suffix_layer : Suffix-F Shape Suffix Choice Expr Link → Suffix-F Checked KnownSuffix KnownChoice Known KnownLink
suffix_layer = map-Suffix Shape Suffix Choice Expr Link Checked KnownSuffix KnownChoice Known KnownLink checked_shape checked_suffix checked_choice checked checked_link

abbrev pub suffix_at : Suffix-F Shape Suffix Choice Expr Link → Suffix
suffix_at (Suffix-F.Field x) = suffix.Field x
suffix_at (Suffix-F.Arrow x) = suffix.Arrow x
suffix_at (Suffix-F.Index i o) = suffix.Index i o

pub suffix_out_at : (l : Suffix-F Shape Suffix Choice Expr Link) → out-Suffix (suffix_at l) ≡ l
unfolding out-Suffix denote.Hole.Carrier.out
suffix_out_at (Suffix-F.Field x) = refl
suffix_out_at (Suffix-F.Arrow x) = refl
suffix_out_at (Suffix-F.Index i o) = refl

pub suffix_known : (l : Suffix-F Shape Suffix Choice Expr Link) → checked_suffix (suffix_at l) ≡ check_suffix (suffix_layer l)
suffix_known l = fold_out-Suffix Checked KnownSuffix KnownChoice Known KnownLink check_shape check_suffix (λ c. record { test = c.test; yes = c.yes }) (λ e. record { span = e.span; value = e.shape }) (λ l. record { operator = l.operator; operand = l.operand }) (suffix_at l) ∙ ap (λ x. check_suffix (suffix_layer x)) (suffix_out_at l)
