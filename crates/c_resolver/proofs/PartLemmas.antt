-- The code of values, one level after another.
use Rattle.std.proofs.Common.{◌≡◌, ◌∙◌, sym, ap}
use Rattle.c_tree.specs.declared.code.Expr.{Expr, out-Expr}
use Rattle.c_tree.specs.declared.code.Shape.{Shape}
use Rattle.c_tree.specs.declared.code.Suffix.{Suffix}
use Rattle.c_tree.specs.declared.code.Choice.{Choice, out-Choice}
use Rattle.c_tree.specs.declared.code.Link.{Link, out-Link}
use Rattle.c_tree.specs.declared.code.Shape.TheOpen.{Shape-F, Suffix-F}
use Rattle.c_tree.specs.declared.code.Shape.TheFolds.{fold-roll-Shape, fold_out-Expr, fold_out-Suffix, fold_out-Choice, fold_out-Link, map-Shape, map-Suffix}
use Rattle.c_value_checker.proofs.ValueLemmas.{shape_at, rolls_at, suffix_at, suffix_out_at}
use Rattle.c_code.specs.Resolved.{
  Resolution,
  Part,
  PartSuffix,
  PartChoice,
  PartLink,
  resolve_shape,
  resolve_suffix,
  resolve_choice,
  resolve_expr,
  resolve_link,
  resolved,
}
use Rattle.c_resolver.specs.Parts.{resolved_shape, resolved_suffix, resolved_choice, resolved_link}

abbrev pub shape_layer : Shape-F Shape Suffix Choice Expr Link → Shape-F Resolution PartSuffix PartChoice Part PartLink
shape_layer = map-Shape Shape Suffix Choice Expr Link Resolution PartSuffix PartChoice Part PartLink resolved_shape resolved_suffix resolved_choice resolved
    resolved_link

abbrev pub suffix_layer : Suffix-F Shape Suffix Choice Expr Link → Suffix-F Resolution PartSuffix PartChoice Part PartLink
suffix_layer = map-Suffix Shape Suffix Choice Expr Link Resolution PartSuffix PartChoice Part PartLink resolved_shape resolved_suffix resolved_choice
    resolved resolved_link

pub shape_resolved : (l : Shape-F Shape Suffix Choice Expr Link) → resolved_shape (shape_at l) ≡ resolve_shape (shape_layer l)
shape_resolved l = ap resolved_shape (sym (rolls_at l)) ∙ fold-roll-Shape Resolution PartSuffix PartChoice Part PartLink resolve_shape resolve_suffix
    resolve_choice resolve_expr resolve_link l

pub value_resolved : (e : Expr) → resolved e ≡ record {
  known = record { span = (out-Expr e).span; value = (resolved_shape (out-Expr e).shape).checked };
  value = λ b. (resolved_shape (out-Expr e).shape).value b (out-Expr e).span.start;
  place = (resolved_shape (out-Expr e).shape).place;
}
value_resolved e = fold_out-Expr Resolution PartSuffix PartChoice Part PartLink resolve_shape resolve_suffix resolve_choice resolve_expr resolve_link e

pub link_resolved : (l : Link) → resolved_link l ≡ record { operator = (out-Link l).operator; operand = resolved (out-Link l).operand }
link_resolved l = fold_out-Link Resolution PartSuffix PartChoice Part PartLink resolve_shape resolve_suffix resolve_choice resolve_expr resolve_link l

pub choice_resolved : (c : Choice) → resolved_choice c ≡ record { test = resolved (out-Choice c).test; yes = resolved (out-Choice c).yes }
choice_resolved c = fold_out-Choice Resolution PartSuffix PartChoice Part PartLink resolve_shape resolve_suffix resolve_choice resolve_expr resolve_link c

pub suffix_resolved : (l : Suffix-F Shape Suffix Choice Expr Link) → resolved_suffix (suffix_at l) ≡ resolve_suffix (suffix_layer l)
suffix_resolved l = fold_out-Suffix Resolution PartSuffix PartChoice Part PartLink resolve_shape resolve_suffix resolve_choice resolve_expr resolve_link
    (suffix_at l) ∙ ap (λ x. resolve_suffix (suffix_layer x)) (suffix_out_at l)
