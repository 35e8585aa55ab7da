-- The code of the parts of values.
use Rattle.c_tree.specs.declared.code.Shape.{Shape}
use Rattle.c_tree.specs.declared.code.Suffix.{Suffix}
use Rattle.c_tree.specs.declared.code.Choice.{Choice}
use Rattle.c_tree.specs.declared.code.Link.{Link}
use Rattle.c_tree.specs.declared.code.Shape.TheFolds.{fold-Shape, fold-Suffix, fold-Choice, fold-Link}
use Rattle.c_code.specs.Resolved.{Resolution, Part, PartSuffix, PartChoice, PartLink, resolve_shape, resolve_suffix, resolve_choice, resolve_expr, resolve_link}

-- a shape
abbrev pub resolved_shape : Shape → Resolution
resolved_shape = fold-Shape Resolution PartSuffix PartChoice Part PartLink resolve_shape resolve_suffix resolve_choice resolve_expr resolve_link

-- a suffix
abbrev pub resolved_suffix : Suffix → PartSuffix
resolved_suffix = fold-Suffix Resolution PartSuffix PartChoice Part PartLink resolve_shape resolve_suffix resolve_choice resolve_expr resolve_link

-- a choice
abbrev pub resolved_choice : Choice → PartChoice
resolved_choice = fold-Choice Resolution PartSuffix PartChoice Part PartLink resolve_shape resolve_suffix resolve_choice resolve_expr resolve_link

-- an operator and its operand
abbrev pub resolved_link : Link → PartLink
resolved_link = fold-Link Resolution PartSuffix PartChoice Part PartLink resolve_shape resolve_suffix resolve_choice resolve_expr resolve_link
