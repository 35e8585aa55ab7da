-- What is kept of a value tells its operand.
use Rattle.std.proofs.Common.{◌≡◌, refl, ap, Option, Some, None}
use Rattle.std.specs.Option.{option_map}
use Rattle.c_lexer.specs.declared.token.Constant.{Constant}
use Rattle.c_lexer.specs.declared.token.Constant.TheVariants as constant
use Rattle.c_tree.specs.Library as rule
use Rattle.c_tree.specs.Env.{Env}
use Rattle.c_tree.specs.Checks.{Known, operand_if, operand_of, is_null_literal}
use Rattle.c_value_checker.specs.Judgements.{is_null_told, operand_told, judged, literal_told}

null_word : (c : Constant) → is_null_told (option_map literal_told (Some (rule.Word c))) ≡ is_null_literal (Some (rule.Word c))
null_word constant.Null = refl
null_word c = refl

pub null_kept : (l : Option rule.Literal) → is_null_told (option_map literal_told l) ≡ is_null_literal l
null_kept None = refl
null_kept (Some (rule.Figure s n)) = refl
null_kept (Some (rule.Word c)) = null_word c

pub operand_kept : (env : Env) (a : Known) → operand_told (judged env a.value) ≡ operand_of env a
operand_kept env a = ap (operand_if (a.value.kind env)) (null_kept a.value.literal)
