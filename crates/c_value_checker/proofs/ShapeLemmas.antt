-- Values with values in them, by what is kept of those.
use Rattle.std.proofs.Common.{◌≡◌, ◌∙◌, sym, ap, List, ◌++◌, map, Option, None}
use Rattle.c_tree.specs.declared.operators.PrefixOperator.{PrefixOperator}
use Rattle.c_tree.specs.declared.code.Expr.{Expr, out-Expr}
use Rattle.c_tree.specs.declared.code.Shape.{Shape}
use Rattle.c_tree.specs.declared.code.Shape.TheVariants as shape
use Rattle.c_tree.specs.declared.code.Shape.TheOpen.{Shape-F}
use Rattle.c_tree.specs.declared.code.Suffix.{Suffix}
use Rattle.c_tree.specs.declared.code.Choice.{Choice}
use Rattle.c_tree.specs.declared.code.Link.{Link}
use Rattle.c_tree.specs.declared.kinds.Kind.{Kind}
use Rattle.c_tree.specs.declared.kinds.Operand.{Operand}
use Rattle.c_tree.specs.declared.kinds.Fault.{Fault}
use Rattle.c_tree.specs.Env.{Env}
use Rattle.c_tree.specs.Checks.{Known, checked, chain_faults, chain_kind, operand_kind, operand_of, prefix_faults, prefix_kind, suffix_faults, suffix_kind}
use Rattle.c_value_checker.specs.declared.faults.Findings.{Findings}
use Rattle.c_value_checker.specs.declared.judged.Judged.{Judged}
use Rattle.c_value_checker.specs.declared.judged.JudgedChoice.{JudgedChoice}
use Rattle.c_value_checker.specs.Choices.{all_chosen, chosen_faults}
use Rattle.c_value_checker.specs.Judgements.{checked_choice, checked_link, checked_shape, checked_suffix, choice_told, judged, operand_told, part_faults}
use Rattle.c_value_checker.specs.Noted.{noted}
use Rattle.c_value_checker.specs.Prefixes.{signed_told}
use Rattle.c_value_checker.proofs.ChoiceLemmas.{choices_apart, choices_operand}
use Rattle.c_value_checker.proofs.NotedLemmas.{noted_both}
use Rattle.c_value_checker.proofs.OperandLemmas.{operand_kept}
use Rattle.c_value_checker.proofs.PrefixLemmas.{signed_literals}
use Rattle.c_value_checker.proofs.ValueLemmas.{shape_known, value_known}

-- where a value stands
pub span_known : (a : Expr) → (checked a).span ≡ (out-Expr a).span
span_known a = ap (λ (k : Known). k.span) (value_known a)

-- what is kept of an operand
pub operand_is : (env : Env) (a b : Expr) (found : Judged) (o : Option Operand) → b ≡ a → found ≡ judged env (checked b).value → o ≡ operand_told found → o ≡ operand_of env (checked a)
operand_is env a b found o ea ef eo = eo ∙ ap operand_told ef ∙ operand_kept env (checked b) ∙ ap (λ x. operand_of env (checked x)) ea

kind_is : (env : Env) (a b : Expr) (found : Judged) → b ≡ a → found ≡ judged env (checked b).value → found.kind ≡ (checked a).value.kind env
kind_is env a b found ea ef = ap (λ (j : Judged). j.kind) ef ∙ ap (λ x. (checked x).value.kind env) ea

-- faults of a value, and then others
two : (env : Env) (f g h : Findings) (a b : Expr) (fs : List Fault) → b ≡ a → g ≡ noted f ((checked b).value.faults env) → h ≡ noted g fs → h ≡ noted f ((checked a).value.faults env ++ fs)
two env f g h a b fs ea eg eh = noted_both f g h ((checked a).value.faults env) fs (eg ∙ ap (λ x. noted f ((checked x).value.faults env)) ea) eh

module _ (env : Env) (s : Shape) where
  pub prefix_value : (ps qs : List PrefixOperator) (a b : Expr) (found j : Judged) → s ≡ shape.Prefix ps a → qs ≡ ps → b ≡ a → found ≡ judged env (checked b).value
      → j ≡ record { literal = signed_told qs found.literal; kind = prefix_kind env qs found.kind } → j ≡ judged env (checked_shape s)
  prefix_value ps qs a b found j is ep ea ef ej =
      let e : found ≡ judged env (checked a).value = ef ∙ ap (λ x. judged env (checked x).value) ea in
      ej ∙ (λ i. record { literal = signed_told (ep i) (e i).literal; kind = prefix_kind env (ep i) (e i).kind })
      ∙ (λ i. record { literal = signed_literals ps (checked a).value.literal i; kind = prefix_kind env ps ((checked a).value.kind env) })
      ∙ sym (ap (λ z. judged env (checked_shape z)) is ∙ ap (judged env) (shape_known (Shape-F.Prefix ps a)))

  pub prefix_noted : (ps qs : List PrefixOperator) (a b d : Expr) (found : Judged) (f g h : Findings) → s ≡ shape.Prefix ps a → qs ≡ ps → b ≡ a → d ≡ a → found ≡ judged env (checked b).value
      → g ≡ noted f ((checked b).value.faults env) → h ≡ noted g (prefix_faults env qs found.kind (out-Expr d).span) → h ≡ noted f ((checked_shape s).faults env)
  prefix_noted ps qs a b d found f g h is ep ea ed ef eg eh =
      two env f g h a b (prefix_faults env ps ((checked a).value.kind env) (checked a).span) ea eg
      (eh ∙ (λ i. noted g (prefix_faults env (ep i) (kind_is env a b found ea ef i) ((ap (λ x. (out-Expr x).span) ed ∙ sym (span_known a)) i))))
      ∙ ap (noted f) (sym (ap (λ z. (checked_shape z).faults env) is ∙ ap (λ z. z.faults env) (shape_known (Shape-F.Prefix ps a))))

  pub suffix_value : (xs ys : List Suffix) (a b : Expr) (found j : Judged) → s ≡ shape.Postfix a xs → ys ≡ xs → b ≡ a → found ≡ judged env (checked b).value
      → j ≡ record { literal = None; kind = suffix_kind env found.kind (map checked_suffix ys) } → j ≡ judged env (checked_shape s)
  suffix_value xs ys a b found j is ex ea ef ej =
      ej ∙ (λ i. record { literal = None; kind = suffix_kind env (kind_is env a b found ea ef i) (map checked_suffix (ex i)) })
      ∙ sym (ap (λ z. judged env (checked_shape z)) is ∙ ap (judged env) (shape_known (Shape-F.Postfix a xs)))

  pub suffix_noted : (xs ys : List Suffix) (a b d : Expr) (found : Judged) (f g h : Findings) → s ≡ shape.Postfix a xs → ys ≡ xs → b ≡ a → d ≡ a → found ≡ judged env (checked b).value
      → g ≡ noted f ((checked b).value.faults env) → h ≡ noted g (suffix_faults env (out-Expr d).span found.kind (map checked_suffix ys)) → h ≡ noted f ((checked_shape s).faults env)
  suffix_noted xs ys a b d found f g h is ex ea ed ef eg eh =
      two env f g h a b (suffix_faults env (checked a).span ((checked a).value.kind env) (map checked_suffix xs)) ea eg
      (eh ∙ (λ i. noted g (suffix_faults env ((ap (λ x. (out-Expr x).span) ed ∙ sym (span_known a)) i) (kind_is env a b found ea ef i) (map checked_suffix (ex i)))))
      ∙ ap (noted f) (sym (ap (λ z. (checked_shape z).faults env) is ∙ ap (λ z. z.faults env) (shape_known (Shape-F.Postfix a xs))))

  pub chain_value : (ls ks : List Link) (a b : Expr) (found j : Judged) (o : Option Operand) → s ≡ shape.Chain a ls → ks ≡ ls → b ≡ a → found ≡ judged env (checked b).value → o ≡ operand_told found
      → j ≡ record { literal = None; kind = operand_kind (chain_kind env o (map checked_link ks)) } → j ≡ judged env (checked_shape s)
  chain_value ls ks a b found j o is el ea ef eo ej =
      ej ∙ (λ i. record { literal = None; kind = operand_kind (chain_kind env (operand_is env a b found o ea ef eo i) (map checked_link (el i))) })
      ∙ sym (ap (λ z. judged env (checked_shape z)) is ∙ ap (judged env) (shape_known (Shape-F.Chain a ls)))

  pub chain_noted : (ls ks : List Link) (a b d : Expr) (found : Judged) (o : Option Operand) (f g h : Findings) → s ≡ shape.Chain a ls → ks ≡ ls → b ≡ a → d ≡ a → found ≡ judged env (checked b).value → o ≡ operand_told found
      → g ≡ noted f ((checked b).value.faults env) → h ≡ noted g (chain_faults env (out-Expr d).span o (map checked_link ks)) → h ≡ noted f ((checked_shape s).faults env)
  chain_noted ls ks a b d found o f g h is el ea ed ef eo eg eh =
      two env f g h a b (chain_faults env (checked a).span (operand_of env (checked a)) (map checked_link ls)) ea eg
      (eh ∙ (λ i. noted g (chain_faults env ((ap (λ x. (out-Expr x).span) ed ∙ sym (span_known a)) i) (operand_is env a b found o ea ef eo i) (map checked_link (el i)))))
      ∙ ap (noted f) (sym (ap (λ z. (checked_shape z).faults env) is ∙ ap (λ z. z.faults env) (shape_known (Shape-F.Chain a ls))))

  pub choice_value : (cs ds : List Choice) (a b : Expr) (js : List JudgedChoice) (found : Judged) (o r : Option Operand) (k : Option Kind) → s ≡ shape.Conditional cs a → ds ≡ cs → b ≡ a
      → js ≡ map (choice_told env) (map checked_choice ds) → found ≡ judged env (checked b).value → o ≡ operand_told found → r ≡ all_chosen js o → k ≡ operand_kind r
      → record { literal = None; kind = k } ≡ judged env (checked_shape s)
  choice_value cs ds a b js found o r k is ec ea ejs ef eo er ek =
      (λ i. record {
        literal = None;
        kind = (ek ∙ ap operand_kind (er
            ∙ (λ n. all_chosen ((ejs ∙ ap (λ z. map (choice_told env) (map checked_choice z)) ec) n) (operand_is env a b found o ea ef eo n))
            ∙ choices_operand env (map checked_choice cs) (operand_of env (checked a)))) i;
      })
      ∙ sym (ap (λ z. judged env (checked_shape z)) is ∙ ap (judged env) (shape_known (Shape-F.Conditional cs a)))

  pub choice_noted : (cs ds : List Choice) (a b d : Expr) (js : List JudgedChoice) (found : Judged) (o : Option Operand) (f g h l : Findings) → s ≡ shape.Conditional cs a → ds ≡ cs → b ≡ a → d ≡ a
      → js ≡ map (choice_told env) (map checked_choice ds) → g ≡ noted f (part_faults env (map checked_choice ds)) → found ≡ judged env (checked b).value → h ≡ noted g ((checked b).value.faults env) → o ≡ operand_told found
      → l ≡ noted h (chosen_faults js o (out-Expr d).span) → l ≡ noted f ((checked_shape s).faults env)
  choice_noted cs ds a b d js found o f g h l is ec ea ed ejs eg ef eh eo el =
      noted_both f h l (part_faults env (map checked_choice cs) ++ (checked a).value.faults env) (chosen_faults (map (choice_told env) (map checked_choice cs)) (operand_of env (checked a)) (checked a).span)
      (noted_both f g h (part_faults env (map checked_choice cs)) ((checked a).value.faults env) (eg ∙ ap (λ z. noted f (part_faults env (map checked_choice z))) ec) (eh ∙ ap (λ x. noted g ((checked x).value.faults env)) ea))
      (el ∙ (λ i. noted h (chosen_faults ((ejs ∙ ap (λ z. map (choice_told env) (map checked_choice z)) ec) i) (operand_is env a b found o ea ef eo i) ((ap (λ x. (out-Expr x).span) ed ∙ sym (span_known a)) i))))
      ∙ ap (noted f) (sym (ap (λ z. (checked_shape z).faults env) is ∙ ap (λ z. z.faults env) (shape_known (Shape-F.Conditional cs a)) ∙ choices_apart env (map checked_choice cs) (checked a)))
