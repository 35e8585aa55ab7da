use Rattle.std.proofs.Common.{◌∙◌, refl, sym, ap, map, ◌++◌}
use Rattle.c_lexer.specs.declared.token.Sign.TheVariants as sign
use Rattle.c_tree.specs.declared.code.Shape.TheOpen.{Shape-F}
use Rattle.c_printer.specs.declared.grade.Place.TheVariants.{Anywhere, Chosen, Operand, BehindPrefix, BeforeSuffix}
use Rattle.c_printer.specs.Marks.{ASign, in_row, put_marks}
use Rattle.c_printer.specs.PutValues.{suffix_marks, choice_marks, printed_link, link_marks, Printed, printed, printed_shape, chain_level, placed, prefixes_marks, spaced, index_marks}
use Rattle.c_printer.specs.Text.{seen}
use Rattle.c_printer.specs.Grades.{stands}
use Rattle.c_tree.specs.declared.code.Expr.{out-Expr}
use Rattle.c_tree.specs.declared.code.Choice.{out-Choice}
use Rattle.c_printer.proofs.MarkLemmas.{two_put, wrapped, row_step, put_both, on_ok}
use Rattle.c_printer.proofs.BareTrees.{shape_written_at, placed_bare, placed_in_brackets, choice_marks_out}
use Rattle.c_printer.proofs.values.+value.Goals as goal

pub put_choices-loop-choice-preserved : goal.put_choices-loop-choice-preserved
put_choices-loop-choice-preserved t c = row_step (choice_marks c.args.brackets) (λ l. in_row (map (choice_marks c.args.brackets) l)) (λ x l. refl) c.args.choices.now c.loop-choice.choice-index c.choice-item.result _ _ _ c.loop-choice-test.true c.choice-item.is c.in_ok-put_choice.ensures c.loop-choice.invariant

pub put_links-loop-link-preserved : goal.put_links-loop-link-preserved
put_links-loop-link-preserved t c = row_step (λ l. (printed_link c.args.brackets l).marks) (λ l. link_marks (map (printed_link c.args.brackets) l)) (λ x l. refl) c.args.links.now c.loop-link.link-index c.link-item.result _ _ _ c.loop-link-test.true c.link-item.is c.in_ok-put_link.ensures c.loop-link.invariant

pub put_suffixes-loop-suffix-preserved : goal.put_suffixes-loop-suffix-preserved
put_suffixes-loop-suffix-preserved t c = row_step (suffix_marks c.args.brackets) (λ l. in_row (map (suffix_marks c.args.brackets) l)) (λ x l. refl) c.args.suffixes.now c.loop-suffix.suffix-index c.suffix-item.result _ _ _ c.loop-suffix-test.true c.suffix-item.is c.in_ok-put_suffix.ensures c.loop-suffix.invariant

pub put_index-returns : goal.put_index-returns
put_index-returns t c = on_ok c.token-2.result c.token-2.ensures (λ e. wrapped (seen c.args.out.now) (seen c.token.new.self) (seen c.put_value.new.out) (seen c.token-2.new.self) (ASign sign.OpenBracket) (ASign sign.CloseBracket) (placed c.args.brackets Anywhere (printed c.args.brackets c.args.index.now)) (index_marks c.args.brackets (printed c.args.brackets c.args.index.now)) c.in_ok-token.ensures c.in_ok-put_value.ensures e refl)

pub put_choice-returns : goal.put_choice-returns
put_choice-returns t c = on_ok c.put_sign-2.result c.put_sign-2.ensures (λ e.
    two_put _ _ _ (placed c.args.brackets Chosen (printed c.args.brackets (out-Choice c.args.choice.now).test) ++ spaced sign.Question ++ placed c.args.brackets Anywhere (printed c.args.brackets (out-Choice c.args.choice.now).yes)) (spaced sign.Colon) _
    (put_both _ _ _ (placed c.args.brackets Chosen (printed c.args.brackets (out-Choice c.args.choice.now).test) ++ spaced sign.Question) (placed c.args.brackets Anywhere (printed c.args.brackets (out-Choice c.args.choice.now).yes)) (put_both _ _ _ (placed c.args.brackets Chosen (printed c.args.brackets (out-Choice c.args.choice.now).test)) (spaced sign.Question) c.in_ok-put_value.ensures c.in_ok-put_sign.ensures) c.in_ok-put_value-2.ensures)
    e (sym (choice_marks_out c.args.brackets c.args.choice.now)))

pub put_shape-returns-in_ok-put_prefixes-in-Prefix : goal.put_shape-returns-in_ok-put_prefixes-in-Prefix
put_shape-returns-in_ok-put_prefixes-in-Prefix t c = on_ok c.put_value.result c.put_value.ensures (λ e.
    two_put _ _ _ (prefixes_marks c.as_slice-in-Prefix.result.now) (placed c.args.brackets BehindPrefix (printed c.args.brackets c.get.result.now)) _ c.in_ok-put_prefixes-in-Prefix.ensures e
    ((λ i. prefixes_marks (c.as_slice-in-Prefix.ensures i) ++ placed c.args.brackets BehindPrefix (printed c.args.brackets (c.get.ensures i)))
    ∙ sym (ap (λ s. (printed_shape c.args.brackets s).marks) c.in-Prefix.is ∙ ap (λ (q : Printed). q.marks) (shape_written_at c.args.brackets (Shape-F.Prefix c.in-Prefix.operators c.in-Prefix.operand)))))

pub put_shape-returns-in_ok-put_value-in-Postfix : goal.put_shape-returns-in_ok-put_value-in-Postfix
put_shape-returns-in_ok-put_value-in-Postfix t c = on_ok c.put_suffixes.result c.put_suffixes.ensures (λ e.
    two_put _ _ _ (placed c.args.brackets BeforeSuffix (printed c.args.brackets c.get-in-Postfix.result.now)) (in_row (map (suffix_marks c.args.brackets) c.as_slice-in-Postfix.result.now)) _ c.in_ok-put_value-in-Postfix.ensures e
    ((λ i. placed c.args.brackets BeforeSuffix (printed c.args.brackets (c.get-in-Postfix.ensures i)) ++ in_row (map (suffix_marks c.args.brackets) (c.as_slice-in-Postfix.ensures i)))
    ∙ sym (ap (λ s. (printed_shape c.args.brackets s).marks) c.in-Postfix.is ∙ ap (λ (q : Printed). q.marks) (shape_written_at c.args.brackets (Shape-F.Postfix c.in-Postfix.value c.in-Postfix.suffixes)))))

pub put_shape-returns-in_ok-put_value-in-Chain : goal.put_shape-returns-in_ok-put_value-in-Chain
put_shape-returns-in_ok-put_value-in-Chain t c = on_ok c.put_links.result c.put_links.ensures (λ e.
    two_put _ _ _ (placed c.args.brackets (Operand c.chain_level-level.result) (printed c.args.brackets c.get-in-Chain.result.now)) (link_marks (map (printed_link c.args.brackets) c.as_slice-in-Chain-2.result.now)) _ c.in_ok-put_value-in-Chain.ensures e
    ((λ i. placed c.args.brackets (Operand ((c.chain_level-level.ensures c.args.brackets ∙ ap (λ l. chain_level (map (printed_link c.args.brackets) l)) c.as_slice-in-Chain.ensures) i)) (printed c.args.brackets (c.get-in-Chain.ensures i)) ++ link_marks (map (printed_link c.args.brackets) (c.as_slice-in-Chain-2.ensures i)))
    ∙ sym (ap (λ s. (printed_shape c.args.brackets s).marks) c.in-Chain.is ∙ ap (λ (q : Printed). q.marks) (shape_written_at c.args.brackets (Shape-F.Chain c.in-Chain.first c.in-Chain.links)))))

pub put_shape-returns-in_ok-put_choices-in-Conditional : goal.put_shape-returns-in_ok-put_choices-in-Conditional
put_shape-returns-in_ok-put_choices-in-Conditional t c = on_ok c.put_value-in-Conditional.result c.put_value-in-Conditional.ensures (λ e.
    two_put _ _ _ (in_row (map (choice_marks c.args.brackets) c.as_slice-in-Conditional.result.now)) (placed c.args.brackets Chosen (printed c.args.brackets c.get-in-Conditional.result.now)) _ c.in_ok-put_choices-in-Conditional.ensures e
    ((λ i. in_row (map (choice_marks c.args.brackets) (c.as_slice-in-Conditional.ensures i)) ++ placed c.args.brackets Chosen (printed c.args.brackets (c.get-in-Conditional.ensures i)))
    ∙ sym (ap (λ s. (printed_shape c.args.brackets s).marks) c.in-Conditional.is ∙ ap (λ (q : Printed). q.marks) (shape_written_at c.args.brackets (Shape-F.Conditional c.in-Conditional.choices c.in-Conditional.last)))))

pub put_value-returns : goal.put_value-returns
put_value-returns t c = on_ok c.token-2.result c.token-2.ensures (λ e.
    wrapped (seen c.args.out.now) (seen c.token.new.self) (seen c.put_shape-2.new.out) (seen c.token-2.new.self) (ASign sign.OpenParen) (ASign sign.CloseParen) (printed_shape c.args.brackets (out-Expr c.args.value.now).shape).marks _ c.in_ok-token.ensures c.in_ok-put_shape.ensures e
    (placed_in_brackets c.args.brackets c.args.place c.args.value.now (sym (ap (stands c.args.brackets c.args.place) (c.grade.ensures c.args.brackets)) ∙ sym c.stands.ensures ∙ c.if-stands.false)))

pub put_value-returns-then-stands : goal.put_value-returns-then-stands
put_value-returns-then-stands t c = on_ok c.put_shape.result c.put_shape.ensures (λ e. e ∙ ap (put_marks (seen c.args.out.now))
    (placed_bare c.args.brackets c.args.place c.args.value.now (sym (ap (stands c.args.brackets c.args.place) (c.grade.ensures c.args.brackets)) ∙ sym c.stands.ensures ∙ c.if-stands.true)))
