use Rattle.std.proofs.Common.{◌≤◌, ◌+◌, length, ap, sym, ◌∙◌, arith, drop, suc, ◌-◌, ◌||◌}
use Rattle.c_lexer.specs.Blanks.{blank, blanks_within}
use Rattle.c_lexer.proofs.FitLemmas.{blanks_begin, blanks_stop, blanks_broken, blanks_more, blanks_more_within}
use Rattle.c_lexer.proofs.blanks.blanks.Goals as goal

pub loop-gap-init : goal.loop-gap-init
loop-gap-init c = record { within = omega arith; same = blanks_begin c.args.bytes.now }

pub returns-in_default : goal.returns-in_default
returns-in_default c = sym (blanks_broken c.args.bytes.now c.loop-gap.at c.loop-gap.breaks_line c.loop-gap.invariant.within _ c.loop-gap.invariant.same (ap blank (sym c.after.ensures) ∙ sym c.blank.ensures ∙ c.in_default.is))

pub returns-then-gap-eq0 : goal.returns-then-gap-eq0
returns-then-gap-eq0 c = sym (blanks_stop c.args.bytes.now c.loop-gap.at c.loop-gap.breaks_line c.loop-gap.invariant.within _ c.loop-gap.invariant.same c.in-Some.gap c.if-gap-eq0.true (ap blank (sym c.after.ensures) ∙ sym c.blank.ensures ∙ c.in-Some.is))

pub overflow_add-at : goal.overflow_add-at
overflow_add-at c =
    let within : c.loop-gap.at + c.in-Some.gap.len ≤ length c.args.bytes.now = blanks_more_within c.args.bytes.now c.loop-gap.at c.loop-gap.breaks_line c.loop-gap.invariant.within _ c.loop-gap.invariant.same c.in-Some.gap (ap blank (sym c.after.ensures) ∙ sym c.blank.ensures ∙ c.in-Some.is) in
    omega arith

pub loop-gap-preserved-then-breaks_line : goal.loop-gap-preserved-then-breaks_line
loop-gap-preserved-then-breaks_line c =
    let found = ap blank (sym c.after.ensures) ∙ sym c.blank.ensures ∙ c.in-Some.is in
    record {
      within = blanks_more_within c.args.bytes.now c.loop-gap.at c.loop-gap.breaks_line c.loop-gap.invariant.within _ c.loop-gap.invariant.same c.in-Some.gap found;
      same = blanks_more c.args.bytes.now c.loop-gap.at c.loop-gap.breaks_line c.loop-gap.invariant.within _ c.loop-gap.invariant.same c.in-Some.gap c.if-gap-eq0.false found
          ∙ ap (λ b. blanks_within (suc (length c.args.bytes.now - (c.loop-gap.at + c.in-Some.gap.len))) (c.loop-gap.at + c.in-Some.gap.len) (b || c.in-Some.gap.breaks_line) (drop (c.loop-gap.at + c.in-Some.gap.len) c.args.bytes.now)) c.if-breaks_line.true
          ∙ ap (λ b. blanks_within (suc (length c.args.bytes.now - (c.loop-gap.at + c.in-Some.gap.len))) (c.loop-gap.at + c.in-Some.gap.len) b (drop (c.loop-gap.at + c.in-Some.gap.len) c.args.bytes.now)) (sym c.if-breaks_line.true);
    }

pub loop-gap-preserved : goal.loop-gap-preserved
loop-gap-preserved c =
    let found = ap blank (sym c.after.ensures) ∙ sym c.blank.ensures ∙ c.in-Some.is in
    record {
      within = blanks_more_within c.args.bytes.now c.loop-gap.at c.loop-gap.breaks_line c.loop-gap.invariant.within _ c.loop-gap.invariant.same c.in-Some.gap found;
      same = blanks_more c.args.bytes.now c.loop-gap.at c.loop-gap.breaks_line c.loop-gap.invariant.within _ c.loop-gap.invariant.same c.in-Some.gap c.if-gap-eq0.false found
          ∙ ap (λ b. blanks_within (suc (length c.args.bytes.now - (c.loop-gap.at + c.in-Some.gap.len))) (c.loop-gap.at + c.in-Some.gap.len) (b || c.in-Some.gap.breaks_line) (drop (c.loop-gap.at + c.in-Some.gap.len) c.args.bytes.now)) c.if-breaks_line.false;
    }
