use Rattle.std.proofs.Common.{◌≤◌, ◌+◌, ◌≢◌, length, ap, sym, ◌∙◌, arith}
use Rattle.vala_lexer.specs.Blanks.{blank}
use Rattle.vala_lexer.proofs.FitLemmas.{blanks_begin, blanks_stop, blanks_broken, blanks_more, blanks_more_within, blanks_fault_within}
use Rattle.vala_lexer.proofs.blanks.blanks.Goals as goal

pub loop-len-init : goal.loop-len-init
loop-len-init c = record { within = omega arith; same = blanks_begin c.args.bytes.now }

pub returns-in-Ok-eq0 : goal.returns-in-Ok-eq0
returns-in-Ok-eq0 c = sym (blanks_stop c.args.bytes.now c.loop-len.at c.loop-len.invariant.within _ c.loop-len.invariant.same c.in-Ok-eq0.field-0 (omega arith) (ap blank (sym c.after.ensures) ∙ sym c.blank.ensures ∙ c.in-Ok-eq0.is))

pub overflow_add-at : goal.overflow_add-at
overflow_add-at c =
    let within : c.loop-len.at + c.in-Ok.len ≤ length c.args.bytes.now = blanks_more_within c.args.bytes.now c.loop-len.at c.loop-len.invariant.within _ c.loop-len.invariant.same c.in-Ok.len (ap blank (sym c.after.ensures) ∙ sym c.blank.ensures ∙ c.in-Ok.is) in
    omega arith

pub loop-len-preserved : goal.loop-len-preserved
loop-len-preserved c =
    let found = ap blank (sym c.after.ensures) ∙ sym c.blank.ensures ∙ c.in-Ok.is in
    record {
      within = blanks_more_within c.args.bytes.now c.loop-len.at c.loop-len.invariant.within _ c.loop-len.invariant.same c.in-Ok.len found;
      same = blanks_more c.args.bytes.now c.loop-len.at c.loop-len.invariant.within _ c.loop-len.invariant.same c.in-Ok.len (let some : c.in-Ok.len ≢ 0 = c.in-Ok.len-test.1 in omega arith) found;
    }

pub overflow_add-result : goal.overflow_add-result
overflow_add-result c =
    let within : c.loop-len.at + c.in-Err.fault.start + c.in-Err.fault.len ≤ length c.args.bytes.now = blanks_fault_within c.args.bytes.now c.loop-len.at c.loop-len.invariant.within _ c.loop-len.invariant.same c.in-Err.fault (ap blank (sym c.after.ensures) ∙ sym c.blank.ensures ∙ c.in-Err.is) in
    omega arith

pub returns-in-Err : goal.returns-in-Err
returns-in-Err c = sym (blanks_broken c.args.bytes.now c.loop-len.at c.loop-len.invariant.within _ c.loop-len.invariant.same c.in-Err.fault (ap blank (sym c.after.ensures) ∙ sym c.blank.ensures ∙ c.in-Err.is))
