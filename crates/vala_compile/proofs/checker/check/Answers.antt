use Rattle.std.proofs.Common.{◌≡◌, Err, rules, sym, subst, arith}
use Rattle.vala_compile.specs.Correct.{Checks}
use Rattle.vala_compile.proofs.Held.{bytes_of, checked_more, checked_refused, checked_over}
use Rattle.vala_compile.proofs.checker.check.Goals as goal

pub returns-then-number-ge-MOST_FILES : goal.returns-then-number-ge-MOST_FILES
returns-then-number-ge-MOST_FILES c =
    checked_over c.args.files.now c.loop-number.number c.index-files-number.result c.deref.result.now c.loop-number-test.true c.index-files-number.is c.deref.ensures.value
    c.over_the_limit.result c.loop-number.invariant.1 c.if-number-ge-MOST_FILES.true c.loop-number.invariant.0 c.over_the_limit.ensures

pub returns-in_err-parse_file : goal.returns-in_err-parse_file
returns-in_err-parse_file c =
    let fault = c.in_err-parse_file.field-0.0 in
    let passed : c.from_residual.result ≡ Err fault = search rules in
    subst (λ r. Checks (bytes_of c.args.files.now) c.args.strict_null r) (sym passed)
    (checked_refused c.args.files.now c.loop-number.number c.index-files-number.result c.deref-in-loop-number.result.now c.loop-number-test.true c.index-files-number.is c.deref-in-loop-number.ensures.value
    c.args.strict_null fault c.if-number-ge-MOST_FILES.false c.loop-number.invariant.0 c.in_err-parse_file.ensures)

pub loop-number-preserved : goal.loop-number-preserved
loop-number-preserved c = (
  checked_more c.args.files.now c.loop-number.number c.index-files-number.result c.deref-in-loop-number.result.now c.loop-number-test.true c.index-files-number.is c.deref-in-loop-number.ensures.value
      c.in_ok-parse_file.field-0 c.loop-number.invariant.0 c.in_ok-parse_file.ensures,
  omega (arith, c.if-number-ge-MOST_FILES.false),
)
