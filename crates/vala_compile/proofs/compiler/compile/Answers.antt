use Rattle.std.proofs.Common.{◌≡◌, Err, rules, sym, subst}
use Rattle.vala_compile.specs.Correct.{Compiles}
use Rattle.vala_compile.proofs.Theorem.{compiled}
use Rattle.vala_compile.proofs.Held.{bytes_of, refused_first, refused_last}
use Rattle.vala_compile.proofs.compiler.compile.Goals as goal

pub returns-in_err-check : goal.returns-in_err-check
returns-in_err-check c =
    let fault = c.in_err-check.field-0.0 in
    let passed : c.from_residual.result ≡ Err fault = search rules in
    subst (λ r. Compiles (bytes_of c.args.files.now) c.args.strict_null r) (sym passed) (refused_first (bytes_of c.args.files.now) c.args.strict_null fault c.in_err-check.ensures)

pub returns-in_err-program : goal.returns-in_err-program
returns-in_err-program c =
    let fault = c.in_err-program.field-0.0 in
    let passed : c.from_residual-in_err-program.result ≡ Err fault = search rules in
    subst (λ r. Compiles (bytes_of c.args.files.now) c.args.strict_null r) (sym passed) (refused_last (bytes_of c.args.files.now) c.args.strict_null fault c.in_ok-check.ensures c.in_err-program.ensures)

pub returns-in-Ok : goal.returns-in-Ok
returns-in-Ok c =
    compiled (bytes_of c.args.files.now) c.args.strict_null c.in_ok-program.program c.deref.result.now c.in-Ok.c.items c.texts_stand_apart.ensures c.emitted_units_run.ensures c.emitted_units_stay_within.ensures
    c.in_ok-check.ensures c.in_ok-program.ensures c.deref.ensures.value c.in-Ok.ensures
