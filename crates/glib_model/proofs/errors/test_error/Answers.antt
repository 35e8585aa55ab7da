-- The test is given.
use Rattle.std.proofs.Common.{◌∙◌, ap}
use Rattle.glib_model.specs.declared.ends.LibEnd.{LibEnd}
use Rattle.glib_model.specs.declared.ends.LibWhat.TheVariants as what
use Rattle.std.proofs.Common.{[]}
use Rattle.glib_model.proofs.ErrorRows.{match_run, match_none}
use Rattle.glib_model.proofs.errors.test_error.Goals as goal

pub returns-in-Ok : goal.returns-in-Ok
returns-in-Ok c =
    match_run c.has_code.result c.in-Ok.holds c.args.block c.args.domain c.args.code c.args.heap.now c.value.result c.has_code.ensures c.in-Ok.is
    (c.value.ensures ∙ ap (λ x. let a : LibEnd = record { what = what.Value x; notes = [] } in a) c.truth.ensures)

pub returns-in-Err : goal.returns-in-Err
returns-in-Err c = match_none c.has_code.result c.in-Err.kind c.args.block c.args.domain c.args.code c.args.heap.now c.undefined.result c.has_code.ensures c.in-Err.is c.undefined.ensures
