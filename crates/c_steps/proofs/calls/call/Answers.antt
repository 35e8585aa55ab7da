-- What is called decides.
use Rattle.std.proofs.Common.{sym, subst}
use Rattle.std.proofs.lemmas.Result.{on_ok_weaker}
use Rattle.cell_heap.specs.States.{heap_of}
use Rattle.c_code.specs.Machine.{call_by}
use Rattle.c_code.specs.declared.program.Callee.TheVariants as target
use Rattle.c_run_state.specs.Shows.{Shows}
use Rattle.c_steps.proofs.calls.call.Goals as goal

pub returns-in-Value : goal.returns-in-Value
returns-in-Value c =
    on_ok_weaker c.call_value.result (λ called env s live shows.
    subst (λ callee. Shows env c.call_value.new.run (call_by c.args.routines.now (heap_of s) c.args.block s c.args.made.now.arguments callee)) (sym c.in-Value.is)
    (subst (λ args. Shows env c.call_value.new.run
    (call_by c.args.routines.now (heap_of s) c.args.block s args (target.Value c.in-Value.callee))) c.as_slice-arguments.ensures
    (called env s live shows))) c.call_value.ensures

pub returns-in-Library : goal.returns-in-Library
returns-in-Library c =
    on_ok_weaker c.call_row.result (λ called env s live shows.
    subst (λ callee. Shows env c.call_row.new.run (call_by c.args.routines.now (heap_of s) c.args.block s c.args.made.now.arguments callee)) (sym c.in-Library.is)
    (subst (λ args. Shows env c.call_row.new.run
    (call_by c.args.routines.now (heap_of s) c.args.block s args (target.Library c.in-Library.function c.in-Library.argument))) c.as_slice-arguments.ensures
    (called env s live shows))) c.call_row.ensures

pub returns-in-Nothing : goal.returns-in-Nothing
returns-in-Nothing c =
    on_ok_weaker c.undefined.result (λ ends env s live shows.
    subst (λ callee. Shows env c.undefined.new.run (call_by c.args.routines.now (heap_of s) c.args.block s c.args.made.now.arguments callee)) (sym c.in-Nothing.is)
    (ends env s live shows)) c.undefined.ensures
