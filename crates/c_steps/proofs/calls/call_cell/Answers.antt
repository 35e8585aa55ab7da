-- Only the number of a function can be called.
use Rattle.std.proofs.Common.{sym, subst, map}
use Rattle.std.proofs.lemmas.Result.{on_ok_weaker}
use Rattle.c_code.specs.Values.{value_seen}
use Rattle.c_code.specs.Machine.{call_cell}
use Rattle.c_run_state.specs.Shows.{Shows}
use Rattle.c_steps.proofs.calls.call_cell.Goals as goal

pub returns-in-Func : goal.returns-in-Func
returns-in-Func c =
    on_ok_weaker c.enter.result (λ entered env s live shows.
    subst (λ x. Shows env c.enter.new.run (call_cell c.args.routines.now s (map value_seen c.args.values.items) x)) (sym c.in-Func.is)
    (entered env s live shows)) c.enter.ensures

pub returns-in-Null : goal.returns-in-Null
returns-in-Null c =
    on_ok_weaker c.undefined.result (λ ends env s live shows.
    subst (λ x. Shows env c.undefined.new.run (call_cell c.args.routines.now s (map value_seen c.args.values.items) x)) (sym c.in-Null.is)
    (ends env s live shows)) c.undefined.ensures

pub returns-in-Unset : goal.returns-in-Unset
returns-in-Unset c =
    on_ok_weaker c.undefined-in-Unset.result (λ ends env s live shows.
    subst (λ x. Shows env c.undefined-in-Unset.new.run (call_cell c.args.routines.now s (map value_seen c.args.values.items) x)) (sym c.in-Unset.is)
    (ends env s live shows)) c.undefined-in-Unset.ensures

pub returns-in-Ptr : goal.returns-in-Ptr
returns-in-Ptr c =
    on_ok_weaker c.undefined-in-Ptr.result (λ ends env s live shows.
    subst (λ x. Shows env c.undefined-in-Ptr.new.run (call_cell c.args.routines.now s (map value_seen c.args.values.items) x)) (sym c.in-Ptr.is)
    (ends env s live shows)) c.undefined-in-Ptr.ensures

pub returns-in-Int : goal.returns-in-Int
returns-in-Int c =
    on_ok_weaker c.undefined-in-Int.result (λ ends env s live shows.
    subst (λ x. Shows env c.undefined-in-Int.new.run (call_cell c.args.routines.now s (map value_seen c.args.values.items) x)) (sym c.in-Int.is)
    (ends env s live shows)) c.undefined-in-Int.ensures

pub returns-in-Uns : goal.returns-in-Uns
returns-in-Uns c =
    on_ok_weaker c.undefined-in-Uns.result (λ ends env s live shows.
    subst (λ x. Shows env c.undefined-in-Uns.new.run (call_cell c.args.routines.now s (map value_seen c.args.values.items) x)) (sym c.in-Uns.is)
    (ends env s live shows)) c.undefined-in-Uns.ensures
