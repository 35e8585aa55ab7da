-- One more call is asked for, till none is left.
use Rattle.std.proofs.Common.{◌∙◌}
use Rattle.c_run_state.proofs.Asking.{all_asked, gone_on, none_left}
use Rattle.c_run_state.proofs.state.Run.ask_all.Goals as goal

pub loop-call-preserved : goal.loop-call-preserved
loop-call-preserved c = (
  c.ask.ensures.heap ∙ c.loop-call.invariant.0,
  gone_on c.args.self.now c.loop-call.self c.ask.new.self c.args.calls c.loop-call.left.items c.pop.new.self.items c.in-Some.call c.in-Some.ensures.items
      c.loop-call.invariant.1 c.in_ok-ask.ensures.books,
)

pub returns-clause-books : goal.returns-clause-books
returns-clause-books c =
    all_asked c.args.self.now c.loop-call.self c.args.calls c.loop-call.left.items
    (none_left c.loop-call.left.items _ _ c.pop.result c.in_default.is c.pop.ensures.cases c.loop-call.left.ok.0) c.loop-call.invariant.1
