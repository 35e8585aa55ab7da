-- Only a frame whose function gives nothing may end so.
use Rattle.std.proofs.Common.{subst, sym}
use Rattle.std.proofs.lemmas.Result.{on_ok_weaker}
use Rattle.c_code.specs.Machine.{end_body}
use Rattle.c_run_state.specs.Shows.{Shows, frame_seen}
use Rattle.c_run_state.proofs.state.Run.end_body.Goals as goal

pub returns-then-is_void : goal.returns-then-is_void
returns-then-is_void c =
    on_ok_weaker c.leave.result (λ left env s shows. subst (λ void. Shows env c.leave.new.self (end_body s (frame_seen c.args.frame) void)) (sym c.if-is_void.true) (left env s shows)) c.leave.ensures

pub returns : goal.returns
returns c = λ env s shows. subst (λ void. Shows env c.undefined.new.self (end_body s (frame_seen c.args.frame) void)) (sym c.if-is_void.false) (c.undefined.ensures.shows env s shows)
