-- The next place is so many further.
use Rattle.std.proofs.Common.{◌≡◌, ◌+◌, subst, suc, arith}
use Rattle.std.proofs.lemmas.Result.{on_ok_weaker}
use Rattle.c_meaning.specs.Steps.{at_place}
use Rattle.c_run_state.specs.Shows.{Shows, frame_seen}
use Rattle.c_run_state.proofs.state.Run.skip.Goals as goal

pub returns : goal.returns
returns c =
    let next : c.in-Some-checked_add.at ≡ suc c.args.frame.at + c.args.count = omega arith in
    on_ok_weaker c.at_place.result (λ goes env s shows. subst (λ n. Shows env c.at_place.new.self (at_place s (frame_seen c.args.frame) n)) next (goes env s shows)) c.at_place.ensures
