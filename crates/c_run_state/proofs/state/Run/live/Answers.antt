-- The rows are those of what lives.
use Rattle.std.proofs.Common.{◌∙◌}
use Rattle.std.proofs.lemmas.Result.{MatchResult-weaker}
use Rattle.c_run_state.proofs.Living.{rows_are}
use Rattle.c_run_state.proofs.state.Run.live.Goals as goal

pub returns : goal.returns
returns c = MatchResult-weaker c.rows.result c.rows.ensures (λ rows is env s shows. is ∙ rows_are env c.args.self.now s shows) (λ e none. none)
