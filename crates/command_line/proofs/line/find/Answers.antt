use Rattle.std.proofs.Common.{sym, ◌∙◌, true≢false}
use Rattle.command_line.proofs.FromClap.{found, refused, taken}
use Rattle.command_line.proofs.line.find.Goals as goal

pub returns-in-Ok-try_get_matches_from : goal.returns-in-Ok-try_get_matches_from
returns-in-Ok-try_get_matches_from c =
    let parse = c.in-Ok-try_get_matches_from in
    (taken _ _ c.in-Ok.ensures parse.ensures.kinds, found _ _ parse.matches c.in-Ok.ensures parse.ensures.matches)

pub returns : goal.returns
returns c =
    refused _ _ c.in-Err.error c.in-Ok.ensures c.in-Err.ensures.kinds
    (λ memory. let is = c.kind.ensures ∙ memory in true≢false (sym (rw is at c.eq.ensures) ∙ c.if-eq.false))
