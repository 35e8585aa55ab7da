use Rattle.std.proofs.Common.{◌∙◌, sym, [], append-nil}
use Rattle.vg_base.proofs.calls.are_pieces.Goals as goal

pub returns-in-None : goal.returns-in-None
returns-in-None c = (λ e. absurd (cc e), λ e. absurd (c.in-None.ensures [] (e ∙ sym (append-nil _))))
