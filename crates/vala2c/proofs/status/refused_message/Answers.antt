use Rattle.std.proofs.Common.{◌∙◌}
use Rattle.vala2c.proofs.status.refused_message.Goals as goal

pub returns : goal.returns
returns c =
    let e = c.as_str.ensures.value ∙ c.in_ok-place.ensures in
    rw (← c.rule_name.ensures, ← c.rule_text.ensures, ← e) c.located.ensures
