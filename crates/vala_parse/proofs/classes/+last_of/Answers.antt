use Rattle.std.proofs.Common.{◌∙◌}
use Rattle.vala_parse.proofs.LastWords.{last_behind}
use Rattle.vala_parse.proofs.classes.+last_of.Goals as goal

pub returns-in-len1-up-others : goal.returns-in-len1-up-others
returns-in-len1-up-others t c s = c.last_of.ensures s ∙ last_behind c.args.words.now s c.in-len1-up.len_at_least c.in-len1-up-others.len_at_least
