use Rattle.std.proofs.Common.{refl}
use Rattle.vala_lexer.proofs.DenotedLemmas.{verbatim_value, plain_value, denoted_byte, denoted_escape}
use Rattle.vala_lexer.proofs.laws.texts_denote.Goals as goal

pub returns : goal.returns
returns c =
    record { verbatim = verbatim_value; text = plain_value; nothing = refl; byte = denoted_byte; escape = denoted_escape }
