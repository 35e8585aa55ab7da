use Rattle.c_printer.proofs.SaysLemmas.{says_token, says_read}
use Rattle.c_printer.proofs.laws.what_is_written_is_read.Goals as goal

pub returns-clause-token : goal.returns-clause-token
returns-clause-token c = says_token

pub returns-clause-read : goal.returns-clause-read
returns-clause-read c = says_read
