use Rattle.c_printer.proofs.PutLemmas.{put_token_is, text_says}
use Rattle.c_printer.proofs.laws.pieces_read_back.Goals as goal

pub returns-clause-token : goal.returns-clause-token
returns-clause-token c = put_token_is

pub returns-clause-text : goal.returns-clause-text
returns-clause-text c = text_says
