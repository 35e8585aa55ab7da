use Rattle.c_round_trip.proofs.Printed.{printed_read}
use Rattle.c_round_trip.proofs.laws.printed_texts_are_read.Goals as goal

pub returns : goal.returns
returns c = printed_read c.bytes_have_one_answer.ensures
