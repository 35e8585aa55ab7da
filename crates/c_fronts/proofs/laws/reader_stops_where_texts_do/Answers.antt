use Rattle.c_fronts.proofs.Stopping.{reader_stops_where_texts_do}
use Rattle.c_fronts.proofs.laws.reader_stops_where_texts_do.Goals as goal

pub returns : goal.returns
returns c = reader_stops_where_texts_do
