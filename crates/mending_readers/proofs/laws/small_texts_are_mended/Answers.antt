use Rattle.mending_readers.proofs.Small.{is_mended}
use Rattle.mending_readers.proofs.laws.small_texts_are_mended.Goals as goal

pub returns : goal.returns
returns c = is_mended
