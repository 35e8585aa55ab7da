-- The text, the array, and the entry.
use Rattle.std.proofs.lemmas.Result.{on_ok_weaker}
use Rattle.c_opening.proofs.Entries.{entered_at}
use Rattle.c_opening.proofs.opening.Opening.enter_with.Goals as goal

pub returns : goal.returns
returns c =
    on_ok_weaker c.enter.result (entered_at c.args.self.now c.make_text.new.self c.make_block.new.self c.enter.new.self c.args.main c.args.name.now
    c.in_ok-block.block c.in_ok-array.array c.in_ok-block.ensures.number c.in_ok-block.ensures.made c.in_ok-array.ensures.number c.in_ok-array.ensures.made) c.enter.ensures
