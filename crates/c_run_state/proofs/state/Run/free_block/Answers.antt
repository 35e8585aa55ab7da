-- The block is freed in the heap and noted.
use Rattle.std.proofs.Common.{◌∙◌, sym, ap}
use Rattle.std.proofs.lemmas.Result.{on_ok_weaker}
use Rattle.cell_heap.specs.Heap.{freed}
use Rattle.cell_heap.proofs.StateLaws.{blocks_freed}
use Rattle.c_run_state.proofs.Parts.{other_heap}
use Rattle.c_run_state.proofs.state.Run.free_block.Goals as goal

pub returns : goal.returns
returns c =
    on_ok_weaker c.note_freed.result (λ noted env s shows.
    record {
      heap = blocks_freed s c.args.block ∙ ap (λ h. freed h c.args.block) shows.heap ∙ sym c.free.ensures.freed ∙ sym c.note_freed.ensures.heap;
      books = noted env s (other_heap env c.args.self.now s c.free.new.self shows.books);
    }) c.note_freed.ensures.freed
