use Rattle.vg_base.specs.Outside.{read_answer}
use Rattle.vg_base.proofs.MemoryLaws.{store_read}
use Rattle.vg_base.proofs.mem_folder.GoodFolderFolder.read_file.Goals as goal

pub returns-clause-is_read : goal.returns-clause-is_read
returns-clause-is_read c =
    rw (← c.self.view_is, ← c.as_bytes.ensures.value) (store_read 0 c.self.inside.store c.read.new.self c.as_bytes.result.now (read_answer c.read.result) c.read.ensures.misses c.read.ensures.reads)
