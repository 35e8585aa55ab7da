use Rattle.std.proofs.Common.{rules, ◌≡◌, Err}
use Rattle.vg_base.specs.declared.outside.FolderFault.TheVariants as fault
use Rattle.vg_base.specs.declared.outside.Call.TheVariants.{Read}
use Rattle.vg_base.specs.Outside.{read_answer}
use Rattle.vg_base.specs.Memory.{fail_call}
use Rattle.vg_base.proofs.MemoryLaws.{store_read, listed_read}
use Rattle.vg_base.proofs.mem_folder.MemFolderFolder.read_file.Goals as goal

pub returns-then-is_due-clause-is_read : goal.returns-then-is_due-clause-is_read
returns-then-is_due-clause-is_read c =
    let failed : c.fail.new.self ≡ fail_call c.args.self.now (Read c.args.name.now (Err fault.Failed)) = search rules in
    listed_read c.args.self.now c.fail.new.self c.args.name.now c.fail.ensures.faults failed

pub returns-clause-is_read : goal.returns-clause-is_read
returns-clause-is_read c =
    rw (← c.self.view_is, ← c.as_bytes-2.ensures.value) (store_read c.self.inside.faults c.self.inside.store c.read.new.self c.as_bytes-2.result.now (read_answer c.read.result) c.read.ensures.misses c.read.ensures.reads)
