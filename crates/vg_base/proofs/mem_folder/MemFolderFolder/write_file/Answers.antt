use Rattle.std.proofs.Common.{rules, ◌≡◌, Err}
use Rattle.vg_base.specs.declared.outside.FolderFault.TheVariants as fault
use Rattle.vg_base.specs.declared.outside.Call.TheVariants.{Write}
use Rattle.vg_base.specs.Memory.{fail_call}
use Rattle.vg_base.proofs.MemoryLaws.{listed_write}
use Rattle.vg_base.proofs.mem_folder.MemFolderFolder.write_file.Goals as goal

pub returns-then-is_due-clause-is_write : goal.returns-then-is_due-clause-is_write
returns-then-is_due-clause-is_write c =
    let failed : c.fail.new.self ≡ fail_call c.args.self.now (Write c.args.name.now c.args.bytes.now (Err fault.Failed)) = search rules in
    listed_write c.args.self.now c.fail.new.self c.args.name.now c.args.bytes.now c.fail.ensures.faults failed
