use Rattle.std.proofs.Common.{◌≡◌, Some, None, position, arith, sym}
use Rattle.std.proofs.lemmas.Grind.{common_steps}
use Rattle.vg_base.proofs.MemoryLaws.{bytes_at, bytes_missing, has_name}
use Rattle.vg_base.proofs.mem_folder.find_copy.Goals as goal

pub returns-in_ok-copy-in-Some : goal.returns-in_ok-copy-in-Some
returns-in_ok-copy-in-Some c =
    let place : position (has_name c.args.name.now) c.args.files.now ≡ Some c.in-Some.place = grind (arith, common_steps) in
    let own = bytes_at c.args.files.now c.args.name.now c.in-Some.place c.index-files-place.result place in
    grind (arith, common_steps)

pub returns-in-None : goal.returns-in-None
returns-in-None c =
    let place : position (has_name c.args.name.now) c.args.files.now ≡ None = grind (arith, common_steps) in
    sym (bytes_missing c.args.files.now c.args.name.now place)
