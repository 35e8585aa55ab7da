use Rattle.std.proofs.Common.{◌≡◌, [], ◌∷◌, ◌++◌, Some, None, position, arith, refl}
use Rattle.std.proofs.lemmas.Grind.{common_steps}
use Rattle.vg_base.proofs.MemoryLaws.{writes_at, writes_end, has_name}
use Rattle.vg_base.proofs.mem_folder.Store.add.Goals as goal

pub returns-in-Some-clause-ok : goal.returns-in-Some-clause-ok
returns-in-Some-clause-ok c =
    let place : position (has_name c.in_ok-file.file.name) c.self.inside.files.items ≡ Some c.in-Some.place = grind (arith, common_steps) in
    rw (← c.self.view_is, ← c.in_ok-file.ensures.name, ← c.in_ok-file.ensures.bytes) (record { files = writes_at c.self.inside.files.items c.in_ok-file.file c.in-Some.place place; calls = refl; misses = refl })

pub returns-in_ok-map_err-in-None-clause-ok : goal.returns-in_ok-map_err-in-None-clause-ok
returns-in_ok-map_err-in-None-clause-ok c =
    let place : position (has_name c.in_ok-file.file.name) c.self.inside.files.items ≡ None = grind (arith, common_steps) in
    let items : c.push.new.self.items ≡ c.self.inside.files.items ++ c.in_ok-file.file ∷ [] = grind (arith, common_steps) in
    rw (← c.self.view_is, ← c.in_ok-file.ensures.name, ← c.in_ok-file.ensures.bytes) (record { files = rw items (writes_end c.self.inside.files.items c.in_ok-file.file place); calls = refl; misses = refl })
