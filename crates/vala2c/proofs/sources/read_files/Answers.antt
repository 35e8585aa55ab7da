use Rattle.std.proofs.Common.{◌≡◌, ◌∷◌, ◌++◌, [], rules}
use Rattle.std.specs.String.{string_bytes}
use Rattle.vala2c.proofs.Given.{none_read, read_next, read_refused, read_without_memory, more_sources}
use Rattle.vala2c.proofs.sources.read_files.Goals as goal

pub loop-word-init : goal.loop-word-init
loop-word-init g c = rw c.new-sources.ensures.items (none_read string_bytes c.args.files.now _)

pub loop-word-preserved : goal.loop-word-preserved
loop-word-preserved g c =
    let grew : c.push.new.self.items ≡ c.loop-word.sources.items ++ c.in-Ok.source ∷ [] = search rules in
    let i = c.loop-word.word-index in
    let read = read_next string_bytes c.args.files.now i c.word-item.result c.as_str-file.result.now _ _ _ _ _ c.loop-word-test.true c.word-item.is c.as_str-file.ensures.value c.loop-word.invariant c.in-Ok.ensures in
    rw (more_sources (λ s. s.items) c.loop-word.sources.items c.in-Ok.source c.push.new.self.items grew) read

pub returns-then-is_err : goal.returns-then-is_err
returns-then-is_err g c =
    read_without_memory string_bytes c.args.files.now c.loop-word.word-index c.word-item.result c.as_str-file.result.now _ _ _ _ _ c.loop-word-test.true c.word-item.is c.as_str-file.ensures.value c.loop-word.invariant c.in-Ok.ensures

pub returns-in-Err : goal.returns-in-Err
returns-in-Err g c =
    rw c.kind_of_read-kind.ensures (read_refused string_bytes c.args.files.now c.loop-word.word-index c.word-item.result c.as_str-file.result.now _ _ _ _ _ c.loop-word-test.true c.word-item.is c.as_str-file.ensures.value c.loop-word.invariant c.in-Err.ensures)
