use Rattle.std.proofs.Common.{map, take}
use Rattle.std.specs.String.{string_bytes}
use Rattle.vala2c.specs.Stages.{SourcesRead}
use Rattle.vala2c.proofs.sources.read_files.Given as goal

-- the files in front of the place were read
abbrev pub invariant-loop-word : goal.invariant-loop-word
invariant-loop-word g l =
    SourcesRead (map string_bytes (take l.word-index l.files)) (map (λ s. s.items) l.sources.items) (g.F.Folder.seen l.initial.folder) (g.F.Folder.seen l.folder)
