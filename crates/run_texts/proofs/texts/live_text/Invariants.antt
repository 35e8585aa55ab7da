use Rattle.std.proofs.Common.{◌≡◌, take}
use Rattle.std.specs.List.{flat_map}
use Rattle.run_texts.specs.Texts.{live_line}
use Rattle.run_texts.proofs.texts.live_text.Given as goal

-- so far the lines of the rows that were met
abbrev pub invariant-loop-row : goal.invariant-loop-row
invariant-loop-row l = l.text.items ≡ flat_map live_line (take l.row-index l.rows)
