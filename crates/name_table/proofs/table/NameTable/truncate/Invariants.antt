-- So many of the latest entries are dropped as turns were made; where there are fewer entries than are to be left, none is.
use Rattle.std.proofs.Common.{◌≡◌, ◌-◌, ◌≤◌, drop}
use Rattle.name_table.proofs.table.NameTable.truncate.Given as goal

abbrev pub invariant-loop : goal.invariant-loop
invariant-loop g l = (l.self ≡ drop (l.counter - l.length) l.initial.self) × (l.end ≤ l.length → l.counter ≡ l.length)
