use Rattle.std.proofs.Common.{◌∙◌}
use Rattle.c_meaning.specs.Code.{program_by, reading}
use Rattle.c_resolver.proofs.NameLemmas.{cell_alone}
use Rattle.c_resolver.proofs.lookups.routine_cell.Goals as goal

pub returns : goal.returns
returns c = cell_alone c.routine_among.result c.as_slice.result.now (program_by reading c.args.tables.now.unit.now).routines c.args.name.now
    (c.as_slice.ensures ∙ c.args.tables.now.numbered) c.routine_among.ensures
