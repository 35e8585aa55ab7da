use Rattle.std.proofs.Common.{ap, map, refl}
use Rattle.c_value_checker.specs.Seen.{seen}
use Rattle.c_resolver.specs.Shown.{fixed_seen, tables_seen}
use Rattle.c_resolver.proofs.ScopeLemmas.{variable_nowhere, variable_there}
use Rattle.c_resolver.proofs.names.variable_place.Goals as goal

pub returns-in-Some : goal.returns-in-Some
returns-in-Some c = variable_there (tables_seen c.args.tables.now) (seen c.args.scope.now.environment) c.args.scope.now.variables c.args.name.now
    c.in-Some.found c.code.result c.code.ensures c.in-Some.ensures

pub returns-in-None : goal.returns-in-None
returns-in-None c = variable_nowhere (tables_seen c.args.tables.now) (seen c.args.scope.now.environment) c.args.scope.now.variables c.args.name.now
    (map fixed_seen c.as_slice.result.now) (map fixed_seen c.args.tables.now.statics) c.static_place.result
    (ap (map fixed_seen) c.as_slice.ensures) refl c.static_place.ensures c.in-None.ensures
