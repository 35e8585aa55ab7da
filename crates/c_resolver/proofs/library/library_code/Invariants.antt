use Rattle.std.proofs.Common.{◌≡◌, drop, map}
use Rattle.c_code.specs.Statements.{function_in, function_named}
use Rattle.c_resolver.specs.Library.{declared_all, known_seen, parameters_all}
use Rattle.c_resolver.proofs.library.library_code.Given as goal

abbrev pub invariant-loop-code : goal.invariant-loop-code
invariant-loop-code l = record {
  function : function_in (map known_seen (drop l.code-index l.codes)) l.name ≡ function_named l.name;
  parameters : declared_all (drop l.code-index l.codes) ≡ parameters_all (drop l.code-index l.codes);
}
