-- What the index has is the number.
use Rattle.std.proofs.Common.{◌∙◌, ap, map}
use Rattle.c_tree.specs.Env.{signature_number}
use Rattle.c_value_checker.specs.Takes.{takes_seen}
use Rattle.c_value_checker.proofs.SignatureLemmas.{number_next, number_there}
use Rattle.c_value_checker.proofs.signatures.Signatures.number.Goals as goal

pub returns-in-None : goal.returns-in-None
returns-in-None c =
    c.len.ensures ∙ number_next c.self.inside.numbers c.self.inside.rows c.args.takes.now c.self.invariant c.in-None.ensures.value
    ∙ ap (λ l. signature_number 0 (map takes_seen l) (takes_seen c.args.takes.now)) c.self.view_is

pub returns-in-Some : goal.returns-in-Some
returns-in-Some c =
    number_there c.self.inside.numbers c.self.inside.rows c.args.takes.now c.in-Some.number.now c.self.invariant c.in-Some.ensures.value
    ∙ ap (λ l. signature_number 0 (map takes_seen l) (takes_seen c.args.takes.now)) c.self.view_is
