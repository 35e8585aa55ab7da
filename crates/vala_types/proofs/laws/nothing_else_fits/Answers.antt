use Rattle.vala_types.proofs.FitsLaws.{no_narrower, no_other_interface, no_domain, no_null_number, no_null_struct}
use Rattle.vala_types.proofs.laws.nothing_else_fits.Goals as goal

pub returns-clause-narrower : goal.returns-clause-narrower
returns-clause-narrower c = no_narrower

pub returns-clause-interfaces : goal.returns-clause-interfaces
returns-clause-interfaces c = no_other_interface

pub returns-clause-errors : goal.returns-clause-errors
returns-clause-errors c = no_domain

pub returns-clause-numbers : goal.returns-clause-numbers
returns-clause-numbers c = no_null_number

pub returns-clause-structs : goal.returns-clause-structs
returns-clause-structs c = no_null_struct
