-- The cells are those of the value.
use Rattle.std.proofs.Common.{◌∙◌, sym, ap, subst, OnOk}
use Rattle.c_meaning.specs.Runs.{static_block}
use Rattle.c_meaning.specs.Steps.{cells_in}
use Rattle.c_code.specs.Values.{value_seen}
use Rattle.c_opening.specs.Opens.{Becomes}
use Rattle.c_opening.proofs.opening.Opening.add_value.Goals as goal

pub returns-in-Scalar : goal.returns-in-Scalar
returns-in-Scalar c =
    subst (λ v. OnOk c.add_static.result (Becomes (λ s. static_block s c.args.name.now.text (cells_in (value_seen v))) c.args.self.now c.add_static.new.self))
    (sym c.in-Scalar.is) c.add_static.ensures

pub returns-in-Struct : goal.returns-in-Struct
returns-in-Struct c =
    subst (λ cells. OnOk c.add_static-in-Struct.result (Becomes (λ s. static_block s c.args.name.now.text cells) c.args.self.now c.add_static-in-Struct.new.self))
    (c.as_slice.ensures.value ∙ ap (λ v. cells_in (value_seen v)) (sym c.in-Struct.is)) c.add_static-in-Struct.ensures
