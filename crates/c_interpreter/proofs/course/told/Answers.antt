use Rattle.std.proofs.Common.{◌≡◌, ◌+◌, ◌∙◌, ◌∷◌, sym, ap, drop}
use Rattle.c_interpreter.proofs.Rows.{rest_is}
use Rattle.c_interpreter.specs.declared.machine.Stepped.TheVariants.{Printed}
use Rattle.c_interpreter.specs.Course.{told}
use Rattle.c_interpreter.proofs.course.told.Goals as goal

pub returns-in-Print : goal.returns-in-Print
returns-in-Print c =
    let es = c.args.said.now in
    let i = c.loop-event.event-index in
    let here : told es c.args.ended ≡ Printed c.in-Print.stream c.in-Print.bytes =
    sym c.loop-event.invariant ∙ ap (λ l. told l c.args.ended) (rest_is es i c.event-item.result c.loop-event-test.true c.event-item.is)
    ∙ ap (λ e. told (e ∷ drop (i + 1) es) c.args.ended) c.in-Print.is
    in
    ap (Printed c.in-Print.stream) c.in_ok-copied.ensures ∙ sym here
