-- The function is entered if it is defined and takes as many values.
use Rattle.std.proofs.Common.{◌∙◌, sym, ap, subst, map, slice_get, ◌==◌, length}
use Rattle.std.specs.Option.{option_copied}
use Rattle.std.proofs.lemmas.Result.{on_ok_weaker}
use Rattle.c_code.specs.Values.{value_seen}
use Rattle.c_code.specs.Machine.{enter_body}
use Rattle.c_run_state.specs.Shows.{Shows}
use Rattle.c_steps.proofs.Entered.{entered, taken_by}
use Rattle.c_steps.proofs.calls.enter.Goals as goal

pub returns-in-None : goal.returns-in-None
returns-in-None c =
    on_ok_weaker c.undefined.result (λ ends env s live shows.
    let vs = map value_seen c.args.values.items in
    let none = sym c.body_of.ensures ∙ ap option_copied c.in-None.is in
    subst (Shows env c.undefined.new.run)
    (sym (entered s c.args.number (slice_get c.args.routines.now c.args.number) vs ∙ ap (λ b. enter_body s c.args.number b vs) none))
    (ends env s live shows)) c.undefined.ensures

pub returns-then-takes : goal.returns-then-takes
returns-then-takes c =
    on_ok_weaker c.push.result (λ pushes env s live shows.
    let vs = map value_seen c.args.values.items in
    let some = sym c.body_of.ensures ∙ ap option_copied c.in-Some.is in
    let told = sym c.if-takes.true ∙ c.takes.ensures ∙ ap (λ n. length c.in-Some.body.now.parameters == n) (c.len.ensures ∙ c.args.values.ok.0) in
    subst (Shows env c.push.new.self)
    (sym (entered s c.args.number (slice_get c.args.routines.now c.args.number) vs ∙ ap (λ b. enter_body s c.args.number b vs) some
    ∙ taken_by s c.args.number c.in-Some.body.now c.args.values.items _ told)) (pushes env s tt shows)) c.push.ensures

pub returns-else-takes : goal.returns-else-takes
returns-else-takes c =
    on_ok_weaker c.undefined-else-takes.result (λ ends env s live shows.
    let vs = map value_seen c.args.values.items in
    let some = sym c.body_of.ensures ∙ ap option_copied c.in-Some.is in
    let told = sym c.if-takes.false ∙ c.takes.ensures ∙ ap (λ n. length c.in-Some.body.now.parameters == n) (c.len.ensures ∙ c.args.values.ok.0) in
    subst (Shows env c.undefined-else-takes.new.run)
    (sym (entered s c.args.number (slice_get c.args.routines.now c.args.number) vs ∙ ap (λ b. enter_body s c.args.number b vs) some
    ∙ taken_by s c.args.number c.in-Some.body.now c.args.values.items _ told)) (ends env s live shows)) c.undefined-else-takes.ensures
