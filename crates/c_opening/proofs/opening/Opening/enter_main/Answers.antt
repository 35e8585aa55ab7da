-- `main` is found by its name.
use Rattle.std.proofs.Common.{◌∙◌, refl, ap}
use Rattle.std.proofs.lemmas.Result.{on_ok_weaker}
use Rattle.c_opening.specs.Opens.{cell_of_number}
use Rattle.c_opening.proofs.Entries.{routine_is, main_entered, main_missing}
use Rattle.c_opening.proofs.opening.Opening.enter_main.Goals as goal

pub returns-in-Some : goal.returns-in-Some
returns-in-Some c =
    on_ok_weaker c.enter_with.result (main_entered c.args.self.now c.enter_with.new.self c.in-Some.main c.args.name.now
    (routine_is c.args.self.now _ _ c.as_slice.result.now c.number_in.result c.as_slice.ensures refl c.number_in.ensures ∙ ap cell_of_number c.in-Some.is)) c.enter_with.ensures

pub returns-in-None : goal.returns-in-None
returns-in-None c =
    main_missing c.args.self.now c.undefined.new.self c.args.name.now
    (routine_is c.args.self.now _ _ c.as_slice.result.now c.number_in.result c.as_slice.ensures refl c.number_in.ensures ∙ ap cell_of_number c.in-None.is) c.undefined.ensures.shows
