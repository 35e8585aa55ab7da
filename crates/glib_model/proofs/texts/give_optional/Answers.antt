-- Where there is no text null is given.
use Rattle.std.proofs.Common.{ℕ, Vec, Global, ap}
use Rattle.std.specs.Option.{option_map}
use Rattle.c_meaning.specs.declared.cell.Cell.TheVariants.{Null}
use Rattle.c_meaning.specs.BlockRows.{give_optional}
use Rattle.glib_model.specs.declared.ends.LibWhat.TheVariants as what
use Rattle.glib_model.proofs.Rows.{quiet_along}
use Rattle.glib_model.proofs.texts.give_optional.Goals as goal

pub returns-in-None : goal.returns-in-None
returns-in-None c = λ s sees.
    quiet_along s (give_optional s (option_map (λ (text : Vec ℕ Global). text.items) c.args.text.now)) c.args.heap.now (what.Value Null) c.value.result sees
    (ap (λ o. give_optional s (option_map (λ (text : Vec ℕ Global). text.items) o)) c.in-None.is) c.value.ensures
