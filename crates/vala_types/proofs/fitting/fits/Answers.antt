use Rattle.vala_types.proofs.FitsLemmas.{decides_fit}
use Rattle.std.proofs.lemmas.Bool.Decides.{Decides-at}
use Rattle.vala_types.specs.Tests.{shape_goes}
use Rattle.vala_types.proofs.fitting.fits.Goals as goal

pub returns : goal.returns
returns c =
    let ties = c.args.ties.now in
    let from = c.args.from.now.shape in
    let to = c.args.to.now.shape in
    Decides-at c.shape_fits.result (shape_goes ties from to) c.shape_fits.ensures (decides_fit ties from to)
