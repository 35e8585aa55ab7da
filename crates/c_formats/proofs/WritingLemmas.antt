-- A piece that is refused.
use Rattle.std.proofs.Common.{◌≡◌, ◌∙◌, ap, List, ℕ, Err}
use Rattle.vg_base.specs.declared.event.UndefKind.{UndefKind}
use Rattle.vg_base.specs.declared.event.Fault.{Fault}
use Rattle.vg_base.specs.declared.event.Fault.TheVariants.{Refused, Memory}
use Rattle.c_meaning.specs.Blocks.{Answer}
use Rattle.c_texts.specs.Answers.{Answers}
use Rattle.c_formats.specs.declared.done.Draft.{Draft}
use Rattle.c_formats.specs.Seen.{behind, RefusedBy}

-- what is refused behind a draft is refused as a whole
pub refused_piece : {A : Type 0} (draft : Draft) (fault : Fault UndefKind) (seen : A → List ℕ) (whole rest : Answer (List ℕ)) → whole ≡ behind draft rest → RefusedBy (Err fault) rest → Answers seen (Err fault) whole
refused_piece draft (Refused u) seen whole rest is refused = is ∙ ap (behind draft) refused
refused_piece draft Memory seen whole rest is refused = tt
