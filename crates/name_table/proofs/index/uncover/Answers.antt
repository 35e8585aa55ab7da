-- What the index has for other names.
use Rattle.std.proofs.Common.{◌∙◌, ap, sym, cond}
use Rattle.name_table.proofs.Keys.{updates_name}
use Rattle.std.specs.HashMap.{get_by}
use Rattle.std.specs.Str.{bytes_eq}
use Rattle.name_table.proofs.index.uncover.Goals as goal

pub returns-in_default : goal.returns-in_default
returns-in_default c =
    λ other. updates_name c.args.name c.args.index.now c.remove.new.self _ c.remove.ensures.updates other
    ∙ ap (λ h. cond (bytes_eq c.args.name.now other) h (get_by (λ k. bytes_eq other k.name.now) c.args.index.now)) (sym c.in_default.is)

pub returns-in-Some-get_mut : goal.returns-in-Some-get_mut
returns-in-Some-get_mut c =
    λ other. updates_name c.args.name c.args.index.now (c.get_mut.follows.lender c.in-Some.position) _ ((c.get_mut.follows.holds c.in-Some.position).3 c.requires) other
    ∙ ap (λ h. cond (bytes_eq c.args.name.now other) h (get_by (λ k. bytes_eq other k.name.now) c.args.index.now)) (sym c.in-Some.is)
