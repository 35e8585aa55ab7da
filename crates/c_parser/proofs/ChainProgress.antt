-- What is left behind a value.
use Rattle.std.proofs.Common.{◌≡◌, ℕ, ◌<◌, ◌≤◌, Bool, List, Some, None, refl, ap, subst, arith}
use Rattle.mending_readers.specs.Mending.{mend_then}
use Rattle.c_tree.specs.declared.code.Expr.{Expr}
use Rattle.c_tree.specs.declared.operators.Level.TheVariants as level
use Rattle.c_tree.specs.declared.operators.PrefixOperator.{PrefixOperator}
use Rattle.c_tree.specs.Names.{Names}
use Rattle.c_grammar.specs.Parts as part
use Rattle.c_grammar.specs.Trees as tree
use Rattle.c_cursor.specs.Gives.{room}
use Rattle.c_cursor.specs.Reading.{Read, Place, read, give}
use Rattle.c_parser.specs.Values.{prefixed_value, chain_of}
use Rattle.c_parser.proofs.Progress.{stays}
use Rattle.c_parser.proofs.TypeLaws.{some_same, none_some}

value_stays : (e : ℕ) (ns : Names) (c : Bool) (l : ℕ) (s : Place) (a : Expr) (z : Place) → prefixed_value e ns c l s ≡ Some (a, z) → room z ≤ room s
unfolding prefixed_value
value_stays e ns c l s a z h = go (read e ns (part.Prefixed c) l s) refl h
  where
    go : (o : Read (List PrefixOperator × Expr)) → read e ns (part.Prefixed c) l s ≡ o → give tree.with_prefixes o ≡ Some (a, z) → room z ≤ room s
    go None is h = absurd (none_some (a, z) h)
    go (Some x) is h =
        let pair : (tree.with_prefixes x.0, x.1) ≡ (a, z) = some_same (tree.with_prefixes x.0, x.1) (a, z) h in
        subst (λ (y : Place). room y ≤ room s) (ap (λ (p : Expr × Place). p.1) pair) (stays e ns (part.Prefixed c) l s x.0 x.1 is)

pub chain_stays : (e : ℕ) (ns : Names) (c : Bool) (l : ℕ) (s : Place) (a : Expr) (z : Place) → chain_of e ns c l s ≡ Some (a, z) → room z ≤ room s
unfolding chain_of
chain_stays e ns c l s a z h = go (prefixed_value e ns c l s) refl h
  where
    go : (o : Read Expr) → prefixed_value e ns c l s ≡ o → mend_then o (λ b y. read e ns (part.Upto level.Or c b) l y) ≡ Some (a, z) → room z ≤ room s
    go None is h = absurd (none_some (a, z) h)
    go (Some x) is h =
        let first : room x.1 ≤ room s = value_stays e ns c l s x.0 x.1 is in
        let second : room z ≤ room x.1 = stays e ns (part.Upto level.Or c x.0) l x.1 a z h in
        omega (arith, first, second)

pub less_twice : (a b c d : ℕ) → a < b → c ≤ a → d ≤ c → d < b
less_twice a b c d h g f = omega (arith, h, g, f)
