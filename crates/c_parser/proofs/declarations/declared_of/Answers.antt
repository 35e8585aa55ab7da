use Rattle.std.proofs.Common.{◌≡◌, ◌∷◌, ℕ, suc, Some, IfOk, sym, ap, subst, ◌∙◌, arith}
use Rattle.std.specs.List.{list_all}
use Rattle.c_lexer.specs.declared.token.Sign.TheVariants as sign
use Rattle.c_tree.specs.declared.unit.Item.{Item}
use Rattle.c_tree.specs.declared.unit.Signature.{Signature}
use Rattle.c_tree.specs.Items.{has_name}
use Rattle.c_tree.specs.Make.{name_at}
use Rattle.c_tree.specs.Names.{Names, FunctionName, declared}
use Rattle.c_grammar.specs.Parts as part
use Rattle.c_grammar.specs.Tests.{is_main}
use Rattle.c_grammar.specs.Trees as tree
use Rattle.c_nodes.specs.Seen.{seen}
use Rattle.c_cursor.specs.declared.sets.Set.TheVariants as set
use Rattle.c_cursor.specs.Gives.{state}
use Rattle.c_cursor.specs.Reading.{Read, one, read}
use Rattle.c_cursor.specs.Scopes.{names_of}
use Rattle.c_parser.specs.Pieces.{declared_end}
use Rattle.c_parser.proofs.EndLaws.{declared_steps}
use Rattle.c_parser.proofs.declarations.declared_of.Goals as goal

pub returns-clause-tree : goal.returns-clause-tree
returns-clause-tree c =
    let opened : one c.args.parser.now.end (names_of c.args.parser.now.names) (set.Sign sign.OpenParen) (suc c.args.level) (state c.args.parser.now)
    ≡ Some (seen c.expect.result, state c.expect.new.self) = grind arith in
    let inside : read c.args.parser.now.end (names_of c.args.parser.now.names) (part.ParametersOf (is_main (seen c.args.head.name).bytes))
    (suc c.args.level) (state c.expect.new.self) ≡ Some (c.in_ok-list.list, state c.parameters_for.new.parser) = grind arith in
    let closed : one c.args.parser.now.end (names_of c.args.parser.now.names) (set.Sign sign.CloseParen) c.args.level
    (state c.parameters_for.new.parser) ≡ Some (seen c.expect-close.result, state c.expect-close.new.self) = grind arith in
    let scope : names_of c.declare.new.self ≡ declared (name_at (seen c.args.head.name)) FunctionName ∷ names_of c.args.parser.now.names = grind arith in
    let ends : c.expect-close.new.self.end ≡ c.args.parser.now.end = grind arith in
    let made : c.in_ok-signature.signature ≡ tree.signature c.args.head.is_static c.args.head.declared
    (seen c.args.head.name) c.in_ok-list.list c.args.head.start (seen c.expect-close.result) = grind arith in
    subst (λ (o : Read Item). IfOk c.signature_end.result (λ i. o ≡ Some (i, state c.signature_end.new.parser)))
    (sym (declared_steps c.args.parser.now.end (names_of c.args.parser.now.names) c.args.head.is_static c.args.head.declared
    (seen c.args.head.name) c.args.head.start c.args.level (state c.args.parser.now) _ _ _ _ _ _ opened inside closed
    ∙ ap (λ (g : Signature). declared_end c.args.parser.now.end
    (declared (name_at (seen c.args.head.name)) FunctionName ∷ names_of c.args.parser.now.names) (list_all has_name g.parameters) g c.args.level
    (state c.expect-close.new.self)) (sym made)
    ∙ ap (λ (ns : Names). declared_end c.args.parser.now.end ns (list_all has_name c.in_ok-signature.signature.parameters) c.in_ok-signature.signature
    c.args.level (state c.expect-close.new.self)) (sym scope)
    ∙ ap (λ (e : ℕ). declared_end e (names_of c.declare.new.self)
    (list_all has_name c.in_ok-signature.signature.parameters) c.in_ok-signature.signature c.args.level (state c.expect-close.new.self)) (sym ends)))
    c.signature_end.ensures.tree
