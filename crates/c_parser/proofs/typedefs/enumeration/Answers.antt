use Rattle.std.proofs.Common.{◌≡◌, suc, List, Some, sym, ap, ◌∙◌, arith}
use Rattle.c_lexer.specs.declared.token.Sign.TheVariants as sign
use Rattle.c_tree.specs.declared.names.Name.{Name}
use Rattle.c_tree.specs.declared.unit.Item.TheVariants as item
use Rattle.c_tree.specs.declared.unit.Member.{Member}
use Rattle.c_grammar.specs.Parts as part
use Rattle.c_nodes.specs.Seen.{seen}
use Rattle.c_cursor.specs.declared.sets.Set.TheVariants as set
use Rattle.c_cursor.specs.Gives.{state}
use Rattle.c_cursor.specs.Reading.{one, read}
use Rattle.c_cursor.specs.Scopes.{names_of}
use Rattle.c_parser.proofs.MemberLaws.{enumeration_end}
use Rattle.c_parser.proofs.typedefs.enumeration.Goals as goal

pub returns-clause-tree : goal.returns-clause-tree
returns-clause-tree c =
    let opened : one c.args.parser.now.end (names_of c.args.parser.now.names) (set.Sign sign.OpenBrace) (suc c.args.level) (state c.args.parser.now)
    ≡ Some (seen c.expect.result, state c.expect.new.self) = grind arith in
    let inside : read c.args.parser.now.end (names_of c.args.parser.now.names) part.Members (suc c.args.level) (state c.expect.new.self)
    ≡ Some (c.in_ok-members.members, state c.members.new.parser) = grind arith in
    let closed : one c.args.parser.now.end (names_of c.members.new.parser.names) (set.Sign sign.CloseBrace) c.args.level (state c.members.new.parser)
    ≡ Some (seen c.expect-2.result, state c.expect-2.new.self) = grind arith in
    let named : one c.args.parser.now.end (names_of c.members.new.parser.names) set.Name c.args.level (state c.expect-2.new.self)
    ≡ Some (seen c.expect-token.result, state c.expect-token.new.self) = grind arith in
    let ended : one c.args.parser.now.end (names_of c.members.new.parser.names) (set.Sign sign.Semicolon) c.args.level (state c.expect-token.new.self)
    ≡ Some (seen c.expect-3.result, state c.expect-3.new.self) = grind arith in
    let same : c.in_ok-members.members ≡ c.members-2.inside.items.items = cc in
    enumeration_end c.args.parser.now.end (names_of c.args.parser.now.names) (names_of c.members.new.parser.names) c.args.level
    (state c.args.parser.now) _ _ _ _ _ _ _ _ _ _ opened inside closed named ended
    ∙ ap (λ (n : Name). Some (item.Enumeration (record { members = c.in_ok-members.members; name = n }), state c.expect-3.new.self)) (sym c.in_ok-name.ensures)
    ∙ ap (λ (xs : List Member). Some (item.Enumeration (record { members = xs; name = c.in_ok-name.field-0 }), state c.expect-3.new.self)) same
