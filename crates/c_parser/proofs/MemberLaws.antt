-- Types by their steps. No member of an enumeration is read by the names in scope.
use Rattle.std.proofs.Common.{◌≡◌, ℕ, suc, true, false, if◌then◌else◌, List, [], ◌∷◌, ◌++◌, Some, sym, ap, ◌∙◌}
use Rattle.mending_readers.specs.Mending.{mend_then}
use Rattle.c_lexer.specs.declared.token.Sign.TheVariants as sign
use Rattle.c_tree.specs.declared.unit.Item.{Item}
use Rattle.c_tree.specs.declared.unit.Item.TheVariants as item
use Rattle.c_tree.specs.declared.unit.Member.{Member}
use Rattle.c_tree.specs.Make.{name_at}
use Rattle.c_tree.specs.Names.{Names}
use Rattle.c_tree.specs.Words.{Token}
use Rattle.c_grammar.specs.Parts as part
use Rattle.c_cursor.specs.declared.sets.Set.TheVariants as set
use Rattle.c_cursor.specs.Reading.{Read, Place, one, is_next, read, first_then, behind}
use Rattle.c_parser.specs.Pieces as piece
use Rattle.c_parser.specs.Statics.{pointed_name, type_signature}
use Rattle.c_parser.proofs.Thens.{then_assoc, behind_more, behind_end}
use Rattle.c_parser.proofs.BodyLaws.{first_is}
use Rattle.c_parser.proofs.Walks.{then_same}
use Rattle.c_parser.proofs.StatementLaws.{signed_law}
use Rattle.c_parser.proofs.ItemLaws.{member_law, members_law, more_members_law}

signed_same : (e : ℕ) (ns ms : Names) (l : ℕ) (s : Place) → read e ns part.SignedNumberOf l s ≡ read e ms part.SignedNumberOf l s
unfolding one is_next
signed_same e ns ms l s = signed_law e ns l s ∙ sym (signed_law e ms l s)

member_same : (e : ℕ) (ns ms : Names) (l : ℕ) (s : Place) → read e ns part.MemberOf l s ≡ read e ms part.MemberOf l s
unfolding one
member_same e ns ms l s = member_law e ns l s
    ∙ then_same (one e ns set.Name l s) _ _ (λ n z. then_same (one e ns (set.Sign sign.Assign) l z) _ _
    (λ a y. ap (λ o. mend_then o (λ x w. Some (record { name = name_at n; number = x }, w))) (signed_same e ns ms l y)))
    ∙ sym (member_law e ms l s)

-- the first
pub members_start : (e : ℕ) (ns : Names) (l : ℕ) (s z : Place) (m : Member) → read e ns part.MemberOf l s ≡ Some (m, z)
    → read e ns part.Members l s ≡ behind (m ∷ []) (read e ns part.MoreMembers l z)
members_start e ns l s z m h = members_law e ns l s ∙ ap (λ o. mend_then o (λ m z. first_then m (read e ns part.MoreMembers l z))) h
    ∙ first_is m (read e ns part.MoreMembers l z)

-- what goes on with more members
abbrev more_by : ℕ → Names → ℕ → Read Member → Read (List Member)
more_by e ns l o = mend_then o (λ m y. first_then m (read e ns part.MoreMembers l y))

-- one more, read in a scope of its own
pub members_step : (e : ℕ) (ns ms : Names) (ys : List Member) (l : ℕ) (s z y : Place) (t : Token) (m : Member)
    → is_next ms (set.Sign sign.Comma) s ≡ true → one e ms (set.Sign sign.Comma) l s ≡ Some (t, z)
    → read e ms part.MemberOf l z ≡ Some (m, y) → behind ys (read e ns part.MoreMembers l s) ≡ behind (ys ++ m ∷ []) (read e ns part.MoreMembers l y)
unfolding one is_next
members_step e ns ms ys l s z y t m next here h =
    ap (behind ys) (more_members_law e ns l s ∙ ap (λ b. if b
    then mend_then (one e ns (set.Sign sign.Comma) l s) (λ t z. more_by e ns l (read e ns part.MemberOf l z)) else Some ([], s)) next
    ∙ ap (λ o. mend_then o (λ t z. more_by e ns l (read e ns part.MemberOf l z))) here ∙ ap (more_by e ns l) (member_same e ns ms l z ∙ h))
    ∙ behind_more ys m (read e ns part.MoreMembers l y)

-- no more
pub members_stop : (e : ℕ) (ns ms : Names) (ys : List Member) (l : ℕ) (s : Place) → is_next ms (set.Sign sign.Comma) s ≡ false
    → behind ys (read e ns part.MoreMembers l s) ≡ Some (ys, s)
unfolding is_next
members_stop e ns ms ys l s next =
    ap (behind ys) (more_members_law e ns l s ∙ ap (λ b. if b
    then mend_then (one e ns (set.Sign sign.Comma) l s) (λ t z. more_by e ns l (read e ns part.MemberOf l z)) else Some ([], s)) next) ∙ behind_end ys s

-- what follows members, by its steps
abbrev sign_of : ℕ → Names → ℕ → List Member → Token → Place → Read Item
sign_of e ns l xs n v = mend_then (one e ns (set.Sign sign.Semicolon) l v) (λ q u. Some (item.Enumeration (record { members = xs; name = name_at n }), u))

abbrev name_of : ℕ → Names → ℕ → List Member → Place → Read Item
name_of e ns l xs w = mend_then (one e ns set.Name l w) (λ n v. sign_of e ns l xs n v)

abbrev last_of : ℕ → Names → ℕ → List Member → Place → Read Item
last_of e ns l xs y = mend_then (one e ns (set.Sign sign.CloseBrace) l y) (λ x w. name_of e ns l xs w)

-- what follows them, read in another scope
pub enumeration_end : (e : ℕ) (ns ms : Names) (l : ℕ) (s z y w v u : Place) (o x n q : Token) (xs : List Member)
    → one e ns (set.Sign sign.OpenBrace) (suc l) s ≡ Some (o, z) → read e ns part.Members (suc l) z ≡ Some (xs, y)
    → one e ms (set.Sign sign.CloseBrace) l y ≡ Some (x, w) → one e ms set.Name l w ≡ Some (n, v) → one e ms (set.Sign sign.Semicolon) l v ≡ Some (q, u)
    → piece.enumeration e ns l s ≡ Some (item.Enumeration (record { members = xs; name = name_at n }), u)
unfolding one piece.enumeration
enumeration_end e ns ms l s z y w v u o x n q xs a b c d f =
    ap (λ r. mend_then r (λ o z. mend_then (read e ns part.Members (suc l) z) (last_of e ns l))) a
    ∙ ap (λ r. mend_then r (last_of e ns l)) b
    ∙ ap (λ r. mend_then r (λ x w. name_of e ns l xs w)) c
    ∙ ap (λ r. mend_then r (λ n v. sign_of e ns l xs n v)) d
    ∙ ap (λ r. mend_then r (λ q u. Some (item.Enumeration (record { members = xs; name = name_at n }), u))) f

-- the type of a function, by smaller steps
pub function_type_steps : (e : ℕ) (ns : Names) (t : Token) (l : ℕ) (s : Place) → piece.function_type e ns t l s
    ≡ mend_then (read e ns (part.AnyType true false) l s) (λ r z. mend_then (pointed_name e ns l z) (λ n y. mend_then (type_signature e ns r n t.start l y)
    (λ x w. mend_then (one e ns (set.Sign sign.Semicolon) l w) (λ m v. Some (item.FunctionType x, v)))))
unfolding one pointed_name type_signature piece.function_type
function_type_steps e ns t l s = then_same (read e ns (part.AnyType true false) l s) _ _
    (λ r z. sym (then_assoc (read e ns (part.ParametersOf false) (suc l) _) _ _))
