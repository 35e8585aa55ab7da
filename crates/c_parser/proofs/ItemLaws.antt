-- Items by their steps.
use Rattle.std.proofs.Common.{◌≡◌, ℕ, suc, Bool, true, false, ◌&&◌, ◌==◌, List, [], ◌∷◌, ◌++◌, length, Option, Some, None, refl, sym}
use Rattle.std.proofs.Common.{ap, subst, ◌∙◌}
use Rattle.std.specs.List.{list_all}
use Rattle.predictive_grammar.specs.Forms.{Form, give as done}
use Rattle.mending_readers.specs.Mending.{Going, Stopped, mend_then, mend_token, mend_walk, next_in}
use Rattle.c_lexer.specs.declared.token.Keyword.TheVariants as keyword
use Rattle.c_lexer.specs.declared.token.Sign.TheVariants as sign
use Rattle.c_lexer.specs.declared.token.TokenKind.TheVariants as k
use Rattle.c_tree.specs.declared.names.Base.{Base}
use Rattle.c_tree.specs.declared.names.CType.{CType}
use Rattle.c_tree.specs.declared.names.Span.{Span}
use Rattle.c_tree.specs.declared.unit.Item.{Item}
use Rattle.c_tree.specs.declared.unit.Item.TheVariants as item
use Rattle.c_tree.specs.declared.unit.Member.{Member}
use Rattle.c_tree.specs.declared.unit.Parameter.{Parameter}
use Rattle.c_tree.specs.declared.unit.Signature.{Signature}
use Rattle.c_tree.specs.Items.{has_name, is_include}
use Rattle.c_tree.specs.Make.{name_at}
use Rattle.c_tree.specs.declared.names.Name.{Name as TreeName}
use Rattle.c_tree.specs.Names.{Names, FunctionName, VariableName, MemberName, declared, is_an_int, is_int, meaning_of_base, with_item}
use Rattle.c_tree.specs.Names.{with_members, with_name, with_parameters}
use Rattle.c_tree.specs.Words.{Terminal, Of, Token, Word, at}
use Rattle.c_grammar.specs.Sorts.{Name, kind, on}
use Rattle.c_grammar.specs.Tests.{is, word_is, sign_is, is_base, is_main, is_tag, is_name_of, begins_include, on_line}
use Rattle.c_grammar.specs.Parts as part
use Rattle.c_grammar.specs.Trees as tree
use Rattle.c_grammar.specs.Grammar as grammar
use Rattle.c_grammar.specs.Grammar.{C, form}
use Rattle.c_grammar.specs.Laws.{c_limits}
use Rattle.c_grammar.specs.Mending.{made_up}
use Rattle.c_grammar.proofs.Menders.{mender_unfolds}
use Rattle.c_nodes.specs.Rows.{row_of, stars_of, type_in_rows}
use Rattle.c_nodes.specs.declared.types.Stars.{Stars}
use Rattle.c_cursor.specs.Steps.{is_base_token}
use Rattle.c_cursor.specs.declared.sets.Set.TheVariants as set
use Rattle.c_cursor.specs.Gives.{seen_by}
use Rattle.c_nodes.specs.declared.token.Token.{Token as CodeToken}
use Rattle.c_parser.specs.Items.{IsOf, texts, with_texts}
use Rattle.c_parser.specs.Pieces as piece
use Rattle.c_parser.specs.Pieces.{named_texts, text_then}
use Rattle.c_cursor.specs.Reading.{Read, Place, one, is_next, read, way, first_then}
use Rattle.c_parser.specs.Rows.{joined}
use Rattle.c_cursor.specs.Sets.{is_in}
use Rattle.c_parser.proofs.Thens.{then_just, way_same}
use Rattle.c_parser.proofs.TypeRows.{seen_then, rest_law}
use Rattle.c_parser.proofs.Walks.{Free, free_give, free_take, free_part, free_pick, free_where, made_by, token_same, run, then_same, free_walk, by_form}

-- 1. Members

pub member_law : (e : ℕ) (ns : Names) (l : ℕ) (s : Place) → read e ns part.MemberOf l s
    ≡ mend_then (one e ns set.Name l s) (λ n z. mend_then (one e ns (set.Sign sign.Assign) l z)
    (λ a y. mend_then (read e ns part.SignedNumberOf l y) (λ x w. Some (record { name = name_at n; number = x }, w))))
unfolding run form one read
member_law e ns l s = by_form e ns part.MemberOf l s (free_take (λ n b. refl) (λ n. free_take (λ n b. refl) (λ a. free_part (λ x. free_give))))

pub members_law : (e : ℕ) (ns : Names) (l : ℕ) (s : Place) → read e ns part.Members l s
    ≡ mend_then (read e ns part.MemberOf l s) (λ m z. first_then m (read e ns part.MoreMembers l z))
unfolding run form read first_then
members_law e ns l s = by_form e ns part.Members l s (free_part (λ m. free_part (λ ms. free_give)))

pub more_members_law : (e : ℕ) (ns : Names) (l : ℕ) (s : Place) → read e ns part.MoreMembers l s
    ≡ way ns (set.Sign sign.Comma) s (mend_then (one e ns (set.Sign sign.Comma) l s)
    (λ t z. mend_then (read e ns part.MemberOf l z) (λ m y. first_then m (read e ns part.MoreMembers l y)))) (Some ([], s))
unfolding run form one is_next read first_then
more_members_law e ns l s = by_form e ns part.MoreMembers l s (free_where (λ t. free_part (λ m. free_part (λ ms. free_give))) free_give)

-- 2. What begins with `typedef`

tag_same : (e : ℕ) (g : Token) (x : Word) (l : ℕ) (s : Place)
    → mend_token C (made_up e) c_limits l 0 (is_name_of (tree.behind_first g.bytes)) (g ∷ x) s
    ≡ mend_token C (made_up e) c_limits l 0 (is_name_of (tree.behind_first g.bytes)) (g ∷ []) s
tag_same e g x l (Going []) = refl
tag_same e g x l (Going (t ∷ ts)) = refl
tag_same e g x l (Stopped ts) = refl

-- `struct` and a type, or the other ways
abbrev typedef_ways : (ns : Names) (t : Token) → Form C (part.at ns (part.TypedefRest t))
typedef_ways ns t =
    grammar.where_token ns (word_is keyword.Enum) (λ s. grammar.opening ns sign.OpenBrace
    (λ l. grammar.inner ns part.Members (λ ms. grammar.sign_here ns sign.CloseBrace
    (λ r. grammar.token ns (is Name) (λ n. grammar.sign_here ns sign.Semicolon (λ e.
    done (item.Enumeration (record { members = ms; name = name_at n }))))))))
    (grammar.here ns (part.AnyType true false) (λ r. grammar.opening ns sign.OpenParen
    (λ o. grammar.token_inside ns (sign_is sign.Star) (λ s. grammar.token_inside ns (is Name)
    (λ n. grammar.sign_here ns sign.CloseParen (λ c. grammar.opening ns sign.OpenParen (λ p.
    grammar.inner ns (part.ParametersOf false) (λ ps. grammar.sign_here ns sign.CloseParen
    (λ q. grammar.sign_here ns sign.Semicolon (λ e. done (item.FunctionType (tree.signature false r n ps t.start q))))))))))))

free_typedef : (ns : Names) (t : Token) → Free (typedef_ways ns t)
free_typedef ns t =
    free_where (λ s. free_take (λ n b. refl) (λ o. free_part
    (λ ms. free_take (λ n b. refl) (λ x. free_take (λ n b. refl) (λ n'. free_take (λ n b. refl) (λ q. free_give))))))
    (free_part (λ r. free_take (λ n b. refl) (λ o. free_take (λ n b. refl)
    (λ s. free_take (λ n b. refl) (λ n'. free_take (λ n b. refl) (λ c. free_take (λ n b. refl) (λ p.
    free_part (λ ps. free_take (λ n b. refl) (λ q. free_take (λ n b. refl) (λ m. free_give))))))))))

free_tag : (n : ℕ) (x : Token) → made_by is_tag n (x ∷ []) ≡ made_by is_tag n []
free_tag n x = refl

-- a tag, behind a token or none
tag_free : (e l : ℕ) (x : Token) (s : Place) → mend_token C (made_up e) c_limits l 0 is_tag (x ∷ []) s ≡ mend_token C (made_up e) c_limits l 0 is_tag [] s
tag_free e l x s = token_same e l is_tag (x ∷ []) s (λ n b. refl)

sign_free : (e l : ℕ) (ns : Names) (b : Word) (s : Place) → mend_token C (made_up e) c_limits l 0 (on ns (sign_is sign.Semicolon)) b s
    ≡ mend_token C (made_up e) c_limits l 0 (on ns (sign_is sign.Semicolon)) [] s
sign_free e l ns b s = token_same e l (on ns (sign_is sign.Semicolon)) b s (λ n b. refl)

abbrev last : Token × Place → Token → Read Item
last x n = Some (item.StructType (name_at n), x.1)

abbrev named_by : ℕ → Names → ℕ → Token × Place → Read Item
named_by e ns l y = last (mend_token C (made_up e) c_limits l 0 (on ns (sign_is sign.Semicolon)) [] y.1) y.0

abbrev tagged_by : ℕ → Names → ℕ → Token × Place → Read Item
tagged_by e ns l g = named_by e ns l (mend_token C (made_up e) c_limits l 0 (is_name_of (tree.behind_first g.0.bytes)) (g.0 ∷ []) g.1)

-- the same with all tokens before
abbrev tagged_in : ℕ → Names → ℕ → Token → Token × Place → Read Item
tagged_in e ns l x g =
    let y : Token × Place = mend_token C (made_up e) c_limits l 0 (is_name_of (tree.behind_first g.0.bytes)) (g.0 ∷ x ∷ []) g.1 in
    last (mend_token C (made_up e) c_limits l 0 (on ns (sign_is sign.Semicolon)) (y.0 ∷ g.0 ∷ x ∷ []) y.1) y.0

tagged : (e : ℕ) (ns : Names) (l : ℕ) (x : Token) (g : Token × Place) → tagged_in e ns l x g ≡ tagged_by e ns l g
tagged e ns l x g =
    let y : Token × Place = mend_token C (made_up e) c_limits l 0 (is_name_of (tree.behind_first g.0.bytes)) (g.0 ∷ []) g.1 in
    ap (λ (y : Token × Place). last (mend_token C (made_up e) c_limits l 0 (on ns (sign_is sign.Semicolon)) (y.0 ∷ g.0 ∷ x ∷ []) y.1) y.0)
    (tag_same e g.0 (x ∷ []) l g.1)
    ∙ ap (λ (z : Token × Place). last z y.0) (sign_free e l ns (y.0 ∷ g.0 ∷ x ∷ []) y.1)

pub typedef_law : (e : ℕ) (ns : Names) (t : Token) (l : ℕ) (s : Place) → read e ns (part.TypedefRest t) l s
    ≡ way ns (set.Word keyword.Struct) s (mend_then (one e ns (set.Word keyword.Struct) l s) (λ x z. piece.struct_type e ns l z))
    (way ns (set.Word keyword.Enum) s (mend_then (one e ns (set.Word keyword.Enum) l s) (λ x z. piece.enumeration e ns l z)) (piece.function_type e ns t l s))
unfolding mend_walk run form one is_next read piece.struct_type piece.tag_named piece.enumeration piece.function_type
typedef_law e ns t l s =
    let x : Token × Place = mend_token C (made_up e) c_limits l 0 (is_in (set.Word keyword.Struct) ns) [] s in
    mender_unfolds e c_limits (part.at ns (part.TypedefRest t)) l s
    ∙ way_same (next_in kind (on ns (word_is keyword.Struct)) s)
    (ap (tagged_in e ns l x.0) (tag_free e l x.0 x.1) ∙ tagged e ns l x.0 (mend_token C (made_up e) c_limits l 0 is_tag [] x.1))
    (free_walk e (free_typedef ns t) [] l s)

-- 3. Functions

free_declared_end : (ns : Names) (w : part.What) (b : Bool) (x : Signature) (f : Item → part.tree_of w) → Free (grammar.declared_end {w = w} ns b x f)
free_declared_end ns w true x f = free_where (λ q. free_give) (free_part (λ b. free_give))
free_declared_end ns w false x f = free_take (λ n b. refl) (λ q. free_give)

run_declared_end : (e : ℕ) (ns : Names) (b0 : Bool) (c0 : CType) (n0 : Token) (at0 : ℕ) (b : Bool) (x : Signature) (l : ℕ) (s : Place)
    → run e (grammar.declared_end {w = part.DeclaredOf b0 c0 n0 at0} ns b x (λ i. i)) l s ≡ piece.declared_end e (declared x.name FunctionName ∷ ns) b x l s
unfolding run one is_next read piece.declared_end
run_declared_end e ns b0 c0 n0 at0 true x l s = refl
run_declared_end e ns b0 c0 n0 at0 false x l s = refl

pub declared_law : (e : ℕ) (ns : Names) (b : Bool) (c : CType) (n : Token) (from l : ℕ) (s : Place) → read e ns (part.DeclaredOf b c n from) l s
    ≡ mend_then (one e ns (set.Sign sign.OpenParen) (suc l) s)
    (λ o z. mend_then (read e ns (part.ParametersOf (is_main n.bytes)) (suc l) z) (λ ps y. mend_then (one e ns (set.Sign sign.CloseParen) l y)
    (λ x w. piece.declared_end e (declared (name_at n) FunctionName ∷ ns) (list_all has_name ps) (tree.signature b c n ps from x) l w)))
unfolding run form one read
declared_law e ns b c n from l s = by_form e ns (part.DeclaredOf b c n from) l s
    (free_take (λ n b. refl) (λ o. free_part (λ ps. free_take (λ n b. refl)
    (λ x. free_declared_end ns (part.DeclaredOf b c n from) (list_all has_name ps) (tree.signature b c n ps from x) (λ i. i)))))
    ∙ then_same (read e ns (part.ParametersOf (is_main n.bytes)) (suc l) _) _ _ (λ ps y. run_declared_end e ns b c n from (list_all has_name ps) _ l _)

pub typed_law : (e : ℕ) (ns : Names) (c : CType) (l : ℕ) (s : Place) → read e ns (part.TypedEnd c) l s
    ≡ mend_then (one e ns (set.FreeName (is_int ns c)) l s) (λ n z. read e ns (part.DeclaredOf false c n c.span.start) l z)
unfolding run form one read
typed_law e ns c l s = by_form e ns (part.TypedEnd c) l s (free_take (λ n b. refl) (λ n. free_part (λ i. free_give))) ∙ then_just _

-- 4. Items

typed_go : (e : ℕ) (ns : Names) (line : Bool) (u : Word) (t : Token) (l : ℕ) (s : Place)
    → run e (grammar.typed_item {line = line} ns u t) l s ≡ piece.typed_item e ns (row_of u) t l s
unfolding run read piece.typed_item
typed_go e ns line u t l s =
    ap (λ o. mend_then o (λ c z. mend_then (read e ns (part.TypedEnd c) l z) (λ i y. Some (i, y)))) (rest_law e ns u t false l s)
    ∙ then_same (piece.type_rest e ns (row_of u) t false l s) _ _ (λ c z. then_just (read e ns (part.TypedEnd c) l z))

-- `const`, with others behind it
pub row_first : (t : Token) (u : Word) → row_of (t ∷ u) ≡ joined (Some (at t)) (row_of u)
row_first t [] = refl
row_first t (x ∷ u) = refl

-- behind `const`
const_go : (e : ℕ) (ns : Names) (line : Bool) (t : Token) (l : ℕ) (s : Place)
    → mend_then (read e ns part.Consts l s) (λ u y. mend_then (one e ns (set.Base true) l y) (λ b w. run e (grammar.typed_item {line = line} ns (t ∷ u) b) l w))
    ≡ mend_then (seen_by row_of (read e ns part.Consts l s))
    (λ r y. mend_then (one e ns (set.Base true) l y) (λ b w. piece.typed_item e ns (joined (Some (at t)) r) b l w))
const_go e ns line t l s =
    then_same (read e ns part.Consts l s) (λ u y. mend_then (one e ns (set.Base true) l y) (λ b w. run e (grammar.typed_item {line = line} ns (t ∷ u) b) l w))
    (λ u y. mend_then (one e ns (set.Base true) l y) (λ b w. piece.typed_item e ns (joined (Some (at t)) (row_of u)) b l w))
    (λ u y. then_same (one e ns (set.Base true) l y) (λ b w. run e (grammar.typed_item {line = line} ns (t ∷ u) b) l w)
    (λ b w. piece.typed_item e ns (joined (Some (at t)) (row_of u)) b l w)
    (λ b w. typed_go e ns line (t ∷ u) b l w ∙ ap (λ r. piece.typed_item e ns r b l w) (row_first t u)))
    ∙ sym (seen_then row_of (read e ns part.Consts l s) (λ r y. mend_then (one e ns (set.Base true) l y)
    (λ b w. piece.typed_item e ns (joined (Some (at t)) r) b l w)))

free_item : (ns : Names) (line : Bool) → Free (form ns (part.ItemOf line))
unfolding form
free_item ns line =
    free_where (λ t. free_take (λ n b. refl) (λ i. free_take (λ n b. refl) (λ h. free_give)))
    (free_where (λ t. free_part (λ i. free_give))
    (free_where (λ x. free_take (λ n b. refl) (λ g. free_take (λ n b. refl)
    (λ o. free_part (λ fs. free_take (λ n b. refl) (λ r. free_take (λ n b. refl) (λ q. free_give))))))
    (free_where (λ t. free_part (λ i. free_give))
    (free_where (λ t. free_part (λ u. free_take (λ n b. refl) (λ x. free_part (λ c. free_part (λ i. free_give)))))
    (free_base line)))))
  where
    free_base : (line : Bool) → Free {r = part.at ns (part.ItemOf line)} (grammar.token ns (on_line line (is_base true)) (λ b. grammar.typed_item ns [] b))
    free_base true = free_take (λ n b. refl) (λ x. free_part (λ c. free_part (λ i. free_give)))
    free_base false = free_take (λ n b. refl) (λ x. free_part (λ c. free_part (λ i. free_give)))

pub item_law : (e : ℕ) (ns : Names) (line : Bool) (l : ℕ) (s : Place) → read e ns (part.ItemOf line) l s
    ≡ way ns set.Hash s (mend_then (one e ns set.Hash l s) (λ t z. mend_then (one e ns set.IncludeWord l z)
    (λ i y. mend_then (one e ns set.File l y) (λ h w. Some (item.Include (tree.file_in h.terminal), w)))))
    (way ns (set.WordOnLine line keyword.Typedef) s (mend_then (one e ns (set.WordOnLine line keyword.Typedef) l s) (λ t z. read e ns (part.TypedefRest t) l z))
    (way ns (set.WordOnLine line keyword.Struct) s (mend_then (one e ns (set.WordOnLine line keyword.Struct) l s) (λ x z. piece.struct_rest e ns l z))
    (way ns (set.WordOnLine line keyword.Static) s (mend_then (one e ns (set.WordOnLine line keyword.Static) l s) (λ t z. read e ns (part.StaticRest t) l z))
    (way ns (set.WordOnLine line keyword.Const) s (mend_then (one e ns (set.WordOnLine line keyword.Const) l s)
    (λ t z. mend_then (seen_by row_of (read e ns part.Consts l z)) (λ r y. mend_then (one e ns (set.Base true) l y) (λ b w.
    piece.typed_item e ns (joined (Some (at t)) r) b l w))))
    (mend_then (one e ns (set.BaseOnLine line) l s) (λ b z. piece.typed_item e ns None b l z))))))
unfolding run form one is_next read piece.struct_rest
item_law e ns line l s =
    let t : Token × Place = mend_token C (made_up e) c_limits l 0 (is_in (set.WordOnLine line keyword.Const) ns) [] s in
    let b : Token × Place = mend_token C (made_up e) c_limits l 0 (is_in (set.BaseOnLine line) ns) [] s in
    by_form e ns (part.ItemOf line) l s (free_item ns line)
    ∙ way_same (next_in kind (on ns begins_include) s) refl
    (way_same (next_in kind (on ns (on_line line (word_is keyword.Typedef))) s) (then_just _)
    (way_same (next_in kind (on ns (on_line line (word_is keyword.Struct))) s) refl
    (way_same (next_in kind (on ns (on_line line (word_is keyword.Static))) s) (then_just _)
    (way_same (next_in kind (on ns (on_line line (word_is keyword.Const))) s)
    (const_go e ns line t.0 l t.1)
    (typed_go e ns line [] b.0 l b.1)))))

pub items_law : (e : ℕ) (ns : Names) (line : Bool) (l : ℕ) (s : Place) → read e ns (part.ItemsOf line) l s
    ≡ way ns (set.Item line) s (mend_then (read e ns (part.ItemOf line) l s)
    (λ i z. first_then i (read e (with_item ns i) (part.ItemsOf (is_include i)) l z))) (Some ([], s))
unfolding run form is_next read first_then
items_law e ns line l s = by_form e ns (part.ItemsOf line) l s (free_pick (free_part (λ i. free_part (λ is. free_give))) free_give)

-- 5. Names behind items

pub with_of : (ns : Names) (x : Signature) (i : Item) → IsOf x i → with_item ns i ≡ declared x.name FunctionName ∷ ns
with_of ns x (item.Prototype y) h = ap (λ (z : Signature). declared z.name FunctionName ∷ ns) h
with_of ns x (item.Function f) h = ap (λ (z : Signature). declared z.name FunctionName ∷ ns) h
with_of ns x (item.Include f) h = absurd h
with_of ns x (item.StructType n) h = absurd h
with_of ns x (item.Struct s) h = absurd h
with_of ns x (item.Enumeration e) h = absurd h
with_of ns x (item.FunctionType s) h = absurd h
with_of ns x (item.Variable v) h = absurd h
with_of ns x (item.InterfaceTable t) h = absurd h

pub with_members_more : (ns : Names) (ms : List Member) (m : Member) → with_members ns (ms ++ m ∷ []) ≡ declared m.name MemberName ∷ with_members ns ms
with_members_more ns [] m = refl
with_members_more ns (x ∷ ms) m = with_members_more (declared x.name MemberName ∷ ns) ms m

pub with_parameters_texts : (ns : Names) (ps : List Parameter) → with_parameters ns ps ≡ with_texts ns (named_texts ps)
with_parameters_texts ns [] = refl
with_parameters_texts ns (p ∷ ps) = go p.name (λ ms. with_parameters_texts ms ps)
  where
    go : (o : Option TreeName) → ((ms : Names) → with_parameters ms ps ≡ with_texts ms (named_texts ps))
        → with_parameters (with_name ns o) ps ≡ with_texts ns (text_then o (named_texts ps))
    go None h = h ns
    go (Some n) h = h (record { name = n.text; role = VariableName } ∷ ns)

pub length_texts : (ts : List CodeToken) → length (texts ts) ≡ length ts
length_texts [] = refl
length_texts (t ∷ ts) = ap suc (length_texts ts)

-- 6. Types that mean `int`

-- a type of this base, if one was read
abbrev OfBase : Base → Read CType → Type 0
OfBase x None = Unit {0}
OfBase x (Some r) = r.0.base ≡ x

pub rest_base : (e : ℕ) (ns : Names) (b : Option Span) (t : Token) (must : Bool) (l : ℕ) (s : Place) (c : CType) (z : Place)
    → piece.type_rest e ns b t must l s ≡ Some (c, z) → c.base ≡ tree.base_of t
unfolding piece.type_rest
rest_base e ns b t must l s c z h = subst (λ (o : Read CType). OfBase (tree.base_of t) o) h (go (seen_by row_of (read e ns part.Consts l s)))
  where
    in_stars : (v : Option Span) (o : Read Stars) → OfBase (tree.base_of t) (mend_then o (λ k y. Some (type_in_rows b t v k, y)))
    in_stars v None = tt
    in_stars v (Some k) = refl

    go : (o : Read (Option Span)) → OfBase (tree.base_of t) (mend_then o
        (λ v y. mend_then (seen_by stars_of (read e ns (part.Stars must) l y)) (λ k w. Some (type_in_rows b t v k, w))))
    go None = tt
    go (Some v) = in_stars v.0 (seen_by stars_of (read e ns (part.Stars must) l v.1))

base_int : (ns : Names) (x : Terminal) (w : List ℕ) (sp : Span) (line : Bool) → is_base_token x ≡ true
    → is_an_int (meaning_of_base ns (tree.base_in x (record { text = w; span = sp })))
    ≡ is_in set.IntBase ns (record { terminal = x; bytes = w; begins_line = line })
base_int ns (Of (k.Keyword keyword.Void)) w sp line h = refl
base_int ns (Of (k.Keyword keyword.Int)) w sp line h = refl
base_int ns (Of (k.Keyword keyword.Char)) w sp line h = refl
base_int ns (Of k.Identifier) w sp line h = refl
base_int ns (Of (k.Keyword y)) w sp line h = absurd cc
base_int ns x w sp line h = absurd cc

pub int_law : (ns : Names) (t : Token) (c : CType) → is_base_token t.terminal ≡ true → c.base ≡ tree.base_of t
    → is_int ns c ≡ (is_in set.IntBase ns (kind t) && c.stars == 0)
int_law ns t c h b = ap (λ x. is_an_int (meaning_of_base ns x) && c.stars == 0) b
    ∙ ap (λ x. x && c.stars == 0) (base_int ns t.terminal t.bytes (at t) t.begins_line h)
