-- Items that are written are read, at whatever places their tokens stand.
use Rattle.std.proofs.Common.{◌≡◌, ◌∙◌, refl, sym, ap, ap₂, subst, not, ℕ, Bool, true, false, cond, ◌&&◌, List, [], ◌∷◌, ◌++◌, map, append-nil, Option, Some, None}
use Rattle.std.specs.List.{list_all}
use Rattle.c_lexer.specs.declared.token.TokenKind.TheVariants as k
use Rattle.c_lexer.specs.declared.token.Sign.TheVariants as sign
use Rattle.c_tree.specs.declared.names.Base.{Base}
use Rattle.c_tree.specs.declared.names.Base.TheVariants as base
use Rattle.c_tree.specs.declared.names.CType.{CType}
use Rattle.c_tree.specs.declared.names.Name as tree
use Rattle.c_tree.specs.declared.code.Expr.{Expr}
use Rattle.c_tree.specs.declared.code.Local.{Local}
use Rattle.c_tree.specs.declared.code.Block.{Block}
use Rattle.c_tree.specs.declared.unit.Item.{Item}
use Rattle.c_tree.specs.declared.unit.Item.TheVariants as item
use Rattle.c_tree.specs.declared.unit.Member.{Member}
use Rattle.c_tree.specs.declared.unit.Parameter.{Parameter}
use Rattle.c_tree.specs.declared.unit.Signature.{Signature}
use Rattle.c_tree.specs.Words.{Token, Word, at, extent}
use Rattle.c_tree.specs.Names.{Names, declared, with_parameters, with_members, with_item, main_fits, is_int, is_texts, are_arguments, is_named_main, FunctionName, MemberName, TypeName, AnInt}
use Rattle.c_tree.specs.Types.{ReadsType}
use Rattle.c_tree.specs.Make.{name_at}
use Rattle.c_tree.specs.Values as v
use Rattle.c_tree.specs.Statements.{ReadsLocal, ReadsBlock}
use Rattle.c_tree.specs.Items as it
use Rattle.c_tree.specs.Items.{ReadsMember, member_is, ReadsMoreMembers, no_member, more_members, ReadsFields, no_field, more_fields, ReadsParameter, unnamed, named, ReadsMoreParameters, no_parameter, more_parameters, ReadsParameters, none_taken, some_taken, ReadsStatic, not_static, is_static, ReadsSignature, signature_is, ReadsItem, has_name, is_include}
use Rattle.c_tree.specs.Bare.{nowhere, bare_name, bare_base, bare_type, bare_expr, bare_local, bare_block, bare_member, bare_parameter, bare_signature, bare_item}
use Rattle.c_printer.specs.declared.grade.Brackets.{Brackets}
use Rattle.c_printer.specs.Alike.{Like, Alike}
use Rattle.c_printer.specs.Marks.{Marks, Name, ASign, Space, Line, token, word}
use Rattle.c_printer.specs.PutValues.{type_marks, value_marks}
use Rattle.c_printer.specs.PutStatements.{declared_marks, before_name, local_marks, locals_marks, block_marks}
use Rattle.c_printer.specs.PutItems.{closed_marks, member_line, next_member_marks, more_members_marks, enum_end_marks, parameter_marks, next_parameter_marks, more_parameters_marks, parameters_marks, static_marks, signature_marks, taken_by_pointer, set_marks, item_marks}
use Rattle.c_printer.proofs.TypeReading.{word_append, type_read}
use Rattle.c_printer.proofs.ValueReading.{value_read}
use Rattle.c_printer.proofs.StatementReading.{nameless, local_read, number_read, block_read}
use Rattle.c_printer.proofs.Moving.{at_end, at_token, at_both, same_object, MovedType, type_moved, moved}
use Rattle.c_printer.proofs.MovingStatements.{Kept, local_moved, number_moved, block_moved}
use Rattle.c_printer.proofs.Twice.{type_twice, local_twice, value_twice, block_twice}

-- 1. Parts that are read

at_marks : (a b : Marks) {z : Word} (P : Word → Type 0) → Alike (word (a ++ b)) z → ((x y : Word) → Alike (word a) x → Alike (word b) y → P (x ++ y)) → P z
at_marks a b {z} P al f = at_both (word a) (word b) P (subst (λ w. Alike w z) (word_append a b) al) f

type_here : {ns : Names} {anyhow : Bool} {w z : Word} {c : CType} → ReadsType ns anyhow w c → Alike (word (type_marks c)) z → MovedType ns anyhow z c
type_here {ns} {anyhow} {c} r al = let m = type_moved (type_read ns anyhow r) al in record { tree = m.tree; reads = m.reads; same = m.same ∙ type_twice c }

declared_here : {ns : Names} {anyhow : Bool} {w z : Word} {c : CType} → ReadsType ns anyhow w c → Alike (word (declared_marks c)) z → MovedType ns anyhow z c
declared_here {z} {c} r al = type_here r (subst (λ w. Alike w z) (word_append (type_marks c) (before_name c.stars) ∙ ap (λ w. word (type_marks c) ++ w) (nameless c.stars) ∙ append-nil (word (type_marks c))) al)

constant_here : (style : Brackets) → {ns : Names} {w z : Word} {a : Expr} → v.Reads ns true v.Value w a → Alike (word (value_marks style a)) z → Kept (v.Reads ns true v.Value) bare_expr z a
constant_here style {ns} r al = let m = moved ns true (value_read style ns true r) al in record { tree = m.tree; reads = m.reads; same = m.same ∙ value_twice ns true r }

local_here : {ns : Names} {w z : Word} {l : Local} → ReadsLocal ns w l → Alike (word (local_marks l)) z → Kept (ReadsLocal ns) bare_local z l
local_here {l} r al = let m = local_moved (local_read r) al in record { tree = m.tree; reads = m.reads; same = m.same ∙ local_twice l }

block_here : (style : Brackets) → {ns : Names} (n : ℕ) {w z : Word} {b : Block} → ReadsBlock ns w b → Alike (word (block_marks style b n)) z → Kept (ReadsBlock ns) bare_block z b
block_here style n r al = let m = block_moved (block_read style n r) al in record { tree = m.tree; reads = m.reads; same = m.same ∙ block_twice r }

name_here : (x : List ℕ) {t : Token} → Like (token k.Identifier x) t → bare_name (name_at t) ≡ record { text = x; span = nowhere }
name_here x l = ap (λ b. record { text = b; span = nowhere }) (l.named refl)

-- 2. Types

fields_here : {ns : Names} (n : ℕ) {w z : Word} {ls : List Local} → ReadsFields ns w ls → Alike (word (locals_marks n ls)) z → Kept (ReadsFields ns) (map bare_local) z ls
fields_here {ns} n no_field al = at_end (λ z. Kept (ReadsFields ns) (map bare_local) z []) al (record { tree = []; reads = no_field; same = refl })
fields_here {ns} n {ls} (more_fields {l} {ls = ms} r rest) al = at_marks (local_marks l) (locals_marks n ms) (λ z. Kept (ReadsFields ns) (map bare_local) z ls) al (λ x y a1 a2.
    let m = local_here r a1 in let q = fields_here n rest a2 in record { tree = m.tree ∷ q.tree; reads = more_fields m.reads q.reads; same = λ k. m.same k ∷ q.same k })

member_here : {w z : Word} {m : Member} → ReadsMember w m → Alike (word (member_line m)) z → Kept ReadsMember bare_member z m
member_here {m} (member_is {n} {x} i j r) al = at_token (λ z. Kept ReadsMember bare_member z m) al (λ n' y ln b. at_token (λ z. Kept ReadsMember bare_member (n' ∷ z) m) b (λ e' y1 le c.
    record { tree = record { name = name_at n'; number = x }; reads = member_is ln.terminal le.terminal (number_moved (number_read r) c); same = λ k. record { name = name_here n.bytes ln k; number = x } }))

more_members_here : {w z : Word} {ms : List Member} → ReadsMoreMembers w ms → Alike (word (more_members_marks ms)) z → Kept ReadsMoreMembers (map bare_member) z ms
more_members_here no_member al = at_end (λ z. Kept ReadsMoreMembers (map bare_member) z []) al (record { tree = []; reads = no_member; same = refl })
more_members_here {ms} (more_members {m} {ms = ns} i r rest) al = at_marks (next_member_marks m) (more_members_marks ns) (λ z. Kept ReadsMoreMembers (map bare_member) z ms) al (λ x y a1 a2.
    at_token (λ z. Kept ReadsMoreMembers (map bare_member) (z ++ y) ms) a1 (λ t' x1 lt b.
    let q = member_here r b in let p = more_members_here rest a2 in record { tree = q.tree ∷ p.tree; reads = more_members lt.terminal q.reads p.reads; same = λ k. q.same k ∷ p.same k }))

-- 3. Functions

parameter_here : {ns : Names} {w z : Word} {p : Parameter} → ReadsParameter ns w p → Alike (word (parameter_marks p)) z → Kept (ReadsParameter ns) bare_parameter z p
parameter_here (unnamed {c} r h) al = let m = type_here r al in record { tree = record { declared = m.tree; name = None }; reads = unnamed m.reads (same_object m.tree c m.same ∙ h); same = λ k. record { declared = m.same k; name = None } }
parameter_here {ns} {p} (named n {c} r h i) al = at_marks (declared_marks c) (Name n.bytes ∷ []) (λ z. Kept (ReadsParameter ns) bare_parameter z p) al (λ x y a1 a2.
    at_token (λ z. Kept (ReadsParameter ns) bare_parameter (x ++ z) p) a2 (λ n' y1 ln b. at_end (λ z. Kept (ReadsParameter ns) bare_parameter (x ++ n' ∷ z) p) b
    (let m = declared_here r a1 in record { tree = record { declared = m.tree; name = Some (name_at n') }; reads = named n' m.reads (same_object m.tree c m.same ∙ h) ln.terminal; same = λ k. record { declared = m.same k; name = Some (name_here n.bytes ln k) } })))

more_parameters_here : {ns : Names} {w z : Word} {ps : List Parameter} → ReadsMoreParameters ns w ps → Alike (word (more_parameters_marks ps)) z → Kept (ReadsMoreParameters ns) (map bare_parameter) z ps
more_parameters_here {ns} no_parameter al = at_end (λ z. Kept (ReadsMoreParameters ns) (map bare_parameter) z []) al (record { tree = []; reads = no_parameter; same = refl })
more_parameters_here {ns} {ps} (more_parameters {p} {ps = qs} i r rest) al = at_marks (next_parameter_marks p) (more_parameters_marks qs) (λ z. Kept (ReadsMoreParameters ns) (map bare_parameter) z ps) al (λ x y a1 a2.
    at_token (λ z. Kept (ReadsMoreParameters ns) (map bare_parameter) (z ++ y) ps) a1 (λ t' x1 lt b.
    let q = parameter_here r b in let m = more_parameters_here rest a2 in record { tree = q.tree ∷ m.tree; reads = more_parameters lt.terminal q.reads m.reads; same = λ k. q.same k ∷ m.same k }))

parameters_here : {ns : Names} {w z : Word} {ps : List Parameter} → ReadsParameters ns w ps → Alike (word (parameters_marks ps)) z → Kept (ReadsParameters ns) (map bare_parameter) z ps
parameters_here {ns} (none_taken i j h) al = at_token (λ z. Kept (ReadsParameters ns) (map bare_parameter) z []) al (λ t' y lt b. at_token (λ z. Kept (ReadsParameters ns) (map bare_parameter) (t' ∷ z) []) b (λ x' y1 lx c. at_token (λ z. Kept (ReadsParameters ns) (map bare_parameter) (t' ∷ x' ∷ z) []) c (λ s' y2 ls d.
    at_end (λ z. Kept (ReadsParameters ns) (map bare_parameter) (t' ∷ x' ∷ s' ∷ z) []) d (record { tree = []; reads = none_taken lt.terminal lx.terminal ls.terminal; same = refl }))))
parameters_here {ns} {ps} (some_taken s {p} {ps = qs} i r rest j) al = at_token (λ z. Kept (ReadsParameters ns) (map bare_parameter) z ps) al (λ t' y0 lt b.
    at_marks (parameter_marks p ++ more_parameters_marks qs) (ASign sign.CloseParen ∷ []) (λ z. Kept (ReadsParameters ns) (map bare_parameter) (t' ∷ z) ps) b (λ x y a1 a2.
    at_marks (parameter_marks p) (more_parameters_marks qs) (λ z. Kept (ReadsParameters ns) (map bare_parameter) (t' ∷ z ++ y) ps) a1 (λ u' w' b1 b2.
    at_token (λ z. Kept (ReadsParameters ns) (map bare_parameter) (t' ∷ u' ++ w' ++ z) ps) a2 (λ s' y1 ls c. at_end (λ z. Kept (ReadsParameters ns) (map bare_parameter) (t' ∷ u' ++ w' ++ s' ∷ z) ps) c
    (let q = parameter_here r b1 in let m = more_parameters_here rest b2 in record { tree = q.tree ∷ m.tree; reads = some_taken s' lt.terminal q.reads m.reads ls.terminal; same = λ k. q.same k ∷ m.same k })))))

static_here : {w z : Word} {b : Bool} → ReadsStatic w b → Alike (word (static_marks b)) z → ReadsStatic z b
static_here not_static al = at_end (λ z. ReadsStatic z false) al not_static
static_here (is_static i) al = at_token (λ z. ReadsStatic z true) al (λ t y l b. at_end (λ z. ReadsStatic (t ∷ z) true) b (is_static l.terminal))

int_bare : (ns : Names) (c : CType) → is_int ns (bare_type c) ≡ is_int ns c
int_bare ns c = go c.base
  where
    go : (b : Base) → is_int ns (record { base = bare_base b; is_const = c.is_const; stars = c.stars; span = nowhere }) ≡ is_int ns (record { base = b; is_const = c.is_const; stars = c.stars; span = c.span })
    go base.Void = refl
    go base.Int = refl
    go base.Char = refl
    go (base.Named x) = refl

texts_bare : (ns : Names) (c : CType) → is_texts ns (bare_type c) ≡ is_texts ns c
texts_bare ns c = go c.base
  where
    go : (b : Base) → is_texts ns (record { base = bare_base b; is_const = c.is_const; stars = c.stars; span = nowhere }) ≡ is_texts ns (record { base = b; is_const = c.is_const; stars = c.stars; span = c.span })
    go base.Void = refl
    go base.Int = refl
    go base.Char = refl
    go (base.Named x) = refl

arguments_bare : (ns : Names) (ps : List Parameter) → are_arguments ns (map bare_parameter ps) ≡ are_arguments ns ps
arguments_bare ns [] = refl
arguments_bare ns (a ∷ []) = refl
arguments_bare ns (a ∷ b ∷ []) = ap₂ (λ x y. x && y) (int_bare ns a.declared) (texts_bare ns b.declared)
arguments_bare ns (a ∷ b ∷ c ∷ ps) = refl

main_bare : (ns : Names) (s : Signature) → main_fits ns (bare_signature s) ≡ main_fits ns s
main_bare ns s = ap₂ (λ x y. cond (is_named_main s) (bare_of_static && x && y) true) (int_bare ns s.result) (arguments_bare ns s.parameters)
  where
    bare_of_static : Bool
    bare_of_static = Rattle.c_tree.specs.Names.not_static s.is_static

signature_here : {ns : Names} {w z : Word} {s : Signature} → ReadsSignature ns w s → Alike (word (signature_marks s)) z → Kept (ReadsSignature ns) bare_signature z s
signature_here {ns} {s} (signature_is n {b} {c} {ps} rb rc i rp h) al =
    at_marks (static_marks b ++ declared_marks c) (Name n.bytes ∷ Space ∷ parameters_marks ps) (λ z. Kept (ReadsSignature ns) bare_signature z s) al (λ x y a1 a2.
    at_marks (static_marks b) (declared_marks c) (λ z. Kept (ReadsSignature ns) bare_signature (z ++ y) s) a1 (λ u' v' b1 b2.
    at_token (λ z. Kept (ReadsSignature ns) bare_signature (u' ++ v' ++ z) s) a2 (λ n' w' ln c1.
    let m = declared_here rc b2 in let q = parameters_here rp c1 in
    made u' v' n' w' m q ln (static_here rb b1))))
  where
    made : (u' v' : Word) (n' : Token) (w' : Word) (m : MovedType ns true v' c) (q : Kept (ReadsParameters ns) (map bare_parameter) w' ps) → Like (token k.Identifier n.bytes) n' → ReadsStatic u' b → Kept (ReadsSignature ns) bare_signature (u' ++ v' ++ n' ∷ w') s
    made u' v' n' w' m q ln st =
        let t : Signature = record { is_static = b; result = m.tree; name = name_at n'; parameters = q.tree; span = extent (u' ++ v' ++ n' ∷ w') } in
        let e : bare_signature t ≡ bare_signature s = λ k. record { is_static = b; result = m.same k; name = name_here n.bytes ln k; parameters = q.same k; span = nowhere } in
        record { tree = t; reads = signature_is n' st m.reads ln.terminal q.reads (sym (main_bare ns t) ∙ ap (main_fits ns) e ∙ main_bare ns s ∙ h); same = e }

name_bare : (p : Parameter) → has_name (bare_parameter p) ≡ has_name p
name_bare p = go p.name
  where
    go : (o : Option tree.Name) → has_name (bare_parameter (record { declared = p.declared; name = o })) ≡ has_name (record { declared = p.declared; name = o })
    go None = refl
    go (Some x) = refl

names_bare : (ps : List Parameter) → list_all has_name (map bare_parameter ps) ≡ list_all has_name ps
names_bare [] = refl
names_bare (p ∷ ps) = ap₂ (λ x y. x && y) (name_bare p) (names_bare ps)

pub scope_bare : (ns : Names) (ps : List Parameter) → with_parameters ns (map bare_parameter ps) ≡ with_parameters ns ps
scope_bare ns [] = refl
scope_bare ns (p ∷ ps) = scope_bare (Rattle.c_tree.specs.Names.with_name ns (bare_parameter p).name) ps ∙ ap (λ s. with_parameters s ps) (go p.name)
  where
    go : (o : Option tree.Name) → Rattle.c_tree.specs.Names.with_name ns (bare_parameter (record { declared = p.declared; name = o })).name ≡ Rattle.c_tree.specs.Names.with_name ns o
    go None = refl
    go (Some x) = refl

-- 4. Items

-- the items that are no `#include` line
abbrev pub is_code : Item → Bool
is_code i = not (is_include i)

members_bare : (ns : Names) (ms : List Member) → with_members ns (map bare_member ms) ≡ with_members ns ms
members_bare ns [] = refl
members_bare ns (m ∷ ms) = members_bare (declared m.name MemberName ∷ ns) ms

pub item_scope_bare : (ns : Names) (i : Item) → with_item ns (bare_item i) ≡ with_item ns i
item_scope_bare ns (item.Include f) = refl
item_scope_bare ns (item.StructType x) = refl
item_scope_bare ns (item.Struct s) = refl
item_scope_bare ns (item.Enumeration e) = ap (λ ms. declared e.name (TypeName AnInt) ∷ ms) (members_bare ns e.members)
item_scope_bare ns (item.FunctionType s) = refl
item_scope_bare ns (item.Prototype s) = refl
item_scope_bare ns (item.Variable v) = refl
item_scope_bare ns (item.InterfaceTable t) = refl
item_scope_bare ns (item.Function f) = refl

pub include_bare : (i : Item) → is_include (bare_item i) ≡ is_include i
include_bare (item.Include f) = refl
include_bare (item.StructType x) = refl
include_bare (item.Struct s) = refl
include_bare (item.Enumeration e) = refl
include_bare (item.FunctionType s) = refl
include_bare (item.Prototype s) = refl
include_bare (item.Variable v) = refl
include_bare (item.InterfaceTable t) = refl
include_bare (item.Function f) = refl

never : false ≡ true → ⊥
never e = absurd cc

pub item_here : (style : Brackets) → {ns : Names} {w : Word} {i : Item} → ReadsItem ns w i → is_code i ≡ true → {z : Word} → Alike (word (item_marks style i)) z → Kept (ReadsItem ns) bare_item z i
item_here style {ns} (it.includes a b c d e) h al = absurd (never h)
item_here style {ns} {i} (it.struct_type {n} i1 i2 i3 i4 i5) h al =
    at_token (λ z. Kept (ReadsItem ns) bare_item z i) al (λ t' y1 lt b1. at_token (λ z. Kept (ReadsItem ns) bare_item (t' ∷ z) i) b1 (λ s' y2 ls b2. at_token (λ z. Kept (ReadsItem ns) bare_item (t' ∷ s' ∷ z) i) b2 (λ g' y3 lg b3.
    at_token (λ z. Kept (ReadsItem ns) bare_item (t' ∷ s' ∷ g' ∷ z) i) b3 (λ n' y4 ln b4. at_token (λ z. Kept (ReadsItem ns) bare_item (t' ∷ s' ∷ g' ∷ n' ∷ z) i) b4 (λ e' y5 le b5. at_end (λ z. Kept (ReadsItem ns) bare_item (t' ∷ s' ∷ g' ∷ n' ∷ e' ∷ z) i) b5
    (record { tree = item.StructType (name_at n'); reads = it.struct_type lt.terminal ls.terminal (lg.terminal, lg.named refl ∙ sym (ap (λ x. 95 ∷ x) (ln.named refl))) ln.terminal le.terminal; same = ap item.StructType (name_here n.bytes ln) }))))))
item_here style {ns} {i} (it.struct_is {g} r e {x} {fs} i1 i2 i3 rf i4 i5) h al =
    at_token (λ z. Kept (ReadsItem ns) bare_item z i) al (λ s' y1 ls b1. at_token (λ z. Kept (ReadsItem ns) bare_item (s' ∷ z) i) b1 (λ g' y2 lg b2. at_token (λ z. Kept (ReadsItem ns) bare_item (s' ∷ g' ∷ z) i) b2 (λ l' y3 ll b3.
    at_marks (locals_marks 4 fs) closed_marks (λ z. Kept (ReadsItem ns) bare_item (s' ∷ g' ∷ l' ∷ z) i) b3 (λ w' y4 c1 c2.
    at_token (λ z. Kept (ReadsItem ns) bare_item (s' ∷ g' ∷ l' ∷ w' ++ z) i) c2 (λ r' y5 lr c3. at_token (λ z. Kept (ReadsItem ns) bare_item (s' ∷ g' ∷ l' ∷ w' ++ r' ∷ z) i) c3 (λ e' y6 le c4. at_end (λ z. Kept (ReadsItem ns) bare_item (s' ∷ g' ∷ l' ∷ w' ++ r' ∷ e' ∷ z) i) c4
    (let m = fields_here 4 rf c1 in
    record {
      tree = item.Struct (record { name = record { text = x; span = at g' }; fields = m.tree });
      reads = it.struct_is r' e' ls.terminal (lg.terminal, lg.named refl) ll.terminal m.reads lr.terminal le.terminal;
      same = λ k. item.Struct (record { name = record { text = x; span = nowhere }; fields = m.same k });
    })))))))
item_here style {ns} {i} (it.enum_is r n e {m} {ms} i1 i2 i3 rm rms i4 i5 i6) h al =
    at_token (λ z. Kept (ReadsItem ns) bare_item z i) al (λ t' y1 lt b1. at_token (λ z. Kept (ReadsItem ns) bare_item (t' ∷ z) i) b1 (λ s' y2 ls b2. at_token (λ z. Kept (ReadsItem ns) bare_item (t' ∷ s' ∷ z) i) b2 (λ l' y3 ll b3.
    at_marks (member_line m ++ more_members_marks ms) (enum_end_marks (name_at n)) (λ z. Kept (ReadsItem ns) bare_item (t' ∷ s' ∷ l' ∷ z) i) b3 (λ x4 y4 c1 c2.
    at_marks (member_line m) (more_members_marks ms) (λ z. Kept (ReadsItem ns) bare_item (t' ∷ s' ∷ l' ∷ z ++ y4) i) c1 (λ u' w' d1 d2.
    at_token (λ z. Kept (ReadsItem ns) bare_item (t' ∷ s' ∷ l' ∷ u' ++ w' ++ z) i) c2 (λ r' y5 lr c3. at_token (λ z. Kept (ReadsItem ns) bare_item (t' ∷ s' ∷ l' ∷ u' ++ w' ++ r' ∷ z) i) c3 (λ n' y6 ln c4.
    at_token (λ z. Kept (ReadsItem ns) bare_item (t' ∷ s' ∷ l' ∷ u' ++ w' ++ r' ∷ n' ∷ z) i) c4 (λ e' y7 le c5. at_end (λ z. Kept (ReadsItem ns) bare_item (t' ∷ s' ∷ l' ∷ u' ++ w' ++ r' ∷ n' ∷ e' ∷ z) i) c5
    (let p = member_here rm d1 in let q = more_members_here rms d2 in
    record {
      tree = item.Enumeration (record { members = p.tree ∷ q.tree; name = name_at n' });
      reads = it.enum_is r' n' e' lt.terminal ls.terminal ll.terminal p.reads q.reads lr.terminal ln.terminal le.terminal;
      same = λ k. item.Enumeration (record { members = p.same k ∷ q.same k; name = name_here n.bytes ln k });
    })))))))))
item_here style {ns} {i} (it.function_type o s n c e {r} {ps} i1 rc i2 i3 i4 i5 rp i6) h al =
    at_token (λ z. Kept (ReadsItem ns) bare_item z i) al (λ t' y1 lt b1.
    at_marks (declared_marks r ++ taken_by_pointer (name_at n) ps) (ASign sign.Semicolon ∷ []) (λ z. Kept (ReadsItem ns) bare_item (t' ∷ z) i) b1 (λ x2 y2 c1 c2.
    at_marks (declared_marks r) (taken_by_pointer (name_at n) ps) (λ z. Kept (ReadsItem ns) bare_item (t' ∷ z ++ y2) i) c1 (λ u' x3 d1 d2.
    at_token (λ z. Kept (ReadsItem ns) bare_item (t' ∷ u' ++ z ++ y2) i) d2 (λ o' x4 lo d3. at_token (λ z. Kept (ReadsItem ns) bare_item (t' ∷ u' ++ o' ∷ z ++ y2) i) d3 (λ s' x5 ls d4. at_token (λ z. Kept (ReadsItem ns) bare_item (t' ∷ u' ++ o' ∷ s' ∷ z ++ y2) i) d4 (λ n' x6 ln d5.
    at_token (λ z. Kept (ReadsItem ns) bare_item (t' ∷ u' ++ o' ∷ s' ∷ n' ∷ z ++ y2) i) d5 (λ c' w' lc d6.
    at_token (λ z. Kept (ReadsItem ns) bare_item (t' ∷ u' ++ o' ∷ s' ∷ n' ∷ c' ∷ w' ++ z) i) c2 (λ e' y3 le c3. at_end (λ z. Kept (ReadsItem ns) bare_item (t' ∷ u' ++ o' ∷ s' ∷ n' ∷ c' ∷ w' ++ e' ∷ z) i) c3
    (let m = declared_here rc d1 in let q = parameters_here rp d6 in
    record {
      tree = item.FunctionType (record { is_static = false; result = m.tree; name = name_at n'; parameters = q.tree; span = extent (t' ∷ u' ++ o' ∷ s' ∷ n' ∷ c' ∷ w') });
      reads = it.function_type o' s' n' c' e' lt.terminal m.reads lo.terminal ls.terminal ln.terminal lc.terminal q.reads le.terminal;
      same = λ k. item.FunctionType (record { is_static = false; result = m.same k; name = name_here n.bytes ln k; parameters = q.same k; span = nowhere });
    })))))))))
item_here style {ns} {i} (it.prototype e {s} rs i1) h al =
    at_marks (signature_marks s) (ASign sign.Semicolon ∷ []) (λ z. Kept (ReadsItem ns) bare_item z i) al (λ x y a1 a2.
    at_token (λ z. Kept (ReadsItem ns) bare_item (x ++ z) i) a2 (λ e' y1 le b. at_end (λ z. Kept (ReadsItem ns) bare_item (x ++ e' ∷ z) i) b
    (let m = signature_here rs a1 in record { tree = item.Prototype m.tree; reads = it.prototype e' m.reads le.terminal; same = ap item.Prototype m.same })))
item_here style {ns} {i} (it.static_variable n a e {c} {x = y} i1 rc o i2 i3 ra i4) h al =
    at_token (λ z. Kept (ReadsItem ns) bare_item z i) al (λ t' y1 lt b1.
    at_marks (declared_marks c ++ set_marks style (name_at n) y) (ASign sign.Semicolon ∷ []) (λ z. Kept (ReadsItem ns) bare_item (t' ∷ z) i) b1 (λ x2 y2 c1 c2.
    at_marks (declared_marks c) (set_marks style (name_at n) y) (λ z. Kept (ReadsItem ns) bare_item (t' ∷ z ++ y2) i) c1 (λ u' x3 d1 d2.
    at_token (λ z. Kept (ReadsItem ns) bare_item (t' ∷ u' ++ z ++ y2) i) d2 (λ n' x4 ln d3. at_token (λ z. Kept (ReadsItem ns) bare_item (t' ∷ u' ++ n' ∷ z ++ y2) i) d3 (λ a' w' la d4.
    at_token (λ z. Kept (ReadsItem ns) bare_item (t' ∷ u' ++ n' ∷ a' ∷ w' ++ z) i) c2 (λ e' y3 le c3. at_end (λ z. Kept (ReadsItem ns) bare_item (t' ∷ u' ++ n' ∷ a' ∷ w' ++ e' ∷ z) i) c3
    (let m = declared_here rc d1 in let q = constant_here style ra d4 in
    record {
      tree = item.Variable (record { declared = m.tree; name = name_at n'; value = q.tree });
      reads = it.static_variable n' a' e' lt.terminal m.reads (same_object m.tree c m.same ∙ o) ln.terminal la.terminal q.reads le.terminal;
      same = λ k. item.Variable (record { declared = m.same k; name = name_here n.bytes ln k; value = q.same k });
    })))))))
item_here style {ns} {i} (it.interface_table {n} {f} i1 i2 i3 i4 i5 i6 i7 i8 i9 j1 j2 j3 j4 j5 j6 j7) h al =
    at_token (λ z. Kept (ReadsItem ns) bare_item z i) al (λ t1 y1 l1 b1. at_token (λ z. Kept (ReadsItem ns) bare_item (t1 ∷ z) i) b1 (λ t2 y2 l2 b2. at_token (λ z. Kept (ReadsItem ns) bare_item (t1 ∷ t2 ∷ z) i) b2 (λ t3 y3 l3 b3.
    at_token (λ z. Kept (ReadsItem ns) bare_item (t1 ∷ t2 ∷ t3 ∷ z) i) b3 (λ t4 y4 l4 b4. at_token (λ z. Kept (ReadsItem ns) bare_item (t1 ∷ t2 ∷ t3 ∷ t4 ∷ z) i) b4 (λ t5 y5 l5 b5. at_token (λ z. Kept (ReadsItem ns) bare_item (t1 ∷ t2 ∷ t3 ∷ t4 ∷ t5 ∷ z) i) b5 (λ t6 y6 l6 b6.
    at_token (λ z. Kept (ReadsItem ns) bare_item (t1 ∷ t2 ∷ t3 ∷ t4 ∷ t5 ∷ t6 ∷ z) i) b6 (λ t7 y7 l7 b7. at_token (λ z. Kept (ReadsItem ns) bare_item (t1 ∷ t2 ∷ t3 ∷ t4 ∷ t5 ∷ t6 ∷ t7 ∷ z) i) b7 (λ t8 y8 l8 b8.
    at_token (λ z. Kept (ReadsItem ns) bare_item (t1 ∷ t2 ∷ t3 ∷ t4 ∷ t5 ∷ t6 ∷ t7 ∷ t8 ∷ z) i) b8 (λ t9 y9 l9 b9. at_token (λ z. Kept (ReadsItem ns) bare_item (t1 ∷ t2 ∷ t3 ∷ t4 ∷ t5 ∷ t6 ∷ t7 ∷ t8 ∷ t9 ∷ z) i) b9 (λ ta ya la ba.
    at_token (λ z. Kept (ReadsItem ns) bare_item (t1 ∷ t2 ∷ t3 ∷ t4 ∷ t5 ∷ t6 ∷ t7 ∷ t8 ∷ t9 ∷ ta ∷ z) i) ba (λ tb yb lb bb. at_token (λ z. Kept (ReadsItem ns) bare_item (t1 ∷ t2 ∷ t3 ∷ t4 ∷ t5 ∷ t6 ∷ t7 ∷ t8 ∷ t9 ∷ ta ∷ tb ∷ z) i) bb (λ tc yc lc bc.
    at_token (λ z. Kept (ReadsItem ns) bare_item (t1 ∷ t2 ∷ t3 ∷ t4 ∷ t5 ∷ t6 ∷ t7 ∷ t8 ∷ t9 ∷ ta ∷ tb ∷ tc ∷ z) i) bc (λ td yd ld bd. at_token (λ z. Kept (ReadsItem ns) bare_item (t1 ∷ t2 ∷ t3 ∷ t4 ∷ t5 ∷ t6 ∷ t7 ∷ t8 ∷ t9 ∷ ta ∷ tb ∷ tc ∷ td ∷ z) i) bd (λ te ye le be.
    at_token (λ z. Kept (ReadsItem ns) bare_item (t1 ∷ t2 ∷ t3 ∷ t4 ∷ t5 ∷ t6 ∷ t7 ∷ t8 ∷ t9 ∷ ta ∷ tb ∷ tc ∷ td ∷ te ∷ z) i) be (λ tf yf lf bf. at_token (λ z. Kept (ReadsItem ns) bare_item (t1 ∷ t2 ∷ t3 ∷ t4 ∷ t5 ∷ t6 ∷ t7 ∷ t8 ∷ t9 ∷ ta ∷ tb ∷ tc ∷ td ∷ te ∷ tf ∷ z) i) bf (λ tg yg lg bg.
    at_end (λ z. Kept (ReadsItem ns) bare_item (t1 ∷ t2 ∷ t3 ∷ t4 ∷ t5 ∷ t6 ∷ t7 ∷ t8 ∷ t9 ∷ ta ∷ tb ∷ tc ∷ td ∷ te ∷ tf ∷ tg ∷ z) i) bg
    (record {
      tree = item.InterfaceTable (record { name = name_at t4; init = name_at ta });
      reads = it.interface_table l1.terminal l2.terminal (l3.terminal, l3.named refl) l4.terminal l5.terminal l6.terminal l7.terminal (l8.terminal, l8.named refl) l9.terminal la.terminal lb.terminal lc.terminal ld.terminal le.terminal lf.terminal lg.terminal;
      same = λ k. item.InterfaceTable (record { name = name_here n.bytes l4 k; init = name_here f.bytes la k });
    })))))))))))))))))
item_here style {ns} {i} (it.function_is {s} {b} rs names rb) h al =
    at_marks (signature_marks s) (Line 0 ∷ block_marks style b 0) (λ z. Kept (ReadsItem ns) bare_item z i) al (λ x y a1 a2.
    let m = signature_here rs a1 in let q = block_here style 0 rb a2 in
    record {
      tree = item.Function (record { signature = m.tree; body = q.tree });
      reads = it.function_is m.reads (sym (names_bare m.tree.parameters) ∙ ap (λ t. list_all has_name t.parameters) m.same ∙ names_bare s.parameters ∙ names) (subst (λ n. ReadsBlock n y q.tree) (sym (scope m.tree m.same)) q.reads);
      same = λ k. item.Function (record { signature = m.same k; body = q.same k });
    })
  where
    scope : (t : Signature) → bare_signature t ≡ bare_signature s → with_parameters (declared t.name FunctionName ∷ ns) t.parameters ≡ with_parameters (declared s.name FunctionName ∷ ns) s.parameters
    scope t e = sym (scope_bare (declared t.name FunctionName ∷ ns) t.parameters) ∙ ap (λ r. with_parameters (declared r.name FunctionName ∷ ns) r.parameters) e ∙ scope_bare (declared s.name FunctionName ∷ ns) s.parameters
