-- Statements and blocks are read by their forms.
use Rattle.std.proofs.Common.{◌≡◌, Bool, true, false, List, [], ◌∷◌, ◌++◌, Option, Some, None, refl, sym, ap, subst, ◌∙◌, append-nil, append_assoc, true≢false}
use Rattle.predictive_grammar.specs.Forms.{Form, give}
use Rattle.c_lexer.specs.declared.token.Keyword.TheVariants as keyword
use Rattle.c_lexer.specs.declared.token.Sign.TheVariants as sign
use Rattle.c_tree.specs.declared.names.CType.{CType}
use Rattle.c_tree.specs.declared.names.SignedNumber.{SignedNumber}
use Rattle.c_tree.specs.declared.operators.PrefixOperator.{PrefixOperator}
use Rattle.c_tree.specs.declared.code.Expr.{Expr}
use Rattle.c_tree.specs.declared.code.Suffix.{Suffix}
use Rattle.c_tree.specs.declared.code.Choice.{Choice}
use Rattle.c_tree.specs.declared.code.Local.{Local}
use Rattle.c_tree.specs.declared.code.Call.{Call}
use Rattle.c_tree.specs.declared.code.Case.{Case}
use Rattle.c_tree.specs.declared.code.Stmt.{Stmt}
use Rattle.c_tree.specs.declared.code.Stmt.TheVariants as stmt
use Rattle.c_tree.specs.declared.code.Block.{Block}
use Rattle.c_tree.specs.Words.{Terminal, Token, Word, IsSign, IsWord, IsName, join}
use Rattle.c_tree.specs.Words.{at as at_token}
use Rattle.c_tree.specs.Names.{Names, Role, TypeName, RowName, VariableName, FunctionName, MemberName, Unknown, role_of, with_local, with_locals}
use Rattle.c_tree.specs.Types.{can_be_type}
use Rattle.c_tree.specs.Make.{name_at, suffixed, bracketed, conditional, block}
use Rattle.c_tree.specs.Values as v
use Rattle.c_tree.specs.Values.{is_place, is_deref}
use Rattle.c_tree.specs.Statements.{ReadsLocal, local_is, ReadsLocals, no_local, more_locals, ReadsNumber, number_is, negative_is, ReadsCall, call_value, call_row, call_type_row, ReadsPlace, place_is, ReadsGoto, goto_is, ReadsCases, no_case, more_cases, ReadsStmt, assigns, calls, stores, if_block, if_else, if_goto, goes, labels, switches, returns, returns_value, blocks, ReadsStmts, no_stmt, more_stmts, ReadsBlock, block_is}
use Rattle.c_grammar.specs.Sorts.{Number}
use Rattle.c_grammar.specs.Tests.{is, is_callee_role, is_value_role}
use Rattle.c_grammar.specs.Trees.{type_of, no_stars, sign_prefix, cast_prefix, prefix_in, with_prefixes, one_prefix, name_value, signed, number_in, local, value_call, row_call, call_stmt}
use Rattle.c_grammar.specs.Parts.{What, tree_of, at, TypeMore, AnyType, Prefixed, Unnamed, Value, ChoosingTail, Arguments, MoreArguments, LocalOf, LocalRest, SignedNumberOf, GotoOf, Cases, BlockOf, Body, Statements, Statement, PlainStmt, NamedStmt, ValueStmt, Assigned, AssignedTail, ElseOf, Suffixes}
use Rattle.c_grammar.specs.Grammar.{C, form, local_end, body_behind, statements_behind, body_named, call_behind, row_behind, label_behind, named_behind, stored_behind, value_behind, assigned_named, called_or_value}
use Rattle.c_grammar.proofs.Told.{Told, gave, took, got, one, other, last, Texts, text_of}
use Rattle.c_grammar.proofs.Tokens.{passes, sign_passes, word_passes, name_passes, name_with_passes}
use Rattle.c_grammar.proofs.Meaning.{IfMust, starts_well, is_some}
use Rattle.c_grammar.proofs.FindTypes.{find_type, TypeStart, key_start, bare_start, name_start as type_name_start, start_type}
use Rattle.c_grammar.proofs.FindValues.{name_start, unnamed_start, bracket_start, OperandStart, operand_is, PrefixedStart, sign_start, address_start, cast_start, operand_start, FoundValue, starts_told, place_is_deref, deref_is_star, value_text, find}

-- 1. Calls

call_told : (ns : Names) {r : What} (o : Option Expr) (a : Expr) (f : Stmt → tree_of r) (t s e : Token) {w : Word} {xs : List Expr} → IsSign t sign.OpenParen → Texts (at ns Arguments) w xs → IsSign s sign.CloseParen → IsSign e sign.Semicolon
    → Told Texts (at ns r) (call_behind ns o a f) (t ∷ (w ++ (s ∷ e ∷ []))) (f (call_stmt o (value_call a xs s)))
call_told ns o a f t s e {xs = xs} i d j h = took t (sign_passes ns sign.OpenParen t i) (got xs d (took s (sign_passes ns sign.CloseParen s j) (took e (sign_passes ns sign.Semicolon e h) (gave _))))

row_told : (ns : Names) {r : What} (o : Option Expr) (n : Token) (f : Stmt → tree_of r) (t s e : Token) {w : Word} {xs : List Expr} → IsSign t sign.OpenParen → Texts (at ns Arguments) w xs → IsSign s sign.CloseParen → IsSign e sign.Semicolon
    → Told Texts (at ns r) (row_behind ns o n false f) (t ∷ (w ++ (s ∷ e ∷ []))) (f (call_stmt o (row_call n None xs s)))
row_told ns o n f t s e {xs = xs} i d j h = took t (sign_passes ns sign.OpenParen t i) (got xs d (took s (sign_passes ns sign.CloseParen s j) (took e (sign_passes ns sign.Semicolon e h) (gave _))))

type_row_told : (ns : Names) {r : What} (o : Option Expr) (n : Token) (f : Stmt → tree_of r) (t s e : Token) {u w : Word} {c : CType} {xs : List Expr} → IsSign t sign.OpenParen → Texts (at ns (AnyType true true)) u c
    → Texts (at ns MoreArguments) w xs → IsSign s sign.CloseParen → IsSign e sign.Semicolon
    → Told Texts (at ns r) (row_behind ns o n true f) (t ∷ (u ++ (w ++ (s ∷ e ∷ [])))) (f (call_stmt o (row_call n (Some c) xs s)))
type_row_told ns o n f t s e {c = c} {xs = xs} i b d j h =
    took t (sign_passes ns sign.OpenParen t i) (got c b (got xs d (took s (sign_passes ns sign.CloseParen s j) (took e (sign_passes ns sign.Semicolon e h) (gave _)))))

-- 2. How statements begin

pub data FoundStmt (ns : Names) : Word → Stmt → Type 0 where
  named_stmt : (t : Token) {w : Word} {s : Stmt} → IsName t → Texts (at ns (NamedStmt t)) w s → FoundStmt ns (t ∷ w) s
  plain_stmt : {w : Word} {s : Stmt} → Texts (at ns PlainStmt) w s → FoundStmt ns w s

found_at : {ns : Names} {s : Stmt} {u w : Word} → u ≡ w → FoundStmt ns u s → FoundStmt ns w s
found_at {ns = ns} {s = s} e d = subst (λ (z : Word). FoundStmt ns z s) e d

-- a name, by its role
named_text : (ns : Names) (t : Token) (r : Role) {w : Word} {s : Stmt} → role_of ns t.bytes ≡ r → Told Texts (at ns (NamedStmt t)) (named_behind ns t r) w s → Texts (at ns (NamedStmt t)) w s
unfolding form
named_text ns t r {w = w} {s = s} e d = text_of ns (NamedStmt t) (subst (λ (r : Role). Told Texts (at ns (NamedStmt t)) (named_behind ns t r) w s) (sym e) d)

value_role_told : (ns : Names) (t : Token) (r : Role) {w : Word} {s : Stmt} → is_value_role false r ≡ true → Texts (at ns (ValueStmt (name_value ns t))) w s → Told Texts (at ns (NamedStmt t)) (named_behind ns t r) w s
value_role_told ns t VariableName {s = s} e d = other (last s d (gave s))
value_role_told ns t FunctionName {s = s} e d = other (last s d (gave s))
value_role_told ns t MemberName {s = s} e d = other (last s d (gave s))
value_role_told ns t Unknown {s = s} e d = other (last s d (gave s))
value_role_told ns t (TypeName m) e d = absurd (true≢false (sym e))
value_role_told ns t (RowName b) e d = absurd (true≢false (sym e))

label_told : (ns : Names) (t : Token) (r : Role) {w : Word} {s : Stmt} → Told Texts (at ns (NamedStmt t)) (label_behind ns t) w s → Told Texts (at ns (NamedStmt t)) (named_behind ns t r) w s
label_told ns t (TypeName m) d = d
label_told ns t VariableName d = one d
label_told ns t FunctionName d = one d
label_told ns t MemberName d = one d
label_told ns t Unknown d = one d
label_told ns t (RowName b) d = one d

-- an operand and its suffixes, behind which it is stored or called
value_stmt_text : (ns : Names) (a : Expr) (w z : Word) (xs : List Suffix) {s : Stmt} → ((dot must : Bool) → starts_well dot xs ≡ true → IfMust must (is_some xs) → Texts (at ns (Suffixes dot must)) w xs) → v.may_follow a xs ≡ true
    → Told Texts (at ns (ValueStmt a)) (stored_behind ns (is_place (suffixed a xs)) (suffixed a xs) (λ s. s)) z s → Texts (at ns (ValueStmt a)) (w ++ z) s
unfolding form
value_stmt_text ns a w z xs g m d = text_of ns (ValueStmt a) (got xs (g (is_place a) false (starts_told a xs m) (λ i. absurd (true≢false (sym i)))) d)

unnamed_text : (ns : Names) {w z : Word} {a : Expr} {s : Stmt} → Texts (at ns Unnamed) w a → Texts (at ns (ValueStmt a)) z s → Texts (at ns PlainStmt) (w ++ z) s
unfolding form
unnamed_text ns {a = a} {s = s} d e = text_of ns PlainStmt (other (other (one (got a d (last s e (gave s))))))

bracket_text : (ns : Names) (t s : Token) {u z : Word} {a : Expr} {x : Stmt} → IsSign t sign.OpenParen → Texts (at ns (Value false)) u a → IsSign s sign.CloseParen → Texts (at ns (ValueStmt (bracketed (join (at_token t) (at_token s)) a))) z x
    → Texts (at ns PlainStmt) (t ∷ (u ++ (s ∷ z))) x
unfolding form
bracket_text ns t s {a = a} {x = x} e d f g = text_of ns PlainStmt (other (one (took t (sign_passes ns sign.OpenParen t e) (got a d (took s (sign_passes ns sign.CloseParen s f) (last x g (gave x)))))))

operand_stmt : (ns : Names) {w : Word} {a : Expr} (z : Word) (s : Stmt) → OperandStart ns false w a → ((o : Expr) → Told Texts (at ns (ValueStmt o)) (stored_behind ns (is_place a) a (λ s. s)) z s) → FoundStmt ns (w ++ z) s
operand_stmt ns z s (operand_is w xs (name_start t i e) g m) d =
    named_stmt t i (named_text ns t (role_of ns t.bytes) refl (value_role_told ns t (role_of ns t.bytes) e (value_stmt_text ns (name_value ns t) w z xs g m (d (name_value ns t)))))
operand_stmt ns z s (operand_is {u = u} w {a = a} xs (unnamed_start e) g m) d =
    found_at (sym (append_assoc u w z)) (plain_stmt (unnamed_text ns e (value_stmt_text ns a w z xs g m (d a))))
operand_stmt ns z s (operand_is w xs (bracket_start t q {u = u} {a = a} i e f) g m) d =
    found_at (ap (λ (y : Word). t ∷ y) (sym (append_assoc (u ++ (q ∷ [])) w z ∙ append_assoc u (q ∷ []) (w ++ z))))
    (plain_stmt (bracket_text ns t q i e f (value_stmt_text ns (bracketed (join (at_token t) (at_token q)) a) w z xs g m (d _))))

-- a place and `=`
stored_told : (ns : Names) (o a : Expr) (b : Bool) (t : Token) {w : Word} {s : Stmt} → b ≡ true → IsSign t sign.Assign → Texts (at ns (Assigned a)) w s → Told Texts (at ns (ValueStmt o)) (stored_behind ns b a (λ s. s)) (t ∷ w) s
stored_told ns o a true t {s = s} e i d = one (took t (sign_passes ns sign.Assign t i) (last s d (gave s)))
stored_told ns o a false t e i d = absurd (true≢false (sym e))

called_told : (ns : Names) (o a : Expr) (b : Bool) {w : Word} {s : Stmt} → Told Texts (at ns (ValueStmt o)) (call_behind ns None a (λ s. s)) w s → Told Texts (at ns (ValueStmt o)) (stored_behind ns b a (λ s. s)) w s
called_told ns o a true d = other d
called_told ns o a false d = d

star_stmt : (ns : Names) (t e : Token) {w z : Word} (r : List PrefixOperator × Expr) {s : Stmt} → IsSign t sign.Star → Texts (at ns (Prefixed false)) w r → IsSign e sign.Assign → Texts (at ns (Assigned (with_prefixes (one_prefix (sign_prefix t) r)))) z s
    → Texts (at ns PlainStmt) (t ∷ (w ++ (e ∷ z))) s
unfolding form
star_stmt ns t e r {s = s} i d j f = text_of ns PlainStmt (one (took t (sign_passes ns sign.Star t i) (got r d (took e (sign_passes ns sign.Assign e j) (last s f (gave s))))))

place_stmt : (ns : Names) {w : Word} {x : List PrefixOperator × Expr} (e : Token) (z : Word) (s : Stmt) → PrefixedStart ns false w x → is_place (with_prefixes x) ≡ true → IsSign e sign.Assign → Texts (at ns (Assigned (with_prefixes x))) z s
    → FoundStmt ns (w ++ (e ∷ z)) s
place_stmt ns e z s (sign_start t {r = r} i d) p j f = plain_stmt (star_stmt ns t e r (deref_is_star t.terminal (sym (place_is_deref (sign_prefix t) r) ∙ p)) d j f)
place_stmt ns e z s (address_start t {r = r} c i d) p j f = absurd (true≢false (sym p ∙ place_is_deref (sign_prefix t) r ∙ ap (λ (x : Terminal). is_deref (prefix_in x)) i))
place_stmt ns e z s (cast_start t q {y = y} {r = r} i d h g) p j f = absurd (true≢false (sym p ∙ place_is_deref (cast_prefix t y q) r))
place_stmt ns e z s (operand_start {a = a} d) p j f = operand_stmt ns (e ∷ z) s d (λ o. stored_told ns o a (is_place a) e p j f)

-- a place
pub record FoundPlace (ns : Names) (w : Word) (a : Expr) : Type 0 where
  pub operand : List PrefixOperator × Expr
  pub start : PrefixedStart ns false w operand
  pub same : with_prefixes operand ≡ a
  pub place : is_place (with_prefixes operand) ≡ true

find_place : (ns : Names) {w : Word} {a : Expr} → ReadsPlace ns w a → FoundPlace ns w a
find_place ns {w = w} (place_is d p) =
    let s = find d in record {
      operand = s.operand;
      start = subst (λ (z : Word). PrefixedStart ns false z s.operand) (sym (append-nil s.word) ∙ ap (λ (z : Word). s.word ++ z) (sym s.tail.0) ∙ sym s.same) s.prefixed;
      same = s.tail.1;
      place = ap is_place s.tail.1 ∙ p;
    }

stored_stmt : (ns : Names) {w z : Word} {a : Expr} (e : Token) (s : Stmt) → ReadsPlace ns w a → IsSign e sign.Assign → Texts (at ns (Assigned a)) z s → FoundStmt ns (w ++ (e ∷ z)) s
stored_stmt ns {z = z} e s d j f = let p = find_place ns d in place_stmt ns e z s p.start p.place j (subst (λ (a : Expr). Texts (at ns (Assigned a)) z s) (sym p.same) f)

-- 3. What is stored

assigned_tail_text : (ns : Names) (b a : Expr) (w z : Word) (xs : List Suffix) {s : Stmt} → ((dot must : Bool) → starts_well dot xs ≡ true → IfMust must (is_some xs) → Texts (at ns (Suffixes dot must)) w xs) → v.may_follow a xs ≡ true
    → Told Texts (at ns (AssignedTail b a)) (called_or_value ns b a xs) z s → Texts (at ns (AssignedTail b a)) (w ++ z) s
unfolding form
assigned_tail_text ns b a w z xs g m d = text_of ns (AssignedTail b a) (got xs (g (is_place a) false (starts_told a xs m) (λ i. absurd (true≢false (sym i)))) d)

callee_told : (ns : Names) (b : Expr) (t : Token) (r : Role) {w : Word} {s : Stmt} → is_value_role false r ≡ true → Texts (at ns (AssignedTail b (name_value ns t))) w s → Told Texts (at ns (Assigned b)) (assigned_named ns t r) w s
callee_told ns b t VariableName {s = s} e d = last s d (gave s)
callee_told ns b t FunctionName {s = s} e d = last s d (gave s)
callee_told ns b t MemberName {s = s} e d = last s d (gave s)
callee_told ns b t Unknown {s = s} e d = last s d (gave s)
callee_told ns b t (TypeName m) e d = absurd (true≢false (sym e))
callee_told ns b t (RowName c) e d = absurd (true≢false (sym e))

callee_role : (r : Role) → is_value_role false r ≡ true → is_callee_role r ≡ true
callee_role (RowName c) e = refl
callee_role (TypeName m) e = e
callee_role VariableName e = e
callee_role FunctionName e = e
callee_role MemberName e = e
callee_role Unknown e = e

assigned_name_text : (ns : Names) (b : Expr) (t : Token) (r : Role) {w : Word} {s : Stmt} → IsName t → role_of ns t.bytes ≡ r → is_callee_role r ≡ true → Told Texts (at ns (Assigned b)) (assigned_named ns t r) w s → Texts (at ns (Assigned b)) (t ∷ w) s
unfolding form
assigned_name_text ns b t r {w = w} {s = s} i e h d =
    text_of ns (Assigned b) (one (took t (name_with_passes ns is_callee_role t i (ap is_callee_role e ∙ h)) (subst (λ (r : Role). Told Texts (at ns (Assigned b)) (assigned_named ns t r) w s) (sym e) d)))

assigned_bracket : (ns : Names) (b : Expr) (t s : Token) {u z : Word} {a : Expr} {x : Stmt} → IsSign t sign.OpenParen → Texts (at ns (Value false)) u a → IsSign s sign.CloseParen
    → Texts (at ns (AssignedTail b (bracketed (join (at_token t) (at_token s)) a))) z x → Texts (at ns (Assigned b)) (t ∷ (u ++ (s ∷ z))) x
unfolding form
assigned_bracket ns b t s {a = a} {x = x} e d f g =
    text_of ns (Assigned b) (other (other (other (one (took t (sign_passes ns sign.OpenParen t e) (other (got a d (took s (sign_passes ns sign.CloseParen s f) (last x g (gave x))))))))))

assigned_unnamed : (ns : Names) (b : Expr) {w z : Word} {a : Expr} {s : Stmt} → Texts (at ns Unnamed) w a → Texts (at ns (AssignedTail b a)) z s → Texts (at ns (Assigned b)) (w ++ z) s
unfolding form
assigned_unnamed ns b {a = a} {s = s} d e = text_of ns (Assigned b) (other (other (other (other (got a d (last s e (gave s)))))))

text_at : {ns : Names} {q : What} {x : tree_of q} {u w : Word} → u ≡ w → Texts (at ns q) u x → Texts (at ns q) w x
text_at {ns = ns} {q = q} {x = x} e d = subst (λ (z : Word). Texts (at ns q) z x) e d

assigned_operand : (ns : Names) (b : Expr) {w : Word} {y : Expr} (z : Word) (s : Stmt) → OperandStart ns false w y
    → ((a : Expr) (xs : List Suffix) → suffixed a xs ≡ y → Told Texts (at ns (AssignedTail b a)) (called_or_value ns b a xs) z s) → Texts (at ns (Assigned b)) (w ++ z) s
assigned_operand ns b z s (operand_is w xs (name_start t i e) g m) d =
    assigned_name_text ns b t (role_of ns t.bytes) i refl (callee_role (role_of ns t.bytes) e)
    (callee_told ns b t (role_of ns t.bytes) e (assigned_tail_text ns b (name_value ns t) w z xs g m (d (name_value ns t) xs refl)))
assigned_operand ns b z s (operand_is {u = u} w {a = a} xs (unnamed_start e) g m) d =
    text_at {q = Assigned b} (sym (append_assoc u w z)) (assigned_unnamed ns b e (assigned_tail_text ns b a w z xs g m (d a xs refl)))
assigned_operand ns b z s (operand_is w xs (bracket_start t q {u = u} {a = a} i e f) g m) d =
    text_at {q = Assigned b} (ap (λ (y : Word). t ∷ y) (sym (append_assoc (u ++ (q ∷ [])) w z ∙ append_assoc u (q ∷ []) (w ++ z))))
    (assigned_bracket ns b t q i e f (assigned_tail_text ns b (bracketed (join (at_token t) (at_token q)) a) w z xs g m (d (bracketed (join (at_token t) (at_token q)) a) xs refl)))

-- the rest of a value and `;`
end_told : (ns : Names) (b a : Expr) (e : Token) {w : Word} (r : List Choice × Expr) → Texts (at ns (ChoosingTail false a)) w r → IsSign e sign.Semicolon → Told Texts (at ns (Assigned b)) (value_behind ns a) (w ++ (e ∷ [])) (stmt.Assign b (conditional r.0 r.1))
end_told ns b a e r d i = got r d (took e (sign_passes ns sign.Semicolon e i) (gave _))

tail_end_told : (ns : Names) (b a y : Expr) (xs : List Suffix) (e : Token) {w : Word} (r : List Choice × Expr) → suffixed a xs ≡ y → Texts (at ns (ChoosingTail false y)) w r → IsSign e sign.Semicolon
    → Told Texts (at ns (AssignedTail b a)) (called_or_value ns b a xs) (w ++ (e ∷ [])) (stmt.Assign b (conditional r.0 r.1))
tail_end_told ns b a y xs e {w = w} r h d i = other (got r (subst (λ (y : Expr). Texts (at ns (ChoosingTail false y)) w r) (sym h) d) (took e (sign_passes ns sign.Semicolon e i) (gave _)))

assigned_start : (ns : Names) (b : Expr) (e : Token) {u w : Word} {x : List PrefixOperator × Expr} (r : List Choice × Expr) → PrefixedStart ns false u x → Texts (at ns (ChoosingTail false (with_prefixes x))) w r → IsSign e sign.Semicolon
    → Texts (at ns (Assigned b)) (u ++ (w ++ (e ∷ []))) (stmt.Assign b (conditional r.0 r.1))
unfolding form
assigned_start ns b e r (sign_start t {r = x} i d) f g = text_of ns (Assigned b) (other (one (took t i (got x d (end_told ns b (with_prefixes (one_prefix (sign_prefix t) x)) e r f g)))))
assigned_start ns b e r (address_start t {r = x} c i d) f g =
    text_of ns (Assigned b) (other (other (one (took t (sign_passes ns sign.Ampersand t i) (got x d (end_told ns b (with_prefixes (one_prefix (sign_prefix t) x)) e r f g))))))
assigned_start ns b e {w = w} r (cast_start t s {u = u} {w = z} {y = y} {r = x} i d j h) f g =
    text_at {q = Assigned b} (ap (λ (z : Word). t ∷ z) (sym (append_assoc u (s ∷ z) (w ++ (e ∷ [])))))
    (text_of ns (Assigned b) (other (other (other (one (took t (sign_passes ns sign.OpenParen t i) (one (got y d (took s (sign_passes ns sign.CloseParen s j) (got x h (end_told ns b (with_prefixes (one_prefix (cast_prefix t y s) x)) e r f g)))))))))))
assigned_start ns b e {w = w} r (operand_start {a = y} d) f g = assigned_operand ns b (w ++ (e ∷ [])) (stmt.Assign b (conditional r.0 r.1)) d (λ a xs h. tail_end_told ns b a y xs e r h f g)

assigned_value : (ns : Names) (b : Expr) (e : Token) {w : Word} {x : Expr} → FoundValue ns false w x → IsSign e sign.Semicolon → Texts (at ns (Assigned b)) (w ++ (e ∷ [])) (stmt.Assign b x)
assigned_value ns b e {w = w} f g =
    let s = f.split in
    subst (λ (x : Expr). Texts (at ns (Assigned b)) (w ++ (e ∷ [])) (stmt.Assign b x)) (sym f.tree)
    (text_at {q = Assigned b} (sym (append_assoc s.word s.rest (e ∷ [])) ∙ ap (λ (z : Word). z ++ (e ∷ [])) (sym s.same)) (assigned_start ns b e f.parts s.prefixed s.tail g))

-- 4. Statements of calls

call_word : (u : Word) (t : Token) (w : Word) (s e : Token) → u ++ (t ∷ (w ++ (s ∷ e ∷ []))) ≡ (u ++ t ∷ w ++ s ∷ []) ++ (e ∷ [])
call_word u t w s e = sym (append_assoc (u ++ t ∷ w) (s ∷ []) (e ∷ []) ∙ append_assoc u (t ∷ w) (s ∷ e ∷ []))

type_row_word : (n t : Token) (u w : Word) (s e : Token) → n ∷ t ∷ (u ++ (w ++ (s ∷ e ∷ []))) ≡ (n ∷ t ∷ u ++ w ++ s ∷ []) ++ (e ∷ [])
type_row_word n t u w s e = sym (append_assoc (n ∷ t ∷ u ++ w) (s ∷ []) (e ∷ []) ∙ append_assoc (n ∷ t ∷ u) w (s ∷ e ∷ []))

call_found : (ns : Names) (e : Token) {w : Word} {c : Call} → ReadsCall ns w c → IsSign e sign.Semicolon → FoundStmt ns (w ++ (e ∷ [])) (stmt.Call c)
call_found ns e (call_value t s {u = u} {w = w} {a = a} {xs = xs} d i g j) h = found_at (call_word u t w s e)
    (operand_stmt ns (t ∷ (w ++ (s ∷ e ∷ []))) (stmt.Call (value_call a xs s)) (find d) (λ o. called_told ns o a (is_place a) (call_told ns None a (λ s. s) t s e i (find g) j h)))
call_found ns e (call_row {n = n} {t = t} s {w = w} i r f g j) h = found_at (call_word (n ∷ []) t w s e) (named_stmt n i (named_text ns n (RowName false) r (other (row_told ns None n (λ s. s) t s e f (find g) j h))))
call_found ns e (call_type_row {n = n} {t = t} s {u = u} {w = w} i r f y o g j) h = found_at (type_row_word n t u w s e)
    (named_stmt n i (named_text ns n (RowName true) r (other (type_row_told ns None n (λ s. s) t s e f (find_type ns true true y (λ i. o)) (find g) j h))))

assigned_call_told : (ns : Names) (b a y : Expr) (xs : List Suffix) {z : Word} {s : Stmt} → suffixed a xs ≡ y → Told Texts (at ns (AssignedTail b a)) (call_behind ns (Some b) y (λ s. s)) z s → Told Texts (at ns (AssignedTail b a)) (called_or_value ns b a xs) z s
assigned_call_told ns b a y xs {z = z} {s = s} h d = one (subst (λ (y : Expr). Told Texts (at ns (AssignedTail b a)) (call_behind ns (Some b) y (λ s. s)) z s) (sym h) d)

assigned_call : (ns : Names) (b : Expr) (e : Token) {w : Word} {c : Call} → ReadsCall ns w c → IsSign e sign.Semicolon → Texts (at ns (Assigned b)) (w ++ (e ∷ [])) (stmt.Store b c)
assigned_call ns b e (call_value t s {u = u} {w = w} {a = y} {xs = xs} d i g j) h = text_at {q = Assigned b} (call_word u t w s e)
    (assigned_operand ns b (t ∷ (w ++ (s ∷ e ∷ []))) (stmt.Store b (value_call y xs s)) (find d) (λ a ys f. assigned_call_told ns b a y ys f (call_told ns (Some b) y (λ s. s) t s e i (find g) j h)))
assigned_call ns b e (call_row {n = n} {t = t} s {w = w} i r f g j) h = text_at {q = Assigned b} (call_word (n ∷ []) t w s e)
    (assigned_name_text ns b n (RowName false) i r refl (row_told ns (Some b) n (λ s. s) t s e f (find g) j h))
assigned_call ns b e (call_type_row {n = n} {t = t} s {u = u} {w = w} i r f y o g j) h = text_at {q = Assigned b} (type_row_word n t u w s e)
    (assigned_name_text ns b n (RowName true) i r refl (type_row_told ns (Some b) n (λ s. s) t s e f (find_type ns true true y (λ i. o)) (find g) j h))

-- 5. Declarations, numbers, `goto` and cases

local_end_told : (ns : Names) {r : What} (c : CType) (n e : Token) (f : Local → Form C (at ns r)) {z : Word} {x : tree_of r} → IsName n → IsSign e sign.Semicolon → Told Texts (at ns r) (f (local c n)) z x → Told Texts (at ns r) (local_end ns c f) (n ∷ e ∷ z) x
local_end_told ns c n e f i j d = took n (name_passes ns n i) (took e (sign_passes ns sign.Semicolon e j) d)

pub find_local : (ns : Names) {w : Word} {l : Local} → ReadsLocal ns w l → Texts (at ns LocalOf) w l
unfolding form
find_local ns (local_is n e {c = c} d o i j) = text_of ns LocalOf (got c (find_type ns true true d (λ i. o)) (local_end_told ns c n e (λ l. give l) i j (gave (local c n))))

pub find_number : (ns : Names) {w : Word} {x : SignedNumber} → ReadsNumber w x → Texts (at ns SignedNumberOf) w x
unfolding form
find_number ns (number_is {t = t} {n = n} {y = y} e) = subst (λ (x : Terminal). Texts (at ns SignedNumberOf) (t ∷ []) (record { is_negative = false; number = number_in x })) e
    (text_of ns SignedNumberOf (other (took t (passes ns (is Number) t e refl) (gave (signed false t)))))
find_number ns (negative_is {s = s} {t = t} i e) = subst (λ (x : Terminal). Texts (at ns SignedNumberOf) (s ∷ t ∷ []) (record { is_negative = true; number = number_in x })) e
    (text_of ns SignedNumberOf (one (took s (sign_passes ns sign.Minus s i) (took t (passes ns (is Number) t e refl) (gave (signed true t))))))

pub find_goto : (ns : Names) {w : Word} {n : Token} → ReadsGoto w n → Texts (at ns GotoOf) w n
unfolding form
find_goto ns (goto_is {t = t} {n = n} {e = e} i j h) = text_of ns GotoOf (took t (word_passes ns keyword.Goto t i) (took n (name_passes ns n j) (took e (sign_passes ns sign.Semicolon e h) (gave n))))

find_cases : (ns : Names) {w z : Word} {cs : List Case} (d c : Token) {n : Token} → ReadsCases w cs → IsWord d keyword.Default → IsSign c sign.Colon → Texts (at ns GotoOf) z n → Texts (at ns Cases) (w ++ (d ∷ c ∷ z)) (cs, n)
unfolding form
find_cases ns d c {n = n} no_case i j g = text_of ns Cases (other (took d (word_passes ns keyword.Default d i) (took c (sign_passes ns sign.Colon c j) (last n g (gave ([], n))))))
find_cases ns {z = z} d c {n = n} (more_cases {t = t} s m {u = u} {v = y} {w = w} {x = x} {cs = cs} e a f b h) i j g =
    text_at {q = Cases} (sym (append_assoc (t ∷ u ++ s ∷ y) w (d ∷ c ∷ z) ∙ append_assoc (t ∷ u) (s ∷ y) (w ++ (d ∷ c ∷ z))))
    (text_of ns Cases (one (took t (word_passes ns keyword.Case t e) (got x (find_number ns a) (took s (sign_passes ns sign.Colon s f) (got m (find_goto ns b) (last (cs, n) (find_cases ns d c h i j g) (gave _))))))))

-- 6. Bodies of blocks

pub data FoundStmts (ns : Names) : Word → List Stmt → Type 0 where
  none_found : FoundStmts ns [] []
  some_found : {u w : Word} {s : Stmt} {ss : List Stmt} → FoundStmt ns u s → Texts (at ns Statements) w ss → FoundStmts ns (u ++ w) (s ∷ ss)

pub statement_text : (ns : Names) {w : Word} {s : Stmt} → FoundStmt ns w s → Texts (at ns Statement) w s
unfolding form
statement_text ns {s = s} (named_stmt t i d) = text_of ns Statement (one (took t (name_passes ns t i) (last s d (gave s))))
statement_text ns {s = s} (plain_stmt d) = text_of ns Statement (other (last s d (gave s)))

statements_text : (ns : Names) {w : Word} {ss : List Stmt} → FoundStmts ns w ss → Texts (at ns Statements) w ss
unfolding form
statements_text ns none_found = text_of ns Statements (other (gave []))
statements_text ns (some_found {s = s} {ss = ss} d e) = text_of ns Statements (one (got s (statement_text ns d) (last ss e (gave (s ∷ ss)))))

statements_behind_told : (ns : Names) (s : Stmt) {w : Word} {ss : List Stmt} → Texts (at ns Statements) w ss → Told Texts (at ns Body) (statements_behind ns s) w ([], s ∷ ss)
statements_behind_told ns s {ss = ss} d = last ss d (gave ([], s ∷ ss))

named_stmt_told : (ns : Names) (t : Token) (b : Bool) {u w : Word} {s : Stmt} {ss : List Stmt} → Texts (at ns (NamedStmt t)) u s → Texts (at ns Statements) w ss → Told Texts (at ns Body) (body_named ns t b) (u ++ w) ([], s ∷ ss)
named_stmt_told ns t true {s = s} d e = other (got s d (statements_behind_told ns s e))
named_stmt_told ns t false {s = s} d e = got s d (statements_behind_told ns s e)

body_statements : (ns : Names) {w : Word} {ss : List Stmt} → FoundStmts ns w ss → Texts (at ns Body) w ([], ss)
unfolding form
body_statements ns none_found = text_of ns Body (other (other (other (gave ([], [])))))
body_statements ns (some_found (named_stmt t i d) e) = text_of ns Body (other (one (took t (name_passes ns t i) (named_stmt_told ns t (can_be_type true (role_of ns t.bytes)) d e))))
body_statements ns (some_found {s = s} (plain_stmt d) e) = text_of ns Body (other (other (one (got s d (statements_behind_told ns s e)))))

body_behind_told : (ns : Names) (l : Local) {w : Word} (x : List Local × List Stmt) → Texts (at (with_local ns l) Body) w x → Told Texts (at ns Body) (body_behind ns l) w (l ∷ x.0, x.1)
body_behind_told ns l x d = last x d (gave (l ∷ x.0, x.1))

rest_text : (ns : Names) (t n e : Token) {w : Word} {c : CType} → Texts (at ns (TypeMore [] t)) w c → IsName n → IsSign e sign.Semicolon → Texts (at ns (LocalRest t)) (w ++ (n ∷ e ∷ [])) (local c n)
unfolding form
rest_text ns t n e {c = c} d i j = text_of ns (LocalRest t) (one (got c d (local_end_told ns c n e (λ l. give l) i j (gave (local c n)))))

bare_text : (ns : Names) (t n e : Token) → IsName n → IsSign e sign.Semicolon → Texts (at ns (LocalRest t)) (n ∷ e ∷ []) (local (type_of [] t [] no_stars) n)
unfolding form
bare_text ns t n e i j = text_of ns (LocalRest t) (other (local_end_told ns (type_of [] t [] no_stars) n e (λ l. give l) i j (gave (local (type_of [] t [] no_stars) n))))

named_local_told : (ns : Names) (t : Token) (b : Bool) (l : Local) {u w : Word} (x : List Local × List Stmt) → b ≡ true → Texts (at ns (LocalRest t)) u l → Texts (at (with_local ns l) Body) w x
    → Told Texts (at ns Body) (body_named ns t b) (u ++ w) (l ∷ x.0, x.1)
named_local_told ns t true l x e d f = one (got l d (body_behind_told ns l x f))
named_local_told ns t false l x e d f = absurd (true≢false (sym e))

named_local : (ns : Names) (t : Token) (l : Local) {u w : Word} (x : List Local × List Stmt) → IsName t → can_be_type true (role_of ns t.bytes) ≡ true → Texts (at ns (LocalRest t)) u l → Texts (at (with_local ns l) Body) w x
    → Texts (at ns Body) (t ∷ (u ++ w)) (l ∷ x.0, x.1)
unfolding form
named_local ns t l x i r d f = text_of ns Body (other (one (took t (name_passes ns t i) (named_local_told ns t (can_be_type true (role_of ns t.bytes)) l x r d f))))

body_local : (ns : Names) (n e : Token) {u w : Word} {c : CType} (x : List Local × List Stmt) → TypeStart ns u c → IsName n → IsSign e sign.Semicolon → Texts (at (with_local ns (local c n)) Body) w x
    → Texts (at ns Body) (u ++ (n ∷ e ∷ w)) (local c n ∷ x.0, x.1)
unfolding form
body_local ns n e {c = c} x (key_start d) i j f = text_of ns Body (one (got c d (local_end_told ns c n e (λ l. body_behind ns l) i j (body_behind_told ns (local c n) x f))))
body_local ns n e x (bare_start t h r) i j f = named_local ns t (local (type_of [] t [] no_stars) n) x h r (bare_text ns t n e i j) f
body_local ns n e {w = w} {c = c} x (type_name_start t {w = u} h r d) i j f =
    text_at {q = Body} (ap (λ (z : Word). t ∷ z) (append_assoc u (n ∷ e ∷ []) w)) (named_local ns t (local c n) x h r (rest_text ns t n e d i j) f)

body_text : {ns : Names} {u w : Word} {ls : List Local} {ss : List Stmt} → ReadsLocals ns u ls → FoundStmts (with_locals ns ls) w ss → Texts (at ns Body) (u ++ w) (ls, ss)
body_text {ns} no_local f = body_statements ns f
body_text {ns} {w = w} {ss = ss} (more_locals {w = z} {ls = ls} (local_is n e {w = u} {c = c} d o i j) g) f =
    text_at {q = Body} (sym (append_assoc (u ++ n ∷ e ∷ []) z w ∙ append_assoc u (n ∷ e ∷ []) (z ++ w))) (body_local ns n e (ls, ss) (start_type ns d o) i j (body_text g f))

-- 7. All statements

block_text : (ns : Names) (t s : Token) {w : Word} {ls : List Local} {ss : List Stmt} → IsSign t sign.OpenBrace → Texts (at ns Body) w (ls, ss) → IsSign s sign.CloseBrace → Texts (at ns BlockOf) (t ∷ (w ++ (s ∷ []))) (block ls ss (join (at_token t) (at_token s)))
unfolding form
block_text ns t s {ls = ls} {ss = ss} i d j = text_of ns BlockOf (took t (sign_passes ns sign.OpenBrace t i) (got (ls, ss) d (took s (sign_passes ns sign.CloseBrace s j) (gave _))))

no_else_text : (ns : Names) (a : Expr) (b : Block) → Texts (at ns (ElseOf a b)) [] (stmt.If a b None)
unfolding form
no_else_text ns a b = text_of ns (ElseOf a b) (other (gave (stmt.If a b None)))

else_text : (ns : Names) (a : Expr) (b d : Block) (l : Token) {w : Word} → IsWord l keyword.Else → Texts (at ns BlockOf) w d → Texts (at ns (ElseOf a b)) (l ∷ w) (stmt.If a b (Some d))
unfolding form
else_text ns a b d l i e = text_of ns (ElseOf a b) (one (took l (word_passes ns keyword.Else l i) (last d e (gave (stmt.If a b (Some d))))))

if_text : (ns : Names) (i t s : Token) {u w z : Word} {a : Expr} {b : Block} {x : Stmt} → IsWord i keyword.If → IsSign t sign.OpenParen → Texts (at ns (Value false)) u a → IsSign s sign.CloseParen → Texts (at ns BlockOf) w b → Texts (at ns (ElseOf a b)) z x
    → Texts (at ns PlainStmt) (i ∷ t ∷ (u ++ (s ∷ (w ++ z)))) x
unfolding form
if_text ns i t s {a = a} {b = b} {x = x} e f d g h j = text_of ns PlainStmt (other (other (other (other (one (took i (word_passes ns keyword.If i e) (took t (sign_passes ns sign.OpenParen t f)
    (got a d (took s (sign_passes ns sign.CloseParen s g) (other (got b h (last x j (gave x)))))))))))))

if_goto_text : (ns : Names) (i t s : Token) {u w : Word} {a : Expr} {n : Token} → IsWord i keyword.If → IsSign t sign.OpenParen → Texts (at ns (Value false)) u a → IsSign s sign.CloseParen → Texts (at ns GotoOf) w n
    → Texts (at ns PlainStmt) (i ∷ t ∷ (u ++ (s ∷ w))) (stmt.IfGoto a (name_at n))
unfolding form
if_goto_text ns i t s {a = a} {n = n} e f d g h = text_of ns PlainStmt (other (other (other (other (one (took i (word_passes ns keyword.If i e) (took t (sign_passes ns sign.OpenParen t f)
    (got a d (took s (sign_passes ns sign.CloseParen s g) (one (last n h (gave _))))))))))))

goto_text : (ns : Names) {w : Word} (n : Token) → Texts (at ns GotoOf) w n → Texts (at ns PlainStmt) w (stmt.Goto (name_at n))
unfolding form
goto_text ns n d = text_of ns PlainStmt (other (other (other (other (other (one (last n d (gave _))))))))

block_stmt_text : (ns : Names) {w : Word} (b : Block) → Texts (at ns BlockOf) w b → Texts (at ns PlainStmt) w (stmt.Block b)
unfolding form
block_stmt_text ns b d = text_of ns PlainStmt (other (other (other (one (last b d (gave _))))))

switch_text : (ns : Names) (i t s l c : Token) {u w : Word} {a : Expr} (r : List Case × Token) → IsWord i keyword.Switch → IsSign t sign.OpenParen → Texts (at ns (Value false)) u a → IsSign s sign.CloseParen → IsSign l sign.OpenBrace
    → Texts (at ns Cases) w r → IsSign c sign.CloseBrace → Texts (at ns PlainStmt) (i ∷ t ∷ (u ++ (s ∷ l ∷ (w ++ (c ∷ []))))) (stmt.Switch a r.0 (name_at r.1))
unfolding form
switch_text ns i t s l c {a = a} r e f d g h j m = text_of ns PlainStmt (other (other (other (other (other (other (one (took i (word_passes ns keyword.Switch i e) (took t (sign_passes ns sign.OpenParen t f)
    (got a d (took s (sign_passes ns sign.CloseParen s g) (took l (sign_passes ns sign.OpenBrace l h) (got r j (took c (sign_passes ns sign.CloseBrace c m) (gave _)))))))))))))))

return_text : (ns : Names) (t e : Token) → IsWord t keyword.Return → IsSign e sign.Semicolon → Texts (at ns PlainStmt) (t ∷ e ∷ []) (stmt.Return (at_token t) None)
unfolding form
return_text ns t e i j = text_of ns PlainStmt (other (other (other (other (other (other (other (took t (word_passes ns keyword.Return t i) (one (took e (sign_passes ns sign.Semicolon e j) (gave _)))))))))))

return_value_text : (ns : Names) (t e : Token) {w : Word} {a : Expr} → IsWord t keyword.Return → Texts (at ns (Value false)) w a → IsSign e sign.Semicolon → Texts (at ns PlainStmt) (t ∷ (w ++ (e ∷ []))) (stmt.Return (at_token t) (Some a))
unfolding form
return_value_text ns t e {a = a} i d j =
    text_of ns PlainStmt (other (other (other (other (other (other (other (took t (word_passes ns keyword.Return t i) (other (got a d (took e (sign_passes ns sign.Semicolon e j) (gave _))))))))))))

label_found : (ns : Names) (n c e : Token) → IsName n → IsSign c sign.Colon → IsSign e sign.Semicolon → FoundStmt ns (n ∷ c ∷ e ∷ []) (stmt.Label (name_at n))
label_found ns n c e i j h = named_stmt n i (named_text ns n (role_of ns n.bytes) refl (label_told ns n (role_of ns n.bytes) (took c (sign_passes ns sign.Colon c j) (took e (sign_passes ns sign.Semicolon e h) (gave _)))))

switch_word : (i t : Token) (u : Word) (s l : Token) (w : Word) (d c : Token) (x : Word) (r : Token) → i ∷ t ∷ (u ++ (s ∷ l ∷ ((w ++ (d ∷ c ∷ x)) ++ (r ∷ [])))) ≡ i ∷ t ∷ u ++ s ∷ l ∷ w ++ d ∷ c ∷ x ++ r ∷ []
switch_word i t u s l w d c x r = ap (λ (z : Word). i ∷ t ∷ (u ++ (s ∷ l ∷ z))) (append_assoc w (d ∷ c ∷ x) (r ∷ []))
    ∙ sym (append_assoc (i ∷ t ∷ u ++ s ∷ l ∷ w) (d ∷ c ∷ x) (r ∷ []) ∙ append_assoc (i ∷ t ∷ u) (s ∷ l ∷ w) (d ∷ c ∷ (x ++ (r ∷ []))))

mutual
  pub find_stmt : {ns : Names} {w : Word} {s : Stmt} → ReadsStmt ns w s → FoundStmt ns w s
  find_stmt {ns} (assigns t e {u = u} {w = w} {a = a} {b = b} p i d j) = found_at (sym (append_assoc u (t ∷ w) (e ∷ []))) (stored_stmt ns t (stmt.Assign a b) p i (assigned_value ns a e (find d) j))
  find_stmt {ns} (calls e d i) = call_found ns e d i
  find_stmt {ns} (stores t e {u = u} {w = w} {a = a} {c = c} p i d j) = found_at (sym (append_assoc u (t ∷ w) (e ∷ []))) (stored_stmt ns t (stmt.Store a c) p i (assigned_call ns a e d j))
  find_stmt {ns} (if_block {i = i} {t = t} s {u = u} {w = w} {a = a} {b = b} e f d g h) =
      found_at (ap (λ (z : Word). i ∷ t ∷ (u ++ (s ∷ z))) (append-nil w)) (plain_stmt (if_text ns i t s e f (value_text ns false (find d)) g (find_block h) (no_else_text ns a b)))
  find_stmt {ns} (if_else {i = i} {t = t} s l {u = u} {w = w} {x = x} {a = a} {b = b} {d = d} e f y g h m n) =
      found_at (sym (append_assoc (i ∷ t ∷ u) (s ∷ w) (l ∷ x))) (plain_stmt (if_text ns i t s e f (value_text ns false (find y)) g (find_block h) (else_text ns a b d l m (find_block n))))
  find_stmt {ns} (if_goto {i = i} {t = t} s n e f d g h) = plain_stmt (if_goto_text ns i t s e f (value_text ns false (find d)) g (find_goto ns h))
  find_stmt {ns} (goes n d) = plain_stmt (goto_text ns n (find_goto ns d))
  find_stmt {ns} (labels {n = n} {c = c} {e = e} i j h) = label_found ns n c e i j h
  find_stmt {ns} (switches {i = i} {t = t} s l d c r n {u = u} {w = w} {x = x} {cs = cs} e f y g h m o p q z) =
      found_at (switch_word i t u s l w d c x r) (plain_stmt (switch_text ns i t s l r (cs, n) e f (value_text ns false (find y)) g h (find_cases ns d c m o p (find_goto ns q)) z))
  find_stmt {ns} (returns {t = t} {e = e} i j) = plain_stmt (return_text ns t e i j)
  find_stmt {ns} (returns_value {t = t} e i d j) = plain_stmt (return_value_text ns t e i (value_text ns false (find d)) j)
  find_stmt {ns} (blocks {b = b} d) = plain_stmt (block_stmt_text ns b (find_block d))

  pub find_stmts : {ns : Names} {w : Word} {ss : List Stmt} → ReadsStmts ns w ss → FoundStmts ns w ss
  find_stmts no_stmt = none_found
  find_stmts {ns} (more_stmts d e) = some_found (find_stmt d) (statements_text ns (find_stmts e))

  pub find_block : {ns : Names} {w : Word} {b : Block} → ReadsBlock ns w b → Texts (at ns BlockOf) w b
  find_block {ns} (block_is {t = t} s i d e j) = block_text ns t s i (body_text d (find_stmts e)) j
