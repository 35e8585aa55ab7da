-- What forms of statements read, are statements.
use Rattle.std.proofs.Common.{◌≡◌, ℕ, Bool, true, false, not, ◌&&◌, ◌==◌, List, [], ◌∷◌, ◌++◌, Option, Some, None, refl, sym, ap, subst, ◌∙◌, append-nil, append_assoc, true≢false}
use Rattle.c_lexer.specs.declared.token.Constant.TheVariants as constant
use Rattle.c_lexer.specs.declared.token.TokenKind.TheVariants as k
use Rattle.c_lexer.specs.declared.token.Keyword.TheVariants as keyword
use Rattle.c_lexer.specs.declared.token.Sign.TheVariants as sign
use Rattle.c_tree.specs.declared.names.Base.{Base}
use Rattle.c_tree.specs.declared.names.Base.TheVariants as base
use Rattle.c_tree.specs.declared.names.CType.{CType}
use Rattle.c_tree.specs.declared.operators.Level.TheVariants as level
use Rattle.c_tree.specs.declared.code.Expr.{Expr}
use Rattle.c_tree.specs.declared.code.Suffix.{Suffix}
use Rattle.c_tree.specs.declared.code.Local.{Local}
use Rattle.c_tree.specs.declared.code.Call.{Call}
use Rattle.c_tree.specs.declared.code.Case.{Case}
use Rattle.c_tree.specs.declared.code.Stmt.{Stmt}
use Rattle.c_tree.specs.declared.code.Stmt.TheVariants as stmt
use Rattle.c_tree.specs.declared.code.Block.{Block}
use Rattle.c_tree.specs.Words.{Terminal, Of, Token, Word, IsSign, IsWord, IsName, join}
use Rattle.c_tree.specs.Words as words
use Rattle.c_tree.specs.Names.{Names, Role, TypeName, RowName, VariableName, FunctionName, MemberName, Unknown, role_of, with_local}
use Rattle.c_tree.specs.Types.{ReadsType, type_is, BaseIs, named_is, no_const, no_star, is_object, is_void_base, can_be_type}
use Rattle.c_tree.specs.Make.{name_at, suffixed, conditional, block}
use Rattle.c_tree.specs.Values as v
use Rattle.c_tree.specs.Values.{Reads, is_place, value, tightest, no_prefix, more_prefixes, postfixed, brackets, cast}
use Rattle.c_tree.specs.Statements.{ReadsLocal, local_is, no_local, more_locals, ReadsNumber, number_is, negative_is, ReadsCall, call_value, call_row, call_type_row, ReadsPlace, place_is, goto_is, no_case, more_cases, ReadsStmt, assigns, calls, stores, if_block, if_else, if_goto, goes, labels, switches, returns, returns_value, blocks, ReadsStmts, no_stmt, more_stmts, ReadsBlock, block_is}
use Rattle.c_grammar.specs.Sorts.{kind, on, Name, Number, same, sort_of}
use Rattle.c_grammar.specs.Tests.{is, is_callee_role, is_value_role}
use Rattle.c_grammar.specs.Trees.{base_in, base_of, type_of, no_stars, sign_prefix, cast_prefix, with_prefixes, one_prefix, name_value, number_in, local, value_call, row_call, call_stmt}
use Rattle.c_grammar.specs.Parts.{What, tree_of, at, LocalOf, LocalRest, SignedNumberOf, GotoOf, Cases, BlockOf, Body, Statements, Statement, PlainStmt, NamedStmt, ValueStmt, Assigned, AssignedTail, ElseOf}
use Rattle.c_grammar.specs.Grammar.{form, body_behind, statements_behind, body_named, call_behind, row_behind, label_behind, label_or, named_behind, stored_behind, value_behind, assigned_named, called_or_value, just}
use Rattle.c_grammar.proofs.Told.{Told, gave, took, got, one, other}
use Rattle.c_grammar.proofs.Tokens.{is_sign, is_word, is_name, is_name_with}
use Rattle.c_grammar.proofs.Meaning.{Meant, Holds, AreCases, IsBody, IsType}
use Rattle.c_grammar.proofs.SoundValues.{by_name, address, star, is_star, prefix_told, may_follow_told}

-- 1. Declarations

-- a type, a name and `;`
local_told : (ns : Names) (c : CType) (p : Word) (n s : Token) → IsType ns true true p c → on ns (is Name) (kind n) ≡ true → IsSign s sign.Semicolon → ReadsLocal ns (p ++ (n ∷ s ∷ [])) (local c n)
local_told ns c p n s m e f = local_is n s m.reads (m.fits refl) (is_name ns n e) f

pub sound_local_of : (ns : Names) → Holds ns LocalOf
unfolding form
sound_local_of ns w x (got {u = p} c m (took n e (took s f (gave a)))) = local_told ns c p n s m e (is_sign ns sign.Semicolon s f)

-- a name as a base
named_base : (t : Token) → IsName t → base.Named (name_at t) ≡ base_of t
named_base t i = ap (λ (x : Terminal). base_in x (name_at t)) (sym i)

-- a name is no `void`
is_object_base : (c : CType) → is_void_base c.base ≡ false → is_object c ≡ true
is_object_base c e = ap (λ (b : Bool). not (b && c.stars == 0)) e

name_is_object : (t : Token) (c : CType) → IsName t → c.base ≡ base_of t → is_object c ≡ true
name_is_object t c i e = is_object_base c (ap is_void_base e ∙ ap (λ (x : Terminal). is_void_base (base_in x (name_at t))) i)

pub sound_local_rest : (ns : Names) (t : Token) → Holds ns (LocalRest t)
unfolding form
sound_local_rest ns t w x (one (got {u = p} c m (took n e (took s f (gave a))))) i r =
    local_is n s {w = t ∷ p} (m.reads ns true no_const (subst (λ (b : Base). BaseIs ns true t b) (named_base t i) (named_is i r))) (name_is_object t c i m.base) (is_name ns n e) (is_sign ns sign.Semicolon s f)
sound_local_rest ns t w x (other (took n e (took s f (gave a)))) i r =
    local_is n s {w = t ∷ []} (subst (λ (b : Base). ReadsType ns true (t ∷ []) (record { base = b; is_const = false; stars = 0; span = words.at t })) (named_base t i) (type_is {u = []} {v = []} {w = []} no_const (named_is i r) no_const no_star))
    (name_is_object t (type_of [] t [] no_stars) i refl) (is_name ns n e) (is_sign ns sign.Semicolon s f)

-- 2. Numbers, `goto` and cases

number_of_told : (x : Terminal) (w : List ℕ) (a b : ℕ) (l : Bool) → same Number (sort_of x) ≡ true → ReadsNumber (record { terminal = x; bytes = w; start = a; «end» = b; begins_line = l } ∷ []) (record { is_negative = false; number = number_in x })
number_of_told (Of (k.Number n y)) w a b l e = number_is refl
number_of_told (Of (k.Constant constant.Null)) w a b l e = absurd (true≢false (sym e))
number_of_told _ w a b l e = absurd (true≢false (sym e))

negative_told : (m : Token) (x : Terminal) (w : List ℕ) (a b : ℕ) (l : Bool) → IsSign m sign.Minus → same Number (sort_of x) ≡ true
    → ReadsNumber (m ∷ record { terminal = x; bytes = w; start = a; «end» = b; begins_line = l } ∷ []) (record { is_negative = true; number = number_in x })
negative_told m (Of (k.Number n y)) w a b l i e = negative_is i refl
negative_told m (Of (k.Constant constant.Null)) w a b l i e = absurd (true≢false (sym e))
negative_told m _ w a b l i e = absurd (true≢false (sym e))

pub sound_signed_number : (ns : Names) → Holds ns SignedNumberOf
unfolding form
sound_signed_number ns w x (one (took m e (took t f (gave a)))) = negative_told m t.terminal t.bytes t.start t.end t.begins_line (is_sign ns sign.Minus m e) f
sound_signed_number ns w x (other (took t f (gave a))) = number_of_told t.terminal t.bytes t.start t.end t.begins_line f

pub sound_goto : (ns : Names) → Holds ns GotoOf
unfolding form
sound_goto ns w x (took t e (took n f (took s g (gave a)))) = goto_is (is_word ns keyword.Goto t e) (is_name ns n f) (is_sign ns sign.Semicolon s g)

pub sound_cases : (ns : Names) → Holds ns Cases
unfolding form
sound_cases ns w x (one (took t e (got {u = p} y m (took c f (got {u = q} n g (got {u = z} r h (gave a))))))) = record {
  front = t ∷ p ++ c ∷ q ++ h.front;
  last = h.last;
  colon = h.colon;
  behind = h.behind;
  same = ap (λ (z : Word). t ∷ (p ++ (c ∷ (q ++ z)))) (append-nil z ∙ h.same) ∙ sym (append_assoc (t ∷ p ++ c ∷ q) h.front (h.last ∷ h.colon ∷ h.behind) ∙ append_assoc (t ∷ p) (c ∷ q) (h.front ++ (h.last ∷ h.colon ∷ h.behind)));
  cases = more_cases c n (is_word ns keyword.Case t e) m (is_sign ns sign.Colon c f) g h.cases;
  is_default = h.is_default;
  is_colon = h.is_colon;
  goes = h.goes;
}
sound_cases ns w x (other (took d e (took c f (got {u = p} n m (gave a))))) = record {
  front = [];
  last = d;
  colon = c;
  behind = p;
  same = ap (λ (z : Word). d ∷ c ∷ z) (append-nil p);
  cases = no_case;
  is_default = is_word ns keyword.Default d e;
  is_colon = is_sign ns sign.Colon c f;
  goes = m;
}

-- 3. Blocks

pub sound_block : (ns : Names) → Holds ns BlockOf
unfolding form
sound_block ns w x (took t e (got {u = p} r m (took s f (gave a)))) =
    subst (λ (z : Word). ReadsBlock ns (t ∷ z) (block r.0 r.1 (join (words.at t) (words.at s)))) (ap (λ (z : Word). z ++ (s ∷ [])) (sym m.same))
    (block_is s (is_sign ns sign.OpenBrace t e) m.locals m.statements (is_sign ns sign.CloseBrace s f))

-- a declaration in front
body_told : (ns : Names) (u p : Word) (l : Local) (r : List Local × List Stmt) → ReadsLocal ns u l → IsBody (with_local ns l) p r → IsBody ns (u ++ p) (l ∷ r.0, r.1)
body_told ns u p l r d m = record {
  front = u ++ m.front;
  behind = m.behind;
  same = ap (λ (z : Word). u ++ z) m.same ∙ sym (append_assoc u m.front m.behind);
  locals = more_locals d m.locals;
  statements = m.statements;
}

body_behind_told : (ns : Names) (u v : Word) (l : Local) (x : List Local × List Stmt) → ReadsLocal ns u l → Told Meant (at ns Body) (body_behind ns l) v x → IsBody ns (u ++ v) x
body_behind_told ns u v l x d (got {u = p} r m (gave a)) = subst (λ (z : Word). IsBody ns (u ++ z) (l ∷ r.0, r.1)) (sym (append-nil p)) (body_told ns u p l r d m)

statements_behind_told : (ns : Names) (u v : Word) (s : Stmt) (x : List Local × List Stmt) → ReadsStmt ns u s → Told Meant (at ns Body) (statements_behind ns s) v x → IsBody ns (u ++ v) x
statements_behind_told ns u v s x d (got {u = p} ss m (gave a)) =
    record { front = []; behind = u ++ p; same = ap (λ (z : Word). u ++ z) (append-nil p); locals = no_local; statements = more_stmts d m }

body_named_told : (ns : Names) (t : Token) (b : Bool) (w : Word) (x : List Local × List Stmt) → IsName t → can_be_type true (role_of ns t.bytes) ≡ b → Told Meant (at ns Body) (body_named ns t b) w x → IsBody ns (t ∷ w) x
body_named_told ns t true w x i r (one (got {u = u} {v = v} l m d)) = body_behind_told ns (t ∷ u) v l x (m i r) d
body_named_told ns t true w x i r (other (got {u = u} {v = v} s m d)) = statements_behind_told ns (t ∷ u) v s x (m i) d
body_named_told ns t false w x i r (got {u = u} {v = v} s m d) = statements_behind_told ns (t ∷ u) v s x (m i) d

pub sound_body : (ns : Names) → Holds ns Body
unfolding form
sound_body ns w x (one (got {u = p} c m (took n e (took {w = q} s f d)))) = subst (λ (z : Word). IsBody ns z x) (append_assoc p (n ∷ s ∷ []) q)
    (body_behind_told ns (p ++ (n ∷ s ∷ [])) q (local c n) x (local_told ns c p n s m e (is_sign ns sign.Semicolon s f)) d)
sound_body ns w x (other (one (took {w = q} t e d))) = body_named_told ns t (can_be_type true (role_of ns t.bytes)) q x (is_name ns t e) refl d
sound_body ns w x (other (other (one (got {u = u} {v = v} s m d)))) = statements_behind_told ns u v s x m d
sound_body ns w x (other (other (other (gave a)))) = record { front = []; behind = []; same = refl; locals = no_local; statements = no_stmt }

pub sound_statements : (ns : Names) → Holds ns Statements
unfolding form
sound_statements ns w x (one (got {u = u} s m (got {u = p} ss n (gave a)))) = subst (λ (z : Word). ReadsStmts ns (u ++ z) (s ∷ ss)) (sym (append-nil p)) (more_stmts m n)
sound_statements ns w x (other (gave a)) = no_stmt

-- 4. Calls

-- a call and `;`
pub record CallTold (ns : Names) (w : Word) (c : Call) : Type 0 where
  pub word : Word
  pub close : Token
  pub same : w ≡ word ++ (close ∷ [])
  pub reads : ReadsCall ns word c
  pub is_close : IsSign close sign.Semicolon

-- a statement of another word that is the same
stmt_at : {ns : Names} {s : Stmt} {u w : Word} → u ≡ w → ReadsStmt ns u s → ReadsStmt ns w s
stmt_at {ns = ns} {s = s} e d = subst (λ (z : Word). ReadsStmt ns z s) e d

call_told : (ns : Names) (w : Word) (c : Call) → CallTold ns w c → ReadsStmt ns w (stmt.Call c)
call_told ns w c m = stmt_at (sym m.same) (calls m.close m.reads m.is_close)

store_told : (ns : Names) (u w : Word) (t : Token) (b : Expr) (c : Call) → ReadsPlace ns u b → IsSign t sign.Assign → CallTold ns w c → ReadsStmt ns (u ++ (t ∷ w)) (stmt.Store b c)
store_told ns u w t b c p e m = stmt_at (append_assoc u (t ∷ m.word) (m.close ∷ []) ∙ ap (λ (z : Word). u ++ (t ∷ z)) (sym m.same)) (stores t m.close p e m.reads m.is_close)

assign_told : (ns : Names) (u w : Word) (t e : Token) (b x : Expr) → ReadsPlace ns u b → IsSign t sign.Assign → Reads ns false v.Value w x → IsSign e sign.Semicolon → ReadsStmt ns (u ++ (t ∷ (w ++ (e ∷ [])))) (stmt.Assign b x)
assign_told ns u w t e b x p i d f = stmt_at (append_assoc u (t ∷ w) (e ∷ [])) (assigns t e p i d f)

-- the call that a form reads
pub record SomeCall (ns : Names) (o : Option Expr) (w : Word) (x : Stmt) : Type 0 where
  pub call : Call
  pub told : CallTold ns w call
  pub same : x ≡ call_stmt o call

value_call_told : (ns : Names) {r : What} (o : Option Expr) (a : Expr) (f : Stmt → tree_of r) (u w : Word) (x : tree_of r) → Reads ns false v.Postfixed u a → Told Meant (at ns r) (call_behind ns o a f) w x
    → (s : Stmt) × (x ≡ f s) × SomeCall ns o (u ++ w) s
value_call_told ns o a f u w x d (took t e (got {u = p} xs m (took s g (took c h (gave i))))) = (
  call_stmt o (value_call a xs s),
  refl,
  record {
    call = value_call a xs s;
    told = record {
      word = u ++ t ∷ p ++ s ∷ [];
      close = c;
      same = sym (append_assoc (u ++ t ∷ p) (s ∷ []) (c ∷ []) ∙ append_assoc u (t ∷ p) (s ∷ c ∷ []));
      reads = call_value t s d (is_sign ns sign.OpenParen t e) m (is_sign ns sign.CloseParen s g);
      is_close = is_sign ns sign.Semicolon c h;
    };
    same = refl;
  },
)

row_told : (ns : Names) {r : What} (o : Option Expr) (n : Token) (b : Bool) (f : Stmt → tree_of r) (w : Word) (x : tree_of r) → IsName n → role_of ns n.bytes ≡ RowName b
    → Told Meant (at ns r) (row_behind ns o n b f) w x → (s : Stmt) × (x ≡ f s) × SomeCall ns o (n ∷ w) s
row_told ns o n false f w x i j (took t e (got {u = p} xs m (took s g (took c h (gave a))))) = (
  call_stmt o (row_call n None xs s),
  refl,
  record {
    call = row_call n None xs s;
    told = record {
      word = n ∷ t ∷ p ++ s ∷ [];
      close = c;
      same = sym (append_assoc (n ∷ t ∷ p) (s ∷ []) (c ∷ []));
      reads = call_row s i j (is_sign ns sign.OpenParen t e) m (is_sign ns sign.CloseParen s g);
      is_close = is_sign ns sign.Semicolon c h;
    };
    same = refl;
  },
)
row_told ns o n true f w x i j (took t e (got {u = y} z l (got {u = p} xs m (took s g (took c h (gave a)))))) = (
  call_stmt o (row_call n (Some z) xs s),
  refl,
  record {
    call = row_call n (Some z) xs s;
    told = record {
      word = n ∷ t ∷ y ++ p ++ s ∷ [];
      close = c;
      same = sym (append_assoc (n ∷ t ∷ y ++ p) (s ∷ []) (c ∷ []) ∙ append_assoc (n ∷ t ∷ y) p (s ∷ c ∷ []));
      reads = call_type_row s i j (is_sign ns sign.OpenParen t e) l.reads (l.fits refl) m (is_sign ns sign.CloseParen s g);
      is_close = is_sign ns sign.Semicolon c h;
    };
    same = refl;
  },
)

-- the statement of a call
stmt_of_call : (ns : Names) (w : Word) (x s : Stmt) → x ≡ s → SomeCall ns None w s → ReadsStmt ns w x
stmt_of_call ns w x s e m = subst (λ (y : Stmt). ReadsStmt ns w y) (sym (e ∙ m.same)) (call_told ns w m.call m.told)

stored_call : (ns : Names) (u w : Word) (t : Token) (b : Expr) (x s : Stmt) → ReadsPlace ns u b → IsSign t sign.Assign → x ≡ s → SomeCall ns (Some b) w s → ReadsStmt ns (u ++ (t ∷ w)) x
stored_call ns u w t b x s p i e m = subst (λ (y : Stmt). ReadsStmt ns (u ++ (t ∷ w)) y) (sym (e ∙ m.same)) (store_told ns u w t b m.call p i m.told)

-- 5. What follows a name or an operand at the beginning of a statement

label_told : (ns : Names) (t : Token) (w : Word) (x : Stmt) → IsName t → Told Meant (at ns (NamedStmt t)) (label_behind ns t) w x → ReadsStmt ns (t ∷ w) x
label_told ns t w x i (took c e (took s f (gave a))) = labels i (is_sign ns sign.Colon c e) (is_sign ns sign.Semicolon s f)

-- a name as a value
name_value_reads : (ns : Names) (t : Token) (r : Role) → IsName t → role_of ns t.bytes ≡ r → is_value_role false r ≡ true → Reads ns false v.Primary (t ∷ []) (name_value ns t)
name_value_reads ns t r i e h = by_name ns false t (role_of ns t.bytes) i refl (ap (is_value_role false) e ∙ h)

named_value_told : (ns : Names) (t : Token) (r : Role) (w : Word) (x : Stmt) → IsName t → role_of ns t.bytes ≡ r → is_value_role false r ≡ true
    → Told Meant (at ns (NamedStmt t)) (label_or ns t (just ns (ValueStmt (name_value ns t)) (λ s. s))) w x → ReadsStmt ns (t ∷ w) x
named_value_told ns t r w x i e h (one d) = label_told ns t w x i d
named_value_told ns t r w x i e h (other (got {u = p} s m (gave a))) = subst (λ (z : Word). ReadsStmt ns (t ∷ z) s) (sym (append-nil p)) (m (t ∷ []) (name_value_reads ns t r i e h))

named_told : (ns : Names) (t : Token) (r : Role) (w : Word) (x : Stmt) → IsName t → role_of ns t.bytes ≡ r → Told Meant (at ns (NamedStmt t)) (named_behind ns t r) w x → ReadsStmt ns (t ∷ w) x
named_told ns t (TypeName m) w x i e d = label_told ns t w x i d
named_told ns t (RowName b) w x i e (one d) = label_told ns t w x i d
named_told ns t (RowName b) w x i e (other d) = let h = row_told ns None t b (λ s. s) w x i e d in stmt_of_call ns (t ∷ w) x h.0 h.1 h.2
named_told ns t VariableName w x i e d = named_value_told ns t VariableName w x i e refl d
named_told ns t FunctionName w x i e d = named_value_told ns t FunctionName w x i e refl d
named_told ns t MemberName w x i e d = named_value_told ns t MemberName w x i e refl d
named_told ns t Unknown w x i e d = named_value_told ns t Unknown w x i e refl d

pub sound_named : (ns : Names) (t : Token) → Holds ns (NamedStmt t)
unfolding form
sound_named ns t w x d i = named_told ns t (role_of ns t.bytes) w x i refl d

-- an operand and its suffixes, as a place
place_told : (ns : Names) {u : Word} (a : Expr) → Reads ns false v.Postfixed u a → is_place a ≡ true → ReadsPlace ns u a
place_told ns a d e = place_is (tightest (no_prefix d)) e

stored_told : (ns : Names) (o : Expr) (b : Bool) (a : Expr) (u w : Word) (x : Stmt) → Reads ns false v.Postfixed u a → is_place a ≡ b → Told Meant (at ns (ValueStmt o)) (stored_behind ns b a (λ s. s)) w x → ReadsStmt ns (u ++ w) x
stored_told ns o true a u w x d p (one (took t e (got {u = q} s m (gave i)))) = stmt_at (ap (λ (z : Word). u ++ (t ∷ z)) (sym (append-nil q))) (m u t (place_told ns a d p) (is_sign ns sign.Assign t e))
stored_told ns o true a u w x d p (other c) = let h = value_call_told ns None a (λ s. s) u w x d c in stmt_of_call ns (u ++ w) x h.0 h.1 h.2
stored_told ns o false a u w x d p c = let h = value_call_told ns None a (λ s. s) u w x d c in stmt_of_call ns (u ++ w) x h.0 h.1 h.2

pub sound_value_stmt : (ns : Names) (a : Expr) → Holds ns (ValueStmt a)
unfolding form
sound_value_stmt ns a w x (got {u = p} {v = q} xs m d) u h =
    stmt_at (append_assoc u p q) (stored_told ns a (is_place (suffixed a xs)) (suffixed a xs) (u ++ p) q x (postfixed h m.reads (may_follow_told a xs m.starts)) refl d)

-- 6. What is stored

value_end_told : (ns : Names) (b a : Expr) (u p w : Word) (t : Token) (x : Stmt) → ReadsPlace ns u b → IsSign t sign.Assign → Reads ns false (v.Operand level.Product) p a → Told Meant (at ns (Assigned b)) (value_behind ns a) w x
    → ReadsStmt ns (u ++ (t ∷ (p ++ w))) x
value_end_told ns b a u p w t x i e d (got {u = q} r m (took s f (gave g))) =
    stmt_at (ap (λ (z : Word). u ++ (t ∷ z)) (append_assoc p q (s ∷ []))) (assign_told ns u (p ++ q) t s b (conditional r.0 r.1) i e (value (m p d)) (is_sign ns sign.Semicolon s f))

called_told : (ns : Names) (b a : Expr) (xs : List Suffix) (u p w : Word) (t : Token) (x : Stmt) → ReadsPlace ns u b → IsSign t sign.Assign → Reads ns false v.Postfixed p (suffixed a xs)
    → Told Meant (at ns (AssignedTail b a)) (called_or_value ns b a xs) w x → ReadsStmt ns (u ++ (t ∷ (p ++ w))) x
called_told ns b a xs u p w t x i e d (one c) = let h = value_call_told ns (Some b) (suffixed a xs) (λ s. s) p w x d c in stored_call ns u (p ++ w) t b x h.0 i e h.1 h.2
called_told ns b a xs u p w t x i e d (other (got {u = q} r m (took s f (gave g)))) =
    stmt_at (ap (λ (z : Word). u ++ (t ∷ z)) (append_assoc p q (s ∷ []))) (assign_told ns u (p ++ q) t s b (conditional r.0 r.1) i e (value (m p (tightest (no_prefix d)))) (is_sign ns sign.Semicolon s f))

pub sound_assigned_tail : (ns : Names) (b a : Expr) → Holds ns (AssignedTail b a)
unfolding form
sound_assigned_tail ns b a w x (got {u = q} {v = y} xs m d) u t p i e h =
    stmt_at (ap (λ (z : Word). u ++ (t ∷ z)) (append_assoc p q y)) (called_told ns b a xs u (p ++ q) y t x i e (postfixed h m.reads (may_follow_told a xs m.starts)) d)

assigned_value_told : (ns : Names) (b : Expr) (n : Token) (r : Role) (u w : Word) (t : Token) (x : Stmt) → IsName n → role_of ns n.bytes ≡ r → is_value_role false r ≡ true → ReadsPlace ns u b → IsSign t sign.Assign
    → Told Meant (at ns (Assigned b)) (just ns (AssignedTail b (name_value ns n)) (λ s. s)) w x → ReadsStmt ns (u ++ (t ∷ n ∷ w)) x
assigned_value_told ns b n r u w t x i e h p f (got {u = q} s m (gave a)) = stmt_at (ap (λ (z : Word). u ++ (t ∷ n ∷ z)) (sym (append-nil q))) (m u t (n ∷ []) p f (name_value_reads ns n r i e h))

assigned_named_told : (ns : Names) (b : Expr) (n : Token) (r : Role) (u w : Word) (t : Token) (x : Stmt) → IsName n → role_of ns n.bytes ≡ r → is_callee_role r ≡ true → ReadsPlace ns u b → IsSign t sign.Assign
    → Told Meant (at ns (Assigned b)) (assigned_named ns n r) w x → ReadsStmt ns (u ++ (t ∷ n ∷ w)) x
assigned_named_told ns b n (RowName z) u w t x i e h p f d = let j = row_told ns (Some b) n z (λ s. s) w x i e d in stored_call ns u (n ∷ w) t b x j.0 p f j.1 j.2
assigned_named_told ns b n (TypeName m) u w t x i e h p f d = absurd (true≢false (sym h))
assigned_named_told ns b n VariableName u w t x i e h p f d = assigned_value_told ns b n VariableName u w t x i e refl p f d
assigned_named_told ns b n FunctionName u w t x i e h p f d = assigned_value_told ns b n FunctionName u w t x i e refl p f d
assigned_named_told ns b n MemberName u w t x i e h p f d = assigned_value_told ns b n MemberName u w t x i e refl p f d
assigned_named_told ns b n Unknown u w t x i e h p f d = assigned_value_told ns b n Unknown u w t x i e refl p f d

pub sound_assigned : (ns : Names) (b : Expr) → Holds ns (Assigned b)
unfolding form
sound_assigned ns b w x (one (took {w = q} n e d)) u t p i = let h = is_name_with ns is_callee_role n e in assigned_named_told ns b n (role_of ns n.bytes) u q t x h.0 refl h.1 p i d
sound_assigned ns b w x (other (one (took s e (got {u = y} {v = z} r m d)))) u t p i =
    let j = prefix_told ns false s e in value_end_told ns b (with_prefixes (one_prefix (sign_prefix s) r)) u (s ∷ y) z t x p i (tightest (more_prefixes j.is j.operator m (j.free (with_prefixes r)))) d
sound_assigned ns b w x (other (other (one (took s e (got {u = y} {v = z} r m d))))) u t p i =
    value_end_told ns b (with_prefixes (one_prefix (sign_prefix s) r)) u (s ∷ y) z t x p i (tightest (address s r (is_sign ns sign.Ampersand s e) m.0 m.1)) d
sound_assigned ns b w x (other (other (other (one (took o e (one (got {u = y} c m (took s f (got {u = z} {v = q} r n d))))))))) u t p i =
    stmt_at (ap (λ (z : Word). u ++ (t ∷ o ∷ z)) (append_assoc y (s ∷ z) q))
    (value_end_told ns b (with_prefixes (one_prefix (cast_prefix o c s) r)) u (o ∷ (y ++ (s ∷ z))) q t x p i (tightest (cast s (is_sign ns sign.OpenParen o e) m.reads (m.fits refl) (is_sign ns sign.CloseParen s f) n)) d)
sound_assigned ns b w x (other (other (other (one (took o e (other (got {u = y} a m (took s f (got {u = q} c n (gave g)))))))))) u t p i =
    stmt_at (ap (λ (z : Word). u ++ (t ∷ o ∷ z)) (append_assoc y (s ∷ []) q ∙ ap (λ (z : Word). y ++ (s ∷ z)) (sym (append-nil q))))
    (n u t (o ∷ (y ++ (s ∷ []))) p i (brackets s (is_sign ns sign.OpenParen o e) m (is_sign ns sign.CloseParen s f)))
sound_assigned ns b w x (other (other (other (other (got {u = y} a m (got {u = q} c n (gave g))))))) u t p i =
    stmt_at (ap (λ (z : Word). u ++ (t ∷ (y ++ z))) (sym (append-nil q))) (n u t y p i (m false))

-- 7. Statements

pub sound_statement : (ns : Names) → Holds ns Statement
unfolding form
sound_statement ns w x (one (took t e (got {u = p} s m (gave a)))) = stmt_at (ap (λ (z : Word). t ∷ z) (sym (append-nil p))) (m (is_name ns t e))
sound_statement ns w x (other (got {u = p} s m (gave a))) = stmt_at (sym (append-nil p)) m

pub sound_else : (ns : Names) (a : Expr) (b : Block) → Holds ns (ElseOf a b)
unfolding form
sound_else ns a b w x (one (took l e (got {u = q} d m (gave g)))) i t s u p f g2 h j n =
    stmt_at (append_assoc (i ∷ t ∷ u ++ s ∷ p) (l ∷ q) [] ∙ append_assoc (i ∷ t ∷ u) (s ∷ p) ((l ∷ q) ++ [])) (subst (λ (z : Word). ReadsStmt ns z (stmt.If a b (Some d))) (sym (append-nil (i ∷ t ∷ u ++ s ∷ p ++ l ∷ q)))
    (if_else s l f g2 h j n (is_word ns keyword.Else l e) m))
sound_else ns a b w x (other (gave g)) i t s u p f g2 h j n = stmt_at (ap (λ (z : Word). i ∷ t ∷ (u ++ (s ∷ z))) (sym (append-nil p))) (if_block s f g2 h j n)

-- `switch` up to its `}`
switch_told : (ns : Names) (i t s l c : Token) (u p : Word) (a : Expr) (r : List Case × Token) → IsWord i keyword.Switch → IsSign t sign.OpenParen → Reads ns false v.Value u a → IsSign s sign.CloseParen → IsSign l sign.OpenBrace
    → AreCases p r → IsSign c sign.CloseBrace → ReadsStmt ns (i ∷ t ∷ (u ++ (s ∷ l ∷ (p ++ (c ∷ []))))) (stmt.Switch a r.0 (name_at r.1))
switch_told ns i t s l c u p a r e f d g h m j =
    stmt_at (append_assoc (i ∷ t ∷ u ++ s ∷ l ∷ m.front) (m.last ∷ m.colon ∷ m.behind) (c ∷ []) ∙ append_assoc (i ∷ t ∷ u) (s ∷ l ∷ m.front) (m.last ∷ m.colon ∷ (m.behind ++ (c ∷ [])))
    ∙ ap (λ (z : Word). i ∷ t ∷ (u ++ (s ∷ l ∷ z))) (sym (append_assoc m.front (m.last ∷ m.colon ∷ m.behind) (c ∷ [])) ∙ ap (λ (z : Word). z ++ (c ∷ [])) (sym m.same)))
    (switches s l m.last m.colon c r.1 e f d g h m.cases m.is_default m.is_colon m.goes j)

pub sound_plain : (ns : Names) → Holds ns PlainStmt
unfolding form
sound_plain ns w x (one (took t e (got {u = p} r m (took q f (got {u = z} s n (gave a)))))) =
    stmt_at (ap (λ (z : Word). t ∷ (p ++ (q ∷ z))) (sym (append-nil z))) (n (t ∷ p) q (place_is (tightest (star t r (is_sign ns sign.Star t e) m)) (is_star t r (is_sign ns sign.Star t e))) (is_sign ns sign.Assign q f))
sound_plain ns w x (other (one (took t e (got {u = p} a m (took s f (got {u = z} c n (gave g))))))) =
    stmt_at (ap (λ (z : Word). t ∷ z) (append_assoc p (s ∷ []) z ∙ ap (λ (z : Word). p ++ (s ∷ z)) (sym (append-nil z))))
    (n (t ∷ (p ++ (s ∷ []))) (brackets s (is_sign ns sign.OpenParen t e) m (is_sign ns sign.CloseParen s f)))
sound_plain ns w x (other (other (one (got {u = p} a m (got {u = z} c n (gave g)))))) = stmt_at (ap (λ (z : Word). p ++ z) (sym (append-nil z))) (n p (m false))
sound_plain ns w x (other (other (other (one (got {u = p} b m (gave g)))))) = stmt_at (sym (append-nil p)) (blocks m)
sound_plain ns w x (other (other (other (other (one (took i e (took t f (got {u = u} a m (took s g (one (got {u = p} n h (gave j)))))))))))) =
    stmt_at (ap (λ (z : Word). i ∷ t ∷ (u ++ (s ∷ z))) (sym (append-nil p))) (if_goto s n (is_word ns keyword.If i e) (is_sign ns sign.OpenParen t f) m (is_sign ns sign.CloseParen s g) h)
sound_plain ns w x (other (other (other (other (one (took i e (took t f (got {u = u} a m (took s g (other (got {u = p} b h (got {u = q} c n (gave j))))))))))))) =
    stmt_at (ap (λ (z : Word). i ∷ t ∷ (u ++ (s ∷ (p ++ z)))) (sym (append-nil q))) (n i t s u p (is_word ns keyword.If i e) (is_sign ns sign.OpenParen t f) m (is_sign ns sign.CloseParen s g) h)
sound_plain ns w x (other (other (other (other (other (one (got {u = p} n m (gave a)))))))) = stmt_at (sym (append-nil p)) (goes n m)
sound_plain ns w x (other (other (other (other (other (other (one (took i e (took t f (got {u = u} a m (took s g (took l h (got {u = p} r n (took c j (gave b))))))))))))))) = switch_told ns i t s l c u p a r
    (is_word ns keyword.Switch i e) (is_sign ns sign.OpenParen t f) m (is_sign ns sign.CloseParen s g) (is_sign ns sign.OpenBrace l h) n (is_sign ns sign.CloseBrace c j)
sound_plain ns w x (other (other (other (other (other (other (other (took t e (one (took s f (gave a))))))))))) = returns (is_word ns keyword.Return t e) (is_sign ns sign.Semicolon s f)
sound_plain ns w x (other (other (other (other (other (other (other (took t e (other (got a m (took s f (gave g)))))))))))) = returns_value s (is_word ns keyword.Return t e) m (is_sign ns sign.Semicolon s f)
