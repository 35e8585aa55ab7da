-- What stands in a unit that is the unit of a program, apart from places.
use Rattle.std.proofs.Common.{◌≡◌, ◌∙◌, refl, sym, ap, ℕ, List, [], ◌∷◌, map, codes, Option, Some, None}
use Rattle.std.specs.Option.{option_map}
use Rattle.c_lexer.specs.declared.token.NumberType.TheVariants.{Gint}
use Rattle.c_tree.specs.declared.names.Name.{Name}
use Rattle.c_tree.specs.declared.names.Number.{Number}
use Rattle.c_tree.specs.declared.names.Span.{Span}
use Rattle.c_tree.specs.declared.code.Expr.{Expr, roll-Expr}
use Rattle.c_tree.specs.declared.code.Shape.{Shape, out-Shape}
use Rattle.c_tree.specs.declared.code.Shape.TheVariants as shape
use Rattle.c_tree.specs.declared.code.Shape.TheOpen.{Shape-F, Expr-F}
use Rattle.c_tree.specs.declared.code.Shape.TheFolds.{fold-Shape, fold-Suffix, fold-Choice, fold-Link, fold_out-Expr, fold_out-Shape, map-Shape}
use Rattle.c_tree.specs.declared.code.Suffix.{Suffix}
use Rattle.c_tree.specs.declared.code.Choice.{Choice, roll-Choice}
use Rattle.c_tree.specs.declared.code.Link.{Link, roll-Link}
use Rattle.c_tree.specs.declared.code.Call.{Call}
use Rattle.c_tree.specs.declared.code.Callee.{Callee}
use Rattle.c_tree.specs.declared.code.Callee.TheVariants as callee
use Rattle.c_tree.specs.declared.code.Stmt.{Stmt, out-Stmt}
use Rattle.c_tree.specs.declared.code.Stmt.TheVariants as stmt
use Rattle.c_tree.specs.declared.code.Stmt.TheOpen.{Stmt-F}
use Rattle.c_tree.specs.declared.code.Stmt.TheFolds.{fold-Stmt, fold_out-Stmt, map-Stmt}
use Rattle.c_tree.specs.declared.code.Block.{Block, roll-Block}
use Rattle.c_tree.specs.Make.{expr, span_of, shape_of}
use Rattle.c_tree.specs.Bare.{nowhere, bare_name, bare_shape, bare_suffix, bare_expr, bare_local, bare_callee, bare_call, bare_stmt, bare_block}
use Rattle.c_meaning.specs.State.{Literal}
use Rattle.c_meaning.specs.Values.{Meant, PartSuffix, PartChoice, Part, PartLink, meant, mean_shape, mean_suffix, mean_choice, mean_expr, mean_link}
use Rattle.c_meaning.specs.Code.{shape_texts, suffix_texts, choice_texts, expr_texts, operand_texts, texts_of, call_texts}
use Rattle.c_emit.specs.Emission.{format_of, value, name, print_call, print_stmt, return_zero}
use Rattle.c_emit.proofs.Steps.{IsPrint, IsZero, IsLiteralAt, format_at}

pub some_same : {A : Type 0} (x y : A) → Some x ≡ Some y → x ≡ y
some_same x y h = cc

pub none_some : {A : Type 0} (x : A) → None ≡ Some x → ⊥
none_some x h = absurd cc

-- 1. Values, one level after another

abbrev place_free : Expr-F Shape Suffix Choice Expr Link → Expr
place_free e = roll-Expr (record { shape = e.shape; span = nowhere })

abbrev bare_of_shape : Shape → Shape
bare_of_shape = fold-Shape Shape Suffix Choice Expr Link bare_shape bare_suffix roll-Choice place_free roll-Link

abbrev bare_of_suffix : Suffix → Suffix
bare_of_suffix = fold-Suffix Shape Suffix Choice Expr Link bare_shape bare_suffix roll-Choice place_free roll-Link

abbrev bare_of_choice : Choice → Choice
bare_of_choice = fold-Choice Shape Suffix Choice Expr Link bare_shape bare_suffix roll-Choice place_free roll-Link

abbrev bare_of_link : Link → Link
bare_of_link = fold-Link Shape Suffix Choice Expr Link bare_shape bare_suffix roll-Choice place_free roll-Link

abbrev bare_layer : Shape-F Shape Suffix Choice Expr Link → Shape-F Shape Suffix Choice Expr Link
bare_layer = map-Shape Shape Suffix Choice Expr Link Shape Suffix Choice Expr Link bare_of_shape bare_of_suffix bare_of_choice bare_expr bare_of_link

-- the shape of a value without places
bare_seen : (e : Expr) → shape_of (bare_expr e) ≡ bare_shape (bare_layer (out-Shape (shape_of e)))
bare_seen e =
    ap shape_of (fold_out-Expr Shape Suffix Choice Expr Link bare_shape bare_suffix roll-Choice place_free roll-Link e)
    ∙ fold_out-Shape Shape Suffix Choice Expr Link bare_shape bare_suffix roll-Choice place_free roll-Link (shape_of e)

-- a value without its place
pub value_bare : (s : Shape) (o p : Span) → bare_expr (expr s o) ≡ bare_expr (expr s p)
value_bare s o p =
    fold_out-Expr Shape Suffix Choice Expr Link bare_shape bare_suffix roll-Choice place_free roll-Link (expr s o)
    ∙ sym (fold_out-Expr Shape Suffix Choice Expr Link bare_shape bare_suffix roll-Choice place_free roll-Link (expr s p))

-- the text, or the number, that one level is
text_in : {A B C D E : Type 0} → Shape-F A B C D E → Option (List ℕ)
text_in (Shape-F.Text bytes) = Some bytes
text_in s = None

number_in : {A B C D E : Type 0} → Shape-F A B C D E → Option Number
number_in (Shape-F.Number n) = Some n
number_in s = None

text_level : (l : Shape-F Shape Suffix Choice Expr Link) (bytes : List ℕ) → text_in (out-Shape (bare_shape (bare_layer l))) ≡ Some bytes
    → l ≡ Shape-F.Text bytes
unfolding text_in out-Shape denote.Hole.Carrier.out
text_level (Shape-F.Text b) bytes e = ap (λ x. Shape-F.Text x) (some_same b bytes e)
text_level (Shape-F.Number n) bytes e = absurd (none_some bytes e)
text_level (Shape-F.Character b) bytes e = absurd (none_some bytes e)
text_level (Shape-F.Constant c) bytes e = absurd (none_some bytes e)
text_level (Shape-F.Variable x) bytes e = absurd (none_some bytes e)
text_level (Shape-F.Function x) bytes e = absurd (none_some bytes e)
text_level (Shape-F.Member x) bytes e = absurd (none_some bytes e)
text_level (Shape-F.SizeOf c o) bytes e = absurd (none_some bytes e)
text_level (Shape-F.Offset c x o) bytes e = absurd (none_some bytes e)
text_level (Shape-F.Prefix ps a) bytes e = absurd (none_some bytes e)
text_level (Shape-F.Postfix a xs) bytes e = absurd (none_some bytes e)
text_level (Shape-F.Chain a ls) bytes e = absurd (none_some bytes e)
text_level (Shape-F.Conditional cs x) bytes e = absurd (none_some bytes e)

number_level : (l : Shape-F Shape Suffix Choice Expr Link) (n : Number) → number_in (out-Shape (bare_shape (bare_layer l))) ≡ Some n → l ≡ Shape-F.Number n
unfolding number_in out-Shape denote.Hole.Carrier.out
number_level (Shape-F.Number m) n e = ap (λ x. Shape-F.Number x) (some_same m n e)
number_level (Shape-F.Text b) n e = absurd (none_some n e)
number_level (Shape-F.Character b) n e = absurd (none_some n e)
number_level (Shape-F.Constant c) n e = absurd (none_some n e)
number_level (Shape-F.Variable x) n e = absurd (none_some n e)
number_level (Shape-F.Function x) n e = absurd (none_some n e)
number_level (Shape-F.Member x) n e = absurd (none_some n e)
number_level (Shape-F.SizeOf c o) n e = absurd (none_some n e)
number_level (Shape-F.Offset c x o) n e = absurd (none_some n e)
number_level (Shape-F.Prefix ps a) n e = absurd (none_some n e)
number_level (Shape-F.Postfix a xs) n e = absurd (none_some n e)
number_level (Shape-F.Chain a ls) n e = absurd (none_some n e)
number_level (Shape-F.Conditional cs x) n e = absurd (none_some n e)

text_seen : (bytes : List ℕ) → text_in (out-Shape (bare_shape (bare_layer (out-Shape (shape.Text bytes))))) ≡ Some bytes
unfolding text_in out-Shape denote.Hole.Carrier.out
text_seen bytes = refl

number_seen : (n : Number) → number_in (out-Shape (bare_shape (bare_layer (out-Shape (shape.Number n))))) ≡ Some n
unfolding number_in out-Shape denote.Hole.Carrier.out
number_seen n = refl

pub text_is : (e : Expr) (bytes : List ℕ) → bare_expr e ≡ bare_expr (value (shape.Text bytes)) → out-Shape (shape_of e) ≡ Shape-F.Text bytes
text_is e bytes h =
    text_level (out-Shape (shape_of e)) bytes
    (ap (λ s. text_in (out-Shape s)) (sym (bare_seen e) ∙ ap shape_of h ∙ bare_seen (value (shape.Text bytes))) ∙ text_seen bytes)

pub number_is : (e : Expr) (n : Number) → bare_expr e ≡ bare_expr (value (shape.Number n)) → out-Shape (shape_of e) ≡ Shape-F.Number n
number_is e n h =
    number_level (out-Shape (shape_of e)) n
    (ap (λ s. number_in (out-Shape s)) (sym (bare_seen e) ∙ ap shape_of h ∙ bare_seen (value (shape.Number n))) ∙ number_seen n)

-- 2. What values mean, and their literals

abbrev mean_layer : Shape-F Shape Suffix Choice Expr Link → Shape-F Meant PartSuffix PartChoice Part PartLink
mean_layer =
    map-Shape Shape Suffix Choice Expr Link Meant PartSuffix PartChoice Part PartLink
    (fold-Shape Meant PartSuffix PartChoice Part PartLink mean_shape mean_suffix mean_choice mean_expr mean_link)
    (fold-Suffix Meant PartSuffix PartChoice Part PartLink mean_shape mean_suffix mean_choice mean_expr mean_link)
    (fold-Choice Meant PartSuffix PartChoice Part PartLink mean_shape mean_suffix mean_choice mean_expr mean_link)
    meant
    (fold-Link Meant PartSuffix PartChoice Part PartLink mean_shape mean_suffix mean_choice mean_expr mean_link)

meant_level : (e : Expr) (l : Shape-F Shape Suffix Choice Expr Link) → out-Shape (shape_of e) ≡ l
    → meant e ≡ mean_expr (record { shape = mean_shape (mean_layer l); span = span_of e })
meant_level e l h =
    fold_out-Expr Meant PartSuffix PartChoice Part PartLink mean_shape mean_suffix mean_choice mean_expr mean_link e
    ∙ ap (λ m. mean_expr (record { shape = m; span = span_of e }))
    (fold_out-Shape Meant PartSuffix PartChoice Part PartLink mean_shape mean_suffix mean_choice mean_expr mean_link (shape_of e)
    ∙ ap (λ x. mean_shape (mean_layer x)) h)

pub text_meant : (e : Expr) (bytes : List ℕ) → out-Shape (shape_of e) ≡ Shape-F.Text bytes → IsLiteralAt (span_of e).start e
text_meant e bytes h c = ap (λ (m : Part). m.value c) (meant_level e (Shape-F.Text bytes) h)

pub zero_meant : (e : Expr) → out-Shape (shape_of e) ≡ Shape-F.Number (record { value = 0; kind = Gint }) → IsZero e
zero_meant e h c = ap (λ (m : Part). m.value c) (meant_level e (Shape-F.Number (record { value = 0; kind = Gint })) h)

abbrev Found : Type 0
Found = List Literal

abbrev texts_layer : Shape-F Shape Suffix Choice Expr Link → Shape-F (ℕ → Found) Found Found Found Found
texts_layer =
    map-Shape Shape Suffix Choice Expr Link (ℕ → Found) Found Found Found Found
    (fold-Shape (ℕ → Found) Found Found Found Found shape_texts suffix_texts choice_texts expr_texts operand_texts)
    (fold-Suffix (ℕ → Found) Found Found Found Found shape_texts suffix_texts choice_texts expr_texts operand_texts)
    (fold-Choice (ℕ → Found) Found Found Found Found shape_texts suffix_texts choice_texts expr_texts operand_texts)
    texts_of
    (fold-Link (ℕ → Found) Found Found Found Found shape_texts suffix_texts choice_texts expr_texts operand_texts)

texts_level : (e : Expr) (l : Shape-F Shape Suffix Choice Expr Link) → out-Shape (shape_of e) ≡ l → texts_of e ≡ shape_texts (texts_layer l) (span_of e).start
texts_level e l h =
    fold_out-Expr (ℕ → Found) Found Found Found Found shape_texts suffix_texts choice_texts expr_texts operand_texts e
    ∙ ap (λ (f : ℕ → Found). f (span_of e).start)
    (fold_out-Shape (ℕ → Found) Found Found Found Found shape_texts suffix_texts choice_texts expr_texts operand_texts (shape_of e)
    ∙ ap (λ x. shape_texts (texts_layer x)) h)

-- 3. Statements, one level after another

abbrev pub bare_of_stmt : Stmt → Stmt
bare_of_stmt = fold-Stmt Stmt Block bare_stmt (λ b. roll-Block (record { locals = map bare_local b.locals; body = b.body; span = nowhere }))

abbrev stmt_layer : Stmt-F Stmt Block → Stmt-F Stmt Block
stmt_layer = map-Stmt Stmt Block Stmt Block bare_of_stmt bare_block

bare_level : (s : Stmt) → bare_of_stmt s ≡ bare_stmt (stmt_layer (out-Stmt s))
bare_level s = fold_out-Stmt Stmt Block bare_stmt (λ b. roll-Block (record { locals = map bare_local b.locals; body = b.body; span = nowhere })) s

-- the call, or the value that is returned, that one level is
call_in : {A B : Type 0} → Stmt-F A B → Option Call
call_in (Stmt-F.Call c) = Some c
call_in s = None

return_in : {A B : Type 0} → Stmt-F A B → Option (Option Expr)
return_in (Stmt-F.Return s o) = Some o
return_in s = None

record CallLevel (l : Stmt-F Stmt Block) (x : Call) : Type 0 where
  call : Call
  is_call : l ≡ Stmt-F.Call call
  same : bare_call call ≡ x

call_level : (l : Stmt-F Stmt Block) (x : Call) → call_in (out-Stmt (bare_stmt (stmt_layer l))) ≡ Some x → CallLevel l x
unfolding call_in out-Stmt denote.Hole.Carrier.out
call_level (Stmt-F.Call c) x e = record { call = c; is_call = refl; same = some_same (bare_call c) x e }
call_level (Stmt-F.Assign a b) x e = absurd (none_some x e)
call_level (Stmt-F.Store a c) x e = absurd (none_some x e)
call_level (Stmt-F.If a b o) x e = absurd (none_some x e)
call_level (Stmt-F.IfGoto a n) x e = absurd (none_some x e)
call_level (Stmt-F.Goto n) x e = absurd (none_some x e)
call_level (Stmt-F.Label n) x e = absurd (none_some x e)
call_level (Stmt-F.Switch a cs n) x e = absurd (none_some x e)
call_level (Stmt-F.Return o a) x e = absurd (none_some x e)
call_level (Stmt-F.Block b) x e = absurd (none_some x e)

record ReturnLevel (l : Stmt-F Stmt Block) (x : Option Expr) : Type 0 where
  span : Span
  value : Option Expr
  is_return : l ≡ Stmt-F.Return span value
  same : option_map bare_expr value ≡ x

return_level : (l : Stmt-F Stmt Block) (x : Option Expr) → return_in (out-Stmt (bare_stmt (stmt_layer l))) ≡ Some x → ReturnLevel l x
unfolding return_in out-Stmt denote.Hole.Carrier.out
return_level (Stmt-F.Return s o) x e = record { span = s; value = o; is_return = refl; same = some_same (option_map bare_expr o) x e }
return_level (Stmt-F.Call c) x e = absurd (none_some x e)
return_level (Stmt-F.Assign a b) x e = absurd (none_some x e)
return_level (Stmt-F.Store a c) x e = absurd (none_some x e)
return_level (Stmt-F.If a b o) x e = absurd (none_some x e)
return_level (Stmt-F.IfGoto a n) x e = absurd (none_some x e)
return_level (Stmt-F.Goto n) x e = absurd (none_some x e)
return_level (Stmt-F.Label n) x e = absurd (none_some x e)
return_level (Stmt-F.Switch a cs n) x e = absurd (none_some x e)
return_level (Stmt-F.Block b) x e = absurd (none_some x e)

call_seen : (c : Call) → call_in (out-Stmt (bare_stmt (stmt_layer (out-Stmt (stmt.Call c))))) ≡ Some (bare_call c)
unfolding call_in out-Stmt denote.Hole.Carrier.out
call_seen c = refl

return_seen : (s : Span) (o : Option Expr) → return_in (out-Stmt (bare_stmt (stmt_layer (out-Stmt (stmt.Return s o))))) ≡ Some (option_map bare_expr o)
unfolding return_in out-Stmt denote.Hole.Carrier.out
return_seen s o = refl

call_of : (s : Stmt) (c : Call) → bare_of_stmt s ≡ bare_of_stmt (stmt.Call c) → CallLevel (out-Stmt s) (bare_call c)
call_of s c h =
    call_level (out-Stmt s) (bare_call c)
    (ap (λ x. call_in (out-Stmt x)) (sym (bare_level s) ∙ h ∙ bare_level (stmt.Call c)) ∙ call_seen c)

return_of : (s : Stmt) (o : Option Expr) → bare_of_stmt s ≡ bare_of_stmt (stmt.Return nowhere o) → ReturnLevel (out-Stmt s) (option_map bare_expr o)
return_of s o h =
    return_level (out-Stmt s) (option_map bare_expr o)
    (ap (λ x. return_in (out-Stmt x)) (sym (bare_level s) ∙ h ∙ bare_level (stmt.Return nowhere o)) ∙ return_seen nowhere o)

-- 4. Calls

row_in : Callee → Option Name
row_in (callee.Row x) = Some x
row_in (callee.Value e) = None

record RowLevel (c : Callee) (x : Name) : Type 0 where
  row : Name
  is_row : c ≡ callee.Row row
  same : bare_name row ≡ x

row_level : (c : Callee) (x : Name) → row_in (bare_callee c) ≡ Some x → RowLevel c x
unfolding row_in
row_level (callee.Row y) x e = record { row = y; is_row = refl; same = some_same (bare_name y) x e }
row_level (callee.Value a) x e = absurd (none_some x e)

row_seen : (x : Name) → row_in (callee.Row x) ≡ Some x
unfolding row_in
row_seen x = refl

record OneValue (es : List Expr) (x : Expr) : Type 0 where
  only : Expr
  is_only : es ≡ only ∷ []
  same : bare_expr only ≡ x

pub head_same : {A : Type 0} (x y : A) (xs ys : List A) → x ∷ xs ≡ y ∷ ys → x ≡ y
head_same x y xs ys h = cc

pub tail_same : {A : Type 0} (x y : A) (xs ys : List A) → x ∷ xs ≡ y ∷ ys → xs ≡ ys
tail_same x y xs ys h = cc

pub empty_not : {A : Type 0} (x : A) (xs : List A) → [] ≡ x ∷ xs → ⊥
empty_not x xs h = absurd cc

pub more_not : {A : Type 0} (x : A) (xs : List A) → x ∷ xs ≡ [] → ⊥
more_not x xs h = absurd cc

one_value : (es : List Expr) (x : Expr) → map bare_expr es ≡ x ∷ [] → OneValue es x
one_value [] x h = absurd (empty_not x [] h)
one_value (e ∷ []) x h = record { only = e; is_only = refl; same = head_same (bare_expr e) x [] [] h }
one_value (e ∷ d ∷ es) x h = absurd (more_not (bare_expr d) (map bare_expr es) (tail_same (bare_expr e) x (bare_expr d ∷ map bare_expr es) [] h))

-- 5. What a statement of the program is

-- a statement that prints a text
pub record PrintsOne (text : List ℕ) (s : Stmt) : Type 0 where
  pub call : Call
  pub start : ℕ
  pub is_call : out-Stmt s ≡ Stmt-F.Call call
  pub is_print : IsPrint start call
  pub texts : call_texts texts_of call ≡ format_at start text ∷ []

call_stands : (call : Call) (row : Name) (e : Expr) (bytes : List ℕ) → call.callee ≡ callee.Row row → call.arguments ≡ e ∷ []
    → out-Shape (shape_of e) ≡ Shape-F.Text bytes
    → call_texts texts_of call ≡ record { start = (span_of e).start; bytes = bytes } ∷ []
call_stands call row e bytes r a h = rw (r, a) (rw (texts_level e (Shape-F.Text bytes) h) refl)

pub print_is : (s : Stmt) (text : List ℕ) → bare_of_stmt s ≡ bare_of_stmt (print_stmt text) → PrintsOne text s
print_is s text h =
    let c = call_of s (print_call text) h in
    let r = row_level c.call.callee (name (codes "g_print")) (ap (λ (x : Call). row_in x.callee) c.same ∙ row_seen (name (codes "g_print"))) in
    let a = one_value c.call.arguments (bare_expr (value (shape.Text (format_of text)))) (ap (λ (x : Call). x.arguments) c.same) in
    let l = text_is a.only (format_of text) a.same in
    record {
      call = c.call;
      start = (span_of a.only).start;
      is_call = c.is_call;
      is_print = record {
        row = r.row;
        literal = a.only;
        is_row = r.is_row;
        named = ap (λ (x : Name). x.text) r.same;
        arguments = a.is_only;
        stands =
            text_meant a.only (format_of text) l;
      };
      texts = call_stands c.call r.row a.only (format_of text) r.is_row a.is_only l;
    }

-- the statement that returns 0
pub record ReturnsZero (s : Stmt) : Type 0 where
  pub span : Span
  pub zero : Expr
  pub is_return : out-Stmt s ≡ Stmt-F.Return span (Some zero)
  pub is_zero : IsZero zero
  pub texts : texts_of zero ≡ []

some_value : (o : Option Expr) (x : Expr) → option_map bare_expr o ≡ Some x → (e : Expr) × (o ≡ Some e) × (bare_expr e ≡ x)
some_value None x h = absurd (none_some x h)
some_value (Some e) x h = (e, refl, some_same (bare_expr e) x h)

pub return_is : (s : Stmt) → bare_of_stmt s ≡ bare_of_stmt return_zero → ReturnsZero s
return_is s h =
    let zero : Expr = value (shape.Number (record { value = 0; kind = Gint })) in
    let r = return_of s (Some zero) h in
    let e = some_value r.value (bare_expr zero) r.same in
    let n = number_is e.0 (record { value = 0; kind = Gint }) e.2 in
    record {
      span = r.span;
      zero = e.0;
      is_return = r.is_return ∙ ap (λ o. Stmt-F.Return r.span o) e.1;
      is_zero = zero_meant e.0 n;
      texts = texts_level e.0 (Shape-F.Number (record { value = 0; kind = Gint })) n;
    }
