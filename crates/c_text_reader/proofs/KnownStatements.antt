-- The faults of calls, statements and blocks are known by the end of their text.
use Rattle.std.proofs.Common.{◌≡◌, refl, sym, ap, subst, ℕ, ◌-◌, ◌<◌, ◌≤◌, Bool, true, false, not, if◌then◌else◌, List, [], ◌∷◌, ◌++◌, map, length}
use Rattle.std.proofs.Common.{Option, Some, None, arith}
use Rattle.c_tree.specs.declared.names.CType.{CType}
use Rattle.c_tree.specs.declared.names.Name.{Name}
use Rattle.c_tree.specs.declared.names.Span.{Span}
use Rattle.c_tree.specs.declared.operators.Level.TheVariants as level
use Rattle.c_tree.specs.declared.code.Expr.{Expr}
use Rattle.c_tree.specs.declared.code.Local.{Local}
use Rattle.c_tree.specs.declared.code.Call.{Call}
use Rattle.c_tree.specs.declared.code.Callee.{Callee}
use Rattle.c_tree.specs.declared.code.Callee.TheVariants as callee
use Rattle.c_tree.specs.declared.code.Case.{Case}
use Rattle.c_tree.specs.declared.code.Stmt.{Stmt}
use Rattle.c_tree.specs.declared.code.Stmt.TheOpen.{Stmt-F}
use Rattle.c_tree.specs.declared.code.Block.{Block, out-Block}
use Rattle.c_tree.specs.declared.kinds.Cause.TheVariants.{Undeclared, Misfit, Twice}
use Rattle.c_tree.specs.declared.kinds.Fault.{Fault}
use Rattle.c_tree.specs.declared.kinds.Kind.{Kind}
use Rattle.c_tree.specs.declared.kinds.Sort.{Sort}
use Rattle.c_tree.specs.Words.{Token, Word, at, join}
use Rattle.c_tree.specs.Names.{Names}
use Rattle.c_tree.specs.Types.{ReadsType}
use Rattle.c_tree.specs.Make.{name_at, span_of, block}
use Rattle.c_tree.specs.Kinds.{fits, is_scalar, is_integer, is_void, is_argument, is_pointer_or_function}
use Rattle.c_tree.specs.Library.{Takes, Literal, RowParameter, Number, Pointer, Exactly, Any, Pairs, Row}
use Rattle.c_tree.specs.Env.{Env, found, found_in, innermost, kind_of, opened}
use Rattle.c_tree.specs.Faults.{fault, misfit, twice, unless, behind_first}
use Rattle.c_tree.specs.Checks.{Known, checked, is_null, type_faults, undeclared_if}
use Rattle.c_tree.specs.Rules.{Context, Body, Called, fit, fit_by, class_by, must_be, any_faults, pair_faults, argument_faults, fit_all, all_checked}
use Rattle.c_tree.specs.Rules.{own_faults, called_if, row_call, unit_call, value_call, signature_of, row_number, type_argument_faults}
use Rattle.c_tree.specs.Rules.{type_argument_fine, takes_count, same_literal, call, twice_if, twice_here, not_laid_out, laid_out_if, with_local}
use Rattle.c_tree.specs.Rules.{local_faults, locals_faults, with_locals, inner, condition, case_targets, return_by, return_empty, result_fit}
use Rattle.c_tree.specs.Rules.{check_stmt, all_faults, all_labels, all_targets, check_block, checked_block}
use Rattle.c_tree.specs.Statements as st
use Rattle.c_tree.specs.Statements.{ReadsLocal, local_is, ReadsLocals, no_local, more_locals, ReadsCall, call_value, call_row, call_type_row}
use Rattle.c_tree.specs.Statements.{ReadsPlace, place_is, ReadsGoto, goto_is, ReadsCases, no_case, more_cases, ReadsStmt, ReadsStmts, ReadsBlock}
use Rattle.c_tree.specs.Unit.{block_end}
use Rattle.c_fronts.proofs.Unfold.{body_of, body_layer, stmt_at, body_at, block_out}
use Rattle.c_text_reader.specs.Laws.{Within}
use Rattle.c_text_reader.proofs.Early.{Early, IsIn, early_append, early_three, early_unless, early_fault, early_misfit, early_twice, early_name, early_behind}
use Rattle.c_text_reader.proofs.KnownValues.{within_append, TypeIn, type_early, type_in, Fine, FineAll, known_in, value_fine, operand_fine}
use Rattle.c_text_reader.proofs.KnownValues.{callee_fine, arguments_fine, more_fine}

module _ (n : ℕ) where
  -- 1. Values that must fit

  pub fit_early : (env : Env) (place : Option Kind) (a : Known) → IsIn n a.span → Early n (fit env place a)
  fit_early env place a h = go place (a.value.kind env)
    where
      go : (p k : Option Kind) → Early n (fit_by p k (is_null a) a.span)
      go None k = tt
      go (Some p) None = tt
      go (Some p) (Some k) = early_unless n (fits p k (is_null a)) (misfit a.span) (early_misfit n a.span h)

  must_early : (env : Env) (p : Kind → Bool) (a : Known) → IsIn n a.span → Early n (must_be env p a)
  must_early env p a h = go (a.value.kind env)
    where
      go : (k : Option Kind) → Early n (class_by p k a.span)
      go None = tt
      go (Some k) = early_unless n (p k) (misfit a.span) (early_misfit n a.span h)

  -- values that stand within the place
  abbrev AllIn : List Known → Type 0
  AllIn [] = Unit {0}
  AllIn (a ∷ xs) = IsIn n a.span × AllIn xs

  all_in : (es : List Expr) → FineAll n es → AllIn (all_checked checked es)
  all_in [] h = tt
  all_in (e ∷ es) h = (known_in n e h.0.span, all_in es h.1)

  own_early : (env : Env) (es : List Expr) → FineAll n es → Early n (own_faults env (all_checked checked es))
  own_early env [] h = tt
  own_early env (e ∷ es) h = early_append n ((checked e).value.faults env) (own_faults env (all_checked checked es)) (h.0.faults env) (own_early env es h.1)

  any_early : (env : Env) (xs : List Known) → AllIn xs → Early n (any_faults env xs)
  any_early env [] h = tt
  any_early env (a ∷ xs) h = early_append n (must_be env is_argument a) (any_faults env xs) (must_early env is_argument a h.0) (any_early env xs h.1)

  pair_early : (env : Env) (xs : List Known) → AllIn xs → Early n (pair_faults env xs)
  pair_early env [] h = tt
  pair_early env (a ∷ []) h = early_unless n (is_null a) (misfit a.span) (early_misfit n a.span h.0)
  pair_early env (a ∷ b ∷ xs) h = early_three n (must_be env is_pointer_or_function a) (must_be env is_argument b) (pair_faults env xs)
      (must_early env is_pointer_or_function a h.0) (must_early env is_argument b h.1.0) (pair_early env xs h.1.1)

  arguments_early : (env : Env) (ps : List RowParameter) (xs : List Known) → AllIn xs → Early n (argument_faults env ps xs)
  arguments_early env [] xs h = tt
  arguments_early env (p ∷ ps) [] h = tt
  arguments_early env (Number k ∷ ps) (a ∷ xs) h = early_append n (must_be env is_integer a) (argument_faults env ps xs)
      (must_early env is_integer a h.0) (arguments_early env ps xs h.1)
  arguments_early env (Pointer ∷ ps) (a ∷ xs) h = early_append n (must_be env is_pointer_or_function a) (argument_faults env ps xs)
      (must_early env is_pointer_or_function a h.0) (arguments_early env ps xs h.1)
  arguments_early env (Exactly l ∷ ps) (a ∷ xs) h =
      early_append n (unless (same_literal l a.value.literal) (misfit a.span)) (argument_faults env ps xs)
      (early_unless n (same_literal l a.value.literal) (misfit a.span) (early_misfit n a.span h.0)) (arguments_early env ps xs h.1)
  arguments_early env (Any ∷ ps) (a ∷ xs) h = any_early env (a ∷ xs) h
  arguments_early env (Pairs ∷ ps) (a ∷ xs) h = pair_early env (a ∷ xs) h

  fits_early : (env : Env) (ps : List (Option Kind)) (xs : List Known) → AllIn xs → Early n (fit_all env ps xs)
  fits_early env [] xs h = tt
  fits_early env (p ∷ ps) [] h = tt
  fits_early env (p ∷ ps) (a ∷ xs) h = early_append n (fit env p a) (fit_all env ps xs) (fit_early env p a h.0) (fits_early env ps xs h.1)

  -- 2. Calls

  called_early : (b : Bool) (s : Span) (r : Option Kind) (fs : List Fault) → IsIn n s → Early n fs → Early n (called_if b s r fs).faults
  called_early true s r fs h i = i
  called_early false s r fs h i = early_append n (misfit s) fs (early_misfit n s h) i

  row_early : (env : Env) (o : Option Row) (s : Span) (b : Bool) (xs : List Known) → IsIn n s → AllIn xs → Early n (row_call env o s b xs).faults
  row_early env None s b xs h i = tt
  row_early env (Some r) s b xs h i = called_early _ s (Some r.result) (argument_faults env r.parameters xs) h (arguments_early env r.parameters xs i)

  unit_early : (env : Env) (o : Option Takes) (s : Span) (xs : List Known) → IsIn n s → AllIn xs → Early n (unit_call env o s xs).faults
  unit_early env None s xs h i = early_misfit n s h
  unit_early env (Some t) s xs h i = called_early _ s t.result (fit_all env t.parameters xs) h (fits_early env t.parameters xs i)

  value_early : (env : Env) (k : Option Kind) (s : Span) (xs : List Known) → IsIn n s → AllIn xs → Early n (value_call env k s xs).faults
  value_early env None s xs h i = tt
  value_early env (Some k) s xs h i = unit_early env (signature_of env k) s xs h i

  abbrev OptionalIn : Option CType → Type 0
  OptionalIn None = Unit {0}
  OptionalIn (Some y) = TypeIn n y

  argument_type_early : (env : Env) (o : Option CType) → OptionalIn o → Early n (type_argument_faults env o)
  argument_type_early env None h = tt
  argument_type_early env (Some y) h = type_early n env y h

  -- a call stands within the place, and its faults are known by it
  record FineCall (x : Call) : Type 0 where
    span : IsIn n x.span
    faults : (env : Env) → Early n (call checked env x).faults

  row_fine : (t s : Token) (o : Option CType) (es : List Expr) → IsIn n (at t) → IsIn n (at s) → OptionalIn o → FineAll n es
      → FineCall (record { callee = callee.Row (name_at t); type_argument = o; arguments = es; span = join (at t) (at s) })
  row_fine t s o es h i j f = record {
    span = (h.0, i.1);
    faults = λ env.
        let x = found env.scopes t.bytes in
        early_append n (undeclared_if x (name_at t) ++ type_argument_faults env o ++ own_faults env (all_checked checked es))
        (row_call env (row_number x) (join (at t) (at s)) (type_argument_fine env o) (all_checked checked es)).faults
        (early_three n (undeclared_if x (name_at t)) (type_argument_faults env o) (own_faults env (all_checked checked es))
        (early_name n x (name_at t) h) (argument_type_early env o j) (own_early env es f))
        (row_early env (row_number x) (join (at t) (at s)) (type_argument_fine env o) (all_checked checked es) (h.0, i.1) (all_in es f));
  }

  value_call_fine : (a : Expr) (s : Token) (es : List Expr) → Fine n a → IsIn n (at s) → FineAll n es
      → FineCall (record { callee = callee.Value a; type_argument = None; arguments = es; span = join (span_of a) (at s) })
  value_call_fine a s es f i g = record {
    span = (f.span.0, i.1);
    faults = λ env.
        early_append n ((checked a).value.faults env ++ own_faults env (all_checked checked es))
        (value_call env ((checked a).value.kind env) (join (span_of a) (at s)) (all_checked checked es)).faults
        (early_append n ((checked a).value.faults env) (own_faults env (all_checked checked es)) (f.faults env) (own_early env es g))
        (value_early env ((checked a).value.kind env) (join (span_of a) (at s)) (all_checked checked es) (f.span.0, i.1) (all_in es g));
  }

  call_fine : {ns : Names} {w : Word} {x : Call} → ReadsCall ns w x → Within n w → FineCall x
  call_fine (call_value t s {u} {w} {a} {xs} ra i r j) g =
      let p = within_append n (u ++ t ∷ w) (s ∷ []) g in let q = within_append n u (t ∷ w) p.0 in
      value_call_fine a s xs (callee_fine n ra q.0) p.1.0 (arguments_fine n r q.1.1)
  call_fine (call_row {n = x} {t} s {w} {xs} i h j r m) g =
      let p = within_append n (x ∷ t ∷ w) (s ∷ []) g in row_fine x s None xs p.0.0 p.1.0 tt (arguments_fine n r p.0.1.1)
  call_fine (call_type_row {n = x} {t} s {u} {w} {c = y} {xs} i h j rc o r m) g =
      let p = within_append n (x ∷ t ∷ u ++ w) (s ∷ []) g in let q = within_append n (x ∷ t ∷ u) w p.0 in
      row_fine x s (Some y) xs q.0.0 p.1.0 (type_in n rc q.0.1.1) (more_fine n r q.1)

  -- 3. Declarations

  pub here_early : (env : Env) (x : Name) → IsIn n x.span → Early n (twice_here env x)
  here_early env x h = go (found_in (innermost env.scopes) x.text)
    where
      go : (o : Option Sort) → Early n (twice_if o x)
      go None = tt
      go (Some s) = early_twice n x h

  pub laid_early : (env : Env) (k : Option Kind) (x : Name) → IsIn n x.span → Early n (not_laid_out env k x)
  laid_early env k x h = early_unless n (laid_out_if env k) (misfit x.span) (early_misfit n x.span h)

  -- declarations stand within the place
  abbrev pub LocalsIn : List Local → Type 0
  LocalsIn [] = Unit {0}
  LocalsIn (l ∷ ls) = (TypeIn n l.declared × IsIn n l.name.span) × LocalsIn ls

  pub local_in : {ns : Names} {w : Word} {l : Local} → ReadsLocal ns w l → Within n w → TypeIn n l.declared × IsIn n l.name.span
  local_in (local_is x e {w} r h i j) g = let p = within_append n w (x ∷ e ∷ []) g in (type_in n r p.0, p.1.0)

  locals_in : {ns : Names} {w : Word} {ls : List Local} → ReadsLocals ns w ls → Within n w → LocalsIn ls
  locals_in no_local g = tt
  locals_in (more_locals {u} {w} r rest) g = let p = within_append n u w g in (local_in r p.0, locals_in rest p.1)

  locals_early : (env : Env) (ls : List Local) → LocalsIn ls → Early n (locals_faults env ls)
  locals_early env [] h = tt
  locals_early env (l ∷ ls) h =
      let fs = type_faults env l.declared ++ twice_here env l.name ++ not_laid_out env (kind_of env l.declared) l.name in
      early_append n (local_faults env l) (locals_faults (with_local env l) ls)
      (early_behind n l.declared.span.start fs h.0.0.1
      (early_three n (type_faults env l.declared) (twice_here env l.name) (not_laid_out env (kind_of env l.declared) l.name)
      (type_early n env l.declared h.0.0) (here_early env l.name h.0.1)
      (laid_early env (kind_of env l.declared) l.name h.0.1)))
      (locals_early (with_local env l) ls h.1)

  -- 4. Statements

  -- names that stand within the place
  abbrev pub NamesIn : List Name → Type 0
  NamesIn [] = Unit {0}
  NamesIn (x ∷ xs) = IsIn n x.span × NamesIn xs

  names_append : (xs ys : List Name) → NamesIn xs → NamesIn ys → NamesIn (xs ++ ys)
  names_append [] ys h i = i
  names_append (x ∷ xs) ys h i = (h.0, names_append xs ys h.1 i)

  -- statements whose faults are known by the place
  pub record FineBody (b : Body) : Type 0 where
    pub faults : (x : Context) → Early n (b.faults x)
    pub labels : NamesIn b.labels
    pub targets : NamesIn b.targets

  made : (l : Stmt-F Stmt Block) → FineBody (check_stmt checked (body_layer l)) → FineBody (body_of (stmt_at l))
  made l h = subst (λ (b : Body). FineBody b) (sym (body_at l)) h

  condition_early : (env : Env) (a : Expr) → Fine n a → Early n (condition env (checked a))
  condition_early env a f = early_append n ((checked a).value.faults env) (must_be env is_scalar (checked a)) (f.faults env)
      (must_early env is_scalar (checked a) (known_in n a f.span))

  assign_fine : (a b : Expr) → Fine n a → Fine n b → FineBody (body_of (stmt_at (Stmt-F.Assign a b)))
  assign_fine a b f g = made (Stmt-F.Assign a b) (record {
    faults = λ x. early_behind n (span_of a).start ((checked a).value.faults x.env ++ (checked b).value.faults x.env
        ++ fit x.env ((checked a).value.kind x.env) (checked b)) f.span.0
        (early_three n ((checked a).value.faults x.env) ((checked b).value.faults x.env) (fit x.env ((checked a).value.kind x.env) (checked b))
        (f.faults x.env) (g.faults x.env) (fit_early x.env ((checked a).value.kind x.env) (checked b) (known_in n b g.span)));
    labels = tt;
    targets = tt;
  })

  call_stmt_fine : (x : Call) → FineCall x → FineBody (body_of (stmt_at (Stmt-F.Call x)))
  call_stmt_fine x f = made (Stmt-F.Call x) (record {
    faults =
        λ y. early_behind n x.span.start (call checked y.env x).faults f.span.0 (f.faults y.env);
    labels = tt;
    targets = tt;
  })

  result_early : (k j : Option Kind) (s : Span) → IsIn n s → Early n (result_fit k j s)
  result_early None j s h = tt
  result_early (Some k) None s h = tt
  result_early (Some k) (Some j) s h = early_unless n (fits k j false) (misfit s) (early_misfit n s h)

  store_fine : (a : Expr) (x : Call) → Fine n a → FineCall x → FineBody (body_of (stmt_at (Stmt-F.Store a x)))
  store_fine a x f g = made (Stmt-F.Store a x) (record {
    faults = λ y.
        let k = (checked a).value.kind y.env in let r = (call checked y.env x).result in
        early_behind n (span_of a).start ((checked a).value.faults y.env ++ (call checked y.env x).faults ++ result_fit k r x.span) f.span.0
        (early_three n ((checked a).value.faults y.env) (call checked y.env x).faults (result_fit k r x.span) (f.faults y.env) (g.faults y.env)
        (result_early k r x.span g.span));
    labels = tt;
    targets = tt;
  })

  -- a block whose faults are known by the place, where it also ends
  pub record FineBlock (b : Block) : Type 0 where
    pub body : FineBody (checked_block checked b)
    pub ends : (out-Block b).span.end ≤ n

  inner_early : (b : Block) → FineBlock b → (x : Context) → Early n (inner (checked_block checked b) x)
  inner_early b h x = h.body.faults (record x { env = opened x.env })

  if_fine : (a : Expr) (b : Block) → Fine n a → FineBlock b → FineBody (body_of (stmt_at (Stmt-F.If a b None)))
  if_fine a b f g = let q = checked_block checked b in made (Stmt-F.If a b None) (record {
    faults = λ x. early_three n (condition x.env (checked a)) (inner q x) [] (condition_early x.env a f) (inner_early b g x) tt;
    labels = names_append q.labels [] g.body.labels tt;
    targets = names_append q.targets [] g.body.targets tt;
  })

  if_else_fine : (a : Expr) (b d : Block) → Fine n a → FineBlock b → FineBlock d → FineBody (body_of (stmt_at (Stmt-F.If a b (Some d))))
  if_else_fine a b d f g h = let q = checked_block checked b in let r = checked_block checked d in made (Stmt-F.If a b (Some d)) (record {
    faults = λ x. early_three n (condition x.env (checked a)) (inner q x) (inner r x) (condition_early x.env a f) (inner_early b g x) (inner_early d h x);
    labels = names_append q.labels r.labels g.body.labels h.body.labels;
    targets = names_append q.targets r.targets g.body.targets h.body.targets;
  })

  return_early : (env : Env) (k : Option Kind) (word : Span) (a : Expr) → Fine n a → Early n (return_by env k word (checked a))
  return_early env None word a f = tt
  return_early env (Some k) word a f = go (is_void k)
    where
      go : (b : Bool) → Early n (if b then fault Misfit word.start (checked a).span.end else fit env (Some k) (checked a))
      go true = early_fault n Misfit word.start (checked a).span.end (known_in n a f.span).1
      go false = fit_early env (Some k) (checked a) (known_in n a f.span)

  empty_early : (k : Option Kind) (word : Span) → IsIn n word → Early n (return_empty k word)
  empty_early None word h = tt
  empty_early (Some k) word h = early_unless n (is_void k) (misfit word) (early_misfit n word h)

  goto_in : {w : Word} {x : Token} → ReadsGoto w x → Within n w → IsIn n (at x)
  goto_in (goto_is i j h) g = g.1.0

  cases_in : {w : Word} {cs : List Case} → ReadsCases w cs → Within n w → NamesIn (case_targets cs)
  cases_in no_case g = tt
  cases_in (more_cases {t} s x {u} {v = z} {w} i r j h rest) g =
      let p = within_append n (t ∷ u ++ s ∷ z) w g in let q = within_append n (t ∷ u) (s ∷ z) p.0 in (goto_in h q.1.1, cases_in rest p.1)

  place_fine : {ns : Names} {w : Word} {a : Expr} → ReadsPlace ns w a → Within n w → Fine n a
  place_fine (place_is r h) g = operand_fine n level.Product r g

  -- statements, one after another
  record FineStmts (ss : List Stmt) : Type 0 where
    faults : (x : Context) → Early n (all_faults x (map body_of ss))
    labels : NamesIn (all_labels (map body_of ss))
    targets : NamesIn (all_targets (map body_of ss))

  stmts_more : (s : Stmt) (ss : List Stmt) → FineBody (body_of s) → FineStmts ss → FineStmts (s ∷ ss)
  stmts_more s ss f r = record {
    faults = λ x. early_append n ((body_of s).faults x) (all_faults x (map body_of ss)) (f.faults x) (r.faults x);
    labels = names_append (body_of s).labels (all_labels (map body_of ss)) f.labels r.labels;
    targets = names_append (body_of s).targets (all_targets (map body_of ss)) f.targets r.targets;
  }

  block_of : (ls : List Local) (ss : List Stmt) (o : Span) → LocalsIn ls → FineStmts ss → o.end ≤ n → FineBlock (block ls ss o)
  block_of ls ss o h f e = record {
    body = subst (λ (b : Body). FineBody b) (sym (block_out ls ss o)) (record {
      faults = λ x. early_append n (locals_faults x.env ls) (all_faults (record x { env = with_locals x.env ls }) (map body_of ss))
          (locals_early x.env ls h) (f.faults (record x { env = with_locals x.env ls }));
      labels = f.labels;
      targets = f.targets;
    });
    ends = e;
  }

  mutual
    stmt_fine : {ns : Names} {w : Word} {s : Stmt} → ReadsStmt ns w s → Within n w → FineBody (body_of s)
    stmt_fine (st.assigns t e {u} {w} {a} {b} rp i r j) g =
        let p = within_append n (u ++ t ∷ w) (e ∷ []) g in let q = within_append n u (t ∷ w) p.0 in assign_fine a b (place_fine rp q.0) (value_fine n r q.1.1)
    stmt_fine (st.calls e {w} {c = x} r i) g = let p = within_append n w (e ∷ []) g in call_stmt_fine x (call_fine r p.0)
    stmt_fine (st.stores t e {u} {w} {a} {c = x} rp i r j) g =
        let p = within_append n (u ++ t ∷ w) (e ∷ []) g in let q = within_append n u (t ∷ w) p.0 in store_fine a x (place_fine rp q.0) (call_fine r q.1.1)
    stmt_fine (st.if_block {i = x} {t} s {u} {w} {a} {b} i j r h rb) g =
        let p = within_append n (x ∷ t ∷ u) (s ∷ w) g in if_fine a b (value_fine n r p.0.1.1) (block_fine rb p.1.1)
    stmt_fine (st.if_else {i = x} {t} s l {u} {w} {x = z} {a} {b} {d} i j r h rb m rd) g =
        let p = within_append n (x ∷ t ∷ u ++ s ∷ w) (l ∷ z) g in let q = within_append n (x ∷ t ∷ u) (s ∷ w) p.0 in
        if_else_fine a b d (value_fine n r q.0.1.1) (block_fine rb q.1.1) (block_fine rd p.1.1)
    stmt_fine (st.if_goto {i = x} {t} s l {u} {w} {a} i j r h go) g =
        let p = within_append n (x ∷ t ∷ u) (s ∷ w) g in
        made (Stmt-F.IfGoto a (name_at l)) (record {
          faults = λ y. condition_early y.env a (value_fine n r p.0.1.1);
          labels = tt;
          targets =
              (goto_in go p.1.1, tt);
        })
    stmt_fine (st.goes l go) g = made (Stmt-F.Goto (name_at l)) (record { faults = λ y. tt; labels = tt; targets = (goto_in go g, tt) })
    stmt_fine (st.labels {n = l} i j h) g = made (Stmt-F.Label (name_at l)) (record { faults = λ y. tt; labels = (g.0, tt); targets = tt })
    stmt_fine (st.switches {i = x} {t} s l d c q m {u} {w} {x = z} {a} {cs} i j r h k rs y f go e) g =
        let p = within_append n (x ∷ t ∷ u ++ s ∷ l ∷ w ++ d ∷ c ∷ z) (q ∷ []) g in let p1 = within_append n (x ∷ t ∷ u ++ s ∷ l ∷ w) (d ∷ c ∷ z) p.0
        in let p2 = within_append n (x ∷ t ∷ u) (s ∷ l ∷ w) p1.0 in
        let fine : Fine n a = value_fine n r p2.0.1.1 in
        made (Stmt-F.Switch a cs (name_at m)) (record {
          faults = λ b. early_append n ((checked a).value.faults b.env) (must_be b.env is_integer (checked a)) (fine.faults b.env)
              (must_early b.env is_integer (checked a) (known_in n a fine.span));
          labels = tt;
          targets = names_append (case_targets cs) (name_at m ∷ []) (cases_in rs p2.1.1.1) (goto_in go p1.1.1.1, tt);
        })
    stmt_fine (st.returns {t} i j) g = made (Stmt-F.Return (at t) None) (record { faults = λ y. empty_early y.result (at t) g.0; labels = tt; targets = tt })
    stmt_fine (st.returns_value {t} e {w} {a} i r j) g =
        let p = within_append n (t ∷ w) (e ∷ []) g in let fine : Fine n a = value_fine n r p.0.1 in
        made (Stmt-F.Return (at t) (Some a)) (record {
          faults = λ y. early_append n ((checked a).value.faults y.env) (return_by y.env y.result (at t) (checked a)) (fine.faults y.env)
              (return_early y.env y.result (at t) a fine);
          labels = tt;
          targets = tt;
        })
    stmt_fine (st.blocks {b} r) g = let f = block_fine r g in made (Stmt-F.Block b)
        (record { faults = λ y. inner_early b f y; labels = f.body.labels; targets = f.body.targets })

    stmts_fine : {ns : Names} {w : Word} {ss : List Stmt} → ReadsStmts ns w ss → Within n w → FineStmts ss
    stmts_fine st.no_stmt g = record { faults = λ y. tt; labels = tt; targets = tt }
    stmts_fine (st.more_stmts {u} {w} {s} {ss} r rest) g = let p = within_append n u w g in stmts_more s ss (stmt_fine r p.0) (stmts_fine rest p.1)

    pub block_fine : {ns : Names} {w : Word} {b : Block} → ReadsBlock ns w b → Within n w → FineBlock b
    block_fine (st.block_is {t} s {u} {w} {ls} {ss} i rl rs j) g =
        let p = within_append n (t ∷ u ++ w) (s ∷ []) g in let q = within_append n (t ∷ u) w p.0 in
        block_of ls ss (join (at t) (at s)) (locals_in rl q.0.1) (stmts_fine rs q.1) p.1.0.1
