-- What is told of items by their parts.
use Rattle.std.proofs.Common.{◌≡◌, ◌∙◌, refl, sym, ap, ap₂, ℕ, ◌+◌, ◌<◌, Bool, true, false, ◌||◌, nat_lt, if◌then◌else◌, is_some, List, [], ◌∷◌, ◌++◌}
use Rattle.std.proofs.Common.{length, codes, Option, Some, None, arith, true≢false}
use Rattle.std.specs.Str.{bytes_eq}
use Rattle.std.specs.Option.{option_map}
use Rattle.c_tree.specs.declared.names.CType.{CType}
use Rattle.c_tree.specs.declared.names.Name.{Name}
use Rattle.c_tree.specs.declared.names.Span.{Span}
use Rattle.c_tree.specs.declared.names.Base.TheVariants as base
use Rattle.c_tree.specs.declared.code.Expr.{Expr}
use Rattle.c_tree.specs.declared.code.Local.{Local}
use Rattle.c_tree.specs.declared.code.Block.{Block}
use Rattle.c_tree.specs.declared.kinds.Kind.{Kind}
use Rattle.c_tree.specs.declared.kinds.Sort.{Sort}
use Rattle.c_tree.specs.declared.kinds.Sort.TheVariants as sort
use Rattle.c_tree.specs.declared.kinds.Cause.TheVariants.{Twice, Misfit}
use Rattle.c_tree.specs.declared.unit.Item.{Item}
use Rattle.c_tree.specs.declared.unit.Item.TheVariants as item
use Rattle.c_tree.specs.declared.unit.Member.{Member}
use Rattle.c_tree.specs.declared.unit.Parameter.{Parameter}
use Rattle.c_tree.specs.declared.unit.Signature.{Signature}
use Rattle.c_tree.specs.Words.{Token}
use Rattle.c_tree.specs.Make.{name_at}
use Rattle.c_tree.specs.Constants.{member_value, Worth, Is, Ends, Untold}
use Rattle.c_tree.specs.Library.{Takes, Field as Declared}
use Rattle.c_tree.specs.Env.{Env, Entry, found, found_in, or_else, declare, opened, kind_of, type_sort, with_signature, number_of}
use Rattle.c_tree.specs.Env.{structure_named, fields_of}
use Rattle.c_tree.specs.Faults.{fault, misfit}
use Rattle.c_tree.specs.Checks.{checked, type_faults}
use Rattle.c_tree.specs.Rules.{checked_block, fit, laid_out_if, not_laid_out}
use Rattle.c_tree.specs.Unit.{takes_of, again, unlaid, unlaid_optional, unlaid_parameters, unlaid_result, is_void_result, signature_faults}
use Rattle.c_tree.specs.Unit.{parameter_faults, with_function, with_members, with_item, with_parameters, body_faults, kind_named, variable_twice}
use Rattle.c_tree.specs.Unit.{ends_faults, function_faults, defined_twice, struct_faults, define_struct, target_faults, label_faults, block_end}
use Rattle.c_grammar.specs.Trees.{type_of, no_stars, base_of}
use Rattle.c_fronts.proofs.Shows.{Probe, shows_append, shows_three, shows_drop, or_drop, late_one, late_misfit, late_twice, late_undeclared, late_unless}
use Rattle.c_fronts.proofs.Judging.{late_fit}
use Rattle.c_fronts.proofs.ValueFaults.{known_end}
use Rattle.c_fronts.proofs.Telling.{Edge, Blocks, Outside, HasInfo, tell, value_tells, type_tells, LateValue, BehindToken, LateToken, other_twice}
use Rattle.c_fronts.proofs.Telling.{item_tells, block_tells}

-- 1. `GInterfaceInfo` is found behind each item

info_entry : (e : Entry) (es : List Entry) (x : List ℕ) → is_some (found_in es x) ≡ true → is_some (found_in (e ∷ es) x) ≡ true
info_entry e es x h = go (bytes_eq e.name x)
  where
    go : (b : Bool) → is_some (if b then Some e.sort else found_in es x) ≡ true
    go true = refl
    go false = h

info_either : (o o2 p : Option Sort) → (is_some o ≡ true → is_some o2 ≡ true) → is_some (or_else o p) ≡ true → is_some (or_else o2 p) ≡ true
info_either o (Some s) p f h = refl
info_either None None p f h = h
info_either (Some s) None p f h = absurd (true≢false (sym (f refl)))

info_scopes : (ess : List (List Entry)) (e : Entry) (x : List ℕ) → is_some (found ess x) ≡ true
    → is_some (found (Rattle.c_tree.specs.Env.with_entry ess e) x) ≡ true
info_scopes [] e x h = absurd (true≢false (sym h))
info_scopes (es ∷ ess) e x h = info_either (found_in es x) (found_in (e ∷ es) x) (found ess x) (info_entry e es x) h

pub info_declared : (env : Env) (x : Name) (s : Sort) → HasInfo env → HasInfo (declare env x s)
info_declared env x s h = info_scopes env.scopes (record { name = x.text; sort = s }) (codes "GInterfaceInfo") h

info_signature : (env : Env) (t : Takes) → HasInfo env → HasInfo (with_signature env t)
info_signature env t h = go (nat_lt (number_of env t) (length env.signatures))
  where
    go : (b : Bool) → HasInfo (if b then env else record env { signatures = env.signatures ++ t ∷ [] })
    go true = h
    go false = h

info_members : (env : Env) (ms : List Member) → HasInfo env → HasInfo (with_members env ms)
info_members env [] h = h
info_members env (m ∷ ms) h = info_members (declare env m.name (sort.Member (member_value m.number))) ms
    (info_declared env m.name (sort.Member (member_value m.number)) h)

info_function : (env : Env) (s : Signature) (defines : Bool) → HasInfo env → HasInfo (with_function env s defines)
info_function env s defines h = info_declared (with_signature env (takes_of env s)) s.name _ (info_signature env (takes_of env s) h)

info_struct : (env : Env) (o : Option ℕ) (ls : List Local) → HasInfo env → HasInfo (define_struct env o ls)
info_struct env None ls h = h
info_struct env (Some n) ls h = h

pub info_item : (env : Env) (i : Item) → HasInfo env → HasInfo (with_item env i)
info_item env (item.Include f) h = h
info_item env (item.StructType x) h = info_declared (record env { structs = env.structs ++ record { name = x.text; fields = None; cells = 0 } ∷ [] }) x _ h
info_item env (item.Struct s) h = info_struct env (structure_named 0 env.structs s.name.text) s.fields h
info_item env (item.Enumeration e) h = info_declared (with_members env e.members) e.name _ (info_members env e.members h)
info_item env (item.FunctionType s) h = info_declared (with_signature env (takes_of env s)) s.name _ (info_signature env (takes_of env s) h)
info_item env (item.Prototype s) h = info_function env s false h
info_item env (item.Variable v) h = info_declared env v.name _ h
info_item env (item.InterfaceTable t) h = info_declared env t.name _ h
info_item env (item.Function f) h = info_function env f.signature true h

-- 2. Names

module _ (edge : Edge) where
  pub other_late : (p : Probe) (o : Option Sort) (t : Token) → BehindToken edge t → tell edge p (other_twice edge o (name_at t)) ≡ false
  other_late p None t b = refl
  other_late p (Some (sort.Function n x y)) t b = refl
  other_late p (Some s) t b = let a = edge.apart in late_twice edge.last p (name_at t) (omega (arith, b.0))

  -- that another signature stands before is known behind the head
  pub again_late : (p : Probe) (env : Env) (s : Signature) (defines : Bool) (o : Option Sort) → edge.last < s.span.end
      → tell edge p (again env s defines o) ≡ tell edge p (other_twice edge o s.name)
  again_late p env s defines None h = refl
  again_late p env s defines (Some (sort.Function n x y)) h = late_unless edge.last p _ (fault Twice s.name.span.start s.span.end)
      (late_one edge.last p Twice s.name.span.start s.span.end h)
  again_late p env s defines (Some (sort.Type y)) h = refl
  again_late p env s defines (Some (sort.Variable y)) h = refl
  again_late p env s defines (Some (sort.Member y)) h = refl
  again_late p env s defines (Some (sort.Row y)) h = refl

  pub variable_late : (p : Probe) (o : Option Sort) (x : Name) → edge.last < x.span.end → tell edge p (variable_twice o x) ≡ tell edge p
      (other_twice edge o x)
  variable_late p None x h = refl
  variable_late p (Some (sort.Function n a b)) x h = late_one edge.last p Twice x.span.start x.span.end h
  variable_late p (Some (sort.Type y)) x h = refl
  variable_late p (Some (sort.Variable y)) x h = refl
  variable_late p (Some (sort.Member y)) x h = refl
  variable_late p (Some (sort.Row y)) x h = refl

  pub laid_late : (p : Probe) (env : Env) (k : Option Kind) (x : Name) → edge.last < x.span.end → tell edge p (not_laid_out env k x) ≡ false
  laid_late p env k x h = late_unless edge.last p (laid_out_if env k) (misfit x.span) (late_misfit edge.last p x.span h)

  pub function_late : (p : Probe) (o : Option Sort) (t : Token) → BehindToken edge t → tell edge p (function_faults o (name_at t)) ≡ false
  function_late p None t b = let a = edge.apart in late_undeclared edge.last p (name_at t) (omega (arith, b.0))
  function_late p (Some (sort.Function n x y)) t b = refl
  function_late p (Some (sort.Type y)) t b = let a = edge.apart in late_misfit edge.last p (name_at t).span (omega (arith, b.1))
  function_late p (Some (sort.Variable y)) t b = let a = edge.apart in late_misfit edge.last p (name_at t).span (omega (arith, b.1))
  function_late p (Some (sort.Member y)) t b = let a = edge.apart in late_misfit edge.last p (name_at t).span (omega (arith, b.1))
  function_late p (Some (sort.Row y)) t b = let a = edge.apart in late_misfit edge.last p (name_at t).span (omega (arith, b.1))

  pub struct_late : (p : Probe) (env : Env) (o : Option ℕ) (x : Name) → edge.last < x.span.start → tell edge p (struct_faults env o x) ≡ false
  struct_late p env None x h = late_undeclared edge.last p x h
  struct_late p env (Some n) x h = go (fields_of env n)
    where
      go : (o : Option (List Declared)) → tell edge p (defined_twice o x) ≡ false
      go None = refl
      go (Some fs) = late_twice edge.last p x h

  ends_late : (p : Probe) (k : Option Kind) (v : Worth) (s : Span) → edge.last < s.end → tell edge p (ends_faults k v s) ≡ false
  ends_late p None v s h = refl
  ends_late p (Some k) (Is d) s h = refl
  ends_late p (Some k) Ends s h = late_misfit edge.last p s h
  ends_late p (Some k) Untold s h = refl

  unlaid_late : (p : Probe) (env : Env) (head : Span) (k : Option Kind) (x : Name) → edge.last < head.end → tell edge p (unlaid env head k x) ≡ false
  unlaid_late p env head k x h = late_unless edge.last p (laid_out_if env k) (fault Misfit x.span.start head.end)
      (late_one edge.last p Misfit x.span.start head.end h)

  unlaid_result_late : (p : Probe) (env : Env) (s : Signature) → edge.last < s.span.end → tell edge p (unlaid_result env s) ≡ false
  unlaid_result_late p env s h = go (is_void_result s)
    where
      go : (b : Bool) → tell edge p (if b then [] else unlaid env s.span (kind_of env s.result) s.name) ≡ false
      go true = refl
      go false = unlaid_late p env s.span (kind_of env s.result) s.name h

  unlaid_optional_late : (p : Probe) (env : Env) (head : Span) (k : Option Kind) (o : Option Name) → edge.last < head.end
      → tell edge p (unlaid_optional env head k o) ≡ false
  unlaid_optional_late p env head k None h = refl
  unlaid_optional_late p env head k (Some x) h = unlaid_late p env head k x h

  unlaid_parameters_late : (p : Probe) (env : Env) (head : Span) (ps : List Parameter) → edge.last < head.end
      → tell edge p (unlaid_parameters env head ps) ≡ false
  unlaid_parameters_late p env head [] h = refl
  unlaid_parameters_late p env head (q ∷ ps) h =
      shows_append edge.last p (unlaid_optional env head (kind_of env q.declared) q.name) (unlaid_parameters env head ps)
      ∙ ap₂ (λ x y. x || y) (unlaid_optional_late p env head (kind_of env q.declared) q.name h) (unlaid_parameters_late p env head ps h)

  -- 3. Functions

  or_head : (o t q : Bool) → (o || (t || q)) ≡ ((t || o) || q)
  or_head true true q = refl
  or_head true false q = refl
  or_head false true q = refl
  or_head false false q = refl

  -- what is told of a head up to its `)`
  abbrev pub parameters_tell : Outside → List Parameter → Bool
  parameters_tell c ps = tell edge c.probe (parameter_faults (opened c.env) ps)

  abbrev pub named_tells : Outside → Signature → Bool
  named_tells c s = (type_tells edge c.probe c.env s.result || tell edge c.probe (other_twice edge (found c.env.scopes s.name.text) s.name)) ||
      parameters_tell c s.parameters

  head_late : (c : Outside) (s : Signature) (defines : Bool) → edge.last < s.span.end
      → tell edge c.probe (again c.env s defines (found c.env.scopes s.name.text) ++ signature_faults c.env s) ≡ named_tells c s
  head_late c s defines h =
      shows_append edge.last c.probe (again c.env s defines (found c.env.scopes s.name.text)) (signature_faults c.env s)
      ∙ ap₂ (λ x y. x || y) (again_late c.probe c.env s defines (found c.env.scopes s.name.text) h)
      (shows_append edge.last c.probe (type_faults c.env s.result) (parameter_faults (opened c.env) s.parameters))
      ∙ or_head (tell edge c.probe (other_twice edge (found c.env.scopes s.name.text) s.name)) (type_tells edge c.probe c.env s.result)
      (parameters_tell c s.parameters)

  pub prototype_late : (c : Outside) (s : Signature) → edge.last < s.span.end → item_tells edge c.probe c.env (item.Prototype s) ≡ named_tells c s
  prototype_late c s h = head_late c s false h

  -- what is told of the head of a function that is defined
  abbrev pub defined_tells : Outside → Signature → Bool
  defined_tells c s = tell edge c.probe (again c.env s true
      (found c.env.scopes s.name.text) ++ signature_faults c.env s ++ unlaid_result c.env s ++ unlaid_parameters c.env s.span s.parameters)

  pub defined_late : (c : Outside) (s : Signature) → edge.last < s.span.end → defined_tells c s ≡ named_tells c s
  defined_late c s h =
      shows_drop edge.last c.probe (again c.env s true (found c.env.scopes s.name.text) ++ signature_faults c.env s ++ unlaid_result c.env s)
      (unlaid_parameters c.env s.span s.parameters) (unlaid_parameters_late c.probe c.env s.span s.parameters h)
      ∙ shows_drop edge.last c.probe (again c.env s true (found c.env.scopes s.name.text) ++ signature_faults c.env s) (unlaid_result c.env s)
      (unlaid_result_late c.probe c.env s h)
      ∙ head_late c s true h

  -- where the body of a function stands
  abbrev pub body_in : Outside → Signature → Blocks
  body_in c s =
      record {
        probe = c.probe;
        context = record { env = with_parameters (opened (with_function c.env s true)) s.parameters; result = kind_of (with_function c.env s true) s.result };
        labels = [];
        whole = true;
      }

  pub function_is : (c : Outside) (s : Signature) (b : Block)
      → item_tells edge c.probe c.env (item.Function (record { signature = s; body = b })) ≡ (defined_tells c s || block_tells edge (body_in c s) b)
  function_is c s b = let q = checked_block checked b in let k = body_in c s in
      shows_append edge.last c.probe (again c.env s true
      (found c.env.scopes s.name.text) ++ signature_faults c.env s ++ unlaid_result c.env s ++ unlaid_parameters c.env s.span s.parameters)
      (body_faults (with_function c.env s true) (record { signature = s; body = b }) q)
      ∙ ap (λ (z : Bool). defined_tells c s || z)
      (shows_three edge.last c.probe (q.faults k.context) (label_faults [] q.labels) (target_faults q.labels (block_end b) q.targets))

  -- 4. Variables

  -- what is told of a variable up to `=`
  abbrev pub variable_tells : Probe → Env → CType → Token → Bool
  variable_tells p env y n = (type_tells edge p env y || tell edge p (variable_twice (found env.scopes n.bytes) (name_at n))) || tell edge p
      (not_laid_out env (kind_of env y) (name_at n))

  pub variable_head_late : (p : Probe) (env : Env) (y : CType) (n : Token) → LateToken edge n
      → variable_tells p env y n ≡ (type_tells edge p env y || tell edge p (other_twice edge (found env.scopes n.bytes) (name_at n)))
  variable_head_late p env y n h =
      or_drop (type_tells edge p env y || tell edge p (variable_twice (found env.scopes n.bytes) (name_at n)))
      (tell edge p (not_laid_out env (kind_of env y) (name_at n))) (laid_late p env (kind_of env y) (name_at n) h.1)
      ∙ ap (λ (z : Bool). type_tells edge p env y || z) (variable_late p (found env.scopes n.bytes) (name_at n) h.1)

  pub variable_is_late : (p : Probe) (env : Env) (y : CType) (n : Token) (x : Expr) → LateValue edge x
      → item_tells edge p env (item.Variable (record { declared = y; name = name_at n; value = x })) ≡ (variable_tells p env y n || value_tells edge p env x)
  variable_is_late p env y n x h =
      let vt = variable_twice (found env.scopes n.bytes) (name_at n) in let laid = not_laid_out env (kind_of env y)
      (name_at n) in let own = (checked x).value.faults env in
      shows_drop edge.last p (type_faults env y ++ vt ++ laid ++ own ++ fit env (kind_of env y) (checked x))
      (ends_faults ((checked x).value.kind env) ((checked x).value.worth env) (checked x).span)
      (ends_late p ((checked x).value.kind env) ((checked x).value.worth env) (checked x).span (known_end edge.last p env x h))
      ∙ shows_drop edge.last p (type_faults env y ++ vt ++ laid ++ own) (fit env (kind_of env y) (checked x))
      (late_fit edge.last p env (kind_of env y) (checked x) (known_end edge.last p env x h))
      ∙ shows_append edge.last p (type_faults env y ++ vt ++ laid) own
      ∙ ap (λ (z : Bool). z || value_tells edge p env x) (shows_three edge.last p (type_faults env y) vt laid)

  -- 5. Tables

  no_more_stars : (k : Kind) → record { base = k.base; stars = k.stars + 0 } ≡ k
  no_more_stars k = ap (λ (n : ℕ). record { base = k.base; stars = n }) (add_none k.stars)
    where
      add_none : (n : ℕ) → n + 0 ≡ n
      add_none n = omega arith

  -- the type of a table by its token
  info_kind : (env : Env) (k i : Token) → i.bytes ≡ codes "GInterfaceInfo" → base_of i ≡ base.Named (name_at i)
      → kind_of env (type_of (k ∷ []) i [] no_stars) ≡ kind_named env (codes "GInterfaceInfo")
  info_kind env k i e b =
      ap (λ (z : _). option_map (λ (k : Kind). record { base = k.base; stars = k.stars + 0 }) (Rattle.c_tree.specs.Env.base_kind env z)) b
      ∙ ap (λ (z : List ℕ). option_map (λ (k : Kind). record { base = k.base; stars = k.stars + 0 }) (type_sort (found env.scopes z))) e
      ∙ go (type_sort (found env.scopes (codes "GInterfaceInfo")))
    where
      go : (o : Option Kind) → option_map (λ (k : Kind). record { base = k.base; stars = k.stars + 0 }) o ≡ o
      go None = refl
      go (Some k) = ap (λ (k : Kind). Some k) (no_more_stars k)

  -- nothing is told of the type of a table
  pub info_silent : (p : Probe) (env : Env) (i : Token) → HasInfo env → i.bytes ≡ codes "GInterfaceInfo" → base_of i ≡ base.Named (name_at i)
      → tell edge p (Rattle.c_tree.specs.Checks.base_faults env (base_of i)) ≡ false
  info_silent p env i h e b = ap (λ (z : _). tell edge p (Rattle.c_tree.specs.Checks.base_faults env z)) b
      ∙ go (found env.scopes i.bytes) (ap (λ (z : List ℕ). is_some (found env.scopes z)) e ∙ h)
    where
      go : (o : Option Sort) → is_some o ≡ true → tell edge p (Rattle.c_tree.specs.Checks.undeclared_if o (name_at i)) ≡ false
      go None q = absurd (true≢false (sym q))
      go (Some s) q = refl

  pub table_is : (p : Probe) (env : Env) (k i n g : Token) → HasInfo env → i.bytes ≡ codes "GInterfaceInfo" → base_of i ≡ base.Named (name_at i)
      → item_tells edge p env (item.InterfaceTable (record { name = name_at n; init = name_at g }))
      ≡ (variable_tells p env (type_of (k ∷ []) i [] no_stars) n || tell edge p (function_faults (found env.scopes g.bytes) (name_at g)))
  table_is p env k i n g h e b =
      let vt = variable_twice (found env.scopes n.bytes) (name_at n) in
      shows_three edge.last p vt (not_laid_out env (kind_named env (codes "GInterfaceInfo")) (name_at n))
      (function_faults (found env.scopes g.bytes) (name_at g))
      ∙ ap (λ (z : Option Kind). (tell edge p vt || tell edge p (not_laid_out env z (name_at n))) || tell edge p
      (function_faults (found env.scopes g.bytes) (name_at g))) (sym (info_kind env k i e b))
      ∙ ap (λ (z : Bool). ((z || tell edge p vt) || tell edge p (not_laid_out env (kind_of env (type_of (k ∷ []) i [] no_stars)) (name_at n))) || tell edge p
      (function_faults (found env.scopes g.bytes) (name_at g))) (sym (info_silent p env i h e b))
