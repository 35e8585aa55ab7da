-- ALL FAULTS of a unit are known by the end of its text.
use Rattle.std.proofs.Common.{◌≡◌, refl, sym, ap, subst, ℕ, ◌-◌, ◌<◌, ◌≤◌, Bool, true, false, not, if◌then◌else◌, List, [], ◌∷◌, ◌++◌, map, codes}
use Rattle.std.proofs.Common.{Option, Some, None, arith}
use Rattle.c_tree.specs.declared.names.CType.{CType}
use Rattle.c_tree.specs.declared.names.Name.{Name}
use Rattle.c_tree.specs.declared.names.Span.{Span}
use Rattle.c_tree.specs.declared.code.Local.{Local}
use Rattle.c_tree.specs.declared.code.Block.{Block, out-Block}
use Rattle.c_tree.specs.declared.kinds.Cause.TheVariants.{Undeclared, Misfit, Twice}
use Rattle.c_tree.specs.declared.kinds.Fault.{Fault}
use Rattle.c_tree.specs.declared.kinds.Kind.{Kind}
use Rattle.c_tree.specs.declared.kinds.Sort.{Sort}
use Rattle.c_tree.specs.declared.kinds.Sort.TheVariants as sort
use Rattle.c_tree.specs.declared.unit.Item.{Item}
use Rattle.c_tree.specs.declared.unit.Item.TheVariants as item
use Rattle.c_tree.specs.declared.unit.Member.{Member}
use Rattle.c_tree.specs.declared.unit.Parameter.{Parameter}
use Rattle.c_tree.specs.declared.unit.Signature.{Signature}
use Rattle.c_tree.specs.declared.unit.Function.{Function as Definition}
use Rattle.c_tree.specs.Words.{Token, Word, at, extent}
use Rattle.c_tree.specs.Names.{Names}
use Rattle.c_tree.specs.Make.{name_at}
use Rattle.c_tree.specs.Library.{Field as Declared}
use Rattle.c_tree.specs.Constants.{Worth, Is, Ends, Untold, member_value}
use Rattle.c_tree.specs.Env.{Env, found, declare, opened, kind_of, fields_of, structure_named, library}
use Rattle.c_tree.specs.Faults.{fault, misfit, twice, unless}
use Rattle.c_tree.specs.Checks.{checked, type_faults}
use Rattle.c_tree.specs.Rules.{Body, Context, checked_block, fit, twice_here, not_laid_out, laid_out_if}
use Rattle.c_tree.specs.Items as it
use Rattle.c_tree.specs.Items.{ReadsMember, member_is, ReadsMoreMembers, no_member, more_members, ReadsFields, no_field, more_fields, ReadsParameter}
use Rattle.c_tree.specs.Items.{unnamed, named, ReadsMoreParameters, no_parameter, more_parameters, ReadsParameters, none_taken, some_taken}
use Rattle.c_tree.specs.Items.{ReadsSignature, signature_is, ReadsItem, ReadsItems, no_item, more_items}
use Rattle.c_tree.specs.Unit.{takes_of, with_parameter, with_parameters, twice_optional, parameter_faults, signature_faults, unlaid, unlaid_optional}
use Rattle.c_tree.specs.Unit.{unlaid_parameters, unlaid_result, is_void_result, again, with_function, has_name, label_faults, target_faults}
use Rattle.c_tree.specs.Unit.{block_end, body_faults, has_field, field_faults, defined_twice, struct_faults, with_members, member_faults, kind_named}
use Rattle.c_tree.specs.Unit.{with_item, variable_twice, ends_faults, function_faults, item_faults, items_faults}
use Rattle.c_text_reader.specs.Laws.{Within, FaultsAreKnown}
use Rattle.c_text_reader.proofs.Early.{Early, IsIn, early_all, early_append, early_three, early_unless, early_fault, early_misfit, early_undeclared}
use Rattle.c_text_reader.proofs.Early.{early_twice}
use Rattle.c_text_reader.proofs.KnownValues.{within_append, TypeIn, type_early, type_in, start_in, end_in, Fine, known_in, value_fine}
use Rattle.c_text_reader.proofs.KnownStatements.{fit_early, here_early, laid_early, LocalsIn, local_in, NamesIn, FineBody, FineBlock, block_fine}

module _ (n : ℕ) where
  -- 1. What functions take and give

  abbrev NameIn : Option Name → Type 0
  NameIn None = Unit {0}
  NameIn (Some x) = IsIn n x.span

  abbrev ParametersIn : List Parameter → Type 0
  ParametersIn [] = Unit {0}
  ParametersIn (p ∷ ps) = (TypeIn n p.declared × NameIn p.name) × ParametersIn ps

  parameter_in : {ns : Names} {w : Word} {x : Parameter} → ReadsParameter ns w x → Within n w → TypeIn n x.declared × NameIn x.name
  parameter_in (unnamed r h) g = (type_in n r g, tt)
  parameter_in (named x {w} r h i) g = let p = within_append n w (x ∷ []) g in (type_in n r p.0, p.1.0)

  more_in : {ns : Names} {w : Word} {ps : List Parameter} → ReadsMoreParameters ns w ps → Within n w → ParametersIn ps
  more_in no_parameter g = tt
  more_in (more_parameters {u} {w} i r rest) g = let p = within_append n u w g.1 in (parameter_in r p.0, more_in rest p.1)

  parameters_in : {ns : Names} {w : Word} {ps : List Parameter} → ReadsParameters ns w ps → Within n w → ParametersIn ps
  parameters_in (none_taken i j h) g = tt
  parameters_in (some_taken {t} s {u} {w} i r rest j) g =
      let p = within_append n (t ∷ u ++ w) (s ∷ []) g in let q = within_append n (t ∷ u) w p.0 in (parameter_in r q.0.1, more_in rest q.1)

  optional_early : (env : Env) (o : Option Name) → NameIn o → Early n (twice_optional env o)
  optional_early env None h = tt
  optional_early env (Some x) h = here_early n env x h

  parameters_early : (env : Env) (ps : List Parameter) → ParametersIn ps → Early n (parameter_faults env ps)
  parameters_early env [] h = tt
  parameters_early env (p ∷ ps) h =
      early_three n (type_faults env p.declared) (twice_optional env p.name) (parameter_faults (with_parameter env p) ps)
      (type_early n env p.declared h.0.0) (optional_early env p.name h.0.1) (parameters_early (with_parameter env p) ps h.1)

  -- the head of a function stands within the place
  record SignatureIn (s : Signature) : Type 0 where
    result : TypeIn n s.result
    name : IsIn n s.name.span
    parameters : ParametersIn s.parameters
    ends : s.span.end ≤ n

  signature_in : {ns : Names} {w : Word} {s : Signature} → ReadsSignature ns w s → Within n w → SignatureIn s
  signature_in (signature_is x {u} {v = z} {w} rb rc i rp h) g =
      let p = within_append n (u ++ z) (x ∷ w) g in let q = within_append n u z p.0 in
      record { result = type_in n rc q.1; name = p.1.0; parameters = parameters_in rp p.1.1; ends = end_in n 0 (u ++ z ++ x ∷ w) (omega (arith, p.1.0.0)) g }

  signature_early : (env : Env) (s : Signature) → SignatureIn s → Early n (signature_faults env s)
  signature_early env s h = early_append n (type_faults env s.result) (parameter_faults (opened env) s.parameters)
      (type_early n env s.result h.result) (parameters_early (opened env) s.parameters h.parameters)

  again_early : (env : Env) (s : Signature) (defines : Bool) (o : Option Sort) → SignatureIn s → Early n (again env s defines o)
  again_early env s defines None h = tt
  again_early env s defines (Some (sort.Function m a b)) h =
      early_unless n _ (fault Twice s.name.span.start s.span.end) (early_fault n Twice s.name.span.start s.span.end h.ends)
  again_early env s defines (Some (sort.Type k)) h = early_twice n s.name h.name
  again_early env s defines (Some (sort.Row k)) h = early_twice n s.name h.name
  again_early env s defines (Some (sort.Variable k)) h = early_twice n s.name h.name
  again_early env s defines (Some (sort.Member k)) h = early_twice n s.name h.name

  unlaid_early : (env : Env) (head : Span) (k : Option Kind) (x : Name) → head.end ≤ n → Early n (unlaid env head k x)
  unlaid_early env head k x h = early_unless n (laid_out_if env k) (fault Misfit x.span.start head.end) (early_fault n Misfit x.span.start head.end h)

  unlaid_optional_early : (env : Env) (head : Span) (k : Option Kind) (o : Option Name) → head.end ≤ n → Early n (unlaid_optional env head k o)
  unlaid_optional_early env head k None h = tt
  unlaid_optional_early env head k (Some x) h = unlaid_early env head k x h

  unlaid_parameters_early : (env : Env) (head : Span) (ps : List Parameter) → head.end ≤ n → Early n (unlaid_parameters env head ps)
  unlaid_parameters_early env head [] h = tt
  unlaid_parameters_early env head (p ∷ ps) h =
      early_append n (unlaid_optional env head (kind_of env p.declared) p.name) (unlaid_parameters env head ps)
      (unlaid_optional_early env head (kind_of env p.declared) p.name h) (unlaid_parameters_early env head ps h)

  unlaid_result_early : (env : Env) (s : Signature) → s.span.end ≤ n → Early n (unlaid_result env s)
  unlaid_result_early env s h = go (is_void_result s)
    where
      go : (b : Bool) → Early n (if b then [] else unlaid env s.span (kind_of env s.result) s.name)
      go true = tt
      go false = unlaid_early env s.span (kind_of env s.result) s.name h

  -- 2. Labels

  labels_early : (before xs : List Name) → NamesIn n xs → Early n (label_faults before xs)
  labels_early before [] h = tt
  labels_early before (x ∷ xs) h =
      early_append n (unless (not (has_name x.text before)) (fault Twice x.span.start x.span.end)) (label_faults (x ∷ before) xs)
      (early_unless n (not (has_name x.text before)) (fault Twice x.span.start x.span.end) (early_fault n Twice x.span.start x.span.end h.0.1))
      (labels_early (x ∷ before) xs h.1)

  targets_early : (labels : List Name) (last : ℕ) (xs : List Name) → last ≤ n → Early n (target_faults labels last xs)
  targets_early labels last [] h = tt
  targets_early labels last (x ∷ xs) h =
      early_append n (unless (has_name x.text labels) (fault Undeclared x.span.start last)) (target_faults labels last xs)
      (early_unless n (has_name x.text labels) (fault Undeclared x.span.start last) (early_fault n Undeclared x.span.start last h))
      (targets_early labels last xs h)

  body_early : (env : Env) (f : Definition) → FineBlock n f.body → Early n (body_faults env f (checked_block checked f.body))
  body_early env f h =
      let b = checked_block checked f.body in
      let inside : Context = record { env = with_parameters (opened env) f.signature.parameters; result = kind_of env f.signature.result } in
      early_three n (b.faults inside) (label_faults [] b.labels) (target_faults b.labels (block_end f.body) b.targets) (h.body.faults inside)
      (labels_early [] b.labels h.body.labels)
      (targets_early b.labels (block_end f.body) b.targets (omega (arith, h.ends)))

  -- 3. Types

  fields_in : {ns : Names} {w : Word} {ls : List Local} → ReadsFields ns w ls → Within n w → LocalsIn n ls
  fields_in no_field g = tt
  fields_in (more_fields {u} {w} r rest) g = let p = within_append n u w g in (local_in n r p.0, fields_in rest p.1)

  fields_early : (env : Env) (before ls : List Local) → LocalsIn n ls → Early n (field_faults env before ls)
  fields_early env before [] h = tt
  fields_early env before (l ∷ ls) h =
      let name = unless (not (has_field l.name.text before)) (twice l.name) in
      let laid = not_laid_out env (kind_of env l.declared) l.name in
      early_append n (type_faults env l.declared ++ name ++ laid) (field_faults env (l ∷ before) ls)
      (early_three n (type_faults env l.declared) name laid (type_early n env l.declared h.0.0)
      (early_unless n (not (has_field l.name.text before)) (twice l.name) (early_twice n l.name h.0.1))
      (laid_early n env (kind_of env l.declared) l.name h.0.1))
      (fields_early env (l ∷ before) ls h.1)

  struct_early : (env : Env) (o : Option ℕ) (x : Name) → IsIn n x.span → Early n (struct_faults env o x)
  struct_early env None x h = early_undeclared n x h
  struct_early env (Some m) x h = go (fields_of env m)
    where
      go : (o : Option (List Declared)) → Early n (defined_twice o x)
      go None = tt
      go (Some fs) = early_twice n x h

  abbrev MembersIn : List Member → Type 0
  MembersIn [] = Unit {0}
  MembersIn (m ∷ ms) = IsIn n m.name.span × MembersIn ms

  member_in : {w : Word} {m : Member} → ReadsMember w m → Within n w → IsIn n m.name.span
  member_in (member_is i j r) g = g.0

  more_members_in : {w : Word} {ms : List Member} → ReadsMoreMembers w ms → Within n w → MembersIn ms
  more_members_in no_member g = tt
  more_members_in (more_members {u} {w} i r rest) g = let p = within_append n u w g.1 in (member_in r p.0, more_members_in rest p.1)

  members_early : (env : Env) (ms : List Member) → MembersIn ms → Early n (member_faults env ms)
  members_early env [] h = tt
  members_early env (m ∷ ms) h =
      let next = declare env m.name (sort.Member (member_value m.number)) in
      early_append n (twice_here env m.name) (member_faults next ms) (here_early n env m.name h.0) (members_early next ms h.1)

  -- 4. Items

  variable_early : (o : Option Sort) (x : Name) → IsIn n x.span → Early n (variable_twice o x)
  variable_early None x h = tt
  variable_early (Some (sort.Function m a b)) x h = early_fault n Twice x.span.start x.span.end h.1
  variable_early (Some (sort.Type k)) x h = early_twice n x h
  variable_early (Some (sort.Row k)) x h = early_twice n x h
  variable_early (Some (sort.Variable k)) x h = early_twice n x h
  variable_early (Some (sort.Member k)) x h = early_twice n x h

  function_early : (o : Option Sort) (x : Name) → IsIn n x.span → Early n (function_faults o x)
  function_early None x h = early_undeclared n x h
  function_early (Some (sort.Function m a b)) x h = tt
  function_early (Some (sort.Type k)) x h = early_misfit n x.span h
  function_early (Some (sort.Row k)) x h = early_misfit n x.span h
  function_early (Some (sort.Variable k)) x h = early_misfit n x.span h
  function_early (Some (sort.Member k)) x h = early_misfit n x.span h

  ends_early : (o : Option Kind) (w : Worth) (s : Span) → IsIn n s → Early n (ends_faults o w s)
  ends_early (Some k) Ends s h = early_misfit n s h
  ends_early (Some k) (Is d) s h = tt
  ends_early (Some k) Untold s h = tt
  ends_early None w s h = tt

  abbrev faults_of : Env → Item → List Fault
  faults_of = item_faults checked (checked_block checked)

  variable_item_early : (env : Env) (y : CType) (x : Token) (e : _) → TypeIn n y → IsIn n (at x) → Fine n e
      → Early n (faults_of env (item.Variable (record { declared = y; name = name_at x; value = e })))
  variable_item_early env y x e h i f =
      let k = kind_of env y in let a = checked e in
      let one = type_faults env y in
      let two = variable_twice (found env.scopes x.bytes) (name_at x) in
      let three = not_laid_out env k (name_at x) in
      let four = a.value.faults env in
      let five = fit env k a in
      let six = ends_faults (a.value.kind env) (a.value.worth env) a.span in
      early_append n (one ++ two ++ three ++ four ++ five) six
      (early_append n (one ++ two ++ three ++ four) five
      (early_append n (one ++ two ++ three) four
      (early_three n one two three (type_early n env y h) (variable_early (found env.scopes x.bytes) (name_at x) i)
      (laid_early n env k (name_at x) i)) (f.faults env))
      (fit_early n env k a (known_in n e f.span)))
      (ends_early (a.value.kind env) (a.value.worth env) a.span (known_in n e f.span))

  function_item_early : (env : Env) (s : Signature) (b : Block) → SignatureIn s → FineBlock n b
      → Early n (faults_of env (item.Function (record { signature = s; body = b })))
  function_item_early env s b h f =
      let f2 : Definition = record { signature = s; body = b } in
      let one = again env s true (found env.scopes s.name.text) in
      let two = signature_faults env s in
      let three = unlaid_result env s in
      let four = unlaid_parameters env s.span s.parameters in
      let five = body_faults (with_function env s true) f2 (checked_block checked b) in
      early_append n (one ++ two ++ three ++ four) five
      (early_append n (one ++ two ++ three) four
      (early_three n one two three (again_early env s true (found env.scopes s.name.text) h) (signature_early env s h)
      (unlaid_result_early env s h.ends)) (unlaid_parameters_early env s.span s.parameters h.ends))
      (body_early (with_function env s true) f2 f)

  item_early : {ns : Names} {w : Word} {i : Item} → ReadsItem ns w i → Within n w → (env : Env) → Early n (faults_of env i)
  item_early (it.includes a b c d e) g env = tt
  item_early (it.struct_type {n = x} a b c d e) g env = here_early n env (name_at x) g.1.1.1.0
  item_early (it.struct_is {s} {g = t} {l} r e {x} {w} {fs} a b c rf d f) g env =
      let p = within_append n (s ∷ t ∷ l ∷ w) (r ∷ e ∷ []) g in
      let name : Name = record { text = x; span = at t } in
      early_append n (struct_faults env (structure_named 0 env.structs x) name) (field_faults env [] fs)
      (struct_early env (structure_named 0 env.structs x) name p.0.1.0) (fields_early env [] fs (fields_in rf p.0.1.1.1))
  item_early (it.enum_is {t} {s} {l} r x e {u} {w} {m} {ms} a b c rm rms d f h) g env =
      let p = within_append n (t ∷ s ∷ l ∷ u ++ w) (r ∷ x ∷ e ∷ []) g in let q = within_append n (t ∷ s ∷ l ∷ u) w p.0 in
      early_append n (member_faults env (m ∷ ms)) (twice_here (with_members env (m ∷ ms)) (name_at x))
      (members_early env (m ∷ ms) (member_in rm q.0.1.1.1, more_members_in rms q.1))
      (here_early n (with_members env (m ∷ ms)) (name_at x) p.1.1.0)
  item_early (it.function_type {t} o s x c e {u} {w} {r} {ps} a rc b d f h rp k) g env =
      let p = within_append n (t ∷ u ++ o ∷ s ∷ x ∷ c ∷ w) (e ∷ []) g in let q = within_append n (t ∷ u) (o ∷ s ∷ x ∷ c ∷ w) p.0 in
      let z : Signature = record { is_static = false; result = r; name = name_at x; parameters = ps; span = extent (t ∷ u ++ o ∷ s ∷ x ∷ c ∷ w) } in
      early_append n (twice_here env (name_at x)) (signature_faults env z) (here_early n env (name_at x) q.1.1.1.0)
      (signature_early env z (record {
        result = type_in n rc q.0.1;
        name = q.1.1.1.0;
        parameters = parameters_in rp q.1.1.1.1.1;
        ends =
            end_in n 0 (t ∷ u ++ o ∷ s ∷ x ∷ c ∷ w) (omega (arith, q.0.0.0)) p.0;
      }))
  item_early (it.prototype e {w} {s} rs a) g env =
      let p = within_append n w (e ∷ []) g in let h = signature_in rs p.0 in
      early_append n (again env s false (found env.scopes s.name.text)) (signature_faults env s)
      (again_early env s false (found env.scopes s.name.text) h) (signature_early env s h)
  item_early (it.static_variable {t} x a e {u} {w} {c} {x = z} b rc o d f rx h) g env =
      let p = within_append n (t ∷ u ++ x ∷ a ∷ w) (e ∷ []) g in let q = within_append n (t ∷ u) (x ∷ a ∷ w) p.0 in
      variable_item_early env c x z (type_in n rc q.0.1) q.1.0 (value_fine n rx q.1.1.1)
  item_early (it.interface_table {n = x} {f} i1 i2 i3 i4 i5 i6 i7 i8 i9 j1 j2 j3 j4 j5 j6 j7) g env =
      let g3 = g.1.1.1 in let g9 = g3.1.1.1.1.1.1 in
      early_three n (variable_twice (found env.scopes x.bytes) (name_at x)) (not_laid_out env (kind_named env (codes "GInterfaceInfo")) (name_at x))
      (function_faults (found env.scopes f.bytes) (name_at f))
      (variable_early (found env.scopes x.bytes) (name_at x) g3.0) (laid_early n env (kind_named env (codes "GInterfaceInfo")) (name_at x) g3.0)
      (function_early (found env.scopes f.bytes) (name_at f) g9.0)
  item_early (it.function_is {u} {w} {s} {b} rs names rb) g env = let p = within_append n u w g
      in function_item_early env s b (signature_in rs p.0) (block_fine n rb p.1)

  items_early : {ns : Names} {w : Word} {is : List Item} → ReadsItems ns w is → Within n w → (env : Env)
      → Early n (items_faults checked (checked_block checked) env is)
  items_early no_item g env = tt
  items_early (more_items {u} {w} {i} {is} r e rest) g env =
      let p = within_append n u w g in early_append n (faults_of env i) (items_faults checked (checked_block checked) (with_item env i) is)
      (item_early r p.0 env) (items_early rest p.1 (with_item env i))

pub faults_are_known : FaultsAreKnown
faults_are_known n w u h r = early_all n _ (items_early n r.items h library)
