-- The marks of items.
use Rattle.std.proofs.Common.{◌≡◌, ◌∙◌, refl, sym, ap, ℕ, Bool, true, false, not, ◌||◌, List, [], ◌∷◌, ◌++◌, codes, None, arith}
use Rattle.std.specs.Str.{bytes_eq}
use Rattle.std.specs.List.{list_all}
use Rattle.predictive_grammar.proofs.Sets.{and_first}
use Rattle.c_lexer.specs.declared.token.Keyword.TheVariants as keyword
use Rattle.c_tree.specs.declared.names.CType.{CType}
use Rattle.c_tree.specs.declared.names.Base.TheVariants as base
use Rattle.c_tree.specs.declared.code.Local.{Local}
use Rattle.c_tree.specs.declared.kinds.Sort.TheVariants as sort
use Rattle.c_tree.specs.declared.kinds.Fault.{Fault}
use Rattle.c_tree.specs.declared.unit.Item.{Item}
use Rattle.c_tree.specs.declared.unit.Item.TheVariants as item
use Rattle.c_tree.specs.declared.unit.Member.{Member}
use Rattle.c_tree.specs.declared.unit.Parameter.{Parameter}
use Rattle.c_tree.specs.Words.{Terminal, Token, Word}
use Rattle.c_tree.specs.Names.{Names, role_of}
use Rattle.c_tree.specs.Types.{can_be_type, is_object}
use Rattle.c_tree.specs.Items.{has_name}
use Rattle.c_tree.specs.Make.{name_at}
use Rattle.c_tree.specs.Constants.{member_value}
use Rattle.c_tree.specs.Env.{Env, found, found_in, innermost, declare, opened, kind_of, structure_named}
use Rattle.c_tree.specs.Faults.{twice, unless}
use Rattle.c_tree.specs.Checks.{checked, type_faults, base_faults}
use Rattle.c_tree.specs.Rules.{checked_block, twice_here, not_laid_out}
use Rattle.c_tree.specs.Unit.{with_parameter, twice_optional, parameter_faults, has_field, field_faults, member_faults, with_members, with_item}
use Rattle.c_tree.specs.Unit.{function_faults, struct_faults, item_faults, items_faults}
use Rattle.c_grammar.specs.Sorts.{kind, on}
use Rattle.c_grammar.specs.Tests.{is_main, is_any_name, word_is}
use Rattle.c_grammar.specs.Trees.{base_of, type_of, no_stars, local, named_parameter, unnamed_parameter, two_stars, signature, struct_name}
use Rattle.c_grammar.specs.Trees.{behind_first, file_in}
use Rattle.c_grammar.specs.Parts as w
use Rattle.c_grammar.specs.Parts.{What, tree_of}
use Rattle.c_grammar.specs.Grammar.{form, here, just, int_behind, texts_behind, parameters_behind, declared_end, variable_behind, static_named}
use Rattle.c_grammar.specs.Grammar.{table_behind, info_value, info_named, info_behind, static_type, static_const, typed_item}
use Rattle.c_grammar.proofs.Tokens.{is_name, is_word}
use Rattle.c_grammar.proofs.Bytes.{same_bytes}
use Rattle.c_fronts.proofs.Marks.{m_give, m_take, m_part, m_pick}
use Rattle.c_fronts.proofs.Shows.{Probe, shows_append, shows_three, shows_drop, or_none, or_drop, late_twice, late_unless}
use Rattle.c_fronts.proofs.ItemFaults.{info_item, other_late, laid_late, function_late, struct_late, prototype_late, parameters_tell, named_tells}
use Rattle.c_fronts.proofs.ItemFaults.{defined_tells, defined_late, body_in, function_is, variable_tells, variable_head_late, variable_is_late}
use Rattle.c_fronts.proofs.ItemFaults.{info_silent, table_is}
use Rattle.c_fronts.proofs.Telling.{Edge, Seen, Among, Outside, Table, Context_of, tells_of, Done_with}
use Rattle.c_fronts.proofs.Telling.{Fact_of, tell, type_tells, base_tells, value_tells, field_tells, head_tells, item_tells, LateToken}
use Rattle.c_fronts.proofs.Telling.{BehindToken}
use Rattle.c_fronts.proofs.MarkTypes.{Mark, silent, base_late}
use Rattle.c_fronts.proofs.MarkValues.{M}
use Rattle.c_fronts.proofs.MarkStatements.{mark_stmt, twice_late}

module _ (edge : Edge) (ns : Names) where
  -- 1. Members and fields

  abbrev here_tells : Seen → Token → Bool
  here_tells c n = tell edge c.probe (twice_here c.env (name_at n))

  pub here_late : (c : Seen) (n : Token) → BehindToken edge n → here_tells c n ≡ false
  here_late c n b = twice_late edge c.probe (found_in (innermost c.env.scopes) n.bytes) n b

  pub mark_member : (c : Seen) → Mark edge ns w.MemberOf c
  unfolding form
  mark_member c =
      m_take (λ n. here_tells c n) (λ n b o. here_late c n b) (λ n e. m_take (λ x. here_tells c n) (λ x b o. refl) (λ x e2.
      m_part tt (here_tells c n) (λ y. here_tells c n) (λ o. (sym (or_none (here_tells c n)), tt)) (λ y f g. sym (or_none (here_tells c n)))
      (λ y f. m_give (record { name = name_at n; number = y }) tt (λ o. refl) (λ o. tt))))

  abbrev behind_member : Seen → Member → Seen
  behind_member c m = record { probe = c.probe; env = declare c.env m.name (sort.Member (member_value m.number)) }

  -- members from one on, behind what was told
  members_from : {q : What} {d : Context_of q} {told : Bool} {over : Type 0} (c : Seen) (f : List Member → tree_of q)
      → ((ms : List Member) → tells_of edge q d (f ms) ≡ tell edge c.probe (member_faults c.env ms))
      → ((ms : List Member) → Fact_of edge q d (f ms)) → ((ms : List Member) → Done_with edge q d (f ms)) → (over → told ≡ false)
      → M edge ns q d told over (here ns w.MemberOf (λ m. just ns w.MoreMembers (λ ms. f (m ∷ ms))))
  members_from c f tells fact done h =
      m_part c false (λ m. tell edge c.probe (twice_here c.env m.name)) (λ o. (h o, tt)) (λ m f2 g. refl) (λ m f2.
      m_part (behind_member c m) (tell edge c.probe (twice_here c.env m.name)) (λ ms. tell edge c.probe (member_faults c.env (m ∷ ms)))
      (λ o. (sym (or_none (tell edge c.probe (twice_here c.env m.name))), tt))
      (λ ms f3 g. shows_append edge.last c.probe (twice_here c.env m.name) (member_faults (behind_member c m).env ms))
      (λ ms f3. m_give (f (m ∷ ms)) (fact (m ∷ ms)) (λ o. tells (m ∷ ms)) (λ o. done (m ∷ ms))))

  pub mark_members : (c : Seen) → Mark edge ns w.Members c
  unfolding form
  mark_members c = members_from c (λ ms. ms) (λ ms. refl) (λ ms. tt) (λ ms. tt) (λ o. refl)

  pub mark_more_members : (c : Seen) → Mark edge ns w.MoreMembers c
  unfolding form
  mark_more_members c = m_pick (m_take silent (λ t b o. refl) (λ t e. members_from c (λ ms. ms) (λ ms. refl) (λ ms. tt) (λ ms. tt) (λ o. refl)))
      (m_give [] tt (λ o. refl) (λ o. tt))

  -- a field up to its name
  abbrev field_named : Among → CType → Token → List Fault
  field_named c y n = type_faults c.env y ++ unless (not (has_field n.bytes c.before)) (twice (name_at n))

  field_name_late : (c : Among) (y : CType) (n : Token) → BehindToken edge n → tell edge c.probe (field_named c y n) ≡ type_tells edge c.probe c.env y
  field_name_late c y n b = let a = edge.apart in
      shows_drop edge.last c.probe (type_faults c.env y) (unless (not (has_field n.bytes c.before)) (twice (name_at n)))
      (late_unless edge.last c.probe (not (has_field n.bytes c.before)) (twice (name_at n))
      (late_twice edge.last c.probe (name_at n) (omega (arith, b.0))))

  pub mark_local : (c : Among) → Mark edge ns w.LocalOf c
  unfolding form
  mark_local c =
      m_part (record { probe = c.probe; env = c.env }) false (λ y. type_tells edge c.probe c.env y) (λ o. (refl, tt)) (λ y f g. refl) (λ y f.
      m_take (λ n. tell edge c.probe (field_named c y n)) (λ n b o. field_name_late c y n b) (λ n e. m_take (λ x. field_tells edge c (local y n))
      (λ x b o. or_drop (tell edge c.probe (field_named c y n)) (tell edge c.probe (not_laid_out c.env (kind_of c.env y) (name_at n)))
      (laid_late edge c.probe c.env (kind_of c.env y) (name_at n) o.1))
      (λ x e2. m_give (local y n) tt (λ o. refl) (λ o. tt))))

  abbrev behind_field : Among → Local → Among
  behind_field c l = record { probe = c.probe; env = c.env; before = l ∷ c.before }

  fields_more : (c : Among) (l : Local) (ls : List Local)
      → tell edge c.probe (field_faults c.env c.before (l ∷ ls)) ≡ (field_tells edge c l || tell edge c.probe (field_faults c.env (l ∷ c.before) ls))
  fields_more c l ls = let one = type_faults c.env l.declared ++ unless (not (has_field l.name.text c.before)) (twice l.name) in let laid = not_laid_out c.env
      (kind_of c.env l.declared) l.name in
      shows_three edge.last c.probe one laid (field_faults c.env (l ∷ c.before) ls)

  pub mark_fields : (c : Among) → Mark edge ns w.Fields c
  unfolding form
  mark_fields c =
      m_pick (m_part c false (λ l. field_tells edge c l) (λ o. (refl, tt)) (λ l f g. refl)
      (λ l f. m_part (behind_field c l) (field_tells edge c l) (λ ls. tell edge c.probe (field_faults c.env c.before (l ∷ ls)))
      (λ o. (sym (or_none (field_tells edge c l)), tt)) (λ ls f2 g. fields_more c l ls) (λ ls f2. m_give (l ∷ ls) tt (λ o. refl) (λ o. tt))))
      (m_give [] tt (λ o. refl) (λ o. tt))

  -- 2. Parameters

  abbrev parameter_tells : Seen → Parameter → Bool
  parameter_tells c p = tell edge c.probe (type_faults c.env p.declared ++ twice_optional c.env p.name)

  pub mark_parameter_end : (y : CType) (c : Seen) → Mark edge ns (w.ParameterEnd y) c
  unfolding form
  mark_parameter_end y c =
      m_pick (m_take (λ n. parameter_tells c (named_parameter y n))
      (λ n b o. shows_drop edge.last c.probe (type_faults c.env y) (twice_here c.env (name_at n)) (here_late c n b))
      (λ n e. m_give (named_parameter y n) tt (λ o. refl) (λ o. tt)))
      (m_give (unnamed_parameter y) tt (λ o. shows_drop edge.last c.probe (type_faults c.env y) [] refl) (λ o. tt))

  pub mark_parameter : (c : Seen) → Mark edge ns w.ParameterOf c
  unfolding form
  mark_parameter c =
      m_part c false (λ y. type_tells edge c.probe c.env y) (λ o. (refl, tt)) (λ y f g. refl)
      (λ y f. mark_stmt edge ns {z = w.ParameterEnd y} (record { probe = c.probe; context = record { env = c.env; result = None }; labels = [] }) c
      (λ p. p)
      (λ o. (refl, tt)) (λ p. tt) (λ p. refl) (λ p. tt))

  abbrev behind_parameter : Seen → Parameter → Seen
  behind_parameter c p = record { probe = c.probe; env = with_parameter c.env p }

  parameters_more : (c : Seen) (p : Parameter) (ps : List Parameter)
      → tell edge c.probe (parameter_faults c.env (p ∷ ps)) ≡ (parameter_tells c p || tell edge c.probe (parameter_faults (with_parameter c.env p) ps))
  parameters_more c p ps = shows_append edge.last c.probe (type_faults c.env p.declared ++ twice_optional c.env p.name)
      (parameter_faults (with_parameter c.env p) ps)

  -- parameters behind one
  mark_parameters_behind : {q : What} {d : Context_of q} {over : Type 0} (c : Seen) (p : Parameter) (f : List Parameter → tree_of q)
      → ((ps : List Parameter) → tells_of edge q d (f ps) ≡ tell edge c.probe (parameter_faults c.env ps))
      → ((ps : List Parameter) → Fact_of edge q d (f ps)) → ((ps : List Parameter) → Done_with edge q d (f ps)) → M edge ns q d (parameter_tells c p) over
      (just ns w.MoreParameters (λ ps. f (p ∷ ps)))
  mark_parameters_behind c p f tells fact done =
      m_part (behind_parameter c p) (parameter_tells c p) (λ ps. tell edge c.probe (parameter_faults c.env (p ∷ ps)))
      (λ o. (sym (or_none (parameter_tells c p)), tt)) (λ ps f2 g. parameters_more c p ps)
      (λ ps f2. m_give (f (p ∷ ps)) (fact (p ∷ ps)) (λ o. tells (p ∷ ps)) (λ o. done (p ∷ ps)))

  pub mark_more_parameters : (c : Seen) → Mark edge ns w.MoreParameters c
  unfolding form
  mark_more_parameters c =
      m_pick (m_take silent (λ t b o. refl) (λ t e. m_part c false (λ p. parameter_tells c p) (λ o. (refl, tt)) (λ p f g. refl)
      (λ p f. mark_parameters_behind c p (λ ps. ps) (λ ps. refl) (λ ps. tt) (λ ps. tt))))
      (m_give [] tt (λ o. refl) (λ o. tt))

  from_type : {told : Bool} {over : Type 0} (c : Seen) (y : CType) → (over → told ≡ type_tells edge c.probe c.env y)
      → M edge ns (w.ParametersOf false) c told over (parameters_behind ns y)
  from_type c y h = m_part c false (λ p. parameter_tells c p) (λ o. (h o, tt)) (λ p f g. refl)
      (λ p f. mark_parameters_behind c p (λ ps. ps) (λ ps. refl) (λ ps. tt) (λ ps. tt))

  -- `void` tells nothing
  void_silent : (c : Seen) (t : Token) → on ns (word_is keyword.Void) (kind t) ≡ true → base_tells edge c.probe c.env t ≡ false
  void_silent c t e = ap (λ (x : Terminal). tell edge c.probe (base_faults c.env (Rattle.c_grammar.specs.Trees.base_in x (name_at t))))
      (is_word ns keyword.Void t e)

  one_parameter : (c : Seen) (p : Parameter) (q : Parameter)
      → tell edge c.probe (parameter_faults c.env (p ∷ q ∷ [])) ≡ (parameter_tells c p || parameter_tells (behind_parameter c p) q)
  one_parameter c p q = parameters_more c p (q ∷ [])
      ∙ ap (λ (z : Bool). parameter_tells c p || z) (parameters_more (behind_parameter c p) q [] ∙ or_none (parameter_tells (behind_parameter c p) q))

  pub mark_parameters : (main : Bool) (c : Seen) → Mark edge ns (w.ParametersOf main) c
  unfolding form
  mark_parameters true c =
      m_part c false (λ y. type_tells edge c.probe c.env y) (λ o. (refl, tt)) (λ y f g. refl)
      (λ y f. m_part c false (λ p. parameter_tells c p) (λ o. (refl, tt)) (λ p f2 g. refl) (λ p f2.
      m_take (λ m. parameter_tells c p) (λ m b o. refl)
      (λ m e. m_part (behind_parameter c p) (parameter_tells c p) (λ d. parameter_tells c p || type_tells edge c.probe (with_parameter c.env p) d)
      (λ o. (sym (or_none (parameter_tells c p)), tt)) (λ d f3 g. refl) (λ d f3.
      m_part (behind_parameter c p) (parameter_tells c p) (λ q. tell edge c.probe (parameter_faults c.env (p ∷ q ∷ []))) (λ o. (refl, tt))
      (λ q f4 g. one_parameter c p q) (λ q f4. m_give (p ∷ q ∷ []) tt (λ o. refl) (λ o. tt))))))
  mark_parameters false c =
      m_pick (m_take (λ t. base_tells edge c.probe c.env t) (λ t b o. base_late edge c.probe c.env t b) (λ t e. m_pick
      (m_part c false (λ y. type_tells edge c.probe c.env y) (λ o. (refl, tt)) (λ y f g. refl) (λ y f. from_type c y (λ o. refl)))
      (m_give [] tt (λ o. sym (void_silent c t e)) (λ o. tt))))
      (m_pick (m_take silent (λ t b o. refl) (λ t e. m_part tt false silent (λ o. (refl, tt)) (λ u f g. refl)
      (λ u f. m_take (λ b. base_tells edge c.probe c.env b) (λ b bh o. base_late edge c.probe c.env b bh) (λ b e2.
      m_part c false (λ y. type_tells edge c.probe c.env y) (λ o. (refl, tt)) (λ y f2 g. refl) (λ y f2. from_type c y (λ o. refl))))))
      (m_take (λ b. base_tells edge c.probe c.env b) (λ b bh o. base_late edge c.probe c.env b bh)
      (λ b e2. m_part c false (λ y. type_tells edge c.probe c.env y) (λ o. (refl, tt)) (λ y f2 g. refl) (λ y f2. from_type c y (λ o. refl)))))

  mark_int : (c : Seen) {over : Type 0} (u : Word) → M edge ns w.IntType c false over (int_behind ns u)
  mark_int c u = m_take (λ t. base_tells edge c.probe c.env t) (λ t b o. base_late edge c.probe c.env t b) (λ t e.
      m_part tt (base_tells edge c.probe c.env t) (λ v. base_tells edge c.probe c.env t) (λ o. (sym (or_none (base_tells edge c.probe c.env t)), tt))
      (λ v f g. sym (or_none (base_tells edge c.probe c.env t)))
      (λ v f. m_give (type_of u t v no_stars) tt (λ o. refl) (λ o. tt)))

  pub mark_int_type : (c : Seen) → Mark edge ns w.IntType c
  unfolding form
  mark_int_type c = m_pick (m_take silent (λ t b o. refl) (λ t e. m_part tt false silent (λ o. (refl, tt)) (λ u f g. refl) (λ u f. mark_int c (t ∷ u))))
      (mark_int c [])

  mark_texts : (c : Seen) {over : Type 0} (u : Word) → M edge ns w.TextsType c false over (texts_behind ns u)
  mark_texts c u = m_take (λ t. base_tells edge c.probe c.env t) (λ t b o. base_late edge c.probe c.env t b)
      (λ t e. let B = base_tells edge c.probe c.env t in
      m_part tt B (λ v. B) (λ o. (sym (or_none B), tt)) (λ v f g. sym (or_none B))
      (λ v f. m_take (λ p. B) (λ p b o. refl) (λ p e2. m_part tt B (λ x. B) (λ o. (sym (or_none B), tt)) (λ x f2 g. sym (or_none B)) (λ x f2.
      m_take (λ q. B) (λ q b o. refl) (λ q e3. m_part tt B (λ y. B) (λ o. (sym (or_none B), tt)) (λ y f3 g. sym (or_none B))
      (λ y f3. m_give (type_of u t v (two_stars p x q y)) tt (λ o. refl) (λ o. tt)))))))

  pub mark_texts_type : (c : Seen) → Mark edge ns w.TextsType c
  unfolding form
  mark_texts_type c = m_pick (m_take silent (λ t b o. refl) (λ t e. m_part tt false silent (λ o. (refl, tt)) (λ u f g. refl) (λ u f. mark_texts c (t ∷ u))))
      (mark_texts c [])

  -- 3. Functions

  abbrev seen_out : Outside → Seen
  seen_out c = record { probe = c.probe; env = c.env }

  abbrev seen_open : Outside → Seen
  seen_open c = record { probe = c.probe; env = opened c.env }

  mark_declared_end : (b : Bool) (y : CType) (n : Token) (from : ℕ) (c : Outside) (ps : List Parameter) (s : Token) (all : Bool)
      → M edge ns (w.DeclaredOf b y n from) c (named_tells edge c (signature b y n ps from s)) (LateToken edge s)
      (declared_end ns all (signature b y n ps from s) (λ i. i))
  mark_declared_end b y n from c ps s true = let g = signature b y n ps from s in
      m_pick (m_take (λ e. item_tells edge c.probe c.env (item.Prototype g)) (λ e bh o. prototype_late edge c g o.1)
      (λ e e2. m_give (item.Prototype g) tt (λ o. refl) (λ o. tt)))
      (m_part (body_in edge c g) (defined_tells edge c g) (λ d. item_tells edge c.probe c.env (item.Function (record { signature = g; body = d })))
      (λ o. (sym (or_none (defined_tells edge c g) ∙ defined_late edge c g o.1), tt)) (λ d f k. function_is edge c g d)
      (λ d f. m_give (item.Function (record { signature = g; body = d })) tt (λ o. refl) (λ o. tt)))
  mark_declared_end b y n from c ps s false = let g = signature b y n ps from s in
      m_take (λ e. item_tells edge c.probe c.env (item.Prototype g)) (λ e bh o. prototype_late edge c g o.1)
      (λ e e2. m_give (item.Prototype g) tt (λ o. refl) (λ o. tt))

  pub mark_declared : (b : Bool) (y : CType) (n : Token) (from : ℕ) (c : Outside) → Mark edge ns (w.DeclaredOf b y n from) c
  unfolding form
  mark_declared b y n from c = let head = head_tells edge c y n in
      m_take (λ o. head) (λ o bh ov. refl) (λ o e. m_part (seen_open c) head (λ ps. head || parameters_tell edge c ps) (λ ov. (sym (or_none head), tt))
      (λ ps f k. refl) (λ ps f.
      m_take (λ s. head || parameters_tell edge c ps) (λ s bh ov. refl) (λ s e2. mark_declared_end b y n from c ps s (list_all has_name ps))))

  mark_function : {q : What} {told : Bool} {over : Type 0} (b : Bool) (y : CType) (n : Token) (from : ℕ) (c : Outside) {d : Context_of q}
      (f : Item → tree_of q) → (over → told ≡ head_tells edge c y n)
      → ((i : Item) → Fact_of edge q d (f i)) → ((i : Item) → tells_of edge q d (f i) ≡ item_tells edge c.probe c.env i)
      → ((i : Item) → Done_with edge q d (f i)) → M edge ns q d told over (just ns (w.DeclaredOf b y n from) f)
  mark_function b y n from c f h fact tells done = m_part c false (λ i. item_tells edge c.probe c.env i) (λ o. (h o, tt)) (λ i f2 g. refl)
      (λ i f2. m_give (f i) (fact i) (λ o. tells i) (λ o. done i))

  head_name_late : (c : Outside) (y : CType) (n : Token) → BehindToken edge n → head_tells edge c y n ≡ type_tells edge c.probe c.env y
  head_name_late c y n b = or_drop (type_tells edge c.probe c.env y)
      (tell edge c.probe (Rattle.c_fronts.proofs.Telling.other_twice edge (found c.env.scopes n.bytes) (name_at n)))
      (other_late edge c.probe (found c.env.scopes n.bytes) n b)

  pub mark_typed_end : (y : CType) (c : Outside) → Mark edge ns (w.TypedEnd y) c
  unfolding form
  mark_typed_end y c = m_take (λ n. head_tells edge c y n) (λ n b o. head_name_late c y n b)
      (λ n e. mark_function false y n y.span.start c (λ i. i) (λ o. refl) (λ i. tt) (λ i. refl) (λ i. tt))

  -- the value of a variable
  mark_variable : {q : What} {told : Bool} {over : Type 0} (p : Probe) (env : Env) (y : CType) (n : Token) {d : Context_of q} (f : Item → tree_of q)
      → (over → told ≡ variable_tells edge p env y n)
      → ((i : Item) → Fact_of edge q d (f i)) → ((i : Item) → tells_of edge q d (f i) ≡ item_tells edge p env i) → ((i : Item) → Done_with edge q d (f i))
      → M edge ns q d told over (variable_behind ns y n f)
  mark_variable p env y n f h fact tells done = let V = variable_tells edge p env y n in
      m_part (record { probe = p; env = env }) V (λ x. V || value_tells edge p env x) (λ o. (h o ∙ sym (or_none V), tt)) (λ x f2 g. refl) (λ x f2.
      m_take (λ e. item_tells edge p env (item.Variable (record { declared = y; name = name_at n; value = x })))
      (λ e b o. variable_is_late edge p env y n x o) (λ e e2.
      m_give (f (item.Variable (record { declared = y; name = name_at n; value = x })))
      (fact (item.Variable (record { declared = y; name = name_at n; value = x })))
      (λ o. tells (item.Variable (record { declared = y; name = name_at n; value = x })))
      (λ o. done (item.Variable (record { declared = y; name = name_at n; value = x })))))

  pub mark_static_end : (t : Token) (y : CType) (c : Outside) → Mark edge ns (w.StaticEnd t y) c
  unfolding form
  mark_static_end t y c = m_take (λ n. head_tells edge c y n) (λ n b o. head_name_late c y n b) (λ n e. by_name n (is_object y) (is_main n.bytes))
    where
      variable : (n a : Token) → M edge ns (w.StaticEnd t y) c (variable_tells edge c.probe c.env y n) (LateToken edge a) (variable_behind ns y n (λ i. i))
      variable n a = mark_variable c.probe c.env y n (λ i. i) (λ o. refl) (λ i. tt) (λ i. refl) (λ i. tt)

      function : (n : Token) → M edge ns (w.StaticEnd t y) c (head_tells edge c y n) (LateToken edge n) (just ns (w.DeclaredOf true y n t.start) (λ i. i))
      function n = mark_function true y n t.start c (λ i. i) (λ o. refl) (λ i. tt) (λ i. refl) (λ i. tt)

      by_name : (n : Token) (object main : Bool) → M edge ns (w.StaticEnd t y) c (head_tells edge c y n) (LateToken edge n)
          (static_named ns t y n object main)
      by_name n true false = m_pick (m_take (λ a. variable_tells edge c.probe c.env y n) (λ a b o. variable_head_late edge c.probe c.env y n o)
          (λ a e. variable n a)) (function n)
      by_name n true true = m_take (λ a. variable_tells edge c.probe c.env y n) (λ a b o. variable_head_late edge c.probe c.env y n o) (λ a e. variable n a)
      by_name n false main = function n

  -- 4. Tables

  pub mark_table_inside : (c : Seen) → Mark edge ns w.TableInside c
  unfolding form
  mark_table_inside c =
      m_take silent (λ t b o. refl) (λ t e. m_take silent (λ y b o. refl) (λ y e2. m_take silent (λ q b o. refl) (λ q e3.
      m_take (λ f. tell edge c.probe (function_faults (found c.env.scopes f.bytes) (name_at f)))
      (λ f b o. function_late edge c.probe (found c.env.scopes f.bytes) f b)
      (λ f e4. let F = tell edge c.probe (function_faults (found c.env.scopes f.bytes) (name_at f)) in
      m_take (λ x. F) (λ x b o. refl) (λ x e5. m_take (λ x. F) (λ x b o. refl)
      (λ x e6. m_take (λ x. F) (λ x b o. refl) (λ x e7. m_take (λ x. F) (λ x b o. refl) (λ x e8. m_give f tt (λ o. refl) (λ o. tt)))))))))

  abbrev info_type : (s i : Token) → CType
  info_type s i = type_of (s ∷ []) i [] no_stars

  abbrev out_of : (i : Token) → Table i → Outside
  out_of i c = record { probe = c.probe; env = c.env; info = c.info }

  pub mark_info_end : (t s i : Token) (c : Table i) → Mark edge ns (w.InfoEnd t s i) c
  unfolding form
  mark_info_end t s i c = by_type (can_be_type true (role_of ns i.bytes))
    where
      none : base_tells edge c.probe c.env i ≡ false
      none = info_silent edge c.probe c.env i c.info c.named c.by_name

      name_late : (n : Token) → BehindToken edge n → head_tells edge (out_of i c) (info_type s i) n ≡ false
      name_late n b = head_name_late (out_of i c) (info_type s i) n b ∙ none

      table : {told : Bool} {over : Type 0} (n : Token) → (over → told ≡ variable_tells edge c.probe c.env (info_type s i) n)
          → M edge ns (w.InfoEnd t s i) c told over (table_behind ns n (λ i. i))
      table n h = let V = variable_tells edge c.probe c.env (info_type s i) n in
          m_take (λ l. V) (λ l b o. sym (h o)) (λ l e. m_part (seen_out (out_of i c)) V
          (λ g. V || tell edge c.probe (function_faults (found c.env.scopes g.bytes) (name_at g))) (λ o. (sym (or_none V), tt)) (λ g f k. refl) (λ g f.
          m_take (λ r. V || tell edge c.probe (function_faults (found c.env.scopes g.bytes) (name_at g))) (λ r b o. refl)
          (λ r e2. m_take (λ x. V || tell edge c.probe (function_faults (found c.env.scopes g.bytes) (name_at g))) (λ x b o. refl) (λ x e3.
          m_give (item.InterfaceTable (record { name = name_at n; init = name_at g })) tt (λ o. table_is edge c.probe c.env s i n g c.info c.named c.by_name)
          (λ o. tt)))))

      value : (n a : Token) → M edge ns (w.InfoEnd t s i) c (variable_tells edge c.probe c.env (info_type s i) n) (LateToken edge a)
          (info_value ns (info_type s i) n (λ i. i))
      value n a = m_pick (table n (λ o. refl)) (mark_variable c.probe c.env (info_type s i) n (λ i. i) (λ o. refl) (λ i. tt) (λ i. refl) (λ i. tt))

      function : (n : Token) → M edge ns (w.InfoEnd t s i) c (head_tells edge (out_of i c) (info_type s i) n) (LateToken edge n)
          (just ns (w.DeclaredOf true (info_type s i) n t.start) (λ i. i))
      function n = mark_function true (info_type s i) n t.start (out_of i c) (λ i. i) (λ o. refl) (λ i. tt) (λ i. refl) (λ i. tt)

      by_name : (n : Token) (object main : Bool) → M edge ns (w.InfoEnd t s i) c (head_tells edge (out_of i c) (info_type s i) n) (LateToken edge n)
          (info_named ns t s i n (info_type s i) object main)
      by_name n true false = m_pick (m_take (λ a. variable_tells edge c.probe c.env (info_type s i) n)
          (λ a b o. variable_head_late edge c.probe c.env (info_type s i) n o) (λ a e. value n a)) (function n)
      by_name n true true = m_take (λ a. variable_tells edge c.probe c.env (info_type s i) n)
          (λ a b o. variable_head_late edge c.probe c.env (info_type s i) n o) (λ a e. value n a)
      by_name n false main = function n

      further : (d : CType) → d.base ≡ base_of i → M edge ns (w.InfoEnd t s i) c (type_tells edge c.probe c.env d) (Unit {0})
          (just ns (w.StaticEnd t d) (λ i. i))
      further d e = m_part (out_of i c) false (λ i. item_tells edge c.probe c.env i) (λ o. (refl, tt)) (λ x f g. refl)
          (λ x f. m_give x tt (λ o. refl) (λ o. tt))

      by_type : (b : Bool) → M edge ns (w.InfoEnd t s i) c false (Unit {0}) (info_behind ns t s i (info_type s i) b)
      by_type true = m_pick (m_part (seen_out (out_of i c)) false (λ d. type_tells edge c.probe c.env d) (λ o. (sym none, tt)) (λ d f g. refl)
          (λ d f. further d f.0)) (m_take (λ n. head_tells edge (out_of i c) (info_type s i) n) (λ n b o. name_late n b)
          (λ n e. by_name n (is_object (info_type s i)) (is_main n.bytes)))
      by_type false = m_take (λ n. head_tells edge (out_of i c) (info_type s i) n) (λ n b o. name_late n b)
          (λ n e. m_take (λ a. variable_tells edge c.probe c.env (info_type s i) n) (λ a b o. variable_head_late edge c.probe c.env (info_type s i) n o)
          (λ a e2. table n (λ o. refl)))

  -- 5. Items

  abbrev out_base : Outside → Token → Bool
  out_base c b = base_tells edge c.probe c.env b

  mark_static_type : {over : Type 0} (t : Token) (u : Word) (b : Token) (c : Outside) → M edge ns (w.StaticRest t) c (out_base c b) over
      (static_type ns t u b)
  mark_static_type t u b c = m_part (seen_out c) false (λ y. type_tells edge c.probe c.env y) (λ o. (refl, tt)) (λ y f g. refl) (λ y f.
      m_part c false (λ i. item_tells edge c.probe c.env i) (λ o. (refl, tt)) (λ i f2 g. refl) (λ i f2. m_give i tt (λ o. refl) (λ o. tt)))

  named_base : (i : Token) → is_any_name (kind i) ≡ true → base_of i ≡ base.Named (name_at i)
  named_base i e = ap (λ (x : Terminal). Rattle.c_grammar.specs.Trees.base_in x (name_at i)) (is_name [] i e)

  mark_static_const : (t s i : Token) (c : Outside) → is_any_name (kind i) ≡ true → (b : Bool) → bytes_eq i.bytes (codes "GInterfaceInfo") ≡ b
      → M edge ns (w.StaticRest t) c (out_base c i) (LateToken edge i) (static_const ns t s i b)
  mark_static_const t s i c any true e = let same : i.bytes ≡ codes "GInterfaceInfo" = same_bytes i.bytes (codes "GInterfaceInfo") e in
      m_part (record { probe = c.probe; env = c.env; info = c.info; named = same; by_name = named_base i any }) false (λ x. item_tells edge c.probe c.env x)
      (λ o. (info_silent edge c.probe c.env i c.info same (named_base i any), tt)) (λ x f g. refl)
      (λ x f. m_give x tt (λ o. refl) (λ o. tt))
  mark_static_const t s i c any false e = mark_static_type t (s ∷ []) i c

  pub mark_static_rest : (t : Token) (c : Outside) → Mark edge ns (w.StaticRest t) c
  unfolding form
  mark_static_rest t c =
      m_pick (m_take silent (λ s b o. refl) (λ s e. m_pick (m_take (λ i. out_base c i) (λ i b o. base_late edge c.probe c.env i b) (λ i e2.
      mark_static_const t s i c (and_first (is_any_name (kind i)) _ e2) (bytes_eq i.bytes (codes "GInterfaceInfo")) refl))
      (m_pick (m_take silent (λ x b o. refl) (λ x e2. m_part tt false silent (λ o. (refl, tt)) (λ u f g. refl)
      (λ u f. m_take (λ b. out_base c b) (λ b bh o. base_late edge c.probe c.env b bh) (λ b e3. mark_static_type t (s ∷ x ∷ u) b c))))
      (m_take (λ b. out_base c b) (λ b bh o. base_late edge c.probe c.env b bh) (λ b e2. mark_static_type t (s ∷ []) b c)))))
      (m_take (λ b. out_base c b) (λ b bh o. base_late edge c.probe c.env b bh) (λ b e. mark_static_type t [] b c))

  or_type : (a t p : Bool) → (a || (t || p)) ≡ ((t || a) || p)
  or_type true true p = refl
  or_type true false p = refl
  or_type false true p = refl
  or_type false false p = refl

  abbrev members_tell : Outside → List Member → Bool
  members_tell c ms = tell edge c.probe (member_faults c.env ms)

  abbrev enum_tells : Outside → List Member → Token → Bool
  enum_tells c ms n = tell edge c.probe (twice_here (with_members c.env ms) (name_at n))

  abbrev out_type : Outside → CType → Bool
  out_type c r = type_tells edge c.probe c.env r

  pub mark_typedef_rest : (t : Token) (c : Outside) → Mark edge ns (w.TypedefRest t) c
  unfolding form
  mark_typedef_rest t c =
      m_pick (m_take silent (λ s b o. refl) (λ s e. m_take silent (λ g b o. refl)
      (λ g e2. m_take (λ n. here_tells (seen_out c) n) (λ n b o. here_late (seen_out c) n b)
      (λ n e3. m_take (λ x. here_tells (seen_out c) n) (λ x b o. refl)
      (λ x e4. m_give (item.StructType (name_at n)) tt (λ o. refl) (λ o. tt))))))
      (m_pick (m_take silent (λ s b o. refl) (λ s e. m_take silent (λ l b o. refl)
      (λ l e2. m_part (seen_out c) false (λ ms. (members_tell c ms)) (λ o. (refl, tt)) (λ ms f k. refl)
      (λ ms f. m_take (λ r. (members_tell c ms)) (λ r b o. refl) (λ r e3.
      m_take (λ n. (members_tell c ms) || (enum_tells c ms n))
      (λ n b o. or_drop ((members_tell c ms)) ((enum_tells c ms n)) (here_late (record { probe = c.probe; env = with_members c.env ms }) n b))
      (λ n e4. m_take (λ x. (members_tell c ms) || (enum_tells c ms n)) (λ x b o. refl) (λ x e5.
      m_give (item.Enumeration (record { members = ms; name = name_at n })) tt
      (λ o. shows_append edge.last c.probe (member_faults c.env ms) (twice_here (with_members c.env ms) (name_at n))) (λ o. tt))))))))
      (m_part (seen_out c) false (λ r. (out_type c r)) (λ o. (refl, tt)) (λ r f k. refl)
      (λ r f. m_take (λ x. (out_type c r)) (λ x b o. refl) (λ o e. m_take (λ x. (out_type c r)) (λ x b o. refl) (λ s e2.
      m_take (λ n. (out_type c r) || here_tells (seen_out c) n)
      (λ n b ov. or_drop ((out_type c r)) (here_tells (seen_out c) n) (here_late (seen_out c) n b))
      (λ n e3. let H = (out_type c r) || here_tells (seen_out c) n in
      m_take (λ x. H) (λ x b ov. refl) (λ x e4. m_take (λ x. H) (λ x b ov. refl)
      (λ x2 e5. m_part (seen_open c) H (λ ps. H || parameters_tell edge c ps) (λ ov. (sym (or_none H), tt)) (λ ps f2 k. refl) (λ ps f2.
      m_take (λ q. H || parameters_tell edge c ps) (λ q b ov. refl) (λ q e6. m_take (λ x. H || parameters_tell edge c ps) (λ x b ov. refl) (λ x3 e7.
      m_give (item.FunctionType (signature false r n ps t.start q)) tt (λ ov. whole r n ps) (λ ov. tt))))))))))))
    where
      whole : (r : CType) (n : Token) (ps : List Parameter)
          → tell edge c.probe (twice_here c.env (name_at n) ++ (type_faults c.env r ++ parameter_faults (opened c.env) ps))
          ≡ (((out_type c r) || here_tells (seen_out c) n) || parameters_tell edge c ps)
      whole r n ps =
          shows_append edge.last c.probe (twice_here c.env (name_at n)) (type_faults c.env r ++ parameter_faults (opened c.env) ps)
          ∙ ap (λ (z : Bool). here_tells (seen_out c) n || z) (shows_append edge.last c.probe (type_faults c.env r) (parameter_faults (opened c.env) ps))
          ∙ or_type (here_tells (seen_out c) n) ((out_type c r)) (parameters_tell edge c ps)

  mark_typed : {line : Bool} {over : Type 0} (u : Word) (b : Token) (c : Outside) → M edge ns (w.ItemOf line) c (out_base c b) over (typed_item ns u b)
  mark_typed u b c = m_part (seen_out c) false (λ y. type_tells edge c.probe c.env y) (λ o. (refl, tt)) (λ y f g. refl) (λ y f.
      m_part c false (λ i. item_tells edge c.probe c.env i) (λ o. (refl, tt)) (λ i f2 g. refl) (λ i f2. m_give i tt (λ o. refl) (λ o. tt)))

  abbrev tag_tells : Outside → Token → Bool
  tag_tells c g = tell edge c.probe (struct_faults c.env (structure_named 0 c.env.structs (behind_first g.bytes)) (struct_name g))

  abbrev fields_tell : Outside → List Local → Bool
  fields_tell c fs = tell edge c.probe (field_faults c.env [] fs)

  pub mark_item : (line : Bool) (c : Outside) → Mark edge ns (w.ItemOf line) c
  unfolding form
  mark_item line c =
      m_pick (m_take silent (λ t b o. refl) (λ t e. m_take silent (λ i b o. refl)
      (λ i e2. m_take silent (λ h b o. refl) (λ h e3. m_give (item.Include (file_in h.terminal)) tt (λ o. refl) (λ o. tt)))))
      (m_pick (m_take silent (λ t b o. refl) (λ t e. m_part c false (λ i. item_tells edge c.probe c.env i) (λ o. (refl, tt)) (λ i f k. refl)
      (λ i f. m_give i tt (λ o. refl) (λ o. tt))))
      (m_pick (m_take silent (λ s b o. refl) (λ s e. m_take (λ g. (tag_tells c g))
      (λ g b o. let a = edge.apart in struct_late edge c.probe c.env (structure_named 0 c.env.structs (behind_first g.bytes)) (struct_name g)
      (omega (arith, b.0))) (λ g e2.
      m_take (λ l. (tag_tells c g)) (λ l b o. refl)
      (λ l e3. m_part (record { probe = c.probe; env = c.env; before = [] }) ((tag_tells c g)) (λ fs. (tag_tells c g) || (fields_tell c fs))
      (λ o. (sym (or_none ((tag_tells c g))), tt)) (λ fs f k. refl) (λ fs f.
      m_take (λ r. (tag_tells c g) || (fields_tell c fs)) (λ r b o. refl)
      (λ r e4. m_take (λ x. (tag_tells c g) || (fields_tell c fs)) (λ x b o. refl) (λ x e5.
      m_give (item.Struct (record { name = struct_name g; fields = fs })) tt
      (λ o. shows_append edge.last c.probe (struct_faults c.env (structure_named 0 c.env.structs (behind_first g.bytes)) (struct_name g))
      (field_faults c.env [] fs)) (λ o. tt))))))))
      (m_pick (m_take silent (λ t b o. refl) (λ t e. m_part c false (λ i. item_tells edge c.probe c.env i) (λ o. (refl, tt)) (λ i f k. refl)
      (λ i f. m_give i tt (λ o. refl) (λ o. tt))))
      (m_pick (m_take silent (λ t b o. refl) (λ t e. m_part tt false silent (λ o. (refl, tt)) (λ u f k. refl)
      (λ u f. m_take (λ b. out_base c b) (λ b bh o. base_late edge c.probe c.env b bh) (λ b e2. mark_typed (t ∷ u) b c))))
      (m_take (λ b. out_base c b) (λ b bh o. base_late edge c.probe c.env b bh) (λ b e. mark_typed [] b c))))))

  abbrev behind_item : Outside → Item → Outside
  behind_item c i = record { probe = c.probe; env = with_item c.env i; info = info_item c.env i c.info }

  pub mark_items : (line : Bool) (c : Outside) → Mark edge ns (w.ItemsOf line) c
  unfolding form
  mark_items line c =
      m_pick (m_part c false (λ i. item_tells edge c.probe c.env i) (λ o. (refl, tt)) (λ i f k. refl) (λ i f.
      m_part (behind_item c i) (item_tells edge c.probe c.env i) (λ is. tell edge c.probe (items_faults checked (checked_block checked) c.env (i ∷ is)))
      (λ o. (sym (or_none (item_tells edge c.probe c.env i)), tt))
      (λ is f2 k. shows_append edge.last c.probe (item_faults checked (checked_block checked) c.env i)
      (items_faults checked (checked_block checked) (with_item c.env i) is)) (λ is f2. m_give (i ∷ is) tt (λ o. refl) (λ o. tt))))
      (m_give [] tt (λ o. refl) (λ o. tt))
