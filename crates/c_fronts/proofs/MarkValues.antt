-- The marks of values.
use Rattle.std.proofs.Common.{◌≡◌, ◌∙◌, refl, sym, ap, subst, ℕ, ◌<◌, Bool, true, false, not, ◌||◌, List, [], ◌∷◌, map, Option, Some, None, arith}
use Rattle.predictive_grammar.specs.Forms.{Form}
use Rattle.c_lexer.specs.declared.token.Sign.TheVariants as sign
use Rattle.c_tree.specs.declared.names.CType.{CType}
use Rattle.c_tree.specs.declared.names.Span.{Span}
use Rattle.c_tree.specs.declared.operators.Level.{Level}
use Rattle.c_tree.specs.declared.operators.PrefixOperator.{PrefixOperator}
use Rattle.c_tree.specs.declared.code.Expr.{Expr}
use Rattle.c_tree.specs.declared.code.Link.{Link, out-Link}
use Rattle.c_tree.specs.declared.code.Suffix.{Suffix}
use Rattle.c_tree.specs.declared.code.Shape.TheOpen.{Shape-F}
use Rattle.c_tree.specs.declared.kinds.Fault.{Fault}
use Rattle.c_tree.specs.declared.kinds.Sort.{Sort}
use Rattle.c_tree.specs.Words.{Terminal, Token, join}
use Rattle.c_tree.specs.Words as words
use Rattle.c_tree.specs.Names.{Names, Role, FunctionName, MemberName, role_of}
use Rattle.c_tree.specs.Values.{is_place, tighter}
use Rattle.c_tree.specs.Make.{name_at, span_of, bracketed, link, choice, chained, suffixed, conditional, last_operand, last_suffix, suffix_span}
use Rattle.c_tree.specs.Env.{Env, found, kind_of}
use Rattle.c_tree.specs.Faults.{on, outcome_faults}
use Rattle.c_tree.specs.Checks as checks
use Rattle.c_tree.specs.Checks.{checked, operand_of, joined, join_outcome, type_faults, cast_faults, undeclared_if}
use Rattle.c_tree.specs.Checks.{suffix_faults, size_outcome, offset_outcome}
use Rattle.c_grammar.specs.Trees.{operator_in, sign_prefix, prefix_in, cast_prefix, with_prefixes, one_prefix, name_value, name_shape, literal}
use Rattle.c_grammar.specs.Trees.{literal_shape, size_of, offset}
use Rattle.c_grammar.specs.Parts as w
use Rattle.c_grammar.specs.Parts.{What, tree_of, at}
use Rattle.c_grammar.specs.Grammar.{C, form, just, suffixes_behind, place_behind, bracket_end, tail_behind, upto_behind, cast_behind, cast_or_operand}
use Rattle.c_fronts.proofs.Marks.{Marked, m_give, m_take, m_part, m_pick, m_less}
use Rattle.c_fronts.proofs.Shows.{shows, shows_append, or_none, or_both, or_drop, late_outcome, late_undeclared, plain_on}
use Rattle.c_fronts.proofs.Unfold.{value_at, known_suffix}
use Rattle.c_fronts.proofs.ValueFaults.{bracketed_tells, suffixed_tells, chained_tells, one_more_prefix, prefixed_end, one_more_choice, one_more_link}
use Rattle.c_fronts.proofs.ValueFaults.{link_late, lack_late, lack_only, lack_faults, offset_most, size_plain}
use Rattle.c_fronts.proofs.Telling.{Edge, Seen, Self, self_seen, Chain, Row, Context_of, telling, tells_of, Done_with, Fact_of, tell, type_tells}
use Rattle.c_fronts.proofs.Telling.{value_tells, LateValue, LateToken, BehindToken, links_end, suffixes_end}
use Rattle.c_fronts.proofs.MarkTypes.{Mark}

-- 1. Ends

module _ (edge : Edge) (ns : Names) where
  last_link : (s : Span) (ls : List Link) → (last_operand s ls).end ≡ links_end edge s.end ls
  last_link s [] = refl
  last_link s (l ∷ ls) = last_link (span_of (out-Link l).operand) ls

  pub chained_end : (a : Expr) (ls : List Link) → edge.last < links_end edge (span_of a).end ls → LateValue edge (chained a ls)
  chained_end a [] h = h
  chained_end a (l ∷ ls) h = subst (λ (z : ℕ). edge.last < z) (sym (last_link (span_of a) (l ∷ ls))) h

  suffix_last : (x : Suffix) (xs : List Suffix) → (last_suffix x xs).end ≡ suffixes_end edge (suffix_span x).end xs
  suffix_last x [] = refl
  suffix_last x (y ∷ xs) = suffix_last y xs

  pub suffixed_end : (a : Expr) (xs : List Suffix) → edge.last < suffixes_end edge (span_of a).end xs → LateValue edge (suffixed a xs)
  suffixed_end a [] h = h
  suffixed_end a (x ∷ xs) h = subst (λ (z : ℕ). edge.last < z) (sym (suffix_last x xs)) h

  pub conditional_end : (cs : List _) (e : Expr) → LateValue edge e → LateValue edge (conditional cs e)
  conditional_end [] e h = h
  conditional_end (x ∷ cs) e h = h

  -- 2. Values

  abbrev pub M : (q : What) (c : Context_of q) → Bool → Type 0 → Form C (at ns q) → Type 1
  M q c told over f = Marked C (telling edge) (at ns q) c told over f

  abbrev pub v : Seen → Expr → Bool
  v c e = value_tells edge c.probe c.env e

  pub mark_value : (k : Bool) (c : Seen) → Mark edge ns (w.Value k) c
  unfolding form
  mark_value k c = m_part c false (λ r. v c (conditional r.0 r.1)) (λ o. (refl, tt)) (λ r f d. refl)
      (λ r f. m_give (conditional r.0 r.1) tt (λ o. refl) (λ o. conditional_end r.0 r.1 o))

  pub mark_choosing : (k : Bool) (c : Seen) → Mark edge ns (w.Choosing k) c
  unfolding form
  mark_choosing k c =
      m_part c false (λ o. v c (with_prefixes o)) (λ o. (refl, tt)) (λ o f d. refl)
      (λ o f. m_part c false (λ r. v c (conditional r.0 r.1)) (λ l. (refl, l)) (λ r f2 d. refl) (λ r f2. m_give r tt (λ o. refl) (λ o. o)))

  pub mark_choosing_tail : (k : Bool) (a : Expr) (c : Seen) → Mark edge ns (w.ChoosingTail k a) c
  unfolding form
  mark_choosing_tail k a c =
      m_part c false (λ t. v c t) (λ o. (refl, o)) (λ t f d. refl) (λ t f. m_pick
      (m_take (λ q. v c t) (λ q b o. refl) (λ q e. m_part c (v c t) (λ b. v c t || v c b) (λ o. (sym (or_none (v c t)), tt)) (λ b f2 d. refl)
      (λ b f2. m_take (λ s. v c t || v c b) (λ s b2 o. refl) (λ s e2.
      m_part c (v c t || v c b) (λ r. v c (conditional (choice t b ∷ r.0) r.1)) (λ o. (sym (or_none (v c t || v c b)), tt))
      (λ r f3 d. one_more_choice edge.last c.probe c.env t b r.0 r.1 d)
      (λ r f3. m_give (choice t b ∷ r.0, r.1) tt (λ o. refl) (λ o. o))))))
      (m_give ([], t) tt (λ o. refl) (λ o. o)))

  -- what a chain goes on from
  abbrev chain_from : Seen → Expr → Chain
  chain_from c b = record { probe = c.probe; env = c.env; first = (checked b).span; given = operand_of c.env (checked b); «end» = (span_of b).end }

  pub mark_upto : (l : Level) (k : Bool) (a : Expr) (c : Seen) → Mark edge ns (w.Upto l k a) c
  unfolding form
  mark_upto l k a c = by_level (tighter l)
    where
      links : (b : Expr) → M (w.Upto l k a) c (v c b) (LateValue edge b) (just ns (w.Links l k) (λ ls. chained b ls))
      links b =
          m_part (chain_from c b) (v c b) (λ ls. v c (chained b ls)) (λ o. (sym (or_none (v c b)), o)) (λ ls f d. chained_tells edge.last c.probe c.env b ls)
          (λ ls f. m_give (chained b ls) tt (λ o. refl) (λ o. chained_end b ls o))

      by_level : (o : Option Level) → M (w.Upto l k a) c (v c a) (LateValue edge a) (upto_behind ns o k a (λ b. just ns (w.Links l k) (λ ls. chained b ls)))
      by_level None = links a
      by_level (Some m) = m_part c false (λ b. v c b) (λ o. (refl, o)) (λ b f d. refl) (λ b f. links b)

  -- what is seen of a chain, and what a link adds
  abbrev in_chain : Chain → Seen
  in_chain c = record { probe = c.probe; env = c.env }

  abbrev outcome_tells : Chain → Token → Expr → Bool
  outcome_tells c t b = tell edge c.probe (outcome_faults (join_outcome c.env (operator_in t.terminal) c.given (operand_of c.env (checked b)))
      (join c.first (checked b).span))

  abbrev with_link : Chain → Token → Expr → Bool
  with_link c t b = v (in_chain c) b || outcome_tells c t b

  abbrev further : Chain → Token → Expr → Chain
  further c t b = record {
    probe = c.probe;
    env = c.env;
    first = c.first;
    given = joined c.env (operator_in t.terminal) c.given
        (operand_of c.env (checked b));
    «end» = (span_of b).end;
  }

  pub mark_links : (l : Level) (k : Bool) (c : Chain) → Mark edge ns (w.Links l k) c
  unfolding form
  mark_links l k c =
      m_pick (m_take (λ t. false) (λ t b o. refl) (λ t e. m_part (in_chain c) false (λ b. with_link c t b) (λ o. (refl, tt))
      (λ b f d. or_drop (v (in_chain c) b) (outcome_tells c t b) (link_late edge.last c.probe c.env c.first c.given (operator_in t.terminal) b d))
      (λ b f. m_part (further c t b) (with_link c t b) (λ ls. tells_of edge (w.Links l k) c (link (operator_in t.terminal) b ∷ ls))
      (λ o. (sym (or_none (with_link c t b)), o))
      (λ ls f2 d. one_more_link edge.last c.probe c.env c.first c.given (operator_in t.terminal) b ls)
      (λ ls f2. m_give (link (operator_in t.terminal) b ∷ ls) tt (λ o. refl) (λ o. o)))))
      (m_give [] tt (λ o. refl) (λ o. o))

  pub mark_operand : (l : Level) (k : Bool) (c : Seen) → Mark edge ns (w.Operand l k) c
  unfolding form
  mark_operand l k c = m_part c false (λ o. v c (with_prefixes o)) (λ o. (refl, tt)) (λ o f d. refl) (λ o f. by_level (tighter l) (with_prefixes o))
    where
      by_level : (o : Option Level) (a : Expr) → M (w.Operand l k) c (v c a) (LateValue edge a) (tail_behind ns o k a (λ b. b))
      by_level None a = m_give a tt (λ o. refl) (λ o. o)
      by_level (Some m) a = m_part c false (λ b. v c b) (λ o. (refl, o)) (λ b f d. refl) (λ b f. m_give b tt (λ o. refl) (λ o. o))

  -- 3. Prefixes

  no_cast : (env : Env) (y : Terminal) → cast_faults env (prefix_in y) ≡ []
  no_cast env (words.Of (Rattle.c_lexer.specs.declared.token.TokenKind.TheVariants.Sign s)) = by_sign s
    where
      by_sign : (s : Rattle.c_lexer.specs.declared.token.Sign.Sign)
          → cast_faults env (Rattle.c_grammar.specs.Trees.known_prefix (Rattle.c_tree.specs.Values.prefix_of false s)) ≡ []
      by_sign sign.Plus = refl
      by_sign sign.Minus = refl
      by_sign sign.Not = refl
      by_sign sign.Tilde = refl
      by_sign sign.Star = refl
      by_sign sign.Ampersand = refl
      by_sign s = refl
  no_cast env y = refl

  pub sign_more : (c : Seen) (t : Token) (r : List PrefixOperator × Expr) → LateValue edge (with_prefixes r)
      → v c (with_prefixes (one_prefix (sign_prefix t) r)) ≡ v c (with_prefixes r)
  sign_more c t r h = one_more_prefix edge.last c.probe c.env (sign_prefix t) r h
      ∙ ap (λ (z : List Fault). shows edge.last c.probe z || v c (with_prefixes r)) (no_cast c.env t.terminal)

  pub prefix_end : (q : PrefixOperator) (r : List PrefixOperator × Expr) → LateValue edge (with_prefixes r) → LateValue edge (with_prefixes (one_prefix q r))
  prefix_end q r h = subst (λ (z : ℕ). edge.last < z) (prefixed_end r.0 r.1) h

  -- what suffixes go on from
  abbrev pub row_from : Seen → Expr → Row
  row_from c a = record { probe = c.probe; env = c.env; first = (checked a).span; kind = (checked a).value.kind c.env; «end» = (span_of a).end }

  -- suffixes behind a value, and what is made of it
  pub mark_suffixed : {q : What} {d : Context_of q} (c : Seen) (dot must : Bool) (past : Bool) (told : Bool) (over : Type 0) (a : Expr) (f : Expr → tree_of q)
      → (over → told ≡ (past || v c a)) → (over → LateValue edge a)
      → ((b : Expr) → Fact_of edge q d (f b)) → ((b : Expr) → tells_of edge q d (f b) ≡ (past || v c b))
      → ((b : Expr) → LateValue edge b → Done_with edge q d (f b))
      → M q d told over (just ns (w.Suffixes dot must) (λ xs. f (suffixed a xs)))
  mark_suffixed {q} {d} c dot must past told over a f h l fact same done =
      m_part (row_from c a) (past || v c a) (λ xs. past || v c (suffixed a xs)) (λ o. (h o ∙ sym (or_none (past || v c a)), l o))
      (λ xs f2 g. ap (λ (z : Bool). past || z) (suffixed_tells edge.last c.probe c.env a xs)
      ∙ or_both past (v c a) (tell edge c.probe (suffix_faults c.env (checked a).span ((checked a).value.kind c.env) (map known_suffix xs))))
      (λ xs f2. m_give (f (suffixed a xs)) (fact (suffixed a xs)) (λ o. same (suffixed a xs)) (λ o. done (suffixed a xs) (suffixed_end a xs o)))

  -- the same of a constant, which has none
  pub mark_behind : {q : What} {d : Context_of q} (c : Seen) (k : Bool) (told : Bool) (over : Type 0) (a : Expr) (f : Expr → tree_of q)
      → (over → told ≡ v c a) → (over → LateValue edge a)
      → ((b : Expr) → Fact_of edge q d (f b)) → ((b : Expr) → tells_of edge q d (f b) ≡ v c b) → ((b : Expr) → LateValue edge b → Done_with edge q d (f b))
      → M q d told over (suffixes_behind ns k a f)
  mark_behind c true told over a f h l fact same done = m_give (f a) (fact a) (λ o. same a ∙ sym (h o)) (λ o. done a (l o))
  mark_behind c false told over a f h l fact same done = mark_suffixed c (is_place a) false false told over a f h l fact same done

  -- a value in brackets, and what follows
  pub mark_bracket : {q : What} {d : Context_of q} (c : Seen) (k : Bool) (past told : Bool) (over : Type 0) (t : Token) (f : Expr → Form C (at ns q))
      → (over → told ≡ past)
      → ((b : Expr) → (span_of b).start ≡ t.start → M q d (past || v c b) (LateValue edge b) (f b)) → M q d told over (bracket_end ns k t f)
  mark_bracket {q} {d} c k past told over t f h m =
      m_part c past (λ a. past || v c a) (λ o. (h o ∙ sym (or_none past), tt)) (λ a f2 g. refl)
      (λ a f2. m_take (λ s. past || v c a) (λ s b o. refl) (λ s e. closed a s))
    where
      closed : (a : Expr) (s : Token) → M q d (past || v c a) (LateToken edge s) (f (bracketed (join (words.at t) (words.at s)) a))
      closed a s = subst (λ (z : Bool). M q d (past || z) (LateToken edge s) (f (bracketed (join (words.at t) (words.at s)) a)))
          (bracketed_tells edge.last c.probe c.env a (join (words.at t) (words.at s)))
          (m_less (λ o. o.1) (m (bracketed (join (words.at t) (words.at s)) a) refl))

  -- a cast, and what follows
  pub mark_cast : {q : What} {d : Context_of q} (c : Seen) (k : Bool) (past told : Bool) (over : Type 0) (t : Token)
      (f : List PrefixOperator × Expr → Form C (at ns q)) → (over → told ≡ past)
      → ((r : List PrefixOperator × Expr) → M q d (past || v c (with_prefixes r)) (LateValue edge (with_prefixes r)) (f r))
      → M q d told over (cast_behind ns k t f)
  mark_cast c k past told over t f h m =
      m_part c past (λ y. past || type_tells edge c.probe c.env y) (λ o. (h o ∙ sym (or_none past), tt)) (λ y f2 g. refl)
      (λ y f2. m_take (λ s. past || type_tells edge c.probe c.env y) (λ s b o. refl) (λ s e.
      m_part c (past || type_tells edge c.probe c.env y) (λ r. past || v c (with_prefixes (one_prefix (cast_prefix t y s) r)))
      (λ o. (sym (or_none (past || type_tells edge c.probe c.env y)), tt))
      (λ r f3 g. ap (λ (z : Bool). past || z) (one_more_prefix edge.last c.probe c.env (cast_prefix t y s) r g)
      ∙ or_both past (type_tells edge c.probe c.env y) (v c (with_prefixes r)))
      (λ r f3. m_less (λ o. prefix_end (cast_prefix t y s) r o) (m (one_prefix (cast_prefix t y s) r)))))

  mark_cast_or_operand : (k : Bool) (c : Seen) → M (w.Prefixed k) c false (Unit {0}) (cast_or_operand ns k)
  mark_cast_or_operand k c =
      m_pick (m_take (λ t. false) (λ t b o. refl) (λ t e. m_pick
      (mark_cast c k false false (LateToken edge t) t (λ r. Rattle.predictive_grammar.specs.Forms.give r) (λ o. refl) (λ r. m_give r tt (λ o. refl) (λ o. o)))
      (mark_bracket c k false false (LateToken edge t) t (λ a. suffixes_behind ns k a (λ b. ([], b))) (λ o. refl)
      (λ a e2. mark_behind c k (v c a) (LateValue edge a) a (λ b. ([], b)) (λ o. refl) (λ o. o) (λ b. tt) (λ b. refl) (λ b h. h)))))
      (m_part c false (λ a. v c a) (λ o. (refl, tt)) (λ a f g. refl)
      (λ a f. mark_behind c k (v c a) (LateValue edge a) a (λ b. ([], b)) (λ o. refl) (λ o. o) (λ b. tt) (λ b. refl) (λ b h. h)))

  -- a sign before an operand
  mark_sign : (k : Bool) (c : Seen) (t : Token) → M (w.Prefixed k) c false (LateToken edge t) (just ns (w.Prefixed k) (λ r. one_prefix (sign_prefix t) r))
  mark_sign k c t = m_part c false (λ r. v c (with_prefixes (one_prefix (sign_prefix t) r))) (λ o. (refl, tt)) (λ r f g. sign_more c t r g)
      (λ r f. m_give (one_prefix (sign_prefix t) r) tt (λ o. refl) (λ o. prefix_end (sign_prefix t) r o))

  pub mark_prefixed : (k : Bool) (c : Seen) → Mark edge ns (w.Prefixed k) c
  unfolding form
  mark_prefixed true c = m_pick (m_take (λ t. false) (λ t b o. refl) (λ t e. mark_sign true c t)) (mark_cast_or_operand true c)
  mark_prefixed false c =
      m_pick (m_take (λ t. false) (λ t b o. refl) (λ t e. mark_sign false c t)) (m_pick
      (m_take (λ t. false) (λ t b o. refl) (λ t e.
      m_part c false (λ r. v c (with_prefixes (one_prefix (sign_prefix t) r))) (λ o. (refl, tt)) (λ r f g. sign_more c t r g)
      (λ r f. m_give (one_prefix (sign_prefix t) r) tt (λ o. refl) (λ o. prefix_end (sign_prefix t) r o))))
      (mark_cast_or_operand false c))

  pub mark_place : (c : Seen) → Mark edge ns w.Place c
  unfolding form
  mark_place c =
      m_pick (m_take (λ t. false) (λ t b o. refl) (λ t e.
      m_part c false (λ r. v c (with_prefixes (one_prefix (sign_prefix t) r))) (λ o. (refl, tt)) (λ r f g. sign_more c t r g)
      (λ r f. m_give (one_prefix (sign_prefix t) r) tt (λ o. refl) (λ o. prefix_end (sign_prefix t) r o))))
      (m_pick (m_take (λ t. false) (λ t b o. refl)
      (λ t e. mark_bracket c false false false (LateToken edge t) t (λ a. place_behind ns a (λ b. ([], b))) (λ o. refl) (λ a e2. placed a)))
      (m_part c false (λ a. v c a) (λ o. (refl, tt)) (λ a f g. refl) (λ a f. placed a)))
    where
      placed : (a : Expr) → M w.Place c (v c a) (LateValue edge a) (place_behind ns a (λ b. ([], b)))
      placed a = mark_suffixed c (is_place a) (not (is_place a)) false (v c a) (LateValue edge a) a (λ b. ([], b)) (λ o. refl) (λ o. o) (λ b. tt) (λ b. refl)
          (λ b h. h)

  -- 4. Operands

  pub name_late : (c : Seen) (t : Token) → BehindToken edge t → v c (name_value ns t) ≡ false
  name_late c t b = go (role_of ns t.bytes)
    where
      by_sort : (o : Option Sort) → tell edge c.probe (undeclared_if o (name_at t)) ≡ false
      by_sort None = let a = edge.apart in late_undeclared edge.last c.probe (name_at t) (omega (arith, b.0))
      by_sort (Some s) = refl

      variable : v c (Rattle.c_tree.specs.Make.expr (Rattle.c_tree.specs.declared.code.Shape.TheVariants.Variable (name_at t)) (words.at t)) ≡ false
      variable = ap (λ (z : checks.Checked). tell edge c.probe (z.faults c.env)) (value_at (Shape-F.Variable (name_at t)) (words.at t))
          ∙ by_sort (found c.env.scopes t.bytes)

      go : (r : Role) → v c (Rattle.c_tree.specs.Make.expr (name_shape r (name_at t)) (words.at t)) ≡ false
      go FunctionName = ap (λ (z : checks.Checked). tell edge c.probe (z.faults c.env)) (value_at (Shape-F.Function (name_at t)) (words.at t))
      go MemberName = ap (λ (z : checks.Checked). tell edge c.probe (z.faults c.env)) (value_at (Shape-F.Member (name_at t)) (words.at t))
      go r = variable

  pub mark_primary : (k : Bool) (c : Seen) → Mark edge ns (w.Primary k) c
  unfolding form
  mark_primary k c = m_pick (m_take (λ t. v c (name_value ns t)) (λ t b o. name_late c t b) (λ t e. m_give (name_value ns t) tt (λ o. refl) (λ o. o.1)))
      (m_part (record { probe = c.probe; env = c.env; gate = false }) false (λ a. v c a) (λ o. (refl, tt)) (λ a f g. refl)
      (λ a f. m_give a tt (λ o. refl) (λ o. o)))

  literal_none : (c : Seen) (t : Token) → v c (literal t) ≡ false
  literal_none c t = go t.terminal
    where
      go : (y : Terminal) → v c (Rattle.c_tree.specs.Make.expr (literal_shape y t.bytes) (words.at t)) ≡ false
      go (words.Of (Rattle.c_lexer.specs.declared.token.TokenKind.TheVariants.Number n y)) =
          ap (λ (z : checks.Checked). tell edge c.probe (z.faults c.env)) (value_at (Shape-F.Number (record { value = n; kind = y })) (words.at t))
      go (words.Of (Rattle.c_lexer.specs.declared.token.TokenKind.TheVariants.Character b)) = ap (λ (z : checks.Checked). tell edge c.probe (z.faults c.env))
          (value_at (Shape-F.Character b) (words.at t))
      go (words.Of (Rattle.c_lexer.specs.declared.token.TokenKind.TheVariants.Constant k)) = ap (λ (z : checks.Checked). tell edge c.probe (z.faults c.env))
          (value_at (Shape-F.Constant k) (words.at t))
      go y = ap (λ (z : checks.Checked). tell edge c.probe (z.faults c.env)) (value_at (Shape-F.Text t.bytes) (words.at t))

  size_tells : (c : Seen) (t : Token) (y : CType) (s : Token)
      → v c (size_of t y s) ≡ (type_tells edge c.probe c.env y || tell edge c.probe
      (outcome_faults (on (kind_of c.env y) (size_outcome c.env)) (join (words.at t) (words.at s))))
  size_tells c t y s = ap (λ (z : checks.Checked). tell edge c.probe (z.faults c.env))
      (value_at (Shape-F.SizeOf y (join (words.at t) (words.at s))) (join (words.at t) (words.at s)))
      ∙ shows_append edge.last c.probe (type_faults c.env y) (outcome_faults (on (kind_of c.env y) (size_outcome c.env)) (join (words.at t) (words.at s)))

  size_late : (c : Seen) (t : Token) (y : CType) (s : Token) → BehindToken edge s → v c (size_of t y s) ≡ type_tells edge c.probe c.env y
  size_late c t y s b = let a = edge.apart in
      size_tells c t y s ∙ or_drop (type_tells edge c.probe c.env y)
      (tell edge c.probe (outcome_faults (on (kind_of c.env y) (size_outcome c.env)) (join (words.at t) (words.at s))))
      (late_outcome edge.last c.probe (join (words.at t) (words.at s)) (plain_on (kind_of c.env y) (size_outcome c.env) (size_plain c.env))
      (omega (arith, b.1)))

  abbrev lacking : Seen → CType → Token → Bool
  lacking c y n = tell edge c.probe (lack_faults (on (kind_of c.env y) (offset_outcome c.env (name_at n))))

  offset_tells : (c : Seen) (t : Token) (y : CType) (n s : Token)
      → v c (offset t y n s) ≡ (type_tells edge c.probe c.env y || tell edge c.probe
      (outcome_faults (on (kind_of c.env y) (offset_outcome c.env (name_at n))) (join (words.at t) (words.at s))))
  offset_tells c t y n s = ap (λ (z : checks.Checked). tell edge c.probe (z.faults c.env))
      (value_at (Shape-F.Offset y (name_at n) (join (words.at t) (words.at s))) (join (words.at t) (words.at s)))
      ∙ shows_append edge.last c.probe (type_faults c.env y)
      (outcome_faults (on (kind_of c.env y) (offset_outcome c.env (name_at n))) (join (words.at t) (words.at s)))

  offset_late : (c : Seen) (t : Token) (y : CType) (n s : Token) → BehindToken edge s
      → v c (offset t y n s) ≡ (type_tells edge c.probe c.env y || lacking c y n)
  offset_late c t y n s b = let a = edge.apart in
      offset_tells c t y n s ∙ ap (λ (z : Bool). type_tells edge c.probe c.env y || z)
      (lack_only edge.last c.probe (on (kind_of c.env y) (offset_outcome c.env (name_at n))) (join (words.at t) (words.at s)) (omega (arith, b.1)))

  lacking_late : (c : Seen) (y : CType) (n : Token) → BehindToken edge n → lacking c y n ≡ false
  lacking_late c y n b = let a = edge.apart in lack_late edge.last c.probe (offset_most c.env (name_at n) (kind_of c.env y)) (omega (arith, b.0))

  abbrev self : Self → Token → Seen
  self c t = self_seen edge c t.start

  abbrev seen_type : Self → Token → CType → Bool
  seen_type c t y = type_tells edge (self c t).probe c.env y

  pub mark_unnamed : (c : Self) → Mark edge ns w.Unnamed c
  unfolding form
  mark_unnamed c =
      m_pick (m_take (λ t. false) (λ t b o. refl) (λ t e. m_give (literal t) tt (λ o. literal_none (self c t) t) (λ o. o.1)))
      (m_pick (m_take (λ t. false) (λ t b o. refl)
      (λ t e. m_take (λ r. false) (λ r b o. refl) (λ r e2. m_part (self c t) false (λ y. seen_type c t y) (λ o. (refl, tt)) (λ y f g. refl)
      (λ y f. m_take (λ s. v (self c t) (size_of t y s)) (λ s b o. size_late (self c t) t y s b)
      (λ s e3. m_give (size_of t y s) tt (λ o. refl) (λ o. o.1))))))
      (m_take (λ t. false) (λ t b o. refl) (λ t e. m_take (λ r. false) (λ r b o. refl)
      (λ r e2. m_part (self c t) false (λ y. seen_type c t y) (λ o. (refl, tt)) (λ y f g. refl)
      (λ y f. m_take (λ m. seen_type c t y) (λ m b o. refl)
      (λ m e3. m_take (λ n. seen_type c t y || lacking (self c t) y n)
      (λ n b o. or_drop (seen_type c t y) (lacking (self c t) y n) (lacking_late (self c t) y n b))
      (λ n e4. m_take (λ s. v (self c t) (offset t y n s)) (λ s b o. offset_late (self c t) t y n s b)
      (λ s e5. m_give (offset t y n s) tt (λ o. refl) (λ o. o.1)))))))))
