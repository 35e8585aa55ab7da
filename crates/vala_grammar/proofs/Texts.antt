-- Each part has a text.
use Rattle.std.proofs.Common.{ℕ, Bool, true, false, refl, [], ◌∷◌, Some, None}
use Rattle.vg_base.specs.declared.event.Span.{Span}
use Rattle.predictive_grammar.specs.Forms.{Form}
use Rattle.predictive_grammar.specs.Follows.{Word, Follows, given, taken, read, first, second, kept, Reads}
use Rattle.predictive_grammar.proofs.Ways.{Way, end, by_token, by_text, by_known, one, other, on, some_text}
use Rattle.vala_lexer.specs.Tokens.{Lexeme}
use Rattle.vala_tree.specs.declared.code.Expr.{Expr}
use Rattle.vala_tree.specs.declared.code.Stmt.{Stmt}
use Rattle.vala_tree.specs.declared.names.NameTree.{NameTree}
use Rattle.vala_grammar.specs.declared.sort.Sort.TheVariants as s
use Rattle.vala_grammar.specs.declared.parts.Last.{Last}
use Rattle.vala_grammar.specs.declared.parts.Last.TheVariants as last
use Rattle.vala_grammar.specs.declared.parts.Chain.{Chain}
use Rattle.vala_grammar.specs.declared.parts.Lead.TheVariants as lead
use Rattle.vala_grammar.specs.declared.parts.Context.{Context}
use Rattle.vala_grammar.specs.declared.parts.Context.TheVariants as context
use Rattle.vala_grammar.specs.declared.parts.Signs.{Signs}
use Rattle.vala_grammar.specs.declared.parts.Signs.TheVariants as signs
use Rattle.vala_grammar.specs.declared.parts.Tier.{Tier}
use Rattle.vala_grammar.specs.declared.parts.Tier.TheVariants as tier
use Rattle.vala_grammar.specs.Tests.{tighter}
use Rattle.vala_grammar.specs.Trees as tree
use Rattle.vala_grammar.specs.Parts.{Part, tree_of, Name, NameMore, AnyType, TypeBody, NameInType, NameInTypeMore, Whole, Value, Nameless, Immediate, AfterWord, Onward, Test, Prefix, Unary, Direct, Upto, Rest, Operand, CoalesceTail, CoalesceOperand, ChoiceTail, AssignTail, TestedType, TestedBody, Bracket, OpeningName, LeadMore, Marked, CastEnd, BehindNames, LambdaMore, LambdaEnd, Primary, Atom, Suffix, YieldCall, CallMore, NewMore, NewArray, NewItems, Args, MoreArgs, Arg, Init, Items, MoreItems, BlockOf, Statements, AnyStmt, Bare, Simple, Body, Alternative, IfMore, IfTail, DoMore, ForMore, ForHeadOf, ForExprs, ForTest, ForSteps, MoreSteps, ForeachMore, SwitchMore, AnyLabel, Sections, TryMore, CatchOf, Begin, Locals, MoreLocals, OneLocal}
use Rattle.vala_grammar.specs.Grammar.{G, forms, rest_of, upto_of, operand_of, choice_of}
use Rattle.vala_grammar.specs.Tables.{tier_looseness}
use Rattle.vala_grammar.proofs.Finite.{sample, is_sample}

-- how dear a text of each part is: more than those of the parts in it
abbrev cost : Part → ℕ
cost (Upto d t c) = tier_looseness t
cost Name = 1
cost AnyType = 1
cost NameInType = 1
cost Whole = 15
cost Value = 14
cost Nameless = 13
cost Immediate = 12
cost (AfterWord _) = 12
cost (Onward _) = 11
cost (Prefix _) = 3
cost (Unary _) = 2
cost (Direct _) = 1
cost (Operand _ _) = 12
cost (CoalesceOperand _) = 12
cost (ChoiceTail _) = 1
cost (TestedType _) = 1
cost (Bracket _ _) = 5
cost (OpeningName _) = 3
cost (CastEnd _ _) = 4
cost (BehindNames _ _ _ _) = 3
cost (LambdaEnd _ _) = 2
cost YieldCall = 2
cost (CallMore _) = 1
cost (NewMore _ _) = 1
cost (NewArray _ _ _) = 1
cost Arg = 16
cost Init = 1
cost BlockOf = 1
cost AnyStmt = 2
cost Bare = 1
cost Body = 2
cost Alternative = 2
cost IfMore = 16
cost (DoMore _) = 16
cost (ForMore _) = 3
cost ForHeadOf = 2
cost (ForExprs _) = 2
cost (ForTest _) = 1
cost (ForeachMore _) = 16
cost (SwitchMore _) = 16
cost CatchOf = 2
cost Begin = 2
cost (Locals _) = 1
cost _ = 0

abbrev WayOf : (p : Part) → Form G p → Type 0
WayOf p form = Way G forms cost sample is_sample p form

-- ---- chains

way_rest : (d : ℕ) (t : Tier) (c : Chain) → WayOf (Rest d t c) (rest_of d t c)
way_rest d tier.Relation c = other (other end)
way_rest d tier.Product c = other end
way_rest d _ c = other end

way_rest_of : (d : ℕ) (t : Tier) (v : Expr) (l : Last) → WayOf (Rest d t (record { value = v; last = l })) (forms (Rest d t (record { value = v; last = l })))
unfolding forms
way_rest_of d t v last.Plain = way_rest d t (record { value = v; last = last.Plain })
way_rest_of d t v last.Names = way_rest d t (record { value = v; last = last.Names })
way_rest_of d t v last.Integer = way_rest d t (record { value = v; last = last.Integer })
way_rest_of d t v last.Unmarked = way_rest d t (record { value = v; last = last.Unmarked })
way_rest_of d t v last.Alone = way_rest d t (record { value = v; last = last.Alone })
way_rest_of d t v (last.Asked b) = end

way_upto : (d : ℕ) (t : Tier) (c : Chain) → WayOf (Upto d t c) (upto_of d t c (tighter t))
way_upto d tier.Product c = by_text refl (λ a. end)
way_upto d tier.Sum c = by_text refl (λ e. by_text refl (λ a. end))
way_upto d tier.Shift c = by_text refl (λ e. by_text refl (λ a. end))
way_upto d tier.Relation c = by_text refl (λ e. by_text refl (λ a. end))
way_upto d tier.Equality c = by_text refl (λ e. by_text refl (λ a. end))
way_upto d tier.BitAnd c = by_text refl (λ e. by_text refl (λ a. end))
way_upto d tier.BitXor c = by_text refl (λ e. by_text refl (λ a. end))
way_upto d tier.BitOr c = by_text refl (λ e. by_text refl (λ a. end))
way_upto d tier.And c = by_text refl (λ e. by_text refl (λ a. end))
way_upto d tier.Or c = by_text refl (λ e. by_text refl (λ a. end))

way_operand : (d : ℕ) (t : Tier) (c : Chain) → WayOf (Operand d t) (operand_of d t (tighter t) c)
way_operand d tier.Product c = end
way_operand d tier.Sum c = by_text refl (λ a. end)
way_operand d tier.Shift c = by_text refl (λ a. end)
way_operand d tier.Relation c = by_text refl (λ a. end)
way_operand d tier.Equality c = by_text refl (λ a. end)
way_operand d tier.BitAnd c = by_text refl (λ a. end)
way_operand d tier.BitXor c = by_text refl (λ a. end)
way_operand d tier.BitOr c = by_text refl (λ a. end)
way_operand d tier.And c = by_text refl (λ a. end)
way_operand d tier.Or c = by_text refl (λ a. end)

way_coalesce : (d : ℕ) (v : Expr) (l : Last) → WayOf (CoalesceTail d (record { value = v; last = l })) (forms (CoalesceTail d (record { value = v; last = l })))
unfolding forms
way_coalesce d v last.Plain = other end
way_coalesce d v last.Names = other end
way_coalesce d v last.Integer = other end
way_coalesce d v last.Unmarked = other end
way_coalesce d v last.Alone = other end
way_coalesce d v (last.Asked b) = end

way_choice : (v : Expr) (l : Last) → WayOf (ChoiceTail (record { value = v; last = l })) (choice_of (record { value = v; last = l }) l)
way_choice v last.Plain = other end
way_choice v last.Names = other end
way_choice v last.Integer = other end
way_choice v last.Unmarked = end
way_choice v last.Alone = end
way_choice v (last.Asked b) = by_token s.Colon refl (by_text refl (λ c. end))

way_suffix : (v : Expr) (l : Last) → WayOf (Suffix (record { value = v; last = l })) (forms (Suffix (record { value = v; last = l })))
unfolding forms
way_suffix v last.Plain = other (other (other (other end)))
way_suffix v last.Names = other (other (other end))
way_suffix v last.Integer = other (other (other end))
way_suffix v last.Unmarked = other (other (other end))
way_suffix v last.Alone = other (other (other end))
way_suffix v (last.Asked b) = other (other (other end))

-- ---- texts with known trees

-- a name, as an operand and as the first of names
abbrev word : Lexeme
word = sample s.Identifier

abbrev operand : Chain
operand = tree.plain (tree.name word)

-- a text of the part with the tree
abbrev Known : (q : Part) → tree_of q → Type 0
Known q b = (l : ℕ) → (w : Word G) × Reads G forms None q l w b

suffix_text : (a : Expr) → Known (Suffix (tree.plain a)) (tree.plain a)
unfolding forms
suffix_text a l = ([], second (second (second (second (given (tree.plain a))))))

rest_text : (d : ℕ) (t : Tier) (a : Expr) (l : ℕ) → Reads G forms None (Rest d t (tree.plain a)) l [] (tree.plain a)
unfolding forms
rest_text d tier.Relation a l = second (second (given (tree.plain a)))
rest_text d tier.Product a l = second (given (tree.plain a))
rest_text d _ a l = second (given (tree.plain a))

module _ (d : ℕ) (a : Expr) where
  step_text : (t u : Tier) → ((l : ℕ) → Reads G forms None (Upto d u (tree.plain a)) l [] (tree.plain a)) → (l : ℕ) → Follows G forms None (Upto d t (tree.plain a)) (upto_of d t (tree.plain a) (Some u)) l [] (tree.plain a)
  step_text t u inner l = read (inner l) (read (rest_text d t a l) (given (tree.plain a)))

  product_text : (l : ℕ) → Reads G forms None (Upto d tier.Product (tree.plain a)) l [] (tree.plain a)
  unfolding forms
  product_text l = read (rest_text d tier.Product a l) (given (tree.plain a))

  sum_text : (l : ℕ) → Reads G forms None (Upto d tier.Sum (tree.plain a)) l [] (tree.plain a)
  unfolding forms
  sum_text l = step_text tier.Sum tier.Product product_text l

  shift_text : (l : ℕ) → Reads G forms None (Upto d tier.Shift (tree.plain a)) l [] (tree.plain a)
  unfolding forms
  shift_text l = step_text tier.Shift tier.Sum sum_text l

  relation_text : (l : ℕ) → Reads G forms None (Upto d tier.Relation (tree.plain a)) l [] (tree.plain a)
  unfolding forms
  relation_text l = step_text tier.Relation tier.Shift shift_text l

  equality_text : (l : ℕ) → Reads G forms None (Upto d tier.Equality (tree.plain a)) l [] (tree.plain a)
  unfolding forms
  equality_text l = step_text tier.Equality tier.Relation relation_text l

  bitand_text : (l : ℕ) → Reads G forms None (Upto d tier.BitAnd (tree.plain a)) l [] (tree.plain a)
  unfolding forms
  bitand_text l = step_text tier.BitAnd tier.Equality equality_text l

  bitxor_text : (l : ℕ) → Reads G forms None (Upto d tier.BitXor (tree.plain a)) l [] (tree.plain a)
  unfolding forms
  bitxor_text l = step_text tier.BitXor tier.BitAnd bitand_text l

  bitor_text : (l : ℕ) → Reads G forms None (Upto d tier.BitOr (tree.plain a)) l [] (tree.plain a)
  unfolding forms
  bitor_text l = step_text tier.BitOr tier.BitXor bitxor_text l

  and_text : (l : ℕ) → Reads G forms None (Upto d tier.And (tree.plain a)) l [] (tree.plain a)
  unfolding forms
  and_text l = step_text tier.And tier.BitOr bitor_text l

  or_text : (l : ℕ) → Reads G forms None (Upto d tier.Or (tree.plain a)) l [] (tree.plain a)
  unfolding forms
  or_text l = step_text tier.Or tier.And and_text l

coalesce_text : (a : Expr) → Known (CoalesceTail 0 (tree.plain a)) (tree.plain a)
unfolding forms
coalesce_text a l = ([], second (given (tree.plain a)))

choice_text : (a : Expr) → Known (ChoiceTail (tree.plain a)) a
unfolding forms
choice_text a l = ([], second (given a))

operand_text : Known (Prefix signs.All) operand
unfolding forms suffix_text
operand_text l = (record { token = word; level = l; items = 0 } ∷ [], kept (read (second (first (taken word refl (read ((suffix_text (tree.name word) l).1) (given operand))))) (given operand)))

lead_text : (n : NameTree) → Known (LeadMore n) (lead.Names n)
unfolding forms
lead_text n l = ([], second (second (second (second (given (lead.Names n))))))

-- ---- the ways

way_marked : (x : Context) (n : NameTree) (q : Span) → WayOf (Marked x n q) (forms (Marked x n q))
unfolding forms
way_marked context.Statement n q = on (other (other end))
way_marked context.Bracket n q = on (other (other end))

way_direct : (x : Signs) → WayOf (Direct x) (forms (Direct x))
unfolding forms
way_direct x = other (by_text refl (λ a. by_text refl (λ c. end)))

way_bracket : (top : Bool) (o : Lexeme) → WayOf (Bracket top o) (forms (Bracket top o))
unfolding forms
way_bracket true o = other (other (other (one (by_token s.Void refl (by_text refl (λ c. end))))))
way_bracket false o = other (other (one (by_token s.Void refl (by_text refl (λ c. end)))))

way_if : (c : Expr) (x : Stmt) (b : Bool) → WayOf (IfTail c (record { statement = x; is_open = b })) (forms (IfTail c (record { statement = x; is_open = b })))
unfolding forms
way_if c x true = end
way_if c x false = other end

ways : (p : Part) → WayOf p (forms p)
unfolding forms
ways Name = by_token s.Identifier refl (by_text refl (λ a. end))
ways (NameMore n) = other end
ways AnyType = other (by_text refl (λ a. end))
ways (TypeBody o) = one (by_token s.Void refl end)
ways NameInType = by_token s.Identifier refl (by_text refl (λ a. end))
ways (NameInTypeMore n) = other (other end)
ways Whole = on (by_text refl (λ a. end))
ways Value = other (by_text refl (λ a. end))
ways Nameless = other (by_text refl (λ a. end))
ways Immediate = other (by_text refl (λ c. by_text refl (λ a. end)))
ways (AfterWord t) = other (by_text refl (λ c. by_text refl (λ a. end)))
ways (Onward c) = by_text refl (λ d. by_text refl (λ e. by_text refl (λ f. by_text refl (λ a. end))))
ways Test = by_known operand operand_text (by_known operand (λ l. ([], or_text 0 (tree.name word) l)) (by_known operand (coalesce_text (tree.name word)) (by_known (tree.name word) (choice_text (tree.name word)) end)))
ways (Prefix x) = on (by_text refl (λ a. end))
ways (Unary x) = other (other (other (by_text refl (λ a. end))))
ways (Direct x) = way_direct x
ways (Upto d t c) = way_upto d t c
ways (Rest d t c) = way_rest_of d t c.value c.last
ways (Operand d t) = by_text refl (λ c. way_operand d t c)
ways (CoalesceTail d c) = way_coalesce d c.value c.last
ways (CoalesceOperand d) = by_text refl (λ c. by_text refl (λ e. by_text refl (λ a. end)))
ways (ChoiceTail c) = way_choice c.value c.last
ways (AssignTail a) = other end
ways (TestedType d) = other (by_text refl (λ a. end))
ways (TestedBody d o) = one (by_token s.Void refl (on end))
ways (Bracket top o) = way_bracket top o
ways (OpeningName x) = by_token s.Identifier refl (by_known (lead.Names (tree.one_word word)) (lead_text (tree.one_word word)) (other (one (by_token s.Arrow refl (by_text refl (λ a. end))))))
ways (LeadMore n) = other (other (other (other end)))
ways (Marked x n q) = way_marked x n q
ways (CastEnd o y) = on (by_token s.CloseParen refl (by_text refl (λ a. end)))
ways (BehindNames top o n c) = one (by_text refl (λ a. end))
ways (LambdaMore xs) = by_token s.Identifier refl (other (by_token s.CloseParen refl end))
ways (LambdaEnd b xs) = one (by_text refl (λ a. end))
ways Primary = one (by_token s.Identifier refl end)
ways Atom = one (by_token s.Literal refl end)
ways (Suffix c) = way_suffix c.value c.last
ways YieldCall = on (other (by_text refl (λ a. by_text refl (λ b. end))))
ways (CallMore a) = other (by_token s.OpenParen refl (by_text refl (λ a. end)))
ways (NewMore t n) = one (by_token s.OpenParen refl (by_text refl (λ xs. on end)))
ways (NewArray t n q) = on (by_token s.OpenBracket refl (on (one (by_token s.CloseBracket refl (by_text refl (λ a. end))))))
ways (NewItems t n q e c) = other end
ways Args = one (by_token s.CloseParen refl end)
ways (MoreArgs xs) = other (by_token s.CloseParen refl end)
ways Arg = one (by_token s.Out refl (by_text refl (λ a. end)))
ways Init = one (by_token s.OpenBrace refl (by_text refl (λ a. end)))
ways Items = one (by_token s.CloseBrace refl end)
ways (MoreItems xs) = other (by_token s.CloseBrace refl end)
ways BlockOf = by_token s.OpenBrace refl (by_text refl (λ a. end))
ways (Statements o xs) = one (by_token s.CloseBrace refl end)
ways AnyStmt = one (by_text refl (λ a. end))
ways Bare = other (by_text refl (λ a. end))
ways Simple = one (by_token s.Semicolon refl end)
ways Body = one (by_text refl (λ a. end))
ways Alternative = one (by_text refl (λ a. end))
ways IfMore = by_token s.OpenParen refl (by_text refl (λ e. by_token s.CloseParen refl (by_text refl (λ a. by_text refl (λ a. end)))))
ways (IfTail c a) = way_if c a.statement a.is_open
ways (DoMore t) = by_text refl (λ a. by_token s.While refl (by_token s.OpenParen refl (by_text refl (λ e. by_token s.CloseParen refl (by_token s.Semicolon refl end)))))
ways (ForMore t) = by_token s.OpenParen refl (by_text refl (λ h. by_text refl (λ a. end)))
ways ForHeadOf = one (by_token s.Semicolon refl (by_text refl (λ a. end)))
ways (ForExprs xs) = other (by_token s.Semicolon refl (by_text refl (λ a. end)))
ways (ForTest b) = one (by_token s.Semicolon refl (by_text refl (λ a. end)))
ways (ForSteps b c) = one (by_token s.CloseParen refl end)
ways (MoreSteps b c xs) = other (by_token s.CloseParen refl end)
ways (ForeachMore t) = by_token s.OpenParen refl (one (by_token s.Var refl (by_token s.Identifier refl (by_token s.In refl (by_text refl (λ e. by_token s.CloseParen refl (by_text refl (λ a. end))))))))
ways (SwitchMore t) = by_token s.OpenParen refl (by_text refl (λ e. by_token s.CloseParen refl (by_token s.OpenBrace refl (one (by_token s.CloseBrace refl end)))))
ways AnyLabel = other (by_token s.Default refl (by_token s.Colon refl end))
ways (Sections t e parts x xs ss) = one (by_token s.CloseBrace refl end)
ways (TryMore t b xs) = other (other end)
ways CatchOf = by_token s.Catch refl (other (by_text refl (λ a. end)))
ways Begin = one (by_token s.Var refl (by_text refl (λ a. end)))
ways (Locals y) = by_text refl (λ d. by_text refl (λ a. end))
ways (MoreLocals y ds) = other end
ways OneLocal = by_token s.Identifier refl (other end)

pub some : (p : Part) (l : ℕ) → (w : Word G) × (a : tree_of p) × Reads G forms None p l w a
some = some_text G forms cost sample is_sample ways
