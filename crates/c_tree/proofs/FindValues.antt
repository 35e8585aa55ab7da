-- A reader of types and values over tokens: what it gives, it gives with its reading. It need not find every reading.
use Rattle.std.proofs.Common.{◌≡◌, ◌∙◌, refl, ap, ℕ, zero, suc, Bool, true, false, [], ◌∷◌, ◌++◌, Option, Some, None}
use Rattle.c_lexer.specs.declared.token.TokenKind.TheVariants as k
use Rattle.c_lexer.specs.declared.token.Keyword.TheVariants as keyword
use Rattle.c_lexer.specs.declared.token.Sign.{Sign}
use Rattle.c_lexer.specs.declared.token.Sign.TheVariants as sign
use Rattle.c_tree.specs.declared.names.Base.{Base}
use Rattle.c_tree.specs.declared.operators.BinaryOperator.{BinaryOperator}
use Rattle.c_tree.specs.declared.operators.Level.{Level}
use Rattle.c_tree.specs.declared.operators.Level.TheVariants as level
use Rattle.c_tree.specs.declared.operators.Prefix.{Prefix}
use Rattle.c_tree.specs.declared.code.Expr.{Expr}
use Rattle.c_tree.specs.Words.{Of, Token, Word, IsSign, IsWord, IsName}
use Rattle.c_tree.specs.Kinds.{level_of}
use Rattle.c_tree.specs.Names.{Names, Role, FunctionName, MemberName, role_of}
use Rattle.c_tree.specs.Types.{Consts, no_const, more_const, Stars, no_star, more_stars, BaseIs, void_is, int_is, char_is, named_is, ReadsType, type_is, can_be_type, is_object}
use Rattle.c_tree.specs.Make.{prefixed, chained, suffixed, conditional}
use Rattle.c_tree.specs.Values as v
use Rattle.c_tree.specs.Values.{Reads, Part, tree_of, Value, Choosing, Chained, Operand, Links, Prefixed, Postfixed, Suffixes, Primary, Arguments, MoreArguments, binary_of, prefix_of, may_precede, may_follow, is_variable, tighter}
use Rattle.c_tree.proofs.Tests.{Taken, Got, take_one, then, or_else, holds, fails, seq, front, name, is_text, a_number, a_character, a_constant, a_sign, comma, colon, question, open_paren, close_paren, open_bracket, close_bracket, dot, arrow, star, void_word, int_word, char_word, const_word, sizeof_word, offset_word}

-- 1. Types

abbrev pub consts : (i : Word) → Got Consts i
consts [] = record { word = []; rest = []; tree = false; reads = no_const; split = refl }
consts (t ∷ i) = by_const (const_word t.terminal) (consts i)
  where
    by_const : Option (IsWord t keyword.Const) → Got Consts i → Got Consts (t ∷ i)
    by_const None r = record { word = []; rest = t ∷ i; tree = false; reads = no_const; split = refl }
    by_const (Some e) r = record { word = t ∷ r.word; rest = r.rest; tree = true; reads = more_const e r.reads; split = ap (λ z. t ∷ z) r.split }

-- stars with no `const` behind them
abbrev pub stars : (i : Word) → Got Stars i
stars [] = record { word = []; rest = []; tree = 0; reads = no_star; split = refl }
stars (t ∷ i) = by_star (star t.terminal) (stars i)
  where
    by_star : Option (IsSign t sign.Star) → Got Stars i → Got Stars (t ∷ i)
    by_star None r = record { word = []; rest = t ∷ i; tree = 0; reads = no_star; split = refl }
    by_star (Some e) r = record { word = t ∷ r.word; rest = r.rest; tree = suc r.tree; reads = more_stars {u = []} e no_const r.reads; split = ap (λ z. t ∷ z) r.split }

module _ (ns : Names) (anyhow : Bool) where
  record GotBase (i : Word) : Type 0 where
    token : Token
    rest : Word
    tree : Base
    is : BaseIs ns anyhow token tree
    split : i ≡ token ∷ rest

  abbrev base_named : (t : Token) (i : Word) → Option (IsName t) → Option (can_be_type anyhow (role_of ns t.bytes) ≡ true) → Option (GotBase (t ∷ i))
  base_named t i (Some e) (Some h) = Some (record { token = t; rest = i; tree = _; is = named_is e h; split = refl })
  base_named t i o p = None

  abbrev base_at : (i : Word) → Option (GotBase i)
  base_at [] = None
  base_at (t ∷ i) =
      or_else (then (void_word t.terminal) (λ e. Some (record { token = t; rest = i; tree = _; is = void_is e; split = refl })))
      (or_else (then (int_word t.terminal) (λ e. Some (record { token = t; rest = i; tree = _; is = int_is e; split = refl })))
      (or_else (then (char_word t.terminal) (λ e. Some (record { token = t; rest = i; tree = _; is = char_is e; split = refl })))
      (base_named t i (name t.terminal) (holds (can_be_type anyhow (role_of ns t.bytes))))))

  abbrev type_of : (i : Word) (c : Got Consts i) (b : GotBase c.rest) (d : Got Consts b.rest) (n : Got Stars d.rest) → Got (ReadsType ns anyhow) i
  type_of i c b d n =
      record {
        word = c.word ++ b.token ∷ d.word ++ n.word;
        rest = n.rest;
        tree = _;
        reads = type_is c.reads b.is d.reads n.reads;
        split = seq (c.word ++ b.token ∷ d.word) n.word i d.rest n.rest (seq c.word (b.token ∷ d.word) i c.rest d.rest c.split (front b.token d.word c.rest b.rest d.rest b.split d.split)) n.split;
      }

  abbrev pub type_at : (i : Word) → Option (Got (ReadsType ns anyhow) i)
  type_at i = then (base_at (consts i).rest) (λ b. Some (type_of i (consts i) b (consts b.rest) (stars (consts b.rest).rest)))

-- 2. Values

module _ (ns : Names) (c : Bool) where
  abbrev pub Gets : (p : Part) → Word → Type 0
  Gets p i = Got (Reads ns c p) i

  -- the same word and tree by another case
  abbrev again : (p q : Part) (i : Word) (g : Gets p i) (a : tree_of q) → Reads ns c q g.word a → Gets q i
  again p q i g a h = record { word = g.word; rest = g.rest; tree = a; reads = h; split = g.split }

  abbrev last_choice : (i : Word) → Gets (Chained level.Or) i → Gets Choosing i
  last_choice i g = record { word = g.word; rest = g.rest; tree = ([], g.tree); reads = v.last_choice g.reads; split = g.split }

  abbrev more_choices : (i : Word) (a : Gets (Chained level.Or) i) (t : Taken (Of (k.Sign sign.Question)) a.rest) (b : Gets Value t.rest) (s : Taken (Of (k.Sign sign.Colon)) b.rest) (e : Gets Choosing s.rest) → Gets Choosing i
  more_choices i a t b s e =
      record {
        word = a.word ++ t.token ∷ b.word ++ s.token ∷ e.word;
        rest = e.rest;
        tree = _;
        reads = v.more_choices t.token s.token a.reads t.is b.reads s.is e.reads;
        split = seq (a.word ++ t.token ∷ b.word) (s.token ∷ e.word) i b.rest e.rest (seq a.word (t.token ∷ b.word) i a.rest b.rest a.split (front t.token b.word a.rest t.rest b.rest t.split b.split)) (front s.token e.word b.rest s.rest e.rest s.split e.split);
      }

  abbrev chain : (l : Level) (i : Word) (a : Gets (Operand l) i) → Gets (Links l) a.rest → Gets (Chained l) i
  chain l i a b = record { word = a.word ++ b.word; rest = b.rest; tree = chained a.tree b.tree; reads = v.chain a.reads b.reads; split = seq a.word b.word i a.rest b.rest a.split b.split }

  abbrev no_link : (l : Level) (i : Word) → Gets (Links l) i
  no_link l i = record { word = []; rest = i; tree = []; reads = v.no_link; split = refl }

  record Operator (l : Level) (i : Word) : Type 0 where
    token : Token
    sign : Sign
    operator : BinaryOperator
    rest : Word
    is : IsSign token sign
    binds : binary_of sign ≡ Some operator
    level : level_of operator ≡ l
    split : i ≡ token ∷ rest

  abbrev same_level : (a b : Level) → Option (a ≡ b)
  same_level level.Or level.Or = Some refl
  same_level level.And level.And = Some refl
  same_level level.BitOr level.BitOr = Some refl
  same_level level.BitXor level.BitXor = Some refl
  same_level level.BitAnd level.BitAnd = Some refl
  same_level level.Equality level.Equality = Some refl
  same_level level.Relation level.Relation = Some refl
  same_level level.Shift level.Shift = Some refl
  same_level level.Sum level.Sum = Some refl
  same_level level.Product level.Product = Some refl
  same_level a b = None

  abbrev operator_by : (l : Level) (t : Token) (i : Word) (s : Sign) → IsSign t s → (o : Option BinaryOperator) → binary_of s ≡ o → Option (Operator l (t ∷ i))
  operator_by l t i s e None h = None
  operator_by l t i s e (Some o) h = then (same_level (level_of o) l) (λ q. Some (record { token = t; sign = s; operator = o; rest = i; is = e; binds = h; level = q; split = refl }))

  abbrev operator_at : (l : Level) (i : Word) → Option (Operator l i)
  operator_at l [] = None
  operator_at l (t ∷ i) = then (a_sign t.terminal) (λ s. operator_by l t i s.0 s.1 (binary_of s.0) refl)

  abbrev more_links : (l : Level) (i : Word) (o : Operator l i) (b : Gets (Operand l) o.rest) → Gets (Links l) b.rest → Gets (Links l) i
  more_links l i o b d =
      record {
        word = o.token ∷ b.word ++ d.word;
        rest = d.rest;
        tree = _;
        reads = v.more_links o.is o.binds o.level b.reads d.reads;
        split = front o.token (b.word ++ d.word) i o.rest d.rest o.split (seq b.word d.word o.rest b.rest d.rest b.split d.split);
      }

  abbrev up : (l m : Level) (i : Word) → tighter l ≡ Some m → Gets (Chained m) i → Gets (Operand l) i
  up l m i e g = record { word = g.word; rest = g.rest; tree = g.tree; reads = v.operand e g.reads; split = g.split }

  abbrev tightest : (i : Word) → Gets Prefixed i → Gets (Operand level.Product) i
  tightest i g = record { word = g.word; rest = g.rest; tree = prefixed g.tree.0 g.tree.1; reads = v.tightest g.reads; split = g.split }

  abbrev no_prefix : (i : Word) → Gets Postfixed i → Gets Prefixed i
  no_prefix i g = record { word = g.word; rest = g.rest; tree = ([], g.tree); reads = v.no_prefix g.reads; split = g.split }

  record PrefixSign (i : Word) : Type 0 where
    token : Token
    sign : Sign
    prefix : Prefix
    rest : Word
    is : IsSign token sign
    stands : prefix_of c sign ≡ Some prefix
    split : i ≡ token ∷ rest

  abbrev prefix_by : (t : Token) (i : Word) (s : Sign) → IsSign t s → (o : Option Prefix) → prefix_of c s ≡ o → Option (PrefixSign (t ∷ i))
  prefix_by t i s e None h = None
  prefix_by t i s e (Some p) h = Some (record { token = t; sign = s; prefix = p; rest = i; is = e; stands = h; split = refl })

  abbrev prefix_at : (i : Word) → Option (PrefixSign i)
  prefix_at [] = None
  prefix_at (t ∷ i) = then (a_sign t.terminal) (λ s. prefix_by t i s.0 s.1 (prefix_of c s.0) refl)

  abbrev with_prefix : (i : Word) (p : PrefixSign i) (g : Gets Prefixed p.rest) → may_precede p.prefix (prefixed g.tree.0 g.tree.1) ≡ true → Gets Prefixed i
  with_prefix i p g h = record { word = p.token ∷ g.word; rest = g.rest; tree = _; reads = v.more_prefixes p.is p.stands g.reads h; split = front p.token g.word i p.rest g.rest p.split g.split }

  abbrev Closing : Word → Type 0
  Closing = Taken (Of (k.Sign sign.CloseParen))

  abbrev Opening : Word → Type 0
  Opening = Taken (Of (k.Sign sign.OpenParen))

  abbrev with_cast : (i : Word) (t : Opening i) (y : Got (ReadsType ns false) t.rest) (s : Closing y.rest) (g : Gets Prefixed s.rest) → is_object y.tree ≡ true → Gets Prefixed i
  with_cast i t y s g h =
      record {
        word = t.token ∷ y.word ++ s.token ∷ g.word;
        rest = g.rest;
        tree = _;
        reads = v.cast s.token t.is y.reads h s.is g.reads;
        split = front t.token (y.word ++ s.token ∷ g.word) i t.rest g.rest t.split (seq y.word (s.token ∷ g.word) t.rest y.rest g.rest y.split (front s.token g.word y.rest s.rest g.rest s.split g.split));
      }

  abbrev with_suffixes : (i : Word) (a : Gets Primary i) (xs : Gets Suffixes a.rest) → may_follow a.tree xs.tree ≡ true → Gets Postfixed i
  with_suffixes i a xs h = record { word = a.word ++ xs.word; rest = xs.rest; tree = suffixed a.tree xs.tree; reads = v.postfixed a.reads xs.reads h; split = seq a.word xs.word i a.rest xs.rest a.split xs.split }

  abbrev no_suffix : (i : Word) → Gets Suffixes i
  no_suffix i = record { word = []; rest = i; tree = []; reads = v.no_suffix; split = refl }

  abbrev with_field : (i : Word) (t : Taken (Of (k.Sign sign.Dot)) i) (n : Taken (Of k.Identifier) t.rest) → Gets Suffixes n.rest → c ≡ false → Gets Suffixes i
  with_field i t n xs h =
      record {
        word = t.token ∷ n.token ∷ xs.word;
        rest = xs.rest;
        tree = _;
        reads = v.field h t.is n.is xs.reads;
        split = front t.token (n.token ∷ xs.word) i t.rest xs.rest t.split (front n.token xs.word t.rest n.rest xs.rest n.split xs.split);
      }

  abbrev with_arrow : (i : Word) (t : Taken (Of (k.Sign sign.Arrow)) i) (n : Taken (Of k.Identifier) t.rest) → Gets Suffixes n.rest → c ≡ false → Gets Suffixes i
  with_arrow i t n xs h =
      record {
        word = t.token ∷ n.token ∷ xs.word;
        rest = xs.rest;
        tree = _;
        reads = v.arrow h t.is n.is xs.reads;
        split = front t.token (n.token ∷ xs.word) i t.rest xs.rest t.split (front n.token xs.word t.rest n.rest xs.rest n.split xs.split);
      }

  abbrev with_index : (i : Word) (t : Taken (Of (k.Sign sign.OpenBracket)) i) (a : Gets Value t.rest) (s : Taken (Of (k.Sign sign.CloseBracket)) a.rest) → Gets Suffixes s.rest → c ≡ false → Gets Suffixes i
  with_index i t a s xs h =
      record {
        word = t.token ∷ a.word ++ s.token ∷ xs.word;
        rest = xs.rest;
        tree = _;
        reads = v.index s.token h t.is a.reads s.is xs.reads;
        split = front t.token (a.word ++ s.token ∷ xs.word) i t.rest xs.rest t.split (seq a.word (s.token ∷ xs.word) t.rest a.rest xs.rest a.split (front s.token xs.word a.rest s.rest xs.rest s.split xs.split));
      }

  abbrev single : (t : Token) (i : Word) (a : Expr) → Reads ns c Primary (t ∷ []) a → Gets Primary (t ∷ i)
  single t i a h = record { word = t ∷ []; rest = i; tree = a; reads = h; split = refl }

  abbrev named_by : (t : Token) (i : Word) → IsName t → (r : Role) → role_of ns t.bytes ≡ r → Option (is_variable c r ≡ true) → Option (Gets Primary (t ∷ i))
  named_by t i e FunctionName h o = Some (single t i _ (v.function e h))
  named_by t i e MemberName h o = Some (single t i _ (v.member e h))
  named_by t i e r h None = None
  named_by t i e r h (Some q) = Some (single t i _ (v.variable e (ap (is_variable c) h ∙ q)))

  abbrev leaf_at : (i : Word) → Option (Gets Primary i)
  leaf_at [] = None
  leaf_at (t ∷ i) =
      or_else (then (a_number t.terminal) (λ e. Some (single t i _ (v.number e.2))))
      (or_else (then (a_character t.terminal) (λ e. Some (single t i _ (v.character e.1))))
      (or_else (then (is_text t.terminal) (λ e. Some (single t i _ (v.text e))))
      (or_else (then (a_constant t.terminal) (λ e. Some (single t i _ (v.constant_name e.1))))
      (then (name t.terminal) (λ e. named_by t i e (role_of ns t.bytes) refl (holds (is_variable c (role_of ns t.bytes))))))))

  abbrev with_size : (i : Word) (t : Taken (Of (k.Keyword keyword.Sizeof)) i) (r : Opening t.rest) (y : Got (ReadsType ns true) r.rest) (s : Closing y.rest) → is_object y.tree ≡ true → Gets Primary i
  with_size i t r y s h =
      record {
        word = t.token ∷ r.token ∷ y.word ++ s.token ∷ [];
        rest = s.rest;
        tree = _;
        reads = v.size_of s.token t.is r.is y.reads h s.is;
        split = front t.token (r.token ∷ y.word ++ s.token ∷ []) i t.rest s.rest t.split (front r.token (y.word ++ s.token ∷ []) t.rest r.rest s.rest r.split (seq y.word (s.token ∷ []) r.rest y.rest s.rest y.split s.split));
      }

  abbrev with_offset : (i : Word) (t : Taken (Of (k.Keyword keyword.StructOffset)) i) (r : Opening t.rest) (y : Got (ReadsType ns true) r.rest) (m : Taken (Of (k.Sign sign.Comma)) y.rest) (n : Taken (Of k.Identifier) m.rest) (s : Closing n.rest)
      → is_object y.tree ≡ true → Gets Primary i
  with_offset i t r y m n s h =
      record {
        word = t.token ∷ r.token ∷ y.word ++ m.token ∷ n.token ∷ s.token ∷ [];
        rest = s.rest;
        tree = _;
        reads = v.offset m.token n.token s.token t.is r.is y.reads h m.is n.is s.is;
        split = front t.token (r.token ∷ y.word ++ m.token ∷ n.token ∷ s.token ∷ []) i t.rest s.rest t.split
            (front r.token (y.word ++ m.token ∷ n.token ∷ s.token ∷ []) t.rest r.rest s.rest r.split
            (seq y.word (m.token ∷ n.token ∷ s.token ∷ []) r.rest y.rest s.rest y.split (front m.token (n.token ∷ s.token ∷ []) y.rest m.rest s.rest m.split (front n.token (s.token ∷ []) m.rest n.rest s.rest n.split s.split))));
      }

  abbrev offset_at : (i : Word) → Option (Gets Primary i)
  offset_at i = then (take_one offset_word i) (λ t. then (take_one open_paren t.rest) (λ r. then (type_at ns true r.rest) (λ y. then (take_one comma y.rest) (λ m. then (take_one name m.rest) (λ n. then (take_one close_paren n.rest) (λ s. then (holds (is_object y.tree)) (λ h. Some (with_offset i t r y m n s h))))))))

  abbrev with_brackets : (i : Word) (t : Opening i) (a : Gets Value t.rest) (s : Closing a.rest) → Gets Primary i
  with_brackets i t a s =
      record {
        word = t.token ∷ a.word ++ s.token ∷ [];
        rest = s.rest;
        tree = _;
        reads = v.brackets s.token t.is a.reads s.is;
        split = front t.token (a.word ++ s.token ∷ []) i t.rest s.rest t.split (seq a.word (s.token ∷ []) t.rest a.rest s.rest a.split s.split);
      }

  abbrev no_argument : (i : Word) → Gets Arguments i
  no_argument i = record { word = []; rest = i; tree = []; reads = v.no_argument; split = refl }

  abbrev first_argument : (i : Word) (a : Gets Value i) → Gets MoreArguments a.rest → Gets Arguments i
  first_argument i a b = record { word = a.word ++ b.word; rest = b.rest; tree = a.tree ∷ b.tree; reads = v.arguments a.reads b.reads; split = seq a.word b.word i a.rest b.rest a.split b.split }

  abbrev no_more : (i : Word) → Gets MoreArguments i
  no_more i = record { word = []; rest = i; tree = []; reads = v.no_more; split = refl }

  abbrev next_argument : (i : Word) (t : Taken (Of (k.Sign sign.Comma)) i) (a : Gets Value t.rest) → Gets MoreArguments a.rest → Gets MoreArguments i
  next_argument i t a b =
      record {
        word = t.token ∷ a.word ++ b.word;
        rest = b.rest;
        tree = a.tree ∷ b.tree;
        reads = v.more_arguments t.is a.reads b.reads;
        split = front t.token (a.word ++ b.word) i t.rest b.rest t.split (seq a.word b.word t.rest a.rest b.rest a.split b.split);
      }

  -- The number bounds how deep the calls go.
  abbrev mutual
    pub value : ℕ → (i : Word) → Option (Gets Value i)
    value zero i = None
    value (suc n) i = then (choosing n i) (λ g. Some (record { word = g.word; rest = g.rest; tree = conditional g.tree.0 g.tree.1; reads = v.value g.reads; split = g.split }))

    choosing : ℕ → (i : Word) → Option (Gets Choosing i)
    choosing zero i = None
    choosing (suc n) i =
        then (chain_at n level.Or i) (λ a. or_else
        (then (take_one question a.rest) (λ t. then (value n t.rest) (λ b. then (take_one colon b.rest) (λ s. then (choosing n s.rest) (λ e. Some (more_choices i a t b s e))))))
        (Some (last_choice i a)))

    chain_at : ℕ → (l : Level) (i : Word) → Option (Gets (Chained l) i)
    chain_at zero l i = None
    chain_at (suc n) l i = then (operand_at n l i) (λ a. then (links_at n l a.rest) (λ b. Some (chain l i a b)))

    links_at : ℕ → (l : Level) (i : Word) → Option (Gets (Links l) i)
    links_at zero l i = None
    links_at (suc n) l i = or_else (then (operator_at l i) (λ o. then (operand_at n l o.rest) (λ b. then (links_at n l b.rest) (λ d. Some (more_links l i o b d))))) (Some (no_link l i))

    operand_at : ℕ → (l : Level) (i : Word) → Option (Gets (Operand l) i)
    operand_at zero l i = None
    operand_at (suc n) level.Or i = then (chain_at n level.And i) (λ g. Some (up level.Or level.And i refl g))
    operand_at (suc n) level.And i = then (chain_at n level.BitOr i) (λ g. Some (up level.And level.BitOr i refl g))
    operand_at (suc n) level.BitOr i = then (chain_at n level.BitXor i) (λ g. Some (up level.BitOr level.BitXor i refl g))
    operand_at (suc n) level.BitXor i = then (chain_at n level.BitAnd i) (λ g. Some (up level.BitXor level.BitAnd i refl g))
    operand_at (suc n) level.BitAnd i = then (chain_at n level.Equality i) (λ g. Some (up level.BitAnd level.Equality i refl g))
    operand_at (suc n) level.Equality i = then (chain_at n level.Relation i) (λ g. Some (up level.Equality level.Relation i refl g))
    operand_at (suc n) level.Relation i = then (chain_at n level.Shift i) (λ g. Some (up level.Relation level.Shift i refl g))
    operand_at (suc n) level.Shift i = then (chain_at n level.Sum i) (λ g. Some (up level.Shift level.Sum i refl g))
    operand_at (suc n) level.Sum i = then (chain_at n level.Product i) (λ g. Some (up level.Sum level.Product i refl g))
    operand_at (suc n) level.Product i = then (prefixes n i) (λ g. Some (tightest i g))

    pub prefixes : ℕ → (i : Word) → Option (Gets Prefixed i)
    prefixes zero i = None
    prefixes (suc n) i =
        or_else (then (prefix_at i) (λ p. then (prefixes n p.rest) (λ g. then (holds (may_precede p.prefix (prefixed g.tree.0 g.tree.1))) (λ h. Some (with_prefix i p g h)))))
        (or_else (then (take_one open_paren i) (λ t. then (type_at ns false t.rest) (λ y. then (take_one close_paren y.rest) (λ s. then (prefixes n s.rest) (λ g. then (holds (is_object y.tree)) (λ h. Some (with_cast i t y s g h)))))))
        (then (postfixed_at n i) (λ g. Some (no_prefix i g))))

    pub postfixed_at : ℕ → (i : Word) → Option (Gets Postfixed i)
    postfixed_at zero i = None
    postfixed_at (suc n) i = then (primary_at n i) (λ a. then (suffixes_at n a.rest) (λ xs. then (holds (may_follow a.tree xs.tree)) (λ h. Some (with_suffixes i a xs h))))

    suffixes_at : ℕ → (i : Word) → Option (Gets Suffixes i)
    suffixes_at zero i = None
    suffixes_at (suc n) i =
        or_else (then (fails c) (λ h. or_else (then (take_one dot i) (λ t. then (take_one name t.rest) (λ x. then (suffixes_at n x.rest) (λ xs. Some (with_field i t x xs h)))))
        (or_else (then (take_one arrow i) (λ t. then (take_one name t.rest) (λ x. then (suffixes_at n x.rest) (λ xs. Some (with_arrow i t x xs h)))))
        (then (take_one open_bracket i) (λ t. then (value n t.rest) (λ a. then (take_one close_bracket a.rest) (λ s. then (suffixes_at n s.rest) (λ xs. Some (with_index i t a s xs h)))))))))
        (Some (no_suffix i))

    primary_at : ℕ → (i : Word) → Option (Gets Primary i)
    primary_at zero i = None
    primary_at (suc n) i =
        or_else (or_else (leaf_at i) (offset_at i))
        (or_else (then (take_one sizeof_word i) (λ t. then (take_one open_paren t.rest) (λ r. then (type_at ns true r.rest) (λ y. then (take_one close_paren y.rest) (λ s. then (holds (is_object y.tree)) (λ h. Some (with_size i t r y s h)))))))
        (then (take_one open_paren i) (λ t. then (value n t.rest) (λ a. then (take_one close_paren a.rest) (λ s. Some (with_brackets i t a s))))))

    pub arguments_at : ℕ → (i : Word) → Option (Gets Arguments i)
    arguments_at zero i = None
    arguments_at (suc n) i = or_else (then (value n i) (λ a. then (more_at n a.rest) (λ b. Some (first_argument i a b)))) (Some (no_argument i))

    pub more_at : ℕ → (i : Word) → Option (Gets MoreArguments i)
    more_at zero i = None
    more_at (suc n) i = or_else (then (take_one comma i) (λ t. then (value n t.rest) (λ a. then (more_at n a.rest) (λ b. Some (next_argument i t a b))))) (Some (no_more i))
