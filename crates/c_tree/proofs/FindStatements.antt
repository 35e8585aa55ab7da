-- The same for declarations, statements and blocks.
use Rattle.std.proofs.Common.{◌≡◌, refl, ℕ, zero, suc, true, false, [], ◌∷◌, ◌++◌, Option, Some, None}
use Rattle.c_lexer.specs.declared.token.TokenKind.TheVariants as k
use Rattle.c_lexer.specs.declared.token.Keyword.{Keyword}
use Rattle.c_lexer.specs.declared.token.Sign.{Sign}
use Rattle.c_lexer.specs.declared.token.Keyword.TheVariants as keyword
use Rattle.c_lexer.specs.declared.token.Sign.TheVariants as sign
use Rattle.c_tree.specs.declared.code.Local.{Local}
use Rattle.c_tree.specs.Words.{Of, Token, Word}
use Rattle.c_tree.specs.Names.{Names, Role, RowName, role_of, with_local, with_locals}
use Rattle.c_tree.specs.Types.{ReadsType, is_object}
use Rattle.c_tree.specs.Values.{Reads, Value, Operand, Postfixed, Arguments, MoreArguments, Prefixed, is_place}
use Rattle.c_tree.specs.Values as v
use Rattle.c_tree.specs.Make.{prefixed}
use Rattle.c_tree.specs.Statements as s
use Rattle.c_tree.specs.Statements.{ReadsLocal, ReadsLocals, ReadsNumber, ReadsCall, ReadsPlace, ReadsGoto, ReadsCases, ReadsStmt, ReadsStmts, ReadsBlock}
use Rattle.c_tree.proofs.Tests.{Taken, Got, take_one, then, or_else, holds, seq, front, name, a_number, colon, assign, semicolon, open_paren, close_paren, open_brace, close_brace, minus, if_word, else_word, goto_word, return_word, switch_word, case_word, default_word}
use Rattle.c_tree.proofs.FindValues.{type_at, value, prefixes, postfixed_at, arguments_at, more_at}

abbrev pub Signs : Word → Sign → Type 0
Signs i x = Taken (Of (k.Sign x)) i

abbrev pub Says : Word → Keyword → Type 0
Says i x = Taken (Of (k.Keyword x)) i

abbrev pub Named : Word → Type 0
Named = Taken (Of k.Identifier)

-- 1. Parts

abbrev plain_number : (t : Token) (i : Word) → Option (Got ReadsNumber (t ∷ i))
plain_number t i = then (a_number t.terminal) (λ e. Some (record { word = t ∷ []; rest = i; tree = _; reads = s.number_is e.2; split = refl }))

abbrev negative_number : (i : Word) (m : Signs i sign.Minus) → (j : Word) → m.rest ≡ j → Option (Got ReadsNumber i)
negative_number i m [] h = None
negative_number i m (t ∷ j) h = then (a_number t.terminal) (λ e. Some (record { word = m.token ∷ t ∷ []; rest = j; tree = _; reads = s.negative_is m.is e.2; split = front m.token (t ∷ []) i m.rest j m.split h }))

abbrev pub number_at : (i : Word) → Option (Got ReadsNumber i)
number_at [] = None
number_at (t ∷ i) = or_else (plain_number t i) (then (take_one minus (t ∷ i)) (λ m. negative_number (t ∷ i) m m.rest refl))

module _ (ns : Names) where
  abbrev local_of : (i : Word) (y : Got (ReadsType ns true) i) (n : Named y.rest) (e : Signs n.rest sign.Semicolon) → is_object y.tree ≡ true → Got (ReadsLocal ns) i
  local_of i y n e h =
      record {
        word = y.word ++ n.token ∷ e.token ∷ [];
        rest = e.rest;
        tree = _;
        reads = s.local_is n.token e.token y.reads h n.is e.is;
        split = seq y.word (n.token ∷ e.token ∷ []) i y.rest e.rest y.split (front n.token (e.token ∷ []) y.rest n.rest e.rest n.split e.split);
      }

  abbrev pub local_at : (i : Word) → Option (Got (ReadsLocal ns) i)
  local_at i = then (type_at ns true i) (λ y. then (take_one name y.rest) (λ n. then (take_one semicolon n.rest) (λ e. then (holds (is_object y.tree)) (λ h. Some (local_of i y n e h)))))

  abbrev value_call : (i : Word) (a : Got (Reads ns false Postfixed) i) (t : Signs a.rest sign.OpenParen) (xs : Got (Reads ns false Arguments) t.rest) (r : Signs xs.rest sign.CloseParen) → Got (ReadsCall ns) i
  value_call i a t xs r =
      record {
        word = a.word ++ t.token ∷ xs.word ++ r.token ∷ [];
        rest = r.rest;
        tree = _;
        reads = s.call_value t.token r.token a.reads t.is xs.reads r.is;
        split = seq (a.word ++ t.token ∷ xs.word) (r.token ∷ []) i xs.rest r.rest (seq a.word (t.token ∷ xs.word) i a.rest xs.rest a.split (front t.token xs.word a.rest t.rest xs.rest t.split xs.split)) r.split;
      }

  abbrev row_call : (i : Word) (n : Named i) (t : Signs n.rest sign.OpenParen) (xs : Got (Reads ns false Arguments) t.rest) (r : Signs xs.rest sign.CloseParen) → role_of ns n.token.bytes ≡ RowName false → Got (ReadsCall ns) i
  row_call i n t xs r h =
      record {
        word = n.token ∷ t.token ∷ xs.word ++ r.token ∷ [];
        rest = r.rest;
        tree = _;
        reads = s.call_row r.token n.is h t.is xs.reads r.is;
        split = front n.token (t.token ∷ xs.word ++ r.token ∷ []) i n.rest r.rest n.split (front t.token (xs.word ++ r.token ∷ []) n.rest t.rest r.rest t.split (seq xs.word (r.token ∷ []) t.rest xs.rest r.rest xs.split r.split));
      }

  abbrev type_row_call : (i : Word) (n : Named i) (t : Signs n.rest sign.OpenParen) (y : Got (ReadsType ns true) t.rest) (xs : Got (Reads ns false MoreArguments) y.rest) (r : Signs xs.rest sign.CloseParen) → role_of ns n.token.bytes ≡ RowName true → is_object y.tree ≡ true → Got (ReadsCall ns) i
  type_row_call i n t y xs r h o =
      record {
        word = n.token ∷ t.token ∷ y.word ++ xs.word ++ r.token ∷ [];
        rest = r.rest;
        tree = _;
        reads = s.call_type_row r.token n.is h t.is y.reads o xs.reads r.is;
        split = front n.token (t.token ∷ y.word ++ xs.word ++ r.token ∷ []) i n.rest r.rest n.split (front t.token (y.word ++ xs.word ++ r.token ∷ []) n.rest t.rest r.rest t.split (seq (y.word ++ xs.word) (r.token ∷ []) t.rest xs.rest r.rest (seq y.word xs.word t.rest y.rest xs.rest y.split xs.split) r.split));
      }

  abbrev type_row : (r : Role) → Option (r ≡ RowName true)
  type_row (RowName true) = Some refl
  type_row r = None

  -- a call of a function that takes a type first
  abbrev type_call_at : ℕ → (i : Word) (n : Named i) → Option (Got (ReadsCall ns) i)
  type_call_at f i n =
      then (type_row (role_of ns n.token.bytes)) (λ h. then (take_one open_paren n.rest) (λ t. then (type_at ns true t.rest) (λ y. then (holds (is_object y.tree)) (λ o. then (more_at ns false f y.rest) (λ xs. then (take_one close_paren xs.rest) (λ r. Some (type_row_call i n t y xs r h o)))))))

  abbrev plain_row : (r : Role) → Option (r ≡ RowName false)
  plain_row (RowName false) = Some refl
  plain_row r = None

  abbrev pub call_at : ℕ → (i : Word) → Option (Got (ReadsCall ns) i)
  call_at f i =
      or_else (then (take_one name i) (λ n. then (plain_row (role_of ns n.token.bytes)) (λ h. then (take_one open_paren n.rest) (λ t. then (arguments_at ns false f t.rest) (λ xs. then (take_one close_paren xs.rest) (λ r. Some (row_call i n t xs r h)))))))
      (or_else (then (take_one name i) (type_call_at f i)) (then (postfixed_at ns false f i) (λ a. then (take_one open_paren a.rest) (λ t. then (arguments_at ns false f t.rest) (λ xs. then (take_one close_paren xs.rest) (λ r. Some (value_call i a t xs r)))))))

  abbrev pub place_at : ℕ → (i : Word) → Option (Got (ReadsPlace ns) i)
  place_at f i =
      then (prefixes ns false f i) (λ g. then (holds (is_place (prefixed g.tree.0 g.tree.1))) (λ h. Some (record { word = g.word; rest = g.rest; tree = prefixed g.tree.0 g.tree.1; reads = s.place_is (v.tightest g.reads) h; split = g.split })))

record Goto (i : Word) : Type 0 where
  word : Word
  token : Token
  rest : Word
  reads : ReadsGoto word token
  split : i ≡ word ++ rest

abbrev goto_at : (i : Word) → Option (Goto i)
goto_at i =
    then (take_one goto_word i) (λ t. then (take_one name t.rest) (λ n. then (take_one semicolon n.rest) (λ e.
    Some (record {
      word = t.token ∷ n.token ∷ e.token ∷ [];
      token = n.token;
      rest = e.rest;
      reads = s.goto_is t.is n.is e.is;
      split = front t.token (n.token ∷ e.token ∷ []) i t.rest e.rest t.split (front n.token (e.token ∷ []) t.rest n.rest e.rest n.split e.split);
    }))))

abbrev no_case : (i : Word) → Got ReadsCases i
no_case i = record { word = []; rest = i; tree = []; reads = s.no_case; split = refl }

abbrev more_cases : (i : Word) (t : Says i keyword.Case) (x : Got ReadsNumber t.rest) (c : Signs x.rest sign.Colon) (g : Goto c.rest) → Got ReadsCases g.rest → Got ReadsCases i
more_cases i t x c g cs =
    record {
      word = t.token ∷ x.word ++ c.token ∷ g.word ++ cs.word;
      rest = cs.rest;
      tree = _;
      reads = s.more_cases c.token g.token t.is x.reads c.is g.reads cs.reads;
      split = front t.token (x.word ++ c.token ∷ g.word ++ cs.word) i t.rest cs.rest t.split (seq (x.word ++ c.token ∷ g.word) cs.word t.rest g.rest cs.rest (seq x.word (c.token ∷ g.word) t.rest x.rest g.rest x.split (front c.token g.word x.rest c.rest g.rest c.split g.split)) cs.split);
    }

abbrev pub cases_at : ℕ → (i : Word) → Got ReadsCases i
cases_at zero i = no_case i
cases_at (suc n) i = by_case (then (take_one case_word i) (λ t. then (number_at t.rest) (λ x. then (take_one colon x.rest) (λ c. then (goto_at c.rest) (λ g. Some (more_cases i t x c g (cases_at n g.rest)))))))
  where
    by_case : Option (Got ReadsCases i) → Got ReadsCases i
    by_case None = no_case i
    by_case (Some g) = g

-- 2. Statements

module _ (ns : Names) where
  abbrev Stmts : Word → Type 0
  Stmts i = Got (ReadsStmt ns) i

  abbrev assigns : (i : Word) (a : Got (ReadsPlace ns) i) (t : Signs a.rest sign.Assign) (b : Got (Reads ns false Value) t.rest) (e : Signs b.rest sign.Semicolon) → Stmts i
  assigns i a t b e =
      record {
        word = a.word ++ t.token ∷ b.word ++ e.token ∷ [];
        rest = e.rest;
        tree = _;
        reads = s.assigns t.token e.token a.reads t.is b.reads e.is;
        split = seq (a.word ++ t.token ∷ b.word) (e.token ∷ []) i b.rest e.rest (seq a.word (t.token ∷ b.word) i a.rest b.rest a.split (front t.token b.word a.rest t.rest b.rest t.split b.split)) e.split;
      }

  abbrev stores : (i : Word) (a : Got (ReadsPlace ns) i) (t : Signs a.rest sign.Assign) (b : Got (ReadsCall ns) t.rest) (e : Signs b.rest sign.Semicolon) → Stmts i
  stores i a t b e =
      record {
        word = a.word ++ t.token ∷ b.word ++ e.token ∷ [];
        rest = e.rest;
        tree = _;
        reads = s.stores t.token e.token a.reads t.is b.reads e.is;
        split = seq (a.word ++ t.token ∷ b.word) (e.token ∷ []) i b.rest e.rest (seq a.word (t.token ∷ b.word) i a.rest b.rest a.split (front t.token b.word a.rest t.rest b.rest t.split b.split)) e.split;
      }

  abbrev calls : (i : Word) (b : Got (ReadsCall ns) i) (e : Signs b.rest sign.Semicolon) → Stmts i
  calls i b e = record { word = b.word ++ e.token ∷ []; rest = e.rest; tree = _; reads = s.calls e.token b.reads e.is; split = seq b.word (e.token ∷ []) i b.rest e.rest b.split e.split }

  abbrev labels : (i : Word) (n : Named i) (c : Signs n.rest sign.Colon) (e : Signs c.rest sign.Semicolon) → Stmts i
  labels i n c e =
      record {
        word = n.token ∷ c.token ∷ e.token ∷ [];
        rest = e.rest;
        tree = _;
        reads = s.labels n.is c.is e.is;
        split = front n.token (c.token ∷ e.token ∷ []) i n.rest e.rest n.split (front c.token (e.token ∷ []) n.rest c.rest e.rest c.split e.split);
      }

  abbrev goes : (i : Word) → Goto i → Stmts i
  goes i g = record { word = g.word; rest = g.rest; tree = _; reads = s.goes g.token g.reads; split = g.split }

  abbrev returns : (i : Word) (t : Says i keyword.Return) (e : Signs t.rest sign.Semicolon) → Stmts i
  returns i t e = record { word = t.token ∷ e.token ∷ []; rest = e.rest; tree = _; reads = s.returns t.is e.is; split = front t.token (e.token ∷ []) i t.rest e.rest t.split e.split }

  abbrev returns_value : (i : Word) (t : Says i keyword.Return) (a : Got (Reads ns false Value) t.rest) (e : Signs a.rest sign.Semicolon) → Stmts i
  returns_value i t a e =
      record {
        word = t.token ∷ a.word ++ e.token ∷ [];
        rest = e.rest;
        tree = _;
        reads = s.returns_value e.token t.is a.reads e.is;
        split = front t.token (a.word ++ e.token ∷ []) i t.rest e.rest t.split (seq a.word (e.token ∷ []) t.rest a.rest e.rest a.split e.split);
      }

  record Condition (i : Word) : Type 0 where
    first : Says i keyword.If
    opening : Signs first.rest sign.OpenParen
    test : Got (Reads ns false Value) opening.rest
    closing : Signs test.rest sign.CloseParen

  abbrev condition_word : (i : Word) → Condition i → Word → Word
  condition_word i c w = c.first.token ∷ c.opening.token ∷ c.test.word ++ c.closing.token ∷ w

  abbrev condition_split : (i : Word) (c : Condition i) (w l : Word) → c.closing.rest ≡ w ++ l → i ≡ condition_word i c w ++ l
  condition_split i c w l q =
      front c.first.token (c.opening.token ∷ c.test.word ++ c.closing.token ∷ w) i c.first.rest l c.first.split
      (front c.opening.token (c.test.word ++ c.closing.token ∷ w) c.first.rest c.opening.rest l c.opening.split
      (seq c.test.word (c.closing.token ∷ w) c.opening.rest c.test.rest l c.test.split (front c.closing.token w c.test.rest c.closing.rest l c.closing.split q)))

  abbrev condition_at : ℕ → (i : Word) → Option (Condition i)
  condition_at f i =
      then (take_one if_word i) (λ x. then (take_one open_paren x.rest) (λ t. then (value ns false f t.rest) (λ a. then (take_one close_paren a.rest) (λ r. Some (record { first = x; opening = t; test = a; closing = r })))))

  abbrev if_goto : (i : Word) (c : Condition i) → Goto c.closing.rest → Stmts i
  if_goto i c g = record { word = condition_word i c g.word; rest = g.rest; tree = _; reads = s.if_goto c.closing.token g.token c.first.is c.opening.is c.test.reads c.closing.is g.reads; split = condition_split i c g.word g.rest g.split }

  abbrev if_block : (i : Word) (c : Condition i) → Got (ReadsBlock ns) c.closing.rest → Stmts i
  if_block i c b = record { word = condition_word i c b.word; rest = b.rest; tree = _; reads = s.if_block c.closing.token c.first.is c.opening.is c.test.reads c.closing.is b.reads; split = condition_split i c b.word b.rest b.split }

  abbrev if_else : (i : Word) (c : Condition i) (b : Got (ReadsBlock ns) c.closing.rest) (l : Says b.rest keyword.Else) → Got (ReadsBlock ns) l.rest → Stmts i
  if_else i c b l d =
      record {
        word = condition_word i c b.word ++ l.token ∷ d.word;
        rest = d.rest;
        tree = _;
        reads = s.if_else c.closing.token l.token c.first.is c.opening.is c.test.reads c.closing.is b.reads l.is d.reads;
        split = seq (condition_word i c b.word) (l.token ∷ d.word) i b.rest d.rest (condition_split i c b.word b.rest b.split) (front l.token d.word b.rest l.rest d.rest l.split d.split);
      }

  abbrev blocks : (i : Word) → Got (ReadsBlock ns) i → Stmts i
  blocks i b = record { word = b.word; rest = b.rest; tree = _; reads = s.blocks b.reads; split = b.split }

  abbrev switches : (i : Word) (x : Says i keyword.Switch) (t : Signs x.rest sign.OpenParen) (a : Got (Reads ns false Value) t.rest) (r : Signs a.rest sign.CloseParen) (l : Signs r.rest sign.OpenBrace) (cs : Got ReadsCases l.rest)
      (d : Says cs.rest keyword.Default) (c : Signs d.rest sign.Colon) (g : Goto c.rest) (e : Signs g.rest sign.CloseBrace) → Stmts i
  switches i x t a r l cs d c g e =
      record {
        word = x.token ∷ t.token ∷ a.word ++ r.token ∷ l.token ∷ cs.word ++ d.token ∷ c.token ∷ g.word ++ e.token ∷ [];
        rest = e.rest;
        tree = _;
        reads = s.switches r.token l.token d.token c.token e.token g.token x.is t.is a.reads r.is l.is cs.reads d.is c.is g.reads e.is;
        split = front x.token (t.token ∷ a.word ++ r.token ∷ l.token ∷ cs.word ++ d.token ∷ c.token ∷ g.word ++ e.token ∷ []) i x.rest e.rest x.split
            (front t.token (a.word ++ r.token ∷ l.token ∷ cs.word ++ d.token ∷ c.token ∷ g.word ++ e.token ∷ []) x.rest t.rest e.rest t.split
            (seq (a.word ++ r.token ∷ l.token ∷ cs.word ++ d.token ∷ c.token ∷ g.word) (e.token ∷ []) t.rest g.rest e.rest
            (seq (a.word ++ r.token ∷ l.token ∷ cs.word) (d.token ∷ c.token ∷ g.word) t.rest cs.rest g.rest
            (seq a.word (r.token ∷ l.token ∷ cs.word) t.rest a.rest cs.rest a.split (front r.token (l.token ∷ cs.word) a.rest r.rest cs.rest r.split (front l.token cs.word r.rest l.rest cs.rest l.split cs.split)))
            (front d.token (c.token ∷ g.word) cs.rest d.rest g.rest d.split (front c.token g.word d.rest c.rest g.rest c.split g.split))) e.split));
      }

  abbrev switch_at : ℕ → (i : Word) → Option (Stmts i)
  switch_at f i = then (take_one switch_word i) (λ x. then (take_one open_paren x.rest) (λ t. then (value ns false f t.rest) (λ a. then (take_one close_paren a.rest) (λ r. then (take_one open_brace r.rest) (λ l. then (take_one default_word (cases_at f l.rest).rest) (λ d. then (take_one colon d.rest) (λ c. then (goto_at c.rest) (λ g. then (take_one close_brace g.rest) (λ e. Some (switches i x t a r l (cases_at f l.rest) d c g e))))))))))

  abbrev simple_at : ℕ → (i : Word) → Option (Stmts i)
  simple_at f i =
      or_else (then (take_one return_word i) (λ t. or_else (then (take_one semicolon t.rest) (λ e. Some (returns i t e))) (then (value ns false f t.rest) (λ a. then (take_one semicolon a.rest) (λ e. Some (returns_value i t a e))))))
      (or_else (switch_at f i) (or_else (then (goto_at i) (λ g. Some (goes i g)))
      (or_else (then (take_one name i) (λ n. then (take_one colon n.rest) (λ c. then (take_one semicolon c.rest) (λ e. Some (labels i n c e)))))
      (or_else (then (call_at ns f i) (λ b. then (take_one semicolon b.rest) (λ e. Some (calls i b e))))
      (then (place_at ns f i) (λ a. then (take_one assign a.rest) (λ t. or_else
      (then (call_at ns f t.rest) (λ b. then (take_one semicolon b.rest) (λ e. Some (stores i a t b e))))
      (then (value ns false f t.rest) (λ b. then (take_one semicolon b.rest) (λ e. Some (assigns i a t b e)))))))))))

abbrev pub locals_at : ℕ → (ns : Names) (i : Word) → Got (ReadsLocals ns) i
locals_at zero ns i = record { word = []; rest = i; tree = []; reads = s.no_local; split = refl }
locals_at (suc n) ns i = by_local (local_at ns i) (λ l r. locals_at n (with_local ns l) r)
  where
    by_local : Option (Got (ReadsLocal ns) i) → ((l : Local) (r : Word) → Got (ReadsLocals (with_local ns l)) r) → Got (ReadsLocals ns) i
    by_local None further = record { word = []; rest = i; tree = []; reads = s.no_local; split = refl }
    by_local (Some l) further = let ls = further l.tree l.rest in
        record { word = l.word ++ ls.word; rest = ls.rest; tree = l.tree ∷ ls.tree; reads = s.more_locals l.reads ls.reads; split = seq l.word ls.word i l.rest ls.rest l.split ls.split }

abbrev block_of : (ns : Names) (i : Word) (t : Signs i sign.OpenBrace) (ls : Got (ReadsLocals ns) t.rest) (ss : Got (ReadsStmts (with_locals ns ls.tree)) ls.rest) (r : Signs ss.rest sign.CloseBrace) → Got (ReadsBlock ns) i
block_of ns i t ls ss r =
    record {
      word = t.token ∷ ls.word ++ ss.word ++ r.token ∷ [];
      rest = r.rest;
      tree = _;
      reads = s.block_is r.token t.is ls.reads ss.reads r.is;
      split = front t.token (ls.word ++ ss.word ++ r.token ∷ []) i t.rest r.rest t.split (seq (ls.word ++ ss.word) (r.token ∷ []) t.rest ss.rest r.rest (seq ls.word ss.word t.rest ls.rest ss.rest ls.split ss.split) r.split);
    }

abbrev no_stmt : (ns : Names) (i : Word) → Got (ReadsStmts ns) i
no_stmt ns i = record { word = []; rest = i; tree = []; reads = s.no_stmt; split = refl }

abbrev more_stmts : (ns : Names) (i : Word) (a : Got (ReadsStmt ns) i) → Got (ReadsStmts ns) a.rest → Got (ReadsStmts ns) i
more_stmts ns i a b = record { word = a.word ++ b.word; rest = b.rest; tree = a.tree ∷ b.tree; reads = s.more_stmts a.reads b.reads; split = seq a.word b.word i a.rest b.rest a.split b.split }

abbrev mutual
  stmt_at : ℕ → (ns : Names) (i : Word) → Option (Got (ReadsStmt ns) i)
  stmt_at zero ns i = None
  stmt_at (suc n) ns i =
      or_else (then (condition_at ns n i) (λ c. or_else
      (then (goto_at c.closing.rest) (λ g. Some (if_goto ns i c g)))
      (then (block_at n ns c.closing.rest) (λ b. or_else (then (take_one else_word b.rest) (λ l. then (block_at n ns l.rest) (λ d. Some (if_else ns i c b l d)))) (Some (if_block ns i c b))))))
      (or_else (then (block_at n ns i) (λ b. Some (blocks ns i b))) (simple_at ns n i))

  stmts_at : ℕ → (ns : Names) (i : Word) → Option (Got (ReadsStmts ns) i)
  stmts_at zero ns i = None
  stmts_at (suc n) ns i = or_else (then (stmt_at n ns i) (λ a. then (stmts_at n ns a.rest) (λ b. Some (more_stmts ns i a b)))) (Some (no_stmt ns i))

  pub block_at : ℕ → (ns : Names) (i : Word) → Option (Got (ReadsBlock ns) i)
  block_at zero ns i = None
  block_at (suc n) ns i =
      then (take_one open_brace i) (λ t. then (stmts_at n (with_locals ns (locals_at n ns t.rest).tree) (locals_at n ns t.rest).rest) (λ ss. then (take_one close_brace ss.rest) (λ r. Some (block_of ns i t (locals_at n ns t.rest) ss r))))
