-- The same for items and units, and what bytes answer, with its reason.
use Rattle.std.proofs.Common.{◌≡◌, ◌∙◌, refl, sym, ap, subst, ℕ, zero, suc, ◌≤◌, ◌==◌, Bool, true, false, List, [], ◌∷◌, ◌++◌, length, Option, Some, None, Result, Ok, Err, codes, arith}
use Rattle.std.specs.List.{list_all}
use Rattle.c_lexer.specs.declared.token.TokenKind.TheVariants as k
use Rattle.c_lexer.specs.declared.token.Constant.TheVariants as constant
use Rattle.c_lexer.specs.declared.token.Keyword.TheVariants as keyword
use Rattle.c_lexer.specs.declared.token.Sign.TheVariants as sign
use Rattle.c_lexer.specs.declared.token.BadToken.{BadToken}
use Rattle.c_lexer.specs.Tokens.{Lexeme, Left, Tokens, all_of, behind, next_of}
use Rattle.c_lexer.specs.Tokens as lexed
use Rattle.c_tree.specs.declared.names.CType.{CType}
use Rattle.c_tree.specs.declared.unit.Item.{Item}
use Rattle.c_tree.specs.declared.unit.Item.TheVariants as item
use Rattle.c_tree.specs.declared.unit.Include.{Include}
use Rattle.c_tree.specs.declared.unit.Parameter.{Parameter}
use Rattle.c_tree.specs.declared.unit.Signature.{Signature}
use Rattle.c_tree.specs.declared.unit.Unit.{Unit as CUnit}
use Rattle.c_tree.specs.declared.kinds.Fault.{Fault}
use Rattle.c_tree.specs.declared.kinds.Refusal.{Refusal}
use Rattle.c_tree.specs.Words.{Of, Header, Token, Word, extent, words, is_shallow}
use Rattle.c_tree.specs.Names.{Names, with_parameters, with_item, main_fits, library_names, declared, FunctionName}
use Rattle.c_tree.specs.Types.{ReadsType, is_object}
use Rattle.c_tree.specs.Values.{Reads, Value}
use Rattle.c_tree.specs.Make.{name_at}
use Rattle.c_tree.specs.Statements.{ReadsLocal, ReadsBlock}
use Rattle.c_tree.specs.Items as s
use Rattle.c_tree.specs.Items.{ReadsMember, ReadsMoreMembers, ReadsFields, ReadsParameter, ReadsMoreParameters, ReadsParameters, ReadsStatic, ReadsSignature, ReadsItem, ReadsItems, ReadsUnit, has_name, ends_line}
use Rattle.c_tree.specs.Unit.{Bodies, items_faults, unit_faults, has_main}
use Rattle.c_tree.specs.Rules.{Checker, checked_block}
use Rattle.c_tree.specs.Env.{library}
use Rattle.c_tree.proofs.Peel.{peeled, checked_peeled, peeled_block, block_peeled}
use Rattle.c_tree.specs.Answers.{Answers, Says, Whole, without_main, first_of}
use Rattle.c_tree.specs.Answers as a
use Rattle.c_tree.proofs.Tests.{Taken, Got, take_one, then, or_else, holds, fails, seq, front, name, a_header, comma, assign, semicolon, star, hash, open_paren, close_paren, open_brace, close_brace, void_word, static_word, typedef_word, struct_word, enum_word, Tests, const_word}
use Rattle.c_tree.proofs.FindValues.{type_at, value}
use Rattle.c_tree.proofs.FindStatements.{Signs, Says as Keywords, Named, number_at, local_at, block_at}

-- whether a word is spelled so
abbrev same_bytes : (a b : List ℕ) → Option (a ≡ b)
same_bytes [] [] = Some refl
same_bytes (x ∷ xs) (y ∷ ys) = by_head (x == y) refl (same_bytes xs ys)
  where
    by_head : (b : Bool) → (x == y) ≡ b → Option (xs ≡ ys) → Option (x ∷ xs ≡ y ∷ ys)
    by_head true e (Some h) = Some (both (same_number x y e) h)
      where
        both : x ≡ y → xs ≡ ys → x ∷ xs ≡ y ∷ ys
        both p q = ap (λ z. z ∷ xs) p ∙ ap (λ z. y ∷ z) q

        same_number : (n m : ℕ) → (n == m) ≡ true → n ≡ m
        same_number n m e = grind arith
    by_head b e o = None
same_bytes xs ys = None

-- 1. Parts of items

abbrev member_at : (i : Word) → Option (Got ReadsMember i)
member_at i =
    then (take_one name i) (λ n. then (take_one assign n.rest) (λ e. then (number_at e.rest) (λ x.
    Some (record { word = n.token ∷ e.token ∷ x.word; rest = x.rest; tree = _; reads = s.member_is n.is e.is x.reads; split = front n.token (e.token ∷ x.word) i n.rest x.rest n.split (front e.token x.word n.rest e.rest x.rest e.split x.split) }))))

abbrev members_at : ℕ → (i : Word) → Got ReadsMoreMembers i
members_at zero i = record { word = []; rest = i; tree = []; reads = s.no_member; split = refl }
members_at (suc f) i = by_comma (then (take_one comma i) (λ t. then (member_at t.rest) (λ m. Some (more i t m (members_at f m.rest)))))
  where
    more : (i : Word) (t : Signs i sign.Comma) (m : Got ReadsMember t.rest) → Got ReadsMoreMembers m.rest → Got ReadsMoreMembers i
    more i t m ms =
        record {
          word = t.token ∷ m.word ++ ms.word;
          rest = ms.rest;
          tree = _;
          reads = s.more_members t.is m.reads ms.reads;
          split = front t.token (m.word ++ ms.word) i t.rest ms.rest t.split (seq m.word ms.word t.rest m.rest ms.rest m.split ms.split);
        }

    by_comma : Option (Got ReadsMoreMembers i) → Got ReadsMoreMembers i
    by_comma None = record { word = []; rest = i; tree = []; reads = s.no_member; split = refl }
    by_comma (Some g) = g

module _ (ns : Names) where
  abbrev fields_at : ℕ → (i : Word) → Got (ReadsFields ns) i
  fields_at zero i = record { word = []; rest = i; tree = []; reads = s.no_field; split = refl }
  fields_at (suc f) i = by_field (then (local_at ns i) (λ l. Some (more i l (fields_at f l.rest))))
    where
      more : (i : Word) (l : Got (ReadsLocal ns) i) → Got (ReadsFields ns) l.rest → Got (ReadsFields ns) i
      more i l ls = record { word = l.word ++ ls.word; rest = ls.rest; tree = _; reads = s.more_fields l.reads ls.reads; split = seq l.word ls.word i l.rest ls.rest l.split ls.split }

      by_field : Option (Got (ReadsFields ns) i) → Got (ReadsFields ns) i
      by_field None = record { word = []; rest = i; tree = []; reads = s.no_field; split = refl }
      by_field (Some g) = g

  abbrev parameter_at : (i : Word) → Option (Got (ReadsParameter ns) i)
  parameter_at i = then (type_at ns true i) (λ y. then (holds (is_object y.tree)) (λ h. or_else
      (then (take_one name y.rest) (λ n. Some (record { word = y.word ++ n.token ∷ []; rest = n.rest; tree = _; reads = s.named n.token y.reads h n.is; split = seq y.word (n.token ∷ []) i y.rest n.rest y.split n.split })))
      (Some (record { word = y.word; rest = y.rest; tree = _; reads = s.unnamed y.reads h; split = y.split }))))

  abbrev parameters_at : ℕ → (i : Word) → Got (ReadsMoreParameters ns) i
  parameters_at zero i = record { word = []; rest = i; tree = []; reads = s.no_parameter; split = refl }
  parameters_at (suc f) i = by_comma (then (take_one comma i) (λ t. then (parameter_at t.rest) (λ p. Some (more i t p (parameters_at f p.rest)))))
    where
      more : (i : Word) (t : Signs i sign.Comma) (p : Got (ReadsParameter ns) t.rest) → Got (ReadsMoreParameters ns) p.rest → Got (ReadsMoreParameters ns) i
      more i t p ps =
          record {
            word = t.token ∷ p.word ++ ps.word;
            rest = ps.rest;
            tree = _;
            reads = s.more_parameters t.is p.reads ps.reads;
            split = front t.token (p.word ++ ps.word) i t.rest ps.rest t.split (seq p.word ps.word t.rest p.rest ps.rest p.split ps.split);
          }

      by_comma : Option (Got (ReadsMoreParameters ns) i) → Got (ReadsMoreParameters ns) i
      by_comma None = record { word = []; rest = i; tree = []; reads = s.no_parameter; split = refl }
      by_comma (Some g) = g

  abbrev none_taken : (i : Word) (t : Signs i sign.OpenParen) (x : Keywords t.rest keyword.Void) (r : Signs x.rest sign.CloseParen) → Got (ReadsParameters ns) i
  none_taken i t x r =
      record {
        word = t.token ∷ x.token ∷ r.token ∷ [];
        rest = r.rest;
        tree = [];
        reads = s.none_taken t.is x.is r.is;
        split = front t.token (x.token ∷ r.token ∷ []) i t.rest r.rest t.split (front x.token (r.token ∷ []) t.rest x.rest r.rest x.split r.split);
      }

  abbrev some_taken : (i : Word) (t : Signs i sign.OpenParen) (p : Got (ReadsParameter ns) t.rest) (ps : Got (ReadsMoreParameters ns) p.rest) (r : Signs ps.rest sign.CloseParen) → Got (ReadsParameters ns) i
  some_taken i t p ps r =
      record {
        word = t.token ∷ p.word ++ ps.word ++ r.token ∷ [];
        rest = r.rest;
        tree = _;
        reads = s.some_taken r.token t.is p.reads ps.reads r.is;
        split = front t.token (p.word ++ ps.word ++ r.token ∷ []) i t.rest r.rest t.split (seq (p.word ++ ps.word) (r.token ∷ []) t.rest ps.rest r.rest (seq p.word ps.word t.rest p.rest ps.rest p.split ps.split) r.split);
      }

  abbrev taken_at : ℕ → (i : Word) → Option (Got (ReadsParameters ns) i)
  taken_at f i = then (take_one open_paren i) (λ t. or_else
      (then (take_one void_word t.rest) (λ x. then (take_one close_paren x.rest) (λ r. Some (none_taken i t x r))))
      (then (parameter_at t.rest) (λ p. then (take_one close_paren (parameters_at f p.rest).rest) (λ r. Some (some_taken i t p (parameters_at f p.rest) r)))))

  abbrev static_at : (i : Word) → Got ReadsStatic i
  static_at i = by_word (take_one static_word i)
    where
      by_word : Option (Keywords i keyword.Static) → Got ReadsStatic i
      by_word None = record { word = []; rest = i; tree = false; reads = s.not_static; split = refl }
      by_word (Some t) = record { word = t.token ∷ []; rest = t.rest; tree = true; reads = s.is_static t.is; split = t.split }

  abbrev signature : Bool → CType → Token → List Parameter → Word → Signature
  signature b c n ps w = record { is_static = b; result = c; name = name_at n; parameters = ps; span = extent w }

  abbrev signature_of : (i : Word) (b : Got ReadsStatic i) (y : Got (ReadsType ns true) b.rest) (n : Named y.rest) (ps : Got (ReadsParameters ns) n.rest)
      → main_fits ns (signature b.tree y.tree n.token ps.tree (b.word ++ y.word ++ n.token ∷ ps.word)) ≡ true → Got (ReadsSignature ns) i
  signature_of i b y n ps h =
      record {
        word = b.word ++ y.word ++ n.token ∷ ps.word;
        rest = ps.rest;
        tree = _;
        reads = s.signature_is n.token b.reads y.reads n.is ps.reads h;
        split = seq (b.word ++ y.word) (n.token ∷ ps.word) i y.rest ps.rest (seq b.word y.word i b.rest y.rest b.split y.split) (front n.token ps.word y.rest n.rest ps.rest n.split ps.split);
      }

  abbrev signature_at : ℕ → (i : Word) → Option (Got (ReadsSignature ns) i)
  signature_at f i =
      then (type_at ns true (static_at i).rest) (λ y. then (take_one name y.rest) (λ n. then (taken_at f n.rest) (λ ps.
      then (holds (main_fits ns (signature (static_at i).tree y.tree n.token ps.tree ((static_at i).word ++ y.word ++ n.token ∷ ps.word)))) (λ h. Some (signature_of i (static_at i) y n ps h)))))

  -- 2. Items

  abbrev Gets : Word → Type 0
  Gets = Got (ReadsItem ns)

  abbrev struct_type : (i : Word) (t : Keywords i keyword.Typedef) (r : Keywords t.rest keyword.Struct) (g : Named r.rest) (n : Named g.rest) (e : Signs n.rest sign.Semicolon) → g.token.bytes ≡ 95 ∷ n.token.bytes → Gets i
  struct_type i t r g n e h =
      record {
        word = t.token ∷ r.token ∷ g.token ∷ n.token ∷ e.token ∷ [];
        rest = e.rest;
        tree = _;
        reads = s.struct_type t.is r.is (g.is, h) n.is e.is;
        split = front t.token (r.token ∷ g.token ∷ n.token ∷ e.token ∷ []) i t.rest e.rest t.split (front r.token (g.token ∷ n.token ∷ e.token ∷ []) t.rest r.rest e.rest r.split
            (front g.token (n.token ∷ e.token ∷ []) r.rest g.rest e.rest g.split (front n.token (e.token ∷ []) g.rest n.rest e.rest n.split e.split)));
      }

  abbrev struct_is : (i : Word) (r : Keywords i keyword.Struct) (g : Named r.rest) (l : Signs g.rest sign.OpenBrace) (fs : Got (ReadsFields ns) l.rest) (c : Signs fs.rest sign.CloseBrace) (e : Signs c.rest sign.Semicolon) → (x : List ℕ)
      → g.token.bytes ≡ 95 ∷ x → Gets i
  struct_is i r g l fs c e x h =
      record {
        word = r.token ∷ g.token ∷ l.token ∷ fs.word ++ c.token ∷ e.token ∷ [];
        rest = e.rest;
        tree = _;
        reads = s.struct_is c.token e.token r.is (g.is, h) l.is fs.reads c.is e.is;
        split = front r.token (g.token ∷ l.token ∷ fs.word ++ c.token ∷ e.token ∷ []) i r.rest e.rest r.split (front g.token (l.token ∷ fs.word ++ c.token ∷ e.token ∷ []) r.rest g.rest e.rest g.split
            (front l.token (fs.word ++ c.token ∷ e.token ∷ []) g.rest l.rest e.rest l.split (seq fs.word (c.token ∷ e.token ∷ []) l.rest fs.rest e.rest fs.split (front c.token (e.token ∷ []) fs.rest c.rest e.rest c.split e.split))));
      }

  abbrev enum_is : (i : Word) (t : Keywords i keyword.Typedef) (r : Keywords t.rest keyword.Enum) (l : Signs r.rest sign.OpenBrace) (m : Got ReadsMember l.rest) (ms : Got ReadsMoreMembers m.rest) (c : Signs ms.rest sign.CloseBrace) (n : Named c.rest)
      (e : Signs n.rest sign.Semicolon) → Gets i
  enum_is i t r l m ms c n e =
      record {
        word = t.token ∷ r.token ∷ l.token ∷ m.word ++ ms.word ++ c.token ∷ n.token ∷ e.token ∷ [];
        rest = e.rest;
        tree = _;
        reads = s.enum_is c.token n.token e.token t.is r.is l.is m.reads ms.reads c.is n.is e.is;
        split = front t.token (r.token ∷ l.token ∷ m.word ++ ms.word ++ c.token ∷ n.token ∷ e.token ∷ []) i t.rest e.rest t.split (front r.token (l.token ∷ m.word ++ ms.word ++ c.token ∷ n.token ∷ e.token ∷ []) t.rest r.rest e.rest r.split
            (front l.token (m.word ++ ms.word ++ c.token ∷ n.token ∷ e.token ∷ []) r.rest l.rest e.rest l.split (seq (m.word ++ ms.word) (c.token ∷ n.token ∷ e.token ∷ []) l.rest ms.rest e.rest
            (seq m.word ms.word l.rest m.rest ms.rest m.split ms.split) (front c.token (n.token ∷ e.token ∷ []) ms.rest c.rest e.rest c.split (front n.token (e.token ∷ []) c.rest n.rest e.rest n.split e.split)))));
      }

  abbrev function_type : (i : Word) (t : Keywords i keyword.Typedef) (y : Got (ReadsType ns true) t.rest) (o : Signs y.rest sign.OpenParen) (x : Signs o.rest sign.Star) (n : Named x.rest) (c : Signs n.rest sign.CloseParen)
      (ps : Got (ReadsParameters ns) c.rest) (e : Signs ps.rest sign.Semicolon) → Gets i
  function_type i t y o x n c ps e =
      record {
        word = t.token ∷ y.word ++ o.token ∷ x.token ∷ n.token ∷ c.token ∷ ps.word ++ e.token ∷ [];
        rest = e.rest;
        tree = _;
        reads = s.function_type o.token x.token n.token c.token e.token t.is y.reads o.is x.is n.is c.is ps.reads e.is;
        split = front t.token (y.word ++ o.token ∷ x.token ∷ n.token ∷ c.token ∷ ps.word ++ e.token ∷ []) i t.rest e.rest t.split (seq (y.word ++ o.token ∷ x.token ∷ n.token ∷ c.token ∷ ps.word) (e.token ∷ []) t.rest ps.rest e.rest
            (seq y.word (o.token ∷ x.token ∷ n.token ∷ c.token ∷ ps.word) t.rest y.rest ps.rest y.split (front o.token (x.token ∷ n.token ∷ c.token ∷ ps.word) y.rest o.rest ps.rest o.split
            (front x.token (n.token ∷ c.token ∷ ps.word) o.rest x.rest ps.rest x.split (front n.token (c.token ∷ ps.word) x.rest n.rest ps.rest n.split (front c.token ps.word n.rest c.rest ps.rest c.split ps.split))))) e.split);
      }

  abbrev prototype : (i : Word) (g : Got (ReadsSignature ns) i) (e : Signs g.rest sign.Semicolon) → Gets i
  prototype i g e = record { word = g.word ++ e.token ∷ []; rest = e.rest; tree = _; reads = s.prototype e.token g.reads e.is; split = seq g.word (e.token ∷ []) i g.rest e.rest g.split e.split }

  abbrev static_variable : (i : Word) (t : Keywords i keyword.Static) (y : Got (ReadsType ns true) t.rest) (n : Named y.rest) (q : Signs n.rest sign.Assign) (x : Got (Reads ns true Value) q.rest) (e : Signs x.rest sign.Semicolon) → is_object y.tree ≡ true → Gets i
  static_variable i t y n q x e h =
      record {
        word = t.token ∷ y.word ++ n.token ∷ q.token ∷ x.word ++ e.token ∷ [];
        rest = e.rest;
        tree = _;
        reads = s.static_variable n.token q.token e.token t.is y.reads h n.is q.is x.reads e.is;
        split = front t.token (y.word ++ n.token ∷ q.token ∷ x.word ++ e.token ∷ []) i t.rest e.rest t.split (seq (y.word ++ n.token ∷ q.token ∷ x.word) (e.token ∷ []) t.rest x.rest e.rest
            (seq y.word (n.token ∷ q.token ∷ x.word) t.rest y.rest x.rest y.split (front n.token (q.token ∷ x.word) y.rest n.rest x.rest n.split (front q.token x.word n.rest q.rest x.rest q.split x.split))) e.split);
      }

  abbrev includes : (i : Word) (t : Signs i sign.Hash) (n : Named t.rest) (h : Token) (r : Word) (f : Include) → n.rest ≡ h ∷ r → h.terminal ≡ Header f → t.token.begins_line ≡ true → n.token.bytes ≡ codes "include" → n.token.begins_line ≡ false → Gets i
  includes i t n h r f q y p b o =
      record { word = t.token ∷ n.token ∷ h ∷ []; rest = r; tree = item.Include f; reads = s.includes t.is p (n.is, b) o y; split = front t.token (n.token ∷ h ∷ []) i t.rest r t.split (front n.token (h ∷ []) t.rest n.rest r n.split q) }

  abbrev include_by : (i : Word) (t : Signs i sign.Hash) (n : Named t.rest) (j : Word) → n.rest ≡ j → Option (Gets i)
  include_by i t n [] e = None
  include_by i t n (h ∷ r) e = then (a_header h.terminal) (λ f. then (holds t.token.begins_line) (λ p. then (same_bytes n.token.bytes (codes "include")) (λ b. then (fails n.token.begins_line) (λ o. Some (includes i t n h r f.0 e f.1 p b o)))))

  abbrev function_is : (i : Word) (g : Got (ReadsSignature ns) i) (b : Got (ReadsBlock (with_parameters (declared g.tree.name FunctionName ∷ ns) g.tree.parameters)) g.rest) → list_all has_name g.tree.parameters ≡ true → Gets i
  function_is i g b h = record { word = g.word ++ b.word; rest = b.rest; tree = _; reads = s.function_is g.reads h b.reads; split = seq g.word b.word i g.rest b.rest g.split b.split }

  abbrev tagged : (xs : List ℕ) → Option ((x : List ℕ) × (xs ≡ 95 ∷ x))
  tagged [] = None
  tagged (b ∷ x) = then (same_bytes (b ∷ x) (95 ∷ x)) (λ e. Some (x, e))

  abbrev struct_type_at : (i : Word) → Keywords i keyword.Typedef → Option (Gets i)
  struct_type_at i t = then (take_one struct_word t.rest) (λ r. then (take_one name r.rest) (λ g. then (take_one name g.rest) (λ n. then (take_one semicolon n.rest) (λ e. then (same_bytes g.token.bytes (95 ∷ n.token.bytes)) (λ h. Some (struct_type i t r g n e h))))))

  abbrev enum_at : ℕ → (i : Word) → Keywords i keyword.Typedef → Option (Gets i)
  enum_at f i t = then (take_one enum_word t.rest) (λ r. then (take_one open_brace r.rest) (λ l. then (member_at l.rest) (λ m. then (take_one close_brace (members_at f m.rest).rest) (λ c. then (take_one name c.rest) (λ n. then (take_one semicolon n.rest) (λ e. Some (enum_is i t r l m (members_at f m.rest) c n e)))))))

  abbrev function_type_at : ℕ → (i : Word) → Keywords i keyword.Typedef → Option (Gets i)
  function_type_at f i t = then (type_at ns true t.rest) (λ y. then (take_one open_paren y.rest) (λ o. then (take_one star o.rest) (λ x. then (take_one name x.rest) (λ n. then (take_one close_paren n.rest) (λ c. then (taken_at f c.rest) (λ ps. then (take_one semicolon ps.rest) (λ e. Some (function_type i t y o x n c ps e))))))))

  abbrev struct_at : ℕ → (i : Word) → Option (Gets i)
  struct_at f i = then (take_one struct_word i) (λ r. then (take_one name r.rest) (λ g. then (tagged g.token.bytes) (λ x. then (take_one open_brace g.rest) (λ l. then (take_one close_brace (fields_at f l.rest).rest) (λ c. then (take_one semicolon c.rest) (λ e. Some (struct_is i r g l (fields_at f l.rest) c e x.0 x.1)))))))

  abbrev variable_at : ℕ → (i : Word) → Option (Gets i)
  variable_at f i = then (take_one static_word i) (λ t. then (type_at ns true t.rest) (λ y. then (take_one name y.rest) (λ n. then (take_one assign n.rest) (λ q. then (value ns true f q.rest) (λ x. then (take_one semicolon x.rest) (λ e. then (holds (is_object y.tree)) (λ h. Some (static_variable i t y n q x e h))))))))

  abbrev head_at : ℕ → (i : Word) → Got (ReadsSignature ns) i → Option (Gets i)
  head_at f i g = or_else (then (take_one semicolon g.rest) (λ e. Some (prototype i g e))) (then (block_at f (with_parameters (declared g.tree.name FunctionName ∷ ns) g.tree.parameters) g.rest) (λ b. then (holds (list_all has_name g.tree.parameters)) (λ h. Some (function_is i g b h))))

  abbrev Null : Word → Type 0
  Null = Taken (Of (k.Constant constant.Null))

  abbrev null_word : Tests (Of (k.Constant constant.Null))
  null_word (Of (k.Constant constant.Null)) = Some refl
  null_word x = None

  abbrev interface_table : (i : Word) (t : Keywords i keyword.Static) (c : Keywords t.rest keyword.Const) (g : Named c.rest) (n : Named g.rest) (q : Signs n.rest sign.Assign) (l : Signs q.rest sign.OpenBrace) (p : Signs l.rest sign.OpenParen) (y : Named p.rest) (o : Signs y.rest sign.CloseParen) (f : Named o.rest) (d : Signs f.rest sign.Comma) (x : Null d.rest) (m : Signs x.rest sign.Comma) (z : Null m.rest) (r : Signs z.rest sign.CloseBrace) (e : Signs r.rest sign.Semicolon) → g.token.bytes ≡ codes "GInterfaceInfo" → y.token.bytes ≡ codes "GInterfaceInitFunc" → Gets i
  interface_table i t c g n q l p y o f d x m z r e h b =
      record {
        word = t.token ∷ c.token ∷ g.token ∷ n.token ∷ q.token ∷ l.token ∷ p.token ∷ y.token ∷ o.token ∷ f.token ∷ d.token ∷ x.token ∷ m.token ∷ z.token ∷ r.token ∷ e.token ∷ [];
        rest = e.rest;
        tree = _;
        reads = s.interface_table t.is c.is (g.is, h) n.is q.is l.is p.is (y.is, b) o.is f.is d.is x.is m.is z.is r.is e.is;
        split = front t.token (c.token ∷ g.token ∷ n.token ∷ q.token ∷ l.token ∷ p.token ∷ y.token ∷ o.token ∷ f.token ∷ d.token ∷ x.token ∷ m.token ∷ z.token ∷ r.token ∷ e.token ∷ []) i t.rest e.rest t.split (front c.token (g.token ∷ n.token ∷ q.token ∷ l.token ∷ p.token ∷ y.token ∷ o.token ∷ f.token ∷ d.token ∷ x.token ∷ m.token ∷ z.token ∷ r.token ∷ e.token ∷ []) t.rest c.rest e.rest c.split (front g.token (n.token ∷ q.token ∷ l.token ∷ p.token ∷ y.token ∷ o.token ∷ f.token ∷ d.token ∷ x.token ∷ m.token ∷ z.token ∷ r.token ∷ e.token ∷ []) c.rest g.rest e.rest g.split (front n.token (q.token ∷ l.token ∷ p.token ∷ y.token ∷ o.token ∷ f.token ∷ d.token ∷ x.token ∷ m.token ∷ z.token ∷ r.token ∷ e.token ∷ []) g.rest n.rest e.rest n.split (front q.token (l.token ∷ p.token ∷ y.token ∷ o.token ∷ f.token ∷ d.token ∷ x.token ∷ m.token ∷ z.token ∷ r.token ∷ e.token ∷ []) n.rest q.rest e.rest q.split (front l.token (p.token ∷ y.token ∷ o.token ∷ f.token ∷ d.token ∷ x.token ∷ m.token ∷ z.token ∷ r.token ∷ e.token ∷ []) q.rest l.rest e.rest l.split (front p.token (y.token ∷ o.token ∷ f.token ∷ d.token ∷ x.token ∷ m.token ∷ z.token ∷ r.token ∷ e.token ∷ []) l.rest p.rest e.rest p.split (front y.token (o.token ∷ f.token ∷ d.token ∷ x.token ∷ m.token ∷ z.token ∷ r.token ∷ e.token ∷ []) p.rest y.rest e.rest y.split (front o.token (f.token ∷ d.token ∷ x.token ∷ m.token ∷ z.token ∷ r.token ∷ e.token ∷ []) y.rest o.rest e.rest o.split (front f.token (d.token ∷ x.token ∷ m.token ∷ z.token ∷ r.token ∷ e.token ∷ []) o.rest f.rest e.rest f.split (front d.token (x.token ∷ m.token ∷ z.token ∷ r.token ∷ e.token ∷ []) f.rest d.rest e.rest d.split (front x.token (m.token ∷ z.token ∷ r.token ∷ e.token ∷ []) d.rest x.rest e.rest x.split (front m.token (z.token ∷ r.token ∷ e.token ∷ []) x.rest m.rest e.rest m.split (front z.token (r.token ∷ e.token ∷ []) m.rest z.rest e.rest z.split (front r.token (e.token ∷ []) z.rest r.rest e.rest r.split (e.split)))))))))))))));
      }

  abbrev table_at : (i : Word) → Option (Gets i)
  table_at i = then (take_one static_word i) (λ t. then (take_one const_word t.rest) (λ c. then (take_one name c.rest) (λ g. then (take_one name g.rest) (λ n. then (take_one assign n.rest) (λ q. then (take_one open_brace q.rest) (λ l. then (take_one open_paren l.rest) (λ p. then (take_one name p.rest) (λ y. then (take_one close_paren y.rest) (λ o. then (take_one name o.rest) (λ f. then (take_one comma f.rest) (λ d. then (take_one null_word d.rest) (λ x. then (take_one comma x.rest) (λ m. then (take_one null_word m.rest) (λ z. then (take_one close_brace z.rest) (λ r. then (take_one semicolon r.rest) (λ e. then (same_bytes g.token.bytes (codes "GInterfaceInfo")) (λ h. then (same_bytes y.token.bytes (codes "GInterfaceInitFunc")) (λ b. Some (interface_table i t c g n q l p y o f d x m z r e h b)))))))))))))))))))

  abbrev include_at : (i : Word) → Option (Gets i)
  include_at i = then (take_one hash i) (λ t. then (take_one name t.rest) (λ n. include_by i t n n.rest refl))

  abbrev pub item_at : ℕ → (i : Word) → Option (Gets i)
  item_at f i =
      or_else (include_at i)
      (or_else (then (take_one typedef_word i) (λ t. or_else (struct_type_at i t) (or_else (enum_at f i t) (function_type_at f i t))))
      (or_else (struct_at f i) (or_else (or_else (table_at i) (variable_at f i)) (then (signature_at f i) (head_at f i)))))

-- 3. Units

abbrev pub WholeItems : Names → Word → Type 0
WholeItems ns i = (is : List Item) × ReadsItems ns i is

abbrev no_item : (ns : Names) (i : Word) → Option (WholeItems ns i)
no_item ns [] = Some ([], s.no_item)
no_item ns (t ∷ i) = None

abbrev more_items : (ns : Names) (i : Word) (g : Got (ReadsItem ns) i) → ends_line g.tree g.rest ≡ true → WholeItems (with_item ns g.tree) g.rest → WholeItems ns i
more_items ns i g h is = (g.tree ∷ is.0, subst (λ (z : Word). ReadsItems ns z (g.tree ∷ is.0)) (sym g.split) (s.more_items g.reads h is.1))

abbrev pub items_at : ℕ → (ns : Names) (i : Word) → Option (WholeItems ns i)
items_at zero ns i = None
items_at (suc f) ns i = or_else (no_item ns i) (then (item_at ns f i) (λ g. then (holds (ends_line g.tree g.rest)) (λ h. then (items_at f (with_item ns g.tree) g.rest) (λ is. Some (more_items ns i g h is)))))

abbrev unit_of : (w : Word) → WholeItems library_names w → is_shallow [] w ≡ true → (u : CUnit) × ReadsUnit w u
unit_of w is h = (record { items = is.0 }, record { items = is.1; shallow = h })

abbrev pub unit_at : ℕ → (w : Word) → Option ((u : CUnit) × ReadsUnit w u)
unit_at f w = then (items_at f library_names w) (λ is. then (holds (is_shallow [] w)) (λ h. Some (unit_of w is h)))

-- 4. Bytes

abbrev pub Lexed : Left → Type 0
Lexed l = (ts : List Lexeme) × Tokens l ts None

abbrev lex_by : (l : Left) → (r : Result (Option Lexeme) BadToken) → next_of l ≡ r → ((l : Left) → Option (Lexed l)) → Option (Lexed l)
lex_by l (Err b) e further = None
lex_by l (Ok None) e further = Some ([], lexed.end l e)
lex_by l (Ok (Some t)) e further = then (further (behind l (Ok (Some t)))) (λ ts. Some (t ∷ ts.0, lexed.token l t e ts.1))

abbrev pub lex : ℕ → (l : Left) → Option (Lexed l)
lex zero l = None
lex (suc n) l = lex_by l (next_of l) refl (lex n)

-- the faults of a unit, so that they compute
abbrev pub peeled_faults : CUnit → List Fault
peeled_faults u = items_faults (peeled 100) (peeled_block (peeled 100) 100) library u.items

pub same_faults : (u : CUnit) → unit_faults u ≡ peeled_faults u
same_faults u =
    ap (λ (c : Checker). items_faults c (checked_block c) library u.items) (checked_peeled 100) ∙ ap (λ (b : Bodies). items_faults (peeled 100) b library u.items) (block_peeled (peeled 100) 100)

abbrev says_by : (text : Word) (n : ℕ) (u : CUnit) → ReadsUnit text u → (o : Option Refusal) → first_of None (peeled_faults u ++ without_main u n) ≡ o → Option (peeled_faults u ≡ []) → Option (has_main u ≡ true) → Option ((r : Result CUnit Refusal) × Says text (Whole n) r)
says_by text n u h (Some f) e x y = Some (Err f, a.faulty n u f h (ap (λ (fs : List Fault). first_of None (fs ++ without_main u n)) (same_faults u) ∙ e))
says_by text n u h None e (Some p) (Some q) = Some (Ok u, a.unit n u h (same_faults u ∙ p, q))
says_by text n u h None e x y = None

abbrev no_faults : (fs : List Fault) → Option (fs ≡ [])
no_faults [] = Some refl
no_faults (f ∷ fs) = None

abbrev answer_by : (bytes : List ℕ) (limit : ℕ) (ts : List Lexeme) → Tokens (all_of bytes) ts None → length bytes ≤ limit → (r : Result CUnit Refusal) → Says (words ts) (Whole (length bytes)) r → (s : Result CUnit Refusal) × Answers bytes limit s
answer_by bytes limit ts q h (Ok u) x = (Ok u, a.reads u ts h q x)
answer_by bytes limit ts q h (Err f) x = (Err f, a.refused f ts None h q x)

-- What bytes answer, where this reader finds it: of texts that are no unit for want of grammar it says nothing.
abbrev pub answer_at : ℕ → (bytes : List ℕ) (limit : ℕ) → length bytes ≤ limit → Option ((s : Result CUnit Refusal) × Answers bytes limit s)
answer_at f bytes limit h =
    then (lex f (all_of bytes)) (λ ts. then (unit_at f (words ts.0)) (λ u.
    then (says_by (words ts.0) (length bytes) u.0 u.1 (first_of None (peeled_faults u.0 ++ without_main u.0 (length bytes))) refl (no_faults (peeled_faults u.0)) (holds (has_main u.0))) (λ r. Some (answer_by bytes limit ts.0 ts.1 h r.0 r.1))))
