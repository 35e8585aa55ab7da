-- What forms of items read, are items.
use Rattle.std.proofs.Common.{◌≡◌, ℕ, ◌==◌, Bool, true, false, not, ◌&&◌, ◌||◌, if◌then◌else◌, List, [], ◌∷◌, ◌++◌, None, codes, refl, sym, ap, subst, ◌∙◌, append-nil, append_assoc, true≢false, eqb-true}
use Rattle.std.specs.List.{list_all}
use Rattle.std.specs.Str.{bytes_eq}
use Rattle.predictive_grammar.proofs.Sets.{and_first, and_second}
use Rattle.c_lexer.specs.declared.token.Constant.TheVariants as constant
use Rattle.c_lexer.specs.declared.token.TokenKind.TheVariants as k
use Rattle.c_lexer.specs.declared.token.Keyword.TheVariants as keyword
use Rattle.c_lexer.specs.declared.token.Sign.TheVariants as sign
use Rattle.c_tree.specs.declared.names.Base.{Base}
use Rattle.c_tree.specs.declared.names.CType.{CType}
use Rattle.c_tree.specs.declared.unit.Signature.{Signature}
use Rattle.c_tree.specs.declared.unit.Member.{Member}
use Rattle.c_tree.specs.declared.unit.Parameter.{Parameter}
use Rattle.c_tree.specs.declared.unit.Item.{Item}
use Rattle.c_tree.specs.declared.unit.Item.TheVariants as item
use Rattle.c_tree.specs.Words.{Terminal, Of, Header, Token, Word, IsSign, IsWord, IsName, IsNamed, BeginsLine, extent, start_of, end_of}
use Rattle.c_tree.specs.Names.{Names, Role, TypeName, Unknown, role_of, is_int, is_texts, is_an_int, is_a_char, meaning_of_role, meaning_of_base, are_arguments, not_static}
use Rattle.c_tree.specs.Types.{Consts as ReadsConsts, no_const, more_const, no_star, more_stars, BaseIs, int_is, char_is, named_is, ReadsType, is_object, is_void_base, can_be_type}
use Rattle.c_tree.specs.Make.{name_at}
use Rattle.c_tree.specs.Statements.{ReadsNumber}
use Rattle.c_tree.specs.Items.{member_is, ReadsMoreMembers, no_member, more_members, ReadsFields, no_field, more_fields, ReadsParameter, unnamed, named, ReadsMoreParameters, no_parameter, more_parameters, ReadsParameters, none_taken, some_taken, ReadsStatic, not_static as no_static, is_static, ReadsSignature, signature_is, has_name, IsNull, ReadsItem, includes, struct_type, struct_is, enum_is, function_type, prototype, static_variable, interface_table, function_is, is_include, ReadsItems, no_item, more_items}
use Rattle.c_grammar.specs.Sorts.{kind, on, Null, File, same, sort_of}
use Rattle.c_grammar.specs.Tests.{Set, is, sign_is, word_is, is_base, is_key_base, on_line, is_int_base, is_char_base, is_other_base, is_main, is_any_name, is_name_of, is_tag, is_free_name, is_info_or_type, begins_low, name_with}
use Rattle.c_grammar.specs.Trees.{is_some_word, base_of, base_in, is_void, type_of, no_stars, two_stars, behind_first, file_in, signature}
use Rattle.c_grammar.specs.Parts.{What, tree_of, at, MemberOf, Members, MoreMembers, Fields, ParameterOf, ParameterEnd, MoreParameters, ParametersOf, IntType, TextsType, TableInside, DeclaredOf, TypedEnd, StaticEnd, InfoEnd, StaticRest, TypedefRest, ItemOf, ItemsOf}
use Rattle.c_grammar.specs.Grammar.{form, int_behind, texts_behind, parameters_behind, declared_end, variable_behind, static_named, table_behind, info_value, info_named, info_behind, static_type, static_const, typed_item}
use Rattle.c_grammar.proofs.Bytes.{same_bytes}
use Rattle.c_grammar.proofs.Classes.{within}
use Rattle.c_grammar.proofs.Told.{Told, gave, took, got, one, other}
use Rattle.c_grammar.proofs.Tokens.{is_sign, is_word, is_name, is_name_with}
use Rattle.c_grammar.proofs.Meaning.{Means, Meant, Holds, IfMust, AreConsts, IsType, EndsType, AreParameters, MeansInt, MeansTexts}
use Rattle.c_grammar.proofs.SoundTypes.{ends_type, base_told, object_fits}
use Rattle.c_grammar.proofs.FindItems.{and_true, end_is, start_is, item_line}

no_must : {b : Bool} → IfMust false b
no_must = λ e. absurd (true≢false (sym e))

item_at : {ns : Names} {x : Item} {u w : Word} → u ≡ w → ReadsItem ns u x → ReadsItem ns w x
item_at {ns = ns} {x = x} e d = subst (λ (z : Word). ReadsItem ns z x) e d

-- 1. Members, fields and parameters

pub sound_member : (ns : Names) → Holds ns MemberOf
unfolding form
sound_member ns w x (took n e (took s f (got {u = p} y m (gave a)))) = member_is (is_name ns n e) (is_sign ns sign.Assign s f) (subst (λ (z : Word). ReadsNumber z y) (sym (append-nil p)) m)

pub sound_members : (ns : Names) → Holds ns Members
unfolding form
sound_members ns w x (got {u = u} m d (got {u = p} ms e (gave a))) = record { front = u; behind = p; member = m; others = ms; same = ap (λ (z : Word). u ++ z) (append-nil p); tree = refl; first = d; more = e }

pub sound_more_members : (ns : Names) → Holds ns MoreMembers
unfolding form
sound_more_members ns w x (one (took t e (got {u = u} m d (got {u = p} ms f (gave a))))) =
    subst (λ (z : Word). ReadsMoreMembers (t ∷ (u ++ z)) (m ∷ ms)) (sym (append-nil p)) (more_members (is_sign ns sign.Comma t e) d f)
sound_more_members ns w x (other (gave a)) = no_member

pub sound_fields : (ns : Names) → Holds ns Fields
unfolding form
sound_fields ns w x (one (got {u = u} l d (got {u = p} ls f (gave a)))) = subst (λ (z : Word). ReadsFields ns (u ++ z) (l ∷ ls)) (sym (append-nil p)) (more_fields d f)
sound_fields ns w x (other (gave a)) = no_field

pub sound_parameter : (ns : Names) → Holds ns ParameterOf
unfolding form
sound_parameter ns w x (got {u = u} c m (got {u = p} q n (gave a))) = subst (λ (z : Word). ReadsParameter ns (u ++ z) q) (sym (append-nil p)) (n.reads u m.reads (m.fits refl))

pub sound_parameter_end : (ns : Names) (c : CType) → Holds ns (ParameterEnd c)
unfolding form
sound_parameter_end ns c w x (one (took n e (gave a))) = record { reads = λ u d o. named n d o (is_name ns n e); same = refl }
sound_parameter_end ns c w x (other (gave a)) = record { reads = λ u d o. subst (λ (z : Word). ReadsParameter ns z (record { declared = c; name = None })) (sym (append-nil u)) (unnamed d o); same = refl }

pub sound_more_parameters : (ns : Names) → Holds ns MoreParameters
unfolding form
sound_more_parameters ns w x (one (took t e (got {u = u} q d (got {u = p} qs f (gave a))))) =
    subst (λ (z : Word). ReadsMoreParameters ns (t ∷ (u ++ z)) (q ∷ qs)) (sym (append-nil p)) (more_parameters (is_sign ns sign.Comma t e) d f)
sound_more_parameters ns w x (other (gave a)) = no_parameter

some_parameters : (ns : Names) {u w z : Word} {p : Parameter} {ps : List Parameter} → u ++ w ≡ z → ReadsParameter ns u p → ReadsMoreParameters ns w ps → (t s : Token) → IsSign t sign.OpenParen → IsSign s sign.CloseParen
    → ReadsParameters ns (t ∷ (z ++ (s ∷ []))) (p ∷ ps)
some_parameters ns {p = p} {ps = ps} e d f t s i j = subst (λ (y : Word). ReadsParameters ns (t ∷ (y ++ (s ∷ []))) (p ∷ ps)) e (some_taken s i d f j)

parameters_told : (ns : Names) (c : CType) (u w : Word) (x : List Parameter) → ReadsType ns true u c → is_object c ≡ true → Told Meant (at ns (ParametersOf false)) (parameters_behind ns c) w x → AreParameters ns false (u ++ w) x
parameters_told ns c u w x d o (got {u = y} p n (got {u = z} ps m (gave a))) =
    record { reads = some_parameters ns (append_assoc u y z ∙ ap (λ (z : Word). u ++ (y ++ z)) (sym (append-nil z))) (n.reads u d o) m; fits = no_must }

other_no_void : (x : Terminal) (t : Token) (ns : Names) → on ns is_other_base (record { terminal = x; bytes = t.bytes; begins_line = t.begins_line }) ≡ true → is_void_base (base_in x (name_at t)) ≡ false
other_no_void (Of (k.Keyword keyword.Void)) t ns e = absurd (true≢false (sym e))
other_no_void (Of (k.Keyword keyword.Int)) t ns e = refl
other_no_void (Of (k.Keyword keyword.Char)) t ns e = refl
other_no_void _ t ns e = refl

behind_const : (ns : Names) (t b : Token) (y u p : Word) (must : Bool) (c : CType) → on ns (word_is keyword.Const) (kind t) ≡ true → AreConsts u y → on ns (is_base true) (kind b) ≡ true → EndsType (t ∷ y) b must p c → ReadsType ns true (t ∷ (u ++ (b ∷ p))) c
behind_const ns t b y u p must c e m f n = subst (λ (q : Word). ReadsType ns true (t ∷ (q ++ (b ∷ p))) c) m.same
    (n.reads ns true (more_const (is_word ns keyword.Const t e) (subst (λ (z : Word). ReadsConsts z (is_some_word y)) (sym m.same) m.reads)) (base_told ns true b f))

pub sound_parameters : (ns : Names) (main : Bool) → Holds ns (ParametersOf main)
unfolding form
sound_parameters ns true w x (got {u = u} c m (got {u = y} p n (took s e (got {u = v} d o (got {u = z} q r (gave a)))))) = record {
  reads = some_parameters ns (append_assoc u y ((s ∷ (v ++ z)) ++ []) ∙ ap (λ (y' : Word). u ++ (y ++ (s ∷ y'))) (append_assoc v z [])) (n.reads u m.reads m.object)
      (more_parameters (is_sign ns sign.Comma s e) (r.reads v o.reads o.object) no_parameter);
  fits = λ i. and_true (ap (is_int ns) n.same ∙ m.means) (ap (is_texts ns) r.same ∙ o.means);
}
sound_parameters ns false w x (one (took t e (one (got {u = p} {v = q} c m d)))) =
    parameters_told ns c (t ∷ p) q x (m.reads ns true no_const (base_told ns true t (within ns (word_is keyword.Void) (is_base true) refl (kind t) e)))
    (object_fits c (is_void t) true (ap is_void_base m.base) (λ i. m.some refl) refl) d
sound_parameters ns false w x (one (took t e (other (gave a)))) = record { reads = λ o s i j. none_taken i (is_word ns keyword.Void t e) j; fits = no_must }
sound_parameters ns false w x (other (one (took t e (got {u = u} y m (took b f (got {u = p} {v = q} c n d)))))) =
    subst (λ (z : Word). AreParameters ns false (t ∷ z) x) (append_assoc u (b ∷ p) q)
    (parameters_told ns c (t ∷ (u ++ (b ∷ p))) q x (behind_const ns t b y u p (is_void b) c e m f n) (object_fits c (is_void b) true (ap is_void_base n.base) n.some refl) d)
sound_parameters ns false w x (other (other (took b f (got {u = p} {v = q} c n d)))) =
    parameters_told ns c (b ∷ p) q x (n.reads ns true no_const (base_told ns true b (within ns is_other_base (is_base true) refl (kind b) f)))
    (object_fits c false true (ap is_void_base n.base ∙ other_no_void b.terminal b ns f) no_must refl) d

-- 2. The types of the parameters of `main`

int_role : (r : Role) → is_an_int (meaning_of_role r) ≡ true → can_be_type true r ≡ true
int_role (TypeName m) e = refl
int_role Unknown e = refl
int_role _ e = absurd (true≢false (sym e))

char_role : (r : Role) → is_a_char (meaning_of_role r) ≡ true → can_be_type true r ≡ true
char_role (TypeName m) e = refl
char_role Unknown e = refl
char_role _ e = absurd (true≢false (sym e))

-- a base that means something
pub record BaseMeans (ns : Names) (t : Token) (test : Base → Bool) : Type 0 where
  pub reads : BaseIs ns true t (base_of t)
  pub means : test (base_of t) ≡ true
  pub object : is_void_base (base_of t) ≡ false

int_by_terminal : (ns : Names) (x : Terminal) (w : List ℕ) (a b : ℕ) (l : Bool) → on ns is_int_base (record { terminal = x; bytes = w; begins_line = l }) ≡ true
    → BaseMeans ns (record { terminal = x; bytes = w; start = a; «end» = b; begins_line = l }) (λ b. is_an_int (meaning_of_base ns b))
int_by_terminal ns (Of k.Identifier) w a b l e = record { reads = named_is refl (int_role (role_of ns w) e); means = e; object = refl }
int_by_terminal ns (Of (k.Keyword keyword.Int)) w a b l e = record { reads = int_is refl; means = refl; object = refl }
int_by_terminal ns (Of (k.Keyword keyword.Case)) w a b l e = absurd (true≢false (sym e))
int_by_terminal ns (Of (k.Constant constant.Null)) w a b l e = absurd (true≢false (sym e))
int_by_terminal ns _ w a b l e = absurd (true≢false (sym e))

char_by_terminal : (ns : Names) (x : Terminal) (w : List ℕ) (a b : ℕ) (l : Bool) → on ns is_char_base (record { terminal = x; bytes = w; begins_line = l }) ≡ true
    → BaseMeans ns (record { terminal = x; bytes = w; start = a; «end» = b; begins_line = l }) (λ b. is_a_char (meaning_of_base ns b))
char_by_terminal ns (Of k.Identifier) w a b l e = record { reads = named_is refl (char_role (role_of ns w) e); means = e; object = refl }
char_by_terminal ns (Of (k.Keyword keyword.Char)) w a b l e = record { reads = char_is refl; means = refl; object = refl }
char_by_terminal ns (Of (k.Keyword keyword.Case)) w a b l e = absurd (true≢false (sym e))
char_by_terminal ns (Of (k.Constant constant.Null)) w a b l e = absurd (true≢false (sym e))
char_by_terminal ns _ w a b l e = absurd (true≢false (sym e))

consts_of : {u x : Word} → AreConsts u x → ReadsConsts x (is_some_word x)
consts_of {x = x} m = subst (λ (z : Word). ReadsConsts z (is_some_word x)) (sym m.same) m.reads

object_base : (c : CType) → is_void_base c.base ≡ false → is_object c ≡ true
object_base c e = ap (λ (b : Bool). not (b && c.stars == 0)) e

int_told : (ns : Names) (u w : Word) (x : CType) → ReadsConsts u (is_some_word u) → Told Meant (at ns IntType) (int_behind ns u) w x → MeansInt ns (u ++ w) x
int_told ns u w x c (took b f (got {u = p} y n (gave a))) =
    let h = int_by_terminal ns b.terminal b.bytes b.start b.end b.begins_line f in record {
      reads = (ends_type u b false y (p ++ []) no_stars (consts_of n) no_star no_must (ap (λ (z : Word). z ++ []) n.same)).reads ns true c h.reads;
      object = object_base (type_of u b y no_stars) h.object;
      means = and_true h.means refl;
    }

texts_told : (ns : Names) (u w : Word) (x : CType) → ReadsConsts u (is_some_word u) → Told Meant (at ns TextsType) (texts_behind ns u) w x → MeansTexts ns (u ++ w) x
texts_told ns u w x c (took b f (got {u = p} y n (took s e (got {u = q} z m (took r g (got {u = o} v l (gave a))))))) =
    let h = char_by_terminal ns b.terminal b.bytes b.start b.end b.begins_line f in record {
      reads = (ends_type u b false y (p ++ (s ∷ (q ++ (r ∷ (o ++ []))))) (two_stars s z r v) (consts_of n)
          (more_stars (is_sign ns sign.Star s e) (consts_of m) (more_stars (is_sign ns sign.Star r g) (consts_of l) no_star)) no_must
          (ap (λ (d : Word). d ++ (s ∷ (z ++ (r ∷ (v ++ []))))) n.same ∙ ap (λ (d : Word). p ++ (s ∷ (d ++ (r ∷ (v ++ []))))) m.same ∙ ap (λ (d : Word). p ++ (s ∷ (q ++ (r ∷ (d ++ []))))) l.same)).reads ns true c h.reads;
      object = object_base (type_of u b y (two_stars s z r v)) h.object;
      means = and_true h.means refl;
    }

pub sound_int_type : (ns : Names) → Holds ns IntType
unfolding form
sound_int_type ns w x (one (took t e (got {u = u} {v = v} y m d))) = subst (λ (z : Word). MeansInt ns (t ∷ (z ++ v)) x) m.same (int_told ns (t ∷ y) v x (more_const (is_word ns keyword.Const t e) (consts_of m)) d)
sound_int_type ns w x (other d) = int_told ns [] w x no_const d

pub sound_texts_type : (ns : Names) → Holds ns TextsType
unfolding form
sound_texts_type ns w x (one (took t e (got {u = u} {v = v} y m d))) = subst (λ (z : Word). MeansTexts ns (t ∷ (z ++ v)) x) m.same (texts_told ns (t ∷ y) v x (more_const (is_word ns keyword.Const t e) (consts_of m)) d)
sound_texts_type ns w x (other d) = texts_told ns [] w x no_const d

-- 3. Functions

-- whether a name may be `main`
free_name : (n : Token) (b : Bool) → is_free_name b (kind n) ≡ true → IfMust (is_main n.bytes) b
free_name n b e i = by_main (is_main n.bytes) i (and_second (is_any_name (kind n)) (not (is_main n.bytes) || b) e)
  where
    by_main : (m : Bool) → m ≡ true → (not m || b) ≡ true → b ≡ true
    by_main true i e = e
    by_main false i e = absurd (true≢false (sym i))

free_is_name : (n : Token) (b : Bool) → is_free_name b (kind n) ≡ true → IsName n
free_is_name n b e = is_name [] n (and_first (is_any_name (kind n)) (not (is_main n.bytes) || b) e)

main_made : (m a : Bool) → IfMust m a → (if m then a else true) ≡ true
main_made true a h = h refl
main_made false a h = refl

both_true : (a b c : Bool) → (a && b) ≡ true → c ≡ true → (a && b && c) ≡ true
both_true a b c e f = and_true e f

-- a signature, from its head and its parameters
signature_told : (ns : Names) (b : Bool) (c : CType) (n : Token) (from : ℕ) (u v p : Word) (o s : Token) (ps : List Parameter) → ReadsStatic u b → ReadsType ns true v c → IsName n → IfMust (is_main n.bytes) (not_static b && is_int ns c)
    → ((z : Word) → start_of 0 ((u ++ v) ++ (n ∷ z)) ≡ from) → IsSign o sign.OpenParen → AreParameters ns (is_main n.bytes) p ps → IsSign s sign.CloseParen
    → ReadsSignature ns ((u ++ v) ++ (n ∷ (o ∷ (p ++ (s ∷ []))))) (signature b c n ps from s)
signature_told ns b c n from u v p o s ps st ty i mf hs j m l =
    subst (λ (x : Signature). ReadsSignature ns ((u ++ v) ++ (n ∷ (o ∷ (p ++ (s ∷ []))))) x) tree
    (signature_is n st ty i (m.reads o s j l) (main_made (is_main n.bytes) (not_static b && is_int ns c && are_arguments ns ps) (λ e. both_true (not_static b) (is_int ns c) (are_arguments ns ps) (mf e) (m.fits e))))
  where
    ends : end_of 0 ((u ++ v) ++ (n ∷ (o ∷ (p ++ (s ∷ []))))) ≡ s.end
    ends = ap (end_of 0) (sym (append_assoc (u ++ v) (n ∷ o ∷ p) (s ∷ []))) ∙ end_is 0 ((u ++ v) ++ (n ∷ o ∷ p)) s

    tree : record { is_static = b; result = c; name = name_at n; parameters = ps; span = extent ((u ++ v) ++ (n ∷ (o ∷ (p ++ (s ∷ []))))) } ≡ signature b c n ps from s
    tree = ap (λ (a : ℕ). record { is_static = b; result = c; name = name_at n; parameters = ps; span = record { start = a; «end» = end_of 0 ((u ++ v) ++ (n ∷ (o ∷ (p ++ (s ∷ []))))) } }) (hs (o ∷ (p ++ (s ∷ []))))
        ∙ ap (λ (a : ℕ). record { is_static = b; result = c; name = name_at n; parameters = ps; span = record { start = from; «end» = a } }) ends

declared_told : (ns : Names) {r : What} (b : Bool) (s : Signature) (f : Item → tree_of r) (u w : Word) (x : tree_of r) → list_all has_name s.parameters ≡ b → ReadsSignature ns u s → Told Meant (at ns r) (declared_end ns b s f) w x
    → (i : Item) × (x ≡ f i) × ReadsItem ns (u ++ w) i
declared_told ns true s f u w x e d (one (took c g (gave a))) = (item.Prototype s, refl, prototype c d (is_sign ns sign.Semicolon c g))
declared_told ns true s f u w x e d (other (got {u = p} y m (gave a))) = (item.Function (record { signature = s; body = y }), refl, item_at (ap (λ (z : Word). u ++ z) (sym (append-nil p))) (function_is d e m))
declared_told ns false s f u w x e d (took c g (gave a)) = (item.Prototype s, refl, prototype c d (is_sign ns sign.Semicolon c g))

pub sound_declared : (ns : Names) (b : Bool) (c : CType) (n : Token) (from : ℕ) → Holds ns (DeclaredOf b c n from)
unfolding form
sound_declared ns b c n from w x (took o e (got {u = p} ps m (took {w = z} s g d))) u v st ty i mf hs =
    let h = declared_told ns (list_all has_name ps) (signature b c n ps from s) (λ i. i) ((u ++ v) ++ (n ∷ (o ∷ (p ++ (s ∷ []))))) z x refl
    (signature_told ns b c n from u v p o s ps st ty i mf hs (is_sign ns sign.OpenParen o e) m (is_sign ns sign.CloseParen s g)) d in
    item_at (append_assoc (u ++ v) (n ∷ o ∷ (p ++ (s ∷ []))) z ∙ ap (λ (y : Word). (u ++ v) ++ (n ∷ o ∷ y)) (append_assoc p (s ∷ []) z)) (subst (λ (y : Item). ReadsItem ns (((u ++ v) ++ (n ∷ (o ∷ (p ++ (s ∷ []))))) ++ z) y) (sym h.1) h.2)

pub sound_typed_end : (ns : Names) (c : CType) → Holds ns (TypedEnd c)
unfolding form
sound_typed_end ns c w x (took n e (got {u = p} i m (gave a))) v ty =
    item_at (ap (λ (z : Word). v ++ (n ∷ z)) (sym (append-nil p))) (m [] v no_static ty (free_is_name n (is_int ns c) e) (λ h. free_name n (is_int ns c) e h) (λ z. start_is ns (n ∷ z) ty))

-- 4. Static items

variable_told : (ns : Names) {r : What} (t : Token) (c : CType) (n a : Token) (f : Item → tree_of r) (v w : Word) (x : tree_of r) → IsWord t keyword.Static → ReadsType ns true v c → is_object c ≡ true → IsName n → IsSign a sign.Assign
    → Told Meant (at ns r) (variable_behind ns c n f) w x → (i : Item) × (x ≡ f i) × ReadsItem ns (t ∷ (v ++ (n ∷ a ∷ w))) i
variable_told ns t c n a f v w x i d o j h (got {u = p} y m (took s g (gave b))) =
    (item.Variable (record { declared = c; name = name_at n; value = y }), refl, item_at (append_assoc (t ∷ v) (n ∷ a ∷ p) (s ∷ [])) (static_variable n a s i d o j h m (is_sign ns sign.Semicolon s g)))

-- a function with `static`
static_function : (ns : Names) (t : Token) (c : CType) (n : Token) (main : Bool) (v p : Word) (i : Item) → IsWord t keyword.Static → ReadsType ns true v c → IsName n → is_main n.bytes ≡ main → main ≡ false
    → Means ns (DeclaredOf true c n t.start) p i → ReadsItem ns (t ∷ (v ++ (n ∷ p))) i
static_function ns t c n main v p i s d j e f m = m (t ∷ []) v (is_static s) d j (λ h. absurd (true≢false (sym h ∙ e ∙ f))) (λ z. refl)

of_item : (ns : Names) {u : Word} (x i : Item) → x ≡ i → ReadsItem ns u i → ReadsItem ns u x
of_item ns {u = u} x i e d = subst (λ (y : Item). ReadsItem ns u y) (sym e) d

-- where no object can stand, `main` cannot
no_main : (object main : Bool) → object ≡ false → IfMust main object → main ≡ false
no_main object true e h = absurd (true≢false (sym (h refl) ∙ e))
no_main object false e h = refl

static_named_told : (ns : Names) (t : Token) (c : CType) (n : Token) (object main : Bool) (v w : Word) (x : Item) → IsWord t keyword.Static → ReadsType ns true v c → IsName n → is_object c ≡ object → is_main n.bytes ≡ main → IfMust main object
    → Told Meant (at ns (StaticEnd t c)) (static_named ns t c n object main) w x → ReadsItem ns (t ∷ (v ++ (n ∷ w))) x
static_named_told ns t c n true false v w x i d j o m f (one (took {w = z} a e b)) = let h = variable_told ns t c n a (λ i. i) v z x i d o j (is_sign ns sign.Assign a e) b in of_item ns x h.0 h.1 h.2
static_named_told ns t c n true false v w x i d j o m f (other (got {u = p} y l (gave a))) = item_at (ap (λ (z : Word). t ∷ (v ++ (n ∷ z))) (sym (append-nil p))) (static_function ns t c n false v p y i d j m refl l)
static_named_told ns t c n true true v w x i d j o m f (took {w = z} a e b) = let h = variable_told ns t c n a (λ i. i) v z x i d o j (is_sign ns sign.Assign a e) b in of_item ns x h.0 h.1 h.2
static_named_told ns t c n false main v w x i d j o m f (got {u = p} y l (gave a)) =
    item_at (ap (λ (z : Word). t ∷ (v ++ (n ∷ z))) (sym (append-nil p))) (static_function ns t c n main v p y i d j m (no_main false main refl f) l)

pub sound_static_end : (ns : Names) (t : Token) (c : CType) → Holds ns (StaticEnd t c)
unfolding form
sound_static_end ns t c w x (took {w = z} n e d) v i ty =
    static_named_told ns t c n (is_object c) (is_main n.bytes) v z x i ty (free_is_name n (is_object c) e) refl refl (free_name n (is_object c) e) d

-- 5. Tables of interfaces

null_told : (x : Terminal) → same Null (sort_of x) ≡ true → x ≡ Of (k.Constant constant.Null)
null_told (Of (k.Constant constant.Null)) e = refl
null_told (Of (k.Constant constant.True)) e = absurd (true≢false (sym e))
null_told _ e = absurd (true≢false (sym e))

is_null : (ns : Names) (t : Token) → on ns (is Null) (kind t) ≡ true → IsNull t
is_null ns t e = null_told t.terminal e

named_told : (w : List ℕ) (t : Token) → is_name_of w (kind t) ≡ true → IsNamed t w
named_told w t e = (is_name [] t (and_first (is_any_name (kind t)) (bytes_eq t.bytes w) e), same_bytes t.bytes w (and_second (is_any_name (kind t)) (bytes_eq t.bytes w) e))

pub sound_table_inside : (ns : Names) → Holds ns TableInside
unfolding form
sound_table_inside ns w x (took p e1 (took y e2 (took q e3 (took f e4 (took d e5 (took z e6 (took m e7 (took o e8 (gave j))))))))) t c i n a l r e g1 g2 g3 g4 g5 g6 g7 g8 =
    interface_table g1 g2 g3 g4 g5 g6 (is_sign ns sign.OpenParen p e1) (named_told (codes "GInterfaceInitFunc") y e2) (is_sign ns sign.CloseParen q e3) (is_name ns f e4) (is_sign ns sign.Comma d e5) (is_null ns z e6)
    (is_sign ns sign.Comma m e7) (is_null ns o e8) g7 g8

table_told : (ns : Names) {r : What} (t k i n a : Token) (f : Item → tree_of r) (w : Word) (x : tree_of r) → IsWord t keyword.Static → IsWord k keyword.Const → IsNamed i (codes "GInterfaceInfo") → IsName n → IsSign a sign.Assign
    → Told Meant (at ns r) (table_behind ns n f) w x → (y : Item) × (x ≡ f y) × ReadsItem ns (t ∷ k ∷ i ∷ n ∷ a ∷ w) y
table_told ns t k i n a f w x g1 g2 g3 g4 g5 (took l e (got g m (took s h (took c j (gave b))))) =
    (item.InterfaceTable (record { name = name_at n; init = name_at g }), refl, m t k i n a l s c g1 g2 g3 g4 g5 (is_sign ns sign.OpenBrace l e) (is_sign ns sign.CloseBrace s h) (is_sign ns sign.Semicolon c j))

info_value_told : (ns : Names) {r : What} (t k i n a : Token) (c : CType) (f : Item → tree_of r) (w : Word) (x : tree_of r) → IsWord t keyword.Static → IsWord k keyword.Const → IsNamed i (codes "GInterfaceInfo") → ReadsType ns true (k ∷ i ∷ []) c
    → is_object c ≡ true → IsName n → IsSign a sign.Assign → Told Meant (at ns r) (info_value ns c n f) w x → (y : Item) × (x ≡ f y) × ReadsItem ns (t ∷ k ∷ i ∷ n ∷ a ∷ w) y
info_value_told ns t k i n a c f w x g1 g2 g3 d o g4 g5 (one b) = table_told ns t k i n a f w x g1 g2 g3 g4 g5 b
info_value_told ns t k i n a c f w x g1 g2 g3 d o g4 g5 (other b) = variable_told ns t c n a f (k ∷ i ∷ []) w x g1 d o g4 g5 b

info_named_told : (ns : Names) (t k i n : Token) (c : CType) (object main : Bool) (w : Word) (x : Item) → IsWord t keyword.Static → IsWord k keyword.Const → IsNamed i (codes "GInterfaceInfo") → ReadsType ns true (k ∷ i ∷ []) c → IsName n
    → is_object c ≡ object → is_main n.bytes ≡ main → IfMust main object → Told Meant (at ns (InfoEnd t k i)) (info_named ns t k i n c object main) w x → ReadsItem ns (t ∷ k ∷ i ∷ n ∷ w) x
info_named_told ns t k i n c true false w x g1 g2 g3 d j o m f (one (took {w = z} a e b)) = let h = info_value_told ns t k i n a c (λ i. i) z x g1 g2 g3 d o j (is_sign ns sign.Assign a e) b in of_item ns x h.0 h.1 h.2
info_named_told ns t k i n c true false w x g1 g2 g3 d j o m f (other (got {u = p} y l (gave a))) =
    item_at (ap (λ (z : Word). t ∷ k ∷ i ∷ n ∷ z) (sym (append-nil p))) (static_function ns t c n false (k ∷ i ∷ []) p y g1 d j m refl l)
info_named_told ns t k i n c true true w x g1 g2 g3 d j o m f (took {w = z} a e b) = let h = info_value_told ns t k i n a c (λ i. i) z x g1 g2 g3 d o j (is_sign ns sign.Assign a e) b in of_item ns x h.0 h.1 h.2
info_named_told ns t k i n c false main w x g1 g2 g3 d j o m f (got {u = p} y l (gave a)) =
    item_at (ap (λ (z : Word). t ∷ k ∷ i ∷ n ∷ z) (sym (append-nil p))) (static_function ns t c n main (k ∷ i ∷ []) p y g1 d j m (no_main false main refl f) l)

-- a name as the base of a type
name_base : (ns : Names) (i : Token) → IsName i → can_be_type true (role_of ns i.bytes) ≡ true → BaseIs ns true i (base_of i)
name_base ns i e r = subst (λ (b : Base). BaseIs ns true i b) (ap (λ (x : Terminal). base_in x (name_at i)) (sym e)) (named_is e r)

bare_type : (ns : Names) (k i : Token) → IsWord k keyword.Const → IsName i → can_be_type true (role_of ns i.bytes) ≡ true → ReadsType ns true (k ∷ i ∷ []) (type_of (k ∷ []) i [] no_stars)
bare_type ns k i e j r = (ends_type (k ∷ []) i false [] [] no_stars no_const no_star no_must refl).reads ns true (more_const e no_const) (name_base ns i j r)

info_behind_told : (ns : Names) (t k i : Token) (b : Bool) (w : Word) (x : Item) → can_be_type true (role_of ns i.bytes) ≡ b → IsWord t keyword.Static → IsWord k keyword.Const → IsNamed i (codes "GInterfaceInfo")
    → Told Meant (at ns (InfoEnd t k i)) (info_behind ns t k i (type_of (k ∷ []) i [] no_stars) b) w x → ReadsItem ns (t ∷ k ∷ i ∷ w) x
info_behind_told ns t k i true w x r g1 g2 g3 (one (got {u = p} c m (got {u = q} y l (gave a)))) =
    item_at (ap (λ (z : Word). t ∷ k ∷ i ∷ (p ++ z)) (sym (append-nil q))) (l (k ∷ i ∷ p) g1 (m.reads ns true (more_const g2 no_const) (name_base ns i g3.0 r)))
info_behind_told ns t k i true w x r g1 g2 g3 (other (took {w = z} n e d)) =
    let c = type_of (k ∷ []) i [] no_stars in info_named_told ns t k i n c (is_object c) (is_main n.bytes) z x g1 g2 g3 (bare_type ns k i g2 g3.0 r) (free_is_name n (is_object c) e) refl refl (free_name n (is_object c) e) d
info_behind_told ns t k i false w x r g1 g2 g3 (took n e (took {w = z} a f d)) =
    let h = table_told ns t k i n a (λ i. i) z x g1 g2 g3 (is_name ns n e) (is_sign ns sign.Assign a f) d in of_item ns x h.0 h.1 h.2

pub sound_info_end : (ns : Names) (t k i : Token) → Holds ns (InfoEnd t k i)
unfolding form
sound_info_end ns t k i w x d g1 g2 g3 = info_behind_told ns t k i (can_be_type true (role_of ns i.bytes)) w x refl g1 g2 g3 d

static_type_told : (ns : Names) (t : Token) (u : Word) (b : Token) (w : Word) (x : Item) → IsWord t keyword.Static → ReadsConsts u (is_some_word u) → BaseIs ns true b (base_of b) → Told Meant (at ns (StaticRest t)) (static_type ns t u b) w x
    → ReadsItem ns (t ∷ (u ++ (b ∷ w))) x
static_type_told ns t u b w x i c d (got {u = p} y m (got {u = q} z l (gave a))) =
    item_at (ap (λ (y : Word). t ∷ y) (append_assoc u (b ∷ p) q ∙ ap (λ (y : Word). u ++ (b ∷ (p ++ y))) (sym (append-nil q)))) (l (u ++ (b ∷ p)) i (m.reads ns true c d))

info_or_type : (ns : Names) (i : Token) → is_info_or_type ns (kind i) ≡ true → (bytes_eq i.bytes (codes "GInterfaceInfo") || on ns (name_with (can_be_type true)) (kind i)) ≡ true
info_or_type ns i e = and_second (is_any_name (kind i)) (bytes_eq i.bytes (codes "GInterfaceInfo") || on ns (name_with (can_be_type true)) (kind i)) e

static_const_told : (ns : Names) (t k i : Token) (b : Bool) (w : Word) (x : Item) → bytes_eq i.bytes (codes "GInterfaceInfo") ≡ b → (b || on ns (name_with (can_be_type true)) (kind i)) ≡ true → IsName i → IsWord t keyword.Static → IsWord k keyword.Const
    → Told Meant (at ns (StaticRest t)) (static_const ns t k i b) w x → ReadsItem ns (t ∷ k ∷ i ∷ w) x
static_const_told ns t k i true w x e f j g1 g2 (got {u = p} y m (gave a)) = item_at (ap (λ (z : Word). t ∷ k ∷ i ∷ z) (sym (append-nil p))) (m g1 g2 (j, same_bytes i.bytes (codes "GInterfaceInfo") e))
static_const_told ns t k i false w x e f j g1 g2 d = static_type_told ns t (k ∷ []) i w x g1 (more_const g2 no_const) (name_base ns i j (is_name_with ns (can_be_type true) i f).1) d

pub sound_static_rest : (ns : Names) (t : Token) → Holds ns (StaticRest t)
unfolding form
sound_static_rest ns t w x (one (took k e (one (took {w = z} i f d)))) s =
    static_const_told ns t k i (bytes_eq i.bytes (codes "GInterfaceInfo")) z x refl (info_or_type ns i f)
    (is_name [] i (and_first (is_any_name (kind i)) (bytes_eq i.bytes (codes "GInterfaceInfo") || on ns (name_with (can_be_type true)) (kind i)) f)) s (is_word ns keyword.Const k e) d
sound_static_rest ns t w x (one (took k e (other (one (took l f (got {u = u} y m (took {w = z} b g d))))))) s =
    subst (λ (q : Word). ReadsItem ns (t ∷ k ∷ l ∷ (q ++ (b ∷ z))) x) m.same
    (static_type_told ns t (k ∷ l ∷ y) b z x s (more_const (is_word ns keyword.Const k e) (more_const (is_word ns keyword.Const l f) (consts_of m))) (base_told ns true b g) d)
sound_static_rest ns t w x (one (took k e (other (other (took {w = z} b g d))))) s =
    static_type_told ns t (k ∷ []) b z x s (more_const (is_word ns keyword.Const k e) no_const) (base_told ns true b (within ns is_key_base (is_base true) refl (kind b) g)) d
sound_static_rest ns t w x (other (took {w = z} b g d)) s = static_type_told ns t [] b z x s no_const (base_told ns true b g) d

-- 6. `typedef`

low_told : (w : List ℕ) → begins_low w ≡ true → w ≡ 95 ∷ behind_first w
low_told [] e = absurd (true≢false (sym e))
low_told (b ∷ w) e = ap (λ (a : ℕ). a ∷ w) (eqb-true b 95 e)

tag_is : (g : Token) → is_tag (kind g) ≡ true → IsName g × (g.bytes ≡ 95 ∷ behind_first g.bytes)
tag_is g e = (is_name [] g (and_first (is_any_name (kind g)) (begins_low g.bytes) e), low_told g.bytes (and_second (is_any_name (kind g)) (begins_low g.bytes) e))

function_type_told : (ns : Names) (t o s n c q y d : Token) (u p : Word) (r : CType) (ps : List Parameter) → IsWord t keyword.Typedef → IsType ns true false u r → IsSign o sign.OpenParen → IsSign s sign.Star → IsName n → IsSign c sign.CloseParen
    → IsSign q sign.OpenParen → AreParameters ns false p ps → IsSign y sign.CloseParen → IsSign d sign.Semicolon
    → ReadsItem ns (t ∷ (u ++ (o ∷ s ∷ n ∷ c ∷ q ∷ (p ++ (y ∷ d ∷ []))))) (item.FunctionType (signature false r n ps t.start y))
function_type_told ns t o s n c q y d u p r ps i m e f g h j l z b =
    subst (λ (x : Item). ReadsItem ns (t ∷ (u ++ (o ∷ s ∷ n ∷ c ∷ q ∷ (p ++ (y ∷ d ∷ []))))) x)
    (ap (λ (a : ℕ). item.FunctionType (record { is_static = false; result = r; name = name_at n; parameters = ps; span = record { start = t.start; «end» = a } })) ends)
    (item_at (append_assoc (t ∷ u) (o ∷ s ∷ n ∷ c ∷ q ∷ (p ++ (y ∷ []))) (d ∷ []) ∙ ap (λ (w : Word). t ∷ (u ++ (o ∷ s ∷ n ∷ c ∷ q ∷ w))) (append_assoc p (y ∷ []) (d ∷ [])))
    (function_type o s n c d i m.reads e f g h (l.reads q y j z) b))
  where
    ends : end_of 0 ((t ∷ u) ++ (o ∷ s ∷ n ∷ c ∷ q ∷ (p ++ (y ∷ [])))) ≡ y.end
    ends = ap (end_of 0) (sym (append_assoc (t ∷ u) (o ∷ s ∷ n ∷ c ∷ q ∷ p) (y ∷ []))) ∙ end_is 0 ((t ∷ u) ++ (o ∷ s ∷ n ∷ c ∷ q ∷ p)) y

pub sound_typedef : (ns : Names) (t : Token) → Holds ns (TypedefRest t)
unfolding form
sound_typedef ns t w x (one (took s e (took g f (took n h (took c j (gave a)))))) i =
    let y = tag_is g f in let z = named_told (behind_first g.bytes) n h in struct_type i (is_word ns keyword.Struct s e) (y.0, y.1 ∙ ap (λ (w : List ℕ). 95 ∷ w) (sym z.1)) z.0 (is_sign ns sign.Semicolon c j)
sound_typedef ns t w x (other (one (took s e (took l f (got {u = p} ms m (took r h (took n j (took c o (gave a))))))))) i =
    subst (λ (z : Word). ReadsItem ns (t ∷ s ∷ l ∷ (z ++ (r ∷ n ∷ c ∷ []))) (item.Enumeration (record { members = ms; name = name_at n }))) (sym m.same)
    (subst (λ (y : List Member). ReadsItem ns (t ∷ s ∷ l ∷ ((m.front ++ m.behind) ++ (r ∷ n ∷ c ∷ []))) (item.Enumeration (record { members = y; name = name_at n }))) (sym m.tree)
    (enum_is r n c i (is_word ns keyword.Enum s e) (is_sign ns sign.OpenBrace l f) m.first m.more (is_sign ns sign.CloseBrace r h) (is_name ns n j) (is_sign ns sign.Semicolon c o)))
sound_typedef ns t w x (other (other (got {u = u} r m (took o e (took s f (took n g (took c h (took q j (got {u = p} ps l (took y z (took d b (gave a)))))))))))) i = function_type_told ns t o s n c q y d u p r ps i m
    (is_sign ns sign.OpenParen o e) (is_sign ns sign.Star s f) (is_name ns n g) (is_sign ns sign.CloseParen c h) (is_sign ns sign.OpenParen q j) l (is_sign ns sign.CloseParen y z) (is_sign ns sign.Semicolon d b)

-- 7. Items

-- what stands at the beginning of a line where it must
line_of : (line : Bool) (ns : Names) (test : Set) (t : Token) → on ns (on_line line test) (kind t) ≡ true → IfMust line t.begins_line
line_of true ns test t e i = and_second (on ns test (kind t)) t.begins_line e
line_of false ns test t e i = absurd (true≢false (sym i))

of_line : (line : Bool) (ns : Names) (test : Set) (t : Token) → on ns (on_line line test) (kind t) ≡ true → on ns test (kind t) ≡ true
of_line line ns test t e = and_first (on ns test (kind t)) (not line || t.begins_line) e

file_told : (x : Terminal) → same File (sort_of x) ≡ true → x ≡ Header (file_in x)
file_told (Header f) e = refl
file_told (Of (k.Constant constant.Null)) e = absurd (true≢false (sym e))
file_told _ e = absurd (true≢false (sym e))

not_told : (b : Bool) → not b ≡ true → b ≡ false
not_told true e = absurd (true≢false (sym e))
not_told false e = refl

typed_item_told : (ns : Names) (line : Bool) (u : Word) (b : Token) (w : Word) (x : Item) → ReadsConsts u (is_some_word u) → BaseIs ns true b (base_of b) → Told Meant (at ns (ItemOf line)) (typed_item ns u b) w x → ReadsItem ns (u ++ (b ∷ w)) x
typed_item_told ns line u b w x c d (got {u = p} y m (got {u = q} z l (gave a))) =
    item_at (append_assoc u (b ∷ p) q ∙ ap (λ (y : Word). u ++ (b ∷ (p ++ y))) (sym (append-nil q))) (l (u ++ (b ∷ p)) (m.reads ns true c d))

pub sound_item : (ns : Names) (line : Bool) → Holds ns (ItemOf line)
unfolding form
sound_item ns line w x (one (took t e (took i f (took h g (gave a))))) = (
  includes (is_sign ns sign.Hash t (and_first (on ns (sign_is sign.Hash) (kind t)) t.begins_line e)) (and_second (on ns (sign_is sign.Hash) (kind t)) t.begins_line e)
      (named_told (codes "include") i (and_first (is_name_of (codes "include") (kind i)) (not i.begins_line) f)) (not_told i.begins_line (and_second (is_name_of (codes "include") (kind i)) (not i.begins_line) f)) (file_told h.terminal g),
  (λ j. and_second (on ns (sign_is sign.Hash) (kind t)) t.begins_line e),
)
sound_item ns line w x (other (one (took t e (got {u = p} i m (gave a))))) =
    (item_at (ap (λ (z : Word). t ∷ z) (sym (append-nil p))) (m (is_word ns keyword.Typedef t (of_line line ns (word_is keyword.Typedef) t e))), line_of line ns (word_is keyword.Typedef) t e)
sound_item ns line w x (other (other (one (took s e (took g f (took l h (got {u = p} fs m (took r j (took c o (gave a)))))))))) =
    let y = tag_is g f in (
      struct_is r c (is_word ns keyword.Struct s (of_line line ns (word_is keyword.Struct) s e)) y (is_sign ns sign.OpenBrace l h) m (is_sign ns sign.CloseBrace r j) (is_sign ns sign.Semicolon c o),
      line_of line ns (word_is keyword.Struct) s e,
    )
sound_item ns line w x (other (other (other (one (took t e (got {u = p} i m (gave a))))))) =
    (item_at (ap (λ (z : Word). t ∷ z) (sym (append-nil p))) (m (is_word ns keyword.Static t (of_line line ns (word_is keyword.Static) t e))), line_of line ns (word_is keyword.Static) t e)
sound_item ns line w x (other (other (other (other (one (took t e (got {u = u} y m (took {w = z} b f d)))))))) = (
  subst (λ (q : Word). ReadsItem ns (t ∷ (q ++ (b ∷ z))) x) m.same (typed_item_told ns line (t ∷ y) b z x (more_const (is_word ns keyword.Const t (of_line line ns (word_is keyword.Const) t e)) (consts_of m)) (base_told ns true b f) d),
  line_of line ns (word_is keyword.Const) t e,
)
sound_item ns line w x (other (other (other (other (other (took {w = z} b f d)))))) =
    (typed_item_told ns line [] b z x no_const (base_told ns true b (of_line line ns (is_base true) b f)) d, line_of line ns (is_base true) b f)

-- behind an included file the next line begins
ends_told : (a b : Bool) → IfMust a b → (not a || b) ≡ true
ends_told true b h = h refl
ends_told false b h = refl

pub sound_items : (ns : Names) (line : Bool) → Holds ns (ItemsOf line)
unfolding form
sound_items ns line w x (one (got {u = u} i m (got {u = p} is n (gave a)))) =
    (subst (λ (z : Word). ReadsItems ns (u ++ z) (i ∷ is)) (sym (append-nil p)) (more_items m.0 (ends_told (is_include i) (BeginsLine p) n.1) n.0), (λ l. item_line m.0 (p ++ []) ∙ m.1 l))
sound_items ns line w x (other (gave a)) = (no_item, (λ l. refl))
