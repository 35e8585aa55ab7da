-- Each part has a text: a way through its form, on which only cheaper parts are asked for.
use Rattle.std.proofs.Common.{◌≡◌, ℕ, zero, suc, ◌<◌, Bool, true, false, List, [], ◌∷◌, ◌++◌, Option, Some, None, refl, ap, ◌∙◌, arith, nat_lt, ltb-true}
use Rattle.predictive_grammar.specs.Forms.{Form, give, take, part, pick, bar}
use Rattle.predictive_grammar.specs.Follows.{Word, Follows, given, taken, read, first, second, kept, Reads}
use Rattle.vala_lexer.specs.Tokens.{Lexeme}
use Rattle.vala_tree.specs.declared.names.TypeTree.{TypeTree}
use Rattle.vg_base.specs.declared.event.Span.{Span}
use Rattle.vala_tree.specs.declared.member.Modifier.{Modifier}
use Rattle.vala_grammar.specs.Label.{Label}
use Rattle.vala_grammar.specs.declared.sort.Sort.{Sort}
use Rattle.vala_grammar.specs.declared.parts.TypeName.{TypeName}
use Rattle.vala_grammar.specs.declared.sort.Sort.TheVariants as s
use Rattle.vala_grammar.specs.declared.parts.TypeName.TheVariants as type_name
use Rattle.vala_grammar.proofs.Texts as code
use Rattle.vala_file_grammar.specs.declared.kind.Special.TheVariants as special
use Rattle.vala_file_grammar.specs.Kinds.{Base, Kind, kind, Of, Word as Worded}
use Rattle.vala_file_grammar.specs.Heads.{HeadKind, AClass, AField, AProperty, ASignal, AConstruct, Another, first_wrong, async_in, may_follow, may_follow_in_struct, any_follows}
use Rattle.vala_file_grammar.specs.Parts.{Place, Outside, Inside, Owner, Plain, Async, Signal, Bodied, Method, InterfaceMethod, Accessing, FilePart, file_tree_of, Code, File, Usings, MoreUsings, FileMembers, Members, MemberOf, Attributes, Modifiers, MoreModifiers, AttributeOf, AttributeBody, AttributeArguments, MoreAttributeArguments, DeclarationOf, NamespaceOf, ClassOf, StructOf, EnumOf, ErrorsOf, DelegateOf, ConstantOf, DestructorOf, SignalOf, TypeEnd, NamedBy, Typed, CreationOf, Bases, ThrowsOf, TypeList, Fields, FieldOf, MoreField, EnumItems, MoreEnumItems, EnumItem, ErrorCodes, MoreErrorCodes, NextErrorCode, Parameters, MoreParameters, ParameterOf, ParameterType, ParameterName, BodyOf, Accessors, AccessorOf, AccessorWords}
use Rattle.vala_file_grammar.specs.Embed.{F}
use Rattle.vala_file_grammar.specs.Grammar.{forms, where_some, where_right, named_by}
use Rattle.vala_file_grammar.proofs.Finite.{sample, shape, is_sample, named_sample}
use Rattle.vala_file_grammar.proofs.FitDeclarations.{names_itself}
use Rattle.vala_file_grammar.proofs.Embedded.{text_code}

-- how dear a text of each part is: more than those of the parts in it
abbrev cost : FilePart → ℕ
cost File = 2
cost (Usings _) = 1
cost (MoreUsings _) = 2
cost (MemberOf _) = 6
cost (Attributes _ _) = 6
cost (Modifiers _ _ _) = 5
cost (MoreModifiers _ _ _) = 6
cost AttributeOf = 3
cost (AttributeBody _) = 2
cost (AttributeArguments _) = 1
cost (DeclarationOf _ _) = 4
cost (NamespaceOf _) = 1
cost (ClassOf _ _) = 1
cost (StructOf _) = 1
cost (EnumOf _) = 1
cost (ErrorsOf _) = 2
cost (DelegateOf _) = 1
cost (ConstantOf _) = 1
cost (DestructorOf _ _) = 1
cost (SignalOf _) = 1
cost (NamedBy _ _ _) = 3
cost (Typed _ _ _ _) = 1
cost (CreationOf _) = 1
cost (TypeList _) = 1
cost (FieldOf _) = 1
cost (MoreField _) = 2
cost (ErrorCodes _) = 1
cost (ParameterOf _) = 2
cost (ParameterType _) = 1
cost AccessorOf = 2
cost (AccessorWords _) = 1
cost _ = 0

abbrev Found : (r : FilePart) → Form F r → ℕ → Type 0
Found r form l = (w : Word F) × (a : file_tree_of r) × Follows F forms None r form l w a

data Way (r : FilePart) : Form F r → Type 0 where
  end : {a : file_tree_of r} → Way r (give a)
  by_token : {up : ℕ → ℕ} {items : ℕ} {test : Kind → Bool} {k : Lexeme → Form F r} (x : Base) → test (shape x) ≡ true → Way r (k (sample x)) → Way r (take up items test k)
  by_name : {up : ℕ → ℕ} {items : ℕ} {test : Kind → Bool} {k : Lexeme → Form F r} (t : Lexeme) → test (kind t) ≡ true → Way r (k t) → Way r (take up items test k)
  by_text : {up : ℕ → ℕ} {q : FilePart} {k : file_tree_of q → Form F r} → nat_lt (cost q) (cost r) ≡ true → ((b : file_tree_of q) → Way r (k b)) → Way r (part up q k)
  one : {test : Kind → Bool} {a b : Form F r} → Way r a → Way r (pick test a b)
  other : {test : Kind → Bool} {a b : Form F r} → Way r b → Way r (pick test a b)
  on : {left : Kind → Bool} {e : Label} {k : Form F r} → Way r k → Way r (bar left e k)
  known : {form : Form F r} → ((l : ℕ) → Found r form l) → Way r form

follow : {r : FilePart} {form : Form F r} → Way r form → ((q : FilePart) (l : ℕ) → cost q < cost r → Found q (forms q) l) → (l : ℕ) → Found r form l
follow (end {a = a}) texts l = ([], a, given a)
follow (by_token {up = up} {items = items} {test = test} x e way) texts l =
    let f = follow way texts l in (record { token = sample x; level = up l; items = items } ∷ f.0, f.1, taken (sample x) (ap test (is_sample x) ∙ e) f.2)
follow (by_name {up = up} {items = items} t e way) texts l = let f = follow way texts l in (record { token = t; level = up l; items = items } ∷ f.0, f.1, taken t e f.2)
follow {r = r} (by_text {up = up} {q = q} e way) texts l =
    let g = texts q (up l) (ltb-true (cost q) (cost r) e) in let f = follow (way g.1) texts l in (g.0 ++ f.0, f.1, read g.2 f.2)
follow (one way) texts l = let f = follow way texts l in (f.0, f.1, first f.2)
follow (other way) texts l = let f = follow way texts l in (f.0, f.1, second f.2)
follow (on way) texts l = let f = follow way texts l in (f.0, f.1, kept f.2)
follow (known find) texts l = find l

-- beside a token that tells the kind of a declaration, or is barred
way_told : {r : FilePart} (k : Lexeme → Form F r) {rest : Form F r} (h : HeadKind) (o : Option Modifier) (x : Sort) → Way r rest → Way r (where_right h o x k rest)
way_told k h None x way = other way
way_told k h (Some m) x way = on way

way_some : {r : FilePart} (test : Kind → Bool) (k : Lexeme → Form F r) {rest : Form F r} (b : Bool) → Way r rest → Way r (where_some b test k rest)
way_some test k true way = other way
way_some test k false way = way

-- a method
way_typed : (y : Place) (ms : List Modifier) (t : TypeTree) (n : Lexeme) → Way (Typed y ms t n) (forms (Typed y ms t n))
unfolding forms
way_typed Outside ms t n =
    way_told _ AField (first_wrong AField ms) s.Semicolon (way_told _ AField (first_wrong AField ms) s.Assign
    (by_token (Of s.OpenParen) refl (by_text refl (λ ps. by_text refl (λ ts. by_text refl (λ a. end))))))
way_typed (Inside i c) ms t n =
    on (way_told _ AField (first_wrong AField ms) s.Semicolon (way_told _ AField (first_wrong AField ms) s.Assign (way_told _ AProperty (first_wrong AProperty ms) s.OpenBrace
    (by_token (Of s.OpenParen) refl (by_text refl (λ ps. by_text refl (λ ts. by_text refl (λ a. end))))))))

way_named : (y : Place) (ms : List Modifier) (t : TypeTree) (o : Option Span) → Way (NamedBy y ms t) (named_by y ms t o)
way_named y ms t None = on (by_token (Of s.Identifier) refl (by_text refl (λ a. end)))
way_named y ms t (Some z) = on (on (by_token (Of s.Identifier) refl (by_text refl (λ a. end))))

-- what is `void`
way_declaration : (y : Place) (ms : List Modifier) → Way (DeclarationOf y ms) (forms (DeclarationOf y ms))
unfolding forms
way_declaration Outside ms =
    way_told _ Another (first_wrong Another ms) s.Namespace (way_told _ AClass (first_wrong AClass ms) s.Class (way_told _ Another (first_wrong Another ms) s.Interface
    (way_told _ Another (first_wrong Another ms) s.Struct (way_told _ Another (first_wrong Another ms) s.Enum (way_told _ Another (first_wrong Another ms) s.Errordomain
    (way_told _ Another (first_wrong Another ms) s.Delegate (way_told _ Another (first_wrong Another ms) s.Const
    (other (one (by_token (Of s.Void) refl (by_text refl (λ a. end))))))))))))
way_declaration (Inside i c) ms =
    way_told _ Another (first_wrong Another ms) s.Const (way_told _ Another (first_wrong Another ms) s.Tilde (way_told _ ASignal (first_wrong ASignal ms) s.Signal
    (way_told _ AConstruct (first_wrong AConstruct ms) s.Construct (other (one (by_token (Of s.Void) refl (by_text refl (λ a. end))))))))

way_parameter : (w : Owner) → Way (ParameterOf w) (forms (ParameterOf w))
unfolding forms
way_parameter Plain = other (by_text refl (λ a. end))
way_parameter Async = on (by_text refl (λ a. end))
way_parameter Signal = on (other (by_text refl (λ y. by_text refl (λ a. end))))

way_body : (b : Bodied) → Way (BodyOf b) (forms (BodyOf b))
unfolding forms
way_body Method = one (by_token (Of s.Semicolon) refl end)
way_body InterfaceMethod = on (by_token (Of s.Semicolon) refl end)
way_body Accessing = on (one (by_token (Of s.Semicolon) refl end))

way_type_end : (n : TypeName) → Way (TypeEnd n) (forms (TypeEnd n))
unfolding forms
way_type_end (type_name.Single n) = other end
way_type_end (type_name.Array n c) = other end

ways : (p : FilePart) → Way p (forms p)
unfolding forms
ways (Code p) = known (λ l. let f = code.some p l in (f.0, f.1, text_code f.2))
ways File = by_text refl (λ a. end)
ways (Usings us) = other (by_text refl (λ a. end))
ways (MoreUsings us) = other (by_token (Of s.Semicolon) refl (by_text refl (λ a. end)))
ways (FileMembers us ms) = on (other end)
ways (Members y ms) = on (one (by_token (Of s.CloseBrace) refl end))
ways (MemberOf y) = other (by_text refl (λ a. end))
ways (Attributes y xs) = on (other (by_text refl (λ a. end)))
ways (Modifiers y xs ms) = on (way_some _ _ (any_follows may_follow ms) (by_text refl (λ a. end)))
ways (MoreModifiers y xs ms) = on (by_text refl (λ a. end))
ways AttributeOf = by_token (Of s.OpenBracket) refl (by_text refl (λ a. end))
ways (AttributeBody o) = on (by_token (Worded special.CCode) refl (by_token (Of s.OpenParen) refl (by_text refl (λ xs. by_token (Of s.CloseBracket) refl end))))
ways (AttributeArguments xs) = on (one (by_token (Worded special.HeaderFilename) refl (by_token (Of s.Assign) refl (by_token (Of s.Text) refl (by_text refl (λ a. end))))))
ways (MoreAttributeArguments xs) = other (by_token (Of s.CloseParen) refl end)
ways (DeclarationOf y ms) = way_declaration y ms
ways (NamespaceOf t) = by_text refl (λ n. by_token (Of s.OpenBrace) refl (by_text refl (λ a. end)))
ways (ClassOf i t) = by_text refl (λ n. by_text refl (λ bs. by_token (Of s.OpenBrace) refl (by_text refl (λ a. end))))
ways (StructOf t) = by_text refl (λ n. by_token (Of s.OpenBrace) refl (by_text refl (λ a. end)))
ways (EnumOf t) = by_text refl (λ n. by_token (Of s.OpenBrace) refl (by_text refl (λ a. end)))
ways (ErrorsOf t) = by_text refl (λ n. by_token (Of s.OpenBrace) refl (by_text refl (λ a. end)))
ways (DelegateOf t) =
    by_text refl (λ y. on (by_token (Of s.Identifier) refl (by_token (Of s.OpenParen) refl (by_text refl (λ ps. by_text refl (λ ts. by_token (Of s.Semicolon) refl end))))))
ways (ConstantOf t) = by_text refl (λ y. on (by_token (Of s.Identifier) refl (by_token (Of s.Assign) refl (on (by_text refl (λ v. by_token (Of s.Semicolon) refl end))))))
ways (DestructorOf c t) = by_name (named_sample c) (names_itself c) (by_token (Of s.OpenParen) refl (by_token (Of s.CloseParen) refl (by_text refl (λ a. end))))
ways (SignalOf t) = on (by_token (Of s.Void) refl (on (by_token (Of s.Identifier) refl (by_token (Of s.OpenParen) refl (by_text refl (λ ps. by_text refl (λ a. end)))))))
ways (TypeEnd n) = way_type_end n
ways (NamedBy y ms t) = way_named y ms t (async_in ms)
ways (Typed y ms t n) = way_typed y ms t n
ways (CreationOf n) = by_text refl (λ ps. by_text refl (λ ts. by_text refl (λ a. end)))
ways Bases = other end
ways ThrowsOf = other end
ways (TypeList ys) = by_text refl (λ y. on (other end))
ways (Fields ms) = on (one (by_token (Of s.CloseBrace) refl end))
ways (FieldOf ms) = way_some _ _ (any_follows may_follow_in_struct ms) (by_text refl (λ y. on (by_token (Of s.Identifier) refl (on (by_token (Of s.Semicolon) refl end)))))
ways (MoreField ms) = on (by_text refl (λ a. end))
ways (EnumItems xs) = one (by_token (Of s.CloseBrace) refl end)
ways (MoreEnumItems xs) = other (by_token (Of s.CloseBrace) refl end)
ways EnumItem = by_token (Of s.Identifier) refl (other end)
ways (ErrorCodes xs) = by_token (Of s.Identifier) refl (by_text refl (λ a. end))
ways (MoreErrorCodes xs) = other (by_token (Of s.CloseBrace) refl end)
ways (NextErrorCode xs) = one (by_token (Of s.CloseBrace) refl end)
ways (Parameters w) = one (by_token (Of s.CloseParen) refl end)
ways (MoreParameters w ps) = other (by_token (Of s.CloseParen) refl end)
ways (ParameterOf w) = way_parameter w
ways (ParameterType d) = by_text refl (λ y. by_text refl (λ a. end))
ways (ParameterName d y) = on (by_token (Of s.Identifier) refl (other end))
ways (BodyOf b) = way_body b
ways (Accessors xs) = on (one (by_token (Of s.CloseBrace) refl end))
ways AccessorOf = other (other (by_text refl (λ a. end)))
ways (AccessorWords m) = other (one (by_token (Worded special.Get) refl (by_text refl (λ a. end))))

below : (n : ℕ) (p : FilePart) (l : ℕ) → cost p < n → Found p (forms p) l
below zero p l lt = absurd (omega arith)
below (suc n) p l lt = follow (ways p) (λ q l less. below n q l (omega arith)) l

pub some : (p : FilePart) (l : ℕ) → (w : Word F) × (a : file_tree_of p) × Reads F forms None p l w a
some p l = below (suc (cost p)) p l (omega arith)
