-- Parameters by their steps.
use Rattle.std.proofs.Common.{◌≡◌, ℕ, suc, ◌≤◌, ◌<◌, is_some, ◌&&◌, Bool, true, false, if◌then◌else◌, List, [], ◌∷◌, ◌++◌, length, Option, Some}
use Rattle.std.proofs.Common.{None, refl, sym, ap, ◌∙◌, arith, append-nil}
use Rattle.std.specs.List.{list_all}
use Rattle.mending_readers.specs.Mending.{mend_then, mend_token, next_in}
use Rattle.c_lexer.specs.declared.token.Keyword.TheVariants as keyword
use Rattle.c_lexer.specs.declared.token.Sign.TheVariants as sign
use Rattle.c_tree.specs.declared.names.CType.{CType}
use Rattle.c_tree.specs.declared.names.Name.{Name}
use Rattle.c_tree.specs.declared.unit.Parameter.{Parameter}
use Rattle.c_tree.specs.Items.{has_name}
use Rattle.c_tree.specs.Names.{Names}
use Rattle.c_tree.specs.Words.{Token, Word}
use Rattle.c_grammar.specs.Sorts.{kind, on}
use Rattle.c_grammar.specs.Tests.{is, word_is, sign_is, goes_on_type}
use Rattle.c_grammar.specs.Laws.{c_limits}
use Rattle.c_grammar.specs.Mending.{made_up}
use Rattle.c_grammar.specs.Parts as part
use Rattle.c_grammar.specs.Trees as tree
use Rattle.c_grammar.specs.Grammar.{C, form, parameters_behind}
use Rattle.c_nodes.specs.Rows.{row_of}
use Rattle.c_cursor.specs.declared.sets.Set.TheVariants as set
use Rattle.c_nodes.specs.declared.token.Token.{Token as CodeToken}
use Rattle.c_nodes.specs.Seen.{seen}
use Rattle.c_cursor.specs.Gives.{seen_by}
use Rattle.c_parser.specs.Items.{texts}
use Rattle.c_cursor.specs.Sets.{is_in}
use Rattle.c_parser.specs.Pieces as piece
use Rattle.c_parser.specs.Pieces.{type_rest, pushed, parameter_then, first_base, first_type, named_texts, text_then}
use Rattle.c_cursor.specs.Reading.{Read, Place, one, is_next, read, way, give, first_then, behind}
use Rattle.c_parser.proofs.Thens.{then_just, then_assoc, way_same, behind_more}
use Rattle.c_parser.proofs.TypeRows.{seen_then, consts_go, rest_law}
use Rattle.c_parser.proofs.Walks.{Free, free_give, free_take, free_part, free_pick, free_where, run, then_same, by_form}

pub end_law : (e : ℕ) (ns : Names) (c : CType) (l : ℕ) (s : Place) → read e ns (part.ParameterEnd c) l s
    ≡ way ns set.Name s (mend_then (one e ns set.Name l s) (λ n z. Some (tree.named_parameter c n, z))) (Some (tree.unnamed_parameter c, s))
unfolding run form one is_next
end_law e ns c l s = by_form e ns (part.ParameterEnd c) l s (free_where (λ t. free_give) free_give)

-- one more parameter
pub pushed_law : (e : ℕ) (ns : Names) (ps : List Parameter) (c : CType) (l : ℕ) (s : Place) → pushed e ns ps c l s
    ≡ way ns set.Name s (mend_then (one e ns set.Name l s) (λ n z. Some (ps ++ tree.named_parameter c n ∷ [], z)))
    (Some (ps ++ tree.unnamed_parameter c ∷ [], s))
unfolding pushed one
pushed_law e ns ps c l s = ap (λ o. give (λ p. ps ++ p ∷ []) o) (end_law e ns c l s) ∙ go (is_next ns set.Name s)
  where
    go : (b : Bool) → give (λ p. ps ++ p ∷ []) (if b then mend_then (one e ns set.Name l s) (λ n z. Some (tree.named_parameter c n, z))
        else Some (tree.unnamed_parameter c, s))
        ≡ (if b then mend_then (one e ns set.Name l s) (λ n z. Some (ps ++ tree.named_parameter c n ∷ [], z))
        else Some (ps ++ tree.unnamed_parameter c ∷ [], s))
    go true = refl
    go false = refl

parameter_law : (e : ℕ) (ns : Names) (l : ℕ) (s : Place) → read e ns part.ParameterOf l s
    ≡ mend_then (read e ns (part.AnyType true true) l s) (λ c z. read e ns (part.ParameterEnd c) l z)
unfolding run form read
parameter_law e ns l s = by_form e ns part.ParameterOf l s (free_part (λ c. free_part (λ p. free_give)))
    ∙ then_same (read e ns (part.AnyType true true) l s) _ _ (λ c z. then_just (read e ns (part.ParameterEnd c) l z))

pub more_parameters_law : (e : ℕ) (ns : Names) (l : ℕ) (s : Place) → read e ns part.MoreParameters l s
    ≡ way ns (set.Sign sign.Comma) s (mend_then (one e ns (set.Sign sign.Comma) l s)
    (λ t z. mend_then (read e ns (part.AnyType true true) l z) (λ c y. parameter_then e ns c l y))) (Some ([], s))
unfolding run form one is_next read first_then parameter_then
more_parameters_law e ns l s =
    let v : Token × Place = mend_token C (made_up e) c_limits l 0 (is_in (set.Word keyword.Void) ns) [] s in
    by_form e ns part.MoreParameters l s (free_where (λ t. free_part (λ p. free_part (λ ps. free_give))) free_give)
    ∙ way_same (next_in kind (on ns (sign_is sign.Comma)) s)
    (ap (λ o. mend_then o (λ p z. first_then p (read e ns part.MoreParameters l z))) (parameter_law e ns l _)
    ∙ then_assoc (read e ns (part.AnyType true true) l _) _ _) refl

abbrev behind_by : ℕ → Names → ℕ → Read (List Parameter) → Read (List Parameter)
behind_by e ns l None = None
behind_by e ns l (Some r) = behind r.0 (read e ns part.MoreParameters l r.1)

-- a parameter that was pushed is one of those behind
pub push_step : (e : ℕ) (ns : Names) (ps qs : List Parameter) (c : CType) (l : ℕ) (s z : Place) → pushed e ns ps c l s ≡ Some (qs, z)
    → behind ps (parameter_then e ns c l s) ≡ behind qs (read e ns part.MoreParameters l z)
unfolding pushed parameter_then
push_step e ns ps qs c l s z h = go (read e ns (part.ParameterEnd c) l s) h
  where
    go : (o : Read Parameter) → give (λ p. ps ++ p ∷ []) o ≡ Some (qs, z)
        → behind ps (mend_then o (λ p w. first_then p (read e ns part.MoreParameters l w))) ≡ behind qs (read e ns part.MoreParameters l z)
    go None h = absurd cc
    go (Some x) h = behind_more ps x.0 (read e ns part.MoreParameters l x.1) ∙ ap (behind_by e ns l) h

free_behind : (ns : Names) (c : CType) → Free (parameters_behind ns c)
free_behind ns c = free_part (λ p. free_part (λ ps. free_give))

run_behind : (e : ℕ) (ns : Names) (c : CType) (l : ℕ) (s : Place)
    → run e (parameters_behind ns c) l s ≡ mend_then (pushed e ns [] c l s) (λ ps z. behind ps (read e ns part.MoreParameters l z))
unfolding run read pushed behind
run_behind e ns c l s = sym (then_assoc (read e ns (part.ParameterEnd c) l s) _ _)

free_parameters : (ns : Names) (main : Bool) → Free (form ns (part.ParametersOf main))
unfolding form
free_parameters ns true = free_part (λ c. free_part (λ p. free_take (λ n b. refl) (λ m. free_part (λ d. free_part (λ q. free_give)))))
free_parameters ns false =
    free_where (λ t. free_pick (free_part (λ c. free_behind ns c)) free_give)
    (free_where (λ t. free_part (λ u. free_take (λ n b. refl) (λ x. free_part (λ c. free_behind ns c))))
    (free_take (λ n b. refl) (λ x. free_part (λ c. free_behind ns c))))

-- 1. The parameters of `main`

pub main_law : (e : ℕ) (ns : Names) (l : ℕ) (s : Place) → read e ns (part.ParametersOf true) l s
    ≡ mend_then (read e ns part.IntType l s) (λ c z. mend_then (pushed e ns [] c l z)
    (λ ps y. mend_then (one e ns (set.Sign sign.Comma) l y) (λ m w. mend_then (read e ns part.TextsType l w) (λ d v. pushed e ns ps d l v))))
unfolding run form one read pushed
main_law e ns l s = by_form e ns (part.ParametersOf true) l s (free_parameters ns true)
    ∙ then_same (read e ns part.IntType l s) _ _ (λ c z. sym (then_assoc (read e ns (part.ParameterEnd c) l z) _ _))

-- 2. Other parameters

-- behind a base
base_go : (e : ℕ) (ns : Names) (u : Word) (t : Token) (must : Bool) (l : ℕ) (s : Place)
    → mend_then (read e ns (part.TypeRest u t must) l s) (λ c z. run e (parameters_behind ns c) l z)
    ≡ mend_then (give Some (type_rest e ns (row_of u) t must l s)) (λ o z. piece.parameters_behind e ns o l z)
base_go e ns u t must l s =
    ap (λ o. mend_then o (λ c z. run e (parameters_behind ns c) l z)) (rest_law e ns u t must l s)
    ∙ then_same (type_rest e ns (row_of u) t must l s) _ _ (λ c z. run_behind e ns c l z)
    ∙ sym (then_assoc (type_rest e ns (row_of u) t must l s) _ _)

-- behind `const` or without it
abbrev base_by : ℕ → Names → ℕ → Word → Place → Read (List Parameter)
base_by e ns l [] s = mend_then (one e ns set.OtherBase l s)
    (λ b z. mend_then (read e ns (part.TypeRest [] b false) l z) (λ c y. run e (parameters_behind ns c) l y))
base_by e ns l (t ∷ u) s = mend_then (one e ns (set.Base true) l s)
    (λ b z. mend_then (read e ns (part.TypeRest (t ∷ u) b (tree.is_void b)) l z) (λ c y. run e (parameters_behind ns c) l y))

by_row : (e : ℕ) (ns : Names) (l : ℕ) (u : Word) (s : Place)
    → base_by e ns l u s ≡ mend_then (first_base e ns (row_of u) l s) (λ o z. piece.parameters_behind e ns o l z)
unfolding one
by_row e ns l [] s = base_go e ns [] _ false l _
by_row e ns l (t ∷ u) s = base_go e ns (t ∷ u) _ _ l _

-- behind `void`
void_go : (e : ℕ) (ns : Names) (t : Token) (l : ℕ) (s : Place)
    → (if next_in kind (on ns goes_on_type) s then mend_then (read e ns (part.TypeRest [] t true) l s) (λ c z. run e (parameters_behind ns c) l z)
    else Some ([], s))
    ≡ mend_then (way ns set.TypeMore s (give Some (type_rest e ns None t true l s)) (Some (None, s))) (λ o z. piece.parameters_behind e ns o l z)
unfolding is_next
void_go e ns t l s = go (next_in kind (on ns goes_on_type) s) (base_go e ns [] t true l s)
  where
    go : (b : Bool) → mend_then (read e ns (part.TypeRest [] t true) l s) (λ c z. run e (parameters_behind ns c) l z)
        ≡ mend_then (give Some (type_rest e ns None t true l s)) (λ o z. piece.parameters_behind e ns o l z)
        → (if b then mend_then (read e ns (part.TypeRest [] t true) l s) (λ c z. run e (parameters_behind ns c) l z) else Some ([], s))
        ≡ mend_then (if b then give Some (type_rest e ns None t true l s) else Some (None, s)) (λ o z. piece.parameters_behind e ns o l z)
    go true h = h
    go false h = refl

pub parameters_law : (e : ℕ) (ns : Names) (l : ℕ) (s : Place)
    → read e ns (part.ParametersOf false) l s ≡ mend_then (first_type e ns l s) (λ o z. piece.parameters_behind e ns o l z)
unfolding run form one is_next read first_type
parameters_law e ns l s =
    let v : Token × Place = mend_token C (made_up e) c_limits l 0 (is_in (set.Word keyword.Void) ns) [] s in
    by_form e ns (part.ParametersOf false) l s (free_parameters ns false)
    ∙ way_same (next_in kind (on ns (word_is keyword.Void)) s) (void_go e ns v.0 l v.1) (consts_go e ns l s (base_by e ns l) ∙ consts_rows)
    ∙ go (next_in kind (on ns (word_is keyword.Void)) s) (way ns set.TypeMore v.1 (give Some (type_rest e ns None v.0 true l v.1)) (Some (None, v.1)))
    (mend_then (seen_by row_of (read e ns part.Consts l s)) (λ r z. first_base e ns r l z))
  where
    consts_rows : mend_then (read e ns part.Consts l s) (base_by e ns l)
        ≡ mend_then (mend_then (seen_by row_of (read e ns part.Consts l s)) (λ r z. first_base e ns r l z)) (λ o z. piece.parameters_behind e ns o l z)
    consts_rows = then_same (read e ns part.Consts l s) _ _ (λ u z. by_row e ns l u z) ∙ sym (then_assoc (read e ns part.Consts l s) _ _)
        ∙ ap (λ o. mend_then o (λ x z. piece.parameters_behind e ns x l z)) (sym (seen_then row_of (read e ns part.Consts l s) _))

    go : (b : Bool) (a c : Read (Option CType)) → (if b then mend_then a (λ o z. piece.parameters_behind e ns o l z)
        else mend_then c (λ o z. piece.parameters_behind e ns o l z))
        ≡ mend_then (if b then a else c) (λ o z. piece.parameters_behind e ns o l z)
    go true a c = refl
    go false a c = refl

-- 3. Names of parameters

pub texts_more : (ps : List Parameter) (p : Parameter) → named_texts (ps ++ p ∷ []) ≡ named_texts ps ++ named_texts (p ∷ [])
texts_more [] p = refl
texts_more (q ∷ ps) p = go q.name (texts_more ps p)
  where
    go : (o : Option Name) → named_texts (ps ++ p ∷ []) ≡ named_texts ps ++ named_texts (p ∷ [])
        → text_then o (named_texts (ps ++ p ∷ [])) ≡ text_then o (named_texts ps) ++ named_texts (p ∷ [])
    go None h = h
    go (Some n) h = ap (λ ws. n.text ∷ ws) h

pub texts_short : (ps : List Parameter) → length (named_texts ps) ≤ length ps
texts_short [] = omega arith
texts_short (p ∷ ps) = go p.name (texts_short ps)
  where
    go : (o : Option Name) → length (named_texts ps) ≤ length ps → length (text_then o (named_texts ps)) ≤ suc (length ps)
    go None h = omega arith
    go (Some n) h = omega arith

pub all_named : (ps : List Parameter) → length ps ≡ length (named_texts ps) → list_all has_name ps ≡ true
all_named [] e = refl
all_named (p ∷ ps) e = go p.name refl e (λ h. all_named ps h)
  where
    go : (o : Option Name) → p.name ≡ o → suc (length ps) ≡ length (text_then o (named_texts ps))
        → (length ps ≡ length (named_texts ps) → list_all has_name ps ≡ true) → list_all has_name (p ∷ ps) ≡ true
    go None is h more = let short = texts_short ps in absurd (omega (arith, short))
    go (Some n) is h more = ap (λ o. is_some o && list_all has_name ps) is ∙ more (omega arith)

pub some_unnamed : (ps : List Parameter) → length (named_texts ps) < length ps → list_all has_name ps ≡ false
some_unnamed [] e = absurd (omega arith)
some_unnamed (p ∷ ps) e = go p.name refl e (λ h. some_unnamed ps h)
  where
    go : (o : Option Name) → p.name ≡ o → length (text_then o (named_texts ps)) < suc (length ps)
        → (length (named_texts ps) < length ps → list_all has_name ps ≡ false) → list_all has_name (p ∷ ps) ≡ false
    go None is h more = ap (λ o. is_some o && list_all has_name ps) is
    go (Some n) is h more = ap (λ o. is_some o && list_all has_name ps) is ∙ more (omega arith)

pub code_texts_more : (ts : List CodeToken) (t : CodeToken) → texts (ts ++ t ∷ []) ≡ texts ts ++ t.text.now ∷ []
code_texts_more [] t = refl
code_texts_more (x ∷ ts) t = ap (λ ws. x.text.now ∷ ws) (code_texts_more ts t)

-- a parameter with a name, and one without
pub named_push : (ps : List Parameter) (ts : List CodeToken) (c : CType) (t : CodeToken) → named_texts ps ≡ texts ts → (seen t).bytes ≡ t.text.now
    → named_texts (ps ++ tree.named_parameter c (seen t) ∷ []) ≡ texts (ts ++ t ∷ [])
named_push ps ts c t h b = texts_more ps (tree.named_parameter c (seen t)) ∙ ap (λ ws. ws ++ (seen t).bytes ∷ []) h ∙ ap (λ w. texts ts ++ w ∷ []) b
    ∙ sym (code_texts_more ts t)

pub unnamed_push : (ps : List Parameter) (c : CType) → named_texts (ps ++ tree.unnamed_parameter c ∷ []) ≡ named_texts ps
unnamed_push ps c = texts_more ps (tree.unnamed_parameter c) ∙ append-nil (named_texts ps)

pub ruleset push_laws = (pushed_law, named_push, unnamed_push)
