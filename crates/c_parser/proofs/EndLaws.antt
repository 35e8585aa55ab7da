-- The scope of a function, and how it ends.
use Rattle.std.proofs.Common.{◌≡◌, ◌≢◌, ℕ, zero, suc, ◌-◌, ◌≤◌, ◌==◌, ◌&&◌, Bool, true, false, if◌then◌else◌, List, [], ◌∷◌, length, drop}
use Rattle.std.proofs.Common.{Some, refl, sym, ap, ◌∙◌, eqb-true, arith}
use Rattle.std.specs.List.{list_all}
use Rattle.mending_readers.specs.Mending.{mend_then}
use Rattle.c_lexer.specs.declared.token.Sign.TheVariants as sign
use Rattle.c_tree.specs.declared.unit.Item.{Item}
use Rattle.c_tree.specs.declared.unit.Item.TheVariants as item
use Rattle.c_tree.specs.declared.unit.Parameter.{Parameter}
use Rattle.c_tree.specs.declared.unit.Signature.{Signature}
use Rattle.c_tree.specs.declared.names.CType.{CType}
use Rattle.c_tree.specs.Items.{has_name}
use Rattle.c_tree.specs.Make.{name_at}
use Rattle.c_tree.specs.Words.{Token}
use Rattle.c_tree.specs.Names.{Names, FunctionName, VariableName, declared, is_an_int, is_int, meaning_of_base, with_parameters}
use Rattle.c_grammar.specs.Sorts.{kind}
use Rattle.c_grammar.specs.Tests.{is_main}
use Rattle.c_grammar.specs.Trees as tree
use Rattle.c_cursor.specs.Sets.{is_in}
use Rattle.c_cursor.specs.Steps.{is_base_token}
use Rattle.c_grammar.specs.Parts as part
use Rattle.c_cursor.specs.declared.sets.Set.TheVariants as set
use Rattle.c_cursor.specs.Reading.{Read, Place, one, is_next, read}
use Rattle.c_parser.specs.Items.{with_texts}
use Rattle.c_parser.specs.Pieces as piece
use Rattle.c_parser.specs.Pieces.{named_texts}
use Rattle.c_parser.proofs.ItemLaws.{declared_law, int_law, with_parameters_texts}

-- behind what was dropped
drop_next : {A : Type 0} (k : ℕ) (xs : List A) (y : A) (ys : List A) → drop k xs ≡ y ∷ ys → drop (suc k) xs ≡ ys
drop_next zero [] y ys e = absurd cc
drop_next zero (x ∷ xs) y ys e = ap (drop 1) e
drop_next (suc k) [] y ys e = absurd cc
drop_next (suc k) (x ∷ xs) y ys e = drop_next k xs y ys e

more : (ns : Names) (ws : List (List ℕ)) → length ns ≤ length (with_texts ns ws)
more ns [] = omega arith
more ns (w ∷ ws) = let h = more (record { name = w; role = VariableName } ∷ ns) ws in omega (arith, h)

-- the names in front of those of a function
pub texts_end : (ns : Names) (ws : List (List ℕ)) → drop (length (with_texts ns ws) - length ns) (with_texts ns ws) ≡ ns
texts_end ns [] = let e : length ns - length ns ≡ 0 = omega arith in ap (λ n. drop n ns) e
texts_end ns (w ∷ ws) =
    let h = more (record { name = w; role = VariableName } ∷ ns) ws in
    let e : length (with_texts (record { name = w; role = VariableName } ∷ ns) ws) - length ns
    ≡ suc (length (with_texts (record { name = w; role = VariableName } ∷ ns) ws) - suc (length ns)) = omega (arith, h) in
    ap (λ n. drop n (with_texts (record { name = w; role = VariableName } ∷ ns) ws)) e
    ∙ drop_next (length (with_texts (record { name = w; role = VariableName } ∷ ns) ws) - suc (length ns))
    (with_texts (record { name = w; role = VariableName } ∷ ns) ws) (record { name = w; role = VariableName }) ns
    (texts_end (record { name = w; role = VariableName } ∷ ns) ws)

-- a function, by its block
abbrev made : Signature → part.tree_of part.BlockOf → Place → Read Item
made x b y = Some (item.Function (record { signature = x; body = b }), y)

-- what follows `)` of a function that is no prototype
pub function_end : (e : ℕ) (ns : Names) (x : Signature) (ws : List (List ℕ)) (l : ℕ) (s z : Place) (b : part.tree_of part.BlockOf)
    → is_next ns (set.Sign sign.Semicolon) s ≡ false → named_texts x.parameters ≡ ws → l ≡ 0
    → read e (with_texts ns ws) part.BlockOf 0 s ≡ Some (b, z)
    → piece.declared_end e ns true x l s ≡ Some (item.Function (record { signature = x; body = b }), z)
unfolding piece.declared_end
function_end e ns x ws l s z b next named top h =
    ap (λ c. if c then mend_then (one e ns (set.Sign sign.Semicolon) l s) (λ q y. Some (item.Prototype x, y))
    else mend_then (read e (with_parameters ns x.parameters) part.BlockOf l s) (made x)) next
    ∙ ap (λ ms. mend_then (read e ms part.BlockOf l s) (made x)) (with_parameters_texts ns x.parameters ∙ ap (with_texts ns) named)
    ∙ ap (λ m. mend_then (read e (with_texts ns ws) part.BlockOf m s) (made x)) top
    ∙ ap (λ o. mend_then o (made x)) h

-- a type with stars does not mean `int`, and one without does by its base
pub no_int : (ns : Names) (c : CType) → c.stars ≢ 0 → false ≡ is_int ns c
no_int ns c some = sym (go (is_an_int (meaning_of_base ns c.base)) (c.stars == 0) (none (c.stars == 0) refl))
  where
    none : (b : Bool) → (c.stars == 0) ≡ b → b ≡ false
    none false e = refl
    none true e = absurd (some (eqb-true c.stars 0 e))

    go : (a b : Bool) → b ≡ false → (a && b) ≡ false
    go true b h = h
    go false b h = refl

pub base_int : (ns : Names) (t : Token) (c : CType) → is_base_token t.terminal ≡ true → c.base ≡ tree.base_of t → c.stars ≡ 0
    → is_in set.IntBase ns (kind t) ≡ is_int ns c
base_int ns t c h b plain = sym (int_law ns t c h b ∙ ap (λ (n : ℕ). is_in set.IntBase ns (kind t) && n == 0) plain ∙ go (is_in set.IntBase ns (kind t)))
  where
    go : (a : Bool) → (a && true) ≡ a
    go true = refl
    go false = refl

pub ruleset int_laws = (no_int, base_int)

-- what follows the parameters of what is declared as a function, and what follows `)`
abbrev last : ℕ → Names → Bool → CType → Token → ℕ → ℕ → List Parameter → Token → Place → Read Item
last e ns b c n from l ps x w = piece.declared_end e (declared (name_at n) FunctionName ∷ ns) (list_all has_name ps) (tree.signature b c n ps from x) l w

abbrev inner : ℕ → Names → Bool → CType → Token → ℕ → ℕ → List Parameter → Place → Read Item
inner e ns b c n from l ps y = mend_then (one e ns (set.Sign sign.CloseParen) l y) (last e ns b c n from l ps)

-- what is declared as a function, up to `)`
pub declared_steps : (e : ℕ) (ns : Names) (b : Bool) (c : CType) (n : Token) (from l : ℕ) (s z y w : Place) (o x : Token) (ps : List Parameter)
    → one e ns (set.Sign sign.OpenParen) (suc l) s ≡ Some (o, z)
    → read e ns (part.ParametersOf (is_main n.bytes)) (suc l) z ≡ Some (ps, y) → one e ns (set.Sign sign.CloseParen) l y ≡ Some (x, w)
    → read e ns (part.DeclaredOf b c n from) l s ≡ piece.declared_end e (declared (name_at n) FunctionName ∷ ns) (list_all has_name ps)
    (tree.signature b c n ps from x) l w
declared_steps e ns b c n from l s z y w o x ps opened inside closed =
    declared_law e ns b c n from l s
    ∙ ap (λ (r : Read Token). mend_then r (λ o z. mend_then (read e ns (part.ParametersOf (is_main n.bytes)) (suc l) z) (inner e ns b c n from l))) opened
    ∙ ap (λ (r : Read (List Parameter)). mend_then r (inner e ns b c n from l)) inside
    ∙ ap (λ (r : Read Token). mend_then r (last e ns b c n from l ps)) closed
