-- What short programs declare and what names in them mean, computed. In the texts above, `@` stands before the name that is looked
-- for and `$` before the name that it means; neither counts as a byte.
use Rattle.std.proofs.Common.{◌≡◌, refl, ℕ, Bool, true, false, List, [], ◌∷◌, map, Option, Some, None, Result, Ok, Err, codes, slice_get}
use Rattle.vg_base.specs.declared.event.Span.{Span}
use Rattle.static_rules.specs.declared.rules.Rule.{Rule}
use Rattle.static_rules.specs.declared.rules.Rule.TheVariants.{M3, N1, N2, N3, N4, N5, N6, T4, U1}
use Rattle.vala_tree.specs.declared.names.Identifier.{Identifier}
use Rattle.vala_tree.specs.declared.names.NameTree.{NameTree}
use Rattle.vala_tree.specs.declared.names.TypeTree.{TypeTree}
use Rattle.vala_tree.specs.declared.names.TypeShape.TheVariants as shape
use Rattle.vala_tree.specs.declared.operators.IntegerKind.TheVariants as integer
use Rattle.vala_tree.specs.declared.operators.BinaryOperator.TheVariants as binary
use Rattle.vala_tree.specs.declared.operators.AssignOperator.TheVariants as assign
use Rattle.vala_tree.specs.declared.operators.PostfixOperator.TheVariants as postfix_operator
use Rattle.vala_tree.specs.declared.code.Literal.TheVariants as literal
use Rattle.vala_tree.specs.declared.code.ArgumentMark.TheVariants as mark
use Rattle.vala_tree.specs.declared.code.DeclaredType.TheVariants as declared_type
use Rattle.vala_tree.specs.declared.code.Expr.TheOpen.{Expr-F, ForStart-F, Iteration-F, Jump-F, Label-F, LambdaBody-F, Operation-F, Postfix-F, Primary-F, Selection-F, Stmt-F}
use Rattle.vala_types.specs.declared.types.IntKind.TheVariants as int
use Rattle.vala_types.specs.declared.types.ItemShape.TheVariants as item_shape
use Rattle.vala_types.specs.declared.types.Shape.{Shape}
use Rattle.vala_types.specs.declared.types.Shape.TheVariants as type_shape
use Rattle.vala_types.specs.declared.types.VType.{VType}
use Rattle.vala_tree.specs.declared.member.Attribute.{Attribute}
use Rattle.vala_tree.specs.declared.member.Modifier.{Modifier}
use Rattle.vala_tree.specs.declared.member.ModifierWord.TheVariants as w
use Rattle.vala_tree.specs.declared.member.SetterWords.TheVariants as words
use Rattle.symbols.specs.declared.kinds.SymbolKind.TheVariants as kind
use Rattle.symbols.specs.declared.table.Symbol.{Symbol}
use Rattle.symbols.specs.declared.table.Names.{Names}
use Rattle.symbols.specs.Outline.{Outline, Piece}
use Rattle.symbols.specs.Code.{Part, Statement, parts, block, expression, primary, argument, postfix, operation, lambda_body, block_part, statement, declarator, declared_locals, arm, branches, selection, label, section, for_start, for_loop, foreach_loop, iteration, jump, catch_clause, try_block}
use Rattle.symbols.specs.Members.{Front, plain_head, namespace_piece, type_piece, list_piece, enum_member, error_code, constant_piece, field_piece, parameter_piece, callable, creation_head, destructor_head, get_access, set_access, default_access, property_piece, program}
use Rattle.symbols.specs.Search.{answer}
use Rattle.symbols.specs.Table.{table_of, scope_at}
use Rattle.symbols.specs.Types.{type_of, refused}
use Rattle.symbols.specs.Spelling.{joined_words, free_name, CName, all_c_names}
use Rattle.static_rules.specs.declared.rules.Refusal.{Refusal}
use Rattle.symbols.specs.Faults.{fault, twice, main_faults, mains, cycles, weight, first_over, own_declared}

abbrev at : ℕ → ℕ → ℕ → Span
at f a b = record { file = f; start = a; «end» = b }

abbrev word : ℕ → ℕ → ℕ → List ℕ → Identifier
word f a b x = record { text = x; span = at f a b }

abbrev name : List Identifier → Span → NameTree
name xs s = record { words = xs; span = s }

abbrev void_type : Span → TypeTree
void_type s = record { ownership = None; shape = shape.Void; span = s }

abbrev plain_type : NameTree → Bool → Span → TypeTree
plain_type n q s = record { ownership = None; shape = shape.Single (record { name = n; is_nullable = q; span = s }); span = s }

abbrev array_type : NameTree → Span → TypeTree
array_type n s = record { ownership = None; shape = shape.Array (record { name = n; is_nullable = false; span = s }) false; span = s }

abbrev block_of : List Statement → Span → Part
block_of xs s = block_part (record { statements = xs; span = s })

abbrev member : List Attribute → List Modifier → Span → (Front → Piece) → Part
member xs ms s p = record { text = s; piece = p (record { attributes = xs; modifiers = ms; text = s }) }

-- where the declaration stands that a name means, or the rule that it breaks
abbrev place_of : Names → Result ℕ Rule → Result Span Rule
place_of ns (Err r) = Err r
place_of ns (Ok n) = by (slice_get ns.symbols n)
  where
    by : Option Symbol → Result Span Rule
    by None = Err N1
    by (Some s) = Ok s.span

abbrev told_by : Names → Outline → List ℕ → Span → Result Span Rule
told_by ns o x s = place_of ns (answer ns (scope_at ns o 0 s) x s)

-- what a name means where it stands
abbrev told : Outline → List ℕ → Span → Result Span Rule
told o x s = told_by (table_of o) o x s

abbrev number_by : Names → Outline → List ℕ → Span → Result ℕ Rule
number_by ns o x s = answer ns (scope_at ns o 0 s) x s

-- the number of the declaration that it means
abbrev number : Outline → List ℕ → Span → Result ℕ Rule
number o x s = number_by (table_of o) o x s

abbrev cycles_of : Outline → List Refusal
cycles_of o = cycles (table_of o) o

abbrev weights_by : Names → Outline → List ℕ
weights_by ns o = map (weight ns o) (own_declared o)

-- what each declaration counts
abbrev weights_of : Outline → List ℕ
weights_of o = weights_by (table_of o) o

-- a type that is written outside of everything
abbrev type_in : Outline → TypeTree → Result VType Refusal
type_in o t = type_of (table_of o) 0 t

abbrev a_type : Shape → Bool → Result VType Refusal
a_type s n = Ok (record { shape = s; owned = true; nullable = n })

abbrev text_of : CName → List ℕ
text_of c = c.text

-- all C names of a program
abbrev c_names : Outline → List (List ℕ)
c_names o = map text_of (all_c_names o)

-- 1. What names mean

-- a local counts from the end of its declarator on
-- `int $x; void main () { int x = @x; }`
means_from_its_declarator_on : told (program ((parts ((member ([]) ([]) (at 0 0 6) (field_piece (word 0 4 5 (codes "x")) (plain_type (name ((word 0 0 3 (codes "int")) ∷ []) (at 0 0 3)) false (at 0 0 3)) None)) ∷ (member ([]) ([]) (at 0 7 34) (λ f. callable (plain_head kind.Method (word 0 12 16 (codes "main")) f) ([]) (Some (block_of ((statement (Stmt-F.Local (declared_locals (record { declared = (declared_type.Written (plain_type (name ((word 0 22 25 (codes "int")) ∷ []) (at 0 22 25)) false (at 0 22 25))); names = ((declarator (record { name = (word 0 26 27 (codes "x")); value = (Some (expression (Expr-F.Name (codes "x") (at 0 30 31)))); span = (at 0 26 31) })) ∷ []) })) (at 0 22 32))) ∷ []) (at 0 20 34))))) ∷ [])) ∷ []) (([]) ∷ [])) (codes "x") (at 0 30 31) ≡ Ok (at 0 4 5)
means_from_its_declarator_on = refl

-- `int x; void main () { int $x = 1; int y = @x; }`
means_behind_its_declarator : told (program ((parts ((member ([]) ([]) (at 0 0 6) (field_piece (word 0 4 5 (codes "x")) (plain_type (name ((word 0 0 3 (codes "int")) ∷ []) (at 0 0 3)) false (at 0 0 3)) None)) ∷ (member ([]) ([]) (at 0 7 45) (λ f. callable (plain_head kind.Method (word 0 12 16 (codes "main")) f) ([]) (Some (block_of ((statement (Stmt-F.Local (declared_locals (record { declared = (declared_type.Written (plain_type (name ((word 0 22 25 (codes "int")) ∷ []) (at 0 22 25)) false (at 0 22 25))); names = ((declarator (record { name = (word 0 26 27 (codes "x")); value = (Some (expression (Expr-F.Literal (literal.Integer 1 integer.Int) (at 0 30 31)))); span = (at 0 26 31) })) ∷ []) })) (at 0 22 32))) ∷ (statement (Stmt-F.Local (declared_locals (record { declared = (declared_type.Written (plain_type (name ((word 0 33 36 (codes "int")) ∷ []) (at 0 33 36)) false (at 0 33 36))); names = ((declarator (record { name = (word 0 37 38 (codes "y")); value = (Some (expression (Expr-F.Name (codes "x") (at 0 41 42)))); span = (at 0 37 42) })) ∷ []) })) (at 0 33 43))) ∷ []) (at 0 20 45))))) ∷ [])) ∷ []) (([]) ∷ [])) (codes "x") (at 0 41 42) ≡ Ok (at 0 26 27)
means_behind_its_declarator = refl

-- `int $x; void main () { @x = 1; int x = 2; }`
means_before_its_declarator : told (program ((parts ((member ([]) ([]) (at 0 0 6) (field_piece (word 0 4 5 (codes "x")) (plain_type (name ((word 0 0 3 (codes "int")) ∷ []) (at 0 0 3)) false (at 0 0 3)) None)) ∷ (member ([]) ([]) (at 0 7 41) (λ f. callable (plain_head kind.Method (word 0 12 16 (codes "main")) f) ([]) (Some (block_of ((statement (Stmt-F.Expression (expression (Expr-F.Operation (operation (Operation-F.Assign assign.Assign (expression (Expr-F.Name (codes "x") (at 0 22 23))) (expression (Expr-F.Literal (literal.Integer 1 integer.Int) (at 0 26 27))))) (at 0 22 27))) (at 0 22 28))) ∷ (statement (Stmt-F.Local (declared_locals (record { declared = (declared_type.Written (plain_type (name ((word 0 29 32 (codes "int")) ∷ []) (at 0 29 32)) false (at 0 29 32))); names = ((declarator (record { name = (word 0 33 34 (codes "x")); value = (Some (expression (Expr-F.Literal (literal.Integer 2 integer.Int) (at 0 37 38)))); span = (at 0 33 38) })) ∷ []) })) (at 0 29 39))) ∷ []) (at 0 20 41))))) ∷ [])) ∷ []) (([]) ∷ [])) (codes "x") (at 0 22 23) ≡ Ok (at 0 4 5)
means_before_its_declarator = refl

-- `void main () { Act a = () => { @a (); }; }`
means_not_in_its_own_lambda : told (program ((parts ((member ([]) ([]) (at 0 0 41) (λ f. callable (plain_head kind.Method (word 0 5 9 (codes "main")) f) ([]) (Some (block_of ((statement (Stmt-F.Local (declared_locals (record { declared = (declared_type.Written (plain_type (name ((word 0 15 18 (codes "Act")) ∷ []) (at 0 15 18)) false (at 0 15 18))); names = ((declarator (record { name = (word 0 19 20 (codes "a")); value = (Some (expression (Expr-F.Lambda ([]) (lambda_body (LambdaBody-F.Code (block_of ((statement (Stmt-F.Expression (expression (Expr-F.Postfix (postfix (Postfix-F.Call (expression (Expr-F.Name (codes "a") (at 0 31 32))) ([]))) (at 0 31 35))) (at 0 31 36))) ∷ []) (at 0 29 38)))) (at 0 23 38)))); span = (at 0 19 38) })) ∷ []) })) (at 0 15 39))) ∷ []) (at 0 13 41))))) ∷ [])) ∷ []) (([]) ∷ [])) (codes "a") (at 0 31 32) ≡ Err N1
means_not_in_its_own_lambda = refl

-- `void main () { int $a; Act b = () => { @a = 1; }; }`
means_in_a_later_lambda : told (program ((parts ((member ([]) ([]) (at 0 0 49) (λ f. callable (plain_head kind.Method (word 0 5 9 (codes "main")) f) ([]) (Some (block_of ((statement (Stmt-F.Local (declared_locals (record { declared = (declared_type.Written (plain_type (name ((word 0 15 18 (codes "int")) ∷ []) (at 0 15 18)) false (at 0 15 18))); names = ((declarator (record { name = (word 0 19 20 (codes "a")); value = None; span = (at 0 19 20) })) ∷ []) })) (at 0 15 21))) ∷ (statement (Stmt-F.Local (declared_locals (record { declared = (declared_type.Written (plain_type (name ((word 0 22 25 (codes "Act")) ∷ []) (at 0 22 25)) false (at 0 22 25))); names = ((declarator (record { name = (word 0 26 27 (codes "b")); value = (Some (expression (Expr-F.Lambda ([]) (lambda_body (LambdaBody-F.Code (block_of ((statement (Stmt-F.Expression (expression (Expr-F.Operation (operation (Operation-F.Assign assign.Assign (expression (Expr-F.Name (codes "a") (at 0 38 39))) (expression (Expr-F.Literal (literal.Integer 1 integer.Int) (at 0 42 43))))) (at 0 38 43))) (at 0 38 44))) ∷ []) (at 0 36 46)))) (at 0 30 46)))); span = (at 0 26 46) })) ∷ []) })) (at 0 22 47))) ∷ []) (at 0 13 49))))) ∷ [])) ∷ []) (([]) ∷ [])) (codes "a") (at 0 38 39) ≡ Ok (at 0 19 20)
means_in_a_later_lambda = refl

-- `void main () { int $x = 1, y = @x; }`
means_first_declarator : told (program ((parts ((member ([]) ([]) (at 0 0 34) (λ f. callable (plain_head kind.Method (word 0 5 9 (codes "main")) f) ([]) (Some (block_of ((statement (Stmt-F.Local (declared_locals (record { declared = (declared_type.Written (plain_type (name ((word 0 15 18 (codes "int")) ∷ []) (at 0 15 18)) false (at 0 15 18))); names = ((declarator (record { name = (word 0 19 20 (codes "x")); value = (Some (expression (Expr-F.Literal (literal.Integer 1 integer.Int) (at 0 23 24)))); span = (at 0 19 24) })) ∷ (declarator (record { name = (word 0 26 27 (codes "y")); value = (Some (expression (Expr-F.Name (codes "x") (at 0 30 31)))); span = (at 0 26 31) })) ∷ []) })) (at 0 15 32))) ∷ []) (at 0 13 34))))) ∷ [])) ∷ []) (([]) ∷ [])) (codes "x") (at 0 30 31) ≡ Ok (at 0 19 20)
means_first_declarator = refl

-- blocks outward, and the parameters with the outermost block
-- `void main () {} void f (int x) { { int $x; @x = 1; } }`
means_block_before_parameter : told (program ((parts ((member ([]) ([]) (at 0 0 15) (λ f. callable (plain_head kind.Method (word 0 5 9 (codes "main")) f) ([]) (Some (block_of ([]) (at 0 13 15))))) ∷ (member ([]) ([]) (at 0 16 52) (λ f. callable (plain_head kind.Method (word 0 21 22 (codes "f")) f) ((parameter_piece (word 0 28 29 (codes "x")) None) ∷ []) (Some (block_of ((statement (Stmt-F.Block (block_of ((statement (Stmt-F.Local (declared_locals (record { declared = (declared_type.Written (plain_type (name ((word 0 35 38 (codes "int")) ∷ []) (at 0 35 38)) false (at 0 35 38))); names = ((declarator (record { name = (word 0 39 40 (codes "x")); value = None; span = (at 0 39 40) })) ∷ []) })) (at 0 35 41))) ∷ (statement (Stmt-F.Expression (expression (Expr-F.Operation (operation (Operation-F.Assign assign.Assign (expression (Expr-F.Name (codes "x") (at 0 42 43))) (expression (Expr-F.Literal (literal.Integer 1 integer.Int) (at 0 46 47))))) (at 0 42 47))) (at 0 42 48))) ∷ []) (at 0 33 50)))) ∷ []) (at 0 31 52))))) ∷ [])) ∷ []) (([]) ∷ [])) (codes "x") (at 0 42 43) ≡ Ok (at 0 39 40)
means_block_before_parameter = refl

-- `int x; void main () {} void f (int $x) { { @x = 1; } }`
means_parameter : told (program ((parts ((member ([]) ([]) (at 0 0 6) (field_piece (word 0 4 5 (codes "x")) (plain_type (name ((word 0 0 3 (codes "int")) ∷ []) (at 0 0 3)) false (at 0 0 3)) None)) ∷ (member ([]) ([]) (at 0 7 22) (λ f. callable (plain_head kind.Method (word 0 12 16 (codes "main")) f) ([]) (Some (block_of ([]) (at 0 20 22))))) ∷ (member ([]) ([]) (at 0 23 52) (λ f. callable (plain_head kind.Method (word 0 28 29 (codes "f")) f) ((parameter_piece (word 0 35 36 (codes "x")) None) ∷ []) (Some (block_of ((statement (Stmt-F.Block (block_of ((statement (Stmt-F.Expression (expression (Expr-F.Operation (operation (Operation-F.Assign assign.Assign (expression (Expr-F.Name (codes "x") (at 0 42 43))) (expression (Expr-F.Literal (literal.Integer 1 integer.Int) (at 0 46 47))))) (at 0 42 47))) (at 0 42 48))) ∷ []) (at 0 40 50)))) ∷ []) (at 0 38 52))))) ∷ [])) ∷ []) (([]) ∷ [])) (codes "x") (at 0 42 43) ≡ Ok (at 0 35 36)
means_parameter = refl

-- `void main () { { int x; } @x = 1; }`
means_left_block : told (program ((parts ((member ([]) ([]) (at 0 0 34) (λ f. callable (plain_head kind.Method (word 0 5 9 (codes "main")) f) ([]) (Some (block_of ((statement (Stmt-F.Block (block_of ((statement (Stmt-F.Local (declared_locals (record { declared = (declared_type.Written (plain_type (name ((word 0 17 20 (codes "int")) ∷ []) (at 0 17 20)) false (at 0 17 20))); names = ((declarator (record { name = (word 0 21 22 (codes "x")); value = None; span = (at 0 21 22) })) ∷ []) })) (at 0 17 23))) ∷ []) (at 0 15 25)))) ∷ (statement (Stmt-F.Expression (expression (Expr-F.Operation (operation (Operation-F.Assign assign.Assign (expression (Expr-F.Name (codes "x") (at 0 26 27))) (expression (Expr-F.Literal (literal.Integer 1 integer.Int) (at 0 30 31))))) (at 0 26 31))) (at 0 26 32))) ∷ []) (at 0 13 34))))) ∷ [])) ∷ []) (([]) ∷ [])) (codes "x") (at 0 26 27) ≡ Err N1
means_left_block = refl

-- `void main () { int x; Act a = (y, $x) => @x; }`
means_lambda_parameter : told (program ((parts ((member ([]) ([]) (at 0 0 44) (λ f. callable (plain_head kind.Method (word 0 5 9 (codes "main")) f) ([]) (Some (block_of ((statement (Stmt-F.Local (declared_locals (record { declared = (declared_type.Written (plain_type (name ((word 0 15 18 (codes "int")) ∷ []) (at 0 15 18)) false (at 0 15 18))); names = ((declarator (record { name = (word 0 19 20 (codes "x")); value = None; span = (at 0 19 20) })) ∷ []) })) (at 0 15 21))) ∷ (statement (Stmt-F.Local (declared_locals (record { declared = (declared_type.Written (plain_type (name ((word 0 22 25 (codes "Act")) ∷ []) (at 0 22 25)) false (at 0 22 25))); names = ((declarator (record { name = (word 0 26 27 (codes "a")); value = (Some (expression (Expr-F.Lambda ((word 0 31 32 (codes "y")) ∷ (word 0 34 35 (codes "x")) ∷ []) (lambda_body (LambdaBody-F.Value (expression (Expr-F.Name (codes "x") (at 0 40 41))))) (at 0 30 41)))); span = (at 0 26 41) })) ∷ []) })) (at 0 22 42))) ∷ []) (at 0 13 44))))) ∷ [])) ∷ []) (([]) ∷ [])) (codes "x") (at 0 40 41) ≡ Ok (at 0 34 35)
means_lambda_parameter = refl

-- the default of a parameter stands outside of the parameters
-- `int $x; void main () {} void f (int x, int y = @x) {}`
means_default_stands_outside : told (program ((parts ((member ([]) ([]) (at 0 0 6) (field_piece (word 0 4 5 (codes "x")) (plain_type (name ((word 0 0 3 (codes "int")) ∷ []) (at 0 0 3)) false (at 0 0 3)) None)) ∷ (member ([]) ([]) (at 0 7 22) (λ f. callable (plain_head kind.Method (word 0 12 16 (codes "main")) f) ([]) (Some (block_of ([]) (at 0 20 22))))) ∷ (member ([]) ([]) (at 0 23 51) (λ f. callable (plain_head kind.Method (word 0 28 29 (codes "f")) f) ((parameter_piece (word 0 35 36 (codes "x")) None) ∷ (parameter_piece (word 0 42 43 (codes "y")) (Some (expression (Expr-F.Name (codes "x") (at 0 46 47))))) ∷ []) (Some (block_of ([]) (at 0 49 51))))) ∷ [])) ∷ []) (([]) ∷ [])) (codes "x") (at 0 46 47) ≡ Ok (at 0 4 5)
means_default_stands_outside = refl

-- `value` in the block of an accessor that writes
-- `class A : Object { int value; public int p { $set { @value = 1; } } }`
means_value_at_set : told (program ((parts ((member ([]) ([]) (at 0 0 67) (type_piece kind.Class (name ((word 0 6 7 (codes "A")) ∷ []) (at 0 6 7)) ((plain_type (name ((word 0 10 16 (codes "Object")) ∷ []) (at 0 10 16)) false (at 0 10 16)) ∷ []) ((member ([]) ([]) (at 0 19 29) (field_piece (word 0 23 28 (codes "value")) (plain_type (name ((word 0 19 22 (codes "int")) ∷ []) (at 0 19 22)) false (at 0 19 22)) None)) ∷ (member ([]) ((record { word = w.Public; span = (at 0 30 36) }) ∷ []) (at 0 30 65) (property_piece (word 0 41 42 (codes "p")) ((set_access (words.Set (at 0 45 48)) (Some (block_of ((statement (Stmt-F.Expression (expression (Expr-F.Operation (operation (Operation-F.Assign assign.Assign (expression (Expr-F.Name (codes "value") (at 0 51 56))) (expression (Expr-F.Literal (literal.Integer 1 integer.Int) (at 0 59 60))))) (at 0 51 60))) (at 0 51 61))) ∷ []) (at 0 49 63)))) ∷ []))) ∷ []))) ∷ [])) ∷ []) (([]) ∷ [])) (codes "value") (at 0 51 56) ≡ Ok (at 0 45 48)
means_value_at_set = refl

-- `class A : Object { public int p { construct $set { @value = 1; } } }`
means_value_at_set_behind_construct : told (program ((parts ((member ([]) ([]) (at 0 0 66) (type_piece kind.Class (name ((word 0 6 7 (codes "A")) ∷ []) (at 0 6 7)) ((plain_type (name ((word 0 10 16 (codes "Object")) ∷ []) (at 0 10 16)) false (at 0 10 16)) ∷ []) ((member ([]) ((record { word = w.Public; span = (at 0 19 25) }) ∷ []) (at 0 19 64) (property_piece (word 0 30 31 (codes "p")) ((set_access (words.ConstructSet (at 0 34 43) (at 0 44 47)) (Some (block_of ((statement (Stmt-F.Expression (expression (Expr-F.Operation (operation (Operation-F.Assign assign.Assign (expression (Expr-F.Name (codes "value") (at 0 50 55))) (expression (Expr-F.Literal (literal.Integer 1 integer.Int) (at 0 58 59))))) (at 0 50 59))) (at 0 50 60))) ∷ []) (at 0 48 62)))) ∷ []))) ∷ []))) ∷ [])) ∷ []) (([]) ∷ [])) (codes "value") (at 0 50 55) ≡ Ok (at 0 44 47)
means_value_at_set_behind_construct = refl

-- `class A : Object { public int p { get; $construct { @value = 1; } } }`
means_value_at_construct : told (program ((parts ((member ([]) ([]) (at 0 0 67) (type_piece kind.Class (name ((word 0 6 7 (codes "A")) ∷ []) (at 0 6 7)) ((plain_type (name ((word 0 10 16 (codes "Object")) ∷ []) (at 0 10 16)) false (at 0 10 16)) ∷ []) ((member ([]) ((record { word = w.Public; span = (at 0 19 25) }) ∷ []) (at 0 19 65) (property_piece (word 0 30 31 (codes "p")) ((get_access (at 0 34 37) None) ∷ (set_access (words.Construct (at 0 39 48)) (Some (block_of ((statement (Stmt-F.Expression (expression (Expr-F.Operation (operation (Operation-F.Assign assign.Assign (expression (Expr-F.Name (codes "value") (at 0 51 56))) (expression (Expr-F.Literal (literal.Integer 1 integer.Int) (at 0 59 60))))) (at 0 51 60))) (at 0 51 61))) ∷ []) (at 0 49 63)))) ∷ []))) ∷ []))) ∷ [])) ∷ []) (([]) ∷ [])) (codes "value") (at 0 51 56) ≡ Ok (at 0 39 48)
means_value_at_construct = refl

-- `class A : Object { int $value; public int p { get { return @value; } } }`
means_no_value_in_get : told (program ((parts ((member ([]) ([]) (at 0 0 70) (type_piece kind.Class (name ((word 0 6 7 (codes "A")) ∷ []) (at 0 6 7)) ((plain_type (name ((word 0 10 16 (codes "Object")) ∷ []) (at 0 10 16)) false (at 0 10 16)) ∷ []) ((member ([]) ([]) (at 0 19 29) (field_piece (word 0 23 28 (codes "value")) (plain_type (name ((word 0 19 22 (codes "int")) ∷ []) (at 0 19 22)) false (at 0 19 22)) None)) ∷ (member ([]) ((record { word = w.Public; span = (at 0 30 36) }) ∷ []) (at 0 30 68) (property_piece (word 0 41 42 (codes "p")) ((get_access (at 0 45 48) (Some (block_of ((statement (Stmt-F.Jump (jump (Jump-F.Return (Some (expression (Expr-F.Name (codes "value") (at 0 58 63)))))) (at 0 51 64))) ∷ []) (at 0 49 66)))) ∷ []))) ∷ []))) ∷ [])) ∷ []) (([]) ∷ [])) (codes "value") (at 0 58 63) ≡ Ok (at 0 23 28)
means_no_value_in_get = refl

-- the variable of a `foreach` stands around the body alone
-- `void main () { int x; foreach (int $x in y) @x = 1; }`
means_foreach_variable : told (program ((parts ((member ([]) ([]) (at 0 0 51) (λ f. callable (plain_head kind.Method (word 0 5 9 (codes "main")) f) ([]) (Some (block_of ((statement (Stmt-F.Local (declared_locals (record { declared = (declared_type.Written (plain_type (name ((word 0 15 18 (codes "int")) ∷ []) (at 0 15 18)) false (at 0 15 18))); names = ((declarator (record { name = (word 0 19 20 (codes "x")); value = None; span = (at 0 19 20) })) ∷ []) })) (at 0 15 21))) ∷ (statement (Stmt-F.Iteration (iteration (Iteration-F.Foreach (foreach_loop (record { declared = (declared_type.Written (plain_type (name ((word 0 31 34 (codes "int")) ∷ []) (at 0 31 34)) false (at 0 31 34))); name = (word 0 35 36 (codes "x")); over = (expression (Expr-F.Name (codes "y") (at 0 40 41))); body = (statement (Stmt-F.Expression (expression (Expr-F.Operation (operation (Operation-F.Assign assign.Assign (expression (Expr-F.Name (codes "x") (at 0 43 44))) (expression (Expr-F.Literal (literal.Integer 1 integer.Int) (at 0 47 48))))) (at 0 43 48))) (at 0 43 49))) })))) (at 0 22 49))) ∷ []) (at 0 13 51))))) ∷ [])) ∷ []) (([]) ∷ [])) (codes "x") (at 0 43 44) ≡ Ok (at 0 35 36)
means_foreach_variable = refl

-- `void main () { int $x; foreach (int x in @x) {} }`
means_foreach_collection : told (program ((parts ((member ([]) ([]) (at 0 0 47) (λ f. callable (plain_head kind.Method (word 0 5 9 (codes "main")) f) ([]) (Some (block_of ((statement (Stmt-F.Local (declared_locals (record { declared = (declared_type.Written (plain_type (name ((word 0 15 18 (codes "int")) ∷ []) (at 0 15 18)) false (at 0 15 18))); names = ((declarator (record { name = (word 0 19 20 (codes "x")); value = None; span = (at 0 19 20) })) ∷ []) })) (at 0 15 21))) ∷ (statement (Stmt-F.Iteration (iteration (Iteration-F.Foreach (foreach_loop (record { declared = (declared_type.Written (plain_type (name ((word 0 31 34 (codes "int")) ∷ []) (at 0 31 34)) false (at 0 31 34))); name = (word 0 35 36 (codes "x")); over = (expression (Expr-F.Name (codes "x") (at 0 40 41))); body = (statement (Stmt-F.Block (block_of ([]) (at 0 43 45)))) })))) (at 0 22 45))) ∷ []) (at 0 13 47))))) ∷ [])) ∷ []) (([]) ∷ [])) (codes "x") (at 0 40 41) ≡ Ok (at 0 19 20)
means_foreach_collection = refl

-- a `for` with its first part is a block
-- `int i; void main () { for (int $i = 0; @i < 1; i++) {} }`
means_for_variable : told (program ((parts ((member ([]) ([]) (at 0 0 6) (field_piece (word 0 4 5 (codes "i")) (plain_type (name ((word 0 0 3 (codes "int")) ∷ []) (at 0 0 3)) false (at 0 0 3)) None)) ∷ (member ([]) ([]) (at 0 7 54) (λ f. callable (plain_head kind.Method (word 0 12 16 (codes "main")) f) ([]) (Some (block_of ((statement (Stmt-F.Iteration (iteration (Iteration-F.For (for_loop (record { start = (for_start (ForStart-F.Declared (declared_locals (record { declared = (declared_type.Written (plain_type (name ((word 0 27 30 (codes "int")) ∷ []) (at 0 27 30)) false (at 0 27 30))); names = ((declarator (record { name = (word 0 31 32 (codes "i")); value = (Some (expression (Expr-F.Literal (literal.Integer 0 integer.Int) (at 0 35 36)))); span = (at 0 31 36) })) ∷ []) })))); test = (Some (expression (Expr-F.Operation (operation (Operation-F.Binary binary.Less (expression (Expr-F.Name (codes "i") (at 0 38 39))) (expression (Expr-F.Literal (literal.Integer 1 integer.Int) (at 0 42 43))))) (at 0 38 43)))); steps = ((expression (Expr-F.Postfix (postfix (Postfix-F.Step (expression (Expr-F.Name (codes "i") (at 0 45 46))) postfix_operator.Increment)) (at 0 45 48))) ∷ []); body = (statement (Stmt-F.Block (block_of ([]) (at 0 50 52)))) })))) (at 0 22 52))) ∷ []) (at 0 20 54))))) ∷ [])) ∷ []) (([]) ∷ [])) (codes "i") (at 0 38 39) ≡ Ok (at 0 31 32)
means_for_variable = refl

-- `int $i; void main () { for (int i = 0; i < 1; i++) {} @i = 1; }`
means_behind_a_for : told (program ((parts ((member ([]) ([]) (at 0 0 6) (field_piece (word 0 4 5 (codes "i")) (plain_type (name ((word 0 0 3 (codes "int")) ∷ []) (at 0 0 3)) false (at 0 0 3)) None)) ∷ (member ([]) ([]) (at 0 7 61) (λ f. callable (plain_head kind.Method (word 0 12 16 (codes "main")) f) ([]) (Some (block_of ((statement (Stmt-F.Iteration (iteration (Iteration-F.For (for_loop (record { start = (for_start (ForStart-F.Declared (declared_locals (record { declared = (declared_type.Written (plain_type (name ((word 0 27 30 (codes "int")) ∷ []) (at 0 27 30)) false (at 0 27 30))); names = ((declarator (record { name = (word 0 31 32 (codes "i")); value = (Some (expression (Expr-F.Literal (literal.Integer 0 integer.Int) (at 0 35 36)))); span = (at 0 31 36) })) ∷ []) })))); test = (Some (expression (Expr-F.Operation (operation (Operation-F.Binary binary.Less (expression (Expr-F.Name (codes "i") (at 0 38 39))) (expression (Expr-F.Literal (literal.Integer 1 integer.Int) (at 0 42 43))))) (at 0 38 43)))); steps = ((expression (Expr-F.Postfix (postfix (Postfix-F.Step (expression (Expr-F.Name (codes "i") (at 0 45 46))) postfix_operator.Increment)) (at 0 45 48))) ∷ []); body = (statement (Stmt-F.Block (block_of ([]) (at 0 50 52)))) })))) (at 0 22 52))) ∷ (statement (Stmt-F.Expression (expression (Expr-F.Operation (operation (Operation-F.Assign assign.Assign (expression (Expr-F.Name (codes "i") (at 0 53 54))) (expression (Expr-F.Literal (literal.Integer 1 integer.Int) (at 0 57 58))))) (at 0 53 58))) (at 0 53 59))) ∷ []) (at 0 20 61))))) ∷ [])) ∷ []) (([]) ∷ [])) (codes "i") (at 0 53 54) ≡ Ok (at 0 4 5)
means_behind_a_for = refl

-- `int e; void main () { try {} catch (Error $e) { @e = 1; } }`
means_catch_variable : told (program ((parts ((member ([]) ([]) (at 0 0 6) (field_piece (word 0 4 5 (codes "e")) (plain_type (name ((word 0 0 3 (codes "int")) ∷ []) (at 0 0 3)) false (at 0 0 3)) None)) ∷ (member ([]) ([]) (at 0 7 57) (λ f. callable (plain_head kind.Method (word 0 12 16 (codes "main")) f) ([]) (Some (block_of ((statement (Stmt-F.Try (try_block (record { body = (block_of ([]) (at 0 26 28)); clauses = ((catch_clause (record { caught = (Some (record { declared = (plain_type (name ((word 0 36 41 (codes "Error")) ∷ []) (at 0 36 41)) false (at 0 36 41)); name = (word 0 42 43 (codes "e")) })); body = (block_of ((statement (Stmt-F.Expression (expression (Expr-F.Operation (operation (Operation-F.Assign assign.Assign (expression (Expr-F.Name (codes "e") (at 0 47 48))) (expression (Expr-F.Literal (literal.Integer 1 integer.Int) (at 0 51 52))))) (at 0 47 52))) (at 0 47 53))) ∷ []) (at 0 45 55)); span = (at 0 29 55) })) ∷ []); last = None })) (at 0 22 55))) ∷ []) (at 0 20 57))))) ∷ [])) ∷ []) (([]) ∷ [])) (codes "e") (at 0 47 48) ≡ Ok (at 0 42 43)
means_catch_variable = refl

-- `int $e; void main () { try {} catch (Error e) {} finally { @e = 1; } }`
means_behind_a_catch : told (program ((parts ((member ([]) ([]) (at 0 0 6) (field_piece (word 0 4 5 (codes "e")) (plain_type (name ((word 0 0 3 (codes "int")) ∷ []) (at 0 0 3)) false (at 0 0 3)) None)) ∷ (member ([]) ([]) (at 0 7 68) (λ f. callable (plain_head kind.Method (word 0 12 16 (codes "main")) f) ([]) (Some (block_of ((statement (Stmt-F.Try (try_block (record { body = (block_of ([]) (at 0 26 28)); clauses = ((catch_clause (record { caught = (Some (record { declared = (plain_type (name ((word 0 36 41 (codes "Error")) ∷ []) (at 0 36 41)) false (at 0 36 41)); name = (word 0 42 43 (codes "e")) })); body = (block_of ([]) (at 0 45 47)); span = (at 0 29 47) })) ∷ []); last = (Some (block_of ((statement (Stmt-F.Expression (expression (Expr-F.Operation (operation (Operation-F.Assign assign.Assign (expression (Expr-F.Name (codes "e") (at 0 58 59))) (expression (Expr-F.Literal (literal.Integer 1 integer.Int) (at 0 62 63))))) (at 0 58 63))) (at 0 58 64))) ∷ []) (at 0 56 66))) })) (at 0 22 66))) ∷ []) (at 0 20 68))))) ∷ [])) ∷ []) (([]) ∷ [])) (codes "e") (at 0 58 59) ≡ Ok (at 0 4 5)
means_behind_a_catch = refl

-- a section of a `switch` is a block
-- `void main () { switch (1) { case 1: int x; break; default: @x = 1; } }`
means_section : told (program ((parts ((member ([]) ([]) (at 0 0 69) (λ f. callable (plain_head kind.Method (word 0 5 9 (codes "main")) f) ([]) (Some (block_of ((statement (Stmt-F.Selection (selection (Selection-F.Switch (expression (Expr-F.Literal (literal.Integer 1 integer.Int) (at 0 23 24))) ((section (record { labels = ((label (Label-F.Case (expression (Expr-F.Literal (literal.Integer 1 integer.Int) (at 0 33 34))) (at 0 28 35))) ∷ []); statements = ((statement (Stmt-F.Local (declared_locals (record { declared = (declared_type.Written (plain_type (name ((word 0 36 39 (codes "int")) ∷ []) (at 0 36 39)) false (at 0 36 39))); names = ((declarator (record { name = (word 0 40 41 (codes "x")); value = None; span = (at 0 40 41) })) ∷ []) })) (at 0 36 42))) ∷ (statement (Stmt-F.Jump (jump Jump-F.Break) (at 0 43 49))) ∷ []); span = (at 0 28 49) })) ∷ (section (record { labels = ((label (Label-F.Default (at 0 50 58))) ∷ []); statements = ((statement (Stmt-F.Expression (expression (Expr-F.Operation (operation (Operation-F.Assign assign.Assign (expression (Expr-F.Name (codes "x") (at 0 59 60))) (expression (Expr-F.Literal (literal.Integer 1 integer.Int) (at 0 63 64))))) (at 0 59 64))) (at 0 59 65))) ∷ []); span = (at 0 50 65) })) ∷ []))) (at 0 15 67))) ∷ []) (at 0 13 69))))) ∷ [])) ∷ []) (([]) ∷ [])) (codes "x") (at 0 59 60) ≡ Err N1
means_section = refl

-- a body without braces is a block
-- `int $x; void main () { if (true) int x = 1; @x = 1; }`
means_body_without_braces : told (program ((parts ((member ([]) ([]) (at 0 0 6) (field_piece (word 0 4 5 (codes "x")) (plain_type (name ((word 0 0 3 (codes "int")) ∷ []) (at 0 0 3)) false (at 0 0 3)) None)) ∷ (member ([]) ([]) (at 0 7 51) (λ f. callable (plain_head kind.Method (word 0 12 16 (codes "main")) f) ([]) (Some (block_of ((statement (Stmt-F.Selection (selection (Selection-F.If (branches (record { arms = ((arm (record { test = (expression (Expr-F.Literal (literal.Boolean true) (at 0 26 30))); body = (statement (Stmt-F.Local (declared_locals (record { declared = (declared_type.Written (plain_type (name ((word 0 32 35 (codes "int")) ∷ []) (at 0 32 35)) false (at 0 32 35))); names = ((declarator (record { name = (word 0 36 37 (codes "x")); value = (Some (expression (Expr-F.Literal (literal.Integer 1 integer.Int) (at 0 40 41)))); span = (at 0 36 41) })) ∷ []) })) (at 0 32 42))) })) ∷ []); no = None })))) (at 0 22 42))) ∷ (statement (Stmt-F.Expression (expression (Expr-F.Operation (operation (Operation-F.Assign assign.Assign (expression (Expr-F.Name (codes "x") (at 0 43 44))) (expression (Expr-F.Literal (literal.Integer 1 integer.Int) (at 0 47 48))))) (at 0 43 48))) (at 0 43 49))) ∷ []) (at 0 20 51))))) ∷ [])) ∷ []) (([]) ∷ [])) (codes "x") (at 0 43 44) ≡ Ok (at 0 4 5)
means_body_without_braces = refl

-- a name in two files
-- `int $x;`
-- `void main () { @x = 1; }`
means_other_file : told (program ((parts ((member ([]) ([]) (at 0 0 6) (field_piece (word 0 4 5 (codes "x")) (plain_type (name ((word 0 0 3 (codes "int")) ∷ []) (at 0 0 3)) false (at 0 0 3)) None)) ∷ [])) ∷ (parts ((member ([]) ([]) (at 1 0 23) (λ f. callable (plain_head kind.Method (word 1 5 9 (codes "main")) f) ([]) (Some (block_of ((statement (Stmt-F.Expression (expression (Expr-F.Operation (operation (Operation-F.Assign assign.Assign (expression (Expr-F.Name (codes "x") (at 1 15 16))) (expression (Expr-F.Literal (literal.Integer 1 integer.Int) (at 1 19 20))))) (at 1 15 20))) (at 1 15 21))) ∷ []) (at 1 13 23))))) ∷ [])) ∷ []) (([]) ∷ ([]) ∷ [])) (codes "x") (at 1 15 16) ≡ Ok (at 0 4 5)
means_other_file = refl

-- parts of a namespace are one scope
-- `namespace A { int $x; } void main () {}`
-- `int x; namespace A { void f () { @x = 1; } }`
means_parts_of_a_namespace : told (program ((parts ((member ([]) ([]) (at 0 0 22) (λ f. namespace_piece (name ((word 0 10 11 (codes "A")) ∷ []) (at 0 10 11)) ((member ([]) ([]) (at 0 14 20) (field_piece (word 0 18 19 (codes "x")) (plain_type (name ((word 0 14 17 (codes "int")) ∷ []) (at 0 14 17)) false (at 0 14 17)) None)) ∷ []))) ∷ (member ([]) ([]) (at 0 23 38) (λ f. callable (plain_head kind.Method (word 0 28 32 (codes "main")) f) ([]) (Some (block_of ([]) (at 0 36 38))))) ∷ [])) ∷ (parts ((member ([]) ([]) (at 1 0 6) (field_piece (word 1 4 5 (codes "x")) (plain_type (name ((word 1 0 3 (codes "int")) ∷ []) (at 1 0 3)) false (at 1 0 3)) None)) ∷ (member ([]) ([]) (at 1 7 43) (λ f. namespace_piece (name ((word 1 17 18 (codes "A")) ∷ []) (at 1 17 18)) ((member ([]) ([]) (at 1 21 41) (λ f. callable (plain_head kind.Method (word 1 26 27 (codes "f")) f) ([]) (Some (block_of ((statement (Stmt-F.Expression (expression (Expr-F.Operation (operation (Operation-F.Assign assign.Assign (expression (Expr-F.Name (codes "x") (at 1 33 34))) (expression (Expr-F.Literal (literal.Integer 1 integer.Int) (at 1 37 38))))) (at 1 33 38))) (at 1 33 39))) ∷ []) (at 1 31 41))))) ∷ []))) ∷ [])) ∷ []) (([]) ∷ ([]) ∷ [])) (codes "x") (at 1 33 34) ≡ Ok (at 0 18 19)
means_parts_of_a_namespace = refl

-- `int x; namespace A { int $x; namespace B { void f () { @x = 1; } } }`
means_namespaces_outward : told (program ((parts ((member ([]) ([]) (at 0 0 6) (field_piece (word 0 4 5 (codes "x")) (plain_type (name ((word 0 0 3 (codes "int")) ∷ []) (at 0 0 3)) false (at 0 0 3)) None)) ∷ (member ([]) ([]) (at 0 7 66) (λ f. namespace_piece (name ((word 0 17 18 (codes "A")) ∷ []) (at 0 17 18)) ((member ([]) ([]) (at 0 21 27) (field_piece (word 0 25 26 (codes "x")) (plain_type (name ((word 0 21 24 (codes "int")) ∷ []) (at 0 21 24)) false (at 0 21 24)) None)) ∷ (member ([]) ([]) (at 0 28 64) (λ f. namespace_piece (name ((word 0 38 39 (codes "B")) ∷ []) (at 0 38 39)) ((member ([]) ([]) (at 0 42 62) (λ f. callable (plain_head kind.Method (word 0 47 48 (codes "f")) f) ([]) (Some (block_of ((statement (Stmt-F.Expression (expression (Expr-F.Operation (operation (Operation-F.Assign assign.Assign (expression (Expr-F.Name (codes "x") (at 0 54 55))) (expression (Expr-F.Literal (literal.Integer 1 integer.Int) (at 0 58 59))))) (at 0 54 59))) (at 0 54 60))) ∷ []) (at 0 52 62))))) ∷ []))) ∷ []))) ∷ [])) ∷ []) (([]) ∷ [])) (codes "x") (at 0 54 55) ≡ Ok (at 0 25 26)
means_namespaces_outward = refl

-- `namespace A.B { int $x; }`
-- `namespace A { namespace B { void f () { @x = 1; } } }`
means_dotted_namespace : told (program ((parts ((member ([]) ([]) (at 0 0 24) (λ f. namespace_piece (name ((word 0 10 11 (codes "A")) ∷ (word 0 12 13 (codes "B")) ∷ []) (at 0 10 13)) ((member ([]) ([]) (at 0 16 22) (field_piece (word 0 20 21 (codes "x")) (plain_type (name ((word 0 16 19 (codes "int")) ∷ []) (at 0 16 19)) false (at 0 16 19)) None)) ∷ []))) ∷ [])) ∷ (parts ((member ([]) ([]) (at 1 0 52) (λ f. namespace_piece (name ((word 1 10 11 (codes "A")) ∷ []) (at 1 10 11)) ((member ([]) ([]) (at 1 14 50) (λ f. namespace_piece (name ((word 1 24 25 (codes "B")) ∷ []) (at 1 24 25)) ((member ([]) ([]) (at 1 28 48) (λ f. callable (plain_head kind.Method (word 1 33 34 (codes "f")) f) ([]) (Some (block_of ((statement (Stmt-F.Expression (expression (Expr-F.Operation (operation (Operation-F.Assign assign.Assign (expression (Expr-F.Name (codes "x") (at 1 40 41))) (expression (Expr-F.Literal (literal.Integer 1 integer.Int) (at 1 44 45))))) (at 1 40 45))) (at 1 40 46))) ∷ []) (at 1 38 48))))) ∷ []))) ∷ []))) ∷ [])) ∷ []) (([]) ∷ ([]) ∷ [])) (codes "x") (at 1 40 41) ≡ Ok (at 0 20 21)
means_dotted_namespace = refl

-- the words before the last are namespaces around the class
-- `namespace A { int $x; } class A.C : Object { void f () { @x = 1; } }`
means_dotted_class : told (program ((parts ((member ([]) ([]) (at 0 0 22) (λ f. namespace_piece (name ((word 0 10 11 (codes "A")) ∷ []) (at 0 10 11)) ((member ([]) ([]) (at 0 14 20) (field_piece (word 0 18 19 (codes "x")) (plain_type (name ((word 0 14 17 (codes "int")) ∷ []) (at 0 14 17)) false (at 0 14 17)) None)) ∷ []))) ∷ (member ([]) ([]) (at 0 23 66) (type_piece kind.Class (name ((word 0 29 30 (codes "A")) ∷ (word 0 31 32 (codes "C")) ∷ []) (at 0 29 32)) ((plain_type (name ((word 0 35 41 (codes "Object")) ∷ []) (at 0 35 41)) false (at 0 35 41)) ∷ []) ((member ([]) ([]) (at 0 44 64) (λ f. callable (plain_head kind.Method (word 0 49 50 (codes "f")) f) ([]) (Some (block_of ((statement (Stmt-F.Expression (expression (Expr-F.Operation (operation (Operation-F.Assign assign.Assign (expression (Expr-F.Name (codes "x") (at 0 56 57))) (expression (Expr-F.Literal (literal.Integer 1 integer.Int) (at 0 60 61))))) (at 0 56 61))) (at 0 56 62))) ∷ []) (at 0 54 64))))) ∷ []))) ∷ [])) ∷ []) (([]) ∷ [])) (codes "x") (at 0 56 57) ≡ Ok (at 0 18 19)
means_dotted_class = refl

-- a `using` of a namespace that another file declares
-- `namespace A { public int $x; }`
-- `using A; void main () { @x = 1; }`
means_using : told (program ((parts ((member ([]) ([]) (at 0 0 29) (λ f. namespace_piece (name ((word 0 10 11 (codes "A")) ∷ []) (at 0 10 11)) ((member ([]) ((record { word = w.Public; span = (at 0 14 20) }) ∷ []) (at 0 14 27) (field_piece (word 0 25 26 (codes "x")) (plain_type (name ((word 0 21 24 (codes "int")) ∷ []) (at 0 21 24)) false (at 0 21 24)) None)) ∷ []))) ∷ [])) ∷ (parts ((member ([]) ([]) (at 1 9 32) (λ f. callable (plain_head kind.Method (word 1 14 18 (codes "main")) f) ([]) (Some (block_of ((statement (Stmt-F.Expression (expression (Expr-F.Operation (operation (Operation-F.Assign assign.Assign (expression (Expr-F.Name (codes "x") (at 1 24 25))) (expression (Expr-F.Literal (literal.Integer 1 integer.Int) (at 1 28 29))))) (at 1 24 29))) (at 1 24 30))) ∷ []) (at 1 22 32))))) ∷ [])) ∷ []) (([]) ∷ ((name ((word 1 6 7 (codes "A")) ∷ []) (at 1 6 7)) ∷ []) ∷ [])) (codes "x") (at 1 24 25) ≡ Ok (at 0 25 26)
means_using = refl

-- a `using` counts in its own file
-- `using A; namespace A { public int x; }`
-- `void main () { @x = 1; }`
means_using_of_another_file : told (program ((parts ((member ([]) ([]) (at 0 9 38) (λ f. namespace_piece (name ((word 0 19 20 (codes "A")) ∷ []) (at 0 19 20)) ((member ([]) ((record { word = w.Public; span = (at 0 23 29) }) ∷ []) (at 0 23 36) (field_piece (word 0 34 35 (codes "x")) (plain_type (name ((word 0 30 33 (codes "int")) ∷ []) (at 0 30 33)) false (at 0 30 33)) None)) ∷ []))) ∷ [])) ∷ (parts ((member ([]) ([]) (at 1 0 23) (λ f. callable (plain_head kind.Method (word 1 5 9 (codes "main")) f) ([]) (Some (block_of ((statement (Stmt-F.Expression (expression (Expr-F.Operation (operation (Operation-F.Assign assign.Assign (expression (Expr-F.Name (codes "x") (at 1 15 16))) (expression (Expr-F.Literal (literal.Integer 1 integer.Int) (at 1 19 20))))) (at 1 15 20))) (at 1 15 21))) ∷ []) (at 1 13 23))))) ∷ [])) ∷ []) (((name ((word 0 6 7 (codes "A")) ∷ []) (at 0 6 7)) ∷ []) ∷ ([]) ∷ [])) (codes "x") (at 1 15 16) ≡ Err N1
means_using_of_another_file = refl

-- `using A.B; namespace A.B { public int $x; } void main () { @x = 1; }`
means_dotted_using : told (program ((parts ((member ([]) ([]) (at 0 11 42) (λ f. namespace_piece (name ((word 0 21 22 (codes "A")) ∷ (word 0 23 24 (codes "B")) ∷ []) (at 0 21 24)) ((member ([]) ((record { word = w.Public; span = (at 0 27 33) }) ∷ []) (at 0 27 40) (field_piece (word 0 38 39 (codes "x")) (plain_type (name ((word 0 34 37 (codes "int")) ∷ []) (at 0 34 37)) false (at 0 34 37)) None)) ∷ []))) ∷ (member ([]) ([]) (at 0 43 66) (λ f. callable (plain_head kind.Method (word 0 48 52 (codes "main")) f) ([]) (Some (block_of ((statement (Stmt-F.Expression (expression (Expr-F.Operation (operation (Operation-F.Assign assign.Assign (expression (Expr-F.Name (codes "x") (at 0 58 59))) (expression (Expr-F.Literal (literal.Integer 1 integer.Int) (at 0 62 63))))) (at 0 58 63))) (at 0 58 64))) ∷ []) (at 0 56 66))))) ∷ [])) ∷ []) (((name ((word 0 6 7 (codes "A")) ∷ (word 0 8 9 (codes "B")) ∷ []) (at 0 6 9)) ∷ []) ∷ [])) (codes "x") (at 0 58 59) ≡ Ok (at 0 38 39)
means_dotted_using = refl

-- a `using` that names no namespace adds nothing
-- `using A; void main () { @x = 1; }`
means_no_such_using : told (program ((parts ((member ([]) ([]) (at 0 9 32) (λ f. callable (plain_head kind.Method (word 0 14 18 (codes "main")) f) ([]) (Some (block_of ((statement (Stmt-F.Expression (expression (Expr-F.Operation (operation (Operation-F.Assign assign.Assign (expression (Expr-F.Name (codes "x") (at 0 24 25))) (expression (Expr-F.Literal (literal.Integer 1 integer.Int) (at 0 28 29))))) (at 0 24 29))) (at 0 24 30))) ∷ []) (at 0 22 32))))) ∷ [])) ∷ []) (((name ((word 0 6 7 (codes "A")) ∷ []) (at 0 6 7)) ∷ []) ∷ [])) (codes "x") (at 0 24 25) ≡ Err N1
means_no_such_using = refl

-- two namespaces in use that both have a name
-- `using A; using B; namespace A { public int x; } namespace B { public int x; } void main () { print (@x); }`
means_ambiguous : told (program ((parts ((member ([]) ([]) (at 0 18 47) (λ f. namespace_piece (name ((word 0 28 29 (codes "A")) ∷ []) (at 0 28 29)) ((member ([]) ((record { word = w.Public; span = (at 0 32 38) }) ∷ []) (at 0 32 45) (field_piece (word 0 43 44 (codes "x")) (plain_type (name ((word 0 39 42 (codes "int")) ∷ []) (at 0 39 42)) false (at 0 39 42)) None)) ∷ []))) ∷ (member ([]) ([]) (at 0 48 77) (λ f. namespace_piece (name ((word 0 58 59 (codes "B")) ∷ []) (at 0 58 59)) ((member ([]) ((record { word = w.Public; span = (at 0 62 68) }) ∷ []) (at 0 62 75) (field_piece (word 0 73 74 (codes "x")) (plain_type (name ((word 0 69 72 (codes "int")) ∷ []) (at 0 69 72)) false (at 0 69 72)) None)) ∷ []))) ∷ (member ([]) ([]) (at 0 78 105) (λ f. callable (plain_head kind.Method (word 0 83 87 (codes "main")) f) ([]) (Some (block_of ((statement (Stmt-F.Expression (expression (Expr-F.Postfix (postfix (Postfix-F.Call (expression (Expr-F.Name (codes "print") (at 0 93 98))) ((argument (record { mark = mark.Plain; value = (expression (Expr-F.Name (codes "x") (at 0 100 101))); span = (at 0 100 101) })) ∷ []))) (at 0 93 102))) (at 0 93 103))) ∷ []) (at 0 91 105))))) ∷ [])) ∷ []) (((name ((word 0 6 7 (codes "A")) ∷ []) (at 0 6 7)) ∷ (name ((word 0 15 16 (codes "B")) ∷ []) (at 0 15 16)) ∷ []) ∷ [])) (codes "x") (at 0 100 101) ≡ Err N3
means_ambiguous = refl

-- one namespace that is used twice
-- `using A, A; namespace A { public int $x; } void main () { @x = 1; }`
means_used_twice : told (program ((parts ((member ([]) ([]) (at 0 12 41) (λ f. namespace_piece (name ((word 0 22 23 (codes "A")) ∷ []) (at 0 22 23)) ((member ([]) ((record { word = w.Public; span = (at 0 26 32) }) ∷ []) (at 0 26 39) (field_piece (word 0 37 38 (codes "x")) (plain_type (name ((word 0 33 36 (codes "int")) ∷ []) (at 0 33 36)) false (at 0 33 36)) None)) ∷ []))) ∷ (member ([]) ([]) (at 0 42 65) (λ f. callable (plain_head kind.Method (word 0 47 51 (codes "main")) f) ([]) (Some (block_of ((statement (Stmt-F.Expression (expression (Expr-F.Operation (operation (Operation-F.Assign assign.Assign (expression (Expr-F.Name (codes "x") (at 0 57 58))) (expression (Expr-F.Literal (literal.Integer 1 integer.Int) (at 0 61 62))))) (at 0 57 62))) (at 0 57 63))) ∷ []) (at 0 55 65))))) ∷ [])) ∷ []) (((name ((word 0 6 7 (codes "A")) ∷ []) (at 0 6 7)) ∷ (name ((word 0 9 10 (codes "A")) ∷ []) (at 0 9 10)) ∷ []) ∷ [])) (codes "x") (at 0 57 58) ≡ Ok (at 0 37 38)
means_used_twice = refl

-- namespaces outward before those in use
-- `using A; namespace A { public int x; } int $x; void main () { @x = 1; }`
means_outward_before_using : told (program ((parts ((member ([]) ([]) (at 0 9 38) (λ f. namespace_piece (name ((word 0 19 20 (codes "A")) ∷ []) (at 0 19 20)) ((member ([]) ((record { word = w.Public; span = (at 0 23 29) }) ∷ []) (at 0 23 36) (field_piece (word 0 34 35 (codes "x")) (plain_type (name ((word 0 30 33 (codes "int")) ∷ []) (at 0 30 33)) false (at 0 30 33)) None)) ∷ []))) ∷ (member ([]) ([]) (at 0 39 45) (field_piece (word 0 43 44 (codes "x")) (plain_type (name ((word 0 39 42 (codes "int")) ∷ []) (at 0 39 42)) false (at 0 39 42)) None)) ∷ (member ([]) ([]) (at 0 46 69) (λ f. callable (plain_head kind.Method (word 0 51 55 (codes "main")) f) ([]) (Some (block_of ((statement (Stmt-F.Expression (expression (Expr-F.Operation (operation (Operation-F.Assign assign.Assign (expression (Expr-F.Name (codes "x") (at 0 61 62))) (expression (Expr-F.Literal (literal.Integer 1 integer.Int) (at 0 65 66))))) (at 0 61 66))) (at 0 61 67))) ∷ []) (at 0 59 69))))) ∷ [])) ∷ []) (((name ((word 0 6 7 (codes "A")) ∷ []) (at 0 6 7)) ∷ []) ∷ [])) (codes "x") (at 0 61 62) ≡ Ok (at 0 43 44)
means_outward_before_using = refl

-- `GLib` is one of the namespaces in use
-- `using A; namespace A { public void print () {} } void main () { @print (); }`
means_ambiguous_with_built_in : told (program ((parts ((member ([]) ([]) (at 0 9 48) (λ f. namespace_piece (name ((word 0 19 20 (codes "A")) ∷ []) (at 0 19 20)) ((member ([]) ((record { word = w.Public; span = (at 0 23 29) }) ∷ []) (at 0 23 46) (λ f. callable (plain_head kind.Method (word 0 35 40 (codes "print")) f) ([]) (Some (block_of ([]) (at 0 44 46))))) ∷ []))) ∷ (member ([]) ([]) (at 0 49 75) (λ f. callable (plain_head kind.Method (word 0 54 58 (codes "main")) f) ([]) (Some (block_of ((statement (Stmt-F.Expression (expression (Expr-F.Postfix (postfix (Postfix-F.Call (expression (Expr-F.Name (codes "print") (at 0 64 69))) ([]))) (at 0 64 72))) (at 0 64 73))) ∷ []) (at 0 62 75))))) ∷ [])) ∷ []) (((name ((word 0 6 7 (codes "A")) ∷ []) (at 0 6 7)) ∷ []) ∷ [])) (codes "print") (at 0 64 69) ≡ Err N3
means_ambiguous_with_built_in = refl

-- `void $print () {} void main () { @print (); }`
means_own_print : told (program ((parts ((member ([]) ([]) (at 0 0 16) (λ f. callable (plain_head kind.Method (word 0 5 10 (codes "print")) f) ([]) (Some (block_of ([]) (at 0 14 16))))) ∷ (member ([]) ([]) (at 0 17 43) (λ f. callable (plain_head kind.Method (word 0 22 26 (codes "main")) f) ([]) (Some (block_of ((statement (Stmt-F.Expression (expression (Expr-F.Postfix (postfix (Postfix-F.Call (expression (Expr-F.Name (codes "print") (at 0 32 37))) ([]))) (at 0 32 40))) (at 0 32 41))) ∷ []) (at 0 30 43))))) ∷ [])) ∷ []) (([]) ∷ [])) (codes "print") (at 0 32 37) ≡ Ok (at 0 5 10)
means_own_print = refl

-- the class before its bases
-- `class A : Object { protected int x; } class B : A { int $x; void f () { @x = 1; } }`
means_class_before_base : told (program ((parts ((member ([]) ([]) (at 0 0 37) (type_piece kind.Class (name ((word 0 6 7 (codes "A")) ∷ []) (at 0 6 7)) ((plain_type (name ((word 0 10 16 (codes "Object")) ∷ []) (at 0 10 16)) false (at 0 10 16)) ∷ []) ((member ([]) ((record { word = w.Protected; span = (at 0 19 28) }) ∷ []) (at 0 19 35) (field_piece (word 0 33 34 (codes "x")) (plain_type (name ((word 0 29 32 (codes "int")) ∷ []) (at 0 29 32)) false (at 0 29 32)) None)) ∷ []))) ∷ (member ([]) ([]) (at 0 38 81) (type_piece kind.Class (name ((word 0 44 45 (codes "B")) ∷ []) (at 0 44 45)) ((plain_type (name ((word 0 48 49 (codes "A")) ∷ []) (at 0 48 49)) false (at 0 48 49)) ∷ []) ((member ([]) ([]) (at 0 52 58) (field_piece (word 0 56 57 (codes "x")) (plain_type (name ((word 0 52 55 (codes "int")) ∷ []) (at 0 52 55)) false (at 0 52 55)) None)) ∷ (member ([]) ([]) (at 0 59 79) (λ f. callable (plain_head kind.Method (word 0 64 65 (codes "f")) f) ([]) (Some (block_of ((statement (Stmt-F.Expression (expression (Expr-F.Operation (operation (Operation-F.Assign assign.Assign (expression (Expr-F.Name (codes "x") (at 0 71 72))) (expression (Expr-F.Literal (literal.Integer 1 integer.Int) (at 0 75 76))))) (at 0 71 76))) (at 0 71 77))) ∷ []) (at 0 69 79))))) ∷ []))) ∷ [])) ∷ []) (([]) ∷ [])) (codes "x") (at 0 71 72) ≡ Ok (at 0 56 57)
means_class_before_base = refl

-- its bases before the namespaces
-- `int x; class B : A { void f () { @x = 1; } } class A : Object { protected int $x; }`
means_base_before_namespace : told (program ((parts ((member ([]) ([]) (at 0 0 6) (field_piece (word 0 4 5 (codes "x")) (plain_type (name ((word 0 0 3 (codes "int")) ∷ []) (at 0 0 3)) false (at 0 0 3)) None)) ∷ (member ([]) ([]) (at 0 7 43) (type_piece kind.Class (name ((word 0 13 14 (codes "B")) ∷ []) (at 0 13 14)) ((plain_type (name ((word 0 17 18 (codes "A")) ∷ []) (at 0 17 18)) false (at 0 17 18)) ∷ []) ((member ([]) ([]) (at 0 21 41) (λ f. callable (plain_head kind.Method (word 0 26 27 (codes "f")) f) ([]) (Some (block_of ((statement (Stmt-F.Expression (expression (Expr-F.Operation (operation (Operation-F.Assign assign.Assign (expression (Expr-F.Name (codes "x") (at 0 33 34))) (expression (Expr-F.Literal (literal.Integer 1 integer.Int) (at 0 37 38))))) (at 0 33 38))) (at 0 33 39))) ∷ []) (at 0 31 41))))) ∷ []))) ∷ (member ([]) ([]) (at 0 44 81) (type_piece kind.Class (name ((word 0 50 51 (codes "A")) ∷ []) (at 0 50 51)) ((plain_type (name ((word 0 54 60 (codes "Object")) ∷ []) (at 0 54 60)) false (at 0 54 60)) ∷ []) ((member ([]) ((record { word = w.Protected; span = (at 0 63 72) }) ∷ []) (at 0 63 79) (field_piece (word 0 77 78 (codes "x")) (plain_type (name ((word 0 73 76 (codes "int")) ∷ []) (at 0 73 76)) false (at 0 73 76)) None)) ∷ []))) ∷ [])) ∷ []) (([]) ∷ [])) (codes "x") (at 0 33 34) ≡ Ok (at 0 77 78)
means_base_before_namespace = refl

-- the nearest base first
-- `class A : Object { public int x; } class B : A { public int $x; } class C : B { void f () { @x = 1; } }`
means_nearest_base : told (program ((parts ((member ([]) ([]) (at 0 0 34) (type_piece kind.Class (name ((word 0 6 7 (codes "A")) ∷ []) (at 0 6 7)) ((plain_type (name ((word 0 10 16 (codes "Object")) ∷ []) (at 0 10 16)) false (at 0 10 16)) ∷ []) ((member ([]) ((record { word = w.Public; span = (at 0 19 25) }) ∷ []) (at 0 19 32) (field_piece (word 0 30 31 (codes "x")) (plain_type (name ((word 0 26 29 (codes "int")) ∷ []) (at 0 26 29)) false (at 0 26 29)) None)) ∷ []))) ∷ (member ([]) ([]) (at 0 35 64) (type_piece kind.Class (name ((word 0 41 42 (codes "B")) ∷ []) (at 0 41 42)) ((plain_type (name ((word 0 45 46 (codes "A")) ∷ []) (at 0 45 46)) false (at 0 45 46)) ∷ []) ((member ([]) ((record { word = w.Public; span = (at 0 49 55) }) ∷ []) (at 0 49 62) (field_piece (word 0 60 61 (codes "x")) (plain_type (name ((word 0 56 59 (codes "int")) ∷ []) (at 0 56 59)) false (at 0 56 59)) None)) ∷ []))) ∷ (member ([]) ([]) (at 0 65 101) (type_piece kind.Class (name ((word 0 71 72 (codes "C")) ∷ []) (at 0 71 72)) ((plain_type (name ((word 0 75 76 (codes "B")) ∷ []) (at 0 75 76)) false (at 0 75 76)) ∷ []) ((member ([]) ([]) (at 0 79 99) (λ f. callable (plain_head kind.Method (word 0 84 85 (codes "f")) f) ([]) (Some (block_of ((statement (Stmt-F.Expression (expression (Expr-F.Operation (operation (Operation-F.Assign assign.Assign (expression (Expr-F.Name (codes "x") (at 0 91 92))) (expression (Expr-F.Literal (literal.Integer 1 integer.Int) (at 0 95 96))))) (at 0 91 96))) (at 0 91 97))) ∷ []) (at 0 89 99))))) ∷ []))) ∷ [])) ∷ []) (([]) ∷ [])) (codes "x") (at 0 91 92) ≡ Ok (at 0 60 61)
means_nearest_base = refl

-- a base of a base, in another file
-- `class C : B { void f () { @x = 1; } } class B : A {}`
-- `class A : Object { public int $x; }`
means_far_base : told (program ((parts ((member ([]) ([]) (at 0 0 36) (type_piece kind.Class (name ((word 0 6 7 (codes "C")) ∷ []) (at 0 6 7)) ((plain_type (name ((word 0 10 11 (codes "B")) ∷ []) (at 0 10 11)) false (at 0 10 11)) ∷ []) ((member ([]) ([]) (at 0 14 34) (λ f. callable (plain_head kind.Method (word 0 19 20 (codes "f")) f) ([]) (Some (block_of ((statement (Stmt-F.Expression (expression (Expr-F.Operation (operation (Operation-F.Assign assign.Assign (expression (Expr-F.Name (codes "x") (at 0 26 27))) (expression (Expr-F.Literal (literal.Integer 1 integer.Int) (at 0 30 31))))) (at 0 26 31))) (at 0 26 32))) ∷ []) (at 0 24 34))))) ∷ []))) ∷ (member ([]) ([]) (at 0 37 51) (type_piece kind.Class (name ((word 0 43 44 (codes "B")) ∷ []) (at 0 43 44)) ((plain_type (name ((word 0 47 48 (codes "A")) ∷ []) (at 0 47 48)) false (at 0 47 48)) ∷ []) ([]))) ∷ [])) ∷ (parts ((member ([]) ([]) (at 1 0 34) (type_piece kind.Class (name ((word 1 6 7 (codes "A")) ∷ []) (at 1 6 7)) ((plain_type (name ((word 1 10 16 (codes "Object")) ∷ []) (at 1 10 16)) false (at 1 10 16)) ∷ []) ((member ([]) ((record { word = w.Public; span = (at 1 19 25) }) ∷ []) (at 1 19 32) (field_piece (word 1 30 31 (codes "x")) (plain_type (name ((word 1 26 29 (codes "int")) ∷ []) (at 1 26 29)) false (at 1 26 29)) None)) ∷ []))) ∷ [])) ∷ []) (([]) ∷ ([]) ∷ [])) (codes "x") (at 0 26 27) ≡ Ok (at 1 30 31)
means_far_base = refl

-- `class A : Object { int x; void f (int $x) { @x = 1; } }`
means_local_before_class : told (program ((parts ((member ([]) ([]) (at 0 0 53) (type_piece kind.Class (name ((word 0 6 7 (codes "A")) ∷ []) (at 0 6 7)) ((plain_type (name ((word 0 10 16 (codes "Object")) ∷ []) (at 0 10 16)) false (at 0 10 16)) ∷ []) ((member ([]) ([]) (at 0 19 25) (field_piece (word 0 23 24 (codes "x")) (plain_type (name ((word 0 19 22 (codes "int")) ∷ []) (at 0 19 22)) false (at 0 19 22)) None)) ∷ (member ([]) ([]) (at 0 26 51) (λ f. callable (plain_head kind.Method (word 0 31 32 (codes "f")) f) ((parameter_piece (word 0 38 39 (codes "x")) None) ∷ []) (Some (block_of ((statement (Stmt-F.Expression (expression (Expr-F.Operation (operation (Operation-F.Assign assign.Assign (expression (Expr-F.Name (codes "x") (at 0 43 44))) (expression (Expr-F.Literal (literal.Integer 1 integer.Int) (at 0 47 48))))) (at 0 43 48))) (at 0 43 49))) ∷ []) (at 0 41 51))))) ∷ []))) ∷ [])) ∷ []) (([]) ∷ [])) (codes "x") (at 0 43 44) ≡ Ok (at 0 38 39)
means_local_before_class = refl

-- bases equally near, in the order in which they are written
-- `interface I : Object { public int $x; } interface J : Object { public int x; } class A : Object, I, J { void f () { @x = 1; } }`
means_interface_base : told (program ((parts ((member ([]) ([]) (at 0 0 38) (type_piece kind.Interface (name ((word 0 10 11 (codes "I")) ∷ []) (at 0 10 11)) ((plain_type (name ((word 0 14 20 (codes "Object")) ∷ []) (at 0 14 20)) false (at 0 14 20)) ∷ []) ((member ([]) ((record { word = w.Public; span = (at 0 23 29) }) ∷ []) (at 0 23 36) (field_piece (word 0 34 35 (codes "x")) (plain_type (name ((word 0 30 33 (codes "int")) ∷ []) (at 0 30 33)) false (at 0 30 33)) None)) ∷ []))) ∷ (member ([]) ([]) (at 0 39 77) (type_piece kind.Interface (name ((word 0 49 50 (codes "J")) ∷ []) (at 0 49 50)) ((plain_type (name ((word 0 53 59 (codes "Object")) ∷ []) (at 0 53 59)) false (at 0 53 59)) ∷ []) ((member ([]) ((record { word = w.Public; span = (at 0 62 68) }) ∷ []) (at 0 62 75) (field_piece (word 0 73 74 (codes "x")) (plain_type (name ((word 0 69 72 (codes "int")) ∷ []) (at 0 69 72)) false (at 0 69 72)) None)) ∷ []))) ∷ (member ([]) ([]) (at 0 78 125) (type_piece kind.Class (name ((word 0 84 85 (codes "A")) ∷ []) (at 0 84 85)) ((plain_type (name ((word 0 88 94 (codes "Object")) ∷ []) (at 0 88 94)) false (at 0 88 94)) ∷ (plain_type (name ((word 0 96 97 (codes "I")) ∷ []) (at 0 96 97)) false (at 0 96 97)) ∷ (plain_type (name ((word 0 99 100 (codes "J")) ∷ []) (at 0 99 100)) false (at 0 99 100)) ∷ []) ((member ([]) ([]) (at 0 103 123) (λ f. callable (plain_head kind.Method (word 0 108 109 (codes "f")) f) ([]) (Some (block_of ((statement (Stmt-F.Expression (expression (Expr-F.Operation (operation (Operation-F.Assign assign.Assign (expression (Expr-F.Name (codes "x") (at 0 115 116))) (expression (Expr-F.Literal (literal.Integer 1 integer.Int) (at 0 119 120))))) (at 0 115 120))) (at 0 115 121))) ∷ []) (at 0 113 123))))) ∷ []))) ∷ [])) ∷ []) (([]) ∷ [])) (codes "x") (at 0 115 116) ≡ Ok (at 0 34 35)
means_interface_base = refl

-- a private member of a base is found, and may not be used
-- `int x; class A : Object { int x; } class B : A { void f () { @x = 1; } }`
means_private_in_base : told (program ((parts ((member ([]) ([]) (at 0 0 6) (field_piece (word 0 4 5 (codes "x")) (plain_type (name ((word 0 0 3 (codes "int")) ∷ []) (at 0 0 3)) false (at 0 0 3)) None)) ∷ (member ([]) ([]) (at 0 7 34) (type_piece kind.Class (name ((word 0 13 14 (codes "A")) ∷ []) (at 0 13 14)) ((plain_type (name ((word 0 17 23 (codes "Object")) ∷ []) (at 0 17 23)) false (at 0 17 23)) ∷ []) ((member ([]) ([]) (at 0 26 32) (field_piece (word 0 30 31 (codes "x")) (plain_type (name ((word 0 26 29 (codes "int")) ∷ []) (at 0 26 29)) false (at 0 26 29)) None)) ∷ []))) ∷ (member ([]) ([]) (at 0 35 71) (type_piece kind.Class (name ((word 0 41 42 (codes "B")) ∷ []) (at 0 41 42)) ((plain_type (name ((word 0 45 46 (codes "A")) ∷ []) (at 0 45 46)) false (at 0 45 46)) ∷ []) ((member ([]) ([]) (at 0 49 69) (λ f. callable (plain_head kind.Method (word 0 54 55 (codes "f")) f) ([]) (Some (block_of ((statement (Stmt-F.Expression (expression (Expr-F.Operation (operation (Operation-F.Assign assign.Assign (expression (Expr-F.Name (codes "x") (at 0 61 62))) (expression (Expr-F.Literal (literal.Integer 1 integer.Int) (at 0 65 66))))) (at 0 61 66))) (at 0 61 67))) ∷ []) (at 0 59 69))))) ∷ []))) ∷ [])) ∷ []) (([]) ∷ [])) (codes "x") (at 0 61 62) ≡ Err N4
means_private_in_base = refl

-- `class A : Object { private int $x; void f () { Act a = () => { @x = 1; }; } }`
means_private_in_its_class : told (program ((parts ((member ([]) ([]) (at 0 0 75) (type_piece kind.Class (name ((word 0 6 7 (codes "A")) ∷ []) (at 0 6 7)) ((plain_type (name ((word 0 10 16 (codes "Object")) ∷ []) (at 0 10 16)) false (at 0 10 16)) ∷ []) ((member ([]) ((record { word = w.Private; span = (at 0 19 26) }) ∷ []) (at 0 19 33) (field_piece (word 0 31 32 (codes "x")) (plain_type (name ((word 0 27 30 (codes "int")) ∷ []) (at 0 27 30)) false (at 0 27 30)) None)) ∷ (member ([]) ([]) (at 0 34 73) (λ f. callable (plain_head kind.Method (word 0 39 40 (codes "f")) f) ([]) (Some (block_of ((statement (Stmt-F.Local (declared_locals (record { declared = (declared_type.Written (plain_type (name ((word 0 46 49 (codes "Act")) ∷ []) (at 0 46 49)) false (at 0 46 49))); names = ((declarator (record { name = (word 0 50 51 (codes "a")); value = (Some (expression (Expr-F.Lambda ([]) (lambda_body (LambdaBody-F.Code (block_of ((statement (Stmt-F.Expression (expression (Expr-F.Operation (operation (Operation-F.Assign assign.Assign (expression (Expr-F.Name (codes "x") (at 0 62 63))) (expression (Expr-F.Literal (literal.Integer 1 integer.Int) (at 0 66 67))))) (at 0 62 67))) (at 0 62 68))) ∷ []) (at 0 60 70)))) (at 0 54 70)))); span = (at 0 50 70) })) ∷ []) })) (at 0 46 71))) ∷ []) (at 0 44 73))))) ∷ []))) ∷ [])) ∷ []) (([]) ∷ [])) (codes "x") (at 0 62 63) ≡ Ok (at 0 31 32)
means_private_in_its_class = refl

-- private outside of types: within the namespace
-- `using A; namespace A { private int x; } void main () { @x = 1; }`
means_private_of_a_namespace : told (program ((parts ((member ([]) ([]) (at 0 9 39) (λ f. namespace_piece (name ((word 0 19 20 (codes "A")) ∷ []) (at 0 19 20)) ((member ([]) ((record { word = w.Private; span = (at 0 23 30) }) ∷ []) (at 0 23 37) (field_piece (word 0 35 36 (codes "x")) (plain_type (name ((word 0 31 34 (codes "int")) ∷ []) (at 0 31 34)) false (at 0 31 34)) None)) ∷ []))) ∷ (member ([]) ([]) (at 0 40 63) (λ f. callable (plain_head kind.Method (word 0 45 49 (codes "main")) f) ([]) (Some (block_of ((statement (Stmt-F.Expression (expression (Expr-F.Operation (operation (Operation-F.Assign assign.Assign (expression (Expr-F.Name (codes "x") (at 0 55 56))) (expression (Expr-F.Literal (literal.Integer 1 integer.Int) (at 0 59 60))))) (at 0 55 60))) (at 0 55 61))) ∷ []) (at 0 53 63))))) ∷ [])) ∷ []) (((name ((word 0 6 7 (codes "A")) ∷ []) (at 0 6 7)) ∷ []) ∷ [])) (codes "x") (at 0 55 56) ≡ Err N4
means_private_of_a_namespace = refl

-- `namespace A { private int $x; namespace B { void f () { @x = 1; } } }`
means_private_within_namespace : told (program ((parts ((member ([]) ([]) (at 0 0 67) (λ f. namespace_piece (name ((word 0 10 11 (codes "A")) ∷ []) (at 0 10 11)) ((member ([]) ((record { word = w.Private; span = (at 0 14 21) }) ∷ []) (at 0 14 28) (field_piece (word 0 26 27 (codes "x")) (plain_type (name ((word 0 22 25 (codes "int")) ∷ []) (at 0 22 25)) false (at 0 22 25)) None)) ∷ (member ([]) ([]) (at 0 29 65) (λ f. namespace_piece (name ((word 0 39 40 (codes "B")) ∷ []) (at 0 39 40)) ((member ([]) ([]) (at 0 43 63) (λ f. callable (plain_head kind.Method (word 0 48 49 (codes "f")) f) ([]) (Some (block_of ((statement (Stmt-F.Expression (expression (Expr-F.Operation (operation (Operation-F.Assign assign.Assign (expression (Expr-F.Name (codes "x") (at 0 55 56))) (expression (Expr-F.Literal (literal.Integer 1 integer.Int) (at 0 59 60))))) (at 0 55 60))) (at 0 55 61))) ∷ []) (at 0 53 63))))) ∷ []))) ∷ []))) ∷ [])) ∷ []) (([]) ∷ [])) (codes "x") (at 0 55 56) ≡ Ok (at 0 26 27)
means_private_within_namespace = refl

-- `class A : Object { protected int $x; } class B : A {} class C : B { void f () { @x = 1; } }`
means_protected_through_derived : told (program ((parts ((member ([]) ([]) (at 0 0 37) (type_piece kind.Class (name ((word 0 6 7 (codes "A")) ∷ []) (at 0 6 7)) ((plain_type (name ((word 0 10 16 (codes "Object")) ∷ []) (at 0 10 16)) false (at 0 10 16)) ∷ []) ((member ([]) ((record { word = w.Protected; span = (at 0 19 28) }) ∷ []) (at 0 19 35) (field_piece (word 0 33 34 (codes "x")) (plain_type (name ((word 0 29 32 (codes "int")) ∷ []) (at 0 29 32)) false (at 0 29 32)) None)) ∷ []))) ∷ (member ([]) ([]) (at 0 38 52) (type_piece kind.Class (name ((word 0 44 45 (codes "B")) ∷ []) (at 0 44 45)) ((plain_type (name ((word 0 48 49 (codes "A")) ∷ []) (at 0 48 49)) false (at 0 48 49)) ∷ []) ([]))) ∷ (member ([]) ([]) (at 0 53 89) (type_piece kind.Class (name ((word 0 59 60 (codes "C")) ∷ []) (at 0 59 60)) ((plain_type (name ((word 0 63 64 (codes "B")) ∷ []) (at 0 63 64)) false (at 0 63 64)) ∷ []) ((member ([]) ([]) (at 0 67 87) (λ f. callable (plain_head kind.Method (word 0 72 73 (codes "f")) f) ([]) (Some (block_of ((statement (Stmt-F.Expression (expression (Expr-F.Operation (operation (Operation-F.Assign assign.Assign (expression (Expr-F.Name (codes "x") (at 0 79 80))) (expression (Expr-F.Literal (literal.Integer 1 integer.Int) (at 0 83 84))))) (at 0 79 84))) (at 0 79 85))) ∷ []) (at 0 77 87))))) ∷ []))) ∷ [])) ∷ []) (([]) ∷ [])) (codes "x") (at 0 79 80) ≡ Ok (at 0 33 34)
means_protected_through_derived = refl

-- a base is looked for where the class stands
-- `class A : B { int B; void f () { @x = 1; } } class B : Object { public int $x; }`
means_base_is_not_looked_for_in_the_class : told (program ((parts ((member ([]) ([]) (at 0 0 43) (type_piece kind.Class (name ((word 0 6 7 (codes "A")) ∷ []) (at 0 6 7)) ((plain_type (name ((word 0 10 11 (codes "B")) ∷ []) (at 0 10 11)) false (at 0 10 11)) ∷ []) ((member ([]) ([]) (at 0 14 20) (field_piece (word 0 18 19 (codes "B")) (plain_type (name ((word 0 14 17 (codes "int")) ∷ []) (at 0 14 17)) false (at 0 14 17)) None)) ∷ (member ([]) ([]) (at 0 21 41) (λ f. callable (plain_head kind.Method (word 0 26 27 (codes "f")) f) ([]) (Some (block_of ((statement (Stmt-F.Expression (expression (Expr-F.Operation (operation (Operation-F.Assign assign.Assign (expression (Expr-F.Name (codes "x") (at 0 33 34))) (expression (Expr-F.Literal (literal.Integer 1 integer.Int) (at 0 37 38))))) (at 0 33 38))) (at 0 33 39))) ∷ []) (at 0 31 41))))) ∷ []))) ∷ (member ([]) ([]) (at 0 44 78) (type_piece kind.Class (name ((word 0 50 51 (codes "B")) ∷ []) (at 0 50 51)) ((plain_type (name ((word 0 54 60 (codes "Object")) ∷ []) (at 0 54 60)) false (at 0 54 60)) ∷ []) ((member ([]) ((record { word = w.Public; span = (at 0 63 69) }) ∷ []) (at 0 63 76) (field_piece (word 0 74 75 (codes "x")) (plain_type (name ((word 0 70 73 (codes "int")) ∷ []) (at 0 70 73)) false (at 0 70 73)) None)) ∷ []))) ∷ [])) ∷ []) (([]) ∷ [])) (codes "x") (at 0 33 34) ≡ Ok (at 0 74 75)
means_base_is_not_looked_for_in_the_class = refl

-- members of an enum are named by it alone
-- `enum E { A, B = @A }`
means_enum_members_are_not_in_scope : told (program ((parts ((member ([]) ([]) (at 0 0 19) (list_piece kind.Enum (name ((word 0 5 6 (codes "E")) ∷ []) (at 0 5 6)) ((enum_member (word 0 9 10 (codes "A")) None) ∷ (enum_member (word 0 12 13 (codes "B")) (Some (expression (Expr-F.Name (codes "A") (at 0 16 17))))) ∷ []))) ∷ [])) ∷ []) (([]) ∷ [])) (codes "A") (at 0 16 17) ≡ Err N1
means_enum_members_are_not_in_scope = refl

-- `enum $E { A, B = @E }`
means_enum_itself : told (program ((parts ((member ([]) ([]) (at 0 0 19) (list_piece kind.Enum (name ((word 0 5 6 (codes "E")) ∷ []) (at 0 5 6)) ((enum_member (word 0 9 10 (codes "A")) None) ∷ (enum_member (word 0 12 13 (codes "B")) (Some (expression (Expr-F.Name (codes "E") (at 0 16 17))))) ∷ []))) ∷ [])) ∷ []) (([]) ∷ [])) (codes "E") (at 0 16 17) ≡ Ok (at 0 5 6)
means_enum_itself = refl

-- `class S : Object { public virtual signal void hit (int $x) { @x = 1; } }`
means_signal_parameter : told (program ((parts ((member ([]) ([]) (at 0 0 70) (type_piece kind.Class (name ((word 0 6 7 (codes "S")) ∷ []) (at 0 6 7)) ((plain_type (name ((word 0 10 16 (codes "Object")) ∷ []) (at 0 10 16)) false (at 0 10 16)) ∷ []) ((member ([]) ((record { word = w.Public; span = (at 0 19 25) }) ∷ (record { word = w.Virtual; span = (at 0 26 33) }) ∷ []) (at 0 19 68) (λ f. callable (plain_head kind.Signal (word 0 46 49 (codes "hit")) f) ((parameter_piece (word 0 55 56 (codes "x")) None) ∷ []) (Some (block_of ((statement (Stmt-F.Expression (expression (Expr-F.Operation (operation (Operation-F.Assign assign.Assign (expression (Expr-F.Name (codes "x") (at 0 60 61))) (expression (Expr-F.Literal (literal.Integer 1 integer.Int) (at 0 64 65))))) (at 0 60 65))) (at 0 60 66))) ∷ []) (at 0 58 68))))) ∷ []))) ∷ [])) ∷ []) (([]) ∷ [])) (codes "x") (at 0 60 61) ≡ Ok (at 0 55 56)
means_signal_parameter = refl

-- `class A : Object { int $x; construct { int y; @x = 1; } }`
means_construct_block : told (program ((parts ((member ([]) ([]) (at 0 0 55) (type_piece kind.Class (name ((word 0 6 7 (codes "A")) ∷ []) (at 0 6 7)) ((plain_type (name ((word 0 10 16 (codes "Object")) ∷ []) (at 0 10 16)) false (at 0 10 16)) ∷ []) ((member ([]) ([]) (at 0 19 25) (field_piece (word 0 23 24 (codes "x")) (plain_type (name ((word 0 19 22 (codes "int")) ∷ []) (at 0 19 22)) false (at 0 19 22)) None)) ∷ (member ([]) ([]) (at 0 26 53) (λ f. block (block_of ((statement (Stmt-F.Local (declared_locals (record { declared = (declared_type.Written (plain_type (name ((word 0 38 41 (codes "int")) ∷ []) (at 0 38 41)) false (at 0 38 41))); names = ((declarator (record { name = (word 0 42 43 (codes "y")); value = None; span = (at 0 42 43) })) ∷ []) })) (at 0 38 44))) ∷ (statement (Stmt-F.Expression (expression (Expr-F.Operation (operation (Operation-F.Assign assign.Assign (expression (Expr-F.Name (codes "x") (at 0 45 46))) (expression (Expr-F.Literal (literal.Integer 1 integer.Int) (at 0 49 50))))) (at 0 45 50))) (at 0 45 51))) ∷ []) (at 0 36 53)))) ∷ []))) ∷ [])) ∷ []) (([]) ∷ [])) (codes "x") (at 0 45 46) ≡ Ok (at 0 23 24)
means_construct_block = refl

-- the built-in names, by their rows
-- `void main () { @print (); }`
number_built_in : number (program ((parts ((member ([]) ([]) (at 0 0 26) (λ f. callable (plain_head kind.Method (word 0 5 9 (codes "main")) f) ([]) (Some (block_of ((statement (Stmt-F.Expression (expression (Expr-F.Postfix (postfix (Postfix-F.Call (expression (Expr-F.Name (codes "print") (at 0 15 20))) ([]))) (at 0 15 23))) (at 0 15 24))) ∷ []) (at 0 13 26))))) ∷ [])) ∷ []) (([]) ∷ [])) (codes "print") (at 0 15 20) ≡ Ok 36
number_built_in = refl

-- `void main () { @GLib.print (); }`
number_built_in_namespace : number (program ((parts ((member ([]) ([]) (at 0 0 31) (λ f. callable (plain_head kind.Method (word 0 5 9 (codes "main")) f) ([]) (Some (block_of ((statement (Stmt-F.Expression (expression (Expr-F.Postfix (postfix (Postfix-F.Call (expression (Expr-F.Postfix (postfix (Postfix-F.Member (expression (Expr-F.Name (codes "GLib") (at 0 15 19))) (word 0 20 25 (codes "print")))) (at 0 15 25))) ([]))) (at 0 15 28))) (at 0 15 29))) ∷ []) (at 0 13 31))))) ∷ [])) ∷ []) (([]) ∷ [])) (codes "GLib") (at 0 15 19) ≡ Ok 0
number_built_in_namespace = refl

-- a member of `Object`, through a base
-- `class A : Object { void f () { @notify (); } }`
number_member_of_object : number (program ((parts ((member ([]) ([]) (at 0 0 45) (type_piece kind.Class (name ((word 0 6 7 (codes "A")) ∷ []) (at 0 6 7)) ((plain_type (name ((word 0 10 16 (codes "Object")) ∷ []) (at 0 10 16)) false (at 0 10 16)) ∷ []) ((member ([]) ([]) (at 0 19 43) (λ f. callable (plain_head kind.Method (word 0 24 25 (codes "f")) f) ([]) (Some (block_of ((statement (Stmt-F.Expression (expression (Expr-F.Postfix (postfix (Postfix-F.Call (expression (Expr-F.Name (codes "notify") (at 0 31 37))) ([]))) (at 0 31 40))) (at 0 31 41))) ∷ []) (at 0 29 43))))) ∷ []))) ∷ [])) ∷ []) (([]) ∷ [])) (codes "notify") (at 0 31 37) ≡ Ok 55
number_member_of_object = refl

-- a name that is not in the table
-- `void main () { @regex (); }`
number_not_listed : number (program ((parts ((member ([]) ([]) (at 0 0 26) (λ f. callable (plain_head kind.Method (word 0 5 9 (codes "main")) f) ([]) (Some (block_of ((statement (Stmt-F.Expression (expression (Expr-F.Postfix (postfix (Postfix-F.Call (expression (Expr-F.Name (codes "regex") (at 0 15 20))) ([]))) (at 0 15 23))) (at 0 15 24))) ∷ []) (at 0 13 26))))) ∷ [])) ∷ []) (([]) ∷ [])) (codes "regex") (at 0 15 20) ≡ Err N1
number_not_listed = refl

-- the first declaration of a program follows the built-in names
-- `int x; void main () { @x = 1; }`
number_first_declaration : number (program ((parts ((member ([]) ([]) (at 0 0 6) (field_piece (word 0 4 5 (codes "x")) (plain_type (name ((word 0 0 3 (codes "int")) ∷ []) (at 0 0 3)) false (at 0 0 3)) None)) ∷ (member ([]) ([]) (at 0 7 30) (λ f. callable (plain_head kind.Method (word 0 12 16 (codes "main")) f) ([]) (Some (block_of ((statement (Stmt-F.Expression (expression (Expr-F.Operation (operation (Operation-F.Assign assign.Assign (expression (Expr-F.Name (codes "x") (at 0 22 23))) (expression (Expr-F.Literal (literal.Integer 1 integer.Int) (at 0 26 27))))) (at 0 22 27))) (at 0 22 28))) ∷ []) (at 0 20 30))))) ∷ [])) ∷ []) (([]) ∷ [])) (codes "x") (at 0 22 23) ≡ Ok 65
number_first_declaration = refl

-- 2. Faults of declarations

-- no `main`
-- an empty file
main_empty_file : main_faults (mains (program ((parts ([])) ∷ []) (([]) ∷ []))) ≡ fault N5 (at 0 0 0) ∷ []
main_empty_file = refl

-- `void main () {}`
twice_fine : twice (program ((parts ((member ([]) ([]) (at 0 0 15) (λ f. callable (plain_head kind.Method (word 0 5 9 (codes "main")) f) ([]) (Some (block_of ([]) (at 0 13 15))))) ∷ [])) ∷ []) (([]) ∷ [])) ≡ []
twice_fine = refl

-- `void main () {}`
-- `void main () {}`
main_two_mains : main_faults (mains (program ((parts ((member ([]) ([]) (at 0 0 15) (λ f. callable (plain_head kind.Method (word 0 5 9 (codes "main")) f) ([]) (Some (block_of ([]) (at 0 13 15))))) ∷ [])) ∷ (parts ((member ([]) ([]) (at 1 0 15) (λ f. callable (plain_head kind.Method (word 1 5 9 (codes "main")) f) ([]) (Some (block_of ([]) (at 1 13 15))))) ∷ [])) ∷ []) (([]) ∷ ([]) ∷ []))) ≡ fault N5 (at 1 5 9) ∷ []
main_two_mains = refl

twice_two_mains : twice (program ((parts ((member ([]) ([]) (at 0 0 15) (λ f. callable (plain_head kind.Method (word 0 5 9 (codes "main")) f) ([]) (Some (block_of ([]) (at 0 13 15))))) ∷ [])) ∷ (parts ((member ([]) ([]) (at 1 0 15) (λ f. callable (plain_head kind.Method (word 1 5 9 (codes "main")) f) ([]) (Some (block_of ([]) (at 1 13 15))))) ∷ [])) ∷ []) (([]) ∷ ([]) ∷ [])) ≡ fault N2 (at 1 5 9) ∷ fault N2 (at 1 5 9) ∷ []
twice_two_mains = refl

-- `namespace A { void main () {} } namespace B { void main () {} }`
main_main_in_namespaces : main_faults (mains (program ((parts ((member ([]) ([]) (at 0 0 31) (λ f. namespace_piece (name ((word 0 10 11 (codes "A")) ∷ []) (at 0 10 11)) ((member ([]) ([]) (at 0 14 29) (λ f. callable (plain_head kind.Method (word 0 19 23 (codes "main")) f) ([]) (Some (block_of ([]) (at 0 27 29))))) ∷ []))) ∷ (member ([]) ([]) (at 0 32 63) (λ f. namespace_piece (name ((word 0 42 43 (codes "B")) ∷ []) (at 0 42 43)) ((member ([]) ([]) (at 0 46 61) (λ f. callable (plain_head kind.Method (word 0 51 55 (codes "main")) f) ([]) (Some (block_of ([]) (at 0 59 61))))) ∷ []))) ∷ [])) ∷ []) (([]) ∷ []))) ≡ fault N5 (at 0 51 55) ∷ []
main_main_in_namespaces = refl

-- `namespace A { void main () {} } void main () {} class C : Object { public static void main () {} }`
main_outermost_main : main_faults (mains (program ((parts ((member ([]) ([]) (at 0 0 31) (λ f. namespace_piece (name ((word 0 10 11 (codes "A")) ∷ []) (at 0 10 11)) ((member ([]) ([]) (at 0 14 29) (λ f. callable (plain_head kind.Method (word 0 19 23 (codes "main")) f) ([]) (Some (block_of ([]) (at 0 27 29))))) ∷ []))) ∷ (member ([]) ([]) (at 0 32 47) (λ f. callable (plain_head kind.Method (word 0 37 41 (codes "main")) f) ([]) (Some (block_of ([]) (at 0 45 47))))) ∷ (member ([]) ([]) (at 0 48 98) (type_piece kind.Class (name ((word 0 54 55 (codes "C")) ∷ []) (at 0 54 55)) ((plain_type (name ((word 0 58 64 (codes "Object")) ∷ []) (at 0 58 64)) false (at 0 58 64)) ∷ []) ((member ([]) ((record { word = w.Public; span = (at 0 67 73) }) ∷ (record { word = w.Static; span = (at 0 74 80) }) ∷ []) (at 0 67 96) (λ f. callable (plain_head kind.Method (word 0 86 90 (codes "main")) f) ([]) (Some (block_of ([]) (at 0 94 96))))) ∷ []))) ∷ [])) ∷ []) (([]) ∷ []))) ≡ []
main_outermost_main = refl

-- `class C : Object { public static int main () { return 0; } }`
main_static_main : main_faults (mains (program ((parts ((member ([]) ([]) (at 0 0 60) (type_piece kind.Class (name ((word 0 6 7 (codes "C")) ∷ []) (at 0 6 7)) ((plain_type (name ((word 0 10 16 (codes "Object")) ∷ []) (at 0 10 16)) false (at 0 10 16)) ∷ []) ((member ([]) ((record { word = w.Public; span = (at 0 19 25) }) ∷ (record { word = w.Static; span = (at 0 26 32) }) ∷ []) (at 0 19 58) (λ f. callable (plain_head kind.Method (word 0 37 41 (codes "main")) f) ([]) (Some (block_of ((statement (Stmt-F.Jump (jump (Jump-F.Return (Some (expression (Expr-F.Literal (literal.Integer 0 integer.Int) (at 0 54 55)))))) (at 0 47 56))) ∷ []) (at 0 45 58))))) ∷ []))) ∷ [])) ∷ []) (([]) ∷ []))) ≡ []
main_static_main = refl

-- `class C : Object { public int main () { return 0; } }`
main_main_that_is_not_static : main_faults (mains (program ((parts ((member ([]) ([]) (at 0 0 53) (type_piece kind.Class (name ((word 0 6 7 (codes "C")) ∷ []) (at 0 6 7)) ((plain_type (name ((word 0 10 16 (codes "Object")) ∷ []) (at 0 10 16)) false (at 0 10 16)) ∷ []) ((member ([]) ((record { word = w.Public; span = (at 0 19 25) }) ∷ []) (at 0 19 51) (λ f. callable (plain_head kind.Method (word 0 30 34 (codes "main")) f) ([]) (Some (block_of ((statement (Stmt-F.Jump (jump (Jump-F.Return (Some (expression (Expr-F.Literal (literal.Integer 0 integer.Int) (at 0 47 48)))))) (at 0 40 49))) ∷ []) (at 0 38 51))))) ∷ []))) ∷ [])) ∷ []) (([]) ∷ []))) ≡ fault N5 (at 0 0 0) ∷ []
main_main_that_is_not_static = refl

-- cycles
-- `class A : B {} class B : A {} void main () {}`
cycles_cycle_of_bases : cycles_of (program ((parts ((member ([]) ([]) (at 0 0 14) (type_piece kind.Class (name ((word 0 6 7 (codes "A")) ∷ []) (at 0 6 7)) ((plain_type (name ((word 0 10 11 (codes "B")) ∷ []) (at 0 10 11)) false (at 0 10 11)) ∷ []) ([]))) ∷ (member ([]) ([]) (at 0 15 29) (type_piece kind.Class (name ((word 0 21 22 (codes "B")) ∷ []) (at 0 21 22)) ((plain_type (name ((word 0 25 26 (codes "A")) ∷ []) (at 0 25 26)) false (at 0 25 26)) ∷ []) ([]))) ∷ (member ([]) ([]) (at 0 30 45) (λ f. callable (plain_head kind.Method (word 0 35 39 (codes "main")) f) ([]) (Some (block_of ([]) (at 0 43 45))))) ∷ [])) ∷ []) (([]) ∷ [])) ≡ fault N6 (at 0 6 7) ∷ []
cycles_cycle_of_bases = refl

-- `class A : A {} void main () {}`
cycles_own_base : cycles_of (program ((parts ((member ([]) ([]) (at 0 0 14) (type_piece kind.Class (name ((word 0 6 7 (codes "A")) ∷ []) (at 0 6 7)) ((plain_type (name ((word 0 10 11 (codes "A")) ∷ []) (at 0 10 11)) false (at 0 10 11)) ∷ []) ([]))) ∷ (member ([]) ([]) (at 0 15 30) (λ f. callable (plain_head kind.Method (word 0 20 24 (codes "main")) f) ([]) (Some (block_of ([]) (at 0 28 30))))) ∷ [])) ∷ []) (([]) ∷ [])) ≡ fault N6 (at 0 6 7) ∷ []
cycles_own_base = refl

-- `class D : A {} class A : B {} class B : A {} void main () {}`
cycles_derived_from_a_cycle : cycles_of (program ((parts ((member ([]) ([]) (at 0 0 14) (type_piece kind.Class (name ((word 0 6 7 (codes "D")) ∷ []) (at 0 6 7)) ((plain_type (name ((word 0 10 11 (codes "A")) ∷ []) (at 0 10 11)) false (at 0 10 11)) ∷ []) ([]))) ∷ (member ([]) ([]) (at 0 15 29) (type_piece kind.Class (name ((word 0 21 22 (codes "A")) ∷ []) (at 0 21 22)) ((plain_type (name ((word 0 25 26 (codes "B")) ∷ []) (at 0 25 26)) false (at 0 25 26)) ∷ []) ([]))) ∷ (member ([]) ([]) (at 0 30 44) (type_piece kind.Class (name ((word 0 36 37 (codes "B")) ∷ []) (at 0 36 37)) ((plain_type (name ((word 0 40 41 (codes "A")) ∷ []) (at 0 40 41)) false (at 0 40 41)) ∷ []) ([]))) ∷ (member ([]) ([]) (at 0 45 60) (λ f. callable (plain_head kind.Method (word 0 50 54 (codes "main")) f) ([]) (Some (block_of ([]) (at 0 58 60))))) ∷ [])) ∷ []) (([]) ∷ [])) ≡ fault N6 (at 0 21 22) ∷ []
cycles_derived_from_a_cycle = refl

-- `interface I : J {} interface J : I {} void main () {}`
cycles_cycle_of_interfaces : cycles_of (program ((parts ((member ([]) ([]) (at 0 0 18) (type_piece kind.Interface (name ((word 0 10 11 (codes "I")) ∷ []) (at 0 10 11)) ((plain_type (name ((word 0 14 15 (codes "J")) ∷ []) (at 0 14 15)) false (at 0 14 15)) ∷ []) ([]))) ∷ (member ([]) ([]) (at 0 19 37) (type_piece kind.Interface (name ((word 0 29 30 (codes "J")) ∷ []) (at 0 29 30)) ((plain_type (name ((word 0 33 34 (codes "I")) ∷ []) (at 0 33 34)) false (at 0 33 34)) ∷ []) ([]))) ∷ (member ([]) ([]) (at 0 38 53) (λ f. callable (plain_head kind.Method (word 0 43 47 (codes "main")) f) ([]) (Some (block_of ([]) (at 0 51 53))))) ∷ [])) ∷ []) (([]) ∷ [])) ≡ fault N6 (at 0 10 11) ∷ []
cycles_cycle_of_interfaces = refl

-- `struct P { Q q; } struct Q { P p; } void main () {}`
cycles_cycle_of_structs : cycles_of (program ((parts ((member ([]) ([]) (at 0 0 17) (type_piece kind.Struct (name ((word 0 7 8 (codes "P")) ∷ []) (at 0 7 8)) [] ((member ([]) ([]) (at 0 11 15) (field_piece (word 0 13 14 (codes "q")) (plain_type (name ((word 0 11 12 (codes "Q")) ∷ []) (at 0 11 12)) false (at 0 11 12)) None)) ∷ []))) ∷ (member ([]) ([]) (at 0 18 35) (type_piece kind.Struct (name ((word 0 25 26 (codes "Q")) ∷ []) (at 0 25 26)) [] ((member ([]) ([]) (at 0 29 33) (field_piece (word 0 31 32 (codes "p")) (plain_type (name ((word 0 29 30 (codes "P")) ∷ []) (at 0 29 30)) false (at 0 29 30)) None)) ∷ []))) ∷ (member ([]) ([]) (at 0 36 51) (λ f. callable (plain_head kind.Method (word 0 41 45 (codes "main")) f) ([]) (Some (block_of ([]) (at 0 49 51))))) ∷ [])) ∷ []) (([]) ∷ [])) ≡ fault N6 (at 0 7 8) ∷ []
cycles_cycle_of_structs = refl

-- `struct P { P p; } void main () {}`
cycles_own_field : cycles_of (program ((parts ((member ([]) ([]) (at 0 0 17) (type_piece kind.Struct (name ((word 0 7 8 (codes "P")) ∷ []) (at 0 7 8)) [] ((member ([]) ([]) (at 0 11 15) (field_piece (word 0 13 14 (codes "p")) (plain_type (name ((word 0 11 12 (codes "P")) ∷ []) (at 0 11 12)) false (at 0 11 12)) None)) ∷ []))) ∷ (member ([]) ([]) (at 0 18 33) (λ f. callable (plain_head kind.Method (word 0 23 27 (codes "main")) f) ([]) (Some (block_of ([]) (at 0 31 33))))) ∷ [])) ∷ []) (([]) ∷ [])) ≡ fault N6 (at 0 7 8) ∷ []
cycles_own_field = refl

-- `struct P { P[] p; } void main () {}`
cycles_array_of_itself : cycles_of (program ((parts ((member ([]) ([]) (at 0 0 19) (type_piece kind.Struct (name ((word 0 7 8 (codes "P")) ∷ []) (at 0 7 8)) [] ((member ([]) ([]) (at 0 11 17) (field_piece (word 0 15 16 (codes "p")) (array_type (name ((word 0 11 12 (codes "P")) ∷ []) (at 0 11 12)) (at 0 11 14)) None)) ∷ []))) ∷ (member ([]) ([]) (at 0 20 35) (λ f. callable (plain_head kind.Method (word 0 25 29 (codes "main")) f) ([]) (Some (block_of ([]) (at 0 33 35))))) ∷ [])) ∷ []) (([]) ∷ [])) ≡ []
cycles_array_of_itself = refl

-- `struct P { static P p; } void main () {}`
cycles_static_of_itself : cycles_of (program ((parts ((member ([]) ([]) (at 0 0 24) (type_piece kind.Struct (name ((word 0 7 8 (codes "P")) ∷ []) (at 0 7 8)) [] ((member ([]) ((record { word = w.Static; span = (at 0 11 17) }) ∷ []) (at 0 11 22) (field_piece (word 0 20 21 (codes "p")) (plain_type (name ((word 0 18 19 (codes "P")) ∷ []) (at 0 18 19)) false (at 0 18 19)) None)) ∷ []))) ∷ (member ([]) ([]) (at 0 25 40) (λ f. callable (plain_head kind.Method (word 0 30 34 (codes "main")) f) ([]) (Some (block_of ([]) (at 0 38 40))))) ∷ [])) ∷ []) (([]) ∷ [])) ≡ []
cycles_static_of_itself = refl

-- declared twice
-- `int x; string x; void main () {}`
twice_two_fields : twice (program ((parts ((member ([]) ([]) (at 0 0 6) (field_piece (word 0 4 5 (codes "x")) (plain_type (name ((word 0 0 3 (codes "int")) ∷ []) (at 0 0 3)) false (at 0 0 3)) None)) ∷ (member ([]) ([]) (at 0 7 16) (field_piece (word 0 14 15 (codes "x")) (plain_type (name ((word 0 7 13 (codes "string")) ∷ []) (at 0 7 13)) false (at 0 7 13)) None)) ∷ (member ([]) ([]) (at 0 17 32) (λ f. callable (plain_head kind.Method (word 0 22 26 (codes "main")) f) ([]) (Some (block_of ([]) (at 0 30 32))))) ∷ [])) ∷ []) (([]) ∷ [])) ≡ fault N2 (at 0 14 15) ∷ []
twice_two_fields = refl

-- a parameter and a local of the outermost block
-- `void main () {} void f (int x) { int x; }`
twice_parameter_and_local : twice (program ((parts ((member ([]) ([]) (at 0 0 15) (λ f. callable (plain_head kind.Method (word 0 5 9 (codes "main")) f) ([]) (Some (block_of ([]) (at 0 13 15))))) ∷ (member ([]) ([]) (at 0 16 41) (λ f. callable (plain_head kind.Method (word 0 21 22 (codes "f")) f) ((parameter_piece (word 0 28 29 (codes "x")) None) ∷ []) (Some (block_of ((statement (Stmt-F.Local (declared_locals (record { declared = (declared_type.Written (plain_type (name ((word 0 33 36 (codes "int")) ∷ []) (at 0 33 36)) false (at 0 33 36))); names = ((declarator (record { name = (word 0 37 38 (codes "x")); value = None; span = (at 0 37 38) })) ∷ []) })) (at 0 33 39))) ∷ []) (at 0 31 41))))) ∷ [])) ∷ []) (([]) ∷ [])) ≡ fault N2 (at 0 37 38) ∷ []
twice_parameter_and_local = refl

-- `void main () {} void f (int x) { { int x; } }`
twice_parameter_and_inner_local : twice (program ((parts ((member ([]) ([]) (at 0 0 15) (λ f. callable (plain_head kind.Method (word 0 5 9 (codes "main")) f) ([]) (Some (block_of ([]) (at 0 13 15))))) ∷ (member ([]) ([]) (at 0 16 45) (λ f. callable (plain_head kind.Method (word 0 21 22 (codes "f")) f) ((parameter_piece (word 0 28 29 (codes "x")) None) ∷ []) (Some (block_of ((statement (Stmt-F.Block (block_of ((statement (Stmt-F.Local (declared_locals (record { declared = (declared_type.Written (plain_type (name ((word 0 35 38 (codes "int")) ∷ []) (at 0 35 38)) false (at 0 35 38))); names = ((declarator (record { name = (word 0 39 40 (codes "x")); value = None; span = (at 0 39 40) })) ∷ []) })) (at 0 35 41))) ∷ []) (at 0 33 43)))) ∷ []) (at 0 31 45))))) ∷ [])) ∷ []) (([]) ∷ [])) ≡ []
twice_parameter_and_inner_local = refl

-- `void main () { Act a = (x) => { int x; }; }`
twice_lambda_parameter_and_local : twice (program ((parts ((member ([]) ([]) (at 0 0 43) (λ f. callable (plain_head kind.Method (word 0 5 9 (codes "main")) f) ([]) (Some (block_of ((statement (Stmt-F.Local (declared_locals (record { declared = (declared_type.Written (plain_type (name ((word 0 15 18 (codes "Act")) ∷ []) (at 0 15 18)) false (at 0 15 18))); names = ((declarator (record { name = (word 0 19 20 (codes "a")); value = (Some (expression (Expr-F.Lambda ((word 0 24 25 (codes "x")) ∷ []) (lambda_body (LambdaBody-F.Code (block_of ((statement (Stmt-F.Local (declared_locals (record { declared = (declared_type.Written (plain_type (name ((word 0 32 35 (codes "int")) ∷ []) (at 0 32 35)) false (at 0 32 35))); names = ((declarator (record { name = (word 0 36 37 (codes "x")); value = None; span = (at 0 36 37) })) ∷ []) })) (at 0 32 38))) ∷ []) (at 0 30 40)))) (at 0 23 40)))); span = (at 0 19 40) })) ∷ []) })) (at 0 15 41))) ∷ []) (at 0 13 43))))) ∷ [])) ∷ []) (([]) ∷ [])) ≡ fault N2 (at 0 36 37) ∷ []
twice_lambda_parameter_and_local = refl

-- `class A : Object { public int p { set { int value; } } } void main () {}`
twice_value_and_local : twice (program ((parts ((member ([]) ([]) (at 0 0 56) (type_piece kind.Class (name ((word 0 6 7 (codes "A")) ∷ []) (at 0 6 7)) ((plain_type (name ((word 0 10 16 (codes "Object")) ∷ []) (at 0 10 16)) false (at 0 10 16)) ∷ []) ((member ([]) ((record { word = w.Public; span = (at 0 19 25) }) ∷ []) (at 0 19 54) (property_piece (word 0 30 31 (codes "p")) ((set_access (words.Set (at 0 34 37)) (Some (block_of ((statement (Stmt-F.Local (declared_locals (record { declared = (declared_type.Written (plain_type (name ((word 0 40 43 (codes "int")) ∷ []) (at 0 40 43)) false (at 0 40 43))); names = ((declarator (record { name = (word 0 44 49 (codes "value")); value = None; span = (at 0 44 49) })) ∷ []) })) (at 0 40 50))) ∷ []) (at 0 38 52)))) ∷ []))) ∷ []))) ∷ (member ([]) ([]) (at 0 57 72) (λ f. callable (plain_head kind.Method (word 0 62 66 (codes "main")) f) ([]) (Some (block_of ([]) (at 0 70 72))))) ∷ [])) ∷ []) (([]) ∷ [])) ≡ fault N2 (at 0 44 49) ∷ []
twice_value_and_local = refl

-- `namespace A { int x; } void main () {}`
-- `namespace A { int x; }`
twice_parts_with_one_name : twice (program ((parts ((member ([]) ([]) (at 0 0 22) (λ f. namespace_piece (name ((word 0 10 11 (codes "A")) ∷ []) (at 0 10 11)) ((member ([]) ([]) (at 0 14 20) (field_piece (word 0 18 19 (codes "x")) (plain_type (name ((word 0 14 17 (codes "int")) ∷ []) (at 0 14 17)) false (at 0 14 17)) None)) ∷ []))) ∷ (member ([]) ([]) (at 0 23 38) (λ f. callable (plain_head kind.Method (word 0 28 32 (codes "main")) f) ([]) (Some (block_of ([]) (at 0 36 38))))) ∷ [])) ∷ (parts ((member ([]) ([]) (at 1 0 22) (λ f. namespace_piece (name ((word 1 10 11 (codes "A")) ∷ []) (at 1 10 11)) ((member ([]) ([]) (at 1 14 20) (field_piece (word 1 18 19 (codes "x")) (plain_type (name ((word 1 14 17 (codes "int")) ∷ []) (at 1 14 17)) false (at 1 14 17)) None)) ∷ []))) ∷ [])) ∷ []) (([]) ∷ ([]) ∷ [])) ≡ fault N2 (at 1 18 19) ∷ []
twice_parts_with_one_name = refl

-- `class A : Object {} namespace A {} void main () {}`
twice_namespace_and_class : twice (program ((parts ((member ([]) ([]) (at 0 0 19) (type_piece kind.Class (name ((word 0 6 7 (codes "A")) ∷ []) (at 0 6 7)) ((plain_type (name ((word 0 10 16 (codes "Object")) ∷ []) (at 0 10 16)) false (at 0 10 16)) ∷ []) ([]))) ∷ (member ([]) ([]) (at 0 20 34) (λ f. namespace_piece (name ((word 0 30 31 (codes "A")) ∷ []) (at 0 30 31)) ([]))) ∷ (member ([]) ([]) (at 0 35 50) (λ f. callable (plain_head kind.Method (word 0 40 44 (codes "main")) f) ([]) (Some (block_of ([]) (at 0 48 50))))) ∷ [])) ∷ []) (([]) ∷ [])) ≡ fault N2 (at 0 30 31) ∷ []
twice_namespace_and_class = refl

-- `enum E { A, A } void main () {}`
twice_enum_members : twice (program ((parts ((member ([]) ([]) (at 0 0 15) (list_piece kind.Enum (name ((word 0 5 6 (codes "E")) ∷ []) (at 0 5 6)) ((enum_member (word 0 9 10 (codes "A")) None) ∷ (enum_member (word 0 12 13 (codes "A")) None) ∷ []))) ∷ (member ([]) ([]) (at 0 16 31) (λ f. callable (plain_head kind.Method (word 0 21 25 (codes "main")) f) ([]) (Some (block_of ([]) (at 0 29 31))))) ∷ [])) ∷ []) (([]) ∷ [])) ≡ fault N2 (at 0 12 13) ∷ fault N2 (at 0 12 13) ∷ []
twice_enum_members = refl

-- `enum E { A } enum F { A } void main () {}`
twice_same_member_of_two_enums : twice (program ((parts ((member ([]) ([]) (at 0 0 12) (list_piece kind.Enum (name ((word 0 5 6 (codes "E")) ∷ []) (at 0 5 6)) ((enum_member (word 0 9 10 (codes "A")) None) ∷ []))) ∷ (member ([]) ([]) (at 0 13 25) (list_piece kind.Enum (name ((word 0 18 19 (codes "F")) ∷ []) (at 0 18 19)) ((enum_member (word 0 22 23 (codes "A")) None) ∷ []))) ∷ (member ([]) ([]) (at 0 26 41) (λ f. callable (plain_head kind.Method (word 0 31 35 (codes "main")) f) ([]) (Some (block_of ([]) (at 0 39 41))))) ∷ [])) ∷ []) (([]) ∷ [])) ≡ []
twice_same_member_of_two_enums = refl

-- `namespace GLib { class Object : Foo {} } void main () {}`
twice_built_in_again : twice (program ((parts ((member ([]) ([]) (at 0 0 40) (λ f. namespace_piece (name ((word 0 10 14 (codes "GLib")) ∷ []) (at 0 10 14)) ((member ([]) ([]) (at 0 17 38) (type_piece kind.Class (name ((word 0 23 29 (codes "Object")) ∷ []) (at 0 23 29)) ((plain_type (name ((word 0 32 35 (codes "Foo")) ∷ []) (at 0 32 35)) false (at 0 32 35)) ∷ []) ([]))) ∷ []))) ∷ (member ([]) ([]) (at 0 41 56) (λ f. callable (plain_head kind.Method (word 0 46 50 (codes "main")) f) ([]) (Some (block_of ([]) (at 0 54 56))))) ∷ [])) ∷ []) (([]) ∷ [])) ≡ fault N2 (at 0 23 29) ∷ []
twice_built_in_again = refl

-- a word twice in a property
-- `class A : Object { public int n { get; set; get; } } void main () {}`
twice_get_twice : twice (program ((parts ((member ([]) ([]) (at 0 0 52) (type_piece kind.Class (name ((word 0 6 7 (codes "A")) ∷ []) (at 0 6 7)) ((plain_type (name ((word 0 10 16 (codes "Object")) ∷ []) (at 0 10 16)) false (at 0 10 16)) ∷ []) ((member ([]) ((record { word = w.Public; span = (at 0 19 25) }) ∷ []) (at 0 19 50) (property_piece (word 0 30 31 (codes "n")) ((get_access (at 0 34 37) None) ∷ (set_access (words.Set (at 0 39 42)) None) ∷ (get_access (at 0 44 47) None) ∷ []))) ∷ []))) ∷ (member ([]) ([]) (at 0 53 68) (λ f. callable (plain_head kind.Method (word 0 58 62 (codes "main")) f) ([]) (Some (block_of ([]) (at 0 66 68))))) ∷ [])) ∷ []) (([]) ∷ [])) ≡ fault N2 (at 0 44 47) ∷ []
twice_get_twice = refl

-- `class A : Object { public int n { get; set construct; construct; } } void main () {}`
twice_construct_twice : twice (program ((parts ((member ([]) ([]) (at 0 0 68) (type_piece kind.Class (name ((word 0 6 7 (codes "A")) ∷ []) (at 0 6 7)) ((plain_type (name ((word 0 10 16 (codes "Object")) ∷ []) (at 0 10 16)) false (at 0 10 16)) ∷ []) ((member ([]) ((record { word = w.Public; span = (at 0 19 25) }) ∷ []) (at 0 19 66) (property_piece (word 0 30 31 (codes "n")) ((get_access (at 0 34 37) None) ∷ (set_access (words.SetConstruct (at 0 39 42) (at 0 43 52)) None) ∷ (set_access (words.Construct (at 0 54 63)) None) ∷ []))) ∷ []))) ∷ (member ([]) ([]) (at 0 69 84) (λ f. callable (plain_head kind.Method (word 0 74 78 (codes "main")) f) ([]) (Some (block_of ([]) (at 0 82 84))))) ∷ [])) ∷ []) (([]) ∷ [])) ≡ fault N2 (at 0 54 63) ∷ []
twice_construct_twice = refl

-- one C name twice
-- `class Foo : Object { public void get_type () {} } void main () {}`
twice_get_type : twice (program ((parts ((member ([]) ([]) (at 0 0 49) (type_piece kind.Class (name ((word 0 6 9 (codes "Foo")) ∷ []) (at 0 6 9)) ((plain_type (name ((word 0 12 18 (codes "Object")) ∷ []) (at 0 12 18)) false (at 0 12 18)) ∷ []) ((member ([]) ((record { word = w.Public; span = (at 0 21 27) }) ∷ []) (at 0 21 47) (λ f. callable (plain_head kind.Method (word 0 33 41 (codes "get_type")) f) ([]) (Some (block_of ([]) (at 0 45 47))))) ∷ []))) ∷ (member ([]) ([]) (at 0 50 65) (λ f. callable (plain_head kind.Method (word 0 55 59 (codes "main")) f) ([]) (Some (block_of ([]) (at 0 63 65))))) ∷ [])) ∷ []) (([]) ∷ [])) ≡ fault N2 (at 0 33 41) ∷ []
twice_get_type = refl

-- `void foo_new () {} class Foo : Object {} void main () {}`
twice_supplied_creation : twice (program ((parts ((member ([]) ([]) (at 0 0 18) (λ f. callable (plain_head kind.Method (word 0 5 12 (codes "foo_new")) f) ([]) (Some (block_of ([]) (at 0 16 18))))) ∷ (member ([]) ([]) (at 0 19 40) (type_piece kind.Class (name ((word 0 25 28 (codes "Foo")) ∷ []) (at 0 25 28)) ((plain_type (name ((word 0 31 37 (codes "Object")) ∷ []) (at 0 31 37)) false (at 0 31 37)) ∷ []) ([]))) ∷ (member ([]) ([]) (at 0 41 56) (λ f. callable (plain_head kind.Method (word 0 46 50 (codes "main")) f) ([]) (Some (block_of ([]) (at 0 54 56))))) ∷ [])) ∷ []) (([]) ∷ [])) ≡ fault N2 (at 0 25 28) ∷ []
twice_supplied_creation = refl

-- `void foo_new () {} class Foo : Object { public Foo.bar () {} } void main () {}`
twice_written_creation : twice (program ((parts ((member ([]) ([]) (at 0 0 18) (λ f. callable (plain_head kind.Method (word 0 5 12 (codes "foo_new")) f) ([]) (Some (block_of ([]) (at 0 16 18))))) ∷ (member ([]) ([]) (at 0 19 62) (type_piece kind.Class (name ((word 0 25 28 (codes "Foo")) ∷ []) (at 0 25 28)) ((plain_type (name ((word 0 31 37 (codes "Object")) ∷ []) (at 0 31 37)) false (at 0 31 37)) ∷ []) ((member ([]) ((record { word = w.Public; span = (at 0 40 46) }) ∷ []) (at 0 40 60) (λ f. callable (creation_head (name ((word 0 47 50 (codes "Foo")) ∷ (word 0 51 54 (codes "bar")) ∷ []) (at 0 47 54)) f) ([]) (Some (block_of ([]) (at 0 58 60))))) ∷ []))) ∷ (member ([]) ([]) (at 0 63 78) (λ f. callable (plain_head kind.Method (word 0 68 72 (codes "main")) f) ([]) (Some (block_of ([]) (at 0 76 78))))) ∷ [])) ∷ []) (([]) ∷ [])) ≡ []
twice_written_creation = refl

-- `class Foo : Object { public int p { get; } public void get_p () {} public void set_p () {} } void main () {}`
twice_getter : twice (program ((parts ((member ([]) ([]) (at 0 0 92) (type_piece kind.Class (name ((word 0 6 9 (codes "Foo")) ∷ []) (at 0 6 9)) ((plain_type (name ((word 0 12 18 (codes "Object")) ∷ []) (at 0 12 18)) false (at 0 12 18)) ∷ []) ((member ([]) ((record { word = w.Public; span = (at 0 21 27) }) ∷ []) (at 0 21 42) (property_piece (word 0 32 33 (codes "p")) ((get_access (at 0 36 39) None) ∷ []))) ∷ (member ([]) ((record { word = w.Public; span = (at 0 43 49) }) ∷ []) (at 0 43 66) (λ f. callable (plain_head kind.Method (word 0 55 60 (codes "get_p")) f) ([]) (Some (block_of ([]) (at 0 64 66))))) ∷ (member ([]) ((record { word = w.Public; span = (at 0 67 73) }) ∷ []) (at 0 67 90) (λ f. callable (plain_head kind.Method (word 0 79 84 (codes "set_p")) f) ([]) (Some (block_of ([]) (at 0 88 90))))) ∷ []))) ∷ (member ([]) ([]) (at 0 93 108) (λ f. callable (plain_head kind.Method (word 0 98 102 (codes "main")) f) ([]) (Some (block_of ([]) (at 0 106 108))))) ∷ [])) ∷ []) (([]) ∷ [])) ≡ fault N2 (at 0 55 60) ∷ []
twice_getter = refl

-- `[CCode (cname = "f")] void g () {} void f () {} void main () {}`
twice_cname : twice (program ((parts ((member ((record { arguments = (record { name = (word 0 8 13 (codes "cname")); value = record { bytes = codes "f"; span = (at 0 16 19) } } ∷ []); span = (at 0 0 21) }) ∷ []) ([]) (at 0 0 34) (λ f. callable (plain_head kind.Method (word 0 27 28 (codes "g")) f) ([]) (Some (block_of ([]) (at 0 32 34))))) ∷ (member ([]) ([]) (at 0 35 47) (λ f. callable (plain_head kind.Method (word 0 40 41 (codes "f")) f) ([]) (Some (block_of ([]) (at 0 45 47))))) ∷ (member ([]) ([]) (at 0 48 63) (λ f. callable (plain_head kind.Method (word 0 53 57 (codes "main")) f) ([]) (Some (block_of ([]) (at 0 61 63))))) ∷ [])) ∷ []) (([]) ∷ [])) ≡ fault N2 (at 0 40 41) ∷ []
twice_cname = refl

-- `void foo_bar () {} namespace Foo { void bar () {} } void main () {}`
twice_words_meet : twice (program ((parts ((member ([]) ([]) (at 0 0 18) (λ f. callable (plain_head kind.Method (word 0 5 12 (codes "foo_bar")) f) ([]) (Some (block_of ([]) (at 0 16 18))))) ∷ (member ([]) ([]) (at 0 19 51) (λ f. namespace_piece (name ((word 0 29 32 (codes "Foo")) ∷ []) (at 0 29 32)) ((member ([]) ([]) (at 0 35 49) (λ f. callable (plain_head kind.Method (word 0 40 43 (codes "bar")) f) ([]) (Some (block_of ([]) (at 0 47 49))))) ∷ []))) ∷ (member ([]) ([]) (at 0 52 67) (λ f. callable (plain_head kind.Method (word 0 57 61 (codes "main")) f) ([]) (Some (block_of ([]) (at 0 65 67))))) ∷ [])) ∷ []) (([]) ∷ [])) ≡ fault N2 (at 0 40 43) ∷ []
twice_words_meet = refl

-- with a field of struct type the fields of the struct count again, its static ones aside
-- `struct Q { int a; int b; } struct P { Q q; static Q s; Q[] r; int c; } P p; void main () {}`
weights : weights_of (program ((parts ((member ([]) ([]) (at 0 0 26) (type_piece kind.Struct (name ((word 0 7 8 (codes "Q")) ∷ []) (at 0 7 8)) [] ((member ([]) ([]) (at 0 11 17) (field_piece (word 0 15 16 (codes "a")) (plain_type (name ((word 0 11 14 (codes "int")) ∷ []) (at 0 11 14)) false (at 0 11 14)) None)) ∷ (member ([]) ([]) (at 0 18 24) (field_piece (word 0 22 23 (codes "b")) (plain_type (name ((word 0 18 21 (codes "int")) ∷ []) (at 0 18 21)) false (at 0 18 21)) None)) ∷ []))) ∷ (member ([]) ([]) (at 0 27 70) (type_piece kind.Struct (name ((word 0 34 35 (codes "P")) ∷ []) (at 0 34 35)) [] ((member ([]) ([]) (at 0 38 42) (field_piece (word 0 40 41 (codes "q")) (plain_type (name ((word 0 38 39 (codes "Q")) ∷ []) (at 0 38 39)) false (at 0 38 39)) None)) ∷ (member ([]) ((record { word = w.Static; span = (at 0 43 49) }) ∷ []) (at 0 43 54) (field_piece (word 0 52 53 (codes "s")) (plain_type (name ((word 0 50 51 (codes "Q")) ∷ []) (at 0 50 51)) false (at 0 50 51)) None)) ∷ (member ([]) ([]) (at 0 55 61) (field_piece (word 0 59 60 (codes "r")) (array_type (name ((word 0 55 56 (codes "Q")) ∷ []) (at 0 55 56)) (at 0 55 58)) None)) ∷ (member ([]) ([]) (at 0 62 68) (field_piece (word 0 66 67 (codes "c")) (plain_type (name ((word 0 62 65 (codes "int")) ∷ []) (at 0 62 65)) false (at 0 62 65)) None)) ∷ []))) ∷ (member ([]) ([]) (at 0 71 75) (field_piece (word 0 73 74 (codes "p")) (plain_type (name ((word 0 71 72 (codes "P")) ∷ []) (at 0 71 72)) false (at 0 71 72)) None)) ∷ (member ([]) ([]) (at 0 76 91) (λ f. callable (plain_head kind.Method (word 0 81 85 (codes "main")) f) ([]) (Some (block_of ([]) (at 0 89 91))))) ∷ [])) ∷ []) (([]) ∷ [])) ≡ 1 ∷ 1 ∷ 1 ∷ 1 ∷ 3 ∷ 3 ∷ 1 ∷ 1 ∷ 6 ∷ 1 ∷ []
weights = refl

-- `struct P { P p; int a; }`
weights_of_a_cycle : weights_of (program ((parts ((member ([]) ([]) (at 0 0 24) (type_piece kind.Struct (name ((word 0 7 8 (codes "P")) ∷ []) (at 0 7 8)) [] ((member ([]) ([]) (at 0 11 15) (field_piece (word 0 13 14 (codes "p")) (plain_type (name ((word 0 11 12 (codes "P")) ∷ []) (at 0 11 12)) false (at 0 11 12)) None)) ∷ (member ([]) ([]) (at 0 16 22) (field_piece (word 0 20 21 (codes "a")) (plain_type (name ((word 0 16 19 (codes "int")) ∷ []) (at 0 16 19)) false (at 0 16 19)) None)) ∷ []))) ∷ [])) ∷ []) (([]) ∷ [])) ≡ 1 ∷ 1 ∷ 1 ∷ []
weights_of_a_cycle = refl

-- the first declaration over the greatest number, where each counts 50,000
-- `int a; int b; int c;`
third_is_over : first_over (λ d. 50000) 0 (own_declared (program ((parts ((member ([]) ([]) (at 0 0 6) (field_piece (word 0 4 5 (codes "a")) (plain_type (name ((word 0 0 3 (codes "int")) ∷ []) (at 0 0 3)) false (at 0 0 3)) None)) ∷ (member ([]) ([]) (at 0 7 13) (field_piece (word 0 11 12 (codes "b")) (plain_type (name ((word 0 7 10 (codes "int")) ∷ []) (at 0 7 10)) false (at 0 7 10)) None)) ∷ (member ([]) ([]) (at 0 14 20) (field_piece (word 0 18 19 (codes "c")) (plain_type (name ((word 0 14 17 (codes "int")) ∷ []) (at 0 14 17)) false (at 0 14 17)) None)) ∷ [])) ∷ []) (([]) ∷ []))) ≡ fault M3 (at 0 18 19) ∷ []
third_is_over = refl

-- 3. Types

-- in `namespace A { public class C : Object {} } enum E { X } void f () {} namespace A { private class P : Object {} }`
abbrev sample : Outline
sample = (program ((parts ((member ([]) ([]) (at 0 0 42) (λ f. namespace_piece (name ((word 0 10 11 (codes "A")) ∷ []) (at 0 10 11)) ((member ([]) ((record { word = w.Public; span = (at 0 14 20) }) ∷ []) (at 0 14 40) (type_piece kind.Class (name ((word 0 27 28 (codes "C")) ∷ []) (at 0 27 28)) ((plain_type (name ((word 0 31 37 (codes "Object")) ∷ []) (at 0 31 37)) false (at 0 31 37)) ∷ []) ([]))) ∷ []))) ∷ (member ([]) ([]) (at 0 43 55) (list_piece kind.Enum (name ((word 0 48 49 (codes "E")) ∷ []) (at 0 48 49)) ((enum_member (word 0 52 53 (codes "X")) None) ∷ []))) ∷ (member ([]) ([]) (at 0 56 68) (λ f. callable (plain_head kind.Method (word 0 61 62 (codes "f")) f) ([]) (Some (block_of ([]) (at 0 66 68))))) ∷ (member ([]) ([]) (at 0 69 112) (λ f. namespace_piece (name ((word 0 79 80 (codes "A")) ∷ []) (at 0 79 80)) ((member ([]) ((record { word = w.Private; span = (at 0 83 90) }) ∷ []) (at 0 83 110) (type_piece kind.Class (name ((word 0 97 98 (codes "P")) ∷ []) (at 0 97 98)) ((plain_type (name ((word 0 101 107 (codes "Object")) ∷ []) (at 0 101 107)) false (at 0 101 107)) ∷ []) ([]))) ∷ []))) ∷ [])) ∷ []) (([]) ∷ []))

-- `int`
type_int : type_in sample (plain_type (name ((word 0 0 3 (codes "int")) ∷ []) (at 0 0 3)) false (at 0 0 3)) ≡ a_type (type_shape.Int int.Int32) false
type_int = refl

-- `string?`
type_string : type_in sample (plain_type (name ((word 0 0 6 (codes "string")) ∷ []) (at 0 0 6)) true (at 0 0 7)) ≡ a_type type_shape.Text true
type_string = refl

-- `GLib.Object`
type_object : type_in sample (plain_type (name ((word 0 0 4 (codes "GLib")) ∷ (word 0 5 11 (codes "Object")) ∷ []) (at 0 0 11)) false (at 0 0 11)) ≡ a_type (type_shape.Class 22) false
type_object = refl

-- `A.C`
type_class : type_in sample (plain_type (name ((word 0 0 1 (codes "A")) ∷ (word 0 2 3 (codes "C")) ∷ []) (at 0 0 3)) false (at 0 0 3)) ≡ a_type (type_shape.Class 66) false
type_class = refl

-- `E`
type_enum : type_in sample (plain_type (name ((word 0 0 1 (codes "E")) ∷ []) (at 0 0 1)) false (at 0 0 1)) ≡ a_type (type_shape.Enum 67) false
type_enum = refl

-- `E[]`
type_array : type_in sample (array_type (name ((word 0 0 1 (codes "E")) ∷ []) (at 0 0 1)) (at 0 0 3)) ≡ a_type (type_shape.Array (record { shape = item_shape.Enum 67; nullable = false })) false
type_array = refl

-- `int?`
type_number_with_mark : type_in sample (plain_type (name ((word 0 0 3 (codes "int")) ∷ []) (at 0 0 3)) true (at 0 0 4)) ≡ Err (refused U1 (at 0 0 4))
type_number_with_mark = refl

-- `f`
type_not_a_type : type_in sample (plain_type (name ((word 0 0 1 (codes "f")) ∷ []) (at 0 0 1)) false (at 0 0 1)) ≡ Err (refused T4 (at 0 0 1))
type_not_a_type = refl

-- `A`
type_namespace : type_in sample (plain_type (name ((word 0 0 1 (codes "A")) ∷ []) (at 0 0 1)) false (at 0 0 1)) ≡ Err (refused T4 (at 0 0 1))
type_namespace = refl

-- `A.D`
type_unknown_word : type_in sample (plain_type (name ((word 0 0 1 (codes "A")) ∷ (word 0 2 3 (codes "D")) ∷ []) (at 0 0 3)) false (at 0 0 3)) ≡ Err (refused N1 (at 0 2 3))
type_unknown_word = refl

-- `A.P`
type_private_word : type_in sample (plain_type (name ((word 0 0 1 (codes "A")) ∷ (word 0 2 3 (codes "P")) ∷ []) (at 0 0 3)) false (at 0 0 3)) ≡ Err (refused N4 (at 0 2 3))
type_private_word = refl

-- `AsyncResult[]`
type_passed_on : type_in sample (array_type (name ((word 0 0 11 (codes "AsyncResult")) ∷ []) (at 0 0 11)) (at 0 0 13)) ≡ Err (refused U1 (at 0 0 13))
type_passed_on = refl

-- `float`
type_float : type_in sample (plain_type (name ((word 0 0 5 (codes "float")) ∷ []) (at 0 0 5)) false (at 0 0 5)) ≡ Err (refused N1 (at 0 0 5))
type_float = refl

-- 4. C names

words_0 : joined_words (codes "getValue") ≡ codes "get_value"
words_0 = refl

words_1 : joined_words (codes "HTTPServer") ≡ codes "http_server"
words_1 = refl

words_2 : joined_words (codes "GObject") ≡ codes "g_object"
words_2 = refl

words_3 : joined_words (codes "X2Y") ≡ codes "x2_y"
words_3 = refl

words_4 : joined_words (codes "LOAD") ≡ codes "load"
words_4 = refl

words_5 : joined_words (codes "Load_Error") ≡ codes "load_error"
words_5 = refl

words_6 : joined_words (codes "aB") ≡ codes "a_b"
words_6 = refl

words_7 : joined_words (codes "ABc") ≡ codes "a_bc"
words_7 = refl

words_8 : joined_words (codes "AB") ≡ codes "ab"
words_8 = refl

words_9 : joined_words (codes "x") ≡ codes "x"
words_9 = refl

free_0 : free_name (codes "main") ≡ codes "_vala_main"
free_0 = refl

free_1 : free_name (codes "int") ≡ codes "_vala_int"
free_1 = refl

free_2 : free_name (codes "double") ≡ codes "_vala_double"
free_2 = refl

free_3 : free_name (codes "NULL") ≡ codes "_vala_NULL"
free_3 = refl

free_4 : free_name (codes "GObject") ≡ codes "_vala_GObject"
free_4 = refl

free_5 : free_name (codes "g_free") ≡ codes "_vala_g_free"
free_5 = refl

free_6 : free_name (codes "g_print") ≡ codes "_vala_g_print"
free_6 = refl

free_7 : free_name (codes "g_value_get_int") ≡ codes "_vala_g_value_get_int"
free_7 = refl

free_8 : free_name (codes "g_foo") ≡ codes "g_foo"
free_8 = refl

free_9 : free_name (codes "print") ≡ codes "print"
free_9 = refl

-- the C names of a program, in the order of its declarations
all_names : c_names (program ((parts ((member ([]) ([]) (at 0 0 334) (λ f. namespace_piece (name ((word 0 10 14 (codes "Shop")) ∷ []) (at 0 10 14)) ((member ([]) ((record { word = w.Public; span = (at 0 17 23) }) ∷ []) (at 0 17 57) (list_piece kind.ErrorDomain (name ((word 0 36 45 (codes "LoadError")) ∷ []) (at 0 36 45)) ((error_code (word 0 48 55 (codes "MISSING"))) ∷ []))) ∷ (member ([]) ((record { word = w.Public; span = (at 0 58 64) }) ∷ []) (at 0 58 215) (type_piece kind.Class (name ((word 0 71 79 (codes "SaleItem")) ∷ []) (at 0 71 79)) ((plain_type (name ((word 0 82 88 (codes "Object")) ∷ []) (at 0 82 88)) false (at 0 82 88)) ∷ []) ((member ([]) ((record { word = w.Public; span = (at 0 91 97) }) ∷ []) (at 0 91 125) (property_piece (word 0 102 111 (codes "unitPrice")) ((get_access (at 0 114 117) None) ∷ (set_access (words.Set (at 0 119 122)) None) ∷ []))) ∷ (member ([]) ((record { word = w.Public; span = (at 0 126 132) }) ∷ []) (at 0 126 147) (λ f. callable (creation_head (name ((word 0 133 141 (codes "SaleItem")) ∷ []) (at 0 133 141)) f) ([]) (Some (block_of ([]) (at 0 145 147))))) ∷ (member ([]) ((record { word = w.Public; span = (at 0 148 154) }) ∷ []) (at 0 148 176) (λ f. callable (creation_head (name ((word 0 155 163 (codes "SaleItem")) ∷ (word 0 164 170 (codes "atHome")) ∷ []) (at 0 155 170)) f) ([]) (Some (block_of ([]) (at 0 174 176))))) ∷ (member ([]) ((record { word = w.Public; span = (at 0 177 183) }) ∷ []) (at 0 177 213) (λ f. callable (plain_head kind.Method (word 0 188 196 (codes "getPrice")) f) ([]) (Some (block_of ((statement (Stmt-F.Jump (jump (Jump-F.Return (Some (expression (Expr-F.Literal (literal.Integer 1 integer.Int) (at 0 209 210)))))) (at 0 202 211))) ∷ []) (at 0 200 213))))) ∷ []))) ∷ (member ([]) ((record { word = w.Public; span = (at 0 216 222) }) ∷ []) (at 0 216 240) (list_piece kind.Enum (name ((word 0 228 232 (codes "Kind")) ∷ []) (at 0 228 232)) ((enum_member (word 0 235 238 (codes "BIG")) None) ∷ []))) ∷ (member ([]) ((record { word = w.Public; span = (at 0 241 247) }) ∷ []) (at 0 241 269) (λ f. callable (plain_head kind.Delegate (word 0 262 265 (codes "Act")) f) ([]) None)) ∷ (member ([]) ((record { word = w.Public; span = (at 0 270 276) }) ∷ []) (at 0 270 296) (type_piece kind.Struct (name ((word 0 284 285 (codes "P")) ∷ []) (at 0 284 285)) [] ((member ([]) ([]) (at 0 288 294) (field_piece (word 0 292 293 (codes "x")) (plain_type (name ((word 0 288 291 (codes "int")) ∷ []) (at 0 288 291)) false (at 0 288 291)) None)) ∷ []))) ∷ (member ([]) ((record { word = w.Public; span = (at 0 297 303) }) ∷ []) (at 0 297 332) (type_piece kind.Interface (name ((word 0 314 320 (codes "Priced")) ∷ []) (at 0 314 320)) ((plain_type (name ((word 0 323 329 (codes "Object")) ∷ []) (at 0 323 329)) false (at 0 323 329)) ∷ []) ([]))) ∷ []))) ∷ (member ([]) ([]) (at 0 335 350) (λ f. callable (plain_head kind.Method (word 0 340 344 (codes "main")) f) ([]) (Some (block_of ([]) (at 0 348 350))))) ∷ [])) ∷ []) (([]) ∷ [])) ≡ codes "ShopLoadError" ∷ codes "SHOP_LOAD_ERROR_MISSING" ∷ codes "ShopSaleItem" ∷ codes "shop_sale_item_get_type" ∷ codes "shop_sale_item_get_unit_price" ∷ codes "shop_sale_item_set_unit_price" ∷ codes "shop_sale_item_new" ∷ codes "shop_sale_item_construct" ∷ codes "shop_sale_item_new_at_home" ∷ codes "shop_sale_item_construct_at_home" ∷ codes "shop_sale_item_get_price" ∷ codes "ShopKind" ∷ codes "SHOP_KIND_BIG" ∷ codes "ShopAct" ∷ codes "ShopP" ∷ codes "ShopPriced" ∷ codes "shop_priced_get_type" ∷ codes "_vala_main" ∷ []
all_names = refl
