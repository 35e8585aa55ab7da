-- The sets by which parts decide.
use Rattle.std.specs.Prelude.{ℕ, Bool, true, false, ◌&&◌, ◌||◌, not, List, codes}
use Rattle.std.specs.Str.{bytes_eq}
use Rattle.c_lexer.specs.declared.token.Sign.TheVariants as sign
use Rattle.c_lexer.specs.declared.token.Keyword.TheVariants as keyword
use Rattle.c_tree.specs.Names.{Names, Role, RowName}
use Rattle.c_grammar.specs.Sorts.{Kind, Name, Number, Null, File, on}
use Rattle.c_grammar.specs.Tests as tests
use Rattle.c_cursor.specs.declared.sets.Set.{Set}
use Rattle.c_cursor.specs.declared.sets.Set.TheVariants as set

-- a function of the library
abbrev pub is_row : Role → Bool
is_row (RowName takes_type) = true
is_row r = false

-- whether these letters are `GInterfaceInfo`
abbrev pub is_info : List ℕ → Bool
is_info w = bytes_eq w (codes "GInterfaceInfo")

-- a sign before an operand, with `&` where it may stand
abbrev pub is_any_prefix : Bool → tests.Set
is_any_prefix constant c = tests.is_prefix constant c || (not constant && tests.sign_is sign.Ampersand c)

-- a word that a statement begins with
abbrev pub begins_by_word : tests.Set
begins_by_word c = tests.word_is keyword.If c || tests.word_is keyword.Goto c || tests.word_is keyword.Switch c || tests.word_is keyword.Return c

-- what an operand with suffixes begins with
abbrev pub begins_suffixed : Bool → tests.Set
begins_suffixed constant c = tests.sign_is sign.OpenParen c || tests.begins_primary constant c

-- what a static variable, a prototype or a function begins with
abbrev pub begins_typed : tests.Set
begins_typed c = tests.word_is keyword.Static c || tests.begins_type true c

-- what an item begins with that is no include line
abbrev pub begins_declared : tests.Set
begins_declared c = tests.word_is keyword.Typedef c || tests.word_is keyword.Struct c || begins_typed c

-- whether a kind of token is in a set, among names
abbrev pub is_in : Set → Names → Kind → Bool
is_in (set.Sign s) ns = on ns (tests.sign_is s)
is_in (set.Word w) ns = on ns (tests.word_is w)
is_in (set.WordOnLine line w) ns = on ns (tests.on_line line (tests.word_is w))
is_in set.Name ns = on ns (tests.is Name)
is_in set.Number ns = on ns (tests.is Number)
is_in set.Null ns = on ns (tests.is Null)
is_in set.Literal ns = on ns tests.is_literal
is_in set.File ns = on ns (tests.is File)
is_in set.Hash ns = on ns tests.begins_include
is_in set.IncludeWord ns = tests.is_include_word
is_in set.Tag ns = tests.is_tag
is_in (set.NameOf w) ns = tests.is_name_of w.now
is_in set.InitFunc ns = tests.is_name_of (codes "GInterfaceInitFunc")
is_in (set.FreeName may_be_main) ns = tests.is_free_name may_be_main
is_in set.InfoOrType ns = tests.is_info_or_type ns
is_in (set.ValueName constant) ns = on ns (tests.name_with (tests.is_value_role constant))
is_in set.RowName ns = on ns (tests.name_with is_row)
is_in (set.Base anyhow) ns = on ns (tests.is_base anyhow)
is_in (set.BaseOnLine line) ns = on ns (tests.on_line line (tests.is_base true))
is_in set.KeyBase ns = on ns tests.is_key_base
is_in set.OtherBase ns = on ns tests.is_other_base
is_in set.IntBase ns = on ns tests.is_int_base
is_in set.CharBase ns = on ns tests.is_char_base
is_in (set.Type anyhow) ns = on ns (tests.begins_type anyhow)
is_in set.KeyType ns = on ns tests.begins_key_type
is_in set.TypeMore ns = on ns tests.goes_on_type
is_in set.LocalMore ns = on ns tests.goes_on_local
is_in (set.Prefix constant) ns = on ns (is_any_prefix constant)
is_in (set.Link l) ns = on ns (tests.links l)
is_in (set.LinkUpTo l) ns = on ns (tests.links_up_to l)
is_in (set.Field dot) ns = on ns (tests.is_field dot)
is_in set.Unnamed ns = on ns tests.begins_unnamed
is_in (set.Value constant) ns = on ns (tests.begins_prefixed constant)
is_in set.Plain ns = on ns tests.begins_plain
is_in set.Statement ns = on ns tests.begins_statement
is_in (set.Item line) ns = on ns (tests.begins_item line)
