-- Which words may stand in front of a declaration.
use Rattle.std.specs.Prelude.{Bool, true, false, ◌&&◌, ◌||◌, not, if◌then◌else◌, List, [], ◌∷◌, Option, Some, None}
use Rattle.std.specs.List.{list_any}
use Rattle.vg_base.specs.declared.event.Span.{Span}
use Rattle.static_rules.specs.declared.rules.Rule.{Rule}
use Rattle.static_rules.specs.declared.rules.Rule.TheVariants as rule
use Rattle.vala_tree.specs.declared.member.ModifierWord.{ModifierWord}
use Rattle.vala_tree.specs.declared.member.ModifierWord.TheVariants as w
use Rattle.vala_tree.specs.declared.member.Modifier.{Modifier}
use Rattle.vala_grammar.specs.declared.sort.Sort.{Sort}
use Rattle.vala_grammar.specs.declared.sort.Sort.TheVariants as s
use Rattle.vala_grammar.specs.Label.{Label, Here, Earlier}
use Rattle.vala_file_grammar.specs.Kinds.{Kind, Of, sorted, one_of}

-- ---- which words a declaration takes

-- Whose words they are: what is told by the first token behind them, or, of what begins with a type or a name, by the token behind the name.
pub data HeadKind : Type 0 where
  AClass : HeadKind
  AField : HeadKind
  AMethod : HeadKind
  AProperty : HeadKind
  ASignal : HeadKind
  AConstruct : HeadKind
  ACreation : HeadKind
  Another : HeadKind

abbrev pub is_access : ModifierWord → Bool
is_access w.Public = true
is_access w.Protected = true
is_access w.Internal = true
is_access w.Private = true
is_access _ = false

-- the words by which a class and its bases share a method or property
abbrev pub is_overriding : ModifierWord → Bool
is_overriding w.Abstract = true
is_overriding w.Virtual = true
is_overriding w.Override = true
is_overriding _ = false

-- besides the access words, which every declaration takes; a method takes all words
abbrev pub takes : HeadKind → ModifierWord → Bool
takes AClass w.Abstract = true
takes AField w.Static = true
takes AMethod x = true
takes AProperty x = is_overriding x
takes ASignal w.Virtual = true
takes _ _ = false

-- the first word that a declaration of this kind does not take
abbrev pub first_wrong : HeadKind → List Modifier → Option Modifier
first_wrong k [] = None
first_wrong k (m ∷ ms) = if is_access m.word || takes k m.word then first_wrong k ms else Some m

-- what such a word breaks: `static` before `construct` and `async` before a creation method are left out
abbrev pub rule_of_word : HeadKind → ModifierWord → Rule
rule_of_word AConstruct w.Static = rule.U1
rule_of_word ACreation w.Async = rule.U1
rule_of_word _ _ = rule.S1

abbrev pub wrong_word : HeadKind → Modifier → Label
wrong_word k m = Earlier (rule_of_word k m.word) m.span

-- ---- which word may follow others

abbrev pub modifiers : List Sort
modifiers = s.Public ∷ s.Protected ∷ s.Internal ∷ s.Private ∷ s.Static ∷ s.Abstract ∷ s.Virtual ∷ s.Override ∷ s.Async ∷ s.Inline ∷ []

abbrev pub is_modifier : Kind → Bool
is_modifier = one_of modifiers

abbrev pub is_access_word : Kind → Bool
is_access_word = one_of (s.Public ∷ s.Protected ∷ s.Internal ∷ s.Private ∷ [])

abbrev pub is_overriding_word : Kind → Bool
is_overriding_word = one_of (s.Abstract ∷ s.Virtual ∷ s.Override ∷ [])

-- those of a field of a struct
abbrev pub is_field_word : Kind → Bool
is_field_word = one_of (s.Public ∷ s.Protected ∷ s.Internal ∷ s.Private ∷ s.Static ∷ [])

abbrev pub sort_of_word : ModifierWord → Sort
sort_of_word w.Public = s.Public
sort_of_word w.Protected = s.Protected
sort_of_word w.Internal = s.Internal
sort_of_word w.Private = s.Private
sort_of_word w.Static = s.Static
sort_of_word w.Abstract = s.Abstract
sort_of_word w.Virtual = s.Virtual
sort_of_word w.Override = s.Override
sort_of_word w.Async = s.Async
sort_of_word w.Inline = s.Inline

abbrev pub any_word : (ModifierWord → Bool) → List Modifier → Bool
any_word test [] = false
any_word test (m ∷ ms) = test m.word || any_word test ms

abbrev pub is_async_word : ModifierWord → Bool
is_async_word w.Async = true
is_async_word _ = false

-- where `async` stands among them
abbrev pub async_in : List Modifier → Option Span
async_in [] = None
async_in (m ∷ ms) = if is_async_word m.word then Some m.span else async_in ms

-- a word that stands there already, or a second access word
abbrev pub repeats : List Modifier → Kind → Bool
repeats ms x = any_word (λ v. sorted (sort_of_word v) x) ms || (is_access_word x && any_word is_access ms)

-- `async` with one of `abstract`, `virtual` and `override`, which are left out together
abbrev pub clashes : List Modifier → Kind → Bool
clashes ms x = (sorted s.Async x && any_word is_overriding ms) || (is_overriding_word x && any_word is_async_word ms)

-- the fault is `async`, which is this word or an earlier one
abbrev pub clash_at : Option Span → Label
clash_at None = Here
clash_at (Some x) = Earlier rule.U1 x

abbrev pub clash : List Modifier → Label
clash ms = clash_at (async_in ms)

-- a word that may follow these
abbrev pub may_follow : List Modifier → Kind → Bool
may_follow ms x = is_modifier x && not (repeats ms x || clashes ms x)

-- the same in front of a struct's field
abbrev pub may_follow_in_struct : List Modifier → Kind → Bool
may_follow_in_struct ms x = is_field_word x && not (repeats ms x)

-- some word may
abbrev pub any_follows : (List Modifier → Kind → Bool) → List Modifier → Bool
any_follows may ms = list_any (λ x. may ms (record { base = Of x; text = [] })) modifiers
