-- Two texts that a function takes.
use Rattle.std.specs.Prelude.{ℕ, List, Option, Ok}
use Rattle.c_meaning.specs.declared.cell.Cell.{Cell}
use Rattle.c_meaning.specs.State
use Rattle.c_meaning.specs.Blocks.{Answer, bind}
use Rattle.c_meaning.specs.Texts.{text_of, optional_text}
use Rattle.std.specs.Option.{option_map}
use Rattle.glib_model.specs.declared.texts.Texts.{Texts}
use Rattle.glib_model.specs.declared.texts.OptionalTexts.{OptionalTexts}

pub record Both : Type 0 where
  pub first : List ℕ
  pub second : List ℕ

-- the texts that two pointers lead to, the first before the second
abbrev pub both_texts : State.State → Cell → Cell → Answer Both
both_texts s a b = bind (text_of s a) (λ x. bind (text_of s b) (λ y. Ok (record { first = x; second = y })))

abbrev pub seen_texts : Texts → Both
seen_texts texts = record { first = texts.first.items; second = texts.second.items }

-- the same where null is none
pub record BothOptional : Type 0 where
  pub first : Option (List ℕ)
  pub second : Option (List ℕ)

abbrev pub both_optional : State.State → Cell → Cell → Answer BothOptional
both_optional s a b = bind (optional_text s a) (λ x. bind (optional_text s b) (λ y. Ok (record { first = x; second = y })))

abbrev pub seen_optional : OptionalTexts → BothOptional
seen_optional texts = record { first = option_map (λ text. text.items) texts.first; second = option_map (λ text. text.items) texts.second }
