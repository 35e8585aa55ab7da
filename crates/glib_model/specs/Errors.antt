-- What stands in errors.
use Rattle.std.specs.Prelude.{ℕ, ◌&&◌, Bool, List, Ok, Err}
use Rattle.c_tree.specs.Kinds.{int, uint}
use Rattle.c_meaning.specs.declared.cell.Cell.{Cell}
use Rattle.c_meaning.specs.State
use Rattle.c_meaning.specs.State.{Place}
use Rattle.c_meaning.specs.Blocks.{Answer, bind, get, get_cells}
use Rattle.c_meaning.specs.Numbers.{as_kind, number_of, pointed}
use Rattle.c_meaning.specs.Texts.{text_of}
use Rattle.c_meaning.specs.BlockRows.{same_number}
use Rattle.glib_model.specs.declared.parts.ErrorParts.{ErrorParts}
use Rattle.glib_model.specs.declared.propagation.Target.{Target}

abbrev pub place : ℕ → ℕ → Place
place block at = record { block = block; at = at }

-- the domain and the code of the error with a number, as cells of their types
abbrev pub domain_cell : State.State → ℕ → Answer Cell
domain_cell s n = bind (get s (place n 0)) (as_kind uint)

abbrev pub code_cell : State.State → ℕ → Answer Cell
code_cell s n = bind (get s (place n 1)) (as_kind int)

pub record Parts : Type 0 where
  pub domain : Cell
  pub code : Cell
  pub message : List ℕ

-- the domain, the code and the message, which the error points to
abbrev pub parts_of : State.State → ℕ → Answer Parts
parts_of s n = bind (domain_cell s n) (λ d. bind (code_cell s n) (λ c. bind (bind (get s (place n 2)) (text_of s)) (λ m. Ok (record { domain = d; code = c; message = m }))))

abbrev pub seen_parts : ErrorParts → Parts
seen_parts p = record { domain = p.domain; code = p.code; message = p.message.items }

-- whether it has that domain and that code
abbrev pub has_code : State.State → ℕ → Cell → Cell → Answer Bool
has_code s n d c = bind (bind (domain_cell s n) number_of) (λ x. bind (number_of d) (λ y. bind (bind (code_cell s n) number_of) (λ z. bind (number_of c) (λ w. Ok (same_number x y && same_number z w)))))

-- the place of a cell that a pointer leads to
abbrev pub destination : State.State → Cell → Answer Place
destination s d = bind (pointed s d) (λ p. bind (get_cells s p 1) (λ old. Ok p))

abbrev pub seen_target : Answer Target → Answer Place
seen_target (Ok t) = Ok (place t.block t.at)
seen_target (Err u) = Err u
