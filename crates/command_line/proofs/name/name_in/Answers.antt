use Rattle.std.proofs.Common.{◌≡◌, ◌∙◌, List, ℕ, [], ◌∷◌, ◌++◌, map, take, ap, sym}
use Rattle.std.specs.String.{string_bytes}
use Rattle.command_line.specs.Names.{name_byte, with_letter, stem, file_part}
use Rattle.command_line.proofs.Names.{with_own_letter, with_p}
use Rattle.command_line.proofs.name.name_in.Goals as goal
use Rattle.command_line.proofs.name.name_in.Goals.{then-begins_with_letter+in_ok-push_name, else-begins_with_letter+in_ok-push+in_ok-push_name-2}

pub returns : goal.returns
unfolding lib.Utf8.encode
returns c =
    let cut : List ℕ → List ℕ = λ s. take 100 (with_letter (map name_byte s)) in
    let s = c.stem-stem.result.now in
    let is_stem : s ≡ stem (file_part c.args.word.now) = c.stem-stem.ensures ∙ ap stem (c.after_last_byte.ensures ∙ ap file_part c.as_bytes.ensures.value) in
    elim c.if-begins_with_letter.branch [
      | then-begins_with_letter+in_ok-push_name w ↦
          ap string_bytes w.name-is
          ∙ w.in_ok-push_name.ensures
          ∙ ap (λ l. l ++ map name_byte w.front.result.now) c.new-name.ensures.bytes
          ∙ ap (map name_byte) w.front.ensures
          ∙ with_own_letter s (sym c.begins_with_letter.ensures ∙ w.if-begins_with_letter.true)
          ∙ ap cut is_stem
      | else-begins_with_letter+in_ok-push+in_ok-push_name-2 w ↦
          ap string_bytes w.name-is
          ∙ w.in_ok-push_name-2.ensures
          ∙ ap (λ l. l ++ map name_byte w.front-else-begins_with_letter.result.now)
          (w.in_ok-push.ensures.bytes ∙ ap (λ l. l ++ (112 ∷ [])) c.new-name.ensures.bytes)
          ∙ ap (λ l. 112 ∷ map name_byte l) w.front-else-begins_with_letter.ensures
          ∙ with_p s (sym c.begins_with_letter.ensures ∙ w.if-begins_with_letter.false)
          ∙ ap cut is_stem
    ]
