-- The text is known, or it stands last.
use Rattle.std.proofs.Common.{◌≡◌, ◌∙◌, sym, ap, ℕ, Vec, Global, [], ◌∷◌, ◌++◌, length, map, arith}
use Rattle.std.proofs.lemmas.List.{map-append, length-map}
use Rattle.c_meaning.specs.BlockRows.{quark_in}
use Rattle.glib_model.proofs.QuarkLemmas.{quark_known, quark_new}
use Rattle.glib_model.proofs.quarks.Quarks.add.Goals as goal

pub returns-then-place-len-clause-added : goal.returns-then-place-len-clause-added
returns-then-place-len-clause-added c =
    let number : c.place-place.result ≡ quark_in 1 c.args.self.now c.args.text.items = c.place-place.ensures ∙ ap (quark_in 1 c.args.self.now) c.as_slice.ensures.value in
    let long : length c.args.self.now ≡ length c.self.inside.texts.items = ap length (sym c.self.view_is) ∙ length-map c.self.inside.texts.items (λ (t : Vec ℕ Global). t.items) in
    sym (quark_known 1 c.args.self.now c.args.text.items (omega arith))

pub returns-clause-added : goal.returns-clause-added
returns-clause-added c =
    let number : c.place-place.result ≡ quark_in 1 c.args.self.now c.args.text.items = c.place-place.ensures ∙ ap (quark_in 1 c.args.self.now) c.as_slice.ensures.value in
    let long : length c.args.self.now ≡ length c.self.inside.texts.items = ap length (sym c.self.view_is) ∙ length-map c.self.inside.texts.items (λ (t : Vec ℕ Global). t.items) in
    ap (map (λ (t : Vec ℕ Global). t.items)) c.in_ok-push_text.ensures
    ∙ map-append (λ (t : Vec ℕ Global). t.items) c.self.inside.texts.items (c.args.text ∷ [])
    ∙ ap (λ xs. xs ++ c.args.text.items ∷ []) c.self.view_is
    ∙ sym (quark_new 1 c.args.self.now c.args.text.items (omega arith))
