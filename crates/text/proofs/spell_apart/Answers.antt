use Rattle.std.proofs.Common.{ℕ, ◌≡◌, ◌≤◌, ◌+◌, ◌∷◌, [], length, get_or, refl, sym, ap, ap₂, ◌∙◌, arith}
use Rattle.wire.specs.Wire.{pasted, joined}
use Rattle.wire.proofs.laws.Wire.{length_pasted}
use Rattle.text.specs.Text.{hex_of, spaced}
use Rattle.text.proofs.Turns.{spelt_next, spelt_all}
use Rattle.text.proofs.spell_apart.Goals as goal

pub loop-b-preserved : goal.loop-b-preserved
unfolding hex_of spaced joined
loop-b-preserved c =
    let i = c.loop-b.invariant in
    let fits : c.loop-b.end + 3 ≤ length c.loop-b.out = omega (arith, i.0, i.1, c.loop-b-test.true, c.requires) in
    let digits : c.copy.new.d ≡ pasted c.loop-b.end (32 ∷ hex_of (get_or c.args.s.now c.loop-b.b-index 0)) c.loop-b.out =
    c.copy.ensures ∙ ap₂ (λ (x y : ℕ). pasted c.loop-b.end (32 ∷ x ∷ y ∷ []) c.loop-b.out) c.glyph.ensures c.glyph-in-loop-b.ensures in (
      ap length c.copy.ensures ∙ length_pasted c.loop-b.end _ c.loop-b.out fits ∙ i.0,
      omega (arith, i.1),
      spelt_next spaced (λ (b : ℕ). 32 ∷ hex_of b) 3 (λ b. refl) refl (λ b bs. refl) _ _ _ _ c.loop-b-test.true fits digits ∙ i.2,
    )

pub returns : goal.returns
unfolding hex_of spaced joined
returns c = sym (spelt_all spaced (λ (b : ℕ). 32 ∷ hex_of b) 3 (λ b. refl) refl (λ b bs. refl) c.args.s.now c.loop-b.out c.loop-b.b-index c.loop-b.end c.loop-b-test.false) ∙ c.loop-b.invariant.2
