use Rattle.std.proofs.Common.{ℕ, ◌+◌, ◌≤◌, length, refl, sym, ap, ap₂, rules, ◌∙◌, ◌∷◌, [], arith}
use Rattle.wire.specs.Wire.{joined}
use Rattle.text.specs.Text.{put_all, spaced, hex_of, sheet}
use Rattle.text.proofs.Turns.{each_more, each_end, room_for_all}
use Rattle.text.proofs.laws.Pieces.{all_fit}
use Rattle.text.proofs.Page.put_bytes.Goals as goal

pub loop-b-preserved : goal.loop-b-preserved
unfolding spaced put_all
loop-b-preserved c = (search rules, each_more spaced (λ (b : ℕ). (32 ∷ []) ∷ hex_of b ∷ []) refl (λ b bs. refl) _ c.loop-b.b-index _ c.loop-b-test.true (search rules) ∙ c.loop-b.invariant.1)

pub returns : goal.returns
unfolding spaced
returns c = (c.loop-b.invariant.0, each_end spaced (λ (b : ℕ). (32 ∷ []) ∷ hex_of b ∷ []) refl (λ b bs. refl) _ c.loop-b.b-index _ c.loop-b-test.false ∙ c.loop-b.invariant.1)

pub returns-then-s-self : goal.returns-then-s-self
unfolding spaced hex_of joined
returns-then-s-self c =
    let long = room_for_all spaced (λ (b : ℕ). 32 ∷ hex_of b) 3 (λ b. refl) refl (λ b bs. refl) c.args.s.now in
    let fits : c.args.self.now.past + length (joined (spaced c.args.s.now)) ≤ length c.args.self.now.out.now = omega (arith, long, c.if-at-self.true, c.if-s-self.true) in (
      refl,
      ap₂ sheet c.spell_apart.ensures (ap (λ (n : ℕ). c.args.self.now.past + n) (sym long)) ∙ sym (all_fit c.args.self.now.past (spaced c.args.s.now) c.args.self.now.out.now fits),
    )
