use Rattle.std.proofs.Common.{ℕ, refl, rules, ◌∙◌}
use Rattle.text.specs.Text.{put_all, numbers, number}
use Rattle.text.proofs.Turns.{each_more, each_end}
use Rattle.text.proofs.Page.put_numbers.Goals as goal

pub loop-b-preserved : goal.loop-b-preserved
unfolding numbers put_all
loop-b-preserved c = (search rules, each_more numbers (λ (b : ℕ). number b) refl (λ b bs. refl) _ c.loop-b.b-index _ c.loop-b-test.true (search rules) ∙ c.loop-b.invariant.1)

pub returns : goal.returns
unfolding numbers
returns c = (c.loop-b.invariant.0, each_end numbers (λ (b : ℕ). number b) refl (λ b bs. refl) _ c.loop-b.b-index _ c.loop-b-test.false ∙ c.loop-b.invariant.1)
