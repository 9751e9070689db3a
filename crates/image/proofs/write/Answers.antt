use mathlib.Core.Path.{refl, ◌∙◌}
use Rattle.wire.proofs.laws.Cases.{if_ne, else_ne}
use Rattle.image.specs.Image.{image_of, session_in, written_to}
use Rattle.image.proofs.write.Goals as goal

pub returns-then-d-ne-IMAGE : goal.returns-then-d-ne-IMAGE
unfolding written_to
returns-then-d-ne-IMAGE c = if_ne _ _ c.if-d-ne-IMAGE.true refl

pub returns : goal.returns
unfolding written_to session_in
returns c = else_ne _ _ c.if-d-ne-IMAGE.false (c.write_head.ensures ∙ (λ i. image_of (record { held = c.args.s.held; worked = c.args.s.worked; next = c.args.s.next; used = c.args.s.used; journal = c.put_stores.ensures.0 i; ahead = c.args.s.ahead; redo = c.put_stores.ensures.1.0 i; marks = c.put_stores.ensures.1.1 i; timer = c.args.s.timer; profile = c.args.s.profile })))
