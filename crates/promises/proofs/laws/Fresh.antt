-- A fresh session starts a history. Assumes nothing.
use Rattle.std.specs.Prelude.{ℕ, true, ◌≡◌, refl}
use Rattle.std.proofs.Common.{arith}
use Rattle.std.proofs.lemmas.List.{length-replicate}
use Rattle.record.specs.Record.{fresh_record}
use Rattle.session.specs.Session.{fresh_session, well_formed}
use Rattle.links.specs.Typed.{TypedSession}
use Rattle.links.proofs.laws.Typed.{typed_fresh}
use Rattle.promises.specs.History.{start}
use Rattle.promises.proofs.laws.ComputedSession.{computed_session}
use Rattle.promises.proofs.laws.Demand3.{Inv}
use Rattle.promises.proofs.laws.Opened.{opened_start}

fresh_formed : well_formed fresh_session ≡ true
unfolding computed_session
fresh_formed = refl

fresh_typed : TypedSession fresh_session
unfolding fresh_session
fresh_typed = record {
  held = typed_fresh;
  journal = length-replicate {A = ℕ} 2048 0;
  next = omega arith;
  used = omega arith;
  redo = length-replicate {A = ℕ} 2048 0;
  ahead = omega arith;
  marks = length-replicate {A = ℕ} 64 0;
  timer = omega arith;
}

pub fresh_start : Inv fresh_record 1 (start fresh_session)
unfolding fresh_session
fresh_start = opened_start fresh_session fresh_typed fresh_formed refl refl
