-- Document 02, k: demand 3 through any calls and openings. Assumes nothing.
use Rattle.std.specs.Prelude.{ℕ, true, not, ◌≡◌, refl, List, [], ◌∷◌}
use Rattle.std.proofs.Common.{sym, subst, arith}
use Rattle.std.proofs.Math.Path.{ap}
use Rattle.std.proofs.lemmas.List.{length-replicate}
use Rattle.wire.proofs.laws.Cases.{else_b}
use Rattle.marks.proofs.laws.Marks.{length_marks}
use Rattle.session.specs.Session.{well_formed, renewed, with_profile}
use Rattle.session.specs.Road.{refuses, opens, watch_only, Said, done, settled}
use Rattle.session.proofs.laws.Watch.{watch_formed}
use Rattle.session.specs.declared.Session.{Session}
use Rattle.links.specs.Typed.{TypedSession}
use Rattle.watch_call.specs.Watch.{watch_asks, watch_call}
use Rattle.promises.specs.History.{Demand3, start}
use Rattle.promises.specs.Sittings.{Act, calls, watch, Sitting, sat, opened, next_sitting, sittings, ActOfBytes, ActsOfBytes}
use Rattle.promises.proofs.laws.Demand3.{Inv, formed, next_inv, demand}
use Rattle.promises.proofs.laws.Lent.{run_typed}
use Rattle.promises.proofs.laws.Opened.{opened_start}

-- ---- the call `watch` on a well-formed session

pub watch_opens : (s : Session) → well_formed s ≡ true → watch_call s ≡ done (watch_only s) 0 0 []
unfolding watch_call watch_asks settled
watch_opens s ok = ap (settled s []) (sym (else_b (refuses 1) opens (ap not ok) refl))

opened_typed : (s : Session) → TypedSession s → TypedSession (watch_only s)
unfolding watch_only renewed with_profile
opened_typed s t = record {
  held = t.held;
  journal = length-replicate {A = ℕ} 2048 0;
  next = t.next;
  used = omega arith;
  redo = length-replicate {A = ℕ} 2048 0;
  ahead = omega arith;
  marks = length_marks _;
  timer = t.timer;
}

-- it starts a history
pub opening_starts : (s : Session) → TypedSession s → well_formed s ≡ true → Inv (watch_only s).held (watch_only s).next (start (watch_only s))
unfolding watch_only renewed
opening_starts s typed ok = opened_start (watch_only s) (opened_typed s typed) (watch_formed s ok) refl refl

-- ---- any calls and openings

abbrev pub Stands : Sitting → Type 0
Stands p = Inv p.base p.first p.run

-- an opening is accepted
pub opening_accepted : (p : Sitting) → Stands p → watch_call p.run.session ≡ done (watch_only p.run.session) 0 0 []
opening_accepted p v = watch_opens p.run.session (formed p.base p.first p.run v)

next_stands : (p : Sitting) → Stands p → (a : Act) → ActOfBytes a → Stands (next_sitting p a)
unfolding next_sitting opened sat done
next_stands p v (calls c) b = next_inv p.base p.first p.run v c b
next_stands p v watch b =
    subst (λ (q : Said). Stands (opened p q)) (sym (opening_accepted p v))
    (opening_starts p.run.session (run_typed p.base p.first p.run v).session (formed p.base p.first p.run v))

stand : (xs : List Act) (p : Sitting) → ActsOfBytes xs → Stands p → Stands (sittings p xs)
unfolding sittings
stand [] p b v = v
stand (a ∷ xs) p b v = stand xs (next_sitting p a) b.1 (next_stands p v a b.0)

module _ (xs : List Act) (p : Sitting) (b : ActsOfBytes xs) (v : Stands p) where
  abbrev q : Sitting
  q = sittings p xs

  pub sitting_demand : Demand3 q.base q.first q.run
  sitting_demand = demand q.base q.first q.run (stand xs p b v)

  pub sitting_opens : (watch_call q.run.session).answer ≡ 0
  unfolding done
  sitting_opens = ap (λ (x : Said). x.answer) (opening_accepted q (stand xs p b v))
