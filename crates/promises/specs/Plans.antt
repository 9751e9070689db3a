-- Document 02, l: "A small check accepts a proposal exactly when it is such an order and, run on the given record in a session with an empty journal and the same next id,
-- full profile, every packet gets answer 0 and success and the last state is the wanted one, whoever made it."
use Rattle.std.specs.Prelude.{ℕ, ◌<◌, ◌≤◌, true, ◌⊎◌, ◌≡◌, List, [], ◌∷◌, length, take, replicate}
use Rattle.wire.specs.Conditions.{◌and◌, is, row}
use Rattle.session.specs.Session.{well_formed, renewed, with_profile}
use Rattle.session.specs.declared.Session.{Session}
use Rattle.occ_call.specs.Occ.{occ_call}
use Rattle.inplace.specs.declared.Told.{Told}
use Rattle.plan.specs.Conditions.{Order}
use Rattle.plan.specs.Plan.{packets_in, packet_of, Planned, answered, accepted}
use Rattle.promises.specs.Calls.{Call, occ}
use Rattle.promises.specs.Demand2.{OccSucceeds}

-- ---- when a call has an answer other than 0

abbrev pub TooMany : List ℕ → Type 0
TooMany p = 5 < packets_in p

abbrev pub Wanted : ℕ → Type 0
Wanted wanted = (wanted ≡ 2) ⊎ (wanted ≡ 3)

-- "10 for more than five packets or a wanted state other than 2 and 3, after 1"
unfoldable pub PlanOkAnswer : Session → List ℕ → ℕ → ℕ → Type 0
PlanOkAnswer s p wanted = row 1 (well_formed s ≡ true → ⊥) (row 10 (TooMany p ⊎ (Wanted wanted → ⊥)) (is 0))

-- 3: the order's buffer has no room for five numbers
unfoldable pub PlanAnswer : Session → List ℕ → ℕ → List ℕ → ℕ → Type 0
PlanAnswer s p wanted d = row 1 (well_formed s ≡ true → ⊥) (row 10 (TooMany p ⊎ (Wanted wanted → ⊥)) (row 3 (length d < 5) (is 0)))

-- none of them
pub record PlanDue (s : Session) (p : List ℕ) (wanted : ℕ) : Type 0 where
  pub formed : well_formed s ≡ true
  pub few : packets_in p ≤ 5
  pub wanted_is : Wanted wanted

-- ---- a proposal run

-- "the given record in a session with an empty journal and the same next id, full profile": and the same timer, and an empty redo store
unfoldable pub trial_session : Session → Session
trial_session s = renewed (with_profile s 0) s.held s.next (replicate 2048 0) 0 (replicate 2048 0) 0

-- the packets that an order names, sent by HTMGT one after the other, d the reply buffer: "every packet gets answer 0 and success and the last state is the wanted one"
abbrev pub Leads : List ℕ → ℕ → List ℕ → Session → List ℕ → Type 0
Leads p wanted d s [] = s.held.state ≡ wanted
Leads p wanted d s (x ∷ xs) = OccSucceeds s 0x10 (packet_of x p) d and Leads p wanted d (occ_call s 0x10 (packet_of x p) d).session xs

-- as calls
unfoldable pub sent_from : List ℕ → List ℕ → List ℕ → List Call
sent_from p d [] = []
sent_from p d (x ∷ xs) = occ 0x10 (packet_of x p) d ∷ sent_from p d xs

-- "such an order", and it leads there
abbrev pub IsPlan : Session → List ℕ → ℕ → List ℕ → List ℕ → Type 0
IsPlan s p wanted d o = Order (packets_in p) o and Leads p wanted d (trial_session s) o

-- ---- what is told

abbrev pub Accepted : Told → Type 0
Accepted t = t ≡ accepted

-- the plan given: the numbers at the front of the buffer, as many as are told
abbrev pub plan_in : Planned → List ℕ
plan_in q = take q.told.beside q.order

abbrev pub Given : Planned → Type 0
Given q = (q.told.answer ≡ 0) and (q.told.small ≡ 1)

abbrev pub NoPlan : Planned → Type 0
NoPlan q = q.told ≡ answered 0
