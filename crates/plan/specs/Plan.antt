-- Document 02, l: "A newcomer has up to five prepared OCC packets from HTMGT and wants state 2 or 3. Propose an order": what a packet tried, a proposal and the plan
-- come to, for every session, packets and order.
use Rattle.std.specs.Result.{is_ok}
use Rattle.std.specs.Prelude.{ℕ, zero, suc, ◌+◌, ◌-◌, ◌*◌, ◌/◌, ◌%◌, Bool, true, false, cond, not, Option, Some, None, List, [], ◌∷◌, ◌≡◌, ltb, eqb, length, get_or, take, drop}
use Rattle.wire.specs.Conditions.{◌and◌}
use Rattle.wire.specs.Wire.{pasted}
use Rattle.record.specs.Record.{worked_of}
use Rattle.change.specs.Change.{put_after}
use Rattle.change.specs.declared.Change.{Change}
use Rattle.change.specs.declared.Tables.{Tables}
use Rattle.packet.specs.Packet.{packet_status, data_of}
use Rattle.occ.specs.Judge.{judge_of}
use Rattle.occ.specs.declared.Judged.{Judged}
use Rattle.occ.specs.declared.Verdict.{Verdict}
use Rattle.occ.specs.declared.Verdict.TheVariants.{Refuse, Poll, Make}
use Rattle.session.specs.Session.{well_formed, made_of}
use Rattle.session.specs.declared.Session.{Session}
use Rattle.image.specs.Image.{session_of}
use Rattle.layout.specs.Layout.{image_length}
use Rattle.inplace.specs.declared.Told.{Told}
use Rattle.plan.specs.declared.Trial.{Trial}

-- ---- packets stand in slots of 4,096 bytes, one after the other; the last slot may be shorter

unfoldable pub packets_in : List ℕ → ℕ
packets_in p = (length p + 4095) / 4096

unfoldable pub packet_at : ℕ → List ℕ → List ℕ
packet_at place p = take 4096 (drop (4096 * place) p)

-- by its number, from 1
unfoldable pub packet_of : ℕ → List ℕ → List ℕ
packet_of number p = packet_at (number - 1) p

-- ---- a packet tried on a record and a next id: no stores, since five entries have room in empty ones

-- what of "answer 0 and success" the packet's bytes alone decide: 4 bytes at least, and no status of the packet's own
unfoldable pub sound : List ℕ → Bool
sound c = cond (ltb (length c) 4) false (is_ok (packet_status c))

-- of the five places at once: each packet is read and summed once
unfoldable pub sounds : List ℕ → List Bool
sounds p = sound (packet_at 0 p) ∷ sound (packet_at 1 p) ∷ sound (packet_at 2 p) ∷ sound (packet_at 3 p) ∷ sound (packet_at 4 p) ∷ []

-- a change carried out: the record, and the next id
unfoldable pub trial_made : Trial → Tables → Change → Trial
trial_made t tables change = record { held = put_after t.held (record { change = change; tables = tables }); next = t.next + made_of change }

-- none where the packet is refused
unfoldable pub trial_by : Trial → Tables → Verdict → Option Trial
trial_by t tables (Refuse status) = None
trial_by t tables Poll = Some t
trial_by t tables (Make change) = Some (trial_made t tables change)

unfoldable pub trial_judged : Trial → Judged → Option Trial
trial_judged t j = trial_by t j.tables j.verdict

unfoldable pub trial_of : Trial → List ℕ → Option Trial
trial_of t c =
    cond (not (sound c)) None (trial_judged t (judge_of t.held (worked_of t.held) t.next 0x10 (get_or c 1 0) (data_of c)))

-- ---- "A small check accepts a proposal exactly when it is such an order and .. every packet gets answer 0 and success and the last state is the wanted one"

unfoldable pub comes_in : ℕ → List ℕ → Bool
comes_in x [] = false
comes_in x (y ∷ ys) = cond (eqb y x) true (comes_in x ys)

-- "each packet used at most once, some perhaps not at all", by their numbers from 1
unfoldable pub is_order : ℕ → List ℕ → Bool
is_order count [] = true
is_order count (x ∷ xs) =
    cond (eqb x 0) false
    (cond (ltb count x) false
    (cond (comes_in x xs) false
    (is_order count xs)))

-- where a packet fails, all do
unfoldable pub reaches_from : List ℕ → ℕ → Option Trial → List ℕ → Bool
reaches_from p wanted None o = false
reaches_from p wanted (Some t) [] = eqb t.held.state wanted
reaches_from p wanted (Some t) (x ∷ xs) = reaches_from p wanted (trial_of t (packet_of x p)) xs

unfoldable pub reaches : List ℕ → ℕ → Trial → List ℕ → Bool
reaches p wanted t o = reaches_from p wanted (Some t) o

-- a proposal of more than five numbers names one twice, or one that is no packet's
unfoldable pub plan_ok : List ℕ → ℕ → Trial → List ℕ → Bool
plan_ok p wanted t o =
    cond (ltb 5 (length o)) false
    (cond (not (is_order (packets_in p) o)) false
    (reaches p wanted t o))

-- ---- the plan given: "the one with the fewest packets, then the least in index order"

-- orders of five packets are numbers of five digits in base 6, without their leading zeros: the smaller number has fewer packets, or is less in index order
abbrev pub digits_of : ℕ → List ℕ
digits_of n = n / 1296 % 6 ∷ n / 216 % 6 ∷ n / 36 % 6 ∷ n / 6 % 6 ∷ n % 6 ∷ []

unfoldable pub trimmed : List ℕ → List ℕ
trimmed [] = []
trimmed (x ∷ xs) = cond (eqb x 0) (trimmed xs) (x ∷ xs)

unfoldable pub order_of : ℕ → List ℕ
order_of n = trimmed (digits_of n)

-- 6 ^ 5
abbrev pub orders : ℕ
orders = 7776

-- the first of k numbers from n on whose order passes
unfoldable pub least_from : List ℕ → ℕ → Trial → ℕ → ℕ → Option ℕ
least_from p wanted t zero n = None
least_from p wanted t (suc k) n = cond (plan_ok p wanted t (order_of n)) (Some n) (least_from p wanted t k (suc n))

unfoldable pub least_plan : List ℕ → ℕ → Trial → Option ℕ
least_plan p wanted t = least_from p wanted t orders 0

-- ---- the calls, on a session: neither changes it

-- 1: session not well formed; 10: "for more than five packets or a wanted state other than 2 and 3, after 1"
unfoldable pub wanted_ok : ℕ → Bool
wanted_ok wanted = cond (eqb wanted 2) true (eqb wanted 3)

unfoldable pub plan_refusal : Bool → List ℕ → ℕ → ℕ
plan_refusal formed p wanted =
    cond (not formed) 1
    (cond (ltb 5 (packets_in p)) 10
    (cond (not (wanted_ok wanted)) 10 0))

-- what is answered by 10, once the session is well formed
abbrev pub Plannable : List ℕ → ℕ → Bool → Type 0
Plannable p wanted ok = plan_refusal true p wanted ≡ cond ok 0 10

-- "run on the given record in a session with an empty journal and the same next id, full profile"
unfoldable pub start_of : Session → Trial
start_of s = record { held = s.held; next = s.next }

abbrev pub answered : ℕ → Told
answered n = record { answer = n; small = 0; beside = 0 }

-- beside the answer stands 1 for an order that is accepted
abbrev pub accepted : Told
accepted = record { answer = 0; small = 1; beside = 0 }

unfoldable pub plan_ok_call : Session → List ℕ → ℕ → List ℕ → Told
plan_ok_call s p wanted o =
    cond (not (eqb (plan_refusal (well_formed s) p wanted) 0)) (answered (plan_refusal (well_formed s) p wanted))
    (cond (plan_ok p wanted (start_of s) o) accepted (answered 0))

-- what is told, and the order's buffer as it is left
pub record Planned : Type 0 where
  pub told : Told
  pub order : List ℕ

-- 1 and the number of packets for a plan, which stands at the buffer's front; the bytes past it are kept
unfoldable pub given : Option ℕ → List ℕ → Planned
given None d = record { told = answered 0; order = d }
given (Some n) d = record { told = record { answer = 0; small = 1; beside = length (order_of n) }; order = pasted 0 (order_of n) d }

-- 3: the buffer has no room for five numbers, after 1 and 10
unfoldable pub plan_call : Session → List ℕ → ℕ → List ℕ → Planned
plan_call s p wanted d =
    cond (not (eqb (plan_refusal (well_formed s) p wanted) 0)) (record { told = answered (plan_refusal (well_formed s) p wanted); order = d })
    (cond (ltb (length d) 5) (record { told = answered 3; order = d })
    (given (least_plan p wanted (start_of s)) d))

-- ---- on a session that is lent as its image's bytes; bytes of another length are no session

unfoldable pub plan_ok_on : List ℕ → List ℕ → ℕ → List ℕ → Told
plan_ok_on b p wanted o = cond (not (eqb (length b) image_length)) (answered 1) (plan_ok_call (session_of b) p wanted o)

unfoldable pub plan_on : List ℕ → List ℕ → ℕ → List ℕ → Planned
plan_on b p wanted d = cond (not (eqb (length b) image_length)) (record { told = answered 1; order = d }) (plan_call (session_of b) p wanted d)

-- what the contract of `plan` allows: what is told, and the order's buffer as it is left
abbrev pub PlanAllows : List ℕ → List ℕ → ℕ → List ℕ → Told → List ℕ → Type 0
PlanAllows b p wanted d told order = (told ≡ (plan_on b p wanted d).told) and (order ≡ (plan_on b p wanted d).order)
