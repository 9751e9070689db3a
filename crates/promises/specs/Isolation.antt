-- Document 02, g: "The thermal people share a session with the SBE people and want to know that they can." What OCC exchanges depend on is a small value, the bench, and what
-- mailbox requests and time reports depend on is the timer; neither side moves the other's.
use Rattle.places.specs.declared.Fault.{Fault}
use Rattle.std.specs.Prelude.{ℕ, ◌+◌, true, cond, not, ◌≡◌, List, [], ◌∷◌, eqb, length, get_or}
use Rattle.record.specs.Record.{no_area, worked_of}
use Rattle.record.specs.declared.Record.{Record}
use Rattle.record.specs.declared.Timer.{Timer}
use Rattle.change.specs.Change.{put_after, timer_after}
use Rattle.packet.specs.Packet.{data_of, replied}
use Rattle.occ.specs.declared.Judged.{Judged}
use Rattle.occ.specs.declared.Verdict.{Verdict}
use Rattle.occ.specs.declared.Verdict.TheVariants.{Refuse, Poll, Make}
use Rattle.std.specs.Prelude.{Option, None}
use Rattle.sbe.specs.Mailbox.{bell_of, response_bytes}
use Rattle.sbe.specs.declared.Ruling.{Ruling}
use Rattle.sbe.specs.declared.Ruling.TheVariants.{Decline, Grant, Done, Read}
use Rattle.session.specs.Session.{made_of}
use Rattle.session.specs.Road.{ticked, timer_bell}
use Rattle.session.specs.declared.Session.{Session}
use Rattle.inplace.specs.declared.Told.{Told}
use Rattle.wire.specs.Wire.{pasted}
use Rattle.occ_call.specs.Occ as occs
use Rattle.sbe_call.specs.Sbe as sbes
use Rattle.promises.specs.Calls.{Call, occ, sbe, undo, redo, forget, time, said, second_of}
use Rattle.promises.specs.Lent.{told}

-- ---- who shares a session

-- "no undo or redo in either", and neither forgetting nor opening: docs/ISOLATION.md says why
abbrev pub Shares : Call → Type 0
Shares (occ sender c d) = Unit {0}
Shares (sbe r d m x) = Unit {0}
Shares undo = ⊥
Shares redo = ⊥
Shares (forget n) = ⊥
Shares (time n) = Unit {0}

abbrev pub AllShare : List Call → Type 0
AllShare [] = Unit {0}
AllShare (c ∷ cs) = Shares c × AllShare cs

-- ---- the OCC side

-- an exchange as it is sent: sender, command and reply buffer
pub record Sent : Type 0 where
  pub sender : ℕ
  pub command : List ℕ
  pub buffer : List ℕ

-- the OCC exchanges among calls, in order
unfoldable pub occs_in : List Call → List Sent
occs_in [] = []
occs_in (occ sender c d ∷ cs) = record { sender = sender; command = c; buffer = d } ∷ occs_in cs
occs_in (sbe r d m x ∷ cs) = occs_in cs
occs_in (undo ∷ cs) = occs_in cs
occs_in (redo ∷ cs) = occs_in cs
occs_in (forget n ∷ cs) = occs_in cs
occs_in (time n ∷ cs) = occs_in cs

-- what one hears: the answer with what is told beside it, and every byte of the reply buffer
pub record Heard : Type 0 where
  pub told : Told
  pub reply : List ℕ

-- what the OCC exchanges hear as the calls are made one after the other on a session
unfoldable pub occs_heard : Session → List Call → List Heard
occs_heard s [] = []
occs_heard s (occ sender c d ∷ cs) = record { told = told s (occ sender c d); reply = (said s (occ sender c d)).reply } ∷ occs_heard (said s (occ sender c d)).session cs
occs_heard s (sbe r d m x ∷ cs) = occs_heard (said s (sbe r d m x)).session cs
occs_heard s (undo ∷ cs) = occs_heard (said s undo).session cs
occs_heard s (redo ∷ cs) = occs_heard (said s redo).session cs
occs_heard s (forget n ∷ cs) = occs_heard (said s (forget n)).session cs
occs_heard s (time n ∷ cs) = occs_heard (said s (time n)).session cs

-- "no answer 5 to an OCC command"
abbrev FitsOcc : Session → Call → Type 0
FitsOcc s (occ sender c d) = (said s (occ sender c d)).answer ≡ 5 → ⊥
FitsOcc s (sbe r d m x) = Unit {0}
FitsOcc s undo = Unit {0}
FitsOcc s redo = Unit {0}
FitsOcc s (forget n) = Unit {0}
FitsOcc s (time n) = Unit {0}

abbrev pub OccsFit : Session → List Call → Type 0
OccsFit s [] = Unit {0}
OccsFit s (c ∷ cs) = FitsOcc s c × OccsFit (said s c).session cs

-- ---- an OCC exchange alone, on the bench: the record without its mailbox part, and the next id

unfoldable pub dry : Record → Record
dry r =
    record {
      state = r.state;
      role = r.role;
      caps = r.caps;
      throttles = r.throttles;
      user = r.user;
      thermal = r.thermal;
      received = r.received;
      logs = r.logs;
      mask = 0;
      deadman = record { running = 0; time = 0 };
      areas = record { ffdc = no_area; pass = no_area };
    }

pub record Bench : Type 0 where
  pub held : Record
  pub next : ℕ

unfoldable pub bench_of : Session → Bench
bench_of s = record { held = dry s.held; next = s.next }

-- the answer and the wrong byte, the reply buffer and the bench after it
pub record Alone : Type 0 where
  pub answer : ℕ
  pub why : Option Fault
  pub reply : List ℕ
  pub after : Bench

-- by the verdict: told, or a change that has room
unfoldable pub alone_by : Bench → List ℕ → List ℕ → Judged → Verdict → Alone
alone_by b c d j (Refuse status) =
    record {
      answer = 0;
      why = occs.fault_for (Refuse status) b.held (get_or c 1 0) (data_of c);
      reply = occs.told_of (Refuse status) b.held (worked_of b.held) (get_or c 0 0) (get_or c 1 0) d;
      after = b;
    }
alone_by b c d j Poll =
    record { answer = 0; why = None; reply = occs.told_of Poll b.held (worked_of b.held) (get_or c 0 0) (get_or c 1 0) d; after = b }
alone_by b c d j (Make change) =
    record {
      answer = 0;
      why = None;
      reply = replied (get_or c 0 0) (get_or c 1 0) 0x00 [] d;
      after = record { held = dry (put_after b.held (record { change = change; tables = j.tables })); next = b.next + made_of change };
    }

unfoldable pub alone_judged : Bench → List ℕ → List ℕ → Judged → Alone
alone_judged b c d j = alone_by b c d j j.verdict

unfoldable pub alone : Bench → ℕ → List ℕ → List ℕ → Alone
alone b sender c d =
    cond (not (eqb (occs.refusal_of true sender (length c) (length d)) 0))
    (record { answer = occs.refusal_of true sender (length c) (length d); why = None; reply = d; after = b })
    (alone_judged b c d (occs.asked_of b.held (worked_of b.held) b.next sender c))

-- what exchanges hear alone, one after the other
unfoldable pub alone_heard : Bench → List Sent → List Heard
alone_heard b [] = []
alone_heard b (x ∷ xs) =
    record { told = occs.beside_of (alone b x.sender x.command x.buffer).answer (alone b x.sender x.command x.buffer).why; reply = (alone b x.sender x.command x.buffer).reply }
    ∷ alone_heard (alone b x.sender x.command x.buffer).after xs

-- ---- the SBE side: requests with what is lent to them, and time reports, "at the same places" among them

pub data Post : Type 0 where
  request : List ℕ → List ℕ → List ℕ → List ℕ → Post
  report : ℕ → Post

unfoldable pub posts_in : List Call → List Post
posts_in [] = []
posts_in (occ sender c d ∷ cs) = posts_in cs
posts_in (sbe r d m x ∷ cs) = request r d m x ∷ posts_in cs
posts_in (undo ∷ cs) = posts_in cs
posts_in (redo ∷ cs) = posts_in cs
posts_in (forget n ∷ cs) = posts_in cs
posts_in (time n ∷ cs) = report n ∷ posts_in cs

-- answer and doorbell, reply buffer and second buffer; a report lends none
pub record Rung : Type 0 where
  pub answer : ℕ
  pub bell : ℕ
  pub reply : List ℕ
  pub second : List ℕ

abbrev pub rung_by : Session → Call → Rung
rung_by s c = record { answer = (said s c).answer; bell = (said s c).bell; reply = (said s c).reply; second = second_of s c }

unfoldable pub posts_heard : Session → List Call → List Rung
posts_heard s [] = []
posts_heard s (occ sender c d ∷ cs) = posts_heard (said s (occ sender c d)).session cs
posts_heard s (sbe r d m x ∷ cs) = rung_by s (sbe r d m x) ∷ posts_heard (said s (sbe r d m x)).session cs
posts_heard s (undo ∷ cs) = posts_heard (said s undo).session cs
posts_heard s (redo ∷ cs) = posts_heard (said s redo).session cs
posts_heard s (forget n ∷ cs) = posts_heard (said s (forget n)).session cs
posts_heard s (time n ∷ cs) = rung_by s (time n) ∷ posts_heard (said s (time n)).session cs

-- "with answer 5 to an SBE request excluded"
abbrev FitsSbe : Session → Call → Type 0
FitsSbe s (occ sender c d) = Unit {0}
FitsSbe s (sbe r d m x) = (said s (sbe r d m x)).answer ≡ 5 → ⊥
FitsSbe s undo = Unit {0}
FitsSbe s redo = Unit {0}
FitsSbe s (forget n) = Unit {0}
FitsSbe s (time n) = Unit {0}

abbrev pub SbesFit : Session → List Call → Type 0
SbesFit s [] = Unit {0}
SbesFit s (c ∷ cs) = FitsSbe s c × SbesFit (said s c).session cs

-- ---- a post alone, on the timer: no reply tells of the mailbox's part of the record

pub record Posted : Type 0 where
  pub rung : Rung
  pub after : Timer

unfoldable pub posted_by : Timer → List ℕ → List ℕ → List ℕ → Ruling → Posted
posted_by t r d y (Decline why) = record { rung = record { answer = 0; bell = bell_of r; reply = sbes.told_of (Decline why) r d; second = y }; after = t }
posted_by t r d y (Grant change) = record { rung = record { answer = 0; bell = bell_of r; reply = pasted 0 (response_bytes 0x00 0x00 r) d; second = y }; after = timer_after t change }
posted_by t r d y Done = record { rung = record { answer = 0; bell = bell_of r; reply = sbes.told_of Done r d; second = y }; after = t }
posted_by t r d y (Read offset size) = record { rung = record { answer = 0; bell = bell_of r; reply = sbes.told_of (Read offset size) r d; second = y }; after = t }

unfoldable pub posted : Timer → Post → Posted
posted t (request r d m x) =
    cond (not (eqb (sbes.refusal_of true (length r) (length d)) 0))
    (record { rung = record { answer = sbes.refusal_of true (length r) (length d); bell = 0; reply = d; second = x }; after = t })
    (posted_by t r d (sbes.data_for 0 r m x) (sbes.sbe_ruling r m x))
posted t (report n) = record { rung = record { answer = 0; bell = timer_bell n t; reply = []; second = [] }; after = ticked n t }

unfoldable pub posted_heard : Timer → List Post → List Rung
posted_heard t [] = []
posted_heard t (x ∷ xs) = (posted t x).rung ∷ posted_heard (posted t x).after xs
