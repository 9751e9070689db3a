-- Document 01, "Session answers" and "OCC packets": what the call `occ` comes to, for every session, sender, command and buffer.
use Rattle.std.specs.Prelude.{Ok, Err}
use Rattle.packet.specs.Packet.{Checked, status_number}
use Rattle.packet.specs.declared.Status.{Status}
use Rattle.packet.specs.declared.Status.TheVariants.{InvalidCommand, InvalidLength, InvalidData, ChecksumFailure, InternalError, StateProhibits}
use Rattle.places.specs.declared.Fault.{Fault}
use Rattle.std.specs.Prelude.{ℕ, Bool, true, cond, not, List, [], ◌≡◌, length, get_or, ltb, eqb}
use Rattle.wire.specs.Conditions.{◌and◌}
use Rattle.change.specs.declared.Tables.{Tables}
use Rattle.packet.specs.Packet.{packet_status, data_of, no_log_id, replied}
use Rattle.poll.specs.Poll.{poll_data}
use Rattle.record.specs.declared.Record.{Record}
use Rattle.record.specs.declared.Worked.{Worked}
use Rattle.occ.specs.Open.{by_profile}
use Rattle.occ.specs.Judge.{plainly, judge_of}
use Rattle.occ.specs.declared.Verdict.{Verdict}
use Rattle.occ.specs.declared.Verdict.TheVariants.{Refuse, Poll, Make}
use Rattle.occ.specs.declared.Judged.{Judged}
use Rattle.places.specs.Reasons.{named}
use Rattle.places.specs.Places.{fault_of}
use Rattle.std.specs.Prelude.{Option, Some, None}
use Rattle.session.specs.Session.{well_formed}
use Rattle.session.specs.Road.{Asks, tells, makes, due, Said, settled}
use Rattle.session.specs.declared.Session.{Session}
use Rattle.image.specs.Image.{image_of}
use Rattle.inplace.specs.declared.Told.{Told}
use Rattle.inplace.specs.InPlace.{Left, on_image}

-- 1: session not well formed; 2: "OCC sender neither 0x10 (HTMGT) nor 0x20 (BMC)"; 3: reply buffer under 4,096 bytes; 4: command under 4
unfoldable pub known_sender : ℕ → Bool
known_sender sender = cond (eqb sender 0x10) true (eqb sender 0x20)

unfoldable pub refusal_of : Bool → ℕ → ℕ → ℕ → ℕ
refusal_of formed sender command reply =
    cond (not formed) 1
    (cond (not (known_sender sender)) 2
    (cond (ltb reply 4096) 3
    (cond (ltb command 4) 4 0)))

unfoldable pub occ_refusal : Session → ℕ → ℕ → ℕ → ℕ
occ_refusal s sender command reply = refusal_of (well_formed s) sender command reply

-- the reply to what is no change
unfoldable pub told_of : Verdict → Record → Worked → ℕ → ℕ → List ℕ → List ℕ
told_of (Refuse status) held worked seq kind d = replied seq kind (status_number status) no_log_id d
told_of Poll held worked seq kind d = replied seq 0x00 0x00 (poll_data held worked) d
told_of (Make change) held worked seq kind d = d

-- "every error reply returns the session unchanged", and so does a poll's; "success has no data"
unfoldable pub verdict_asks : Record → Worked → ℕ → ℕ → List ℕ → Tables → Verdict → Asks
verdict_asks held worked seq kind d t (Refuse status) = tells 0 (told_of (Refuse status) held worked seq kind d)
verdict_asks held worked seq kind d t Poll = tells 0 (told_of Poll held worked seq kind d)
verdict_asks held worked seq kind d t (Make change) = makes (record { change = change; tables = t }) 0 (replied seq kind 0x00 [] d)

-- k: where the profile shuts the type, what was judged becomes 0x16 (occ/specs/Open.antt)
unfoldable pub judged_asks : ℕ → Record → Worked → ℕ → ℕ → List ℕ → Judged → Asks
judged_asks profile held worked seq kind d j = verdict_asks held worked seq kind d j.tables (by_profile profile kind j.verdict)

-- how a command is judged: the packet's own statuses 0x12 and 0x14 come first, then its type and data
unfoldable pub asked_for : Checked → Record → Worked → ℕ → ℕ → List ℕ → Judged
asked_for (Err status) held worked next sender c = plainly (Refuse status)
asked_for (Ok x) held worked next sender c = judge_of held worked next sender (get_or c 1 0) (data_of c)

unfoldable pub asked_of : Record → Worked → ℕ → ℕ → List ℕ → Judged
asked_of held worked next sender c = asked_for (packet_status c) held worked next sender c

unfoldable pub occ_read : Session → ℕ → List ℕ → List ℕ → Asks
occ_read s sender c d = judged_asks s.profile s.held s.worked (get_or c 0 0) (get_or c 1 0) d (asked_of s.held s.worked s.next sender c)

-- "Numbers 1 to 4 are tested in that order, first"
unfoldable pub occ_asks : Session → ℕ → List ℕ → List ℕ → Asks
occ_asks s sender c d = due (occ_refusal s sender (length c) (length d)) (occ_read s sender c d)

unfoldable pub occ_call : Session → ℕ → List ℕ → List ℕ → Said
occ_call s sender c d = settled s d (occ_asks s sender c d)

-- ---- document 02, c: beside answer 0 stands the first data byte that is wrong, and why

-- "0 when the status isn't 0x13"
unfoldable pub fault_by : Status → Option Fault → Option Fault
fault_by InvalidData found = found
fault_by InvalidCommand found = None
fault_by InvalidLength found = None
fault_by ChecksumFailure found = None
fault_by InternalError found = None
fault_by StateProhibits found = None

unfoldable pub fault_for : Verdict → Record → ℕ → List ℕ → Option Fault
fault_for (Refuse status) held kind d = fault_by status (fault_of held kind d)
fault_for Poll held kind d = None
fault_for (Make change) held kind d = None

unfoldable pub why_read : Session → ℕ → List ℕ → Option Fault
why_read s sender c = fault_for (by_profile s.profile (get_or c 1 0) (asked_of s.held s.worked s.next sender c).verdict) s.held (get_or c 1 0) (data_of c)

-- none beside any other answer
unfoldable pub why_from : ℕ → Session → ℕ → List ℕ → Option Fault
why_from n s sender c = cond (not (eqb n 0)) None (why_read s sender c)

unfoldable pub occ_why : Session → ℕ → List ℕ → List ℕ → Option Fault
occ_why s sender c d = why_from (occ_refusal s sender (length c) (length d)) s sender c

-- the reason's number and the byte's
unfoldable pub beside_of : ℕ → Option Fault → Told
beside_of n None = record { answer = n; small = 0; beside = 0 }
beside_of n (Some x) = record { answer = n; small = (named x.reason).number; beside = x.at }

-- ---- on a session that is lent as its image's bytes

unfoldable pub occ_left : Said → Option Fault → Left
occ_left q why = record { told = beside_of q.answer why; image = image_of q.session; reply = q.reply }

-- a command that is due an answer
unfoldable pub occ_read_left : Session → ℕ → List ℕ → List ℕ → Left
occ_read_left s sender c d = occ_left (settled s d (occ_read s sender c d)) (why_read s sender c)

unfoldable pub occ_on : List ℕ → ℕ → List ℕ → List ℕ → Left
occ_on b sender c d = on_image b d (λ (s : Session). occ_left (occ_call s sender c d) (occ_why s sender c d))

-- what the contract allows: what is told, and the lent bytes and the reply buffer as they are left
abbrev pub OccAllows : List ℕ → ℕ → List ℕ → List ℕ → Told → List ℕ → List ℕ → Type 0
OccAllows b sender c d told image reply =
    (told ≡ (occ_on b sender c d).told) and (image ≡ (occ_on b sender c d).image) and (reply ≡ (occ_on b sender c d).reply)
