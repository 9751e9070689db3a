-- What "every later reply but for log ids" says: two worlds, in the first of which nobody tried. Ids from k on, the next id when somebody
-- tried, are one higher in the second (Shifted.antt).
use Rattle.std.specs.Prelude.{Ok}
use Rattle.std.specs.Result.{is_ok}
use Rattle.packet.specs.declared.Status.TheVariants.{InternalError}
use Rattle.std.specs.Prelude.{ℕ, suc, ◌<◌, cond, not, ◌⊎◌, ◌≡◌, List, [], ◌∷◌, eqb, length, get_or}
use Rattle.change.specs.declared.Change.TheVariants.{Reset}
use Rattle.packet.specs.Packet.{packet_status, data_of, replied}
use Rattle.poll.specs.Poll.{poll_data}
use Rattle.occ.specs.declared.Verdict.TheVariants.{Refuse, Make}
use Rattle.session.specs.Road.{Said}
use Rattle.session.specs.declared.Session.{Session}
use Rattle.occ_call.specs.Occ.{occ_refusal, asked_of}
use Rattle.promises.specs.Calls.{Call, occ, sbe, undo, time, said, second_of}
use Rattle.promises.specs.Lent.{told}
use Rattle.promises.specs.History.{OfBytes}
use Rattle.promises.specs.Shifted.{shifted, shifted_record}

-- ---- what is asked in both: the same bytes, but who clears a log names the id that it has there; nobody redoes

-- the id that a good clear-log packet names; 0, which is no log's, for every other command
unfoldable pub named : List ℕ → ℕ
named c =
    cond (not (is_ok (packet_status c))) 0
    (cond (not (eqb (get_or c 1 0) 0x12)) 0
    (cond (not (eqb (length (data_of c)) 1)) 0 (get_or (data_of c) 0 0)))

-- two good clear-log packets of one sequence number, the second with the shifted id
pub record Clears (k : ℕ) (c c' : List ℕ) : Type 0 where
  pub long : length c' ≡ length c
  pub sequence : get_or c' 0 0 ≡ get_or c 0 0
  pub type : get_or c 1 0 ≡ 0x12
  pub type' : get_or c' 1 0 ≡ 0x12
  pub good : packet_status c ≡ Ok tt
  pub good' : packet_status c' ≡ Ok tt
  pub id : ℕ
  pub names : data_of c ≡ id ∷ []
  pub names' : data_of c' ≡ shifted k id ∷ []

pub data SameWish (k : ℕ) : Call → Call → Type 0 where
  occ_same : (sender : ℕ) (c d : List ℕ) → named c < k → SameWish k (occ sender c d) (occ sender c d)
  occ_clears : (sender : ℕ) (c c' d : List ℕ) → Clears k c c' → SameWish k (occ sender c d) (occ sender c' d)
  sbe_same : (r d m x : List ℕ) → SameWish k (sbe r d m x) (sbe r d m x)
  undo_same : SameWish k undo undo
  time_same : (n : ℕ) → SameWish k (time n) (time n)

pub record Wish (k : ℕ) : Type 0 where
  pub here : Call
  pub there : Call
  pub same : SameWish k here there
  pub bytes : OfBytes here
  pub bytes' : OfBytes there

-- ---- what is said in both: the same, but a poll shows the log's id that it has there

pub data SameReply (k : ℕ) (s : Session) : List ℕ → List ℕ → Type 0 where
  same_bytes : (d : List ℕ) → SameReply k s d d
  same_poll : (seq : ℕ) (d : List ℕ)
      → SameReply k s (replied seq 0x00 0x00 (poll_data s.held s.worked) d) (replied seq 0x00 0x00 (poll_data (shifted_record k s.held) s.worked) d)

-- the sessions: the same but for ids
pub record Twins (k : ℕ) (s t : Session) : Type 0 where
  pub held_is : t.held ≡ shifted_record k s.held
  pub worked_is : t.worked ≡ s.worked
  pub next_is : t.next ≡ suc s.next
  pub used_is : t.used ≡ s.used
  pub timer_is : t.timer ≡ s.timer
  -- k: a watch-only session makes no log, so both are full
  pub full : s.profile ≡ 0
  pub full' : t.profile ≡ 0

-- what came of a call on s, and of the one on its twin
pub record Alike (k : ℕ) (s : Session) (a b : Said) : Type 0 where
  pub answer : b.answer ≡ a.answer
  pub bell : b.bell ≡ a.bell
  pub kind : b.kind ≡ a.kind
  pub reply : SameReply k s a.reply b.reply

-- the one exception: a log is due, and the second world has run out of ids while the first has its last one
pub data IdsEnd (s t : Session) : Call → Call → Type 0 where
  ids_end : (sender : ℕ) (c c' d : List ℕ) (reason : ℕ) → occ_refusal s sender (length c) (length d) ≡ 0 → s.next ≡ 255 → t.next ≡ 256
      → (asked_of s.held s.worked s.next sender c).verdict ≡ Make (Reset (record { id = 255; reason = reason }))
      → (asked_of t.held t.worked t.next sender c').verdict ≡ Refuse InternalError → IdsEnd s t (occ sender c d) (occ sender c' d)

-- ---- any calls, one after the other: alike as long as ids last

abbrev pub AsIf : (k : ℕ) → Session → Session → List (Wish k) → Type 0
AsIf k s t [] = Unit {0}
AsIf k s t (w ∷ ws) =
    IdsEnd s t w.here w.there
    ⊎ (Alike k s (said s w.here) (said t w.there) × (told t w.there ≡ told s w.here) × (second_of t w.there ≡ second_of s w.here)
    × Twins k (said s w.here).session (said t w.there).session × AsIf k (said s w.here).session (said t w.there).session ws)
