-- Replies at the front of a buffer that has room, told apart by their bytes. Assumes nothing.
use Rattle.std.specs.Prelude.{ℕ, ◌+◌, ◌%◌, ◌≤◌, not, ◌≡◌, eqb, length, get_or, drop}
use Rattle.std.proofs.Math.Path.{refl}
use Rattle.std.proofs.Common.{sym, ap, subst, ◌∙◌, zero-add, arith}
use mathlib.Core.List.{List, ◌++◌}
use Rattle.wire.specs.Wire.{to_be, pasted}
use Rattle.wire.proofs.laws.Cases.{cond_elim}
use Rattle.packet.specs.Packet.{unsummed, reply_bytes, no_log_id, replied}
use Rattle.packet.proofs.laws.Packet.{replied_room}
use Rattle.poll.specs.Poll.{shows_caps, poll_data}
use Rattle.poll.proofs.laws.Poll.{length_data}
use Rattle.record.specs.Record.{worked_of}
use Rattle.session.specs.declared.Session.{Session}
use Rattle.promises.specs.Demand1.{error_reply}
use Rattle.promises.specs.Demand2.{at_front, success_data}

-- ---- at the front

pub front_is : (y d : List ℕ) → pasted 0 y d ≡ at_front y d
unfolding pasted
front_is y d = ap (λ (n : ℕ). y ++ drop n d) (zero-add (length y))

module _ (seq kind status : ℕ) (part d : List ℕ) where
  -- "a reply that has no room isn't written" doesn't happen
  pub replied_front : 7 + length part ≤ length d → replied seq kind status part d ≡ at_front (reply_bytes seq kind status part) d
  replied_front h = replied_room seq kind status part d h ∙ front_is (reply_bytes seq kind status part) d

  pub length_byte : get_or (at_front (reply_bytes seq kind status part) d) 4 0 ≡ length part % 256
  unfolding reply_bytes unsummed to_be
  length_byte = refl

pub error_bytes_lem : (seq kind status : ℕ) → reply_bytes seq kind status no_log_id ≡ error_reply seq kind status
unfolding reply_bytes unsummed to_be
error_bytes_lem seq kind status = refl

-- ---- a reply of success is short, and is never as long as an error's

-- no data, or a poll's
module _ (s : Session) (type : ℕ) where
  success_length : (P : ℕ → Type 0) → P 0 → P 40 → P 60 → P (length (success_data s type))
  unfolding success_data
  success_length P none plain caps =
      let poll = poll_data s.held (worked_of s.held) in
      cond_elim (λ (l : List ℕ). P (length l)) (eqb type 0x00)
      (subst P (sym (length_data s.held (worked_of s.held))) (cond_elim P (not (shows_caps s.held.role s.held.received.caps)) plain caps))
      none

  pub success_other : length (success_data s type) % 256 ≡ 1 → ⊥
  success_other = success_length (λ (n : ℕ). n % 256 ≡ 1 → ⊥) (λ e. omega (arith, e)) (λ e. omega (arith, e)) (λ e. omega (arith, e))
