-- The lengths of a poll's data, for the calls that write it. Assumes nothing.
use Rattle.std.specs.Prelude.{ℕ, ◌≤◌, Bool, true, false, cond, not, ◌≡◌, refl, List, length}
use Rattle.std.proofs.Common.{sym, subst, arith}
use Rattle.wire.specs.Wire.{to_be}
use Rattle.wire.proofs.laws.Cases.{cond_elim}
use Rattle.record.specs.declared.Caps.{Caps}
use Rattle.record.specs.declared.Record.{Record}
use Rattle.record.specs.declared.Worked.{Worked}
use Rattle.poll.specs.Poll.{poll_head, caps_block, shows_caps, poll_data}

pub length_head : (status wanted state id blocks : ℕ) → length (poll_head status wanted state id blocks) ≡ 40
unfolding poll_head to_be
length_head status wanted state id blocks = refl

pub length_block : (limit : ℕ) (caps : Caps) (user : ℕ) → length (caps_block limit caps user) ≡ 20
unfolding caps_block to_be
length_block limit caps user = refl

length_cond : (t : Bool) (x y : List ℕ) (m n : ℕ) → length x ≡ m → length y ≡ n → length (cond t x y) ≡ cond t m n
length_cond true x y m n p q = p
length_cond false x y m n p q = q

-- 40 data bytes, or 60 with the CAPS block
pub length_data : (r : Record) (w : Worked) → length (poll_data r w) ≡ cond (not (shows_caps r.role r.received.caps)) 40 60
unfolding poll_data poll_head caps_block to_be
length_data r w = length_cond (not (shows_caps r.role r.received.caps)) _ _ 40 60 refl refl

pub data_fits : (r : Record) (w : Worked) → length (poll_data r w) ≤ 60
data_fits r w =
    subst (λ (n : ℕ). n ≤ 60) (sym (length_data r w)) (cond_elim (λ (n : ℕ). n ≤ 60) (not (shows_caps r.role r.received.caps)) (omega arith) (omega arith))
