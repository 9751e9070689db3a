-- The data of a reply without and with the CAPS block. Assumes nothing.
use Prim.Native.Nat.{ℕ}
use mathlib.Core.Bool.{Bool, true, false, not}
use mathlib.Core.Path.{◌≡◌, sym, ap, ap₂, ◌∙◌}
use mathlib.Core.List.{List, ◌++◌}
use lib.ListN.{length, replicate, length-append}
use Rattle.wire.specs.Wire.{pasted}
use Rattle.wire.proofs.laws.Cases.{if_b, else_b}
use Rattle.record.specs.declared.Record.{Record}
use Rattle.record.specs.declared.Worked.{Worked}
use Rattle.packet.specs.Packet.{replied}
use Rattle.poll.specs.Poll.{status_byte, oldest_id, shows_caps, poll_head, caps_block, poll_data}
use Rattle.poll.proofs.laws.Poll.{length_head, length_block}
use Rattle.poll.proofs.Bytes.{both_put}

module _ (r : Record) (w : Worked) (status seq : ℕ) (shows : Bool) (l d x : List ℕ) (e : shows ≡ shows_caps r.role r.received.caps) (s : status ≡ status_byte r.role w) where
  head_is : (n : ℕ) (h : List ℕ) → h ≡ poll_head status w.wanted r.state (oldest_id r.logs) n → h ≡ poll_head (status_byte r.role w) w.wanted r.state (oldest_id r.logs) n
  head_is n h p = p ∙ ap (λ (v : ℕ). poll_head v w.wanted r.state (oldest_id r.logs) n) s

  pub replied_short : not shows ≡ true → l ≡ poll_head status w.wanted r.state (oldest_id r.logs) 0
      → x ≡ replied seq 0x00 0x00 l d → x ≡ replied seq 0x00 0x00 (poll_data r w) d
  unfolding poll_data
  replied_short t p q = q ∙ ap (λ (y : List ℕ). replied seq 0x00 0x00 y d) (if_b _ _ (sym (ap not e) ∙ t) (head_is 0 l p))

  pub replied_long : (h b y : List ℕ) → not shows ≡ false → h ≡ poll_head status w.wanted r.state (oldest_id r.logs) 1
      → b ≡ caps_block w.limit r.caps r.user → y ≡ pasted 0 h (replicate 60 0) → l ≡ pasted 40 b y
      → x ≡ replied seq 0x00 0x00 l d → x ≡ replied seq 0x00 0x00 (poll_data r w) d
  unfolding poll_data
  replied_long h b y t p k m n q =
      let forty : length h ≡ 40 = ap length p ∙ length_head status w.wanted r.state (oldest_id r.logs) 1 in
      let twenty : length b ≡ 20 = ap length k ∙ length_block w.limit r.caps r.user in
      let sixty : length (h ++ b) ≡ 60 = rw (length-append, forty, twenty) in
      let both = both_put h b (replicate 60 0) y l 40 m n (sym forty) sixty in
      q ∙ ap (λ (z : List ℕ). replied seq 0x00 0x00 z d)
      (else_b _ _ (sym (ap not e) ∙ t) (both ∙ ap₂ (λ (u v : List ℕ). u ++ v) (head_is 1 h p) k))
