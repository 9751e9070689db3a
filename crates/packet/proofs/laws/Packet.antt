-- Laws of packets that other crates build on. Assumes nothing.
use Rattle.std.specs.Prelude.{Ok}
use Rattle.std.specs.Prelude.{ℕ, ◌+◌, ◌-◌, ◌≤◌, ◌≡◌, refl, List, take, drop}
use Rattle.std.proofs.Math.Path.{sym}
use Rattle.std.proofs.Common.{ap, ◌∙◌, length-append, length-drop, length-take-le}
use native.Mathlib.Omega.{arith}
use Rattle.std.proofs.Math.ListN.{length}
use Rattle.wire.specs.Wire.{pasted}
use Rattle.wire.proofs.laws.Wire.{length_to_be}
use Rattle.wire.proofs.laws.Cases.{else_lt}
use Rattle.packet.specs.Packet.{data_length, packet_status, data_at, data_of, unsummed, reply_bytes, replied}
use Rattle.packet.proofs.laws.Exactly.{good_exactly}

-- ---- a good command

module _ (c : List ℕ) (good : packet_status c ≡ Ok tt) where
  pub status_fits : (data_length c + 6 ≤ length c) × (data_length c ≤ 4090)
  status_fits = let f = ((good_exactly c).0 good).0 in (f.1, f.0)

  pub data_whole : data_of c ≡ take (data_length c) (drop 4 c)
  unfolding data_of data_at
  data_whole = sym (else_lt _ _ status_fits.0 refl)

  pub length_data : length (data_of c) ≡ data_length c
  length_data =
      let h : data_length c ≤ length (drop 4 c) = simp length-drop (omega (arith, status_fits)) in
      ap length data_whole ∙ length-take-le (data_length c) (drop 4 c) h

-- ---- a reply

module _ (seq kind status : ℕ) (part : List ℕ) where
  pub length_unsummed : length (unsummed seq kind status part) ≡ 5 + length part
  unfolding unsummed
  length_unsummed = simp (length-append, length_to_be) (omega arith)

  pub replied_room : (d : List ℕ) → 7 + length part ≤ length d → replied seq kind status part d ≡ pasted 0 (reply_bytes seq kind status part) d
  unfolding replied
  replied_room d h =
      let k : 7 ≤ length d = omega arith in
      let m : length part ≤ length d - 7 = omega arith in
      sym (else_lt _ _ k (else_lt _ _ m refl))
