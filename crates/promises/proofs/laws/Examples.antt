-- The ten worked examples hold: each row computes. Assumes nothing.
use Rattle.std.specs.Prelude.{refl}
use Rattle.promises.specs.Calls.{said, buffer_of, asks}
use Rattle.promises.specs.Examples.{All, holds, table, sent, after, poll, bad_poll, cap1000, master, caps500to1500, caps1100to1500, caps500to900, processor, active, reset, cores_out, unknown_type, summed}
use Rattle.promises.proofs.laws.ComputedSession.{computed_session}
use Rattle.promises.proofs.laws.ComputedOcc.{computed_occ}
use Rattle.promises.proofs.laws.ComputedSbe.{computed_sbe}

pub examples : All holds table
unfolding table computed_session computed_occ computed_sbe said asks buffer_of sent after poll bad_poll cap1000 master caps500to1500 caps1100to1500 caps500to900 processor active reset cores_out unknown_type summed
examples = (refl, (refl, (refl, (refl, (refl, (refl, (refl, (refl, (refl, (refl, (refl, (refl, (refl, tt)))))))))))))
