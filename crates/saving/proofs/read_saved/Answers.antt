use native.Mathlib.Omega.{arith}
use Rattle.wire.proofs.laws.Wire.{bytes_of}
use Rattle.saving.proofs.Calls.{saved_length_lem, saved_kinds, saved_found}
use Rattle.saving.proofs.read_saved.Goals as goal

pub returns : goal.returns
returns c =
    let bytes = bytes_of c.args.b.now (λ i. omega (arith, c.shared_slice_known-1.given i)) in
    let f = saved_found c.args.b.now c.if-b-ne-SAVED.false _ c.kinds_ok.ensures bytes c.if-not-kinds_ok.false-raw _ _ c.requires _ c.session_in.ensures c.write.ensures _ c.open.ensures _ c.is_some.ensures in
    record { value = f.0; d_after = f.1 }
