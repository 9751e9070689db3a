use native.Mathlib.Omega.{arith}
use Rattle.wire.proofs.laws.Wire.{bytes_of}
use Rattle.saving.proofs.Calls.{base_short, base_over, base_broken, base_whole, base_shut, base_found}
use Rattle.saving.proofs.read_base.Goals as goal

pub returns-then-used_in-b : goal.returns-then-used_in-b
returns-then-used_in-b c =
    let f = base_broken c.args.b.now c.if-b-lt-BASE_HEAD.false c.if-b-gt-BASE_MOST.false _ c.used_in.ensures.0 c.args.d.now c.if-used_in-b.true in
    record { value = f.0; d_after = f.1 }

pub session_of_base-requires : goal.session_of_base-requires
session_of_base-requires c = (c.if-b-lt-BASE_HEAD.false, c.if-b-gt-BASE_MOST.false, base_whole c.args.b.now c.if-b-lt-BASE_HEAD.false c.if-b-gt-BASE_MOST.false _ c.used_in.ensures.0 c.if-used_in-b.false)

pub returns-in_default : goal.returns-in_default
returns-in_default c =
    let bytes = bytes_of c.args.b.now (λ i. omega (arith, c.shared_slice_known-1.given i)) in
    let f = base_shut c.args.b.now c.if-b-lt-BASE_HEAD.false c.if-b-gt-BASE_MOST.false bytes _ _ c.requires _ c.session_of_base.ensures c.write.ensures c.in_default.ensures in
    record { value = f.0; d_after = f.1 }

pub holds_base-requires : goal.holds_base-requires
holds_base-requires c = let o = c.in-Some.ensures in (o.long, o.read, o.formed)

pub returns : goal.returns
returns c =
    let bytes = bytes_of c.args.b.now (λ i. omega (arith, c.shared_slice_known-1.given i)) in
    let f = base_found c.args.b.now c.if-b-lt-BASE_HEAD.false c.if-b-gt-BASE_MOST.false bytes _ _ c.requires _ c.session_of_base.ensures c.write.ensures _ c.in-Some.ensures _ c.holds_base.ensures in
    record { value = f.0; d_after = f.1 }
