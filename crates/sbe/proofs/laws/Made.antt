-- Laws of the mailbox that other crates build on: what a change made may hold. Assumes nothing.
use Rattle.std.specs.Prelude.{ℕ, ◌+◌, ◌%◌, ◌^◌, ◌<◌, Bool, true, false, cond, ◌≡◌, refl, List, eqb}
use Rattle.std.proofs.Common.{⊎_elim, sym, arith, eq-eqb, le-leb, lit<}
use Rattle.std.proofs.lemmas.Bool.{eqb-false}
use Rattle.wire.proofs.laws.Wire.{part_fits}
use Rattle.wire.specs.Wire.{Bytes}
use Rattle.wire.proofs.laws.Cases.{else_b, cond_elim}
use Rattle.record.specs.Widths.{AreaFits}
use Rattle.record.specs.Record.{no_area}
use Rattle.change.specs.Change.{no_tables}
use Rattle.change.specs.declared.Change.{Change}
use Rattle.change.specs.declared.Change.TheVariants.{Clear, Unclear, SetState, SetRole, SetCaps, SetUser, SetThermal, SetThrottles, Reset, Unreset, SetMask, SetDeadman, SetAreas, SetTimer}
use Rattle.formed.specs.Formed.{flag_ok, clock_ok, deadman_ok, timer_ok, multiple_of128, in_memory, area_ok, areas_ok, change_ok}
use Rattle.formed.proofs.laws.Formed.{hold_both}
use Rattle.sbe.specs.declared.Ruling.TheVariants.{Grant}
use Rattle.sbe.specs.Mailbox.{word_at, register_at, area_of, request_ruling}
use Rattle.sbe.proofs.laws.Exactly.{of_change}
use Rattle.sbe.specs.Conditions.{AreaFine}

-- ---- a change made is one that a well-formed record could hold

area_ok_lem : (address size : ℕ) → AreaFine address size → area_ok (area_of address size) ≡ true
unfolding area_of area_ok multiple_of128 in_memory
area_ok_lem address size f = go (eqb size 0) refl
  where
    go : (t : Bool) → eqb size 0 ≡ t → area_ok (cond t no_area (record { address = address; size = size })) ≡ true
    go true e = refl
    go false e =
        let h = ⊎_elim (λ z. absurd (eqb-false size 0 e z)) (λ h. h) f in
        sym (else_b _ _ e (sym (hold_both (eq-eqb (address % 128) 0 h.0) (hold_both (le-leb (address + size) (2 ^ 64) h.1) (eq-eqb (size % 128) 0 h.2)))))

pub change_ok_lem : (r : List ℕ) (ch : Change) → request_ruling r ≡ Grant ch → change_ok no_tables ch ≡ true
unfolding change_ok deadman_ok timer_ok clock_ok flag_ok areas_ok
change_ok_lem r = of_change r (λ (ch : Change). change_ok no_tables ch ≡ true) refl refl refl refl refl (λ a. hold_both (area_ok_lem _ _ a.ffdc) (area_ok_lem _ _ a.pass))

-- ---- its numbers are of their widths

-- one of the four changes that the SBE makes, its numbers of their widths
abbrev pub Fitting : Change → Type 0
Fitting (Clear place log) = ⊥
Fitting (Unclear place log) = ⊥
Fitting (SetState state) = ⊥
Fitting (SetRole got role) = ⊥
Fitting (SetCaps got caps) = ⊥
Fitting (SetUser user) = ⊥
Fitting (SetThermal got) = ⊥
Fitting (SetThrottles got) = ⊥
Fitting (Reset log) = ⊥
Fitting (Unreset state made) = ⊥
Fitting (SetMask mask) = mask < 256 ^ 4
Fitting (SetDeadman deadman) = deadman.time < 256 ^ 8
Fitting (SetAreas areas) = AreaFits areas.ffdc × AreaFits areas.pass
Fitting (SetTimer timer) = timer.left < 256 ^ 8

area_fits : (at place : ℕ) (r : List ℕ) → Bytes r → AreaFits (area_of (register_at at r) (word_at place r))
unfolding area_of register_at word_at
area_fits at place r h =
    cond_elim AreaFits (eqb (word_at place r) 0) (record { address = lit< tt; size = lit< tt })
    (record { address = part_fits 8 at r h; size = part_fits 4 place r h })

-- the timer's four bytes in a field of eight
time_fits : (r : List ℕ) → Bytes r → word_at 12 r < 256 ^ 8
unfolding word_at
time_fits r h = let f = part_fits 4 12 r h in omega arith

pub change_fits : (r : List ℕ) → Bytes r → (ch : Change) → request_ruling r ≡ Grant ch → Fitting ch
unfolding register_at word_at
change_fits r h =
    of_change r Fitting (part_fits 8 8 r h) (lit< tt) (part_fits 4 8 r h) (time_fits r h) (lit< tt) (λ a. (area_fits 16 8 r h, area_fits 24 12 r h))
