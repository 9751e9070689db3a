-- A change as bytes, and read from them again. Assumes nothing.
use Rattle.std.specs.Prelude.{ℕ, suc, ◌^◌, ◌≤◌, ◌<◌, ◌≡◌, refl, List, ◌++◌, length, take, replicate, Some}
use Rattle.std.proofs.Common.{sym, ap, ◌∙◌, arith, lit<, take_at, take_all}
use Rattle.wire.specs.Wire.{be_nat, to_be}
use Rattle.wire.proofs.laws.Wire.{length_to_be, be_to_be}
use Rattle.record.specs.Widths.{CapsFit, AreaFits}
use Rattle.record.specs.Record.{no_throttles}
use Rattle.record.specs.declared.Caps.{Caps}
use Rattle.record.specs.declared.Area.{Area}
use Rattle.record.specs.declared.Throttles.{Throttles}
use Rattle.change.specs.Change.{kind_of, no_tables}
use Rattle.change.specs.declared.Change.{Change}
use Rattle.change.specs.declared.Change.TheVariants.{Clear, Unclear, SetState, SetRole, SetCaps, SetUser, SetThermal, SetThrottles, Reset, Unreset, SetMask, SetDeadman, SetAreas, SetTimer}
use Rattle.change.specs.declared.Tables.{Tables}
use Rattle.entries.specs.Entries.{body_len}
use Rattle.journal.specs.Bytes.{cleared_body, caps_body, throttles_body, clock_body, area_bytes, areas_body, body_of}
use Rattle.journal.specs.declared.Way.{Way}
use Rattle.journal.specs.declared.Way.TheVariants.{Before, After}
use Rattle.journal.specs.Read.{caps_at, area_at, throttles_at, cleared_as, reset_as, found_for, tables_in}

-- ---- the values that a record can hold, by the types of its fields

-- an entry's change: one that this way's store holds, its numbers of their widths, the tables that it hasn't zero
abbrev pub Writable : Way → Tables → Change → Type 0
Writable w t (Clear place log) = (w ≡ After) × (t ≡ no_tables)
Writable w t (Unclear place log) = (w ≡ Before) × (t ≡ no_tables)
Writable w t (SetState state) = t ≡ no_tables
Writable w t (SetRole got role) = t ≡ no_tables
Writable w t (SetCaps got caps) = CapsFit caps × (t ≡ no_tables)
Writable w t (SetUser user) = (user < 256 ^ 2) × (t ≡ no_tables)
Writable w t (SetThermal got) = (length t.thermal ≡ 9) × (t.throttles ≡ no_throttles)
Writable w t (SetThrottles got) = (t.throttles.present < 256 ^ 2) × (length t.throttles.sets ≡ 160) × (t.thermal ≡ replicate 9 0)
Writable w t (Reset log) = (w ≡ After) × (t ≡ no_tables)
Writable w t (Unreset state made) = (w ≡ Before) × (t ≡ no_tables)
Writable w t (SetMask mask) = (mask < 256 ^ 4) × (t ≡ no_tables)
Writable w t (SetDeadman deadman) = (deadman.time < 256 ^ 8) × (t ≡ no_tables)
Writable w t (SetAreas areas) = AreaFits areas.ffdc × AreaFits areas.pass × (t ≡ no_tables)
Writable w t (SetTimer timer) = (timer.left < 256 ^ 8) × (t ≡ no_tables)

-- ---- a body is as long as its kind says, one byte at least, where the tables are as long as theirs

abbrev Lengths : Tables → Change → Type 0
Lengths t ch = (length (body_of t ch) ≡ body_len (kind_of ch)) × (1 ≤ body_len (kind_of ch))

pub lengths : (t : Tables) (ch : Change) → length t.thermal ≡ 9 → length t.throttles.sets ≡ 160 → Lengths t ch
unfolding body_of kind_of body_len cleared_body caps_body throttles_body clock_body area_bytes areas_body to_be
lengths t (Clear place log) n m = (refl, lit< tt)
lengths t (Unclear place log) n m = (refl, lit< tt)
lengths t (SetState state) n m = (refl, lit< tt)
lengths t (SetRole got role) n m = (refl, lit< tt)
lengths t (SetCaps got caps) n m = (refl, lit< tt)
lengths t (SetUser user) n m = (refl, lit< tt)
lengths t (SetThermal got) n m = (ap suc n, lit< tt)
lengths t (SetThrottles got) n m = (ap (λ (k : ℕ). suc (suc (suc k))) m, lit< tt)
lengths t (Reset log) n m = (refl, lit< tt)
lengths t (Unreset state made) n m = (refl, lit< tt)
lengths t (SetMask mask) n m = (refl, lit< tt)
lengths t (SetDeadman deadman) n m = (refl, lit< tt)
lengths t (SetAreas areas) n m = (refl, lit< tt)
lengths t (SetTimer timer) n m = (refl, lit< tt)

no_tables_lem : (t : Tables) (ch : Change) → t ≡ no_tables → Lengths t ch
no_tables_lem t ch e = lengths t ch (ap (λ (x : Tables). length x.thermal) e) (ap (λ (x : Tables). length x.throttles.sets) e)

written_lengths : (w : Way) (t : Tables) (ch : Change) → Writable w t ch → Lengths t ch
written_lengths w t (Clear place log) h = no_tables_lem t _ h.1
written_lengths w t (Unclear place log) h = no_tables_lem t _ h.1
written_lengths w t (SetState state) h = no_tables_lem t _ h
written_lengths w t (SetRole got role) h = no_tables_lem t _ h
written_lengths w t (SetCaps got caps) h = no_tables_lem t _ h.1
written_lengths w t (SetUser user) h = no_tables_lem t _ h.1
written_lengths w t (SetThermal got) h = lengths t _ h.0 (ap (λ (x : Throttles). length x.sets) h.1)
written_lengths w t (SetThrottles got) h = lengths t _ (ap length h.2) h.1
written_lengths w t (Reset log) h = no_tables_lem t _ h.1
written_lengths w t (Unreset state made) h = no_tables_lem t _ h.1
written_lengths w t (SetMask mask) h = no_tables_lem t _ h.1
written_lengths w t (SetDeadman deadman) h = no_tables_lem t _ h.1
written_lengths w t (SetAreas areas) h = no_tables_lem t _ h.2
written_lengths w t (SetTimer timer) h = no_tables_lem t _ h.1

pub length_body : (w : Way) (t : Tables) (ch : Change) → Writable w t ch → length (body_of t ch) ≡ body_len (kind_of ch)
length_body w t ch h = (written_lengths w t ch h).0

pub some_body : (w : Way) (t : Tables) (ch : Change) → Writable w t ch → 1 ≤ body_len (kind_of ch)
some_body w t ch h = (written_lengths w t ch h).1

-- ---- reading what was written gives the change

-- a field of width n that was written after others is read back
field_back : (n v : ℕ) (rest : List ℕ) → v < 256 ^ n → be_nat (take n (to_be n v ++ rest)) ≡ v
field_back n v rest h = ap be_nat (take_at (to_be n v) rest n (length_to_be n v)) ∙ be_to_be n v h

last_back : (n v : ℕ) → v < 256 ^ n → be_nat (take n (to_be n v)) ≡ v
last_back n v h = ap be_nat (take_all n (to_be n v) (omega (arith, length_to_be n v))) ∙ be_to_be n v h

pub caps_back : (got : ℕ) (caps : Caps) → CapsFit caps → caps_at 1 (caps_body got caps) ≡ caps
unfolding caps_at caps_body to_be
caps_back got caps f = λ i. record {
  min = field_back 2 caps.min (to_be 2 caps.max ++ to_be 2 caps.over) f.min i;
  max = field_back 2 caps.max (to_be 2 caps.over) f.max i;
  over = last_back 2 caps.over f.over i;
}

pub areas_back_ffdc : (a b : Area) → AreaFits a → area_at 0 (area_bytes a ++ area_bytes b) ≡ a
unfolding area_at area_bytes to_be
areas_back_ffdc a b f = λ i. record {
  address = field_back 8 a.address (to_be 4 a.size ++ (to_be 8 b.address ++ to_be 4 b.size)) f.address i;
  size = field_back 4 a.size (to_be 8 b.address ++ to_be 4 b.size) f.size i;
}

pub areas_back_pass : (a b : Area) → AreaFits b → area_at 12 (area_bytes a ++ area_bytes b) ≡ b
unfolding area_at area_bytes to_be
areas_back_pass a b f = λ i. record {
  address = field_back 8 b.address (to_be 4 b.size) f.address i;
  size = last_back 4 b.size f.size i;
}

pub found_body : (w : Way) (t : Tables) (ch : Change) → Writable w t ch → found_for w (kind_of ch) (body_of t ch) ≡ Some ch
unfolding found_for cleared_as reset_as kind_of body_of cleared_body caps_body throttles_body clock_body areas_body
found_body w t (Clear place log) h = ap (λ (v : Way). found_for v 0x01 (body_of t (Clear place log))) h.0
found_body w t (Unclear place log) h = ap (λ (v : Way). found_for v 0x01 (body_of t (Unclear place log))) h.0
found_body w t (SetState state) h = refl
found_body w t (SetRole got role) h = refl
found_body w t (SetCaps got caps) h = ap (λ (c : Caps). Some (SetCaps got c)) (caps_back got caps h.0)
found_body w t (SetUser user) h = ap (λ (n : ℕ). Some (SetUser n)) (last_back 2 user h.0)
found_body w t (SetThermal got) h = refl
found_body w t (SetThrottles got) h = refl
found_body w t (Reset log) h = ap (λ (v : Way). found_for v 0x08 (body_of t (Reset log))) h.0
found_body w t (Unreset state made) h = ap (λ (v : Way). found_for v 0x08 (body_of t (Unreset state made))) h.0
found_body w t (SetMask mask) h = ap (λ (n : ℕ). Some (SetMask n)) (last_back 4 mask h.0)
found_body w t (SetDeadman deadman) h =
    ap (λ (n : ℕ). Some (SetDeadman (record { running = deadman.running; time = n }))) (last_back 8 deadman.time h.0)
found_body w t (SetAreas areas) h = λ i.
    Some (SetAreas (record { ffdc = areas_back_ffdc areas.ffdc areas.pass h.0 i; pass = areas_back_pass areas.ffdc areas.pass h.1 i }))
found_body w t (SetTimer timer) h =
    ap (λ (n : ℕ). Some (SetTimer (record { running = timer.running; left = n }))) (last_back 8 timer.left h.0)

throttles_back : (t : Tables) (got : ℕ) → t.throttles.present < 256 ^ 2 → length t.throttles.sets ≡ 160 → throttles_at 1 (throttles_body got t.throttles) ≡ t.throttles
unfolding throttles_body to_be
throttles_back t got p l = λ i. record {
  present = field_back 2 t.throttles.present t.throttles.sets p i;
  sets = take_all 160 t.throttles.sets (omega (arith, l)) i;
}

pub tables_body : (w : Way) (t : Tables) (ch : Change) → Writable w t ch → tables_in (kind_of ch) (body_of t ch) ≡ t
unfolding tables_in kind_of body_of
tables_body w t (Clear place log) h = sym h.1
tables_body w t (Unclear place log) h = sym h.1
tables_body w t (SetState state) h = sym h
tables_body w t (SetRole got role) h = sym h
tables_body w t (SetCaps got caps) h = sym h.1
tables_body w t (SetUser user) h = sym h.1
tables_body w t (SetThermal got) h = λ i. record { thermal = take_all 9 t.thermal (omega (arith, h.0)) i; throttles = sym h.1 i }
tables_body w t (SetThrottles got) h = λ i. record { thermal = sym h.2 i; throttles = throttles_back t got h.0 h.1 i }
tables_body w t (Reset log) h = sym h.1
tables_body w t (Unreset state made) h = sym h.1
tables_body w t (SetMask mask) h = sym h.1
tables_body w t (SetDeadman deadman) h = sym h.1
tables_body w t (SetAreas areas) h = sym h.2
tables_body w t (SetTimer timer) h = sym h.1
