-- Document 01, "SBE mailbox", and document 02, h: a request gets each status exactly when its row holds and none before it. Assumes nothing.
use Prim.Native.Nat.{ℕ, ◌+◌, ◌%◌, ◌^◌, ◌<◌, ◌≤◌}
use Rattle.std.specs.Prelude.{Bool, true, false, cond, not, ◌⊎◌, ◌≡◌, Result, Ok, Err, List, ltb, leb, eqb, get_or}
use Rattle.std.proofs.Common.{true≢false, sym, ap, ◌∙◌, arith, lit≤}
use Rattle.std.proofs.Math.Logic.{inl, inr, ⊎_elim}
use Rattle.std.proofs.Math.Path.{refl}
use Rattle.std.proofs.Math.Nat.{not-le_of_lt}
use borrow.Author.Tests.{ltb-true, ltb-false, leb-true, leb-false, eqb-true, eqb-false, not-true, not-false}
use Rattle.wire.specs.Conditions.{◌and◌, is, none, Rows, row}
use Rattle.wire.proofs.laws.Cases.{cond_cases}
use Rattle.wire.proofs.laws.Chains.{not_passes}
use Rattle.wire.proofs.laws.Tables.{lt_holds, fails, ByTable, by_none, by_is, hit, miss, by_rows}
use Rattle.change.specs.declared.Change.{Change}
use Rattle.change.specs.declared.Change.TheVariants.{SetAreas}
use Rattle.formed.specs.Formed.{multiple_of128, in_memory}
use Rattle.record.specs.declared.Areas.{Areas}
use Rattle.sbe.specs.declared.Refusal.{Refusal}
use Rattle.sbe.specs.declared.Refusal.TheVariants.{ClassNotSupported, CommandNotSupported, InvalidAddress, InvalidTarget, InvalidChiplet, InvalidParameters}
use Rattle.sbe.specs.declared.Ruling.{Ruling}
use Rattle.sbe.specs.declared.Ruling.TheVariants.{Decline, Grant, Done, Read}
use Rattle.sbe.specs.Mailbox.{numbers_of, Tested, if_fine, areas_read, areas_judged, flags_of, word_at, register_at, plain_flags, start_or_stop, deadman_of, exit_of, cores_of, target_of, chiplet_of, ring_at, ring_of, timer_of, seeprom_of, area_status, areas_of, core_state, ring_class, timer_class, general, request_for, request_ruling}
use Rattle.sbe.specs.Conditions.{StartOrStop, Names}
use Rattle.sbe.proofs.laws.Exactly.{plain_exactly, known_exactly}
use Rattle.sbe.specs.Statuses.{Status, ClassUnknown, CommandKnown, StartsOrStops, RingStatus, AreaStatus, RequestStatus}

-- ---- a ruling gives a status if it refuses with it

abbrev pub Refuses : Ruling → Status → Type 0
Refuses v n = (why : Refusal) × (v ≡ Decline why) × (n ≡ numbers_of why)

same_refusal : (x y : Refusal) → Decline x ≡ Decline y → y ≡ x
same_refusal x y e = cc

-- one that refuses, with its own numbers alone
pub refuses : (x : Refusal) → ByTable Refuses (Decline x) (is (numbers_of x))
refuses x = by_is Refuses (x, refl, refl) (λ n e. e.2 ∙ ap numbers_of (same_refusal x e.0 e.1))

-- any other ruling gives none
declines : Ruling → Bool
declines (Decline why) = true
declines (Grant change) = false
declines Done = false
declines (Read offset size) = false

gives_none : (v : Ruling) → declines v ≡ false → ByTable Refuses v none
unfolding declines
gives_none v h = by_none Refuses (λ n e. true≢false (sym (ap declines e.1) ∙ h))

makes : (ch : Change) → ByTable Refuses (Grant ch) none
unfolding declines
makes ch = gives_none (Grant ch) refl

finishes : ByTable Refuses Done none
unfolding declines
finishes = gives_none Done refl

reads : (offset size : ℕ) → ByTable Refuses (Read offset size) none
unfolding declines
reads offset size = gives_none (Read offset size) refl

-- ---- an area, and v after it

module _ (v : Result Areas Refusal) {T : Status → Type 0} (rest : ByTable Refuses (areas_judged v) T) (address size : ℕ) where
  abbrev Told : Tested → Status → Type 0
  Told status n = Refuses (areas_judged (if_fine status v)) n

  told : (x : Refusal) → ByTable Told (Err x) (is (numbers_of x))
  unfolding if_fine areas_judged
  told x = record { exactly = (refuses x).exactly }

  told_on : ByTable Told (Ok tt) T
  unfolding if_fine
  told_on = record { exactly = rest.exactly }

  area_rows : ByTable Told (area_status address size) (AreaStatus address size T)
  unfolding area_status multiple_of128 in_memory
  area_rows =
      let Q : Tested → Type 0 = λ (x : Tested). ByTable Told x (AreaStatus address size T) in
      cond_cases Q (eqb size 0)
      (λ z. miss Told (λ h. h.0 (eqb-true size 0 z)) (miss Told (λ h. h.0 (eqb-true size 0 z)) told_on))
      (λ z. cond_cases Q (not (eqb (address % 128) 0)) (λ a. hit Told (eqb-false size 0 z, inl (eqb-false _ 0 (not-true _ a))) (told InvalidAddress))
      (λ a. cond_cases Q (not (leb (address + size) (2 ^ 64))) (λ b. hit Told (eqb-false size 0 z, inr (leb-false (address + size) (2 ^ 64) (not-true _ b))) (told InvalidAddress))
      (λ b.
      let fine : ((size ≡ 0 → ⊥) and ((address % 128 ≡ 0 → ⊥) ⊎ (2 ^ 64 < address + size))) → ⊥ =
      λ h. ⊎_elim (λ k. k (eqb-true _ 0 (not-false _ a))) (λ k. not-le_of_lt k (leb-true (address + size) (2 ^ 64) (not-false _ b))) h.1 in
      cond_cases Q (not (eqb (size % 128) 0)) (λ c. miss Told fine (hit Told (eqb-false size 0 z, eqb-false _ 0 (not-true _ c)) (told InvalidParameters)))
      (λ c. miss Told fine (miss Told (λ h. h.1 (eqb-true _ 0 (not-false _ c))) told_on)))))

  area_row : ByTable Refuses (areas_judged (if_fine (area_status address size) v)) (AreaStatus address size T)
  area_row = record { exactly = area_rows.exactly }

module _ (r : List ℕ) where
  abbrev class : ℕ
  class = get_or r 6 0

  abbrev command : ℕ
  command = get_or r 7 0

  abbrev ToldSo : Ruling → Type 0
  ToldSo v = ByTable Refuses v (RequestStatus r)

  -- ---- an unknown class, and a command of a known class that is none of the seven

  unknown : ClassUnknown r → ToldSo (Decline ClassNotSupported)
  unfolding RequestStatus
  unknown h = hit Refuses h (refuses ClassNotSupported)

  other : (ClassUnknown r → ⊥) → (CommandKnown r → ⊥) → ToldSo (Decline CommandNotSupported)
  unfolding RequestStatus
  other c k = miss Refuses c (hit Refuses k (refuses CommandNotSupported))

  -- what a known class isn't
  classed : (c : ℕ) → 0xD3 ≤ c → c ≤ 0xD7 → class ≡ c → ClassUnknown r → ⊥
  classed c l m e h = ⊎_elim (λ k. omega (arith, e, k)) (λ k. omega (arith, e, k)) h.1

  differ : (c d : ℕ) → eqb d c ≡ false → class ≡ c → class ≡ d → ⊥
  differ c d h e z = eqb-false d c h (sym z ∙ e)

  apart : (c d k : ℕ) → eqb d c ≡ false → class ≡ c → Names d k r → ⊥
  apart c d k h e n = differ c d h e n.0

  not_core : {P : Type 0} → (class ≡ 0xD1 → ⊥) → (P → ⊥) → (Names 0xD1 0x01 r ⊎ (Names 0xD1 0x02 r ⊎ (Names 0xD1 0x03 r ⊎ P))) → ⊥
  not_core core h = ⊎_elim (λ n. core n.0) (⊎_elim (λ n. core n.0) (⊎_elim (λ n. core n.0) h))

  -- ---- a known command: its flags, and what comes after them

  abbrev AfterFlags : Status → Type 0
  AfterFlags =
      Rows (Names 0xD3 0x01 r) (RingStatus (target_of r) (chiplet_of r))
      (Rows (Names 0xD7 0x04 r) (AreaStatus (register_at 16 r) (word_at 8 r) (AreaStatus (register_at 24 r) (word_at 12 r) none)) none)

  module _ (known : ClassUnknown r → ⊥) (named : CommandKnown r) where
    two_flags : (start stop : Change) → StartsOrStops r → ToldSo (start_or_stop (flags_of r) (Grant start) (Grant stop))
    unfolding RequestStatus start_or_stop
    two_flags start stop n =
        let asked = flags_of r % 0x0100 in
        let Q : Ruling → Type 0 = λ (v : Ruling). ByTable Refuses v (row (0x02, 0x19) (StartOrStop (flags_of r) → ⊥) none) in
        miss Refuses known (miss Refuses (λ h. h named) (hit Refuses n
        (cond_cases Q (leb 0x0400 (flags_of r)) (λ a. hit Refuses (λ h. not-le_of_lt h.0 (leb-true 0x0400 (flags_of r) a)) (refuses InvalidParameters))
        (λ a. let low = leb-false 0x0400 (flags_of r) a in
        cond_cases Q (eqb asked 0x01) (λ b. miss Refuses (λ h. h (low, inl (eqb-true asked 0x01 b))) (makes start))
        (λ b. cond_cases Q (eqb asked 0x02) (λ c. miss Refuses (λ h. h (low, inr (eqb-true asked 0x02 c))) (makes stop))
        (λ c. hit Refuses (λ h. ⊎_elim (eqb-false asked 0x01 b) (eqb-false asked 0x02 c) h.1) (refuses InvalidParameters)))))))

    no_flags : (v : Ruling) → (StartsOrStops r → ⊥) → ByTable Refuses v AfterFlags → ToldSo (cond (not (plain_flags (flags_of r))) (Decline InvalidParameters) v)
    unfolding RequestStatus
    no_flags v n t =
        miss Refuses known (miss Refuses (λ h. h named) (miss Refuses n
        (by_rows Refuses (fails (not_passes (plain_exactly (flags_of r)))) (refuses InvalidParameters) t)))

  ring_after : ByTable Refuses (ring_at (target_of r) (chiplet_of r)) (RingStatus (target_of r) (chiplet_of r))
  unfolding ring_at
  ring_after =
      by_rows Refuses (lt_holds 4 (target_of r)) (refuses InvalidTarget)
      (by_rows Refuses (fails (not_passes (known_exactly (target_of r) (chiplet_of r)))) (refuses InvalidChiplet) finishes)

  made : (areas : Areas) → ByTable Refuses (areas_judged (Ok areas)) none
  unfolding areas_judged
  made areas = makes (SetAreas areas)

  areas_after : ByTable Refuses (areas_judged (areas_read r)) (AreaStatus (register_at 16 r) (word_at 8 r) (AreaStatus (register_at 24 r) (word_at 12 r) none))
  unfolding areas_read
  areas_after = area_row _ (area_row _ (made _) (register_at 24 r) (word_at 12 r)) (register_at 16 r) (word_at 8 r)

  -- ---- class by class

  core_rows : class ≡ 0xD1 → ToldSo (core_state command r)
  unfolding core_state deadman_of exit_of cores_of
  core_rows e =
      let known : ClassUnknown r → ⊥ = λ h. h.0 e in
      let ring = apart 0xD1 0xD3 0x01 refl e in
      let timer = apart 0xD1 0xD4 0x01 refl e in
      let areas = apart 0xD1 0xD7 0x04 refl e in
      cond_cases ToldSo (eqb command 0x01)
      (λ a. let n : Names 0xD1 0x01 r = (e, eqb-true command 0x01 a) in two_flags known (inl n) _ _ (inl n))
      (λ a. let deadman : Names 0xD1 0x01 r → ⊥ = λ h. eqb-false command 0x01 a h.1 in
      cond_cases ToldSo (eqb command 0x02)
      (λ b. no_flags known (inr (inl (e, eqb-true command 0x02 b))) _ (⊎_elim deadman timer) (miss Refuses ring (miss Refuses areas finishes)))
      (λ b. cond_cases ToldSo (eqb command 0x03)
      (λ c. no_flags known (inr (inr (inl (e, eqb-true command 0x03 c)))) _ (⊎_elim deadman timer) (miss Refuses ring (miss Refuses areas (makes _))))
      (λ c. other known
      (⊎_elim deadman (⊎_elim (λ h. eqb-false command 0x02 b h.1) (⊎_elim (λ h. eqb-false command 0x03 c h.1)
      (⊎_elim ring (⊎_elim timer (⊎_elim (apart 0xD1 0xD7 0x03 refl e) areas)))))))))

  ring_rows : class ≡ 0xD3 → ToldSo (ring_class command r)
  unfolding ring_class ring_of
  ring_rows e =
      let known = classed 0xD3 (lit≤ tt) (lit≤ tt) e in
      let timer = apart 0xD3 0xD4 0x01 refl e in
      cond_cases ToldSo (eqb command 0x01)
      (λ a. let n : Names 0xD3 0x01 r = (e, eqb-true command 0x01 a) in
      no_flags known (inr (inr (inr (inl n)))) _ (⊎_elim (apart 0xD3 0xD1 0x01 refl e) timer) (hit Refuses n ring_after))
      (λ a. other known
      (not_core (differ 0xD3 0xD1 refl e) (⊎_elim (λ h. eqb-false command 0x01 a h.1) (⊎_elim timer (⊎_elim (apart 0xD3 0xD7 0x03 refl e) (apart 0xD3 0xD7 0x04 refl e))))))

  timer_rows_lem : class ≡ 0xD4 → ToldSo (timer_class command r)
  unfolding timer_class timer_of
  timer_rows_lem e =
      let known = classed 0xD4 (lit≤ tt) (lit≤ tt) e in
      cond_cases ToldSo (eqb command 0x01)
      (λ a. let n : Names 0xD4 0x01 r = (e, eqb-true command 0x01 a) in two_flags known (inr (inr (inr (inr (inl n))))) _ _ (inr n))
      (λ a. other known
      (not_core (differ 0xD4 0xD1 refl e)
      (⊎_elim (apart 0xD4 0xD3 0x01 refl e) (⊎_elim (λ h. eqb-false command 0x01 a h.1) (⊎_elim (apart 0xD4 0xD7 0x03 refl e) (apart 0xD4 0xD7 0x04 refl e))))))

  general_rows : class ≡ 0xD7 → ToldSo (general command r)
  unfolding general seeprom_of areas_of
  general_rows e =
      let known = classed 0xD7 (lit≤ tt) (lit≤ tt) e in
      let ring = apart 0xD7 0xD3 0x01 refl e in
      let timer = apart 0xD7 0xD4 0x01 refl e in
      let one : StartsOrStops r → ⊥ = ⊎_elim (apart 0xD7 0xD1 0x01 refl e) timer in
      cond_cases ToldSo (eqb command 0x03)
      (λ a. let read = eqb-true command 0x03 a in
      no_flags known (inr (inr (inr (inr (inr (inl (e, read))))))) _ one (miss Refuses ring (miss Refuses (λ h. omega (arith, read, h.1)) (reads _ _))))
      (λ a. cond_cases ToldSo (eqb command 0x04)
      (λ b. let n : Names 0xD7 0x04 r = (e, eqb-true command 0x04 b) in
      no_flags known (inr (inr (inr (inr (inr (inr n)))))) _ one (miss Refuses ring (hit Refuses n areas_after)))
      (λ b. other known
      (not_core (differ 0xD7 0xD1 refl e) (⊎_elim ring (⊎_elim timer (⊎_elim (λ h. eqb-false command 0x03 a h.1) (λ h. eqb-false command 0x04 b h.1)))))))

  pub request_rows : ByTable Refuses (request_ruling r) (RequestStatus r)
  unfolding request_ruling request_for
  request_rows =
      cond_cases ToldSo (eqb class 0xD1) (λ a. core_rows (eqb-true class 0xD1 a))
      (λ a. let core = eqb-false class 0xD1 a in
      cond_cases ToldSo (ltb class 0xD3) (λ b. unknown (core, inl (ltb-true class 0xD3 b)))
      (λ b. cond_cases ToldSo (ltb 0xD7 class) (λ c. unknown (core, inr (ltb-true 0xD7 class c)))
      (λ c. cond_cases ToldSo (eqb class 0xD3) (λ d. ring_rows (eqb-true class 0xD3 d))
      (λ d. cond_cases ToldSo (eqb class 0xD4) (λ f. timer_rows_lem (eqb-true class 0xD4 f))
      (λ f. cond_cases ToldSo (eqb class 0xD7) (λ g. general_rows (eqb-true class 0xD7 g))
      (λ g. other (λ h. ⊎_elim (λ k. not-le_of_lt k (ltb-false class 0xD3 b)) (λ k. not-le_of_lt k (ltb-false 0xD7 class c)) h.1)
      (not_core core (⊎_elim (λ h. eqb-false class 0xD3 d h.0) (⊎_elim (λ h. eqb-false class 0xD4 f h.0)
      (⊎_elim (λ h. eqb-false class 0xD7 g h.0) (λ h. eqb-false class 0xD7 g h.0)))))))))))
