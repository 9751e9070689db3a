-- Document 01, "SBE mailbox", and document 02, h: a request is accepted exactly when it is one of the commands with the flags and values named
-- for it. Assumes nothing.
use Rattle.std.specs.Prelude.{ℕ, ◌+◌, ◌%◌, ◌^◌, ◌<◌, Bool, true, false, cond, ◌⊎◌, ◌↔◌, ◌≡◌, Ok, Err, List, [], ◌∷◌, ltb, leb, eqb, get_or}
use Rattle.std.proofs.Math.Bool.{not}
use Rattle.std.proofs.lemmas.Bool.{false≢true}
use Rattle.std.proofs.Common.{true≢false, subst, ◌∙◌, arith, not-le_of_lt, lit<}
use Rattle.std.proofs.Math.Logic.{inl, inr, ⊎_elim}
use Rattle.std.proofs.Math.Path.{refl, sym, ap}
use borrow.Author.Tests.{ltb-false, leb-true, leb-false, eqb-true, not-false, le-leb, eq-eqb}
use Rattle.wire.proofs.laws.Cases.{else_b, if_eq, else_eq, else_lt, else_le, else_ne, cond_elim, cond_cases}
use Rattle.wire.proofs.laws.Chains.{holds, or_else, or_case, last_case}
use Rattle.change.specs.declared.Change.{Change}
use Rattle.change.specs.declared.Change.TheVariants.{SetMask, SetDeadman, SetAreas, SetTimer}
use Rattle.formed.specs.Formed.{multiple_of128, in_memory}
use Rattle.sbe.specs.declared.Refusal.{Refusal}
use Rattle.sbe.specs.declared.Refusal.TheVariants.{ClassNotSupported, CommandNotSupported, InvalidTarget, InvalidChiplet, InvalidParameters}
use Rattle.sbe.specs.declared.Ruling.{Ruling}
use Rattle.sbe.specs.declared.Ruling.TheVariants.{Decline, Grant, Done, Read}
use Rattle.sbe.specs.Mailbox.{Tested, if_fine, areas_read, areas_judged, flags_of, word_at, register_at, plain_flags, start_or_stop, deadman_of, exit_of, cores_of, target_of, chiplet_of, chiplet_ranges, within, in_ranges, chiplet_known, ring_at, ring_of, timer_of, seeprom_of, area_status, areas_of, core_state, ring_class, timer_class, general, request_for, request_ruling}
use Rattle.sbe.specs.Conditions.{grants, Plain, AreaFine, Within, ChipletNamed, Names, ExitAsked, CoresAsked, RingAsked, ReadAsked, AreasAsked, Changes, Plainly, start_asked, stop_asked, timer_start, timer_stop, areas_asked}

-- a ruling grants one change
pub same_change : {v : Ruling} {a b : Change} → v ≡ Grant a → v ≡ Grant b → a ≡ b
same_change p q = cc

-- ---- the flags

pub plain_exactly : (flags : ℕ) → plain_flags flags ≡ true ↔ Plain flags
unfolding plain_flags
plain_exactly flags = (go (leb 0x0400 flags) refl, λ h. sym (else_le _ _ h.0 (sym (eq-eqb (flags % 0x0100) 0 h.1))))
  where
    go : (t : Bool) → leb 0x0400 flags ≡ t → cond t false (eqb (flags % 0x0100) 0) ≡ true → Plain flags
    go true e h = absurd (false≢true h)
    go false e h = (leb-false 0x0400 flags e, eqb-true (flags % 0x0100) 0 h)

-- ---- the chiplets of a target type

within_holds : (low high n : ℕ) → (within (low, high) n ≡ true) ↔ Within low high n
unfolding within
within_holds low high n =
    cond_cases (λ (z : Bool). (z ≡ true) ↔ Within low high n) (leb low n)
    (λ t. (λ h. (leb-true low n t, leb-true n high h), λ h. le-leb n high h.1))
    (λ t. (λ h. absurd (false≢true h), λ h. absurd (not-le_of_lt (leb-false low n t) h.0)))

no_range : (n : ℕ) → in_ranges [] n ≡ false
unfolding in_ranges
no_range n = refl

module _ (n low high : ℕ) where
  one_range : (in_ranges ((low, high) ∷ []) n ≡ true) ↔ Within low high n
  unfolding in_ranges
  one_range =
      let p = within_holds low high n in
      cond_cases (λ (z : Bool). (z ≡ true) ↔ Within low high n) (within (low, high) n) (λ t. (λ h. p.0 t, λ h. refl))
      (λ t. (λ h. absurd (false≢true h), λ h. absurd (true≢false (sym (p.1 h) ∙ t))))

  more_ranges : (rest : List (ℕ × ℕ)) {Q : Type 0} → (in_ranges rest n ≡ true) ↔ Q → (in_ranges ((low, high) ∷ rest) n ≡ true) ↔ (Within low high n ⊎ Q)
  unfolding in_ranges
  more_ranges rest q = or_else holds refl (within_holds low high n) q

pub known_exactly : (target chiplet : ℕ) → (chiplet_known target chiplet ≡ true) ↔ ChipletNamed target chiplet
unfolding chiplet_known chiplet_ranges
known_exactly target chiplet =
    let known : List (ℕ × ℕ) → Bool = λ (ranges : List (ℕ × ℕ)). in_ranges ranges chiplet in
    (or_case known target 0 (lit< tt) (one_range chiplet 0x00 0xFF)
    (or_case known target 1 (lit< tt)
    (more_ranges chiplet 0x01 0x01 _
    (more_ranges chiplet 0x02 0x03 _
    (more_ranges chiplet 0x08 0x09 _
    (more_ranges chiplet 0x0C 0x0F _
    (more_ranges chiplet 0x10 0x14 _
    (more_ranges chiplet 0x18 0x1F _
    (one_range chiplet 0x20 0x27)))))))
    (or_case known target 2 (lit< tt) (one_range chiplet 0xFF 0xFF)
    (or_case known target 3 (lit< tt) (one_range chiplet 0xFF 0xFF)
    (last_case known target 4 (one_range chiplet 0x00 0x0F) (no_range chiplet)))))).exactly

-- ---- an area's status

is_fine : Tested → Bool
is_fine (Err why) = false
is_fine (Ok x) = true

passed : (t : Bool) (why : Refusal) (n : Tested) → cond t (Err why) n ≡ Ok tt → (t ≡ false) × (n ≡ Ok tt)
unfolding is_fine
passed true why n e = absurd (false≢true (ap is_fine e))
passed false why n e = (refl, e)

either_fine : (t : Bool) (n : Tested) → cond t (Ok tt) n ≡ Ok tt → (t ≡ true) ⊎ (n ≡ Ok tt)
either_fine true n h = inl refl
either_fine false n h = inr h

module _ (address size : ℕ) where
  fine_status : AreaFine address size → area_status address size ≡ Ok tt
  unfolding area_status multiple_of128 in_memory
  fine_status (inl z) = sym (if_eq _ _ z refl)
  fine_status (inr h) =
      cond_elim (λ (n : Tested). n ≡ Ok tt) (eqb size 0) refl
      (sym (else_ne _ _ h.0 (else_b _ _ (ap not (le-leb (address + size) (2 ^ 64) h.1)) (else_ne _ _ h.2 refl))))

  status_fine : area_status address size ≡ Ok tt → AreaFine address size
  unfolding area_status multiple_of128 in_memory
  status_fine h =
      ⊎_elim (λ z. inl (eqb-true size 0 z))
      (λ tests.
      let a = passed (not (multiple_of128 address)) _ _ tests in
      let b = passed (not (in_memory address size)) _ _ a.1 in
      let d = passed (not (multiple_of128 size)) _ _ b.1 in
      inr (eqb-true (address % 128) 0 (not-false _ a.0), leb-true (address + size) (2 ^ 64) (not-false _ b.0), eqb-true (size % 128) 0 (not-false _ d.0)))
      (either_fine (eqb size 0) _ h)

-- ---- each ruling, with the conditions under which it is given

module _ (r : List ℕ) where
  pub data Ruled : Ruling → Type 0 where
    refused : (why : Refusal) → Ruled (Decline why)
    starts : Names 0xD1 0x01 r → flags_of r < 0x0400 → flags_of r % 0x0100 ≡ 0x01 → Ruled (Grant (SetDeadman (start_asked r)))
    stops : Names 0xD1 0x01 r → flags_of r < 0x0400 → flags_of r % 0x0100 ≡ 0x02 → Ruled (Grant (SetDeadman stop_asked))
    exits : ExitAsked r → Ruled Done
    masks : CoresAsked r → Ruled (Grant (SetMask (word_at 8 r)))
    rings : RingAsked r → Ruled Done
    starts_timer : Names 0xD4 0x01 r → flags_of r < 0x0400 → flags_of r % 0x0100 ≡ 0x01 → Ruled (Grant (SetTimer (timer_start r)))
    stops_timer : Names 0xD4 0x01 r → flags_of r < 0x0400 → flags_of r % 0x0100 ≡ 0x02 → Ruled (Grant (SetTimer timer_stop))
    reads : ReadAsked r → Ruled (Read (word_at 8 r) (word_at 12 r))
    sets_areas : AreasAsked r → Ruled (Grant (SetAreas (areas_asked r)))

  -- flags that aren't those named are refused
  two_flags : (start stop : Ruling) → (flags_of r < 0x0400 → flags_of r % 0x0100 ≡ 0x01 → Ruled start) → (flags_of r < 0x0400 → flags_of r % 0x0100 ≡ 0x02 → Ruled stop)
      → Ruled (start_or_stop (flags_of r) start stop)
  unfolding start_or_stop
  two_flags start stop f g =
      let asked = flags_of r % 0x0100 in
      cond_cases Ruled (leb 0x0400 (flags_of r)) (λ t. refused InvalidParameters)
      (λ t. let low = leb-false 0x0400 (flags_of r) t in
      cond_cases Ruled (eqb asked 0x01) (λ a. f low (eqb-true asked 0x01 a))
      (λ a. cond_cases Ruled (eqb asked 0x02) (λ b. g low (eqb-true asked 0x02 b)) (λ b. refused InvalidParameters)))

  no_flags : (v : Ruling) → (Plain (flags_of r) → Ruled v) → Ruled (cond (not (plain_flags (flags_of r))) (Decline InvalidParameters) v)
  no_flags v f =
      cond_cases Ruled (not (plain_flags (flags_of r))) (λ t. refused InvalidParameters) (λ t. f ((plain_exactly (flags_of r)).0 (not-false _ t)))

  ring_ruled : Names 0xD3 0x01 r → Ruled (ring_of r)
  unfolding ring_of ring_at
  ring_ruled n =
      no_flags _ (λ plain.
      cond_cases Ruled (ltb 4 (target_of r)) (λ t. refused InvalidTarget)
      (λ t. cond_cases Ruled (not (chiplet_known (target_of r) (chiplet_of r))) (λ k. refused InvalidChiplet)
      (λ k. rings (record {
        names = n;
        flags = plain;
        target = ltb-false 4 (target_of r) t;
        chiplet = (known_exactly (target_of r) (chiplet_of r)).0 (not-false _ k);
      }))))

  areas_ruled : Names 0xD7 0x04 r → Ruled (areas_of r)
  unfolding areas_of areas_read areas_judged if_fine
  areas_ruled n = no_flags _ (λ plain. go plain _ refl _ refl)
    where
      go : Plain (flags_of r) → (a : Tested) → area_status (register_at 16 r) (word_at 8 r) ≡ a → (b : Tested) → area_status (register_at 24 r) (word_at 12 r) ≡ b
          → Ruled (areas_judged (if_fine a (if_fine b (Ok (areas_asked r)))))
      go plain (Err why) p b q = refused why
      go plain (Ok x) p (Err why) q = refused why
      go plain (Ok x) p (Ok y) q = sets_areas (record { names = n; flags = plain; ffdc = status_fine _ _ p; pass = status_fine _ _ q })

  abbrev class : ℕ
  class = get_or r 6 0

  abbrev command : ℕ
  command = get_or r 7 0

  -- a command that is the one tested for, or another
  by_command : (k : ℕ) (v w : Ruling) → (command ≡ k → Ruled v) → Ruled w → Ruled (cond (eqb command k) v w)
  by_command k v w f p = cond_cases Ruled (eqb command k) (λ t. f (eqb-true command k t)) (λ t. p)

  unknown : Ruled (Decline CommandNotSupported)
  unknown = refused CommandNotSupported

  core_ruled : class ≡ 0xD1 → Ruled (core_state command r)
  unfolding core_state deadman_of exit_of cores_of
  core_ruled e =
      by_command 0x01 _ _ (λ k. two_flags _ _ (starts (e, k)) (stops (e, k)))
      (by_command 0x02 _ _ (λ k. no_flags _ (λ plain. exits ((e, k), plain)))
      (by_command 0x03 _ _ (λ k. no_flags _ (λ plain. masks ((e, k), plain))) unknown))

  timer_ruled : class ≡ 0xD4 → Ruled (timer_class command r)
  unfolding timer_class timer_of
  timer_ruled e = by_command 0x01 _ _ (λ k. two_flags _ _ (starts_timer (e, k)) (stops_timer (e, k))) unknown

  general_ruled : class ≡ 0xD7 → Ruled (general command r)
  unfolding general seeprom_of
  general_ruled e =
      by_command 0x03 _ _ (λ k. no_flags _ (λ plain. reads ((e, k), plain)))
      (by_command 0x04 _ _ (λ k. areas_ruled (e, k)) unknown)

  pub ruled : Ruled (request_ruling r)
  unfolding request_ruling request_for ring_class
  ruled =
      cond_cases Ruled (eqb class 0xD1) (λ a. core_ruled (eqb-true class 0xD1 a))
      (λ a. cond_elim Ruled (ltb class 0xD3) (refused ClassNotSupported)
      (cond_elim Ruled (ltb 0xD7 class) (refused ClassNotSupported)
      (cond_cases Ruled (eqb class 0xD3) (λ b. by_command 0x01 _ _ (λ k. ring_ruled (eqb-true class 0xD3 b, k)) unknown)
      (λ b. cond_cases Ruled (eqb class 0xD4) (λ d. timer_ruled (eqb-true class 0xD4 d))
      (λ d. cond_cases Ruled (eqb class 0xD7) (λ f. general_ruled (eqb-true class 0xD7 f)) (λ f. unknown))))))

  -- ---- from the ruling to the conditions

  abbrev Shows : Ruling → Type 0
  Shows (Decline why) = Unit {0}
  Shows (Grant change) = Changes r
  Shows Done = Plainly r
  Shows (Read offset size) = ReadAsked r × ((offset ≡ word_at 8 r) × (size ≡ word_at 12 r))

  shown : (v : Ruling) → Ruled v → Shows v
  shown v (refused why) = tt
  shown v (starts n h e) = inl (n, (h, inl e))
  shown v (stops n h e) = inl (n, (h, inr e))
  shown v (exits a) = inl a
  shown v (masks a) = inr (inl a)
  shown v (rings a) = inr a
  shown v (starts_timer n h e) = inr (inr (inl (n, (h, inl e))))
  shown v (stops_timer n h e) = inr (inr (inl (n, (h, inr e))))
  shown v (reads a) = (a, (refl, refl))
  shown v (sets_areas a) = inr (inr (inr a))

  shown_by : {v : Ruling} → request_ruling r ≡ v → Shows v
  shown_by e = subst Shows e (shown (request_ruling r) ruled)

  -- ---- from the conditions to the ruling

  named : {class command : ℕ} → Names class command r → request_ruling r ≡ request_for class command r
  unfolding request_ruling
  named n = λ i. request_for (n.0 i) (n.1 i) r

  module _ (start stop : Ruling) (h : flags_of r < 0x0400) where
    start_flag : flags_of r % 0x0100 ≡ 0x01 → start ≡ start_or_stop (flags_of r) start stop
    unfolding start_or_stop
    start_flag e = else_le _ _ h (if_eq _ _ e refl)

    stop_flag : flags_of r % 0x0100 ≡ 0x02 → stop ≡ start_or_stop (flags_of r) start stop
    unfolding start_or_stop
    stop_flag e = let other : flags_of r % 0x0100 ≡ 0x01 → ⊥ = λ z. omega (arith, e) in else_le _ _ h (else_eq _ _ other (if_eq _ _ e refl))

  plain_flags_lem : (v : Ruling) → Plain (flags_of r) → v ≡ cond (not (plain_flags (flags_of r))) (Decline InvalidParameters) v
  plain_flags_lem v p = else_b _ _ (ap not ((plain_exactly (flags_of r)).1 p)) refl

  pub deadman_start : Names 0xD1 0x01 r → flags_of r < 0x0400 → flags_of r % 0x0100 ≡ 0x01 → request_ruling r ≡ Grant (SetDeadman (start_asked r))
  unfolding request_for core_state deadman_of
  deadman_start n h e = named n ∙ sym (start_flag _ _ h e)

  pub deadman_stop : Names 0xD1 0x01 r → flags_of r < 0x0400 → flags_of r % 0x0100 ≡ 0x02 → request_ruling r ≡ Grant (SetDeadman stop_asked)
  unfolding request_for core_state deadman_of
  deadman_stop n h e = named n ∙ sym (stop_flag _ _ h e)

  pub exit_done : ExitAsked r → request_ruling r ≡ Done
  unfolding request_for core_state exit_of
  exit_done a = named a.0 ∙ sym (plain_flags_lem _ a.1)

  pub cores_set : CoresAsked r → request_ruling r ≡ Grant (SetMask (word_at 8 r))
  unfolding request_for core_state cores_of
  cores_set a = named a.0 ∙ sym (plain_flags_lem _ a.1)

  pub ring_done : RingAsked r → request_ruling r ≡ Done
  unfolding request_for ring_class ring_of ring_at
  ring_done a =
      named a.names
      ∙ sym (plain_flags_lem _ a.flags)
      ∙ sym (else_lt _ _ a.target (else_b _ _ (ap not ((known_exactly (target_of r) (chiplet_of r)).1 a.chiplet)) refl))

  pub timer_started : Names 0xD4 0x01 r → flags_of r < 0x0400 → flags_of r % 0x0100 ≡ 0x01 → request_ruling r ≡ Grant (SetTimer (timer_start r))
  unfolding request_for timer_class timer_of
  timer_started n h e = named n ∙ sym (start_flag _ _ h e)

  pub timer_stopped : Names 0xD4 0x01 r → flags_of r < 0x0400 → flags_of r % 0x0100 ≡ 0x02 → request_ruling r ≡ Grant (SetTimer timer_stop)
  unfolding request_for timer_class timer_of
  timer_stopped n h e = named n ∙ sym (stop_flag _ _ h e)

  pub read_asked : ReadAsked r → request_ruling r ≡ Read (word_at 8 r) (word_at 12 r)
  unfolding request_for general seeprom_of
  read_asked a = named a.0 ∙ sym (plain_flags_lem _ a.1)

  pub areas_set : AreasAsked r → request_ruling r ≡ Grant (SetAreas (areas_asked r))
  unfolding request_for general areas_of areas_read areas_judged if_fine
  areas_set a =
      named a.names
      ∙ sym (plain_flags_lem _ a.flags)
      ∙ (λ i. areas_judged (if_fine (fine_status _ _ a.ffdc i) (if_fine (fine_status _ _ a.pass i) (Ok (areas_asked r)))))

  -- ---- what holds of the changes that the four commands make holds of the change made

  module _ (P : Change → Type 0) (start : P (SetDeadman (start_asked r))) (stop : P (SetDeadman stop_asked)) (mask : P (SetMask (word_at 8 r)))
      (start_timer : P (SetTimer (timer_start r))) (stop_timer : P (SetTimer timer_stop)) (areas : AreasAsked r → P (SetAreas (areas_asked r))) where
    abbrev OfChange : Ruling → Type 0
    OfChange (Decline why) = Unit {0}
    OfChange (Grant change) = P change
    OfChange Done = Unit {0}
    OfChange (Read offset size) = Unit {0}

    of_ruled : (v : Ruling) → Ruled v → OfChange v
    of_ruled v (refused why) = tt
    of_ruled v (starts n h e) = start
    of_ruled v (stops n h e) = stop
    of_ruled v (exits a) = tt
    of_ruled v (masks a) = mask
    of_ruled v (rings a) = tt
    of_ruled v (starts_timer n h e) = start_timer
    of_ruled v (stops_timer n h e) = stop_timer
    of_ruled v (reads a) = tt
    of_ruled v (sets_areas a) = areas a

    pub of_change : (ch : Change) → request_ruling r ≡ Grant ch → P ch
    of_change ch e = subst OfChange e (of_ruled (request_ruling r) ruled)

  -- ---- both ways

  changing : Changes r → (ch : Change) × (request_ruling r ≡ Grant ch)
  changing (inl (n, (h, inl e))) = (_, deadman_start n h e)
  changing (inl (n, (h, inr e))) = (_, deadman_stop n h e)
  changing (inr (inl a)) = (_, cores_set a)
  changing (inr (inr (inl (n, (h, inl e))))) = (_, timer_started n h e)
  changing (inr (inr (inl (n, (h, inr e))))) = (_, timer_stopped n h e)
  changing (inr (inr (inr a))) = (_, areas_set a)

  granting : (v : Ruling) → Shows v → grants v ≡ true → Changes r
  unfolding grants
  granting (Decline why) s h = absurd (false≢true h)
  granting (Grant change) s h = s
  granting Done s h = absurd (false≢true h)
  granting (Read offset size) s h = absurd (false≢true h)

  pub changes_exactly : grants (request_ruling r) ≡ true ↔ Changes r
  unfolding grants
  changes_exactly = (granting (request_ruling r) (shown_by refl), λ a. ap grants (changing a).1)

  pub done_exactly : request_ruling r ≡ Done ↔ Plainly r
  done_exactly = (shown_by, ⊎_elim exit_done ring_done)

  pub read_exactly : (offset size : ℕ) → request_ruling r ≡ Read offset size ↔ (ReadAsked r × ((offset ≡ word_at 8 r) × (size ≡ word_at 12 r)))
  read_exactly offset size = (shown_by, λ a. read_asked a.0 ∙ sym (λ i. Read (a.1.0 i) (a.1.1 i)))
