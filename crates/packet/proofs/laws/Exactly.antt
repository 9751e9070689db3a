-- Document 01, "Statuses": a packet is in one of three rows, the first 0x12, 0x14 or neither, and its status tells which. Assumes nothing.
use Rattle.std.specs.Prelude.{Ok, Err}
use Rattle.packet.specs.declared.Status.{Status}
use Rattle.packet.specs.declared.Status.TheVariants.{InvalidLength, ChecksumFailure}
use Rattle.std.specs.Result.{is_ok}
use Rattle.std.proofs.lemmas.Bool.{false≢true}
use Rattle.std.specs.Prelude.{ℕ, ◌+◌, ◌<◌, ◌≤◌, Bool, true, false, ◌⊎◌, ◌↔◌, ◌≡◌, refl, List, ltb, eqb, length}
use Rattle.std.proofs.Common.{inl, inr, ⊎_elim, ◌∙◌, ltb-true, ltb-false, eqb-true}
use Rattle.std.proofs.Math.Path.{sym}
use Rattle.std.proofs.lemmas.Bool.{eqb-false}
use Rattle.wire.proofs.laws.Cases.{if_lt, else_lt, if_ne, else_ne}
use Rattle.packet.specs.Packet.{Checked, status_number, data_length, status_at, packet_status}
use Rattle.packet.specs.Conditions.{Overlong, Fits, Summed}

lt_or_le : (m n : ℕ) → (m < n) ⊎ (n ≤ m)
lt_or_le m n = go (ltb m n) refl
  where
    go : (t : Bool) → ltb m n ≡ t → (m < n) ⊎ (n ≤ m)
    go true e = inl (ltb-true m n e)
    go false e = inr (ltb-false m n e)

eq_or_not : (m n : ℕ) → (m ≡ n) ⊎ (m ≡ n → ⊥)
eq_or_not m n = go (eqb m n) refl
  where
    go : (t : Bool) → eqb m n ≡ t → (m ≡ n) ⊎ (m ≡ n → ⊥)
    go true e = inl (eqb-true m n e)
    go false e = inr (eqb-false m n e)

module _ (c : List ℕ) where
  -- ---- from the row to the status

  too_long_lem : 4090 < data_length c → packet_status c ≡ Err InvalidLength
  unfolding packet_status status_at
  too_long_lem h = sym (if_lt _ _ h refl)

  cut_off : data_length c ≤ 4090 → length c < data_length c + 6 → packet_status c ≡ Err InvalidLength
  unfolding packet_status status_at
  cut_off h k = sym (else_lt _ _ h (if_lt _ _ k refl))

  pub status_summed : Fits c → Summed c → packet_status c ≡ Ok tt
  unfolding packet_status status_at
  status_summed f s = sym (else_lt _ _ f.0 (else_lt _ _ f.1 (else_ne _ _ s refl)))

  pub status_unsummed : Fits c → (Summed c → ⊥) → packet_status c ≡ Err ChecksumFailure
  unfolding packet_status status_at
  status_unsummed f s = sym (else_lt _ _ f.0 (else_lt _ _ f.1 (if_ne _ _ s refl)))

  -- ---- every packet is in one of the three rows

  pub status_overlong : Overlong c → packet_status c ≡ Err InvalidLength
  status_overlong (inl h) = too_long_lem h
  status_overlong (inr k) = ⊎_elim too_long_lem (λ h. cut_off h k) (lt_or_le 4090 (data_length c))

  fits_or_not : Overlong c ⊎ Fits c
  fits_or_not = ⊎_elim (λ h. inl (inl h)) (λ h. ⊎_elim (λ k. inl (inr k)) (λ k. inr (h, k)) (lt_or_le (length c) (data_length c + 6))) (lt_or_le 4090 (data_length c))

  summed_or_not : Summed c ⊎ (Summed c → ⊥)
  summed_or_not = eq_or_not _ _

  -- ---- so the status tells the row

  pub by_row : {A : Type 0} → (Overlong c → A) → (Fits c → Summed c → A) → (Fits c → (Summed c → ⊥) → A) → A
  by_row over good bad = ⊎_elim over (λ f. ⊎_elim (good f) (bad f) summed_or_not) fits_or_not

  clash : {A : Type 0} {m n : Checked} → packet_status c ≡ m → packet_status c ≡ n → (m ≡ n → ⊥) → A
  clash p q h = absurd (h (sym p ∙ q))

  pub good_exactly : packet_status c ≡ Ok tt ↔ (Fits c × Summed c)
  good_exactly = (
    λ e.
        by_row (λ o. clash (status_overlong o) e (λ z. cc)) (λ f s. (f, s)) (λ f s. clash (status_unsummed f s) e (λ z. cc)),
    λ h. status_summed h.0 h.1,
  )

-- ---- a status, or none

pub ok_is : (v : Checked) → is_ok v ≡ true → v ≡ Ok tt
ok_is (Ok x) e = refl
ok_is (Err s) e = absurd (false≢true e)

pub checked_cases : (P : Checked → Type 0) (v : Checked) → ((s : Status) → v ≡ Err s → P (Err s)) → (v ≡ Ok tt → P (Ok tt)) → P v
checked_cases P (Ok x) bad good = good refl
checked_cases P (Err s) bad good = bad s refl

-- its number, 0 where there is none
abbrev pub number_in : Checked → ℕ
number_in (Ok x) = 0
number_in (Err s) = status_number s
