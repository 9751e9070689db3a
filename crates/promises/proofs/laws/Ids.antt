-- No id twice: the logs ever made, struck out or not, have the ids 1, 2, 3, .. in the order they were made. Assumes nothing.
use Rattle.std.specs.Prelude.{ℕ, ◌+◌, ◌≤◌, ◌⊎◌, ◌≡◌, refl, List, ◌∷◌}
use Rattle.std.proofs.Common.{inl, inr, ⊎_elim, sym, ap, ap₂, ◌∙◌, add-zero, add-one, arith}
use Rattle.wire.proofs.laws.Cases.{if_eq, else_eq}
use Rattle.record.specs.Record.{no_log}
use Rattle.record.specs.declared.Log.{Log}
use Rattle.record.specs.declared.Record.{Record}
use Rattle.change.specs.Change.{made_by}
use Rattle.change.specs.declared.Change.{Change}
use Rattle.change.specs.declared.Change.TheVariants.{Clear, Unclear, SetState, SetRole, SetCaps, SetUser, SetThermal, SetThrottles, Reset, Unreset, SetMask, SetDeadman, SetAreas, SetTimer}
use Rattle.change.specs.declared.Tables.{Tables}
use Rattle.session.specs.Session.{made_of}
use Rattle.links.proofs.laws.Made.{NewLog, Made}
use Rattle.promises.specs.Marks.{Mark, logs_made}
use Rattle.promises.specs.Ids.{id_of, ids_made, countdown}

-- a change that is made makes no log, or one with the next id
abbrev Drew : ℕ → Change → Type 0
Drew n ch = ((id_of ch ≡ 0) × (made_of ch ≡ 0)) ⊎ ((id_of ch ≡ n) × (made_of ch ≡ 1) × (1 ≤ n))

none_drawn : (log : Log) → log ≡ no_log → (log.id ≡ 0) × (made_by log ≡ 0)
unfolding made_by
none_drawn log e = (ap (λ (x : Log). x.id) e, sym (if_eq _ _ {m = log.id} {n = 0} (ap (λ (x : Log). x.id) e) refl))

pub one_made : (r : Record) (n : ℕ) (log : Log) → NewLog r n log → made_by log ≡ 1
unfolding made_by
one_made r n log new = sym (else_eq _ _ {m = log.id} {n = 0} (λ z. omega (arith, new.id, new.low, z)) refl)

pub drew : (r : Record) (n : ℕ) (t : Tables) (ch : Change) → Made r n t ch → Drew n ch
unfolding id_of made_of
drew r n t (Clear place log) m = inl (refl, refl)
drew r n t (Unclear place log) m = absurd m
drew r n t (SetState state) m = inl (refl, refl)
drew r n t (SetRole got role) m = inl (refl, refl)
drew r n t (SetCaps got caps) m = inl (refl, refl)
drew r n t (SetUser user) m = inl (refl, refl)
drew r n t (SetThermal got) m = inl (refl, refl)
drew r n t (SetThrottles got) m = inl (refl, refl)
drew r n t (Reset log) m = ⊎_elim (λ e. inl (none_drawn log e)) (λ new. inr (new.id, one_made r n log new, new.low)) m.0
drew r n t (Unreset state made) m = absurd m
drew r n t (SetMask mask) m = inl (refl, refl)
drew r n t (SetDeadman deadman) m = inl (refl, refl)
drew r n t (SetAreas areas) m = inl (refl, refl)
drew r n t (SetTimer timer) m = inl (refl, refl)

-- one mark more
pub ids_add : (first : ℕ) (m : Mark) (ms : List Mark) → Drew (first + logs_made ms) m.edit.change → ids_made ms ≡ countdown first (logs_made ms)
    → ids_made (m ∷ ms) ≡ countdown first (logs_made (m ∷ ms))
unfolding ids_made logs_made countdown
ids_add first m ms w e =
    ⊎_elim
    (λ h. sym (if_eq (ids_made ms) _ {m = id_of m.edit.change} {n = 0} h.0 refl) ∙ e ∙ ap (countdown first) (sym (ap (λ (k : ℕ). logs_made ms + k) h.1 ∙ add-zero (logs_made ms))))
    (λ h. sym (else_eq (ids_made ms) _ {m = id_of m.edit.change} {n = 0} (λ z. omega (arith, h.0, z)) refl) ∙ ap₂ (λ (x : ℕ) (l : List ℕ). x ∷ l) h.0 e
    ∙ ap (countdown first) (sym (ap (λ (k : ℕ). logs_made ms + k) h.1 ∙ add-one (logs_made ms))))
    w
