-- What each turn of a loop shows: what is left decides. Assumes nothing.
use Prim.Native.Nat.{ℕ, suc, ◌+◌, ◌-◌, ◌*◌, ◌/◌, ◌%◌, ◌<◌, ◌≤◌}
use mathlib.Core.Bool.{Bool, true, false, not}
use mathlib.Core.Path.{◌≡◌, refl, ap}
use mathlib.Core.List.{List, [], ◌∷◌}
use native.Mathlib.Numerals.{add-one}
use native.Mathlib.Nat.{add-sub_cancel_left}
use native.Mathlib.Omega.{arith}
use lib.ListN.{length, get_or, take, drop, drop_of_length-le, length-drop}
use lib.Seq.{drop-cons, drop-drop}
use Rattle.wire.proofs.laws.Cases.{if_b, else_b, if_eq, else_eq}
use Rattle.record.specs.Record.{no_log}
use Rattle.record.specs.declared.Log.{Log}
use Rattle.std.specs.Prelude.{eqb, ◌&&◌}
use Rattle.std.specs.List.{list_all}
use Rattle.std.proofs.lemmas.List.{take_all}
use Rattle.formed.specs.Formed.{pair_ok, pairs_ok, unused, log_ok, logs_above}

-- ---- absent_zero: the pairs from i on

module _ (i left : ℕ) (sets : List ℕ) where
  -- the ten bytes of pair i, as the code takes them
  abbrev pair : Bool
  pair = pair_ok (left % 2) (take (i * 10 + 10 - i * 10) (drop (i * 10) sets))

  pub pairs_bad : i < 16 → pair ≡ false → false ≡ pairs_ok (16 - i) left (drop (i * 10) sets)
  unfolding pairs_ok
  pairs_bad h e =
      let k : 16 - i ≡ suc (15 - i) = omega arith in
      rw k (if_b _ _ (ap not (rw add-sub_cancel_left at e)) refl)

  pub pairs_more : i < 16 → pair ≡ true → pairs_ok (16 - (i + 1)) (left / 2) (drop ((i + 1) * 10) sets) ≡ pairs_ok (16 - i) left (drop (i * 10) sets)
  unfolding pairs_ok
  pairs_more h e =
      let k : 16 - i ≡ suc (15 - i) = omega arith in
      let m : 16 - (i + 1) ≡ 15 - i = omega arith in
      let n : (i + 1) * 10 ≡ i * 10 + 10 = omega arith in
      rw (m, n, k) (else_b _ _ (ap not (rw add-sub_cancel_left at e)) (rw drop-drop))

  pub pairs_end : 16 ≤ i → true ≡ pairs_ok (16 - i) left (drop (i * 10) sets)
  unfolding pairs_ok
  pairs_end h = let k : 16 - i ≡ 0 = omega arith in rw k

-- ---- unused, and logs_ok: the places from i on

abbrev pub is_unused : Log → Bool
is_unused x = eqb x.id 0 && eqb x.reason 0

pub unused_all : (l : List Log) → list_all is_unused l ≡ unused l
unfolding unused
unused_all [] = refl
unused_all (x ∷ l) = grind (arith, unused_all l)

module _ (next : ℕ) (l : List Log) (low i : ℕ) where
  abbrev log : Log
  log = get_or l i no_log

  pub logs_rest : (n : ℕ) → length l ≡ n → i < n → log.id ≡ 0 → list_all is_unused (take (n - i) (drop i l)) ≡ logs_above low next (drop i l)
  unfolding logs_above
  logs_rest n is h e =
      let m : length (drop i l) ≤ n - i = omega (arith, length-drop i l) in
      let k : i < length l = omega arith in
      rw (take_all (n - i) (drop i l) m, unused_all, drop-cons l i no_log) (if_eq _ _ e refl)

  pub logs_bad : i < length l → (log.id ≡ 0 → ⊥) → log_ok low next log ≡ false → false ≡ logs_above low next (drop i l)
  unfolding logs_above
  logs_bad h d e = rw (drop-cons l i no_log) (else_eq _ _ d (if_b _ _ (ap not e) refl))

  pub logs_more : i < length l → (log.id ≡ 0 → ⊥) → log_ok low next log ≡ true → logs_above log.id next (drop (i + 1) l) ≡ logs_above low next (drop i l)
  unfolding logs_above
  logs_more h d e = rw (add-one, drop-cons l i no_log) (else_eq _ _ d (else_b _ _ (ap not e) refl))

  pub logs_end : length l ≤ i → true ≡ logs_above low next (drop i l)
  unfolding logs_above
  logs_end h = rw (drop_of_length-le l h)
