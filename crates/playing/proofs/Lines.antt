-- The line of one entry: put piece by piece, by the call that the entry asks for. Assumes nothing.
use Prim.Native.Nat.{ℕ, zero, suc, ◌-◌, ◌≤◌}
use mathlib.Core.Bool.{Bool, true, false≢true}
use mathlib.Core.Path.{◌≡◌, refl, sym, ap, ap₂, subst, ◌∙◌}
use mathlib.Core.List.{List, [], ◌∷◌}
use native.Mathlib.Omega.{arith}
use lib.Dec.{eqb}
use lib.ListN.{length, get_or, take, drop, replicate}
use lib.Seq.{drop-drop}
use borrow.Author.Tests.{eqb-true, eqb-false}
use Rattle.wire.specs.Wire.{joined}
use Rattle.wire.proofs.laws.Wire.{tail_part}
use Rattle.wire.proofs.laws.Cases.{if_eq, else_eq, if_ne, else_ne, cond_cases}
use Rattle.io.specs.Counts.{IsPrefixLen}
use Rattle.text.specs.Pages.{Puts}
use Rattle.text.specs.declared.Page.{Page}
use Rattle.text.proofs.laws.Pieces.{piece, pieces, last_piece}
use Rattle.inplace.specs.declared.Told.{Told}
use Rattle.inplace.specs.InPlace.{Left}
use Rattle.std.specs.Prelude.{Ok, Err}
use Rattle.entries.specs.declared.Whole.{Whole}
use Rattle.entries.specs.declared.Broken.{Broken}
use Rattle.entries.specs.declared.Fault.{Fault}
use Rattle.entries.specs.Entries.{entry_of, Reading}
use Rattle.trace.specs.Trace.{trace_table}
use Rattle.occ_call.specs.Occ.{occ_on}
use Rattle.sbe_call.specs.Sbe.{sbe_on}
use Rattle.undo_call.specs.Undo.{undo_on}
use Rattle.playing.specs.Playing.{if_written, heard_with, occ_heard, sbe_heard, undo_heard, heard, Heard, status_text, line_with, line_room, Plays, place_text, fault_text, stop_line, whole_entry}

-- x is what the call leaves, f the status bytes of a reply
pub told_put : {number : ℕ} {p q : Page} {b' reply : List ℕ} {told : Told} (x : Left) (f : List ℕ → List ℕ) → told ≡ x.told → b' ≡ x.image → reply ≡ x.reply
    → Puts p q (line_with number told.answer (if_written told.answer (f reply)))
    → length (joined (line_with number told.answer (if_written told.answer (f reply)))) ≤ line_room
    → Plays number (heard_with x (f x.reply)) p q b'
unfolding heard_with
told_put {number} {p} {q} {told = told} x f e i r puts fits =
    let same = ap₂ (λ (t : Told) (l : List ℕ). line_with number t.answer (if_written t.answer (f l))) e r in
    record {
      image = i;
      puts = subst (Puts p q) same puts;
      fits = subst (λ (ps : List (List ℕ)). length (joined ps) ≤ line_room) same fits;
    }

-- the reply buffer that the code makes
pub occ_zeros : (b : List ℕ) (sender : ℕ) (c : List ℕ) {number : ℕ} {p q : Page} {b' reply : List ℕ} → reply ≡ replicate 4096 0
    → Plays number (occ_heard (occ_on b sender c reply)) p q b' → Plays number (occ_heard (occ_on b sender c (replicate 4096 0))) p q b'
occ_zeros b sender c {number} {p} {q} {b'} e l = subst (λ (r : List ℕ). Plays number (occ_heard (occ_on b sender c r)) p q b') e l

-- ---- the call by its entry's bytes

second_byte : (e : List ℕ) → get_or e 1 0 ≡ get_or (drop 1 e) 0 0
second_byte [] = refl
second_byte (x ∷ e) = refl

past_two : (e : List ℕ) → take (length e - 2) (drop 2 e) ≡ drop 1 (drop 1 e)
past_two e = tail_part e 2 ∙ sym (drop-drop 1 1 e)

module _ (b e : List ℕ) where
  pub as_sbe : get_or e 0 0 ≡ 0x03 → sbe_heard (sbe_on b (take (length e - 1) (drop 1 e)) (replicate 32 0) [] []) ≡ heard b (entry_of e)
  unfolding heard
  as_sbe k = if_eq _ _ k (ap (λ (r : List ℕ). sbe_heard (sbe_on b r (replicate 32 0) [] [])) (tail_part e 1))

  pub as_undo : (get_or e 0 0 ≡ 0x03 → ⊥) → get_or e 0 0 ≡ 0x04 → undo_heard (undo_on b) ≡ heard b (entry_of e)
  unfolding heard
  as_undo n k = else_eq _ _ n (if_eq _ _ k refl)

  pub as_occ : (get_or e 0 0 ≡ 0x03 → ⊥) → (get_or e 0 0 ≡ 0x04 → ⊥) → occ_heard (occ_on b (get_or e 1 0) (take (length e - 2) (drop 2 e)) (replicate 4096 0)) ≡ heard b (entry_of e)
  unfolding heard
  as_occ n k = else_eq _ _ n (else_eq _ _ k (ap₂ (λ (s : ℕ) (c : List ℕ). occ_heard (occ_on b s c (replicate 4096 0))) (second_byte e) (past_two e)))

pub plays_as : {number : ℕ} {p q : Page} {b' : List ℕ} {h h' : Heard} → h ≡ h' → Plays number h p q b' → Plays number h' p q b'
plays_as {number} {p} {q} {b'} e l = subst (λ (h : Heard). Plays number h p q b') e l

-- ---- a whole entry has the bytes that its call reads

abbrev Fits : List ℕ → Bool → Type 0
Fits e x = x ≡ true → (1 ≤ length e) × (trace_table (get_or e 0 0) ≡ length e)

pub whole : (e : List ℕ) → whole_entry e ≡ true → (1 ≤ length e) × (trace_table (get_or e 0 0) ≡ length e)
unfolding whole_entry
whole e =
    cond_cases (Fits e) (eqb (length e) 0) (λ z t. absurd (false≢true t))
    (λ z t. let some = eqb-false (length e) 0 z in (omega arith, eqb-true (trace_table (get_or e 0 0)) (length e) t))

sender_at : (k n : ℕ) → trace_table k ≡ n → 1 ≤ n → (k ≡ 0x03 → ⊥) → (k ≡ 0x04 → ⊥) → 2 ≤ n
unfolding trace_table
sender_at zero n e h a b = absurd (omega arith)
sender_at (suc zero) n e h a b = omega arith
sender_at (suc (suc zero)) n e h a b = omega arith
sender_at (suc (suc (suc zero))) n e h a b = absurd (a refl)
sender_at (suc (suc (suc (suc zero)))) n e h a b = absurd (b refl)
sender_at (suc (suc (suc (suc (suc k))))) n e h a b = absurd (omega arith)

pub whole_sender : (e : List ℕ) → whole_entry e ≡ true → (get_or e 0 0 ≡ 0x03 → ⊥) → (get_or e 0 0 ≡ 0x04 → ⊥) → 2 ≤ length e
whole_sender e w a b = sender_at (get_or e 0 0) (length e) (whole e w).1 (whole e w).0 a b
