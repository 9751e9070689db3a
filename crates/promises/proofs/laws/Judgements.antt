-- A command judged in both worlds: the same verdict but for ids, or the ids ended in the second. Assumes nothing.
use Rattle.std.specs.Prelude.{ℕ, suc, ◌≤◌, ◌<◌, Bool, true, false, not, ◌⊎◌, ◌≡◌, List, [], ◌∷◌, map, ltb, eqb, length, take, drop, Option, Some, None, Ok, Err}
use Rattle.std.specs.Result.{is_ok}
use Rattle.packet.specs.Packet.{Checked}
use Rattle.packet.proofs.laws.Exactly.{checked_cases}
use Rattle.packet.specs.declared.Status.{Status}
use Rattle.packet.specs.declared.Status.TheVariants.{InvalidCommand, InvalidLength, InvalidData, InternalError}
use Rattle.std.proofs.Math.Bool.{cond}
use Rattle.std.proofs.Math.Logic.{inl, inr}
use Rattle.std.proofs.Math.Path.{refl, sym, ap, subst}
use Rattle.std.proofs.Common.{ap₂, ◌∙◌, arith}
use borrow.Author.Tests.{leb-true, leb-false, eqb-true, not-false, le-leb}
use Rattle.std.proofs.Math.Dec.{leb}
use Rattle.std.proofs.Math.ListN.{get_or}
use Rattle.wire.specs.Wire.{be_nat}
use Rattle.wire.proofs.laws.Cases.{else_b, else_ne, cond_elim, cond_cases, by_both}
use Rattle.record.specs.Record.{no_log}
use Rattle.record.specs.declared.Log.{Log}
use Rattle.record.specs.declared.Caps.{Caps}
use Rattle.record.specs.declared.Record.{Record}
use Rattle.record.specs.declared.Worked.{Worked}
use Rattle.change.specs.Logs.{pending_of, find_of}
use Rattle.change.specs.With.{with_logs}
use Rattle.change.specs.declared.Change.TheVariants.{Clear, Reset}
use Rattle.sets.specs.Sets.{throttles_of, thermal_of}
use Rattle.occ.specs.Commands.{poll_verdict, clear_at, clear_verdict, state_fits, not_ready, state_verdict, role_verdict, caps_for, sent_caps, caps_verdict, user_allowed, user_for, user_verdict, log_due, reset_for, reset_verdict}
use Rattle.occ.specs.Judge.{plainly, sets_status, sets_read, read_judged, throttles_made, throttles_read, throttles_judged, thermal_made, thermal_read, thermal_judged, format_judged, configure_judged, type_judged, judge_of}
use Rattle.occ.specs.Open.{open_to}
use Rattle.occ.specs.declared.Verdict.{Verdict}
use Rattle.occ.specs.declared.Verdict.TheVariants.{Refuse, Poll, Make}
use Rattle.occ.specs.declared.Judged.{Judged}
use Rattle.promises.proofs.laws.Shifted.{shifted_change, shifted_low, shifted_high, no_log_lem, pending_shifted, find_shifted, get_shifted}
use Rattle.promises.specs.Shifted.{shifted, shifted_log, shifted_record}
use Rattle.packet.specs.Packet.{packet_status, data_of}
use Rattle.occ_call.specs.Occ.{asked_for, asked_of}
use Rattle.promises.specs.Later.{named, Clears}

unfoldable pub shifted_verdict : ℕ → Verdict → Verdict
shifted_verdict k (Refuse status) = Refuse status
shifted_verdict k Poll = Poll
shifted_verdict k (Make ch) = Make (shifted_change k ch)

unfoldable pub shifted_judged : ℕ → Judged → Judged
shifted_judged k j = record { verdict = shifted_verdict k j.verdict; tables = j.tables }

-- a log was due: the last id was there in the first world, and none in the second
pub record Ended (next : ℕ) (j j' : Judged) : Type 0 where
  pub last : next ≡ 255
  pub reason : ℕ
  pub makes : j.verdict ≡ Make (Reset (record { id = next; reason = reason }))
  pub refuses : j'.verdict ≡ Refuse InternalError

abbrev pub Likewise : ℕ → ℕ → Judged → Judged → Type 0
Likewise k next j j' = (j' ≡ shifted_judged k j) ⊎ Ended next j j'

-- a good packet is judged by its type and data
read : (r : Record) (w : Worked) (next sender : ℕ) (c : List ℕ) → packet_status c ≡ Ok tt → asked_of r w next sender c ≡ judge_of r w next sender (get_or c 1 0) (data_of c)
unfolding asked_of asked_for
read r w next sender c good = ap (λ (v : Checked). asked_for v r w next sender c) good

-- a clear that both worlds send names an old id
pub old_id : (k : ℕ) (c : List ℕ) → named c < k → packet_status c ≡ Ok tt → get_or c 1 0 ≡ 0x12 → length (data_of c) ≡ 1 → get_or (data_of c) 0 0 < k
unfolding named
old_id k c h good type one = subst (λ (i : ℕ). i < k) (sym (else_b 0 _ (ap (λ (v : Checked). not (is_ok v)) good) (else_ne 0 _ type (else_ne 0 _ one refl)))) h

module _ (k : ℕ) (low : 1 ≤ k) where
  -- ---- commands that have to do with no log are judged the same

  abbrev Fixed : Verdict → Type 0
  Fixed v = v ≡ shifted_verdict k v

  abbrev FixedJudged : Judged → Type 0
  FixedJudged j = j ≡ shifted_judged k j

  refusal : (status : Status) → Fixed (Refuse status)
  unfolding shifted_verdict
  refusal status = refl

  poll_fixed : (d : List ℕ) → Fixed (poll_verdict d)
  unfolding poll_verdict shifted_verdict
  poll_fixed d = cond_elim Fixed (not (eqb (length d) 1)) refl (cond_elim Fixed (not (eqb (get_or d 0 0) 0x10)) refl refl)

  state_fixed : (w : Worked) (d : List ℕ) → Fixed (state_verdict w d)
  unfolding state_verdict shifted_verdict shifted_change
  state_fixed w d =
      cond_elim Fixed (not (eqb (length d) 3)) refl
      (cond_elim Fixed (not (state_fits (get_or d 0 0) (get_or d 1 0) (get_or d 2 0))) refl (cond_elim Fixed (not_ready w (get_or d 1 0)) refl refl))

  role_fixed : (state : ℕ) (d : List ℕ) → Fixed (role_verdict state d)
  unfolding role_verdict shifted_verdict shifted_change
  role_fixed state d =
      cond_elim Fixed (not (eqb (length d) 2)) refl (cond_elim Fixed (ltb 1 (get_or d 1 0)) refl (cond_elim Fixed (not (eqb state 1)) refl refl))

  caps_fixed : (role : ℕ) (d : List ℕ) → Fixed (caps_verdict role d)
  unfolding caps_verdict caps_for shifted_verdict shifted_change
  caps_fixed role d =
      cond_elim Fixed (not (eqb (length d) 8)) refl
      (cond_elim Fixed (not (eqb (get_or d 1 0) 0x10)) refl
      (cond_elim Fixed (ltb (sent_caps d).max (sent_caps d).min) refl (cond_elim Fixed (eqb role 0) refl refl)))

  user_fixed : (role got : ℕ) (caps : Caps) (d : List ℕ) → Fixed (user_verdict role got caps d)
  unfolding user_verdict user_for shifted_verdict shifted_change
  user_fixed role got caps d =
      cond_elim Fixed (not (eqb (length d) 2)) refl
      (cond_elim Fixed (not (user_allowed got caps (be_nat (take 2 (drop 0 d))))) refl (cond_elim Fixed (eqb role 0) refl refl))

  plain_fixed : (v : Verdict) → Fixed v → FixedJudged (plainly v)
  unfolding plainly shifted_judged
  plain_fixed v e = ap plainly e

  refused_fixed : (status : Status) → FixedJudged (plainly (Refuse status))
  refused_fixed status = plain_fixed (Refuse status) (refusal status)

  read_fixed : {A : Type 0} (status : Checked) (made : A → Judged) (v : Option A) → ((t : A) → FixedJudged (made t)) → FixedJudged (read_judged made (sets_read status v))
  unfolding read_judged sets_read
  read_fixed (Err x) made v h = refused_fixed x
  read_fixed (Ok x) made None h = refused_fixed InvalidData
  read_fixed (Ok x) made (Some t) h = h t

  throttles_fixed : (d : List ℕ) → FixedJudged (throttles_judged d)
  unfolding throttles_judged throttles_read shifted_judged shifted_verdict shifted_change
  throttles_fixed d = read_fixed (sets_status 12 d) throttles_made (throttles_of (get_or d 2 0) (drop 3 d)) (λ t. refl)

  thermal_fixed : (d : List ℕ) → FixedJudged (thermal_judged d)
  unfolding thermal_judged thermal_read shifted_judged shifted_verdict shifted_change
  thermal_fixed d = read_fixed (sets_status 4 d) thermal_made (thermal_of (get_or d 2 0) (drop 3 d)) (λ t. refl)

  configure_fixed : (state role : ℕ) (d : List ℕ) → FixedJudged (configure_judged state role d)
  unfolding configure_judged format_judged
  configure_fixed state role d =
      cond_elim FixedJudged (eqb (length d) 0) (refused_fixed InvalidLength)
      (cond_elim FixedJudged (eqb (get_or d 0 0) 0x03) (plain_fixed _ (role_fixed state d))
      (cond_elim FixedJudged (eqb (get_or d 0 0) 0x07) (plain_fixed _ (caps_fixed role d))
      (cond_elim FixedJudged (eqb (get_or d 0 0) 0x12) (throttles_fixed d)
      (cond_elim FixedJudged (eqb (get_or d 0 0) 0x13) (thermal_fixed d) (refused_fixed InvalidData)))))

  -- ---- clear log: the log with that id, or with the shifted id, is at the same place

  abbrev f : Log → Log
  f = shifted_log k

  at_shifted : (o : Option ℕ) (l : List Log) → clear_at o (map f l) ≡ shifted_verdict k (clear_at o l)
  unfolding clear_at shifted_verdict shifted_change
  at_shifted None l = refl
  at_shifted (Some p) l = ap (λ (x : Log). Make (Clear p x)) (get_shifted k low l p)

  clear_shifted : (i : ℕ) (l : List Log) → clear_at (find_of (shifted k i) (map f l)) (map f l) ≡ shifted_verdict k (clear_at (find_of i l) l)
  clear_shifted i l = ap (λ (o : Option ℕ). clear_at o (map f l)) (find_shifted k low i l) ∙ at_shifted (find_of i l) l

  -- an id below k is the same in both
  clear_same : (l : List Log) (d : List ℕ) → (length d ≡ 1 → get_or d 0 0 < k) → clear_verdict (map f l) d ≡ shifted_verdict k (clear_verdict l d)
  unfolding clear_verdict
  clear_same l d old =
      let i = get_or d 0 0 in
      by_both (λ (v' v : Verdict). v' ≡ shifted_verdict k v) (not (eqb (length d) 1)) (λ g. refusal InvalidLength)
      (λ g. ap (λ (j : ℕ). clear_at (find_of j (map f l)) (map f l)) (sym (shifted_low k i (old (eqb-true (length d) 1 (not-false _ g))))) ∙ clear_shifted i l)

  -- ---- reset prep: the log draws the next id of its world, as long as there is one

  module _ (next : ℕ) (from_k : k ≤ next) where
    abbrev Same : Judged → Judged → Type 0
    Same = Likewise k next

    fixed : (j : Judged) → FixedJudged j → Same j j
    fixed j e = inl e

    drawn : (reason : ℕ) → (leb 256 next ≡ false)
        → Same (plainly (Make (Reset (record { id = next; reason = reason })))) (plainly (cond (leb 256 (suc next)) (Refuse InternalError) (Make (Reset (record { id = suc next; reason = reason })))))
    unfolding plainly shifted_judged shifted_verdict shifted_change shifted_log
    drawn reason room =
        cond_cases (λ (v : Verdict). Same (plainly (Make (Reset (record { id = next; reason = reason })))) (plainly v)) (leb 256 (suc next))
        (λ g. inr (record { last = omega (arith, leb-true 256 (suc next) g, leb-false 256 next room); reason = reason; makes = refl; refuses = refl }))
        (λ g. inl (λ i. plainly (Make (Reset (record { id = sym (shifted_high k next from_k) i; reason = reason })))))

    due : (reason : ℕ) → Same (plainly (cond (leb 256 next) (Refuse InternalError) (Make (Reset (record { id = next; reason = reason })))))
        (plainly (cond (leb 256 (suc next)) (Refuse InternalError) (Make (Reset (record { id = suc next; reason = reason })))))
    due reason = go (leb 256 next) refl
      where
        go : (b : Bool) → leb 256 next ≡ b → Same (plainly (cond b (Refuse InternalError) (Make (Reset (record { id = next; reason = reason })))))
            (plainly (cond (leb 256 (suc next)) (Refuse InternalError) (Make (Reset (record { id = suc next; reason = reason })))))
        go true g = subst (λ (b : Bool). Same (plainly (Refuse InternalError)) (plainly (cond b (Refuse InternalError) (Make (Reset (record { id = suc next; reason = reason }))))))
            (sym (le-leb 256 (suc next) (omega (arith, leb-true 256 next g)))) (fixed _ (refused_fixed InternalError))
        go false g = drawn reason g

    no_log_made : FixedJudged (plainly (Make (Reset no_log)))
    unfolding plainly shifted_judged shifted_verdict shifted_change
    no_log_made = ap (λ (x : Log). plainly (Make (Reset x))) (sym (no_log_lem k low))

    plain_same : (v v' : Verdict) → v' ≡ shifted_verdict k v → Same (plainly v) (plainly v')
    unfolding plainly shifted_judged
    plain_same v v' e = inl (ap plainly e)

    abbrev SamePlain : Verdict → Verdict → Type 0
    SamePlain v v' = Same (plainly v) (plainly v')

    reset_same : (role : ℕ) (l : List Log) (d : List ℕ) → Same (plainly (reset_verdict role l next d)) (plainly (reset_verdict role (map f l) (suc next) d))
    unfolding reset_verdict reset_for
    reset_same role l d =
        by_both SamePlain (not (eqb (length d) 2)) (λ g. fixed _ (refused_fixed InvalidLength))
        (λ g. by_both SamePlain (not (eqb (get_or d 0 0) 0)) (λ g. fixed _ (refused_fixed InvalidData))
        (λ g. by_both SamePlain (ltb 2 (get_or d 1 0)) (λ g. fixed _ (refused_fixed InvalidData))
        (λ g. by_both SamePlain (not (log_due role (get_or d 1 0))) (λ g. fixed _ no_log_made)
        (λ g. subst (λ (n : ℕ). SamePlain (cond (leb 4 (pending_of l)) (Refuse InternalError) one) (cond (leb 4 n) (Refuse InternalError) other)) (sym (pending_shifted k low l))
        (by_both SamePlain (leb 4 (pending_of l)) (λ g. fixed _ (refused_fixed InternalError)) (λ g. due (get_or d 1 0)))))))
      where
        one : Verdict
        one = cond (leb 256 next) (Refuse InternalError) (Make (Reset (record { id = next; reason = get_or d 1 0 })))

        other : Verdict
        other = cond (leb 256 (suc next)) (Refuse InternalError) (Make (Reset (record { id = suc next; reason = get_or d 1 0 })))

    -- ---- any command

    module _ (r : Record) (w : Worked) where
      abbrev R : Record
      R = shifted_record k r

      type_same : (kind : ℕ) (d : List ℕ) → (kind ≡ 0x12 → length d ≡ 1 → get_or d 0 0 < k) → Same (type_judged kind r w next d) (type_judged kind R w (suc next) d)
      unfolding type_judged shifted_record with_logs
      type_same kind d old =
          by_both Same (eqb kind 0x00) (λ g. fixed _ (plain_fixed _ (poll_fixed d)))
          (λ g. by_both Same (eqb kind 0x12) (λ g. plain_same _ _ (clear_same r.logs d (old (eqb-true kind 0x12 g))))
          (λ g. by_both Same (eqb kind 0x20) (λ g. fixed _ (plain_fixed _ (state_fixed w d)))
          (λ g. by_both Same (eqb kind 0x21) (λ g. fixed _ (configure_fixed r.state r.role d))
          (λ g. by_both Same (eqb kind 0x22) (λ g. fixed _ (plain_fixed _ (user_fixed r.role r.received.caps r.caps d)))
          (λ g. by_both Same (eqb kind 0x25) (λ g. reset_same r.role r.logs d) (λ g. fixed _ (refused_fixed InvalidCommand)))))))

      pub judge_same : (sender kind : ℕ) (d : List ℕ) → (kind ≡ 0x12 → length d ≡ 1 → get_or d 0 0 < k)
          → Same (judge_of r w next sender kind d) (judge_of R w (suc next) sender kind d)
      unfolding judge_of
      judge_same sender kind d old = by_both Same (not (open_to sender kind)) (λ g. fixed _ (refused_fixed InvalidCommand)) (λ g. type_same kind d old)

      -- each world's clear names its own id
      pub judge_clears : (sender i : ℕ) → Same (judge_of r w next sender 0x12 (i ∷ [])) (judge_of R w (suc next) sender 0x12 (shifted k i ∷ []))
      unfolding judge_of type_judged clear_verdict shifted_record with_logs
      judge_clears sender i =
          by_both Same (not (open_to sender 0x12)) (λ g. fixed _ (refused_fixed InvalidCommand)) (λ g. plain_same _ _ (clear_shifted i r.logs))

      -- ---- any packet

      pub asked_same : (sender : ℕ) (c : List ℕ) → named c < k → Same (asked_of r w next sender c) (asked_of R w (suc next) sender c)
      unfolding asked_of asked_for
      asked_same sender c h =
          checked_cases (λ (v : Checked). Same (asked_for v r w next sender c) (asked_for v R w (suc next) sender c)) (packet_status c) (λ x e. fixed _ (refused_fixed x))
          (λ e. judge_same sender (get_or c 1 0) (data_of c) (old_id k c h e))

      pub asked_clears : (sender : ℕ) (c c' : List ℕ) → Clears k c c' → Same (asked_of r w next sender c) (asked_of R w (suc next) sender c')
      asked_clears sender c c' h =
          let here : asked_of r w next sender c ≡ judge_of r w next sender 0x12 (h.id ∷ []) = read r w next sender c h.good ∙ ap₂ (judge_of r w next sender) h.type h.names in
          let there : asked_of R w (suc next) sender c' ≡ judge_of R w (suc next) sender 0x12 (shifted k h.id ∷ []) =
          read R w (suc next) sender c' h.good' ∙ ap₂ (judge_of R w (suc next) sender) h.type' h.names' in
          subst (λ (j : Judged). Same j (asked_of R w (suc next) sender c')) (sym here) (subst (Same (judge_of r w next sender 0x12 (h.id ∷ []))) (sym there) (judge_clears sender h.id))
