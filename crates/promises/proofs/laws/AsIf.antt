-- Two histories side by side: both worlds stay alike through any calls, as long as ids last. Assumes nothing.
use Prim.Native.Nat.{ℕ, suc, ◌+◌, ◌-◌, ◌≤◌}
use Rattle.std.specs.Prelude.{not, ◌⊎◌, ◌≡◌, take, drop}
use Rattle.std.proofs.Math.Logic.{inl, inr, ⊎_elim}
use Rattle.std.proofs.Math.Path.{refl, sym, ap, ap₂}
use Rattle.std.proofs.Common.{subst, ◌∙◌, add-suc, length-drop, take_at, drop_at}
use mathlib.Core.List.{List, [], ◌∷◌, ◌++◌, map}
use Rattle.std.proofs.Math.Nat.{suc-add}
use native.Mathlib.Omega.{arith}
use Rattle.std.proofs.Math.ListN.{length, length-append}
use Rattle.std.proofs.lemmas.List.{length-map}
use Rattle.std.proofs.Math.Seq.{take-nil, drop-nil}
use Rattle.wire.proofs.laws.Cases.{cond_elim}
use Rattle.record.specs.Record.{worked_of}
use Rattle.record.specs.declared.Record.{Record}
use Rattle.record.specs.declared.Timer.{Timer}
use Rattle.change.specs.With.{with_logs}
use Rattle.change.specs.Change.{kind_of, inverse_of, timed}
use Rattle.change.specs.declared.Edit.{Edit}
use Rattle.entries.specs.Entries.{body_len}
use Rattle.journal.specs.Bytes.{entry_bytes}
use Rattle.journal.proofs.laws.Ends.{length_entry}
use Rattle.session.specs.Session.{well_formed, made_of, carried_of}
use Rattle.session.specs.Road.{Asks, refuses, tells, makes, moves, forgets, passes, opens}
use Rattle.session.proofs.laws.Road.{Speaks}
use Rattle.session.proofs.laws.Timer.{Clock}
use Rattle.occ_call.proofs.laws.Speaks.{occ_speaks}
use Rattle.sbe_call.proofs.laws.Speaks.{sbe_speaks}
use Rattle.journal.specs.Ways.{by_way}
use Rattle.session.specs.declared.Session.{Session}
use Rattle.journal.specs.declared.Way.TheVariants.{Before}
use Rattle.marks.specs.Marks.{passed_of}
use Rattle.undo_call.specs.Undo.{move_asks, passed_by}
use Rattle.time_call.specs.Time.{time_asks}
use Rattle.promises.specs.Calls.{Call, sbe, asks, said, second_of}
use Rattle.promises.proofs.laws.Profiles.{profile_stays}
use Rattle.promises.proofs.laws.Served.{second_same}
use Rattle.promises.specs.Marks.{left, logs_made}
use Rattle.promises.specs.History.{Deed, keeps, adds, strikes, unstrikes, drops, ticks, adding, deed_by, deed, gone_after, applied, oldest_of, newer_than, kept_of, start_of, Run, did, next_run, OfBytes, given_back}
use Rattle.promises.specs.Lent.{told}
use Rattle.promises.specs.NoTrace.{ButRedo}
use Rattle.promises.proofs.laws.Stores.{length_padded, flat}
use Rattle.promises.proofs.laws.ByHistory.{backs, journal_of, by_history, Kept, Sane, passed_history}
use Rattle.promises.proofs.laws.Steps.{undo_asks, undo_nothing}
use Rattle.promises.proofs.laws.Forgetting.{newer_count, newer_more, oldest_more, applied_append, whole_record}
use Rattle.promises.proofs.laws.UndoDemands.{Called, ill_formed, empty, barred, goes, called}
use Rattle.promises.proofs.laws.Marks.{tail}
use Rattle.promises.proofs.laws.Demand3.{redoable, Inv, next_inv, formed, held_is, next_is, worked_is, journal_is, used_is}
use Rattle.promises.proofs.laws.Clocks.{clock_is}
use Rattle.promises.proofs.laws.Aside.{NotRedo, not_redo, left_after, time_after, made_after, left_after_lem, time_after_lem, made_after_lem}
use Rattle.promises.proofs.laws.Shifted.{shifted_edit, kind_shifted, shifted_timed, after_shifted, applied_shifted, logs_shifted}
use Rattle.promises.specs.Shifted.{shifted_record}
use Rattle.promises.proofs.laws.Heard.{shifted_deed, AlikeAsks, both_refuse, both_move, heard}
use Rattle.promises.proofs.laws.Settled.{no_room, full_by_kind}
use Rattle.promises.specs.Later.{SameWish, occ_same, occ_clears, sbe_same, undo_same, time_same, Wish, Twins, Alike, IdsEnd, AsIf}

both_asked : {k : ℕ} (u : Session) {a a' b b' : Asks} → a ≡ a' → b ≡ b' → AlikeAsks k u a' b' → AlikeAsks k u a b
both_asked {k} u {b = b} p q h = subst (λ (x : Asks). AlikeAsks k u x b) (sym p) (subst (AlikeAsks k u _) (sym q) h)

-- a call that forgets nothing
abbrev NoDrop : Deed → Type 0
NoDrop keeps = Unit {0}
NoDrop (adds e) = Unit {0}
NoDrop strikes = Unit {0}
NoDrop unstrikes = Unit {0}
NoDrop (drops n) = ⊥
NoDrop (ticks n) = Unit {0}

spoken_drops : (s : Session) (d : List ℕ) (bell : ℕ) (y : List ℕ) (a : Asks) → Speaks s d bell y a → NoDrop (deed_by s a)
unfolding deed_by adding
spoken_drops s d bell y (refuses n) h = tt
spoken_drops s d bell y (tells b z) h = tt
spoken_drops s d bell y (makes e b z) h = cond_elim NoDrop (carried_of s e).full tt tt
spoken_drops s d bell y (moves w at e) h = absurd h
spoken_drops s d bell y (forgets n) h = absurd h
spoken_drops s d bell y (passes n) h = absurd h
spoken_drops s d bell y opens h = absurd h

time_drops : (s : Session) (n : ℕ) → NoDrop (deed_by s (time_asks n s))
unfolding deed_by time_asks
time_drops s n = cond_elim (λ (a : Asks). NoDrop (deed_by s a)) (not (well_formed s)) tt tt

undo_drops : (s : Session) (a : Asks) → Called Before s a → NoDrop (deed_by s a)
unfolding deed_by by_way
undo_drops s a (ill_formed h) = tt
undo_drops s a (empty x z) = tt
undo_drops s a (barred x e n bar) = tt
undo_drops s a (goes x e n u) = tt

module _ (base : Record) (first : ℕ) (k : ℕ) (low : 1 ≤ k) where
  abbrev there_edits : List Edit → List Edit
  there_edits = map (shifted_edit k)

  -- the same changes but for ids, the forgotten ones the same, one log more ever made, one timer, and none of the later logs has an id below k
  pub record Beside (p q : Run) : Type 0 where
    pub inv : Inv base first p
    pub inv' : Inv base first q
    pub still : shifted_record k (start_of base p) ≡ start_of base p
    pub left_is : left q.marks ≡ there_edits (kept_of p) ++ oldest_of p.gone (left p.marks)
    pub gone_is : q.gone ≡ p.gone
    pub made_is : logs_made q.marks ≡ suc (logs_made p.marks)
    pub timer_is : q.session.timer ≡ p.session.timer
    pub full : p.session.profile ≡ 0
    pub full' : q.session.profile ≡ 0
    pub from_k : k ≤ first + logs_made p.marks

  used_shifted : (from : Record) (w w' hi hi' : ℕ) (es : List Edit) → Kept from w hi es → Kept from w' hi' (there_edits es) → length (journal_of from (there_edits es)) ≡ length (journal_of from es)
  unfolding backs flat shifted_edit inverse_of
  used_shifted from a a' hi hi' [] w w' = refl
  used_shifted from a a' hi hi' (e ∷ es) w w' =
      let b = inverse_of (applied from es) e in
      let b' = inverse_of (applied from (there_edits es)) (shifted_edit k e) in
      let kinds : kind_of b'.change ≡ kind_of b.change = w'.0.links.kind_back ∙ kind_shifted k e.change ∙ sym w.0.links.kind_back in
      length-append (journal_of from (there_edits es)) (entry_bytes b')
      ∙ ap₂ ◌+◌ (used_shifted from a a' hi hi' es w.1 w'.1) (length_entry Before b' w'.0.links.back_writable ∙ ap (λ (i : ℕ). body_len i + 1) kinds ∙ sym (length_entry Before b w.0.links.back_writable))
      ∙ sym (length-append (journal_of from es) (entry_bytes b))

  -- rs, rs': what can be redone, which doesn't matter here
  undo_shifted : (from : Record) (s u t : Session) → Clock s.timer → Clock t.timer → (es : List Edit) (next : ℕ) (rs rs' : List Edit) → Sane from s.profile es next rs → Sane from t.profile (there_edits es) (suc next) rs'
      → AlikeAsks k u (move_asks Before (by_history from s es next rs)) (move_asks Before (by_history from t (there_edits es) (suc next) rs'))
  unfolding shifted_edit inverse_of
  undo_shifted from s u t c c' [] next rs rs' g g' =
      both_asked u (undo_nothing from s c next rs g) (undo_nothing from t c' (suc next) rs' g') (both_refuse 6)
  undo_shifted from s u t c c' (e ∷ es) next rs rs' g g' =
      both_asked u (undo_asks from s c e es next rs g) (undo_asks from t c' (shifted_edit k e) (there_edits es) (suc next) rs' g')
      (both_move Before _ _ _ _ (g'.kept.0.links.kind_back ∙ kind_shifted k e.change ∙ sym g.kept.0.links.kind_back))

  worked_shifted : (r : Record) → worked_of (shifted_record k r) ≡ worked_of r
  unfolding worked_of shifted_record with_logs
  worked_shifted r = refl

  module _ (p q : Run) (b : Beside p q) where
    abbrev from : Record
    from = start_of base p

    abbrev es : List Edit
    es = kept_of p

    abbrev n : ℕ
    n = logs_made p.marks

    abbrev rs : List Edit
    rs = redoable base first p

    abbrev rs' : List Edit
    rs' = redoable base first q

    abbrev old : List Edit
    old = oldest_of p.gone (left p.marks)

    -- as many are kept there
    count_there : length (left q.marks) - q.gone ≡ length (there_edits es)
    count_there =
        let m = length-drop (length (left p.marks) - p.gone) (left p.marks) in
        omega (arith, ap length b.left_is, length-append (there_edits es) old, length-map es (shifted_edit k), m, b.gone_is, b.inv.low, newer_count p.gone (left p.marks))

    kept_there : kept_of q ≡ there_edits es
    kept_there = ap (take (length (left q.marks) - q.gone)) b.left_is ∙ take_at (there_edits es) old (length (left q.marks) - q.gone) (sym count_there)

    start_there : start_of base q ≡ from
    start_there =
        ap (applied base) (ap (drop (length (left q.marks) - q.gone)) b.left_is ∙ drop_at (there_edits es) old (length (left q.marks) - q.gone) (sym count_there))

    next_there : first + logs_made q.marks ≡ suc (first + n)
    next_there = ap (λ (i : ℕ). first + i) b.made_is ∙ add-suc first n

    there_is : q.session ≡ by_history from q.session (there_edits es) (suc (first + n)) rs'
    there_is = b.inv'.is ∙ (λ i. by_history (start_there i) q.session (kept_there i) (next_there i) rs')

    sane' : Sane from q.session.profile (there_edits es) (suc (first + n)) rs'
    sane' = subst (λ (T : Type 0). T) (λ i. Sane (start_there i) q.session.profile (kept_there i) (next_there i) rs') b.inv'.sane

    record_there : applied base (left q.marks) ≡ shifted_record k (applied base (left p.marks))
    record_there =
        ap (applied base) b.left_is ∙ applied_append base (there_edits es) old ∙ applied_shifted k low from b.still es
        ∙ ap (shifted_record k) (whole_record base p.gone (left p.marks))

    used_there : q.session.used ≡ p.session.used
    used_there =
        used_is base first q b.inv'
        ∙ (λ i. length (journal_of (start_there i) (kept_there i)))
        ∙ used_shifted from p.session.profile q.session.profile (first + n) (suc (first + n)) es b.inv.sane.kept sane'.kept
        ∙ sym (used_is base first p b.inv)

    pub twins : Twins k p.session q.session
    twins = record {
      held_is = held_is base first q b.inv' ∙ record_there ∙ ap (shifted_record k) (sym (held_is base first p b.inv));
      worked_is = worked_is base first q b.inv' ∙ ap worked_of record_there ∙ worked_shifted (applied base (left p.marks)) ∙ sym (worked_is base first p b.inv);
      next_is = next_is base first q b.inv' ∙ next_there ∙ ap suc (sym (next_is base first p b.inv));
      used_is = used_there;
      timer_is = b.timer_is;
      full = b.full;
      full' = b.full';
    }

    -- both journals are as long
    journal_long : (r : Run) (v : Inv base first r) → length r.session.journal ≡ 2048
    journal_long r v = ap length (journal_is base first r v) ∙ length_padded (journal_of (start_of base r) (kept_of r)) (omega (arith, v.sane.fits))

    full_is : (e : Edit) → (carried_of q.session (shifted_edit k e)).full ≡ (carried_of p.session e).full
    unfolding shifted_edit
    full_is e =
        full_by_kind q.session (shifted_edit k e)
        ∙ (λ i. no_room ((journal_long q b.inv' ∙ sym (journal_long p b.inv)) i) (used_there i) (kind_shifted k e.change i))
        ∙ sym (full_by_kind p.session e)

    from_next : k ≤ p.session.next
    from_next = omega (arith, b.from_k, next_is base first p b.inv)

    undo_both : AlikeAsks k p.session (move_asks Before p.session) (move_asks Before q.session)
    undo_both =
        both_asked p.session (ap (move_asks Before) b.inv.is) (ap (move_asks Before) there_is)
        (undo_shifted from p.session p.session q.session b.inv.clock b.inv'.clock es (first + n) rs rs' b.inv.sane sane')

    passed_both : passed_by Before q.session ≡ passed_by Before p.session
    passed_both =
        ap (passed_by Before) there_is ∙ passed_history from q.session (there_edits es) (suc (first + n)) rs' sane'
        ∙ ap passed_of (length-map es (shifted_edit k))
        ∙ sym (ap (passed_by Before) b.inv.is ∙ passed_history from p.session es (first + n) rs b.inv.sane)

    -- one call
    both_hear : (c c' : Call) → SameWish k c c' → OfBytes c
        → IdsEnd p.session q.session c c' ⊎ (Alike k p.session (said p.session c) (said q.session c') × (deed q.session c' ≡ shifted_deed k (deed p.session c)) × (told q.session c' ≡ told p.session c))
    both_hear = heard k low p.session q.session twins from_next (formed base first p b.inv) (formed base first q b.inv') full_is undo_both passed_both

  -- ---- the marks after it

  -- the changes there, by those here: the kept ones with other ids, the forgotten ones the same
  abbrev there_left : ℕ → List Edit → List Edit
  there_left g l = there_edits (newer_than g l) ++ oldest_of g l

  -- they go on alike, and so does the timer
  abbrev Goes : Timer → ℕ → List Edit → Deed → Type 0
  Goes t g l d =
      (left_after t (there_left g l) (shifted_deed k d) ≡ there_left g (left_after t l d)) × (oldest_of g (left_after t l d) ≡ oldest_of g l)
      × (time_after t (there_left g l) (shifted_deed k d) ≡ time_after t l d)

  goes_on : (t : Timer) (g : ℕ) (l : List Edit) (d : Deed) → NotRedo d → NoDrop d → g ≤ length l → g ≤ length (left_after t l d) → Goes t g l d
  unfolding left_after shifted_deed time_after given_back shifted_edit
  goes_on t g l keeps h z low low' = (refl, refl, refl)
  goes_on t g l (adds e) h z low low' =
      let m = newer_more g (timed t e) l low in
      let o = oldest_more g (timed t e) l low in
      (ap (λ (x : Edit). x ∷ there_left g l) (shifted_timed k t e) ∙ sym (λ i. there_edits (m i) ++ o i), o, after_shifted k t e.change)
  goes_on t g [] strikes h z low low' = (
    ap₂ (λ (x y : List Edit). tail (there_edits x ++ y)) (take-nil (0 - g)) (drop-nil (0 - g)) ∙ sym (ap₂ (λ (x y : List Edit). there_edits x ++ y) (take-nil (0 - g)) (drop-nil (0 - g))),
    refl,
    ap₂ (λ (x y : List Edit). given_back t (there_edits x ++ y)) (take-nil (0 - g)) (drop-nil (0 - g)),
  )
  goes_on t g (e ∷ l) strikes h z low low' =
      let m = newer_more g e l low' in
      let o = oldest_more g e l low' in
      (ap₂ (λ (x y : List Edit). tail (there_edits x ++ y)) m o, sym o, ap₂ (λ (x y : List Edit). given_back t (there_edits x ++ y)) m o ∙ after_shifted k t e.change)
  goes_on t g l unstrikes h z low low' = absurd h
  goes_on t g l (drops n) h z low low' = absurd z
  goes_on t g l (ticks n) h z low low' = (refl, refl, refl)

  gone_shifted : (g : ℕ) (d : Deed) → gone_after g (shifted_deed k d) ≡ gone_after g d
  unfolding gone_after shifted_deed
  gone_shifted g keeps = refl
  gone_shifted g (adds e) = refl
  gone_shifted g strikes = refl
  gone_shifted g unstrikes = refl
  gone_shifted g (drops n) = refl
  gone_shifted g (ticks n) = refl

  none_gone : (g : ℕ) (d : Deed) → NoDrop d → gone_after g d ≡ g
  unfolding gone_after
  none_gone g keeps z = refl
  none_gone g (adds e) z = refl
  none_gone g strikes z = refl
  none_gone g unstrikes z = refl
  none_gone g (drops n) z = absurd z
  none_gone g (ticks n) z = refl

  made_shifted : (n : ℕ) (d : Deed) → made_after (suc n) (shifted_deed k d) ≡ suc (made_after n d)
  unfolding made_after shifted_deed shifted_edit
  made_shifted n keeps = refl
  made_shifted n (adds e) = ap (λ (m : ℕ). suc n + m) (logs_shifted k low e.change) ∙ suc-add n (made_of e.change)
  made_shifted n strikes = refl
  made_shifted n unstrikes = refl
  made_shifted n (drops m) = refl
  made_shifted n (ticks m) = refl

  made_grows : (n : ℕ) (d : Deed) → n ≤ made_after n d
  unfolding made_after
  made_grows n keeps = omega arith
  made_grows n (adds e) = omega arith
  made_grows n strikes = omega arith
  made_grows n unstrikes = omega arith
  made_grows n (drops m) = omega arith
  made_grows n (ticks m) = omega arith

  -- nobody redoes
  wish_not : (c c' : Call) → SameWish k c c' → ButRedo c × ButRedo c'
  wish_not c c' (occ_same sender x d h) = (tt, tt)
  wish_not c c' (occ_clears sender x x' d h) = (tt, tt)
  wish_not c c' (sbe_same r d m x) = (tt, tt)
  wish_not c c' undo_same = (tt, tt)
  wish_not c c' (time_same n) = (tt, tt)

  -- nor forgets
  wish_drops : (s : Session) (c c' : Call) → SameWish k c c' → NoDrop (deed s c)
  unfolding deed asks
  wish_drops s c c' (occ_same sender x d h) = spoken_drops s d _ _ _ (occ_speaks s sender x d)
  wish_drops s c c' (occ_clears sender x x' d h) = spoken_drops s d _ _ _ (occ_speaks s sender x d)
  wish_drops s c c' (sbe_same r d m x) = spoken_drops s d _ _ _ (sbe_speaks s r d m x)
  wish_drops s c c' undo_same = undo_drops s (move_asks Before s) (called Before s)
  wish_drops s c c' (time_same n) = time_drops s n

  -- ---- any calls

  next_beside : (p q : Run) → Beside p q → (c c' : Call) → SameWish k c c' → OfBytes c → OfBytes c' → deed q.session c' ≡ shifted_deed k (deed p.session c) → Beside (next_run p c) (next_run q c')
  unfolding next_run did
  next_beside p q b c c' same bytes bytes' d =
      let here = not_redo p.session c (wish_not c c' same).0 in
      let there = not_redo q.session c' (wish_not c c' same).1 in
      let now = p.session.timer in
      let made = made_after_lem now p.undos p.marks (deed p.session c) here in
      let none = wish_drops p.session c c' same in
      let v = next_inv base first p b.inv c bytes in
      let left_here = left_after_lem now p.undos p.marks (deed p.session c) here in
      let gone-here = none_gone p.gone (deed p.session c) none in
      let low' : p.gone ≤ length (left_after now (left p.marks) (deed p.session c)) = omega (arith, v.low, gone-here, ap length left_here) in
      let on = goes_on now p.gone (left p.marks) (deed p.session c) here none b.inv.low low' in
      let start-stays : start_of base (next_run p c) ≡ start_of base p = (λ i. applied base (oldest_of (gone-here i) (left_here i))) ∙ ap (applied base) on.1 in
      record {
        inv = next_inv base first p b.inv c bytes;
        inv' = next_inv base first q b.inv' c' bytes';
        still = ap (shifted_record k) start-stays ∙ b.still ∙ sym start-stays;
        left_is =
            left_after_lem q.session.timer q.undos q.marks (deed q.session c') there
            ∙ (λ i. left_after (b.timer_is i) (b.left_is i) (d i))
            ∙ on.0
            ∙ sym (λ i. there_left (gone-here i) (left_here i));
        gone_is = ap₂ gone_after b.gone_is d ∙ gone_shifted p.gone (deed p.session c);
        made_is =
            made_after_lem q.session.timer q.undos q.marks (deed q.session c') there
            ∙ ap₂ made_after b.made_is d
            ∙ made_shifted (logs_made p.marks) (deed p.session c)
            ∙ ap suc (sym made);
        timer_is =
            clock_is base first q b.inv' c' bytes' ∙ time_after_lem q (deed q.session c') there ∙ (λ i. time_after (b.timer_is i) (b.left_is i) (d i)) ∙ on.2
            ∙ sym (clock_is base first p b.inv c bytes ∙ time_after_lem p (deed p.session c) here);
        full = profile_stays p.session c ∙ b.full;
        full' = profile_stays q.session c' ∙ b.full';
        from_k = omega (arith, b.from_k, made_grows (logs_made p.marks) (deed p.session c), made);
      }

  same_second_lem : (p q : Run) → Beside p q → {c c' : Call} → SameWish k c c' → second_of q.session c' ≡ second_of p.session c
  unfolding second_of
  same_second_lem p q b (occ_same sender c d low) = refl
  same_second_lem p q b (occ_clears sender c c' d w) = refl
  same_second_lem p q b (sbe_same r d m x) = second_same p.session q.session (formed base first p b.inv) (formed base first q b.inv') (sbe r d m x)
  same_second_lem p q b undo_same = refl
  same_second_lem p q b (time_same n) = refl

  pub as_if : (ws : List (Wish k)) (p q : Run) → Beside p q → AsIf k p.session q.session ws
  unfolding next_run did
  as_if [] p q b = tt
  as_if (w ∷ ws) p q b =
      ⊎_elim inl
      (λ h.
      let after = next_beside p q b w.here w.there w.same w.bytes w.bytes' h.1 in
      inr (h.0, h.2, same_second_lem p q b w.same, twins (next_run p w.here) (next_run q w.there) after, as_if ws (next_run p w.here) (next_run q w.there) after))
      (both_hear p q b w.here w.there w.same w.bytes)
