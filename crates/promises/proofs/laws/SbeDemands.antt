-- The ways of the call `sbe`, and demands 1 and 2 read off them. Assumes nothing.
use Rattle.std.specs.Prelude.{ℕ, ◌/◌, ◌%◌, ◌≤◌, ◌<◌, true, false, not, ◌↔◌, ◌⊎◌, ◌≡◌, eqb, ltb, length}
use Rattle.std.proofs.Math.Bool.{cond, false≢true, true≢false}
use Rattle.std.proofs.Math.Logic.{inl, inr, ⊎_elim}
use Rattle.std.proofs.Math.Path.{refl, sym, ap}
use Rattle.std.proofs.Common.{subst, ◌∙◌, arith}
use mathlib.Core.List.{List}
use Rattle.std.proofs.Math.Nat.{not-le_of_lt}
use borrow.Author.Tests.{not-false, not-true, ltb-true, ltb-false}
use Rattle.std.proofs.Math.ListN.{get_or}
use Rattle.wire.specs.Wire.{to_be, pasted}
use Rattle.wire.specs.Conditions.{◌and◌, is, none, Rows, here, later, row}
use Rattle.wire.proofs.laws.Cases.{cond_cases, by_both}
use Rattle.wire.proofs.laws.Tables.{ByTable, by_is, hit, miss}
use Rattle.change.specs.Change.{no_tables, kind_of}
use Rattle.change.specs.declared.Change.{Change}
use Rattle.change.specs.declared.Change.TheVariants.{SetMask, SetDeadman, SetAreas, SetTimer}
use Rattle.change.specs.declared.Edit.{Edit}
use Rattle.sbe.specs.Mailbox.{numbers_of, flags_of, word_at, request_ruling, bell_of, response_bytes}
use Rattle.sbe.specs.Conditions.{grants, accepts, Names, Changes, Plainly, start_asked, stop_asked, timer_start, timer_stop, areas_asked}
use Rattle.sbe.specs.Statuses.{Status, RequestStatus}
use Rattle.sbe.specs.declared.Refusal.{Refusal}
use Rattle.sbe.specs.declared.Ruling.{Ruling}
use Rattle.sbe.specs.declared.Ruling.TheVariants.{Decline, Grant, Done, Read}
use Rattle.sbe.proofs.laws.Exactly.{same_change, deadman_start, deadman_stop, cores_set, timer_started, timer_stopped, areas_set, changes_exactly}
use Rattle.session.specs.Session.{well_formed, carried_of}
use Rattle.session.specs.Road.{Asks, due, Said, kept, done, carried_says, settled}
use Rattle.session.specs.declared.Session.{Session}
use Rattle.sbe_call.specs.Sbe.{refusal_of, sbe_refusal, told_of, ruling_asks, sbe_read, sbe_asks, sbe_call}
use Rattle.promises.specs.Calls.{sbe}
use Rattle.promises.specs.Calls as calls
use Rattle.promises.specs.History.{Deed, keeps, adds, adding, deed_by, deed}
use Rattle.links.specs.Typed.{TypedSession}
use Rattle.promises.specs.Demand1.{NoRoom, SbeAnswer, SbeDue, ReadStatus, SbeStatus, sbe_error}
use Rattle.promises.specs.Demand2.{at_front, HasRoom, sbe_kind, Served, SbeAccepted, SbeSucceeds}
use Rattle.promises.proofs.laws.Room.{carried_longer, has_room, has_none}
use Rattle.promises.proofs.laws.Replies.{front_is}
use Rattle.promises.proofs.laws.Served.{ruling, change_granted, changes_granted, plain_exactly, never_changes, never_read, status_ruled}

abbrev pub edit : Change → Edit
edit ch = record { change = ch; tables = no_tables }

-- ---- what a request asks for

module _ (r : List ℕ) where
  pub data RequestAsks : Change → Type 0 where
    starts : Names 0xD1 0x01 r → flags_of r % 0x0100 ≡ 0x01 → RequestAsks (SetDeadman (start_asked r))
    stops : Names 0xD1 0x01 r → flags_of r % 0x0100 ≡ 0x02 → RequestAsks (SetDeadman stop_asked)
    masks : Names 0xD1 0x03 r → RequestAsks (SetMask (word_at 8 r))
    starts_timer : Names 0xD4 0x01 r → flags_of r % 0x0100 ≡ 0x01 → RequestAsks (SetTimer (timer_start r))
    stops_timer : Names 0xD4 0x01 r → flags_of r % 0x0100 ≡ 0x02 → RequestAsks (SetTimer timer_stop)
    sets_areas : Names 0xD7 0x04 r → RequestAsks (SetAreas (areas_asked r))

  asks_of : (ch : Change) → request_ruling r ≡ Grant ch → Changes r → RequestAsks ch
  asks_of ch e (inl (n, (h, inl x))) = subst RequestAsks (same_change (deadman_start r n h x) e) (starts n x)
  asks_of ch e (inl (n, (h, inr x))) = subst RequestAsks (same_change (deadman_stop r n h x) e) (stops n x)
  asks_of ch e (inr (inl a)) = subst RequestAsks (same_change (cores_set r a) e) (masks a.0)
  asks_of ch e (inr (inr (inl (n, (h, inl x))))) = subst RequestAsks (same_change (timer_started r n h x) e) (starts_timer n x)
  asks_of ch e (inr (inr (inl (n, (h, inr x))))) = subst RequestAsks (same_change (timer_stopped r n h x) e) (stops_timer n x)
  asks_of ch e (inr (inr (inr a))) = subst RequestAsks (same_change (areas_set r a) e) (sets_areas a.names)

  granted : (ch : Change) → request_ruling r ≡ Grant ch → Changes r
  unfolding grants
  granted ch e = (changes_exactly r).0 (ap grants e)

  pub asks : (ch : Change) → request_ruling r ≡ Grant ch → RequestAsks ch
  asks ch e = asks_of ch e (granted ch e)

  kind_by : (class command kind : ℕ) → Names class command r → kind ≡ cond (eqb class 0xD7) 0x0B (cond (eqb class 0xD4) 0x0C (cond (eqb command 0x01) 0x0A 0x09)) → kind ≡ sbe_kind r
  unfolding sbe_kind
  kind_by class command kind n e = e ∙ sym (λ i. cond (eqb (n.0 i) 0xD7) 0x0B (cond (eqb (n.0 i) 0xD4) 0x0C (cond (eqb (n.1 i) 0x01) 0x0A 0x09)))

  kind_is : (ch : Change) → RequestAsks ch → kind_of ch ≡ sbe_kind r
  unfolding kind_of
  kind_is ch (starts n x) = kind_by 0xD1 0x01 0x0A n refl
  kind_is ch (stops n x) = kind_by 0xD1 0x01 0x0A n refl
  kind_is ch (masks n) = kind_by 0xD1 0x03 0x09 n refl
  kind_is ch (starts_timer n x) = kind_by 0xD4 0x01 0x0C n refl
  kind_is ch (stops_timer n x) = kind_by 0xD4 0x01 0x0C n refl
  kind_is ch (sets_areas n) = kind_by 0xD7 0x04 0x0B n refl

  -- ---- the statuses: primary 1, 2 or 5, and two bytes each

  record Small (n : Status) : Type 0 where
    some : 1 ≤ n.0
    primary : n.0 < 65536
    secondary : n.1 < 65536

  small : {n : Status} (p q : ℕ) → 1 ≤ p → p < 65536 → q < 65536 → n ≡ (p, q) → Small n
  small p q z a b e = subst Small (sym e) (record { some = z; primary = a; secondary = b })

  small_1 : {n : Status} (q : ℕ) → q < 65536 → n ≡ (0x01, q) → Small n
  small_1 q = small 0x01 q (omega arith) (omega arith)

  small_2 : {n : Status} (q : ℕ) → q < 65536 → n ≡ (0x02, q) → Small n
  small_2 q = small 0x02 q (omega arith) (omega arith)

  by_row : {P : Type 0} {T rest : Status → Type 0} {n : Status} → (T n → Small n) → (rest n → Small n) → Rows P T rest n → Small n
  by_row f g (here h t) = f t
  by_row f g (later h t) = g t

  no_row : {n : Status} → none n → Small n
  no_row z = absurd z

  status_small : (s : Session) (m x : List ℕ) (n : Status) → SbeStatus s r m x n → Small n
  unfolding SbeStatus RequestStatus ReadStatus
  status_small s m x n =
      ⊎_elim
      (by_row (small_1 0x01 (omega arith))
      (by_row (small_1 0x02 (omega arith))
      (by_row (by_row (small_2 0x19 (omega arith)) no_row)
      (by_row (small_2 0x19 (omega arith))
      (by_row (by_row (small_2 0x04 (omega arith)) (by_row (small_2 0x05 (omega arith)) no_row))
      (by_row (by_row (small_2 0x03 (omega arith)) (by_row (small_2 0x19 (omega arith)) (by_row (small_2 0x03 (omega arith)) (by_row (small_2 0x19 (omega arith)) no_row)))) no_row))))))
      (⊎_elim (λ t. by_row (small_2 0x19 (omega arith)) (by_row (small_2 0x18 (omega arith)) no_row) t.1)
      (λ t. small 0x05 0x20 (omega arith) (omega arith) (omega arith) t.1.1))

  -- two responses that are the same have the same statuses
  two_bytes : (m n : ℕ) → m < 65536 → n < 65536 → m / 256 % 256 ≡ n / 256 % 256 → m % 256 ≡ n % 256 → m ≡ n
  two_bytes m n a b e f = omega (arith, e, f)

  same_primary : (p q m n : ℕ) (d : List ℕ) → p < 65536 → m < 65536 → at_front (response_bytes p q r) d ≡ at_front (response_bytes m n r) d → p ≡ m
  unfolding response_bytes to_be
  same_primary p q m n d a b e = two_bytes p m a b (ap (λ (l : List ℕ). get_or l 0 0) e) (ap (λ (l : List ℕ). get_or l 1 0) e)

  same_secondary : (p q m n : ℕ) (d : List ℕ) → q < 65536 → n < 65536 → at_front (response_bytes p q r) d ≡ at_front (response_bytes m n r) d → q ≡ n
  unfolding response_bytes to_be
  same_secondary p q m n d a b e = two_bytes q n a b (ap (λ (l : List ℕ). get_or l 2 0) e) (ap (λ (l : List ℕ). get_or l 3 0) e)

-- ---- the ruling of a call, and what was asked for

module _ (s : Session) (r m x : List ℕ) where
  abbrev pub Ruled : Ruling → Type 0
  Ruled v = ruling s r m x ≡ v

  -- a change in a full session, what is answered without one, or a read that is served
  abbrev Asked : Type 0
  Asked = (Changes r and (s.profile ≡ 0)) ⊎ (Plainly r ⊎ Served r m x)

  declined_not : (why : Refusal) → Ruled (Decline why) → Asked → ⊥
  unfolding accepts grants
  declined_not why e =
      ⊎_elim (λ c. false≢true (sym (ap grants e) ∙ changes_granted s r m x c.0 c.1)) (λ b. false≢true (sym (ap accepts e) ∙ ap accepts ((plain_exactly s r m x).1 b)))

  changed_not : (ch : Change) → Ruled (Grant ch) → (Plainly r ⊎ Served r m x) → ⊥
  unfolding grants
  changed_not ch e a = true≢false (sym (ap grants e) ∙ ap grants ((plain_exactly s r m x).1 a))

  -- a status is told by one ruling alone
  same_refusal : (x y : Refusal) → Decline x ≡ Decline y → x ≡ y
  same_refusal x y e = cc

  declined_small : (why : Refusal) → Ruled (Decline why) → Small r (numbers_of why)
  declined_small why e = status_small r s m x (numbers_of why) ((status_ruled s r m x (numbers_of why)).0 (why, e, refl))

  status_never : (p q : ℕ) → SbeStatus s r m x (p, q) → Asked → ⊥
  status_never p q t = let h = (status_ruled s r m x (p, q)).1 t in declined_not h.0 h.1

  pub is_asked : (ch : Change) → Ruled (Grant ch) → Changes r and (s.profile ≡ 0)
  is_asked ch e = let g = change_granted s r m x ch e in (granted r ch g.0, g.1)

module _ (s : Session) (typed : TypedSession s) (r d m x : List ℕ) where
  -- ---- the ways

  pub data Heard : Said → Deed → Type 0 where
    declined : (why : Refusal) → Ruled s r m x (Decline why) → Heard (done s (bell_of r) 0 (pasted 0 (response_bytes (numbers_of why).0 (numbers_of why).1 r) d)) keeps
    plain : Ruled s r m x Done → Heard (done s (bell_of r) 0 (pasted 0 (response_bytes 0x00 0x00 r) d)) keeps
    no_room_lem : (ch : Change) → Ruled s r m x (Grant ch) → (carried_of s (edit ch)).full ≡ true → Heard (kept 5 s d) keeps
    carried : (ch : Change) → Ruled s r m x (Grant ch) → (carried_of s (edit ch)).full ≡ false
        → Heard (done (carried_of s (edit ch)).session (bell_of r) 0 (pasted 0 (response_bytes 0x00 0x00 r) d)) (adds (edit ch))

  pub data Called : Said → Deed → Type 0 where
    ill_formed : (well_formed s ≡ true → ⊥) → Called (kept 1 s d) keeps
    short_reply : well_formed s ≡ true → length d < 32 → Called (kept 3 s d) keeps
    short_request : well_formed s ≡ true → 32 ≤ length d → length r < 32 → Called (kept 4 s d) keeps
    answered : SbeDue s r d → (q : Said) (e : Deed) → Heard q e → Called q e

  abbrev Settles : Asks → Type 0
  Settles a = Heard (settled s d a) (deed_by s a)

  -- a read is judged by now
  heard_ruling : (v : Ruling) → Ruled s r m x v → Settles (ruling_asks r d v)
  unfolding settled deed_by ruling_asks told_of carried_says adding
  heard_ruling (Decline why) e = declined why e
  heard_ruling (Grant ch) e = by_both Heard (carried_of s (edit ch)).full (no_room_lem ch e) (carried ch e)
  heard_ruling Done e = plain e
  heard_ruling (Read offset size) e = absurd (never_read s r m x offset size e)

  abbrev Refused : ℕ → Type 0
  Refused n = Called (settled s d (due n (sbe_read s.profile r d m x))) (deed_by s (due n (sbe_read s.profile r d m x)))

  pub called : Called (sbe_call s r d m x) (deed s (sbe r d m x))
  unfolding sbe_call sbe_asks sbe_read due sbe_refusal refusal_of deed calls.asks settled deed_by
  called =
      cond_cases Refused (not (well_formed s)) (λ f. ill_formed (λ w. true≢false (sym w ∙ not-true _ f)))
      (λ f. let w = not-false _ f in
      cond_cases Refused (ltb (length d) 32) (λ h. short_reply w (ltb-true _ _ h))
      (λ h. cond_cases Refused (ltb (length r) 32) (λ l. short_request w (ltb-false _ _ h) (ltb-true _ _ l))
      (λ l. answered (record { formed = w; reply = ltb-false _ _ h; request = ltb-false _ _ l }) _ _ (heard_ruling (ruling s r m x) refl))))

  -- ---- demand 2

  kind : (ch : Change) → Ruled s r m x (Grant ch) → kind_of ch ≡ sbe_kind r
  kind ch v = kind_is r ch (asks r ch (change_granted s r m x ch v).0)

  made_room : (ch : Change) → Ruled s r m x (Grant ch) → (carried_of s (edit ch)).full ≡ false → HasRoom s (sbe_kind r)
  made_room ch v = has_room s typed.journal (edit ch) (sbe_kind r) (kind ch v)

  made_none : (ch : Change) → Ruled s r m x (Grant ch) → (carried_of s (edit ch)).full ≡ true → NoRoom s (sbe_kind r)
  made_none ch v = has_none s typed.journal (edit ch) (sbe_kind r) (kind ch v)

  pub told_apart : (why : Refusal) → Ruled s r m x (Decline why) → at_front (response_bytes (numbers_of why).0 (numbers_of why).1 r) d ≡ at_front (response_bytes 0x00 0x00 r) d → ⊥
  told_apart why v e = let n = declined_small s r m x why v in omega (arith, n.some, same_primary r _ _ 0x00 0x00 d n.primary (omega arith) e)

  abbrev Granted : Type 0
  Granted = (Changes r and (s.profile ≡ 0) and HasRoom s (sbe_kind r)) ⊎ (Plainly r ⊎ Served r m x)

  was_asked : Granted → Asked s r m x
  was_asked = ⊎_elim (λ z. inl (z.0, z.1.0)) (λ z. inr z)

  success : well_formed s ≡ true → (q : Said) (e : Deed) → Called q e
      → ((q.answer ≡ 0) and (q.reply ≡ at_front (response_bytes 0x00 0x00 r) d)) ↔ ((32 ≤ length d) and (32 ≤ length r) and Granted)
  unfolding kept done
  success y q e (ill_formed h) = absurd (h y)
  success y q e (short_reply w h) = (λ z. absurd (omega (arith, z.0)), λ z. absurd (not-le_of_lt h z.0))
  success y q e (short_request w l h) = (λ z. absurd (omega (arith, z.0)), λ z. absurd (not-le_of_lt h z.1.0))
  success y q e (answered p _ _ (declined why v)) =
      (λ z. absurd (told_apart why v (sym (front_is _ d) ∙ z.1)), λ z. absurd (declined_not s r m x why v (was_asked z.1.1)))
  success y q e (answered p _ _ (plain v)) = (λ z. (p.reply, (p.request, inr ((plain_exactly s r m x).0 v))), λ z. (refl, front_is _ d))
  success y q e (answered p _ _ (no_room_lem ch v full)) =
      (λ z. absurd (omega (arith, z.0)), λ z. absurd (⊎_elim (λ k. not-le_of_lt (made_none ch v full) k.1.1) (changed_not s r m x ch v) z.1.1))
  success y q e (answered p _ _ (carried ch v fits)) = (λ z. (p.reply, (p.request, (let a = is_asked s r m x ch v in inl (a.0, (a.1, made_room ch v fits))))), λ z. (refl, front_is _ d))

  pub sbe_accepted : well_formed s ≡ true → SbeSucceeds s r d m x ↔ SbeAccepted s r d m x
  unfolding SbeSucceeds SbeAccepted
  sbe_accepted w = success w _ _ called

  -- ---- the answers

  abbrev Answers : Said → ℕ → Type 0
  Answers q n = q.answer ≡ n

  answers : (n bell : ℕ) (t : Session) (y : List ℕ) → ByTable Answers (record { answer = n; session = t; bell = bell; kind = 0; reply = y }) (is n)
  answers n bell t y = by_is Answers refl (λ m e. sym e)

  answer_table : (q : Said) (e : Deed) → Called q e → ByTable Answers q (SbeAnswer s r d)
  unfolding SbeAnswer kept done
  answer_table q e (ill_formed h) = hit Answers h (answers _ _ _ _)
  answer_table q e (short_reply w h) = miss Answers (λ z. z w) (hit Answers h (answers _ _ _ _))
  answer_table q e (short_request w l h) = miss Answers (λ z. z w) (miss Answers (λ z. not-le_of_lt z l) (hit Answers h (answers _ _ _ _)))
  answer_table q e (answered p y g h) = miss Answers (λ z. z p.formed) (miss Answers (λ z. not-le_of_lt z p.reply) (miss Answers (λ z. not-le_of_lt z p.request) (go y g h)))
    where
      go : (q : Said) (e : Deed) → Heard q e → ByTable Answers q (row 5 (Changes r and (s.profile ≡ 0) and NoRoom s (sbe_kind r)) (is 0))
      go q e (declined why v) = miss Answers (λ z. declined_not s r m x why v (inl (z.0, z.1.0))) (answers _ _ _ _)
      go q e (plain v) = miss Answers (λ z. never_changes s r m x v z.0) (answers _ _ _ _)
      go q e (no_room_lem ch v full) = hit Answers (let a = is_asked s r m x ch v in (a.0, (a.1, made_none ch v full))) (answers _ _ _ _)
      go q e (carried ch v fits) = miss Answers (λ z. not-le_of_lt z.1.1 (made_room ch v fits)) (answers _ _ _ _)

  pub sbe_answers : (n : ℕ) → ((sbe_call s r d m x).answer ≡ n) ↔ SbeAnswer s r d n
  sbe_answers = (answer_table _ _ called).exactly

  -- ---- the statuses

  error_is : (a b p q : ℕ) → (a ≡ p) × (b ≡ q) → done s (bell_of r) 0 (pasted 0 (response_bytes a b r) d) ≡ sbe_error s r d (p, q)
  unfolding done
  error_is a b p q e = λ i. done s (bell_of r) 0 ((front_is (response_bytes a b r) d ∙ (λ j. at_front (response_bytes (e.0 j) (e.1 j) r) d)) i)

  -- p and q are numbers of two bytes; 00/00, which is success, is no error's
  status_table : SbeDue s r d → (p q : ℕ) → p < 65536 → q < 65536 → ((p ≡ 0) and (q ≡ 0) → ⊥) → (u : Said) (e : Deed) → Called u e → (u ≡ sbe_error s r d (p, q)) ↔ SbeStatus s r m x (p, q)
  unfolding done kept
  status_table y p q j k error u e (ill_formed h) = absurd (h y.formed)
  status_table y p q j k error u e (short_reply w h) = absurd (not-le_of_lt h y.reply)
  status_table y p q j k error u e (short_request w l h) = absurd (not-le_of_lt h y.request)
  status_table y p q j k error u e (answered _ _ _ (declined why v)) =
      let a = (numbers_of why).0 in
      let b = (numbers_of why).1 in
      let n = declined_small s r m x why v in (
        λ z.
            let g = sym (front_is (response_bytes a b r) d) ∙ ap (λ (o : Said). o.reply) z in
            let f = same_primary r a b p q d n.primary j g in
            let h = same_secondary r a b p q d n.secondary k g in
            (status_ruled s r m x (p, q)).0 (why, v, (λ i. (sym f i, sym h i))),
        λ z.
            let h = (status_ruled s r m x (p, q)).1 z in
            let e = ap numbers_of (same_refusal s r m x why h.0 (sym v ∙ h.1)) ∙ sym h.2 in
            error_is a b p q (ap (λ (t : Status). t.0) e, ap (λ (t : Status). t.1) e),
      )
  status_table y p q j k error u e (answered _ _ _ (plain v)) = (
    λ z.
        let g = sym (front_is (response_bytes 0x00 0x00 r) d) ∙ ap (λ (o : Said). o.reply) z in
        absurd (error (sym (same_primary r 0x00 0x00 p q d (omega arith) j g), sym (same_secondary r 0x00 0x00 p q d (omega arith) k g))),
    λ z. absurd (status_never s r m x p q z (inr ((plain_exactly s r m x).0 v))),
  )
  status_table y p q j k error u e (answered _ _ _ (no_room_lem ch v full)) =
      (λ z. absurd (omega (arith, ap (λ (o : Said). o.answer) z)), λ z. absurd (status_never s r m x p q z (inl (is_asked s r m x ch v))))
  status_table y p q j k error u e (answered _ _ _ (carried ch v fits)) =
      (λ z. absurd (omega (arith, carried_longer s (edit ch) fits, ap (λ (o : Said). o.session.used) z)), λ z. absurd (status_never s r m x p q z (inl (is_asked s r m x ch v))))

  pub sbe_statuses : SbeDue s r d → (p q : ℕ) → p < 65536 → q < 65536 → ((p ≡ 0) and (q ≡ 0) → ⊥) → (sbe_call s r d m x ≡ sbe_error s r d (p, q)) ↔ SbeStatus s r m x (p, q)
  sbe_statuses y p q j k error = status_table y p q j k error _ _ called

  -- ---- answer 0: a response, good or error, is written

  called_reply : (u : Said) (e : Deed) → Called u e → u.answer ≡ 0 → (u.reply ≡ at_front (response_bytes 0x00 0x00 r) d) ⊎ ((n : Status) × (u ≡ sbe_error s r d n))
  unfolding kept done
  called_reply u e (ill_formed h) z = absurd (omega (arith, z))
  called_reply u e (short_reply w h) z = absurd (omega (arith, z))
  called_reply u e (short_request w l h) z = absurd (omega (arith, z))
  called_reply u e (answered _ _ _ (declined why v)) z = inr (numbers_of why, error_is (numbers_of why).0 (numbers_of why).1 (numbers_of why).0 (numbers_of why).1 (refl, refl))
  called_reply u e (answered _ _ _ (plain v)) z = inl (front_is (response_bytes 0x00 0x00 r) d)
  called_reply u e (answered _ _ _ (no_room_lem ch v full)) z = absurd (omega (arith, z))
  called_reply u e (answered _ _ _ (carried ch v fits)) z = inl (front_is (response_bytes 0x00 0x00 r) d)

  pub sbe_reply : (sbe_call s r d m x).answer ≡ 0 → ((sbe_call s r d m x).reply ≡ at_front (response_bytes 0x00 0x00 r) d) ⊎ ((n : Status) × (sbe_call s r d m x ≡ sbe_error s r d n))
  sbe_reply = called_reply _ _ called
