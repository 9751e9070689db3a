-- Document 02, m: what reads, what can go down, and what the calls come to, for all bytes.
use Rattle.std.specs.Prelude.{ℕ, Bool, true, false, cond, not, List, [], ◌∷◌, ◌≡◌, length, get_or, drop, ltb, eqb}
use Rattle.wire.specs.Wire.{pasted}
use Rattle.wire.specs.Conditions.{◌and◌}
use Rattle.formed.specs.Formed.{in_order_first}
use Rattle.entries.specs.Entries.{Entry}
use Rattle.session.specs.Session.{entries_in, well_formed}
use Rattle.session.specs.declared.Session.{Session}
use Rattle.image.specs.Image.{image_of, session_of}
use Rattle.layout.specs.Layout.{image_length}
use Rattle.inplace.specs.declared.Told.{Told}
use Rattle.saving.specs.Forms.{base_head, base_most, base_of, session_of_base, saved_length, saved_of, kinds_ok, session_of_saved}

-- ---- what the base version could hold

-- document 01's first rule, on the nine thermal bytes
unfoldable pub first_rule : List ℕ → Bool
first_rule t =
    cond (not (in_order_first (get_or t 0 0) (get_or t 1 0))) false
    (cond (not (in_order_first (get_or t 3 0) (get_or t 4 0))) false
    (in_order_first (get_or t 6 0) (get_or t 7 0)))

-- "no kind 0C entry", and no threshold in one of kind 06 that the first rule forbids; its body is received and the nine bytes
unfoldable pub base_entry : Entry → Bool
base_entry e = cond (eqb e.kind 0x0C) false (cond (eqb e.kind 0x06) (first_rule (drop 1 e.body)) true)

unfoldable pub base_entries : List Entry → Bool
base_entries [] = true
base_entries (e ∷ es) = cond (not (base_entry e)) false (base_entries es)

-- "no threshold, now or in the journal, that document 01's first rule forbids"
unfoldable pub base_holds : Session → Bool
base_holds s = cond (not (first_rule s.held.thermal)) false (base_entries (entries_in s.used s.journal))

-- "only with an empty redo store, the full profile, no kind 0C entry or timer, and no threshold .."
unfoldable pub goes_down : Session → Bool
goes_down s =
    cond (not (eqb s.ahead 0)) false
    (cond (not (eqb s.profile 0)) false
    (cond (not (eqb s.timer.running 0)) false
    (base_holds s)))

-- ---- 11: "won't read or is ill formed (a base save by document 01's first rule)"

unfoldable pub base_reads : List ℕ → Bool
base_reads b =
    cond (ltb (length b) base_head) false
    (cond (ltb base_most (length b)) false
    (cond (not (well_formed (session_of_base b))) false
    (base_holds (session_of_base b))))

unfoldable pub saved_reads : List ℕ → Bool
saved_reads b =
    cond (not (eqb (length b) saved_length)) false
    (cond (not (kinds_ok b)) false
    (well_formed (session_of_saved b)))

-- a session that is lent as its image's bytes, as for every call
unfoldable pub image_reads : List ℕ → Bool
image_reads b = cond (not (eqb (length b) image_length)) false (well_formed (session_of b))

-- ---- the calls: what is told, and the buffer as it is left

pub record Outcome : Type 0 where
  pub told : Told
  pub out : List ℕ

-- "the output buffer is kept in all three"
abbrev pub refused : ℕ → List ℕ → Outcome
refused n out = record { told = record { answer = n; small = 0; beside = 0 }; out = out }

-- "13 output buffer too short"; what is past the bytes written is kept, and their number told
unfoldable pub put_into : List ℕ → List ℕ → Outcome
put_into x out =
    cond (ltb (length out) (length x)) (refused 13 out)
    (record { told = record { answer = 0; small = 0; beside = length x }; out = pasted 0 x out })

unfoldable pub save_to : List ℕ → List ℕ → Outcome
save_to b out = cond (not (image_reads b)) (refused 1 out) (put_into (saved_of (session_of b)) out)

-- whatever session was there
unfoldable pub restore_to : List ℕ → List ℕ → Outcome
restore_to saved b =
    cond (not (eqb (length b) image_length)) (refused 1 b)
    (cond (not (saved_reads saved)) (refused 11 b)
    (record { told = record { answer = 0; small = 0; beside = 0 }; out = image_of (session_of_saved saved) }))

unfoldable pub move_up_to : List ℕ → List ℕ → Outcome
move_up_to saved out = cond (not (base_reads saved)) (refused 11 out) (put_into (saved_of (session_of_base saved)) out)

-- "12 can't go down"
unfoldable pub move_down_to : List ℕ → List ℕ → Outcome
move_down_to saved out =
    cond (not (saved_reads saved)) (refused 11 out)
    (cond (not (goes_down (session_of_saved saved))) (refused 12 out)
    (put_into (base_of (session_of_saved saved)) out))

-- what the contracts allow: what is told, and the buffer as it is left
abbrev pub Allows : Outcome → Told → List ℕ → Type 0
Allows x told out = (told ≡ x.told) and (out ≡ x.out)
