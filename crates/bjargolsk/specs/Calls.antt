-- The calls for C: what each returns. The lent bytes and the reply buffer are left as the calls of the same name leave them.
use Rattle.std.specs.Prelude.{ℕ, ◌+◌, ◌*◌, ◌%◌, cond, not, List, [], ◌≡◌, length, eqb, ltb}
use Rattle.wire.specs.Conditions.{◌and◌}
use Rattle.session.specs.Session.{fresh_session}
use Rattle.image.specs.Image.{image_of}
use Rattle.layout.specs.Layout.{image_length}
use Rattle.inplace.specs.declared.Told.{Told}
use Rattle.inplace.specs.InPlace.{Left, no_image}
use Rattle.occ_call.specs.Occ.{occ_on}
use Rattle.sbe_call.specs.Sbe.{sbe_on, data_on}
use Rattle.undo_call.specs.Undo.{undo_on, redo_on}
use Rattle.forget_call.specs.Forget.{forget_on}
use Rattle.time_call.specs.Time.{time_on}
use Rattle.watch_call.specs.Watch.{watch_on}
use Rattle.plan.specs.Plan.{plan_ok_on, plan_on}
use Rattle.parting.specs.Lines.{longest, told, told_length}
use Rattle.saving.specs.Moves.{save_to, restore_to, move_up_to, move_down_to}

-- the answer in bits 0 to 7, the small number in bits 8 to 15, the other in bits 16 to 31
unfoldable pub packed : Told → ℕ
packed t = t.beside * 65536 + t.small * 256 + t.answer

unfoldable pub answer_in : ℕ → ℕ
answer_in result = result % 256

-- bytes made a fresh session
unfoldable pub fresh_on : List ℕ → Left
fresh_on b =
    cond (not (eqb (length b) image_length)) (no_image b []) (record { told = record { answer = 0; small = 0; beside = 0 }; image = image_of fresh_session; reply = [] })

-- two traces t and u parted: what is told with the buffer d
unfoldable pub part_on : List ℕ → List ℕ → List ℕ → Told
part_on t u d =
    cond (ltb (length d) longest) (record { answer = 3; small = 0; beside = 0 }) (record { answer = 0; small = 0; beside = told_length t u d })

-- ---- what the contracts allow: the result, and the lent bytes and the reply buffer as they are left

abbrev pub FreshReturns : List ℕ → ℕ → List ℕ → Type 0
FreshReturns b result image = (result ≡ packed (fresh_on b).told) and (image ≡ (fresh_on b).image)

abbrev pub OccReturns : List ℕ → ℕ → List ℕ → List ℕ → ℕ → List ℕ → List ℕ → Type 0
OccReturns b sender c d result image reply =
    (result ≡ packed (occ_on b sender c d).told) and (image ≡ (occ_on b sender c d).image) and (reply ≡ (occ_on b sender c d).reply)

abbrev pub SbeReturns : List ℕ → List ℕ → List ℕ → ℕ → List ℕ → List ℕ → Type 0
SbeReturns b r d result image reply =
    (result ≡ packed (sbe_on b r d [] []).told) and (image ≡ (sbe_on b r d [] []).image) and (reply ≡ (sbe_on b r d [] []).reply)

-- with the SEEPROM's image m and the second buffer x lent
abbrev pub SeepromReturns : List ℕ → List ℕ → List ℕ → List ℕ → List ℕ → ℕ → List ℕ → List ℕ → List ℕ → Type 0
SeepromReturns b r d m x result image reply served =
    (result ≡ packed (sbe_on b r d m x).told) and (image ≡ (sbe_on b r d m x).image) and (reply ≡ (sbe_on b r d m x).reply) and (served ≡ data_on b r d m x)

abbrev pub UndoReturns : List ℕ → ℕ → List ℕ → Type 0
UndoReturns b result image = (result ≡ packed (undo_on b).told) and (image ≡ (undo_on b).image)

abbrev pub RedoReturns : List ℕ → ℕ → List ℕ → Type 0
RedoReturns b result image = (result ≡ packed (redo_on b).told) and (image ≡ (redo_on b).image)

abbrev pub ForgetReturns : List ℕ → ℕ → ℕ → List ℕ → Type 0
ForgetReturns b n result image = (result ≡ packed (forget_on n b).told) and (image ≡ (forget_on n b).image)

abbrev pub TimeReturns : List ℕ → ℕ → ℕ → List ℕ → Type 0
TimeReturns b n result image = (result ≡ packed (time_on n b).told) and (image ≡ (time_on n b).image)

abbrev pub WatchReturns : List ℕ → ℕ → List ℕ → Type 0
WatchReturns b result image = (result ≡ packed (watch_on b).told) and (image ≡ (watch_on b).image)

-- the lent bytes are only read
abbrev pub PlanOkReturns : List ℕ → List ℕ → ℕ → List ℕ → ℕ → Type 0
PlanOkReturns b p wanted o result = result ≡ packed (plan_ok_on b p wanted o)

-- with the order's buffer d as it is left
abbrev pub PlanReturns : List ℕ → List ℕ → ℕ → List ℕ → ℕ → List ℕ → Type 0
PlanReturns b p wanted d result order = (result ≡ packed (plan_on b p wanted d).told) and (order ≡ (plan_on b p wanted d).order)

-- with the text's buffer d as it is left
abbrev pub PartReturns : List ℕ → List ℕ → List ℕ → ℕ → List ℕ → Type 0
PartReturns t u d result text = (result ≡ packed (part_on t u d)) and (text ≡ told t u d)

-- document 02, m: the buffer that is written to as it is left; of `restore` that is the session's
abbrev pub SaveReturns : List ℕ → List ℕ → ℕ → List ℕ → Type 0
SaveReturns b out result left = (result ≡ packed (save_to b out).told) and (left ≡ (save_to b out).out)

abbrev pub RestoreReturns : List ℕ → List ℕ → ℕ → List ℕ → Type 0
RestoreReturns b saved result image = (result ≡ packed (restore_to saved b).told) and (image ≡ (restore_to saved b).out)

abbrev pub MoveUpReturns : List ℕ → List ℕ → ℕ → List ℕ → Type 0
MoveUpReturns saved out result left = (result ≡ packed (move_up_to saved out).told) and (left ≡ (move_up_to saved out).out)

abbrev pub MoveDownReturns : List ℕ → List ℕ → ℕ → List ℕ → Type 0
MoveDownReturns saved out result left = (result ≡ packed (move_down_to saved out).told) and (left ≡ (move_down_to saved out).out)
