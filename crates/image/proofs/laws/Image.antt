-- A session and its image are inverse to each other. Assumes nothing.
use Rattle.std.specs.Prelude.{ℕ, ◌+◌, ◌^◌, ◌≤◌, ◌<◌, ◌≡◌, refl, length, take, drop}
use Rattle.std.proofs.Common.{sym, ◌∙◌, add-zero, arith, lit<, length-drop, length-take-le, drop-cons, get_or-take, get_or-drop}
use Rattle.std.proofs.Math.Path.{ap}
use mathlib.Core.List.{List, [], ◌∷◌, ◌++◌}
use Rattle.std.proofs.Math.ListN.{get_or}
use Rattle.std.proofs.Math.Seq.{take_all}
use Rattle.wire.specs.Wire.{sum_of, be_nat, to_be, Bytes, joined}
use Rattle.wire.proofs.laws.Wire.{bytes_take, bytes_drop, be_to_be, to_be_be}
use Rattle.record.specs.Record.{no_log}
use Rattle.record.specs.declared.Log.{Log}
use Rattle.record.specs.declared.Record.{Record}
use Rattle.session.specs.declared.Session.{Session}
use Rattle.links.specs.Typed.{TypedSession}
use Rattle.image.specs.Rows.{widths_of, rows_from}
use Rattle.image.proofs.laws.Rows.{length_joined, rows_joined, joined_rows}
use Rattle.image.specs.Image.{byte, head_rows, throttles_rows, thermal_rows, logs_rows, mailbox_rows, worked_rows, record_rows, session_rows, image_of, byte_at, part_at, number_at, caps_in, throttles_in, received_in, log_at, logs_in, deadman_in, areas_in, record_in, worked_in, timer_rows, timer_in, head_in, session_in, session_of}
use Rattle.layout.specs.Layout.{store_size, later_widths, image_length}

-- what the types of the fields say of a session; every value has it
pub record Typed (s : Session) : Type 0 where
  pub session : TypedSession s
  pub limit : s.worked.limit < 256 ^ 2

-- how wide the rows are
unfoldable pub record_widths : List ℕ
record_widths =
    1 ∷ 1 ∷ 2 ∷ 2 ∷ 2 ∷ 2 ∷ 160 ∷ 2 ∷ 9 ∷ 1 ∷ 1 ∷ 1 ∷ 1 ∷ 1 ∷ 1 ∷ 1 ∷ 1 ∷ 1 ∷ 1 ∷ 1 ∷ 1 ∷ 4 ∷ 1 ∷ 8 ∷ 8 ∷ 4 ∷ 8 ∷ 4 ∷ []

unfoldable widths : List ℕ
widths = record_widths ++ (2 ∷ 1 ∷ 1 ∷ 1 ∷ 2 ∷ 2 ∷ store_size ∷ 2 ∷ store_size ∷ later_widths)

pub widths_record : (r : Record) → length r.throttles.sets ≡ 160 → length r.thermal ≡ 9 → widths_of (record_rows r) ≡ record_widths
unfolding widths_of record_widths record_rows head_rows throttles_rows thermal_rows logs_rows mailbox_rows to_be
widths_record r sets thermal = λ i.
    1 ∷ 1 ∷ 2 ∷ 2 ∷ 2 ∷ 2 ∷ sets i ∷ 2 ∷ thermal i ∷ 1 ∷ 1 ∷ 1 ∷ 1 ∷ 1 ∷ 1 ∷ 1 ∷ 1 ∷ 1 ∷ 1 ∷ 1 ∷ 1 ∷ 4 ∷ 1 ∷ 8 ∷ 8 ∷ 4 ∷ 8 ∷ 4 ∷ []

widths_session : (s : Session) → TypedSession s → widths_of (session_rows s) ≡ widths
unfolding widths_of widths session_rows record_rows head_rows throttles_rows thermal_rows logs_rows mailbox_rows worked_rows timer_rows to_be
widths_session s t = λ i. widths_record s.held t.held.sets t.held.thermal i ++ (2 ∷ 1 ∷ 1 ∷ 1 ∷ 2 ∷ 2 ∷ t.journal i ∷ 2 ∷ t.redo i ∷ t.marks i ∷ 1 ∷ 8 ∷ 1 ∷ [])

-- an image has 4,411 bytes
pub length_image : (s : Session) → TypedSession s → length (image_of s) ≡ image_length
unfolding image_of record_widths widths sum_of
length_image s t = length_joined (session_rows s) ∙ ap sum_of (widths_session s t)

-- ---- reading what was written gives the session

pub byte_back : (at v : ℕ) (b : List ℕ) → part_at 1 at b ≡ byte v → byte_at at b ≡ v
byte_back at v b e =
    ap (λ (n : ℕ). get_or b n 0) (sym (add-zero at)) ∙ sym (get_or-drop at b 0 0) ∙ sym (get_or-take 1 (drop at b) 0 0 (lit< tt)) ∙ ap (λ (l : List ℕ). get_or l 0 0) e

pub number_back : (n at v : ℕ) (b : List ℕ) → part_at n at b ≡ to_be n v → v < 256 ^ n → number_at n at b ≡ v
number_back n at v b e h = ap be_nat e ∙ be_to_be n v h

four_logs : (l : List Log) → length l ≡ 4 → get_or l 0 no_log ∷ get_or l 1 no_log ∷ get_or l 2 no_log ∷ get_or l 3 no_log ∷ [] ≡ l
four_logs [] h = let z : ⊥ = omega arith in absurd z
four_logs (a ∷ []) h = let z : ⊥ = omega arith in absurd z
four_logs (a ∷ b ∷ []) h = let z : ⊥ = omega arith in absurd z
four_logs (a ∷ b ∷ c ∷ []) h = let z : ⊥ = omega arith in absurd z
four_logs (a ∷ b ∷ c ∷ d ∷ []) h = refl
four_logs (a ∷ b ∷ c ∷ d ∷ e ∷ l) h = let z : ⊥ = omega arith in absurd z

module _ (s : Session) (t : Typed s) where
  row : (k : ℕ) → get_or (rows_from 0 widths (image_of s)) k [] ≡ get_or (session_rows s) k []
  unfolding image_of
  row k =
      ap (λ (rs : List (List ℕ)). get_or rs k [])
      (ap (λ (ws : List ℕ). rows_from 0 ws (image_of s)) (sym (widths_session s t.session)) ∙ rows_joined (session_rows s))

  logs_image : logs_in (image_of s) ≡ s.held.logs
  unfolding log_at logs_in rows_from record_widths widths session_rows record_rows head_rows throttles_rows thermal_rows logs_rows mailbox_rows worked_rows
  logs_image = (λ i.
      record { id = byte_back 185 _ (image_of s) (row 13) i; reason = byte_back 186 _ (image_of s) (row 14) i }
      ∷ record { id = byte_back 187 _ (image_of s) (row 15) i; reason = byte_back 188 _ (image_of s) (row 16) i }
      ∷ record { id = byte_back 189 _ (image_of s) (row 17) i; reason = byte_back 190 _ (image_of s) (row 18) i }
      ∷ record { id = byte_back 191 _ (image_of s) (row 19) i; reason = byte_back 192 _ (image_of s) (row 20) i }
      ∷ []) ∙ four_logs s.held.logs t.session.held.logs

  record_image : record_in (image_of s) ≡ s.held
  unfolding record_in caps_in throttles_in received_in deadman_in areas_in rows_from record_widths widths session_rows record_rows head_rows throttles_rows thermal_rows logs_rows mailbox_rows worked_rows
  record_image = λ i.
      record {
        state = byte_back 0 _ (image_of s) (row 0) i;
        role = byte_back 1 _ (image_of s) (row 1) i;
        caps = record {
          min = number_back 2 2 _ (image_of s) (row 2) t.session.held.caps.min i;
          max = number_back 2 4 _ (image_of s) (row 3) t.session.held.caps.max i;
          over = number_back 2 6 _ (image_of s) (row 4) t.session.held.caps.over i;
        };
        throttles = record { present = number_back 2 8 _ (image_of s) (row 5) t.session.held.present i; sets = row 6 i };
        user = number_back 2 170 _ (image_of s) (row 7) t.session.held.user i;
        thermal = row 8 i;
        received = record {
          role = byte_back 181 _ (image_of s) (row 9) i;
          caps = byte_back 182 _ (image_of s) (row 10) i;
          throttles = byte_back 183 _ (image_of s) (row 11) i;
          thermal = byte_back 184 _ (image_of s) (row 12) i;
        };
        logs = logs_image i;
        mask = number_back 4 193 _ (image_of s) (row 21) t.session.held.mask i;
        deadman = record { running = byte_back 197 _ (image_of s) (row 22) i; time = number_back 8 198 _ (image_of s) (row 23) t.session.held.time i };
        areas = record {
          ffdc = record {
            address = number_back 8 206 _ (image_of s) (row 24) t.session.held.ffdc.address i;
            size = number_back 4 214 _ (image_of s) (row 25) t.session.held.ffdc.size i;
          };
          pass = record {
            address = number_back 8 218 _ (image_of s) (row 26) t.session.held.pass.address i;
            size = number_back 4 226 _ (image_of s) (row 27) t.session.held.pass.size i;
          };
        };
      }

  worked_image : worked_in (image_of s) ≡ s.worked
  unfolding worked_in rows_from record_widths widths session_rows record_rows head_rows throttles_rows thermal_rows logs_rows mailbox_rows worked_rows
  worked_image = λ i.
      record {
        limit = number_back 2 230 _ (image_of s) (row 28) t.limit i;
        observation = byte_back 232 _ (image_of s) (row 29) i;
        active = byte_back 233 _ (image_of s) (row 30) i;
        wanted = byte_back 234 _ (image_of s) (row 31) i;
      }

  pub session_image : session_of (image_of s) ≡ s
  unfolding session_of session_in head_in timer_in timer_rows rows_from record_widths widths session_rows record_rows head_rows throttles_rows thermal_rows logs_rows mailbox_rows worked_rows
  session_image = λ i.
      record {
        held = record_image i;
        worked = worked_image i;
        next = number_back 2 235 _ (image_of s) (row 32) t.session.next i;
        used = number_back 2 237 _ (image_of s) (row 33) t.session.used i;
        journal = row 34 i;
        ahead = number_back 2 2287 _ (image_of s) (row 35) t.session.ahead i;
        redo = row 36 i;
        marks = row 37 i;
        timer = record { running = byte_back 4401 _ (image_of s) (row 38) i; left = number_back 8 4402 _ (image_of s) (row 39) t.session.timer i };
        profile = byte_back 4410 _ (image_of s) (row 40) i;
      }

-- ---- writing what was read gives the bytes

module _ (b : List ℕ) (bytes : Bytes b) (long : length b ≡ image_length) where
  -- one byte, and a number of so many
  one : (at : ℕ) → at < image_length → byte (byte_at at b) ≡ part_at 1 at b
  one at h = sym (ap (take 1) (drop-cons b at 0 (omega arith)))

  number : (n at : ℕ) → at + n ≤ image_length → to_be n (number_at n at b) ≡ part_at n at b
  number n at h =
      let m : length (part_at n at b) ≡ n = length-take-le n (drop at b) (simp length-drop (omega arith)) in
      ap (λ (k : ℕ). to_be k (number_at n at b)) (sym m) ∙ to_be_be (part_at n at b) (bytes_take n (drop at b) (bytes_drop at b bytes))

  rows_session : session_rows (session_of b) ≡ rows_from 0 widths b
  unfolding session_of session_in head_in timer_in timer_rows record_in caps_in throttles_in received_in log_at logs_in deadman_in areas_in worked_in rows_from record_widths widths session_rows record_rows head_rows throttles_rows thermal_rows logs_rows mailbox_rows worked_rows
  rows_session = λ i.
      one 0 (lit< tt) i
      ∷ one 1 (lit< tt) i
      ∷ number 2 2 (lit< tt) i
      ∷ number 2 4 (lit< tt) i
      ∷ number 2 6 (lit< tt) i
      ∷ number 2 8 (lit< tt) i
      ∷ part_at 160 10 b
      ∷ number 2 170 (lit< tt) i
      ∷ part_at 9 172 b
      ∷ one 181 (lit< tt) i
      ∷ one 182 (lit< tt) i
      ∷ one 183 (lit< tt) i
      ∷ one 184 (lit< tt) i
      ∷ one 185 (lit< tt) i
      ∷ one 186 (lit< tt) i
      ∷ one 187 (lit< tt) i
      ∷ one 188 (lit< tt) i
      ∷ one 189 (lit< tt) i
      ∷ one 190 (lit< tt) i
      ∷ one 191 (lit< tt) i
      ∷ one 192 (lit< tt) i
      ∷ number 4 193 (lit< tt) i
      ∷ one 197 (lit< tt) i
      ∷ number 8 198 (lit< tt) i
      ∷ number 8 206 (lit< tt) i
      ∷ number 4 214 (lit< tt) i
      ∷ number 8 218 (lit< tt) i
      ∷ number 4 226 (lit< tt) i
      ∷ number 2 230 (lit< tt) i
      ∷ one 232 (lit< tt) i
      ∷ one 233 (lit< tt) i
      ∷ one 234 (lit< tt) i
      ∷ number 2 235 (lit< tt) i
      ∷ number 2 237 (lit< tt) i
      ∷ part_at 2048 239 b
      ∷ number 2 2287 (lit< tt) i
      ∷ part_at 2048 2289 b
      ∷ part_at 64 4337 b
      ∷ one 4401 (lit< tt) i
      ∷ number 8 4402 (lit< tt) i
      ∷ one 4410 (lit< tt) i
      ∷ []

  pub image_session : image_of (session_of b) ≡ b
  unfolding image_of record_widths widths sum_of
  image_session = ap joined rows_session ∙ joined_rows 0 widths b ∙ take_all image_length b (omega arith)
