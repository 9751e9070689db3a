-- A record's 230 bytes by themselves: it is read from them alone, and they and the record are inverse to each other. From the laws of images. Assumes nothing.
use Rattle.std.specs.Prelude.{ℕ, zero, suc, ◌+◌, ◌≤◌, ◌<◌, ◌^◌, ◌≡◌, List, [], ◌∷◌, ◌++◌, eqb, ltb, length, take, replicate}
use Rattle.std.proofs.Math.Path.{sym, ap}
use Rattle.std.proofs.Common.{subst, ◌∙◌, arith, lit<, get_or-take, length-take-le}
use Rattle.std.proofs.Math.ListN.{length-append, length-replicate}
use Rattle.std.proofs.Math.Seq.{take_at}
use Rattle.wire.specs.Wire.{sum_of, be_nat, Bytes, joined}
use Rattle.wire.proofs.laws.Wire.{bytes_take, part_of_part, joined_append}
use Rattle.wire.proofs.laws.Cases.{cond_elim}
use Rattle.record.specs.Record.{clamped, limit_of, worked_of}
use Rattle.record.specs.Widths.{CapsFit}
use Rattle.record.specs.declared.Caps.{Caps}
use Rattle.record.specs.declared.Record.{Record}
use Rattle.session.specs.declared.Session.{Session}
use Rattle.links.specs.Typed.{TypedRecord}
use Rattle.image.specs.Image.{byte_at, part_at, number_at, record_rows, session_rows, image_of, caps_in, throttles_in, received_in, log_at, logs_in, deadman_in, areas_in, record_in, head_in, session_in, session_of}
use Rattle.image.proofs.laws.Rows.{length_joined}
use Rattle.image.proofs.laws.Image.{Typed, record_widths, widths_record, session_image, image_session}
use Rattle.image.proofs.laws.Typed.{typed_image}
use Rattle.layout.specs.Layout.{image_length}

-- ---- only the first 230 bytes count

module _ (b : List ℕ) where
  one : (n : ℕ) → n < 230 → byte_at n (take 230 b) ≡ byte_at n b
  one n h = get_or-take 230 b n 0 h

  some : (n p : ℕ) → p + n ≤ 230 → part_at n p (take 230 b) ≡ part_at n p b
  some n p h = part_of_part n p 230 b h

  number : (n p : ℕ) → p + n ≤ 230 → number_at n p (take 230 b) ≡ number_at n p b
  number n p h = ap be_nat (some n p h)

  pub record_front : record_in (take 230 b) ≡ record_in b
  unfolding record_in caps_in throttles_in received_in log_at logs_in deadman_in areas_in
  record_front = λ i.
      record {
        state = one 0 (lit< tt) i;
        role = one 1 (lit< tt) i;
        caps = record { min = number 2 2 (lit< tt) i; max = number 2 4 (lit< tt) i; over = number 2 6 (lit< tt) i };
        throttles = record { present = number 2 8 (lit< tt) i; sets = some 160 10 (lit< tt) i };
        user = number 2 170 (lit< tt) i;
        thermal = some 9 172 (lit< tt) i;
        received = record { role = one 181 (lit< tt) i; caps = one 182 (lit< tt) i; throttles = one 183 (lit< tt) i; thermal = one 184 (lit< tt) i };
        logs =
            record { id = one 185 (lit< tt) i; reason = one 186 (lit< tt) i }
            ∷ record { id = one 187 (lit< tt) i; reason = one 188 (lit< tt) i }
            ∷ record { id = one 189 (lit< tt) i; reason = one 190 (lit< tt) i }
            ∷ record { id = one 191 (lit< tt) i; reason = one 192 (lit< tt) i }
            ∷ [];
        mask = number 4 193 (lit< tt) i;
        deadman = record { running = one 197 (lit< tt) i; time = number 8 198 (lit< tt) i };
        areas = record {
          ffdc = record { address = number 8 206 (lit< tt) i; size = number 4 214 (lit< tt) i };
          pass = record { address = number 8 218 (lit< tt) i; size = number 4 226 (lit< tt) i };
        };
      }

pub same_front : (b c : List ℕ) → take 230 b ≡ take 230 c → record_in b ≡ record_in c
same_front b c e = sym (record_front b) ∙ ap record_in e ∙ record_front c

pub length_record : (r : Record) → TypedRecord r → length (joined (record_rows r)) ≡ 230
unfolding sum_of record_widths
length_record r t = length_joined (record_rows r) ∙ ap sum_of (widths_record r t.sets t.thermal)

-- an image begins with its record's bytes
image_front : (s : Session) → TypedRecord s.held → take 230 (image_of s) ≡ joined (record_rows s.held)
unfolding image_of session_rows
image_front s t =
    ap (take 230) (joined_append (record_rows s.held) _) ∙ take_at (joined (record_rows s.held)) _ 230 (length_record s.held t)

-- ---- reading what was written gives the record

-- a session that holds it
abbrev around : Record → Session
around r =
    record { held = r; worked = record { limit = 0; observation = 0; active = 0; wanted = 0 }; next = 1; journal = replicate 2048 0; used = 0; redo = replicate 2048 0; ahead = 0; marks = replicate 64 0; timer = record { running = 0; left = 0 }; profile = 0 }

around_typed : (r : Record) → TypedRecord r → Typed (around r)
around_typed r t = record {
  session = record { held = t; journal = length-replicate {A = ℕ} 2048 0; next = lit< tt; used = lit< tt; redo = length-replicate {A = ℕ} 2048 0; ahead = lit< tt; marks = length-replicate {A = ℕ} 64 0; timer = lit< tt };
  limit = lit< tt;
}

read_around : (r : Record) → TypedRecord r → record_in (image_of (around r)) ≡ r
unfolding session_of session_in head_in
read_around r t = ap (λ (s : Session). s.held) (session_image (around r) (around_typed r t))

pub record_back : (r : Record) → TypedRecord r → (rest : List ℕ) → record_in (joined (record_rows r) ++ rest) ≡ r
record_back r t rest =
    same_front (joined (record_rows r) ++ rest) (image_of (around r)) (take_at (joined (record_rows r)) rest 230 (length_record r t) ∙ sym (image_front (around r) t))
    ∙ read_around r t

-- ---- writing what was read gives the bytes

bytes_append : (xs ys : List ℕ) → Bytes xs → Bytes ys → Bytes (xs ++ ys)
bytes_append [] ys h g = g
bytes_append (x ∷ xs) ys h g = (h.0, bytes_append xs ys h.1 g)

bytes_zeros : (n : ℕ) → Bytes (replicate n 0)
bytes_zeros zero = tt
bytes_zeros (suc n) = (lit< tt, bytes_zeros n)

module _ (b : List ℕ) (bytes : Bytes b) (long : 230 ≤ length b) where
  front_long : length (take 230 b) ≡ 230
  front_long = length-take-le 230 b long

  -- an image that begins with them
  unfoldable filled : List ℕ
  filled = take 230 b ++ replicate 4181 0

  filled_bytes : Bytes filled
  unfolding filled
  filled_bytes = bytes_append (take 230 b) (replicate 4181 0) (bytes_take 230 b bytes) (bytes_zeros 4181)

  filled_long : length filled ≡ image_length
  unfolding filled
  filled_long = length-append (take 230 b) (replicate 4181 0) ∙ omega (arith, front_long, length-replicate {A = ℕ} 4181 0)

  filled_front : take 230 filled ≡ take 230 b
  unfolding filled
  filled_front = take_at (take 230 b) (replicate 4181 0) 230 front_long

  filled_record : record_in filled ≡ record_in b
  filled_record = same_front filled b filled_front

  filled_typed : TypedRecord (record_in filled)
  unfolding session_of session_in head_in
  filled_typed = (typed_image filled filled_bytes filled_long).session.held

  pub record_typed : TypedRecord (record_in b)
  record_typed = subst TypedRecord filled_record filled_typed

  filled_rows : joined (record_rows (record_in filled)) ≡ take 230 filled
  unfolding session_of session_in head_in
  filled_rows = sym (image_front (session_of filled) filled_typed) ∙ ap (take 230) (image_session filled filled_bytes filled_long)

  pub record_again : joined (record_rows (record_in b)) ≡ take 230 b
  record_again = ap (λ (r : Record). joined (record_rows r)) (sym filled_record) ∙ filled_rows ∙ filled_front

-- ---- the limit fits its two bytes

limit_fits : (role got user : ℕ) (caps : Caps) → CapsFit caps → user < 256 ^ 2 → limit_of role got caps user < 256 ^ 2
unfolding limit_of clamped
limit_fits role got user caps f u =
    let Small : ℕ → Type 0 = λ (n : ℕ). n < 256 ^ 2 in
    cond_elim Small (eqb role 0) (omega arith)
    (cond_elim Small (eqb got 0) (omega arith)
    (cond_elim Small (eqb user 0) f.max (cond_elim Small (ltb user caps.min) f.min (cond_elim Small (ltb caps.max user) f.max u))))

pub worked_fits_lem : (r : Record) → TypedRecord r → (worked_of r).limit < 256 ^ 2
unfolding worked_of
worked_fits_lem r t = limit_fits r.role r.received.caps r.user r.caps t.caps t.user
