-- Document 01, "Session answers" and "SBE mailbox", with document 02, h: what the call `sbe` comes to, for every session, request, reply buffer, SEEPROM image m and
-- second buffer x.
use Rattle.std.specs.Prelude.{ℕ, ◌+◌, ◌%◌, Bool, cond, not, Ok, Err, List, [], ◌≡◌, length, take, drop, ltb, eqb}
use Rattle.wire.specs.Wire.{pasted}
use Rattle.wire.specs.Conditions.{◌and◌}
use Rattle.change.specs.Change.{no_tables}
use Rattle.sbe.specs.Mailbox.{numbers_of, Tested, request_ruling, bell_of, response_bytes}
use Rattle.sbe.specs.declared.Refusal.TheVariants.{BufferOverflow, InvalidParameters, AccessDenied}
use Rattle.sbe.specs.declared.Ruling.{Ruling}
use Rattle.sbe.specs.declared.Ruling.TheVariants.{Decline, Grant, Done, Read}
use Rattle.session.specs.Session.{well_formed}
use Rattle.session.specs.Road.{Asks, tells, makes, due, Said, settled}
use Rattle.session.specs.declared.Session.{Session}
use Rattle.image.specs.Image.{session_of}
use Rattle.layout.specs.Layout.{image_length}
use Rattle.inplace.specs.declared.Told.{Told}
use Rattle.inplace.specs.InPlace.{Left, rung_left, on_image}

-- 1: session not well formed; 3: reply buffer under 32 bytes; 4: command under 32
unfoldable pub refusal_of : Bool → ℕ → ℕ → ℕ
refusal_of formed request reply = cond (not formed) 1 (cond (ltb reply 32) 3 (cond (ltb request 32) 4 0))

unfoldable pub sbe_refusal : Session → ℕ → ℕ → ℕ
sbe_refusal s request reply = refusal_of (well_formed s) request reply

-- ---- h, D7 03: "SEEPROM serves from an image the caller lends .. into a second lent buffer, kept on refusal and past the data"

-- "of which only the first 65,536 bytes count"
unfoldable pub counted_in : ℕ → ℕ
counted_in n = cond (ltb 65536 n) 65536 n

-- "02/19 an offset or size that is no multiple of 8 or leaves the image, 02/18 when the second buffer is shorter than the data".
-- The image has so many bytes, the second buffer so many
unfoldable pub read_status : ℕ → ℕ → ℕ → ℕ → Tested
read_status image room offset size =
    cond (not (eqb (offset % 8) 0)) (Err InvalidParameters)
    (cond (not (eqb (size % 8) 0)) (Err InvalidParameters)
    (cond (ltb (counted_in image) (offset + size)) (Err InvalidParameters)
    (cond (ltb room size) (Err BufferOverflow) (Ok tt))))

unfoldable pub read_at : Tested → Ruling
read_at (Err why) = Decline why
read_at (Ok x) = Done

-- a ruling, judged where image and buffer are known
unfoldable pub judged_for : ℕ → ℕ → Ruling → Ruling
judged_for image room (Decline why) = Decline why
judged_for image room (Grant change) = Grant change
judged_for image room Done = Done
judged_for image room (Read offset size) = read_at (read_status image room offset size)

-- the second buffer after it
unfoldable pub served_at : Tested → ℕ → ℕ → List ℕ → List ℕ → List ℕ
served_at (Err why) offset size m x = x
served_at (Ok y) offset size m x = pasted 0 (take size (drop offset m)) x

unfoldable pub served_by : Ruling → List ℕ → List ℕ → List ℕ
served_by (Decline why) m x = x
served_by (Grant change) m x = x
served_by Done m x = x
served_by (Read offset size) m x = served_at (read_status (length m) (length x) offset size) offset size m x

-- ---- the response

-- to what is no change; a read is judged before it comes here (judgedFor)
unfoldable pub told_of : Ruling → List ℕ → List ℕ → List ℕ
told_of (Decline why) r d = pasted 0 (response_bytes (numbers_of why).0 (numbers_of why).1 r) d
told_of (Grant change) r d = d
told_of Done r d = pasted 0 (response_bytes 0x00 0x00 r) d
told_of (Read offset size) r d = pasted 0 (response_bytes 0x00 0x00 r) d

-- the response "is written on every answer 0"; the bell is rung as asked, refused or not
unfoldable pub ruling_asks : List ℕ → List ℕ → Ruling → Asks
ruling_asks r d (Decline why) = tells (bell_of r) (told_of (Decline why) r d)
ruling_asks r d (Grant change) = makes (record { change = change; tables = no_tables }) (bell_of r) (pasted 0 (response_bytes 0x00 0x00 r) d)
ruling_asks r d Done = tells (bell_of r) (told_of Done r d)
ruling_asks r d (Read offset size) = tells (bell_of r) (told_of (Read offset size) r d)

unfoldable pub sbe_ruling : List ℕ → List ℕ → List ℕ → Ruling
sbe_ruling r m x = judged_for (length m) (length x) (request_ruling r)

-- k: in a watch-only session "each SBE request that would make a journal entry is refused", with 05/20 after the data checks
unfoldable pub denied : Ruling → Ruling
denied (Decline why) = Decline why
denied (Grant change) = Decline AccessDenied
denied Done = Done
denied (Read offset size) = Read offset size

unfoldable pub by_profile : ℕ → Ruling → Ruling
by_profile profile v = cond (eqb profile 0) v (denied v)

unfoldable pub sbe_read : ℕ → List ℕ → List ℕ → List ℕ → List ℕ → Asks
sbe_read profile r d m x = ruling_asks r d (by_profile profile (sbe_ruling r m x))

unfoldable pub sbe_asks : Session → List ℕ → List ℕ → List ℕ → List ℕ → Asks
sbe_asks s r d m x = due (sbe_refusal s (length r) (length d)) (sbe_read s.profile r d m x)

unfoldable pub sbe_call : Session → List ℕ → List ℕ → List ℕ → List ℕ → Said
sbe_call s r d m x = settled s d (sbe_asks s r d m x)

-- the second buffer as the call leaves it
unfoldable pub data_for : ℕ → List ℕ → List ℕ → List ℕ → List ℕ
data_for refusal r m x = cond (not (eqb refusal 0)) x (served_by (request_ruling r) m x)

unfoldable pub sbe_data : Session → List ℕ → List ℕ → List ℕ → List ℕ → List ℕ
sbe_data s r d m x = data_for (sbe_refusal s (length r) (length d)) r m x

-- ---- on a session that is lent as its image's bytes

-- a request that is due an answer, ruled upon
unfoldable pub ruled_left : Session → List ℕ → List ℕ → Ruling → Left
ruled_left s r d v = rung_left (settled s d (ruling_asks r d v))

unfoldable pub sbe_on : List ℕ → List ℕ → List ℕ → List ℕ → List ℕ → Left
sbe_on b r d m x = on_image b d (λ (s : Session). rung_left (sbe_call s r d m x))

-- bytes that are no image keep the second buffer too
unfoldable pub data_on : List ℕ → List ℕ → List ℕ → List ℕ → List ℕ → List ℕ
data_on b r d m x = cond (not (eqb (length b) image_length)) x (sbe_data (session_of b) r d m x)

-- what the contract allows: what is told, and the lent bytes, the reply buffer and the second buffer as they are left
abbrev pub SbeAllows : List ℕ → List ℕ → List ℕ → List ℕ → List ℕ → Told → List ℕ → List ℕ → List ℕ → Type 0
SbeAllows b r d m x told image reply served =
    (told ≡ (sbe_on b r d m x).told) and (image ≡ (sbe_on b r d m x).image) and (reply ≡ (sbe_on b r d m x).reply) and (served ≡ data_on b r d m x)

-- the same with an empty image and an empty second buffer lent, of which nothing is to be said
abbrev pub AloneAllows : List ℕ → List ℕ → List ℕ → Told → List ℕ → List ℕ → Type 0
AloneAllows b r d told image reply = (told ≡ (sbe_on b r d [] []).told) and (image ≡ (sbe_on b r d [] []).image) and (reply ≡ (sbe_on b r d [] []).reply)
