-- docs/PROTOCOL.md, "Lines", "Bytes", "Numbers" and "Words": the order that a line gives. Text is a list of ASCII numbers.
use Rattle.std.specs.Prelude.{ℕ, ◌+◌, ◌-◌, Bool, true, cond, not, Option, Some, None, Result, Ok, Err, ◌≡◌, List, eqb, ltb, leb, length, take, drop, get_or}
use Rattle.layout.specs.Layout.{image_length}
use Rattle.wire.specs.Wire.{pasted}
use Rattle.text.specs.declared.Fault.{Fault}
use Rattle.text.specs.declared.Fault.TheVariants.{Digit, Over}
use Rattle.text.specs.declared.Number.{Number}
use Rattle.text.specs.declared.NumberError.{NumberError}
use Rattle.text.specs.declared.NumberError.TheVariants.{Missing, TooGreat}
use Rattle.std.specs.List.{prefix_len}
use Rattle.text.specs.Text.{ascii, in_word, past_blanks, same_text, HexRun, hex_run}
use Rattle.text.specs.Numbers.{number_at}
use Rattle.orders.specs.declared.Call.{Call}
use Rattle.orders.specs.declared.Call.TheVariants.{Occ, Sbe, Send, Load, Undo, Redo, Forget, Time, Watch, Plan, Save, Restore, Fresh}
use Rattle.orders.specs.declared.View.TheVariants.{Image, Why, Show, Journal, Help}
use Rattle.orders.specs.declared.Buffer.TheVariants.{Whole, Bytes}
use Rattle.orders.specs.declared.Wrong.{Wrong}
use Rattle.orders.specs.declared.Wrong.TheVariants.{LongLine, NoWord, MoreText, NoDigit, TooMany, NoImage, NoNumber, LongBuffer, GreatNumber, GreatTime, LongSeeprom, GreatState, LongPacket}
use Rattle.orders.specs.declared.Word.{Word}
use Rattle.orders.specs.declared.Word.TheVariants.{Make, Look, Lend, Seeprom, Packet, Fail, Skip}
use Rattle.orders.specs.declared.Order.{Order}

abbrev pub plainly : Word → Order
plainly w = record { word = w; count = 0; column = 0 }

abbrev pub wrong_at : Wrong → ℕ → Order
wrong_at what column = record { word = Fail what; count = 0; column = column }

-- ---- words, "written in small letters"

unfoldable pub view_of : List ℕ → Word
view_of w =
    cond (same_text w (ascii "image")) (Look Image)
    (cond (same_text w (ascii "why")) (Look Why)
    (cond (same_text w (ascii "show")) (Look Show)
    (cond (same_text w (ascii "journal")) (Look Journal)
    (cond (same_text w (ascii "help")) (Look Help)
    (Fail NoWord)))))

unfoldable pub given_of : List ℕ → Word
given_of w =
    cond (same_text w (ascii "buffer")) (Lend Whole)
    (cond (same_text w (ascii "seeprom")) Seeprom
    (cond (same_text w (ascii "packet")) Packet
    (view_of w)))

unfoldable pub kept_of : List ℕ → Word
kept_of w =
    cond (same_text w (ascii "save")) (Make Save)
    (cond (same_text w (ascii "restore")) (Make Restore)
    (given_of w))

unfoldable pub word_of : List ℕ → Word
word_of w =
    cond (same_text w (ascii "occ")) (Make Occ)
    (cond (same_text w (ascii "sbe")) (Make Sbe)
    (cond (same_text w (ascii "send")) (Make Send)
    (cond (same_text w (ascii "load")) (Make Load)
    (cond (same_text w (ascii "undo")) (Make Undo)
    (cond (same_text w (ascii "redo")) (Make Redo)
    (cond (same_text w (ascii "forget")) (Make (Forget 0))
    (cond (same_text w (ascii "time")) (Make (Time 0))
    (cond (same_text w (ascii "watch")) (Make Watch)
    (cond (same_text w (ascii "plan")) (Make (Plan 0))
    (cond (same_text w (ascii "fresh")) (Make Fresh)
    (kept_of w)))))))))))

-- ---- what follows a word

-- "only blanks may follow"
unfoldable pub alone_at : Word → List ℕ → ℕ → Order
alone_at w line place = cond (ltb place (length line)) (wrong_at MoreText (place + 1)) (plainly w)

abbrev pub alone_of : Word → List ℕ → ℕ → Order
alone_of w line from = alone_at w line (past_blanks line from)

-- what stands where the number is due, what is wrong with one "over MAX", and then "only blanks may follow"
unfoldable pub numbered_by : Result Number NumberError → Wrong → (ℕ → Word) → List ℕ → ℕ → Order
numbered_by (Err Missing) over w line column = wrong_at NoNumber column
numbered_by (Err TooGreat) over w line column = wrong_at over column
numbered_by (Ok n) over w line column = alone_of (w n.value) line n.past

abbrev pub size_by : Result Number NumberError → List ℕ → ℕ → Order
size_by x line column = numbered_by x LongBuffer (λ n. Lend (Bytes n)) line column

-- "at most 8,192"; "`buffer` alone"
unfoldable pub buffer_at : List ℕ → ℕ → Order
buffer_at line place = cond (leb (length line) place) (plainly (Lend Whole)) (size_by (number_at line place 8192) line (place + 1))

abbrev pub buffer_of : List ℕ → ℕ → Order
buffer_of line from = buffer_at line (past_blanks line from)

-- a number that must be there
unfoldable pub numbered_at : ℕ → Wrong → (ℕ → Word) → List ℕ → ℕ → Order
numbered_at most over w line place = numbered_by (number_at line place most) over w line (place + 1)

-- `forget N`: "at most 4,294,967,295"
abbrev pub forget_of : List ℕ → ℕ → Order
forget_of line from = numbered_at 4294967295 GreatNumber (λ n. Make (Forget n)) line (past_blanks line from)

-- `time N`: "at most 18,446,744,073,709,551,615"
abbrev pub time_of : List ℕ → ℕ → Order
time_of line from = numbered_at 18446744073709551615 GreatTime (λ n. Make (Time n)) line (past_blanks line from)

-- `plan N`: "N at most 255"
abbrev pub plan_of : List ℕ → ℕ → Order
plan_of line from = numbered_at 255 GreatState (λ n. Make (Plan n)) line (past_blanks line from)

-- n bytes were read, and then a fault; "due are .. the bytes SS and TT themselves", at the column `end` if the line ends first
unfoldable pub bytes_by : Option Fault → Wrong → Word → ℕ → ℕ → ℕ → Order
bytes_by None over w n due end = cond (ltb n due) (wrong_at NoDigit end) (record { word = w; count = n - due; column = 0 })
bytes_by (Some (Digit column)) over w n due end = wrong_at NoDigit column
bytes_by (Some (Over column)) over w n due end = wrong_at over column

-- "another number of bytes"
unfoldable pub image_by : Option Fault → ℕ → Order
image_by None n = cond (not (eqb n image_length)) (wrong_at NoImage 0) (plainly (Make Load))
image_by (Some (Digit column)) n = wrong_at NoDigit column
image_by (Some (Over column)) n = wrong_at NoImage 0

-- a run of bytes as its count and fault
pub record ReadsAs (q : HexRun) (n : ℕ) (f : Option Fault) : Type 0 where
  pub count : n ≡ length q.bytes
  pub wrong : f ≡ q.fault

-- an order, and the buffer with the bytes that it took
pub record Ordered : Type 0 where
  pub order : Order
  pub sent : List ℕ

abbrev pub ordered : Order → List ℕ → Ordered
ordered o d = record { order = o; sent = d }

abbrev pub bytes_of : Wrong → Word → ℕ → HexRun → List ℕ → Order
bytes_of over w due q line = bytes_by q.fault over w (length q.bytes) due (length line + 1)

-- "the most is 8,192 bytes for `occ` (SS not counted) and `sbe`, 8,186 bytes of DATA for `send`"; the data stand where they do in a packet
unfoldable pub occ_of : List ℕ → ℕ → List ℕ → Ordered
occ_of line from d = ordered (bytes_of TooMany (Make Occ) 1 (hex_run line from 8193) line) (pasted 0 (hex_run line from 8193).bytes d)

unfoldable pub plain_bytes : ℕ → Wrong → Word → List ℕ → ℕ → List ℕ → Ordered
plain_bytes most over w line from d = ordered (bytes_of over w 0 (hex_run line from most) line) (pasted 0 (hex_run line from most).bytes d)

abbrev pub sbe_of : List ℕ → ℕ → List ℕ → Ordered
sbe_of line from d = plain_bytes 8192 TooMany (Make Sbe) line from d

-- "for `seeprom` it is 8,192 bytes, and the answer `? seeprom over 8192 bytes`"
abbrev pub seeprom_of : List ℕ → ℕ → List ℕ → Ordered
seeprom_of line from d = plain_bytes 8192 LongSeeprom Seeprom line from d

-- "for `packet` 4,096 bytes and `? packet over 4096 bytes`"
abbrev pub packet_of : List ℕ → ℕ → List ℕ → Ordered
packet_of line from d = plain_bytes 4096 LongPacket Packet line from d

-- "`restore` takes as many as the line holds": with its word it holds fewer than 16,384
abbrev pub restore_of : List ℕ → ℕ → List ℕ → Ordered
restore_of line from d = plain_bytes 16384 TooMany (Make Restore) line from d

unfoldable pub send_of : List ℕ → ℕ → List ℕ → Ordered
send_of line from d = ordered (bytes_of TooMany (Make Send) 2 (hex_run line from 8188) line) (pasted 2 (hex_run line from 8188).bytes d)

unfoldable pub load_of : List ℕ → ℕ → List ℕ → Ordered
load_of line from d =
    ordered (image_by (hex_run line from image_length).fault (length (hex_run line from image_length).bytes))
    (pasted 0 (hex_run line from image_length).bytes d)

unfoldable pub call_of : Call → List ℕ → ℕ → List ℕ → Ordered
call_of Occ line from d = occ_of line from d
call_of Sbe line from d = sbe_of line from d
call_of Send line from d = send_of line from d
call_of Load line from d = load_of line from d
call_of Undo line from d = ordered (alone_of (Make Undo) line from) d
call_of Redo line from d = ordered (alone_of (Make Redo) line from) d
call_of (Forget n) line from d = ordered (forget_of line from) d
call_of (Time n) line from d = ordered (time_of line from) d
call_of Watch line from d = ordered (alone_of (Make Watch) line from) d
call_of (Plan n) line from d = ordered (plan_of line from) d
call_of Save line from d = ordered (alone_of (Make Save) line from) d
call_of Restore line from d = restore_of line from d
call_of Fresh line from d = ordered (alone_of (Make Fresh) line from) d

-- ---- lines

-- the word stands at `at`, and what follows it from `end` on
unfoldable pub order_by : Word → List ℕ → ℕ → ℕ → List ℕ → Ordered
order_by (Make call) line at end d = call_of call line end d
order_by (Look view) line at end d = ordered (alone_of (Look view) line end) d
order_by (Lend buffer) line at end d = ordered (buffer_of line end) d
order_by Seeprom line at end d = seeprom_of line end d
order_by Packet line at end d = packet_of line end d
order_by (Fail what) line at end d = ordered (wrong_at what (at + 1)) d
order_by Skip line at end d = ordered (plainly Skip) d

-- "all bytes up to the next blank or the line's end"
abbrev pub word_length : List ℕ → ℕ → ℕ
word_length line at = prefix_len in_word (drop at line)

unfoldable pub order_at : List ℕ → ℕ → List ℕ → Ordered
order_at line at d = order_by (word_of (take (word_length line at) (drop at line))) line at (at + word_length line at) d

-- "a line of blanks only, or whose first byte that isn't blank is `#`"
unfoldable pub remark : List ℕ → ℕ → Bool
remark line at = cond (leb (length line) at) true (eqb (get_or line at 0) 35)

abbrev pub order_from : List ℕ → List ℕ → ℕ → Ordered
order_from line d at = cond (remark line at) (ordered (plainly Skip) d) (order_at line at d)

unfoldable pub order_of : List ℕ → List ℕ → Ordered
order_of line d = cond (ltb 32768 (length line)) (ordered (wrong_at LongLine 32769) d) (order_from line d (past_blanks line 0))

-- "one CR at the very end of a line belongs to the line end"
unfoldable pub line_length : List ℕ → ℕ
line_length s =
    cond (eqb (length s) 0) 0
    (cond (eqb (get_or s (length s - 1) 0) 13) (length s - 1) (length s))

abbrev pub line_in : List ℕ → List ℕ
line_in s = take (line_length s) s

-- what comes of a line and a buffer: one that is too short for what a line holds takes no order
unfoldable pub order_in : List ℕ → List ℕ → Ordered
order_in s d = cond (ltb (length d) 16390) (ordered (plainly Skip) d) (order_of (line_in s) d)
