-- docs/PROTOCOL.md, "Words" and "help": the text of each answer, in the pieces that are put one after the other.
use Rattle.std.specs.Prelude.{ℕ, ◌+◌, cond, not, List, [], ◌∷◌, ◌++◌, eqb, ltb, length, take, drop}
use Rattle.wire.specs.Wire.{be_nat, to_be}
use Rattle.text.specs.Text.{ascii, line_end, hex_of, hexes, spaced, decimal, numbers}
use Rattle.listing.specs.Listing.{too_long, listing, longest}
use Rattle.places.specs.Reasons.{words_for}
use Rattle.orders.specs.declared.Wrong.{Wrong}
use Rattle.layout.specs.Layout.{image_length}
use Rattle.orders.specs.declared.Wrong.TheVariants.{LongLine, NoWord, MoreText, NoDigit, TooMany, NoImage, NoNumber, LongBuffer, GreatNumber, GreatTime, LongSeeprom, GreatState, LongPacket, ManyPackets}

-- "Every answer line ends in one LF"
unfoldable pub line_text : List ℕ → List (List ℕ)
line_text s = s ∷ line_end ∷ []

-- ---- what is wrong in a line

unfoldable pub column_text : List ℕ → ℕ → List (List ℕ)
column_text what column = ascii "? " ∷ what ∷ ascii " at column " ∷ decimal column ∷ line_end ∷ []

unfoldable pub image_complaint : List (List ℕ)
image_complaint = ascii "? image must be " ∷ decimal image_length ∷ ascii " bytes\n" ∷ []

unfoldable pub packets_complaint : List (List ℕ)
packets_complaint = line_text (ascii "? six packets at most")

unfoldable pub complaint_text : Wrong → ℕ → List (List ℕ)
complaint_text LongLine column = column_text (ascii "line over 32768 bytes") column
complaint_text NoWord column = column_text (ascii "unknown word") column
complaint_text MoreText column = column_text (ascii "nothing more expected") column
complaint_text NoDigit column = column_text (ascii "hex digit expected") column
complaint_text TooMany column = column_text (ascii "command over 8192 bytes") column
complaint_text NoImage column = image_complaint
complaint_text NoNumber column = column_text (ascii "number expected") column
complaint_text LongBuffer column = column_text (ascii "number over 8192") column
complaint_text GreatNumber column = column_text (ascii "number over 4294967295") column
complaint_text GreatTime column = column_text (ascii "number over 18446744073709551615") column
complaint_text LongSeeprom column = column_text (ascii "seeprom over 8192 bytes") column
complaint_text GreatState column = column_text (ascii "number over 255") column
complaint_text LongPacket column = column_text (ascii "packet over 4096 bytes") column
complaint_text ManyPackets column = packets_complaint

-- ---- calls

-- "the session answer in decimal; if it is 0", what follows it
unfoldable pub call_text : ℕ → List (List ℕ) → List (List ℕ)
call_text answer more = decimal answer ∷ cond (not (eqb answer 0)) (line_end ∷ []) (more ++ (line_end ∷ []))

-- an OCC reply has 7 bytes and the data bytes that its length field counts; none is taken for one that the buffer can't hold
abbrev pub whole_reply : ℕ → List ℕ → ℕ
whole_reply n reply = cond (ltb (length reply) n) 0 n

unfoldable pub reply_length : List ℕ → ℕ
reply_length reply = cond (ltb (length reply) 5) 0 (whole_reply (7 + be_nat (take 2 (drop 3 reply))) reply)

-- "a blank and the reply's bytes, capitals, a blank between"
unfoldable pub reply_text : ℕ → List ℕ → List (List ℕ)
reply_text answer reply = call_text answer (spaced (take (reply_length reply) reply))

-- "` bell XXXX`, the doorbell in four hex digits"
unfoldable pub bell_text : ℕ → List (List ℕ)
bell_text bell = ascii " bell " ∷ hexes (to_be 2 bell)

-- "` data` and, where it read any, a blank and the bytes read, capitals without blanks"
unfoldable pub data_text : List ℕ → List (List ℕ)
data_text bytes = ascii " data" ∷ cond (eqb (length bytes) 0) [] (ascii " " ∷ hexes bytes)

-- as many as the request's size says, which stands at 12 (section 8.2 of source document 003)
unfoldable pub bytes_read : List ℕ → List ℕ → List ℕ
bytes_read request buffer = take (be_nat (take 4 (drop 12 request))) buffer

-- "A read of the SEEPROM (D7 03) with success", by class with command and by both statuses as one number
unfoldable pub read_for : ℕ → ℕ → List ℕ → List (List ℕ)
read_for asked status bytes = cond (not (eqb asked 0xD703)) [] (cond (not (eqb status 0)) [] (data_text bytes))

-- of a whole request and response
unfoldable pub read_text : List ℕ → List ℕ → List ℕ → List (List ℕ)
read_text request response buffer =
    cond (ltb (length request) 32) []
    (cond (ltb (length response) 32) []
    (read_for (be_nat (take 2 (drop 6 request))) (be_nat (take 4 response)) (bytes_read request buffer)))

-- "a blank, the response's 32 bytes likewise", the doorbell, and what was read
unfoldable pub rung_text : ℕ → List ℕ → List ℕ → ℕ → List ℕ → List (List ℕ)
rung_text answer request response bell buffer = call_text answer (spaced response ++ (bell_text bell ++ read_text request response buffer))

-- time: "if it is 0, ` bell XXXX`"
unfoldable pub timed_text : ℕ → ℕ → List (List ℕ)
timed_text answer bell = call_text answer (bell_text bell)

-- redo: "a blank and the kind, two hex digits"
unfoldable pub kind_text : ℕ → ℕ → List (List ℕ)
kind_text answer kind = call_text answer (ascii " " ∷ hex_of kind ∷ [])

-- undo: the same, "a blank and the number passed" (document 02, i)
unfoldable pub passed_text : ℕ → ℕ → ℕ → List (List ℕ)
passed_text answer kind passed = call_text answer (ascii " " ∷ hex_of kind ∷ ascii " " ∷ decimal passed ∷ [])

-- "` plan` and, for each packet in order, a blank and its number in decimal, or ` no plan`", which a 0 says
unfoldable pub plan_text : ℕ → List ℕ → List (List ℕ)
plan_text found order = cond (eqb found 0) (ascii " no plan" ∷ []) (ascii " plan" ∷ numbers order)

unfoldable pub planned_text : ℕ → ℕ → List ℕ → List (List ℕ)
planned_text answer found order = call_text answer (plan_text found order)

-- "`save `, then the session's save .. in capitals without blanks; the session answer .. if it isn't well formed"
unfoldable pub saved_text : ℕ → List ℕ → List (List ℕ)
saved_text answer form = cond (not (eqb answer 0)) (line_text (decimal answer)) (ascii "save " ∷ (hexes form ++ (line_end ∷ [])))

-- ---- views

-- "`0`, or the number and the reason's words"
unfoldable pub why_text : ℕ → ℕ → List (List ℕ)
why_text reason at = cond (eqb reason 0) (line_text (ascii "0")) (decimal at ∷ ascii " " ∷ ascii (words_for reason) ∷ line_end ∷ [])

-- "`image `, then the session's bytes in capitals without blanks"
unfoldable pub image_text : List ℕ → List (List ℕ)
image_text bytes = ascii "image " ∷ (hexes bytes ++ (line_end ∷ []))

-- "the listing of the used journal as `list_journal` writes it, `too long` if the used length is over 2,048"; `room` bytes take the longest
-- listing or none
unfoldable pub list_text : ℕ → List ℕ → ℕ → List (List ℕ)
list_text room j used =
    cond (ltb (length j) used) (too_long ∷ [])
    (cond (ltb room longest) [] (listing (take used j) ∷ []))

-- "then a line `.`"
unfoldable pub journal_text : ℕ → List ℕ → ℕ → List (List ℕ)
journal_text room j used = list_text room j used ++ (ascii ".\n" ∷ [])

unfoldable pub help_text : List (List ℕ)
help_text =
    ascii "occ SS BYTES      an OCC command from sender SS (10 HTMGT, 20 BMC)\n"
    ∷ ascii "sbe BYTES         an SBE mailbox request of 32 bytes\n"
    ∷ ascii "undo              take the newest change back\n"
    ∷ ascii "redo              put the change last taken back in again\n"
    ∷ ascii "forget N          forget the N oldest changes\n"
    ∷ ascii "time N            N microseconds have passed\n"
    ∷ ascii "watch             go on with a watch-only session over this one\n"
    ∷ ascii "fresh             begin again with a fresh session\n"
    ∷ ascii "image             the session as " ∷ decimal image_length ∷ ascii " bytes\n"
    ∷ ascii "load BYTES        go on with the session of such an image\n"
    ∷ ascii "save              the session in the form for keeping\n"
    ∷ ascii "restore BYTES     go on with the session of such a form\n"
    ∷ ascii "send SS TT DATA   as occ: a packet of type TT, framed for you\n"
    ∷ ascii "buffer N          reply buffers of N bytes; alone: whole ones again\n"
    ∷ ascii "seeprom BYTES     lend these bytes as the SEEPROM's image\n"
    ∷ ascii "packet BYTES      prepare a packet for a plan; alone: drop all\n"
    ∷ ascii "plan N            in which order prepared packets lead to state N\n"
    ∷ ascii "why               which data byte the last packet had wrong\n"
    ∷ ascii "show              the session for a person\n"
    ∷ ascii "journal           the journal's entries\n"
    ∷ ascii "help              these words\n"
    ∷ ascii ".\n"
    ∷ []
