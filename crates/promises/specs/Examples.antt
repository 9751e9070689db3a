-- Document 01, "Worked examples (proved)": ten rows under one claim, at the bytes, replies whole.
use Rattle.std.specs.Prelude.{ℕ, ◌≡◌, List, [], ◌∷◌, ◌++◌, get_or, take, replicate}
use Rattle.wire.specs.Wire.{to_be, packet_sum}
use Rattle.record.specs.Record.{no_log}
use Rattle.session.specs.Session.{fresh_session}
use Rattle.session.specs.declared.Session.{Session}
use Rattle.promises.specs.Calls.{Call, occ, sbe, undo, said}
use Rattle.session.specs.Road.{Said}

-- calls on a fresh session, what is looked at after the last of them, and what is seen there
pub record Row : Type 0 where
  pub calls : List Call
  pub look : Said → List ℕ
  pub seen : List ℕ

-- HTMGT's command, with a reply buffer of 4,096 bytes of 0xEE
unfoldable pub sent : List ℕ → Call
sent c = occ 0x10 c (replicate 4096 0xEE)

unfoldable pub after : Session → List Call → Said
after s [] = record { answer = 0; session = s; bell = 0; kind = 0; reply = [] }
after s (c ∷ []) = said s c
after s (c ∷ b ∷ cs) = after (said s c).session (b ∷ cs)

abbrev pub holds : Row → Type 0
holds r = r.look (after fresh_session r.calls) ≡ r.seen

-- ---- the commands, as document 01 has them, and those that bring a master with caps about

unfoldable pub poll : List ℕ
poll = 0x01 ∷ 0x00 ∷ 0x00 ∷ 0x01 ∷ 0x10 ∷ 0x00 ∷ 0x12 ∷ []

unfoldable pub bad_poll : List ℕ
bad_poll = 0x01 ∷ 0x00 ∷ 0x00 ∷ 0x01 ∷ 0x10 ∷ 0x00 ∷ 0x13 ∷ []

unfoldable pub cap1000 : List ℕ
cap1000 = 0x02 ∷ 0x22 ∷ 0x00 ∷ 0x02 ∷ 0x03 ∷ 0xE8 ∷ 0x01 ∷ 0x11 ∷ []

unfoldable pub master : List ℕ
master = 0x03 ∷ 0x21 ∷ 0x00 ∷ 0x02 ∷ 0x03 ∷ 0x01 ∷ 0x00 ∷ 0x2A ∷ []

unfoldable pub caps500to1500 : List ℕ
caps500to1500 = 0x06 ∷ 0x21 ∷ 0x00 ∷ 0x08 ∷ 0x07 ∷ 0x10 ∷ 0x01 ∷ 0xF4 ∷ 0x05 ∷ 0xDC ∷ 0x00 ∷ 0x00 ∷ 0x02 ∷ 0x1C ∷ []

unfoldable pub caps1100to1500 : List ℕ
caps1100to1500 = 0x06 ∷ 0x21 ∷ 0x00 ∷ 0x08 ∷ 0x07 ∷ 0x10 ∷ 0x04 ∷ 0x4C ∷ 0x05 ∷ 0xDC ∷ 0x00 ∷ 0x00 ∷ 0x01 ∷ 0x77 ∷ []

unfoldable pub caps500to900 : List ℕ
caps500to900 = 0x06 ∷ 0x21 ∷ 0x00 ∷ 0x08 ∷ 0x07 ∷ 0x10 ∷ 0x01 ∷ 0xF4 ∷ 0x03 ∷ 0x84 ∷ 0x00 ∷ 0x00 ∷ 0x01 ∷ 0xC2 ∷ []

unfoldable pub processor : List ℕ
processor = 0x04 ∷ 0x21 ∷ 0x00 ∷ 0x07 ∷ 0x13 ∷ 0x10 ∷ 0x01 ∷ 0x00 ∷ 0x55 ∷ 0x5F ∷ 0x05 ∷ 0x01 ∷ 0x09 ∷ []

unfoldable pub active : List ℕ
active = 0x05 ∷ 0x20 ∷ 0x00 ∷ 0x03 ∷ 0x00 ∷ 0x03 ∷ 0x00 ∷ 0x00 ∷ 0x2B ∷ []

unfoldable pub reset : List ℕ
reset = 0x07 ∷ 0x25 ∷ 0x00 ∷ 0x02 ∷ 0x00 ∷ 0x01 ∷ 0x00 ∷ 0x2F ∷ []

unfoldable pub cores_out : List ℕ
cores_out = 0x00 ∷ 0x00 ∷ 0x01 ∷ 0x00 ∷ 0x00 ∷ 0x07 ∷ 0xD1 ∷ 0x03 ∷ 0x00 ∷ 0x00 ∷ 0x00 ∷ 0x03 ∷ replicate 20 0x00

-- an unknown type with data length n, as many bytes of 0x01, and the right checksum
unfoldable pub unknown_type : ℕ → List ℕ
unknown_type n = 0x09 ∷ 0x30 ∷ (to_be 2 n ++ replicate n 0x01)

unfoldable pub summed : List ℕ → List ℕ
summed c = c ++ to_be 2 (packet_sum c)

-- ---- the table: a reply is shown with the first byte past it, which is kept

unfoldable pub table : List Row
table =
    -- 1: the poll of a fresh session, wanted 03 and state 01
    record {
      calls = sent poll ∷ [];
      look = λ (x : Said). x.answer ∷ take 48 x.reply;
      seen = 0 ∷ 0x01 ∷ 0x00 ∷ 0x00 ∷ 0x00 ∷ 0x28 ∷ 0x00 ∷ 0x00 ∷ 0x01 ∷ 0x03 ∷ 0x01 ∷ 0x00 ∷ 0x00 ∷ 0x00 ∷ 0x00 ∷ 0x00 ∷ 0x00 ∷ 0x00 ∷ 0x00 ∷ 0x00 ∷ 0x00 ∷ 0x00 ∷ 0x62 ∷ 0x65 ∷ 0x6E ∷ 0x63 ∷ 0x68 ∷ 0x00 ∷ 0x00 ∷ 0x00 ∷ 0x00 ∷ 0x00 ∷ 0x00 ∷ 0x00 ∷ 0x00 ∷ 0x00 ∷ 0x00 ∷ 0x00 ∷ 0x53 ∷ 0x45 ∷ 0x4E ∷ 0x53 ∷ 0x4F ∷ 0x52 ∷ 0x00 ∷ 0x01 ∷ 0x04 ∷ 0x09 ∷ 0xEE ∷ [];
    }
    -- 2: its last byte 13
    ∷ record {
      calls = sent bad_poll ∷ [];
      look = λ (x : Said). x.answer ∷ take 9 x.reply;
      seen = 0 ∷ 0x01 ∷ 0x00 ∷ 0x14 ∷ 0x00 ∷ 0x01 ∷ 0x00 ∷ 0x00 ∷ 0x16 ∷ 0xEE ∷ [];
    }
    -- 3: a master's caps 500 to 1,500: limit 1,000; then caps 1,100 to 1,500: limit 1,100
    ∷ record {
      calls = sent master ∷ sent caps500to1500 ∷ sent cap1000 ∷ [];
      look = λ (x : Said). x.answer ∷ x.session.worked.limit ∷ take 8 x.reply;
      seen = 0 ∷ 1000 ∷ 0x02 ∷ 0x22 ∷ 0x00 ∷ 0x00 ∷ 0x00 ∷ 0x00 ∷ 0x24 ∷ 0xEE ∷ [];
    }
    ∷ record {
      calls = sent master ∷ sent caps500to1500 ∷ sent cap1000 ∷ sent caps1100to1500 ∷ [];
      look = λ (x : Said). x.answer ∷ x.session.worked.limit ∷ take 8 x.reply;
      seen = 0 ∷ 1100 ∷ 0x06 ∷ 0x21 ∷ 0x00 ∷ 0x00 ∷ 0x00 ∷ 0x00 ∷ 0x27 ∷ 0xEE ∷ [];
    }
    -- 4: the same on a master with caps 500 to 900
    ∷ record {
      calls = sent master ∷ sent caps500to900 ∷ sent cap1000 ∷ [];
      look = λ (x : Said). x.answer ∷ x.session.held.user ∷ take 9 x.reply;
      seen = 0 ∷ 0 ∷ 0x02 ∷ 0x22 ∷ 0x13 ∷ 0x00 ∷ 0x01 ∷ 0x00 ∷ 0x00 ∷ 0x38 ∷ 0xEE ∷ [];
    }
    -- 5: master
    ∷ record {
      calls = sent master ∷ [];
      look = λ (x : Said). x.answer ∷ x.session.held.received.role ∷ x.session.held.role ∷ take 8 x.reply;
      seen = 0 ∷ 1 ∷ 1 ∷ 0x03 ∷ 0x21 ∷ 0x00 ∷ 0x00 ∷ 0x00 ∷ 0x00 ∷ 0x24 ∷ 0xEE ∷ [];
    }
    -- 6: processor 85, 95, 5
    ∷ record {
      calls = sent processor ∷ [];
      look = λ (x : Said). x.answer ∷ take 8 x.reply ++ x.session.held.thermal;
      seen = 0 ∷ 0x04 ∷ 0x21 ∷ 0x00 ∷ 0x00 ∷ 0x00 ∷ 0x00 ∷ 0x25 ∷ 0xEE ∷ 0x55 ∷ 0x5F ∷ 0x05 ∷ 0xFF ∷ 0xFF ∷ 0xFF ∷ 0xFF ∷ 0xFF ∷ 0xFF ∷ [];
    }
    -- 7: 0x16 on a fresh session
    ∷ record {
      calls = sent active ∷ [];
      look = λ (x : Said). x.answer ∷ x.session.held.state ∷ take 9 x.reply;
      seen = 0 ∷ 1 ∷ 0x05 ∷ 0x20 ∷ 0x16 ∷ 0x00 ∷ 0x01 ∷ 0x00 ∷ 0x00 ∷ 0x3C ∷ 0xEE ∷ [];
    }
    -- 8: id 1; undone and sent again: id 2
    ∷ record {
      calls = sent reset ∷ [];
      look = λ (x : Said). x.answer ∷ (get_or x.session.held.logs 0 no_log).id ∷ take 8 x.reply;
      seen = 0 ∷ 1 ∷ 0x07 ∷ 0x25 ∷ 0x00 ∷ 0x00 ∷ 0x00 ∷ 0x00 ∷ 0x2C ∷ 0xEE ∷ [];
    }
    ∷ record {
      calls = sent reset ∷ undo ∷ sent reset ∷ [];
      look = λ (x : Said). x.answer ∷ (get_or x.session.held.logs 0 no_log).id ∷ x.session.next ∷ take 8 x.reply;
      seen = 0 ∷ 2 ∷ 3 ∷ 0x07 ∷ 0x25 ∷ 0x00 ∷ 0x00 ∷ 0x00 ∷ 0x00 ∷ 0x2C ∷ 0xEE ∷ [];
    }
    -- 9: cores 30 and 31 out, doorbell bit 0
    ∷ record {
      calls = sbe cores_out (replicate 33 0xEE) [] [] ∷ [];
      look = λ (x : Said). x.answer ∷ x.bell ∷ x.session.held.mask ∷ x.reply;
      seen = 0 ∷ 0x8000 ∷ 3 ∷ 0x00 ∷ 0x00 ∷ 0x00 ∷ 0x00 ∷ 0x00 ∷ 0x07 ∷ 0xD1 ∷ 0x03 ∷ 0x00 ∷ 0x00 ∷ 0x00 ∷ 0x00 ∷ 0x00 ∷ 0x00 ∷ 0x00 ∷ 0x00 ∷ 0x00 ∷ 0x00 ∷ 0x00 ∷ 0x00 ∷ 0x00 ∷ 0x00 ∷ 0x00 ∷ 0x00 ∷ 0x00 ∷ 0x00 ∷ 0x00 ∷ 0x00 ∷ 0x00 ∷ 0x00 ∷ 0x00 ∷ 0x00 ∷ 0xEE ∷ [];
    }
    -- 10: L = 4,090 in 4,096 bytes is read, and its type unknown; 4,091 is 0x12
    ∷ record {
      calls = sent (summed (unknown_type 4090)) ∷ [];
      look = λ (x : Said). x.answer ∷ take 9 x.reply;
      seen = 0 ∷ 0x09 ∷ 0x30 ∷ 0x11 ∷ 0x00 ∷ 0x01 ∷ 0x00 ∷ 0x00 ∷ 0x4B ∷ 0xEE ∷ [];
    }
    ∷ record {
      calls = sent (summed (unknown_type 4091)) ∷ [];
      look = λ (x : Said). x.answer ∷ take 9 x.reply;
      seen = 0 ∷ 0x09 ∷ 0x30 ∷ 0x12 ∷ 0x00 ∷ 0x01 ∷ 0x00 ∷ 0x00 ∷ 0x4C ∷ 0xEE ∷ [];
    }
    ∷ []

abbrev pub All : {A : Type 0} → (A → Type 0) → List A → Type 0
All P [] = Unit {0}
All P (x ∷ xs) = P x × All P xs
