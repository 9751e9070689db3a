-- A call as a value: any sender, any bytes, any buffer; and what it comes to, by the definitions that the public contracts cite.
use Rattle.std.specs.Prelude.{ℕ, List, []}
use Rattle.journal.specs.declared.Way.TheVariants.{Before, After}
use Rattle.session.specs.Road.{Asks, Said, settled}
use Rattle.session.specs.declared.Session.{Session}
use Rattle.occ_call.specs.Occ.{occ_asks}
use Rattle.sbe_call.specs.Sbe.{sbe_asks, sbe_data}
use Rattle.undo_call.specs.Undo.{move_asks}
use Rattle.forget_call.specs.Forget.{forget_asks}
use Rattle.time_call.specs.Time.{time_asks}

-- sender, command and reply buffer; request, reply buffer, SEEPROM image and second buffer; undo; redo; forget so many; so many
-- microseconds pass
pub data Call : Type 0 where
  occ : ℕ → List ℕ → List ℕ → Call
  sbe : List ℕ → List ℕ → List ℕ → List ℕ → Call
  undo : Call
  redo : Call
  forget : ℕ → Call
  time : ℕ → Call

-- the reply buffer that it lends
unfoldable pub buffer_of : Call → List ℕ
buffer_of (occ sender c d) = d
buffer_of (sbe r d m x) = d
buffer_of undo = []
buffer_of redo = []
buffer_of (forget n) = []
buffer_of (time n) = []

-- what it asks of a session
unfoldable pub asks : Session → Call → Asks
asks s (occ sender c d) = occ_asks s sender c d
asks s (sbe r d m x) = sbe_asks s r d m x
asks s undo = move_asks Before s
asks s redo = move_asks After s
asks s (forget n) = forget_asks n s
asks s (time n) = time_asks n s

-- what it says and leaves: `occ_call`, `sbe_call`, `undo_call`, `redo_call`, `forget_call` and `time_call` in one
unfoldable pub said : Session → Call → Said
said s c = settled s (buffer_of c) (asks s c)

-- the second buffer as it is left (document 02, h); a call that lends none leaves none
unfoldable pub second_of : Session → Call → List ℕ
second_of s (occ sender c d) = []
second_of s (sbe r d m x) = sbe_data s r d m x
second_of s undo = []
second_of s redo = []
second_of s (forget n) = []
second_of s (time n) = []
