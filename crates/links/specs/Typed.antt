-- Document 01, "What the stand-in holds": what the types of the fields say of a record and of a session. Assumes nothing.
use Rattle.std.specs.Prelude.{◌<◌, ◌^◌, ◌≡◌, length}
use Rattle.record.specs.declared.Record.{Record}
use Rattle.record.specs.Widths.{CapsFit, AreaFits}
use Rattle.session.specs.declared.Session.{Session}

-- lengths of tables, and widths of numbers of several bytes; no law here needs that a single byte is below 256
pub record TypedRecord (r : Record) : Type 0 where
  pub logs : length r.logs ≡ 4
  pub thermal : length r.thermal ≡ 9
  pub sets : length r.throttles.sets ≡ 160
  pub present : r.throttles.present < 256 ^ 2
  pub caps : CapsFit r.caps
  pub user : r.user < 256 ^ 2
  pub mask : r.mask < 256 ^ 4
  pub time : r.deadman.time < 256 ^ 8
  pub ffdc : AreaFits r.areas.ffdc
  pub pass : AreaFits r.areas.pass

-- "a journal of 2,048 bytes .. with its used length", and a redo store likewise; 32 marks of two bytes; the timer
pub record TypedSession (s : Session) : Type 0 where
  pub held : TypedRecord s.held
  pub journal : length s.journal ≡ 2048
  pub next : s.next < 65536
  pub used : s.used < 65536
  pub redo : length s.redo ≡ 2048
  pub ahead : s.ahead < 65536
  pub marks : length s.marks ≡ 64
  pub timer : s.timer.left < 256 ^ 8
