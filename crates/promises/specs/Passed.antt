-- Document 02, i: the marks of entries and the number passed, in the request's words.
use Rattle.std.specs.Prelude.{ℕ, ◌-◌, ◌*◌, ◌≤◌, ◌<◌, ◌≡◌, List, length, take, drop}
use Rattle.entries.specs.Entries.{Entry, written}
use Rattle.marks.specs.Marks.{mark_in}
use Rattle.journal.specs.declared.Way.TheVariants.{Before}
use Rattle.session.specs.declared.Session.{Session}
use Rattle.promises.specs.WellFormed.{EntriesHold}

-- "a mark at every 32nd entry, counting the first as marked": the mark with k before it is where the entry with 32 × k before it begins, and
-- 0 where there is no such entry. The entries stand newest first, so those before that entry are the last 32 × k of the list
pub record MarksStand (m : List ℕ) (es : List Entry) : Type 0 where
  pub long : length m ≡ 64
  pub marked : (k : ℕ) → k < 32 → 32 * k < length es → mark_in m k ≡ length (written (drop (length es - 32 * k) es))
  pub unused : (k : ℕ) → k < 32 → length es ≤ 32 * k → mark_in m k ≡ 0

-- "it equals the entries held, less one, less the greatest multiple of 32 not above that"
pub record PassedAsHeld (s : Session) (passed : ℕ) : Type 0 where
  pub held : List Entry
  pub journal_is : take s.used s.journal ≡ written held
  pub hold : EntriesHold Before held
  pub multiple : ℕ
  pub not_above : 32 * multiple ≤ length held - 1
  pub greatest : (k : ℕ) → 32 * k ≤ length held - 1 → k ≤ multiple
  pub some : 1 ≤ length held
  pub is : passed ≡ length held - 1 - 32 * multiple
