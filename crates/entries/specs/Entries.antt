-- Document 01, "The journal": each entry is one byte of kind, then a body whose length the kind fixes. A trace (document 02, a) is made of such
-- entries too, of other kinds: a row of entries is read by a table of lengths, and the journal's is one such table.
use Rattle.std.specs.Prelude.{ℕ, zero, suc, ◌≤◌, cond, List, [], ◌∷◌, ◌++◌, ◌≡◌, ltb, eqb, length, get_or, drop, Option, None, Some, Result, Ok, Err}
use Rattle.entries.specs.declared.Whole.{Whole}
use Rattle.entries.specs.declared.Broken.{Broken}
use Rattle.entries.specs.declared.Fault.{Fault}
use Rattle.entries.specs.declared.Fault.TheVariants.{UnknownKind, Cut}

pub record Entry : Type 0 where
  pub kind : ℕ
  pub body : List ℕ

-- an entry's bytes, and those of entries that stand newest first
unfoldable pub bytes_of : Entry → List ℕ
bytes_of e = e.kind ∷ e.body

unfoldable pub written : List Entry → List ℕ
written [] = []
written (e ∷ es) = written es ++ bytes_of e

-- ---- reading by a table, a byte after the other

-- for each kind the length of a whole entry, its kind included; 0 where there is no such kind
abbrev pub Table : Type 0
Table = ℕ → ℕ

-- between two entries, with those read, newest first; within a body, with its kind, its bytes read and how many more than
-- one are owed; at an unknown kind
pub data Scan : Type 0 where
  between : List Entry → Scan
  within : List Entry → ℕ → List ℕ → ℕ → Scan
  unknown : List Entry → Scan

-- a kind was read whose entries have so many bytes: one without a body is whole
unfoldable pub opened : List Entry → ℕ → ℕ → Scan
opened es k zero = unknown es
opened es k (suc zero) = between (record { kind = k; body = [] } ∷ es)
opened es k (suc (suc n)) = within es k [] n

unfoldable pub eat : Table → Scan → ℕ → Scan
eat t (between es) k = opened es k (t k)
eat t (within es k b zero) x = between (record { kind = k; body = b ++ (x ∷ []) } ∷ es)
eat t (within es k b (suc n)) x = within es k (b ++ (x ∷ [])) n
eat t (unknown es) x = unknown es

unfoldable pub scan_from : Table → Scan → List ℕ → Scan
scan_from t s [] = s
scan_from t s (x ∷ xs) = scan_from t (eat t s x) xs

unfoldable pub scan_by : Table → List ℕ → Scan
scan_by t j = scan_from t (between []) j

-- the entries before the end, or before what breaks them
unfoldable pub entries_of : Scan → List Entry
entries_of (between es) = es
entries_of (within es k b n) = es
entries_of (unknown es) = es

-- ---- what was read, as the code says it: a place is the number of bytes before it

unfoldable pub newest_at : List Entry → ℕ
newest_at [] = 0
newest_at (e ∷ es) = length (written es)

-- whole entries, or what breaks them
abbrev pub Reading : Type 0
Reading = Result Whole Broken

unfoldable pub reading_of : Scan → Reading
reading_of (between es) = Ok (record { count = length es; newest = newest_at es })
reading_of (within es k b n) = Err (record { place = length (written es); fault = Cut })
reading_of (unknown es) = Err (record { place = length (written es); fault = UnknownKind })

-- a place that was found lies within the n bytes read
abbrev pub ReadingFits : ℕ → Reading → Type 0
ReadingFits n (Ok whole) = (whole.newest ≤ n) × (whole.count ≤ n)
ReadingFits n (Err broken) = broken.place ≤ n

-- ---- one entry at a time: what stands at the front of bytes

-- a kind whose entries have n bytes, where there are so many
unfoldable pub next_for : ℕ → ℕ → Result ℕ Fault
next_for n have = cond (eqb n 0) (Err UnknownKind) (cond (ltb have n) (Err Cut) (Ok n))

-- the length of a whole entry, none at the end, or why it won't read
abbrev pub Next : Type 0
Next = Result (Option ℕ) Fault

unfoldable pub some_next : Result ℕ Fault → Next
some_next (Ok n) = Ok (Some n)
some_next (Err fault) = Err fault

unfoldable pub next_by : Table → List ℕ → Next
next_by t b = cond (eqb (length b) 0) (Ok None) (some_next (next_for (t (get_or b 0 0)) (length b)))

-- the entry that is these bytes
abbrev pub entry_of : List ℕ → Entry
entry_of b = record { kind = get_or b 0 0; body = drop 1 b }

-- ---- the journal's table

-- the length of each kind's body: 01 clear, 02 state, 03 role, 04 caps, 05 user cap, 06 thermal, 07 throttles, 08 reset, 09 mask,
-- 0A deadman, 0B areas, 0C timer (document 02, h); 0 stands for no such kind
abbrev pub body_lengths : List ℕ
body_lengths = 0 ∷ 3 ∷ 1 ∷ 2 ∷ 7 ∷ 2 ∷ 10 ∷ 163 ∷ 2 ∷ 4 ∷ 9 ∷ 24 ∷ 9 ∷ []

unfoldable pub body_len : ℕ → ℕ
body_len k = get_or body_lengths k 0

-- no kind of the journal has an empty body
unfoldable pub with_kind : ℕ → ℕ
with_kind zero = zero
with_kind (suc n) = suc (suc n)

unfoldable pub journal_table : Table
journal_table k = with_kind (body_len k)

abbrev pub scan : List ℕ → Scan
scan j = scan_by journal_table j

-- bytes that read as entries of the journal
pub record ReadsWhole (j : List ℕ) : Type 0 where
  pub entries : List Entry
  pub reads : scan j ≡ between entries

-- a body as long as its kind says, and a kind that there is
abbrev pub Sized : Entry → Type 0
Sized e = (body_len e.kind ≡ length e.body) × (1 ≤ length e.body)
