-- What calls and changes leave in the lent bytes of a session.
use Rattle.std.specs.Prelude.{cond, not, List, ◌∷◌, ◌≡◌, length, take, eqb, ℕ, ◌+◌, ◌≤◌, Option, Some, None, true, false, MatchOption}
use Rattle.change.specs.Change.{put_after, timer_after}
use Rattle.change.specs.declared.Edit.{Edit}
use Rattle.entries.specs.Entries.{Entry, written, between, scan}
use Rattle.marks.specs.Marks.{marks_of}
use Rattle.journal.specs.Add.{added_to}
use Rattle.session.specs.Session.{Carried, entries_in, marks_for, made_of, well_formed}
use Rattle.session.specs.Road.{Said}
use Rattle.session.specs.declared.Session.{Session}
use Rattle.image.specs.declared.Head.{Head}
use Rattle.image.specs.Image.{image_of, head_in, head_renewed, head_timed, with_part, journal_in, redo_in, marks_in, session_in, session_of}
use Rattle.layout.specs.Layout.{marks_size, marks_at, image_length}
use Rattle.inplace.specs.declared.Told.{Told}

-- h is the head that stands in these bytes, which are an image
pub record HeadStands (h : Head) (b : List ℕ) : Type 0 where
  pub long : length b ≡ image_length
  pub image : b ≡ image_of (session_in h b)

-- h is the head that was read of these bytes, which are the image of a well-formed session
pub record Opens (b : List ℕ) (h : Head) : Type 0 where
  pub long : length b ≡ image_length
  pub read : h ≡ head_in b
  pub stands : HeadStands h b
  pub formed : well_formed (session_in h b) ≡ true

-- these bytes are no image, or the image of a session that isn't well formed
abbrev pub Unopened : List ℕ → Type 0
Unopened b = length b ≡ image_length → (well_formed (session_of b) ≡ false) × (b ≡ image_of (session_of b))

-- n is the answer that refuses a call, where one does; 0 is none
abbrev pub Refused : ℕ → Option ℕ → Type 0
Refused n v = MatchOption v (n ≡ 0) (λ m. (m ≡ n) × (m ≡ 0 → ⊥))

-- the journal reads as entries up to its used bytes, and the marks are theirs
pub record Marked (used : ℕ) (b : List ℕ) : Type 0 where
  pub fits : used ≤ 2048
  pub entries : List Entry
  pub reads : scan (take used (journal_in b)) ≡ between entries
  pub marks_are : marks_in b ≡ marks_of entries

-- y are the bytes b with the marks for one entry more, whatever it is, at the used end
abbrev pub MarksMore : ℕ → List ℕ → List ℕ → Type 0
MarksMore used b y = (e : Entry) → y ≡ with_part marks_size marks_at (marks_of (e ∷ entries_in used (journal_in b))) b

-- y are the bytes b with an entry more at the used end of the journal, which ends at m then, and its marks
pub record HasMore (used : ℕ) (e : Edit) (m : ℕ) (b y : List ℕ) : Type 0 where
  pub long : length y ≡ image_length
  pub journal : journal_in y ≡ added_to used e (journal_in b)
  pub redo : redo_in y ≡ redo_in b
  pub marks_are : marks_in y ≡ marks_for (added_to used e (journal_in b)) m

abbrev pub Entered : ℕ → Edit → List ℕ → List ℕ → Option ℕ → Type 0
Entered used e b y (Some m) = HasMore used e m b y
Entered used e b y None = y ≡ b

-- as Marked, and the newest of the entries begins at a place
pub record MarkedTo (used at : ℕ) (b : List ℕ) : Type 0 where
  pub marked : Marked used b
  pub newest : Entry
  pub older : List Entry
  pub are : marked.entries ≡ newest ∷ older
  pub begins : at ≡ length (written older)

-- the head after a change whose entry ends at `used`: the redo store is empty then
unfoldable pub head_after : Head → Edit → ℕ → Head
head_after h e used = head_renewed (head_timed h (timer_after h.timer e.change)) (put_after h.held e) (h.next + made_of e.change) used 0

-- the image of the session after it; the bytes as they were where its entry has no room
unfoldable pub carried_in : List ℕ → Carried → List ℕ
carried_in b k = cond k.full b (image_of k.session)

-- what a call tells, and the lent bytes and the reply buffer as it leaves them (a call without a reply buffer: none)
pub record Left : Type 0 where
  pub told : Told
  pub image : List ℕ
  pub reply : List ℕ

-- of a call that rings: the doorbell stands beside the answer
unfoldable pub rung_left : Said → Left
rung_left q = record { told = record { answer = q.answer; small = 0; beside = q.bell }; image = image_of q.session; reply = q.reply }

-- bytes of another length than an image's are no session: answer 1, and all is kept
abbrev pub no_image : List ℕ → List ℕ → Left
no_image b d = record { told = record { answer = 1; small = 0; beside = 0 }; image = b; reply = d }

-- a call on lent bytes is the call on the session that they are the image of; d is the reply buffer
unfoldable pub on_image : List ℕ → List ℕ → (Session → Left) → Left
on_image b d call = cond (not (eqb (length b) image_length)) (no_image b d) (call (session_of b))
