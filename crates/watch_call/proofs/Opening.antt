-- What the steps of the call give back, from what they call. Assumes nothing.
use Prim.Native.Nat.{ℕ}
use mathlib.Core.Path.{◌≡◌, sym, ap, ◌∙◌}
use mathlib.Core.List.{List}
use lib.ListN.{length, replicate}
use Rattle.wire.proofs.laws.Cases.{else_ne}
use Rattle.record.specs.Record.{worked_of}
use Rattle.record.specs.declared.Worked.{Worked}
use Rattle.entries.specs.Entries.{scan_from, scan_by, entries_of}
use Rattle.marks.specs.Marks.{milestones, spelled, marks_of}
use Rattle.session.specs.Session.{entries_in, renewed, with_profile}
use Rattle.session.specs.Road.{opens, watch_only, done, settled}
use Rattle.session.specs.declared.Session.{Session}
use Rattle.image.specs.declared.Head.{Head}
use Rattle.image.specs.Image.{image_of, session_in, written_to}
use Rattle.layout.specs.Layout.{image_length}
use Rattle.inplace.specs.declared.Told.{Told}
use Rattle.inplace.specs.InPlace.{Opens, Unopened, rung_left}
use Rattle.inplace.proofs.laws.Silent as silent
use Rattle.watch_call.specs.Watch.{watch_asks, watch_call, opened_by, watch_on}

abbrev pub Tells : Session → Told → List ℕ → Type 0
Tells s t y = (t ≡ (opened_by s opens).told) × (y ≡ (opened_by s opens).image)

-- on the head h of the lent bytes b: w is what is worked out of its record
module _ (h : Head) (b : List ℕ) (long : length b ≡ image_length) (w : Worked) (worked : w ≡ worked_of h.held) where
  abbrev made : Session
  made = record { held = h.held; worked = w; next = h.next; journal = replicate 2048 0; used = 0; redo = replicate 2048 0; ahead = 0; marks = replicate 64 0; timer = h.timer; profile = 1 }

  made_is : made ≡ watch_only (session_in h b)
  unfolding watch_only renewed with_profile session_in entries_in entries_of scan_by scan_from marks_of milestones spelled
  made_is = λ i.
      record { held = h.held; worked = worked i; next = h.next; journal = replicate 2048 0; used = 0; redo = replicate 2048 0; ahead = 0; marks = replicate 64 0; timer = h.timer; profile = 1 }

  pub opened_on : (t : Told) (y : List ℕ) → t ≡ record { answer = 0; small = 0; beside = 0 } → y ≡ written_to b made → Tells (session_in h b) t y
  unfolding opened_by rung_left settled done written_to
  opened_on t y p q = (p, q ∙ sym (else_ne _ _ long (ap image_of (sym made_is))))

-- ---- the whole call

pub unopened : (b : List ℕ) → Unopened b → (t : Told) → t ≡ record { answer = 1; small = 0; beside = 0 } → (t ≡ (watch_on b).told) × (b ≡ (watch_on b).image)
unfolding watch_on watch_call watch_asks
unopened = silent.unopened (λ (x : Session). opens) rung_left silent.rung_refused

pub opened_in : (b : List ℕ) (h : Head) → Opens b h → (t : Told) (y : List ℕ) → Tells (session_in h b) t y → (t ≡ (watch_on b).told) × (y ≡ (watch_on b).image)
unfolding watch_on watch_call watch_asks opened_by
opened_in = silent.formed_told (λ (x : Session). opens) rung_left silent.rung_refused
