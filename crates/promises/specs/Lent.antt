-- The calls for C, one after the other on one lent image.
use Rattle.std.specs.Prelude.{ℕ, cond, List, [], ◌∷◌, eqb}
use Rattle.journal.specs.declared.Way.TheVariants.{Before}
use Rattle.image.specs.Image.{image_of}
use Rattle.session.specs.declared.Session.{Session}
use Rattle.inplace.specs.declared.Told.{Told}
use Rattle.occ_call.specs.Occ.{occ_on, occ_why, beside_of}
use Rattle.sbe_call.specs.Sbe.{sbe_on}
use Rattle.undo_call.specs.Undo.{passed_by, undo_on, redo_on}
use Rattle.forget_call.specs.Forget.{forget_on}
use Rattle.time_call.specs.Time.{time_on}
use Rattle.watch_call.specs.Watch.{watch_call}
use Rattle.inplace.specs.InPlace.{Left}
use Rattle.bjargolsk.specs.Calls.{packed}
use Rattle.promises.specs.Calls.{Call, occ, sbe, undo, redo, forget, time, said}

pub record Lent : Type 0 where
  pub result : ℕ
  pub image : List ℕ
  pub reply : List ℕ

-- what the contracts of the C functions say (a call without a reply buffer leaves none)
unfoldable pub lent : List ℕ → Call → Lent
lent b (occ sender c d) = record { result = packed (occ_on b sender c d).told; image = (occ_on b sender c d).image; reply = (occ_on b sender c d).reply }
lent b (sbe r d m x) = record { result = packed (sbe_on b r d m x).told; image = (sbe_on b r d m x).image; reply = (sbe_on b r d m x).reply }
lent b undo = record { result = packed (undo_on b).told; image = (undo_on b).image; reply = (undo_on b).reply }
lent b redo = record { result = packed (redo_on b).told; image = (redo_on b).image; reply = (redo_on b).reply }
lent b (forget n) = record { result = packed (forget_on n b).told; image = (forget_on n b).image; reply = (forget_on n b).reply }
lent b (time n) = record { result = packed (time_on n b).told; image = (time_on n b).image; reply = (time_on n b).reply }

-- the same of a call on a session: the answer lowest, above it reason and byte, doorbell, kind and number passed; the session as its image
unfoldable pub told : Session → Call → Told
told s (occ sender c d) = beside_of (said s (occ sender c d)).answer (occ_why s sender c d)
told s (sbe r d m x) = record { answer = (said s (sbe r d m x)).answer; small = 0; beside = (said s (sbe r d m x)).bell }
told s undo = record { answer = (said s undo).answer; small = cond (eqb (said s undo).answer 0) (passed_by Before s) 0; beside = (said s undo).kind }
told s redo = record { answer = (said s redo).answer; small = 0; beside = (said s redo).kind }
told s (forget n) = record { answer = (said s (forget n)).answer; small = 0; beside = 0 }
told s (time n) = record { answer = (said s (time n)).answer; small = 0; beside = (said s (time n)).bell }

unfoldable pub carried_over : Session → Call → Lent
carried_over s c = record { result = packed (told s c); image = image_of (said s c).session; reply = (said s c).reply }

unfoldable pub lent_run : List ℕ → List Call → List ℕ
lent_run b [] = b
lent_run b (c ∷ cs) = lent_run (lent b c).image cs

-- ---- an opening (document 02, k): the answer alone, and the session's image

abbrev pub watched_on : Session → Left
watched_on s = record { told = record { answer = (watch_call s).answer; small = 0; beside = 0 }; image = image_of (watch_call s).session; reply = [] }
