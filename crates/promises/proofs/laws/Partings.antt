-- What two traces share plays alike in both. Assumes nothing.
use Rattle.std.specs.Prelude.{ℕ, ◌≡◌, List, [], ◌∷◌, ◌++◌, length, take}
use Rattle.std.proofs.Math.Path.{sym, ap}
use Rattle.std.proofs.Common.{◌∙◌, append_assoc, append-nil}
use Rattle.std.proofs.Math.Seq.{take-append_seam}
use Rattle.entries.specs.Entries.{Entry, entries_of}
use Rattle.trace.specs.Trace.{trace_scan}
use Rattle.session.specs.Session.{fresh_session}
use Rattle.image.specs.Image.{image_of}
use Rattle.parting.specs.Parting.{front, shared_entries, shared_part, parting_of}
use Rattle.parting.proofs.laws.Parting.{Newer, newer_first, newer_second}
use Rattle.playing.specs.Playing.{image_after}
use Rattle.playing.specs.Steps.{oldest_first, image_from, lines_from}
use Rattle.playing.proofs.laws.Steps.{length_oldest, image_by_steps, lines_by_steps, pieces_of_whole, entries_of_whole}
use Rattle.promises.specs.Partings.{first_entries, PlaysAsFirst}

-- newer entries come later
oldest_append : (more es : List Entry) → oldest_first (more ++ es) ≡ oldest_first es ++ oldest_first more
unfolding oldest_first
oldest_append [] es = sym (append-nil (oldest_first es))
oldest_append (e ∷ more) es =
    ap (λ (l : List Entry). l ++ (e ∷ [])) (oldest_append more es) ∙ append_assoc (oldest_first es) (oldest_first more) (e ∷ [])

first_of : {fs es : List Entry} → Newer fs es → take (length es) (oldest_first fs) ≡ oldest_first es
first_of {es = es} n =
    ap (λ (l : List Entry). take (length es) (oldest_first l)) n.1
    ∙ ap (take (length es)) (oldest_append n.0 es)
    ∙ ap (λ (m : ℕ). take m (oldest_first es ++ oldest_first n.0)) (sym (length_oldest es))
    ∙ take-append_seam (oldest_first es) (oldest_first n.0)

module _ (t u : List ℕ) where
  pub same_first : first_entries (parting_of t u).entries t ≡ first_entries (parting_of t u).entries u
  unfolding parting_of
  same_first = first_of (newer_first t u) ∙ sym (first_of (newer_second t u))

  plays_as : (v : List ℕ) → Newer (entries_of (trace_scan v)) (shared_entries t u) → PlaysAsFirst (shared_part t u) (parting_of t u).entries v
  unfolding shared_part parting_of
  plays_as v n =
      let first : oldest_first (shared_entries t u) ≡ first_entries (length (shared_entries t u)) v = sym (first_of n) in (
        ap image_after (entries_of_whole (front t u))
            ∙ sym (image_by_steps (shared_entries t u))
            ∙ ap (image_from (image_of fresh_session)) first,
        pieces_of_whole (front t u)
            ∙ sym (lines_by_steps (shared_entries t u))
            ∙ ap (lines_from (image_of fresh_session) 1) first,
      )

  pub part_plays_as_first : PlaysAsFirst (shared_part t u) (parting_of t u).entries t
  part_plays_as_first = plays_as t (newer_first t u)

  pub part_plays_as_second : PlaysAsFirst (shared_part t u) (parting_of t u).entries u
  part_plays_as_second = plays_as u (newer_second t u)
