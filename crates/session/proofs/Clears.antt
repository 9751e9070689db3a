-- A walk over entries, as long as they are clears. Assumes nothing.
use Rattle.std.specs.Prelude.{ℕ, true, false, ◌≡◌, refl, List, [], ◌∷◌, ◌++◌}
use Rattle.std.proofs.Common.{sym, ap, ◌∙◌}
use Rattle.entries.specs.Entries.{Entry, scan, entries_of}
use Rattle.entries.proofs.laws.Ahead.{Walked, walked_none, walked_all, walked_here, walked_next}
use Rattle.session.specs.Session.{only_clears}
use Rattle.session.proofs.laws.Watch.{clears_more, not_clears}

abbrev pub Clear : List Entry → Type 0
Clear es = only_clears es ≡ true

pub none_cleared : {i j : List ℕ} → i ≡ j → Walked j Clear (entries_of (scan i))
unfolding only_clears
none_cleared e = walked_none Clear e refl

module _ {j : List ℕ} {left : List Entry} (w : Walked j Clear left) where
  pub all_clears : left ≡ [] → true ≡ only_clears (entries_of (scan j))
  all_clears h = sym (walked_all w h)

  module _ (e : Entry) (next : List Entry) (step : left ≡ next ++ (e ∷ [])) where
    pub next_cleared : e.kind ≡ 1 → Walked j Clear next
    next_cleared k = walked_next w e next step (clears_more e w.given k w.holds)

    pub other_kind : (e.kind ≡ 1 → ⊥) → false ≡ only_clears (entries_of (scan j))
    other_kind k = sym (ap only_clears (walked_here w e next step) ∙ not_clears next e w.given k)
