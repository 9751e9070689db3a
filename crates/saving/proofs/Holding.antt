-- A walk over entries, as long as they are ones of the base version. Assumes nothing.
use Prim.Native.Nat.{ℕ, ◌+◌, ◌-◌, ◌≤◌}
use mathlib.Core.Bool.{Bool, true, false, cond, not}
use mathlib.Core.Path.{◌≡◌, refl, sym, ap, subst, ◌∙◌}
use mathlib.Core.List.{List, [], ◌∷◌, ◌++◌}
use borrow.Author.Tests.{not-true, not-false}
use lib.ListN.{length, take, drop}
use Rattle.wire.proofs.laws.Cases.{if_b, if_not, else_not}
use Rattle.formed.proofs.laws.Formed.{hold_both}
use Rattle.entries.specs.Entries.{Entry, Sized, body_len, journal_table, scan, entries_of}
use Rattle.entries.proofs.laws.Entries.{Proper, scan_proper}
use Rattle.entries.proofs.laws.ByTable.{whole_reads}
use Rattle.entries.proofs.laws.Ahead.{Walked, walked_none, walked_all, walked_here, walked_next}
use Rattle.session.specs.Session.{entries_in, well_formed}
use Rattle.image.specs.declared.Head.{Head}
use Rattle.image.specs.Image.{part_at, record_in, head_in, journal_in, session_in}
use Rattle.layout.specs.Layout.{journal_at}
use Rattle.inplace.proofs.Watching.{used_part}
use Rattle.inplace.proofs.laws.Marked.{formed_marked}
use Rattle.saving.specs.Moves.{first_rule, base_entry, base_entries, base_holds}

-- one that isn't among them, newer ones before it
not_base : (ns : List Entry) (e : Entry) (es : List Entry) → base_entry e ≡ false → base_entries (ns ++ (e ∷ es)) ≡ false
unfolding base_entries
not_base [] e es h = sym (if_b _ _ (ap not h) refl)
not_base (n ∷ ns) e es h = go (base_entry n) (not_base ns e es h)
  where
    go : (t : Bool) → base_entries (ns ++ (e ∷ es)) ≡ false → cond (not t) false (base_entries (ns ++ (e ∷ es))) ≡ false
    go true k = k
    go false k = refl

-- ---- the walk

abbrev pub Good : List Entry → Type 0
Good es = base_entries es ≡ true

pub none_held : {i j : List ℕ} → i ≡ j → Walked j Good (entries_of (scan i))
unfolding base_entries
none_held e = walked_none Good e refl

sized_in : (ns : List Entry) (e : Entry) (es : List Entry) → Proper (ns ++ (e ∷ es)) → Sized e
sized_in [] e es h = h.0
sized_in (n ∷ ns) e es h = sized_in ns e es h.1

module _ {j : List ℕ} {left : List Entry} (w : Walked j Good left) where
  pub all_held : left ≡ [] → true ≡ base_entries (entries_of (scan j))
  all_held h = sym (walked_all w h)

  module _ (e : Entry) (next : List Entry) (step : left ≡ next ++ (e ∷ [])) where
    pub entry_whole : length e.body ≡ body_len e.kind
    entry_whole = sym (sized_in next e w.given (subst Proper (walked_here w e next step) (scan_proper _ _ (whole_reads journal_table j)))).0

    module _ {r : Bool} (is : r ≡ base_entry e) where
      pub next_held : not r ≡ false → Walked j Good next
      unfolding base_entries
      next_held h = walked_next w e next step (hold_both (sym is ∙ not-false r h) w.holds)

      pub other_held : not r ≡ true → false ≡ base_entries (entries_of (scan j))
      other_held h = sym (ap base_entries (walked_here w e next step) ∙ not_base next e w.given (sym is ∙ not-true r h))

-- ---- a well-formed session in an image's bytes

module _ (h : Head) (d : List ℕ) (read : h ≡ head_in d) (whole : well_formed (session_in h d) ≡ true) where
  pub used_fits : h.used ≤ 2048
  used_fits = (formed_marked h d whole).fits

  journal_is : take (journal_at + h.used - journal_at) (drop journal_at d) ≡ take h.used (journal_in d)
  journal_is = used_part journal_at h.used d used_fits

  thermal_is : part_at 9 172 d ≡ (session_in h d).held.thermal
  unfolding session_in head_in record_in
  thermal_is = sym (ap (λ (k : Head). k.held.thermal) read)

  module _ (r : Bool) (is : r ≡ first_rule (part_at 9 172 d)) where
    pub holds_not : not r ≡ true → false ≡ base_holds (session_in h d)
    unfolding base_holds
    holds_not t = if_not _ _ (is ∙ ap first_rule thermal_is) t refl

    pub holds_so : not r ≡ false → (z : Bool) → z ≡ base_entries (entries_of (scan (take (journal_at + h.used - journal_at) (drop journal_at d)))) → z ≡ base_holds (session_in h d)
    unfolding base_holds session_in entries_in
    holds_so t z e = else_not _ _ (is ∙ ap first_rule thermal_is) t (e ∙ ap (λ (j : List ℕ). base_entries (entries_of (scan j))) journal_is)
