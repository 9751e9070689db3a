-- Laws of reading entries by any table: an entry at the end is read last, and what was read gives the bytes back. Assumes nothing.
use Prim.Native.Nat.{ℕ, zero, suc, ◌+◌, ◌≤◌}
use Rattle.std.specs.Prelude.{◌≡◌, length, take, drop}
use Rattle.std.proofs.Math.Path.{refl, sym, ap}
use Rattle.std.proofs.Common.{subst, ◌∙◌, zero-add, arith, length-append}
use mathlib.Core.List.{List, [], ◌∷◌, ◌++◌, append_assoc, append-nil}
use Rattle.std.proofs.Math.Seq.{take-append_seam, drop-append_seam}
use Rattle.entries.specs.Entries.{Entry, Table, bytes_of, written, Scan, between, within, unknown, opened, eat, scan_from, scan_by, entries_of, newest_at}

-- ---- lengths

pub length_written : (e : Entry) (es : List Entry) → length (written (e ∷ es)) ≡ length (written es) + suc (length e.body)
unfolding written bytes_of
length_written e es = length-append (written es) (e.kind ∷ e.body)

-- an entry has a byte at least
pub count_written : (es : List Entry) → length es ≤ length (written es)
unfolding written
count_written [] = omega arith
count_written (e ∷ es) = omega (arith, count_written es, length_written e es)

pub newest_written : (es : List Entry) → newest_at es ≤ length (written es)
unfolding newest_at
newest_written [] = omega arith
newest_written (e ∷ es) = omega (arith, length_written e es)

module _ (t : Table) where
  -- ---- reading goes on where it stands

  from_append : (s : Scan) (xs ys : List ℕ) → scan_from t s (xs ++ ys) ≡ scan_from t (scan_from t s xs) ys
  unfolding scan_from
  from_append s [] ys = refl
  from_append s (x ∷ xs) ys = from_append (eat t s x) xs ys

  pub scan_append : (j xs : List ℕ) → scan_by t (j ++ xs) ≡ scan_from t (scan_by t j) xs
  unfolding scan_by
  scan_append j xs = from_append (between []) j xs

  -- ---- an entry at the end is read last

  -- all bytes of a body but the first are owed: they are eaten, and the entry is whole
  eat_body : (es : List Entry) (k : ℕ) (b : List ℕ) (x : ℕ) (xs : List ℕ)
      → scan_from t (within es k b (length xs)) (x ∷ xs) ≡ between (record { kind = k; body = b ++ (x ∷ xs) } ∷ es)
  unfolding scan_from eat
  eat_body es k b x [] = refl
  eat_body es k b x (y ∷ xs) =
      eat_body es k (b ++ (x ∷ [])) y xs ∙ ap (λ (l : List ℕ). between (record { kind = k; body = l } ∷ es)) (append_assoc b (x ∷ []) (y ∷ xs))

  eat_entry : (es : List Entry) (k : ℕ) (b : List ℕ) → t k ≡ suc (length b) → scan_from t (between es) (k ∷ b) ≡ between (record { kind = k; body = b } ∷ es)
  unfolding scan_from eat opened
  eat_entry es k [] e = ap (opened es k) e
  eat_entry es k (x ∷ b) e = ap (λ (n : ℕ). scan_from t (opened es k n) (x ∷ b)) e ∙ eat_body es k [] x b

  -- an entry as long as its kind says
  abbrev pub Sized : Entry → Type 0
  Sized e = t e.kind ≡ suc (length e.body)

  pub read_append : (j : List ℕ) (es : List Entry) (e : Entry) → scan_by t j ≡ between es → Sized e → scan_by t (j ++ bytes_of e) ≡ between (e ∷ es)
  unfolding bytes_of
  read_append j es e r p =
      scan_append j (e.kind ∷ e.body) ∙ ap (λ (s : Scan). scan_from t s (e.kind ∷ e.body)) r ∙ eat_entry es e.kind e.body p

  -- ---- what was read gives the bytes back

  abbrev pub Proper : List Entry → Type 0
  Proper [] = Unit {0}
  Proper (e ∷ es) = Sized e × Proper es

  -- the bytes that lead to a reading; what breaks off is a kind whose entry is longer, or a byte that is no kind
  abbrev pub LeadsTo : Scan → List ℕ → Type 0
  LeadsTo (between es) j = (j ≡ written es) × Proper es
  LeadsTo (within es k b n) j = (j ≡ written es ++ (k ∷ b)) × Proper es × (t k ≡ suc (length b + suc n))
  LeadsTo (unknown es) j = ((k : ℕ) × (more : List ℕ) × (j ≡ written es ++ (k ∷ more)) × (t k ≡ 0)) × Proper es

  one_more : (es : List Entry) (b j : List ℕ) (x : ℕ) → j ≡ written es ++ b → j ++ (x ∷ []) ≡ written es ++ (b ++ (x ∷ []))
  one_more es b j x e = ap (λ (l : List ℕ). l ++ (x ∷ [])) e ∙ append_assoc (written es) b (x ∷ [])

  snoc_length : (b : List ℕ) (x n : ℕ) → length b + suc n ≡ length (b ++ (x ∷ [])) + n
  snoc_length b x n = simp length-append (omega arith)

  leads_opened : (es : List Entry) (j : List ℕ) (k n : ℕ) → t k ≡ n → (j ≡ written es) × Proper es → LeadsTo (opened es k n) (j ++ (k ∷ []))
  unfolding opened written bytes_of
  leads_opened es j k zero e h = ((k, [], ap (λ (l : List ℕ). l ++ (k ∷ [])) h.0, e), h.1)
  leads_opened es j k (suc zero) e h = (ap (λ (l : List ℕ). l ++ (k ∷ [])) h.0, (e, h.1))
  leads_opened es j k (suc (suc n)) e h = (ap (λ (l : List ℕ). l ++ (k ∷ [])) h.0, h.1, e ∙ ap suc (sym (zero-add (suc n))))

  leads_eat : (s : Scan) (j : List ℕ) (x : ℕ) → LeadsTo s j → LeadsTo (eat t s x) (j ++ (x ∷ []))
  unfolding eat written bytes_of
  leads_eat (between es) j x h = leads_opened es j x (t x) refl h
  leads_eat (within es k b zero) j x h = (one_more es (k ∷ b) j x h.0, (h.2 ∙ ap suc (sym (length-append b (x ∷ []))), h.1))
  leads_eat (within es k b (suc n)) j x h = (one_more es (k ∷ b) j x h.0, h.1, h.2 ∙ ap suc (snoc_length b x (suc n)))
  leads_eat (unknown es) j x h = ((h.0.0, h.0.1 ++ (x ∷ []), one_more es (h.0.0 ∷ h.0.1) j x h.0.2, h.0.3), h.1)

  leads_from : (s : Scan) (j xs : List ℕ) → LeadsTo s j → LeadsTo (scan_from t s xs) (j ++ xs)
  unfolding scan_from
  leads_from s j [] h = rw append-nil h
  leads_from s j (x ∷ xs) h = rw append_assoc at (leads_from (eat t s x) (j ++ (x ∷ [])) xs (leads_eat s j x h))

  pub leads : (j : List ℕ) → LeadsTo (scan_by t j) j
  unfolding scan_by written
  leads j = leads_from (between []) [] j (refl, tt)

  leads_between : (j : List ℕ) (es : List Entry) → scan_by t j ≡ between es → (j ≡ written es) × Proper es
  leads_between j es r = subst (λ (s : Scan). LeadsTo s j) r (leads j)

  module _ (j : List ℕ) (es : List Entry) (reads : scan_by t j ≡ between es) where
    pub scan_written : j ≡ written es
    scan_written = (leads_between j es reads).0

    pub scan_proper : Proper es
    scan_proper = (leads_between j es reads).1

  pub scan_of_written : (es : List Entry) → Proper es → scan_by t (written es) ≡ between es
  unfolding scan_by scan_from written
  scan_of_written [] h = refl
  scan_of_written (e ∷ es) h = read_append (written es) es e (scan_of_written es h.1) h.0

  -- ---- bytes that break off begin with the entries before, and those read alone

  begins : (s : Scan) (j : List ℕ) → LeadsTo s j → ((rest : List ℕ) × (j ≡ written (entries_of s) ++ rest)) × Proper (entries_of s)
  unfolding entries_of
  begins (between es) j h = (([], h.0 ∙ sym (append-nil (written es))), h.1)
  begins (within es k b n) j h = ((k ∷ b, h.0), h.1)
  begins (unknown es) j h = ((h.0.0 ∷ h.0.1, h.0.2), h.1)

  module _ (j : List ℕ) where
    pub whole_length : length (written (entries_of (scan_by t j))) ≤ length j
    whole_length = let b = (begins (scan_by t j) j (leads j)).0 in omega (arith, ap length b.1, length-append (written (entries_of (scan_by t j))) b.0)

    pub whole_front : take (length (written (entries_of (scan_by t j)))) j ≡ written (entries_of (scan_by t j))
    whole_front = let b = (begins (scan_by t j) j (leads j)).0 in ap (take (length (written (entries_of (scan_by t j))))) b.1 ∙ take-append_seam (written (entries_of (scan_by t j))) b.0

    pub whole_reads : scan_by t (written (entries_of (scan_by t j))) ≡ between (entries_of (scan_by t j))
    whole_reads = scan_of_written (entries_of (scan_by t j)) (begins (scan_by t j) j (leads j)).1

  -- ---- cutting the newest entry off

  module _ (j : List ℕ) (e : Entry) (es : List Entry) (reads : scan_by t j ≡ between (e ∷ es)) where
    pub scan_older : scan_by t (written es) ≡ between es
    scan_older = scan_of_written es (scan_proper j (e ∷ es) reads).1

    pub take_newest : take (newest_at (e ∷ es)) j ≡ written es
    unfolding newest_at written
    take_newest = ap (take (length (written es))) (scan_written j (e ∷ es) reads) ∙ take-append_seam (written es) (bytes_of e)

    pub drop_newest : drop (newest_at (e ∷ es)) j ≡ bytes_of e
    unfolding newest_at written
    drop_newest = ap (drop (length (written es))) (scan_written j (e ∷ es) reads) ∙ drop-append_seam (written es) (bytes_of e)
