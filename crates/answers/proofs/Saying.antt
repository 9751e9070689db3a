-- What each test of an answer chooses to say. Assumes nothing.
use Prim.Native.Nat.{ℕ, ◌+◌, ◌-◌, ◌<◌, ◌≤◌}
use mathlib.Core.Path.{◌≡◌, refl, sym, ap, ap₂, ◌∙◌}
use mathlib.Core.List.{List, [], ◌∷◌, ◌++◌, append-nil}
use native.Mathlib.Nat.{zero-add}
use native.Mathlib.Omega.{arith}
use lib.ListN.{length, take, drop, length-drop, drop_of_length-le}
use lib.Seq.{take_all, drop-drop}
use Rattle.wire.specs.Wire.{pasted, be_nat}
use Rattle.wire.proofs.laws.Wire.{take_pasted, tail_part}
use Rattle.wire.proofs.laws.Cases.{if_lt, else_lt, if_ne, else_ne}
use Rattle.text.specs.Text.{line_end, decimal, sheet, put_on}
use Rattle.text.proofs.laws.Pieces.{put_fits}
use Rattle.listing.specs.Listing.{too_long, listing, longest, listed, listed_length}
use Rattle.listing.proofs.laws.Lengths.{length_listing}
use Rattle.answers.specs.Answers.{line_text, call_text, whole_reply, reply_length, data_text, bytes_read, read_for, read_text, saved_text, list_text}

-- ---- after the session answer

module _ (answer : ℕ) (more : List (List ℕ)) where
  pub refused : (answer ≡ 0 → ⊥) → decimal answer ∷ line_end ∷ [] ≡ call_text answer more
  unfolding call_text
  refused h = ap (λ (l : List (List ℕ)). decimal answer ∷ l) (if_ne _ _ h refl)

  pub accepted : answer ≡ 0 → decimal answer ∷ (more ++ (line_end ∷ [])) ≡ call_text answer more
  unfolding call_text
  accepted h = ap (λ (l : List (List ℕ)). decimal answer ∷ l) (else_ne _ _ h refl)

-- ---- the length of a reply

module _ (s : List ℕ) where
  pub reply_none : length s < 5 → 0 ≡ reply_length s
  unfolding reply_length
  reply_none h = if_lt _ _ h refl

  module _ (n : ℕ) (head : 5 ≤ length s) (field : n ≡ be_nat (take 2 (drop 3 s))) where
    reply_by : whole_reply (7 + n) s ≡ reply_length s
    unfolding reply_length
    reply_by = else_lt _ _ head (ap (λ (m : ℕ). whole_reply (7 + m) s) field)

    pub reply_cut : length s < 7 + n → 0 ≡ reply_length s
    reply_cut h = if_lt 0 (7 + n) h refl ∙ reply_by

    pub reply_whole : 7 + n ≤ length s → 7 + n ≡ reply_length s
    reply_whole h = else_lt 0 (7 + n) h refl ∙ reply_by

-- ---- what was read of the SEEPROM

module _ (request buffer : List ℕ) {n : ℕ} (size : n ≡ be_nat (take 4 (drop 12 request))) where
  pub read_all : length buffer < n → buffer ≡ bytes_read request buffer
  unfolding bytes_read
  read_all h = sym (take_all (be_nat (take 4 (drop 12 request))) buffer (omega (arith, size)))

  pub read_part : take n buffer ≡ bytes_read request buffer
  unfolding bytes_read
  read_part = ap (λ (m : ℕ). take m buffer) size

module _ (request response buffer : List ℕ) where
  pub read_no_request : length request < 32 → [] ≡ read_text request response buffer
  unfolding read_text
  read_no_request h = if_lt _ _ h refl

  module _ (whole : 32 ≤ length request) where
    pub read_no_response : length response < 32 → [] ≡ read_text request response buffer
    unfolding read_text
    read_no_response h = else_lt _ _ whole (if_lt _ _ h refl)

    module _ (answered : 32 ≤ length response) {asked : ℕ} (a : asked ≡ be_nat (take 2 (drop 6 request))) where
      read_by : {status : ℕ} {ps : List (List ℕ)} → status ≡ be_nat (take 4 response) → ps ≡ read_for asked status (bytes_read request buffer)
          → ps ≡ read_text request response buffer
      unfolding read_text
      read_by {status} s e =
          else_lt _ _ whole
          (else_lt _ _ answered
          (e ∙ ap₂ (λ (n m : ℕ). read_for n m (bytes_read request buffer)) a s))

      pub read_other : (asked ≡ 0xD703 → ⊥) → [] ≡ read_text request response buffer
      unfolding read_for
      read_other h = read_by refl (if_ne _ _ h refl)

      module _ (read : asked ≡ 0xD703) {status : ℕ} (s : status ≡ be_nat (take 4 response)) where
        pub read_refused : (status ≡ 0 → ⊥) → [] ≡ read_text request response buffer
        unfolding read_for
        read_refused h = read_by s (else_ne _ _ read (if_ne _ _ h refl))

        pub read_done : status ≡ 0 → data_text (bytes_read request buffer) ≡ read_text request response buffer
        unfolding read_for
        read_done h = read_by s (else_ne _ _ read (else_ne _ _ h refl))

-- ---- a save

module _ (answer : ℕ) (form : List ℕ) where
  pub save_refused : (answer ≡ 0 → ⊥) → decimal answer ∷ line_end ∷ [] ≡ saved_text answer form
  unfolding saved_text line_text
  save_refused h = if_ne _ _ h refl

-- ---- the listing

module _ (j : List ℕ) (used room : ℕ) where
  pub list_long : length j < used → too_long ∷ [] ≡ list_text room j used
  unfolding list_text
  list_long h = if_lt _ _ h refl

  module _ (fits : used ≤ length j) where
    pub list_short : room < longest → [] ≡ list_text room j used
    unfolding list_text
    list_short h = else_lt _ _ fits (if_lt _ _ h refl)

    pub list_used : longest ≤ room → listing (take used j) ∷ [] ≡ list_text room j used
    unfolding list_text
    list_used h = else_lt _ _ fits (else_lt _ _ h refl)

-- ---- a listing in a buffer that takes the longest

module _ (j d : List ℕ) (room : longest ≤ length d) {d' : List ℕ} {n : ℕ} (p : n ≡ listed_length j d) (q : d' ≡ listed j d) where
  listed_count : n ≡ length (listing j)
  unfolding listed_length
  listed_count = p ∙ sym (else_lt _ _ room refl)

  listed_bytes : d' ≡ pasted 0 (listing j) d
  unfolding listed
  listed_bytes = q ∙ sym (else_lt _ _ room refl)

  pub listed_apart : take n d' ≡ listing j
  listed_apart = rw (listed_count, listed_bytes, ← zero-add (length (listing j))) (take_pasted 0 (listing j) d (omega (arith, length_listing j)))

-- the buffer is what stands of another one from a place on
pub listed_there : (j d : List ℕ) (at : ℕ) {x : List ℕ} {n : ℕ} → at ≤ length d → longest ≤ length d - at
    → n ≡ listed_length j (take (length d - at) (drop at d)) → x ≡ listed j (take (length d - at) (drop at d))
    → sheet (take at d ++ (x ++ drop (length d - at) (drop at d))) (at + n) ≡ put_on (sheet d at) (listing j)
unfolding pasted
listed_there j d at {x} {n} h k p q =
    let part = take (length d - at) (drop at d) in
    let room : longest ≤ length part = omega (arith, ap length (tail_part d at), length-drop at d) in
    let bytes = listed_bytes j part room p q in
    let none : drop (length d - at) (drop at d) ≡ [] = drop_of_length-le (drop at d) {i = length d - at} (simp length-drop (omega arith)) in
    let text : take at d ++ (x ++ drop (length d - at) (drop at d)) ≡ pasted at (listing j) d = rw (bytes, none, append-nil, tail_part, zero-add, drop-drop) in
    let end : at + n ≡ at + length (listing j) = ap (λ (m : ℕ). at + m) (listed_count j part room p q) in
    ap₂ sheet text end ∙ put_fits at (listing j) d h (omega (arith, length_listing j)) refl
