-- The two forms written from a session's image, part after part. Assumes nothing.
use Prim.Native.Nat.{ℕ, ◌+◌, ◌-◌, ◌≤◌, ◌<◌}
use mathlib.Core.Path.{◌≡◌, refl, sym, ap, ◌∙◌}
use mathlib.Core.List.{List, [], ◌∷◌, ◌++◌, append_assoc, append-nil}
use native.Mathlib.Omega.{arith}
use lib.Dec.{lit<}
use lib.ListN.{length, take, drop, length-append}
use lib.Seq.{length-take-le, drop-cons}
use Rattle.wire.specs.Wire.{to_be, joined, pasted, Bytes}
use Rattle.wire.proofs.laws.Cases.{if_lt, else_lt}
use Rattle.wire.proofs.laws.Wire.{field_next}
use Rattle.image.proofs.Fields.{paste_on}
use Rattle.image.specs.Image.{byte_at, part_at, number_at, journal_in, redo_in, marks_in, timer_in, head_in, session_in, session_of}
use Rattle.image.proofs.laws.Typed.{typed_image}
use Rattle.layout.specs.Layout.{journal_at, image_length}
use Rattle.inplace.proofs.Watching.{used_part}
use Rattle.inplace.specs.declared.Told.{Told}
use Rattle.saving.proofs.laws.Parts.{regroup}
use Rattle.saving.specs.Forms.{base_rows, base_of, saved_length, saved_rows, saved_of}
use Rattle.saving.specs.Moves.{Outcome, Allows, refused, put_into}
use Rattle.saving.proofs.laws.Record.{record_again}
use Rattle.saving.proofs.laws.Forms.{one, number, length_saved, part_long as part_of}

-- a kind and its body
pub part_put : (at kind : ℕ) (body d x y : List ℕ) → at + (length body + 1) ≤ length d → x ≡ pasted at (kind ∷ []) d → y ≡ pasted (at + 1) body x → y ≡ pasted at (kind ∷ body) d
part_put at kind body d x y h p q = q ∙ ap (pasted (at + 1) body) p ∙ paste_on at (kind ∷ []) body d (omega arith)

-- ---- the new form

-- parts of these lengths, one after the other
seven : (a b c d e f g out : List ℕ) → length a ≡ 231 → length b ≡ 3 → length c ≡ 2049 → length d ≡ 2049 → length e ≡ 65 → length f ≡ 2
    → (y1 y2 y3 y4 y5 y6 y7 : List ℕ) → y1 ≡ pasted 0 a out → y2 ≡ pasted 231 b y1 → y3 ≡ pasted 234 c y2 → y4 ≡ pasted 2283 d y3 → y5 ≡ pasted 4332 e y4 → y6 ≡ pasted 4397 f y5
    → y7 ≡ pasted 4399 g y6 → y7 ≡ pasted 0 (a ++ (b ++ (c ++ (d ++ (e ++ (f ++ g)))))) out
seven a b c d e f g out la lb lc ld le lf y1 y2 y3 y4 y5 y6 y7 p1 p2 p3 p4 p5 p6 p7 =
    let n2 : 234 ≡ length (a ++ b) = sym (length-append a b ∙ omega (arith, la, lb)) in
    let n3 : 2283 ≡ length ((a ++ b) ++ c) = sym (length-append (a ++ b) c ∙ omega (arith, n2, lc)) in
    let n4 : 4332 ≡ length (((a ++ b) ++ c) ++ d) = sym (length-append ((a ++ b) ++ c) d ∙ omega (arith, n3, ld)) in
    let n5 : 4397 ≡ length ((((a ++ b) ++ c) ++ d) ++ e) = sym (length-append (((a ++ b) ++ c) ++ d) e ∙ omega (arith, n4, le)) in
    let n6 : 4399 ≡ length (((((a ++ b) ++ c) ++ d) ++ e) ++ f) = sym (length-append ((((a ++ b) ++ c) ++ d) ++ e) f ∙ omega (arith, n5, lf)) in
    let q2 = field_next 231 a b out y1 y2 p1 p2 (sym la) in
    let q3 = field_next 234 (a ++ b) c out y2 y3 q2 p3 n2 in
    let q4 = field_next 2283 ((a ++ b) ++ c) d out y3 y4 q3 p4 n3 in
    let q5 = field_next 4332 (((a ++ b) ++ c) ++ d) e out y4 y5 q4 p5 n4 in
    let q6 = field_next 4397 ((((a ++ b) ++ c) ++ d) ++ e) f out y5 y6 q5 p6 n5 in
    field_next 4399 (((((a ++ b) ++ c) ++ d) ++ e) ++ f) g out y6 y7 q6 p7 n6 ∙ ap (λ (l : List ℕ). pasted 0 l out) (regroup a b c d e f g)

module _ (b : List ℕ) (bytes : Bytes b) (long : length b ≡ image_length) where
  inside : (at n : ℕ) → at + n ≤ image_length → at + n ≤ length b
  inside at n h = omega (arith, long, h)

  pub part_long : (n at : ℕ) → at + n ≤ image_length → length (part_at n at b) ≡ n
  part_long n at h = part_of b bytes n at (inside at n h)

  timer_part : byte_at 4401 b ∷ (to_be 8 (number_at 8 4402 b) ++ []) ≡ part_at 9 4401 b
  timer_part =
      ap (λ (l : List ℕ). byte_at 4401 b ∷ l) (append-nil (to_be 8 (number_at 8 4402 b)) ∙ number b bytes 8 4402 (inside 4402 8 (lit< tt)))
      ∙ sym (ap (take 9) (drop-cons b 4401 0 (inside 4401 1 (lit< tt))))

  saved_parts : saved_of (session_of b)
      ≡ (1 ∷ take 230 b) ++ ((2 ∷ part_at 2 235 b) ++ ((3 ∷ journal_in b) ++ ((4 ∷ redo_in b) ++ ((5 ∷ marks_in b) ++ ((6 ∷ part_at 1 4410 b) ++ (7 ∷ part_at 9 4401 b))))))
  unfolding saved_of saved_rows joined session_of session_in head_in timer_in
  saved_parts = λ i.
      1
      ∷ (record_again b bytes (omega (arith, long)) i
      ++ (2
      ∷ (number b bytes 2 235 (inside 235 2 (lit< tt)) i
      ++ (3 ∷ (journal_in b ++ (4 ∷ (redo_in b ++ (5 ∷ (marks_in b ++ (6 ∷ (one b bytes 4410 (inside 4410 1 (lit< tt)) i ++ (7 ∷ timer_part i))))))))))))

  pub saved_long : length (saved_of (session_of b)) ≡ saved_length
  saved_long = length_saved (session_of b) (typed_image b bytes long).session

  pub saved_put : (out y1 y2 y3 y4 y5 y6 y7 : List ℕ) → y1 ≡ pasted 0 (1 ∷ take 230 b) out → y2 ≡ pasted 231 (2 ∷ part_at 2 235 b) y1 → y3 ≡ pasted 234 (3 ∷ journal_in b) y2
      → y4 ≡ pasted 2283 (4 ∷ redo_in b) y3 → y5 ≡ pasted 4332 (5 ∷ marks_in b) y4 → y6 ≡ pasted 4397 (6 ∷ part_at 1 4410 b) y5 → y7 ≡ pasted 4399 (7 ∷ part_at 9 4401 b) y6
      → (y7 ≡ pasted 0 (saved_of (session_of b)) out) × (length (saved_of (session_of b)) ≡ saved_length)
  saved_put out y1 y2 y3 y4 y5 y6 y7 p1 p2 p3 p4 p5 p6 p7 =
      let la : length (1 ∷ take 230 b) ≡ 231 = omega (arith, length-take-le 230 b (omega (arith, long))) in
      let lb : length (2 ∷ part_at 2 235 b) ≡ 3 = omega (arith, part_long 2 235 (lit< tt)) in
      let lc : length (3 ∷ journal_in b) ≡ 2049 = omega (arith, part_long 2048 239 (lit< tt)) in
      let ld : length (4 ∷ redo_in b) ≡ 2049 = omega (arith, part_long 2048 2289 (lit< tt)) in
      let le : length (5 ∷ marks_in b) ≡ 65 = omega (arith, part_long 64 4337 (lit< tt)) in
      let lf : length (6 ∷ part_at 1 4410 b) ≡ 2 = omega (arith, part_long 1 4410 (lit< tt)) in (
        seven (1 ∷ take 230 b) (2 ∷ part_at 2 235 b) (3 ∷ journal_in b) (4 ∷ redo_in b) (5 ∷ marks_in b) (6 ∷ part_at 1 4410 b) (7 ∷ part_at 9 4401 b) out la lb lc ld le lf y1 y2 y3 y4 y5 y6 y7 p1 p2 p3 p4 p5 p6 p7
            ∙ ap (λ (l : List ℕ). pasted 0 l out) (sym saved_parts),
        saved_long,
      )

  -- ---- the base form

  module _ (used : ℕ) (is : used ≡ (session_of b).used) (fits : used ≤ 2048) where
    abbrev last : List ℕ
    last = take (journal_at + used - journal_at) (drop journal_at b)

    base_parts : base_of (session_of b) ≡ (take 230 b ++ part_at 2 235 b) ++ last
    unfolding base_of base_rows joined session_of session_in head_in
    base_parts =
        (λ i.
        record_again b bytes (omega (arith, long)) i
        ++ (number b bytes 2 235 (inside 235 2 (lit< tt)) i
        ++ (append-nil (take (session_of b).used (journal_in b)) ∙ ap (λ (n : ℕ). take n (journal_in b)) (sym is) ∙ sym (used_part journal_at used b fits)) i))
        ∙ sym (append_assoc (take 230 b) (part_at 2 235 b) last)

    two_long : length (take 230 b ++ part_at 2 235 b) ≡ 232
    two_long = length-append (take 230 b) (part_at 2 235 b) ∙ omega (arith, length-take-le 230 b (omega (arith, long)), part_long 2 235 (lit< tt))

    pub last_long : length last ≡ used
    last_long =
        ap length (used_part journal_at used b fits) ∙ length-take-le used (journal_in b) (omega (arith, fits, part_long 2048 239 (lit< tt)))

    pub base_long : length (base_of (session_of b)) ≡ 232 + used
    base_long = ap length base_parts ∙ length-append (take 230 b ++ part_at 2 235 b) last ∙ omega (arith, two_long, last_long)

    pub base_put : (out x y z : List ℕ) → x ≡ pasted 0 (take 230 b) out → y ≡ pasted 230 (part_at 2 235 b) x → z ≡ pasted 232 last y
        → (z ≡ pasted 0 (base_of (session_of b)) out) × (length (base_of (session_of b)) ≡ 232 + used)
    base_put out x y z p q r =
        let n : 230 ≡ length (take 230 b) = sym (length-take-le 230 b (omega (arith, long))) in (
          field_next 232 (take 230 b ++ part_at 2 235 b) last out y z (field_next 230 (take 230 b) (part_at 2 235 b) out x y p q n) r (sym two_long)
              ∙ ap (λ (l : List ℕ). pasted 0 l out) (sym base_parts),
          base_long,
        )

-- ---- a buffer that is too short, and one that isn't

module _ (x out : List ℕ) (n : ℕ) (is : length x ≡ n) (t : Told) where
  pub put_short : length out < n → t ≡ record { answer = 13; small = 0; beside = 0 } → Allows (put_into x out) t out
  unfolding put_into
  put_short h e =
      let z : refused 13 out ≡ put_into x out = if_lt _ _ {m = length out} {n = length x} (omega (arith, h, is)) refl in
      (e ∙ ap (λ (o : Outcome). o.told) z, ap (λ (o : Outcome). o.out) z)

  pub put_done : (y : List ℕ) → n ≤ length out → t ≡ record { answer = 0; small = 0; beside = n } → y ≡ pasted 0 x out → Allows (put_into x out) t y
  unfolding put_into
  put_done y h e p =
      let z : record { told = record { answer = 0; small = 0; beside = length x }; out = pasted 0 x out } ≡ put_into x out = else_lt _ _ {m = length out} {n = length x} (omega (arith, h, is)) refl in
      (e ∙ ap (λ (k : ℕ). record { answer = 0; small = 0; beside = k }) (sym is) ∙ ap (λ (o : Outcome). o.told) z, p ∙ ap (λ (o : Outcome). o.out) z)
