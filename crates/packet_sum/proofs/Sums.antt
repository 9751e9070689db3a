-- Sums of parts of a packet, and how they join. Assumes nothing.
use Rattle.std.proofs.Common.{◌≡◌, ℕ, zero, suc, ◌+◌, ◌-◌, ◌*◌, ◌%◌, ◌≤◌, List, [], ◌∷◌, ◌++◌, length, get_or, take, drop, sym, refl, ap, ◌∙◌, subst, add-one, arith, get_or-drop, take-add}
use native.Mathlib.Nat.{mod-add-mod}
use lib.Seq.{take-length}
use Rattle.wire.specs.Wire.{sum_of, packet_sum}

-- ---- one_by_one: the bytes before i are in the sum

sum_take_suc : (l : List ℕ) (i : ℕ) → sum_of (take (suc i) l) ≡ sum_of (take i l) + get_or l i 0
unfolding sum_of
sum_take_suc [] zero = refl
sum_take_suc [] (suc i) = refl
sum_take_suc (x ∷ l) zero = omega arith
sum_take_suc (x ∷ l) (suc i) = omega (arith, sum_take_suc l i)

pub sum_none : packet_sum [] ≡ 0
unfolding packet_sum sum_of
sum_none = refl

pub sum_more : (l : List ℕ) (i a r : ℕ) → a ≡ packet_sum (take i l) → r ≡ (a + get_or l i 0) % 65536 → r ≡ packet_sum (take (i + 1) l)
unfolding packet_sum
sum_more l i a r p q = q ∙ ap (λ (k : ℕ). (k + get_or l i 0) % 65536) p ∙ mod-add-mod (sum_of (take i l)) 65536 (get_or l i 0) ∙ rw (add-one, sum_take_suc)

pub sum_all : (l : List ℕ) (i : ℕ) → i ≡ length l → packet_sum (take i l) ≡ packet_sum l
sum_all l i e = rw (e, take-length)

-- ---- eight_joined: one sum after the other

sums_join : (t x y r : ℕ) → x ≡ t % 65536 → r ≡ (x + y) % 65536 → r ≡ (t + y) % 65536
sums_join t x y r p q = q ∙ ap (λ (k : ℕ). (k + y) % 65536) p ∙ mod-add-mod t 65536 y

pub eight_join : (a b c d e f g h x₁ x₂ x₃ x₄ x₅ x₆ r : ℕ) → x₁ ≡ (a + b) % 65536 → x₂ ≡ (x₁ + c) % 65536 → x₃ ≡ (x₂ + d) % 65536 → x₄ ≡ (x₃ + e) % 65536
    → x₅ ≡ (x₄ + f) % 65536
    → x₆ ≡ (x₅ + g) % 65536
    → r ≡ (x₆ + h) % 65536
    → r ≡ (a + b + c + d + e + f + g + h) % 65536
eight_join a b c d e f g h x₁ x₂ x₃ x₄ x₅ x₆ r p₁ p₂ p₃ p₄ p₅ p₆ p₇ =
    sums_join (a + b + c + d + e + f + g) x₆ h r
    (sums_join (a + b + c + d + e + f) x₅ g x₆
    (sums_join (a + b + c + d + e) x₄ f x₅ (sums_join (a + b + c + d) x₃ e x₄ (sums_join (a + b + c) x₂ d x₃ (sums_join (a + b) x₁ c x₂ p₁ p₂) p₃) p₄) p₅) p₆) p₇

-- ---- eight_parts: each part of n bytes has a sum of its own

-- its first i bytes are in the sum
pub record Parts (s : List ℕ) (n i a b c d e f g h : ℕ) : Type 0 where
  pub one : a ≡ packet_sum (take i s)
  pub two : b ≡ packet_sum (take i (drop n s))
  pub three : c ≡ packet_sum (take i (drop (2 * n) s))
  pub four : d ≡ packet_sum (take i (drop (3 * n) s))
  pub five : e ≡ packet_sum (take i (drop (4 * n) s))
  pub six : f ≡ packet_sum (take i (drop (5 * n) s))
  pub seven : g ≡ packet_sum (take i (drop (6 * n) s))
  pub eight : h ≡ packet_sum (take i (drop (7 * n) s))

pub parts_none : (s : List ℕ) (n : ℕ) → Parts s n 0 0 0 0 0 0 0 0 0
parts_none s n =
    let z = sym sum_none in record { one = z; two = z; three = z; four = z; five = z; six = z; seven = z; eight = z }

-- one byte more in the part from m on
part_more : (s : List ℕ) (m i a r : ℕ) → a ≡ packet_sum (take i (drop m s)) → r ≡ (a + get_or s (m + i) 0) % 65536 → r ≡ packet_sum (take (i + 1) (drop m s))
part_more s m i a r p q = sum_more (drop m s) i a r p (q ∙ ap (λ (x : ℕ). (a + x) % 65536) (sym (get_or-drop m s i 0)))

module _ (s : List ℕ) (n i : ℕ) {a b c d e f g h : ℕ} (p : Parts s n i a b c d e f g h) where
  pub parts_more : {a' b' c' d' e' f' g' h' : ℕ} → a' ≡ (a + get_or s i 0) % 65536
      → b' ≡ (b + get_or s (n + i) 0) % 65536
      → c' ≡ (c + get_or s (2 * n + i) 0) % 65536
      → d' ≡ (d + get_or s (3 * n + i) 0) % 65536
      → e' ≡ (e + get_or s (4 * n + i) 0) % 65536
      → f' ≡ (f + get_or s (5 * n + i) 0) % 65536
      → g' ≡ (g + get_or s (6 * n + i) 0) % 65536
      → h' ≡ (h + get_or s (7 * n + i) 0) % 65536
      → Parts s n (i + 1) a' b' c' d' e' f' g' h'
  parts_more qa qb qc qd qe qf qg qh =
      record {
        one = sum_more s i _ _ p.one qa;
        two = part_more s n i _ _ p.two qb;
        three = part_more s (2 * n) i _ _ p.three qc;
        four = part_more s (3 * n) i _ _ p.four qd;
        five = part_more s (4 * n) i _ _ p.five qe;
        six = part_more s (5 * n) i _ _ p.six qf;
        seven = part_more s (6 * n) i _ _ p.seven qg;
        eight = part_more s (7 * n) i _ _ p.eight qh;
      }

sum_append : (xs ys : List ℕ) → sum_of (xs ++ ys) ≡ sum_of xs + sum_of ys
unfolding sum_of
sum_append [] ys = omega arith
sum_append (x ∷ xs) ys = omega (arith, sum_append xs ys)

-- the part from m on joins the bytes before it
part_joins : (s : List ℕ) (m n k x y r : ℕ) → m + n ≡ k → x ≡ packet_sum (take m s) → y ≡ packet_sum (take n (drop m s)) → r ≡ (x + y) % 65536 → r ≡ packet_sum (take k s)
unfolding packet_sum
part_joins s m n k x y r e p q t =
    let whole : sum_of (take k s) ≡ sum_of (take m s) + sum_of (take n (drop m s)) =
    ap (λ (j : ℕ). sum_of (take j s)) (sym e) ∙ ap sum_of (take-add m n s) ∙ sum_append (take m s) (take n (drop m s)) in
    omega (arith, p, q, t, whole)

-- one part more after those whose sums make t
next_part : (s : List ℕ) (m n k t y : ℕ) → m + n ≡ k → t % 65536 ≡ packet_sum (take m s) → y ≡ packet_sum (take n (drop m s)) → (t + y) % 65536 ≡ packet_sum (take k s)
next_part s m n k t y e p q = part_joins s m n k (t % 65536) y ((t + y) % 65536) e p q (sym (mod-add-mod t 65536 y))

-- each part is in its sum whole
pub parts_joined : (s : List ℕ) (n i : ℕ) {a b c d e f g h r : ℕ} → i ≡ n → Parts s n i a b c d e f g h → r ≡ (a + b + c + d + e + f + g + h) % 65536
    → r ≡ packet_sum (take (8 * n) s)
parts_joined s n i {a} {b} {c} {d} {e} {f} {g} {h} whole part q =
    let p = subst (λ (j : ℕ). Parts s n j a b c d e f g h) whole part in
    let two = part_joins s n n (2 * n) a b ((a + b) % 65536) (omega arith) p.one p.two refl in
    let three = next_part s (2 * n) n (3 * n) (a + b) c (omega arith) two p.three in
    let four = next_part s (3 * n) n (4 * n) (a + b + c) d (omega arith) three p.four in
    let five = next_part s (4 * n) n (5 * n) (a + b + c + d) e (omega arith) four p.five in
    let six = next_part s (5 * n) n (6 * n) (a + b + c + d + e) f (omega arith) five p.six in
    let seven = next_part s (6 * n) n (7 * n) (a + b + c + d + e + f) g (omega arith) six p.seven in
    q ∙ next_part s (7 * n) n (8 * n) (a + b + c + d + e + f + g) h (omega arith) seven p.eight

-- ---- eight_in_row: the bytes before the row are in the eight sums together

pub row_none : (s : List ℕ) → (0 + 0 + 0 + 0 + 0 + 0 + 0 + 0) % 65536 ≡ packet_sum (take (8 * 0) s)
unfolding packet_sum sum_of
row_none s = refl

-- one of the sums that make t takes the next byte; u are the others
one_takes : (s : List ℕ) (i j a a' u t t' : ℕ) → i + 1 ≡ j → t ≡ a + u → t' ≡ a' + u → t % 65536 ≡ packet_sum (take i s) → a' ≡ (a + get_or s i 0) % 65536
    → t' % 65536 ≡ packet_sum (take j s)
one_takes s i j a a' u t t' e old new z q =
    let b = get_or s i 0 in
    let more : t' % 65536 ≡ (t + b) % 65536 =
    ap (λ (k : ℕ). k % 65536) new ∙ sums_join (a + b) a' u ((a' + u) % 65536) q refl ∙ ap (λ (k : ℕ). k % 65536) (omega arith) in
    sum_more s i (t % 65536) (t' % 65536) z (more ∙ sym (mod-add-mod t 65536 b)) ∙ ap (λ (k : ℕ). packet_sum (take k s)) e

pub row_more : (s : List ℕ) (k a b c d e f g h a' b' c' d' e' f' g' h' : ℕ) → (a + b + c + d + e + f + g + h) % 65536 ≡ packet_sum (take (8 * k) s)
    → a' ≡ (a + get_or s (8 * k) 0) % 65536
    → b' ≡ (b + get_or s (8 * k + 1) 0) % 65536
    → c' ≡ (c + get_or s (8 * k + 2) 0) % 65536
    → d' ≡ (d + get_or s (8 * k + 3) 0) % 65536
    → e' ≡ (e + get_or s (8 * k + 4) 0) % 65536
    → f' ≡ (f + get_or s (8 * k + 5) 0) % 65536
    → g' ≡ (g + get_or s (8 * k + 6) 0) % 65536
    → h' ≡ (h + get_or s (8 * k + 7) 0) % 65536
    → (a' + b' + c' + d' + e' + f' + g' + h') % 65536 ≡ packet_sum (take (8 * (k + 1)) s)
row_more s k a b c d e f g h a' b' c' d' e' f' g' h' z qa qb qc qd qe qf qg qh =
    let z1 = one_takes s (8 * k) (8 * k + 1) a a' (b + c + d + e + f + g + h) (a + b + c + d + e + f + g + h) (a' + b + c + d + e + f + g + h) (omega arith) (omega arith) (omega arith) z qa in
    let z2 = one_takes s (8 * k + 1) (8 * k + 2) b b' (a' + c + d + e + f + g + h) (a' + b + c + d + e + f + g + h) (a' + b' + c + d + e + f + g + h) (omega arith) (omega arith) (omega arith) z1 qb in
    let z3 = one_takes s (8 * k + 2) (8 * k + 3) c c' (a' + b' + d + e + f + g + h) (a' + b' + c + d + e + f + g + h) (a' + b' + c' + d + e + f + g + h) (omega arith) (omega arith) (omega arith) z2 qc in
    let z4 = one_takes s (8 * k + 3) (8 * k + 4) d d' (a' + b' + c' + e + f + g + h) (a' + b' + c' + d + e + f + g + h) (a' + b' + c' + d' + e + f + g + h) (omega arith) (omega arith) (omega arith) z3 qd in
    let z5 = one_takes s (8 * k + 4) (8 * k + 5) e e' (a' + b' + c' + d' + f + g + h) (a' + b' + c' + d' + e + f + g + h) (a' + b' + c' + d' + e' + f + g + h) (omega arith) (omega arith) (omega arith) z4 qe in
    let z6 = one_takes s (8 * k + 5) (8 * k + 6) f f' (a' + b' + c' + d' + e' + g + h) (a' + b' + c' + d' + e' + f + g + h) (a' + b' + c' + d' + e' + f' + g + h) (omega arith) (omega arith) (omega arith) z5 qf in
    let z7 = one_takes s (8 * k + 6) (8 * k + 7) g g' (a' + b' + c' + d' + e' + f' + h) (a' + b' + c' + d' + e' + f' + g + h) (a' + b' + c' + d' + e' + f' + g' + h) (omega arith) (omega arith) (omega arith) z6 qg in
    one_takes s (8 * k + 7) (8 * (k + 1)) h h' (a' + b' + c' + d' + e' + f' + g') (a' + b' + c' + d' + e' + f' + g' + h) (a' + b' + c' + d' + e' + f' + g' + h') (omega arith) (omega arith) (omega arith) z7 qh

pub rows_all : (s : List ℕ) (k n : ℕ) → k ≡ n → packet_sum (take (8 * k) s) ≡ packet_sum (take (8 * n) s)
rows_all s k n e = ap (λ (j : ℕ). packet_sum (take (8 * j) s)) e

-- ---- sum: the parts, then the rest

pub rest_joins : (s : List ℕ) (m x y r : ℕ) → m ≤ length s → x ≡ packet_sum (take m s) → y ≡ packet_sum (take (length s - m) (drop m s)) → r ≡ (x + y) % 65536 → r ≡ packet_sum s
rest_joins s m x y r h p q t = part_joins s m (length s - m) (length s) x y r (omega arith) p q t ∙ sum_all s (length s) refl
