-- An order: what is known of its numbers, that the check tells exactly the orders, and that one of five packets has five numbers at most. Assumes nothing.
use Rattle.std.specs.Prelude.{ℕ, zero, suc, ◌+◌, ◌<◌, ◌≤◌, Bool, true, false, cond, ◌↔◌, ◌≡◌, refl, List, [], ◌∷◌, eqb, length, get_or}
use Rattle.std.proofs.Common.{true≢false, sym, ap, ◌∙◌, arith, eqb-true, ltb-false}
use Rattle.std.proofs.lemmas.Bool.{eqb-false}
use Rattle.wire.specs.Conditions.{◌and◌}
use Rattle.wire.proofs.laws.Cases.{cond_cases, else_b, else_eq, else_lt}
use Rattle.wire.proofs.laws.Chains.{passed}
use Rattle.plan.specs.Conditions.{Order}
use Rattle.plan.specs.Plan.{comes_in, is_order}

-- ---- by the check

-- what is known of the first number
pub record Named (count x : ℕ) (xs : List ℕ) : Type 0 where
  pub some : x ≡ 0 → ⊥
  pub low : x ≤ count
  pub once : comes_in x xs ≡ false
  pub rest : is_order count xs ≡ true

pub named : (count x : ℕ) (xs : List ℕ) → is_order count (x ∷ xs) ≡ true → Named count x xs
unfolding is_order
named count x xs h =
    let a = passed _ _ h in
    let b = passed _ _ a.1 in
    let c = passed _ _ b.1 in
    record { some = eqb-false x 0 a.0; low = ltb-false count x b.0; once = c.0; rest = c.1 }

pub is_named : (count x : ℕ) (xs : List ℕ) → Named count x xs → is_order count (x ∷ xs) ≡ true
unfolding is_order
is_named count x xs k = sym (else_eq _ _ k.some (else_lt _ _ k.low (else_b _ _ k.once (sym k.rest))))

-- an order of so many packets is one of more
pub of_more : (m n : ℕ) → m ≤ n → (o : List ℕ) → is_order m o ≡ true → is_order n o ≡ true
unfolding is_order
of_more m n le [] h = refl
of_more m n le (x ∷ xs) h =
    let k = named m x xs h in
    is_named n x xs (record { some = k.some; low = omega (arith, le, k.low); once = k.once; rest = of_more m n le xs k.rest })

-- ---- exactly the orders

neither : (t r : Bool) → cond t true r ≡ false → (t ≡ false) × (r ≡ false)
neither true r h = absurd (true≢false h)
neither false r h = (refl, h)

none_is : (x : ℕ) (xs : List ℕ) → comes_in x xs ≡ false → (j : ℕ) → j < length xs → x ≡ get_or xs j 0 → ⊥
unfolding comes_in
none_is x [] h j l e = omega (arith, l)
none_is x (y ∷ ys) h zero l e = eqb-false y x (neither (eqb y x) (comes_in x ys) h).0 (sym e)
none_is x (y ∷ ys) h (suc j) l e = none_is x ys (neither (eqb y x) (comes_in x ys) h).1 j (omega (arith, l)) e

comes_not : (x : ℕ) (xs : List ℕ) → ((j : ℕ) → j < length xs → x ≡ get_or xs j 0 → ⊥) → comes_in x xs ≡ false
unfolding comes_in
comes_not x [] h = refl
comes_not x (y ∷ ys) h = sym (else_eq _ _ (λ e. h 0 (omega arith) (sym e)) (sym (comes_not x ys (λ j l. h (suc j) (omega (arith, l))))))

-- an order with one number more before it
before : (count x : ℕ) (xs : List ℕ) → Named count x xs → Order count xs → Order count (x ∷ xs)
before count x xs k r = record { named = names; once = apart }
  where
    names : (i : ℕ) → i < length (x ∷ xs) → (1 ≤ get_or (x ∷ xs) i 0) and (get_or (x ∷ xs) i 0 ≤ count)
    names zero h = (omega (arith, k.some), k.low)
    names (suc i) h = r.named i (omega (arith, h))

    apart : (i j : ℕ) → i < j → j < length (x ∷ xs) → get_or (x ∷ xs) i 0 ≡ get_or (x ∷ xs) j 0 → ⊥
    apart i zero l h e = omega (arith, l)
    apart zero (suc j) l h e = none_is x xs k.once j (omega (arith, h)) e
    apart (suc i) (suc j) l h e = r.once i j (omega (arith, l)) (omega (arith, h)) e

without : (count x : ℕ) (xs : List ℕ) → Order count (x ∷ xs) → Order count xs
without count x xs o = record {
  named = λ i h. o.named (suc i) (omega (arith, h));
  once = λ i j l h. o.once (suc i) (suc j) (omega (arith, l)) (omega (arith, h));
}

order_so : (count : ℕ) (o : List ℕ) → is_order count o ≡ true → Order count o
order_so count [] h = record { named = λ i l. absurd (omega (arith, l)); once = λ i j l m. absurd (omega (arith, m)) }
order_so count (x ∷ xs) h = let k = named count x xs h in before count x xs k (order_so count xs k.rest)

so_order : (count : ℕ) (o : List ℕ) → Order count o → is_order count o ≡ true
unfolding is_order
so_order count [] o = refl
so_order count (x ∷ xs) o =
    let first = o.named 0 (omega arith) in
    is_named count x xs (record {
      some = λ z. omega (arith, z, first.0);
      low = first.1;
      once = comes_not x xs (λ j l. o.once 0 (suc j) (omega arith) (omega (arith, l)));
      rest = so_order count xs (without count x xs o);
    })

pub order_exactly : (count : ℕ) (o : List ℕ) → (is_order count o ≡ true) ↔ Order count o
order_exactly count o = (order_so count o, so_order count o)

-- ---- of five packets, five numbers at most

-- how often a number comes
times : ℕ → List ℕ → ℕ
times i [] = 0
times i (x ∷ xs) = cond (eqb x i) 1 0 + times i xs

times_none : (x : ℕ) (xs : List ℕ) → comes_in x xs ≡ false → times x xs ≡ 0
unfolding comes_in times
times_none x [] h = refl
times_none x (y ∷ ys) h =
    let n = neither (eqb y x) (comes_in x ys) h in
    let z : ◌≡◌ {A = ℕ} (cond (eqb y x) 1 0) 0 = ap (λ (b : Bool). cond {A = ℕ} b 1 0) n.0 in
    omega (arith, z, times_none x ys n.1)

times_once : (i : ℕ) (o : List ℕ) → is_order 5 o ≡ true → times i o ≤ 1
unfolding times
times_once i [] h = omega arith
times_once i (x ∷ xs) h =
    let k = named 5 x xs h in
    cond_cases (λ (n : ℕ). n + times i xs ≤ 1) (eqb x i)
    (λ t. omega (arith, ap (λ (n : ℕ). times n xs) (sym (eqb-true x i t)), times_none x xs k.once))
    (λ t. omega (arith, times_once i xs k.rest))

abbrev all : List ℕ → ℕ
all o = times 1 o + times 2 o + times 3 o + times 4 o + times 5 o

counted : (x : ℕ) (xs : List ℕ) → (x ≡ 0 → ⊥) → x ≤ 5 → all (x ∷ xs) ≡ suc (all xs)
unfolding times
counted zero xs s l = absurd (s refl)
counted (suc zero) xs s l = omega arith
counted (suc (suc zero)) xs s l = omega arith
counted (suc (suc (suc zero))) xs s l = omega arith
counted (suc (suc (suc (suc zero)))) xs s l = omega arith
counted (suc (suc (suc (suc (suc zero))))) xs s l = omega arith
counted (suc (suc (suc (suc (suc (suc n)))))) xs s l = absurd (omega (arith, l))

length_all : (o : List ℕ) → is_order 5 o ≡ true → length o ≡ all o
unfolding times
length_all [] h = refl
length_all (x ∷ xs) h = let k = named 5 x xs h in ap suc (length_all xs k.rest) ∙ sym (counted x xs k.some k.low)

pub five_at_most : (o : List ℕ) → is_order 5 o ≡ true → length o ≤ 5
five_at_most o h = omega (arith, length_all o h, times_once 1 o h, times_once 2 o h, times_once 3 o h, times_once 4 o h, times_once 5 o h)
