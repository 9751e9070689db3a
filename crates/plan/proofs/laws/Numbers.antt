-- Orders by their numbers in base 6: each order of five packets has one, and the smaller number comes first. Assumes nothing.
use Rattle.std.specs.Prelude.{ℕ, zero, suc, ◌+◌, ◌*◌, ◌/◌, ◌%◌, ◌<◌, ◌≤◌, true, ◌⊎◌, ◌≡◌, refl, List, [], ◌∷◌, eqb, length}
use Rattle.std.proofs.Common.{inl, inr, sym, ap, ◌∙◌, mul-le-mul_right, suc-mul, arith, eqb-true}
use Rattle.wire.proofs.laws.Cases.{cond_cases, else_eq}
use Rattle.plan.specs.Conditions.{InIndexOrder, FewestThenLeast}
use Rattle.plan.specs.Plan.{is_order, digits_of, trimmed, order_of, orders}
use Rattle.plan.proofs.laws.Orders.{Named, named, five_at_most}

-- what a digit before these counts
weight : List ℕ → ℕ
weight [] = 1
weight (x ∷ xs) = 6 * weight xs

pub number_of : List ℕ → ℕ
number_of [] = 0
number_of (x ∷ xs) = x * weight xs + number_of xs

-- ---- the smaller number comes first

under : (o : List ℕ) → is_order 5 o ≡ true → number_of o < weight o
unfolding number_of weight
under [] h = omega arith
under (x ∷ xs) h =
    let k = named 5 x xs h in
    let most : x * weight xs ≤ 5 * weight xs = mul-le-mul_right (weight xs) k.low in
    omega (arith, most, under xs k.rest)

over : (x : ℕ) (xs : List ℕ) → is_order 5 (x ∷ xs) ≡ true → weight xs ≤ number_of (x ∷ xs)
unfolding number_of
over x xs h =
    let k = named 5 x xs h in
    let one : 1 ≤ x = omega (arith, k.some) in
    let least : 1 * weight xs ≤ x * weight xs = mul-le-mul_right (weight xs) one in
    omega (arith, least)

-- lists of the same length weigh the same, a shorter one less
same_weight : (a b : List ℕ) → length a ≡ length b → weight a ≡ weight b
unfolding weight
same_weight [] [] e = refl
same_weight [] (y ∷ ys) e = absurd (omega (arith, e))
same_weight (x ∷ xs) [] e = absurd (omega (arith, e))
same_weight (x ∷ xs) (y ∷ ys) e = ap (λ (n : ℕ). 6 * n) (same_weight xs ys (omega (arith, e)))

weighs_more : (a b : List ℕ) → length a ≤ length b → weight a ≤ weight b
unfolding weight
weighs_more [] [] h = omega arith
weighs_more [] (y ∷ ys) h = omega (arith, weighs_more [] ys (omega arith))
weighs_more (x ∷ xs) [] h = absurd (omega (arith, h))
weighs_more (x ∷ xs) (y ∷ ys) h = omega (arith, weighs_more xs ys (omega (arith, h)))

longer_is_more : (a b : List ℕ) → is_order 5 a ≡ true → is_order 5 b ≡ true → length a < length b → number_of a < number_of b
longer_is_more a [] p q h = absurd (omega (arith, h))
longer_is_more a (y ∷ ys) p q h = omega (arith, under a p, weighs_more a ys (omega (arith, h)), over y ys q)

-- of the same length
by_digit : (x y w m n : ℕ) → y < x → m < w → n < w → x * w + m ≤ y * w + n → ⊥
by_digit x y w m n l p q h =
    let more : suc y * w ≤ x * w = mul-le-mul_right w (omega (arith, l)) in
    omega (arith, more, suc-mul y w, q, h)

compare : (x y : ℕ) → (x < y) ⊎ ((x ≡ y) ⊎ (y < x))
compare zero zero = inr (inl refl)
compare zero (suc y) = inl (omega arith)
compare (suc x) zero = inr (inr (omega arith))
compare (suc x) (suc y) = go (compare x y)
  where
    go : (x < y) ⊎ ((x ≡ y) ⊎ (y < x)) → (suc x < suc y) ⊎ ((suc x ≡ suc y) ⊎ (suc y < suc x))
    go (inl h) = inl (omega (arith, h))
    go (inr (inl h)) = inr (inl (omega (arith, h)))
    go (inr (inr h)) = inr (inr (omega (arith, h)))

-- the first numbers of two orders of the same length, and what is known of the rest where these are equal
first_digits : (x y : ℕ) (xs ys : List ℕ) → is_order 5 (x ∷ xs) ≡ true → is_order 5 (y ∷ ys) ≡ true → length xs ≡ length ys → number_of (x ∷ xs) ≤ number_of (y ∷ ys)
    → (number_of xs ≤ number_of ys → InIndexOrder xs ys) → InIndexOrder (x ∷ xs) (y ∷ ys)
unfolding number_of
first_digits x y xs ys p q e h more = go (compare x y)
  where
    k : Named 5 x xs
    k = named 5 x xs p

    l : Named 5 y ys
    l = named 5 y ys q

    same : weight xs ≡ weight ys
    same = same_weight xs ys e

    moved : x * weight ys + number_of xs ≤ y * weight ys + number_of ys
    moved = omega (arith, h, ap (λ (w : ℕ). x * w) same)

    go : (x < y) ⊎ ((x ≡ y) ⊎ (y < x)) → InIndexOrder (x ∷ xs) (y ∷ ys)
    go (inl less) = inl less
    go (inr (inl is)) = inr (is, more (omega (arith, moved, ap (λ (n : ℕ). n * weight ys) is)))
    go (inr (inr great)) = absurd (by_digit x y (weight ys) (number_of xs) (number_of ys) great (omega (arith, under xs k.rest, same)) (under ys l.rest) moved)

index_order : (a b : List ℕ) → is_order 5 a ≡ true → is_order 5 b ≡ true → length a ≡ length b → number_of a ≤ number_of b → InIndexOrder a b
index_order [] [] p q e h = tt
index_order [] (y ∷ ys) p q e h = absurd (omega (arith, e))
index_order (x ∷ xs) [] p q e h = absurd (omega (arith, e))
index_order (x ∷ xs) (y ∷ ys) p q e h =
    let same : length xs ≡ length ys = omega (arith, e) in
    first_digits x y xs ys p q same h (index_order xs ys (named 5 x xs p).rest (named 5 y ys q).rest same)

pub comes_first : (a b : List ℕ) → is_order 5 a ≡ true → is_order 5 b ≡ true → number_of a ≤ number_of b → FewestThenLeast a b
comes_first a b p q h = go (compare (length a) (length b))
  where
    go : (length a < length b) ⊎ ((length a ≡ length b) ⊎ (length b < length a)) → FewestThenLeast a b
    go (inl l) = inl l
    go (inr (inl e)) = inr (e, index_order a b p q e h)
    go (inr (inr m)) = absurd (omega (arith, longer_is_more b a q p m, h))

-- ---- an order and its number

-- leading zeros count nothing
trimmed_number : (d : List ℕ) → number_of (trimmed d) ≡ number_of d
unfolding trimmed number_of
trimmed_number [] = refl
trimmed_number (x ∷ xs) =
    cond_cases (λ (l : List ℕ). number_of l ≡ x * weight xs + number_of xs) (eqb x 0)
    (λ z. trimmed_number xs ∙ omega (arith, ap (λ (n : ℕ). n * weight xs) (eqb-true x 0 z))) (λ z. refl)

add_up : (n a b c d u v w x y : ℕ) → n ≡ 6 * a + u → a ≡ 6 * b + v → b ≡ 6 * c + w → c ≡ 6 * d + x → d ≡ y → y * 1296 + (x * 216 + (w * 36 + (v * 6 + (u * 1 + 0)))) ≡ n
add_up n a b c d u v w x y p q r s t = omega (arith, p, q, r, s, t)

pub number_order : (n : ℕ) → n < orders → number_of (order_of n) ≡ n
unfolding order_of number_of weight
number_order n h =
    trimmed_number (digits_of n)
    ∙ add_up n (n / 6) (n / 36) (n / 216) (n / 1296) (n % 6) (n / 6 % 6) (n / 36 % 6) (n / 216 % 6) (n / 1296 % 6)
    (omega arith) (omega arith) (omega arith) (omega arith) (omega (arith, h))

-- its digits spelled out
spelled : (n a b c d e : ℕ) → n / 1296 % 6 ≡ a → n / 216 % 6 ≡ b → n / 36 % 6 ≡ c → n / 6 % 6 ≡ d → n % 6 ≡ e → order_of n ≡ trimmed (a ∷ b ∷ c ∷ d ∷ e ∷ [])
unfolding order_of
spelled n a b c d e p q r s t = λ i. trimmed (p i ∷ q i ∷ r i ∷ s i ∷ t i ∷ [])

lead : (x : ℕ) (xs : List ℕ) → (x ≡ 0 → ⊥) → trimmed (x ∷ xs) ≡ x ∷ xs
unfolding trimmed
lead x xs z = sym (else_eq _ _ z refl)

digits_five : (a b c d e : ℕ) → a ≤ 5 → b ≤ 5 → c ≤ 5 → d ≤ 5 → e ≤ 5 → (n : ℕ) → n ≡ 1296 * a + 216 * b + 36 * c + 6 * d + e → order_of n ≡ trimmed (a ∷ b ∷ c ∷ d ∷ e ∷ [])
digits_five a b c d e p q r s t n is =
    spelled n a b c d e (omega (arith, p, q, r, s, t, is)) (omega (arith, p, q, r, s, t, is)) (omega (arith, p, q, r, s, t, is)) (omega (arith, p, q, r, s, t, is)) (omega (arith, p, q, r, s, t, is))

abbrev Back : List ℕ → Type 0
Back o = order_of (number_of o) ≡ o

by_length : (o : List ℕ) → length o ≤ 5 → is_order 5 o ≡ true → Back o
unfolding number_of weight trimmed
by_length [] l h = digits_five 0 0 0 0 0 (omega arith) (omega arith) (omega arith) (omega arith) (omega arith) _ (omega arith)
by_length (a ∷ []) l h =
    let k = named 5 a [] h in
    digits_five 0 0 0 0 a (omega arith) (omega arith) (omega arith) (omega arith) k.low _ (omega arith) ∙ lead a [] k.some
by_length (a ∷ b ∷ []) l h =
    let k = named 5 a (b ∷ []) h in
    let m = named 5 b [] k.rest in
    digits_five 0 0 0 a b (omega arith) (omega arith) (omega arith) k.low m.low _ (omega arith) ∙ lead a (b ∷ []) k.some
by_length (a ∷ b ∷ c ∷ []) l h =
    let k = named 5 a (b ∷ c ∷ []) h in
    let m = named 5 b (c ∷ []) k.rest in
    let n = named 5 c [] m.rest in
    digits_five 0 0 a b c (omega arith) (omega arith) k.low m.low n.low _ (omega arith) ∙ lead a (b ∷ c ∷ []) k.some
by_length (a ∷ b ∷ c ∷ d ∷ []) l h =
    let k = named 5 a (b ∷ c ∷ d ∷ []) h in
    let m = named 5 b (c ∷ d ∷ []) k.rest in
    let n = named 5 c (d ∷ []) m.rest in
    let o = named 5 d [] n.rest in
    digits_five 0 a b c d (omega arith) k.low m.low n.low o.low _ (omega arith) ∙ lead a (b ∷ c ∷ d ∷ []) k.some
by_length (a ∷ b ∷ c ∷ d ∷ e ∷ []) l h =
    let k = named 5 a (b ∷ c ∷ d ∷ e ∷ []) h in
    let m = named 5 b (c ∷ d ∷ e ∷ []) k.rest in
    let n = named 5 c (d ∷ e ∷ []) m.rest in
    let o = named 5 d (e ∷ []) n.rest in
    let p = named 5 e [] o.rest in
    digits_five a b c d e k.low m.low n.low o.low p.low _ (omega arith) ∙ lead a (b ∷ c ∷ d ∷ e ∷ []) k.some
by_length (a ∷ b ∷ c ∷ d ∷ e ∷ f ∷ xs) l h = absurd (omega (arith, l))

-- each order has one
pub order_number : (o : List ℕ) → is_order 5 o ≡ true → (number_of o < orders) × (order_of (number_of o) ≡ o)
unfolding weight
order_number o h =
    let five = five_at_most o h in
    (omega (arith, under o h, weighs_more o (0 ∷ 0 ∷ 0 ∷ 0 ∷ 0 ∷ []) (omega (arith, five))), by_length o five h)
