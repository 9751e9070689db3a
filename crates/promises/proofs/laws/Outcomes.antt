-- What is said of each part determines the whole. Assumes nothing.
use Rattle.std.specs.Prelude.{◌≡◌}
use Rattle.std.proofs.Common.{sym, ◌∙◌}
use Rattle.wire.specs.Conditions.{◌and◌}
use Rattle.promises.specs.Outcomes.{OneOutcome}

pub one_value : {A : Type 0} (a : A) → OneOutcome (λ (o : A). o ≡ a)
one_value a x y p q = p ∙ sym q

pub one_pair : {A B : Type 0} (a : A) (b : B) → OneOutcome (λ (o : A × B). (o.0 ≡ a) and (o.1 ≡ b))
one_pair a b x y p q = λ i. ((p.0 ∙ sym q.0) i, (p.1 ∙ sym q.1) i)

pub one_triple : {A B C : Type 0} (a : A) (b : B) (c : C) → OneOutcome (λ (o : A × B × C). (o.0 ≡ a) and (o.1 ≡ b) and (o.2 ≡ c))
one_triple a b c x y p q = λ i. ((p.0 ∙ sym q.0) i, (p.1.0 ∙ sym q.1.0) i, (p.1.1 ∙ sym q.1.1) i)

pub one_four : {A B C D : Type 0} (a : A) (b : B) (c : C) (d : D) → OneOutcome (λ (o : A × B × C × D). (o.0 ≡ a) and (o.1 ≡ b) and (o.2 ≡ c) and (o.3 ≡ d))
one_four a b c d x y p q = λ i. ((p.0 ∙ sym q.0) i, (p.1.0 ∙ sym q.1.0) i, (p.1.1.0 ∙ sym q.1.1.0) i, (p.1.1.1 ∙ sym q.1.1.1) i)
