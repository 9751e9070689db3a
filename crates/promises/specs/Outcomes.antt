-- "Show that two outcomes it allows are equal": what a contract allows is a predicate over result and buffers.
use Rattle.std.specs.Prelude.{◌≡◌}

-- two outcomes that are allowed are equal
abbrev pub OneOutcome : {A : Type 0} → (A → Type 0) → Type 0
OneOutcome {A} Allowed = (x y : A) → Allowed x → Allowed y → x ≡ y
