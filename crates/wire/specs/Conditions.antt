-- Conditions and tables as documents 01 and 02 list them.
use Rattle.std.specs.Prelude.{◌≡◌}

-- conditions one after the other, in the order of the tests
infixr 2 ◌and◌
abbrev pub ◌and◌ : Type 0 → Type 0 → Type 0
P and Q = P × Q

-- ---- a table, in the order of its rows: what the first row that holds gives

-- this one number, or none
abbrev pub is : {N : Type 0} → N → N → Type 0
is v n = n ≡ v

abbrev pub none : {N : Type 0} → N → Type 0
none n = ⊥

-- where P holds the rows T, else the rows that follow
pub data Rows {N : Type 0} (P : Type 0) (T rest : N → Type 0) (n : N) : Type 0 where
  here : P → T n → Rows P T rest n
  later : (P → ⊥) → rest n → Rows P T rest n

-- one row: v is given when P holds
abbrev pub row : {N : Type 0} → N → Type 0 → (N → Type 0) → N → Type 0
row v P rest = Rows P (is v) rest
