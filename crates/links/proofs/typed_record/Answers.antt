-- Each part is in the value's type; the four logs are counted before they are read as structs.
use Prim.Native.Nat.{ℕ}
use mathlib.Core.Path.{◌≡◌, sym, ◌∙◌}
use mathlib.Core.List.{List, map}
use lib.ListN.{length, length-map}
use borrow.Author.Rules.{rules}
use Rattle.links.proofs.typed_record.Goals as goal

length-of : (X Y : Type 0) (f : X → Y) (l : List X) (n : ℕ) → length (map f l) ≡ n → length l ≡ n
length-of X Y f l n p = sym (length-map l f) ∙ p

pub returns : goal.returns
returns c = record {
  logs = search (rules, length-of);
  thermal = search rules;
  sets = search rules;
  present = search rules;
  caps = search rules;
  user = search rules;
  mask = search rules;
  time = search rules;
  ffdc = search rules;
  pass = search rules;
}
