-- A body of eight bytes at most is a number's. Assumes nothing.
use Prim.Native.Nat.{ℕ, ◌+◌, ◌*◌, ◌/◌, ◌%◌, ◌<◌, ◌≤◌}
use mathlib.Core.Bool.{Bool, true, false, cond}
use mathlib.Core.Path.{◌≡◌, refl, sym, ap, ap₂, subst, ◌∙◌}
use mathlib.Core.List.{List, [], ◌∷◌}
use mathlib.Core.Logic.{inl, inr}
use native.Mathlib.Nat.{mod-lt}
use native.Mathlib.Omega.{arith}
use borrow.Author.Tests.{ltb-true, leb-true}
use lib.Dec.{lit<, ltb, leb, eqb}
use lib.ListN.{length}
use types.Run.{OneOf}
use denote.Enum.Declared.{tag_of}
use Rattle.wire.specs.Wire.{be_onto, be_nat, to_be, Bytes, pasted}
use Rattle.wire.proofs.laws.Cases.{if_eq, cond_cases}
use Rattle.wire.proofs.laws.Wire.{to_be_be}
use Rattle.record.specs.declared.Log.{Log}
use Rattle.record.specs.declared.Caps.{Caps}
use Rattle.change.specs.contracts.Change.{the_type}
use Rattle.change.specs.Change.{kind_of}
use Rattle.change.specs.declared.Change.{Change}
use Rattle.change.specs.declared.Change.TheVariants.{Clear, Unclear, SetState, SetRole, SetCaps, SetUser, SetThermal, SetThrottles, Reset, Unreset, SetMask, SetDeadman, SetAreas, SetTimer}
use Rattle.change.specs.declared.Edit.{Edit}
use Rattle.entries.specs.Entries.{body_len, bytes_of}
use Rattle.journal.specs.Bytes.{cleared_body, caps_body, body_of, Spells, entry_for, entry_bytes}

-- the number that bytes spell
spelled : (bs : List ℕ) (v : ℕ) → Bytes bs → v ≡ be_nat bs → to_be (length bs) v ≡ bs
spelled bs v h e = ap (to_be (length bs)) e ∙ to_be_be bs h

pub one_byte : (a : ℕ) → a < 256 → to_be 1 a ≡ a ∷ []
unfolding be_nat be_onto
one_byte a h = spelled (a ∷ []) a (h, tt) (omega arith)

byte : (n : ℕ) → n % 256 < 256
byte n = mod-lt n (lit< tt)

pub marked_number : (got v : ℕ) → got < 256 → v < 65536 → to_be 3 (got * 65536 + v) ≡ got ∷ to_be 2 v
unfolding to_be be_nat be_onto
marked_number got v g h = spelled (got ∷ to_be 2 v) (got * 65536 + v) (g, (byte (v / 256), (byte v, tt))) (omega arith)

module _ (a b : ℕ) (x : a < 256) (y : b < 256) where
  two_bytes : to_be 2 (a * 256 + b) ≡ a ∷ b ∷ []
  unfolding be_nat be_onto
  two_bytes = spelled (a ∷ b ∷ []) (a * 256 + b) (x, (y, tt)) (omega arith)

  three_bytes : (c : ℕ) → c < 256 → to_be 3 (a * 65536 + b * 256 + c) ≡ a ∷ b ∷ c ∷ []
  unfolding be_nat be_onto
  three_bytes c z = spelled (a ∷ b ∷ c ∷ []) (a * 65536 + b * 256 + c) (x, (y, (z, tt))) (omega arith)

-- the body of the change that was found
pub spells_as : {ch found : Change} {v : ℕ} → ch ≡ found → Spells v found → Spells v ch
spells_as {v = v} e h = subst (λ (x : Change). Spells v x) (sym e) h

module _ (place : ℕ) (log : Log) (p : place < 256) (i : log.id < 256) (r : log.reason < 256) where
  pub clear_spells : Spells (place * 65536 + log.id * 256 + log.reason) (Clear place log)
  unfolding body_len kind_of body_of cleared_body
  clear_spells = record { body = λ t small. three_bytes place log.id p i log.reason r }

  pub unclear_spells : Spells (place * 65536 + log.id * 256 + log.reason) (Unclear place log)
  unfolding body_len kind_of body_of cleared_body
  unclear_spells = record { body = λ t small. three_bytes place log.id p i log.reason r }

pub state_spells : (state : ℕ) → state < 256 → Spells state (SetState state)
unfolding body_len kind_of body_of
state_spells state h = record { body = λ t small. one_byte state h }

module _ (a b : ℕ) (x : a < 256) (y : b < 256) where
  pub role_spells : Spells (a * 256 + b) (SetRole a b)
  unfolding body_len kind_of body_of
  role_spells = record { body = λ t small. two_bytes a b x y }

  pub unreset_spells : Spells (a * 256 + b) (Unreset a b)
  unfolding body_len kind_of body_of
  unreset_spells = record { body = λ t small. two_bytes a b x y }

pub reset_spells : (log : Log) → log.id < 256 → log.reason < 256 → Spells (log.id * 256 + log.reason) (Reset log)
unfolding body_len kind_of body_of
reset_spells log i r = record { body = λ t small. two_bytes log.id log.reason i r }

pub caps_spells : (got : ℕ) (caps : Caps) → got < 256 → caps.min < 65536 → caps.max < 65536 → caps.over < 65536
    → Spells (((got * 65536 + caps.min) * 65536 + caps.max) * 65536 + caps.over) (SetCaps got caps)
unfolding body_len kind_of body_of caps_body to_be be_nat be_onto
caps_spells got caps g x y z = record {
  body = λ t small.
      spelled (caps_body got caps) (((got * 65536 + caps.min) * 65536 + caps.max) * 65536 + caps.over)
      (g, (byte (caps.min / 256), (byte caps.min, (byte (caps.max / 256), (byte caps.max, (byte (caps.over / 256), (byte caps.over, tt))))))) (omega arith);
}

pub user_spells : (user : ℕ) → Spells user (SetUser user)
unfolding body_len kind_of body_of
user_spells user = record { body = λ t small. refl }

pub mask_spells : (mask : ℕ) → Spells mask (SetMask mask)
unfolding body_len kind_of body_of
mask_spells mask = record { body = λ t small. refl }

-- ---- the changes that an arm of the code takes together, by the numbers of their cases

is_in : List ℕ → ℕ → Bool
is_in [] x = false
is_in (k ∷ ks) x = cond (eqb x k) true (is_in ks x)

one_of : (k : ℕ) (ks : List ℕ) (x : ℕ) → OneOf (k ∷ ks) x → is_in (k ∷ ks) x ≡ true
unfolding is_in
one_of k [] x e = sym (if_eq _ _ e refl)
one_of k (l ∷ ks) x (inl e) = sym (if_eq _ _ e refl)
one_of k (l ∷ ks) x (inr h) = cond_cases (λ (t : Bool). t ≡ true) (eqb x k) (λ e. refl) (λ e. one_of l ks x h)

abbrev wide : List ℕ
wide = 6 ∷ 7 ∷ 11 ∷ 12 ∷ 13 ∷ []

abbrev narrow : List ℕ
narrow = 0 ∷ 1 ∷ 2 ∷ 3 ∷ 4 ∷ 5 ∷ 8 ∷ 9 ∷ 10 ∷ []

by_width : (ch : Change) → (is_in narrow (tag_of the_type ch) ≡ leb (body_len (kind_of ch)) 8) × (is_in wide (tag_of the_type ch) ≡ ltb 8 (body_len (kind_of ch)))
unfolding is_in body_len kind_of
by_width (Clear place log) = (refl, refl)
by_width (Unclear place log) = (refl, refl)
by_width (SetState state) = (refl, refl)
by_width (SetRole got role) = (refl, refl)
by_width (SetCaps got caps) = (refl, refl)
by_width (SetUser user) = (refl, refl)
by_width (SetThermal got) = (refl, refl)
by_width (SetThrottles got) = (refl, refl)
by_width (Reset log) = (refl, refl)
by_width (Unreset state made) = (refl, refl)
by_width (SetMask mask) = (refl, refl)
by_width (SetDeadman deadman) = (refl, refl)
by_width (SetAreas areas) = (refl, refl)
by_width (SetTimer timer) = (refl, refl)

-- a wider body: any number will do
pub wide_spells : (ch : Change) → OneOf wide (tag_of the_type ch) → Spells 0 ch
wide_spells ch h =
    let long : 8 < body_len (kind_of ch) = ltb-true 8 _ (sym (by_width ch).1 ∙ one_of 6 (7 ∷ 11 ∷ 12 ∷ 13 ∷ []) (tag_of the_type ch) h) in
    record { body = λ t small. absurd (omega arith) }

narrow_fits : (ch : Change) → OneOf narrow (tag_of the_type ch) → body_len (kind_of ch) ≤ 8
narrow_fits ch h = leb-true _ 8 (sym (by_width ch).0 ∙ one_of 0 (1 ∷ 2 ∷ 3 ∷ 4 ∷ 5 ∷ 8 ∷ 9 ∷ 10 ∷ []) (tag_of the_type ch) h)

-- ---- a number put as an entry

module _ (e : Edit) (d : List ℕ) (kind n : ℕ) (k : kind ≡ kind_of e.change) (w : n ≡ body_len kind) where
  pub number_room : body_len (kind_of e.change) + 1 ≤ length d → 1 + n ≤ length d
  number_room h = omega (arith, w ∙ ap body_len k)

  pub number_is : (v : ℕ) (x : List ℕ) → OneOf narrow (tag_of the_type e.change) → Spells v e.change → x ≡ pasted 0 (kind ∷ to_be n v) d → x ≡ pasted 0 (entry_bytes e) d
  unfolding entry_bytes entry_for bytes_of
  number_is v x h s p =
      p ∙ ap₂ (λ (a m : ℕ). pasted 0 (a ∷ to_be m v) d) k (w ∙ ap body_len k)
      ∙ ap (λ (b : List ℕ). pasted 0 (kind_of e.change ∷ b) d) (s.body e.tables (narrow_fits e.change h))
