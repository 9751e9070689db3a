-- "The next id is one more than the logs ever made": the ids that logs drew, newest first.
use Rattle.std.specs.Prelude.{ℕ, zero, suc, ◌+◌, cond, List, [], ◌∷◌, eqb}
use Rattle.change.specs.declared.Change.{Change}
use Rattle.change.specs.declared.Change.TheVariants.{Clear, Unclear, SetState, SetRole, SetCaps, SetUser, SetThermal, SetThrottles, Reset, Unreset, SetMask, SetDeadman, SetAreas, SetTimer}
use Rattle.promises.specs.Marks.{Mark}

-- the id that a change's log drew, 0 where it makes none
unfoldable pub id_of : Change → ℕ
id_of (Clear place log) = 0
id_of (Unclear place log) = 0
id_of (SetState state) = 0
id_of (SetRole got role) = 0
id_of (SetCaps got caps) = 0
id_of (SetUser user) = 0
id_of (SetThermal got) = 0
id_of (SetThrottles got) = 0
id_of (Reset log) = log.id
id_of (Unreset state made) = 0
id_of (SetMask mask) = 0
id_of (SetDeadman deadman) = 0
id_of (SetAreas areas) = 0
id_of (SetTimer timer) = 0

-- the ids of all logs ever made, newest first
unfoldable pub ids_made : List Mark → List ℕ
ids_made [] = []
ids_made (m ∷ ms) = cond (eqb (id_of m.edit.change) 0) (ids_made ms) (id_of m.edit.change ∷ ids_made ms)

-- n ids from first on, newest first: first + n - 1, .., first
unfoldable pub countdown : ℕ → ℕ → List ℕ
countdown first zero = []
countdown first (suc n) = (first + n) ∷ countdown first n
