-- Demand 3 with redo: "each mark knows by which accepted undo it was struck; an accepted redo unstrikes the one with the latest stroke that is still struck".
use Rattle.std.specs.Prelude.{ℕ, ◌+◌, cond, List, [], ◌∷◌, eqb, ltb}
use Rattle.record.specs.declared.Timer.{Timer}
use Rattle.change.specs.Change.{timed}
use Rattle.change.specs.declared.Edit.{Edit}
use Rattle.session.specs.Session.{made_of}

-- a change, and by which accepted undo it is struck out, counted from 1; 0: it is not. Document 02, h: a timer change holds the timer that its undo, or its redo, gives
-- back: "as it stood just before that command or, if it was redone since, just before its last redo", and struck out, "as it stood just before that undo"
pub record Mark : Type 0 where
  pub edit : Edit
  pub stroke : ℕ

-- ---- the changes, newest first

-- "For each accepted undo, strike out the newest change not yet struck": undo number n, when the timer stands at t
unfoldable pub strike : Timer → ℕ → List Mark → List Mark
strike t n [] = []
strike t n (m ∷ ms) = cond (eqb m.stroke 0) (record { edit = timed t m.edit; stroke = n } ∷ ms) (m ∷ strike t n ms)

-- the latest stroke of those still struck, 0 where none is
unfoldable pub latest : List Mark → ℕ
latest [] = 0
latest (m ∷ ms) = cond (ltb (latest ms) m.stroke) m.stroke (latest ms)

-- "an accepted redo unstrikes the change last struck and still struck": the one struck by undo n is struck no longer
unfoldable pub unstrike : Timer → ℕ → List Mark → List Mark
unstrike t n [] = []
unstrike t n (m ∷ ms) = cond (eqb m.stroke n) (record { edit = timed t m.edit; stroke = 0 } ∷ ms) (m ∷ unstrike t n ms)

-- that one
unfoldable pub struck_by : ℕ → List Mark → List Edit
struck_by n [] = []
struck_by n (m ∷ ms) = cond (eqb m.stroke n) (m.edit ∷ []) (struck_by n ms)

-- the changes that are left
unfoldable pub left : List Mark → List Edit
left [] = []
left (m ∷ ms) = cond (eqb m.stroke 0) (m.edit ∷ left ms) (left ms)

-- the logs ever made, struck out or not
unfoldable pub logs_made : List Mark → ℕ
logs_made [] = 0
logs_made (m ∷ ms) = logs_made ms + made_of m.edit.change

-- ---- the answers

-- "while one is left, undo is accepted"
unfoldable pub undo_answer : List Edit → ℕ
undo_answer [] = 6
undo_answer (e ∷ es) = 0

-- "Redo is accepted exactly while something was struck since the last accepted change, and not yet unstruck"; since: the undos accepted before that change
unfoldable pub redo_answer : ℕ → List Mark → ℕ
redo_answer since ms = cond (ltb since (latest ms)) 0 8
