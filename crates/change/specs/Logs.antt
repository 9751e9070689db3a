-- Document 01: pending logs (at most 4), by place. A place is used if its id isn't 0; used places come first.
use Rattle.std.specs.Prelude.{ℕ, suc, Bool, false, cond, not, List, [], ◌∷◌, ◌++◌, Option, None, position, get_or, take, drop, ltb, eqb}
use Rattle.record.specs.Record.{no_log}
use Rattle.record.specs.declared.Log.{Log}

-- how many pend
unfoldable pub pending_of : List Log → ℕ
pending_of [] = 0
pending_of (x ∷ l) = cond (eqb x.id 0) 0 (suc (pending_of l))

-- the first place with an id; none for id 0, which is no log's
unfoldable pub find_of : ℕ → List Log → Option ℕ
find_of i l = cond (eqb i 0) None (position (λ (x : Log). eqb x.id i) l)

-- the log at a place is taken out, those above move down; a place above 3 changes nothing
unfoldable pub remove_at : ℕ → List Log → List Log
remove_at p l = cond (ltb p 4) (take p l ++ (drop (suc p) l ++ (no_log ∷ []))) l

-- a log is put in at a place, those from there on move up
unfoldable pub insert_at : ℕ → Log → List Log → List Log
insert_at p x l = cond (ltb p 4) (take 4 (take p l ++ (x ∷ drop p l))) l

-- that very log pends at that place
unfoldable pub pends_at : ℕ → Log → List Log → Bool
pends_at p x l =
    cond (ltb 3 p) false
    (cond (eqb x.id 0) false
    (cond (not (eqb (get_or l p no_log).id x.id)) false
    (eqb (get_or l p no_log).reason x.reason)))
