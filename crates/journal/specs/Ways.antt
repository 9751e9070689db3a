-- The two stores of a session: undo takes from the journal, which holds what was before, redo from the redo store, which holds what was after.
use Rattle.journal.specs.declared.Way.{Way}
use Rattle.journal.specs.declared.Way.TheVariants.{Before, After}

unfoldable pub by_way : {A : Type 0} → Way → A → A → A
by_way Before undo redo = undo
by_way After undo redo = redo

-- the store that it goes to
unfoldable pub other : Way → Way
other w = by_way w After Before
